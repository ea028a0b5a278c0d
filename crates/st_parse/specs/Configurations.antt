-- The grammar of configurations.
use Rattle.std.specs.Prelude.{◌≡◌, ℕ, List, Option, Some, None, if◌then◌else◌}
use Rattle.st_types.specs.declared.identifier.Identifier.{Identifier}
use Rattle.st_lex.specs.declared.token.Token.{Token}
use Rattle.st_lex.specs.declared.token.TokenKind.{TokenKind}
use Rattle.st_lex.specs.declared.token.TokenKind.TheVariants as kinds
use Rattle.st_lex.specs.declared.mark.Mark.TheVariants as m
use Rattle.st_lex.specs.declared.keyword.Keyword.TheVariants as w
use Rattle.st_types.specs.declared.data_type.VariableType.{VariableType}
use Rattle.st_types.specs.declared.configuration.Address.{Address}
use Rattle.st_types.specs.declared.configuration.GlobalQualifier.{GlobalQualifier}
use Rattle.st_types.specs.declared.configuration.GlobalQualifier.TheVariants as qualifiers
use Rattle.st_types.specs.declared.configuration.Priority.{Priority}
use Rattle.st_types.specs.declared.configuration.Task.{Task}
use Rattle.st_types.specs.declared.configuration.Instance.{Instance}
use Rattle.st_types.specs.Initials.{Initial}
use Rattle.st_types.specs.Configurations.{GlobalNames, GlobalDeclaration, GlobalBlock, Resource, Configuration}
use Rattle.st_types.specs.Configurations as c
use Rattle.st_parse.specs.Tokens.{Tokens, mark, keyword, name, Is, Passes}
use Rattle.st_parse.specs.Lists.{Many, Several, Listed, Optional}
use Rattle.st_parse.specs.Types.{IsType, IsGiven}

-- CONSTANT or RETAIN after VAR_GLOBAL
abbrev pub qualifier_in : TokenKind → Option GlobalQualifier
qualifier_in (kinds.Keyword w.Constant) = Some qualifiers.Constant
qualifier_in (kinds.Keyword w.Retain) = Some qualifiers.Retain
qualifier_in k = None

abbrev pub qualifier : Token → Option GlobalQualifier
qualifier t = qualifier_in t.kind

abbrev pub address_in : TokenKind → Option Address
address_in (kinds.Address a) = Some a
address_in k = None

abbrev pub address : Token → Option Address
address t = address_in t.kind

-- a duration in milliseconds
abbrev pub duration_in : TokenKind → Option ℕ
duration_in (kinds.Duration d) = Some d
duration_in k = None

abbrev pub duration : Token → Option ℕ
duration t = duration_in t.kind

-- a number that is written as decimal digits alone
abbrev pub decimal_in : ℕ → TokenKind → Option Priority
decimal_in at (kinds.Number n) = if n.is_decimal then Some (record { place = at; number = n.magnitude }) else None
decimal_in at k = None

abbrev pub decimal : Token → Option Priority
decimal t = decimal_in t.start t.kind

pub data IsGlobalNames : Tokens → GlobalNames → Tokens → Type 0 where
  located : {ts us vs ws : Tokens} {n : GlobalNames} (x : Identifier) (a : Address) → Is name ts x us
      → Passes (keyword w.At) us vs → Is address vs a ws → n ≡ c.located x a → IsGlobalNames ts n ws
  listed : {ts us : Tokens} {n : GlobalNames} (xs : List Identifier) → Listed (Is name) ts xs us → n ≡ c.listed xs
      → IsGlobalNames ts n us

-- global names of one type and one initial value
pub data IsGlobal : Tokens → GlobalDeclaration → Tokens → Type 0 where
  global :
      {ts us vs ws zs qs : Tokens} {g : GlobalDeclaration} (names : GlobalNames) (t : VariableType) (v : Option Initial)
      → IsGlobalNames ts names us → Passes (mark m.Colon) us vs → IsType vs t ws → Optional IsGiven ws v zs
      → Passes (mark m.Semicolon) zs qs
      → g ≡ record { names = names; declared = t; initial = v } → IsGlobal ts g qs

pub data IsGlobalBlock : Tokens → GlobalBlock → Tokens → Type 0 where
  block : {ts us vs ws zs : Tokens} {b : GlobalBlock} (q : Option GlobalQualifier) (ds : List GlobalDeclaration)
      → Passes (keyword w.VarGlobal) ts us → Optional (Is qualifier) us q vs → Many IsGlobal vs ds ws
      → Passes (keyword w.EndVar) ws zs
      → b ≡ record { qualifier = q; declarations = ds } → IsGlobalBlock ts b zs

-- `SINGLE := name ,`
pub data IsSingle : Tokens → Identifier → Tokens → Type 0 where
  single : {ts us vs ws zs : Tokens} {x : Identifier} → Passes (keyword w.Single) ts us → Passes (mark m.Assign) us vs
      → Is name vs x ws → Passes (mark m.Comma) ws zs → IsSingle ts x zs

-- `INTERVAL := duration ,`
pub data IsInterval : Tokens → ℕ → Tokens → Type 0 where
  interval : {ts us vs ws zs : Tokens} {d : ℕ} → Passes (keyword w.Interval) ts us → Passes (mark m.Assign) us vs
      → Is duration vs d ws → Passes (mark m.Comma) ws zs → IsInterval ts d zs

-- a task, with its semicolon
pub data IsTask : Tokens → Task → Tokens → Type 0 where
  task : {ts us vs ws zs qs rs ns os ps ms : Tokens} {t : Task} (x : Identifier) (s : Option Identifier) (i : Option ℕ)
      (p : Priority)
      → Passes (keyword w.Task) ts us → Is name us x vs → Passes (mark m.Open) vs ws → Optional IsSingle ws s zs
      → Optional IsInterval zs i qs
      → Passes (keyword w.Priority) qs rs → Passes (mark m.Assign) rs ns → Is decimal ns p os
      → Passes (mark m.Close) os ps → Passes (mark m.Semicolon) ps ms
      → t ≡ record { name = x; single = s; interval = i; priority = p } → IsTask ts t ms

pub data IsWith : Tokens → Identifier → Tokens → Type 0 where
  runs_with : {ts us vs : Tokens} {x : Identifier} → Passes (keyword w.With) ts us → Is name us x vs → IsWith ts x vs

-- an instance of a program, with its semicolon
pub data IsInstance : Tokens → Instance → Tokens → Type 0 where
  instance_of :
      {ts us vs ws zs qs rs : Tokens} {i : Instance} (x : Identifier) (task : Option Identifier) (program : Identifier)
      → Passes (keyword w.Program) ts us → Is name us x vs → Optional IsWith vs task ws → Passes (mark m.Colon) ws zs
      → Is name zs program qs → Passes (mark m.Semicolon) qs rs
      → i ≡ record { name = x; task = task; program = program } → IsInstance ts i rs

pub data IsResource : Tokens → Resource → Tokens → Type 0 where
  resource : {ts us vs ws zs qs rs ns : Tokens} {r : Resource} (x processor : Identifier) (tasks : List Task)
      (instances : List Instance)
      → Passes (keyword w.Resource) ts us → Is name us x vs → Passes (keyword w.On) vs ws → Is name ws processor zs
      → Many IsTask zs tasks qs → Several IsInstance qs instances rs
      → Passes (keyword w.EndResource) rs ns
      → r ≡ record { name = x; processor = processor; tasks = tasks; instances = instances } → IsResource ts r ns

pub data IsConfiguration : Tokens → Configuration → Tokens → Type 0 where
  configuration : {ts us vs ws zs qs : Tokens} {k : Configuration} (x : Identifier) (globals : List GlobalBlock)
      (resources : List Resource)
      → Passes (keyword w.Configuration) ts us → Is name us x vs → Many IsGlobalBlock vs globals ws
      → Several IsResource ws resources zs → Passes (keyword w.EndConfiguration) zs qs
      → k ≡ record { name = x; globals = globals; resources = resources } → IsConfiguration ts k qs
