-- The grammar of functions, function blocks and programs.
use Rattle.std.specs.Prelude.{◌≡◌, ℕ, List, Option, Some, None}
use Rattle.st_types.specs.declared.identifier.Identifier.{Identifier}
use Rattle.st_lex.specs.declared.token.Token.{Token}
use Rattle.st_lex.specs.declared.token.TokenKind.{TokenKind}
use Rattle.st_lex.specs.declared.token.TokenKind.TheVariants.{Keyword}
use Rattle.st_lex.specs.declared.mark.Mark.TheVariants as m
use Rattle.st_lex.specs.declared.keyword.Keyword.TheVariants as w
use Rattle.st_types.specs.declared.data_type.VariableType.{VariableType}
use Rattle.st_types.specs.declared.declaration.Retention.{Retention}
use Rattle.st_types.specs.declared.declaration.Retention.TheVariants.{Retain, NonRetain}
use Rattle.st_types.specs.declared.declaration.Section.{Section}
use Rattle.st_types.specs.declared.declaration.Section.TheVariants as sections
use Rattle.st_types.specs.declared.unit.UnitSort.TheVariants as sorts
use Rattle.st_types.specs.Initials.{Initial}
use Rattle.st_types.specs.Statements.{Stmt}
use Rattle.st_types.specs.Declarations.{Declaration, VariableBlock}
use Rattle.st_types.specs.Units.{OrganisationUnit}
use Rattle.st_parse.specs.Tokens.{Tokens, mark, keyword, name, Is, Passes}
use Rattle.st_parse.specs.Statements.{IsStmts}
use Rattle.st_parse.specs.Lists.{Many, Listed, Optional}
use Rattle.st_parse.specs.Types.{simple, IsType, IsGiven}
use Rattle.st_types.specs.declared.data_type.SimpleType.{SimpleType}

-- RETAIN or NON_RETAIN
abbrev pub retention_in : TokenKind → Option Retention
retention_in (Keyword w.Retain) = Some Retain
retention_in (Keyword w.NonRetain) = Some NonRetain
retention_in k = None

abbrev pub retention : Token → Option Retention
retention t = retention_in t.kind

-- names of one type and one initial value
pub data IsDeclaration : Tokens → Declaration → Tokens → Type 0 where
  declared :
      {ts us vs ws zs qs : Tokens} {d : Declaration} (names : List Identifier) (t : VariableType) (v : Option Initial)
      → Listed (Is name) ts names us → Passes (mark m.Colon) us vs → IsType vs t ws → Optional IsGiven ws v zs
      → Passes (mark m.Semicolon) zs qs
      → d ≡ record { names = names; declared = t; initial = v } → IsDeclaration ts d qs

-- names of one type, without an initial value
pub data IsExternal : Tokens → Declaration → Tokens → Type 0 where
  external : {ts us vs ws zs : Tokens} {d : Declaration} (names : List Identifier) (t : VariableType)
      → Listed (Is name) ts names us → Passes (mark m.Colon) us vs → IsType vs t ws → Passes (mark m.Semicolon) ws zs
      → d ≡ record { names = names; declared = t; initial = None } → IsExternal ts d zs

-- The words that a block of variables begins with: in a function,
pub data IsFunctionSection : Tokens → Section → Tokens → Type 0 where
  input : {ts us : Tokens} {s : Section} → Passes (keyword w.VarInput) ts us → s ≡ sections.Input None
      → IsFunctionSection ts s us
  own : {ts us : Tokens} {s : Section} → Passes (keyword w.Var) ts us → s ≡ sections.Local None
      → IsFunctionSection ts s us
  constant : {ts us vs : Tokens} {s : Section} → Passes (keyword w.Var) ts us → Passes (keyword w.Constant) us vs
      → s ≡ sections.Constant → IsFunctionSection ts s vs

-- in a program,
pub data IsOwnSection : Tokens → Section → Tokens → Type 0 where
  own : {ts us vs : Tokens} {s : Section} (o : Option Retention) → Passes (keyword w.Var) ts us
      → Optional (Is retention) us o vs → s ≡ sections.Local o → IsOwnSection ts s vs
  constant : {ts us vs : Tokens} {s : Section} → Passes (keyword w.Var) ts us → Passes (keyword w.Constant) us vs
      → s ≡ sections.Constant → IsOwnSection ts s vs

-- and in a function block.
pub data IsBlockSection : Tokens → Section → Tokens → Type 0 where
  input : {ts us vs : Tokens} {s : Section} (o : Option Retention) → Passes (keyword w.VarInput) ts us
      → Optional (Is retention) us o vs → s ≡ sections.Input o → IsBlockSection ts s vs
  output : {ts us vs : Tokens} {s : Section} (o : Option Retention) → Passes (keyword w.VarOutput) ts us
      → Optional (Is retention) us o vs → s ≡ sections.Output o → IsBlockSection ts s vs
  own : {ts us : Tokens} {s : Section} → IsOwnSection ts s us → IsBlockSection ts s us

pub data IsExternalSection : Tokens → Section → Tokens → Type 0 where
  variable : {ts us : Tokens} {s : Section} → Passes (keyword w.VarExternal) ts us → s ≡ sections.External
      → IsExternalSection ts s us
  constant : {ts us vs : Tokens} {s : Section} → Passes (keyword w.VarExternal) ts us
      → Passes (keyword w.Constant) us vs → s ≡ sections.ConstantExternal → IsExternalSection ts s vs

-- a block of variables that begins with this section, up to END_VAR
pub data IsBlock (IsSection : Tokens → Section → Tokens → Type 0) (IsOne : Tokens → Declaration → Tokens → Type 0) :
    Tokens → VariableBlock → Tokens → Type 0 where
  block : {ts us vs ws : Tokens} {b : VariableBlock} (s : Section) (ds : List Declaration)
      → IsSection ts s us → Many IsOne us ds vs → Passes (keyword w.EndVar) vs ws
      → b ≡ record { section = s; declarations = ds } → IsBlock IsSection IsOne ts b ws

pub data IsProgramBlock : Tokens → VariableBlock → Tokens → Type 0 where
  own : {ts us : Tokens} {b : VariableBlock} → IsBlock IsOwnSection IsDeclaration ts b us → IsProgramBlock ts b us
  external : {ts us : Tokens} {b : VariableBlock} → IsBlock IsExternalSection IsExternal ts b us
      → IsProgramBlock ts b us

pub data IsFunctionBlockBlock : Tokens → VariableBlock → Tokens → Type 0 where
  own : {ts us : Tokens} {b : VariableBlock} → IsBlock IsBlockSection IsDeclaration ts b us
      → IsFunctionBlockBlock ts b us
  external : {ts us : Tokens} {b : VariableBlock} → IsBlock IsExternalSection IsExternal ts b us
      → IsFunctionBlockBlock ts b us

pub data IsUnit : Tokens → OrganisationUnit → Tokens → Type 0 where
  function : {ts us vs ws zs qs rs ns : Tokens} {u : OrganisationUnit} (x : Identifier) (result : SimpleType)
      (blocks : List VariableBlock) (body : List Stmt)
      → Passes (keyword w.Function) ts us → Is name us x vs → Passes (mark m.Colon) vs ws → Is simple ws result zs
      → Many (IsBlock IsFunctionSection IsDeclaration) zs blocks qs → IsStmts qs body rs
      → Passes (keyword w.EndFunction) rs ns
      → u ≡ record { sort = sorts.Function result; name = x; blocks = blocks; body = body } → IsUnit ts u ns
  function_block : {ts us vs ws zs qs : Tokens} {u : OrganisationUnit} (x : Identifier) (blocks : List VariableBlock)
      (body : List Stmt)
      → Passes (keyword w.FunctionBlock) ts us → Is name us x vs → Many IsFunctionBlockBlock vs blocks ws
      → IsStmts ws body zs → Passes (keyword w.EndFunctionBlock) zs qs
      → u ≡ record { sort = sorts.FunctionBlock; name = x; blocks = blocks; body = body } → IsUnit ts u qs
  program : {ts us vs ws zs qs : Tokens} {u : OrganisationUnit} (x : Identifier) (blocks : List VariableBlock)
      (body : List Stmt)
      → Passes (keyword w.Program) ts us → Is name us x vs → Many IsProgramBlock vs blocks ws → IsStmts ws body zs
      → Passes (keyword w.EndProgram) zs qs
      → u ≡ record { sort = sorts.Program; name = x; blocks = blocks; body = body } → IsUnit ts u qs
