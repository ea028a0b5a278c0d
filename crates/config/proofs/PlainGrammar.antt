-- Of plain tokens the grammar makes plain declarations.
use Rattle.std.proofs.Common.{◌≡◌, refl, sym, ap, ◌∙◌, ℕ, Bool, true, ◌&&◌, List, ◌∷◌, length, Option, Some, arith}
use Rattle.std.specs.Prelude.{nat_lt}
use Rattle.std.specs.List.{list_all}
use Rattle.std.proofs.lemmas.Bool.{lt-ltb, and_parts, and_from}
use Rattle.st_types.specs.declared.identifier.Identifier.{Identifier}
use Rattle.st_types.specs.declared.literal.Number.{Number as NumberLeaf}
use Rattle.st_lex.specs.declared.token.Token.{Token}
use Rattle.st_lex.specs.declared.token.TokenKind.{TokenKind}
use Rattle.st_lex.specs.declared.token.TokenKind.TheVariants as kinds
use Rattle.st_types.specs.declared.data_type.ArrayType.{ArrayType}
use Rattle.st_types.specs.declared.data_type.SimpleType.{SimpleType}
use Rattle.st_types.specs.declared.data_type.SimpleType.TheVariants as simples
use Rattle.st_types.specs.declared.data_type.VariableType.{VariableType}
use Rattle.st_types.specs.declared.declaration.Section.{Section}
use Rattle.st_types.specs.Declarations.{TypeDefinition, TypeDeclaration, Declaration}
use Rattle.st_types.specs.Units.{OrganisationUnit}
use Rattle.st_types.specs.Configurations.{GlobalNames, Configuration}
use Rattle.st_types.specs.Sources.{Source}
use Rattle.st_parse.specs.Tokens.{Tokens, name_in, name, unsigned, whole_in, whole, Is, is, IsNumber, plain}
use Rattle.st_parse.specs.Tokens.{negative}
use Rattle.st_parse.specs.Lists.{Many, no_more, one_more, Several, several, AfterComma, after_comma, Listed, listed}
use Rattle.st_parse.specs.Lists.{Optional, absent, present}
use Rattle.st_parse.specs.Types.{simple_in, simple, IsArray, IsType, IsGiven, given, IsField, field, IsDefinition}
use Rattle.st_parse.specs.Types.{structure, enumeration, IsTypeDeclaration, declared, IsTypes}
use Rattle.st_parse.specs.Types as t
use Rattle.st_parse.specs.Units as u
use Rattle.st_parse.specs.Units.{IsDeclaration, IsExternal, IsFunctionSection, IsOwnSection, IsBlockSection}
use Rattle.st_parse.specs.Units.{IsExternalSection, IsBlock, IsProgramBlock, IsFunctionBlockBlock, IsUnit}
use Rattle.st_parse.specs.Configurations as c
use Rattle.st_parse.specs.Configurations.{IsGlobalNames, IsGlobal, IsGlobalBlock, IsSingle, IsInterval, IsTask, IsWith}
use Rattle.st_parse.specs.Configurations.{IsInstance, IsResource, IsConfiguration}
use Rattle.st_parse.specs.Sources as s
use Rattle.st_parse.specs.Sources.{IsLibraryElement, IsSource}
use Rattle.config.specs.PlainDeclarations.{is_plain_number, is_word, is_plain_simple, is_plain_array, is_plain_type}
use Rattle.config.specs.PlainDeclarations.{is_plain_field, is_plain_definition, is_plain_type_declaration}
use Rattle.config.specs.PlainDeclarations.{is_plain_declaration, is_plain_block, is_plain_unit, are_words}
use Rattle.config.specs.PlainDeclarations.{is_plain_global, is_plain_globals, is_plain_instance, is_plain_resource}
use Rattle.config.specs.PlainDeclarations.{is_plain_configuration, is_plain_element, is_plain}
use Rattle.config.specs.Texts.{IsTextOf}
use Rattle.config.proofs.PlainTokens.{is_plain_kind, is_plain_token, tokens_plain}
use Rattle.config.proofs.PlainRest.{ArePlain, token_rest, initial_rest, stmts_rest}

-- The part that was read passes, and the rest after it is plain.
abbrev pub Gives : Bool → Tokens → Type 0
Gives b us = (b ≡ true) × ArePlain us

-- A part that is read of plain tokens passes.
abbrev pub Passing : {A : Type 0} → (Tokens → A → Tokens → Type 0) → (A → Bool) → Type 0
Passing {A} One p = (ts : Tokens) (x : A) (us : Tokens) → One ts x us → ArePlain ts → Gives (p x) us

abbrev pub anything : {A : Type 0} → A → Bool
anything x = true

pub many_plain : {A : Type 0} {One : Tokens → A → Tokens → Type 0} (p : A → Bool) → Passing One p → {ts us : Tokens}
    {xs : List A} → Many One ts xs us → ArePlain ts → Gives (list_all p xs) us
many_plain p passing no_more h = (refl, h)
many_plain p passing (one_more {ts} {us} {vs} {x} {xs} o r) h =
    let a = passing ts x us o h in
    let b = many_plain p passing r a.1 in
    (and_from (p x) (list_all p xs) a.0 b.0, b.1)

several_plain : {A : Type 0} {One : Tokens → A → Tokens → Type 0} (p : A → Bool) → Passing One p → {ts us : Tokens}
    {xs : List A} → Several One ts xs us → ArePlain ts → Gives (list_all p xs) us
several_plain p passing (several {ts} {us} {vs} {x} {xs} o r) h =
    let a = passing ts x us o h in
    let b = many_plain p passing r a.1 in
    (and_from (p x) (list_all p xs) a.0 b.0, b.1)

comma_plain : {A : Type 0} {One : Tokens → A → Tokens → Type 0} (p : A → Bool) → Passing One p
    → Passing (AfterComma One) p
comma_plain p passing rs y ws (after_comma {ts} {us} {vs} {x} c o) h = passing us x vs o (token_rest c.1 h)

listed_plain : {A : Type 0} {One : Tokens → A → Tokens → Type 0} (p : A → Bool) → Passing One p → {ts us : Tokens}
    {xs : List A} → Listed One ts xs us → ArePlain ts → Gives (nat_lt 0 (length xs) && list_all p xs) us
listed_plain p passing (listed {ts} {us} {vs} {x} {xs} o r) h =
    let a = passing ts x us o h in
    let b = many_plain p (comma_plain p passing) r a.1 in (
      and_from (nat_lt 0 (length (x ∷ xs))) (list_all p (x ∷ xs)) (lt-ltb 0 (length (x ∷ xs)) (omega arith))
          (and_from (p x) (list_all p xs) a.0 b.0),
      b.1,
    )

optional_rest : {A : Type 0} {One : Tokens → A → Tokens → Type 0} → Passing One anything → {ts us : Tokens}
    {o : Option A} → Optional One ts o us → ArePlain ts → ArePlain us
optional_rest passing absent h = h
optional_rest passing (present {ts} {us} {x} o) h = (passing ts x us o h).1

one_token : {A : Type 0} (of : Token → Option A) → Passing (Is of) anything
one_token of ts x us i h = (refl, token_rest i h)

first_plain : (t : Token) (ts : Tokens) → ArePlain (t ∷ ts) → is_plain_kind t.kind ≡ true
first_plain t ts h = (and_parts (is_plain_kind t.kind) (list_all is_plain_token ts) h).0

-- names
name_plain_in : (k : TokenKind) (at : ℕ) (x : Identifier) → name_in at k ≡ Some x → is_plain_kind k ≡ true
    → is_word x ≡ true
name_plain_in (kinds.Name y) at x e h =
    let s : (let n : Identifier = record { name = y; place = at } in n ≡ x) = cc in ap is_word (sym s) ∙ h
name_plain_in (kinds.Elementary k) at x e h = absurd (cc)
name_plain_in (kinds.Keyword k) at x e h = absurd (cc)
name_plain_in (kinds.Mark k) at x e h = absurd (cc)
name_plain_in (kinds.Number k) at x e h = absurd (cc)
name_plain_in (kinds.Truth k) at x e h = absurd (cc)
name_plain_in (kinds.Duration k) at x e h = absurd (cc)
name_plain_in (kinds.Address k) at x e h = absurd (cc)
name_plain_in (kinds.Enumerated k l) at x e h = absurd (cc)

pub name_plain : Passing (Is name) is_word
name_plain rs x vs (is {t = t} {us = us} e) h =
    (name_plain_in t.kind t.start x e (first_plain t us h), (and_parts (is_plain_token t) (list_all is_plain_token us) h).1)

names_plain : {ts us : Tokens} {xs : List Identifier} → Listed (Is name) ts xs us → ArePlain ts
    → Gives (list_all is_word xs) us
names_plain {xs = xs} l h =
    let a = listed_plain is_word name_plain l h in
    ((and_parts (nat_lt 0 (length xs)) (list_all is_word xs) a.0).1, a.1)

-- numbers
whole_plain_in : (k : TokenKind) (at : ℕ) (n : NumberLeaf) → whole_in at k ≡ Some n → is_plain_kind k ≡ true
    → is_plain_number n ≡ true
whole_plain_in (kinds.Number w) at n e h =
    let s : unsigned at w ≡ n = cc in ap is_plain_number (sym s) ∙ h
whole_plain_in (kinds.Name y) at n e h = absurd (cc)
whole_plain_in (kinds.Elementary k) at n e h = absurd (cc)
whole_plain_in (kinds.Keyword k) at n e h = absurd (cc)
whole_plain_in (kinds.Mark k) at n e h = absurd (cc)
whole_plain_in (kinds.Truth k) at n e h = absurd (cc)
whole_plain_in (kinds.Duration k) at n e h = absurd (cc)
whole_plain_in (kinds.Address k) at n e h = absurd (cc)
whole_plain_in (kinds.Enumerated k l) at n e h = absurd (cc)

whole_plain : {ts us : Tokens} {n : NumberLeaf} → Is whole ts n us → ArePlain ts → Gives (is_plain_number n) us
whole_plain {n = n} (is {t = t} {us = us} e) h =
    (whole_plain_in t.kind t.start n e (first_plain t us h), (and_parts (is_plain_token t) (list_all is_plain_token us) h).1)

pub number_plain : {ts us : Tokens} {n : NumberLeaf} → IsNumber ts n us → ArePlain ts → Gives (is_plain_number n) us
number_plain (plain p) h = whole_plain p h
number_plain (negative at k p q eq) h =
    let a = whole_plain q (token_rest p h) in
    (ap is_plain_number eq ∙ a.0, a.1)

-- types
simple_plain_in : (k : TokenKind) (at : ℕ) (x : SimpleType) → simple_in at k ≡ Some x → is_plain_kind k ≡ true
    → is_plain_simple x ≡ true
simple_plain_in (kinds.Elementary k) at x e h =
    let s : simples.Elementary k at ≡ x = cc in ap is_plain_simple (sym s) ∙ h
simple_plain_in (kinds.Name y) at x e h =
    let s : simples.Named (record { name = y; place = at }) ≡ x = cc in ap is_plain_simple (sym s)
simple_plain_in (kinds.Keyword k) at x e h = absurd (cc)
simple_plain_in (kinds.Mark k) at x e h = absurd (cc)
simple_plain_in (kinds.Number k) at x e h = absurd (cc)
simple_plain_in (kinds.Truth k) at x e h = absurd (cc)
simple_plain_in (kinds.Duration k) at x e h = absurd (cc)
simple_plain_in (kinds.Address k) at x e h = absurd (cc)
simple_plain_in (kinds.Enumerated k l) at x e h = absurd (cc)

simple_plain : {ts us : Tokens} {x : SimpleType} → Is simple ts x us → ArePlain ts → Gives (is_plain_simple x) us
simple_plain {x = x} (is {t = t} {us = us} e) h = (
  simple_plain_in t.kind t.start x e (first_plain t us h),
  (and_parts (is_plain_token t) (list_all is_plain_token us) h).1,
)

array_plain : {ts us : Tokens} {a : ArrayType} → IsArray ts a us → ArePlain ts → Gives (is_plain_array a) us
array_plain (t.array at lower upper element i b n r m e o p eq) h =
    let l = number_plain n (token_rest b.1 (token_rest i h)) in
    let k = number_plain m (token_rest r.1 l.1) in
    let s = simple_plain p (token_rest o.1 (token_rest e.1 k.1)) in (
      ap is_plain_array eq ∙ and_from (is_plain_number lower && is_plain_number upper) (is_plain_simple element)
          (and_from (is_plain_number lower) (is_plain_number upper) l.0 k.0) s.0,
      s.1,
    )

type_plain : {ts us : Tokens} {y : VariableType} → IsType ts y us → ArePlain ts → Gives (is_plain_type y) us
type_plain (t.plain x i eq) h = let s = simple_plain i h in (ap is_plain_type eq ∙ s.0, s.1)
type_plain (t.array a i eq) h = let s = array_plain i h in (ap is_plain_type eq ∙ s.0, s.1)

given_plain : Passing IsGiven anything
given_plain rs v vs (given a i) h = (refl, initial_rest i (token_rest a.1 h))

field_plain : Passing IsField is_plain_field
field_plain rs f vs (field x y v n c ty g z eq) h =
    let a = name_plain _ x _ n h in
    let b = type_plain ty (token_rest c.1 a.1) in (
      ap is_plain_field eq ∙ and_from (is_word x) (is_plain_type y) a.0 b.0,
      token_rest z.1 (optional_rest given_plain g b.1),
    )

definition_plain : {ts us : Tokens} {d : TypeDefinition} → IsDefinition ts d us → ArePlain ts
    → Gives (is_plain_definition d) us
definition_plain (t.array a i eq) h = let s = array_plain i h in (ap is_plain_definition eq ∙ s.0, s.1)
definition_plain (structure fs o i z eq) h =
    let a = several_plain is_plain_field field_plain i (token_rest o.1 h) in
    (ap is_plain_definition eq ∙ a.0, token_rest z.1 a.1)
definition_plain (enumeration xs o i z eq) h =
    let a = listed_plain is_word name_plain i (token_rest o.1 h) in
    (ap is_plain_definition eq ∙ a.0, token_rest z.1 a.1)

type_declaration_plain : Passing IsTypeDeclaration is_plain_type_declaration
type_declaration_plain rs d vs (declared x y n c i z eq) h =
    let a = name_plain _ x _ n h in
    let b = definition_plain i (token_rest c.1 a.1) in
    (ap is_plain_type_declaration eq ∙ and_from (is_word x) (is_plain_definition y) a.0 b.0, token_rest z.1 b.1)

types_plain : {ts us : Tokens} {xs : List TypeDeclaration} → IsTypes ts xs us → ArePlain ts
    → Gives (list_all is_plain_type_declaration xs) us
types_plain (t.block b i z) h =
    let a = several_plain is_plain_type_declaration type_declaration_plain i (token_rest b.1 h) in
    (a.0, token_rest z.1 a.1)

-- variables
pub declaration_plain : Passing IsDeclaration is_plain_declaration
declaration_plain rs d vs (u.declared xs y v n c ty g z eq) h =
    let a = names_plain n h in
    let b = type_plain ty (token_rest c.1 a.1) in (
      ap is_plain_declaration eq ∙ and_from (list_all is_word xs) (is_plain_type y) a.0 b.0,
      token_rest z.1 (optional_rest given_plain g b.1),
    )

external_plain : Passing IsExternal is_plain_declaration
external_plain rs d vs (u.external xs y n c ty z eq) h =
    let a = names_plain n h in
    let b = type_plain ty (token_rest c.1 a.1) in
    (ap is_plain_declaration eq ∙ and_from (list_all is_word xs) (is_plain_type y) a.0 b.0, token_rest z.1 b.1)

pub function_section_plain : Passing IsFunctionSection anything
function_section_plain rs s vs (u.input i eq) h = (refl, token_rest i.1 h)
function_section_plain rs s vs (u.own i eq) h = (refl, token_rest i.1 h)
function_section_plain rs s vs (u.constant i k eq) h = (refl, token_rest k.1 (token_rest i.1 h))

own_section_plain : Passing IsOwnSection anything
own_section_plain rs s vs (u.own o i k eq) h =
    (refl, optional_rest (one_token u.retention) k (token_rest i.1 h))
own_section_plain rs s vs (u.constant i k eq) h = (refl, token_rest k.1 (token_rest i.1 h))

block_section_plain : Passing IsBlockSection anything
block_section_plain rs s vs (u.input o i k eq) h =
    (refl, optional_rest (one_token u.retention) k (token_rest i.1 h))
block_section_plain rs s vs (u.output o i k eq) h =
    (refl, optional_rest (one_token u.retention) k (token_rest i.1 h))
block_section_plain rs s vs (u.own i) h = own_section_plain rs s vs i h

external_section_plain : Passing IsExternalSection anything
external_section_plain rs s vs (u.variable i eq) h = (refl, token_rest i.1 h)
external_section_plain rs s vs (u.constant i k eq) h = (refl, token_rest k.1 (token_rest i.1 h))

pub block_plain : (IsSection : Tokens → Section → Tokens → Type 0) (IsOne : Tokens → Declaration → Tokens → Type 0)
    → Passing IsSection anything → Passing IsOne is_plain_declaration → Passing (IsBlock IsSection IsOne) is_plain_block
block_plain IsSection IsOne section one rs b vs (u.block {ts} {us} s ds i m z eq) h =
    let a = many_plain is_plain_declaration one m (section ts s us i h).1 in
    (ap is_plain_block eq ∙ a.0, token_rest z.1 a.1)

pub program_block_plain : Passing IsProgramBlock is_plain_block
program_block_plain rs b vs (u.own i) =
    block_plain IsOwnSection IsDeclaration own_section_plain declaration_plain rs b vs i
program_block_plain rs b vs (u.external i) =
    block_plain IsExternalSection IsExternal external_section_plain external_plain rs b vs i

pub variable_block_plain : Passing IsFunctionBlockBlock is_plain_block
variable_block_plain rs b vs (u.own i) =
    block_plain IsBlockSection IsDeclaration block_section_plain declaration_plain rs b vs i
variable_block_plain rs b vs (u.external i) =
    block_plain IsExternalSection IsExternal external_section_plain external_plain rs b vs i

unit_plain : {ts us : Tokens} {x : OrganisationUnit} → IsUnit ts x us → ArePlain ts → Gives (is_plain_unit x) us
unit_plain (u.function x r bs body k n c e m i f eq) h =
    let a = name_plain _ x _ n (token_rest k.1 h) in
    let b = many_plain is_plain_block (block_plain IsFunctionSection IsDeclaration function_section_plain
    declaration_plain) m (token_rest e (token_rest c.1 a.1)) in (
      ap is_plain_unit eq ∙ and_from (is_word x) (list_all is_plain_block bs) a.0 b.0,
      token_rest f.1 (stmts_rest i b.1),
    )
unit_plain (u.function_block x bs body k n m i f eq) h =
    let a = name_plain _ x _ n (token_rest k.1 h) in
    let b = many_plain is_plain_block variable_block_plain m a.1 in (
      ap is_plain_unit eq ∙ and_from (is_word x) (list_all is_plain_block bs) a.0 b.0,
      token_rest f.1 (stmts_rest i b.1),
    )
unit_plain (u.program x bs body k n m i f eq) h =
    let a = name_plain _ x _ n (token_rest k.1 h) in
    let b = many_plain is_plain_block program_block_plain m a.1 in (
      ap is_plain_unit eq ∙ and_from (is_word x) (list_all is_plain_block bs) a.0 b.0,
      token_rest f.1 (stmts_rest i b.1),
    )

-- configurations
global_names_plain : {ts us : Tokens} {n : GlobalNames} → IsGlobalNames ts n us → ArePlain ts → Gives (are_words n) us
global_names_plain (c.located x a n k i eq) h =
    let b = name_plain _ x _ n h in
    (ap are_words eq ∙ b.0, token_rest i (token_rest k.1 b.1))
global_names_plain (c.listed xs i eq) h = let a = names_plain i h in (ap are_words eq ∙ a.0, a.1)

global_plain : Passing IsGlobal is_plain_global
global_plain rs g vs (c.global names y v n k ty o z eq) h =
    let a = global_names_plain n h in
    let b = type_plain ty (token_rest k.1 a.1) in (
      ap is_plain_global eq ∙ and_from (are_words names) (is_plain_type y) a.0 b.0,
      token_rest z.1 (optional_rest given_plain o b.1),
    )

global_block_plain : Passing IsGlobalBlock is_plain_globals
global_block_plain rs b vs (c.block q ds k o m z eq) h =
    let a = many_plain is_plain_global global_plain m (optional_rest (one_token c.qualifier) o (token_rest k.1 h)) in
    (ap is_plain_globals eq ∙ a.0, token_rest z.1 a.1)

single_plain : Passing IsSingle anything
single_plain rs x vs (c.single k a n o) h = (refl, token_rest o.1 (token_rest n (token_rest a.1 (token_rest k.1 h))))

interval_plain : Passing IsInterval anything
interval_plain rs d vs (c.interval k a n o) h =
    (refl, token_rest o.1 (token_rest n (token_rest a.1 (token_rest k.1 h))))

task_plain : Passing IsTask anything
task_plain rs y vs (c.task x s i p k n o a b r w d e z eq) h =
    let f = optional_rest single_plain a (token_rest o.1 (token_rest n (token_rest k.1 h))) in
    let g = token_rest w.1 (token_rest r.1 (optional_rest interval_plain b f)) in
    (refl, token_rest z.1 (token_rest e.1 (token_rest d g)))

with_plain : Passing IsWith anything
with_plain rs x vs (c.runs_with k n) h = (refl, token_rest n (token_rest k.1 h))

instance_plain : Passing IsInstance is_plain_instance
instance_plain rs y vs (c.instance_of x task program k n w o p s eq) h =
    let a = name_plain _ x _ n (token_rest k.1 h) in (
      ap is_plain_instance eq ∙ a.0,
      token_rest s.1 (token_rest p (token_rest o.1 (optional_rest with_plain w a.1))),
    )

resource_plain : Passing IsResource is_plain_resource
resource_plain rs r vs (c.resource x y tasks instances k n o p m i e eq) h =
    let a = name_plain _ x _ n (token_rest k.1 h) in
    let b = many_plain anything task_plain m (token_rest p (token_rest o.1 a.1)) in
    let d = several_plain is_plain_instance instance_plain i b.1 in
    (ap is_plain_resource eq ∙ and_from (is_word x) (list_all is_plain_instance instances) a.0 d.0, token_rest e.1 d.1)

configuration_plain : {ts us : Tokens} {x : Configuration} → IsConfiguration ts x us → ArePlain ts
    → Gives (is_plain_configuration x) us
configuration_plain (c.configuration x gs rs k n m i e eq) h =
    let a = token_rest n (token_rest k.1 h) in
    let b = many_plain is_plain_globals global_block_plain m a in
    let d = several_plain is_plain_resource resource_plain i b.1 in (
      ap is_plain_configuration eq ∙ and_from (list_all is_plain_globals gs) (list_all is_plain_resource rs) b.0 d.0,
      token_rest e.1 d.1,
    )

pub element_plain : Passing IsLibraryElement is_plain_element
element_plain rs x vs (s.types xs i eq) h = let a = types_plain i h in (ap is_plain_element eq ∙ a.0, a.1)
element_plain rs x vs (s.unit v i eq) h = let a = unit_plain i h in (ap is_plain_element eq ∙ a.0, a.1)
element_plain rs x vs (s.configuration k i eq) h =
    let a = configuration_plain i h in (ap is_plain_element eq ∙ a.0, a.1)

-- the part that is read of plain tokens is plain, so the tree of each text is
source_plain : (ts : Tokens) (source : Source) → IsSource ts source → ArePlain ts → is_plain source ≡ true
source_plain ts source i h = (many_plain is_plain_element element_plain i h).0

pub plain_text : (text : List ℕ) (source : Source) → IsTextOf text source → is_plain source ≡ true
plain_text text source h = source_plain h.tokens source h.parsed (tokens_plain h.spelled.spells)
