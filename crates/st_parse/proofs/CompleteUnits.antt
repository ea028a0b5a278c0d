-- A function, a function block or a program is read.
use Rattle.std.proofs.Common.{◌≡◌, ℕ, ◌<◌, ◌≤◌, Bool, true, false, List, [], ◌∷◌, length, Option, Some, Ok, refl, subst}
use Rattle.std.proofs.Common.{◌∙◌}
use Rattle.std.specs.List.{AllByRecursion}
use Rattle.st_types.specs.declared.identifier.Identifier.{Identifier}
use Rattle.st_lex.specs.declared.token.TokenKind.{TokenKind}
use Rattle.st_lex.specs.declared.token.TokenKind.TheVariants.{Name, Keyword, Mark}
use Rattle.st_lex.specs.declared.mark.Mark.TheVariants as m
use Rattle.st_lex.specs.declared.keyword.Keyword.{Keyword as KeywordType}
use Rattle.st_lex.specs.declared.keyword.Keyword.TheVariants as w
use Rattle.st_types.specs.declared.declaration.Retention.{Retention}
use Rattle.st_types.specs.declared.declaration.Section.{Section}
use Rattle.st_types.specs.Statements.{Stmt, stmts_of}
use Rattle.st_types.specs.Declarations.{Declaration, VariableBlock}
use Rattle.st_types.specs.Units.{OrganisationUnit}
use Rattle.st_types.specs.Depths.{deepest_stmt}
use Rattle.st_parse.specs.Tokens.{Tokens, next, Is, is, mark, keyword, name, is_mark, is_keyword, is_name, Passes}
use Rattle.st_parse.specs.Tokens.{same_mark, same_keyword}
use Rattle.st_parse.specs.Parsers.{Parser, one}
use Rattle.st_parse.specs.Statements.{IsStmts, no_stmt, stmt}
use Rattle.st_parse.specs.StatementReading.{stmts_at, starts_stmt}
use Rattle.st_parse.proofs.Complete.{one_complete, mark_head, keyword_head, name_head}
use Rattle.st_parse.proofs.CompleteStatements.{all_complete, stmt_next, colon_no_comma}
use Rattle.st_parse.specs.Lists.{Many, no_more, one_more, Listed, listed as with_commas, Optional, absent, present}
use Rattle.st_parse.specs.Units.{retention, retention_in, IsDeclaration, IsExternal, IsFunctionSection}
use Rattle.st_parse.specs.Units.{IsOwnSection, IsBlockSection, IsExternalSection, IsBlock, IsProgramBlock}
use Rattle.st_parse.specs.Units.{IsFunctionBlockBlock, IsUnit}
use Rattle.st_parse.specs.Units as u
use Rattle.st_parse.specs.Depths.{ValueWithin, DeclarationWithin, BlockWithin, UnitWithin}
use Rattle.st_parse.specs.UnitReading.{is_retention, names_at, declaration_at, external_at, retention_or_not}
use Rattle.st_parse.specs.UnitReading.{constant_of, function_own_at, function_input_at, function_section_at, local_at}
use Rattle.st_parse.specs.UnitReading.{own_section_at, input_section_at, output_section_at, block_section_at}
use Rattle.st_parse.specs.UnitReading.{external_section_at, block_at, function_block_at, external_block_at}
use Rattle.st_parse.specs.UnitReading.{program_block_at, variable_block_at, starts_function_section}
use Rattle.st_parse.specs.UnitReading.{starts_program_section, starts_block_section, function_at}
use Rattle.st_parse.specs.UnitReading.{function_block_unit_at, program_at}
use Rattle.st_parse.proofs.CompleteParts.{many_complete, optional_none, optional_some, names_complete}
use Rattle.st_parse.proofs.CompleteTypes.{type_complete, given_or_not_complete}
use Rattle.st_parse.proofs.Shorter.{declaration_less, external_less, function_block_less, program_block_less}
use Rattle.st_parse.proofs.Shorter.{variable_block_less}

-- ---- what comes next

-- a name, and then the end of the block
pub record Named (ts : Tokens) : Type 0 where
  pub head : (f : TokenKind → Bool) → ((x : List ℕ) → f (Name x) ≡ false) → f (Keyword w.EndVar) ≡ false
      → next f ts ≡ false

names_head : {ts us : Tokens} {xs : List Identifier} → Listed (Is name) ts xs us
    → (x : List ℕ) × ((f : TokenKind → Bool) → next f ts ≡ f (Name x))
names_head (with_commas {ts} {us} {vs} {x} n r) = (x.name, λ f. name_head f n)

declaration_named : {ts us : Tokens} {d : Declaration} → IsDeclaration ts d us
    → (x : List ℕ) × ((f : TokenKind → Bool) → next f ts ≡ f (Name x))
declaration_named (u.declared xs t v n c i g s q) = names_head n

external_named : {ts us : Tokens} {d : Declaration} → IsExternal ts d us
    → (x : List ℕ) × ((f : TokenKind → Bool) → next f ts ≡ f (Name x))
external_named (u.external xs t n c i s q) = names_head n

module _ (IsOne : Tokens → Declaration → Tokens → Type 0) (named : (ts : Tokens) (d : Declaration) (us : Tokens)
    → IsOne ts d us → (x : List ℕ) × ((f : TokenKind → Bool) → next f ts ≡ f (Name x))) where
  declarations_named : {ts us vs : Tokens} {ds : List Declaration} → Many IsOne ts ds us
      → Passes (keyword w.EndVar) us vs → Named ts
  declarations_named no_more e = record { head = λ f names end. keyword_head w.EndVar f e.1 ∙ end }
  declarations_named (one_more {ts} {us} {vs} {x} o r) e =
      record { head = λ f names end. (named ts x us o).1 f ∙ names (named ts x us o).0 }

constant_misses : {ts : Tokens} → Named ts → next (is_keyword w.Constant) ts ≡ false
unfolding same_keyword
constant_misses n = n.head (is_keyword w.Constant) (λ x. refl) refl

retention_misses : {ts : Tokens} → Named ts → next is_retention ts ≡ false
unfolding same_keyword
retention_misses n = n.head is_retention (λ x. refl) refl

-- ---- words of a block

retention_kind : (k : TokenKind) (o : Retention) → retention_in k ≡ Some o
    → (is_retention k ≡ true) × (is_keyword w.Constant k ≡ false)
unfolding same_keyword
retention_kind (Keyword w.Retain) o eq = (refl, refl)
retention_kind (Keyword w.NonRetain) o eq = (refl, refl)
retention_kind _ o eq = absurd cc

retention_head : {ts us : Tokens} {o : Retention} → Is retention ts o us
    → (next is_retention ts ≡ true) × (next (is_keyword w.Constant) ts ≡ false)
retention_head {o = o} (is {t} eq) = retention_kind t.kind o eq

retention_complete : {ts us : Tokens} {o : Option Retention} → Optional (Is retention) ts o us → Named us
    → retention_or_not ts ≡ Ok (o, us)
unfolding retention_or_not
retention_complete (absent {ts}) n = optional_none is_retention (one retention) ts (retention_misses n)
retention_complete (present i) n = optional_some is_retention (one retention) (retention_head i).0 (one_complete i)

no_constant : {ts us : Tokens} {o : Option Retention} → Optional (Is retention) ts o us → Named us
    → next (is_keyword w.Constant) ts ≡ false
no_constant absent n = constant_misses n
no_constant (present i) n = (retention_head i).1

constant_head : {ts us : Tokens} → Passes (keyword w.Constant) ts us → next (is_keyword w.Constant) ts ≡ true
unfolding same_keyword
constant_head k = keyword_head w.Constant (is_keyword w.Constant) k.1

var_head : {ts us : Tokens} → Passes (keyword w.Var) ts us → (next (is_keyword w.VarInput) ts ≡ false)
    × (next (is_keyword w.VarOutput) ts ≡ false) × (next (is_keyword w.VarExternal) ts ≡ false)
unfolding same_keyword
var_head k = (
  keyword_head w.Var (is_keyword w.VarInput) k.1,
  keyword_head w.Var (is_keyword w.VarOutput) k.1,
  keyword_head w.Var (is_keyword w.VarExternal) k.1,
)

input_head : {ts us : Tokens} → Passes (keyword w.VarInput) ts us
    → (next (is_keyword w.VarInput) ts ≡ true) × (next (is_keyword w.VarExternal) ts ≡ false)
unfolding same_keyword
input_head k =
    (keyword_head w.VarInput (is_keyword w.VarInput) k.1, keyword_head w.VarInput (is_keyword w.VarExternal) k.1)

output_head : {ts us : Tokens} → Passes (keyword w.VarOutput) ts us → (next (is_keyword w.VarInput) ts ≡ false)
    × (next (is_keyword w.VarOutput) ts ≡ true) × (next (is_keyword w.VarExternal) ts ≡ false)
unfolding same_keyword
output_head k = (
  keyword_head w.VarOutput (is_keyword w.VarInput) k.1,
  keyword_head w.VarOutput (is_keyword w.VarOutput) k.1,
  keyword_head w.VarOutput (is_keyword w.VarExternal) k.1,
)

external_head : {ts us : Tokens} → Passes (keyword w.VarExternal) ts us → next (is_keyword w.VarExternal) ts ≡ true
unfolding same_keyword
external_head k = keyword_head w.VarExternal (is_keyword w.VarExternal) k.1

function_section_complete : {ts us : Tokens} {s : Section} → IsFunctionSection ts s us → Named us
    → function_section_at ts ≡ Ok (s, us)
unfolding function_section_at function_input_at function_own_at constant_of
function_section_complete (u.input i q) n = rw ((input_head i).0, one_complete i.1, q) refl
function_section_complete (u.own i q) n = rw ((var_head i).0, one_complete i.1, constant_misses n, q) refl
function_section_complete (u.constant i k q) n =
    rw ((var_head i).0, one_complete i.1, constant_head k, one_complete k.1, q) refl

own_section_complete : {ts us : Tokens} {s : Section} → IsOwnSection ts s us → Named us → own_section_at ts ≡ Ok (s, us)
unfolding own_section_at local_at constant_of
own_section_complete (u.own o i k q) n = rw (one_complete i.1, no_constant k n, retention_complete k n, q) refl
own_section_complete (u.constant i k q) n = rw (one_complete i.1, constant_head k, one_complete k.1, q) refl

own_heads : {ts us : Tokens} {s : Section} → IsOwnSection ts s us → (next (is_keyword w.VarInput) ts ≡ false)
    × (next (is_keyword w.VarOutput) ts ≡ false) × (next (is_keyword w.VarExternal) ts ≡ false)
own_heads (u.own o i k q) = var_head i
own_heads (u.constant i k q) = var_head i

block_section_complete : {ts us : Tokens} {s : Section} → IsBlockSection ts s us → Named us
    → block_section_at ts ≡ Ok (s, us)
unfolding block_section_at input_section_at output_section_at
block_section_complete (u.input o i k q) n = rw ((input_head i).0, one_complete i.1, retention_complete k n, q) refl
block_section_complete (u.output o i k q) n =
    rw ((output_head i).0, (output_head i).1, one_complete i.1, retention_complete k n, q) refl
block_section_complete (u.own i) n = rw ((own_heads i).0, (own_heads i).1) (own_section_complete i n)

block_heads : {ts us : Tokens} {s : Section} → IsBlockSection ts s us → next (is_keyword w.VarExternal) ts ≡ false
block_heads (u.input o i k q) = (input_head i).1
block_heads (u.output o i k q) = (output_head i).2
block_heads (u.own i) = (own_heads i).2

external_section_complete : {ts us : Tokens} {s : Section} → IsExternalSection ts s us → Named us
    → external_section_at ts ≡ Ok (s, us)
unfolding external_section_at constant_of
external_section_complete (u.variable i q) n = rw (one_complete i.1, constant_misses n, q) refl
external_section_complete (u.constant i k q) n = rw (one_complete i.1, constant_head k, one_complete k.1, q) refl

external_heads : {ts us : Tokens} {s : Section} → IsExternalSection ts s us → next (is_keyword w.VarExternal) ts ≡ true
external_heads (u.variable i q) = external_head i
external_heads (u.constant i k q) = external_head i

pub names_at_complete : {ts us vs : Tokens} {xs : List Identifier} → Listed (Is name) ts xs us
    → Passes (mark m.Colon) us vs → names_at ts ≡ Ok (xs, us)
unfolding names_at
names_at_complete n c = names_complete n (colon_no_comma c)

-- the first word of a block
section_first : {ts us : Tokens} {s : Section} → IsFunctionSection ts s us → next starts_function_section ts ≡ true
unfolding same_keyword
section_first (u.input i q) = keyword_head w.VarInput starts_function_section i.1
section_first (u.own i q) = keyword_head w.Var starts_function_section i.1
section_first (u.constant i k q) = keyword_head w.Var starts_function_section i.1

own_first : {ts us : Tokens} {s : Section} → IsOwnSection ts s us
    → (next starts_program_section ts ≡ true) × (next starts_block_section ts ≡ true)
unfolding same_keyword
own_first (u.own o i k q) = (keyword_head w.Var starts_program_section i.1, keyword_head w.Var starts_block_section i.1)
own_first (u.constant i k q) =
    (keyword_head w.Var starts_program_section i.1, keyword_head w.Var starts_block_section i.1)

block_first : {ts us : Tokens} {s : Section} → IsBlockSection ts s us → next starts_block_section ts ≡ true
unfolding same_keyword
block_first (u.input o i k q) = keyword_head w.VarInput starts_block_section i.1
block_first (u.output o i k q) = keyword_head w.VarOutput starts_block_section i.1
block_first (u.own i) = (own_first i).1

external_first : {ts us : Tokens} {s : Section} → IsExternalSection ts s us
    → (next starts_program_section ts ≡ true) × (next starts_block_section ts ≡ true)
unfolding same_keyword
external_first (u.variable i q) =
    (keyword_head w.VarExternal starts_program_section i.1, keyword_head w.VarExternal starts_block_section i.1)
external_first (u.constant i k q) =
    (keyword_head w.VarExternal starts_program_section i.1, keyword_head w.VarExternal starts_block_section i.1)

-- ---- a body

-- no kind of token begins both a statement and a block
starts_stmt_alone : (k : TokenKind) → starts_stmt k ≡ true
    → (starts_function_section k ≡ false) × (starts_program_section k ≡ false) × (starts_block_section k ≡ false)
unfolding same_keyword
starts_stmt_alone (Name x) eq = (refl, refl, refl)
starts_stmt_alone (Mark m.Semicolon) eq = (refl, refl, refl)
starts_stmt_alone (Keyword w.If) eq = (refl, refl, refl)
starts_stmt_alone (Keyword w.Case) eq = (refl, refl, refl)
starts_stmt_alone (Keyword w.For) eq = (refl, refl, refl)
starts_stmt_alone (Keyword w.While) eq = (refl, refl, refl)
starts_stmt_alone (Keyword w.Repeat) eq = (refl, refl, refl)
starts_stmt_alone (Keyword w.Exit) eq = (refl, refl, refl)
starts_stmt_alone (Keyword w.Return) eq = (refl, refl, refl)
starts_stmt_alone _ eq = absurd cc

starts_alone : (ts : Tokens) → next starts_stmt ts ≡ true → (next starts_function_section ts ≡ false)
    × (next starts_program_section ts ≡ false) × (next starts_block_section ts ≡ false)
starts_alone [] eq = absurd cc
starts_alone (t ∷ ts) eq = starts_stmt_alone t.kind eq

module _ (depth : ℕ) where
  declaration_complete : {ts us : Tokens} {d : Declaration} → IsDeclaration ts d us → DeclarationWithin depth d
      → declaration_at depth ts ≡ Ok (d, us)
  unfolding declaration_at
  declaration_complete (u.declared xs t v n c i g s q) low =
      let low' : ValueWithin depth v = subst (λ (z : Declaration). DeclarationWithin depth z) q low in
      rw (
        names_at_complete n c,
        one_complete c.1,
        type_complete i,
        given_or_not_complete depth g s low',
        one_complete s.1,
        q,
      ) refl

  external_complete : {ts us : Tokens} {d : Declaration} → IsExternal ts d us → DeclarationWithin depth d
      → external_at ts ≡ Ok (d, us)
  unfolding external_at
  external_complete (u.external xs t n c i s q) low =
      rw (names_at_complete n c, one_complete c.1, type_complete i, one_complete s.1, q) refl

  named_name : {ts us : Tokens} {d : Declaration} → IsDeclaration ts d us → next is_name ts ≡ true
  named_name o = (declaration_named o).1 is_name

  external_name : {ts us : Tokens} {d : Declaration} → IsExternal ts d us → next is_name ts ≡ true
  external_name o = (external_named o).1 is_name

  module _ (section : Parser Section) (item : Parser Declaration) (IsSection : Tokens → Section → Tokens → Type 0)
      (IsOne : Tokens → Declaration → Tokens → Type 0)
      (named : (ts : Tokens) (d : Declaration) (us : Tokens) → IsOne ts d us
      → (x : List ℕ) × ((f : TokenKind → Bool) → next f ts ≡ f (Name x)))
      (less : (ts : Tokens) (d : Declaration) (us : Tokens) → IsOne ts d us → length us < length ts)
      (sections : (ts : Tokens) (s : Section) (us : Tokens) → IsSection ts s us → Named us → section ts ≡ Ok (s, us))
      (items : (ts : Tokens) (d : Declaration) (us : Tokens) → IsOne ts d us → DeclarationWithin depth d
      → item ts ≡ Ok (d, us)) where
    some_block_complete : {ts us : Tokens} {b : VariableBlock} → IsBlock IsSection IsOne ts b us → BlockWithin depth b
        → block_at section item ts ≡ Ok (b, us)
    unfolding block_at
    some_block_complete (u.block {ts} {us} s ds i r e q) low =
        let low' : AllByRecursion (DeclarationWithin depth) ds =
        subst (λ (z : VariableBlock). BlockWithin depth z) q low in
        rw (
          sections ts s us i (declarations_named IsOne named r e),
          many_complete is_name item IsOne (DeclarationWithin depth) items (λ ts x us o. (named ts x us o).1 is_name)
              less r low' (keyword_head w.EndVar is_name e.1),
          one_complete e.1,
          q,
        ) refl

  function_block_complete : {ts us : Tokens} {b : VariableBlock} → IsBlock IsFunctionSection IsDeclaration ts b us
      → BlockWithin depth b → function_block_at depth ts ≡ Ok (b, us)
  unfolding function_block_at
  function_block_complete =
      some_block_complete function_section_at (declaration_at depth) IsFunctionSection IsDeclaration
      (λ ts d us o. declaration_named o) declaration_less (λ ts s us i n. function_section_complete i n)
      (λ ts d us o l. declaration_complete o l)

  external_block_complete : {ts us : Tokens} {b : VariableBlock} → IsBlock IsExternalSection IsExternal ts b us
      → BlockWithin depth b → external_block_at ts ≡ Ok (b, us)
  unfolding external_block_at
  external_block_complete =
      some_block_complete external_section_at external_at IsExternalSection IsExternal (λ ts d us o. external_named o)
      external_less (λ ts s us i n. external_section_complete i n) (λ ts d us o l. external_complete o l)

  block_word : {IsOne : Tokens → Declaration → Tokens → Type 0} {ts us : Tokens} {b : VariableBlock}
      (f : TokenKind → Bool) (c : Bool) (IsSection : Tokens → Section → Tokens → Type 0)
      → ((ts : Tokens) (s : Section) (us : Tokens) → IsSection ts s us → next f ts ≡ c)
      → IsBlock IsSection IsOne ts b us → next f ts ≡ c
  block_word f c IsSection words (u.block {ts} {us} s ds i r e q) = words ts s us i

  program_block_complete : {ts us : Tokens} {b : VariableBlock} → IsProgramBlock ts b us → BlockWithin depth b
      → program_block_at depth ts ≡ Ok (b, us)
  unfolding program_block_at
  program_block_complete (u.own i) low =
      rw (block_word (is_keyword w.VarExternal) false IsOwnSection (λ ts s us o. (own_heads o).2) i)
      (some_block_complete own_section_at (declaration_at depth) IsOwnSection IsDeclaration
      (λ ts d us o. declaration_named o) declaration_less (λ ts s us i n. own_section_complete i n)
      (λ ts d us o l. declaration_complete o l) i low)
  program_block_complete (u.external i) low =
      rw (block_word (is_keyword w.VarExternal) true IsExternalSection (λ ts s us o. external_heads o) i)
      (external_block_complete i low)

  variable_block_complete : {ts us : Tokens} {b : VariableBlock} → IsFunctionBlockBlock ts b us → BlockWithin depth b
      → variable_block_at depth ts ≡ Ok (b, us)
  unfolding variable_block_at
  variable_block_complete (u.own i) low =
      rw (block_word (is_keyword w.VarExternal) false IsBlockSection (λ ts s us o. block_heads o) i)
      (some_block_complete block_section_at (declaration_at depth) IsBlockSection IsDeclaration
      (λ ts d us o. declaration_named o) declaration_less (λ ts s us i n. block_section_complete i n)
      (λ ts d us o l. declaration_complete o l) i low)
  variable_block_complete (u.external i) low =
      rw (block_word (is_keyword w.VarExternal) true IsExternalSection (λ ts s us o. external_heads o) i)
      (external_block_complete i low)

  program_block_first : {ts us : Tokens} {b : VariableBlock} → IsProgramBlock ts b us
      → next starts_program_section ts ≡ true
  program_block_first (u.own i) = block_word starts_program_section true IsOwnSection (λ ts s us o. (own_first o).0) i
  program_block_first (u.external i) =
      block_word starts_program_section true IsExternalSection (λ ts s us o. (external_first o).0) i

  variable_block_first : {ts us : Tokens} {b : VariableBlock} → IsFunctionBlockBlock ts b us
      → next starts_block_section ts ≡ true
  variable_block_first (u.own i) = block_word starts_block_section true IsBlockSection (λ ts s us o. block_first o) i
  variable_block_first (u.external i) =
      block_word starts_block_section true IsExternalSection (λ ts s us o. (external_first o).1) i

  -- ---- units

  body_head : {ts us vs : Tokens} {xs : List Stmt} {at : ℕ} (f : TokenKind → Bool) (end : KeywordType)
      → ((ts : Tokens) → next starts_stmt ts ≡ true → next f ts ≡ false) → f (Keyword end) ≡ false → IsStmts ts xs us
      → Is (keyword end) us at vs → next f ts ≡ false
  body_head f end apart miss no_stmt e = keyword_head end f e ∙ miss
  body_head f end apart miss (stmt {ts} i p r) e = apart ts (stmt_next i p)

  stmts_complete : {ts us vs : Tokens} {xs : List Stmt} {at : ℕ} (end : KeywordType) → starts_stmt (Keyword end) ≡ false
      → IsStmts ts xs us → Is (keyword end) us at vs → deepest_stmt (stmts_of xs) ≤ depth
      → stmts_at depth ts ≡ Ok (xs, us)
  stmts_complete end miss i e low = all_complete depth i low (keyword_head end starts_stmt e ∙ miss)

  pub function_complete : {ts us : Tokens} {x : OrganisationUnit} → IsUnit ts x us → UnitWithin depth x
      → next (is_keyword w.Function) ts ≡ true → function_at depth ts ≡ Ok (x, us)
  unfolding function_at same_keyword
  function_complete (u.function x r bs body k n c e b i f q) low word =
      let low' : AllByRecursion (BlockWithin depth) bs × (deepest_stmt (stmts_of body) ≤ depth) =
      subst (λ (z : OrganisationUnit). UnitWithin depth z) q low in
      rw (
        one_complete k.1,
        one_complete n,
        one_complete c.1,
        one_complete e,
        many_complete starts_function_section (function_block_at depth) (IsBlock IsFunctionSection IsDeclaration)
            (BlockWithin depth) (λ ts x us o l. function_block_complete o l)
            (λ ts x us o. block_word starts_function_section true IsFunctionSection (λ ts s us o. section_first o) o)
            function_block_less
            b low'.0 (body_head starts_function_section w.EndFunction (λ ts eq. (starts_alone ts eq).0) refl i f.1),
        stmts_complete w.EndFunction refl i f.1 low'.1,
        one_complete f.1,
        q,
      ) refl
  function_complete (u.function_block x bs body k n b i f q) low word = let no =
      keyword_head w.FunctionBlock (is_keyword w.Function) k.1 in absurd cc
  function_complete (u.program x bs body k n b i f q) low word = let no =
      keyword_head w.Program (is_keyword w.Function) k.1 in absurd cc

  pub block_unit_complete : {ts us : Tokens} {x : OrganisationUnit} → IsUnit ts x us → UnitWithin depth x
      → next (is_keyword w.FunctionBlock) ts ≡ true → function_block_unit_at depth ts ≡ Ok (x, us)
  unfolding function_block_unit_at same_keyword
  block_unit_complete (u.function_block x bs body k n b i f q) low word =
      let low' : AllByRecursion (BlockWithin depth) bs × (deepest_stmt (stmts_of body) ≤ depth) =
      subst (λ (z : OrganisationUnit). UnitWithin depth z) q low in
      rw (
        one_complete k.1,
        one_complete n,
        many_complete starts_block_section (variable_block_at depth) IsFunctionBlockBlock (BlockWithin depth)
            (λ ts x us o l. variable_block_complete o l) (λ ts x us o. variable_block_first o) variable_block_less
            b low'.0 (body_head starts_block_section w.EndFunctionBlock (λ ts eq. (starts_alone ts eq).2) refl i f.1),
        stmts_complete w.EndFunctionBlock refl i f.1 low'.1,
        one_complete f.1,
        q,
      ) refl
  block_unit_complete (u.function x r bs body k n c e b i f q) low word = let no =
      keyword_head w.Function (is_keyword w.FunctionBlock) k.1 in absurd cc
  block_unit_complete (u.program x bs body k n b i f q) low word = let no =
      keyword_head w.Program (is_keyword w.FunctionBlock) k.1 in absurd cc

  pub program_complete : {ts us : Tokens} {x : OrganisationUnit} → IsUnit ts x us → UnitWithin depth x
      → next (is_keyword w.Program) ts ≡ true → program_at depth ts ≡ Ok (x, us)
  unfolding program_at same_keyword
  program_complete (u.program x bs body k n b i f q) low word =
      let low' : AllByRecursion (BlockWithin depth) bs × (deepest_stmt (stmts_of body) ≤ depth) =
      subst (λ (z : OrganisationUnit). UnitWithin depth z) q low in
      rw (
        one_complete k.1,
        one_complete n,
        many_complete starts_program_section (program_block_at depth) IsProgramBlock (BlockWithin depth)
            (λ ts x us o l. program_block_complete o l) (λ ts x us o. program_block_first o) program_block_less
            b low'.0 (body_head starts_program_section w.EndProgram (λ ts eq. (starts_alone ts eq).1) refl i f.1),
        stmts_complete w.EndProgram refl i f.1 low'.1,
        one_complete f.1,
        q,
      ) refl
  program_complete (u.function x r bs body k n c e b i f q) low word = let no =
      keyword_head w.Function (is_keyword w.Program) k.1 in absurd cc
  program_complete (u.function_block x bs body k n b i f q) low word = let no =
      keyword_head w.FunctionBlock (is_keyword w.Program) k.1 in absurd cc
