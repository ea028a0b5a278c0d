-- A type is read.
use Rattle.std.proofs.Common.{◌≡◌, ℕ, ◌≤◌, true, false, List, Option, Some, Ok, refl, subst}
use Rattle.std.specs.List.{AllByRecursion}
use Rattle.st_lex.specs.declared.token.TokenKind.{TokenKind}
use Rattle.st_lex.specs.declared.token.TokenKind.TheVariants.{Name, Elementary}
use Rattle.st_lex.specs.declared.mark.Mark.TheVariants as m
use Rattle.st_lex.specs.declared.keyword.Keyword.TheVariants as w
use Rattle.st_types.specs.declared.data_type.SimpleType.{SimpleType}
use Rattle.st_types.specs.declared.data_type.ArrayType.{ArrayType}
use Rattle.st_types.specs.declared.data_type.VariableType.{VariableType}
use Rattle.st_types.specs.Initials.{Initial}
use Rattle.st_types.specs.Depths.{depth_of_initial}
use Rattle.st_types.specs.Declarations.{Field, TypeDefinition, TypeDeclaration}
use Rattle.st_parse.specs.Tokens.{Tokens, next, Is, is, mark, keyword, is_mark, is_keyword, is_name, Passes}
use Rattle.st_parse.specs.Tokens.{same_mark, same_keyword}
use Rattle.st_parse.proofs.Complete.{one_complete, mark_head, keyword_head, name_head, number_complete}
use Rattle.st_parse.proofs.CompleteInitials.{initial_complete}
use Rattle.st_parse.specs.Lists.{Optional, absent, present, Several}
use Rattle.st_parse.specs.Types.{simple, simple_in, IsArray, IsType, plain, IsGiven, given, IsField, field}
use Rattle.st_parse.specs.Types.{IsDefinition, structure, enumeration, IsTypeDeclaration, declared, IsTypes, block}
use Rattle.st_parse.specs.Types as t
use Rattle.st_parse.specs.Depths.{ValueWithin, FieldWithin, DefinitionWithin, TypeWithin}
use Rattle.st_parse.specs.TypeReading.{array_at, array_type_at, simple_type_at, type_at, given_at, given_or_not}
use Rattle.st_parse.specs.TypeReading.{field_at, fields_at, structure_at, array_definition_at, enumeration_at}
use Rattle.st_parse.specs.TypeReading.{definition_at}
use Rattle.st_parse.specs.TypeReading.{type_declaration_at, type_declarations_at, types_at}
use Rattle.st_parse.proofs.CompleteParts.{at_least_one_complete, optional_none, optional_some, names_complete}
use Rattle.st_parse.proofs.Shorter.{field_less, type_declaration_less}

simple_kind : (at : ℕ) (k : TokenKind) (x : SimpleType) → simple_in at k ≡ Some x → is_keyword w.Array k ≡ false
simple_kind at (Elementary k) x eq = refl
simple_kind at (Name n) x eq = refl
simple_kind at _ x eq = absurd cc

simple_head : {ts us : Tokens} {x : SimpleType} → Is simple ts x us → next (is_keyword w.Array) ts ≡ false
simple_head {x = x} (is {t} eq) = simple_kind t.start t.kind x eq

array_head : {ts us : Tokens} {a : ArrayType} → IsArray ts a us → next (is_keyword w.Array) ts ≡ true
unfolding same_keyword
array_head (t.array at l h x k b n r j e o i q) = keyword_head w.Array (is_keyword w.Array) k

array_complete : {ts us : Tokens} {a : ArrayType} → IsArray ts a us → array_at ts ≡ Ok (a, us)
unfolding array_at
array_complete (t.array at l h x k b n r j e o i q) = rw (
  one_complete k,
  one_complete b.1,
  number_complete n,
  one_complete r.1,
  number_complete j,
  one_complete e.1,
  one_complete o.1,
  one_complete i,
  q,
) refl

pub type_complete : {ts us : Tokens} {x : VariableType} → IsType ts x us → type_at ts ≡ Ok (x, us)
unfolding type_at array_type_at simple_type_at
type_complete (plain x i q) = rw (simple_head i, one_complete i, q) refl
type_complete (t.array a i q) = rw (array_head i, array_complete i, q) refl

given_head : {ts us : Tokens} {v : Initial} → IsGiven ts v us → next (is_mark m.Assign) ts ≡ true
unfolding same_mark
given_head (given a i) = mark_head m.Assign (is_mark m.Assign) a.1

module _ (depth : ℕ) where
  given_complete : {ts us : Tokens} {v : Initial} → IsGiven ts v us → depth_of_initial v ≤ depth
      → given_at depth ts ≡ Ok (v, us)
  unfolding given_at
  given_complete (given a i) low = rw (one_complete a.1) (initial_complete i depth low)

  pub given_or_not_complete : {ts us vs : Tokens} {o : Option Initial} → Optional IsGiven ts o us
      → Passes (mark m.Semicolon) us vs → ValueWithin depth o → given_or_not depth ts ≡ Ok (o, us)
  unfolding given_or_not same_mark
  given_or_not_complete (absent {ts}) s low =
      optional_none (is_mark m.Assign) (given_at depth) ts (mark_head m.Semicolon (is_mark m.Assign) s.1)
  given_or_not_complete (present i) s low =
      optional_some (is_mark m.Assign) (given_at depth) (given_head i) (given_complete i low)

  field_complete : {ts us : Tokens} {f : Field} → IsField ts f us → FieldWithin depth f → field_at depth ts ≡ Ok (f, us)
  unfolding field_at
  field_complete (field x t v n c i g s q) low =
      let low' : ValueWithin depth v = subst (λ (z : Field). FieldWithin depth z) q low in
      rw (one_complete n, one_complete c.1, type_complete i, given_or_not_complete g s low', one_complete s.1, q) refl

  field_head : {ts us : Tokens} {f : Field} → IsField ts f us → next is_name ts ≡ true
  field_head (field x t v n c i g s q) = name_head is_name n

  fields_complete : {ts us vs : Tokens} {fs : List Field} → Several IsField ts fs us
      → Passes (keyword w.EndStruct) us vs
      → AllByRecursion (FieldWithin depth) fs → fields_at depth ts ≡ Ok (fs, us)
  unfolding fields_at
  fields_complete i e low =
      at_least_one_complete is_name (field_at depth) IsField (FieldWithin depth) (λ ts x us o l. field_complete o l)
      (λ ts x us o. field_head o) field_less i low (keyword_head w.EndStruct is_name e.1)

  structure_head : {ts us : Tokens} → Passes (keyword w.Struct) ts us → next (is_keyword w.Array) ts ≡ false
  unfolding same_keyword
  structure_head s = keyword_head w.Struct (is_keyword w.Array) s.1

  -- a parenthesis begins an enumerated type only
  structure_unopened : {ts us : Tokens} → Passes (keyword w.Struct) ts us → next (is_mark m.Open) ts ≡ false
  structure_unopened s = keyword_head w.Struct (is_mark m.Open) s.1

  enumeration_head : {ts us : Tokens} → Passes (mark m.Open) ts us
      → (next (is_keyword w.Array) ts ≡ false) × (next (is_mark m.Open) ts ≡ true)
  unfolding same_mark
  enumeration_head s = (mark_head m.Open (is_keyword w.Array) s.1, mark_head m.Open (is_mark m.Open) s.1)

  close_no_comma : {ts us : Tokens} → Passes (mark m.Close) ts us → next (is_mark m.Comma) ts ≡ false
  unfolding same_mark
  close_no_comma c = mark_head m.Close (is_mark m.Comma) c.1

  definition_complete : {ts us : Tokens} {x : TypeDefinition} → IsDefinition ts x us → DefinitionWithin depth x
      → definition_at depth ts ≡ Ok (x, us)
  unfolding definition_at array_definition_at enumeration_at structure_at
  definition_complete (t.array a i q) low = rw (array_head i, array_complete i, q) refl
  definition_complete (structure fs s i e q) low =
      let low' : AllByRecursion (FieldWithin depth) fs =
      subst (λ (z : TypeDefinition). DefinitionWithin depth z) q low in
      rw (structure_head s, structure_unopened s, one_complete s.1, fields_complete i e low', one_complete e.1, q) refl
  definition_complete (enumeration xs s i e q) low =
      let h = enumeration_head s in
      rw (h.0, h.1, one_complete s.1, names_complete i (close_no_comma e), one_complete e.1, q) refl

  type_declaration_complete : {ts us : Tokens} {x : TypeDeclaration} → IsTypeDeclaration ts x us → TypeWithin depth x
      → type_declaration_at depth ts ≡ Ok (x, us)
  unfolding type_declaration_at
  type_declaration_complete (declared x y n c i s q) low =
      let low' : DefinitionWithin depth y = subst (λ (z : TypeDeclaration). TypeWithin depth z) q low in
      rw (one_complete n, one_complete c.1, definition_complete i low', one_complete s.1, q) refl

  type_declaration_head : {ts us : Tokens} {x : TypeDeclaration} → IsTypeDeclaration ts x us → next is_name ts ≡ true
  type_declaration_head (declared x y n c i s q) = name_head is_name n

  type_declarations_complete : {ts us vs : Tokens} {xs : List TypeDeclaration} → Several IsTypeDeclaration ts xs us
      → Passes (keyword w.EndType) us vs → AllByRecursion (TypeWithin depth) xs
      → type_declarations_at depth ts ≡ Ok (xs, us)
  unfolding type_declarations_at
  type_declarations_complete i e low = at_least_one_complete is_name (type_declaration_at depth) IsTypeDeclaration
      (TypeWithin depth) (λ ts x us o l. type_declaration_complete o l) (λ ts x us o. type_declaration_head o)
      type_declaration_less i low (keyword_head w.EndType is_name e.1)

  pub types_complete : {ts us : Tokens} {xs : List TypeDeclaration} → IsTypes ts xs us
      → AllByRecursion (TypeWithin depth) xs → types_at depth ts ≡ Ok (xs, us)
  unfolding types_at
  types_complete (block b i e) low = rw (one_complete b.1, type_declarations_complete i e low, one_complete e.1) refl
