-- A part that is read as a type is one, and the tokens before a refusal begin one.
use Rattle.std.proofs.Common.{ℕ, ◌+◌, ◌≤◌, List, refl}
use Rattle.std.specs.List.{AllByRecursion}
use Rattle.st_types.specs.declared.kind.Kind.TheVariants.{Int}
use Rattle.st_lex.specs.declared.token.TokenKind.TheVariants.{Elementary}
use Rattle.st_lex.specs.declared.mark.Mark.TheVariants as m
use Rattle.st_lex.specs.declared.keyword.Keyword.TheVariants as w
use Rattle.st_types.specs.declared.data_type.SimpleType.TheVariants as simples
use Rattle.st_types.specs.declared.data_type.ArrayType.{ArrayType}
use Rattle.st_types.specs.declared.data_type.VariableType.{VariableType}
use Rattle.st_types.specs.declared.data_type.VariableType.TheVariants as types
use Rattle.st_types.specs.Initials.{Initial}
use Rattle.st_types.specs.Depths.{depth_of_initial}
use Rattle.st_types.specs.Declarations.{Field, TypeDefinition, TypeDeclaration}
use Rattle.st_types.specs.Declarations as d
use Rattle.st_parse.specs.Tokens.{Tokens, Is, mark, keyword, name, is_mark, is_keyword, is_name, IsNumber}
use Rattle.st_parse.specs.Parsers.{one, listed}
use Rattle.st_parse.specs.Initials.{IsInitial}
use Rattle.st_parse.specs.InitialReading.{initial_at}
use Rattle.st_parse.proofs.Sound.{Any, Seq, Made, made}
use Rattle.st_parse.proofs.SoundReadings.{Sound, sound_then, sound_pure, sound_as, sound_if, sound_one, sound_mark}
use Rattle.st_parse.proofs.SoundReadings.{sound_keyword, sound_name, sound_number, token_of}
use Rattle.st_parse.proofs.SoundInitials.{told_initial, initial_begins}
use Rattle.st_parse.specs.Lists.{Several, Listed, Optional}
use Rattle.st_parse.specs.Types.{simple, IsArray, IsType, plain, IsGiven, given, IsField, field, IsDefinition}
use Rattle.st_parse.specs.Types.{structure, enumeration, IsTypeDeclaration, declared, IsTypes, block}
use Rattle.st_parse.specs.Types as t
use Rattle.st_parse.specs.Depths.{ValueWithin, FieldWithin, DefinitionWithin, TypeWithin}
use Rattle.st_parse.specs.TypeReading.{array_at, array_type_at, simple_type_at, type_at, given_at, given_or_not}
use Rattle.st_parse.specs.TypeReading.{field_at, fields_at, structure_at, array_definition_at, enumeration_at}
use Rattle.st_parse.specs.TypeReading.{definition_at}
use Rattle.st_parse.specs.TypeReading.{type_declaration_at, type_declarations_at, types_at}
use Rattle.st_parse.proofs.SoundParts.{sound_at_least_one, sound_optional, sound_names}
use Rattle.st_parse.proofs.Shorter.{field_less, type_declaration_less}

sound_simple : {C : Type 0} → Sound C (λ e. one simple) (Is simple) Any
sound_simple = sound_one simple (token_of (Elementary Int)) (simples.Elementary Int 0) refl

is_array : (ts : Tokens) (a : ArrayType) (us : Tokens)
    → Seq (Is (keyword w.Array)) (λ at. Seq (Is (mark m.OpenBracket)) (λ b. Seq IsNumber (λ lower. Seq (Is
    (mark m.Range)) (λ r. Seq IsNumber (λ upper. Seq (Is (mark m.CloseBracket)) (λ e. Seq (Is (keyword w.Of)) (λ o.
    Seq (Is simple) (λ element. Made (record { place = at; lower = lower; upper = upper; element = element })))))))))
    ts
    a
    us
    → IsArray
    ts
    a
    us
is_array ts a us
    (at, t1, k, (b, t2, i, (l, t3, n, (r, t4, j, (h, t5, n', (e, t6, x, (o, t7, y, (el, t8, z, made eq)))))))) =
    t.array at l h el k (b, i) n (r, j) n' (e, x) (o, y) z eq

sound_array : {C : Type 0} → Sound C (λ e. array_at) IsArray Any
unfolding array_at
sound_array =
    sound_as is_array (λ x us d. d) (sound_then (sound_keyword w.Array) (λ at. sound_then (sound_mark m.OpenBracket)
    (λ b. sound_then sound_number (λ lower. sound_then (sound_mark m.Range) (λ r. sound_then sound_number (λ upper.
    sound_then (sound_mark m.CloseBracket)
    (λ e. sound_then (sound_keyword w.Of) (λ o. sound_then sound_simple (λ element.
    sound_pure (record { place = at; lower = lower; upper = upper; element = element }) Any (λ c us. tt))))))))))

is_array_type : (ts : Tokens) (x : VariableType) (us : Tokens) → Seq IsArray (λ a. Made (types.Array a)) ts x us
    → IsType ts x us
is_array_type ts x us (a, vs, i, made eq) = t.array a i eq

is_simple_type : (ts : Tokens) (x : VariableType) (us : Tokens) → Seq (Is simple) (λ a. Made (types.Simple a)) ts x us
    → IsType ts x us
is_simple_type ts x us (a, vs, i, made eq) = plain a i eq

pub sound_type : {C : Type 0} → Sound C (λ e. type_at) IsType Any
unfolding type_at array_type_at simple_type_at
sound_type = sound_if (is_keyword w.Array)
    (sound_as is_array_type (λ x us d. d) (sound_then sound_array (λ a. sound_pure (types.Array a) Any (λ c us. tt))))
    (sound_as is_simple_type (λ x us d. d)
    (sound_then sound_simple (λ a. sound_pure (types.Simple a) Any (λ c us. tt))))

is_given : (ts : Tokens) (v : Initial) (us : Tokens) → Seq (Is (mark m.Assign)) (λ at. IsInitial) ts v us
    → IsGiven ts v us
is_given ts v us (at, vs, a, i) = given (at, a) i

is_field : (ts : Tokens) (f : Field) (us : Tokens)
    → Seq (Is name) (λ x. Seq (Is (mark m.Colon)) (λ c. Seq IsType (λ ty. Seq (Optional IsGiven)
    (λ v. Seq (Is (mark m.Semicolon)) (λ s. Made (record { name = x; declared = ty; initial = v })))))) ts f us
    → IsField ts f us
is_field ts f us (x, t1, n, (c, t2, i, (ty, t3, j, (v, t4, o, (s, t5, k, made eq))))) =
    field x ty v n (c, i) j o (s, k) eq

is_structure : (ts : Tokens) (x : TypeDefinition) (us : Tokens) → Seq (Is (keyword w.Struct))
    (λ s. Seq (Several IsField) (λ fs. Seq (Is (keyword w.EndStruct)) (λ e. Made (d.structure fs)))) ts x us
    → IsDefinition ts x us
is_structure ts x us (s, t1, k, (fs, t2, i, (e, t3, j, made eq))) = structure fs (s, k) i (e, j) eq

sound_listed : {C : Type 0} → Sound C (λ e. listed (one name)) (Listed (Is name)) Any
sound_listed = sound_as (λ ts xs us r. r) (λ xs us d. tt) sound_names

is_enumeration : (ts : Tokens) (x : TypeDefinition) (us : Tokens) → Seq (Is (mark m.Open))
    (λ s. Seq (Listed (Is name)) (λ xs. Seq (Is (mark m.Close)) (λ e. Made (d.enumeration xs)))) ts x us
    → IsDefinition ts x us
is_enumeration ts x us (s, t1, k, (xs, t2, i, (e, t3, j, made eq))) = enumeration xs (s, k) i (e, j) eq

is_array_definition : (ts : Tokens) (x : TypeDefinition) (us : Tokens) → Seq IsArray (λ a. Made (d.array a)) ts x us
    → IsDefinition ts x us
is_array_definition ts x us (a, vs, i, made eq) = t.array a i eq

is_type_declaration : (ts : Tokens) (x : TypeDeclaration) (us : Tokens)
    → Seq (Is name) (λ x. Seq (Is (mark m.Colon))
    (λ c. Seq IsDefinition (λ y. Seq (Is (mark m.Semicolon)) (λ s. Made (record { name = x; definition = y }))))) ts
    x us → IsTypeDeclaration ts x us
is_type_declaration ts z us (x, t1, n, (c, t2, i, (y, t3, j, (s, t4, k, made eq)))) = declared x y n (c, i) j (s, k) eq

is_types : (ts : Tokens) (xs : List TypeDeclaration) (us : Tokens) → Seq (Is (keyword w.Type))
    (λ b. Seq (Several IsTypeDeclaration) (λ xs. Seq (Is (keyword w.EndType)) (λ e. Made xs))) ts xs us
    → IsTypes ts xs us
is_types ts xs us (b, t1, i, (ys, t2, j, (e, t3, k, made eq))) = rw eq (block (b, i) j (e, k))

module _ (depth : ℕ) where
  sound_initial : {C : Type 0} → Sound C (λ n. initial_at (depth + n)) IsInitial (λ v us. depth_of_initial v ≤ depth)
  sound_initial = record { begins = initial_begins; tells = λ c. told_initial depth }

  sound_given : {C : Type 0} → Sound C (λ n. given_at (depth + n)) IsGiven (λ v us. depth_of_initial v ≤ depth)
  unfolding given_at
  sound_given = sound_as is_given (λ x us d. d) (sound_then (sound_mark m.Assign) (λ at. sound_initial))

  pub sound_given_or_not : {C : Type 0}
      → Sound C (λ n. given_or_not (depth + n)) (Optional IsGiven) (λ o us. ValueWithin depth o)
  unfolding given_or_not
  sound_given_or_not = sound_optional (is_mark m.Assign) (λ n. given_at (depth + n)) IsGiven
      (λ v. depth_of_initial v ≤ depth) sound_given

  sound_field : {C : Type 0} → Sound C (λ n. field_at (depth + n)) IsField (λ f us. FieldWithin depth f)
  unfolding field_at
  sound_field = sound_as is_field (λ x us d. d) (sound_then sound_name (λ x. sound_then (sound_mark m.Colon)
      (λ c. sound_then sound_type (λ ty. sound_then sound_given_or_not (λ v. sound_then (sound_mark m.Semicolon) (λ s.
      sound_pure (record { name = x; declared = ty; initial = v }) (λ f us. FieldWithin depth f) (λ c us. c.0.1.1)))))))

  sound_fields : {C : Type 0}
      → Sound C (λ n. fields_at (depth + n)) (Several IsField) (λ xs us. AllByRecursion (FieldWithin depth) xs)
  unfolding fields_at
  sound_fields = sound_as (λ ts x us r. r) (λ x us d. d.0)
      (sound_at_least_one is_name (λ n. field_at (depth + n)) IsField (FieldWithin depth) field_less sound_field)

  sound_structure : {C : Type 0}
      → Sound C (λ n. structure_at (depth + n)) IsDefinition (λ x us. DefinitionWithin depth x)
  unfolding structure_at
  sound_structure = sound_as is_structure (λ x us d. d) (sound_then (sound_keyword w.Struct)
      (λ s. sound_then sound_fields (λ fs. sound_then (sound_keyword w.EndStruct) (λ e.
      sound_pure (d.structure fs) (λ x us. DefinitionWithin depth x) (λ c us. c.0.1.1)))))

  sound_array_definition : {C : Type 0}
      → Sound C (λ n. array_definition_at) IsDefinition (λ x us. DefinitionWithin depth x)
  unfolding array_definition_at
  sound_array_definition = sound_as is_array_definition (λ x us d. d)
      (sound_then sound_array (λ a. sound_pure (d.array a) (λ x us. DefinitionWithin depth x) (λ c us. tt)))

  sound_enumeration : {C : Type 0}
      → Sound C (λ n. enumeration_at) IsDefinition (λ x us. DefinitionWithin depth x)
  unfolding enumeration_at
  sound_enumeration = sound_as is_enumeration (λ x us d. d) (sound_then (sound_mark m.Open)
      (λ s. sound_then sound_listed (λ xs. sound_then (sound_mark m.Close)
      (λ e. sound_pure (d.enumeration xs) (λ x us. DefinitionWithin depth x) (λ c us. tt)))))

  sound_definition : {C : Type 0}
      → Sound C (λ n. definition_at (depth + n)) IsDefinition (λ x us. DefinitionWithin depth x)
  unfolding definition_at
  sound_definition = sound_if (is_keyword w.Array) sound_array_definition
      (sound_if (is_mark m.Open) sound_enumeration sound_structure)

  sound_type_declaration : {C : Type 0}
      → Sound C (λ n. type_declaration_at (depth + n)) IsTypeDeclaration (λ x us. TypeWithin depth x)
  unfolding type_declaration_at
  sound_type_declaration = sound_as is_type_declaration (λ x us d. d) (sound_then sound_name (λ x.
      sound_then (sound_mark m.Colon) (λ c. sound_then sound_definition (λ y. sound_then (sound_mark m.Semicolon) (λ s.
      sound_pure (record { name = x; definition = y }) (λ x us. TypeWithin depth x) (λ c us. c.0.1.1))))))

  sound_type_declarations : {C : Type 0} → Sound C (λ n. type_declarations_at (depth + n)) (Several IsTypeDeclaration)
      (λ xs us. AllByRecursion (TypeWithin depth) xs)
  unfolding type_declarations_at
  sound_type_declarations =
      sound_as (λ ts x us r. r) (λ x us d. d.0) (sound_at_least_one is_name (λ n. type_declaration_at (depth + n))
      IsTypeDeclaration (TypeWithin depth) type_declaration_less sound_type_declaration)

  pub sound_types : {C : Type 0}
      → Sound C (λ n. types_at (depth + n)) IsTypes (λ xs us. AllByRecursion (TypeWithin depth) xs)
  unfolding types_at
  sound_types = sound_as is_types (λ x us d. d) (sound_then (sound_keyword w.Type)
      (λ b. sound_then sound_type_declarations (λ xs. sound_then (sound_keyword w.EndType) (λ e.
      sound_pure xs (λ xs us. AllByRecursion (TypeWithin depth) xs) (λ c us. c.0.1.1)))))
