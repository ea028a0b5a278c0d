-- In a text whose declared types are right, the inputs and results of functions have elementary or enumerated types,
-- and if no name is declared twice, functions have no instances.
use Rattle.std.proofs.Common.{◌≡◌, refl, sym, subst, ℕ, Bool, true, false, ◌&&◌, if◌then◌else◌, List, []}
use Rattle.std.proofs.Common.{◌∷◌, ◌++◌, Option, Some, None}
use Rattle.std.specs.Prelude.{is_some}
use Rattle.std.specs.List.{list_all}
use Rattle.st_types.specs.declared.kind.Kind.{Kind}
use Rattle.st_types.specs.declared.identifier.Identifier.{Identifier}
use Rattle.st_types.specs.declared.data_type.SimpleType.{SimpleType}
use Rattle.st_types.specs.declared.data_type.VariableType.{VariableType}
use Rattle.st_types.specs.declared.data_type.VariableType.TheVariants as types
use Rattle.st_types.specs.declared.declaration.Section.{Section}
use Rattle.st_types.specs.declared.declaration.Section.TheVariants as sections
use Rattle.st_types.specs.declared.unit.UnitSort.{UnitSort}
use Rattle.st_types.specs.declared.unit.UnitSort.TheVariants.{Function as function}
use Rattle.st_types.specs.Declarations.{Declaration, VariableBlock}
use Rattle.st_types.specs.Units.{OrganisationUnit}
use Rattle.st_types.specs.Sources as sources
use Rattle.st_types.specs.Sources.{Source}
use Rattle.st_meaning.specs.NameTypes.{Declared, declared_in, kind_among, is_input, kinds_of_declaration}
use Rattle.st_meaning.specs.NameTypes.{kinds_of_declarations, input_kinds}
use Rattle.st_rules.specs.declared.reason.Reason.TheVariants.{HasParts}
use Rattle.st_rules.specs.declared.typings.Typing.{Typing}
use Rattle.st_rules.specs.declared.typings.Typing.TheVariants.{Untyped as untyped, Elementary as elementary}
use Rattle.st_rules.specs.declared.typings.Typing.TheVariants.{Composite as composite, Nothing as nothing}
use Rattle.st_rules.specs.Faults.{breaking, in_case}
use Rattle.st_rules.specs.Typings.{kind_of, is_untyped_typing, is_composite, is_nothing, typing_of_type}
use Rattle.st_rules.specs.DeclaredTypes.{variable_of, Declaring}
use Rattle.st_rules.specs.TypeRules.{place_of_simple, place_of_type, is_without_parts, wrong_simple}
use Rattle.st_rules.proofs.TypingLaws.{kind_of_declared, untyped_declared}
use Rattle.st_link.specs.Soundness.{IsKnown}
use Rattle.st_link.proofs.Among.{Among, here, later}
use Rattle.st_link.proofs.KnownTypes.{TypesRight, declared_right, sound_known, sound_declared}
use Rattle.st_link.proofs.KnownTypes.{variable_among, result_right, result_known}
use Rattle.st_types.proofs.ListLemmas.{append_second}

-- a known type without parts has a kind
kind_some : (t : Typing) → is_nothing t ≡ false → is_untyped_typing t ≡ false → is_composite t ≡ false
    → is_some (kind_of t) ≡ true
kind_some untyped h i j = absurd (cc)
kind_some (elementary k) h i j = refl
kind_some composite h i j = absurd (cc)
kind_some nothing h i j = absurd (cc)

has_kind : (text : Declared) (t : VariableType) → IsKnown text t → is_composite (typing_of_type text (Some t)) ≡ false
    → is_some (kind_among text.types t) ≡ true
has_kind text t known whole =
    subst (λ (o : Option Kind). is_some o ≡ true) (sym (kind_of_declared text (Some t)))
    (kind_some (typing_of_type text (Some t)) known (sym (untyped_declared text (Some t))) whole)

not_in_case : (b : Bool) (at : ℕ) → breaking HasParts (in_case b at) ≡ [] → b ≡ false
not_in_case true at h = absurd (cc)
not_in_case false at h = refl

and_not : (a b : Bool) → (a && b) ≡ false → a ≡ true → b ≡ false
and_not true b h i = h
and_not false b h i = absurd (cc)

-- lists of kinds
all_append : (ks ls : List (Option Kind)) → list_all is_some ks ≡ true → list_all is_some ls ≡ true
    → list_all is_some (ks ++ ls) ≡ true
all_append [] ls h i = i
all_append (Some k ∷ ks) ls h i = all_append ks ls h i
all_append (None ∷ ks) ls h i = absurd (cc)

kinds_of_one : (text : Declared) (d : Declaration) (xs : List Identifier)
    → is_some (kind_among text.types d.declared) ≡ true → list_all is_some (kinds_of_declaration text d xs) ≡ true
kinds_of_one text d [] h = refl
kinds_of_one text d (x ∷ xs) h = rw (h, kinds_of_one text d xs h) refl

kinds_of_all : (text : Declared) (ds : List Declaration)
    → ((d : Declaration) → Among d ds → is_some (kind_among text.types d.declared) ≡ true)
    → list_all is_some (kinds_of_declarations text ds) ≡ true
kinds_of_all text [] h = refl
kinds_of_all text (d ∷ ds) h = all_append (kinds_of_declaration text d d.names) (kinds_of_declarations text ds)
    (kinds_of_one text d d.names (h d here)) (kinds_of_all text ds (λ e among. h e (later among)))

kinds_of_block : (text : Declared) (b : VariableBlock) (rest : List (Option Kind)) (is : Bool)
    → (is ≡ true → list_all is_some (kinds_of_declarations text b.declarations) ≡ true)
    → list_all is_some rest ≡ true
    → list_all is_some (if is then kinds_of_declarations text b.declarations ++ rest else rest) ≡ true
kinds_of_block text b rest true h i = all_append (kinds_of_declarations text b.declarations) rest (h refl) i
kinds_of_block text b rest false h i = i

kinds_of_inputs : (text : Declared) (bs : List VariableBlock)
    → ((b : VariableBlock) → Among b bs → is_input b.section ≡ true → (d : Declaration) → Among d b.declarations
    → is_some (kind_among text.types d.declared) ≡ true) → list_all is_some (input_kinds text bs) ≡ true
kinds_of_inputs text [] h = refl
kinds_of_inputs text (b ∷ bs) h = kinds_of_block text b (input_kinds text bs) (is_input b.section)
    (λ is. kinds_of_all text b.declarations (h b here is))
    (kinds_of_inputs text bs (λ c among. h c (later among)))

-- an input has no parts
input_whole : (sort : UnitSort) (section : Section) → is_input section ≡ true
    → is_without_parts (variable_of sort section) ≡ true
input_whole sort (sections.Input keep) h = refl
input_whole sort (sections.Output keep) h = refl
input_whole sort (sections.Local keep) h = absurd (cc)
input_whole sort sections.Constant h = absurd (cc)
input_whole sort sections.External h = absurd (cc)
input_whole sort sections.ConstantExternal h = absurd (cc)

module _ (source : Source) (right : TypesRight source) where
  abbrev text : Declared
  text = declared_in source

  pub input_kind_there : (u : OrganisationUnit) → Among (sources.unit u) source → (b : VariableBlock) → Among b u.blocks
      → is_input b.section ≡ true → (d : Declaration) → Among d b.declarations
      → is_some (kind_among text.types d.declared) ≡ true
  input_kind_there u unit b block is d declaration =
      let it : Declaring =
      record { role = variable_of u.sort b.section; declared = d.declared; initial = d.initial } in
      let among = variable_among source right u b d unit block declaration in
      has_kind text d.declared
      (sound_known text d.declared (sound_declared source right it among d.declared refl))
      (and_not (is_without_parts (variable_of u.sort b.section)) _
      (not_in_case _ (place_of_type d.declared) (declared_right source right it among).whole)
      (input_whole u.sort b.section is))

  pub inputs_have_kinds : (u : OrganisationUnit) → Among (sources.unit u) source
      → list_all is_some (input_kinds (declared_in source) u.blocks) ≡ true
  inputs_have_kinds u unit = kinds_of_inputs text u.blocks (input_kind_there u unit)

  pub result_has_kind : (u : OrganisationUnit) (s : SimpleType) → Among (sources.unit u) source → u.sort ≡ function s
      → is_some (kind_among (declared_in source).types (types.Simple s)) ≡ true
  result_has_kind u s unit is = has_kind text (types.Simple s) (result_known source right u s unit is)
      (not_in_case _ (place_of_simple s) (append_second (wrong_simple text false s)
      (breaking HasParts (in_case (is_composite (typing_of_type text (Some (types.Simple s)))) (place_of_simple s)))
      (result_right source right u s unit is)))
