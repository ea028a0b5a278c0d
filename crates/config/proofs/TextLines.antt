-- The variables of a text's plan may have a line in a record, and no two of its paths are written alike.
use Rattle.std.proofs.Common.{◌≡◌, refl, sym, ap, ◌∙◌, Bool, true, not, List, [], ◌∷◌, ◌++◌, map}
use Rattle.std.specs.List.{list_all, flat_map}
use Rattle.st_types.specs.declared.kind.Kind.{Kind}
use Rattle.st_types.specs.Sources.{Source}
use Rattle.st_meaning.specs.Enumerations.{kind_of_enumeration}
use Rattle.st_meaning.specs.NameTypes.{types_in, declared_in}
use Rattle.st_meaning.specs.Slots.{Slot, IsLayout}
use Rattle.st_rules.specs.declared.reason.Reason.TheVariants.{SurplusName, PriorityTooGreat}
use Rattle.st_rules.specs.Faults.{breaks, breaking}
use Rattle.st_rules.specs.DeclaredTypes.{declarings_in, arrays_in, results_in, enumerations_in}
use Rattle.st_rules.specs.TypeRules.{wrong_declaring, wrong_element, wrong_result, wrong_bound_numbers, surplus_name}
use Rattle.st_rules.specs.TypeRules.{wrong_priorities_of}
use Rattle.st_rules.specs.Rules.{wrong_declarations, wrong_types, wrong_starts, wrong_bodies, IsWellTyped}
use Rattle.st_meaning.specs.Layouts.{variable_slot, path_text}
use Rattle.layout.specs.LayoutVariables.{configurations_in, only_configuration, variables_of_configuration}
use Rattle.layout.specs.TextLayouts.{slots_of, slots_of_text, variable_slots, plan_variables_of_text}
use Rattle.layout.specs.TextLayouts.{enumerations_of_text}
use Rattle.plan.specs.Sound.{has_spelling, has_line}
use Rattle.config.specs.PlainDeclarations.{is_plain}
use Rattle.config.specs.WordPaths.{is_word_path}
use Rattle.config.proofs.PlainPaths.{is_plain_slot, layout_plain}
use Rattle.config.proofs.ApartTexts.{layout_apart, filtered_apart}
use Rattle.config.proofs.EnumerationNames.{enumeration_spelled, sound_names}
use Rattle.config.proofs.ResolvedNames.{names_taken}
use Rattle.config.proofs.Lines.{elementary_spelled, variable_lines}
use Rattle.st_types.proofs.ListLemmas.{append_parts, map_map, none_mapped}
use Rattle.std.proofs.lemmas.Bool.{and_parts, and_from}
use Rattle.layout.specs.Names.{are_different}

no_surplus : (source : Source) → IsWellTyped source → flat_map surplus_name (enumerations_in source) ≡ []
no_surplus source h =
    let text = declared_in source in
    let names = breaking SurplusName (flat_map surplus_name (enumerations_in source)) in
    let declarings = flat_map (wrong_declaring text) (declarings_in source) in
    let elements = flat_map (wrong_element text) (arrays_in source) in
    let results = flat_map (wrong_result text) (results_in source) in
    let bounds = flat_map wrong_bound_numbers (arrays_in source) in
    let priorities = breaking PriorityTooGreat (flat_map wrong_priorities_of source) in
    let a = append_parts ((wrong_declarations source ++ wrong_types source) ++ wrong_starts source)
    (wrong_bodies source) h in
    let b = append_parts (wrong_declarations source ++ wrong_types source) (wrong_starts source) a.0 in
    let c = append_parts (wrong_declarations source) (wrong_types source) b.0 in
    let d = append_parts ((((names ++ declarings) ++ elements) ++ results) ++ bounds) priorities c.1 in
    let e = append_parts (((names ++ declarings) ++ elements) ++ results) bounds d.0 in
    let f = append_parts ((names ++ declarings) ++ elements) results e.0 in
    let g = append_parts (names ++ declarings) elements f.0 in
    let i = append_parts names declarings g.0 in
    none_mapped (breaks SurplusName) (flat_map surplus_name (enumerations_in source)) i.0

-- the layout of a text as it is parsed
abbrev pub parsed_slots : Source → List Slot
parsed_slots source = slots_of (declared_in source)
    (variables_of_configuration (declared_in source) (only_configuration (configurations_in source)))

words_of : (good : Kind → Bool) (ls : List Slot) → list_all (is_plain_slot good) ls ≡ true
    → list_all (λ l. is_word_path l.path) ls ≡ true
words_of good [] h = refl
words_of good (l ∷ ls) h =
    let b = and_parts (is_plain_slot good l) (list_all (is_plain_slot good) ls) h in
    and_from (is_word_path l.path) (list_all (λ l. is_word_path l.path) ls)
    (and_parts (is_word_path l.path) (good l.kind) b.0).0 (words_of good ls b.1)

-- the laws of layouts about its slots
pub record HasSlots (source : Source) : Type 0 where
  pub parsed : slots_of_text source ≡ parsed_slots source
  pub variables : map variable_slot (plan_variables_of_text source) ≡ variable_slots (slots_of_text source)

pub text_words : (source : Source) → is_plain source ≡ true → slots_of_text source ≡ parsed_slots source
    → list_all (λ l. is_word_path l.path) (slots_of_text source) ≡ true
text_words source h same =
    ap (list_all (λ l. is_word_path l.path)) same
    ∙ words_of (λ k. true) (parsed_slots source) (layout_plain (λ k. true) source h (λ k e. refl) (λ x e g. refl))

pub text_lines : (source : Source) → is_plain source ≡ true → IsWellTyped source → HasSlots source
    → list_all (has_line (enumerations_of_text source)) (plan_variables_of_text source) ≡ true
text_lines source h typed slots =
    let types = enumerations_of_text source in
    variable_lines types (λ l. not l.is_input) (plan_variables_of_text source) (slots_of_text source) slots.variables
    (ap (list_all (is_plain_slot (has_spelling types))) slots.parsed
    ∙ layout_plain (has_spelling types) source h (elementary_spelled types)
    (λ x e is. ap (λ names. has_spelling names (kind_of_enumeration e)) (names_taken source)
    ∙ enumeration_spelled (types_in source) (sound_names source (no_surplus source typed) h) x e is))

pub slots_apart : (source : Source) → is_plain source ≡ true → IsLayout (slots_of_text source)
    → slots_of_text source ≡ parsed_slots source
    → are_different (map (λ l. path_text l.path) (slots_of_text source)) ≡ true
slots_apart source h layout same = layout_apart (slots_of_text source) (text_words source h same) layout

pub texts_apart : (source : Source) → is_plain source ≡ true → IsLayout (slots_of_text source) → HasSlots source
    → are_different (map (λ v. path_text v.path) (plan_variables_of_text source)) ≡ true
texts_apart source h layout slots =
    ap are_different (sym (map_map (λ l. path_text l.path) variable_slot (plan_variables_of_text source))
    ∙ ap (map (λ l. path_text l.path)) slots.variables)
    ∙ filtered_apart (λ l. not l.is_input) (slots_of_text source) (slots_apart source h layout slots.parsed)
