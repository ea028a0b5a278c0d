-- The faults in declared types, from their parts.
use Rattle.std.proofs.Common.{◌≡◌, sym, ap, subst, ◌∙◌, ℕ, [], ◌∷◌, ◌++◌, Bool, true, false, ◌&&◌, ◌||◌, Option}
use Rattle.std.proofs.Common.{if◌then◌else◌}
use Rattle.std.specs.Prelude.{is_some, option_map}
use Rattle.std.specs.List.{flat_map}
use Rattle.st_types.specs.declared.identifier.Identifier.{Identifier}
use Rattle.st_types.proofs.OptionLemmas.{is_some_mapped}
use Rattle.st_types.specs.Sources.{Source}
use Rattle.st_meaning.specs.NameTypes.{Declared, declared_in, type_named, unit_named}
use Rattle.st_meaning.specs.StandardFunctions.{standard_of}
use Rattle.st_rules.specs.declared.broken_rules.BrokenRules.{BrokenRules}
use Rattle.st_rules.specs.declared.reason.Reason.{Reason}
use Rattle.st_rules.specs.declared.reason.Reason.TheVariants.{NotType, PriorityTooGreat, SurplusName, Undeclared}
use Rattle.st_rules.specs.Collecting.{Collects}
use Rattle.st_rules.specs.DeclaredTypes.{arrays_in, declarings_in, results_in}
use Rattle.st_rules.specs.Environments.{is_block}
use Rattle.st_rules.specs.Faults.{breaking}
use Rattle.st_rules.specs.TypeRules.{surplus_name, wrong_bound_numbers, wrong_declaring, wrong_element, wrong_result}
use Rattle.st_rules.specs.TypeRules.{wrong_named, wrong_priorities_of}
use Rattle.st_rules.proofs.CollectLemmas.{collects_both, collects_is, collects_same}
use Rattle.st_decl.specs.Entries.{of_each, declaring_of, array_of, result_of, enumeration_of, priorities_of, entries_in}
use Rattle.st_check.specs.Surplus.{is_cons, surplus_names, types_beside_surplus}
use Rattle.st_decl.proofs.EntryLemmas.{arrays_to_rules, arrays_from_rules, breaking_flat}
use Rattle.st_check.proofs.EntryLemmas.{each_declaring_is, each_result_is, each_enumeration_is, priorities_are}

pub is_started : {A B : Type 0} (f : A → B) (o : Option A) (b : Bool)
    → (b && is_some o) ≡ (b && is_some (option_map f o))
is_started f o b = ap (λ c. b && c) (is_some_mapped f o)

-- whether something has a name, as the code knows it
pub is_told : {A B : Type 0} (f : A → B) (o : Option A) (p : Option B) (test value : Bool) → option_map f o ≡ p
    → test ≡ is_some o → test ≡ value → is_some p ≡ value
is_told f o p test value is told known = ap is_some (sym is) ∙ sym (is_some_mapped f o) ∙ sym told ∙ known

-- a name that is neither a type's nor a block's
by_stands : (stands : Bool) (reason : Reason) (at : ℕ) (old new : BrokenRules)
    → reason ≡ (if stands then NotType else Undeclared) → Collects (breaking reason (at ∷ [])) old new
    → Collects (if stands then breaking NotType (at ∷ []) else breaking Undeclared (at ∷ [])) old new
by_stands true reason at old new why h = subst (λ r. Collects (breaking r (at ∷ [])) old new) why h
by_stands false reason at old new why h = subst (λ r. Collects (breaking r (at ∷ [])) old new) why h

pub other_named : (text : Declared) (blocks : Bool) (x : Identifier) (stands : Bool) (reason : Reason)
    (old new : BrokenRules) → is_some (type_named text.types x.name) ≡ false → is_block text x.name ≡ false
    → stands ≡ (is_some (unit_named text.units x.name) || is_some (standard_of x.name))
    → reason ≡ (if stands then NotType else Undeclared) → Collects (breaking reason (x.place ∷ [])) old new
    → Collects (wrong_named text blocks x) old new
other_named text blocks x stands reason old new no_type no_block told why h =
    rw (no_type, no_block, sym told) (by_stands stands reason x.place old new why h)

-- the searches over the list of all declarations
pub types_collected : (s : Source) (a b c d e f : BrokenRules)
    → Collects (flat_map (λ x. of_each (wrong_declaring (declared_in s)) (declaring_of x)) (entries_in s)) a b
    → Collects (flat_map (λ x. of_each (wrong_element (declared_in s)) (array_of x)) (entries_in s)) b c
    → Collects (flat_map (λ x. of_each (wrong_result (declared_in s)) (result_of x)) (entries_in s)) c d
    → Collects (flat_map (λ x. of_each wrong_bound_numbers (array_of x)) (entries_in s)) d e
    → Collects (flat_map (λ x. breaking PriorityTooGreat (priorities_of x)) (entries_in s)) e f
    → Collects (types_beside_surplus s) a f
types_collected s a b c d e f declared element result bound priority =
    let text = declared_in s in
    let ds = flat_map (wrong_declaring text) (declarings_in s) in
    let es = flat_map (wrong_element text) (arrays_in s) in
    let rs = flat_map (wrong_result text) (results_in s) in
    let bs = flat_map wrong_bound_numbers (arrays_in s) in
    let ps = breaking PriorityTooGreat (flat_map wrong_priorities_of s) in
    collects_both (ds ++ es ++ rs ++ bs) ps a e f
    (collects_both (ds ++ es ++ rs) bs a d e
    (collects_both (ds ++ es) rs a c d
    (collects_both ds es a b c (collects_is _ ds a b (each_declaring_is (wrong_declaring text) s) declared)
    (collects_same _ es b c (arrays_to_rules (wrong_element text) s)
    (arrays_from_rules (wrong_element text) s) element))
    (collects_is _ rs c d (each_result_is (wrong_result text) s) result))
    (collects_same _ bs d e (arrays_to_rules wrong_bound_numbers s) (arrays_from_rules wrong_bound_numbers s) bound))
    (collects_is _ ps e f
    (sym (breaking_flat PriorityTooGreat priorities_of (entries_in s))
    ∙ ap (breaking PriorityTooGreat) (priorities_are s))
    priority)

pub surplus_collected : (s : Source) (old new : BrokenRules)
    → Collects (flat_map (λ x. breaking SurplusName (of_each surplus_name (enumeration_of x))) (entries_in s)) old new
    → Collects (breaking SurplusName (surplus_names s)) old new
surplus_collected s old new h =
    collects_is _ (breaking SurplusName (surplus_names s)) old new
    (sym (breaking_flat SurplusName (λ x. of_each surplus_name (enumeration_of x)) (entries_in s))
    ∙ ap (breaking SurplusName) (each_enumeration_is surplus_name s)) h

pub surplus_seen : (s : Source) (found : Bool)
    → found ≡ is_cons (flat_map (λ x. of_each surplus_name (enumeration_of x)) (entries_in s))
    → found ≡ is_cons (surplus_names s)
surplus_seen s found h = h ∙ ap is_cons (each_enumeration_is surplus_name s)
