-- The variables of a call of a function are the slots of its layout with their initial values.
use Rattle.std.proofs.Common.{◌≡◌, Bool, false, not, ◌&&◌, if◌then◌else◌, List, [], ◌∷◌, ◌++◌, map}
use Rattle.std.proofs.Common.{None, refl, sym, ap, ap₂, ◌∙◌, subst}
use Rattle.std.specs.List.{list_all}
use Rattle.st_types.specs.Kinds.{holds}
use Rattle.st_types.specs.Values.{Datum}
use Rattle.st_types.specs.declared.data_type.SimpleType.{SimpleType}
use Rattle.st_types.specs.Units.{OrganisationUnit}
use Rattle.st_types.specs.Sources.{Source}
use Rattle.st_meaning.specs.NameTypes.{Declared, declared_in}
use Rattle.st_meaning.specs.ResolvedUnits.{resolved}
use Rattle.st_meaning.specs.Slots.{Slot, variables_with, inputs_in}
use Rattle.st_meaning.specs.Stores.{all_held}
use Rattle.st_meaning.specs.Layouts.{variable_slot}
use Rattle.st_meaning.specs.declared.plan.PlanVariable.{PlanVariable}
use Rattle.layout.specs.Shapes.{Leaf}
use Rattle.layout.specs.Types.{NamedSite, sites_of_blocks}
use Rattle.layout.specs.LayoutVariables.{Owned, owned_variable, declared_of}
use Rattle.layout.specs.Libraries.{result_site, fresh_values}
use Rattle.layout.specs.TextLayouts.{leaves_of_variable, slot_of_leaf, slots_of_variable, slots_of, plan_variables_of}
use Rattle.layout.specs.TextLayouts.{variable_slots, initial_values}
use Rattle.layout.proofs.OwnPaths.{filter_append}
use Rattle.layout.proofs.ResolvedLemmas.{taken_text, typed, taking, blocks_typed, key, taken_variables}
use Rattle.layout.proofs.ResolvedLemmas.{slots_are, slots_by, same_slots}
use Rattle.layout.proofs.StoreLemmas.{variables_by_slots, initial_values_held}
use Rattle.st_link.specs.Homes.{AreValuesOf}
use Rattle.st_link.specs.WellTypedRuns.{call_variables}
use Rattle.st_link.proofs.TakenBodies.{text_taken}

-- the sites of a call's variables
abbrev pub call_sites : SimpleType → OrganisationUnit → List NamedSite
call_sites t u = result_site t u.name.name ∷ sites_of_blocks u.blocks

-- the slots don't depend on literals
pub call_slots : (source : Source) (t : SimpleType) (u : OrganisationUnit)
    → slots_of (declared_of source) (call_variables t (resolved (declared_in source) u))
    ≡ slots_of (declared_in source) (call_variables t u)
call_slots source t u =
    let text = declared_in source in
    let v = resolved text u in
    let names : map typed (call_sites t v) ≡ map taking (map typed (call_sites t u)) =
    ap (λ es. typed (result_site t u.name.name) ∷ es) (blocks_typed text u.blocks) in
    ap (λ (d : Declared). slots_of d (call_variables t v)) (text_taken source)
    ∙ slots_are (taken_text text) (call_variables t v)
    ∙ ap (slots_by (taken_text text)) (taken_variables None (call_sites t v) (call_sites t u) names)
    ∙ same_slots text (map key (call_variables t u)) ∙ sym (slots_are text (call_variables t u))

-- none of them is an input
leaf_slots : (v : Owned) (ls : List Leaf) → v.is_input ≡ false
    → variable_slots (map (slot_of_leaf v) ls) ≡ map (slot_of_leaf v) ls
leaf_slots v [] h = refl
leaf_slots v (l ∷ ls) h =
    ap (λ (b : Bool). if not b then slot_of_leaf v l ∷ variable_slots (map (slot_of_leaf v) ls)
    else variable_slots (map (slot_of_leaf v) ls)) h
    ∙ ap (λ xs. slot_of_leaf v l ∷ xs) (leaf_slots v ls h)

own_slots : (text : Declared) (ds : List NamedSite)
    → variable_slots (slots_of text (map (owned_variable None) ds)) ≡ slots_of text (map (owned_variable None) ds)
own_slots text [] = refl
own_slots text (d ∷ ds) =
    let v = owned_variable None d in
    filter_append (λ l. not l.is_input) (slots_of_variable text v) (slots_of text (map (owned_variable None) ds))
    ∙ ap₂ (λ xs ys. xs ++ ys) (leaf_slots v (leaves_of_variable text v) refl) (own_slots text ds)

-- plan variables as slots with values
abbrev pub values_of : List PlanVariable → List Datum
values_of ps = map (λ p. p.initial) ps

as_variables : (ps : List PlanVariable) → initial_values ps ≡ variables_with (map variable_slot ps) (values_of ps)
as_variables [] = refl
as_variables (p ∷ ps) = ap (λ s. (p.path, p.initial) ∷ s) (as_variables ps)

no_inputs : (ps : List PlanVariable) → inputs_in (map variable_slot ps) (values_of ps) ≡ []
no_inputs [] = refl
no_inputs (p ∷ ps) = no_inputs ps

all_kinds : (ps : List PlanVariable) → map (λ v. v.kind) (values_of ps) ≡ map (λ l. l.kind) (map variable_slot ps)
all_kinds [] = refl
all_kinds (p ∷ ps) = ap (λ ks. p.initial.kind ∷ ks) (all_kinds ps)

same_held : (ps : List PlanVariable)
    → list_all (λ (v : Datum). holds v.kind v.number) (values_of ps) ≡ all_held (initial_values ps)
same_held [] = refl
same_held (p ∷ ps) = ap (λ b. holds p.initial.kind p.initial.number && b) (same_held ps)

-- the variables of a call over the slots of the text as it is parsed
pub record CallStands (source : Source) (t : SimpleType) (u : OrganisationUnit) : Type 0 where
  pub values : List Datum
  pub are : AreValuesOf (slots_of (declared_in source) (call_variables t u)) values
  pub fresh : fresh_values (declared_of source) (call_sites t (resolved (declared_in source) u))
      ≡ variables_with (slots_of (declared_in source) (call_variables t u)) values
  pub image : [] ≡ inputs_in (slots_of (declared_in source) (call_variables t u)) values

pub call_stands : (source : Source) (t : SimpleType) (u : OrganisationUnit) → CallStands source t u
call_stands source t u =
    let v = resolved (declared_in source) u in
    let ps = plan_variables_of (declared_of source) (call_variables t v) in
    let is : map variable_slot ps ≡ slots_of (declared_in source) (call_variables t u) =
    variables_by_slots (declared_of source) (call_variables t v) ∙ own_slots (declared_of source) (call_sites t v)
    ∙ call_slots source t u in
    record {
      values = values_of ps;
      are = subst (λ (ls : List Slot). AreValuesOf ls (values_of ps)) is (record {
        types = all_kinds ps;
        held = same_held ps ∙ initial_values_held (declared_of source) (call_variables t v);
      });
      fresh = as_variables ps ∙ ap (λ (ls : List Slot). variables_with ls (values_of ps)) is;
      image = sym (no_inputs ps) ∙ ap (λ (ls : List Slot). inputs_in ls (values_of ps)) is;
    }
