-- Consequences of a text breaking no rule.
use Rattle.std.proofs.Common.{◌≡◌, subst, true, List, [], ◌++◌, Option, Some}
use Rattle.std.specs.Prelude.{is_some, IsSome}
use Rattle.std.specs.List.{flat_map, list_all}
use Rattle.st_types.specs.declared.kind.Kind.{Kind}
use Rattle.st_types.specs.Units.{OrganisationUnit}
use Rattle.st_types.specs.Sources as sources
use Rattle.st_types.specs.Sources.{Source}
use Rattle.st_meaning.specs.StandardBlocks.{inputs_of, outputs_of}
use Rattle.st_meaning.specs.Scopes.{Name}
use Rattle.st_meaning.specs.NameTypes.{declared_in, unit_named, is_input, is_output}
use Rattle.st_rules.specs.declared.reason.Reason.TheVariants.{RetainedAddress, SurplusName, PriorityTooGreat}
use Rattle.st_rules.specs.Faults.{breaking}
use Rattle.st_rules.specs.TwiceDeclared.{twice_declared}
use Rattle.st_rules.specs.DeclaredTypes.{declarings_in, arrays_in, results_in, enumerations_in}
use Rattle.st_rules.specs.TypeRules.{wrong_declaring, wrong_element, wrong_result, wrong_bound_numbers, wrong_bounds}
use Rattle.st_rules.specs.TypeRules.{retained_addresses_of, surplus_name, wrong_priorities_of}
use Rattle.st_rules.specs.InitialRules.{too_long}
use Rattle.st_rules.specs.Containment.{too_deep}
use Rattle.st_rules.specs.Environments.{own, callee_of}
use Rattle.st_rules.specs.BodyRules.{wrong_body}
use Rattle.st_rules.specs.Rules.{environment, starts_in, wrong_declarations, wrong_types, wrong_starts, wrong_bodies}
use Rattle.st_rules.specs.Rules.{IsWellTyped}
use Rattle.st_link.specs.Soundness.{AreKnown}
use Rattle.st_link.proofs.Among.{Among, none_of}
use Rattle.st_link.proofs.FoundNames.{unit_found, unit_in}
use Rattle.st_link.proofs.FoundFunctions.{own_function}
use Rattle.st_link.proofs.KnownTypes.{TypesRight, types_known, member_sound, sound_known}
use Rattle.st_link.proofs.KnownFunctions.{inputs_have_kinds, result_has_kind}
use Rattle.st_link.proofs.ApartNames.{NamesRight, names_right}
use Rattle.st_link.proofs.NoInstances.{functions_have_none}
use Rattle.st_link.proofs.TextParts.{RightText}
use Rattle.st_types.proofs.ListLemmas.{append_first, append_second}

-- consequences of the first rules on declarations
record DeclarationsRight (source : Source) : Type 0 where
  pub names : NamesRight source
  pub deep : too_deep source ≡ []

declarations_right : (source : Source) → wrong_declarations source ≡ [] → DeclarationsRight source
declarations_right source h =
    let twice = twice_declared source in
    let deep = too_deep source in
    let bounds = flat_map wrong_bounds (arrays_in source) in
    let long = flat_map (too_long (declared_in source)) (starts_in source) in
    let addresses = breaking RetainedAddress (flat_map retained_addresses_of source) in
    let front = append_first (twice ++ deep) bounds (append_first ((twice ++ deep) ++ bounds) long
    (append_first (((twice ++ deep) ++ bounds) ++ long) addresses h)) in
    record {
      names = names_right source (append_first twice deep front);
      deep = append_second twice deep front;
    }

types_right : (source : Source) → wrong_types source ≡ [] → TypesRight source
types_right source h =
    let text = declared_in source in
    let names = breaking SurplusName (flat_map surplus_name (enumerations_in source)) in
    let declarings = flat_map (wrong_declaring text) (declarings_in source) in
    let elements = flat_map (wrong_element text) (arrays_in source) in
    let results = flat_map (wrong_result text) (results_in source) in
    let bounds = flat_map wrong_bound_numbers (arrays_in source) in
    let priorities = breaking PriorityTooGreat (flat_map wrong_priorities_of source) in
    let to_bounds = append_first ((((names ++ declarings) ++ elements) ++ results) ++ bounds) priorities h in
    let to_results = append_first (((names ++ declarings) ++ elements) ++ results) bounds to_bounds in
    let to_elements = append_first ((names ++ declarings) ++ elements) results to_results in
    record {
      declarings = append_second names declarings (append_first (names ++ declarings) elements to_elements);
      elements = append_second (names ++ declarings) elements to_elements;
      results = append_second ((names ++ declarings) ++ elements) results to_results;
    }

-- the parts of a text that breaks no rule
pub record PartsRight (source : Source) : Type 0 where
  pub names : NamesRight source
  pub deep : too_deep source ≡ []
  pub types : TypesRight source
  pub bodies : wrong_bodies source ≡ []

pub parts_right : (source : Source) → IsWellTyped source → PartsRight source
parts_right source h =
    let a = wrong_declarations source in
    let b = wrong_types source in
    let c = wrong_starts source in
    let d = wrong_bodies source in
    let front = append_first (a ++ b) c (append_first ((a ++ b) ++ c) d h) in
    let declarations = declarations_right source (append_first a b front) in
    record {
      names = declarations.names;
      deep = declarations.deep;
      types = types_right source (append_second a b front);
      bodies = append_second ((a ++ b) ++ c) d h;
    }

pub unit_there : (source : Source) (x : Name) (u : OrganisationUnit) → unit_named (declared_in source).units x ≡ Some u
    → Among (sources.unit u) source
unit_there source x u is = unit_in source u (unit_found (declared_in source).units x u is).among

inputs_there : (source : Source) → TypesRight source → (d : OrganisationUnit) (f : Name) (inputs : List (Option Kind))
    (o : Option Kind) → callee_of (environment (declared_in source) d) f ≡ Some (own inputs o)
    → list_all is_some inputs ≡ true
inputs_there source right d f inputs o h =
    let g = own_function (declared_in source) d f inputs o h in
    subst (λ (ks : List (Option Kind)). list_all is_some ks ≡ true) g.takes
    (inputs_have_kinds source right g.unit (unit_there source f g.unit g.declared))

result_there : (source : Source) → TypesRight source → (d : OrganisationUnit) (f : Name) (inputs : List (Option Kind))
    (o : Option Kind) → callee_of (environment (declared_in source) d) f ≡ Some (own inputs o) → IsSome o
result_there source right d f inputs o h =
    let g = own_function (declared_in source) d f inputs o h in
    subst (λ (k : Option Kind). IsSome k) g.gives
    (result_has_kind source right g.unit g.result (unit_there source f g.unit g.declared) g.sort)

units_known : (source : Source) → TypesRight source → (u : OrganisationUnit) → Among (sources.unit u) source
    → AreKnown (environment (declared_in source) u)
units_known source right u unit = record {
  types = types_known source right u unit;
  inputs = inputs_there source right u;
  results = result_there source right u;
}

pub text_right : (source : Source) → IsWellTyped source → RightText (declared_in source)
text_right source h =
    let text = declared_in source in
    let right = parts_right source h in
    record {
      bodies = λ x u is.
          none_of (λ d. wrong_body (environment text d)) (unit_found text.units x u is).among right.bodies;
      known = λ x u is. units_known source right.types u (unit_there source x u is);
      inputs = λ b y t is. sound_known text t (member_sound source right.types inputs_of is_input b y t is);
      outputs = λ b y t is. sound_known text t (member_sound source right.types outputs_of is_output b y t is);
      functions = λ f u t is sort.
          functions_have_none source right.types right.names u (unit_there source f u is) t sort;
    }
