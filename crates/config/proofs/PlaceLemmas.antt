-- Where the instances of known programs run.
use Rattle.std.proofs.Common.{◌≡◌, ◌+◌, ℕ, suc, refl, sym, ap, ap₂, ◌∙◌, subst, arith, Bool, true, false}
use Rattle.std.proofs.Common.{List, [], ◌∷◌, ◌++◌, map, length, slice_get, Option, Some, None, option_map}
use Rattle.std.proofs.Common.{append_assoc}
use Rattle.std.specs.Prelude.{◌==◌, is_some}
use Rattle.std.specs.List.{flat_map, list_all}
use Rattle.std.specs.Option.{unwrap_or}
use Rattle.std.proofs.lemmas.Bool.Decides.{nat_tests}
use Rattle.st_types.specs.declared.identifier.Identifier.{Identifier}
use Rattle.st_types.specs.declared.path.Owner.{Owner}
use Rattle.st_types.specs.declared.configuration.Instance.{Instance}
use Rattle.st_types.specs.declared.configuration.Task as declared_task
use Rattle.st_types.specs.declared.unit.UnitSort.{UnitSort}
use Rattle.st_types.specs.declared.unit.UnitSort.TheVariants as sorts
use Rattle.st_types.specs.Configurations.{Resource}
use Rattle.st_types.specs.Sources.{Source}
use Rattle.st_types.specs.Units.{OrganisationUnit}
use Rattle.st_meaning.specs.NameTypes.{Declared, declared_in, is_named, unit_named}
use Rattle.st_meaning.specs.ResolvedUnits.{resolved}
use Rattle.st_meaning.specs.Runs.{Program}
use Rattle.st_meaning.specs.Scopes.{Name}
use Rattle.st_rules.specs.ConfigurationRules.{is_known_task, is_known_instance, is_program_unit}
use Rattle.st_meaning.specs.declared.plan.PlanInput.{PlanInput}
use Rattle.st_meaning.specs.declared.plan.PlanVariable.{PlanVariable}
use Rattle.layout.specs.LayoutVariables.{owner_in, declared_of}
use Rattle.layout.specs.Libraries.{program_by_sort, program_if_there, programs_of_instances, programs_of_resources}
use Rattle.st_link.proofs.TakenBodies.{unit_taken}
use Rattle.plan.specs.declared.task.Task.{Task}
use Rattle.plan.specs.Sound.{is_of_resource}
use Rattle.config.specs.declared.places.Place.{Place}
use Rattle.config.specs.Places.{task_number, place_of, places_from}
use Rattle.config.specs.Tasks.{task_at, tasks_from}
use Rattle.config.proofs.ListLemmas.{length_both}
use Rattle.config.proofs.ListLemmas.{get_right, first_there}
use Rattle.std.proofs.lemmas.Bool.{and_parts, and_from}
use Rattle.st_types.proofs.ListLemmas.{all_append, map_map, get_first, length_map}
use Rattle.std.proofs.lemmas.List.{map-append}
use Rattle.std.proofs.lemmas.Option.{slice_get-map}
use Rattle.st_types.proofs.TestLemmas.{same_number}

-- ---- each instance has a program

abbrev pub owners_on : Resource → List Owner
owners_on r = map (owner_in r.name.name) r.instances

abbrev pub owners_in : List Resource → List Owner
owners_in rs = flat_map owners_on rs

module _ (source : Source) where
  abbrev text : Declared
  text = declared_in source

  abbrev whole : Declared
  whole = declared_of source

  one_program : (owner : Owner) (x : Name) → is_program_unit (unit_named text.units x) ≡ true
      → map (λ (p : Program). p.owner) (program_if_there whole owner (unit_named whole.units x)) ≡ owner ∷ []
  one_program owner x known = by_unit (unit_named text.units x) refl known
    where
      by_sort : (u : OrganisationUnit) → unit_named text.units x ≡ Some u → (s : UnitSort) → u.sort ≡ s
          → is_program_unit (Some u) ≡ true
          → map (λ (p : Program). p.owner) (program_if_there whole owner (unit_named whole.units x)) ≡ owner ∷ []
      by_sort u e (sorts.Function t) s k = let f : true ≡ false = sym k ∙ rw s refl in absurd (cc)
      by_sort u e sorts.FunctionBlock s k = let f : true ≡ false = sym k ∙ rw s refl in absurd (cc)
      by_sort u e sorts.Program s k =
          ap (λ o. map (λ (p : Program). p.owner) (program_if_there whole owner o)) (unit_taken source x u e)
          ∙ ap (λ z. map (λ (p : Program). p.owner) (program_by_sort whole owner z (resolved text u))) s

      by_unit : (o : Option OrganisationUnit) → unit_named text.units x ≡ o → is_program_unit o ≡ true
          → map (λ (p : Program). p.owner) (program_if_there whole owner (unit_named whole.units x)) ≡ owner ∷ []
      by_unit None e k = absurd (cc)
      by_unit (Some u) e k = by_sort u e u.sort refl k

  programs_on : (resource : Name) (tasks : List declared_task.Task) (is : List Instance)
      → list_all (is_known_instance text tasks) is ≡ true
      → map (λ (p : Program). p.owner) (programs_of_instances whole resource is) ≡ map (owner_in resource) is
  programs_on resource tasks [] known = refl
  programs_on resource tasks (i ∷ is) known =
      let b = and_parts (is_known_instance text tasks i) (list_all (is_known_instance text tasks) is) known in
      let p = and_parts (is_known_task tasks i.task) (is_program_unit (unit_named text.units i.program.name)) b.0 in
      let here = program_if_there whole (owner_in resource i) (unit_named whole.units i.program.name) in
      map-append (λ (q : Program). q.owner) here (programs_of_instances whole resource is)
      ∙ ap₂ (λ (xs ys : List Owner). xs ++ ys) (one_program (owner_in resource i) i.program.name p.1)
      (programs_on resource tasks is b.1)

  -- the programs of a text are those of the instances, one of each
  pub owners_of_programs : (rs : List Resource)
      → list_all (λ r. list_all (is_known_instance text r.tasks) r.instances) rs ≡ true
      → map (λ (p : Program). p.owner) (programs_of_resources whole rs) ≡ owners_in rs
  owners_of_programs [] known = refl
  owners_of_programs (r ∷ rs) known =
      let b = and_parts (list_all (is_known_instance text r.tasks) r.instances)
      (list_all (λ q. list_all (is_known_instance text q.tasks) q.instances) rs) known in
      map-append (λ (q : Program). q.owner) (programs_of_instances whole r.name.name r.instances)
      (programs_of_resources whole rs)
      ∙ ap₂ (λ (xs ys : List Owner). xs ++ ys) (programs_on r.name.name r.tasks r.instances b.0)
      (owners_of_programs rs b.1)

-- and so are the places
pub owners_of_places : (number first : ℕ) (rs : List Resource)
    → map (λ (p : Place). p.owner) (places_from number first rs) ≡ owners_in rs
owners_of_places number first [] = refl
owners_of_places number first (r ∷ rs) =
    map-append (λ (p : Place). p.owner) (map (place_of number first r) r.instances)
    (places_from (suc number) (first + length r.tasks) rs)
    ∙ ap₂ (λ (xs ys : List Owner). xs ++ ys) (map_map (λ (p : Place). p.owner) (place_of number first r) r.instances)
    (owners_of_places (suc number) (first + length r.tasks) rs)

-- as many as there are instances
pub places_counted : (number first : ℕ) (rs : List Resource)
    → length (places_from number first rs) ≡ length (flat_map (λ r. r.instances) rs)
places_counted number first [] = refl
places_counted number first (r ∷ rs) =
    length_both (map (place_of number first r) r.instances) (places_from (suc number) (first + length r.tasks) rs)
    ∙ ap₂ (λ n m. n + m) (length_map (place_of number first r) r.instances)
    (places_counted (suc number) (first + length r.tasks) rs)
    ∙ sym (length_both r.instances (flat_map (λ q. q.instances) rs))

-- ---- each instance runs in a task of its resource

abbrev pub runs_in : List Task → Place → Bool
runs_in tasks p = is_of_resource p.resource (slice_get tasks p.task)

module _ (vs : List PlanVariable) (is : List PlanInput) where
  -- the task of an instance is known, so it has a number
  task_there : (tasks : List declared_task.Task) (o : Option Identifier) → is_known_task tasks o ≡ true
      → is_some o ≡ true
      → (k : ℕ) × (t : declared_task.Task) × (task_number tasks o ≡ Some k) × (slice_get tasks k ≡ Some t)
  task_there tasks None known some = absurd (cc)
  task_there tasks (Some x) known some =
      let f = first_there (λ (t : declared_task.Task). is_named x.name t.name) tasks known in
      (f.number, f.one, f.is, f.at)

  places_on : (before behind : List Task) (number : ℕ) (r : Resource) (xs : List Instance)
      → list_all (λ (i : Instance). is_known_task r.tasks i.task) xs ≡ true
      → list_all (λ (i : Instance). is_some i.task) xs ≡ true
      → list_all (runs_in (before ++ (map (task_at vs is number) r.tasks ++ behind)))
      (map (place_of number (length before) r) xs) ≡ true
  places_on before behind number r [] known tasked = refl
  places_on before behind number r (i ∷ xs) known tasked =
      let own = map (task_at vs is number) r.tasks in
      let all = before ++ (own ++ behind) in
      let k = and_parts (is_known_task r.tasks i.task) (list_all (λ (j : Instance). is_known_task r.tasks j.task) xs) known in
      let t = and_parts (is_some i.task) (list_all (λ (j : Instance). is_some j.task) xs) tasked in
      let f = task_there r.tasks i.task k.0 t.0 in
      let there : slice_get own f.0 ≡ Some (task_at vs is number f.1) =
      slice_get-map (task_at vs is number) r.tasks f.0 ∙ ap (option_map (task_at vs is number)) f.3 in
      let found : slice_get all (length before + f.0) ≡ Some (task_at vs is number f.1) =
      get_right before (own ++ behind) f.0 ∙ get_first own behind f.0 (task_at vs is number f.1) there in
      let at : slice_get all (length before + unwrap_or (task_number r.tasks i.task) 0)
      ≡ Some (task_at vs is number f.1) =
      ap (λ o. slice_get all (length before + unwrap_or o 0)) f.2 ∙ found in
      let here : runs_in all (place_of number (length before) r i) ≡ true =
      ap (is_of_resource number) at ∙ same_number number in
      and_from (runs_in all (place_of number (length before) r i))
      (list_all (runs_in all) (map (place_of number (length before) r) xs)) here
      (places_on before behind number r xs k.1 t.1)

  pub places_run : (before : List Task) (number first : ℕ) (rs : List Resource) → first ≡ length before
      → list_all (λ r. list_all (λ (i : Instance). is_known_task r.tasks i.task) r.instances) rs ≡ true
      → list_all (λ r. list_all (λ (i : Instance). is_some i.task) r.instances) rs ≡ true
      → list_all (runs_in (before ++ tasks_from vs is number rs)) (places_from number first rs) ≡ true
  places_run before number first [] e known tasked = refl
  places_run before number first (r ∷ rs) e known tasked =
      let own = map (task_at vs is number) r.tasks in
      let behind = tasks_from vs is (suc number) rs in
      let k = and_parts (list_all (λ (i : Instance). is_known_task r.tasks i.task) r.instances)
      (list_all (λ q. list_all (λ (i : Instance). is_known_task q.tasks i.task) q.instances) rs) known in
      let t = and_parts (list_all (λ (i : Instance). is_some i.task) r.instances)
      (list_all (λ q. list_all (λ (i : Instance). is_some i.task) q.instances) rs) tasked in
      let here = places_on before behind number r r.instances k.0 t.0 in
      let n : first + length r.tasks ≡ length (before ++ own) =
      ap (λ m. m + length r.tasks) e ∙ ap (λ m. length before + m) (sym (length_map (task_at vs is number) r.tasks))
      ∙ sym (length_both before own) in
      let rest = places_run (before ++ own) (suc number) (first + length r.tasks) rs n k.1 t.1 in
      let joined : (before ++ own) ++ behind ≡ before ++ (own ++ behind) = append_assoc before own behind in
      all_append (runs_in (before ++ (own ++ behind))) (map (place_of number first r) r.instances)
      (places_from (suc number) (first + length r.tasks) rs)
      (subst (λ m. list_all (runs_in (before ++ (own ++ behind))) (map (place_of number m r) r.instances) ≡ true) (sym e)
      here)
      (subst (λ ts. list_all (runs_in ts) (places_from (suc number) (first + length r.tasks) rs) ≡ true) joined rest)
