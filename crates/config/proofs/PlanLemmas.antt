-- The plan that is made of a text is its plan, and a sound one.
use Rattle.std.proofs.Common.{◌≡◌, ◌+◌, ◌<◌, ◌≤◌, ℕ, zero, suc, refl, sym, ap, ap₂, ◌∙◌, subst, arith, Bool, true, false}
use Rattle.std.proofs.Common.{List, [], ◌∷◌, map, length, slice_get, Option, Some, None}
use Rattle.std.proofs.Common.{option_map, slice_index_or}
use Rattle.std.specs.Prelude.{nat_lt}
use Rattle.std.specs.List.{flat_map, list_all}
use Rattle.std.proofs.lemmas.Bool.Decides.{nat_tests}
use Rattle.st_types.specs.declared.identifier.Identifier.{Identifier}
use Rattle.st_types.specs.declared.path.Owner.{Owner}
use Rattle.st_types.specs.declared.limits.TheConstants.{MAX_PATHS, MAX_PROGRAMS, MAX_RECORD_BODY, MAX_RESOURCES}
use Rattle.st_types.specs.declared.configuration.Task as declared_task
use Rattle.st_types.specs.Configurations.{Configuration, Resource}
use Rattle.st_types.specs.Sources.{Source}
use Rattle.st_meaning.specs.NameTypes.{Declared, declared_in, types_in}
use Rattle.st_meaning.specs.Runs.{Program}
use Rattle.st_meaning.specs.Slots.{IsLayout}
use Rattle.st_rules.specs.ConfigurationRules.{is_known_instance, is_known_resource}
use Rattle.st_rules.specs.ConfigurationRules.{is_known_single}
use Rattle.st_link.proofs.WellTypedTexts.{parts_right}
use Rattle.st_meaning.specs.declared.plan.PlanInput.{PlanInput}
use Rattle.st_meaning.specs.declared.plan.PlanVariable.{PlanVariable}
use Rattle.st_meaning.specs.Layouts.{Enumerations, layout_of, path_text, record_length}
use Rattle.st_meaning.specs.Plans as plans
use Rattle.layout.specs.LayoutVariables.{configurations_in, only_configuration}
use Rattle.layout.specs.Libraries.{programs_of_text}
use Rattle.layout.specs.TextLayouts.{enumeration_names, enumerations_of_text, plan_inputs_of_text, plan_variables_of_text}
use Rattle.layout.specs.TextLayouts.{slots_of_text}
use Rattle.layout.proofs.ResolvedLemmas.{taken_configuration}
use Rattle.st_link.proofs.DifferentNames.{text_layout}
use Rattle.layout.specs.declared.slots.LayoutSlot.{LayoutSlot}
use Rattle.layout.specs.KeptLayouts.{slot_view, variables_among, inputs_among}
use Rattle.slot_code.specs.Codes.{CodeView, code_view}
use Rattle.slot_code.specs.Meanings.{Means}
use Rattle.slot_code.specs.Reads.{ReadsAsAsked}
use Rattle.plan.specs.declared.slots.SlotPlace.{SlotPlace}
use Rattle.plan.specs.declared.task.ProgramInstance.{ProgramInstance}
use Rattle.plan.specs.declared.task.Task.{Task}
use Rattle.plan.specs.Owners.{AreDistinguished}
use Rattle.plan.specs.PlanViews.{task_view, program_view}
use Rattle.plan.specs.SlotPlaces.{slots_among}
use Rattle.plan.specs.Sound.{has_line, is_of_resource, IsCodeOf}
use Rattle.plan.specs.Sound.{PlanInvariant}
use Rattle.plan.specs.Sources.{no_program, program_numbered, programs_of_tree}
use Rattle.config.specs.declared.places.Place.{Place}
use Rattle.plan.specs.NumberedSlots.{numbered_from}
use Rattle.config.specs.Places.{places_from}
use Rattle.config.specs.Programs.{CodedInstance, instance_view, instances_from}
use Rattle.config.specs.Readiness.{IsJudged, IsReady}
use Rattle.config.specs.Tasks.{tasks_from}
use Rattle.layout.specs.TypeNames.{names_in_text}
use Rattle.config.specs.TextPlans.{instance_at, instances_at, resources_in, resources_of, task_of}
use Rattle.config.specs.TextPlans.{IsPlanOf}
use Rattle.config.proofs.ApartNames.{names_apart}
use Rattle.config.proofs.ConfiguredLemmas.{configured, few, instances, known, only, owners_of_text, resources, tasked, tasks_known}
use Rattle.config.proofs.EnumerationLemmas.{names_are}
use Rattle.config.proofs.LayoutLemmas.{in_one_part, parts_are_layout}
use Rattle.config.proofs.ListLemmas.{all_get, mapped}
use Rattle.config.proofs.NumberedLemmas.{numbered, slots_are}
use Rattle.config.proofs.OwnerLemmas.{told_apart}
use Rattle.config.proofs.PlaceLemmas.{owners_in, owners_of_places, places_counted, places_run, runs_in}
use Rattle.config.proofs.SingleLemmas.{boolean_global}
use Rattle.config.proofs.TaskLemmas.{resources_there, tasks_are_few}
use Rattle.config.proofs.TriggerLemmas.{AllSingles, AreBoolean, AreSingles, singles_sound, tasks_viewed}
use Rattle.st_types.proofs.OptionLemmas.{some_is}
use Rattle.std.proofs.lemmas.Bool.{and_parts}
use Rattle.st_types.proofs.ListLemmas.{length_map}
use Rattle.std.proofs.lemmas.Option.{slice_get-map}
use Rattle.layout.specs.Names.{are_different}

-- ---- instances with their codes

-- the instance at a number
record InstanceAt (n k : ℕ) (ps : List Place) (cs : List CodeView) (v : CodedInstance) : Type 0 where
  place : slice_get ps k ≡ Some v.place
  code : slice_get cs k ≡ Some v.code
  number : v.number ≡ n + k

instance_there : (n k : ℕ) (ps : List Place) (cs : List CodeView) (v : CodedInstance)
    → slice_get (instances_from n ps cs) k ≡ Some v → InstanceAt n k ps cs v
instance_there n k ps [] v h = absurd (cc)
instance_there n k [] (c ∷ cs) v h = absurd (cc)
instance_there n zero (p ∷ ps) (c ∷ cs) v h =
    let e : ◌≡◌ {A = CodedInstance} record { place = p; number = n; code = c } v = some_is h in
    let m : n ≡ n + 0 = omega arith in
    record {
      place = ap (λ x. Some x.place) e;
      code = ap (λ x. Some x.code) e;
      number = sym (ap (λ x. x.number) e) ∙ m;
    }
instance_there n (suc k) (p ∷ ps) (c ∷ cs) v h =
    let r = instance_there (suc n) k ps cs v h in
    let m : suc n + k ≡ n + suc k = omega arith in
    record { place = r.place; code = r.code; number = r.number ∙ m }

at_number : (xs : List Program) (k : ℕ) (x d : Program) → slice_get xs k ≡ Some x → slice_index_or xs k d ≡ x
at_number [] k x d h = absurd (cc)
at_number (y ∷ xs) zero x d h = some_is h
at_number (y ∷ xs) (suc k) x d h = at_number xs k x d h

module _ (tree : Source) where
  viewed : (n : ℕ) (ps : List Place) (cs : List CodeView) (programs : List Program) (made : List ProgramInstance)
      → map instance_view made ≡ instances_from n ps cs
      → map (λ (p : Program). p.owner) programs ≡ map (λ (p : Place). p.owner) ps
      → ((k : ℕ) (p : Program) → slice_get programs k ≡ Some p → (c : CodeView) × (slice_get cs k ≡ Some c))
      → ((k : ℕ) (p : Program) → slice_get programs k ≡ Some p → program_numbered tree (n + k) ≡ p)
      → map (program_view tree) made ≡ instances_at ps programs
  viewed n [] [] programs [] h owners coded numbered = refl
  viewed n [] (c ∷ cs) programs [] h owners coded numbered = refl
  viewed n [] [] programs (m ∷ made) h owners coded numbered = absurd (cc)
  viewed n [] (c ∷ cs) programs (m ∷ made) h owners coded numbered = absurd (cc)
  viewed n (p ∷ ps) cs [] made h owners coded numbered = absurd (cc)
  viewed n (p ∷ ps) [] (q ∷ programs) made h owners coded numbered =
      let c = coded 0 q refl in let none : ◌≡◌ {A = Option CodeView} None (Some c.0) = c.1 in absurd (cc)
  viewed n (p ∷ ps) (c ∷ cs) (q ∷ programs) [] h owners coded numbered = absurd (cc)
  viewed n (p ∷ ps) (c ∷ cs) (q ∷ programs) (m ∷ made) h owners coded numbered =
      let first : ◌≡◌ {A = CodedInstance} (instance_view m) record { place = p; number = n; code = c } = heads h in
      let place : ◌≡◌ {A = Place} (record { owner = m.owner; resource = m.resource; task = m.task }) p =
      ap (λ (x : CodedInstance). x.place) first in
      let number : m.number ≡ n + 0 = ap (λ (x : CodedInstance). x.number) first ∙ omega arith in
      let program : program_numbered tree m.number ≡ q = ap (program_numbered tree) number ∙ numbered 0 q refl in
      let here : program_view tree m ≡ instance_at p q = ap₂ instance_at place program in
      ap₂ (λ (x : plans.ProgramInstance) (xs : List plans.ProgramInstance). x ∷ xs) here
      (viewed (suc n) ps cs programs made (tails h) (tails_of owners) (λ k x g. coded (suc k) x g)
      (λ k x g. let m : suc n + k ≡ n + suc k = omega arith in ap (program_numbered tree) m ∙ numbered (suc k) x g))
    where
      heads : {A : Type 0} {x y : A} {xs ys : List A} → x ∷ xs ≡ y ∷ ys → x ≡ y
      heads e = cc

      tails : {A : Type 0} {x y : A} {xs ys : List A} → x ∷ xs ≡ y ∷ ys → xs ≡ ys
      tails e = cc

      tails_of : {A : Type 0} {x y : A} {xs ys : List A} → x ∷ xs ≡ y ∷ ys → xs ≡ ys
      tails_of e = cc

-- ---- how many slots there are

parts_counted : (ss : List LayoutSlot) → length (variables_among ss) + length (inputs_among ss) ≡ length ss
parts_counted [] = refl
parts_counted (s ∷ ss) = by_sort s.is_input refl (parts_counted ss)
  where
    by_sort : (b : Bool) → s.is_input ≡ b → length (variables_among ss) + length (inputs_among ss) ≡ length ss
        → length (variables_among (s ∷ ss)) + length (inputs_among (s ∷ ss)) ≡ suc (length ss)
    by_sort true e h = rw e (omega arith)
    by_sort false e h = rw e (omega arith)

-- ---- a text that is ready

module _ (source tree : Source) (slots : List LayoutSlot) (codes : List CodeView) (budget : ℕ)
    (ready : IsReady source tree slots codes budget) where
  abbrev text : Declared
  text = declared_in source

  abbrev judged : IsJudged source
  judged = ready.judged

  abbrev c : Configuration
  c = judged.configured.configuration

  abbrev vs : List PlanVariable
  vs = variables_among slots

  abbrev is : List PlanInput
  is = inputs_among slots

  abbrev rs : List Resource
  rs = resources_of source

  -- the layout
  slots_viewed : map slot_view slots ≡ slots_of_text source
  slots_viewed = ready.layout.slots

  among : slots_among (numbered_from 0 0 slots) vs is ≡ slots_of_text source
  among = slots_are slots 0 0 ∙ slots_viewed

  pub layout_once : IsLayout (layout_of vs is)
  layout_once = parts_are_layout slots
      (subst IsLayout (sym slots_viewed) (text_layout source (parts_right source judged.well_typed).names.all))

  -- each SINGLE is a BOOL of the layout
  boolean : (o : Option Identifier) → is_known_single text c.globals o ≡ true → AreBoolean vs is o
  boolean None h = tt
  boolean (Some x) h =
      let b = boolean_global source judged.well_typed c (only source judged.configured) x h in
      let p = in_one_part slots b.number b.slot (ap (λ ls. slice_get ls b.number) slots_viewed ∙ b.at) in
      record { number = p.number; slot = b.slot; at = p.at; path = b.path; kind = b.kind }

  booleans : (ts : List declared_task.Task) → list_all (λ t. is_known_single text c.globals t.single) ts ≡ true
      → AreSingles vs is layout_once ts
  booleans [] h = tt
  booleans (t ∷ ts) h =
      let b = and_parts (is_known_single text c.globals t.single)
      (list_all (λ u. is_known_single text c.globals u.single) ts) h in
      (boolean t.single b.0, booleans ts b.1)

  all_boolean : (xs : List Resource) → list_all (is_known_resource text c.globals) xs ≡ true
      → AllSingles vs is layout_once xs
  all_boolean [] h = tt
  all_boolean (r ∷ xs) h =
      let b = and_parts (is_known_resource text c.globals r) (list_all (is_known_resource text c.globals) xs) h in
      let k = and_parts (list_all (is_known_instance text r.tasks) r.instances)
      (list_all (λ t. is_known_single text c.globals t.single) r.tasks) b.0 in
      (booleans r.tasks k.1, all_boolean xs b.1)

  singles : AllSingles vs is layout_once rs
  singles = subst (AllSingles vs is layout_once) (sym (resources source judged.configured))
      (all_boolean c.resources (known source judged.configured))

  owners : map (λ (p : Program). p.owner) (programs_of_text source)
      ≡ map (λ (p : Place). p.owner) (places_from 0 0 rs)
  owners = owners_of_text source judged.configured ∙ sym (owners_of_places 0 0 rs)

  numbered_program : (k : ℕ) (p : Program) → slice_get (programs_of_text source) k ≡ Some p
      → program_numbered tree (0 + k) ≡ p
  unfolding program_numbered
  numbered_program k p h =
      let m : 0 + k ≡ k = omega arith in
      ap (λ n. slice_index_or (programs_of_tree tree) n no_program) m
      ∙ ap (λ t. slice_index_or (programs_of_tree t) k no_program) ready.resolved
      ∙ at_number (programs_of_text source) k p no_program h

  coded : (k : ℕ) (p : Program) → slice_get (programs_of_text source) k ≡ Some p
      → (x : CodeView) × (slice_get codes k ≡ Some x)
  coded k p h = let m = ready.codes_are k p h in (m.code, m.is)

  pub programs_viewed : (made : List ProgramInstance) → map instance_view made ≡ instances_from 0 (places_from 0 0 rs) codes
      → map (program_view tree) made ≡ instances_at (places_from 0 0 rs) (programs_of_text source)
  programs_viewed made h =
      viewed tree 0 (places_from 0 0 rs) codes (programs_of_text source) made h owners coded numbered_program

  pub record IsMade (made : List ProgramInstance) (k : ℕ) (p : ProgramInstance) : Type 0 where
    pub code : IsCodeOf tree (slots_among (numbered_from 0 0 slots) vs is) p
    pub place : slice_get (places_from 0 0 rs) k
        ≡ Some (record { owner = p.owner; resource = p.resource; task = p.task })

  made_at : (made : List ProgramInstance) → map instance_view made ≡ instances_from 0 (places_from 0 0 rs) codes
      → (k : ℕ) (p : ProgramInstance) → slice_get made k ≡ Some p → IsMade made k p
  made_at made h k p g =
      let at : slice_get (instances_from 0 (places_from 0 0 rs) codes) k ≡ Some (instance_view p) =
      ap (λ xs. slice_get xs k) (sym h) ∙ slice_get-map instance_view made k ∙ ap (option_map instance_view) g in
      let i = instance_there 0 k (places_from 0 0 rs) codes (instance_view p) at in
      let owner : option_map (λ (x : Program). x.owner) (slice_get (programs_of_text source) k) ≡ Some p.owner =
      sym (slice_get-map (λ (x : Program). x.owner) (programs_of_text source) k) ∙ ap (λ xs. slice_get xs k) owners
      ∙ slice_get-map (λ (x : Place). x.owner) (places_from 0 0 rs) k ∙ ap (option_map (λ (x : Place). x.owner)) i.place in
      let q = mapped (λ (x : Program). x.owner) (slice_get (programs_of_text source) k) p.owner owner in
      let m = ready.codes_are k q.0 q.1 in
      let same : m.code ≡ code_view p.code.value = some_is (sym m.is ∙ i.code) in
      let program : program_numbered tree p.number ≡ q.0 =
      ap (program_numbered tree) i.number ∙ numbered_program k q.0 q.1 in
      record {
        code = record {
          means = subst (λ ls. Means ls (code_view p.code.value) (program_numbered tree p.number)) (sym among)
              (subst (λ x. Means (slots_of_text source) (code_view p.code.value) x) (sym program)
              (subst (λ x. Means (slots_of_text source) x q.0) same m.means));
          owner = ap (λ (x : Program). x.owner) program ∙ q.2;
          reads = subst (λ ls. ReadsAsAsked ls (code_view p.code.value) (program_numbered tree p.number)) (sym among)
              (subst (λ x. ReadsAsAsked (slots_of_text source) (code_view p.code.value) x) (sym program)
              (subst (λ x. ReadsAsAsked (slots_of_text source) x q.0) same m.reads));
        };
        place = i.place;
      }

  few_slots : length vs + length is ≤ MAX_PATHS
  few_slots =
      let a : length vs + length is ≡ length slots = parts_counted slots in
      let b : length (map slot_view slots) ≡ length slots = length_map slot_view slots in
      let e : length (map slot_view slots) ≡ length (slots_of_text source) = ap length slots_viewed in
      let room : length (slots_of_text source) ≤ MAX_PATHS = ready.layout.room in
      omega arith

  task_there : (k : ℕ) (t : Task) → slice_get (tasks_from vs is 0 rs) k ≡ Some t → t.resource < length rs
  task_there k t h =
      let le : 0 + length rs ≤ length rs = omega arith in
      let lt : nat_lt t.resource (length rs) ≡ true =
      all_get (λ (u : Task). nat_lt u.resource (length rs)) (tasks_from vs is 0 rs) k t
      (resources_there vs is 0 (length rs) rs le) h in
      grind (arith, nat_tests)

  place_there : (made : List ProgramInstance) → map instance_view made ≡ instances_from 0 (places_from 0 0 rs) codes
      → (k : ℕ) (p : ProgramInstance) → slice_get made k ≡ Some p
      → is_of_resource p.resource (slice_get (tasks_from vs is 0 rs) p.task) ≡ true
  place_there made h k p g =
      let i = made_at made h k p g in
      all_get (runs_in (tasks_from vs is 0 rs)) (places_from 0 0 rs) k
      (record { owner = p.owner; resource = p.resource; task = p.task })
      (places_run vs is [] 0 0 rs refl (tasks_known text rs (instances source judged.configured))
      (tasked source judged.configured)) i.place

  made_few : (made : List ProgramInstance) → map instance_view made ≡ instances_from 0 (places_from 0 0 rs) codes
      → length made ≤ MAX_PROGRAMS
  made_few made h =
      let a : length (map instance_view made) ≡ length made = length_map instance_view made in
      let b : length (map instance_view made) ≡ length (instances_from 0 (places_from 0 0 rs) codes) = ap length h in
      let d : length (instances_from 0 (places_from 0 0 rs) codes) ≤ length (places_from 0 0 rs) =
      short 0 (places_from 0 0 rs) codes in
      let e : length (places_from 0 0 rs) ≡ length (flat_map (λ r. r.instances) rs) = places_counted 0 0 rs in
      let f : nat_lt MAX_PROGRAMS (length (flat_map (λ r. r.instances) rs)) ≡ false = (few source judged.configured).2 in
      let g : length (flat_map (λ r. r.instances) rs) ≤ MAX_PROGRAMS = grind (arith, nat_tests) in
      omega arith
    where
      short : (n : ℕ) (ps : List Place) (cs : List CodeView) → length (instances_from n ps cs) ≤ length ps
      short n ps [] = omega arith
      short n [] (x ∷ cs) = omega arith
      short n (p ∷ ps) (x ∷ cs) = let r = short (suc n) ps cs in omega arith

  -- each path of the text has one slot
  slots_once : IsLayout (slots_among (numbered_from 0 0 slots) vs is)
  slots_once = subst IsLayout (sym among) (text_layout source (parts_right source judged.well_typed).names.all)

  -- its instances are distinguished
  instances_apart : (made : List ProgramInstance)
      → map instance_view made ≡ instances_from 0 (places_from 0 0 rs) codes
      → AreDistinguished (map (λ (p : ProgramInstance). p.owner) made)
  instances_apart made h i j o p more rest a b e =
      told_apart source c judged.well_typed judged.plain (only source judged.configured) i j o p more rest (there i o a)
      (there j p b) e
    where
      there : (k : ℕ) (x : Owner) → slice_get (map (λ (p : ProgramInstance). p.owner) made) k ≡ Some x
          → slice_get (owners_in c.resources) k ≡ Some x
      there k x g =
          let q = mapped (λ (p : ProgramInstance). p.owner) (slice_get made k) x
          (sym (slice_get-map (λ (p : ProgramInstance). p.owner) made k) ∙ g) in
          ap (λ (ys : List Resource). slice_get (owners_in ys) k) (sym (resources source judged.configured))
          ∙ ap (λ xs. slice_get xs k) (sym (owners_of_places 0 0 rs))
          ∙ slice_get-map (λ (y : Place). y.owner) (places_from 0 0 rs) k
          ∙ ap (option_map (λ (y : Place). y.owner)) (made_at made h k q.0 q.1).place ∙ ap Some q.2

  -- the plan is sound
  pub plan_is_sound : (made : List ProgramInstance) → map instance_view made ≡ instances_from 0 (places_from 0 0 rs) codes
      → record_length (enumerations_of_text source) vs ≤ MAX_RECORD_BODY
      → PlanInvariant tree (enumerations_of_text source) vs is (numbered_from 0 0 slots) (length rs)
      (tasks_from vs is 0 rs) made budget
  plan_is_sound made h short =
      let f : nat_lt MAX_RESOURCES (length rs) ≡ false = (few source judged.configured).0 in
      let some_resources : length rs ≤ MAX_RESOURCES = grind (arith, nat_tests) in
      record {
        layout = layout_once;
        numbered = numbered slots;
        codes = λ k p g. (made_at made h k p g).code;
        resources_are = task_there;
        places = place_there made h;
        singles = singles_sound vs is layout_once 0 rs singles;
        spelled = subst (λ ws. list_all (has_line (enumerations_of_text source)) ws ≡ true) (sym ready.layout.variables)
            judged.lines;
        different = subst (λ (ws : List PlanVariable). are_different (map (λ v. path_text v.path) ws) ≡ true)
            (sym ready.layout.variables) judged.different;
        limits = record {
          paths = few_slots;
          resources_are = some_resources;
          tasks_each = tasks_are_few vs is rs (few source judged.configured).1;
          programs_are = made_few made h;
          some_ticks = ready.some_ticks;
          ticks = ready.ticks;
          record_is = short;
        };
        once = slots_once;
        instances = instances_apart made h;
        values = names_apart source judged.well_typed;
      }

  -- the tree has its configuration
  pub configuration_there : (conf : Configuration) × (only_configuration (configurations_in tree) ≡ Some conf)
  configuration_there = (
    taken_configuration text c,
    ap (λ t. only_configuration (configurations_in t)) ready.resolved ∙ configured source judged.configured,
  )

  -- and it is the text's
  pub tasks_are : map (task_view vs) (tasks_from vs is 0 rs)
      ≡ map (task_of (plan_inputs_of_text source)) (flat_map (λ r. r.tasks) rs)
  tasks_are = tasks_viewed vs is layout_once 0 rs singles
      ∙ ap (λ xs. map (task_of xs) (flat_map (λ r. r.tasks) rs)) ready.layout.inputs

  pub plan_is : (plan : plans.Plan) → plan.enumerations ≡ enumerations_of_text source → plan.variables ≡ vs
      → plan.inputs ≡ is → plan.resources ≡ length rs → plan.tasks ≡ map (task_view vs) (tasks_from vs is 0 rs)
      → plan.programs ≡ instances_at (places_from 0 0 rs) (programs_of_text source) → plan.budget ≡ budget
      → record_length (enumerations_of_text source) vs ≤ MAX_RECORD_BODY → IsPlanOf source budget plan
  plan_is plan types variables inputs many tasks programs ticks short =
      let v : plan.variables ≡ plan_variables_of_text source = variables ∙ ready.layout.variables in
      let i : plan.inputs ≡ plan_inputs_of_text source = inputs ∙ ready.layout.inputs in
      let t = tasks ∙ tasks_are in
      record {
        well_typed = judged.well_typed;
        configured = judged.configured;
        paths = ready.layout.room;
        instances = ready.layout.few;
        record_is = subst (λ (ws : List PlanVariable). record_length (enumerations_of_text source) ws ≤ MAX_RECORD_BODY)
            ready.layout.variables short;
        some_ticks = ready.some_ticks;
        ticks = ready.ticks;
        is = ap₂ (λ e w. record plan { enumerations = e; variables = w }) types v
            ∙ ap₂ (λ w n. record plan {
              enumerations = enumerations_of_text source;
              variables = plan_variables_of_text source;
              inputs = w;
              resources = n;
            }) i many
            ∙ ap₂ (λ w n. record plan {
              enumerations = enumerations_of_text source;
              variables = plan_variables_of_text source;
              inputs = plan_inputs_of_text source;
              resources = length rs;
              tasks = w;
              programs = n;
            }) t programs
            ∙ ap (λ b. record plan {
              enumerations = enumerations_of_text source;
              variables = plan_variables_of_text source;
              inputs = plan_inputs_of_text source;
              resources = length rs;
              tasks = map (task_of (plan_inputs_of_text source)) (flat_map (λ r. r.tasks) rs);
              programs = instances_at (places_from 0 0 rs) (programs_of_text source);
              budget = b;
            }) ticks;
      }

-- ---- the plan that is made of the tree

module _ (source tree : Source) (slots : List LayoutSlot) (codes : List CodeView) (budget : ℕ)
    (ready : IsReady source tree slots codes budget) (conf : Configuration)
    (there : only_configuration (configurations_in tree) ≡ Some conf) where
  own_resources : conf.resources ≡ resources_of source
  own_resources = ap resources_in (sym there ∙ ap (λ t. only_configuration (configurations_in t)) ready.resolved)

  own_types : names_in_text tree ≡ enumerations_of_text source
  own_types = names_are tree ∙ ap (λ t. enumeration_names (types_in t)) ready.resolved

  pub few_variables : (vs : List PlanVariable) → vs ≡ variables_among slots → length vs ≤ MAX_PATHS
  few_variables vs e =
      let a = few_slots source tree slots codes budget ready in
      let b : length vs ≡ length (variables_among slots) = ap length e in
      omega arith

  short_record : (types : Enumerations) (vs : List PlanVariable) → types ≡ names_in_text tree
      → vs ≡ variables_among slots
      → record_length types vs ≡ record_length (enumerations_of_text source) (variables_among slots)
  short_record types vs t e = ap₂ record_length (t ∙ own_types) e

  pub long_record : (types : Enumerations) (vs : List PlanVariable) (n : ℕ) → types ≡ names_in_text tree
      → vs ≡ variables_among slots → n ≡ record_length types vs → MAX_RECORD_BODY < n
      → MAX_RECORD_BODY < record_length (enumerations_of_text source) (plan_variables_of_text source)
  long_record types vs n t e is lt =
      let same : n ≡ record_length (enumerations_of_text source) (plan_variables_of_text source) =
      is ∙ short_record types vs t e
      ∙ ap (λ (ws : List PlanVariable). record_length (enumerations_of_text source) ws) ready.layout.variables in
      subst (λ m. MAX_RECORD_BODY < m) same lt

  -- the plan that was made, and how long its record is
  pub record IsFrom (types : Enumerations) (vs : List PlanVariable) (is : List PlanInput) (many : ℕ) (tasks : List Task)
      (made : List ProgramInstance) : Type 0 where
    pub types_are : types ≡ names_in_text tree
    pub variables_are : vs ≡ variables_among slots
    pub inputs_are : is ≡ inputs_among slots
    pub resources_are : many ≡ length conf.resources
    pub tasks_are : tasks ≡ tasks_from vs is 0 conf.resources
    pub programs_are : map instance_view made ≡ instances_from 0 (places_from 0 0 conf.resources) codes
    pub short : record_length types vs ≤ MAX_RECORD_BODY

  module _ (types : Enumerations) (vs : List PlanVariable) (is : List PlanInput) (many : ℕ) (tasks : List Task)
      (made : List ProgramInstance) (from : IsFrom types vs is many tasks made) where
    made_is : map instance_view made ≡ instances_from 0 (places_from 0 0 (resources_of source)) codes
    made_is = from.programs_are ∙ ap (λ xs. instances_from 0 (places_from 0 0 xs) codes) own_resources

    many_is : many ≡ length (resources_of source)
    many_is = from.resources_are ∙ ap length own_resources

    tasks_from_slots : tasks ≡ tasks_from (variables_among slots) (inputs_among slots) 0 (resources_of source)
    tasks_from_slots =
        from.tasks_are ∙ ap₂ (λ v i. tasks_from v i 0 conf.resources) from.variables_are from.inputs_are
        ∙ ap (tasks_from (variables_among slots) (inputs_among slots) 0) own_resources

    short_is : record_length (enumerations_of_text source) (variables_among slots) ≤ MAX_RECORD_BODY
    short_is = subst (λ n. n ≤ MAX_RECORD_BODY) (short_record types vs from.types_are from.variables_are) from.short

    pub sound_plan : (ps : List SlotPlace) → ps ≡ numbered_from 0 0 slots
        → PlanInvariant tree types vs is ps many tasks made budget
    sound_plan ps e =
        subst (λ t. PlanInvariant tree t vs is ps many tasks made budget) (sym (from.types_are ∙ own_types))
        (subst (λ v. PlanInvariant tree (enumerations_of_text source) v is ps many tasks made budget)
        (sym from.variables_are)
        (subst (λ i. PlanInvariant tree (enumerations_of_text source) (variables_among slots) i ps many tasks made budget)
        (sym from.inputs_are)
        (subst (λ p. PlanInvariant tree (enumerations_of_text source) (variables_among slots) (inputs_among slots) p many
        tasks made budget) (sym e)
        (subst (λ n. PlanInvariant tree (enumerations_of_text source) (variables_among slots) (inputs_among slots)
        (numbered_from 0 0 slots) n tasks made budget) (sym many_is)
        (subst (λ t. PlanInvariant tree (enumerations_of_text source) (variables_among slots) (inputs_among slots)
        (numbered_from 0 0 slots) (length (resources_of source)) t made budget) (sym tasks_from_slots)
        (plan_is_sound source tree slots codes budget ready made made_is short_is))))))

    pub text_plan : (plan : plans.Plan) → plan.enumerations ≡ types → plan.variables ≡ vs → plan.inputs ≡ is
        → plan.resources ≡ many → plan.tasks ≡ map (task_view vs) tasks
        → plan.programs ≡ map (program_view tree) made → plan.budget ≡ budget → IsPlanOf source budget plan
    text_plan plan a b d e f g h =
        plan_is source tree slots codes budget ready plan (a ∙ from.types_are ∙ own_types) (b ∙ from.variables_are)
        (d ∙ from.inputs_are) (e ∙ many_is)
        (f ∙ ap₂ (λ v t. map (task_view v) t) from.variables_are tasks_from_slots)
        (g ∙ programs_viewed source tree slots codes budget ready made made_is) h short_is
