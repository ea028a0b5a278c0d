-- The consequences of a sound configuration: its resources, their programs and tasks.
use Rattle.std.proofs.Common.{◌≡◌, refl, sym, ap, ◌∙◌, subst, Bool, true, false, ◌||◌, List, [], ◌∷◌, map, length}
use Rattle.std.proofs.Common.{Some, option_map}
use Rattle.std.specs.Prelude.{nat_lt, is_some}
use Rattle.std.specs.List.{flat_map, list_all, list_any}
use Rattle.st_types.specs.declared.limits.TheConstants.{MAX_PROGRAMS, MAX_RESOURCES, MAX_TASKS}
use Rattle.st_types.specs.declared.configuration.Instance.{Instance}
use Rattle.st_types.specs.declared.configuration.Task as declared_task
use Rattle.st_types.specs.Configurations.{Configuration, GlobalBlock, Resource}
use Rattle.st_types.specs.Sources as sources
use Rattle.st_types.specs.Sources.{Source}
use Rattle.st_meaning.specs.NameTypes.{Declared, declared_in, unit_named}
use Rattle.st_meaning.specs.Runs.{Program}
use Rattle.st_rules.specs.ConfigurationRules as rules_of
use Rattle.st_rules.specs.ConfigurationRules.{has_known_externals, is_known_instance, is_known_resource}
use Rattle.st_rules.specs.ConfigurationRules.{is_known_single, is_known_task, is_program_unit}
use Rattle.layout.specs.LayoutVariables.{configurations_in, configuration_of, declared_of, only_configuration}
use Rattle.layout.specs.Libraries.{programs_of_configuration, programs_of_text, programs_of_resources}
use Rattle.layout.proofs.ResolvedLemmas.{configuration_taken, taken_configuration}
use Rattle.config.specs.Configured.{IsConfigured}
use Rattle.config.specs.TextPlans.{resources_in, resources_of}
use Rattle.config.proofs.PlaceLemmas.{owners_in, owners_of_programs}
use Rattle.std.proofs.lemmas.Bool.{or_parts, and_parts, and_from}

-- ---- the only configuration

only_of : (cs : List Configuration) (c : Configuration) → cs ≡ c ∷ [] → only_configuration cs ≡ Some c
only_of cs c h = ap only_configuration h

same_configurations : (source : Source) → rules_of.configurations_in source ≡ configurations_in source
same_configurations [] = refl
same_configurations (sources.types ts ∷ rest) = same_configurations rest
same_configurations (sources.unit u ∷ rest) = same_configurations rest
same_configurations (sources.configuration c ∷ rest) = ap (λ cs. c ∷ cs) (same_configurations rest)

-- ---- known resources

instances_known : (text : Declared) (blocks : List GlobalBlock) (rs : List Resource)
    → list_all (is_known_resource text blocks) rs ≡ true
    → list_all (λ r. list_all (is_known_instance text r.tasks) r.instances) rs ≡ true
instances_known text blocks [] h = refl
instances_known text blocks (r ∷ rs) h =
    let b = and_parts (is_known_resource text blocks r) (list_all (is_known_resource text blocks) rs) h in
    let k = and_parts (list_all (is_known_instance text r.tasks) r.instances)
    (list_all (λ t. is_known_single text blocks t.single) r.tasks) b.0 in
    and_from (list_all (is_known_instance text r.tasks) r.instances)
    (list_all (λ q. list_all (is_known_instance text q.tasks) q.instances) rs) k.0 (instances_known text blocks rs b.1)

tasks_known_on : (text : Declared) (tasks : List declared_task.Task) (is : List Instance)
    → list_all (is_known_instance text tasks) is ≡ true
    → list_all (λ (i : Instance). is_known_task tasks i.task) is ≡ true
tasks_known_on text tasks [] h = refl
tasks_known_on text tasks (i ∷ is) h =
    let b = and_parts (is_known_instance text tasks i) (list_all (is_known_instance text tasks) is) h in
    let k = and_parts (is_known_task tasks i.task)
    (is_program_unit (unit_named text.units i.program.name)) b.0 in
    and_from (is_known_task tasks i.task) (list_all (λ (j : Instance). is_known_task tasks j.task) is) k.0
    (tasks_known_on text tasks is b.1)

pub tasks_known : (text : Declared) (rs : List Resource)
    → list_all (λ r. list_all (is_known_instance text r.tasks) r.instances) rs ≡ true
    → list_all (λ r. list_all (λ (i : Instance). is_known_task r.tasks i.task) r.instances) rs ≡ true
tasks_known text [] h = refl
tasks_known text (r ∷ rs) h =
    let b = and_parts (list_all (is_known_instance text r.tasks) r.instances)
    (list_all (λ q. list_all (is_known_instance text q.tasks) q.instances) rs) h in
    and_from (list_all (λ (i : Instance). is_known_task r.tasks i.task) r.instances)
    (list_all (λ q. list_all (λ (i : Instance). is_known_task q.tasks i.task) q.instances) rs)
    (tasks_known_on text r.tasks r.instances b.0) (tasks_known text rs b.1)

-- ---- of a text

module _ (source : Source) (sound : IsConfigured source) where
  abbrev text : Declared
  text = declared_in source

  abbrev c : Configuration
  c = sound.configuration

  abbrev rs : List Resource
  rs = resources_of source

  pub only : only_configuration (configurations_in source) ≡ Some c
  only = only_of (configurations_in source) c (sym (same_configurations source) ∙ sound.one)

  pub configured : configuration_of source ≡ Some (taken_configuration text c)
  configured = configuration_taken source ∙ ap (option_map (taken_configuration text)) only

  pub resources : rs ≡ c.resources
  resources = ap resources_in configured

  pub known : list_all (is_known_resource text c.globals) c.resources ≡ true
  known = (and_parts (list_all (has_known_externals text c.globals) text.units)
      (list_all (is_known_resource text c.globals) c.resources) sound.kept.known).1

  pub instances : list_all (λ r. list_all (is_known_instance text r.tasks) r.instances) rs ≡ true
  instances =
      subst (λ xs. list_all (λ r. list_all (is_known_instance text r.tasks) r.instances) xs ≡ true) (sym resources)
      (instances_known text c.globals c.resources known)

  pub tasked : list_all (λ r. list_all (λ (i : Instance). is_some i.task) r.instances) rs ≡ true
  tasked =
      subst (λ xs. list_all (λ r. list_all (λ (i : Instance). is_some i.task) r.instances) xs ≡ true) (sym resources)
      sound.kept.tasked

  -- the limits of the configuration
  pub few : (nat_lt MAX_RESOURCES (length rs) ≡ false) × (list_any (λ r. nat_lt MAX_TASKS (length r.tasks)) rs ≡ false)
      × (nat_lt MAX_PROGRAMS (length (flat_map (λ r. r.instances) rs)) ≡ false)
  few =
      let e = subst (λ xs. (nat_lt MAX_RESOURCES (length xs)
      || list_any (λ r. nat_lt MAX_TASKS (length r.tasks)) xs
      || nat_lt MAX_PROGRAMS (length (flat_map (λ r. r.instances) xs))) ≡ false) (sym resources)
      sound.kept.few in
      let a = or_parts (nat_lt MAX_RESOURCES (length rs) || list_any (λ r. nat_lt MAX_TASKS (length r.tasks)) rs)
      (nat_lt MAX_PROGRAMS (length (flat_map (λ r. r.instances) rs))) e in
      let b = or_parts (nat_lt MAX_RESOURCES (length rs)) (list_any (λ r. nat_lt MAX_TASKS (length r.tasks)) rs) a.0 in
      (b.0, b.1, a.1)

  -- the programs of the instances
  programs_are : programs_of_text source ≡ programs_of_resources (declared_of source) rs
  programs_are =
      ap (programs_of_configuration (declared_of source)) configured
      ∙ sym (ap (programs_of_resources (declared_of source)) resources)

  -- each instance has its program
  pub owners_of_text : map (λ (p : Program). p.owner) (programs_of_text source) ≡ owners_in rs
  owners_of_text = ap (map (λ (p : Program). p.owner)) programs_are ∙ owners_of_programs source rs instances
