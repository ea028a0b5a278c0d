-- The premises of the law of whole runs hold for each instance in a text that has a plan.
use Rattle.std.proofs.Common.{◌≡◌, ℕ, suc, ◌==◌, Bool, true, false, List, [], ◌∷◌, length, Option, Some, None, refl}
use Rattle.std.proofs.Common.{ap, ◌∙◌, arith}
use Rattle.std.specs.Prelude.{is_some}
use Rattle.std.specs.List.{list_all}
use Rattle.std.proofs.lemmas.Bool.Decides.{Decides-eqb}
use Rattle.st_types.specs.declared.configuration.Instance.{Instance}
use Rattle.st_types.specs.declared.unit.UnitSort.{UnitSort}
use Rattle.st_types.specs.declared.unit.UnitSort.TheVariants.{Function, FunctionBlock, Program}
use Rattle.st_types.specs.Configurations.{Resource, Configuration}
use Rattle.st_types.specs.Units.{OrganisationUnit}
use Rattle.st_types.specs.Sources.{Source}
use Rattle.st_types.specs.Sources as sources
use Rattle.st_meaning.specs.NameTypes.{Declared, declared_in, unit_named}
use Rattle.st_rules.specs.ConfigurationRules as statics
use Rattle.st_rules.specs.ConfigurationRules.{has_one_configuration, has_known_externals, is_known_task, is_known_single}
use Rattle.st_rules.specs.ConfigurationRules.{is_program_sort, is_program_unit, is_known_instance, is_known_resource}
use Rattle.st_rules.specs.ConfigurationRules.{are_known}
use Rattle.st_rules.specs.Rules.{IsWellTyped}
use Rattle.st_link.specs.UnitSoundness.{IsMoment}
use Rattle.layout.specs.LayoutVariables.{owner_in, configurations_in, only_configuration}
use Rattle.st_link.specs.Homes.{IsAmong, here, further_on}
use Rattle.st_link.specs.WellTypedRuns.{HaveFunctionsNoExternals, HasRuns}
use Rattle.std.proofs.lemmas.Bool.{and_parts}

same_configurations : (source : Source) → statics.configurations_in source ≡ configurations_in source
same_configurations [] = refl
same_configurations (sources.types ts ∷ rest) = same_configurations rest
same_configurations (sources.unit u ∷ rest) = same_configurations rest
same_configurations (sources.configuration c ∷ rest) = ap (λ cs. c ∷ cs) (same_configurations rest)

not_one : (n : ℕ) → (suc (suc n) == 1) ≡ false
not_one n = by_test (suc (suc n) == 1) refl
  where
    by_test : (b : Bool) → (suc (suc n) == 1) ≡ b → b ≡ false
    by_test true e = let same = (Decides-eqb (suc (suc n)) 1).0 e in absurd (omega (arith, same))
    by_test false e = refl

one_alone : (cs : List Configuration) → (length cs == 1) ≡ is_some (only_configuration cs)
one_alone [] = refl
one_alone (c ∷ []) = refl
one_alone (c ∷ d ∷ cs) = not_one (length cs)

pub one_configuration : (source : Source)
    → has_one_configuration source ≡ is_some (only_configuration (configurations_in source))
one_configuration source =
    ap (λ cs. length cs == 1) (same_configurations source) ∙ one_alone (configurations_in source)

all_among : {A : Type 0} (test : A → Bool) {a : A} (xs : List A) → IsAmong a xs → list_all test xs ≡ true → test a ≡ true
all_among test [] k h = elim k [ ]
all_among test (x ∷ xs) here h = (and_parts (test x) (list_all test xs) h).0
all_among test (x ∷ xs) (further_on k) h = all_among test xs k (and_parts (test x) (list_all test xs) h).1

module _ (source : Source) (c : Configuration) (r : Resource) (i : Instance) (now : ℕ) where
  abbrev text : Declared
  text = declared_in source

  pub instance_has_runs : IsWellTyped source → HaveFunctionsNoExternals source
      → only_configuration (configurations_in source) ≡ Some c → are_known text c ≡ true → IsAmong r c.resources
      → IsAmong i r.instances → IsMoment now → HasRuns source (owner_in r.name.name i) now
  instance_has_runs right functions only known in_text in_resource moment =
      let parts = and_parts (list_all (has_known_externals text c.globals) text.units)
      (list_all (is_known_resource text c.globals) c.resources) known in
      let instances = and_parts (list_all (is_known_instance text r.tasks) r.instances)
      (list_all (λ t. is_known_single text c.globals t.single) r.tasks)
      (all_among (is_known_resource text c.globals) c.resources in_text parts.1) in
      let program = and_parts (is_known_task r.tasks i.task) (is_program_unit (unit_named text.units i.program.name))
      (all_among (is_known_instance text r.tasks) r.instances in_resource instances.0) in
      by_unit parts.0 (unit_named text.units i.program.name) refl program.1
    where
      by_unit : list_all (has_known_externals text c.globals) text.units ≡ true → (o : Option OrganisationUnit)
          → unit_named text.units i.program.name ≡ o → is_program_unit o ≡ true
          → HasRuns source (owner_in r.name.name i) now
      by_unit externals None e h = absurd (cc)
      by_unit externals (Some u) e h = by_sort u.sort refl h
        where
          by_sort : (s : UnitSort) → u.sort ≡ s → is_program_sort s ≡ true
              → HasRuns source (owner_in r.name.name i) now
          by_sort (Function t) g h = absurd (cc)
          by_sort FunctionBlock g h = absurd (cc)
          by_sort Program g h = record {
            unit = u;
            run = record {
              well_typed = right;
              moment = moment;
              configuration = c;
              only = only;
              instance = record {
                resource = r;
                instance = i;
                is_resource = in_text;
                is_instance = in_resource;
                owned = refl;
                named = e;
                program = g;
              };
              externals = externals;
              functions = functions;
            };
          }
