use Rattle.std.proofs.Common.{◌≡◌, [], ◌∷◌, Bool, true, false, ◌||◌, if◌then◌else◌, Some, None, refl, sym, ap, ◌∙◌}
use Rattle.std.proofs.Common.{subst}
use Rattle.std.specs.Prelude.{bytes_eq, codes}
use Rattle.st_types.specs.declared.kind.Kind.TheVariants.{Int}
use Rattle.st_types.specs.declared.path.Owner.{Owner}
use Rattle.st_types.specs.declared.data_type.VariableType.{VariableType}
use Rattle.st_meaning.specs.NameTypes.{Declared, declared_in, or_type, variable_type}
use Rattle.st_meaning.specs.Scopes.{Name, unowned}
use Rattle.st_rules.specs.declared.limits.TheConstants.{MAX_TYPE_DEPTH}
use Rattle.st_rules.specs.Environments.{section_of}
use Rattle.st_rules.specs.TargetRules.{is_fixed}
use Rattle.layout.specs.Types.{is_within_depth}
use Rattle.layout.specs.LayoutVariables.{variables_of_configuration}
use Rattle.st_types.specs.declared.declaration.Retention.TheVariants.{Retain}
use Rattle.layout.specs.LayoutExamples.{plain, adder, adding, adder_configuration, resource, instance}
use Rattle.layout.proofs.ListLemmas.{same_name}
use Rattle.st_link.specs.Homes.{IsLayoutPart, here, IsGrounded}
use Rattle.st_link.proofs.run_examples.a_run_of_a_program.Goals as goal
use Rattle.st_types.proofs.OptionLemmas.{some_is}
use Rattle.st_types.proofs.TestLemmas.{or_false}
use Rattle.st_rules.specs.Rules.{environment}

abbrev text : Declared
text = declared_in adding

abbrev owner : Owner
owner = record { resource = codes "R"; instance = codes "P" }

-- its one variable is an INT
type_is : (a b : Bool) (t : VariableType)
    → (if a then None else or_type (if (b || false) then Some (plain Int) else None) None) ≡ Some t → plain Int ≡ t
type_is true b t h = absurd (cc)
type_is false true t h = some_is h
type_is false false t h = absurd (cc)

type_of_x : (x : Name) (t : VariableType) → variable_type adder x ≡ Some t → plain Int ≡ t
type_of_x x t h = type_is (bytes_eq x (codes "ADD")) (bytes_eq x (codes "N")) t h

int_within : is_within_depth MAX_TYPE_DEPTH text (plain Int) ≡ true
unfolding is_within_depth
int_within = refl

home_of_n : IsLayoutPart text (variables_of_configuration text (Some adder_configuration))
    (is_fixed (section_of (environment text adder) (codes "N"))) (unowned (codes "N")) (plain Int)
home_of_n = record {
  owner = None;
  name = codes "N";
  steps = [];
  first = 0;
  variable = record {
    owner = None;
    name = codes "N";
    site = record { declared = plain Int; initial = None; retentions = Some Retain ∷ [] };
    is_input = false;
  };
  depth = MAX_TYPE_DEPTH;
  path = refl;
  there = refl;
  free = λ e. refl;
  within = int_within;
  shape = refl;
}

grounded : IsGrounded text (variables_of_configuration text (Some adder_configuration)) adder
grounded = record {
  depths = λ x t h. ap (is_within_depth MAX_TYPE_DEPTH text) (sym (type_of_x x t h)) ∙ int_within;
  externals = λ x t e h.
      let n : codes "N" ≡ x = sym (same_name x (codes "N") (sym (or_false (bytes_eq x (codes "N"))) ∙ e)) in
      subst (λ t. IsLayoutPart text (variables_of_configuration text (Some adder_configuration))
      (is_fixed (section_of (environment text adder) x)) (unowned x) t) (type_of_x x t h)
      (subst (λ x. IsLayoutPart text (variables_of_configuration text (Some adder_configuration))
      (is_fixed (section_of (environment text adder) x)) (unowned x) (plain Int)) n home_of_n);
}

pub returns : goal.returns
returns c = λ w runs. record {
  configuration = adder_configuration;
  owner = owner;
  only = refl;
  names = refl;
  scopes = refl;
  instance = record {
    resource = resource (codes "R") (instance (codes "P") (codes "ADD") ∷ []);
    instance = instance (codes "P") (codes "ADD");
    is_resource = here;
    is_instance = here;
    owned = refl;
    named = refl;
    program = refl;
  };
  grounded = grounded;
  runs = runs;
}
