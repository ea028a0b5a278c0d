use Rattle.std.proofs.Common.{◌≡◌, [], ◌∷◌, true, refl}
use Rattle.std.specs.Prelude.{codes}
use Rattle.std.specs.List.{list_all}
use Rattle.st_types.specs.declared.data_type.SimpleType.{SimpleType}
use Rattle.st_types.specs.declared.unit.UnitSort.TheVariants.{Function}
use Rattle.st_types.specs.Units.{OrganisationUnit}
use Rattle.st_meaning.specs.Bodies.{externals_in}
use Rattle.st_meaning.specs.NameTypes.{Declared, declared_in, units_in}
use Rattle.st_meaning.specs.StandardBlocks.{block_of}
use Rattle.st_meaning.specs.StandardFunctions.{standard_of, standard_functions}
use Rattle.st_rules.specs.ConfigurationRules.{same_within, has_known_externals}
use Rattle.st_rules.specs.Containment.{has_chain, leads_to}
use Rattle.st_rules.specs.Rules.{IsWellTyped}
use Rattle.st_link.proofs.Among.{Among, here, later}
use Rattle.st_link.proofs.FoundNames.{unit_found}
use Rattle.layout.specs.LayoutExamples.{resource, instance}
use Rattle.layout.specs.PartExamples.{input_and_global, text_of_parts}
use Rattle.st_link.specs.Homes.{here as first}
use Rattle.st_link.proofs.run_examples.a_well_typed_run_over_parts.Goals as goal

abbrev text : Declared
text = declared_in text_of_parts

right : IsWellTyped text_of_parts
unfolding standard_of standard_functions block_of has_chain leads_to
right = refl

externals : list_all (has_known_externals text input_and_global.globals) text.units ≡ true
unfolding same_within
externals = refl

functions : (u : OrganisationUnit) (t : SimpleType) → Among u (units_in text_of_parts) → u.sort ≡ Function t
    → externals_in u.blocks ≡ []
functions u t here sort = absurd (cc)
functions u t (later here) sort = absurd (cc)
functions u t (later (later here)) sort = refl
functions u t (later (later (later among))) sort = elim among [ ]

pub returns : goal.returns
returns c = record {
  well_typed = right;
  moment = refl;
  configuration = input_and_global;
  only = refl;
  instance = record {
    resource = resource (codes "R") (instance (codes "P") (codes "PR") ∷ []);
    instance = instance (codes "P") (codes "PR");
    is_resource = first;
    is_instance = first;
    owned = refl;
    named = refl;
    program = refl;
  };
  externals = externals;
  functions = λ f u t declared sort. functions u t (unit_found text.units f u declared).among sort;
}
