use Rattle.std.proofs.Common.{◌≡◌, [], true, refl}
use Rattle.st_types.specs.declared.data_type.SimpleType.{SimpleType}
use Rattle.st_types.specs.declared.unit.UnitSort.TheVariants.{Function}
use Rattle.st_types.specs.Sources.{Source}
use Rattle.st_types.specs.Units.{OrganisationUnit}
use Rattle.st_meaning.specs.Bodies.{externals_in}
use Rattle.st_meaning.specs.NameTypes.{declared_in, units_in}
use Rattle.st_meaning.specs.StandardBlocks.{block_of}
use Rattle.st_meaning.specs.StandardFunctions.{standard_of, standard_functions}
use Rattle.st_rules.specs.ConfigurationRules.{same_within, are_known}
use Rattle.st_rules.specs.Containment.{has_chain, leads_to}
use Rattle.st_rules.specs.Rules.{IsWellTyped}
use Rattle.layout.specs.PartExamples.{input_and_global, text_of_parts}
use Rattle.st_link.proofs.Among.{Among, here, later}
use Rattle.st_link.proofs.FoundNames.{unit_found}
use Rattle.st_link.specs.RunExamples.{two_globals, calls_and_globals}
use Rattle.st_link.specs.WellTypedRuns.{HaveFunctionsNoExternals}
use Rattle.st_link.proofs.TextTotals.{known_source_linked}
use Rattle.st_link.proofs.link_examples.linked_texts.Goals as goal

calls_right : IsWellTyped calls_and_globals
unfolding standard_of standard_functions block_of has_chain leads_to
calls_right = refl

calls_known : are_known (declared_in calls_and_globals) two_globals ≡ true
unfolding same_within
calls_known = refl

calls_functions : (u : OrganisationUnit) (t : SimpleType) → Among u (units_in calls_and_globals)
    → u.sort ≡ Function t → externals_in u.blocks ≡ []
calls_functions u t here sort = absurd (cc)
calls_functions u t (later here) sort = absurd (cc)
calls_functions u t (later (later here)) sort = refl
calls_functions u t (later (later (later here))) sort = absurd (cc)
calls_functions u t (later (later (later (later here)))) sort = refl
calls_functions u t (later (later (later (later (later among))))) sort = elim among [ ]

parts_right : IsWellTyped text_of_parts
unfolding standard_of standard_functions block_of has_chain leads_to
parts_right = refl

parts_known : are_known (declared_in text_of_parts) input_and_global ≡ true
unfolding same_within
parts_known = refl

parts_functions : (u : OrganisationUnit) (t : SimpleType) → Among u (units_in text_of_parts) → u.sort ≡ Function t
    → externals_in u.blocks ≡ []
parts_functions u t here sort = absurd (cc)
parts_functions u t (later here) sort = absurd (cc)
parts_functions u t (later (later here)) sort = refl
parts_functions u t (later (later (later among))) sort = elim among [ ]

no_externals : (source : Source)
    → ((u : OrganisationUnit) (t : SimpleType) → Among u (units_in source) → u.sort ≡ Function t
    → externals_in u.blocks ≡ [])
    → HaveFunctionsNoExternals source
no_externals source h f u t declared sort =
    h u t (unit_found (declared_in source).units f u declared).among sort

pub returns-clause-calls : goal.returns-clause-calls
returns-clause-calls c =
    known_source_linked calls_and_globals two_globals calls_right (no_externals calls_and_globals calls_functions) refl
    calls_known

pub returns-clause-parts : goal.returns-clause-parts
returns-clause-parts c =
    known_source_linked text_of_parts input_and_global parts_right (no_externals text_of_parts parts_functions) refl
    parts_known
