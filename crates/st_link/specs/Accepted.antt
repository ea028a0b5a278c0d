-- A text that is accepted, and its linked form.
use Rattle.std.specs.Prelude.{◌≡◌, Bool, Some, true}
use Rattle.st_types.specs.Configurations.{Configuration}
use Rattle.st_types.specs.Sources.{Source}
use Rattle.st_meaning.specs.NameTypes.{declared_in}
use Rattle.st_meaning.specs.Scopes.{Name}
use Rattle.st_rules.specs.ConfigurationRules.{are_known}
use Rattle.st_rules.specs.Rules.{IsWellTyped}
use Rattle.layout.specs.LayoutVariables.{configurations_in, only_configuration}
use Rattle.st_link.specs.WellTypedRuns.{HaveFunctionsNoExternals}
use Rattle.slot_trees.specs.TextLinks.{LinkedText, linked_source}
use Rattle.st_link.specs.KeptTexts.{IsKeptLink, KeptText, kept_source}

-- It breaks no rule, and has one configuration, in which all names are known. The grammar gives no function externals.
pub record IsAccepted (source : Source) : Type 0 where
  pub well_typed : IsWellTyped source
  pub functions : HaveFunctionsNoExternals source
  pub configuration : Configuration
  pub only : only_configuration (configurations_in source) ≡ Some configuration
  pub known : are_known (declared_in source) configuration ≡ true

-- This is the text's linked form, in which a function is left out exactly when it isn't called or its own variables
-- are more than any layout has room for, and a block exactly when its variables are.
pub record IsLinked (source : Source) (called : Name → Bool) (kept : KeptText) : Type 0 where
  pub is : kept_source called source ≡ Some kept
  pub whole : LinkedText
  pub linked : linked_source source ≡ Some whole
  pub part : IsKeptLink kept whole
