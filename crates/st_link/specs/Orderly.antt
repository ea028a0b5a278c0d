-- The conditions on a text with typed literals that make its tables agree with the definitions.
use Rattle.std.specs.Prelude.{◌≡◌, ◌≤◌, List, [], Bool, true, Option, Some, None}
use Rattle.std.specs.List.{list_all}
use Rattle.st_types.specs.declared.limits.TheConstants.{MAX_PATHS}
use Rattle.st_types.specs.Configurations.{Configuration}
use Rattle.st_types.specs.Sources.{Source}
use Rattle.st_meaning.specs.NameTypes.{declared_in}
use Rattle.st_meaning.specs.Scopes.{Name}
use Rattle.layout.specs.LayoutVariables.{Owned, configurations_in, only_configuration, variables_of_configuration}
use Rattle.layout.specs.Instances.{OwnedProgram, instances_in}
use Rattle.layout.specs.Layouts.{layout_size}
use Rattle.st_link.specs.KeptTexts.{KeptText, kept_text}
use Rattle.st_link.specs.Linked.{are_owners_different}
use Rattle.st_link.specs.LinkVariables.{LinkVariable, are_whole, is_whole_unit, variables_of_globals}

abbrev pub globals_in : Option Configuration → List LinkVariable
globals_in None = []
globals_in (Some c) = variables_of_globals c.globals

abbrev pub instances_of : Option Configuration → List OwnedProgram
instances_of None = []
instances_of (Some c) = instances_in c.resources

abbrev pub configuration_in : Source → Option Configuration
configuration_in source = only_configuration (configurations_in source)

abbrev pub layout_of : Source → List Owned
layout_of source = variables_of_configuration (declared_in source) (configuration_in source)

-- its linked form for programs that call these functions
abbrev pub kept_of : (Name → Bool) → Source → Option KeptText
kept_of called source = kept_text called (declared_in source) (layout_of source) (configuration_in source)

-- Types of variables are expanded whole, no two parts of one whole have the same name, no two instances of programs
-- have the same owner, and the layout has room.
pub record IsOrderlySource (source : Source) : Type 0 where
  pub units : list_all (is_whole_unit (declared_in source)) (declared_in source).units ≡ true
  pub globals : are_whole (declared_in source) (globals_in (configuration_in source)) ≡ true
  pub owners : are_owners_different (instances_of (configuration_in source)) ≡ true
  pub room : layout_size (declared_in source) (layout_of source) ≤ MAX_PATHS
