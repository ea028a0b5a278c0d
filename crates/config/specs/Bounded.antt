-- That the arrays of a text have elements, and lower bounds that instructions hold.
use Rattle.std.specs.Prelude.{◌≡◌, List, map, None}
use Rattle.st_types.specs.declared.data_type.SimpleType.{SimpleType}
use Rattle.st_types.specs.declared.unit.UnitSort.TheVariants.{Function, FunctionBlock}
use Rattle.st_types.specs.Units.{OrganisationUnit}
use Rattle.st_meaning.specs.NameTypes.{Declared}
use Rattle.layout.specs.LayoutVariables.{Owned, owned_variable}
use Rattle.st_link.specs.Homes.{IsAmong}
use Rattle.slot_trees.specs.TextLinks.{sites_of_call}
use Rattle.slot_trees.specs.TextNumbers.{members_of_block}
use Rattle.config.specs.Sound.{AreBounded, AreBoundedVariables}

-- those of the layout's variables, of functions' calls, and of members of blocks
pub record HasBoundedArrays (text : Declared) (vs : List Owned) : Type 0 where
  pub layout : AreBoundedVariables text vs
  pub functions : (u : OrganisationUnit) (t : SimpleType) → IsAmong u text.units → u.sort ≡ Function t
      → AreBoundedVariables text (map (owned_variable None) (sites_of_call t u))
  pub blocks : (u : OrganisationUnit) → IsAmong u text.units → u.sort ≡ FunctionBlock
      → AreBounded (members_of_block text u)
