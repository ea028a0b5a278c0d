-- Instances of blocks, by how they are declared.
use Rattle.std.specs.Prelude.{◌≡◌, ◌≤◌}
use Rattle.st_types.specs.declared.limits.TheConstants.{MAX_PATHS}
use Rattle.st_types.specs.declared.data_type.VariableType.{VariableType}
use Rattle.st_meaning.specs.NameTypes.{Declared}
use Rattle.layout.specs.Shapes.{PartsOwner, Parts, parts, sizes}
use Rattle.layout.specs.Types.{shape_of_type}
use Rattle.st_link.specs.Shapes.{IsExpanded}

-- A variable of this type has these members, for which a layout has room.
pub record HasMembers (text : Declared) (t : VariableType) (ps : Parts) : Type 0 where
  pub whole : PartsOwner
  pub shape : shape_of_type text t ≡ parts whole ps
  pub expanded : IsExpanded text t
  pub room : sizes ps ≤ MAX_PATHS
