-- Where the names of a unit's body are in a layout, and the values of its slots.
use Rattle.std.specs.Prelude.{◌≡◌, ℕ, List, [], ◌∷◌, map, Bool, true, false, ◌&&◌, if◌then◌else◌, Option, Some, None}
use Rattle.std.specs.Prelude.{option_and_then}
use Rattle.std.specs.List.{list_all}
use Rattle.st_types.specs.declared.path.Owner.{Owner}
use Rattle.st_types.specs.declared.path.Step.{Step}
use Rattle.st_types.specs.declared.path.Step.TheVariants.{Member, Element}
use Rattle.st_types.specs.Kinds.{holds}
use Rattle.st_types.specs.Values.{Datum}
use Rattle.st_types.specs.Paths.{Path}
use Rattle.st_types.specs.declared.configuration.Instance.{Instance}
use Rattle.st_types.specs.declared.data_type.VariableType.{VariableType}
use Rattle.st_types.specs.declared.unit.UnitSort.TheVariants.{Program}
use Rattle.st_types.specs.Configurations.{Resource, Configuration}
use Rattle.st_types.specs.Units.{OrganisationUnit}
use Rattle.st_types.specs.Sources.{Source}
use Rattle.st_meaning.specs.Bodies.{externals_in}
use Rattle.st_meaning.specs.NameTypes.{Declared, declared_in, unit_named, variable_type}
use Rattle.st_meaning.specs.Scopes.{Name, Frame, of_program, Scope, path_in, unowned, contains_name}
use Rattle.st_meaning.specs.Slots.{Slot, AreOfTypes}
use Rattle.st_rules.specs.Environments.{Environment, type_of_name, section_of}
use Rattle.st_rules.specs.TargetRules.{is_fixed}
use Rattle.layout.specs.Shapes.{Shape, plain, array, parts, in_bounds, part_named}
use Rattle.layout.specs.Types.{shape_within, is_within_depth}
use Rattle.st_rules.specs.declared.limits.TheConstants.{MAX_TYPE_DEPTH}
use Rattle.layout.specs.LayoutVariables.{Owned, owner_in, configurations_in, only_configuration}
use Rattle.layout.specs.LayoutVariables.{variables_of_configuration}
use Rattle.layout.specs.TextLayouts.{further, variable_shape}
use Rattle.layout.specs.VariableSlots.{path_to, variable_at}
use Rattle.layout.specs.Names.{are_different, are_types_and_units_different, is_configuration_different}
use Rattle.st_rules.specs.Rules.{environment}

-- the shape of the part that steps lead to
abbrev pub shape_at_steps : Shape → List Step → Option Shape
shape_at_steps sh [] = Some sh
shape_at_steps (plain k) (x ∷ xs) = None
shape_at_steps (array lower count sh) (Member x ∷ xs) = None
shape_at_steps (array lower count sh) (Element z ∷ xs) = if in_bounds lower count z then shape_at_steps sh xs else None
shape_at_steps (parts w ps) (Member x ∷ xs) = option_and_then (λ sh. shape_at_steps sh xs) (part_named ps x)
shape_at_steps (parts w ps) (Element z ∷ xs) = None

-- The path leads to a part of a variable of the layout, which has the shape of the type; if it isn't fixed, this
-- variable isn't an input of the plant.
pub record IsLayoutPart (text : Declared) (variables : List Owned) (fixed : Bool) (p : Path) (t : VariableType)
    : Type 0 where
  pub owner : Option Owner
  pub name : Name
  pub steps : List Step
  pub first : ℕ
  pub variable : Owned
  pub depth : ℕ
  pub path : p ≡ further (path_to owner name) steps
  pub there : variable_at text variables owner name ≡ Some (first, variable)
  pub free : fixed ≡ false → variable.is_input ≡ false
  pub within : is_within_depth depth text t ≡ true
  pub shape : shape_at_steps (variable_shape text variable) steps ≡ Some (shape_within depth text t)

-- each name of the unit stands for a part of the layout
abbrev pub HaveSlots : Environment → List Owned → Scope → Type 0
HaveSlots env variables w =
    (x : Name) (t : VariableType) → type_of_name env x ≡ Some t
    → IsLayoutPart env.text variables (is_fixed (section_of env x)) (path_in w.frame w.body x) t

-- no two types of a text have the same name, nor two fields of one structure or two variables of one unit
abbrev pub are_names_different : Declared → Bool
are_names_different text =
    are_different (map (λ t. t.name.name) text.types) && are_types_and_units_different text

-- values of slots, each of its slot's type and in the type's range
pub record AreValuesOf (layout : List Slot) (vs : List Datum) : Type 0 where
  pub types : AreOfTypes layout vs
  pub held : list_all (λ v. holds v.kind v.number) vs ≡ true

-- one of a list
pub data IsAmong {A : Type 0} : A → List A → Type 0 where
  here : {a : A} {rest : List A} → IsAmong a (a ∷ rest)
  further_on : {a b : A} {rest : List A} → IsAmong a rest → IsAmong a (b ∷ rest)

-- an instance of a configuration, whose program is this unit
pub record IsInstanceOf (text : Declared) (c : Configuration) (owner : Owner) (u : OrganisationUnit) : Type 0 where
  pub resource : Resource
  pub instance : Instance
  pub is_resource : IsAmong resource c.resources
  pub is_instance : IsAmong instance resource.instances
  pub owned : owner ≡ owner_in resource.name.name instance
  pub named : unit_named text.units instance.program.name ≡ Some u
  pub program : u.sort ≡ Program

-- No type of the unit's variables is too deep, and each external stands for a global of its type.
pub record IsGrounded (text : Declared) (variables : List Owned) (u : OrganisationUnit) : Type 0 where
  pub depths : (x : Name) (t : VariableType) → variable_type u x ≡ Some t
      → is_within_depth MAX_TYPE_DEPTH text t ≡ true
  pub externals : (x : Name) (t : VariableType) → contains_name (externals_in u.blocks) x ≡ true
      → variable_type u x ≡ Some t
      → IsLayoutPart text variables (is_fixed (section_of (environment text u) x)) (unowned x) t

-- the scope of a body of the unit: its names are those of this frame and its externals, for any units, body and moment
pub record RunsIn (u : OrganisationUnit) (frame : Frame) (w : Scope) : Type 0 where
  pub names_of : w.frame ≡ frame
  pub externals : w.body.externals ≡ externals_in u.blocks

-- the scope of an instance of a program of a text whose names differ and whose variables and externals are in order
pub record IsProgramRun (source : Source) (u : OrganisationUnit) (w : Scope) : Type 0 where
  pub configuration : Configuration
  pub owner : Owner
  pub only : only_configuration (configurations_in source) ≡ Some configuration
  pub names : are_names_different (declared_in source) ≡ true
  pub scopes : is_configuration_different (Some configuration) ≡ true
  pub instance : IsInstanceOf (declared_in source) configuration owner u
  pub grounded : IsGrounded (declared_in source)
      (variables_of_configuration (declared_in source) (Some configuration)) u
  pub runs : RunsIn u (of_program owner) w
