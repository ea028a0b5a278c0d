-- Compositions and shapes of declared types. Every declared thing, whether a variable, a field or a member of a
-- block's instance, has a site: its declared facts.
use Rattle.std.specs.Prelude.{ℕ, zero, suc, ℤ, List, [], ◌∷◌, ◌++◌, map, if◌then◌else◌, is_none}
use Rattle.std.specs.Prelude.{Bool, true, false, Option, Some, None, bytes_eq}
use Rattle.std.specs.List.{list_all}
use Rattle.st_types.specs.declared.identifier.Identifier.{Identifier}
use Rattle.st_types.specs.declared.kind.Kind.{Kind}
use Rattle.st_types.specs.declared.data_type.ArrayType.{ArrayType}
use Rattle.st_types.specs.declared.data_type.SimpleType.TheVariants.{Elementary, Named}
use Rattle.st_types.specs.declared.data_type.VariableType.{VariableType}
use Rattle.st_types.specs.declared.data_type.VariableType.TheVariants as types
use Rattle.st_types.specs.declared.declaration.Retention.{Retention}
use Rattle.st_types.specs.declared.declaration.Section.{Section}
use Rattle.st_types.specs.declared.declaration.Section.TheVariants.{Input, Output, Local}
use Rattle.st_types.specs.declared.unit.UnitSort.{UnitSort}
use Rattle.st_types.specs.declared.unit.UnitSort.TheVariants.{Function, FunctionBlock, Program}
use Rattle.st_types.specs.Initials.{Initial}
use Rattle.st_types.specs.Declarations as declarations
use Rattle.st_types.specs.Declarations.{Field, TypeDefinition, Declaration, VariableBlock}
use Rattle.st_types.specs.Units.{OrganisationUnit}
use Rattle.st_meaning.specs.Bodies.{is_external}
use Rattle.st_meaning.specs.NameTypes.{Declared, type_named, unit_named, definition_of, elementary, kind_among}
use Rattle.st_meaning.specs.Operators.{number_of}
use Rattle.st_meaning.specs.Scopes.{Name}
use Rattle.st_meaning.specs.StandardBlocks.{BlockMember, block_of, members_of}
use Rattle.st_rules.specs.declared.limits.TheConstants.{MAX_TYPE_DEPTH}
use Rattle.st_rules.specs.TypeRules.{elements_of_array}
use Rattle.layout.specs.Shapes.{PartsOwner, of_structure, of_instance, Shape, Parts, plain, array, parts, no_parts}
use Rattle.layout.specs.Shapes.{part_then}

-- the declared facts about a variable or a part of one: its type, its initial value if one is written, and its words
-- on retention, from the outermost in
pub record Site : Type 0 where
  pub declared : VariableType
  pub initial : Option Initial
  pub retentions : List (Option Retention)

-- a declared variable, field or member
pub record NamedSite : Type 0 where
  pub name : Name
  pub site : Site

-- the first of a name
abbrev pub site_named : List NamedSite → Name → Option Site
site_named [] x = None
site_named (d ∷ ds) x = if bytes_eq x d.name then Some d.site else site_named ds x

-- names with one declaration
abbrev pub with_site : Site → Identifier → NamedSite
with_site s x = record { name = x.name; site = s }

abbrev pub site_of_declaration : Option Retention → Declaration → Site
site_of_declaration keep d = record { declared = d.declared; initial = d.initial; retentions = keep ∷ [] }

abbrev pub sites_of_declarations : Option Retention → List Declaration → List NamedSite
sites_of_declarations keep [] = []
sites_of_declarations keep (d ∷ ds) =
    map (with_site (site_of_declaration keep d)) d.names ++ sites_of_declarations keep ds

-- RETAIN or NON_RETAIN of a block of variables; one of constants has neither
abbrev pub retention_of : Section → Option Retention
retention_of (Input keep) = keep
retention_of (Output keep) = keep
retention_of (Local keep) = keep
retention_of _ = None

-- the variables of a unit in their order, constants among them; externals aren't variables of its own
abbrev pub sites_of_blocks : List VariableBlock → List NamedSite
sites_of_blocks [] = []
sites_of_blocks (b ∷ bs) = if is_external b.section
    then sites_of_blocks bs
    else sites_of_declarations (retention_of b.section) b.declarations ++ sites_of_blocks bs

-- a field says nothing of retention
abbrev pub site_of_field : Field → NamedSite
site_of_field f = record {
  name = f.name.name;
  site = record { declared = f.declared; initial = f.initial; retentions = [] };
}

-- members of a standard block have no initial value of their own, and don't mention retention
abbrev pub site_of_member : BlockMember → NamedSite
site_of_member m = record {
  name = m.0;
  site = record { declared = elementary m.1; initial = None; retentions = [] };
}

-- a block by its name, with its members in the order of the layout
pub record BlockType : Type 0 where
  pub name : Name
  pub members : List NamedSite

abbrev pub block_type_of : UnitSort → OrganisationUnit → Option BlockType
block_type_of FunctionBlock u = Some (record { name = u.name.name; members = sites_of_blocks u.blocks })
block_type_of (Function t) u = None
block_type_of Program u = None

abbrev pub own_block_type : Option OrganisationUnit → Option BlockType
own_block_type None = None
own_block_type (Some u) = block_type_of u.sort u

-- the block of a name: a standard one, or one of the text
abbrev pub block_type_named : Declared → Name → Option BlockType
block_type_named text x = elim (block_of x) [
  | Some b ↦ Some (record { name = x; members = map site_of_member (members_of b) })
  | None ↦ own_block_type (unit_named text.units x)
]

-- the block of which a variable of this type is an instance: its type is a name that isn't a type of the text
abbrev pub instance_of : Declared → VariableType → Option BlockType
instance_of text (types.Simple (Named x)) =
    if is_none (type_named text.types x.name) then block_type_named text x.name else None
instance_of text (types.Simple (Elementary k at)) = None
instance_of text (types.Array a) = None

-- the composition of a type
pub data Composition : Type 0 where
  of_kind : Kind → Composition
  of_elements : ArrayType → Composition
  of_parts : PartsOwner → List NamedSite → Composition

-- a name that isn't a type has no part
abbrev pub nothing : Composition
nothing = of_parts of_structure []

abbrev pub instance_parts : Option BlockType → Composition
instance_parts None = nothing
instance_parts (Some b) = of_parts of_instance b.members

abbrev pub defined_composition : Declared → VariableType → Option TypeDefinition → Composition
defined_composition text t (Some (declarations.array a)) = of_elements a
defined_composition text t (Some (declarations.structure fields)) = of_parts of_structure (map site_of_field fields)
defined_composition text t (Some (declarations.enumeration names)) = nothing
defined_composition text t None = instance_parts (instance_of text t)

-- an elementary or an enumerated type, an array, a structure with its fields, or a block with its members
abbrev pub composition_of : Declared → VariableType → Composition
composition_of text t = elim (kind_among text.types t)
    [ Some k ↦ of_kind k | None ↦ defined_composition text t (definition_of text t) ]

-- the lower bound of an array
abbrev pub lower_of : ArrayType → ℤ
lower_of a = number_of a.lower

abbrev pub element_of : ArrayType → VariableType
element_of a = types.Simple a.element

-- the shape of this composition, by the shapes of the types of its parts
abbrev pub parts_of : (VariableType → Shape) → List NamedSite → Parts
parts_of inner [] = no_parts
parts_of inner (d ∷ ds) = part_then d.name (inner d.site.declared) (parts_of inner ds)

abbrev pub composed_shape : (VariableType → Shape) → Composition → Shape
composed_shape inner (of_kind k) = plain k
composed_shape inner (of_elements a) = array (lower_of a) (elements_of_array a) (inner (element_of a))
composed_shape inner (of_parts w ds) = parts w (parts_of inner ds)

-- The shape of a type that is at most `n` deep; a deeper one has no part.
unfoldable pub shape_within : ℕ → Declared → VariableType → Shape
shape_within zero text t = parts of_structure no_parts
shape_within (suc n) text t = composed_shape (shape_within n text) (composition_of text t)

-- the shape of a type of the text
abbrev pub shape_of_type : Declared → VariableType → Shape
shape_of_type text t = shape_within MAX_TYPE_DEPTH text t

-- A type is at most `n` deep: each type that it is made of is at most one less.
abbrev pub parts_within : (VariableType → Bool) → Composition → Bool
parts_within inner (of_kind k) = true
parts_within inner (of_elements a) = inner (element_of a)
parts_within inner (of_parts w ds) = list_all (λ d. inner d.site.declared) ds

unfoldable pub is_within_depth : ℕ → Declared → VariableType → Bool
is_within_depth zero text t = false
is_within_depth (suc n) text t = parts_within (is_within_depth n text) (composition_of text t)
