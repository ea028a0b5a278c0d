-- The tables' entries for declared types: how many slots a variable takes, and the places of its parts.
use Rattle.std.specs.Prelude.{◌≡◌, ℕ, ◌+◌, ◌≤◌, List, [], ◌∷◌, map, Bool, true, false, Option, Some, None}
use Rattle.std.specs.List.{list_all}
use Rattle.st_types.specs.declared.limits.TheConstants.{MAX_PATHS}
use Rattle.st_types.specs.declared.data_type.VariableType.{VariableType}
use Rattle.st_meaning.specs.NameTypes.{Declared, type_named, unit_named}
use Rattle.st_meaning.specs.Scopes.{Name}
use Rattle.st_meaning.specs.StandardBlocks.{members_of}
use Rattle.st_rules.specs.declared.limits.TheConstants.{MAX_TYPE_DEPTH}
use Rattle.symbols.specs.Agreeing.{Agree}
use Rattle.symbols.specs.Found.{found, or_found}
use Rattle.symbols.specs.PlaceTypes.{place_type_view}
use Rattle.symbols.specs.Standard.{block_view}
use Rattle.symbols.specs.declared.index.Index.{Index}
use Rattle.symbols.specs.declared.standard_blocks.StandardBlock.{StandardBlock}
use Rattle.symbols.specs.declared.standard_blocks.StandardBlock.TheVariants.{Sr, Rs, RTrig, FTrig, Ctu, Ctd, Ctud}
use Rattle.symbols.specs.declared.standard_blocks.StandardBlock.TheVariants.{Ton, Tof, Tp}
use Rattle.layout.specs.Shapes.{Shape, plain, array, parts, Parts, no_parts, part_then, size, sizes}
use Rattle.layout.specs.Types.{shape_of_type, is_within_depth, site_of_member}
use Rattle.layout.specs.Compositions.{ServesTypes, named_type}
use Rattle.layout.specs.Sizes.{capped_size}
use Rattle.slot_trees.specs.Tables.{Part, part_at}
use Rattle.st_link.specs.Members.{member_found}
use Rattle.st_link.specs.NamedMembers.{NamedType, name_and_type}
use Rattle.st_link.specs.declared.elements.Elements.{Elements}
use Rattle.st_link.specs.declared.members.MemberPlace.{MemberPlace}
use Rattle.st_link.specs.declared.standards.Standards.{Standards}
use Rattle.st_link.specs.declared.aggregates.Aggregate.{Aggregate}
use Rattle.st_link.specs.declared.shape_tables.ShapeTables.{ShapeTables}

-- The type is at most as deep as the language allows.
abbrev pub IsExpanded : Declared → VariableType → Type 0
IsExpanded text t = is_within_depth MAX_TYPE_DEPTH text t ≡ true

-- the members of a shape by their names
abbrev pub member_of : Shape → Name → Option Part
member_of (plain k) x = None
member_of (array lower count sh) x = None
member_of (parts w ps) x = part_at ps x

-- A member with a number of slots before it; too many are capped.
pub record IsMemberPlace (text : Declared) (before : ℕ) (m : MemberPlace) (e : Part) : Type 0 where
  pub offset : m.offset ≡ capped_size (before + e.offset)
  pub shape : e.shape ≡ shape_of_type text (place_type_view m.declared)
  pub expanded : IsExpanded text (place_type_view m.declared)

-- The entry of a named type is its size and its members.
pub record IsAggregate (text : Declared) (t : VariableType) (w : Aggregate) : Type 0 where
  pub slots : w.size ≡ capped_size (size (shape_of_type text t))
  pub members : (x : Name) → Agree (IsMemberPlace text 0) (member_found w.members x)
      (member_of (shape_of_type text t) x)

abbrev pub AreExpanded : Declared → List NamedType → Type 0
AreExpanded text es = list_all (λ e. is_within_depth MAX_TYPE_DEPTH text e.1) es ≡ true

-- the shapes of members
abbrev pub typed_parts : Declared → List NamedType → Parts
typed_parts text [] = no_parts
typed_parts text (e ∷ es) = part_then e.0 (shape_of_type text e.1) (typed_parts text es)

-- The entry of these members is the sum of their sizes, and the place of each.
pub record HasParts (text : Declared) (es : List NamedType) (w : Aggregate) : Type 0 where
  pub slots : w.size ≡ capped_size (sizes (typed_parts text es))
  pub members : (x : Name) → Agree (IsMemberPlace text 0) (member_found w.members x) (part_at (typed_parts text es) x)

-- So far all members but the last have entries.
pub record HasAllButLast (text : Declared) (es left : List NamedType) (w : Aggregate) : Type 0 where
  pub expanded : AreExpanded text left
  pub room : w.size ≤ MAX_PATHS + 1
  pub slots : capped_size (sizes (typed_parts text es)) ≡ capped_size (w.size + sizes (typed_parts text left))
  pub members : (x : Name) (r : Option MemberPlace)
      → Agree (IsMemberPlace text w.size) r (part_at (typed_parts text left) x)
      → Agree (IsMemberPlace text 0) (or_found (member_found w.members x) r) (part_at (typed_parts text es) x)

-- The entries are right.
abbrev pub KnowsAggregates : Declared → Index Aggregate → Type 0
KnowsAggregates text wholes = (x : Name) (w : Aggregate) → found wholes x ≡ Some w → (at : ℕ)
    → IsExpanded text (named_type x at) → IsAggregate text (named_type x at) w

-- the entry of a standard block
abbrev pub standard_kept : Standards → StandardBlock → Aggregate
standard_kept kept Sr = kept.sr
standard_kept kept Rs = kept.rs
standard_kept kept RTrig = kept.r_trig
standard_kept kept FTrig = kept.f_trig
standard_kept kept Ctu = kept.ctu
standard_kept kept Ctd = kept.ctd
standard_kept kept Ctud = kept.ctud
standard_kept kept Ton = kept.ton
standard_kept kept Tof = kept.tof
standard_kept kept Tp = kept.tp

-- The entry of each standard block is right in each text.
abbrev pub AreStandards : Standards → Type 0
AreStandards kept = (block : StandardBlock) (text : Declared)
    → HasParts text (map name_and_type (map site_of_member (members_of (block_view block)))) (standard_kept kept block)

-- All types and units of the text have entries.
pub record IsUndeclared (text : Declared) (x : Name) : Type 0 where
  pub no_type : type_named text.types x ≡ None
  pub no_unit : unit_named text.units x ≡ None

pub record ServesShapes (tables : ShapeTables) (text : Declared) : Type 0 where
  pub types : ServesTypes tables.types text
  pub known : KnowsAggregates text tables.wholes
  pub all : (x : Name) → found tables.wholes x ≡ None → IsUndeclared text x
  pub standards : AreStandards tables.standards

-- an elementary variable
abbrev pub is_plain : Shape → Bool
is_plain (plain k) = true
is_plain (array lower count sh) = false
is_plain (parts w ps) = false

-- a structure or an instance
abbrev pub has_parts : Shape → Bool
has_parts (plain k) = false
has_parts (array lower count sh) = false
has_parts (parts w ps) = true

-- an array
abbrev pub is_array : Shape → Bool
is_array (plain k) = false
is_array (array lower count sh) = true
is_array (parts w ps) = false

-- The elements of an array with these bounds, and how many slots each takes, capped.
pub record AreElements (text : Declared) (sh : Shape) (e : Elements) : Type 0 where
  pub shape : sh ≡ array e.lower e.count (shape_of_type text (place_type_view e.declared))
  pub stride : e.stride ≡ capped_size (size (shape_of_type text (place_type_view e.declared)))
  pub expanded : IsExpanded text (place_type_view e.declared)
