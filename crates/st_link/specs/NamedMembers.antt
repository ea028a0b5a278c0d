-- Members with their names and types, as the definitions see them.
use Rattle.std.specs.Prelude.{List, [], ◌∷◌, map}
use Rattle.st_types.specs.declared.data_type.VariableType.{VariableType}
use Rattle.st_meaning.specs.Scopes.{Name}
use Rattle.symbols.specs.PlaceTypes.{place_type_view}
use Rattle.layout.specs.Types.{NamedSite, Composition, of_kind, of_elements, of_parts}
use Rattle.layout.specs.declared.sites.Part.{Part}
use Rattle.layout.specs.declared.sites.PartStep.{PartStep}
use Rattle.layout.specs.declared.sites.PartStep.TheVariants.{Member, Element}
use Rattle.st_link.specs.declared.named_members.NamedMember.{NamedMember}

-- a name with its type
abbrev pub NamedType : Type 0
NamedType = Name × VariableType

abbrev pub name_and_type : NamedSite → NamedType
name_and_type d = (d.name, d.site.declared)

abbrev pub named_member_view : NamedMember → NamedType
named_member_view m = (m.name.now, place_type_view m.declared)

-- a part, if it has a name, before others
abbrev pub named_part_then : PartStep → VariableType → List NamedType → List NamedType
named_part_then (Member x) t rest = (x.now, t) ∷ rest
named_part_then (Element z) t rest = rest

-- the parts that have names
abbrev pub named_parts : List Part → List NamedType
named_parts [] = []
named_parts (p ∷ ps) = named_part_then p.step (place_type_view p.site.declared) (named_parts ps)

-- the members of this composition
abbrev pub members_in : Composition → List NamedType
members_in (of_kind k) = []
members_in (of_elements a) = []
members_in (of_parts w ds) = map name_and_type ds
