-- The parts of units and types, as numbers of a text's declarations.
use Rattle.std.specs.Prelude.{ℕ, suc, List, [], ◌∷◌, ◌++◌, map, Option, Some, None, is_some, if◌then◌else◌, bytes_eq}
use Rattle.std.specs.Prelude.{true, false}
use Rattle.st_types.specs.declared.data_type.SimpleType.{SimpleType}
use Rattle.st_types.specs.declared.data_type.SimpleType.TheVariants.{Elementary, Named}
use Rattle.st_meaning.specs.Scopes.{Name}
use Rattle.st_meaning.specs.StandardBlocks.{block_of}
use Rattle.st_meaning.specs.NameTypes.{Declared}
use Rattle.st_rules.specs.Containment as rules
use Rattle.st_rules.specs.Containment.{Part, parts_of_definition, parts_of_unit}
use Rattle.st_decl.specs.declared.parts.Part as code_part
use Rattle.st_decl.specs.declared.parts.Part.TheVariants as code
use Rattle.st_decl.specs.declared.links.Target.{Target}
use Rattle.st_decl.specs.declared.links.Target.TheVariants.{Plain, Standard, Node}
use Rattle.st_decl.specs.declared.links.Link.{Link}

-- the mirror of a part of the code
abbrev pub part_view : code_part.Part → Part
part_view code.Elementary = rules.elementary
part_view (code.Named x) = rules.named x.now
part_view (code.Row t) = rules.row t.now

-- the names of types and units, types first, and their parts: the number of each is its place there
abbrev pub node_names : Declared → List Name
node_names text = map (λ t. t.name.name) text.types ++ map (λ u. u.name.name) text.units

abbrev pub node_parts : Declared → List (List Part)
node_parts text = map (λ t. parts_of_definition t.definition) text.types ++ map (parts_of_unit text) text.units

-- the number of a name in a list of which the first has that number
abbrev pub number_in : List Name → ℕ → Name → Option ℕ
number_in [] n x = None
number_in (y ∷ ys) n x = if bytes_eq x y then Some n else number_in ys (suc n) x

abbrev pub number_of_name : Declared → Name → Option ℕ
number_of_name text x = number_in (node_names text) 0 x

-- the target of a name: a type or unit of the text by its number, a standard block, or a type without parts
abbrev pub target_found : Option ℕ → Name → Target
target_found (Some i) x = Node i
target_found None x = if is_some (block_of x) then Standard else Plain

abbrev pub target_of_name : (Name → Option ℕ) → Name → Target
target_of_name numbers x = target_found (numbers x) x

abbrev pub target_of_simple : (Name → Option ℕ) → SimpleType → Target
target_of_simple numbers (Elementary k at) = Plain
target_of_simple numbers (Named x) = target_of_name numbers x.name

abbrev pub link_of : (Name → Option ℕ) → Part → Link
link_of numbers rules.elementary = record { target = Plain; is_row = false }
link_of numbers (rules.named x) = record { target = target_of_name numbers x; is_row = false }
link_of numbers (rules.row t) = record { target = target_of_simple numbers t; is_row = true }
