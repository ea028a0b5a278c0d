-- The types and units of a text with their numbers, and the graph that they make.
use Rattle.std.specs.Prelude.{◌≡◌, ℕ, List, ◌++◌, map, Option, false}
use Rattle.st_meaning.specs.Scopes.{Name}
use Rattle.st_meaning.specs.NameTypes.{Declared}
use Rattle.st_rules.specs.Containment.{Part, is_too_deep, contains_itself}
use Rattle.st_decl.specs.declared.depths.Mark.{Mark}
use Rattle.st_decl.specs.Graphs.{Graph}
use Rattle.st_decl.specs.Parts.{node_parts, number_of_name, link_of}
use Rattle.st_decl.specs.Walks.{is_deep}

-- the numbers are those of the text's names, and the links those of its types' and units' parts
pub record IsGraphOf (text : Declared) (numbers : Name → Option ℕ) (graph : Graph) : Type 0 where
  pub numbered : (x : Name) → numbers x ≡ number_of_name text x
  pub links : graph ≡ map (map (link_of numbers)) (node_parts text)

-- where they are declared
abbrev pub node_places : Declared → List ℕ
node_places text = map (λ t. t.name.place) text.types ++ map (λ u. u.name.place) text.units

-- the marks say for each part whether it is too deep, and nothing contains itself
pub record AreJudged (text : Declared) (numbers : Name → Option ℕ) (marks : List Mark) : Type 0 where
  pub deep : (p : Part) → is_deep marks (link_of numbers p) ≡ is_too_deep text p
  pub clean : (x : Name) → contains_itself text x ≡ false
