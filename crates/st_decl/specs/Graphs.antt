-- Types and units with their links, as numbers: depths and ways.
use Rattle.std.specs.Prelude.{◌≡◌, ℕ, suc, ◌≤◌, max, length, List, [], ◌∷◌, Option, Some, None, slice_get, true, false}
use Rattle.st_decl.specs.declared.links.Target.{Target}
use Rattle.st_decl.specs.declared.links.Target.TheVariants.{Plain, Standard, Node}
use Rattle.st_decl.specs.declared.links.Link.{Link}

-- the links of each type and unit, by its number
abbrev pub Graph : Type 0
Graph = List (List Link)

abbrev pub links_or_none : Option (List Link) → List Link
links_or_none None = []
links_or_none (Some links) = links

abbrev pub links_at : Graph → ℕ → List Link
links_at graph i = links_or_none (slice_get graph i)

-- One more than the depth of the deepest link, or 1 without links; an array without a name is a level of its own.
mutual
  pub data TargetDepth (graph : Graph) : Target → ℕ → Type 0 where
    plain : TargetDepth graph Plain 1
    standard : TargetDepth graph Standard 2
    node : {i d : ℕ} → Deepest graph (links_at graph i) d → TargetDepth graph (Node i) (suc d)

  pub data LinkDepth (graph : Graph) : Link → ℕ → Type 0 where
    straight : {t : Target} {d : ℕ} → TargetDepth graph t d → LinkDepth graph (record { target = t; is_row = false }) d
    row : {t : Target} {d : ℕ} → TargetDepth graph t d → LinkDepth graph (record { target = t; is_row = true }) (suc d)

  pub data Deepest (graph : Graph) : List Link → ℕ → Type 0 where
    nothing : Deepest graph [] 0
    deepest : {l : Link} {ls : List Link} {d m : ℕ} → LinkDepth graph l d → Deepest graph ls m
        → Deepest graph (l ∷ ls) (max d m)

-- one of a list
pub data Among : Link → List Link → Type 0 where
  first : {l : Link} {ls : List Link} → Among l (l ∷ ls)
  later : {l m : Link} {ls : List Link} → Among l ls → Among l (m ∷ ls)

-- a link leads from the one to the other
pub record LinksTo (graph : Graph) (from to : ℕ) : Type 0 where
  pub link : Link
  pub among : Among link (links_at graph from)
  pub target : link.target ≡ Node to

-- this number of links lead from the one to the other
pub data LinkPath (graph : Graph) : ℕ → ℕ → ℕ → Type 0 where
  one : {from to : ℕ} → LinksTo graph from to → LinkPath graph 1 from to
  further : {n from at to : ℕ} → LinksTo graph from at → LinkPath graph n at to → LinkPath graph (suc n) from to

-- a type or unit that is a part of itself, by a way of no more links than there are types and units
pub record IsCycle (graph : Graph) (i : ℕ) : Type 0 where
  pub links : ℕ
  pub short : links ≤ length graph
  pub way : LinkPath graph links i i
