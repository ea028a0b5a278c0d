-- The depths of a graph are those of the text that it is of.
use Rattle.std.proofs.Common.{◌≡◌, sym, ap, subst, ◌∙◌, ℕ, suc, ◌+◌, List, [], ◌∷◌, map, Option, Some, None}
use Rattle.std.proofs.Common.{Bool, true, false, arith, rules}
use Rattle.std.specs.Prelude.{slice_get, max, is_some, if◌then◌else◌, option_map}
use Rattle.std.proofs.lemmas.Option.{slice_get-map}
use Rattle.st_types.specs.declared.data_type.SimpleType.{SimpleType}
use Rattle.st_types.specs.declared.data_type.SimpleType.TheVariants.{Elementary, Named}
use Rattle.st_meaning.specs.Scopes.{Name}
use Rattle.st_meaning.specs.StandardBlocks.{block_of}
use Rattle.st_meaning.specs.NameTypes.{Declared}
use Rattle.st_rules.specs.Containment as rules_of
use Rattle.st_rules.specs.Containment.{Part, parts_of, parts_named, parts_of_standard, part_of_simple}
use Rattle.st_rules.specs.Depths as depths
use Rattle.st_rules.specs.Depths.{HasDepth}
use Rattle.st_decl.specs.declared.links.Target.{Target}
use Rattle.st_decl.specs.declared.links.Target.TheVariants.{Plain, Standard, Node}
use Rattle.st_decl.specs.declared.links.Link.{Link}
use Rattle.st_decl.specs.Graphs.{Graph, links_at, links_or_none, TargetDepth, plain, standard, node, LinkDepth}
use Rattle.st_decl.specs.Graphs.{straight, row}
use Rattle.st_decl.specs.Graphs.{Deepest, nothing, deepest}
use Rattle.st_decl.specs.Parts.{node_names, node_parts, number_of_name, target_found, target_of_name, link_of}
use Rattle.st_decl.specs.Numbered.{IsGraphOf}
use Rattle.st_decl.proofs.NodeLemmas as nodes
use Rattle.st_decl.proofs.NodeLemmas.{Stands}

pub links_are : (text : Declared) (numbers : Name → Option ℕ) (graph : Graph) (i : ℕ) (ps : List Part)
    → IsGraphOf text numbers graph → slice_get (node_parts text) i ≡ Some ps
    → links_at graph i ≡ map (link_of numbers) ps
links_are text numbers graph i ps g at =
    ap (λ xs. links_or_none (slice_get xs i)) g.links
    ∙ ap links_or_none (slice_get-map (map (link_of numbers)) (node_parts text) i)
    ∙ ap (λ o. links_or_none (option_map (map (link_of numbers)) o)) at

max_none : (d : ℕ) → max d 0 ≡ d
max_none d = omega arith

plus_one : (d : ℕ) → d + 1 ≡ suc d
plus_one d = omega arith

elementary_one : (text : Declared) → HasDepth text rules_of.elementary 1
elementary_one text = depths.depth depths.nothing

elementary_depth : (text : Declared) (graph : Graph) (t : Target) (d : ℕ) → TargetDepth graph t d → t ≡ Plain
    → HasDepth text rules_of.elementary d
elementary_depth text graph Plain d plain e = elementary_one text
elementary_depth text graph Standard d standard e = absurd (cc)
elementary_depth text graph (Node i) d (node h) e = absurd (cc)

pub none_plus : (n : ℕ) → 0 + n ≡ n
none_plus n = omega arith

-- the target of a name
pub target_standing : (text : Declared) (numbers : Name → Option ℕ) (graph : Graph) (x : Name)
    → IsGraphOf text numbers graph → (s : Stands (node_names text) (node_parts text) 0 x (parts_named text x))
    → target_of_name numbers x ≡ Node s.place
target_standing text numbers graph x g s =
    ap (λ o. target_found o x) (g.numbered x ∙ s.number) ∙ ap Node (none_plus s.place)

pub target_absent : (text : Declared) (numbers : Name → Option ℕ) (graph : Graph) (x : Name)
    → IsGraphOf text numbers graph → number_of_name text x ≡ None
    → target_of_name numbers x ≡ (if is_some (block_of x) then Standard else Plain)
target_absent text numbers graph x g none = ap (λ o. target_found o x) (g.numbered x ∙ none)

parts_depth_one : (text : Declared) (x : Name) (b : Bool) → (Plain ≡ (if b then Standard else Plain))
    → parts_named text x ≡ (if b then rules_of.elementary ∷ [] else []) → HasDepth text (rules_of.named x) 1
parts_depth_one text x true e parts = absurd (cc)
parts_depth_one text x false e parts = depths.depth (subst (λ ps. depths.Deepest text ps 0) (sym parts) depths.nothing)

parts_depth_two : (text : Declared) (x : Name) (b : Bool) → (Standard ≡ (if b then Standard else Plain))
    → parts_named text x ≡ (if b then rules_of.elementary ∷ [] else []) → HasDepth text (rules_of.named x) 2
parts_depth_two text x false e parts = absurd (cc)
parts_depth_two text x true e parts = depths.depth (subst (λ ps. depths.Deepest text ps 1) (sym parts)
    (depths.deepest (elementary_one text) depths.nothing))

plain_depth : (text : Declared) (numbers : Name → Option ℕ) (graph : Graph) (x : Name) → IsGraphOf text numbers graph
    → Plain ≡ target_of_name numbers x → HasDepth text (rules_of.named x) 1
plain_depth text numbers graph x g e = by_name (nodes.named text x)
  where
    by_name : nodes.Named text x → HasDepth text (rules_of.named x) 1
    by_name (nodes.standing s) = absurd (apart (e ∙ target_standing text numbers graph x g s))
      where
        apart : Plain ≡ Node s.place → ⊥
        apart h = cc
    by_name (nodes.absent none parts) =
        parts_depth_one text x (is_some (block_of x)) (e ∙ target_absent text numbers graph x g none) parts

standard_depth : (text : Declared) (numbers : Name → Option ℕ) (graph : Graph) (x : Name)
    → IsGraphOf text numbers graph → Standard ≡ target_of_name numbers x → HasDepth text (rules_of.named x) 2
standard_depth text numbers graph x g e = by_name (nodes.named text x)
  where
    by_name : nodes.Named text x → HasDepth text (rules_of.named x) 2
    by_name (nodes.standing s) = absurd (apart (e ∙ target_standing text numbers graph x g s))
      where
        apart : Standard ≡ Node s.place → ⊥
        apart h = cc
    by_name (nodes.absent none parts) =
        parts_depth_two text x (is_some (block_of x)) (e ∙ target_absent text numbers graph x g none) parts

pub node_is : {i j : ℕ} → Node i ≡ Node j → i ≡ j
node_is h = search rules

not_node : (b : Bool) (i : ℕ) → Node i ≡ (if b then Standard else Plain) → ⊥
not_node true i h = cc
not_node false i h = cc

node_depth : (text : Declared) (numbers : Name → Option ℕ) (graph : Graph) (x : Name) (i d : ℕ)
    → IsGraphOf text numbers graph → Node i ≡ target_of_name numbers x
    → ((ps : List Part) → links_at graph i ≡ map (link_of numbers) ps → depths.Deepest text ps d)
    → HasDepth text (rules_of.named x) (suc d)
node_depth text numbers graph x i d g e below = by_name (nodes.named text x)
  where
    by_name : nodes.Named text x → HasDepth text (rules_of.named x) (suc d)
    by_name (nodes.standing s) =
        let is = node_is (e ∙ target_standing text numbers graph x g s) in
        subst (HasDepth text (rules_of.named x)) (plus_one d) (depths.depth (below (parts_named text x)
        (ap (links_at graph) is ∙ links_are text numbers graph s.place (parts_named text x) g s.holds)))
    by_name (nodes.absent none parts) =
        absurd (not_node (is_some (block_of x)) i (e ∙ target_absent text numbers graph x g none))

row_depth : (text : Declared) (s : SimpleType) (d : ℕ) → HasDepth text (part_of_simple s) d
    → HasDepth text (rules_of.row s) (suc d)
row_depth text s d h = subst (HasDepth text (rules_of.row s)) (plus_one d)
    (depths.depth (subst (depths.Deepest text (part_of_simple s ∷ [])) (max_none d)
    (depths.deepest h depths.nothing)))

head_is : {l k : Link} {ls ks : List Link} → l ∷ ls ≡ k ∷ ks → l ≡ k
head_is h = search rules

tail_is : {l k : Link} {ls ks : List Link} → l ∷ ls ≡ k ∷ ks → ls ≡ ks
tail_is h = search rules

row_apart : false ≡ true → ⊥
row_apart h = cc

straight_apart : true ≡ false → ⊥
straight_apart h = cc

mutual
  target_depth : (text : Declared) (numbers : Name → Option ℕ) (graph : Graph) (g : IsGraphOf text numbers graph)
      (x : Name) (t : Target) (d : ℕ) → TargetDepth graph t d → t ≡ target_of_name numbers x
      → HasDepth text (rules_of.named x) d
  target_depth text numbers graph g x Plain d plain e = plain_depth text numbers graph x g e
  target_depth text numbers graph g x Standard d standard e = standard_depth text numbers graph x g e
  target_depth text numbers graph g x (Node i) d (node {d = m} h) e = node_depth text numbers graph x i m g e
      (λ ps is. all_depths text numbers graph g ps (links_at graph i) m h is)

  pub part_depth : (text : Declared) (numbers : Name → Option ℕ) (graph : Graph) (g : IsGraphOf text numbers graph)
      (p : Part) (l : Link) (d : ℕ) → LinkDepth graph l d → l ≡ link_of numbers p → HasDepth text p d
  part_depth text numbers graph g rules_of.elementary l d (straight {t = t} h) e =
      elementary_depth text graph t d h (ap (λ k. k.target) e)
  part_depth text numbers graph g (rules_of.named x) l d (straight {t = t} h) e =
      target_depth text numbers graph g x t d h (ap (λ k. k.target) e)
  part_depth text numbers graph g (rules_of.row s) l d (straight h) e = absurd (row_apart (ap (λ k. k.is_row) e))
  part_depth text numbers graph g rules_of.elementary l d (row h) e = absurd (straight_apart (ap (λ k. k.is_row) e))
  part_depth text numbers graph g (rules_of.named x) l d (row h) e = absurd (straight_apart (ap (λ k. k.is_row) e))
  part_depth text numbers graph g (rules_of.row (Elementary k at)) l d (row {t = t} {d = m} h) e =
      row_depth text (Elementary k at) m (elementary_depth text graph t m h (ap (λ k. k.target) e))
  part_depth text numbers graph g (rules_of.row (Named x)) l d (row {t = t} {d = m} h) e =
      row_depth text (Named x) m (target_depth text numbers graph g x.name t m h (ap (λ k. k.target) e))

  all_depths : (text : Declared) (numbers : Name → Option ℕ) (graph : Graph) (g : IsGraphOf text numbers graph)
      (ps : List Part) (ls : List Link) (d : ℕ) → Deepest graph ls d → ls ≡ map (link_of numbers) ps
      → depths.Deepest text ps d
  all_depths text numbers graph g [] ls d nothing e = depths.nothing
  all_depths text numbers graph g (p ∷ ps) ls d nothing e = absurd (cc)
  all_depths text numbers graph g [] ls d (deepest h rest) e = absurd (cc)
  all_depths text numbers graph g (p ∷ ps) ls d (deepest {l = l} {ls = ks} {d = c} {m = m} h rest) e =
      depths.deepest (part_depth text numbers graph g p l c h (head_is e))
      (all_depths text numbers graph g ps ks m rest (tail_is e))
