-- The ways of a graph are those of the text that it is of.
use Rattle.std.proofs.Common.{◌≡◌, refl, sym, ap, subst, ◌∙◌, ℕ, zero, suc, ◌+◌, ◌-◌, ◌*◌, ◌≤◌, List, [], ◌∷◌, map}
use Rattle.std.proofs.Common.{length}
use Rattle.std.proofs.Common.{Option, Some, None, Bool, true, false, ◌||◌, arith, rules}
use Rattle.std.specs.Prelude.{slice_get, option_map, bytes_eq, is_some, if◌then◌else◌}
use Rattle.std.specs.List.{list_any}
use Rattle.std.proofs.lemmas.Option.{slice_get-map}
use Rattle.std.proofs.lemmas.List.{length-map, length-append}
use Rattle.st_types.specs.declared.identifier.Identifier.{Identifier}
use Rattle.st_types.specs.declared.data_type.SimpleType.TheVariants.{Elementary, Named}
use Rattle.st_meaning.specs.Scopes.{Name}
use Rattle.st_meaning.specs.StandardBlocks.{block_of}
use Rattle.st_meaning.specs.NameTypes.{Declared}
use Rattle.st_rules.specs.Containment as rules_of
use Rattle.st_rules.specs.Containment.{Part, parts_of, parts_named, parts_of_definition, parts_of_unit}
use Rattle.st_rules.specs.Containment.{part_of_simple}
use Rattle.st_rules.specs.Containment.{is_part_named, leads_to, contains_itself}
use Rattle.st_rules.specs.Depths as depths
use Rattle.st_rules.specs.Depths.{Holds, holds_part, holds_further}
use Rattle.st_decl.specs.declared.links.Target.TheVariants.{Plain, Standard, Node}
use Rattle.st_decl.specs.declared.links.Link.{Link}
use Rattle.st_decl.specs.Graphs.{Graph, links_at, links_or_none, Among, first, later, LinksTo, LinkPath, one, further, IsCycle}
use Rattle.st_decl.specs.Parts.{node_names, node_parts, target_of_name, link_of}
use Rattle.st_decl.specs.Numbered.{IsGraphOf}
use Rattle.st_decl.proofs.NodeLemmas as nodes
use Rattle.st_decl.proofs.GraphDepths.{links_are, target_standing, target_absent, node_is}
use Rattle.std.proofs.lemmas.Bool.{or_left, or_right}
use Rattle.st_types.specs.Comparisons.{same_bytes, same_bytes_itself}

-- the name and the parts of a number
pub record At (text : Declared) (i : ℕ) (x : Name) : Type 0 where
  pub name : slice_get (node_names text) i ≡ Some x
  pub holds : slice_get (node_parts text) i ≡ Some (parts_named text x)

not_node : (b : Bool) (i : ℕ) → (if b then Standard else Plain) ≡ Node i → ⊥
not_node true i h = cc
not_node false i h = cc

pub name_at : (text : Declared) (numbers : Name → Option ℕ) (graph : Graph) (x : Name) (i : ℕ)
    → IsGraphOf text numbers graph → target_of_name numbers x ≡ Node i → At text i x
name_at text numbers graph x i g e = by_name (nodes.named text x)
  where
    by_name : nodes.Named text x → At text i x
    by_name (nodes.standing s) =
        let is = node_is (sym (target_standing text numbers graph x g s) ∙ e) in
        record {
          name = ap (slice_get (node_names text)) (sym is) ∙ s.name;
          holds = ap (slice_get (node_parts text)) (sym is) ∙ s.holds;
        }
    by_name (nodes.absent none parts) =
        absurd (not_node (is_some (block_of x)) i (sym (target_absent text numbers graph x g none) ∙ e))

-- a part that leads to a number: by its name, or as an array without one
data Step (text : Declared) (ps : List Part) (i : ℕ) : Type 0 where
  direct : (z : Name) → depths.Among (rules_of.named z) ps → At text i z → Step text ps i
  by_row : (z : Identifier) → depths.Among (rules_of.row (Named z)) ps → At text i z.name → Step text ps i

step_of_part : (text : Declared) (numbers : Name → Option ℕ) (graph : Graph) (q : Part) (ps : List Part) (i : ℕ)
    → IsGraphOf text numbers graph → depths.Among q ps → (link_of numbers q).target ≡ Node i → Step text ps i
step_of_part text numbers graph rules_of.elementary ps i g a e = absurd (cc)
step_of_part text numbers graph (rules_of.named z) ps i g a e = direct z a (name_at text numbers graph z i g e)
step_of_part text numbers graph (rules_of.row (Elementary k at)) ps i g a e = absurd (cc)
step_of_part text numbers graph (rules_of.row (Named z)) ps i g a e =
    by_row z a (name_at text numbers graph z.name i g e)

record PartOf (numbers : Name → Option ℕ) (l : Link) (ps : List Part) : Type 0 where
  part : Part
  among : depths.Among part ps
  is : l ≡ link_of numbers part

part_of : (numbers : Name → Option ℕ) (l : Link) (ps : List Part) → Among l (map (link_of numbers) ps)
    → PartOf numbers l ps
part_of numbers l [] a = elim a [ ]
part_of numbers l (p ∷ ps) first = record { part = p; among = depths.first; is = refl }
part_of numbers l (p ∷ ps) (later a) =
    let below = part_of numbers l ps a in
    record { part = below.part; among = depths.later below.among; is = below.is }

step_of : (text : Declared) (numbers : Name → Option ℕ) (graph : Graph) (from to : ℕ) (ps : List Part)
    → IsGraphOf text numbers graph → LinksTo graph from to → links_at graph from ≡ map (link_of numbers) ps
    → Step text ps to
step_of text numbers graph from to ps g leads are =
    let p = part_of numbers leads.link ps (subst (Among leads.link) are leads.among) in
    step_of_part text numbers graph p.part ps to g p.among (ap (λ l. l.target) (sym p.is) ∙ leads.target)

-- the parts of the type or unit that a link leads from
record Source (text : Declared) (numbers : Name → Option ℕ) (graph : Graph) (from : ℕ) : Type 0 where
  parts : List Part
  are : links_at graph from ≡ map (link_of numbers) parts

no_links : (l : Link) → Among l [] → ⊥
no_links l a = elim a [ ]

source_of : (text : Declared) (numbers : Name → Option ℕ) (graph : Graph) (from to : ℕ)
    → IsGraphOf text numbers graph → LinksTo graph from to → Source text numbers graph from
source_of text numbers graph from to g leads = by_parts (slice_get (node_parts text) from) refl
  where
    by_parts : (o : Option (List Part)) → slice_get (node_parts text) from ≡ o → Source text numbers graph from
    by_parts (Some ps) at = record { parts = ps; are = links_are text numbers graph from ps g at }
    by_parts None at = absurd (no_links leads.link (subst (Among leads.link)
        (ap (λ xs. links_or_none (slice_get xs from)) g.links
        ∙ ap links_or_none (slice_get-map (map (link_of numbers)) (node_parts text) from)
        ∙ ap (λ o. links_or_none (option_map (map (link_of numbers)) o)) at) leads.among))

record Named_at (text : Declared) (i : ℕ) : Type 0 where
  name : Name
  at : At text i name

named_step : (text : Declared) (ps : List Part) (i : ℕ) → Step text ps i → Named_at text i
named_step text ps i (direct z a at) = record { name = z; at = at }
named_step text ps i (by_row z a at) = record { name = z.name; at = at }

way_end : (text : Declared) (numbers : Name → Option ℕ) (graph : Graph) (n from to : ℕ)
    → IsGraphOf text numbers graph → LinkPath graph n from to → Named_at text to
way_end text numbers graph n from to g (one leads) =
    let s = source_of text numbers graph from to g leads in
    named_step text s.parts to (step_of text numbers graph from to s.parts g leads s.are)
way_end text numbers graph n from to g (further {n = m} {at = at} leads way) =
    way_end text numbers graph m at to g way

any_among : (f : Part → Bool) (p : Part) (ps : List Part) → depths.Among p ps → f p ≡ true → list_any f ps ≡ true
any_among f p [] a h = elim a [ ]
any_among f p (q ∷ ps) depths.first h = rw h refl
any_among f p (q ∷ ps) (depths.later a) h = or_right (f q) (list_any f ps) (any_among f p ps a h)

leads_more : (text : Declared) (n : ℕ) (x : Name) (p : Part)
    → leads_to text (suc n) x p ≡ list_any (λ q. is_part_named x q || leads_to text n x q) (parts_of text p)
unfolding leads_to
leads_more text n x p = refl

leads_none : (text : Declared) (x : Name) (p : Part) → leads_to text zero x p ≡ false
unfolding leads_to
leads_none text x p = refl

-- a part that has the name, or that leads to it
leads_by_name : (text : Declared) (n : ℕ) (x : Name) (p q : Part) → depths.Among q (parts_of text p)
    → is_part_named x q ≡ true → leads_to text (suc n) x p ≡ true
leads_by_name text n x p q a h = leads_more text n x p
    ∙ any_among (λ r. is_part_named x r || leads_to text n x r) q (parts_of text p) a
    (or_left (is_part_named x q) (leads_to text n x q) h)

leads_by_part : (text : Declared) (n : ℕ) (x : Name) (p q : Part) → depths.Among q (parts_of text p)
    → leads_to text n x q ≡ true → leads_to text (suc n) x p ≡ true
leads_by_part text n x p q a h = leads_more text n x p
    ∙ any_among (λ r. is_part_named x r || leads_to text n x r) q (parts_of text p) a
    (or_right (is_part_named x q) (leads_to text n x q) h)

record Found (f : Part → Bool) (ps : List Part) : Type 0 where
  part : Part
  among : depths.Among part ps
  passes : f part ≡ true

any_found : (f : Part → Bool) (ps : List Part) → list_any f ps ≡ true → Found f ps
any_found f [] h = absurd (cc)
any_found f (p ∷ ps) h = by_test (f p) refl h (λ e. any_found f ps e)
  where
    by_test : (b : Bool) → f p ≡ b → (f p || list_any f ps) ≡ true → (list_any f ps ≡ true → Found f ps)
        → Found f (p ∷ ps)
    by_test true e h rest = record { part = p; among = depths.first; passes = e }
    by_test false e h rest =
        let below = rest (sym (ap (λ b. b || list_any f ps) e) ∙ h) in
        record { part = below.part; among = depths.later below.among; passes = below.passes }

named_is : (x : Name) (q : Part) → is_part_named x q ≡ true → q ≡ rules_of.named x
named_is x rules_of.elementary h = absurd (cc)
named_is x (rules_of.row t) h = absurd (cc)
named_is x (rules_of.named y) h = ap rules_of.named (sym (same_bytes x y h))

or_either : (b c : Bool) → b ≡ false → (b || c) ≡ true → c ≡ true
or_either b c e h = sym (ap (λ d. d || c) e) ∙ h

-- a part that leads to a name holds it
pub leads_holds : (text : Declared) (n : ℕ) (x : Name) (p : Part) → leads_to text n x p ≡ true
    → Holds text p (rules_of.named x)
leads_holds text zero x p h = absurd (never (sym (leads_none text x p) ∙ h))
  where
    never : false ≡ true → ⊥
    never e = cc
leads_holds text (suc n) x p h = by_found
    (any_found (λ q. is_part_named x q || leads_to text n x q) (parts_of text p) (sym (leads_more text n x p) ∙ h))
    (λ q e. leads_holds text n x q e)
  where
    by_test : (f : Found (λ q. is_part_named x q || leads_to text n x q) (parts_of text p)) (b : Bool)
        → is_part_named x f.part ≡ b
        → ((q : Part) → leads_to text n x q ≡ true → Holds text q (rules_of.named x))
        → Holds text p (rules_of.named x)
    by_test f true e rest =
        holds_part (subst (λ q. depths.Among q (parts_of text p)) (named_is x f.part e) f.among)
    by_test f false e rest = holds_further f.among
        (rest f.part (or_either (is_part_named x f.part) (leads_to text n x f.part) e f.passes))

    by_found : Found (λ q. is_part_named x q || leads_to text n x q) (parts_of text p)
        → ((q : Part) → leads_to text n x q ≡ true → Holds text q (rules_of.named x))
        → Holds text p (rules_of.named x)
    by_found f rest = by_test f (is_part_named x f.part) refl rest

-- with more steps too
leads_longer : (text : Declared) (n : ℕ) (x : Name) (p : Part) → leads_to text n x p ≡ true
    → leads_to text (suc n) x p ≡ true
leads_longer text zero x p h = absurd (never (sym (leads_none text x p) ∙ h))
  where
    never : false ≡ true → ⊥
    never e = cc
leads_longer text (suc n) x p h = by_found
    (any_found (λ q. is_part_named x q || leads_to text n x q) (parts_of text p) (sym (leads_more text n x p) ∙ h))
    (λ q e. leads_longer text n x q e)
  where
    by_test : (f : Found (λ q. is_part_named x q || leads_to text n x q) (parts_of text p)) (b : Bool)
        → is_part_named x f.part ≡ b
        → ((q : Part) → leads_to text n x q ≡ true → leads_to text (suc n) x q ≡ true)
        → leads_to text (suc (suc n)) x p ≡ true
    by_test f true e rest = leads_by_name text (suc n) x p f.part f.among e
    by_test f false e rest = leads_by_part text (suc n) x p f.part f.among
        (rest f.part (or_either (is_part_named x f.part) (leads_to text n x f.part) e f.passes))

    by_found : Found (λ q. is_part_named x q || leads_to text n x q) (parts_of text p)
        → ((q : Part) → leads_to text n x q ≡ true → leads_to text (suc n) x q ≡ true)
        → leads_to text (suc (suc n)) x p ≡ true
    by_found f rest = by_test f (is_part_named x f.part) refl rest

leads_within : (text : Declared) (k n : ℕ) (x : Name) (p : Part) → leads_to text n x p ≡ true
    → leads_to text (k + n) x p ≡ true
leads_within text zero n x p h = subst (λ m. leads_to text m x p ≡ true) (none_plus n) h
  where
    none_plus : (m : ℕ) → m ≡ 0 + m
    none_plus m = omega arith
leads_within text (suc k) n x p h = subst (λ m. leads_to text m x p ≡ true) (suc_plus k n)
    (leads_longer text (k + n) x p (leads_within text k n x p h))
  where
    suc_plus : (a b : ℕ) → suc (a + b) ≡ suc a + b
    suc_plus a b = omega arith

-- an array without a name leads where its element does
row_leads : (text : Declared) (n : ℕ) (x : Name) (z : Identifier) → leads_to text n x (rules_of.named z.name) ≡ true
    → leads_to text (suc n) x (rules_of.row (Named z)) ≡ true
row_leads text n x z h =
    leads_by_part text n x (rules_of.row (Named z)) (rules_of.named z.name) depths.first h

row_is : (text : Declared) (n : ℕ) (x : Name) (z : Identifier) → x ≡ z.name
    → leads_to text (suc n) x (rules_of.row (Named z)) ≡ true
row_is text n x z e = leads_by_name text n x (rules_of.row (Named z)) (rules_of.named z.name) depths.first
    (ap (bytes_eq x) (sym e) ∙ same_bytes_itself x)

same_at : (text : Declared) (i : ℕ) (x z : Name) → slice_get (node_names text) i ≡ Some x → At text i z → x ≡ z
same_at text i x z at there = some_is (sym at ∙ there.name)
  where
    some_is : {a b : Name} → Some a ≡ Some b → a ≡ b
    some_is h = search rules

double : (m : ℕ) → suc (suc (m + m)) ≡ suc m + suc m
double m = omega arith

last_step : (text : Declared) (to : ℕ) (x : Name) (p : Part) → slice_get (node_names text) to ≡ Some x
    → Step text (parts_of text p) to → leads_to text (1 + 1) x p ≡ true
last_step text to x p at (direct z a there) = leads_by_name text 1 x p (rules_of.named z) a
    (ap (bytes_eq x) (sym (same_at text to x z at there)) ∙ same_bytes_itself x)
last_step text to x p at (by_row z a there) = leads_by_part text 1 x p (rules_of.row (Named z)) a
    (row_is text 0 x z (same_at text to x z.name at there))

more_step : (text : Declared) (n : ℕ) (to : ℕ) (x : Name) (p : Part)
    → ((z : Name) → At text to z → leads_to text (n + n) x (rules_of.named z) ≡ true)
    → Step text (parts_of text p) to → leads_to text (suc n + suc n) x p ≡ true
more_step text n to x p rest (direct z a there) = subst (λ m. leads_to text m x p ≡ true) (double n)
    (leads_longer text (suc (n + n)) x p (leads_by_part text (n + n) x p (rules_of.named z) a (rest z there)))
more_step text n to x p rest (by_row z a there) = subst (λ m. leads_to text m x p ≡ true) (double n)
    (leads_by_part text (suc (n + n)) x p (rules_of.row (Named z)) a
    (row_leads text (n + n) x z (rest z.name there)))

way_leads : (text : Declared) (numbers : Name → Option ℕ) (graph : Graph) (n from to : ℕ) (x : Name) (p : Part)
    → IsGraphOf text numbers graph → LinkPath graph n from to → slice_get (node_names text) to ≡ Some x
    → links_at graph from ≡ map (link_of numbers) (parts_of text p) → leads_to text (n + n) x p ≡ true
way_leads text numbers graph n from to x p g (one leads) at are =
    last_step text to x p at (step_of text numbers graph from to (parts_of text p) g leads are)
way_leads text numbers graph n from to x p g (further {n = m} {at = via} leads way) at are =
    more_step text m via x p
    (λ z there. way_leads text numbers graph m via to x (rules_of.named z) g way at
    (links_are text numbers graph via (parts_named text z) g there.holds))
    (step_of text numbers graph from via (parts_of text p) g leads are)

-- a type or unit on a cycle contains itself
pub record Cycles (text : Declared) (i : ℕ) : Type 0 where
  pub name : Name
  pub at : slice_get (node_names text) i ≡ Some name
  pub contains : contains_itself text name ≡ true

pub cycle_told : (text : Declared) (numbers : Name → Option ℕ) (graph : Graph) (i : ℕ)
    → IsGraphOf text numbers graph → IsCycle graph i → Cycles text i
cycle_told text numbers graph i g cycle =
    let end = way_end text numbers graph cycle.links i i g cycle.way in
    let leads = way_leads text numbers graph cycle.links i i end.name (rules_of.named end.name) g cycle.way end.at.name
    (links_are text numbers graph i (parts_named text end.name) g end.at.holds) in
    let all : length graph ≡ length text.types + length text.units =
    ap length g.links ∙ length-map (node_parts text) (map (link_of numbers))
    ∙ length-append (map (λ t. parts_of_definition t.definition) text.types) (map (parts_of_unit text) text.units)
    ∙ ap (λ n. n + length (map (parts_of_unit text) text.units))
    (length-map text.types (λ t. parts_of_definition t.definition))
    ∙ ap (λ n. length text.types + n) (length-map text.units (parts_of_unit text)) in
    let short = cycle.short in
    record {
      name = end.name;
      at = end.at.name;
      contains = subst (λ n. leads_to text n end.name (rules_of.named end.name) ≡ true)
          (enough cycle.links (length text.types + length text.units) (subst (λ n. cycle.links ≤ n) all short))
          (leads_within text (2 * (length text.types + length text.units) - (cycle.links + cycle.links))
          (cycle.links + cycle.links) end.name (rules_of.named end.name) leads);
    }
  where
    enough : (k m : ℕ) → k ≤ m → (2 * m - (k + k)) + (k + k) ≡ 2 * m
    enough k m h = omega (arith, h)
