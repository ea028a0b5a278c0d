-- The meaning of the marks of a walk over a whole text.
use Rattle.std.proofs.Common.{◌≡◌, refl, sym, ap, subst, ◌∙◌, ℕ, suc, ◌+◌, ◌*◌, ◌≤◌, List, map, length}
use Rattle.std.proofs.Common.{Option, Some, None, Bool, true, false, arith}
use Rattle.std.specs.Prelude.{slice_get, nat_lt, nat_le}
use Rattle.std.proofs.lemmas.Bool.Decides.{nat_tests}
use Rattle.std.proofs.lemmas.Option.{slice_get_within}
use Rattle.std.proofs.lemmas.List.{length-map}
use Rattle.st_types.specs.declared.data_type.SimpleType.TheVariants.{Elementary, Named}
use Rattle.st_meaning.specs.Scopes.{Name}
use Rattle.st_meaning.specs.NameTypes.{Declared}
use Rattle.st_rules.specs.declared.limits.TheConstants.{MAX_TYPE_DEPTH}
use Rattle.st_rules.specs.Containment as rules_of
use Rattle.st_rules.specs.Containment.{Part, has_chain, is_too_deep, contains_itself, leads_to}
use Rattle.st_rules.specs.Depths.{HasDepth}
use Rattle.st_rules.proofs.DepthLaws.{cycles_have_chains, chains_are_depths}
use Rattle.st_decl.specs.declared.links.Target.{Target}
use Rattle.st_decl.specs.declared.links.Target.TheVariants.{Plain, Standard, Node}
use Rattle.st_decl.specs.declared.links.Link.{Link}
use Rattle.st_decl.specs.declared.depths.Mark.{Mark}
use Rattle.st_decl.specs.declared.depths.Mark.TheVariants.{Unseen, OnPath, Depth}
use Rattle.st_decl.specs.declared.depths.Seen.{Seen}
use Rattle.st_decl.specs.declared.depths.Seen.TheVariants as seen
use Rattle.st_decl.specs.Graphs.{Graph}
use Rattle.st_decl.specs.Parts.{node_parts, target_of_name, link_of}
use Rattle.st_decl.specs.Numbered.{IsGraphOf}
use Rattle.st_decl.specs.Walks.{capped_depth, seen_of_mark, seen_of_target, seen_in_row, seen_of, has_depth, AllMarked, is_deep}
use Rattle.st_decl.specs.Walks.{is_deep_seen}
use Rattle.st_decl.proofs.WalkLemmas.{link_told}
use Rattle.st_decl.proofs.GraphDepths.{part_depth}
use Rattle.st_decl.proofs.GraphWays.{name_at, leads_holds}

-- the depth of a part, and the marks' view of it
record IsDeepAs (text : Declared) (marks : List Mark) (l : Link) (p : Part) : Type 0 where
  depth : ℕ
  has : HasDepth text p depth
  shown : ℕ
  sees : seen_of marks l ≡ seen.Depth shown
  is_cut : shown ≡ capped_depth depth

data HasShown (s : Seen) : Type 0 where
  shows : (c : ℕ) → s ≡ seen.Depth c → HasShown s

shown_mark : (m : Option Mark) (i : ℕ) → has_depth m ≡ true → HasShown (seen_of_mark m i)
shown_mark None i h = absurd (cc)
shown_mark (Some Unseen) i h = absurd (cc)
shown_mark (Some (OnPath k)) i h = absurd (cc)
shown_mark (Some (Depth c)) i h = shows c refl

shown_row : (b : Bool) (s : Seen) → HasShown s → HasShown (seen_in_row b s)
shown_row false s h = h
shown_row true (seen.Open i) (shows c e) = absurd (cc)
shown_row true (seen.Depth d) (shows c e) = shows (capped_depth (suc d)) refl

-- each target of a part is marked
shown_target : (text : Declared) (numbers : Name → Option ℕ) (graph : Graph) (marks : List Mark) (x : Name) (t : Target)
    → IsGraphOf text numbers graph → AllMarked graph marks → t ≡ target_of_name numbers x
    → HasShown (seen_of_target marks t)
shown_target text numbers graph marks x Plain g told e = shows 1 refl
shown_target text numbers graph marks x Standard g told e = shows 2 refl
shown_target text numbers graph marks x (Node i) g told e =
    let at = name_at text numbers graph x i g (sym e) in
    let within = slice_get_within (node_parts text) i (rules_of.parts_named text x) at.holds in
    let long : length graph ≡ length (node_parts text) =
    ap length g.links ∙ length-map (node_parts text) (map (link_of numbers)) in
    shown_mark (slice_get marks i) i (told.all i (subst (λ n. suc i ≤ n) (sym long) within))

shown_part : (text : Declared) (numbers : Name → Option ℕ) (graph : Graph) (marks : List Mark) (p : Part)
    → IsGraphOf text numbers graph → AllMarked graph marks → HasShown (seen_of marks (link_of numbers p))
shown_part text numbers graph marks rules_of.elementary g told = shows 1 refl
shown_part text numbers graph marks (rules_of.named x) g told =
    shown_target text numbers graph marks x (target_of_name numbers x) g told refl
shown_part text numbers graph marks (rules_of.row (Elementary k at)) g told = shows (capped_depth 2) refl
shown_part text numbers graph marks (rules_of.row (Named x)) g told =
    shown_row true (seen_of_target marks (target_of_name numbers x.name))
    (shown_target text numbers graph marks x.name (target_of_name numbers x.name) g told refl)

part_told : (text : Declared) (numbers : Name → Option ℕ) (graph : Graph) (marks : List Mark) (p : Part)
    → IsGraphOf text numbers graph → AllMarked graph marks → IsDeepAs text marks (link_of numbers p) p
part_told text numbers graph marks p g told = by_shown (shown_part text numbers graph marks p g told)
  where
    by_shown : HasShown (seen_of marks (link_of numbers p)) → IsDeepAs text marks (link_of numbers p) p
    by_shown (shows c e) =
        let link = link_told graph marks (link_of numbers p) c told.told e in
        record {
          depth = link.depth;
          has = part_depth text numbers graph g p (link_of numbers p) link.depth link.has refl;
          shown = c;
          sees = e;
          is_cut = link.is_cut;
        }

deep_cut : (d c : ℕ) → c ≡ capped_depth d → nat_lt MAX_TYPE_DEPTH c ≡ nat_le (MAX_TYPE_DEPTH + 1) d
deep_cut d c e = grind (arith, nat_tests, e)

-- the marks say which parts are too deep
pub deep_told : (text : Declared) (numbers : Name → Option ℕ) (graph : Graph) (marks : List Mark) (p : Part)
    → IsGraphOf text numbers graph → AllMarked graph marks → is_deep marks (link_of numbers p) ≡ is_too_deep text p
deep_told text numbers graph marks p g told =
    let here = part_told text numbers graph marks p g told in
    ap is_deep_seen here.sees ∙ deep_cut here.depth here.shown here.is_cut
    ∙ sym (chains_are_depths text p here.depth (MAX_TYPE_DEPTH + 1) here.has)

not_above : (d : ℕ) → nat_le (suc d) d ≡ false
not_above d = grind (arith, nat_tests)

-- and that nothing contains itself
pub none_contains_itself : (text : Declared) (numbers : Name → Option ℕ) (graph : Graph) (marks : List Mark) (x : Name)
    → IsGraphOf text numbers graph → AllMarked graph marks → contains_itself text x ≡ false
none_contains_itself text numbers graph marks x g told = by_test (contains_itself text x) refl
  where
    never : true ≡ false → ⊥
    never e = cc

    by_test : (b : Bool) → contains_itself text x ≡ b → b ≡ false
    by_test false e = refl
    by_test true e =
        let here = part_told text numbers graph marks (rules_of.named x) g told in
        let holds = leads_holds text (2 * (length text.types + length text.units)) x (rules_of.named x) e in
        absurd (never (sym (cycles_have_chains text (rules_of.named x) (suc here.depth) holds)
        ∙ chains_are_depths text (rules_of.named x) here.depth (suc here.depth) here.has ∙ not_above here.depth))
