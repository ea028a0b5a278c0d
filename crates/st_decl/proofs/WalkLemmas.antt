-- The invariant of a walk over types and units, step by step.
use Rattle.std.proofs.Common.{◌≡◌, refl, sym, ap, subst, ◌∙◌, ℕ, zero, suc, ◌+◌, ◌<◌, ◌≤◌, List, [], ◌∷◌, ◌++◌, take}
use Rattle.std.proofs.Common.{length}
use Rattle.std.proofs.Common.{Option, Some, None, Bool, true, false, arith, rules, slice_index_or}
use Rattle.std.specs.Prelude.{max, slice_get}
use Rattle.std.proofs.lemmas.List.{take_more}
use Rattle.std.proofs.lemmas.Option.{slice_get_past}
use Rattle.st_decl.specs.declared.links.Target.{Target}
use Rattle.st_decl.specs.declared.links.Target.TheVariants.{Plain, Standard, Node}
use Rattle.st_decl.specs.declared.links.Link.{Link}
use Rattle.st_decl.specs.declared.depths.Mark.{Mark}
use Rattle.st_decl.specs.declared.depths.Mark.TheVariants.{Unseen, OnPath, Depth}
use Rattle.st_decl.specs.declared.depths.Seen.{Seen}
use Rattle.st_decl.specs.declared.depths.Seen.TheVariants as seen
use Rattle.st_decl.specs.Graphs.{Graph, links_at, links_or_none, TargetDepth, plain, standard, node, LinkDepth}
use Rattle.st_decl.specs.Graphs.{straight, row}
use Rattle.st_decl.specs.Graphs.{Deepest, nothing, deepest, Among, first, later}
use Rattle.st_decl.specs.Walks.{capped_depth, deeper, seen_of_mark, seen_of_target, seen_in_row, seen_of, IsCappedDepth}
use Rattle.st_decl.specs.Walks.{MarksHold}
use Rattle.st_decl.specs.Walks.{IsOpen}
use Rattle.st_types.proofs.ListLemmas.{none_from}

cut_suc : (d : ℕ) → capped_depth (suc (capped_depth d)) ≡ capped_depth (suc d)
cut_suc d = omega arith

cut_max : (a b : ℕ) → max (capped_depth a) (capped_depth b) ≡ capped_depth (max a b)
cut_max a b = omega arith

max_assoc : (a b c : ℕ) → max a (max b c) ≡ max (max a b) c
max_assoc a b c = omega arith

max_nothing : (a : ℕ) → max a 0 ≡ max 0 a
max_nothing a = omega arith

-- one link more
deepest_push : {graph : Graph} {ls : List Link} {m d : ℕ} (l : Link) → Deepest graph ls m → LinkDepth graph l d
    → Deepest graph (ls ++ l ∷ []) (max m d)
deepest_push {d = d} l nothing has = subst (Deepest _ (l ∷ [])) (max_nothing d) (deepest has nothing)
deepest_push {d = d} l (deepest {l = l'} {ls = ls} {d = e} {m = m} here rest) has =
    subst (Deepest _ (l' ∷ (ls ++ l ∷ []))) (max_assoc e m d) (deepest here (deepest_push l rest has))

-- a depth of a link, cut off
pub record IsCutLink (graph : Graph) (l : Link) (c : ℕ) : Type 0 where
  pub depth : ℕ
  pub has : LinkDepth graph l depth
  pub is_cut : c ≡ capped_depth depth

record IsCutTarget (graph : Graph) (t : Target) (c : ℕ) : Type 0 where
  depth : ℕ
  has : TargetDepth graph t depth
  is_cut : c ≡ capped_depth depth

depth_is : {a b : ℕ} → seen.Depth a ≡ seen.Depth b → a ≡ b
depth_is h = search rules

missing : (graph : Graph) (marks : List Mark) (i : ℕ) → MarksHold graph marks → slice_get marks i ≡ None
    → links_at graph i ≡ []
missing graph marks i told none = ap links_or_none (slice_get_past graph i (past (none_from marks i none)))
  where
    past : length marks ≤ i → length graph ≤ i
    past h = subst (λ n. n ≤ i) told.length h

target_told : (graph : Graph) (marks : List Mark) (t : Target) (c : ℕ) → MarksHold graph marks
    → seen_of_target marks t ≡ seen.Depth c → IsCutTarget graph t c
target_told graph marks Plain c told is = record { depth = 1; has = plain; is_cut = sym (depth_is is) }
target_told graph marks Standard c told is = record { depth = 2; has = standard; is_cut = sym (depth_is is) }
target_told graph marks (Node i) c told is = node_told (slice_get marks i) refl is
  where
    node_told : (m : Option Mark) → slice_get marks i ≡ m → seen_of_mark m i ≡ seen.Depth c
        → IsCutTarget graph (Node i) c
    node_told None at is = record {
      depth = 1;
      has = node (subst (λ ls. Deepest graph ls 0) (sym (missing graph marks i told at)) nothing);
      is_cut = sym (depth_is is);
    }
    node_told (Some Unseen) at is = absurd (cc)
    node_told (Some (OnPath k)) at is = absurd (cc)
    node_told (Some (Depth e)) at is =
        let tells = told.tells i e at in
        record {
          depth = suc tells.deepest.depth;
          has = node tells.deepest.deepest;
          is_cut = sym (depth_is is) ∙ tells.is_above ∙ ap deeper tells.deepest.is_cut
              ∙ cut_suc tells.deepest.depth;
        }

pub link_told : (graph : Graph) (marks : List Mark) (l : Link) (c : ℕ) → MarksHold graph marks
    → seen_of marks l ≡ seen.Depth c → IsCutLink graph l c
link_told graph marks l c told is = by_row l.is_row l.target refl is
  where
    lifted : (t : Target) (s : Seen) → seen_of_target marks t ≡ s → seen_in_row true s ≡ seen.Depth c
        → IsCutLink graph (record { target = t; is_row = true }) c
    lifted t (seen.Open i) at sees = absurd (cc)
    lifted t (seen.Depth e) at sees =
        let below = target_told graph marks t e told at in
        record {
          depth = suc below.depth;
          has = row below.has;
          is_cut = sym (depth_is sees) ∙ ap deeper below.is_cut ∙ cut_suc below.depth;
        }

    by_row : (b : Bool) (t : Target) → l ≡ record { target = t; is_row = b }
        → seen_in_row b (seen_of_target marks t) ≡ seen.Depth c → IsCutLink graph l c
    by_row false t at sees =
        let here = target_told graph marks t c told sees in
        record {
          depth = here.depth;
          has = subst (λ k. LinkDepth graph k here.depth) (sym at) (straight here.has);
          is_cut = here.is_cut;
        }
    by_row true t at sees =
        subst (λ k. IsCutLink graph k c) (sym at) (lifted t (seen_of_target marks t) refl sees)

pub look_turn : (graph : Graph) (marks : List Mark) (links : List Link) (i : ℕ) (d : Link) (c below : ℕ)
    → MarksHold graph marks → i < length links → seen_of marks (slice_index_or links i d) ≡ seen.Depth c
    → IsCappedDepth graph (take i links) below → IsCappedDepth graph (take (i + 1) links) (max below c)
look_turn graph marks links i d c below told within sees before =
    let l = slice_index_or links i d in
    let has = link_told graph marks l c told sees in
    record {
      depth = max before.depth has.depth;
      deepest = subst (λ ls. Deepest graph ls (max before.depth has.depth)) (sym (take_more links i d within))
          (deepest_push l before.deepest has.has);
      is_cut = ap (λ a. max a c) before.is_cut ∙ ap (max (capped_depth before.depth)) has.is_cut
          ∙ cut_max before.depth has.depth;
    }

among_at : (links : List Link) (i : ℕ) (d : Link) → i < length links → Among (slice_index_or links i d) links
among_at [] i d h = absurd (omega arith)
among_at (l ∷ ls) zero d h = first
among_at (l ∷ ls) (suc i) d h = later (among_at ls i d (omega arith))

node_is : {a b : ℕ} → seen.Open a ≡ seen.Open b → a ≡ b
node_is h = search rules

-- a type or unit without a known depth is seen as itself
open_mark : (m : Option Mark) (i n : ℕ) → seen_of_mark m i ≡ seen.Open n → i ≡ n
open_mark None i n h = absurd (cc)
open_mark (Some (Depth d)) i n h = absurd (cc)
open_mark (Some Unseen) i n h = node_is h
open_mark (Some (OnPath k)) i n h = node_is h

record IsOpenTarget (marks : List Mark) (t : Target) (n : ℕ) : Type 0 where
  target : t ≡ Node n
  unknown : seen_of_mark (slice_get marks n) n ≡ seen.Open n

open_target : (marks : List Mark) (t : Target) (n : ℕ) → seen_of_target marks t ≡ seen.Open n → IsOpenTarget marks t n
open_target marks Plain n h = absurd (cc)
open_target marks Standard n h = absurd (cc)
open_target marks (Node i) n h =
    let is = open_mark (slice_get marks i) i n h in
    record {
      target = ap Node is;
      unknown = subst (λ k. seen_of_mark (slice_get marks k) k ≡ seen.Open n) is h;
    }

open_row : (marks : List Mark) (b : Bool) (s : Seen) (n : ℕ) → seen_in_row b s ≡ seen.Open n → s ≡ seen.Open n
open_row marks false s n h = h
open_row marks true (seen.Depth d) n h = absurd (cc)
open_row marks true (seen.Open i) n h = h

pub look_open : (marks : List Mark) (links : List Link) (i : ℕ) (d : Link) (n : ℕ) → i < length links
    → seen_of marks (slice_index_or links i d) ≡ seen.Open n → IsOpen marks links n
look_open marks links i d n within sees =
    let l = slice_index_or links i d in
    let here = open_target marks l.target n (open_row marks l.is_row (seen_of_target marks l.target) n sees) in
    record { link = l; among = among_at links i d within; target = here.target; unknown = here.unknown }
