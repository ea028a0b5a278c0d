-- The turns of a walk from one type or unit.
use Rattle.std.proofs.Common.{◌≡◌, ◌≢◌, refl, sym, ap, subst, ◌∙◌, ℕ, zero, suc, ◌<◌, List, [], ◌∷◌, ◌++◌, length}
use Rattle.std.proofs.Common.{set, take, Option, Some, None, arith, rules, true, false}
use Rattle.std.specs.Prelude.{slice_get}
use Rattle.std.specs.List.{sum_by}
use Rattle.std.proofs.lemmas.Option.{slice_get_within}
use Rattle.st_decl.specs.declared.depths.Mark.{Mark}
use Rattle.st_decl.specs.declared.depths.Mark.TheVariants.{Unseen, OnPath, Depth}
use Rattle.st_decl.specs.declared.depths.Visit.{Visit}
use Rattle.st_decl.specs.declared.depths.Seen.TheVariants as seen
use Rattle.st_decl.specs.Graphs.{Graph, links_at, LinksTo, IsCycle}
use Rattle.st_decl.specs.Walks.{deeper, seen_of_mark, IsCappedDepth, HasLooked, IsOpen, Walking, Stay, is_seen}
use Rattle.st_decl.specs.Walks.{has_depth}
use Rattle.st_decl.specs.Walks.{is_on_path, Underway, Ended, left_of}
use Rattle.st_decl.proofs.PathLemmas.{Split, in_front, at_end, get_split, set_other, sum_changed}
use Rattle.st_decl.proofs.WalkSteps.{fresh, looked_further, LastLeads, entered, left, comes_back}
use Rattle.st_types.proofs.ListLemmas.{get_last}

take_all : {A : Type 0} (xs : List A) → take (length xs) xs ≡ xs
take_all [] = refl
take_all (x ∷ xs) = ap (λ ys. x ∷ ys) (take_all xs)

seen_set : (marks : List Mark) (i k : ℕ) (new : Mark) → is_seen (Some new) ≡ true → is_seen (slice_get marks k) ≡ true
    → is_seen (slice_get (set marks i new) k) ≡ true
seen_set [] i k new is h = h
seen_set (m ∷ ms) zero zero new is h = is
seen_set (m ∷ ms) zero (suc k) new is h = h
seen_set (m ∷ ms) (suc i) zero new is h = h
seen_set (m ∷ ms) (suc i) (suc k) new is h = seen_set ms i k new is h

-- only an element without a depth is changed
stay_set : (old marks : List Mark) (i : ℕ) (new m : Mark) → Stay old marks → slice_get marks i ≡ Some m
    → ((c : ℕ) → m ≢ Depth c) → Stay old (set marks i new)
stay_set old marks i new m stay at other = λ k c h.
    set_other marks i k new (λ e. other c (mark_is (sym at ∙ ap (slice_get marks) e ∙ stay k c h))) ∙ stay k c h
  where
    mark_is : {a b : Mark} → Some a ≡ Some b → a ≡ b
    mark_is h = search rules

top : {graph : Graph} {old marks : List Mark} {path : List Visit} {start : ℕ} (init : List Visit) (v : Visit)
    → Underway graph old marks path start → path ≡ init ++ v ∷ [] → Walking graph marks (init ++ v ∷ [])
top {graph = graph} {marks = marks} init v u is = subst (Walking graph marks) is u.walking

-- the looks at the links of the path's top
pub top_looked : {graph : Graph} {old marks : List Mark} {path : List Visit} {start : ℕ} (init : List Visit) (v : Visit)
    → Underway graph old marks path start → path ≡ init ++ v ∷ [] → HasLooked graph (links_at graph v.node) v
top_looked init v u is = (top init v u is).looked (length init) v (get_last init v)

top_marked : {graph : Graph} {old marks : List Mark} {path : List Visit} {start : ℕ} (init : List Visit) (v : Visit)
    → Underway graph old marks path start → path ≡ init ++ v ∷ [] → slice_get marks v.node ≡ Some (OnPath (length init))
top_marked init v u is = (top init v u is).marked (length init) v (get_last init v)

pub top_within : {graph : Graph} {old marks : List Mark} {path : List Visit} {start : ℕ} (init : List Visit)
    (v new : Visit) → Underway graph old marks path start → path ≡ init ++ v ∷ [] → new.node ≡ v.node
    → new.node < length marks
top_within {marks = marks} init v new u is same = subst (λ n. n < length marks) (sym same)
    (slice_get_within marks v.node (OnPath (length init)) (top_marked init v u is))

on_path_no_depth : (k c : ℕ) → OnPath k ≢ Depth c
on_path_no_depth k c e = cc

unseen_no_depth : (c : ℕ) → Unseen ≢ Depth c
unseen_no_depth c e = cc

-- at the start
pub start_turn : (graph : Graph) (old marks : List Mark) (path next : List Visit) (start : ℕ) → Walking graph old []
    → slice_get old start ≡ Some Unseen → path ≡ [] → marks ≡ set old start (OnPath (length path))
    → next ≡ path ++ fresh start ∷ [] → Underway graph old marks next start
start_turn graph old marks path next start w unseen empty marked stands =
    let w' = subst (Walking graph old) (sym empty) w in
    let last : LastLeads graph path start = λ k v at ends. absurd (none k ends) in
    let walking = entered graph old path start w' last unseen in
    record {
      walking = subst (λ p. Walking graph marks p) (sym stands)
          (subst (λ m. Walking graph m (path ++ fresh start ∷ [])) (sym marked) walking);
      stay = subst (Stay old) (sym marked)
          (stay_set old old start (OnPath (length path)) Unseen (λ k c h. h) unseen unseen_no_depth);
      known = ap (λ m. is_seen (slice_get m start)) marked ∙ seen_here old (OnPath (length path)) unseen refl;
    }
  where
    none : (k : ℕ) → suc k ≡ length path → ⊥
    none k ends = let zero_long = ap length empty in omega (arith, ends, zero_long)

    seen_here : (marks' : List Mark) (new : Mark) → slice_get marks' start ≡ Some Unseen → is_seen (Some new) ≡ true
        → is_seen (slice_get (set marks' start new) start) ≡ true
    seen_here marks' new at is = here marks' start at
      where
        here : (ms : List Mark) (i : ℕ) → slice_get ms i ≡ Some Unseen → is_seen (slice_get (set ms i new) i) ≡ true
        here [] i h = absurd (cc)
        here (m ∷ ms) zero h = is
        here (m ∷ ms) (suc i) h = here ms i h

-- the depth of the top is known
pub close_turn : {graph : Graph} {old marks : List Mark} {path : List Visit} {start : ℕ} (init : List Visit)
    (v new : Visit) (c : ℕ) → Underway graph old marks path start → path ≡ init ++ v ∷ [] → new.node ≡ v.node
    → HasLooked graph (links_at graph v.node) new → new.looked ≡ length (links_at graph v.node)
    → c ≡ deeper new.deepest → Underway graph old (set marks new.node (Depth c)) init start
close_turn {graph = graph} {old = old} {marks = marks} {start = start} init v new c u is same looked all right =
    subst (λ n. Underway graph old (set marks n (Depth c)) init start) (sym same) (record {
      walking = left graph marks init v c (top init v u is) (record {
        below = new.deepest;
        deepest = subst (λ ls. IsCappedDepth graph ls new.deepest)
            (ap (λ n. take n (links_at graph v.node)) all ∙ take_all (links_at graph v.node)) looked.deepest;
        is_above = right;
      });
      stay = stay_set old marks v.node (Depth c) (OnPath (length init)) u.stay (top_marked init v u is)
          (on_path_no_depth (length init));
      known = seen_set marks v.node start (Depth c) refl u.known;
    })

pub close_smaller : {graph : Graph} {old marks : List Mark} {path : List Visit} {start : ℕ} (init : List Visit)
    (v new : Visit) (c : ℕ) → Underway graph old marks path start → path ≡ init ++ v ∷ [] → new.node ≡ v.node
    → sum_by left_of (set marks new.node (Depth c)) < sum_by left_of marks
close_smaller {marks = marks} init v new c u is same =
    let at : slice_get marks new.node ≡ Some (OnPath (length init)) =
    ap (slice_get marks) same ∙ top_marked init v u is in
    let less = sum_changed left_of marks new.node (OnPath (length init)) (Depth c) at in
    omega (arith, less)

-- the target of the top
leads_on : (graph : Graph) (marks : List Mark) (v : Visit) (n : ℕ) → IsOpen marks (links_at graph v.node) n
    → LinksTo graph v.node n
leads_on graph marks v n is_open = record { link = is_open.link; among = is_open.among; target = is_open.target }

last_leads : (graph : Graph) (init : List Visit) (new : Visit) (n : ℕ) → LinksTo graph new.node n
    → LastLeads graph (init ++ new ∷ []) n
last_leads graph init new n leads k v at ends = by_split (get_split init new v k at)
  where
    longer : (xs : List Visit) → length (xs ++ new ∷ []) ≡ suc (length xs)
    longer [] = refl
    longer (x ∷ xs) = ap suc (longer xs)

    by_split : Split init new v k → LinksTo graph v.node n
    by_split (in_front there) =
        let within = slice_get_within init k v there in
        let one_more = longer init in
        absurd (omega (arith, within, one_more, ends))
    by_split (at_end there is) = subst (λ x. LinksTo graph x.node n) is leads

open_not_standing : (m : Option Mark) (n : ℕ) → seen_of_mark m n ≡ seen.Open n → is_on_path m ≡ false
    → m ≡ Some Unseen
open_not_standing None n sees h = absurd (cc)
open_not_standing (Some (Depth c)) n sees h = absurd (cc)
open_not_standing (Some (OnPath k)) n sees h = absurd (cc)
open_not_standing (Some Unseen) n sees h = refl

record OnPathAt (m : Option Mark) : Type 0 where
  position : ℕ
  is : m ≡ Some (OnPath position)

standing_at : (m : Option Mark) → is_on_path m ≡ true → OnPathAt m
standing_at None h = absurd (cc)
standing_at (Some Unseen) h = absurd (cc)
standing_at (Some (Depth c)) h = absurd (cc)
standing_at (Some (OnPath k)) h = record { position = k; is = refl }

pub open_unseen : (graph : Graph) (marks : List Mark) (v : Visit) (n : ℕ) → IsOpen marks (links_at graph v.node) n
    → is_on_path (slice_get marks n) ≡ false → slice_get marks n ≡ Some Unseen
open_unseen graph marks v n is_open h = open_not_standing (slice_get marks n) n is_open.unknown h

-- the top leads to a type or unit that was not seen yet
pub push_turn : {graph : Graph} {old marks : List Mark} {path : List Visit} {start : ℕ} (init : List Visit)
    (v new : Visit) (n : ℕ) (then : List Mark) (pushed next : List Visit) → Underway graph old marks path start
    → path ≡ init ++ v ∷ [] → new.node ≡ v.node → HasLooked graph (links_at graph v.node) new
    → IsOpen marks (links_at graph v.node) n → slice_get marks n ≡ Some Unseen → pushed ≡ init ++ new ∷ []
    → then ≡ set marks n (OnPath (length pushed)) → next ≡ pushed ++ fresh n ∷ []
    → Underway graph old then next start
push_turn {graph = graph} {old = old} {marks = marks} {start = start} init v new n then pushed next u is same looked
    is_open unseen puts marked stands =
    let further = looked_further graph marks init v new (top init v u is) same looked in
    let leads = subst (λ i. LinksTo graph i n) (sym same) (leads_on graph marks v n is_open) in
    let last = last_leads graph init new n leads in
    let walking = entered graph marks pushed n (subst (Walking graph marks) (sym puts) further)
    (subst (λ p. LastLeads graph p n) (sym puts) last) unseen in
    record {
      walking = subst (λ p. Walking graph then p) (sym stands)
          (subst (λ m. Walking graph m (pushed ++ fresh n ∷ [])) (sym marked) walking);
      stay = subst (Stay old) (sym marked)
          (stay_set old marks n (OnPath (length pushed)) Unseen u.stay unseen unseen_no_depth);
      known = ap (λ m. is_seen (slice_get m start)) marked
          ∙ seen_set marks n start (OnPath (length pushed)) refl u.known;
    }

pub push_smaller : (marks then : List Mark) (n k : ℕ) → slice_get marks n ≡ Some Unseen → then ≡ set marks n (OnPath k)
    → sum_by left_of then < sum_by left_of marks
push_smaller marks then n k unseen marked =
    let less = sum_changed left_of marks n Unseen (OnPath k) unseen in
    let same = ap (sum_by left_of) marked in
    omega (arith, less, same)

-- the top leads back to the path
pub cycle_turn : {graph : Graph} {old marks : List Mark} {path : List Visit} {start : ℕ} (init : List Visit)
    (v new : Visit) (n : ℕ) → Underway graph old marks path start → path ≡ init ++ v ∷ [] → new.node ≡ v.node
    → HasLooked graph (links_at graph v.node) new → IsOpen marks (links_at graph v.node) n
    → is_on_path (slice_get marks n) ≡ true → IsCycle graph n
cycle_turn {graph = graph} {marks = marks} init v new n u is same looked is_open stands =
    let further = looked_further graph marks init v new (top init v u is) same looked in
    let leads = subst (λ i. LinksTo graph i n) (sym same) (leads_on graph marks v n is_open) in
    let at = standing_at (slice_get marks n) stands in
    comes_back graph marks (init ++ new ∷ []) n at.position further (last_leads graph init new n leads) at.is

-- at the end
pub end_turn : {graph : Graph} {old marks : List Mark} {path : List Visit} {start : ℕ}
    → Underway graph old marks path start → path ≡ [] → Ended graph old marks start
end_turn {graph = graph} {marks = marks} {start = start} u empty =
    let walking = subst (Walking graph marks) empty u.walking in
    record { walking = walking; stay = u.stay; known = by_mark (slice_get marks start) refl u.known walking }
  where
    by_mark : (m : Option Mark) → slice_get marks start ≡ m → is_seen m ≡ true → Walking graph marks []
        → has_depth (slice_get marks start) ≡ true
    by_mark None at is w = absurd (cc)
    by_mark (Some Unseen) at is w = absurd (cc)
    by_mark (Some (Depth c)) at is w = ap has_depth at
    by_mark (Some (OnPath k)) at is w = absurd (nowhere k (w.standing start k at).visit (w.standing start k at).there)
      where
        nowhere : (k : ℕ) (x : Visit) → slice_get {X = Visit} [] k ≡ Some x → ⊥
        nowhere k x h = cc
