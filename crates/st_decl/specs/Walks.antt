-- The invariant of a walk over types and units.
use Rattle.std.specs.Prelude.{◌≡◌, ℕ, suc, ◌+◌, ◌≤◌, min, length, List, [], take, Bool, true, false}
use Rattle.std.specs.Prelude.{Option, Some, None, slice_get, nat_lt}
use Rattle.std.specs.List.{sum_by}
use Rattle.st_rules.specs.declared.limits.TheConstants.{MAX_TYPE_DEPTH}
use Rattle.st_decl.specs.declared.links.Target.{Target}
use Rattle.st_decl.specs.declared.links.Target.TheVariants.{Plain, Standard, Node}
use Rattle.st_decl.specs.declared.links.Link.{Link}
use Rattle.st_decl.specs.declared.depths.Mark.{Mark}
use Rattle.st_decl.specs.declared.depths.Mark.TheVariants.{Unseen, OnPath, Depth}
use Rattle.st_decl.specs.declared.depths.Visit.{Visit}
use Rattle.st_decl.specs.declared.depths.Depths.{Depths}
use Rattle.st_decl.specs.declared.depths.Depths.TheVariants.{Known, Cycle}
use Rattle.st_decl.specs.declared.depths.Seen.{Seen}
use Rattle.st_decl.specs.declared.depths.Seen.TheVariants as seen
use Rattle.st_decl.specs.Graphs.{Graph, links_at, Deepest, Among, LinksTo, IsCycle}

-- a depth, cut off above the limit
abbrev pub capped_depth : ℕ → ℕ
capped_depth d = min d (MAX_TYPE_DEPTH + 1)

abbrev pub deeper : ℕ → ℕ
deeper d = capped_depth (suc d)

abbrev pub seen_of_mark : Option Mark → ℕ → Seen
seen_of_mark None i = seen.Depth 1
seen_of_mark (Some (Depth d)) i = seen.Depth d
seen_of_mark (Some Unseen) i = seen.Open i
seen_of_mark (Some (OnPath k)) i = seen.Open i

abbrev pub seen_of_target : List Mark → Target → Seen
seen_of_target marks Plain = seen.Depth 1
seen_of_target marks Standard = seen.Depth 2
seen_of_target marks (Node i) = seen_of_mark (slice_get marks i) i

abbrev pub seen_in_row : Bool → Seen → Seen
seen_in_row false s = s
seen_in_row true (seen.Depth d) = seen.Depth (deeper d)
seen_in_row true (seen.Open i) = seen.Open i

abbrev pub seen_of : List Mark → Link → Seen
seen_of marks l = seen_in_row l.is_row (seen_of_target marks l.target)

-- the links have a depth, and this is it, cut off
pub record IsCappedDepth (graph : Graph) (links : List Link) (c : ℕ) : Type 0 where
  pub depth : ℕ
  pub deepest : Deepest graph links depth
  pub is_cut : c ≡ capped_depth depth

-- a marked depth is one more than that of the links
pub record MarkHolds (graph : Graph) (i c : ℕ) : Type 0 where
  pub below : ℕ
  pub deepest : IsCappedDepth graph (links_at graph i) below
  pub is_above : c ≡ deeper below

-- each marked depth is right
pub record MarksHold (graph : Graph) (marks : List Mark) : Type 0 where
  pub length : length marks ≡ length graph
  pub tells : (i c : ℕ) → slice_get marks i ≡ Some (Depth c) → MarkHolds graph i c

-- the depth of the links that were looked at
pub record HasLooked (graph : Graph) (links : List Link) (v : Visit) : Type 0 where
  pub within : v.looked ≤ length links
  pub deepest : IsCappedDepth graph (take v.looked links) v.deepest

-- a link leads to a type or unit without a depth yet
pub record IsOpen (marks : List Mark) (links : List Link) (i : ℕ) : Type 0 where
  pub link : Link
  pub among : Among link links
  pub target : link.target ≡ Node i
  pub unknown : seen_of_mark (slice_get marks i) i ≡ seen.Open i

abbrev pub on_path : Mark → ℕ
on_path Unseen = 0
on_path (OnPath k) = 1
on_path (Depth c) = 0

-- how much is still to be done
abbrev pub left_of : Mark → ℕ
left_of Unseen = 2
left_of (OnPath k) = 1
left_of (Depth c) = 0

pub record IsOnPath (path : List Visit) (k i : ℕ) : Type 0 where
  pub visit : Visit
  pub there : slice_get path k ≡ Some visit
  pub node : visit.node ≡ i

-- The types and units on the path are marked so, each leads to the next, and the looks so far are right.
pub record Walking (graph : Graph) (marks : List Mark) (path : List Visit) : Type 0 where
  pub told : MarksHold graph marks
  pub marked : (k : ℕ) (v : Visit) → slice_get path k ≡ Some v → slice_get marks v.node ≡ Some (OnPath k)
  pub standing : (i k : ℕ) → slice_get marks i ≡ Some (OnPath k) → IsOnPath path k i
  pub looked : (k : ℕ) (v : Visit) → slice_get path k ≡ Some v → HasLooked graph (links_at graph v.node) v
  pub leads : (k : ℕ) (v w : Visit) → slice_get path k ≡ Some v → slice_get path (suc k) ≡ Some w
      → LinksTo graph v.node w.node
  pub count : sum_by on_path marks ≡ length path

-- depths that were marked stay
abbrev pub Stay : List Mark → List Mark → Type 0
Stay old new = (i c : ℕ) → slice_get old i ≡ Some (Depth c) → slice_get new i ≡ Some (Depth c)

abbrev pub is_seen : Option Mark → Bool
is_seen (Some (OnPath k)) = true
is_seen (Some (Depth c)) = true
is_seen _ = false

abbrev pub is_on_path : Option Mark → Bool
is_on_path (Some (OnPath k)) = true
is_on_path _ = false

-- the depth of each is marked
abbrev pub has_depth : Option Mark → Bool
has_depth (Some (Depth c)) = true
has_depth _ = false

pub record Ended (graph : Graph) (old new : List Mark) (start : ℕ) : Type 0 where
  pub walking : Walking graph new []
  pub stay : Stay old new
  pub known : has_depth (slice_get new start) ≡ true

-- the answer of a walk from one type or unit: one that is on a cycle, or none, and then its depth is marked
abbrev pub WalkEnds : Graph → List Mark → List Mark → ℕ → Option ℕ → Type 0
WalkEnds graph old new start (Some i) = IsCycle graph i
WalkEnds graph old new start None = Ended graph old new start

-- the invariant on the way there
pub record Underway (graph : Graph) (old marks : List Mark) (path : List Visit) (start : ℕ) : Type 0 where
  pub walking : Walking graph marks path
  pub stay : Stay old marks
  pub known : is_seen (slice_get marks start) ≡ true

abbrev pub is_unseen : Option Mark → Bool
is_unseen (Some Unseen) = true
is_unseen _ = false

-- the depth of each type and unit is marked
pub record AllMarked (graph : Graph) (marks : List Mark) : Type 0 where
  pub told : MarksHold graph marks
  pub all : (i : ℕ) → suc i ≤ length graph → has_depth (slice_get marks i) ≡ true

-- the answer of a walk over all
abbrev pub IsWalked : Graph → List Mark → Option ℕ → Type 0
IsWalked graph marks (Some i) = IsCycle graph i
IsWalked graph marks None = AllMarked graph marks

abbrev pub AreDepths : Graph → Depths → Type 0
AreDepths graph (Known marks) = AllMarked graph marks.items
AreDepths graph (Cycle i) = IsCycle graph i

-- the first `count` of them have theirs
pub record Walked (graph : Graph) (marks : List Mark) (count : ℕ) : Type 0 where
  pub walking : Walking graph marks []
  pub each : (i : ℕ) → suc i ≤ count → has_depth (slice_get marks i) ≡ true

abbrev pub is_deep_seen : Seen → Bool
is_deep_seen (seen.Depth d) = nat_lt MAX_TYPE_DEPTH d
is_deep_seen (seen.Open i) = false

abbrev pub is_deep : List Mark → Link → Bool
is_deep marks l = is_deep_seen (seen_of marks l)
