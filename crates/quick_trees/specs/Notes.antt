-- The facts known of a slot's note at a place of the code, and how they change.
use Rattle.std.specs.Prelude.{◌≡◌, ℕ, zero, suc, List, Bool, true, false, ◌||◌, if◌then◌else◌, Option, Some, None}
use Rattle.std.specs.Prelude.{slice_get, slice_set}
use Rattle.machine_code.specs.declared.mark.Mark.{Mark}
use Rattle.machine_code.specs.Tracking.{seen, assigned}
use Rattle.quick_code.specs.QuickSteps.{or_none}
use Rattle.quick_trees.specs.declared.noting.Noting.{Noting}
use Rattle.quick_trees.specs.declared.noting.Noting.TheVariants.{Exact, LookAhead, AssignmentAhead, BothAhead, Looked}
use Rattle.quick_trees.specs.declared.noting.Noting.TheVariants.{LookedAssignmentAhead, Assigned}

-- the note of a mark: 1 if the slot was only looked up, 2 if it was assigned first, 3 if both
abbrev pub note_of : Mark → ℕ
note_of x = if x.is_assigned then (if x.is_read then 3 else 2) else (if x.is_read then 1 else 0)

abbrev pub IsTouched : Mark → Type 0
IsTouched x = (x.is_read || x.is_assigned) ≡ true

-- the fact known of a slot is true of its mark and its note
abbrev pub IsTrueOf : Noting → Mark → ℕ → Type 0
IsTrueOf Exact x n = n ≡ note_of x
IsTrueOf LookAhead x n = n ≡ note_of (seen x)
IsTrueOf AssignmentAhead x n = n ≡ note_of (assigned x)
IsTrueOf BothAhead x n = n ≡ note_of (assigned (seen x))
IsTrueOf Looked x n = (n ≡ note_of x) × IsTouched x
IsTrueOf LookedAssignmentAhead x n = (n ≡ note_of (assigned x)) × IsTouched x
IsTrueOf Assigned x n = (n ≡ note_of x) × (x.is_assigned ≡ true)

-- the fact known after the program looks the slot up; none if the note would miss that
abbrev pub at_look : Noting → Option Noting
at_look LookAhead = Some Looked
at_look BothAhead = Some LookedAssignmentAhead
at_look Looked = Some Looked
at_look LookedAssignmentAhead = Some LookedAssignmentAhead
at_look Assigned = Some Assigned
at_look Exact = None
at_look AssignmentAhead = None

-- the same if it assigns the slot
abbrev pub at_assignment : Noting → Option Noting
at_assignment AssignmentAhead = Some Assigned
at_assignment LookedAssignmentAhead = Some Assigned
at_assignment Assigned = Some Assigned
at_assignment _ = None

-- the same if an instruction notes a look that comes, or an assignment
abbrev pub with_look_ahead : Noting → Option Noting
with_look_ahead Exact = Some LookAhead
with_look_ahead _ = None

abbrev pub with_assignment_ahead : Noting → Option Noting
with_assignment_ahead Exact = Some AssignmentAhead
with_assignment_ahead LookAhead = Some BothAhead
with_assignment_ahead Looked = Some LookedAssignmentAhead
with_assignment_ahead _ = None

-- if one fact is known, so is the other
abbrev pub implies : Noting → Noting → Bool
implies Exact Exact = true
implies LookAhead LookAhead = true
implies AssignmentAhead AssignmentAhead = true
implies BothAhead BothAhead = true
implies Looked Exact = true
implies Looked LookAhead = true
implies Looked Looked = true
implies LookedAssignmentAhead AssignmentAhead = true
implies LookedAssignmentAhead BothAhead = true
implies LookedAssignmentAhead LookedAssignmentAhead = true
implies Assigned _ = true
implies _ _ = false

-- the fact known of a word changes so
pub record NoteChanges (change : Noting → Option Noting) (k : ℕ) (before after : List Noting) : Type 0 where
  pub old : Noting
  pub there : slice_get before k ≡ Some old
  pub new : Noting
  pub is : change old ≡ Some new
  pub rest : after ≡ slice_set before k new

-- the facts known of n words, one after another
abbrev pub NotesChange : (Noting → Option Noting) → ℕ → ℕ → List Noting → List Noting → Type 0
NotesChange change k zero before after = before ≡ after
NotesChange change k (suc n) before after =
    (between : List Noting) × (NoteChanges change k before between × NotesChange change (suc k) n between after)

-- the facts known of each word are known of it here, too
pub record Implies (these those : List Noting) : Type 0 where
  pub each : (k : ℕ) (n : Noting) → slice_get those k ≡ Some n
      → (m : Noting) × ((slice_get these k ≡ Some m) × (implies m n ≡ true))

-- the facts known of the words of slots are true of their notes and of the marks of the slots
pub record AreTrueOf (window : List ℕ) (ns : List Noting) (marks : List Mark) (notes : List ℕ) : Type 0 where
  pub each : (w k : ℕ) (n : Noting) (x : Mark) → slice_get window w ≡ Some k → slice_get ns w ≡ Some n
      → slice_get marks k ≡ Some x → IsTrueOf n x (or_none (slice_get notes w))
