-- Places of the code, with the facts known of a run that comes there.
use Rattle.std.specs.Prelude.{◌≡◌, ◌+◌, ◌⊎◌, ℕ, suc, List, [], ◌∷◌, Some, slice_get}
use Rattle.quick_code.specs.declared.quick_code.Way.{Way}
use Rattle.quick_code.specs.declared.quick_instr.QuickInstr.TheVariants.{Jump, NoteRead, NoteWritten}
use Rattle.quick_trees.specs.declared.noting.Noting.{Noting}
use Rattle.quick_trees.specs.Notes.{NoteChanges, Implies, with_look_ahead, with_assignment_ahead}
use Rattle.quick_trees.specs.QuickMemory.{Frame}

-- a place, the ticks that the run has taken ahead of it, and the facts known of the notes of the slots' words
pub record Point : Type 0 where
  pub place : ℕ
  pub ahead : ℕ
  pub noted : List Noting

-- a part of the code: from one point to another
abbrev pub CodeRelation : Type 1
CodeRelation = Point → Point → Type 0

-- after the instruction at a point
abbrev pub next : Point → Point
next p = record p { place = suc p.place }

-- after a branch at a point that is not taken, and after one that is
abbrev pub past_branch : Point → ℕ → Point
past_branch p past = record { place = suc p.place; ahead = p.ahead + past; noted = p.noted }

abbrev pub along : Point → Way → Point
along p w = record { place = w.place; ahead = p.ahead + w.ticks; noted = p.noted }

-- One point is another, with no more known of its notes.
pub record Refines (p q : Point) : Type 0 where
  pub place : p.place ≡ q.place
  pub ahead : p.ahead ≡ q.ahead
  pub noted : Implies p.noted q.noted

-- The same after a tick that the first one does not have ahead: going back in a loop takes one.
pub record LoopsBack (p q : Point) : Type 0 where
  pub place : p.place ≡ q.place
  pub ahead : p.ahead ≡ suc q.ahead
  pub noted : Implies p.noted q.noted

-- One point is another, or a jump leads there.
pub record IsJump (f : Frame) (p q : Point) : Type 0 where
  pub way : Way
  pub stands : slice_get f.code p.place ≡ Some (Jump way)
  pub meets : Refines (along p way) q

abbrev pub Joins : Frame → CodeRelation
Joins f p q = Refines p q ⊎ IsJump f p q

-- a look that comes, or an assignment, of the slot that has a word
pub data Note : Type 0 where
  look_of : ℕ → Note
  assignment_of : ℕ → Note

abbrev pub IsNoted : Frame → Note → CodeRelation
IsNoted f (look_of k) p q =
    (slice_get f.code p.place ≡ Some (NoteRead k))
    × ((q ≡ record (next p) { noted = q.noted }) × NoteChanges with_look_ahead k p.noted q.noted)
IsNoted f (assignment_of k) p q =
    (slice_get f.code p.place ≡ Some (NoteWritten k))
    × ((q ≡ record (next p) { noted = q.noted }) × NoteChanges with_assignment_ahead k p.noted q.noted)

-- Looks and assignments that come are noted.
abbrev pub AllNoted : Frame → List Note → CodeRelation
AllNoted f [] p q = p ≡ q
AllNoted f (n ∷ ns) p q = (r : Point) × (IsNoted f n p r × AllNoted f ns r q)

pub record AreNoted (f : Frame) (p q : Point) : Type 0 where
  pub notes : List Note
  pub all : AllNoted f notes p q
