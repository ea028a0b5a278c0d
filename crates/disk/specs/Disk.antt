-- The effect of a disk's calls on its file, and the effect that a stop may have on it between two syncs.
use Rattle.std.specs.Prelude.{◌≡◌, ◌⊎◌, ◌<◌, ◌≤◌, ◌+◌, ◌-◌, ◌%◌, ◌^◌, ℕ, max, List, ◌++◌, length, take, drop}
use Rattle.std.specs.Prelude.{slice_index, replicate, Result, OnOk, OnErr}

-- a list after these elements are put at this place, with a filler in a gap before them
abbrev pub put_over : {X : Type 0} → X → List X → ℕ → List X → List X
put_over filler old at new = take at old ++ replicate (at - length old) filler ++ new ++ drop (at + length new) old

-- a file after these bytes are written at this place, with zero bytes in a gap before them
abbrev pub overwritten : List ℕ → ℕ → List ℕ → List ℕ
overwritten file at bytes = put_over 0 file at bytes

-- after a write of n bytes that a stop cuts short: any bytes in the range and in the appended part, a length between the old
-- one and the greater of that and the end of the range, and the same bytes elsewhere
pub record Torn (at n : ℕ) (old new : List ℕ) : Type 0 where
  pub no_shorter : length old ≤ length new
  pub no_longer : length new ≤ max (length old) (at + n)
  pub before : (i : ℕ) → i < length old → i < at → slice_index new i ≡ slice_index old i
  pub behind : (i : ℕ) → i < length old → at + n ≤ i → slice_index new i ≡ slice_index old i

-- each of the new files results from an old one by a step
abbrev pub ComesFrom : (List ℕ → List ℕ → Type 0) → (List ℕ → Type 0) → (List ℕ → Type 0) → Type 0
ComesFrom step old new = (file : List ℕ) → new file → (from : List ℕ) × old from × step from file

-- each file that results from an old one by a step is one of the new
abbrev pub Admits : (List ℕ → List ℕ → Type 0) → (List ℕ → Type 0) → (List ℕ → Type 0) → Type 0
Admits step old new = (from file : List ℕ) → old from → step from file → new file

-- each of these files is one of those
abbrev pub Within : (List ℕ → Type 0) → (List ℕ → Type 0) → Type 0
Within these those = (file : List ℕ) → these file → those file

-- this file and no other
abbrev pub Only : List ℕ → (List ℕ → Type 0) → Type 0
Only one files = (file : List ℕ) → files file → file ≡ one

-- a write that failed, by the file that a read gives and the files that a stop may leave: it widens these just as one
-- that succeeds, or it was refused and changes nothing
abbrev pub WidensOrKeeps : (List ℕ → List ℕ → Type 0) → List ℕ → List ℕ → (List ℕ → Type 0) → (List ℕ → Type 0) → Type 0
WidensOrKeeps step old_file new_file old new =
    Admits step old new ⊎ ((new_file ≡ old_file) × Within old new × Within new old)

-- Time goes on by a call: each file that a stop since any moment might have left, it might have left before, or may leave
-- now.
abbrev pub NothingElse : {D : Type 0} → (D → D → List ℕ → Type 0) → (D → List ℕ → Type 0) → D → D → Type 0
NothingElse {D} left_since may_leave old new = (then : D) (file : List ℕ) → left_since then new file
    → left_since then old file ⊎ may_leave new file

-- an error adds one to the count, from the greatest number to 0, and nothing else changes it
pub record Counts {T E : Type 0} (result : Result T E) (old new : ℕ) : Type 0 where
  pub same : OnOk result (new ≡ old)
  pub more : OnErr result (new ≡ (old + 1) % 2 ^ 64)
