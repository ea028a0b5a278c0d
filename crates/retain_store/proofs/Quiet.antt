-- Device calls that write nothing.
use Rattle.std.proofs.Common.{◌≡◌, List, ℕ, refl}
use Rattle.disk.specs.Disk.{NothingElse, Within, Only}
use Rattle.disk.specs.Runs.{LeavesOnly, goes_on, one_call}

module _ {D : Type 0} (left_since : D → D → List ℕ → Type 0) (may_leave : D → List ℕ → Type 0) where
  -- one, over a synced file
  pub quiet_one : (old new : D) (first : List ℕ) → ((file : List ℕ) → left_since old old file → may_leave old file)
      → Only first (may_leave old) → Within (may_leave new) (may_leave old) → NothingElse left_since may_leave old new
      → LeavesOnly left_since may_leave old new (λ file. file ≡ first)
  quiet_one old new first only_now only within past =
      one_call left_since may_leave old new first (λ file. file ≡ first) only_now only within past refl

  -- one more call
  pub quiet_next : (old mid new : D) (P : List ℕ → Type 0) → LeavesOnly left_since may_leave old mid P
      → Within (may_leave new) (may_leave mid) → NothingElse left_since may_leave mid new
      → LeavesOnly left_since may_leave old new P
  quiet_next old mid new P so_far within past =
      goes_on left_since may_leave old mid new P so_far past (λ file may. so_far.now file (within file may))
