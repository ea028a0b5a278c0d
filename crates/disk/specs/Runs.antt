-- The files that a stop at any moment of a run of device calls might have left, and how runs go on.
use Rattle.std.specs.Prelude.{◌≡◌, ◌⊎◌, List, ℕ, length, slice_index}
use Rattle.std.proofs.Common.{inl, inr, ⊎_elim, subst, sym, ap, arith}
use Rattle.disk.specs.Disk.{NothingElse, Torn, ComesFrom, Within, Only}

-- A stop at any moment from the old state to the new one leaves a file that has P.
pub record LeavesOnly {D : Type 0} (left_since : D → D → List ℕ → Type 0) (may_leave : D → List ℕ → Type 0)
    (old new : D) (P : List ℕ → Type 0) : Type 0 where
  pub each : (file : List ℕ) → left_since old new file → P file
  -- after it too
  pub now : (file : List ℕ) → may_leave new file → P file
  -- for a run that began earlier
  pub before : (then : D) (file : List ℕ) → left_since then new file → left_since then old file ⊎ P file

-- a file that isn't changed is one of those that a write may leave
pub torn_none : (at n : ℕ) (old new : List ℕ) → new ≡ old → Torn at n old new
torn_none at n old new same = record {
  no_shorter = omega (arith, ap length same);
  no_longer = omega (arith, ap length same);
  before = λ i low under. ap (λ (l : List ℕ). slice_index l i) same;
  behind = λ i low over. ap (λ (l : List ℕ). slice_index l i) same;
}

module _ {D : Type 0} (left_since : D → D → List ℕ → Type 0) (may_leave : D → List ℕ → Type 0) where
  -- before the first call
  pub started : (old : D) (P : List ℕ → Type 0) → ((file : List ℕ) → left_since old old file → may_leave old file)
      → ((file : List ℕ) → may_leave old file → P file) → LeavesOnly left_since may_leave old old P
  started old P only_now here = record {
    each = λ file left. here file (only_now file left);
    now = here;
    before = λ then file left. inl left;
  }

  -- one call more, after which a stop leaves a file that has P
  pub goes_on : (old mid new : D) (P : List ℕ → Type 0) → LeavesOnly left_since may_leave old mid P
      → NothingElse left_since may_leave mid new → ((file : List ℕ) → may_leave new file → P file)
      → LeavesOnly left_since may_leave old new P
  goes_on old mid new P so_far past here = record {
    each = λ file left. ⊎_elim (so_far.each file) (here file) (past old file left);
    now = here;
    before = λ then file left. ⊎_elim (so_far.before then file) (λ now. inr (here file now)) (past then file left);
  }

  -- one run after another
  pub joins : (old mid new : D) (P Q : List ℕ → Type 0) → LeavesOnly left_since may_leave old mid P
      → LeavesOnly left_since may_leave mid new Q → ((file : List ℕ) → Q file → P file)
      → LeavesOnly left_since may_leave old new P
  joins old mid new P Q first second weaker = record {
    each = λ file left. ⊎_elim (first.each file) (weaker file) (second.before old file left);
    now = λ file left. weaker file (second.now file left);
    before =
        λ then file left. ⊎_elim (first.before then file) (λ q. inr (weaker file q)) (second.before then file left);
  }

  -- with a property that follows from P
  pub weakens : (old new : D) (P Q : List ℕ → Type 0) → LeavesOnly left_since may_leave old new P
      → ((file : List ℕ) → P file → Q file) → LeavesOnly left_since may_leave old new Q
  weakens old new P Q run weaker = record {
    each = λ file left. weaker file (run.each file left);
    now = λ file left. weaker file (run.now file left);
    before = λ then file left. ⊎_elim inl (λ p. inr (weaker file p)) (run.before then file left);
  }

  -- the files that a stop may leave after a write over a synced file
  pub wrote : (old new : D) (first : List ℕ) (at n : ℕ) → Only first (may_leave old)
      → ComesFrom (Torn at n) (may_leave old) (may_leave new) → Within (may_leave new) (Torn at n first)
  wrote old new first at n only follows file left =
      let from = follows file left in subst (λ (f : List ℕ). Torn at n f file) (only from.0 from.1) from.2

  -- a write over a synced file
  pub one_write : (old new : D) (first : List ℕ) (at n : ℕ)
      → ((file : List ℕ) → left_since old old file → may_leave old file) → Only first (may_leave old)
      → ComesFrom (Torn at n) (may_leave old) (may_leave new) → NothingElse left_since may_leave old new
      → LeavesOnly left_since may_leave old new (Torn at n first)
  one_write old new first at n only_now only follows past =
      goes_on old old new (Torn at n first) (started old (Torn at n first) only_now
      (λ file left. torn_none at n first file (only file left))) past (wrote old new first at n only follows)

  -- a call that writes nothing, over a synced file
  pub one_call : (old new : D) (first : List ℕ) (P : List ℕ → Type 0)
      → ((file : List ℕ) → left_since old old file → may_leave old file) → Only first (may_leave old)
      → Within (may_leave new) (may_leave old) → NothingElse left_since may_leave old new → P first
      → LeavesOnly left_since may_leave old new P
  one_call old new first P only_now only within past holds =
      let all : (file : List ℕ) → may_leave old file → P file = λ file may. subst P (sym (only file may)) holds in
      goes_on old old new P (started old P only_now all) past (λ file may. all file (within file may))

  -- no call yet, over a synced file
  pub at_rest : (old : D) (first : List ℕ) (P : List ℕ → Type 0)
      → ((file : List ℕ) → left_since old old file → may_leave old file) → Only first (may_leave old) → P first
      → LeavesOnly left_since may_leave old old P
  at_rest old first P only_now only holds = started old P only_now (λ file may. subst P (sym (only file may)) holds)
