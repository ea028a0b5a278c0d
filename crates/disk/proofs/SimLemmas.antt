-- The files that a stop may leave after a write of a simulated disk.
use Rattle.std.proofs.Common.{◌≡◌, ◌⊎◌, inl, inr, ℕ, ◌+◌, ◌%◌, ◌^◌, ◌≤◌, Bool, true, false, not, ◌&&◌, ◌||◌}
use Rattle.std.proofs.Common.{if◌then◌else◌, is_ok, Result, Ok, Err, List, length, refl, sym, ap, subst, OnOk, OnErr}
use Rattle.disk.specs.Disk.{Torn, ComesFrom, Admits, Within, Counts, overwritten}
use Rattle.disk.specs.Medium.{MediumView, MayLeave, synced_len, with_write, IsWritten}
use Rattle.std.specs.Prelude.{◌-◌, ◌<◌, min, Option, Some, None, IfSome, IsOk}
use Rattle.std.proofs.Common.{arith}
use Rattle.std.proofs.lemmas.Bool.Decides.{nat_tests}
use Rattle.disk.specs.declared.disk.DiskError.{DiskError}
use Rattle.disk.specs.Medium.{all_synced}
use Rattle.disk.specs.Simulated.{SimView, answer_of, succeeds, is_stop, is_failing, has_room, after_write, counted}
use Rattle.disk.specs.Simulated.{StopView, IsReliable, call_begun, has_range, after_sync}
use Rattle.disk.specs.Runs.{torn_none}
use Rattle.disk.proofs.MediumLemmas.{admits, follows}

-- a fact about a call that works and can be done
on_ok : (succeeds possible : Bool) (P : Type 0) → (succeeds ≡ true → possible ≡ true → P)
    → OnOk (answer_of {T = Unit {0}} succeeds possible tt) P
on_ok true true P holds = holds refl refl
on_ok true false P holds = tt
on_ok false possible P holds = tt

-- a call that works wasn't stopped before
not_stopped : (stopped stops fails : Bool) → not (stopped || stops || fails) ≡ true → stopped ≡ false
not_stopped true stops fails succeeds = absurd (cc)
not_stopped false stops fails succeeds = refl

-- a fact that holds anyway holds at an error
pub on_err : {T E : Type 0} (result : Result T E) (P : Type 0) → P → OnErr result P
on_err (Ok value) P holds = tt
on_err (Err error) P holds = holds

-- an error counts as one
counts : {T E : Type 0} (result : Result T E) (old new : ℕ) → new ≡ old
    → Counts result old (if is_ok result then new else (new + 1) % 2 ^ 64)
counts (Ok value) old new same = record { same = same; more = tt }
counts (Err error) old new same = record { same = tt; more = ap (λ (n : ℕ). (n + 1) % 2 ^ 64) same }

module _ (disk : SimView) (at : ℕ) (bytes : List ℕ) where
  -- whether the write reaches the medium
  reaches : Bool
  reaches = has_room disk at (length bytes) && not disk.stopped

  after_reached : reaches ≡ true → (after_write disk at bytes).medium ≡ with_write disk.medium at bytes
  unfolding reaches
  after_reached is = rw is refl

  after_kept : reaches ≡ false → (after_write disk at bytes).medium ≡ disk.medium
  unfolding reaches
  after_kept is = rw is refl

  cases : (reaches ≡ true) ⊎ (reaches ≡ false)
  cases = go reaches refl
    where
      go : (b : Bool) → reaches ≡ b → (reaches ≡ true) ⊎ (reaches ≡ false)
      go true is = inl is
      go false is = inr is

  -- one that succeeds does
  reached : succeeds disk ≡ true → has_room disk at (length bytes) ≡ true → reaches ≡ true
  unfolding reaches
  reached succeeds room =
      rw (room, not_stopped disk.stopped (is_stop disk.stop disk.step) (is_failing disk.failing disk.step) succeeds) refl

  pub seen_write : OnOk (answer_of {T = Unit {0}} (succeeds disk) (has_room disk at (length bytes)) tt)
      ((after_write disk at bytes).medium.file ≡ overwritten disk.medium.file at bytes)
  seen_write =
      on_ok _ _ _ (λ succeeds room. ap (λ (medium : MediumView). medium.file) (after_reached (reached succeeds room)))

  pub follows_write :
      ComesFrom (Torn at (length bytes)) (MayLeave disk.medium) (MayLeave (after_write disk at bytes).medium)
  follows_write = elim cases [
    | inl is ↦ λ file left. follows disk.medium at bytes file
        (subst (λ (medium : MediumView). MayLeave medium file) (after_reached is) left)
    | inr is ↦ λ file left. (
      file,
      subst (λ (medium : MediumView). MayLeave medium file) (after_kept is) left,
      torn_none at (length bytes) file file refl,
    )
  ]

  same_failures : (b : Bool) → reaches ≡ b → (after_write disk at bytes).failures ≡ disk.failures
  unfolding reaches
  same_failures true is = rw is refl
  same_failures false is = rw is refl

  -- a write that fails counts as one
  pub counts_write :
      Counts (answer_of {T = Unit {0}} (succeeds disk) (has_room disk at (length bytes)) tt) disk.failures (counted
      (answer_of {T = Unit {0}} (succeeds disk) (has_room disk at (length bytes)) tt) (after_write disk at bytes)).failures
  counts_write = counts _ _ _ (elim cases [ inl is ↦ same_failures true is | inr is ↦ same_failures false is ])

  module _ (appended : (i : ℕ) → synced_len disk.medium ≤ i → IsWritten disk.medium i) where
    admits_write : reaches ≡ true
        → Admits (Torn at (length bytes)) (MayLeave disk.medium) (MayLeave (after_write disk at bytes).medium)
    admits_write is from file left torn = subst (λ (medium : MediumView). MayLeave medium file) (sym (after_reached is))
        (admits disk.medium at bytes appended from file left torn)

    pub widens_write : OnOk (answer_of {T = Unit {0}} (succeeds disk) (has_room disk at (length bytes)) tt)
        (Admits (Torn at (length bytes)) (MayLeave disk.medium) (MayLeave (after_write disk at bytes).medium))
    widens_write = on_ok _ _ _ (λ succeeds room. admits_write (reached succeeds room))

    pub widens_or_keeps_write :
        Admits (Torn at (length bytes)) (MayLeave disk.medium) (MayLeave (after_write disk at bytes).medium)
        ⊎ (((after_write disk at bytes).medium.file ≡ disk.medium.file)
        × Within (MayLeave disk.medium) (MayLeave (after_write disk at bytes).medium)
        × Within (MayLeave (after_write disk at bytes).medium) (MayLeave disk.medium))
    widens_or_keeps_write = elim cases [
      | inl is ↦ inl (admits_write is)
      | inr is ↦ inr (
        ap (λ (medium : MediumView). medium.file) (after_kept is),
        λ file left. subst (λ (medium : MediumView). MayLeave medium file) (sym (after_kept is)) left,
        λ file left. subst (λ (medium : MediumView). MayLeave medium file) (after_kept is) left,
      )
    ]

-- ---- a disk on which no step fails any more

not_failing : (number : Option ℕ) (step : ℕ) → IfSome number (λ n. n < step) → is_failing number step ≡ false
not_failing None step past = refl
not_failing (Some n) step past = grind (arith, nat_tests)

not_stopping : (stop : Option StopView) (step : ℕ) → IfSome stop (λ s. s.step < step) → is_stop stop step ≡ false
not_stopping None step past = refl
not_stopping (Some s) step past = grind (arith, nat_tests)

later : {A : Type 0} (number : A → ℕ) (o : Option A) (step next : ℕ) → step ≤ next
    → IfSome o (λ a. number a < step) → IfSome o (λ a. number a < next)
later number None step next on past = tt
later number (Some a) step next on past = omega (arith, on, past)

pub reliable_works : (disk : SimView) (room : ℕ) → IsReliable disk room → succeeds disk ≡ true
reliable_works disk room h =
    rw (h.runs, not_stopping disk.stop disk.step h.spared, not_failing disk.failing disk.step h.failed) refl

pub reliable_begun : (disk : SimView) (room : ℕ) → IsReliable disk room → IsReliable (call_begun disk) room
reliable_begun disk room h =
    let on : disk.step ≤ min (disk.step + 1) (2 ^ 64 - 1) = omega (arith, h.counts) in
    record {
      runs = rw (h.runs, not_stopping disk.stop disk.step h.spared) refl;
      failed = later (λ n. n) disk.failing disk.step _ on h.failed;
      spared = later (λ (s : StopView). s.step) disk.stop disk.step _ on h.spared;
      fits = h.fits;
      counts = omega (arith, h.counts);
    }

pub reliable_counted : {T : Type 0} (result : Result T DiskError) (disk : SimView) (room : ℕ) → IsReliable disk room
    → IsReliable (counted result disk) room
reliable_counted result disk room h =
    record { runs = h.runs; failed = h.failed; spared = h.spared; fits = h.fits; counts = h.counts }

with_medium : (disk : SimView) (medium : MediumView) (room : ℕ) → medium.room ≡ disk.medium.room
    → IsReliable disk room → IsReliable record disk { medium = medium } room
with_medium disk medium room same h =
    record { runs = h.runs; failed = h.failed; spared = h.spared; fits = rw same h.fits; counts = h.counts }

pub reliable_write : (disk : SimView) (at : ℕ) (bytes : List ℕ) (room : ℕ) → IsReliable disk room
    → IsReliable (after_write disk at bytes) room
reliable_write disk at bytes room h = by (has_room disk at (length bytes) && not disk.stopped)
  where
    by : (b : Bool) → IsReliable (if b then record (call_begun disk) { medium = with_write disk.medium at bytes }
        else call_begun disk) room
    by true = with_medium (call_begun disk) (with_write disk.medium at bytes) room refl (reliable_begun disk room h)
    by false = reliable_begun disk room h

pub reliable_sync : (disk : SimView) (room : ℕ) → IsReliable disk room → IsReliable (after_sync disk) room
reliable_sync disk room h = by (succeeds disk)
  where
    by : (b : Bool) → IsReliable (if b
        then record (call_begun disk) { medium = all_synced disk.medium.file disk.medium.room }
        else call_begun disk) room
    by true =
        with_medium (call_begun disk) (all_synced disk.medium.file disk.medium.room) room refl (reliable_begun disk room h)
    by false = reliable_begun disk room h

-- a call that works and can be done succeeds
pub ok_of : {T : Type 0} (succeeds possible : Bool) (value : T) → succeeds ≡ true → possible ≡ true
    → IsOk (answer_of succeeds possible value)
ok_of true true value w p = refl
ok_of true false value w p = absurd (cc)
ok_of false possible value w p = absurd (cc)

pub room_found : (disk : SimView) (room at n : ℕ) → IsReliable disk room → at + n ≤ room → has_room disk at n ≡ true
room_found disk room at n h within = grind (arith, nat_tests, h.fits)

pub range_found : (disk : SimView) (at n : ℕ) → at + n ≤ length disk.medium.file → has_range disk at n ≡ true
range_found disk at n within = grind (arith, nat_tests)
