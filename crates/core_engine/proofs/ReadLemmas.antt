-- The values that a run read are those of its snapshot.
use Rattle.std.proofs.Common.{◌≡◌, ℕ, zero, suc, Bool, true, false, ◌&&◌, if◌then◌else◌, List, [], ◌∷◌, drop, refl}
use Rattle.std.proofs.Common.{ap, ◌∙◌, Some, slice_get}
use Rattle.std.proofs.lemmas.Bool.Decides.{Decides-int_eq}
use Rattle.st_types.specs.Kinds.{same_kind, kind_index, names_in, number_of_type}
use Rattle.st_types.specs.Values.{Datum, same_datum}
use Rattle.st_meaning.specs.Slots.{agrees, is_value}
use Rattle.machine_code.specs.Tracking.{are_read, memory_of}
use Rattle.slot_memory.specs.Cells.{picked}
use Rattle.slot_run.specs.Effects.{Effect}
use Rattle.slot_run.specs.Executions.{IsEffectOf, run_of}
use Rattle.slot_run.specs.declared.snapshot.Snapshot.{Snapshot}
use Rattle.st_types.proofs.TestLemmas.{same_number}

same_datum_itself : (a : Datum) → same_datum a a ≡ true
same_datum_itself a = let k : same_kind a.kind a.kind ≡ true =
    rw (same_number (kind_index a.kind), same_number (names_in a.kind), same_number (number_of_type a.kind)) refl in
    let n = (Decides-int_eq a.number a.number).1 refl in rw (k, n) refl

first_behind : (vs : List Datum) (j : ℕ) (v : Datum) (us : List Datum) → drop j vs ≡ v ∷ us
    → (slice_get vs j ≡ Some v) × (drop (suc j) vs ≡ us)
first_behind [] zero v us e = absurd (cc)
first_behind [] (suc j) v us e = absurd (cc)
first_behind (w ∷ vs) zero v us e = (ap (λ l. slice_get l 0) e, ap (drop 1) e)
first_behind (w ∷ vs) (suc j) v us e = first_behind vs j v us e

pub picked_stand : (bs : List Bool) (j : ℕ) (vs us : List Datum) → drop j vs ≡ us → agrees vs (picked bs j us) ≡ true
picked_stand [] j vs us e = refl
picked_stand (b ∷ bs) j vs [] e = refl
picked_stand (b ∷ bs) j vs (v ∷ us) e =
    let f = first_behind vs j v us e in by_test b f.0 (picked_stand bs (suc j) vs us f.1)
  where
    by_test : (b : Bool) → slice_get vs j ≡ Some v → agrees vs (picked bs (suc j) us) ≡ true
        → agrees vs (if b then (j, v) ∷ picked bs (suc j) us else picked bs (suc j) us) ≡ true
    by_test true at h = ap (λ o. is_value o v && agrees vs (picked bs (suc j) us)) at
        ∙ ap (λ t. t && agrees vs (picked bs (suc j) us)) (same_datum_itself v) ∙ h
    by_test false at h = h

pub reads_stand : (snapshot : Snapshot) (effect : Effect) → IsEffectOf snapshot effect
    → agrees snapshot.slots.items effect.reads ≡ true
reads_stand snapshot effect is = ap (agrees snapshot.slots.items) is.reads
    ∙ picked_stand (are_read (memory_of (run_of snapshot)).marks) 0 snapshot.slots.items snapshot.slots.items refl
