-- What a Done makes of a checkpoint, and so any entry.
use Rattle.std.proofs.Common.{◌≡◌, ℕ, zero, suc, ◌<◌, ◌==◌, inl, inr, false, List, [], ◌∷◌, length, slice_set, Option}
use Rattle.std.proofs.Common.{Some, None, refl, sym, ap, subst, ◌∙◌, arith}
use Rattle.std.proofs.lemmas.List.{get_or-set_other}
use Rattle.std.proofs.lemmas.Grind.{get_or-set_at}
use Rattle.std.proofs.lemmas.Bool.Decides.{eqb_tells}
use Rattle.st_types.specs.declared.entry.Entry.{Entry}
use Rattle.st_types.specs.declared.entry.Entry.TheVariants.{Row, Done}
use Rattle.st_types.specs.declared.entry.Activation.{Activation}
use Rattle.st_meaning.specs.declared.plan.Schedule.{Schedule}
use Rattle.st_meaning.specs.Stores.{Store}
use Rattle.st_meaning.specs.Plans.{Plan, schedules_of, program_at, after_run}
use Rattle.st_meaning.specs.Logs.{Past, row_at, with_entry, MayFollow, done_follows}
use Rattle.st_meaning.specs.Due.{History, Waits, with_run}
use Rattle.st_meaning.proofs.DueLemmas.{Waits-there}
use Rattle.checkpoints.specs.Checkpoints.{WaitingRow, ProgramProgress, Checkpoint, no_progress, progress_at}
use Rattle.checkpoints.specs.Compaction.{row_waiting, own_row, compact_done, compact_entry}
use Rattle.checkpoints.specs.CheckpointsOfPasts.{HasProgress, IsCheckpointOf}
use Rattle.checkpoints.specs.Continuation.{IsWaitingWith, IsWaitingIn}
use Rattle.checkpoints.proofs.ProgressLemmas.{HasProgress-own, HasProgress-other, progress_of_waiting}
use Rattle.checkpoints.proofs.RowLemmas.{checkpoint_of_row}

pub set_sized : (programs : List ProgramProgress) (p : ℕ) (x : ProgramProgress)
    → length (slice_set programs p x) ≡ length programs
set_sized [] p x = refl
set_sized (y ∷ programs) zero x = refl
set_sized (y ∷ programs) (suc p) x = ap suc (set_sized programs p x)

module _ (plan : Plan) (past : Past) (c : Checkpoint) (is : IsCheckpointOf plan past c) where
  abbrev schedules : List Schedule
  schedules = schedules_of plan

  abbrev progress : ℕ → ProgramProgress
  progress p = progress_at c.programs p

  is_there : (a : Activation) → Waits schedules past.history a → a.program < length schedules
  is_there a waits = (Waits-there schedules past.history a waits).0

  -- a program that waits in the past waits in the checkpoint, with the row of the past
  pub waits_in_it : (a : Activation) → Waits schedules past.history a → IsWaitingIn c a
  waits_in_it a waits =
      progress_of_waiting schedules past.history past.rows a.program (progress a.program).waiting
      (progress a.program).overruns a.row (is.placed a.program (is_there a waits)) waits

  row_waiting_is : (p k : ℕ) (w : Option WaitingRow) → p < length schedules → (progress p).waiting ≡ w
      → IsWaitingWith w k → row_waiting w ≡ row_at past.rows k
  row_waiting_is p k None l e n = absurd n
  row_waiting_is p k (Some x) l e n = ((is.placed p l).some x e).1 ∙ ap (row_at past.rows) n

  pub row_of_it : (a : Activation) → Waits schedules past.history a → own_row c a.program ≡ row_at past.rows a.row
  row_of_it a waits =
      row_waiting_is a.program a.row (progress a.program).waiting (is_there a waits) refl (waits_in_it a waits)

  module _ (a : Activation) (waits : Waits schedules past.history a) where
    abbrev later : History
    later = with_run past.history a.program

    abbrev left : ProgramProgress
    left = record { waiting = None; overruns = (progress a.program).overruns }

    own_from : (w : Option WaitingRow) → (progress a.program).waiting ≡ w → IsWaitingWith w a.row
        → HasProgress schedules later past.rows a.program left
    own_from None e n = absurd n
    own_from (Some x) e n =
        HasProgress-own schedules past.history past.rows a.program x (progress a.program).overruns
        (subst (λ o. HasProgress schedules past.history past.rows a.program
        record { waiting = o; overruns = (progress a.program).overruns }) e (is.placed a.program (is_there a waits)))

    own : HasProgress schedules later past.rows a.program (progress_at (slice_set c.programs a.program left) a.program)
    own = subst (HasProgress schedules later past.rows a.program)
        (sym (get_or-set_at c.programs a.program a.program left no_progress refl
        (omega (arith, is_there a waits, is.sized))))
        (own_from (progress a.program).waiting refl (waits_in_it a waits))

    others : (p : ℕ) → (a.program == p) ≡ false → (a.program ≡ p → ⊥) → p < length schedules
        → HasProgress schedules later past.rows p (progress_at (slice_set c.programs a.program left) p)
    others p other apart l = subst (HasProgress schedules later past.rows p)
        (sym (get_or-set_other c.programs a.program p left no_progress (λ x. apart (sym x))))
        (HasProgress-other schedules past.history past.rows p a.program other (progress p) (is.placed p l))

    pub checkpoint_of_done : IsCheckpointOf plan (with_entry plan past (Done a)) (compact_done plan c a.program)
    checkpoint_of_done = record {
      store = ap (λ (s : Store). after_run plan (program_at plan a.program) s (own_row c a.program)) is.store
          ∙ ap (after_run plan (program_at plan a.program) past.store) (row_of_it a waits);
      rows = is.rows;
      latched = is.latched;
      first = is.first;
      last_row = is.last_row;
      last_moment = is.last_moment;
      samples = is.samples;
      sized = set_sized c.programs a.program left ∙ is.sized;
      placed = λ p l. elim (eqb_tells a.program p) [
        | inl t ↦ subst (λ q. HasProgress schedules later past.rows q
            (progress_at (slice_set c.programs a.program left) q)) t.1 own
        | inr e ↦ others p e.0 e.1 l
      ];
    }

pub checkpoint_of_entry : (plan : Plan) (before : Option ℕ) (past : Past) (c : Checkpoint) (e : Entry)
    → IsCheckpointOf plan past c → MayFollow plan before past e
    → IsCheckpointOf plan (with_entry plan past e) (compact_entry plan c e)
checkpoint_of_entry plan before past c (Row row) is m = checkpoint_of_row plan past c is row
checkpoint_of_entry plan before past c (Done a) is (done_follows _ w) = checkpoint_of_done plan past c is a w
