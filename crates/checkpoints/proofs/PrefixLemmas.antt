-- A record of a prefix of what follows a checkpoint is one of a prefix of the whole log, and the other way round.
use Rattle.std.proofs.Common.{◌≡◌, ℕ, ◌+◌, ◌≤◌, [], ◌∷◌, ◌++◌, length, Option, Some, true, refl, sym, ap, subst}
use Rattle.std.proofs.Common.{◌∙◌, arith, append_assoc, length-append, map}
use Rattle.std.specs.Prelude.{bytes_eq}
use Rattle.std.specs.List.{IsDistinct}
use Rattle.st_types.specs.declared.entry.Entry.{Entry}
use Rattle.st_meaning.specs.Stores.{Store, get, all_held}
use Rattle.st_meaning.specs.Layouts.{path_text}
use Rattle.st_meaning.specs.Plans.{Plan, initial_store}
use Rattle.st_meaning.specs.Restarts.{Kept, kept_of, warm_start}
use Rattle.st_meaning.specs.Logs.{Log, Past, beginning, past_of, last_moment, IsLegal}
use Rattle.st_meaning.proofs.RestartLemmas.{given_back_after}
use Rattle.checkpoints.specs.Checkpoints.{Checkpoint, moment_before_next}
use Rattle.checkpoints.specs.Compaction.{compacted}
use Rattle.checkpoints.specs.CheckpointsOfPasts.{IsCheckpointOf}
use Rattle.checkpoints.specs.Prefixes.{kept_of_past, kept_of_checkpoint, IsKeptOfPrefix, IsKeptOfPrefixAfter, GivesBack}
use Rattle.checkpoints.proofs.ContinuationLemmas.{checkpoint_is, legal_parts, moment_is, compacted_in_parts}

pub kept_same : (plan : Plan) (before : Option ℕ) (past : Past) (c : Checkpoint) → IsCheckpointOf plan past c
    → kept_of_checkpoint plan before c ≡ kept_of_past plan before past
kept_same plan before past c is =
    ap (λ (s : Store). kept_of plan s (moment_before_next before c.last_row)) is.store
    ∙ ap (kept_of plan past.store) (sym (moment_is plan past c is before))

kept_by_log : (plan : Plan) (start : Store) (before : Option ℕ) (log : Log) → IsLegal plan start before log
    → kept_of_checkpoint plan before (compacted plan start log) ≡ kept_of_past plan before (past_of plan start log)
kept_by_log plan start before log legal =
    kept_same plan before (past_of plan start log) (compacted plan start log)
    (checkpoint_is plan start before log legal)

pub of_the_whole : (plan : Plan) (start : Store) (before : Option ℕ) (front rest : Log) (acked : ℕ) (kept : Kept)
    → IsLegal plan start before (front ++ rest)
    → IsKeptOfPrefixAfter plan before (compacted plan start front) rest acked kept
    → IsKeptOfPrefix plan start before (front ++ rest) (length front + acked) kept
of_the_whole plan start before front rest acked kept legal p =
    let parts : front ++ rest ≡ (front ++ p.front) ++ p.rest =
    ap (λ (l : Log). front ++ l) p.parts ∙ sym (append_assoc front p.front p.rest) in
    let front_legal = (legal_parts plan before (beginning start) (front ++ p.front) p.rest
    (subst (IsLegal plan start before) parts legal)).0 in
    record {
      front = front ++ p.front;
      rest = p.rest;
      parts = parts;
      acknowledged = omega (arith, p.acknowledged, length-append front p.front);
      is = p.is ∙ ap (kept_of_checkpoint plan before) (sym (compacted_in_parts plan start front p.front))
          ∙ kept_by_log plan start before (front ++ p.front) front_legal;
    }

-- a prefix that is no shorter than another goes on from it
goes_on : (short short_rest long long_rest : Log) → short ++ short_rest ≡ long ++ long_rest → length short ≤ length long
    → (more : Log) × (long ≡ short ++ more) × (short_rest ≡ more ++ long_rest)
goes_on [] short_rest long long_rest e l = (long, refl, e)
goes_on (x ∷ short) short_rest [] long_rest e l = absurd (omega (arith, l))
goes_on (x ∷ short) short_rest (y ∷ long) long_rest e l =
    let tails : short ++ short_rest ≡ long ++ long_rest = cc in
    let heads : ◌≡◌ {A = Entry} x y = cc in
    let more = goes_on short short_rest long long_rest tails (omega (arith, l)) in
    (more.0, ap (λ (z : Entry). z ∷ long) (sym heads) ∙ ap (λ (t : Log). x ∷ t) more.1, more.2)

pub of_the_rest : (plan : Plan) (start : Store) (before : Option ℕ) (front rest : Log) (acked : ℕ) (kept : Kept)
    → IsLegal plan start before (front ++ rest)
    → IsKeptOfPrefix plan start before (front ++ rest) (length front + acked) kept
    → IsKeptOfPrefixAfter plan before (compacted plan start front) rest acked kept
of_the_rest plan start before front rest acked kept legal p =
    let more = goes_on front rest p.front p.rest p.parts (omega (arith, p.acknowledged)) in
    let front_legal = subst (IsLegal plan start before) more.1
    (legal_parts plan before (beginning start) p.front p.rest (subst (IsLegal plan start before) p.parts legal)).0 in
    record {
      front = more.0;
      rest = p.rest;
      parts = more.2;
      acknowledged = omega (arith, p.acknowledged, length-append front more.0, ap (λ (l : Log). length l) more.1);
      is = p.is ∙ ap (λ (l : Log). kept_of_past plan before (past_of plan start l)) more.1
          ∙ sym (kept_by_log plan start before (front ++ more.0) front_legal)
          ∙ ap (kept_of_checkpoint plan before) (compacted_in_parts plan start front more.0);
    }

pub gives_back : (plan : Plan) (r : Option Kept) (log : Log) (acked : ℕ) (kept : Kept)
    → IsDistinct bytes_eq (map (λ v. path_text v.path) plan.variables) → all_held (initial_store plan) ≡ true
    → IsKeptOfPrefix plan (warm_start plan r).store (warm_start plan r).moment log acked kept
    → GivesBack plan (warm_start plan r).store (warm_start plan r).moment log acked kept
gives_back plan r log acked kept once held p =
    let first = warm_start plan r in
    record {
      front = p.front;
      rest = p.rest;
      parts = p.parts;
      acknowledged = p.acknowledged;
      values = λ path.
          ap (λ (k : Kept). get (warm_start plan (Some k)).store path) p.is
          ∙ given_back_after plan r p.front (last_moment first.moment (past_of plan first.store p.front).rows) path once
          held;
      moment = ap (λ (k : Kept). (warm_start plan (Some k)).moment) p.is;
    }
