-- Whatever comes, an endless life is right of the log of all its entries.
use Rattle.std.proofs.Common.{◌≡◌, ℕ, ◌+◌, ◌≤◌, List, [], ◌∷◌, ◌++◌, length, Option, refl, sym, ap, subst, ◌∙◌, arith}
use Rattle.std.proofs.Common.{append_assoc, append-nil, length-append}
use Rattle.std.proofs.lemmas.List.Sums.{fold-append}
use Rattle.st_types.specs.declared.entry.Entry.{Entry}
use Rattle.st_meaning.specs.Stores.{Store}
use Rattle.st_meaning.specs.Plans.{Plan}
use Rattle.st_meaning.specs.Restarts.{Kept}
use Rattle.st_meaning.specs.Logs.{Log, Past, with_entry, beginning, past_of, IsLegal, IsLegalFrom}
use Rattle.checkpoints.specs.Checkpoints.{Checkpoint}
use Rattle.checkpoints.specs.Compaction.{compact_entry}
use Rattle.checkpoints.specs.CheckpointsOfPasts.{IsCheckpointOf}
use Rattle.checkpoints.specs.Prefixes.{kept_of_checkpoint, IsKeptOfPrefix}
use Rattle.checkpoints.specs.EndlessLives.{EndlessLife, LifeEvent, entry_comes, record_is_saved, after_event}
use Rattle.checkpoints.specs.EndlessLives.{after_events, entries_of, new_life, IsEndlessLifeOf}
use Rattle.checkpoints.proofs.RowLemmas.{checkpoint_at_first}
use Rattle.checkpoints.proofs.DoneLemmas.{checkpoint_of_entry}
use Rattle.checkpoints.proofs.PrefixLemmas.{kept_same}

entry_more : (plan : Plan) (start : Store) (before : Option ℕ) (log : Log) (e : Entry) (acked : ℕ) (kept : Kept)
    → IsKeptOfPrefix plan start before log acked kept → IsKeptOfPrefix plan start before (log ++ e ∷ []) acked kept
entry_more plan start before log e acked kept p = record {
  front = p.front;
  rest = p.rest ++ e ∷ [];
  parts = ap (λ (l : Log). l ++ e ∷ []) p.parts ∙ append_assoc p.front p.rest (e ∷ []);
  acknowledged = p.acknowledged;
  is = p.is;
}

-- a record that is saved now is that of the whole log
pub all_of_it : (plan : Plan) (start : Store) (before : Option ℕ) (log : Log) (c : Checkpoint) (acked : ℕ)
    → IsCheckpointOf plan (past_of plan start log) c → acked ≤ length log
    → IsKeptOfPrefix plan start before log acked (kept_of_checkpoint plan before c)
all_of_it plan start before log c acked is few = record {
  front = log;
  rest = [];
  parts = sym (append-nil log);
  acknowledged = few;
  is = kept_same plan before (past_of plan start log) c is;
}

past_more : (plan : Plan) (start : Store) (log : Log) (e : Entry)
    → past_of plan start (log ++ e ∷ []) ≡ with_entry plan (past_of plan start log) e
past_more plan start log e = fold-append (with_entry plan) (beginning start) log (e ∷ [])

entered : (plan : Plan) (start : Store) (before : Option ℕ) (log : Log) (life : EndlessLife) (e : Entry)
    → IsEndlessLifeOf plan start before log life → IsLegalFrom plan before (past_of plan start log) (e ∷ [])
    → IsEndlessLifeOf plan start before (log ++ e ∷ []) (after_event plan before life (entry_comes e))
entered plan start before log life e is legal = record {
  checkpoint = subst (λ (p : Past). IsCheckpointOf plan p (compact_entry plan life.checkpoint e))
      (sym (past_more plan start log e))
      (checkpoint_of_entry plan before (past_of plan start log) life.checkpoint e is.checkpoint legal.0);
  entries = omega (arith, is.entries, length-append log (e ∷ []));
  saved = entry_more plan start before log e life.acked life.saved is.saved;
  few = omega (arith, is.few);
}

lives_on : (plan : Plan) (start : Store) (before : Option ℕ) (log : Log) (life : EndlessLife) (events : List LifeEvent)
    → IsEndlessLifeOf plan start before log life → IsLegalFrom plan before (past_of plan start log) (entries_of events)
    → IsEndlessLifeOf plan start before (log ++ entries_of events) (after_events plan before life events)
lives_on plan start before log life [] is legal =
    subst (λ (l : Log). IsEndlessLifeOf plan start before l life) (sym (append-nil log)) is
lives_on plan start before log life (entry_comes e ∷ events) is legal =
    let next = after_event plan before life (entry_comes e) in
    let right = entered plan start before log life e is (legal.0, tt) in
    let rest = subst (λ (p : Past). IsLegalFrom plan before p (entries_of events)) (sym (past_more plan start log e))
    legal.1 in
    subst (λ (l : Log). IsEndlessLifeOf plan start before l (after_events plan before next events))
    (append_assoc log (e ∷ []) (entries_of events)) (lives_on plan start before (log ++ e ∷ []) next events right rest)
lives_on plan start before log life (record_is_saved ∷ events) is legal =
    lives_on plan start before log (after_event plan before life record_is_saved) events record {
      checkpoint = is.checkpoint;
      entries = is.entries;
      saved = all_of_it plan start before log life.checkpoint life.entries is.checkpoint (omega (arith, is.entries));
      few = omega arith;
    } legal

begun : (plan : Plan) (start : Store) (before : Option ℕ)
    → IsEndlessLifeOf plan start before [] (new_life plan start before)
begun plan start before = record {
  checkpoint = checkpoint_at_first plan start;
  entries = refl;
  saved = record { front = []; rest = []; parts = refl; acknowledged = omega arith; is = refl };
  few = omega arith;
}

pub lived : (plan : Plan) (start : Store) (before : Option ℕ) (events : List LifeEvent)
    → IsLegal plan start before (entries_of events)
    → IsEndlessLifeOf plan start before (entries_of events)
    (after_events plan before (new_life plan start before) events)
lived plan start before events legal =
    lives_on plan start before [] (new_life plan start before) events (begun plan start before) legal

-- ---- all entries before a save are acknowledged

all_events : (plan : Plan) (before : Option ℕ) (life : EndlessLife) (events later : List LifeEvent)
    → after_events plan before life (events ++ later)
    ≡ after_events plan before (after_events plan before life events) later
all_events plan before life [] later = refl
all_events plan before life (e ∷ events) later = all_events plan before (after_event plan before life e) events later

all_counted : (plan : Plan) (before : Option ℕ) (life : EndlessLife) (events : List LifeEvent)
    → (after_events plan before life events).entries ≡ life.entries + length (entries_of events)
all_counted plan before life [] = omega arith
all_counted plan before life (entry_comes e ∷ events) =
    let more = all_counted plan before (after_event plan before life (entry_comes e)) events in omega (arith, more)
all_counted plan before life (record_is_saved ∷ events) =
    all_counted plan before (after_event plan before life record_is_saved) events

acked_grows : (plan : Plan) (before : Option ℕ) (life : EndlessLife) (events : List LifeEvent)
    → life.acked ≤ life.entries → life.acked ≤ (after_events plan before life events).acked
acked_grows plan before life [] few = omega arith
acked_grows plan before life (entry_comes e ∷ events) few =
    acked_grows plan before (after_event plan before life (entry_comes e)) events (omega (arith, few))
acked_grows plan before life (record_is_saved ∷ events) few =
    let more = acked_grows plan before (after_event plan before life record_is_saved) events (omega arith) in
    omega (arith, few, more)

pub acknowledged : (plan : Plan) (start : Store) (before : Option ℕ) (events later : List LifeEvent)
    → length (entries_of events)
    ≤ (after_events plan before (new_life plan start before) (events ++ record_is_saved ∷ later)).acked
acknowledged plan start before events later =
    let life = after_events plan before (new_life plan start before) events in
    let all : life.entries ≡ 0 + length (entries_of events) =
    all_counted plan before (new_life plan start before) events in
    let grows : life.entries ≤ (after_events plan before (after_event plan before life record_is_saved) later).acked =
    acked_grows plan before (after_event plan before life record_is_saved) later (omega arith) in
    rw (all_events plan before (new_life plan start before) events (record_is_saved ∷ later))
    (omega (arith, all, grows))
