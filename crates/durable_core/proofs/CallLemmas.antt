-- The invariant of a core over a disk when its log grows.
use Rattle.std.proofs.Common.{◌≡◌, ℕ, [], ◌∷◌, Option, Some, None, inl, inr, sym, ap, subst, arith, length-append}
use Rattle.std.specs.Prelude.{Result, Ok, Err}
use Rattle.st_types.specs.declared.entry.Entry.{Entry}
use Rattle.st_types.specs.declared.entry.Entry.TheVariants.{Row, Done}
use Rattle.st_types.specs.declared.entry.Activation.{Activation}
use Rattle.st_types.specs.Rows.{Latch}
use Rattle.st_meaning.specs.declared.outcome.Outcome.{Outcome}
use Rattle.slot_run.specs.Effects.{Effect}
use Rattle.core_engine.specs.declared.refusal.Answer.{Answer}
use Rattle.core_engine.specs.declared.refusal.Answer.TheVariants.{Committed, Stale}
use Rattle.core_engine.specs.declared.refusal.Refusal.{Refusal}
use Rattle.core_engine.specs.declared.refusal.Refusal.TheVariants.{Full, NotWaiting, Foreign, NotLater, NoMemory}
use Rattle.core_engine.specs.Steps.{State, grown, Latches, Commits, CommitsHere}
use Rattle.core_engine.specs.Quick.{CommitsOne}
use Rattle.durable_core.specs.Kept.{CoreInvariant}
use Rattle.durable_core.specs.Cores.{CoreView, IsLonger, with_state}
use Rattle.durable_core.proofs.SurvivalLemmas.{survives_longer}

pub latches_longer : (old : State) (row : Latch) (r : Result ℕ Refusal) (new : State) → Latches old row r new
    → IsLonger old new
latches_longer old row (Ok n) new h = inr (Row row, h.4)
latches_longer old row (Err Full) new h = inl h.1
latches_longer old row (Err Foreign) new h = inl h.2
latches_longer old row (Err NotLater) new h = inl h.3
latches_longer old row (Err NotWaiting) new h = absurd h
latches_longer old row (Err NoMemory) new h = absurd h

pub commits_longer : (old : State) (effect : Effect) (r : Result Answer Refusal) (new : State)
    → Commits old effect r new → IsLonger old new
commits_longer old effect (Ok (Committed n)) new h = inr (Done effect.activation, h.1)
commits_longer old effect (Ok Stale) new h = inl h.1
commits_longer old effect (Err refusal) new h = inl h.1

pub here_longer : (old : State) (resource : ℕ) (r : Result (Option ℕ) Refusal) (new : State)
    → CommitsHere old resource r new → IsLonger old new
here_longer old resource (Ok None) new h = inl h.1
here_longer old resource (Ok (Some n)) new h = inr (Done h.0, h.3)
here_longer old resource (Err Full) new h = inl h.2
here_longer old resource (Err NoMemory) new h = inl h.1
here_longer old resource (Err NotWaiting) new h = absurd h
here_longer old resource (Err Foreign) new h = absurd h
here_longer old resource (Err NotLater) new h = absurd h

pub one_longer : (old : State) (a : Activation) (r : Result Outcome Refusal) (new : State)
    → CommitsOne old a r new → IsLonger old new
one_longer old a (Ok outcome) new h = inr (Done a, h.1)
one_longer old a (Err Full) new h = inl h.1
one_longer old a (Err NoMemory) new h = inl h
one_longer old a (Err NotWaiting) new h = absurd h
one_longer old a (Err Foreign) new h = absurd h
one_longer old a (Err NotLater) new h = absurd h

-- the plan is the same
pub longer_plan : (old new : State) → IsLonger old new → new.plan ≡ old.plan
longer_plan old new (inl same) = ap (λ (s : State). s.plan) same
longer_plan old new (inr more) = ap (λ (s : State). s.plan) more.1

kept_grown : {D : Type 0} (core : CoreView D) (entry : Entry) → CoreInvariant core
    → CoreInvariant (with_state core (grown core.state entry))
kept_grown core entry k =
    let state = core.state in
    record {
      started = k.started;
      early = k.early;
      last = survives_longer state.plan state.start state.before state.log core.acked core.store.last entry k.last;
      tried = survives_longer state.plan state.start state.before state.log core.acked core.store.tried entry k.tried;
      few = omega (arith, k.few, length-append state.log (entry ∷ []));
      met = k.met;
      saves = k.saves;
    }

pub kept_longer : {D : Type 0} (core : CoreView D) (new : State) → IsLonger core.state new → CoreInvariant core
    → CoreInvariant (with_state core new)
kept_longer core new (inl same) k = subst (λ (s : State). CoreInvariant (with_state core s)) (sym same) k
kept_longer core new (inr more) k =
    subst (λ (s : State). CoreInvariant (with_state core s)) (sym more.1) (kept_grown core more.0 k)
