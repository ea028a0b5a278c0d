use Rattle.std.proofs.Common.{◌≢◌, List, ℕ}
use Rattle.st_meaning.specs.Restarts.{Start}
use Rattle.st_meaning.specs.Logs.{Log}
use Rattle.durable_core.specs.declared.starting.StartMode.{StartMode}
use Rattle.trace.specs.declared.trace_error.ReplayError.TheVariants.{NoMemory, Device}
use Rattle.commit_lock.specs.declared.findings.Replayed.{Replayed}
use Rattle.commit_lock.specs.Replays.{AreFindings, IsTrace}
use Rattle.commit_lock.proofs.AcceptLemmas.{read_accepts, unread_accepts}
use Rattle.commit_lock.proofs.ReplayLemmas.{read_refused, read_told}
use Rattle.commit_lock.proofs.replaying.replay.Goals as goal

pub returns-in-Ok-clause-refused : goal.returns-in-Ok-clause-refused
returns-in-Ok-clause-refused g c =
    read_refused (λ e. e ≢ NoMemory) (λ e. e ≢ Device)
    (λ (text : List ℕ). (mode : StartMode) (start : Start) (log : Log)
    → IsTrace c.args.plan.value c.args.rows.now text mode start log → ⊥) (g.R.Read.remaining c.args.reader)
    c.new-text.result.items c.read_to_end.new.buf.items c.deref.result.now c.replay_text.result c.new-text.ensures.items
    c.in-Ok.ensures.bytes c.deref.ensures.value c.replay_text.ensures.refused

pub returns-in-Ok-clause-only : goal.returns-in-Ok-clause-only
returns-in-Ok-clause-only g c =
    read_told (λ (r : Replayed) (text : List ℕ). (mode : StartMode) (start : Start) (log : Log)
    → IsTrace c.args.plan.value c.args.rows.now text mode start log
    → AreFindings c.args.plan.value start log r.rows r.done r.faults r.overruns r.values.items)
    (g.R.Read.remaining c.args.reader) c.new-text.result.items c.read_to_end.new.buf.items c.deref.result.now
    c.replay_text.result c.new-text.ensures.items c.in-Ok.ensures.bytes c.deref.ensures.value
    c.replay_text.ensures.only

pub returns-in-Ok-clause-accepts : goal.returns-in-Ok-clause-accepts
returns-in-Ok-clause-accepts g c =
    read_accepts c.args.plan.value c.args.rows.now (g.R.Read.remaining c.args.reader) c.new-text.result.items
    c.read_to_end.new.buf.items c.deref.result.now c.replay_text.result c.new-text.ensures.items c.in-Ok.ensures.bytes
    c.deref.ensures.value c.replay_text.ensures.accepts

pub returns-in-Err-clause-accepts : goal.returns-in-Err-clause-accepts
returns-in-Err-clause-accepts g c =
    unread_accepts c.args.plan.value c.args.rows.now (g.R.Read.remaining c.args.reader) c.unread.result
    c.unread.ensures
