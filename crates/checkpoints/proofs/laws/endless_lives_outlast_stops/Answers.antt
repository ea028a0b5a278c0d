use Rattle.std.proofs.Common.{arith}
use Rattle.st_meaning.specs.Restarts.{warm_start}
use Rattle.checkpoints.specs.Prefixes.{kept_of_checkpoint}
use Rattle.checkpoints.specs.EndlessLives.{new_life, after_events, entries_of}
use Rattle.checkpoints.proofs.PrefixLemmas.{gives_back}
use Rattle.checkpoints.proofs.EndlessLemmas.{lived, acknowledged, all_of_it}
use Rattle.checkpoints.proofs.laws.endless_lives_outlast_stops.Goals as goal

pub returns-clause-lived : goal.returns-clause-lived
returns-clause-lived c = lived

pub returns-clause-acknowledged : goal.returns-clause-acknowledged
returns-clause-acknowledged c = acknowledged

pub returns-clause-saved : goal.returns-clause-saved
returns-clause-saved c = λ plan r events once held legal.
    let first = warm_start plan r in
    let life = after_events plan first.moment (new_life plan first.store first.moment) events in
    gives_back plan r (entries_of events) life.acked life.saved once held
    (lived plan first.store first.moment events legal).saved

pub returns-clause-being_saved : goal.returns-clause-being_saved
returns-clause-being_saved c = λ plan r events once held legal.
    let first = warm_start plan r in
    let life = after_events plan first.moment (new_life plan first.store first.moment) events in
    let is = lived plan first.store first.moment events legal in
    gives_back plan r (entries_of events) life.acked (kept_of_checkpoint plan first.moment life.checkpoint) once held
    (all_of_it plan first.store first.moment (entries_of events) life.checkpoint life.acked is.checkpoint
    (omega (arith, is.few, is.entries)))
