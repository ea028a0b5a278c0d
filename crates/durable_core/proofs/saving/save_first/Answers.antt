use Rattle.std.proofs.Common.{[], subst}
use Rattle.std.specs.Prelude.{OnOk, IfErr}
use Rattle.retain_records.specs.Records.{Content}
use Rattle.retain_store.specs.Stores.{IsSavedAs, IsUnsaved, LeavesEither}
use Rattle.durable_core.proofs.EngineLemmas.{record_is}
use Rattle.durable_core.proofs.saving.save_first.Goals as goal

pub returns-clause-saved : goal.returns-clause-saved
returns-clause-saved g c =
    subst (λ (r : Content). OnOk c.save_record.result (IsSavedAs r c.args.store.now c.save_record.new.store))
    (record_is c.args.engine.now c.args.engine.now.values [] c.requires.new) c.save_record.ensures.saved

pub returns-clause-unsaved : goal.returns-clause-unsaved
returns-clause-unsaved g c =
    subst (λ (r : Content). IfErr c.save_record.result
    (λ fault. IsUnsaved fault r c.args.store.now c.save_record.new.store))
    (record_is c.args.engine.now c.args.engine.now.values [] c.requires.new) c.save_record.ensures.unsaved

pub returns-clause-stops : goal.returns-clause-stops
returns-clause-stops g c = λ tells.
    subst (λ (r : Content). LeavesEither g.D.Disk.left_since g.D.Disk.may_leave c.save_record.result r
    c.args.store.now c.save_record.new.store)
    (record_is c.args.engine.now c.args.engine.now.values [] c.requires.new) (c.save_record.ensures.stops tells)
