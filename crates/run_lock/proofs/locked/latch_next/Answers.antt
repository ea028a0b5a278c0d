use Rattle.std.proofs.Common.{◌∙◌, ap, sym, subst, ◌++◌, ◌∷◌, [], Some, None}
use Rattle.std.proofs.lemmas.List.{append_assoc}
use Rattle.run_lock.specs.Latching.{LatchesNext}
use Rattle.run_lock.proofs.Gains.{row_more, rows_of}
use Rattle.run_lock.proofs.locked.latch_next.Goals as goal

pub returns-in-Ok-clause-rows : goal.returns-in-Ok-clause-rows
returns-in-Ok-clause-rows g c =
    let old = c.args.core.now.state in
    let more = row_more old _ c.in-Some.row c.in-Ok.ensures.latches.2.4 in
    ap (λ rows. rows ++ c.pop_front.new.self.items) more.2
    ∙ append_assoc (rows_of old) (c.in-Some.row ∷ []) c.pop_front.new.self.items
    ∙ ap (λ rest. rows_of old ++ rest) (sym c.in-Some.ensures.items)

pub returns-in-Ok-clause-latches : goal.returns-in-Ok-clause-latches
returns-in-Ok-clause-latches g c =
    subst (λ rows. LatchesNext c.args.core.now rows None c.latch.new.self) (sym c.in-Some.ensures.items)
    (c.in-Ok.field-0, c.in-Ok.ensures.latches)

pub returns-in-Err-clause-latches : goal.returns-in-Err-clause-latches
returns-in-Err-clause-latches g c =
    subst (λ rows. LatchesNext c.args.core.now rows (Some c.in-Err.refusal) c.latch.new.self)
    (sym c.in-Some.ensures.items) c.in-Err.ensures.latches
