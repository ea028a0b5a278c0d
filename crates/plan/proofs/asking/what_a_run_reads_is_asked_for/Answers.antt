use Rattle.std.proofs.Common.{◌==◌, ap, sym, ◌∙◌}
use Rattle.std.specs.List.{list_any}
use Rattle.slot_code.specs.Codes.{code_view}
use Rattle.plan.proofs.ReadLemmas.{is_asked}
use Rattle.plan.proofs.asking.what_a_run_reads_is_asked_for.Goals as goal

pub returns : goal.returns
returns c = λ snapshot effect layout program k l is alike distinct typed at of_nobody only read.
    is_asked layout (code_view snapshot.code.value) program snapshot.moment snapshot.budget snapshot.slots.items
    k l alike distinct typed at only (ap (list_any (λ c. c.0 == k)) (sym is.reads) ∙ read) of_nobody
