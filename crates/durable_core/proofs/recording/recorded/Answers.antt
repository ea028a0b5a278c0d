use Rattle.std.proofs.Common.{rules, ◌≡◌, ◌∙◌}
use Rattle.std.specs.Prelude.{Result, Ok}
use Rattle.st_types.specs.declared.fault.Fault.{Fault}
use Rattle.st_types.specs.Values.{Datum, in_range}
use Rattle.durable_core.specs.Recorded.{recorded, recorded_kind}
use Rattle.durable_core.proofs.RecordedLemmas.{in_record, same_value}
use Rattle.durable_core.proofs.recording.recorded.Goals as goal

pub returns : goal.returns
returns c =
    let made : ◌≡◌ {A = Result Datum Fault} (Ok c.in-Ok.known)
    (in_range (recorded_kind c.args.value.kind) c.args.value.number) = search rules in
    same_value c.in-Ok.known (recorded c.args.value) (made ∙ in_record c.args.value c.number.ensures.held)
