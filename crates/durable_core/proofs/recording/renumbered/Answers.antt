use Rattle.std.proofs.Common.{rules, ◌≡◌}
use Rattle.std.specs.Prelude.{Result, Ok, Err}
use Rattle.st_types.specs.declared.fault.Fault.{Fault}
use Rattle.st_types.specs.Kinds.{holds}
use Rattle.st_types.specs.Values.{Datum, in_range}
use Rattle.durable_core.proofs.RecordedLemmas.{in_type, not_in_type}
use Rattle.durable_core.proofs.recording.renumbered.Goals as goal

pub returns-in-Ok : goal.returns-in-Ok
returns-in-Ok c =
    let made : ◌≡◌ {A = Result Datum Fault} (Ok c.in-Ok.new) (in_range c.args.value.kind c.args.other.number) =
    search rules in
    in_type (holds c.args.value.kind c.args.other.number) c.in-Ok.new
    record { kind = c.args.value.kind; number = c.args.other.number } c.args.value made

pub returns-in-Err : goal.returns-in-Err
returns-in-Err c =
    let made : ◌≡◌ {A = Result Datum Fault} (Err c.in-Err.field-0) (in_range c.args.value.kind c.args.other.number) =
    search rules in
    not_in_type (holds c.args.value.kind c.args.other.number) c.in-Err.field-0
    record { kind = c.args.value.kind; number = c.args.other.number } c.args.value made
