use Rattle.std.proofs.Common.{Result, sym, ap, ◌∙◌, arith}
use Rattle.st_types.specs.declared.fault.Fault.{Fault}
use Rattle.st_types.specs.Values.{Datum}
use Rattle.retain_records.proofs.ValueLemmas.{kept, value_found}
use Rattle.retain_records.proofs.value_bytes.value_at.Goals as goal

pub returns-in-Ok : goal.returns-in-Ok
returns-in-Ok c = ap (λ (r : Result Datum Fault). kept r c.split_at.result.1.now) (sym c.in-Ok.is)
    ∙ value_found c.args.kind c.args.bytes.now c.split_at.result.0.now c.split_at.result.1.now c.width-width.result
    c.bits_in.result c.number.result c.new.result c.width-width.ensures.wide (omega arith) c.split_at.ensures.front
    c.split_at.ensures.back c.bits_in.ensures.exact c.number.ensures (record { sfits = c.number.type_inv })
    c.new.ensures

pub returns-in-Err : goal.returns-in-Err
returns-in-Err c = ap (λ (r : Result Datum Fault). kept r c.split_at.result.1.now) (sym c.in-Err.is)
    ∙ value_found c.args.kind c.args.bytes.now c.split_at.result.0.now c.split_at.result.1.now c.width-width.result
    c.bits_in.result c.number.result c.new.result c.width-width.ensures.wide (omega arith) c.split_at.ensures.front
    c.split_at.ensures.back c.bits_in.ensures.exact c.number.ensures (record { sfits = c.number.type_inv })
    c.new.ensures
