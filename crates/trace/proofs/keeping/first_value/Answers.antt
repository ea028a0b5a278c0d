use Rattle.std.proofs.Common.{◌≡◌, map, sym, Some, None, arith}
use Rattle.std.specs.Vec.{vec_items}
use Rattle.st_types.specs.Values.{Datum, IsHeld}
use Rattle.st_print.specs.Spelling.{value_text}
use Rattle.trace.proofs.ReadLemmas.{begins_field, begins_no_field}
use Rattle.trace.proofs.NameLemmas.{plain_text}
use Rattle.trace.proofs.keeping.first_value.Goals as goal

pub returns-in_err-field : goal.returns-in_err-field
returns-in_err-field c =
    rw c.from_residual.ensures (begins_no_field (λ (v : Datum). (v.kind ≡ c.args.kind) × IsHeld v) (value_text (map vec_items c.args.types.now)) 10
    c.args.text.now (λ v may. plain_text (map vec_items c.args.types.now) c.args.kind v c.requires.spelled
    (omega (arith, c.names-few.ensures, c.names-few.type_inv)) may.0 may.1) (sym c.in_err-field.ensures))

pub returns-in_err-value : goal.returns-in_err-value
returns-in_err-value c =
    rw c.from_residual-in_err-value.ensures (begins_field (λ (v : Datum). (v.kind ≡ c.args.kind) × IsHeld v)
    (value_text (map vec_items c.args.types.now)) 10 c.args.text.now c.in_ok-field.field.now c.in_ok-field.rest.now None
    (λ v may. plain_text (map vec_items c.args.types.now) c.args.kind v c.requires.spelled
    (omega (arith, c.names-few.ensures, c.names-few.type_inv)) may.0 may.1) (sym c.in_ok-field.ensures) c.in_err-value.ensures)

pub returns : goal.returns
returns c = begins_field (λ (v : Datum). (v.kind ≡ c.args.kind) × IsHeld v)
    (value_text (map vec_items c.args.types.now)) 10 c.args.text.now c.in_ok-field.field.now c.in_ok-field.rest.now (Some c.in_ok-value.value)
    (λ v may. plain_text (map vec_items c.args.types.now) c.args.kind v c.requires.spelled
    (omega (arith, c.names-few.ensures, c.names-few.type_inv)) may.0 may.1) (sym c.in_ok-field.ensures) c.in_ok-value.ensures
