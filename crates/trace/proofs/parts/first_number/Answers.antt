use Rattle.std.proofs.Common.{sym, ◌<◌, ◌^◌, ℕ, Some, None, arith}
use Rattle.std.specs.Fmt.{decimal}
use Rattle.trace.proofs.ReadLemmas.{begins_field, begins_no_field, low_mark, plain_decimal, spells_number}
use Rattle.trace.proofs.parts.first_number.Goals as goal

pub returns-in_err-field : goal.returns-in_err-field
returns-in_err-field c =
    rw c.from_residual.ensures (begins_no_field (λ (n : ℕ). n < 2 ^ 64) decimal c.args.mark c.args.text.now
    (λ n small. plain_decimal c.args.mark n (low_mark c.args.mark c.requires) small) (sym c.in_err-field.ensures))

pub returns-in_err-number : goal.returns-in_err-number
returns-in_err-number c =
    rw c.from_residual-in_err-number.ensures (begins_field (λ (n : ℕ). n < 2 ^ 64) decimal c.args.mark c.args.text.now
    c.in_ok-field.field.now c.in_ok-field.rest.now None (λ n small. plain_decimal c.args.mark n (low_mark c.args.mark c.requires) small)
    (sym c.in_ok-field.ensures) (spells_number c.in_ok-field.field.now None tt c.in_err-number.ensures.none tt))

pub returns : goal.returns
returns c =
    let small : c.in_ok-number.number < 2 ^ 64 = omega arith in
    begins_field (λ (n : ℕ). n < 2 ^ 64) decimal c.args.mark c.args.text.now
    c.in_ok-field.field.now c.in_ok-field.rest.now (Some c.in_ok-number.number)
    (λ n within. plain_decimal c.args.mark n (low_mark c.args.mark c.requires) within) (sym c.in_ok-field.ensures)
    (spells_number c.in_ok-field.field.now (Some c.in_ok-number.number) c.in_ok-number.ensures.spelled tt small)
