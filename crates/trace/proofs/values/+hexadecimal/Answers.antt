use Rattle.std.proofs.Common.{◌≡◌, ◌+◌, ◌-◌, ◌*◌, ◌<◌, ◌^◌, suc, arith, subst, sym, Some, ℕ}
use Rattle.st_print.specs.Spelling.{hexadecimal}
use Rattle.trace.specs.Reads.{FieldSpells}
use Rattle.trace.proofs.ValueLemmas.{hexadecimal_more, pow_room}
use Rattle.trace.proofs.values.+hexadecimal.Goals as goal

pub overflow_mul-result : goal.overflow_mul-result
overflow_mul-result t c =
    let room = pow_room (c.args.count - 1) (omega arith) in
    let less : c.in_ok-number.number < 16 ^ (c.args.count - 1) = c.in_ok-number.ensures.0.0 in omega arith

pub overflow_add-result : goal.overflow_add-result
overflow_add-result t c =
    let room = pow_room (c.args.count - 1) (omega arith) in
    let less : c.in_ok-number.number < 16 ^ (c.args.count - 1) = c.in_ok-number.ensures.0.0 in
    let small : c.in_ok-digit.digit < 16 = c.in_ok-digit.ensures.0.0 in
    let digit = c.from.ensures in omega arith

pub returns : goal.returns
returns t c =
    let next : suc (c.args.count - 1) ≡ c.args.count = omega arith in
    subst (λ n. FieldSpells (λ (m : ℕ). m < 16 ^ n) (hexadecimal n) c.args.field.now
    (Some (c.in_ok-number.number * 16 + c.from.result))) next
    (subst (λ d. FieldSpells (λ (m : ℕ). m < 16 ^ suc (c.args.count - 1)) (hexadecimal (suc (c.args.count - 1)))
    c.args.field.now (Some (c.in_ok-number.number * 16 + d))) (sym c.from.ensures)
    (hexadecimal_more (c.args.count - 1) c.in_ok-number.number c.in_ok-digit.digit c.in_ok-last.last.now
    c.args.field.now c.in_ok-last.front.now c.in_ok-last.ensures.cases.0 c.in_ok-number.ensures c.in_ok-digit.ensures))
