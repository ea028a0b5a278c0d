use Rattle.std.proofs.Common.{sym, ◌∙◌, ap}
use Rattle.st_print.proofs.NumberLemmas.{begins_decimal, utf8_decimal, spelled_number, number_parsed, ok_some}
use Rattle.st_print.proofs.NumberLemmas.{none_spelled}
use Rattle.st_print.specs.Numbers.{may_begin}
use Rattle.st_print.proofs.number.number.Goals as goal

pub returns-then-not-may_begin-clause-none : goal.returns-then-not-may_begin-clause-none
returns-then-not-may_begin-clause-none c = λ n small e.
    let begins = begins_decimal n small in
    let same = ap may_begin e in cc

pub returns-in-Ok-clause-spelled : goal.returns-in-Ok-clause-spelled
returns-in-Ok-clause-spelled c =
    let text = c.in-Ok.ensures.cases.0 in
    let begins = sym c.may_begin.ensures ∙ c.if-not-may_begin.false in
    rw (c.ok.ensures.value, ← text) (ok_some _ c.parse.result
    (spelled_number c.in-Ok.text.now c.parse.result (rw text begins) c.parse.ensures.value.0))

pub returns-in-Ok-clause-none : goal.returns-in-Ok-clause-none
returns-in-Ok-clause-none c =
    rw c.ok.ensures.value (none_spelled c.args.field.now c.parse.result (λ n small e. number_parsed c.args.field.now
    c.parse.result (rw c.in-Ok.ensures.cases.0 at c.parse.ensures.value.0) n small e))

pub returns-in-Err-clause-none : goal.returns-in-Err-clause-none
returns-in-Err-clause-none c = λ n small e. c.in-Err.ensures.cases.0 (rw e (utf8_decimal n small))
