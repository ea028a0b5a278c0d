use Rattle.std.proofs.Common.{ap, ◌∙◌, map}
use Rattle.std.proofs.lemmas.List.{take_all}
use Rattle.layout.specs.Sizes.{capped_size}
use Rattle.st_link.specs.FirstSlots.{slots_taken}
use Rattle.st_link.specs.LinkVariables.{variable_view}
use Rattle.st_link.proofs.SymbolLemmas.{more_taken, slots_more, whole_one}
use Rattle.st_link.proofs.called_functions.slots_of_all.Goals as goal

pub loop-variable-preserved : goal.loop-variable-preserved
loop-variable-preserved c =
    let xs = c.args.variables.now in
    let i = c.loop-variable.variable-index in
    let v = c.variable-item.result in
    let below = c.loop-variable-test.true in
    let more = more_taken xs i v below c.variable-item.is in
    let inv = c.loop-variable.invariant in
    record {
      serves = λ text s. c.in_ok-size.ensures.serves text (inv.serves text s);
      slots = λ text s whole.
          slots_more text xs i v c.loop-variable.slots c.in_ok-size.size c.sum-slots.result more
          (inv.slots text s whole)
          (c.in_ok-size.ensures.slots text (inv.serves text s) (whole_one text xs i v below more whole))
          c.sum-slots.ensures;
    }

pub returns-clause-slots : goal.returns-clause-slots
returns-clause-slots c text s whole =
    c.loop-variable.invariant.slots text s whole
    ∙ ap (λ ys. capped_size (slots_taken text (map variable_view ys)))
    (take_all c.loop-variable.variable-index c.args.variables.now c.loop-variable-test.false)
