use Rattle.std.proofs.Common.{ap, refl, subst, ◌∙◌, arith, map}
use Rattle.std.proofs.lemmas.List.{take_all}
use Rattle.symbols.specs.Agreeing.{Agree}
use Rattle.symbols.specs.Found.{found, or_found}
use Rattle.layout.specs.Sizes.{capped_size}
use Rattle.slot_trees.specs.ExpressionViews.{anchor_view}
use Rattle.st_link.specs.BodyTables.{IsSymbol}
use Rattle.st_link.specs.declared.body_table.LinkSymbol.{LinkSymbol}
use Rattle.st_link.specs.FirstSlots.{slots_taken, symbol_among, unless_found}
use Rattle.st_link.specs.LinkVariables.{variable_view}
use Rattle.st_link.proofs.SymbolLemmas.{begin_symbols, more_taken, offset_is, slots_more, symbols_more, whole_one}
use Rattle.st_link.proofs.unit_names.add_variables.Goals as goal

pub loop-variable-init : goal.loop-variable-init
loop-variable-init c = record {
  small = omega arith;
  slots = λ text serves whole. refl;
  added = λ text x o serves whole room a.
      begin_symbols text c.args.hidden.now x (found c.args.symbols.now x) o a;
}

pub loop-variable-preserved : goal.loop-variable-preserved
loop-variable-preserved c =
    let xs = c.args.variables.now in
    let i = c.loop-variable.variable-index in
    let v = c.variable-item.result in
    let below = c.loop-variable-test.true in
    let more = more_taken xs i v below c.variable-item.is in
    let s : LinkSymbol = record { anchor = c.moved.result; is_input = v.is_input; declared = v.declared } in
    let inv = c.loop-variable.invariant in
    record {
      small = omega (arith, c.sum-offset.ensures);
      slots = λ text serves whole.
          slots_more text xs i v c.loop-variable.offset c.size.result c.sum-offset.result more
          (inv.slots text serves whole)
          (c.size.ensures text serves (whole_one text xs i v below more whole)) c.sum-offset.ensures;
      added = λ text x o serves whole room a.
          symbols_more text c.args.hidden.now (anchor_view c.args.base) x o xs i c.loop-variable.offset v s
          (found c.loop-variable.symbols x) (found c.add_variable.new.symbols x) more (c.in_ok-add_variable.ensures x)
          c.moved.ensures
          (offset_is text (anchor_view c.args.base) xs i c.loop-variable.offset (inv.slots text serves whole) room) refl
          refl (whole_one text xs i v below more whole) room (inv.added text x o serves whole room a);
    }

pub returns-clause-slots : goal.returns-clause-slots
returns-clause-slots c text serves whole =
    c.loop-variable.invariant.slots text serves whole
    ∙ ap (λ ys. capped_size (slots_taken text (map variable_view ys)))
    (take_all c.loop-variable.variable-index c.args.variables.now c.loop-variable-test.false)

pub returns-clause-added : goal.returns-clause-added
returns-clause-added c text x o serves whole room a =
    subst (λ ys. Agree (IsSymbol text) (found c.loop-variable.symbols x) (or_found o (unless_found c.args.hidden.now x
    (symbol_among text (anchor_view c.args.base) (map variable_view ys) x))))
    (take_all c.loop-variable.variable-index c.args.variables.now c.loop-variable-test.false)
    (c.loop-variable.invariant.added text x o serves whole room a)
