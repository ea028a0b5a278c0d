use Rattle.std.proofs.Common.{◌-◌, ◌^◌, ap, ◌∙◌, map}
use Rattle.std.specs.Prelude.{is_some, min}
use Rattle.std.proofs.lemmas.List.{take_all}
use Rattle.st_types.specs.UnitViews.{unit_view}
use Rattle.symbols.specs.Found.{found}
use Rattle.st_link.specs.CalledFunctions.{values_of_units}
use Rattle.st_link.specs.LinkVariables.{is_whole_unit}
use Rattle.st_link.proofs.SymbolLemmas.{more_taken}
use Rattle.st_link.proofs.ValueLemmas.{holds_of, values_more}
use Rattle.st_link.proofs.called_functions.values_of_all.Goals as goal

pub loop-unit-preserved : goal.loop-unit-preserved
loop-unit-preserved c =
    let xs = c.args.units.now in
    let i = c.loop-unit.unit-index in
    let u = c.unit-item.result in
    let more = more_taken xs i u c.loop-unit-test.true c.unit-item.is in
    let inv = c.loop-unit.invariant in
    record {
      serves = λ text s. c.in_ok-more.ensures.serves text (inv.serves text s);
      values = λ text s whole.
          values_more (λ v. unit_view v.now) (λ x. is_some (found c.args.called.now x)) text xs i u
          c.loop-unit.values c.in_ok-more.more c.saturating_add-values.result more (inv.values text s whole)
          (c.in_ok-more.ensures.values text (inv.serves text s)
          (holds_of (λ v. unit_view v.now) (is_whole_unit text) xs i u more whole)) c.saturating_add-values.ensures;
    }

pub returns : goal.returns
returns c text s whole =
    c.loop-unit.invariant.values text s whole
    ∙ ap (λ ys. min (values_of_units (λ x. is_some (found c.args.called.now x)) text (map (λ u. unit_view u.now) ys))
    (2 ^ 64 - 1)) (take_all c.loop-unit.unit-index c.args.units.now c.loop-unit-test.false)
