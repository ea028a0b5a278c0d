use Rattle.std.proofs.Common.{◌≡◌, ◌∙◌, ◌<◌, ap, sym, subst, arith, inl, inr, length, slice_index_or}
use Rattle.std.proofs.lemmas.Bool.{cases_lt}
use Rattle.std.proofs.lemmas.List.{get_or_default}
use Rattle.st_types.specs.Values.{IsHeld}
use Rattle.st_meaning.specs.declared.plan.PlanVariable.{PlanVariable}
use Rattle.commit_lock.proofs.starting.held_initials.Goals as goal

pub loop-variable-preserved : goal.loop-variable-preserved
loop-variable-preserved c = λ k d less.
    elim (cases_lt k c.loop-variable.variable-index) [
      | inl before ↦ c.loop-variable.invariant k d before
      | inr past ↦
          let v = c.variable-item.result in
          let i = c.loop-variable.variable-index in
          let at : k ≡ i = omega arith in
          let small : i < length c.args.variables.now = omega arith in
          let is : slice_index_or c.args.variables.now k d ≡ v =
          ap (λ n. slice_index_or c.args.variables.now n d) at ∙ get_or_default c.args.variables.now i d v small
          ∙ sym c.variable-item.is in
          subst (λ (x : PlanVariable). IsHeld x.initial) (sym is) c.number-held.ensures.held
    ]
