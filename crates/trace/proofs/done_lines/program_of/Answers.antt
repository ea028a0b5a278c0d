use Rattle.std.proofs.Common.{◌≡◌, ◌∙◌, ap, sym, arith, ◌<◌, ◌++◌, length, Some, slice_get, inl, inr, subst}
use Rattle.std.specs.Prelude.{codes}
use Rattle.std.proofs.lemmas.Bool.{cases_lt}
use Rattle.std.proofs.lemmas.Option.{slice_get-get_or}
use Rattle.plan.specs.declared.task.ProgramInstance.{ProgramInstance}
use Rattle.trace.specs.Texts.{instance_text}
use Rattle.trace.proofs.ReadLemmas.{none_some}
use Rattle.trace.proofs.done_lines.program_of.Goals as goal

pub returns-in-Some-clause-told : goal.returns-in-Some-clause-told
returns-in-Some-clause-told c =
    let q = c.index-programs-i.result in
    let small : c.loop-i.i < length c.args.programs.now = omega arith in
    let at : slice_get c.args.programs.now c.loop-i.i ≡ Some q =
    slice_get-get_or c.args.programs.now c.loop-i.i q small ∙ ap Some (sym c.index-programs-i.is) in
    (q, at, c.in-Some.ensures.0)

pub loop-i-preserved : goal.loop-i-preserved
loop-i-preserved c = λ k q rest less at e.
    let p = c.index-programs-i.result in
    let small : c.loop-i.i < length c.args.programs.now = omega arith in
    let here : slice_get c.args.programs.now c.loop-i.i ≡ Some p =
    slice_get-get_or c.args.programs.now c.loop-i.i p small ∙ ap Some (sym c.index-programs-i.is) in
    elim (cases_lt k c.loop-i.i) [
      | inl before ↦ c.loop-i.invariant k q rest before at e
      | inr past ↦
          let k_is : k ≡ c.loop-i.i = omega arith in
          let one : Some q ≡ Some p = sym at ∙ ap (slice_get c.args.programs.now) k_is ∙ here in
          let same : q ≡ p = cc in
          none_some rest (c.in-None.ensures.1 rest
          (subst (λ (x : ProgramInstance). c.args.text.now ≡ (instance_text (Some x) ++ codes " ") ++ rest) same e))
    ]
