use Rattle.std.proofs.Common.{◌∙◌, Some, ap, map, sym, subst}
use Rattle.st_meaning.specs.Logs.{row_at}
use Rattle.plan.specs.declared.plan.Plan.{Plan}
use Rattle.core_engine.specs.Steps.{code_at, past_in, slots_for}
use Rattle.core_engine.specs.Lived.{EngineView, HasEngineLife, life_in}
use Rattle.core_engine.proofs.TakeLemmas.{merged_as, numbered_as, values_are, slots_numbered, waits-row}
use Rattle.core_engine.proofs.engine.Engine.snapshot_of.Goals as goal

pub merged_values-requires : goal.merged_values-requires
merged_values-requires c =
    let a = c.args.activation in
    let now = c.args.self.now in
    let (start, log, is) = subst HasEngineLife c.self.view_is c.self.invariant.live in
    numbered_as c.deref-2.result.now now.plan.slots.items c.values.result.now now.values c.image.result.now
    (row_at (past_in (life_in now start log)).rows a.row).image
    (c.deref-2.ensures.value
    ∙ ap (λ (p : Plan). p.slots.items) (c.deref.ensures ∙ ap (λ (e : EngineView). e.plan) c.self.view_is))
    (c.values.ensures.now start log is ∙ sym (values_are is.kept))
    (c.image.ensures ∙ ap (λ r. r.image) (c.row_for-row.ensures start log is))
    (slots_numbered is.kept a (waits-row is.kept a (c.requires.waits start log is)))

pub new-requires : goal.new-requires
new-requires c =
    let a = c.args.activation in
    let now = c.args.self.now in
    let (start, log, is) = subst HasEngineLife c.self.view_is c.self.invariant.live in
    let life = life_in now start log in
    record {
      typed = ap (map (λ v. v.kind)) (c.in-Ok-merged_values.ensures
          ∙ merged_as c.deref-2.result.now now.plan.slots.items c.values.result.now (map (λ e. e.1) (past_in life).store)
          c.image.result.now (row_at (past_in life).rows a.row).image
          (c.deref-2.ensures.value
          ∙ ap (λ (p : Plan). p.slots.items) (c.deref.ensures ∙ ap (λ (e : EngineView). e.plan) c.self.view_is))
          (c.values.ensures.now start log is)
          (c.image.ensures ∙ ap (λ r. r.image) (c.row_for-row.ensures start log is)))
          ∙ c.in-Ok.ensures.typed start log is;
    }

pub returns-clause-parts : goal.returns-clause-parts
returns-clause-parts c =
    let a = c.args.activation in
    let now = c.args.self.now in
    λ start log is.
    let life = life_in now start log in
    let same = c.new.ensures.activation in
    record {
      code = ap (λ b. code_at now.plan b.program) same ∙ c.in-Ok.ensures.code
          ∙ ap (λ x. Some x) (sym c.new.ensures.code);
      moment = c.new.ensures.moment ∙ c.moment.ensures
          ∙ ap (λ r. r.moment) (c.row_for-row.ensures start log is)
          ∙ ap (λ b. (row_at (past_in life).rows b.row).moment) (sym same);
      budget = c.new.ensures.budget ∙ ap (λ (p : Plan). p.budget) (c.deref-3.ensures
          ∙ ap (λ (e : EngineView). e.plan) c.self.view_is);
      slots = c.new.ensures.slots ∙ c.in-Ok-merged_values.ensures
          ∙ merged_as c.deref-2.result.now now.plan.slots.items c.values.result.now (map (λ e. e.1) (past_in life).store)
          c.image.result.now (row_at (past_in life).rows a.row).image
          (c.deref-2.ensures.value
          ∙ ap (λ (p : Plan). p.slots.items) (c.deref.ensures ∙ ap (λ (e : EngineView). e.plan) c.self.view_is))
          (c.values.ensures.now start log is)
          (c.image.ensures ∙ ap (λ r. r.image) (c.row_for-row.ensures start log is))
          ∙ ap (slots_for life) (sym same);
    }
