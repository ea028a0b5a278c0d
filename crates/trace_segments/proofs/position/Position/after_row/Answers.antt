use Rattle.std.proofs.Common.{◌≡◌, ◌∙◌, ap, sym, subst, refl}
use Rattle.st_types.specs.declared.entry.Entry.TheVariants as entries
use Rattle.st_meaning.specs.Plans.{samples_of}
use Rattle.plan.specs.PlanViews.{plan_view}
use Rattle.ready_list.specs.Ready.{is_due_at}
use Rattle.checkpoints.specs.Compaction.{all_progress, first_moment, moment_or}
use Rattle.checkpoints.specs.Continuation.{MayContinue}
use Rattle.core_engine.proofs.Views.{left_of, true_is}
use Rattle.trace_segments.specs.Positions.{GoesTo, PositionView, checkpoint_at}
use Rattle.trace_segments.proofs.PositionLemmas.{IsPosition-row, after_row, row_after}
use Rattle.trace_segments.proofs.position.Position.after_row.Goals as goal

pub invariant_of-result : goal.invariant_of-result
invariant_of-result c =
    let here = left_of c.self.view_is in
    let new = c.new_row-new.result in
    let may = subst (λ (v : PositionView). MayContinue (plan_view v.plan) v.before (checkpoint_at v) (entries.Row c.args.row))
    (sym c.self.view_is) (c.admits.ensures.0 (true_is c.admits.result c.if-not-admits.false)) in
    let marked = c.in-Ok-mark_all.ensures
    ∙ ap (λ ss. all_progress (λ s. is_due_at new s c.deref-2.result.now c.deref-3.result.now) ss c.self.inside.programs.items
    record { number = new.number; row = c.args.row }) c.deref.ensures.value
    ∙ ap (λ b. all_progress (λ s. is_due_at new s b c.deref-3.result.now) c.self.inside.schedules.items
    c.self.inside.programs.items record { number = new.number; row = c.args.row }) c.deref-2.ensures.value
    ∙ ap (λ b. all_progress (λ s. is_due_at new s c.self.inside.samples.items b) c.self.inside.schedules.items
    c.self.inside.programs.items record { number = new.number; row = c.args.row }) c.deref-3.ensures.value in (
      IsPosition-row here c.args.row new.first c.self.inside.schedules.items c.in-Ok.samples.items
          (λ s. is_due_at new s c.self.inside.samples.items c.in-Ok.samples.items) new.number c.mark_all.new.programs.items
          c.self.invariant.0 may c.self.invariant.1 marked,
      c.self.invariant.1,
    )

pub returns-in-Ok-mark_all-clause-goes : goal.returns-in-Ok-mark_all-clause-goes
returns-in-Ok-mark_all-clause-goes c =
    let here = left_of c.self.view_is in
    let new = c.new_row-new.result in
    let may = subst (λ (v : PositionView). MayContinue (plan_view v.plan) v.before (checkpoint_at v) (entries.Row c.args.row))
    (sym c.self.view_is) (c.admits.ensures.0 (true_is c.admits.result c.if-not-admits.false)) in
    let marked = c.in-Ok-mark_all.ensures
    ∙ ap (λ ss. all_progress (λ s. is_due_at new s c.deref-2.result.now c.deref-3.result.now) ss c.self.inside.programs.items
    record { number = new.number; row = c.args.row }) c.deref.ensures.value
    ∙ ap (λ b. all_progress (λ s. is_due_at new s b c.deref-3.result.now) c.self.inside.schedules.items
    c.self.inside.programs.items record { number = new.number; row = c.args.row }) c.deref-2.ensures.value
    ∙ ap (λ b. all_progress (λ s. is_due_at new s c.self.inside.samples.items b) c.self.inside.schedules.items
    c.self.inside.programs.items record { number = new.number; row = c.args.row }) c.deref-3.ensures.value in
    let is = subst (λ (v : PositionView). new ≡ record {
      number = v.rows;
      first = first_moment (checkpoint_at v) c.args.row;
      last = moment_or c.args.row.moment v.last_row;
      moment = c.args.row.moment;
    }) (sym c.self.view_is) c.new_row-new.ensures in
    let sampled = subst (λ (v : PositionView). c.in-Ok.samples.items
    ≡ samples_of (plan_view v.plan) (checkpoint_at v).store c.args.row.image) (sym c.self.view_is) c.in-Ok.ensures in
    subst (λ (v : PositionView). GoesTo (entries.Row c.args.row) v
    (after_row here c.args.row new.first c.in-Ok.samples.items c.mark_all.new.programs.items)) c.self.view_is record {
      may = may;
      plan = refl;
      before = refl;
      after = row_after here c.args.row new c.self.inside.schedules.items c.in-Ok.samples.items c.mark_all.new.programs.items
          is c.self.invariant.1 sampled marked;
    }
