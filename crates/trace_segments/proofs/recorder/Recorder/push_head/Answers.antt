use Rattle.std.proofs.Common.{◌≡◌, ◌∙◌, ◌++◌, ℕ, ap, sym, option_map, Option}
use Rattle.plan.specs.declared.plan.Plan.{Plan}
use Rattle.checkpoints.specs.Checkpoints.{Checkpoint}
use Rattle.core_engine.specs.Checkpointed.{checkpoint_of}
use Rattle.trace_segments.specs.Heads.{HeadView, checkpoint_in}
use Rattle.trace_segments.specs.Segments.{head_text}
use Rattle.trace_segments.specs.Recorders.{RecorderView}
use Rattle.trace_segments.proofs.RecordLemmas.{rested_head}
use Rattle.trace_segments.proofs.recorder.Recorder.push_head.Goals as goal

pub returns : goal.returns
returns c =
    let engine = c.args.engine.now in
    let inside = c.self.inside in
    let (start, log, of) = c.lived.ensures.live in
    let head : HeadView = record {
      rows = c.rows.result;
      first = c.first_moment.result;
      last_row = option_map (λ r. record { moment = r.0; image = r.1.now }) c.last_row.result;
      samples = c.samples.result.now;
      overruns = c.deref.result.now;
      values = c.values.result.now;
    } in record {
      head = λ rest.
          let same = rested_head engine head rest (c.rows.ensures start log of ∙ sym of.numbered) c.first_moment.ensures
          c.last_row.ensures c.samples.ensures c.values.ensures.values
          (c.deref.ensures.value ∙ c.in_ok-overruns.ensures.progress) in
          c.in_ok-push_head.ensures
          ∙ ap (λ (p : Plan). inside.lines.items ++ head_text p inside.number c.start_moment.result (checkpoint_in p head))
          c.plan.ensures
          ∙ ap (λ (b : Option ℕ). inside.lines.items ++ head_text engine.plan inside.number b (checkpoint_in engine.plan head))
          c.start_moment.ensures
          ∙ ap (λ (k : Checkpoint). inside.lines.items ++ head_text engine.plan inside.number engine.before k) same
          ∙ ap (λ (r : RecorderView). r.lines ++ head_text engine.plan r.number engine.before (checkpoint_of engine))
          c.self.view_is;
      entries = ap (λ (r : RecorderView). r.entries) c.self.view_is ∙ c.requires;
      number_is = ap (λ (r : RecorderView). r.number) c.self.view_is;
    }
