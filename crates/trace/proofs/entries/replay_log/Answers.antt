use Rattle.std.proofs.Common.{◌≡◌, ◌∙◌, ap, sym, subst, refl, true, false, length, List, [], ◌∷◌, ◌++◌}
use Rattle.serial_core.specs.Steps.{State, grown}
use Rattle.trace.specs.Texts.{end_line}
use Rattle.trace.specs.Watching.{HasSeen, stages}
use Rattle.trace.proofs.RestLemmas.{IsFar, far_begun, far_end, far_more, far_no_end, far_refused}
use Rattle.trace.proofs.WatchLemmas.{life_more, seen_more, told}
use Rattle.trace.proofs.entries.replay_log.Goals as goal

pub lines-init : goal.lines-init
lines-init g c = record {
  far = far_begun c.args.core.now c.args.rows.now c.args.text.now c.requires.empty;
  before = [];
  stages = ap (stages grown c.args.core.now) (sym c.requires.empty);
  seen = refl;
}

pub lines-preserved : goal.lines-preserved
lines-preserved g c =
    let goes = (rw c.in-Ok-Some.field-0-is at c.in-Ok-Some.ensures).goes in
    let before = c.lines.invariant.before in record {
      far = far_more c.args.core.now c.lines.core c.replay_entry.new.core c.args.rows.now c.args.text.now
          c.lines.rest.now c.in-Ok-Some.behind.now c.lines.invariant.far goes;
      before = before ++ c.lines.core ∷ [];
      stages = life_more c.args.core.now c.lines.core c.replay_entry.new.core goes.entry before goes.grown_by
          c.lines.invariant.stages;
      seen = seen_more g.W.Watcher.sees c.args.watcher.now c.lines.watcher c.seen.new.self before c.lines.core
          c.lines.invariant.seen (told _ c.seen.result (sym c.is_err.ensures.value ∙ c.if-is_err.false) c.seen.ensures);
    }

pub returns-then-is_end-clause-told : goal.returns-then-is_end-clause-told
returns-then-is_end-clause-told g c =
    let goes = (rw c.in-Ok-None.field-0-is at c.in-Ok-None.ensures).goes in
    let far = subst (λ (s : State). IsFar c.args.core.now s c.args.rows.now c.args.text.now c.lines.rest.now)
    (sym goes.0) c.lines.invariant.far in
    far_end c.args.core.now c.replay_entry.new.core c.args.rows.now c.args.text.now c.lines.rest.now c.requires.empty
    c.requires.room c.is_end.ensures.room c.is_end.ensures.legal far (c.is_end.ensures.end.0 c.if-is_end.true)

pub returns-then-is_end-clause-watched : goal.returns-then-is_end-clause-watched
returns-then-is_end-clause-watched g c =
    let goes = (rw c.in-Ok-None.field-0-is at c.in-Ok-None.ensures).goes in
    subst (λ (ls : List State). HasSeen g.W.Watcher.sees c.args.watcher.now ls c.seen.new.self)
    (c.lines.invariant.stages ∙ ap (λ (s : State). stages grown c.args.core.now s.log) (sym goes.0))
    (seen_more g.W.Watcher.sees c.args.watcher.now c.lines.watcher c.seen.new.self c.lines.invariant.before c.lines.core
    c.lines.invariant.seen (told _ c.seen.result (sym c.is_err.ensures.value ∙ c.if-is_err.false) c.seen.ensures))

pub returns-else-is_end-clause-refused : goal.returns-else-is_end-clause-refused
returns-else-is_end-clause-refused g c = λ other.
    let goes = (rw c.in-Ok-None.field-0-is at c.in-Ok-None.ensures).goes in
    far_no_end c.args.core.now c.lines.core c.args.rows.now c.args.text.now c.lines.rest.now c.lines.invariant.far
    goes.1 (λ is. let yes : c.is_end.result ≡ true = c.is_end.ensures.end.1
    (is ∙ ap (λ (s : State). end_line (length s.log)) (sym goes.0)) in
    let bad : false ≡ true = sym c.if-is_end.false ∙ yes in absurd (cc))

pub returns-in-Err-clause-refused : goal.returns-in-Err-clause-refused
returns-in-Err-clause-refused g c = λ other.
    far_refused c.args.core.now c.lines.core c.args.rows.now c.args.text.now c.lines.rest.now c.lines.invariant.far
    (c.in-Err.ensures.refused other)
