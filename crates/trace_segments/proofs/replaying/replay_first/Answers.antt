use Rattle.std.proofs.Common.{◌≡◌, ◌∙◌, ◌++◌, ap, sym, refl}
use Rattle.st_types.proofs.OptionLemmas.{ok_weaker}
use Rattle.trace_segments.specs.Positions.{checkpoint_at}
use Rattle.trace_segments.specs.Segments.{head_text}
use Rattle.trace_segments.proofs.RunLemmas.{segment_ended}
use Rattle.trace_segments.proofs.replaying.replay_first.Goals as goal

pub returns : goal.returns
returns g c =
    let first = c.in_ok-number.position in
    let entries = c.in_ok-number.entries.now in
    ok_weaker c.replay_entries.result _ _ (λ ended is. (
      checkpoint_at first,
      is.1,
      segment_ended first ended.number c.args.plan.value c.args.text.now entries is.1 ended c.in_ok-number.ensures.plan
          c.in_ok-number.ensures.resting
          (c.in_ok-number.ensures.head
          ∙ ap (λ n. head_text c.args.plan.value n first.before (checkpoint_at first) ++ entries) (sym is.0))
          is.2 refl,
      λ zero. c.in_ok-number.ensures.first (sym is.0 ∙ zero),
    )) c.replay_entries.ensures
