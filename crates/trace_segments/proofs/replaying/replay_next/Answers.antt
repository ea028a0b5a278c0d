use Rattle.std.proofs.Common.{◌≡◌, ◌∙◌, ◌+◌, ◌++◌, ℕ, List, ap, refl, inl, inr}
use Rattle.st_types.proofs.OptionLemmas.{ok_weaker}
use Rattle.trace_segments.proofs.RunLemmas.{segment_ended}
use Rattle.trace_segments.proofs.replaying.replay_next.Goals as goal

pub returns-in-Some-clause-next : goal.returns-in-Some-clause-next
returns-in-Some-clause-next g c =
    let spelled = c.in-Some.ensures.0
    ∙ ap (λ (t : List ℕ). t ++ c.in-Some.entries.now) (c.deref.ensures.value ∙ c.in_ok-head.ensures.head) in
    ok_weaker c.replay_entries.result _ _ (λ ended is. (
      is.2.before,
      inl (
        is.1,
        segment_ended c.args.before.position (c.args.before.number + 1) c.args.before.position.plan c.args.text.now
            c.in-Some.entries.now is.1 ended refl c.in_ok-head.ensures.resting spelled is.2 is.0,
      ),
    )) c.replay_entries.ensures
