use Rattle.std.proofs.Common.{◌≡◌, ◌∙◌, ◌+◌, ◌-◌, ◌^◌, ℕ, [], refl, subst}
use Rattle.disk.specs.Medium.{MayLeave}
use Rattle.commit_lock.specs.Driving.{saves}
use Rattle.commit_lock.proofs.CauseLemmas.{drives_used_up}
use Rattle.commit_lock.proofs.LifeLemmas.{lived_is, all_well}
use Rattle.commit_lock.proofs.living.live_on.Goals as goal
use Rattle.st_types.proofs.OptionLemmas.{none_or_some}

pub returns-clause-lived : goal.returns-clause-lived
returns-clause-lived c =
    let (held, calls) = c.in_ok-replies.ensures.drives in
    lived_is c.args.core c.drive.new.core held c.args.events.items _ c.left.result.items c.requires.fresh
    c.requires.unfailed c.requires.new.empty (c.in_ok-values.ensures.items ∙ c.start_values.ensures.values) calls
    c.len.ensures.len c.acked.ensures.acked c.len.ensures.legal
    (c.stop.ensures.survives tt c.left.result.items c.left.ensures.may_be_left)

pub returns-clause-well : goal.returns-clause-well
returns-clause-well c = λ reliable.
    let core = c.args.core in
    let (held, calls) = c.in_ok-replies.ensures.drives in
    let well = c.in_ok-replies.ensures.serves
    (reliable, λ cause failed. absurd (none_or_some core.failed cause c.requires.unfailed failed)) in
    all_well core.store.generation c.in_ok-replies.replies.items well.1
    (λ front rest is. subst (λ (n : ℕ). core.store.generation + saves n front ≡ 2 ^ 64 - 1) c.requires.fresh
    (drives_used_up (λ disk. disk.failures) (Unit {0}) (λ old disk. MayLeave disk.medium)
    (λ disk. MayLeave disk.medium) core.store.generation core c.drive.new.core [] held c.args.events.items
    c.in_ok-replies.replies.items front rest
    (record {
      works = λ none. refl;
      used_up = λ up. absurd (none_or_some core.failed _ c.requires.unfailed up);
    }) calls is))
