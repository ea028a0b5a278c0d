use Rattle.std.proofs.Common.{◌≡◌, ◌∙◌, ◌+◌, ◌-◌, ◌^◌, ℕ, [], refl, subst}
use Rattle.disk.specs.Medium.{MayLeave}
use Rattle.durable_core.specs.Endless.{core_in, first_core}
use Rattle.commit_lock.specs.Driving.{saves}
use Rattle.commit_lock.proofs.CauseLemmas.{drives_used_up}
use Rattle.commit_lock.proofs.LifeLemmas.{lived_is, all_well}
use Rattle.commit_lock.proofs.living_endless.live_on.Goals as goal
use Rattle.st_types.proofs.OptionLemmas.{none_or_some}

pub returns-clause-lived : goal.returns-clause-lived
returns-clause-lived c =
    let values = c.args.core.engine.values in
    let (longer, (held, calls), after) = c.in_ok-replies.ensures.drives values [] c.requires.life in
    let file = c.left.result.items in
    lived_is (first_core c.args.core) (core_in c.drive_endless.new.core values longer) held c.args.events.items _ file
    c.requires.fresh c.requires.unfailed refl
    (c.in_ok-values.ensures.items ∙ c.values.ensures values [] c.requires.life) calls
    (c.entries.ensures.number values longer after) c.acked.ensures.acked after.lived.kept.legal
    (c.stop.ensures.survives tt file c.left.ensures.may_be_left values longer after)

pub returns-clause-well : goal.returns-clause-well
returns-clause-well c = λ reliable.
    let core = c.args.core in
    let values = core.engine.values in
    let (longer, (held, calls), after) = c.in_ok-replies.ensures.drives values [] c.requires.life in
    let well = c.in_ok-replies.ensures.serves
    (reliable, λ cause failed. absurd (none_or_some core.failed cause c.requires.unfailed failed)) in
    all_well core.store.generation c.in_ok-replies.replies.items well.1
    (λ front rest is. subst (λ (n : ℕ). core.store.generation + saves n front ≡ 2 ^ 64 - 1) c.requires.fresh
    (drives_used_up (λ disk. disk.failures) (Unit {0}) (λ old disk. MayLeave disk.medium)
    (λ disk. MayLeave disk.medium) core.store.generation (first_core core) (core_in c.drive_endless.new.core values longer)
    [] held c.args.events.items c.in_ok-replies.replies.items front rest
    (record {
      works = λ none. refl;
      used_up = λ up. absurd (none_or_some core.failed _ c.requires.unfailed up);
    }) calls is))
