use Rattle.std.proofs.Common.{◌∙◌, ap, subst, sym}
use Rattle.retain_store.specs.declared.shape.TheConstants.{AREA_BYTES}
use Rattle.retain_store.specs.declared.area.Half.TheVariants.{First, Second}
use Rattle.retain_store.specs.declared.area.Gate.{Gate}
use Rattle.retain_store.specs.declared.surveying.Look.{Look}
use Rattle.retain_store.specs.Recovered.{Area, area, chosen}
use Rattle.retain_store.specs.Areas.{GateIs}
use Rattle.retain_store.specs.Surveys.{shown, LooksSound}
use Rattle.retain_store.proofs.AreaLemmas.{whole}
use Rattle.retain_store.proofs.Surveys.{first_area, second_area, gate_shows, shown_older, surveyed_closed, surveyed_one}
use Rattle.retain_store.proofs.surveying.survey.Goals as goal

pub returns-in-Neither-clause-surveyed : goal.returns-in-Neither-clause-surveyed
returns-in-Neither-clause-surveyed c =
    let first = first_area _ _ c.split_at.ensures.front c.requires ∙ c.look_at-first.ensures.shown
    ∙ ap (λ (l : Look). shown l c.look_at-first.new.into) c.in-Neither.ensures.0 in
    let second = second_area _ _ c.split_at.ensures.back c.requires ∙ c.look_at-second.ensures.shown
    ∙ ap (λ (l : Look). shown l c.look_at-second.new.into) c.in-Neither.ensures.1 in
    rw c.closed.ensures (surveyed_closed c.args.file.now c.requires first second)

pub returns-in-First-clause-surveyed : goal.returns-in-First-clause-surveyed
returns-in-First-clause-surveyed c =
    let first = first_area _ _ c.split_at.ensures.front c.requires ∙ c.look_at-first.ensures.shown
    ∙ ap (λ (l : Look). shown l c.look_at-first.new.into) c.in-First.ensures.0 in
    let second = second_area _ _ c.split_at.ensures.back c.requires ∙ c.look_at-second.ensures.shown in
    surveyed_one Second c.gate.result c.args.file.now c.requires c.in-First.generation c.look_at-first.new.into first
    (shown_older c.in-First.generation c.look_at-second.result c.look_at-second.new.into
    (area AREA_BYTES c.args.file.now) second c.in-First.ensures.1)
    (subst (λ (g : Gate). GateIs g AREA_BYTES c.args.file.now) (sym c.gate.ensures)
    (gate_shows AREA_BYTES c.args.file.now c.look_at-second.result c.look_at-second.new.into second))

pub returns-in-Second-clause-surveyed : goal.returns-in-Second-clause-surveyed
returns-in-Second-clause-surveyed c =
    let first = first_area _ _ c.split_at.ensures.front c.requires ∙ c.look_at-first.ensures.shown in
    let second = second_area _ _ c.split_at.ensures.back c.requires ∙ c.look_at-second.ensures.shown
    ∙ ap (λ (l : Look). shown l c.look_at-second.new.into) c.in-Second.ensures.0 in
    rw c.swap.ensures.x_after (surveyed_one First c.gate-in-Second.result c.args.file.now c.requires
    c.in-Second.generation c.look_at-second.new.into second
    (shown_older c.in-Second.generation c.look_at-first.result c.look_at-first.new.into (area 0 c.args.file.now) first
    c.in-Second.ensures.1)
    (subst (λ (g : Gate). GateIs g 0 c.args.file.now) (sym c.gate-in-Second.ensures)
    (gate_shows 0 c.args.file.now c.look_at-first.result c.look_at-first.new.into first)))

pub returns-in-Refused-clause-damaged : goal.returns-in-Refused-clause-damaged
returns-in-Refused-clause-damaged c =
    let first = first_area _ _ c.split_at.ensures.front c.requires ∙ c.look_at-first.ensures.shown in
    let second = second_area _ _ c.split_at.ensures.back c.requires ∙ c.look_at-second.ensures.shown in
    whole c.args.file.now c.requires
    ∙ ap (λ (a : Area). chosen a (area AREA_BYTES c.args.file.now)) first
    ∙ ap (λ (b : Area). chosen (shown c.look_at-first.result c.look_at-first.new.into) b) second
    ∙ c.in-Refused.ensures c.look_at-first.new.into c.look_at-second.new.into

pub returns-in-First-clause-sound : goal.returns-in-First-clause-sound
returns-in-First-clause-sound c = λ some.
    subst (λ (l : Look). LooksSound l c.look_at-first.new.into) c.in-First.ensures.0 c.look_at-first.ensures.sound

pub returns-in-Second-clause-sound : goal.returns-in-Second-clause-sound
returns-in-Second-clause-sound c = λ some. rw c.swap.ensures.x_after
    (subst (λ (l : Look). LooksSound l c.look_at-second.new.into) c.in-Second.ensures.0 c.look_at-second.ensures.sound)
