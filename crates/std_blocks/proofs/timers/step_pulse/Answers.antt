use Rattle.std.proofs.Common.{◌≡◌, ap, ◌∙◌, rules}
use mir.Syntax.{w128}
use mir.Val.{to_z, of_z}
use Rattle.std.specs.Prelude.{pos}
use Rattle.std.specs.Int.{int_max}
use Rattle.std.specs.Int.RustNames.{FitsSigned}
use Rattle.std.proofs.lemmas.Int.{ints, to_z-of_z}
use Rattle.st_types.specs.Values.{is_true}
use Rattle.st_meaning.specs.StandardBlocks.{pulse, timer_of}
use Rattle.std_blocks.specs.Timers.{timer_view}
use Rattle.std_blocks.proofs.BlockLemmas.{pulse_steps}
use Rattle.std_blocks.proofs.timers.step_pulse.Goals as goal

pub returns : goal.returns
returns c =
    let m = c.in_ok-input in
    let pt = c.preset_time.result in
    let fits : FitsSigned w128 pt = search (rules, ints) in
    let same = to_z-of_z w128 pt fits ∙ c.preset_time.ensures in
    let told : timer_view c.pulse-after.result ≡ pulse c.args.now (is_true m.input) (int_max (pos 0) m.preset.number)
    (timer_of m.q m.elapsed m.run' m.start) =
    c.pulse-after.ensures ∙ ap (λ b. pulse c.args.now b (to_z w128 (of_z w128 pt)) (timer_view
    c.timer_of-before.result)) c.is_true.ensures
    ∙ ap (λ z. pulse c.args.now (is_true m.input) z (timer_view c.timer_of-before.result)) same
    ∙ ap (pulse c.args.now (is_true m.input) (int_max (pos 0) m.preset.number)) c.timer_of-before.ensures in
    pulse_steps c.args.now c.args.at c.args.slots.now c.put_timer.new.slots m.input m.preset m.q m.elapsed m.run'
    m.start
    c.put_timer.result m.ensures.there (timer_view c.pulse-after.result) told c.put_timer.ensures
