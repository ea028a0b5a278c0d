use Rattle.std.proofs.Common.{◌≡◌, ◌≤◌, ◌∙◌, ap, length, drop, rules}
use Rattle.std.specs.Prelude.{reverse}
use Rattle.slot_machine.specs.contracts.stack.Stack.{the_view}
use Rattle.slot_machine.proofs.Tops.{turn_view, take_front}
use Rattle.slot_machine.proofs.stack.Stack.reverse_top.Goals as goal

pub returns-clause-some : goal.returns-clause-some
unfolding the_view
returns-clause-some c =
    let vs = c.deref_mut.result.now in
    let new = c.turn_from.new.values in
    let view : c.args.self.now ≡ reverse vs = cc in
    let long : c.len-2.result ≡ length vs = search rules in
    let le : c.args.n ≤ c.len-2.result = search rules in
    let kept : length new ≡ c.self.inside.values.len = search rules in
    ap reverse (take_front new (drop (length new) c.self.inside.values.items) c.self.inside.values.len kept)
    ∙ turn_view vs new c.args.self.now c.len-2.result c.args.n view long le c.turn_from.ensures
