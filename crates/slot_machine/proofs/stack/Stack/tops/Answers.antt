use Rattle.std.proofs.Common.{◌≡◌, ◌≤◌, length, rules}
use Rattle.std.specs.Prelude.{reverse}
use Rattle.slot_machine.proofs.Tops.{tops_view}
use Rattle.slot_machine.proofs.stack.Stack.tops.Goals as goal

pub returns-clause-some : goal.returns-clause-some
returns-clause-some c =
    let vs = c.deref.result.now in
    let view : c.args.self.now ≡ reverse vs = cc in
    let long : c.len-2.result ≡ length vs = search rules in
    let le : c.args.n ≤ c.len-2.result = search rules in
    tops_view vs c.args.self.now c.len-2.result c.args.n view long le
