use Rattle.std.proofs.Common.{arith, ◌≡◌, Some, None}
use Rattle.std.proofs.lemmas.Grind.{common_steps}
use Rattle.std.proofs.lemmas.Map.Text.{btree_map_updates_str}
use Rattle.symbols.specs.Found.{found}
use Rattle.symbols.proofs.Entries.{one_added}
use Rattle.symbols.proofs.index.Index.add.Goals as goal

pub returns-in_ok-insert-clause-added : goal.returns-in_ok-insert-clause-added
returns-in_ok-insert-clause-added g c q =
    let u = btree_map_updates_str c.as_slice.result.now c.args.self.now.map c.insert.new.self
    (Some c.args.value) c.in_ok-insert.ensures.updates q in
    let absent : found c.args.self.now c.args.name.now ≡ None = grind (arith, common_steps) in
    one_added q c.args.name.now c.as_slice.result.now (found c.args.self.now)
    (found (record { map = c.insert.new.self }) q) c.args.value c.as_slice.ensures absent u
