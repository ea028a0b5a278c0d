use Rattle.std.proofs.Common.{arith, refl, ◌≡◌, Some, None}
use Rattle.std.proofs.lemmas.Grind.{common_steps}
use Rattle.std.proofs.lemmas.Map.Text.{btree_map_updates_str}
use Rattle.symbols.proofs.Entries.{one_added}
use Rattle.st_link.specs.Members.{member_found}
use Rattle.st_link.proofs.members.Members.add.Goals as goal

pub returns-in_ok-insert : goal.returns-in_ok-insert
returns-in_ok-insert c q =
    let u = btree_map_updates_str c.args.name.now c.args.self.now.map c.insert.new.self
    (Some c.args.place) c.in_ok-insert.ensures.updates q in
    let absent : member_found c.args.self.now c.args.name.now ≡ None = grind (arith, common_steps) in
    one_added q c.args.name.now c.args.name.now (member_found c.args.self.now)
    (member_found (record { map = c.insert.new.self }) q) c.args.place refl absent u
