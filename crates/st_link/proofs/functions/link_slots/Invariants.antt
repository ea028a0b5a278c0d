use Rattle.std.proofs.Common.{ℕ, map, drop}
use Rattle.st_meaning.specs.NameTypes.{Declared}
use Rattle.st_meaning.specs.Scopes.{Name}
use Rattle.slot_trees.specs.Tables.{Table}
use Rattle.slot_trees.specs.TextLinks.{call_slot}
use Rattle.st_link.specs.BodyTables.{ServesBody}
use Rattle.st_link.proofs.Sequences.{Turned}
use Rattle.st_link.proofs.functions.link_slots.Given as goal

abbrev pub invariant-loop-name : goal.invariant-loop-name
invariant-loop-name l = (text : Declared) (t : Table) → ServesBody l.table text t
    → Turned Name ℕ (call_slot t.symbols) (map (λ x. x.now.name) l.names) (map (λ n. n) l.slots.items)
    (map (λ x. x.now.name) (drop l.name-index l.names))
