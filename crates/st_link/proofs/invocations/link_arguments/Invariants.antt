use Rattle.std.proofs.Common.{map, drop}
use Rattle.st_types.specs.Statements as trees
use Rattle.st_types.specs.StatementViews.{argument_view}
use Rattle.st_meaning.specs.NameTypes.{Declared}
use Rattle.symbols.specs.PlaceTypes.{place_type_view}
use Rattle.layout.specs.Shapes.{Parts}
use Rattle.slot_trees.specs.StatementViews.{slot_argument_view}
use Rattle.slot_trees.specs.SlotTrees.{SlotArgument}
use Rattle.slot_trees.specs.LinkedStatements.{linked_argument}
use Rattle.slot_trees.specs.Tables.{Table}
use Rattle.st_link.specs.BodyTables.{ServesBody}
use Rattle.st_link.specs.Instances.{HasMembers}
use Rattle.st_link.proofs.Sequences.{Turned}
use Rattle.st_link.proofs.invocations.link_arguments.Given as goal

abbrev pub invariant-loop-argument : goal.invariant-loop-argument
invariant-loop-argument l = (text : Declared) (t : Table) (ps : Parts) → ServesBody l.table text t
    → HasMembers text (place_type_view l.instance) ps
    → Turned trees.Argument SlotArgument (linked_argument t ps) (map argument_view l.arguments)
    (map slot_argument_view l.linked.items) (map argument_view (drop l.argument-index l.arguments))
