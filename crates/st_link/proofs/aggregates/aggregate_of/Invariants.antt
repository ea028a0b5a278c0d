use Rattle.std.proofs.Common.{map, drop}
use Rattle.st_meaning.specs.NameTypes.{Declared}
use Rattle.layout.specs.Sizes.{ServesSizes}
use Rattle.st_link.specs.NamedMembers.{named_member_view}
use Rattle.st_link.specs.Shapes.{AreExpanded, HasAllButLast}
use Rattle.st_link.proofs.aggregates.aggregate_of.Given as goal

abbrev pub invariant-loop-member : goal.invariant-loop-member
invariant-loop-member l = record {
  serves : (text : Declared) → ServesSizes l.fn.sizes text → ServesSizes l.sizes text;
  grown : (text : Declared) → ServesSizes l.fn.sizes text → AreExpanded text (map named_member_view l.members)
      → HasAllButLast text (map named_member_view l.members) (map named_member_view (drop l.member-index l.members))
      l.whole;
}
