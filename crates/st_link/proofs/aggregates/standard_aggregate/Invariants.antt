use Rattle.std.proofs.Common.{map, drop}
use Rattle.st_meaning.specs.NameTypes.{Declared}
use Rattle.st_link.specs.NamedMembers.{named_member_view}
use Rattle.st_link.specs.Shapes.{HasAllButLast}
use Rattle.st_link.proofs.StandardLemmas.{AreElementary}
use Rattle.st_link.proofs.aggregates.standard_aggregate.Given as goal

abbrev pub invariant-loop-member : goal.invariant-loop-member
invariant-loop-member l = record {
  left : AreElementary (map named_member_view (drop l.member-index l.member-items));
  grown : (text : Declared) → HasAllButLast text (map named_member_view l.member-items)
      (map named_member_view (drop l.member-index l.member-items)) l.whole;
}
