use Rattle.std.proofs.Common.{◌≡◌, ◌++◌, map, drop}
use Rattle.st_link.specs.NamedMembers.{named_member_view, named_parts}
use Rattle.st_link.proofs.named_members.named_parts.Given as goal

abbrev pub invariant-loop-part : goal.invariant-loop-part
invariant-loop-part l =
    map named_member_view l.members.items ++ named_parts (drop l.part-index l.parts) ≡ named_parts l.parts
