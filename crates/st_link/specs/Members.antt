-- Members by their names, as tables list them.
use Rattle.std.specs.Prelude.{ℕ, List, Option}
use Rattle.std.specs.Ordering.{nat_cmp}
use Rattle.std.specs.Cmp.Lexicographic.{slice_cmp}
use Rattle.std.specs.BTreeMap.{get_by}
use Rattle.st_link.specs.declared.members.Members.{Members}
use Rattle.st_link.specs.declared.members.MemberPlace.{MemberPlace}

abbrev pub member_found : Members → List ℕ → Option MemberPlace
member_found members x = get_by (λ k. slice_cmp nat_cmp x k.now) members.map
