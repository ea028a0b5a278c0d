-- Members of standard blocks, as the definitions see them.
use Rattle.st_meaning.specs.StandardBlocks.{BlockMember}
use Rattle.layout.specs.declared.standard_members.StandardMember.{StandardMember}

abbrev pub standard_member_view : StandardMember → BlockMember
standard_member_view m = (m.name.now, m.kind)
