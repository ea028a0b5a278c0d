use Rattle.layout.proofs.LibraryLemmas.{instance_made}
use Rattle.layout.proofs.libraries.instances_have_the_members_of_their_blocks.Goals as goal

pub returns : goal.returns
returns c = instance_made
