use Rattle.slot_trees.proofs.ProgramLinks.{source_link}
use Rattle.slot_trees.proofs.laws.linked_texts_have_their_programs.Goals as goal

pub returns : goal.returns
returns c = source_link
