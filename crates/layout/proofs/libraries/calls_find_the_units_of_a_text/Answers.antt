use Rattle.layout.proofs.LibraryLemmas.{function_found, block_found}
use Rattle.layout.proofs.libraries.calls_find_the_units_of_a_text.Goals as goal

pub returns-clause-functions : goal.returns-clause-functions
returns-clause-functions c = function_found

pub returns-clause-blocks : goal.returns-clause-blocks
returns-clause-blocks c = block_found
