use Rattle.layout.proofs.LibraryLemmas.{function_starts}
use Rattle.layout.proofs.libraries.functions_start_with_a_store.Goals as goal

pub returns : goal.returns
returns c = function_starts
