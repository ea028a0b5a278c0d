use Rattle.st_link.proofs.GrammarFunctions.{functions_clean}
use Rattle.st_link.proofs.homes.functions_of_the_grammar_have_no_externals.Goals as goal

pub returns : goal.returns
returns c tokens source parsed f u t is sort = functions_clean source f u t parsed is sort
