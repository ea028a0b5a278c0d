use Rattle.config.proofs.PlainGrammar.{plain_text}
use Rattle.config.proofs.path_laws.declarations_of_texts_are_plain.Goals as goal

pub returns : goal.returns
returns c = plain_text
