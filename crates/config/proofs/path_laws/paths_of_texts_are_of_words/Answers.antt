use Rattle.config.proofs.PlainGrammar.{plain_text}
use Rattle.config.proofs.TextLines.{text_words}
use Rattle.config.proofs.path_laws.paths_of_texts_are_of_words.Goals as goal

pub returns : goal.returns
returns c text source h =
    text_words source (plain_text text source h) (c.slots_depend_on_no_literal.ensures source)
