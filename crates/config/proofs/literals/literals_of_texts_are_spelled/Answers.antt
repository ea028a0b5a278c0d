use Rattle.config.proofs.SpelledGrammar.{units_spelled}
use Rattle.config.proofs.SpelledArrays.{arrays_spelled}
use Rattle.config.proofs.literals.literals_of_texts_are_spelled.Goals as goal

pub returns : goal.returns
returns c = λ text source h. record {
  units = units_spelled text source h;
  arrays = arrays_spelled source (c.declarations_of_texts_are_plain.ensures text source h);
}
