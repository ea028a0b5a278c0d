use Rattle.config.proofs.Names.{program_within, function_within, block_within}
use Rattle.config.proofs.linked_bodies.names_lie_among_values.Goals as goal

pub returns : goal.returns
returns c = record {
  programs = λ text vs p xs site room bounded. program_within text vs site room bounded p xs;
  blocks = λ text vs ps externals xs site room bounded instance members.
      block_within text vs ps externals site room bounded instance members xs;
  functions = λ text ds xs site base room bounded. function_within text ds site base room bounded xs;
}
