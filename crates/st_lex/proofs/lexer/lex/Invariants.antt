use Rattle.std.proofs.Common.{◌≤◌, ◌-◌, ◌++◌, List, length, drop, ℕ}
use Rattle.st_lex.specs.declared.token.Token.{Token}
use Rattle.st_lex.specs.declared.fault.LexFault.{LexFault}
use Rattle.st_lex.specs.Texts.{Spells, HasFault}
use Rattle.st_lex.proofs.lexer.lex.Given as goal

-- whatever the rest spells completes the tokens, and a fault in it is one of the text
abbrev pub invariant-loop-tokens : goal.invariant-loop-tokens
invariant-loop-tokens l = record {
  within : l.at ≤ length l.text;
  spells : (tail : List Token) → Spells l.at (drop l.at l.text) tail → Spells 0 l.text (l.tokens.items ++ tail);
  breaks : (fault : LexFault) (place : ℕ) → HasFault l.at (drop l.at l.text) fault place
      → HasFault 0 l.text fault place;
}

abbrev pub decreases-loop-tokens : goal.decreases-loop-tokens
decreases-loop-tokens l = length l.text - l.at
