use Rattle.std.proofs.Common.{◌≡◌, ◌+◌, length}
use Rattle.st_lex.specs.Comments.{before}
use Rattle.st_lex.proofs.comment.before.Given as goal

abbrev pub invariant-loop-rest : goal.invariant-loop-rest
invariant-loop-rest l = record {
  place : l.at + length l.rest ≡ length l.text;
  told : l.at + before l.first l.second l.rest ≡ before l.first l.second l.text;
}

abbrev pub decreases-loop-rest : goal.decreases-loop-rest
decreases-loop-rest l = length l.rest
