use Rattle.std.proofs.Common.{◌≡◌, length}
use Rattle.st_parse.specs.Places.{end_of}
use Rattle.st_parse.proofs.place.end_of.Given as goal

abbrev pub invariant-loop-tokens : goal.invariant-loop-tokens
invariant-loop-tokens l = end_of l.end l.tokens ≡ end_of 0 l.fn.tokens

abbrev pub decreases-loop-tokens : goal.decreases-loop-tokens
decreases-loop-tokens l = length l.tokens
