use Rattle.std.proofs.Common.{arith, rules}
use Rattle.quick_checks.proofs.reached.read_reached.Goals as goal

pub returns : goal.returns
returns c = λ now. record {
  each = λ o leads. (c.if-not-are_reached.ensures (search rules) now o o leads (omega arith)).of_type;
  words = λ o leads. (c.if-not-are_reached.ensures (search rules) now o o leads (omega arith)).own;
  exact = λ o leads. (c.if-not-are_reached.ensures (search rules) now o o leads (omega arith)).exact;
}
