use Rattle.std.proofs.Common.{inl, inr, refl, subst}
use Rattle.quick_trees.specs.Pieces.{IsNumber}
use Rattle.quick_checks.proofs.reading.made_constant.Goals as goal

pub returns-in-Some : goal.returns-in-Some
returns-in-Some c = λ now. inr (record {
  word = c.in-Some.constant.word;
  number = subst (λ e. IsNumber e c.in-Some.constant.kind c.in-Some.constant.word) c.requires
      c.in-Some.ensures.number;
  stands = c.in-Some.ensures.stands;
  next = c.in_ok-step.ensures;
})

pub returns : goal.returns
returns c = λ now. inl (record {
  from = c.in_ok-read.read.word;
  last = _;
  reads = (refl, c.in_ok-read.ensures now);
  stands = c.in_ok-expect.ensures.stands;
  next = c.in_ok-expect.ensures.next;
})
