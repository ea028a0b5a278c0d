use Rattle.st_typing.proofs.readings.typing_of_literal.Goals as goal

pub returns-in-Number : goal.returns-in-Number
returns-in-Number c env serves = let is = c.in-Number.is in rw is (c.typing_of_number.ensures env)
