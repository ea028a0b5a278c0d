use Rattle.st_typing.proofs.CallLemmas.{input_asked}
use Rattle.st_typing.proofs.calls.demand_of_input.Goals as goal

pub returns-in-Some : goal.returns-in-Some
returns-in-Some c =
    let look = c.in-Some.ensures.lookup in
    input_asked c.args.place c.args.inputs.now c.args.number c.in-Some.kind.now look.3.0 look.1
