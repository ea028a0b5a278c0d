use Rattle.std.proofs.Common.{◌≡◌, ◌∙◌, [], sym, subst, arith}
use Rattle.std.proofs.lemmas.List.{get_or_default}
use Rattle.st_meaning.specs.Logs.{row_at}
use Rattle.core_engine.specs.Steps.{past_in, waits_in}
use Rattle.core_engine.specs.Lived.{EngineView, InEachLife}
use Rattle.core_engine.proofs.Views.{left_of}
use Rattle.core_engine.proofs.DoneLemmas.{held_there}
use Rattle.core_engine.proofs.engine.Engine.row_for.Goals as goal

pub index-requires : goal.index-requires
index-requires c =
    let waits = subst (λ (e : EngineView). InEachLife e (λ life. waits_in life c.args.activation)) (sym c.self.view_is)
    c.requires.waits in
    let (start, log, is) = c.self.invariant.live in
    omega (
      arith,
      held_there (left_of c.self.view_is) start log is c.self.invariant.places c.args.activation (waits start log is),
      c.self.inside.held.ok.0,
    )

pub returns : goal.returns
returns c =
    let waits = subst (λ (e : EngineView). InEachLife e (λ life. waits_in life c.args.activation)) (sym c.self.view_is)
    c.requires.waits in
    subst (λ (e : EngineView). InEachLife e
    (λ life. c.index.result.now ≡ row_at (past_in life).rows c.args.activation.row)) c.self.view_is
    (λ start log is.
    let there = held_there (left_of c.self.view_is) start log is c.self.invariant.places c.args.activation
    (waits start log is) in
    c.index.ensures ∙ get_or_default c.self.inside.held.items c.args.activation.program _
    record { moment = 0; image = [] } there ∙ is.held c.args.activation (waits start log is))
