use Rattle.std.proofs.Common.{rules, ◌≡◌, ◌∙◌, ap, map, sym, Some, None}
use Rattle.std.specs.Prelude.{slice_get}
use Rattle.std.specs.Vec.{vec_items}
use Rattle.layout.specs.Indexed.{slot_number}
use Rattle.plan.proofs.PlaceLemmas.{laid_place}
use Rattle.plan.proofs.plan.Plan.place.Goals as goal

pub returns-in-Some : goal.returns-in-Some
returns-in-Some c =
    let plan = c.args.self.now in
    let at : Some c.in-Some.number ≡ slot_number plan.layout.slots c.args.path.now = search rules in
    let got : c.place_numbered.result ≡ slice_get plan.slots.items c.in-Some.number = search rules in
    got
    ∙ laid_place (map vec_items plan.enumerations.items) plan.variables.items plan.inputs.items plan.slots.items
    plan.layout plan.laid_out plan.sound.layout c.args.path.now (Some c.in-Some.number) at

pub returns-in-None : goal.returns-in-None
returns-in-None c =
    let plan = c.args.self.now in
    let at : None ≡ slot_number plan.layout.slots c.args.path.now = search rules in
    laid_place (map vec_items plan.enumerations.items) plan.variables.items plan.inputs.items plan.slots.items
    plan.layout plan.laid_out plan.sound.layout c.args.path.now None at
