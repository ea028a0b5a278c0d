use Rattle.std.proofs.Common.{◌≡◌, Some, None, slice_get, sym, ap, subst, refl, ◌∙◌}
use Rattle.std.specs.Prelude.{position}
use Rattle.st_types.specs.Paths.{same_path}
use Rattle.st_meaning.specs.Scopes.{seen}
use Rattle.plan.specs.declared.plan.Plan.{Plan}
use Rattle.plan.specs.declared.slots.SlotPlace.TheVariants.{Input, Variable}
use Rattle.plan.specs.SlotPlaces.{place_of}
use Rattle.core_engine.specs.Steps.{past_in, first_image, last_image, inputs_now}
use Rattle.core_engine.specs.Lived.{EngineView, InEachLife}
use Rattle.core_engine.proofs.Views.{left_of}
use Rattle.core_engine.proofs.ReadingLemmas.{input_told, is_placed, other_told, variable_told}
use Rattle.core_engine.proofs.engine.Engine.value.Goals as goal

pub returns-in-Some-Input : goal.returns-in-Some-Input
returns-in-Some-Input c =
    let plan = c.self.inside.plan.value in
    let path = c.args.path.now in
    let number = c.in-Some-Input.number in
    let at : Some (Input number) ≡ place_of plan.variables.items plan.inputs.items path =
    ap Some (sym c.in-Some-Input.field-0-is) ∙ sym c.in-Some-Input.is ∙ c.place.ensures
    ∙ ap (λ (p : Plan). place_of p.variables.items p.inputs.items path) c.deref.ensures in
    let placed = is_placed (position (λ i. same_path path i.path) plan.inputs.items)
    (position (λ v. same_path path v.path) plan.variables.items) (Some (Input number)) at in
    let held = subst (λ (e : EngineView). InEachLife e (λ life. Some c.input.result
    ≡ slice_get (last_image (first_image life.plan.inputs.items) (past_in life).rows) number)) (sym c.self.view_is)
    c.input.ensures in
    subst (λ (e : EngineView). InEachLife e
    (λ life. Some c.input.result ≡ seen (inputs_now life) (past_in life).store path)) c.self.view_is
    (λ start log is. input_told (left_of c.self.view_is) start log is c.self.invariant.newest_wide path number
    c.input.result placed (held start log is))

pub returns-in-Some-Variable : goal.returns-in-Some-Variable
returns-in-Some-Variable c =
    let plan = c.self.inside.plan.value in
    let path = c.args.path.now in
    let number = c.in-Some-Variable.number in
    let at : Some (Variable number) ≡ place_of plan.variables.items plan.inputs.items path =
    ap Some (sym c.in-Some-Variable.field-0-is) ∙ sym c.in-Some-Variable.is ∙ c.place.ensures
    ∙ ap (λ (p : Plan). place_of p.variables.items p.inputs.items path) c.deref.ensures in
    let placed = is_placed (position (λ i. same_path path i.path) plan.inputs.items)
    (position (λ v. same_path path v.path) plan.variables.items) (Some (Variable number)) at in
    let read = c.value_at.ensures ∙ ap (λ vs. slice_get vs number) c.deref-in-Some-Variable.ensures.value in
    subst (λ (e : EngineView). InEachLife e
    (λ life. c.value_at.result ≡ seen (inputs_now life) (past_in life).store path)) c.self.view_is
    (λ start log is. other_told (left_of c.self.view_is) start log is c.self.invariant.newest_wide path
    c.value_at.result placed.0
    (variable_told (left_of c.self.view_is) start log is c.self.invariant.newest_wide path (Some number)
    c.value_at.result (sym placed.1) read))

pub returns-in-None : goal.returns-in-None
returns-in-None c =
    let plan = c.self.inside.plan.value in
    let path = c.args.path.now in
    let at : None ≡ place_of plan.variables.items plan.inputs.items path =
    sym c.in-None.is ∙ c.place.ensures
    ∙ ap (λ (p : Plan). place_of p.variables.items p.inputs.items path) c.deref.ensures in
    let placed = is_placed (position (λ i. same_path path i.path) plan.inputs.items)
    (position (λ v. same_path path v.path) plan.variables.items) None at in
    subst (λ (e : EngineView). InEachLife e (λ life. None ≡ seen (inputs_now life) (past_in life).store path))
    c.self.view_is
    (λ start log is. other_told (left_of c.self.view_is) start log is c.self.invariant.newest_wide path None placed.0
    (variable_told (left_of c.self.view_is) start log is c.self.invariant.newest_wide path None None (sym placed.1)
    refl))
