use Rattle.std.proofs.Common.{rules, ◌≡◌, ◌∷◌, ◌∙◌, ap, map, subst, sym, true}
use Rattle.st_types.specs.UnitViews.{unit_view}
use Rattle.st_link.specs.CalledFunctions.{if_room}
use Rattle.st_link.specs.FirstSlots.{slots_taken}
use Rattle.st_link.specs.LinkVariables.{are_whole, result_of, variable_view, variables_of_blocks}
use Rattle.st_link.proofs.ValueLemmas.{room_cut}
use Rattle.st_link.proofs.called_functions.values_of_call.Goals as goal

pub returns-clause-values : goal.returns-clause-values
returns-clause-values c text s whole =
    let u = unit_view c.args.unit.now in
    let vs = result_of u.name.name c.args.returned.now ∷ variables_of_blocks u.blocks in
    let is : map variable_view c.deref-2.result.now ≡ vs = search rules in
    c.if_room.ensures
    ∙ room_cut c.in_ok-slots.slots (slots_taken text (map variable_view c.deref-2.result.now))
    (c.in_ok-slots.ensures.slots text s (ap (are_whole text) is ∙ whole))
    ∙ ap (λ ws. if_room (slots_taken text ws)) is
