use Rattle.std.proofs.Common.{rules, ◌≡◌, ◌∷◌, [], sym, ap, ◌∙◌, map, true, false}
use Rattle.std.specs.Prelude.{option_map, is_none, bytes_eq}
use Rattle.std.proofs.lemmas.List.{map-append}
use Rattle.st_types.specs.UnitViews.{unit_view}
use Rattle.symbols.specs.Found.{found}
use Rattle.st_link.specs.Reaching.{worklist_view}
use Rattle.st_link.proofs.ReachingLemmas.{adds_same, adds_unit, found_after, was_found}
use Rattle.st_link.proofs.called_functions.Reached.add.Goals as goal

pub returns-in_ok-push : goal.returns-in_ok-push
returns-in_ok-push c text x same =
    let none : is_none c.get.result ≡ true = search rules in
    adds_unit text x (unit_view c.in-Some.unit.now) (worklist_view c.args.self.now)
    (worklist_view record { units = c.add.new.self; waiting = c.push.new.self })
    (sym same ∙ ap (option_map (λ u. unit_view u.now)) c.in-Some.is)
    (was_found _ c.get.result _ true c.get.ensures none)
    (λ y. found_after (found c.args.self.now.units y) (found c.add.new.self y)
    (bytes_eq y c.in-Some.unit.now.name.name) _ (c.in_ok-add.ensures.added y))
    (ap (map (λ u. unit_view u.now)) c.in_ok-push.ensures.items
    ∙ map-append (λ u. unit_view u.now) c.args.self.now.waiting.items (c.in-Some.unit ∷ []))

pub returns-else-is_none : goal.returns-else-is_none
returns-else-is_none c text x same =
    let some : is_none c.get.result ≡ false = search rules in
    adds_same text x (unit_view c.in-Some.unit.now) (worklist_view c.args.self.now)
    (sym same ∙ ap (option_map (λ u. unit_view u.now)) c.in-Some.is)
    (was_found _ c.get.result _ false c.get.ensures some)
