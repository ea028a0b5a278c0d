use Rattle.std.proofs.Common.{rules, ◌≡◌, ◌∙◌, ap, false, map, sym}
use Rattle.std.specs.Prelude.{is_some}
use Rattle.std.specs.List.{list_any}
use Rattle.st_types.specs.UnitViews.{unit_view}
use Rattle.st_rules.specs.Containment.{is_function_sort}
use Rattle.layout.specs.Instances.{instance_view}
use Rattle.st_link.specs.CalledFunctions.{programs_among}
use Rattle.st_link.proofs.ReachingLemmas.{no_functions}
use Rattle.st_link.proofs.called_functions.called_from.Goals as goal

pub returns : goal.returns
returns c text serves units =
    let none : list_any (λ u. is_function_sort u.sort) (map (λ u. unit_view u.now) c.args.units.now) ≡ false =
    search rules in
    no_functions text (programs_among (map instance_view c.args.instances.now)) _ (λ x. ap is_some (c.new.ensures x))
    (sym (ap (list_any (λ u. is_function_sort u.sort)) units) ∙ none)
