use Rattle.std.proofs.Common.{◌≡◌, ◌++◌, map, drop}
use Rattle.std.specs.List.{flat_map}
use Rattle.st_types.specs.StatementViews.{argument_view}
use Rattle.st_rules.specs.Roots.{targets_of_arguments}
use Rattle.st_check.specs.Roots.{root_view, roots_of_target}
use Rattle.st_check.proofs.roots.push_copies.Given as goal

abbrev pub invariant-loop-argument : goal.invariant-loop-argument
invariant-loop-argument l = map root_view l.roots.items
    ++ flat_map roots_of_target (targets_of_arguments (map argument_view (drop l.argument-index l.arguments)))
    ≡ map root_view l.initial.roots.items
    ++ flat_map roots_of_target (targets_of_arguments (map argument_view l.arguments))
