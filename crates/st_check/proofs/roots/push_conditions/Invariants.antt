use Rattle.std.proofs.Common.{◌≡◌, ◌++◌, map, drop}
use Rattle.st_types.specs.Statements.{arms_of}
use Rattle.st_types.specs.StatementViews.{arm_view}
use Rattle.st_rules.specs.Roots.{conditions_of}
use Rattle.st_check.specs.Roots.{root_view}
use Rattle.st_check.proofs.roots.push_conditions.Given as goal

abbrev pub invariant-loop-arm : goal.invariant-loop-arm
invariant-loop-arm l = map root_view l.roots.items
    ++ conditions_of (arms_of (map arm_view (drop l.arm-index l.arms)))
    ≡ map root_view l.initial.roots.items ++ conditions_of (arms_of (map arm_view l.arms))
