use Rattle.std.proofs.Common.{◌≡◌, ◌++◌, map, drop}
use Rattle.st_rules.specs.Containment.{calls_in_conditions}
use Rattle.st_types.specs.StatementViews.{arm_view}
use Rattle.st_types.specs.Statements.{arms_of}
use Rattle.st_decl.proofs.calls.push_conditions.Given as goal

abbrev pub invariant-loop-arm : goal.invariant-loop-arm
invariant-loop-arm l = map (λ x. x.now.name) l.calls.items
    ++ calls_in_conditions (arms_of (map arm_view (drop l.arm-index l.arms)))
    ≡ map (λ x. x.now.name) l.initial.calls.items ++ calls_in_conditions (arms_of (map arm_view l.arms))
