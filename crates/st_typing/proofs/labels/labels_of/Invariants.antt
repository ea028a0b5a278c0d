use Rattle.std.proofs.Common.{◌≡◌, ◌++◌, map, drop}
use Rattle.st_types.specs.Statements.{case_arms_of}
use Rattle.st_types.specs.StatementViews.{case_arm_view}
use Rattle.st_rules.specs.LabelRules.{labels_of}
use Rattle.st_typing.proofs.labels.labels_of.Given as goal

abbrev pub invariant-loop-arm : goal.invariant-loop-arm
invariant-loop-arm l =
    map (λ x. x.now) l.labels.items ++ labels_of (case_arms_of (map case_arm_view (drop l.arm-index l.arms)))
    ≡ labels_of (case_arms_of (map case_arm_view l.arms))
