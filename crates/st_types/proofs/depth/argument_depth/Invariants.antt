use Rattle.std.proofs.Common.{◌≡◌, ◌≤◌, map, drop, max, min, ◌-◌, ◌^◌}
use Rattle.st_types.specs.StatementViews.{argument_view}
use Rattle.st_types.specs.Depths.{deepest_argument}
use Rattle.st_types.proofs.depth.argument_depth.Given as goal

-- the greatest depth of all is the greater one of the parts seen and the parts left
abbrev pub invariant-loop-argument : goal.invariant-loop-argument
invariant-loop-argument l =
    (l.depth ≤ 2 ^ 64 - 1) × (min (deepest_argument (map argument_view l.arguments)) (2 ^ 64 - 1)
    ≡ min (max l.depth (deepest_argument (map argument_view (drop l.argument-index l.arguments)))) (2 ^ 64 - 1))
