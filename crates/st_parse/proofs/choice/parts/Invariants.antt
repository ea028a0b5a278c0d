use Rattle.std.proofs.Common.{◌≡◌, ◌-◌}
use Rattle.st_parse.specs.Parsers.{loops, turns}
use Rattle.st_parse.specs.ArmsView.{arms_view}
use Rattle.st_parse.specs.StatementReading.{line_at, part_at, starts_part}
use Rattle.st_parse.proofs.choice.parts.Given as goal

abbrev pub invariant-loop-turn : goal.invariant-loop-turn
invariant-loop-turn g l = turns starts_part (part_at l.fn.below (line_at l.fn.below)) (arms_view l.fn.arms) l.fn.tokens
    ≡ loops starts_part (part_at l.fn.below (line_at l.fn.below)) (l._turn-end - l._turn) (arms_view l.arms) l.tokens
