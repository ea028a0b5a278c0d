use Rattle.std.proofs.Common.{◌≡◌, ◌-◌}
use Rattle.st_lex.specs.declared.mark.Mark.TheVariants as m
use Rattle.st_parse.specs.Tokens.{is_mark}
use Rattle.st_parse.specs.Parsers.{loops, gather, several, after_comma}
use Rattle.st_parse.specs.StatementReading.{label_at}
use Rattle.st_parse.proofs.label.more_labels.Given as goal

abbrev pub invariant-loop-turn : goal.invariant-loop-turn
invariant-loop-turn l = several (is_mark m.Comma) (after_comma label_at) l.fn.found.items l.fn.tokens
    ≡ loops (is_mark m.Comma) (gather (after_comma label_at)) (l._turn-end - l._turn) l.found.items l.tokens
