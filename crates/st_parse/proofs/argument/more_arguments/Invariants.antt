use Rattle.std.proofs.Common.{◌≡◌, ◌-◌, map}
use Rattle.st_lex.specs.declared.mark.Mark.TheVariants as m
use Rattle.st_types.specs.StatementViews.{argument_view}
use Rattle.st_parse.specs.Tokens.{is_mark}
use Rattle.st_parse.specs.Parsers.{loops, gather, several, after_comma}
use Rattle.st_parse.specs.StatementReading.{argument_at}
use Rattle.st_parse.proofs.argument.more_arguments.Given as goal

abbrev pub invariant-loop-turn : goal.invariant-loop-turn
invariant-loop-turn l = several (is_mark m.Comma) (after_comma (argument_at l.below))
    (map argument_view l.fn.found.items) l.fn.tokens ≡ loops (is_mark m.Comma)
    (gather (after_comma (argument_at l.below))) (l._turn-end - l._turn) (map argument_view l.found.items) l.tokens
