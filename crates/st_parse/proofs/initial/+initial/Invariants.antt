use Rattle.std.proofs.Common.{◌≡◌, ◌+◌, ◌-◌, ◌*◌, map}
use Rattle.st_lex.specs.declared.mark.Mark.TheVariants as m
use Rattle.st_types.specs.InitialViews.{element_view, member_view}
use Rattle.st_parse.specs.Tokens.{is_mark}
use Rattle.st_parse.specs.Parsers.{loops, gather, several, after_comma}
use Rattle.st_parse.specs.InitialReading.{initial_at, element_at, member_at}
use Rattle.st_parse.proofs.initial.+initial.Given as goal

abbrev pub decreases-initial : goal.decreases-initial
decreases-initial l = 12 * l.depth

abbrev pub decreases-list : goal.decreases-list
decreases-list l = 12 * l.below + 11

abbrev pub decreases-structure : goal.decreases-structure
decreases-structure l = 12 * l.below + 11

abbrev pub decreases-more_elements : goal.decreases-more_elements
decreases-more_elements l = 12 * l.depth + 10

abbrev pub decreases-next_element : goal.decreases-next_element
decreases-next_element l = 12 * l.depth + 9

abbrev pub decreases-element : goal.decreases-element
decreases-element l = 12 * l.depth + 8

abbrev pub decreases-counted : goal.decreases-counted
decreases-counted l = 12 * l.depth + 7

abbrev pub decreases-repetition_of : goal.decreases-repetition_of
decreases-repetition_of l = 12 * l.depth + 6

abbrev pub decreases-more_members : goal.decreases-more_members
decreases-more_members l = 12 * l.depth + 10

abbrev pub decreases-next_member : goal.decreases-next_member
decreases-next_member l = 12 * l.depth + 9

abbrev pub decreases-member : goal.decreases-member
decreases-member l = 12 * l.depth + 8

abbrev pub invariant-more_elements-loop-turn : goal.invariant-more_elements-loop-turn
invariant-more_elements-loop-turn l = several (is_mark m.Comma) (after_comma (element_at (initial_at l.depth) l.depth))
    (map element_view l.fn.found.items) l.fn.tokens
    ≡ loops (is_mark m.Comma) (gather (after_comma (element_at (initial_at l.depth) l.depth))) (l._turn-end - l._turn)
    (map element_view l.found.items) l.tokens

abbrev pub invariant-more_members-loop-turn : goal.invariant-more_members-loop-turn
invariant-more_members-loop-turn l =
    several (is_mark m.Comma) (after_comma (member_at (initial_at l.depth))) (map member_view l.fn.found.items)
    l.fn.tokens ≡ loops (is_mark m.Comma) (gather (after_comma (member_at (initial_at l.depth))))
    (l._turn-end - l._turn) (map member_view l.found.items) l.tokens
