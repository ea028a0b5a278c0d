use Rattle.std.proofs.Common.{ap, ◌∙◌, map}
use Rattle.st_types.specs.UnitViews.{unit_view}
use Rattle.slot_trees.specs.Tables.{named_in}
use Rattle.slot_trees.specs.TextNumbers.{block_names, function_names, numbered_from}
use Rattle.st_link.proofs.numbers.numbers_in.Goals as goal

pub returns-clause-functions : goal.returns-clause-functions
returns-clause-functions c x =
    c.in_ok-functions.ensures x
    ∙ ap (λ xs. named_in (numbered_from 0 (map (λ y. y.now) xs)) x) c.deref-2.ensures.value
    ∙ ap (λ xs. named_in (numbered_from 0 xs) x)
    (c.in_ok-function_names.ensures
    ∙ ap (λ us. function_names (map (λ u. unit_view u.now) us)) c.deref.ensures.value
    ∙ ap function_names c.in_ok-units.ensures)

pub returns-clause-blocks : goal.returns-clause-blocks
returns-clause-blocks c x =
    c.in_ok-blocks.ensures x
    ∙ ap (λ xs. named_in (numbered_from 0 (map (λ y. y.now) xs)) x) c.deref-4.ensures.value
    ∙ ap (λ xs. named_in (numbered_from 0 xs) x)
    (c.in_ok-block_names.ensures
    ∙ ap (λ us. block_names (map (λ u. unit_view u.now) us)) c.deref-3.ensures.value
    ∙ ap block_names c.in_ok-units.ensures)
