use Rattle.std.proofs.Common.{rules, ◌≡◌, ◌≤◌, ap, sym, ◌∙◌, map}
use Rattle.st_types.specs.declared.limits.TheConstants.{MAX_PATHS}
use Rattle.st_types.specs.Statements.{stmts_of}
use Rattle.st_types.specs.StatementViews.{stmt_view}
use Rattle.st_types.specs.UnitViews.{unit_view}
use Rattle.layout.specs.Libraries.{body_of_unit}
use Rattle.layout.specs.Sizes.{capped_size}
use Rattle.slot_trees.specs.LinkedStatements.{linked_stmts}
use Rattle.slot_trees.specs.LinkedTexts.{table_of}
use Rattle.slot_trees.specs.TextLinks.{linked_block, symbols_of_block}
use Rattle.slot_trees.specs.TextNumbers.{numbers_of}
use Rattle.slot_trees.specs.StatementViews.{slot_stmts_view}
use Rattle.st_link.proofs.ErrorLemmas.{none_then}
use Rattle.st_link.specs.FirstSlots.{slots_taken}
use Rattle.st_link.specs.KeptTexts.{block_fits}
use Rattle.st_link.specs.LinkVariables.{variables_of_blocks}
use Rattle.st_link.proofs.SymbolLemmas.{from_first}
use Rattle.st_link.proofs.UnitLinks.{block_large, block_small, block_table, cut_large, cut_small}
use Rattle.st_link.proofs.UnitLinks.{kept_nowhere, kept_out, kept_there}
use Rattle.st_link.proofs.blocks.link_block.Goals as goal

pub returns-then-made-gt-MAX_PATHS-clause-linked : goal.returns-then-made-gt-MAX_PATHS-clause-linked
returns-then-made-gt-MAX_PATHS-clause-linked c text globals layout serves are whole =
    let u = unit_view c.args.unit.now in
    let slots : c.in_ok-made.made.slots ≡ capped_size (slots_taken text (variables_of_blocks u.blocks)) =
    c.in_ok-made.ensures.slots text globals serves whole in
    kept_out (block_fits text u) (linked_block text layout u)
    (block_large text u (cut_large c.in_ok-made.made.slots (slots_taken text (variables_of_blocks u.blocks)) slots
    c.if-made-gt-MAX_PATHS.true))

pub returns-in_err-link_statements-clause-none : goal.returns-in_err-link_statements-clause-none
returns-in_err-link_statements-clause-none c =
    let u = unit_view c.args.unit.now in
    none_then _ c.in_err-link_statements.field-0.0 _ _ c.in_err-link_statements.ensures.none
    (λ h text globals layout serves are whole.
    let slots : c.in_ok-made.made.slots ≡ capped_size (slots_taken text (variables_of_blocks u.blocks)) =
    c.in_ok-made.ensures.slots text globals serves whole in
    let small : slots_taken text (variables_of_blocks u.blocks) ≤ MAX_PATHS =
    cut_small c.in_ok-made.made.slots (slots_taken text (variables_of_blocks u.blocks)) slots
    c.if-made-gt-MAX_PATHS.false in
    let t = table_of (numbers_of text) (symbols_of_block text layout u) (body_of_unit text u).instances in
    let body = c.in_ok-made.ensures.serves text globals t serves whole
    (from_first (slots_taken text (variables_of_blocks u.blocks)) small)
    (block_table text layout globals u are) in
    kept_nowhere (block_fits text u) (linked_block text layout u) (block_small text u small)
    (ap (λ xs. linked_stmts t (stmts_of (map stmt_view xs))) (sym c.deref.ensures.value) ∙ h text t body))
    (search rules)

pub returns-clause-linked : goal.returns-clause-linked
returns-clause-linked c text globals layout serves are whole =
    let u = unit_view c.args.unit.now in
    let slots : c.in_ok-made.made.slots ≡ capped_size (slots_taken text (variables_of_blocks u.blocks)) =
    c.in_ok-made.ensures.slots text globals serves whole in
    let small : slots_taken text (variables_of_blocks u.blocks) ≤ MAX_PATHS =
    cut_small c.in_ok-made.made.slots (slots_taken text (variables_of_blocks u.blocks)) slots
    c.if-made-gt-MAX_PATHS.false in
    let t = table_of (numbers_of text) (symbols_of_block text layout u) (body_of_unit text u).instances in
    let body = c.in_ok-made.ensures.serves text globals t serves whole
    (from_first (slots_taken text (variables_of_blocks u.blocks)) small)
    (block_table text layout globals u are) in
    kept_there (block_fits text u) (linked_block text layout u)
    (slot_stmts_view c.in_ok-link_statements.field-0.items) (block_small text u small)
    (ap (λ xs. linked_stmts t (stmts_of (map stmt_view xs))) (sym c.deref.ensures.value)
    ∙ c.in_ok-link_statements.ensures.linked text t body)
