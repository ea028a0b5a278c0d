use Rattle.std.proofs.Common.{rules, ap, sym, ◌∙◌, map}
use Rattle.st_types.specs.Statements.{stmts_of}
use Rattle.st_types.specs.StatementViews.{stmt_view}
use Rattle.st_types.specs.UnitViews.{unit_view}
use Rattle.layout.specs.Libraries.{body_of_unit}
use Rattle.slot_trees.specs.LinkedStatements.{linked_stmts}
use Rattle.slot_trees.specs.LinkedTexts.{table_of}
use Rattle.slot_trees.specs.TextLinks.{symbols_of_program}
use Rattle.slot_trees.specs.TextNumbers.{numbers_of}
use Rattle.st_link.proofs.ErrorLemmas.{none_then}
use Rattle.st_link.proofs.UnitLinks.{program_table}
use Rattle.st_link.proofs.blocks.link_program.Goals as goal

pub returns-in_err-body-clause-none : goal.returns-in_err-body-clause-none
returns-in_err-body-clause-none c =
    let u = unit_view c.args.unit.now in
    none_then _ c.in_err-body.field-0.0 _ _ c.in_err-body.ensures.none
    (λ h text globals layout owner serves are whole room begin.
    let t = table_of (numbers_of text) (symbols_of_program text layout owner u) (body_of_unit text u).instances in
    let body = c.in_ok-made.ensures.serves text globals t serves whole room
    (program_table text layout globals owner c.args.first u are begin) in
    ap (λ xs. linked_stmts t (stmts_of (map stmt_view xs))) (sym c.deref.ensures.value) ∙ h text t body)
    (search rules)

pub returns-clause-slots : goal.returns-clause-slots
returns-clause-slots c text globals serves whole =
    c.in_ok-made.ensures.slots text globals serves whole

pub returns-clause-linked : goal.returns-clause-linked
returns-clause-linked c text globals layout owner serves are whole room begin =
    let u = unit_view c.args.unit.now in
    let t = table_of (numbers_of text) (symbols_of_program text layout owner u) (body_of_unit text u).instances in
    let body = c.in_ok-made.ensures.serves text globals t serves whole room
    (program_table text layout globals owner c.args.first u are begin) in
    ap (λ xs. linked_stmts t (stmts_of (map stmt_view xs))) (sym c.deref.ensures.value)
    ∙ c.in_ok-body.ensures.linked text t body
