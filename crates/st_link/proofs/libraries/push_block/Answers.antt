use Rattle.std.proofs.Common.{rules}
use Rattle.std.specs.Prelude.{option_map}
use Rattle.st_types.specs.UnitViews.{unit_view}
use Rattle.slot_trees.specs.StatementViews.{slot_stmts_view}
use Rattle.st_link.proofs.ErrorLemmas.{none_then}
use Rattle.st_link.specs.Linked.{blocks_of}
use Rattle.st_link.proofs.GatheredLemmas.{appended_one}
use Rattle.st_link.proofs.LibraryUnits.{block_given, block_missing, block_whole}
use Rattle.st_link.proofs.libraries.push_block.Goals as goal

pub returns-in_err-link_block-clause-none : goal.returns-in_err-link_block-clause-none
returns-in_err-link_block-clause-none c =
    let u = unit_view c.args.unit.now in
    none_then _ c.in_err-link_block.field-0.0 _ _ c.in_err-link_block.ensures.none
    (λ h text globals layout serves are whole. block_missing text layout u c.in-FunctionBlock.is
    (h text globals layout serves are (block_whole text u c.in-FunctionBlock.is whole))) (search rules)

pub returns-in_ok-push-clause-linked : goal.returns-in_ok-push-clause-linked
returns-in_ok-push-clause-linked c text globals layout serves are whole =
    let u = unit_view c.args.unit.now in
    let b = c.in_ok-link_block.field-0 in
    appended_one (option_map (λ v. slot_stmts_view v.items)) (blocks_of text layout u) c.args.blocks.now.items
    c.push.new.self.items b
    (block_given text layout u (option_map (λ v. slot_stmts_view v.items) b) c.in-FunctionBlock.is
    (c.in_ok-link_block.ensures.linked text globals layout serves are
    (block_whole text u c.in-FunctionBlock.is whole)))
    c.in_ok-push.ensures.items
