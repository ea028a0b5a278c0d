use Rattle.std.proofs.Common.{rules, sym, subst, map, Option, option_map}
use Rattle.st_types.specs.UnitViews.{unit_view}
use Rattle.st_types.specs.Units.{OrganisationUnit}
use Rattle.slot_trees.specs.SlotTrees.{SlotStmts}
use Rattle.slot_trees.specs.StatementViews.{slot_stmts_view}
use Rattle.st_link.proofs.ErrorLemmas.{none_then}
use Rattle.st_link.specs.Linked.{blocks_of}
use Rattle.st_link.specs.LinkVariables.{is_whole_unit}
use Rattle.st_link.proofs.GatheredLemmas.{GatheredSoFar, gathered_all, gathered_first, gathered_more, gathered_none}
use Rattle.st_link.proofs.LibraryUnits.{unit_passes}
use Rattle.st_link.proofs.libraries.link_blocks.Goals as goal

pub loop-unit-init : goal.loop-unit-init
loop-unit-init c text globals layout serves are whole =
    let us = map (λ u. unit_view u.now) c.args.units.now in
    subst (λ bs. GatheredSoFar OrganisationUnit (Option SlotStmts) (blocks_of text layout) us
    (map (option_map (λ b. slot_stmts_view b.items)) bs) us) (sym c.new-blocks.ensures.items)
    (gathered_first (blocks_of text layout) us)

pub loop-unit-preserved : goal.loop-unit-preserved
loop-unit-preserved c text globals layout serves are whole =
    let us = c.args.units.now in
    let i = c.loop-unit.unit-index in
    let u = c.unit-item.result in
    gathered_more (λ v. unit_view v.now) (blocks_of text layout) us i u
    (map (option_map (λ b. slot_stmts_view b.items)) c.loop-unit.blocks.items)
    (map (option_map (λ b. slot_stmts_view b.items)) c.push_block.new.blocks.items) c.loop-unit-test.true
    c.unit-item.is
    (c.in_ok-push_block.ensures.linked text globals layout serves are
    (unit_passes (is_whole_unit text) us i u c.loop-unit-test.true c.unit-item.is whole))
    (c.loop-unit.invariant text globals layout serves are whole)

pub returns-in_err-push_block-clause-none : goal.returns-in_err-push_block-clause-none
returns-in_err-push_block-clause-none c =
    let us = c.args.units.now in
    let i = c.loop-unit.unit-index in
    let u = c.unit-item.result in
    none_then _ c.in_err-push_block.field-0.0 _ _ c.in_err-push_block.ensures.none
    (λ h text globals layout serves are whole. gathered_none (λ v. unit_view v.now) (blocks_of text layout) us i u
    (map (option_map (λ b. slot_stmts_view b.items)) c.loop-unit.blocks.items) c.loop-unit-test.true c.unit-item.is
    (h text globals layout serves are
    (unit_passes (is_whole_unit text) us i u c.loop-unit-test.true c.unit-item.is whole))
    (c.loop-unit.invariant text globals layout serves are whole)) (search rules)

pub returns-clause-linked : goal.returns-clause-linked
returns-clause-linked c text globals layout serves are whole =
    gathered_all (λ v. unit_view v.now) (blocks_of text layout) c.args.units.now c.loop-unit.unit-index
    (map (option_map (λ b. slot_stmts_view b.items)) c.loop-unit.blocks.items) c.loop-unit-test.false
    (c.loop-unit.invariant text globals layout serves are whole)
