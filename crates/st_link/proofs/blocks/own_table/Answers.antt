use Rattle.std.proofs.Common.{◌≡◌, ◌≤◌, ◌+◌, List, ap, sym, subst, ◌∙◌, map, true}
use Rattle.std.proofs.lemmas.Result.{IfOk-weaker}
use Rattle.st_types.specs.declared.limits.TheConstants.{MAX_PATHS}
use Rattle.st_types.specs.DeclarationViews.{variable_block_view}
use Rattle.st_types.specs.UnitViews.{unit_view}
use Rattle.st_meaning.specs.Bodies.{externals_in}
use Rattle.st_meaning.specs.NameTypes.{Declared}
use Rattle.layout.specs.Sizes.{capped_size}
use Rattle.slot_trees.specs.Tables.{Table}
use Rattle.slot_trees.specs.ExpressionViews.{anchor_view}
use Rattle.st_link.specs.BodyTables.{ServesBody}
use Rattle.st_link.specs.Rooms.{first_slot}
use Rattle.st_link.specs.FirstSlots.{slots_taken}
use Rattle.st_link.specs.LinkVariables.{LinkVariable, are_whole, variable_view, variables_of_blocks}
use Rattle.st_link.specs.Tables.{IsUnitTable, ServesLinks}
use Rattle.st_link.proofs.UnitLinks.{table_seen}
use Rattle.st_link.proofs.blocks.own_table.Goals as goal

pub returns-clause-slots : goal.returns-clause-slots
returns-clause-slots c =
    let u = unit_view c.args.unit.now in
    let seen : map variable_view c.deref-4.result.now ≡ variables_of_blocks u.blocks =
    ap (map variable_view) c.deref-4.ensures.value ∙ c.in_ok-variables.ensures
    ∙ ap (λ bs. variables_of_blocks (map variable_block_view bs)) c.deref.ensures.value in
    IfOk-weaker c.unit_table.result _ (λ made. (text : Declared) (globals : List LinkVariable)
    → ServesLinks c.args.tables.now text globals → are_whole text (variables_of_blocks u.blocks) ≡ true
    → made.slots ≡ capped_size (slots_taken text (variables_of_blocks u.blocks)))
    (λ made h text globals serves whole. h text globals serves (ap (are_whole text) seen ∙ whole)
    ∙ ap (λ vs. capped_size (slots_taken text vs)) seen)
    c.unit_table.ensures.slots

pub returns-clause-serves : goal.returns-clause-serves
returns-clause-serves c =
    let u = unit_view c.args.unit.now in
    let seen : map variable_view c.deref-4.result.now ≡ variables_of_blocks u.blocks =
    ap (map variable_view) c.deref-4.ensures.value ∙ c.in_ok-variables.ensures
    ∙ ap (λ bs. variables_of_blocks (map variable_block_view bs)) c.deref.ensures.value in
    let own_seen : map variable_view c.deref-5.result.now ≡ variables_of_blocks u.blocks =
    ap (map variable_view) c.deref-5.ensures.value ∙ c.in_ok-variables.ensures
    ∙ ap (λ bs. variables_of_blocks (map variable_block_view bs)) c.deref.ensures.value in
    let exts : map (λ y. y.now.name) c.deref-3.result.now ≡ externals_in u.blocks =
    ap (map (λ y. y.now.name)) c.deref-3.ensures.value ∙ c.in_ok-externals.ensures
    ∙ ap (λ bs. externals_in (map variable_block_view bs)) c.deref-2.ensures.value in
    IfOk-weaker c.unit_table.result _ (λ made. (text : Declared) (globals : List LinkVariable) (t : Table)
    → ServesLinks c.args.tables.now text globals → are_whole text (variables_of_blocks u.blocks) ≡ true
    → first_slot (anchor_view c.args.base) + slots_taken text (variables_of_blocks u.blocks) ≤ MAX_PATHS
    → IsUnitTable text globals (externals_in u.blocks) (anchor_view c.args.base) (variables_of_blocks u.blocks)
    (variables_of_blocks u.blocks) t → ServesBody made.table text t)
    (λ made h text globals t serves whole room table. h text globals t serves (ap (are_whole text) seen ∙ whole)
    (subst (λ vs. first_slot (anchor_view c.args.base) + slots_taken text vs ≤ MAX_PATHS) (sym seen) room)
    (table_seen text globals (anchor_view c.args.base) t (map (λ y. y.now.name) c.deref-3.result.now)
    (externals_in u.blocks) (map variable_view c.deref-4.result.now) (variables_of_blocks u.blocks)
    (map variable_view c.deref-5.result.now) (variables_of_blocks u.blocks) exts seen own_seen table))
    c.unit_table.ensures.serves
