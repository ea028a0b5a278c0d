use Rattle.std.proofs.Common.{ap, ap₂, sym, subst, ◌∙◌, map, if◌then◌else◌, None}
use Rattle.std.specs.Prelude.{option_and_then}
use Rattle.st_meaning.specs.Scopes.{block_named, contains_name}
use Rattle.symbols.specs.Agreeing.{Agree}
use Rattle.symbols.specs.Found.{found}
use Rattle.slot_trees.specs.SlotTrees.{absolute}
use Rattle.slot_trees.specs.Tables.{named_in}
use Rattle.slot_trees.specs.ExpressionViews.{anchor_view}
use Rattle.st_link.specs.BodyTables.{IsSymbol}
use Rattle.st_link.specs.FirstSlots.{symbol_among}
use Rattle.st_link.specs.LinkVariables.{variable_view}
use Rattle.st_link.proofs.SymbolLemmas.{externals_agree, unit_shown}
use Rattle.st_link.proofs.unit_tables.unit_table.Goals as goal

pub returns-clause-serves : goal.returns-clause-serves
returns-clause-serves c text globals t serves whole room table =
    let exts = map (λ y. y.now.name) c.args.externals.now in
    let vs = map variable_view c.args.variables.now in
    record {
      shapes = serves.shapes;
      symbols = λ x.
          let external = contains_name exts x in
          let global = symbol_among text (absolute 0) globals x in
          subst (Agree (IsSymbol text) (found c.add_variables.new.symbols x)) (sym (table.symbols x))
          (unit_shown text c.in_ok-hidden.hidden x external global
          (symbol_among text (anchor_view c.args.base) vs x) (found c.add_variables.new.symbols x)
          (c.in_ok-hidden.ensures x)
          (c.in_ok-slots.ensures.added text x (if external then global else None) serves.shapes whole room
          (externals_agree text external (found c.new-symbols.result x) (found c.add_externals.new.symbols x)
          (found c.args.tables.now.globals x) global (c.new-symbols.ensures x) (c.in_ok-add_externals.ensures x)
          (serves.globals x))));
      codes = λ x. c.in_ok-codes.ensures text globals x serves
          ∙ sym (ap₂ (λ bs is. option_and_then (named_in bs) (block_named is x)) table.blocks table.instances);
      functions = λ x. serves.functions x ∙ sym (ap (λ fs. named_in fs x) table.functions);
    }
