use Rattle.std.proofs.Common.{sym, subst, map, None}
use Rattle.symbols.specs.Agreeing.{Agree}
use Rattle.symbols.specs.Found.{found}
use Rattle.slot_trees.specs.SlotTrees.{absolute}
use Rattle.st_link.specs.BodyTables.{IsSymbol}
use Rattle.st_link.specs.FirstSlots.{slots_taken, symbol_among}
use Rattle.st_link.specs.LinkVariables.{variable_view}
use Rattle.st_link.proofs.SymbolLemmas.{all_shown, from_first}
use Rattle.st_link.proofs.text_tables.globals_at.Goals as goal

pub returns-clause-symbols : goal.returns-clause-symbols
returns-clause-symbols c text x serves whole room =
    let gs = map variable_view c.args.variables.now in
    all_shown text c.new-hidden.result x (found c.add_variables.new.symbols x)
    (symbol_among text (absolute 0) gs x) (c.new-hidden.ensures x)
    (c.in_ok-slots.ensures.added text x None serves whole
    (from_first (slots_taken text gs) room)
    (subst (λ f. Agree (IsSymbol text) f None) (sym (c.new-symbols.ensures x)) tt))
