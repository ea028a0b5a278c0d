use Rattle.std.proofs.Common.{◌≡◌, map, take, true}
use Rattle.st_meaning.specs.NameTypes.{Declared}
use Rattle.layout.specs.Sizes.{ServesSizes, capped_size}
use Rattle.st_link.specs.FirstSlots.{slots_taken}
use Rattle.st_link.specs.LinkVariables.{are_whole, variable_view}
use Rattle.st_link.proofs.called_functions.slots_of_all.Given as goal

abbrev pub invariant-loop-variable : goal.invariant-loop-variable
invariant-loop-variable l = record {
  serves : (text : Declared) → ServesSizes l.initial.sizes text → ServesSizes l.sizes text;
  slots : (text : Declared) → ServesSizes l.initial.sizes text → are_whole text (map variable_view l.variables) ≡ true
      → l.slots ≡ capped_size (slots_taken text (map variable_view (take l.variable-index l.variables)));
}
