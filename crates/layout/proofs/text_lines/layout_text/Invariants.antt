use Rattle.std.proofs.Common.{◌≡◌, ◌++◌, drop, map}
use Rattle.std.specs.Vec.{vec_items}
use Rattle.st_meaning.specs.Layouts.{layout_text}
use Rattle.layout.proofs.text_lines.layout_text.Given as goal

abbrev pub invariant-loop-variable : goal.invariant-loop-variable
invariant-loop-variable l =
    l.text.items ++ layout_text (map vec_items l.types) (drop l.variable-index l.variables)
    ≡ layout_text (map vec_items l.types) l.variables
