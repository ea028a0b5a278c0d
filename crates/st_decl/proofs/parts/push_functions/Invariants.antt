use Rattle.std.proofs.Common.{◌≡◌, ◌++◌, map, drop, filter}
use Rattle.st_meaning.specs.NameTypes.{Declared}
use Rattle.st_rules.specs.Containment as rules
use Rattle.st_rules.specs.Containment.{is_function}
use Rattle.symbols.specs.Texts.{ServesText}
use Rattle.st_decl.specs.Parts.{part_view}
use Rattle.st_decl.proofs.parts.push_functions.Given as goal

abbrev pub invariant-loop-call : goal.invariant-loop-call
invariant-loop-call l = (text : Declared) → ServesText l.names text → map part_view l.parts.items
    ++ map rules.named (filter (is_function text) (map (λ x. x.now.name) (drop l.call-index l.calls)))
    ≡ map part_view l.initial.parts.items
    ++ map rules.named (filter (is_function text) (map (λ x. x.now.name) l.calls))
