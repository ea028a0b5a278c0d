use Rattle.std.proofs.Common.{◌≡◌, List, ℕ, drop, if◌then◌else◌, Some, None}
use Rattle.std.specs.List.{list_any}
use Rattle.st_meaning.specs.NameTypes.{is_named}
use Rattle.symbols.specs.Found.{or_found}
use Rattle.symbols.specs.Variables.{type_found, section_found}
use Rattle.symbols.proofs.variables.add_names.Given as goal

abbrev pub invariant-loop-name : goal.invariant-loop-name
invariant-loop-name l =
    ((q : List ℕ) → or_found (type_found l.variables q)
    (if list_any (is_named q) (drop l.name-index l.names) then Some l.variable.declared.now else None)
    ≡ or_found (type_found l.initial.variables q)
    (if list_any (is_named q) l.names then Some l.variable.declared.now else None))
    × ((q : List ℕ) → or_found (section_found l.variables q)
    (if list_any (is_named q) (drop l.name-index l.names) then Some l.variable.section else None)
    ≡ or_found (section_found l.initial.variables q)
    (if list_any (is_named q) l.names then Some l.variable.section else None))
