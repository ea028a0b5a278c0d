use Rattle.std.proofs.Common.{◌≡◌, ℕ, List, map, option_map, drop}
use Rattle.std.specs.List.{flat_map}
use Rattle.st_types.specs.declared.identifier.Identifier.{Identifier}
use Rattle.st_rules.specs.Places.{first_named}
use Rattle.st_rules.specs.TwiceDeclared.{wrong_variable_name}
use Rattle.st_rules.proofs.CollectLemmas.{Searches}
use Rattle.symbols.specs.Found.{found}
use Rattle.st_decl.proofs.twice_declared.taken_names.Given as goal

abbrev pub invariant-loop-variable : goal.invariant-loop-variable
invariant-loop-variable l = (names : List Identifier)
    → ((q : List ℕ) → found l.index q ≡ option_map (λ x. x.place) (first_named names q))
    → Searches (flat_map (wrong_variable_name names) (map (λ x. x.now) l.variables))
    (flat_map (wrong_variable_name names) (map (λ x. x.now) (drop l.variable-index l.variables))) l.initial.broken
    l.broken
