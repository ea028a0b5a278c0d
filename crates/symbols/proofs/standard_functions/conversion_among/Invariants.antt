use Rattle.std.proofs.Common.{◌≡◌, drop}
use Rattle.std.specs.List.{flat_map}
use Rattle.st_meaning.specs.StandardFunctions.{conversions_from, named}
use Rattle.symbols.proofs.standard_functions.conversion_among.Given as goal

abbrev pub invariant-loop-kind : goal.invariant-loop-kind
invariant-loop-kind l =
    named (flat_map (λ k. conversions_from k l.to) (drop l.kind-index l.from)) l.name
    ≡ named (flat_map (λ k. conversions_from k l.to) l.from) l.name
