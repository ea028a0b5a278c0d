use Rattle.std.proofs.Common.{◌≡◌, List, ℕ, drop}
use Rattle.st_meaning.specs.StandardFunctions.{conversions_from, named}
use Rattle.symbols.specs.Words.{IsTarget}
use Rattle.symbols.proofs.standard_functions.other_named.Given as goal

abbrev pub invariant-loop-to : goal.invariant-loop-to
invariant-loop-to l = (x : List ℕ) → IsTarget x l.from l.word
    → named (conversions_from l.from (drop l.to-index l.kinds)) x ≡ named (conversions_from l.from l.kinds) x
