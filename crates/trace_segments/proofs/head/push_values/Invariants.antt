use Rattle.std.proofs.Common.{◌≡◌, ◌++◌, ◌∷◌, drop, flat_map}
use Rattle.std.specs.Fmt.{signed_decimal}
use Rattle.trace_segments.proofs.head.push_values.Given as goal

abbrev pub invariant-loop-value : goal.invariant-loop-value
invariant-loop-value l = l.text.items ++ flat_map (λ v. 44 ∷ signed_decimal v.number) (drop l.value-index l.image)
    ≡ l.initial.text.items ++ flat_map (λ v. 44 ∷ signed_decimal v.number) l.image
