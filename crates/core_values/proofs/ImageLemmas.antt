-- A row has a value for each input.
use Rattle.std.proofs.Common.{◌≡◌, Bool, true, false, ◌&&◌, List, [], ◌∷◌, length, refl, arith}
use Rattle.st_types.specs.Kinds.{same_kind, holds}
use Rattle.st_types.specs.Values.{Datum}
use Rattle.st_meaning.specs.declared.plan.PlanInput.{PlanInput}
use Rattle.st_meaning.specs.Plans.{holds_each}

and_false : (a b c : Bool) → c ≡ false → (a && (b && c)) ≡ false
and_false true true c e = e
and_false true false c e = refl
and_false false b c e = refl

pub holds_none : (is : List PlanInput) (vs : List Datum) → (length is ≡ length vs → ⊥) → holds_each is vs ≡ false
holds_none [] [] h = absurd (h refl)
holds_none [] (v ∷ vs) h = refl
holds_none (i ∷ is) [] h = refl
holds_none (i ∷ is) (v ∷ vs) h = and_false (same_kind i.kind v.kind) (holds v.kind v.number) (holds_each is vs)
    (holds_none is vs (λ e. h (omega arith)))
