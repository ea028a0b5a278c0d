-- The arguments that were read, by their number.
use Rattle.std.proofs.Common.{◌≡◌, List, [], ◌∷◌, length, get_or, ap, ap₂, sym, arith}
use Rattle.quick_trees.specs.Functions.{AreThree, AreTwo, IsOne}
use Rattle.quick_checks.specs.declared.constants.Reading.{Reading}
use Rattle.quick_checks.specs.Checking.{kinds_read, words_read}

pub one_reading : (rs : List Reading) (r : Reading) → length rs ≡ 1 → r ≡ get_or rs 0 r
    → IsOne (kinds_read rs) (words_read rs) r.kind r.word
one_reading [] r n is = absurd (omega arith)
one_reading (x ∷ []) r n is =
    (ap (λ (y : Reading). y.kind ∷ []) (sym is), ap (λ (y : Reading). y.word ∷ []) (sym is))
one_reading (x ∷ y ∷ rs) r n is = absurd (omega arith)

pub two_readings : (rs : List Reading) (r s : Reading) → length rs ≡ 2 → r ≡ get_or rs 0 r → s ≡ get_or rs 1 s
    → AreTwo (kinds_read rs) (words_read rs) r.kind s.kind r.word s.word
two_readings [] r s n is are = absurd (omega arith)
two_readings (x ∷ []) r s n is are = absurd (omega arith)
two_readings (x ∷ y ∷ []) r s n is are = (
  ap₂ (λ (a b : Reading). a.kind ∷ b.kind ∷ []) (sym is) (sym are),
  ap₂ (λ (a b : Reading). a.word ∷ b.word ∷ []) (sym is) (sym are),
)
two_readings (x ∷ y ∷ z ∷ rs) r s n is are = absurd (omega arith)

pub three_readings : (rs : List Reading) (r s t : Reading) → length rs ≡ 3 → r ≡ get_or rs 0 r → s ≡ get_or rs 1 s
    → t ≡ get_or rs 2 t → AreThree (kinds_read rs) (words_read rs) r.kind s.kind t.kind r.word s.word t.word
three_readings [] r s t n is are all = absurd (omega arith)
three_readings (x ∷ []) r s t n is are all = absurd (omega arith)
three_readings (x ∷ y ∷ []) r s t n is are all = absurd (omega arith)
three_readings (x ∷ y ∷ z ∷ []) r s t n is are all = (
  ap₂ (λ (a : Reading). λ ks. a.kind ∷ ks) (sym is)
      (ap₂ (λ (b c : Reading). b.kind ∷ c.kind ∷ []) (sym are) (sym all)),
  ap₂ (λ (a : Reading). λ ws. a.word ∷ ws) (sym is)
      (ap₂ (λ (b c : Reading). b.word ∷ c.word ∷ []) (sym are) (sym all)),
)
three_readings (x ∷ y ∷ z ∷ u ∷ rs) r s t n is are all = absurd (omega arith)
