-- The topmost values, which stay.
use Rattle.std.proofs.Common.{◌≡◌, List, [], ◌∷◌, take, drop, refl}
use Rattle.std.specs.Prelude.{reverse}
use Rattle.st_types.specs.Values.{Datum}

pub top_is : (st : List Datum) (v : Datum) → v ∷ [] ≡ reverse (take 1 st) → st ≡ v ∷ drop 1 st
top_is [] v e = absurd cc
top_is (x ∷ st) v e = let is : v ≡ x = cc in rw is refl

pub tops_are : (st : List Datum) (v w : Datum) → w ∷ v ∷ [] ≡ reverse (take 2 st) → st ≡ v ∷ w ∷ drop 2 st
tops_are [] v w e = absurd cc
tops_are (x ∷ []) v w e = absurd cc
tops_are (x ∷ y ∷ st) v w e =
    let a : v ≡ x = cc in
    let b : w ≡ y = cc in
    rw (a, b) refl
