-- There are as many merged values as places.
use Rattle.std.proofs.Common.{◌≡◌, ℕ, suc, ◌+◌, ◌<◌, ◌≤◌, true, List, [], ◌∷◌, length, Some, None, refl, sym, ap, subst}
use Rattle.std.proofs.Common.{◌∙◌, arith}
use Rattle.std.specs.Prelude.{slice_get}
use Rattle.st_types.specs.Values.{Datum}
use Rattle.quick_trees.proofs.Lists.{within_there}
use Rattle.plan.specs.declared.slots.SlotPlace.{SlotPlace}
use Rattle.plan.specs.declared.slots.SlotPlace.TheVariants.{Variable, Input}
use Rattle.plan.specs.SlotPlaces.{are_numbered, merged}
use Rattle.plan.proofs.SlotLemmas.{AreNumbered, from_first, rising}

merged_long : (ps : List SlotPlace) (v i n m : ℕ) (vs xs : List Datum) → n ≡ v + length vs → m ≡ i + length xs
    → AreNumbered v i ps n m → length (merged ps vs xs) ≡ length ps
merged_long [] v i n m vs xs a b h = refl
merged_long (Variable k ∷ ps) v i n m [] xs a b h =
    absurd (let r = rising ps (suc v) i n m h.1 in let le : suc v ≤ n = r.0 in omega arith)
merged_long (Variable k ∷ ps) v i n m (u ∷ vs) xs a b h =
    ap suc (merged_long ps (suc v) i n m vs xs (omega arith) b h.1)
merged_long (Input k ∷ ps) v i n m vs [] a b h =
    absurd (let r = rising ps v (suc i) n m h.1 in let le : suc i ≤ m = r.1 in omega arith)
merged_long (Input k ∷ ps) v i n m vs (x ∷ xs) a b h =
    ap suc (merged_long ps v (suc i) n m vs xs a (omega arith) h.1)

pub all_long : (ps : List SlotPlace) (vs xs : List Datum) → are_numbered 0 0 ps (length vs) (length xs) ≡ true
    → length (merged ps vs xs) ≡ length ps
all_long ps vs xs numbered =
    merged_long ps 0 0 (0 + length vs) (0 + length xs) vs xs refl refl (from_first ps (length vs) (length xs) numbered)

-- a slot that is there has a value
pub merged_here : (ps : List SlotPlace) (vs xs : List Datum) (k : ℕ)
    → are_numbered 0 0 ps (length vs) (length xs) ≡ true → k < length ps → slice_get (merged ps vs xs) k ≡ None → ⊥
merged_here ps vs xs k numbered lt none =
    let all = all_long ps vs xs numbered in
    let v = within_there (merged ps vs xs) k (omega arith) in
    let wrong : Some v.0 ≡ None = sym v.1 ∙ none in
    cc
