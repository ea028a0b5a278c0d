-- The place of the first that passes a test.
use Rattle.std.proofs.Common.{◌≡◌, ℕ, suc, ◌+◌, Bool, true, false, if◌then◌else◌, cond, not, nat_lt, List, ◌∷◌, length}
use Rattle.std.proofs.Common.{Option, Some, None, option_map, refl, ap, arith}
use Rattle.std.specs.Prelude.{position}
use Rattle.std.specs.List.{position_or_len}
use Rattle.std.proofs.lemmas.Bool.Decides.{nat_tests}

behind_by : (b : Bool) (n l : ℕ) → nat_lt n l ≡ b
    → cond (nat_lt (1 + n) (suc l)) (Some (1 + n)) None ≡ option_map suc (cond b (Some n) None)
behind_by true n l e = let f : nat_lt (1 + n) (suc l) ≡ true = grind (arith, nat_tests) in
    let g : 1 + n ≡ suc n = omega arith in rw f (ap (λ m. Some m) g)
behind_by false n l e = let f : nat_lt (1 + n) (suc l) ≡ false = grind (arith, nat_tests) in rw f refl

place_by : (t : Bool) (n l : ℕ) → cond (nat_lt (cond (not t) (1 + n) 0) (suc l)) (Some (cond (not t) (1 + n) 0)) None
    ≡ (if t then Some 0 else option_map suc (cond (nat_lt n l) (Some n) None))
place_by true n l = let f : nat_lt 0 (suc l) ≡ true = grind (arith, nat_tests) in rw f refl
place_by false n l = behind_by (nat_lt n l) n l refl

-- it is the first place, or one more than that among the others
pub position_step : {X : Type 0} (p : X → Bool) (x : X) (xs : List X)
    → position p (x ∷ xs) ≡ (if p x then Some 0 else option_map suc (position p xs))
position_step p x xs = place_by (p x) (position_or_len p xs) (length xs)
