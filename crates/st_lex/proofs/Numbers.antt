-- Values of digits.
use Rattle.std.proofs.Common.{◌≡◌, ◌≢◌, length, get_or, ℕ, ◌+◌, ◌*◌, ◌^◌, ◌≤◌, true, false, cond, eqb, List, [], ◌∷◌}
use Rattle.std.proofs.Common.{Option, Some, None, refl, sym, ◌∙◌, arith, inl, inr}
use Rattle.std.proofs.Math.Nat.{le-mul_of_pos_right}
use Rattle.std.specs.Char.{digit_value}
use Rattle.std.proofs.lemmas.Bool.{ne_eqb, lt-ltb, cases_lt, le-ltb}
use Rattle.st_lex.specs.Numbers.{value_from, below}

grown : (limit base n d : ℕ) → 1 ≤ base → limit ≤ n → limit ≤ n * base + d
grown limit base n d one le = let e : n ≤ n * base = le-mul_of_pos_right n (omega arith) in omega arith

-- a value only grows
pub too_large : (limit base n : ℕ) (text : List ℕ) → 1 ≤ base → limit ≤ n → below limit (value_from base n text) ≡ None
too_large limit base n [] one le = rw (le-ltb n limit le) refl
too_large limit base n (b ∷ bs) one le =
    elim (eqb b 95) as
    (λ x. below limit (cond x (value_from base n bs) (value_from base (n * base + digit_value b) bs)) ≡ None) [
      | true ↦ too_large limit base n bs one le
      | false ↦ too_large limit base (n * base + digit_value b) bs one (grown limit base n (digit_value b) one le)
    ]

-- a digit that leads past the limit makes the whole too large
pub breaks_off : (base n : ℕ) (text : List ℕ) (whole : Option ℕ) → 1 ≤ base → 1 ≤ length text → get_or text 0 0 ≢ 95
    → None ≡ below (2 ^ 64) (n * base + digit_value (get_or text 0 0)) → below (2 ^ 64) (value_from base n text) ≡ whole
    → None ≡ whole
breaks_off base n [] whole one long other none told = absurd (omega arith)
breaks_off base n (b ∷ bs) whole one long other none told = elim (cases_lt (n * base + digit_value b) (2 ^ 64)) [
  | inl lt ↦ let e : None ≡ Some (n * base + digit_value b) = rw (lt-ltb _ _ lt) at none in absurd (cc)
  | inr le ↦ let e : below (2 ^ 64) (value_from base (n * base + digit_value b) bs) ≡ whole =
      rw (ne_eqb b 95 other) at told in
      sym (too_large (2 ^ 64) base (n * base + digit_value b) bs one le) ∙ e
]
