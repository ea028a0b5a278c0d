-- The elements at each place after a write.
use Rattle.std.proofs.Common.{◌≡◌, ℕ, ◌+◌, ◌-◌, ◌<◌, ◌≤◌, max, List, ◌++◌, length, get_or, take, drop, replicate, ◌∙◌}
use Rattle.std.proofs.Common.{ap, arith, length-append}
use Rattle.std.proofs.lemmas.Grind.{common_steps}
use Rattle.std.proofs.lemmas.List.{get_or-drop, get_or-append_right}
use Rattle.disk.specs.Disk.{put_over, overwritten, Torn}

-- the rest of a list after something as long as its front
pub rest_at : {X : Type 0} (d : X) (front xs : List X) (n i : ℕ) → length front ≡ n → n ≤ i
    → get_or (front ++ drop n xs) i d ≡ get_or xs i d
rest_at d front xs n i size over =
    get_or-append_right front (drop n xs) n i d size over
    ∙ get_or-drop n xs (i - n) d
    ∙ ap (λ (k : ℕ). get_or xs k d) (omega arith)

module _ {X : Type 0} (filler d : X) (old : List X) (at : ℕ) (new : List X) where
  front : List X
  front = take at old ++ replicate (at - length old) filler

  length-front : length front ≡ at
  unfolding front
  length-front = grind (arith, common_steps)

  pub length-put_over : length (put_over filler old at new) ≡ max (length old) (at + length new)
  unfolding front
  length-put_over = grind (arith, common_steps)

  pub put_over_before : (i : ℕ) → i < at → i < length old → get_or (put_over filler old at new) i d ≡ get_or old i d
  put_over_before i under low = grind (arith, common_steps)

  pub put_over_gap : (i : ℕ) → length old ≤ i → i < at → get_or (put_over filler old at new) i d ≡ filler
  put_over_gap i past under = grind (arith, common_steps)

  pub put_over_in : (i : ℕ) → at ≤ i → i < at + length new
      → get_or (put_over filler old at new) i d ≡ get_or new (i - at) d
  put_over_in i over under = grind (arith, common_steps)

  pub put_over_behind : (i : ℕ) → at + length new ≤ i → get_or (put_over filler old at new) i d ≡ get_or old i d
  unfolding front
  put_over_behind i over =
      rest_at d (front ++ new) old (at + length new) i (omega (arith, length-append front new, length-front)) over

-- a write that was not cut short is one of those that a stop may cut short
pub overwritten_torn : (old : List ℕ) (at : ℕ) (bytes : List ℕ) → Torn at (length bytes) old (overwritten old at bytes)
overwritten_torn old at bytes = record {
  no_shorter = omega (arith, length-put_over 0 0 old at bytes);
  no_longer = omega (arith, length-put_over 0 0 old at bytes);
  before = λ i low under. put_over_before 0 0 old at bytes i under low;
  behind = λ i low over. put_over_behind 0 0 old at bytes i over;
}
