-- Each file that a stop may leave after a write results from one that it might have left before, and the other way round.
use Rattle.std.proofs.Common.{◌≡◌, ◌⊎◌, inl, inr, ℕ, zero, suc, ◌+◌, ◌-◌, ◌<◌, ◌≤◌, min, Bool, true, false, List, []}
use Rattle.std.proofs.Common.{◌∷◌, length, get_or, take, replicate, refl, sym, ◌∙◌, arith, length-take}
use Rattle.std.proofs.lemmas.Bool.{cases_lt}
use Rattle.std.proofs.lemmas.List.{get_or-take, get_or_past, get_or-replicate, ext_get_or, length-replicate}
use Rattle.disk.specs.Disk.{Torn, ComesFrom, Admits, Only}
use Rattle.disk.specs.Medium.{MediumView, MayLeave, IsLeft, IsSynced, synced_len, with_write, all_synced}
use Rattle.disk.proofs.Places.{length-put_over, put_over_before, put_over_gap, put_over_in, put_over_behind}

-- the first list's elements where the flag is true or missing, and the second's elsewhere
abbrev mix : List Bool → List ℕ → List ℕ → List ℕ
mix [] xs ys = xs
mix (b ∷ bs) [] ys = []
mix (b ∷ bs) (x ∷ xs) [] = []
mix (true ∷ bs) (x ∷ xs) (y ∷ ys) = x ∷ mix bs xs ys
mix (false ∷ bs) (x ∷ xs) (y ∷ ys) = y ∷ mix bs xs ys

length-mix : (bs : List Bool) (xs ys : List ℕ) → length xs ≤ length ys → length (mix bs xs ys) ≡ length xs
length-mix [] xs ys k = refl
length-mix (b ∷ bs) [] ys k = refl
length-mix (b ∷ bs) (x ∷ xs) [] k = omega arith
length-mix (true ∷ bs) (x ∷ xs) (y ∷ ys) k = omega (arith, length-mix bs xs ys (omega arith))
length-mix (false ∷ bs) (x ∷ xs) (y ∷ ys) k = omega (arith, length-mix bs xs ys (omega arith))

mix_at : (bs : List Bool) (xs ys : List ℕ) (i : ℕ) → length xs ≤ length ys → i < length xs
    → ((get_or bs i true ≡ true) × (get_or (mix bs xs ys) i 0 ≡ get_or xs i 0))
    ⊎ ((get_or bs i true ≡ false) × (get_or (mix bs xs ys) i 0 ≡ get_or ys i 0))
mix_at [] xs ys i k l = inl (refl, refl)
mix_at (b ∷ bs) [] ys i k l = absurd (omega arith)
mix_at (b ∷ bs) (x ∷ xs) [] i k l = absurd (omega arith)
mix_at (true ∷ bs) (x ∷ xs) (y ∷ ys) zero k l = inl (refl, refl)
mix_at (false ∷ bs) (x ∷ xs) (y ∷ ys) zero k l = inr (refl, refl)
mix_at (true ∷ bs) (x ∷ xs) (y ∷ ys) (suc i) k l = mix_at bs xs ys i (omega arith) (omega arith)
mix_at (false ∷ bs) (x ∷ xs) (y ∷ ys) (suc i) k l = mix_at bs xs ys i (omega arith) (omega arith)

-- that a write of n bytes there leaves this place alone
abbrev IsOutside : ℕ → ℕ → ℕ → Type 0
IsOutside at n i = (i < at) ⊎ (at + n ≤ i)

module _ (medium : MediumView) (at : ℕ) (bytes : List ℕ) where
  flags : List Bool
  flags = replicate (length bytes) true

  length-flags : length flags ≡ length bytes
  unfolding flags
  length-flags = length-replicate (length bytes) true

  -- the synced length stays
  same_synced_len : synced_len (with_write medium at bytes) ≡ synced_len medium
  same_synced_len = omega (arith, length-put_over 0 0 medium.file at bytes)

  same_flag : (i : ℕ) → IsOutside at (length bytes) i
      → get_or (with_write medium at bytes).written i true ≡ get_or medium.written i true
  unfolding flags
  same_flag i outside = elim outside [
    | inl under ↦ elim (cases_lt i (length medium.written)) [
      | inl low ↦ put_over_before true true medium.written at flags i under low
      | inr past ↦ put_over_gap true true medium.written at flags i past under
          ∙ sym (get_or_past medium.written i true past)
    ]
    | inr over ↦ put_over_behind true true medium.written at flags i (omega (arith, length-flags, over))
  ]

  -- the bytes that the write reaches count as written
  flag_inside : (i : ℕ) → at ≤ i → i < at + length bytes → get_or (with_write medium at bytes).written i true ≡ true
  unfolding flags
  flag_inside i over under =
      put_over_in true true medium.written at flags i over (omega (arith, length-flags))
      ∙ get_or-replicate (length bytes) (i - at) true true (omega arith)

  -- a byte that is synced after the write was so before it, and the write leaves it alone
  still_synced : (i : ℕ) → IsSynced (with_write medium at bytes) i → IsOutside at (length bytes) i × IsSynced medium i
  still_synced i synced = elim (cases_lt i at) [
    | inl under ↦ (inl under, sym (same_flag i (inl under)) ∙ synced)
    | inr over ↦ elim (cases_lt i (at + length bytes)) [
      | inl inside ↦ absurd (let flag : true ≡ false = sym (flag_inside i over inside) ∙ synced in cc)
      | inr behind ↦ (inr behind, sym (same_flag i (inr behind)) ∙ synced)
    ]
  ]

  same_byte : (i : ℕ) → IsOutside at (length bytes) i → i < length medium.file
      → get_or (with_write medium at bytes).file i 0 ≡ get_or medium.file i 0
  same_byte i outside low = elim outside [
    | inl under ↦ put_over_before 0 0 medium.file at bytes i under low
    | inr over ↦ put_over_behind 0 0 medium.file at bytes i over
  ]

  same_torn : (old new : List ℕ) → Torn at (length bytes) old new → (i : ℕ) → IsOutside at (length bytes) i
      → i < length old → get_or new i 0 ≡ get_or old i 0
  same_torn old new torn i outside low = elim outside [
    | inl under ↦ torn.before i low under
    | inr over ↦ torn.behind i low over
  ]

  -- each file that results from an old one by a torn write is one of the new
  pub admits : ((i : ℕ) → synced_len medium ≤ i → get_or medium.written i true ≡ true)
      → Admits (Torn at (length bytes)) (MayLeave medium) (MayLeave (with_write medium at bytes))
  admits appended from file left torn = record {
    no_shorter = omega (arith, same_synced_len, left.no_shorter, torn.no_shorter);
    no_longer = omega (arith, length-put_over 0 0 medium.file at bytes, left.no_longer, torn.no_longer);
    kept = λ i low synced.
        let was = still_synced i synced in
        let early : i < synced_len medium = elim (cases_lt i (synced_len medium)) [
          | inl early ↦ early
          | inr late ↦ absurd (let flag : true ≡ false = sym (appended i late) ∙ was.1 in cc)
        ] in
        same_torn from file torn i was.0 (omega (arith, left.no_shorter))
        ∙ left.kept i (omega (arith, left.no_shorter)) was.1
        ∙ sym (same_byte i was.0 (omega (arith, left.no_shorter, left.no_longer)));
  }

  module _ (left : List ℕ) (may : MayLeave (with_write medium at bytes) left) where
    -- the file before the write that this one results from
    from : List ℕ
    from = mix medium.written (take (length medium.file) left) medium.file

    size : length from ≡ min (length medium.file) (length left)
    unfolding from
    size = length-mix medium.written (take (length medium.file) left) medium.file
        (omega (arith, length-take (length medium.file) left)) ∙ length-take (length medium.file) left

    at_place : (i : ℕ) → i < length from → ((get_or medium.written i true ≡ true) × (get_or from i 0 ≡ get_or left i 0))
        ⊎ ((get_or medium.written i true ≡ false) × (get_or from i 0 ≡ get_or medium.file i 0))
    unfolding from
    at_place i low =
        let inside : i < length (take (length medium.file) left) =
        omega (arith, size, length-take (length medium.file) left) in
        elim (mix_at medium.written (take (length medium.file) left) medium.file i
        (omega (arith, length-take (length medium.file) left)) inside) [
          | inl here ↦ inl (here.0, here.1 ∙ get_or-take (length medium.file) left i 0 (omega (arith, size)))
          | inr here ↦ inr here
        ]

    same : (i : ℕ) → i < length from → IsOutside at (length bytes) i → get_or left i 0 ≡ get_or from i 0
    same i low outside = elim (at_place i low) [
      | inl here ↦ sym here.1
      | inr here ↦ may.kept i (omega (arith, size)) (same_flag i outside ∙ here.0)
          ∙ same_byte i outside (omega (arith, size)) ∙ sym here.1
    ]

    kept : (i : ℕ) → i < length from → IsSynced medium i → get_or from i 0 ≡ get_or medium.file i 0
    kept i low synced = elim (at_place i low) [
      | inl here ↦ absurd (let flag : true ≡ false = sym here.0 ∙ synced in cc)
      | inr here ↦ here.1
    ]

    came : (old : List ℕ) × MayLeave medium old × Torn at (length bytes) old left
    came = (
      from,
      record {
        no_shorter = omega (arith, size, same_synced_len, may.no_shorter);
        no_longer = omega (arith, size);
        kept = kept;
      },
      record {
        no_shorter = omega (arith, size);
        no_longer = omega (arith, size, may.no_longer, length-put_over 0 0 medium.file at bytes);
        before = λ i low under. same i low (inl under);
        behind = λ i low over. same i low (inr over);
      },
    )

  -- each file that a stop may leave after the write results from one before it by a torn write
  pub follows : ComesFrom (Torn at (length bytes)) (MayLeave medium) (MayLeave (with_write medium at bytes))
  follows = came

-- a stop leaves only the file if all of it is synced
pub only : (file : List ℕ) (room : ℕ) → Only file (MayLeave (all_synced file room))
only file room left may = ext_get_or 0 left file (omega (arith, may.no_shorter, may.no_longer))
    (λ i low. may.kept i low (get_or-replicate (length file) i false true (omega (arith, may.no_longer))))

-- the file that a given stop leaves is one of those that a stop may leave
pub may_be_left : (medium : MediumView) (torn : List ℕ) (len : ℕ) (left : List ℕ) → IsLeft medium torn len left
    → MayLeave medium left
may_be_left medium torn len left is = record {
  no_shorter = omega (arith, is.moved);
  no_longer = omega (arith, is.moved);
  kept = is.kept;
}
