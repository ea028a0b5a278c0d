-- Splitting bytes as the code does it.
use Rattle.std.proofs.Common.{◌≡◌, ℕ, suc, ◌+◌, ◌-◌, ◌<◌, true, false, cond, ltb, List, [], ◌∷◌, length, take, drop}
use Rattle.std.proofs.Common.{Option, Some, None, refl, sym, ap, ◌∙◌, arith, inl, inr}
use Rattle.std.specs.Prelude.{◌==◌, position}
use Rattle.std.specs.List.{position_or_len}
use Rattle.std.proofs.lemmas.Bool.{lt-ltb, le-ltb, cases_lt, cases_Bool}
use Rattle.std.proofs.lemmas.List.{take_rest, length-append}
use Rattle.std.proofs.lemmas.Option.{none-some, same_Some, cond_some}
use Rattle.retain_records.specs.Splits.{◌>>=◌, split_at, parted}
use Rattle.retain_records.specs.SplitLaws.{bind_some, chosen, split_takes}

-- the parts at an offset
abbrev pub parts_at_place : List ℕ → ℕ → List ℕ × List ℕ
parts_at_place bytes n = (take n bytes, drop (suc n) bytes)

abbrev placed : List ℕ → ℕ → Option (List ℕ × List ℕ)
placed bytes n = cond (ltb n (length bytes)) (Some (parts_at_place bytes n)) None

placed_more : (b : ℕ) (bytes : List ℕ) (n : ℕ)
    → placed (b ∷ bytes) (1 + n) ≡ (placed bytes n >>= λ p. Some (b ∷ p.0, p.1))
placed_more b bytes n = elim (cases_lt n (length bytes)) [
  | inl lt ↦
      let t : ltb n (length bytes) ≡ true = lt-ltb n (length bytes) lt in
      let u : ltb (1 + n) (length (b ∷ bytes)) ≡ true = lt-ltb (1 + n) (length (b ∷ bytes)) (omega arith) in
      let e : 1 + n ≡ suc n = omega arith in
      rw (u, t, e) refl
  | inr le ↦
      let t : ltb n (length bytes) ≡ false = le-ltb n (length bytes) le in
      let u : ltb (1 + n) (length (b ∷ bytes)) ≡ false = le-ltb (1 + n) (length (b ∷ bytes)) (omega arith) in
      rw (u, t) refl
]

cut_placed : (mark : ℕ) (bytes : List ℕ) → split_at mark bytes ≡ placed bytes (position_or_len (λ b. b == mark) bytes)
cut_placed mark [] = refl
cut_placed mark (b ∷ bytes) = elim (cases_Bool (b == mark)) [
  | inl here ↦ rw (here, lt-ltb 0 (length (b ∷ bytes)) (omega arith)) refl
  | inr later ↦ rw (later, placed_more b bytes (position_or_len (λ c. c == mark) bytes), cut_placed mark bytes) refl
]

pub cut_none : (mark : ℕ) (bytes : List ℕ) → position (λ b. b == mark) bytes ≡ None → split_at mark bytes ≡ None
cut_none mark bytes e = elim (chosen (ltb (position_or_len (λ b. b == mark) bytes) (length bytes))
    (Some (position_or_len (λ b. b == mark) bytes)) None None e) [
      | inl found ↦ let bad = found.1 in absurd (none-some (position_or_len (λ b. b == mark) bytes) (sym bad))
      | inr past ↦ cut_placed mark bytes ∙ rw past.0 refl
    ]

pub cut_some : (mark : ℕ) (bytes : List ℕ) (n : ℕ) → position (λ b. b == mark) bytes ≡ Some n
    → split_at mark bytes ≡ Some (take n bytes, take (length bytes - (n + 1)) (drop (n + 1) bytes))
cut_some mark bytes n e =
    let f = cond_some (ltb (position_or_len (λ b. b == mark) bytes) (length bytes))
    (position_or_len (λ b. b == mark) bytes) n e in
    let m : n + 1 ≡ suc n = omega arith in
    let whole : take (length bytes - suc n) (drop (suc n) bytes) ≡ drop (suc n) bytes = take_rest bytes (suc n) in
    cut_placed mark bytes ∙ rw (f.0, f.1, m, whole) refl

-- the bytes before the first mark are the first part
pub parted_at_none : (mark : ℕ) (bytes : List ℕ) → split_at mark bytes ≡ None → parted mark bytes ≡ bytes ∷ []
parted_at_none mark [] e = refl
parted_at_none mark (b ∷ bytes) e =
    elim (chosen (b == mark) (Some ([], bytes)) (split_at mark bytes >>= λ p. Some (b ∷ p.0, p.1)) None e) [
      | inl here ↦ let bad = here.1 in absurd cc
      | inr later ↦ rw (later.0, parted_at_none mark bytes (none_before (split_at mark bytes) later.1)) refl
    ]
  where
    one_more : List ℕ × List ℕ → Option (List ℕ × List ℕ)
    one_more p = Some (b ∷ p.0, p.1)

    none_before : (o : Option (List ℕ × List ℕ)) → (o >>= one_more) ≡ None → o ≡ None
    none_before None e = refl
    none_before (Some p) e = absurd cc

pub parted_at : (mark : ℕ) (bytes front behind : List ℕ) → split_at mark bytes ≡ Some (front, behind)
    → parted mark bytes ≡ front ∷ parted mark behind
parted_at mark [] front behind e = absurd cc
parted_at mark (b ∷ bytes) front behind e =
    elim (chosen (b == mark) (Some ([], bytes)) (split_at mark bytes >>= λ p. Some (
      b
          ∷ p.0,
      p.1,
    )) (Some (front, behind)) e) [
      | inl here ↦
          let same = same_Some ([], bytes) (front, behind) here.1 in
          rw here.0 (ap (λ (p : List ℕ × List ℕ). p.0 ∷ parted mark p.1) same)
      | inr later ↦
          let a = bind_some (split_at mark bytes) (λ p. Some (b ∷ p.0, p.1)) (front, behind) later.1 in
          let same = same_Some (b ∷ a.0.0, a.0.1) (front, behind) a.2 in
          rw (later.0, parted_at mark bytes a.0.0 a.0.1 a.1)
          (ap (λ (p : List ℕ × List ℕ). p.0 ∷ parted mark p.1) same)
    ]

-- the rest after a comma is shorter
pub shorter_behind : (rest x behind : List ℕ) → split_at 44 rest ≡ Some (x, behind) → length behind < length rest
shorter_behind rest x behind e =
    omega (arith, ap length (split_takes 44 rest (x, behind) e), length-append x (44 ∷ behind))
