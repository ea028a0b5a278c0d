-- Moments that rise.
use Rattle.std.proofs.Common.{◌≡◌, ◌∙◌, sym, refl, ap, ℕ, ◌+◌, ◌-◌, inl, inr, ◌<◌, List, [], ◌∷◌, ◌++◌, length, map}
use Rattle.std.proofs.Common.{get_or, Bool, true, false, Option, Some, None, arith}
use Rattle.std.specs.Prelude.{nat_lt}
use Rattle.std.specs.Bool.{MatchBool}
use Rattle.std.specs.List.{slice_get}
use Rattle.std.specs.List.Sorted.{IsStrictlyIncreasing}
use Rattle.std.proofs.lemmas.Bool.Decides.{nat_tests}
use Rattle.std.proofs.lemmas.Bool.{cases_lt}
use Rattle.std.proofs.lemmas.Option.{slice_get_within, slice_get-get_or}
use Rattle.std.proofs.lemmas.List.{get_or_at, get_or_push, get_or_append_left, map-append, length-append}
use Rattle.std.proofs.lemmas.List.Elements.{All-push}
use Rattle.st_types.specs.declared.limits.TheConstants.{MAX_ROWS}
use Rattle.st_meaning.specs.declared.plan.PlanInput.{PlanInput}
use Rattle.st_types.specs.Rows.{Latch}
use Rattle.image.specs.Plants.{AreRowsOf, IsRowOf, IsLater, IsNotLater}
use Rattle.st_types.proofs.ListLemmas.{length_push}

-- a list that is not empty has a last element
pub front_and_last : {X : Type 0} (x : X) (xs : List X)
    → (before : List X) × (last : X) × (x ∷ xs ≡ before ++ last ∷ [])
front_and_last x [] = ([], x, refl)
front_and_last x (y ∷ ys) = let (before, last, e) = front_and_last y ys in (x ∷ before, last, ap (λ l. x ∷ l) e)

last_at : {X : Type 0} (xs before : List X) (last : X) → xs ≡ before ++ last ∷ []
    → slice_get xs (length xs - 1) ≡ Some last
last_at xs before last e =
    let long : length xs ≡ length before + 1 = ap length e ∙ length_push before last in
    let place : length before ≡ length xs - 1 = omega arith in
    let at : get_or xs (length xs - 1) last ≡ last = ap (λ l. get_or l (length xs - 1) last) e
    ∙ get_or_at before last [] last (length xs - 1) place in
    slice_get-get_or xs (length xs - 1) last (omega arith) ∙ ap Some at

pub later_than_last : (rows : List Latch) (last : Latch) (moment : ℕ) → Some last ≡ slice_get rows (length rows - 1)
    → MatchBool (nat_lt last.moment moment) (IsLater rows moment) (IsNotLater rows moment)
later_than_last rows last moment e = by (nat_lt last.moment moment) refl
  where
    same : (before : List Latch) (other : Latch) → rows ≡ before ++ other ∷ [] → other.moment ≡ last.moment
    same before other is = let one : ◌≡◌ {A = Option Latch} (Some other) (Some last) =
        sym (last_at rows before other is) ∙ sym e in let two : other ≡ last = cc in ap (λ (r : Latch). r.moment) two

    split : (xs : List Latch) → rows ≡ xs → 0 < length xs
        → (before : List Latch) × (other : Latch) × (rows ≡ before ++ other ∷ [])
    split [] is some = absurd (omega arith)
    split (x ∷ xs) is some = let (before, other, parts) = front_and_last x xs in (before, other, is ∙ parts)

    by : (b : Bool) → nat_lt last.moment moment ≡ b → MatchBool b (IsLater rows moment) (IsNotLater rows moment)
    by true is = λ before other parts. let m = same before other parts in grind (arith, nat_tests)
    by false is =
        let some = slice_get_within rows (length rows - 1) last (sym e) in
        let (before, other, parts) = split rows refl (omega arith) in
        let m = same before other parts in
        (before, other, parts, grind (arith, nat_tests))

pub later_than_none : (rows : List Latch) (moment : ℕ) → ◌≡◌ {A = Option Latch} None (slice_get rows (length rows - 1))
    → IsLater rows moment
later_than_none rows moment e = λ before last parts. let at = last_at rows before last parts in cc

-- one number more
rising_push : (xs : List ℕ) (x : ℕ) → IsStrictlyIncreasing xs → ((k : ℕ) → k + 1 ≡ length xs → get_or xs k 0 < x)
    → IsStrictlyIncreasing (xs ++ x ∷ [])
rising_push xs x up last = λ k within.
    let long = length_push xs x in
    let here : get_or (xs ++ x ∷ []) k 0 ≡ get_or xs k 0 = get_or_append_left xs (x ∷ []) 0 k (omega arith) in
    elim (cases_lt (k + 1) (length xs)) [
      | inl less ↦
          let next : get_or (xs ++ x ∷ []) (k + 1) 0 ≡ get_or xs (k + 1) 0 =
          get_or_append_left xs (x ∷ []) 0 (k + 1) less in
          let step = up k less in
          omega arith
      | inr not_less ↦
          let end : k + 1 ≡ length xs = omega arith in
          let next : get_or (xs ++ x ∷ []) (k + 1) 0 ≡ x = get_or_push xs x 0 (k + 1) (sym end) in
          let step = last k end in
          omega arith
    ]

pub rows_push : (is : List PlanInput) (rows : List Latch) (row : Latch) → AreRowsOf is rows → IsRowOf is row
    → IsLater rows row.moment → length rows < MAX_ROWS → AreRowsOf is (rows ++ row ∷ [])
rows_push is rows row are fits later few = record {
  each = All-push (IsRowOf is) rows row are.each fits;
  rising = rw (map-append (λ (r : Latch). r.moment) rows (row ∷ []))
      (rising_push (map (λ (r : Latch). r.moment) rows) row.moment are.rising (before rows later));
  few = omega (arith, length_push rows row);
}
  where
    before : (xs : List Latch) → IsLater xs row.moment → (k : ℕ) → k + 1 ≡ length (map (λ (r : Latch). r.moment) xs)
        → get_or (map (λ (r : Latch). r.moment) xs) k 0 < row.moment
    before [] later k e = absurd (omega arith)
    before (x ∷ xs) later k e =
        let (front, last, parts) = front_and_last x xs in
        let moments = λ (rows : List Latch). map (λ (r : Latch). r.moment) rows in
        let joined : moments (x ∷ xs) ≡ moments front ++ last.moment ∷ [] = ap moments parts
        ∙ map-append (λ (r : Latch). r.moment) front (last ∷ []) in
        let long : length (moments (x ∷ xs)) ≡ length (moments front) + 1 = ap length joined
        ∙ length_push (moments front) last.moment in
        let at : get_or (moments (x ∷ xs)) k 0 ≡ last.moment = ap (λ l. get_or l k 0) joined
        ∙ get_or_at (moments front) last.moment [] 0 k (omega arith) in
        let less = later front last parts in
        omega arith
