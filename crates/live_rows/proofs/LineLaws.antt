-- The lines that bytes begin with.
use Rattle.std.proofs.Common.{◌≡◌, ◌≢◌, inl, inr, ℕ, List, [], ◌∷◌, ◌++◌, length, refl, sym, ap, ◌∙◌, arith}
use Rattle.std.proofs.lemmas.Bool.{cases_lt}
use Rattle.std.proofs.lemmas.List.Elements.{All-head, All-tail}
use Rattle.live_rows.specs.Lines.{HasNoLf, BeginsWith}
use Rattle.live_rows.specs.declared.line_reader.TheConstants.{MAX_LINE_BYTES}
use Rattle.live_rows.specs.declared.line_reader.LineEnd.{LineEnd}
use Rattle.live_rows.specs.declared.line_reader.LineEnd.TheVariants.{Whole, TooLong, Unfinished}
use Rattle.live_rows.proofs.LineLemmas.{skipped_line}

head_is : (x y : ℕ) (xs ys : List ℕ) → x ∷ xs ≡ y ∷ ys → (x ≡ y) × (xs ≡ ys)
head_is x y xs ys e = (cc, cc)

-- bytes have one first LF
pub cut_once : (xs ys r s : List ℕ) → HasNoLf xs → HasNoLf ys → xs ++ 10 ∷ r ≡ ys ++ 10 ∷ s → (xs ≡ ys) × (r ≡ s)
cut_once [] [] r s p q e = (refl, (head_is 10 10 r s e).1)
cut_once [] (y ∷ ys) r s p q e = absurd (All-head (λ z. z ≢ 10) y ys q (sym (head_is 10 y r (ys ++ 10 ∷ s) e).0))
cut_once (x ∷ xs) [] r s p q e = absurd (All-head (λ z. z ≢ 10) x xs p (head_is x 10 (xs ++ 10 ∷ r) s e).0)
cut_once (x ∷ xs) (y ∷ ys) r s p q e =
    let parts = head_is x y (xs ++ 10 ∷ r) (ys ++ 10 ∷ s) e in
    let rest = cut_once xs ys r s (All-tail (λ z. z ≢ 10) x xs p) (All-tail (λ z. z ≢ 10) y ys q) parts.1 in
    (ap (λ l. x ∷ l) rest.0 ∙ ap (λ z. z ∷ ys) parts.0, rest.1)

-- bytes with an LF are not bytes without one
pub never_cut : (xs ys r : List ℕ) → HasNoLf ys → xs ++ 10 ∷ r ≢ ys
never_cut [] [] r q e = cc
never_cut [] (y ∷ ys) r q e = All-head (λ z. z ≢ 10) y ys q (sym (head_is 10 y r ys e).0)
never_cut (x ∷ xs) [] r q e = cc
never_cut (x ∷ xs) (y ∷ ys) r q e = never_cut xs ys r (All-tail (λ z. z ≢ 10) y ys q) (head_is x y (xs ++ 10 ∷ r) ys e).1

-- two lines of the same bytes end alike
whole_not_long : (bytes line other rest left : List ℕ) → BeginsWith Whole line bytes rest → BeginsWith TooLong other bytes left → ⊥
whole_not_long bytes line other rest left a b =
    elim b.3 [
      | inl e ↦ let same = ap length (cut_once line b.0 rest left a.1 b.1 (sym a.0 ∙ e)).0 in omega (arith, a.2, b.2)
      | inr e ↦ never_cut line b.0 rest b.1 (sym a.0 ∙ e.0)
    ]

whole_not_unfinished : (bytes line other rest left : List ℕ) → BeginsWith Whole line bytes rest → BeginsWith Unfinished other bytes left → ⊥
whole_not_unfinished bytes line other rest left a b = never_cut line other rest b.2 (sym a.0 ∙ b.0)

long_not_unfinished : (bytes line other rest left : List ℕ) → BeginsWith TooLong line bytes rest → BeginsWith Unfinished other bytes left → ⊥
long_not_unfinished bytes line other rest left a b =
    elim a.3 [
      | inl e ↦ never_cut a.0 other rest b.2 (sym e ∙ b.0)
      | inr e ↦ let same = ap length (sym e.0 ∙ b.0) in omega (arith, a.2, b.3)
    ]

long_rest : (bytes line other rest left : List ℕ) → BeginsWith TooLong line bytes rest → BeginsWith TooLong other bytes left → rest ≡ left
long_rest bytes line other rest left a b =
    elim a.3 [
      | inl e ↦ elim b.3 [
        | inl f ↦ (cut_once a.0 b.0 rest left a.1 b.1 (sym e ∙ f)).1
        | inr f ↦ absurd (never_cut a.0 b.0 rest b.1 (sym e ∙ f.0))
      ]
      | inr e ↦ elim b.3 [
        | inl f ↦ absurd (never_cut b.0 a.0 left a.1 (sym f ∙ e.0))
        | inr f ↦ e.1 ∙ sym f.1
      ]
    ]

pub one_line : (bytes line other rest left : List ℕ) (end finish : LineEnd) → BeginsWith end line bytes rest → BeginsWith finish other bytes left
    → (end ≡ finish) × (rest ≡ left) × (end ≢ TooLong → line ≡ other)
one_line bytes line other rest left Whole Whole a b =
    let same = cut_once line other rest left a.1 b.1 (sym a.0 ∙ b.0) in
    (refl, same.1, λ _. same.0)
one_line bytes line other rest left Whole TooLong a b = absurd (whole_not_long bytes line other rest left a b)
one_line bytes line other rest left Whole Unfinished a b = absurd (whole_not_unfinished bytes line other rest left a b)
one_line bytes line other rest left TooLong Whole a b = absurd (whole_not_long bytes other line left rest b a)
one_line bytes line other rest left TooLong TooLong a b = (refl, long_rest bytes line other rest left a b, λ never. absurd (never refl))
one_line bytes line other rest left TooLong Unfinished a b = absurd (long_not_unfinished bytes line other rest left a b)
one_line bytes line other rest left Unfinished Whole a b = absurd (whole_not_unfinished bytes other line left rest b a)
one_line bytes line other rest left Unfinished TooLong a b = absurd (long_not_unfinished bytes other line left rest b a)
one_line bytes line other rest left Unfinished Unfinished a b = (refl, a.1 ∙ sym b.1, λ _. sym a.0 ∙ b.0)

-- bytes begin with a line, unless there are none
abbrev pub HasLine : List ℕ → Type 0
HasLine bytes = (end : LineEnd) × (line : List ℕ) × (rest : List ℕ) × BeginsWith end line bytes rest

pub some_line : (bytes : List ℕ) → bytes ≢ [] → HasLine bytes
some_line bytes some =
    let cut = skipped_line bytes in
    elim (cases_lt MAX_LINE_BYTES (length cut.0)) [
      | inl over ↦ (TooLong, [], _, (cut.0, cut.1, over, cut.2))
      | inr fits ↦ elim cut.2 [
        | inl e ↦ (Whole, cut.0, _, (e, cut.1, fits))
        | inr e ↦ (Unfinished, cut.0, _, (e.0, e.1, cut.1, fits, λ none. some (e.0 ∙ none)))
      ]
    ]
