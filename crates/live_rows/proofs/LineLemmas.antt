-- Lemmas on lines of known bytes.
use Rattle.std.proofs.Common.{◌≡◌, ◌≢◌, ◌⊎◌, inl, inr, ℕ, Bool, false, cond, eqb, append_assoc, length-append, Option, ◌+◌, ◌<◌, ◌≤◌, List, [], ◌∷◌, ◌++◌, Some, None, length, take, drop, take_all, take-append-drop, le_refl, true≢false, get_or, refl, sym, ap, subst, ◌∙◌, arith, true, eq-eqb, eqb-true, zero-le, get_or-take, length-take-le}
use Rattle.std.proofs.lemmas.List.{take_more}
use Rattle.std.proofs.lemmas.List.Elements.{All-from_get_or, All-nil, All-cons, All-append, All-same}
use Rattle.std.specs.Io.KnownBytes.{Consumes}
use Rattle.std.specs.Io.BufRead.{drop_through, DropsThrough}
use Rattle.memchr.specs.Find.{IsFirstByte, is_byte}
use Rattle.std.specs.Prelude.{is_some, MatchBool}
use Rattle.live_rows.specs.Lines.{HasLf, HasNoLf, ReadsLine}
use Rattle.live_rows.specs.declared.line_reader.TheConstants.{MAX_LINE_BYTES}
use Rattle.live_rows.specs.declared.line_reader.LineEnd.TheVariants.{Whole, TooLong}

-- a search that ended found no LF before its end
pub HasNoLf-before : (bytes : List ℕ) (len end : ℕ) → end ≤ len → len ≤ length bytes
    → ((k : ℕ) → k < end → is_byte 10 (get_or (take len bytes) k 0) ≢ true) → HasNoLf (take end bytes)
HasNoLf-before bytes len end within fits before =
    All-from_get_or (λ x. x ≢ 10) (take end bytes) 0 (λ i h e.
    let long = length-take-le end bytes (omega arith) in
    let low : i < end = omega arith in
    before i low (eq-eqb _ _ (get_or-take len bytes i 0 (omega arith) ∙ sym (get_or-take end bytes i 0 low) ∙ e)))

-- a search that found nothing
pub HasNoLf-none : (bytes : List ℕ) (len : ℕ) → len ≤ length bytes → IsFirstByte (is_byte 10) (take len bytes) None → HasNoLf (take len bytes)
HasNoLf-none bytes len fits h =
    let long = length-take-le len bytes fits in
    HasNoLf-before bytes len len (omega arith) fits (λ k low. h k zero-le (omega arith))

-- a search that found an LF
pub found_lf : (bytes : List ℕ) (len end : ℕ) → len ≤ length bytes → IsFirstByte (is_byte 10) (take len bytes) (Some end)
    → (end < len) × HasNoLf (take end bytes) × (take (end + 1) bytes ≡ take end bytes ++ 10 ∷ [])
found_lf bytes len end fits h =
    let long = length-take-le len bytes fits in
    let high = h.0.high in
    let before = h.0.before in
    let low : end < len = omega arith in (
      low,
      HasNoLf-before bytes len end (omega arith) fits (λ k below. before k zero-le below),
      take_more bytes end 0 (omega arith) ∙ ap (λ y. take end bytes ++ y ∷ []) (sym (get_or-take len bytes end 0 low) ∙ eqb-true _ _ h.1),
    )

-- the bytes begin with some that have no LF; then comes an LF and the rest, or the end
abbrev pub IsSkipped : List ℕ → List ℕ → Type 0
IsSkipped bytes rest = (front : List ℕ) × HasNoLf front × ((bytes ≡ front ++ 10 ∷ rest) ⊎ ((bytes ≡ front) × (rest ≡ [])))

pub skipped_line : (bytes : List ℕ) → IsSkipped bytes (drop_through 10 bytes)
skipped_line [] = ([], All-nil (λ x. x ≢ 10), inr (refl, refl))
skipped_line (x ∷ xs) = at (eqb x 10) refl (skipped_line xs)
  where
    at : (is : Bool) → eqb x 10 ≡ is → IsSkipped xs (drop_through 10 xs) → IsSkipped (x ∷ xs) (cond is xs (drop_through 10 xs))
    at true e rest = ([], All-nil (λ y. y ≢ 10), inl (ap (λ y. y ∷ xs) (eqb-true x 10 e)))
    at false e rest =
        let other : x ≢ 10 = (λ same. let yes = eq-eqb x 10 same in cc) in (
          x ∷ rest.0,
          All-cons (λ y. y ≢ 10) x rest.0 other rest.1,
          elim rest.2 [ inl p ↦ inl (ap (λ l. x ∷ l) p) | inr p ↦ inr (ap (λ l. x ∷ l) p.0, p.1) ],
        )

-- a part that ends with its LF makes a whole line of what was read before
pub ReadsLine-whole : (a b c : Option (List ℕ)) (line more whole : List ℕ) → Consumes a b line → Consumes b c (more ++ 10 ∷ [])
    → HasNoLf line → HasNoLf more → whole ≡ line ++ more → length whole ≤ MAX_LINE_BYTES → ReadsLine a whole c (Some Whole)
ReadsLine-whole None b c line more whole first second p q is fits = tt
ReadsLine-whole (Some x) None c line more whole first second p q is fits = absurd first
ReadsLine-whole (Some x) (Some y) None line more whole first second p q is fits = absurd second
ReadsLine-whole (Some x) (Some y) (Some z) line more whole first second p q is fits = (
  first ∙ ap (λ l. line ++ l) (second ∙ append_assoc more (10 ∷ []) z) ∙ sym (append_assoc line more (10 ∷ z)) ∙ ap (λ l. l ++ 10 ∷ z) (sym is),
  All-same (λ x. x ≢ 10) whole (line ++ more) is (All-append (λ x. x ≢ 10) line more p q),
  fits,
)

-- bytes without LF, more than a line has, and then a skip through the next LF
pub ReadsLine-too_long : (a b c d : Option (List ℕ)) (line more long : List ℕ) → Consumes a b line → Consumes b c more
    → HasNoLf line → HasNoLf more → long ≡ line ++ more → MAX_LINE_BYTES < length long → DropsThrough c d 10 → ReadsLine a long d (Some TooLong)
ReadsLine-too_long None b c d line more long first second p q is over drops = tt
ReadsLine-too_long (Some x) None c d line more long first second p q is over drops = absurd first
ReadsLine-too_long (Some x) (Some y) None d line more long first second p q is over drops = absurd second
ReadsLine-too_long (Some x) (Some y) (Some z) d line more long first second p q is over drops =
    let rest = skipped_line z in
    let joined : x ≡ long ++ z = first ∙ ap (λ l. line ++ l) second ∙ sym (append_assoc line more z) ∙ ap (λ l. l ++ z) (sym is) in
    let clean = All-same (λ y. y ≢ 10) long (line ++ more) is (All-append (λ y. y ≢ 10) line more p q) in
    subst (λ o. ReadsLine (Some x) long o (Some TooLong)) (sym drops) (
      long ++ rest.0,
      All-append (λ y. y ≢ 10) long rest.0 clean rest.1,
      omega (arith, length-append long rest.0),
      elim rest.2 [
        | inl e ↦ inl (joined ∙ ap (λ l. long ++ l) e ∙ sym (append_assoc long rest.0 (10 ∷ drop_through 10 z)))
        | inr e ↦ inr (joined ∙ ap (λ l. long ++ l) e.0, e.1)
      ],
    )

-- a search through bytes says whether there is an LF
lf_found : (bytes : List ℕ) (found : Option ℕ) → IsFirstByte (is_byte 10) bytes found
    → MatchBool (is_some found) (HasLf bytes) (HasNoLf bytes)
lf_found bytes (Some end) found =
    let all : take (length bytes) bytes ≡ bytes = take_all (length bytes) bytes (le_refl _) in
    let first = found_lf bytes (length bytes) end (le_refl _)
    (subst (λ l. IsFirstByte (is_byte 10) l (Some end)) (sym all) found) in (
      take end bytes,
      drop (end + 1) bytes,
      sym (take-append-drop (end + 1) bytes) ∙ ap (λ l. l ++ drop (end + 1) bytes) first.2
          ∙ append_assoc (take end bytes) (10 ∷ []) (drop (end + 1) bytes),
    )
lf_found bytes None found =
    let all : take (length bytes) bytes ≡ bytes = take_all (length bytes) bytes (le_refl _) in
    subst HasNoLf all (HasNoLf-none bytes (length bytes) (le_refl _)
    (subst (λ l. IsFirstByte (is_byte 10) l None) (sym all) found))

pub lf_there : (bytes : List ℕ) (found : Option ℕ) (is : Bool) → IsFirstByte (is_byte 10) bytes found → is ≡ is_some found
    → MatchBool is (HasLf bytes) (HasNoLf bytes)
lf_there bytes found is first same =
    subst (λ b. MatchBool b (HasLf bytes) (HasNoLf bytes)) (sym same) (lf_found bytes found first)
