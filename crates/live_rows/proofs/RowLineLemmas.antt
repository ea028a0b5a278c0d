-- Lemmas on lines and their fields.
use Rattle.std.proofs.Common.{◌≡◌, ◌≢◌, ℕ, zero, suc, ◌+◌, ◌<◌, ◌≤◌, ◌/◌, ◌%◌, Bool, true, false, cond, eqb, ne_eqb, List, [], ◌∷◌, ◌++◌, All, Some, None, length, take, drop, get_or, refl, sym, ap, ◌∙◌, arith, eq-eqb, eqb-true, zero-le, get_or-take, length-take-le, append_assoc, take-append-drop, take_all, subst}
use Rattle.std.proofs.Common.{◌-◌, add-one, drop-cons}
use Rattle.std.specs.Prelude.{Option, IfSome, IfNone, ℤ, pos, negsuc}
use Rattle.std.specs.Fmt.{decimal, signed_decimal, digits, digits_onto, digit_glyph}
use Rattle.std.proofs.lemmas.Grind.{common_steps}
use Rattle.std.proofs.lemmas.List.{take_more}
use Rattle.std.proofs.lemmas.List.Elements.{All-from_get_or, All-nil, All-cons, All-head, All-tail}
use Rattle.memchr.specs.Find.{IsFirstByte, is_byte}
use Rattle.st_types.specs.declared.limits.TheConstants.{MOMENT_LIMIT}
use Rattle.st_types.specs.Values.{Datum}
use Rattle.st_types.specs.Rows.{Latch}
use Rattle.image.specs.Plants.{Fields, spelled, spelled_values}
use Rattle.live_rows.specs.RowLines.{fields_after, fields_in, first_longer, joined, row_line}

-- bytes without a comma
abbrev pub HasNoComma : List ℕ → Type 0
HasNoComma bytes = All (λ x. x ≢ 44) bytes

-- bytes without a comma are one field
pub fields_in-clean : (field : List ℕ) → HasNoComma field → fields_in field ≡ field ∷ []
fields_in-clean [] clean = refl
fields_in-clean (x ∷ xs) clean =
    let other = ne_eqb x 44 (All-head (λ y. y ≢ 44) x xs clean) in
    let more = fields_in-clean xs (All-tail (λ y. y ≢ 44) x xs clean) in
    ap (λ b. cond b ([] ∷ fields_in xs) (first_longer x (fields_in xs))) other ∙ ap (first_longer x) more

-- the first comma ends the first field
pub fields_in-cut : (field rest : List ℕ) → HasNoComma field → fields_in (field ++ 44 ∷ rest) ≡ field ∷ fields_in rest
fields_in-cut [] rest clean = ap (λ b. cond b ([] ∷ fields_in rest) (first_longer 44 (fields_in rest))) (eq-eqb 44 44 refl)
fields_in-cut (x ∷ xs) rest clean =
    let other = ne_eqb x 44 (All-head (λ y. y ≢ 44) x xs clean) in
    let more = fields_in-cut xs rest (All-tail (λ y. y ≢ 44) x xs clean) in
    ap (λ b. cond b ([] ∷ fields_in (xs ++ 44 ∷ rest)) (first_longer x (fields_in (xs ++ 44 ∷ rest)))) other ∙ ap (first_longer x) more

-- one byte more in front of the first field is one more in front of the joined bytes
pub joined_longer : (x : ℕ) (fs : Fields) → joined (first_longer x fs) ≡ x ∷ joined fs
joined_longer x [] = refl
joined_longer x (f ∷ []) = refl
joined_longer x (f ∷ g ∷ gs) = refl

-- an empty first field is a comma in front
joined_empty : (fs : Fields) → fs ≢ [] → joined ([] ∷ fs) ≡ 44 ∷ joined fs
joined_empty [] some = absurd (some refl)
joined_empty (f ∷ fs) some = refl

-- bytes have one field at least
pub fields_in-some : (bytes : List ℕ) → fields_in bytes ≢ []
fields_in-some [] e = cc
fields_in-some (x ∷ xs) e = at (eqb x 44) (fields_in xs) e
  where
    at : (b : Bool) (fs : Fields) → cond b ([] ∷ fs) (first_longer x fs) ≡ [] → ⊥
    at true fs e = cc
    at false [] e = cc
    at false (f ∷ fs) e = cc

-- the fields of bytes with commas between them are the bytes
pub joined-fields : (bytes : List ℕ) → joined (fields_in bytes) ≡ bytes
joined-fields [] = refl
joined-fields (x ∷ xs) = at (eqb x 44) refl (joined-fields xs)
  where
    at : (b : Bool) → eqb x 44 ≡ b → joined (fields_in xs) ≡ xs → joined (cond b ([] ∷ fields_in xs) (first_longer x (fields_in xs))) ≡ x ∷ xs
    at true e same = joined_empty (fields_in xs) (fields_in-some xs) ∙ ap (λ l. 44 ∷ l) same ∙ ap (λ y. y ∷ xs) (sym (eqb-true x 44 e))
    at false e same = joined_longer x (fields_in xs) ∙ ap (λ l. x ∷ l) same

-- no field has a comma
abbrev pub HaveNoComma : Fields → Type 0
HaveNoComma [] = Unit {0}
HaveNoComma (f ∷ fs) = HasNoComma f × HaveNoComma fs

-- fields without commas, with commas between them, are the fields again
pub fields-joined : (f : List ℕ) (fs : Fields) → HasNoComma f → HaveNoComma fs → fields_in (joined (f ∷ fs)) ≡ f ∷ fs
fields-joined f [] clean all = fields_in-clean f clean
fields-joined f (g ∷ gs) clean all = fields_in-cut f (joined (g ∷ gs)) clean ∙ ap (λ l. f ∷ l) (fields-joined g gs all.0 all.1)

-- digits are no commas
glyph_clean : (d : ℕ) → d < 10 → digit_glyph false d ≢ 44
glyph_clean d small = grind (arith, common_steps)

digits_clean : (k n : ℕ) (acc : List ℕ) → HasNoComma acc → HasNoComma (digits_onto k 10 false n acc)
digits_clean zero n acc clean = clean
digits_clean (suc k) n acc clean =
    let more = All-cons (λ x. x ≢ 44) (digit_glyph false (n % 10)) acc (glyph_clean (n % 10) (omega arith)) clean in
    at (eqb (n / 10) 0) (digit_glyph false (n % 10) ∷ acc) (digits_onto k 10 false (n / 10) (digit_glyph false (n % 10) ∷ acc)) more (digits_clean k (n / 10) (digit_glyph false (n % 10) ∷ acc) more)
  where
    at : (b : Bool) (xs ys : List ℕ) → HasNoComma xs → HasNoComma ys → HasNoComma (cond b xs ys)
    at true xs ys p q = p
    at false xs ys p q = q

pub decimal_clean : (n : ℕ) → HasNoComma (decimal n)
unfolding digits
decimal_clean n = digits_clean 64 n [] (All-nil (λ x. x ≢ 44))

pub signed_clean : (z : ℤ) → HasNoComma (signed_decimal z)
signed_clean (pos n) = decimal_clean n
signed_clean (negsuc n) = All-cons (λ x. x ≢ 44) 45 (decimal (suc n)) (λ e. absurd (omega arith)) (decimal_clean (suc n))

pub values_clean : (values : List Datum) → HaveNoComma (spelled_values values)
values_clean [] = tt
values_clean (v ∷ vs) = (signed_clean v.number, values_clean vs)

-- a line that spells a row has its fields
pub fields_of_row : (row : Latch) → fields_in (row_line row) ≡ spelled row
fields_of_row row = fields-joined (decimal row.moment) (spelled_values row.image) (decimal_clean row.moment) (values_clean row.image)

-- a search that found no comma before its end
clean_before : (bytes : List ℕ) (end : ℕ) → end ≤ length bytes → ((k : ℕ) → k < end → is_byte 44 (get_or bytes k 0) ≢ true) → HasNoComma (take end bytes)
clean_before bytes end within before =
    All-from_get_or (λ x. x ≢ 44) (take end bytes) 0 (λ i h e.
    let long = length-take-le end bytes within in
    let low : i < end = omega arith in
    before i low (eq-eqb _ _ (sym (get_or-take end bytes i 0 low) ∙ e)))

-- a search that found nothing: all is one field
pub one_field : (bytes : List ℕ) → IsFirstByte (is_byte 44) bytes None → fields_in bytes ≡ bytes ∷ []
one_field bytes h =
    let all = take_all (length bytes) bytes (omega arith) in
    fields_in-clean bytes (subst HasNoComma all (clean_before bytes (length bytes) (omega arith) (λ k low. h k zero-le low)))

-- a search that found a comma: it ends the first field
pub field_before : (bytes : List ℕ) (end : ℕ) → IsFirstByte (is_byte 44) bytes (Some end) → (end < length bytes) × (fields_in bytes ≡ take end bytes ∷ fields_in (drop (end + 1) bytes))
field_before bytes end h =
    let high : end < length bytes = h.0.high in
    let before = h.0.before in
    let is = eqb-true (get_or bytes end 0) 44 h.1 in
    let front : take (end + 1) bytes ≡ take end bytes ++ 44 ∷ [] = take_more bytes end 0 high ∙ ap (λ y. take end bytes ++ y ∷ []) is in
    let split : bytes ≡ take end bytes ++ 44 ∷ drop (end + 1) bytes =
    sym (take-append-drop (end + 1) bytes) ∙ ap (λ l. l ++ drop (end + 1) bytes) front ∙ append_assoc (take end bytes) (44 ∷ []) (drop (end + 1) bytes) in
    (high, ap fields_in split ∙ fields_in-cut (take end bytes) (drop (end + 1) bytes) (clean_before bytes end (omega arith) (λ k below. before k zero-le below)))

-- behind a first byte are the fields of the bytes after it
pub fields_after-some : (bytes : List ℕ) → 0 < length bytes
    → fields_after bytes ≡ fields_in (take (length bytes - 1) (drop 1 bytes))
fields_after-some [] some = absurd (omega arith)
fields_after-some (x ∷ xs) some = ap fields_in (sym (take_all (suc (length xs) - 1) xs (omega arith)))

pub fields_after-drop : (bytes : List ℕ) (end : ℕ) → end < length bytes
    → fields_after (drop end bytes) ≡ fields_in (drop (end + 1) bytes)
fields_after-drop bytes end within = rw add-one (ap fields_after (drop-cons bytes end 0 within))

-- so there are fields only if there are bytes
pub fields_after-none : (bytes : List ℕ) → length bytes < 1 → length (fields_after bytes) ≡ 0
fields_after-none [] none = refl
fields_after-none (x ∷ xs) none = absurd (omega arith)

pub fields_after-many : (bytes : List ℕ) → 0 < length bytes → 0 < length (fields_after bytes)
fields_after-many [] some = absurd (omega arith)
fields_after-many (x ∷ xs) some = at (fields_in xs) (fields_in-some xs)
  where
    at : (fs : Fields) → fs ≢ [] → 0 < length fs
    at [] other = absurd (other refl)
    at (f ∷ fs) other = omega arith

-- a field more, and the fields of the rest after it
pub fields_more : (bytes : List ℕ) (end : ℕ) (old new : Fields) (partial : List ℕ) → IsFirstByte (is_byte 44) bytes (Some end)
    → partial ≡ [] → new ≡ old ++ (partial ++ take end bytes) ∷ [] → new ++ fields_in (drop (end + 1) bytes) ≡ old ++ fields_in bytes
fields_more bytes end old new partial h whole is =
    let cut = (field_before bytes end h).1 in
    ap (λ fs. fs ++ fields_in (drop (end + 1) bytes)) (is ∙ ap (λ p. old ++ (p ++ take end bytes) ∷ []) whole)
    ∙ append_assoc old (take end bytes ∷ []) (fields_in (drop (end + 1) bytes)) ∙ ap (λ fs. old ++ fs) (sym cut)

-- the last field
pub fields_last : (bytes : List ℕ) (old new : Fields) (partial : List ℕ) → IsFirstByte (is_byte 44) bytes None
    → partial ≡ [] → new ≡ old ++ (partial ++ bytes) ∷ [] → new ≡ old ++ fields_in bytes
fields_last bytes old new partial h whole is =
    is ∙ ap (λ p. old ++ (p ++ bytes) ∷ []) whole ∙ ap (λ fs. old ++ fs) (sym (one_field bytes h))

-- what a search for a moment says of the first field
pub first_spelled : (r : Option ℕ) (first field : List ℕ) → first ≡ field → IfSome r (λ n. field ≡ decimal n) → IfSome r (λ n. first ≡ decimal n)
first_spelled None first field same h = tt
first_spelled (Some n) first field same h = same ∙ h

pub first_not_spelled : (r : Option ℕ) (first field : List ℕ) → first ≡ field → IfNone r ((n : ℕ) → n < MOMENT_LIMIT → field ≢ decimal n)
    → IfNone r ((n : ℕ) → n < MOMENT_LIMIT → first ≢ decimal n)
first_not_spelled None first field same h = λ n small e. h n small (sym same ∙ e)
first_not_spelled (Some n) first field same h = tt
