-- The lexer's results: names are words, numbers have at most 64 bits, durations at most 63, and no token is an enumerated
-- type or has one before a `#`.
use Rattle.std.proofs.Common.{◌≡◌, refl, sym, ap, ap₂, ◌∙◌, subst, ℕ, suc, zero, ◌+◌, ◌^◌, ◌<◌, Bool, true, false, not}
use Rattle.std.proofs.Common.{◌&&◌, ◌||◌, ◌==◌, cond, List, [], ◌∷◌, length, take, drop, Option, Some, None, arith}
use Rattle.std.proofs.Common.{inl, inr}
use Rattle.std.specs.Prelude.{nat_le, nat_lt, IfSome, if◌then◌else◌}
use Rattle.std.specs.Option.{option_map, option_or, unwrap_or}
use Rattle.std.specs.List.{list_all, list_any, prefix_len}
use Rattle.std.specs.Char.{to_ascii_uppercase, is_ascii_digit}
use Rattle.std.specs.Str.{str_eq_ignore_ascii_case}
use Rattle.std.proofs.lemmas.Bool.{ltb-true, cases_eq, ne_eqb, or_parts, and_parts, and_from}
use Rattle.std.proofs.lemmas.Bool.Decides.{nat_tests}
use Rattle.st_types.specs.declared.limits.TheConstants.{MAX_NAME_LENGTH}
use Rattle.st_types.specs.declared.kind.Kind.{Kind}
use Rattle.st_types.specs.Kinds.{row_of}
use Rattle.st_types.specs.UpperNames.{is_spaced, ends_or_underscore}
use Rattle.st_types.specs.UpperNames.{is_letter, is_letter_or_digit, is_upper_name}
use Rattle.st_lex.specs.declared.fault.LexFault.{LexFault}
use Rattle.st_lex.specs.declared.fault.LexFault.TheVariants as faults
use Rattle.st_lex.specs.declared.front.Front.{Front}
use Rattle.st_lex.specs.declared.front.Front.TheVariants as fronts
use Rattle.st_lex.specs.declared.keyword.Keyword.TheVariants as keywords_of
use Rattle.st_lex.specs.declared.mark.Mark.{Mark}
use Rattle.st_lex.specs.declared.token.Token.{Token}
use Rattle.st_lex.specs.declared.token.TokenKind.{TokenKind}
use Rattle.st_lex.specs.declared.token.TokenKind.TheVariants as tokens
use Rattle.st_lex.specs.declared.token.WholeNumber.{WholeNumber}
use Rattle.st_lex.specs.Tables.{lookup}
use Rattle.st_lex.specs.Characters.{is_allowed, is_space, is_word_character}
use Rattle.st_lex.specs.Characters.{begins}
use Rattle.st_lex.specs.Comments.{to_close, to_open, comment_front}
use Rattle.st_lex.specs.Numbers.{numeral, is_numeral, value_from, below, bases, in_base, based, before_hash}
use Rattle.st_lex.specs.Numbers.{after_hash, magnitude, is_whole, with_type, typed, untyped, whole_number}
use Rattle.st_lex.specs.ReservedWords.{types, keyword_of, elementary, bool_word, reserved}
use Rattle.st_lex.specs.Literals as literals
use Rattle.st_lex.specs.Literals.{literal}
use Rattle.st_lex.specs.Durations.{duration, is_duration, milliseconds, fits, parts}
use Rattle.st_lex.specs.TimeUnits.{units}
use Rattle.st_lex.specs.Addresses.{address}
use Rattle.st_lex.specs.Words.{word_length, upper, must_be_literal, is_identifier, named, read_as, identifier, is_name}
use Rattle.st_lex.specs.Words.{begins_duration, enumerated, literal_of, word_front}
use Rattle.st_lex.specs.Marks.{longest_mark, read_mark, mark_front}
use Rattle.st_lex.specs.Fronts.{front_of}
use Rattle.st_lex.specs.Texts.{Spells, ends, blank, token}
use Rattle.config.specs.PlainDeclarations.{is_elementary, is_short, is_type_word}

-- the requirements on a token
abbrev pub is_plain_kind : TokenKind → Bool
is_plain_kind (tokens.Name x) = is_upper_name x
is_plain_kind (tokens.Elementary k) = is_elementary k
is_plain_kind (tokens.Number n) = is_short n.magnitude && is_type_word n.written
is_plain_kind (tokens.Duration d) = nat_lt d (2 ^ 63)
is_plain_kind _ = true

abbrev pub is_plain_token : Token → Bool
is_plain_token t = is_plain_kind t.kind

abbrev PlainKind : TokenKind → Type 0
PlainKind k = is_plain_kind k ≡ true

abbrev IsPlainFront : Front → Type 0
IsPlainFront (fronts.Token kind n) = PlainKind kind
IsPlainFront f = Unit {0}

-- options
either : {A : Type 0} (P : A → Type 0) (o p : Option A) → IfSome o P → IfSome p P → IfSome (option_or o p) P
either P None p h g = g
either P (Some x) p h g = h

mapped : {A B : Type 0} (P : B → Type 0) (f : A → B) (o : Option A) → IfSome o (λ x. P (f x))
    → IfSome (option_map f o) P
mapped P f None h = tt
mapped P f (Some x) h = h

each : {A : Type 0} (f : A → TokenKind) (o : Option A) → ((x : A) → PlainKind (f x))
    → IfSome (option_map f o) PlainKind
each f None h = tt
each f (Some x) h = h x

-- numbers
abbrev Short : ℕ → Type 0
Short n = is_short n ≡ true

below_limit : (limit n : ℕ) → IfSome (below limit n) (λ m. nat_lt m limit ≡ true)
below_limit limit n = by_test (nat_lt n limit) refl
  where
    by_test : (b : Bool) → nat_lt n limit ≡ b → IfSome (if b then Some n else None) (λ m. nat_lt m limit ≡ true)
    by_test true h = h
    by_test false h = tt

numeral_short : (base : ℕ) (word : List ℕ) → IfSome (numeral base word) Short
unfolding numeral
numeral_short base word = by_test (is_numeral base word)
  where
    by_test : (b : Bool) → IfSome (if b then below (2 ^ 64) (value_from base 0 word) else None) Short
    by_test true = below_limit (2 ^ 64) (value_from base 0 word)
    by_test false = tt

in_base_short : (o : Option ℕ) (word : List ℕ) → IfSome (in_base o word) Short
in_base_short None word = tt
in_base_short (Some base) word = numeral_short base word

based_short : (word : List ℕ) → IfSome (based word) Short
unfolding based
based_short word = in_base_short (lookup bases (before_hash word)) (after_hash word)

magnitude_short : (word : List ℕ) → IfSome (magnitude word) Short
unfolding magnitude
magnitude_short word = either Short (numeral 10 word) (based word) (numeral_short 10 word) (based_short word)

abbrev PlainNumber : WholeNumber → Type 0
PlainNumber n = (is_short n.magnitude && is_type_word n.written) ≡ true

-- reserved words
lookup_each : {A : Type 0} (p : A → Bool) (rows : List (List ℕ × A)) (word : List ℕ)
    → list_all (λ row. p row.1) rows ≡ true → IfSome (lookup rows word) (λ x. p x ≡ true)
lookup_each p [] word h = tt
lookup_each p (row ∷ rows) word h =
    let b = and_parts (p row.1) (list_all (λ r. p r.1) rows) h in
    by_test (str_eq_ignore_ascii_case row.0 word) b.0 (lookup_each p rows word b.1)
  where
    by_test : (b : Bool) → p row.1 ≡ true → IfSome (lookup rows word) (λ x. p x ≡ true)
        → IfSome (if b then Some row.1 else lookup rows word) (λ x. p x ≡ true)
    by_test true here rest = here
    by_test false here rest = rest

elementary_plain : (word : List ℕ) → IfSome (elementary word) (λ k. is_elementary k ≡ true)
unfolding elementary
elementary_plain word = lookup_each is_elementary types word refl

-- typed and untyped numbers
with_type_plain : (o : Option Kind) (p : Option ℕ) → IfSome o (λ k. is_elementary k ≡ true) → IfSome p Short
    → IfSome (with_type o p) PlainNumber
with_type_plain None None g h = tt
with_type_plain None (Some n) g h = tt
with_type_plain (Some kind) None g h = tt
with_type_plain (Some kind) (Some n) g h = by_test (is_whole (row_of kind).sort)
  where
    by_test : (b : Bool)
        → IfSome (if b then Some (record { written = Some kind; magnitude = n; is_decimal = false }) else None)
        PlainNumber
    by_test true = and_from (is_short n) (is_elementary kind) h g
    by_test false = tt

typed_plain : (word : List ℕ) → IfSome (typed word) PlainNumber
unfolding typed
typed_plain word =
    with_type_plain (elementary (before_hash word)) (magnitude (after_hash word)) (elementary_plain (before_hash word))
    (magnitude_short (after_hash word))

untyped_plain : (is_decimal : Bool) (o : Option ℕ) → IfSome o Short
    → IfSome (option_map (untyped is_decimal) o) PlainNumber
untyped_plain is_decimal None h = tt
untyped_plain is_decimal (Some n) h = and_from (is_short n) true h refl

number_plain : (word : List ℕ) → IfSome (whole_number word) PlainNumber
unfolding whole_number
number_plain word =
    either PlainNumber (option_map (untyped true) (numeral 10 word))
    (option_or (option_map (untyped false) (based word)) (typed word))
    (untyped_plain true (numeral 10 word) (numeral_short 10 word))
    (either PlainNumber (option_map (untyped false) (based word)) (typed word)
    (untyped_plain false (based word) (based_short word)) (typed_plain word))

-- durations
fits_short : (o : Option ℕ) → IfSome (fits o) (λ d. nat_lt d (2 ^ 63) ≡ true)
fits_short None = tt
fits_short (Some n) = below_limit (2 ^ 63) n

duration_short : (word : List ℕ) → IfSome (duration word) (λ d. nat_lt d (2 ^ 63) ≡ true)
unfolding duration milliseconds
duration_short word = by_test (is_duration word)
  where
    by_test : (b : Bool)
        → IfSome (if b then milliseconds (after_hash word) else None) (λ d. nat_lt d (2 ^ 63) ≡ true)
    by_test true = fits_short (parts units true (after_hash word))
    by_test false = tt

-- literals
literal_plain : (word : List ℕ) → IfSome (literal word) PlainKind
unfolding literal
literal_plain word =
    either PlainKind (option_map tokens.Number (whole_number word))
    (option_or (option_map tokens.Truth (literals.bool_literal word))
    (option_or (option_map tokens.Duration (duration word)) (option_map tokens.Address (address word))))
    (mapped PlainKind tokens.Number (whole_number word) (number_plain word))
    (either PlainKind (option_map tokens.Truth (literals.bool_literal word))
    (option_or (option_map tokens.Duration (duration word)) (option_map tokens.Address (address word)))
    (each tokens.Truth (literals.bool_literal word) (λ x. refl))
    (either PlainKind (option_map tokens.Duration (duration word)) (option_map tokens.Address (address word))
    (mapped PlainKind tokens.Duration (duration word) (duration_short word))
    (each tokens.Address (address word) (λ x. refl))))

enumerated_plain : (word : List ℕ) → IfSome (enumerated word) PlainKind
unfolding enumerated
enumerated_plain word =
    by_test (is_name (before_hash word) && is_name (after_hash word) && not (begins_duration word))
  where
    by_test : (b : Bool) → IfSome (if b
        then Some (tokens.Enumerated (upper (before_hash word)) (upper (after_hash word))) else None) PlainKind
    by_test true = refl
    by_test false = tt

read_plain : (fault : LexFault) (n : ℕ) (o : Option TokenKind) → IfSome o PlainKind → IsPlainFront (read_as fault n o)
read_plain fault n None h = tt
read_plain fault n (Some k) h = h

-- reserved words
reserved_plain : (word : List ℕ) → IfSome (reserved word) PlainKind
reserved_plain word =
    either PlainKind (option_map tokens.Keyword (keyword_of word))
    (option_or (option_map tokens.Elementary (elementary word)) (option_map tokens.Truth (bool_word word)))
    (each tokens.Keyword (keyword_of word) (λ x. refl))
    (either PlainKind (option_map tokens.Elementary (elementary word)) (option_map tokens.Truth (bool_word word))
    (mapped PlainKind tokens.Elementary (elementary word) (elementary_plain word))
    (each tokens.Truth (bool_word word) (λ x. refl)))

-- the bytes of a word that need not be a literal
abbrev is_marked : ℕ → Bool
is_marked b = (b == 35) || (b == 37)

upper_byte : (b : ℕ) → is_word_character b ≡ true → is_marked b ≡ false
    → is_letter_or_digit (to_ascii_uppercase b) ≡ true
upper_byte b h g = grind (arith, nat_tests)

upper_letter : (b : ℕ) → is_word_character b ≡ true → is_marked b ≡ false → is_ascii_digit b ≡ false
    → is_letter (to_ascii_uppercase b) ≡ true
upper_letter b h g n = grind (arith, nat_tests)

upper_underscore : (b : ℕ) → (to_ascii_uppercase b == 95) ≡ (b == 95)
upper_underscore b = grind (arith, nat_tests)

spaced_so : (word : List ℕ) → is_spaced (upper word) ≡ is_spaced word
spaced_so [] = refl
spaced_so (b ∷ bs) =
    ap₂ (λ x y. if (x && y) then false else is_spaced (upper bs)) (upper_underscore b) (ends_so bs)
    ∙ ap (λ r. if (b == 95) && ends_or_underscore bs then false else r) (spaced_so bs)
  where
    ends_so : (bs : List ℕ) → ends_or_underscore (upper bs) ≡ ends_or_underscore bs
    ends_so [] = refl
    ends_so (c ∷ cs) = upper_underscore c

length_so : (word : List ℕ) → length (upper word) ≡ length word
length_so [] = refl
length_so (b ∷ bs) = ap suc (length_so bs)

upper_bytes : (word : List ℕ) → list_all is_word_character word ≡ true → list_any is_marked word ≡ false
    → list_all is_letter_or_digit (upper word) ≡ true
upper_bytes [] h g = refl
upper_bytes (b ∷ bs) h g =
    let p = and_parts (is_word_character b) (list_all is_word_character bs) h in
    let q = or_parts (is_marked b) (list_any is_marked bs) g in
    and_from (is_letter_or_digit (to_ascii_uppercase b)) (list_all is_letter_or_digit (upper bs))
    (upper_byte b p.0 q.0) (upper_bytes bs p.1 q.1)

upper_is : (word : List ℕ) → 0 < length word → list_all is_word_character word ≡ true → must_be_literal word ≡ false
    → is_identifier word ≡ true → is_upper_name (upper word) ≡ true
upper_is [] some h g i = absurd (omega arith)
upper_is (b ∷ bs) some h g i =
    let p = and_parts (is_word_character b) (list_all is_word_character bs) h in
    let q = or_parts (is_ascii_digit b) (list_any is_marked (b ∷ bs)) g in
    let r = or_parts (is_marked b) (list_any is_marked bs) q.1 in
    let s = and_parts (nat_le (length (b ∷ bs)) MAX_NAME_LENGTH) (is_spaced (b ∷ bs)) i in
    let first = is_letter (to_ascii_uppercase b) in
    let others = list_all is_letter_or_digit (upper bs) in
    let spaced = is_spaced (upper (b ∷ bs)) in
    let short = nat_le (length (upper (b ∷ bs))) MAX_NAME_LENGTH in
    and_from ((first && others) && spaced) short
    (and_from (first && others) spaced
    (and_from first others (upper_letter b p.0 r.0 q.0) (upper_bytes bs p.1 r.1))
    (spaced_so (b ∷ bs) ∙ s.1))
    (ap (λ n. nat_le n MAX_NAME_LENGTH) (length_so (b ∷ bs)) ∙ s.0)

-- words
named_plain : (word : List ℕ) (o : Option TokenKind) → IfSome o PlainKind → is_upper_name (upper word) ≡ true
    → PlainKind (unwrap_or o (tokens.Name (upper word)))
named_plain word None h g = g
named_plain word (Some k) h g = h

identifier_plain : (word : List ℕ) → 0 < length word → list_all is_word_character word ≡ true
    → must_be_literal word ≡ false → IfSome (identifier word) PlainKind
identifier_plain word some h g = by_test (is_identifier word) refl
  where
    by_test : (b : Bool) → is_identifier word ≡ b → IfSome (if b then Some (named word) else None) PlainKind
    by_test true i = named_plain word (reserved word) (reserved_plain word) (upper_is word some h g i)
    by_test false i = tt

word_plain : (word : List ℕ) → 0 < length word
    → (must_be_literal word ≡ false → list_all is_word_character word ≡ true) → IsPlainFront (word_front word)
unfolding word_front
word_plain word some bytes = by_test (must_be_literal word) refl
  where
    by_test : (b : Bool) → must_be_literal word ≡ b
        → IsPlainFront (if b then read_as faults.Literal (length word) (literal_of word)
        else read_as faults.Identifier (length word) (identifier word))
    by_test true h = read_plain faults.Literal (length word) (literal_of word)
        (either PlainKind (literal word) (enumerated word) (literal_plain word) (enumerated_plain word))
    by_test false h = read_plain faults.Identifier (length word) (identifier word)
        (identifier_plain word some (bytes h) h)

front_bytes : {A : Type 0} (p : A → Bool) (xs : List A) → list_all p (take (prefix_len p xs) xs) ≡ true
front_bytes p [] = refl
front_bytes p (x ∷ xs) = by_test (p x) refl (front_bytes p xs)
  where
    by_test : (b : Bool) → p x ≡ b → list_all p (take (prefix_len p xs) xs) ≡ true
        → list_all p (take (cond b (1 + prefix_len p xs) 0) (x ∷ xs)) ≡ true
    by_test true h rest =
        let n : 1 + prefix_len p xs ≡ suc (prefix_len p xs) = omega arith in
        ap (λ m. list_all p (take m (x ∷ xs))) n
        ∙ and_from (p x) (list_all p (take (prefix_len p xs) xs)) h rest
    by_test false h rest = refl

-- a word that is marked by `%` is a literal
percent_marked : (bs : List ℕ) (n : ℕ) → 0 < n → must_be_literal (take n (37 ∷ bs)) ≡ true
percent_marked bs zero h = absurd (omega arith)
percent_marked bs (suc n) h = refl

front_word : (b : ℕ) (bs : List ℕ) → 0 < word_length (b ∷ bs)
    → must_be_literal (take (word_length (b ∷ bs)) (b ∷ bs)) ≡ false
    → list_all is_word_character (take (word_length (b ∷ bs)) (b ∷ bs)) ≡ true
front_word b bs some = elim (cases_eq b 37) [
  | inl e ↦ λ h. absurd (subst (λ x. 0 < word_length (x ∷ bs)
      → must_be_literal (take (word_length (x ∷ bs)) (x ∷ bs)) ≡ false → ⊥) (sym e) (no_plain bs) some h)
  | inr n ↦ λ h. subst (λ m. list_all is_word_character (take m (b ∷ bs)) ≡ true) (sym (plain_length (ne_eqb b 37 n)))
      (front_bytes is_word_character (b ∷ bs))
]
  where
    no_plain : (bs : List ℕ) → 0 < word_length (37 ∷ bs)
        → must_be_literal (take (word_length (37 ∷ bs)) (37 ∷ bs)) ≡ false → ⊥
    no_plain bs some h =
        let e : true ≡ false = sym (percent_marked bs (word_length (37 ∷ bs)) some) ∙ h in absurd (cc)

    plain_length : (b == 37) ≡ false → word_length (b ∷ bs) ≡ prefix_len is_word_character (b ∷ bs)
    plain_length e = rw e refl

-- marks
mark_plain : (o : Option (Mark × ℕ)) → IsPlainFront (read_mark o)
mark_plain None = tt
mark_plain (Some f) = refl

marks_plain : (text : List ℕ) → IsPlainFront (mark_front text)
marks_plain [] = tt
marks_plain (b ∷ bs) = by_test (b == 38)
  where
    by_test : (t : Bool) → IsPlainFront (if t then fronts.Token (tokens.Keyword keywords_of.And) 1
        else read_mark (longest_mark (b ∷ bs)))
    by_test true = refl
    by_test false = mark_plain (longest_mark (b ∷ bs))

-- comments
comment_plain : (inside : List ℕ) → IsPlainFront (comment_front inside)
unfolding comment_front
comment_plain inside = by_tests (not (list_all is_allowed (take (to_close inside) inside)))
    (nat_lt (to_open inside) (to_close inside)) (nat_lt (to_close inside) (length inside))
  where
    by_tests : (p q r : Bool) → IsPlainFront (if p then fronts.Fault faults.Byte 0 else
        if q then fronts.Fault faults.Comment (2 + to_open inside) else
        if r then fronts.Blank (2 + to_close inside + 2) else
        fronts.Fault faults.Comment 0)
    by_tests true q r = tt
    by_tests false true r = tt
    by_tests false false true = tt
    by_tests false false false = tt

front_plain : (text : List ℕ) → IsPlainFront (front_of text)
unfolding front_of
front_plain [] = tt
front_plain (b ∷ bs) = by_tests (is_space b) (begins 40 42 (b ∷ bs)) (nat_lt 0 (word_length (b ∷ bs))) refl
  where
    by_tests : (p q r : Bool) → nat_lt 0 (word_length (b ∷ bs)) ≡ r → IsPlainFront (if p then fronts.Blank 1 else
        if q then comment_front (drop 2 (b ∷ bs)) else
        if r then word_front (take (word_length (b ∷ bs)) (b ∷ bs)) else
        mark_front (b ∷ bs))
    by_tests true q r h = tt
    by_tests false true r h = comment_plain (drop 2 (b ∷ bs))
    by_tests false false true h =
        let some = ltb-true 0 (word_length (b ∷ bs)) h in
        word_plain (take (word_length (b ∷ bs)) (b ∷ bs)) (taken_some (word_length (b ∷ bs)) some)
        (front_word b bs some)
      where
        taken_some : (n : ℕ) → 0 < n → 0 < length (take n (b ∷ bs))
        taken_some zero h = absurd (omega arith)
        taken_some (suc n) h = omega arith
    by_tests false false false h = marks_plain (b ∷ bs)

-- the tokens of a text are plain
pub tokens_plain : {at : ℕ} {text : List ℕ} {ts : List Token} → Spells at text ts → list_all is_plain_token ts ≡ true
tokens_plain (ends e) = refl
tokens_plain {text = text} (blank n e rest) = tokens_plain rest
tokens_plain {text = text} (token {tokens = ts} kind n e rest) =
    and_from (is_plain_kind kind) (list_all is_plain_token ts) (subst IsPlainFront e (front_plain text))
    (tokens_plain rest)
