-- Reading a text part by part.
use Rattle.std.proofs.Common.{◌≡◌, ◌≢◌, ◌∙◌, ap, sym, refl, ℕ, ◌+◌, ◌<◌, ◌^◌, ◌%◌, true, false, List, []}
use Rattle.std.proofs.Common.{◌∷◌, ◌++◌, Option, Some, None, IfSome, IfNone, option_map, append_assoc, arith, not, ◌==◌, take, drop, length, Bor, nat_eq}
use Rattle.std.specs.Option.{MatchOption}
use Rattle.std.specs.Fmt.{decimal}
use Rattle.std.proofs.lemmas.List.{append_cancel_left}
use Rattle.std.proofs.lemmas.Fmt.{decimal_by_steps, decimal_injective}
use Rattle.std.proofs.lemmas.Bool.{and_from, and_parts}
use Rattle.std.proofs.lemmas.Bool.Decides.{nat_tests, Decides-eqb}
use Rattle.std.proofs.lemmas.Slice.Eq.{strip_prefix_is}
use Rattle.std.specs.Cmp.Lexicographic.{pointwise}
use Rattle.retain_records.specs.Splits.{split_at}
use Rattle.retain_records.specs.SplitLaws.{has_no, split_takes, split_again}
use Rattle.trace.specs.Reads.{BeginsWith, IsRestAfter, FieldSpells}
use Rattle.std.proofs.lemmas.Option.{same_Some, some_pair_parts}
use Rattle.retain_records.specs.LineLaws.{has_no_in_both}

-- ---- words

told : (text words : List ℕ) (r : Option (Bor (List ℕ)))
    → MatchOption r ((rest : List ℕ) → text ≢ words ++ rest) (λ x. text ≡ words ++ x.now)
    → IsRestAfter text words (option_map (λ x. x.now) r)
told text words None none = (tt, λ rest is. absurd (none rest is))
told text words (Some x) is = (is, λ rest e. ap Some (append_cancel_left words x.now rest (sym is ∙ e)))

-- the result of `strip_prefix`
pub follows : (text words : List ℕ) (r : Option (Bor (List ℕ)))
    → MatchOption r (pointwise nat_eq (take (length words) text) words ≡ false)
    (λ x. (pointwise nat_eq (take (length words) text) words ≡ true) × (x.now ≡ drop (length words) text)
    × (length x.now + length words ≡ length text)) → IsRestAfter text words (option_map (λ x. x.now) r)
follows text words r h = told text words r (strip_prefix_is Decides-eqb text words r h)

-- words, and then others
pub follows_both : (text mid v w : List ℕ) (o : Option (List ℕ)) → IsRestAfter text v (Some mid) → IsRestAfter mid w o
    → IsRestAfter text (v ++ w) o
follows_both text mid v w None first next = (
  tt,
  λ rest is. next.1 rest (append_cancel_left v mid (w ++ rest) (sym first.0 ∙ is ∙ append_assoc v w rest)),
)
follows_both text mid v w (Some more) first next = (
  first.0 ∙ ap (λ x. v ++ x) next.0 ∙ sym (append_assoc v w more),
  λ rest is. next.1 rest (append_cancel_left v mid (w ++ rest) (sym first.0 ∙ is ∙ append_assoc v w rest)),
)

pub none_some : {A X : Type 0} (a : A) → ◌≡◌ {A = Option A} None (Some a) → X
none_some a e = absurd (cc)

pub follows_not : (text v w : List ℕ) → IsRestAfter text v None → IsRestAfter text (v ++ w) None
follows_not text v w first = (
  tt,
  λ rest is. none_some (w ++ rest) (first.1 (w ++ rest) (is ∙ append_assoc v w rest)),
)

-- words, and then a spelling
pub begins_behind : {A : Type 0} (May : A → Type 0) (spelling : A → List ℕ) (text mid words : List ℕ)
    (o : Option (A × List ℕ)) → IsRestAfter text words (Some mid) → BeginsWith May spelling mid o
    → BeginsWith May (λ a. words ++ spelling a) text o
begins_behind May spelling text mid words None first next = (
  tt,
  λ a rest may is. next.1 a rest may
      (append_cancel_left words mid (spelling a ++ rest) (sym first.0 ∙ is ∙ append_assoc words (spelling a) rest)),
)
begins_behind May spelling text mid words (Some p) first next = (
  (next.0.0, first.0 ∙ ap (λ x. words ++ x) next.0.1 ∙ sym (append_assoc words (spelling p.0) p.1)),
  λ a rest may is. next.1 a rest may
      (append_cancel_left words mid (spelling a ++ rest) (sym first.0 ∙ is ∙ append_assoc words (spelling a) rest)),
)

pub begins_not : {A : Type 0} (May : A → Type 0) (spelling : A → List ℕ) (text words : List ℕ)
    → IsRestAfter text words None → BeginsWith May (λ a. words ++ spelling a) text None
begins_not May spelling text words first = (
  tt,
  λ a rest may is. none_some (spelling a ++ rest) (first.1 (spelling a ++ rest) (is ∙ append_assoc words (spelling a) rest)),
)

-- ---- fields

abbrev pub with_rest : {A : Type 0} → List ℕ → Option A → Option (A × List ℕ)
with_rest {A} rest o = option_map {T = A} {U = A × List ℕ} (λ a. (a, rest)) o

-- the first field is the value that it spells
pub begins_field : {A : Type 0} (May : A → Type 0) (spelling : A → List ℕ) (mark : ℕ) (text field rest : List ℕ)
    (o : Option A) → ((a : A) → May a → has_no mark (spelling a) ≡ true) → split_at mark text ≡ Some (field, rest)
    → FieldSpells May spelling field o
    → BeginsWith May (λ a. spelling a ++ mark ∷ []) text (with_rest rest o)
begins_field {A} May spelling mark text field rest o plain is spells = (there o spells.0, only)
  where
    whole : text ≡ field ++ mark ∷ rest
    whole = split_takes mark text (field, rest) is

    there : (u : Option A) → IfSome u (λ a. May a × (field ≡ spelling a))
        → IfSome {T = A × List ℕ} (with_rest rest u) (λ p. May p.0 × (text ≡ (spelling p.0 ++ mark ∷ []) ++ p.1))
    there None h = tt
    there (Some a) h = (
      h.0,
      whole ∙ ap (λ x. x ++ mark ∷ rest) h.1 ∙ sym (append_assoc (spelling a) (mark ∷ []) rest),
    )

    only : (a : A) (more : List ℕ) → May a → text ≡ (spelling a ++ mark ∷ []) ++ more
        → with_rest rest o ≡ Some (a, more)
    only a more may e =
        let again : split_at mark text ≡ Some (spelling a, more) =
        ap (split_at mark) (e ∙ append_assoc (spelling a) (mark ∷ []) more) ∙ split_again mark (spelling a) more (plain a may) in
        let same : ◌≡◌ {A = Option (List ℕ × List ℕ)} (Some (field, rest)) (Some (spelling a, more)) = sym is ∙ again in
        let parts = some_pair_parts field (spelling a) rest more same in
        ap (with_rest rest) (spells.1 a may parts.0) ∙ ap (λ x. Some (a, x)) parts.1

-- there is no such byte
pub begins_no_field : {A : Type 0} (May : A → Type 0) (spelling : A → List ℕ) (mark : ℕ) (text : List ℕ)
    → ((a : A) → May a → has_no mark (spelling a) ≡ true) → split_at mark text ≡ None
    → BeginsWith May (λ a. spelling a ++ mark ∷ []) text None
begins_no_field May spelling mark text plain is = (
  tt,
  λ a more may e. none_some (spelling a, more) (sym is ∙ ap (split_at mark) (e ∙ append_assoc (spelling a) (mark ∷ []) more)
      ∙ split_again mark (spelling a) more (plain a may)),
)

-- ---- spellings without a mark

-- no digit is the mark
abbrev pub IsNoDigit : ℕ → Type 0
IsNoDigit mark = (d : ℕ) → d < 10 → not ((48 + d) == mark) ≡ true

pub low_mark : (mark : ℕ) → mark < 48 → IsNoDigit mark
low_mark mark low d small = grind (arith, nat_tests)

pub high_mark : (mark : ℕ) → 57 < mark → IsNoDigit mark
high_mark mark high d small = grind (arith, nat_tests)

one_digit : (mark d : ℕ) → IsNoDigit mark → d < 10 → has_no mark ((48 + d) ∷ []) ≡ true
one_digit mark d none small = rw (none d small) refl

pub plain_decimal : (mark n : ℕ) → IsNoDigit mark → n < 2 ^ 64 → has_no mark (decimal n) ≡ true
plain_decimal mark n none = decimal_by_steps (λ n ds. has_no mark ds ≡ true) (λ n small. one_digit mark n none small)
    (λ n ds big so_far. has_no_in_both mark ds ((48 + n % 10) ∷ []) so_far (one_digit mark (n % 10) none (omega arith))) n

-- a field that parses as a number, and one that is spelled as one
pub spells_number : (field : List ℕ) (o : Option ℕ) → IfSome o (λ n. field ≡ decimal n)
    → IfNone o ((n : ℕ) → n < 2 ^ 64 → field ≢ decimal n) → IfSome o (λ n. n < 2 ^ 64)
    → FieldSpells (λ (n : ℕ). n < 2 ^ 64) decimal field o
spells_number field None is none small = (tt, λ n within e. absurd (none n within e))
spells_number field (Some m) is none small = (
  (small, is),
  λ n within e. ap Some (decimal_injective m n small within (sym is ∙ e)),
)

-- ---- one spelling after another

abbrev pub with_before : {A B : Type 0} → A → Option (B × List ℕ) → Option ((A × B) × List ℕ)
with_before {A} {B} a o = option_map {T = B × List ℕ} {U = (A × B) × List ℕ} (λ p. ((a, p.0), p.1)) o

pub begins_both : {A B : Type 0} (May : A → Type 0) (spelling : A → List ℕ) (MayNext : B → Type 0)
    (next : B → List ℕ) (text mid : List ℕ) (a : A) (o : Option (B × List ℕ))
    → BeginsWith May spelling text (Some (a, mid)) → BeginsWith MayNext next mid o
    → BeginsWith (λ (p : A × B). May p.0 × MayNext p.1) (λ p. spelling p.0 ++ next p.1) text (with_before a o)
begins_both {A} {B} May spelling MayNext next text mid a o first second = (there o second.0, only)
  where
    there : (u : Option (B × List ℕ)) → IfSome u (λ p. MayNext p.0 × (mid ≡ next p.0 ++ p.1))
        → IfSome (with_before a u) (λ p. (May p.0.0 × MayNext p.0.1) × (text ≡ (spelling p.0.0 ++ next p.0.1) ++ p.1))
    there None h = tt
    there (Some (b, rest)) h = (
      (first.0.0, h.0),
      first.0.1 ∙ ap (λ t. spelling a ++ t) h.1 ∙ sym (append_assoc (spelling a) (next b) rest),
    )

    only : (p : A × B) (rest : List ℕ) → May p.0 × MayNext p.1 → text ≡ (spelling p.0 ++ next p.1) ++ rest
        → with_before a o ≡ Some (p, rest)
    only (x, y) rest may e =
        let one = some_pair_parts a x mid (next y ++ rest) (first.1 x (next y ++ rest) may.0
        (e ∙ append_assoc (spelling x) (next y) rest)) in
        ap (with_before a) (second.1 y rest may.1 one.1) ∙ ap (λ (z : A). Some ((z, y), rest)) one.0

pub begins_not_both : {A B : Type 0} (May : A → Type 0) (spelling : A → List ℕ) (MayNext : B → Type 0)
    (next : B → List ℕ) (text : List ℕ) → BeginsWith May spelling text None
    → BeginsWith (λ (p : A × B). May p.0 × MayNext p.1) (λ p. spelling p.0 ++ next p.1) text None
begins_not_both {A} {B} May spelling MayNext next text first = (tt, only)
  where
    only : (p : A × B) (rest : List ℕ) → May p.0 × MayNext p.1 → text ≡ (spelling p.0 ++ next p.1) ++ rest
        → ◌≡◌ {A = Option ((A × B) × List ℕ)} None (Some (p, rest))
    only (x, y) rest may e = none_some (x, next y ++ rest) (first.1 x (next y ++ rest) may.0
        (e ∙ append_assoc (spelling x) (next y) rest))

-- the same, for other values that may be there and are spelled alike
pub begins_as : {A : Type 0} (May Also : A → Type 0) (spelling other : A → List ℕ) (text : List ℕ)
    (o : Option (A × List ℕ)) → ((a : A) → May a → Also a) → ((a : A) → Also a → May a)
    → ((a : A) → spelling a ≡ other a) → BeginsWith May spelling text o → BeginsWith Also other text o
begins_as {A} May Also spelling other text o to from same begins = (
  there o begins.0,
  λ a rest may e. begins.1 a rest (from a may) (e ∙ ap (λ t. t ++ rest) (sym (same a))),
)
  where
    there : (u : Option (A × List ℕ)) → IfSome u (λ p. May p.0 × (text ≡ spelling p.0 ++ p.1))
        → IfSome u (λ p. Also p.0 × (text ≡ other p.0 ++ p.1))
    there None h = tt
    there (Some p) h = (to p.0 h.0, h.1 ∙ ap (λ t. t ++ p.1) (same p.0))
