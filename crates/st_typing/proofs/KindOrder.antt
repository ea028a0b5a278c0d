-- The order of types, and of spans by their types.
use Rattle.std.proofs.Common.{◌≡◌, refl, sym, ◌∙◌, ℕ, ◌<◌, ◌<ℤ◌, ◌≤ℤ◌, ℤ, subst, arith}
use Rattle.std.proofs.Common.{Bool, true, false, ◌&&◌, ◌==◌, cond}
use Rattle.std.specs.Prelude.{nat_lt, int_lt}
use Rattle.std.specs.Ordering.{is_lt, nat_cmp, int_cmp, ordering_then}
use Rattle.std.specs.declared.cmp.Ordering.{Ordering}
use Rattle.std.specs.declared.cmp.Ordering.TheVariants.{Less, Equal, Greater}
use Rattle.std.proofs.lemmas.Int.{ints}
use Rattle.std.proofs.lemmas.Bool.Decides.{nat_tests}
use Rattle.st_types.specs.declared.kind.Kind.{Kind}
use Rattle.st_types.specs.Kinds.{same_kind, kind_index, names_in, number_of_type}
use Rattle.st_typing.specs.declared.spans.Span.{Span}
use Rattle.st_typing.specs.Spans.{Before, by_row, by_names, by_number, InOrder, by_type, by_lower, by_place}
use Rattle.st_types.proofs.TestLemmas.{equal_numbers}
use Rattle.st_types.proofs.KindLemmas.{same_kind-refl}

-- the parts that make two types the same
pub record Same (k l : Kind) : Type 0 where
  pub row : kind_index k ≡ kind_index l
  pub names : names_in k ≡ names_in l
  pub number : number_of_type k ≡ number_of_type l

test_of_equal : (a b : ℕ) → a ≡ b → (a == b) ≡ true
test_of_equal a b h = grind (arith, nat_tests)

pub same_told : (k l : Kind) → same_kind k l ≡ true → Same k l
same_told k l h =
    parted (kind_index k == kind_index l) (names_in k == names_in l) (number_of_type k == number_of_type l) refl refl
    refl h
  where
    parted : (a b c : Bool) → (kind_index k == kind_index l) ≡ a → (names_in k == names_in l) ≡ b
        → (number_of_type k == number_of_type l) ≡ c → (a && (b && c)) ≡ true → Same k l
    parted true true true p q r e = record {
      row = equal_numbers (kind_index k) (kind_index l) p;
      names = equal_numbers (names_in k) (names_in l) q;
      number = equal_numbers (number_of_type k) (number_of_type l) r;
    }
    parted false b c p q r e = absurd (cc)
    parted true false c p q r e = absurd (cc)
    parted true true false p q r e = absurd (cc)

three : (a b c : Bool) → a ≡ true → b ≡ true → c ≡ true → (a && (b && c)) ≡ true
three a b c h i j = rw (h, i, j) refl

pub same_tested : (k l : Kind) → Same k l → same_kind k l ≡ true
same_tested k l s =
    three (kind_index k == kind_index l) (names_in k == names_in l) (number_of_type k == number_of_type l)
    (test_of_equal (kind_index k) (kind_index l) s.row) (test_of_equal (names_in k) (names_in l) s.names)
    (test_of_equal (number_of_type k) (number_of_type l) s.number)

pub kinds_joined : (k l m : Kind) → same_kind k l ≡ true → same_kind k m ≡ true → same_kind l m ≡ true
kinds_joined k l m h j =
    let p = same_told k l h in
    let q = same_told k m j in
    same_tested l m (record {
      row = sym p.row ∙ q.row;
      names = sym p.names ∙ q.names;
      number = sym p.number ∙ q.number;
    })

pub kinds_turned : (k l : Kind) → same_kind k l ≡ true → same_kind l k ≡ true
kinds_turned k l h = kinds_joined k l k h (same_kind-refl k)

-- the order of types
pub before_before : (k l m : Kind) → Before k l → Before l m → Before k m
before_before k l m (by_row p) (by_row q) = by_row (omega (arith, p, q))
before_before k l m (by_row p) (by_names q r) = by_row (omega (arith, p, q))
before_before k l m (by_row p) (by_number q r u) = by_row (omega (arith, p, q))
before_before k l m (by_names p q) (by_row r) = by_row (omega (arith, p, r))
before_before k l m (by_names p q) (by_names r u) = by_names (p ∙ r) (omega (arith, q, u))
before_before k l m (by_names p q) (by_number r u v) = by_names (p ∙ r) (omega (arith, q, u))
before_before k l m (by_number p q r) (by_row u) = by_row (omega (arith, p, u))
before_before k l m (by_number p q r) (by_names u v) = by_names (p ∙ u) (omega (arith, q, v))
before_before k l m (by_number p q r) (by_number u v w) = by_number (p ∙ u) (q ∙ v) (omega (arith, r, w))

pub same_before : (k l m : Kind) → same_kind k l ≡ true → Before l m → Before k m
same_before k l m h b = moved (same_told k l h) b
  where
    moved : Same k l → Before l m → Before k m
    moved s (by_row p) = let e = s.row in by_row (omega (arith, p, e))
    moved s (by_names p q) = let e = s.names in by_names (s.row ∙ p) (omega (arith, q, e))
    moved s (by_number p q r) = let e = s.number in by_number (s.row ∙ p) (s.names ∙ q) (omega (arith, r, e))

pub before_same : (k l m : Kind) → Before k l → same_kind l m ≡ true → Before k m
before_same k l m b h = moved (same_told l m h) b
  where
    moved : Same l m → Before k l → Before k m
    moved s (by_row p) = let e = s.row in by_row (omega (arith, p, e))
    moved s (by_names p q) = let e = s.names in by_names (p ∙ s.row) (omega (arith, q, e))
    moved s (by_number p q r) = let e = s.number in by_number (p ∙ s.row) (q ∙ s.names) (omega (arith, r, e))

pub not_itself : (k l : Kind) → Before k l → same_kind k l ≡ false
not_itself k l b = by (same_kind k l) refl
  where
    differs : Same k l → Before k l → same_kind k l ≡ false
    differs s (by_row p) = let e = s.row in absurd (omega (arith, p, e))
    differs s (by_names p q) = let e = s.names in absurd (omega (arith, q, e))
    differs s (by_number p q r) = let e = s.number in absurd (omega (arith, r, e))

    by : (t : Bool) → same_kind k l ≡ t → same_kind k l ≡ false
    by false h = h
    by true h = differs (same_told k l h) b

-- the result of a comparison
pub data Compared (a b : ℕ) : Ordering → Type 0 where
  less : a < b → Compared a b Less
  equal : a ≡ b → Compared a b Equal
  greater : b < a → Compared a b Greater

compared : (a b : ℕ) → Compared a b (nat_cmp a b)
compared a b = by (nat_lt a b) (a == b) refl refl
  where
    by : (p q : Bool) → nat_lt a b ≡ p → (a == b) ≡ q → Compared a b (cond p Less (cond q Equal Greater))
    by true q h j = less (grind (arith, nat_tests))
    by false true h j = equal (grind (arith, nat_tests))
    by false false h j = greater (grind (arith, nat_tests))

-- The later of two that begin at one number is not before the earlier one in the text, and at one place it does not end
-- before it.
ends_in_order : (s t : Span) → same_kind s.kind t.kind ≡ true → s.lower ≡ t.lower
    → is_lt (ordering_then (nat_cmp t.place s.place) (int_cmp t.upper s.upper)) ≡ false → InOrder s t
ends_in_order s t own is h =
    by (nat_cmp t.place s.place) (int_lt t.upper s.upper) (int_lt s.upper t.upper) (compared t.place s.place) refl refl
    h
  where
    by : (o : Ordering) (p q : Bool) → Compared t.place s.place o → int_lt t.upper s.upper ≡ p
        → int_lt s.upper t.upper ≡ q → is_lt (ordering_then o (cond p Less (cond q Greater Equal))) ≡ false
        → InOrder s t
    by _ p q (less a) e f i = absurd (cc)
    by _ p q (greater a) e f i = by_place own is (omega (arith, a)) (λ same. absurd (omega (arith, a, same)))
    by _ true q (equal a) e f i = absurd (cc)
    by _ false q (equal a) e f i = by_place own is (omega (arith, a)) (λ same. grind (arith, ints))

-- The later of two of one type does not begin before the earlier one.
begins_in_order : (s t : Span) → same_kind s.kind t.kind ≡ true
    → is_lt (ordering_then (ordering_then (int_cmp t.lower s.lower) (nat_cmp t.place s.place))
    (int_cmp t.upper s.upper)) ≡ false → InOrder s t
begins_in_order s t own h = by (int_lt t.lower s.lower) (int_lt s.lower t.lower) refl refl h
  where
    by : (p q : Bool) → int_lt t.lower s.lower ≡ p → int_lt s.lower t.lower ≡ q
        → is_lt (ordering_then (ordering_then (cond p Less (cond q Greater Equal)) (nat_cmp t.place s.place))
        (int_cmp t.upper s.upper)) ≡ false → InOrder s t
    by true q e f i = absurd (cc)
    by false true e f i = by_lower own (grind (arith, ints))
    by false false e f i = ends_in_order s t own (grind (arith, ints)) i

-- The later one does not come before the earlier one.
pub in_order : (s t : Span)
    → is_lt (ordering_then (ordering_then (ordering_then (ordering_then
    (ordering_then (nat_cmp (kind_index t.kind) (kind_index s.kind)) (nat_cmp (names_in t.kind) (names_in s.kind)))
    (nat_cmp (number_of_type t.kind) (number_of_type s.kind))) (int_cmp t.lower s.lower)) (nat_cmp t.place s.place))
    (int_cmp t.upper s.upper)) ≡ false → InOrder s t
in_order s t h =
    by (nat_cmp (kind_index t.kind) (kind_index s.kind)) (nat_cmp (names_in t.kind) (names_in s.kind))
    (nat_cmp (number_of_type t.kind) (number_of_type s.kind)) (compared (kind_index t.kind) (kind_index s.kind))
    (compared (names_in t.kind) (names_in s.kind)) (compared (number_of_type t.kind) (number_of_type s.kind)) h
  where
    by : (o p q : Ordering) → Compared (kind_index t.kind) (kind_index s.kind) o
        → Compared (names_in t.kind) (names_in s.kind) p
        → Compared (number_of_type t.kind) (number_of_type s.kind) q
        → is_lt (ordering_then (ordering_then (ordering_then (ordering_then (ordering_then o p) q)
        (int_cmp t.lower s.lower)) (nat_cmp t.place s.place)) (int_cmp t.upper s.upper)) ≡ false → InOrder s t
    by _ _ _ (less a) b c e = absurd (cc)
    by _ _ _ (greater a) b c e = by_type (by_row a)
    by _ _ _ (equal a) (less b) c e = absurd (cc)
    by _ _ _ (equal a) (greater b) c e = by_type (by_names (sym a) b)
    by _ _ _ (equal a) (equal b) (less c) e = absurd (cc)
    by _ _ _ (equal a) (equal b) (greater c) e = by_type (by_number (sym a) (sym b) c)
    by _ _ _ (equal a) (equal b) (equal c) e =
        begins_in_order s t
        (same_tested s.kind t.kind (record { row = sym a; names = sym b; number = sym c })) e

pub kinds_then : (k l m : Kind) → same_kind k l ≡ true → same_kind l m ≡ true → same_kind k m ≡ true
kinds_then k l m h j = kinds_joined l k m (kinds_turned k l h) j

-- spans in order, and what stands before a span's type
pub before_in_order : (k : Kind) (s t : Span) → Before k s.kind → InOrder s t → Before k t.kind
before_in_order k s t b (by_type c) = before_before k s.kind t.kind b c
before_in_order k s t b (by_lower own lt) = before_same k s.kind t.kind b own
before_in_order k s t b (by_place own is le ends) = before_same k s.kind t.kind b own

pub at_most_then : (u v w : ℤ) → u ≤ℤ v → v ≤ℤ w → u ≤ℤ w
at_most_then u v w h i = grind (arith, ints)

pub in_order_then : (s t u : Span) → InOrder s t → InOrder t u → InOrder s u
in_order_then s t u (by_type b) i = by_type (before_in_order s.kind t u b i)
in_order_then s t u (by_lower own lt) (by_type c) = by_type (same_before s.kind t.kind u.kind own c)
in_order_then s t u (by_lower own lt) (by_lower same further) =
    by_lower (kinds_then s.kind t.kind u.kind own same) (below_below s.lower t.lower u.lower lt further)
  where
    below_below : (a b c : ℤ) → a <ℤ b → b <ℤ c → a <ℤ c
    below_below a b c h i = grind (arith, ints)
in_order_then s t u (by_lower own lt) (by_place same is le ends) =
    by_lower (kinds_then s.kind t.kind u.kind own same) (subst (λ v. s.lower <ℤ v) is lt)
in_order_then s t u (by_place own is le ends) (by_type c) = by_type (same_before s.kind t.kind u.kind own c)
in_order_then s t u (by_place own is le ends) (by_lower same lt) =
    by_lower (kinds_then s.kind t.kind u.kind own same) (subst (λ v. v <ℤ u.lower) (sym is) lt)
in_order_then s t u (by_place own is le ends) (by_place same also at_most after) =
    by_place (kinds_then s.kind t.kind u.kind own same) (is ∙ also) (omega (arith, le, at_most))
    (λ at. at_most_then s.upper t.upper u.upper (ends (omega (arith, le, at_most, at)))
    (after (omega (arith, le, at_most, at))))
