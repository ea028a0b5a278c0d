-- Spans that were sorted: if a span overlaps one that begins before it, it overlaps the one of its type that ends last
-- of those before it; if it overlaps one that begins after it, it overlaps the next one.
use Rattle.std.proofs.Common.{◌≡◌, refl, sym, ap, subst, ◌∙◌, ℕ, zero, suc, ◌+◌, ◌<◌, ◌≤◌, ℤ, ◌≤ℤ◌, ◌<ℤ◌, int_le}
use Rattle.std.proofs.Common.{arith, List, [], ◌∷◌, ◌++◌, Bool, true, false, ◌&&◌, ◌||◌, if◌then◌else◌, length}
use Rattle.std.proofs.Common.{slice_index_or, ⊎_elim, ◌⊎◌, inl, inr}
use Rattle.std.specs.Prelude.{int_lt, nat_lt, map, not}
use Rattle.std.specs.Ordering.{nat_cmp, int_cmp, int_eq, ordering_then}
use Rattle.std.specs.List.{flat_map, filter, Contains, All}
use Rattle.std.specs.List.Sorted.{IsPermutation, IsSortedByKey}
use Rattle.std.proofs.lemmas.Bool.{cases_eq}
use Rattle.std.proofs.lemmas.Bool.Decides.{Decides-int_eq, nat_tests}
use Rattle.std.proofs.lemmas.Int.{ints}
use Rattle.std.proofs.lemmas.List.{get_or_default}
use Rattle.std.proofs.lemmas.List.Elements.{All-nil, All-cons, All-contains}
use Rattle.std.proofs.lemmas.List.Sorted.{IsPermutation-sym, Contains-permutation}
use Rattle.st_types.specs.Kinds.{same_kind, kind_index, names_in, number_of_type}
use Rattle.st_rules.specs.LabelRules as rules
use Rattle.st_rules.specs.LabelRules.{begins_before, bounds_of, is_reversed, meet, overlaps, overlaps_of}
use Rattle.st_rules.specs.declared.rule.Broken.{Broken}
use Rattle.st_rules.specs.declared.reason.Reason.TheVariants.{ReversedLabel}
use Rattle.st_rules.specs.Faults.{breaking, in_case}
use Rattle.st_rules.specs.declared.broken_rules.BrokenRules.{BrokenRules}
use Rattle.st_rules.specs.Collecting.{is_full, is_overlap, Adds, Collects, IsSampled, StandsFor, of_the_same_label}
use Rattle.st_rules.specs.Collecting.{an_equal_one, one_that_contains_itself}
use Rattle.st_rules.proofs.EqualityLemmas.{equal_overlap}
use Rattle.st_rules.proofs.CollectLemmas.{AreAmong, none_among, found_stays, room_before, adds_nothing, adds_more, adds_then}
use Rattle.st_typing.specs.declared.spans.Span.{Span}
use Rattle.st_typing.specs.Spans.{span_view, touches, touching, touching_back, further, Before, Ascend}
use Rattle.st_typing.specs.Spans.{InOrder, by_type, by_lower, by_place}
use Rattle.st_typing.proofs.KindOrder.{kinds_joined, kinds_turned, kinds_then, before_before, same_before, before_same}
use Rattle.st_typing.proofs.KindOrder.{not_itself, in_order, before_in_order, in_order_then, at_most_then}
use Rattle.st_typing.proofs.MemberLemmas.{in_map, in_filter, in_flat_map, map_has, filter_has, flat_map_has}
use Rattle.st_types.proofs.KindLemmas.{same_kind-refl}

abbrev pub IsSound : Span → Type 0
IsSound s = s.lower ≤ℤ s.upper

contrary : (b : Bool) → b ≡ true → b ≡ false → ⊥
contrary true p q = absurd (cc)
contrary false p q = absurd (cc)

at_most_itself : (v : ℤ) → v ≤ℤ v
at_most_itself v = grind (arith, ints)

not_below_itself : (v : ℤ) → v <ℤ v → ⊥
not_below_itself v h = absurd (omega (arith, ints, h))

not_both_below : (u v : ℤ) → u <ℤ v → v <ℤ u → ⊥
not_both_below u v h i = absurd (omega (arith, ints, h, i))

is_sound : (s : Span) → is_reversed (span_view s) ≡ false → IsSound s
is_sound s h = grind (arith, ints)

-- a span that is reversed
abbrev pub wrong_order : rules.Span → List Broken
wrong_order s = breaking (ReversedLabel (bounds_of s)) (in_case (is_reversed s) s.place)

-- those that are not reversed
abbrev pub in_order_of : List Span → List Span
in_order_of ss = filter (λ s. not (is_reversed (span_view s))) ss

pub all_sound : (ss : List Span) → All IsSound (in_order_of ss)
all_sound [] = All-nil IsSound
all_sound (s ∷ ss) = by (is_reversed (span_view s)) refl (all_sound ss)
  where
    by : (b : Bool) → is_reversed (span_view s) ≡ b → All IsSound (in_order_of ss)
        → All IsSound (if not b then s ∷ in_order_of ss else in_order_of ss)
    by true e rest = rest
    by false e rest = All-cons IsSound s (in_order_of ss) (is_sound s e) rest

-- a span overlaps another one
abbrev pub do_overlap : rules.Span → rules.Span → Bool
do_overlap s t = meet s t && (begins_before s t || begins_before t s)

-- reversed spans overlap none
first_reversed : (a b c d e f : Bool) → b ≡ true → ((a && not b && not c && d && e) && f) ≡ false
first_reversed true true c d e f p = refl
first_reversed false true c d e f p = refl
first_reversed a false c d e f p = absurd (cc)

second_reversed : (a b c d e f : Bool) → c ≡ true → ((a && not b && not c && d && e) && f) ≡ false
second_reversed true true true d e f p = refl
second_reversed true false true d e f p = refl
second_reversed false b true d e f p = refl
second_reversed a b false d e f p = absurd (cc)

none_of_reversed : (t : rules.Span) (ss : List rules.Span) → is_reversed t ≡ true → overlaps_of ss t ≡ []
none_of_reversed t [] h = refl
none_of_reversed t (s ∷ ss) h =
    let apart : do_overlap s t ≡ false =
    second_reversed (same_kind s.kind t.kind) (is_reversed s) (is_reversed t) _ _ _ h in
    rw apart (none_of_reversed t ss h)

overlaps_of_sound : (t : rules.Span) (ss : List Span)
    → overlaps_of (map span_view (in_order_of ss)) t ≡ overlaps_of (map span_view ss) t
overlaps_of_sound t [] = refl
overlaps_of_sound t (s ∷ ss) = by (is_reversed (span_view s)) refl (overlaps_of_sound t ss)
  where
    same : (c : Bool) → overlaps_of (map span_view (in_order_of ss)) t ≡ overlaps_of (map span_view ss) t
        → map (rules.overlap t) (if c then span_view s ∷ filter (λ r. do_overlap r t) (map span_view (in_order_of ss))
        else filter (λ r. do_overlap r t) (map span_view (in_order_of ss)))
        ≡ map (rules.overlap t) (if c then span_view s ∷ filter (λ r. do_overlap r t) (map span_view ss)
        else filter (λ r. do_overlap r t) (map span_view ss))
    same true rest = ap (λ ys. rules.overlap t (span_view s) ∷ ys) rest
    same false rest = rest

    by : (b : Bool) → is_reversed (span_view s) ≡ b
        → overlaps_of (map span_view (in_order_of ss)) t ≡ overlaps_of (map span_view ss) t
        → overlaps_of (map span_view (if not b then s ∷ in_order_of ss else in_order_of ss)) t
        ≡ overlaps_of (map span_view (s ∷ ss)) t
    by true e rest =
        let apart : do_overlap (span_view s) t ≡ false =
        first_reversed (same_kind s.kind t.kind) (is_reversed (span_view s)) (is_reversed t) _ _ _ e in
        rest ∙ sym (rw apart refl)
    by false e rest = same (do_overlap (span_view s) t) rest

overlaps_among : (all ss : List Span)
    → flat_map (overlaps_of (map span_view (in_order_of all))) (map span_view (in_order_of ss))
    ≡ flat_map (overlaps_of (map span_view all)) (map span_view ss)
overlaps_among all [] = refl
overlaps_among all (s ∷ ss) = by (is_reversed (span_view s)) refl (overlaps_among all ss)
  where
    by : (b : Bool) → is_reversed (span_view s) ≡ b
        → flat_map (overlaps_of (map span_view (in_order_of all))) (map span_view (in_order_of ss))
        ≡ flat_map (overlaps_of (map span_view all)) (map span_view ss)
        → flat_map (overlaps_of (map span_view (in_order_of all)))
        (map span_view (if not b then s ∷ in_order_of ss else in_order_of ss))
        ≡ flat_map (overlaps_of (map span_view all)) (map span_view (s ∷ ss))
    by true e rest =
        rest ∙ sym (ap (λ ys. ys ++ flat_map (overlaps_of (map span_view all)) (map span_view ss))
        (none_of_reversed (span_view s) (map span_view all) e))
    by false e rest =
        ap (λ ys. ys ++ flat_map (overlaps_of (map span_view (in_order_of all))) (map span_view (in_order_of ss)))
        (overlaps_of_sound (span_view s) all)
        ∙ ap (λ ys. overlaps_of (map span_view all) (span_view s) ++ ys) rest

pub overlaps_in_order : (ss : List Span) → overlaps (map span_view (in_order_of ss)) ≡ overlaps (map span_view ss)
overlaps_in_order ss = overlaps_among ss ss

-- a span begins before another one
pub data Begins (s t : Span) : Type 0 where
  at_smaller : s.lower <ℤ t.lower → Begins s t
  at_same : s.lower ≡ t.lower → s.place < t.place → Begins s t

begins_told : (s t : Span) → begins_before (span_view s) (span_view t) ≡ true → Begins s t
begins_told s t h =
    by (int_lt s.lower t.lower) (int_eq s.lower t.lower) (nat_lt s.place t.place) refl refl refl h
  where
    by : (a b c : Bool) → int_lt s.lower t.lower ≡ a → int_eq s.lower t.lower ≡ b → nat_lt s.place t.place ≡ c
        → (a || (b && c)) ≡ true → Begins s t
    by true b c i j k e = at_smaller (grind (arith, ints))
    by false true true i j k e = at_same ((Decides-int_eq s.lower t.lower).0 j) (grind (arith, nat_tests))
    by false true false i j k e = absurd (cc)
    by false false c i j k e = absurd (cc)

begins_tested : (s t : Span) → Begins s t → begins_before (span_view s) (span_view t) ≡ true
begins_tested s t (at_smaller h) =
    ap (λ a. a || (int_eq s.lower t.lower && nat_lt s.place t.place)) (below s.lower t.lower h)
  where
    below : (a b : ℤ) → a <ℤ b → int_lt a b ≡ true
    below a b h = grind (arith, ints)
begins_tested s t (at_same is lt) =
    either (int_lt s.lower t.lower) (int_eq s.lower t.lower) (nat_lt s.place t.place)
    ((Decides-int_eq s.lower t.lower).1 is) (below s.place t.place lt)
  where
    below : (a b : ℕ) → a < b → nat_lt a b ≡ true
    below a b h = grind (arith, nat_tests)

    either : (a b c : Bool) → b ≡ true → c ≡ true → (a || (b && c)) ≡ true
    either true b c h i = refl
    either false true true h i = refl
    either false false c h i = absurd (cc)
    either false true false h i = absurd (cc)

begins_no_later : (s t : Span) → Begins s t → s.lower ≤ℤ t.lower
begins_no_later s t (at_smaller h) = grind (arith, ints)
begins_no_later s t (at_same is lt) = subst (λ v. s.lower ≤ℤ v) is (at_most_itself s.lower)

-- a span overlaps another one, of its type, and begins before it
pub record Precedes (s t : Span) : Type 0 where
  pub same : same_kind s.kind t.kind ≡ true
  pub reaches : t.lower ≤ℤ s.upper
  pub begins : Begins s t

-- Of two that overlap, one begins before the other.
one_precedes : (s t : Span) → do_overlap (span_view s) (span_view t) ≡ true → Precedes s t ⊎ Precedes t s
one_precedes s t h =
    by (same_kind s.kind t.kind) (not (int_lt s.upper s.lower)) (not (int_lt t.upper t.lower)) (int_le s.lower t.upper)
    (int_le t.lower s.upper) (begins_before (span_view s) (span_view t)) (begins_before (span_view t) (span_view s))
    refl refl refl refl refl h
  where
    by : (a b c d e f g : Bool) → same_kind s.kind t.kind ≡ a → int_le s.lower t.upper ≡ d → int_le t.lower s.upper ≡ e
        → begins_before (span_view s) (span_view t) ≡ f → begins_before (span_view t) (span_view s) ≡ g
        → ((a && b && c && d && e) && (f || g)) ≡ true → Precedes s t ⊎ Precedes t s
    by true true true true true true g i j k l m n =
        inl (record { same = i; reaches = grind (arith, ints); begins = begins_told s t l })
    by true true true true true false true i j k l m n = inr (record {
      same = kinds_turned s.kind t.kind i;
      reaches = grind (arith, ints);
      begins = begins_told t s m;
    })
    by false b c d e f g i j k l m n = absurd (cc)
    by true false c d e f g i j k l m n = absurd (cc)
    by true true false d e f g i j k l m n = absurd (cc)
    by true true true false e f g i j k l m n = absurd (cc)
    by true true true true false f g i j k l m n = absurd (cc)
    by true true true true true false false i j k l m n = absurd (cc)

all_six : (a b c d e f : Bool) → a ≡ true → b ≡ true → c ≡ true → d ≡ true → e ≡ true → f ≡ true
    → ((a && b && c && d && e) && f) ≡ true
all_six a b c d e f h i j l m n = rw (h, i, j, l, m, n) refl

not_reversed : (u v : ℤ) → u ≤ℤ v → not (int_lt v u) ≡ true
not_reversed u v h = grind (arith, ints)

reaching : (u v : ℤ) → u ≤ℤ v → int_le u v ≡ true
reaching u v h = grind (arith, ints)

either_left : (a b : Bool) → a ≡ true → (a || b) ≡ true
either_left a b h = rw h refl

either_right : (a b : Bool) → b ≡ true → (a || b) ≡ true
either_right true b h = refl
either_right false b h = h

-- So both overlap each other.
later_overlaps : (s t : Span) → IsSound s → IsSound t → Precedes s t → do_overlap (span_view s) (span_view t) ≡ true
later_overlaps s t h i p =
    all_six (same_kind s.kind t.kind) (not (int_lt s.upper s.lower)) (not (int_lt t.upper t.lower))
    (int_le s.lower t.upper) (int_le t.lower s.upper)
    (begins_before (span_view s) (span_view t) || begins_before (span_view t) (span_view s)) p.same
    (not_reversed s.lower s.upper h) (not_reversed t.lower t.upper i)
    (reaching s.lower t.upper (at_most_then s.lower t.lower t.upper (begins_no_later s t p.begins) i))
    (reaching t.lower s.upper p.reaches)
    (either_left (begins_before (span_view s) (span_view t)) (begins_before (span_view t) (span_view s))
    (begins_tested s t p.begins))

earlier_overlaps : (s t : Span) → IsSound s → IsSound t → Precedes s t → do_overlap (span_view t) (span_view s) ≡ true
earlier_overlaps s t h i p =
    all_six (same_kind t.kind s.kind) (not (int_lt t.upper t.lower)) (not (int_lt s.upper s.lower))
    (int_le t.lower s.upper) (int_le s.lower t.upper)
    (begins_before (span_view t) (span_view s) || begins_before (span_view s) (span_view t))
    (kinds_turned s.kind t.kind p.same) (not_reversed t.lower t.upper i) (not_reversed s.lower s.upper h)
    (reaching t.lower s.upper p.reaches)
    (reaching s.lower t.upper (at_most_then s.lower t.lower t.upper (begins_no_later s t p.begins) i))
    (either_right (begins_before (span_view t) (span_view s)) (begins_before (span_view s) (span_view t))
    (begins_tested s t p.begins))

-- what stands in front of a span in order does not begin after it
none_begins_after : (s t : Span) → InOrder t s → Precedes s t → ⊥
none_begins_after s t o p = by o p.begins
  where
    by : InOrder t s → Begins s t → ⊥
    by (by_type b) i =
        contrary (same_kind t.kind s.kind) (kinds_turned s.kind t.kind p.same) (not_itself t.kind s.kind b)
    by (by_lower own lt) (at_smaller h) = not_both_below s.lower t.lower h lt
    by (by_lower own lt) (at_same is after) = not_below_itself t.lower (subst (λ v. t.lower <ℤ v) is lt)
    by (by_place own is le ends) (at_smaller h) = not_below_itself s.lower (subst (λ v. s.lower <ℤ v) is h)
    by (by_place own also le ends) (at_same is lt) = absurd (omega (arith, le, lt))

itself_in_order : (s : Span) → InOrder s s
itself_in_order s = by_place (same_kind-refl s.kind) refl (omega arith) (λ same. at_most_itself s.upper)

-- faults of overlaps come from two spans that overlap; the fault is the second one's
pub record Pair (all : List Span) (b : Broken) : Type 0 where
  pub first : Span
  pub second : Span
  pub has_first : Contains all first
  pub has_second : Contains all second
  pub meets : do_overlap (span_view first) (span_view second) ≡ true
  pub is : rules.overlap (span_view second) (span_view first) ≡ b

pair_of : (all : List Span) (b : Broken) → Contains (overlaps (map span_view all)) b → Pair all b
pair_of all b h =
    let t = in_flat_map (overlaps_of (map span_view all)) (map span_view all) b h in
    let own = in_map span_view all t.0 t.1 in
    let s = in_map (rules.overlap t.0) (filter (λ s. do_overlap s t.0) (map span_view all)) b t.2 in
    let there = in_filter (λ s. do_overlap s t.0) (map span_view all) s.0 s.1 in
    let other = in_map span_view all s.0 there.0 in
    record {
      first = other.0;
      second = own.0;
      has_first = other.1;
      has_second = own.1;
      meets = rw (other.2, own.2) there.1;
      is = rw (other.2, own.2) s.2;
    }

pair_there : (all : List Span) (s t : Span) → Contains all s → Contains all t
    → do_overlap (span_view s) (span_view t) ≡ true
    → Contains (overlaps (map span_view all)) (rules.overlap (span_view t) (span_view s))
pair_there all s t h i e =
    flat_map_has (overlaps_of (map span_view all)) (map span_view all) (span_view t)
    (rules.overlap (span_view t) (span_view s)) (map_has span_view all t i)
    (map_has (rules.overlap (span_view t)) (filter (λ r. do_overlap r (span_view t)) (map span_view all)) (span_view s)
    (filter_has (λ r. do_overlap r (span_view t)) (map span_view all) (span_view s) (map_has span_view all s h) e))

-- the sorted spans, and the first n of them
pub ascend_sorted : (ss : List Span)
    → IsSortedByKey {K = ℕ × ℕ × ℕ × ℤ × ℕ × ℤ}
    (λ (s : Span). (kind_index s.kind, names_in s.kind, number_of_type s.kind, s.lower, s.place, s.upper))
    (λ x y. ordering_then (ordering_then (ordering_then (ordering_then (ordering_then (nat_cmp x.0 y.0)
    (nat_cmp x.1 y.1)) (nat_cmp x.2 y.2)) (int_cmp x.3 y.3)) (nat_cmp x.4 y.4)) (int_cmp x.5 y.5)) ss
    → Ascend ss
ascend_sorted ss h j d lt =
    in_order (slice_index_or ss j d) (slice_index_or ss (j + 1) d) (h j d (omega arith) lt)

abbrev pub Seen : List Span → ℕ → Span → Type 0
Seen ss n s = (k : ℕ) × (k < n) × (slice_index_or ss k s ≡ s)

seen_there : (ss : List Span) (n : ℕ) (s : Span) → n ≤ length ss → Seen ss n s → Contains ss s
seen_there ss n s le h = (h.0, (let lt = h.1 in omega (arith, le, lt)), h.2)

seen_later : (ss : List Span) (n : ℕ) (s : Span) → Seen ss n s → Seen ss (n + 1) s
seen_later ss n s h = (h.0, (let lt = h.1 in omega (arith, lt)), h.2)

last_seen : (ss : List Span) (n : ℕ) (e : Span) → n < length ss → Seen ss (n + 1) (slice_index_or ss n e)
last_seen ss n e lt = (n, omega arith, get_or_default ss n (slice_index_or ss n e) e lt)

seen_cases : (ss : List Span) (n : ℕ) (e s : Span) → n < length ss → Seen ss (n + 1) s
    → Seen ss n s ⊎ (slice_index_or ss n e ≡ s)
seen_cases ss n e s lt h =
    ⊎_elim
    (λ same. inr (get_or_default ss n e s lt ∙ subst (λ k. slice_index_or ss k s ≡ s) same h.2))
    (λ other. inl (h.0, (let le = h.1 in omega (arith, le, other)), h.2))
    (cases_eq h.0 n)

next_is : (n : ℕ) → n + 1 ≡ suc n
next_is n = omega arith

ordered : (ss : List Span) → Ascend ss → (n : ℕ) (e s : Span) → n < length ss → Seen ss n s
    → InOrder s (slice_index_or ss n e)
ordered ss up zero e s lt h = absurd (let none = h.1 in omega (arith, none))
ordered ss up (suc n) e s lt h =
    let last : InOrder (slice_index_or ss n e) (slice_index_or ss (suc n) e) =
    subst (λ m. InOrder (slice_index_or ss n e) (slice_index_or ss m e)) (next_is n) (up n e (omega (arith, lt))) in
    elim (seen_cases ss n e s (omega (arith, lt)) (h.0, (let le = h.1 in omega (arith, le)), h.2)) [
      | inl p ↦ in_order_then s (slice_index_or ss n e) (slice_index_or ss (suc n) e)
          (ordered ss up n e s (omega (arith, lt)) p) last
      | inr q ↦ subst (λ x. InOrder x (slice_index_or ss (suc n) e)) q last
    ]

-- a span that another one reaches past: of a type before its type, or of its type and ending no later
pub data IsPast (s r : Span) : Type 0 where
  of_type_before : Before s.kind r.kind → IsPast s r
  of_its_type : same_kind s.kind r.kind ≡ true → s.upper ≤ℤ r.upper → IsPast s r

past_itself : (s : Span) → IsPast s s
past_itself s = of_its_type (same_kind-refl s.kind) (at_most_itself s.upper)

type_before : (r x : Span) → InOrder r x → same_kind r.kind x.kind ≡ false → Before r.kind x.kind
type_before r x (by_type b) h = b
type_before r x (by_lower own lt) h = absurd (contrary (same_kind r.kind x.kind) own h)
type_before r x (by_place own is le ends) h = absurd (contrary (same_kind r.kind x.kind) own h)

past_longer : (s r x : Span) → IsPast s r → same_kind r.kind x.kind ≡ true → int_lt x.upper r.upper ≡ false → IsPast s x
past_longer s r x (of_type_before b) own h = of_type_before (before_same s.kind r.kind x.kind b own)
past_longer s r x (of_its_type same le) own h =
    of_its_type (kinds_then s.kind r.kind x.kind same own)
    (at_most_then s.upper r.upper x.upper le (at_least x.upper r.upper h))
  where
    at_least : (u v : ℤ) → int_lt u v ≡ false → v ≤ℤ u
    at_least u v h = grind (arith, ints)

past_other : (s r x : Span) → IsPast s r → Before r.kind x.kind → IsPast s x
past_other s r x (of_type_before b) c = of_type_before (before_before s.kind r.kind x.kind b c)
past_other s r x (of_its_type same le) c = of_type_before (same_before s.kind r.kind x.kind same c)

past_further : (s r x : Span) → IsPast s r → InOrder r x → IsPast s (further r x)
past_further s r x h o = by (same_kind r.kind x.kind) (int_lt x.upper r.upper) refl refl
  where
    by : (a b : Bool) → same_kind r.kind x.kind ≡ a → int_lt x.upper r.upper ≡ b → IsPast s (if a && b then r else x)
    by true true i j = h
    by true false i j = past_longer s r x h i j
    by false b i j = past_other s r x h (type_before r x o i)

own_past : (r x : Span) → IsPast x (further r x)
own_past r x = by (same_kind r.kind x.kind) (int_lt x.upper r.upper) refl refl
  where
    below : (u v : ℤ) → int_lt u v ≡ true → u ≤ℤ v
    below u v h = grind (arith, ints)

    by : (a b : Bool) → same_kind r.kind x.kind ≡ a → int_lt x.upper r.upper ≡ b → IsPast x (if a && b then r else x)
    by true true i j = of_its_type (kinds_turned r.kind x.kind i) (below x.upper r.upper j)
    by true false i j = past_itself x
    by false b i j = past_itself x

-- What reaches furthest before a span reaches any that overlaps it: it is of its type, and ends no earlier.
reached_past : (s r x : Span) → IsPast s r → InOrder r x → Precedes s x
    → (same_kind s.kind r.kind ≡ true) × (same_kind r.kind x.kind ≡ true) × (x.lower ≤ℤ r.upper)
reached_past s r x (of_type_before b) o p =
    absurd (contrary (same_kind s.kind x.kind) p.same (not_itself s.kind x.kind (before_in_order s.kind r x b o)))
reached_past s r x (of_its_type same le) o p =
    (same, kinds_joined s.kind r.kind x.kind same p.same, at_most_then x.lower s.upper r.upper p.reaches le)

-- Of two in order, of one type, the first begins before the other, or both begin at one number and at one place, and
-- the other one ends no earlier.
begins_or_same : (r x : Span) → same_kind r.kind x.kind ≡ true → InOrder r x
    → Begins r x ⊎ ((r.lower ≡ x.lower) × (r.place ≡ x.place) × (r.upper ≤ℤ x.upper))
begins_or_same r x own (by_type b) =
    absurd (contrary (same_kind r.kind x.kind) own (not_itself r.kind x.kind b))
begins_or_same r x own (by_lower same lt) = inl (at_smaller lt)
begins_or_same r x own (by_place same is le ends) =
    ⊎_elim (λ at. inr (is, at, ends at))
    (λ other. inl (at_same is (omega (arith, le, other)))) (cases_eq r.place x.place)

begins_also : (s r x : Span) → r.lower ≡ x.lower → r.place ≡ x.place → Begins s x → Begins s r
begins_also s r x is at (at_smaller lt) = at_smaller (subst (λ v. s.lower <ℤ v) (sym is) lt)
begins_also s r x is at (at_same own lt) = at_same (own ∙ sym is) (omega (arith, lt, at))

begins_from : (r x t : Span) → r.lower ≡ x.lower → r.place ≡ x.place → Begins r t → Begins x t
begins_from r x t is at (at_smaller lt) = at_smaller (subst (λ v. v <ℤ t.lower) is lt)
begins_from r x t is at (at_same own lt) = at_same (sym is ∙ own) (omega (arith, lt, at))

-- an overlap that was found at a place
pub record HasOverlap (it : BrokenRules) (place : ℕ) : Type 0 where
  pub fault : Broken
  pub is_found : Contains it.found.items fault
  pub overlaps : is_overlap fault.reason ≡ true
  pub at : fault.place ≡ place

overlap_kept : (faults : List Broken) (it next : BrokenRules) (place : ℕ) → Adds faults it next → HasOverlap it place
    → HasOverlap next place
overlap_kept faults it next place a h = record {
  fault = h.fault;
  is_found = found_stays faults it next h.fault a h.is_found;
  overlaps = h.overlaps;
  at = h.at;
}

-- what stands for an overlap is one at its place
standing : (it : BrokenRules) (s t : rules.Span) (c : Broken) → Contains it.found.items c
    → StandsFor (rules.overlap t s) c → HasOverlap it t.place
standing it s t c h (an_equal_one e) =
    let o = equal_overlap c (bounds_of t) (bounds_of s) s.place t.place e in
    record { fault = c; is_found = h; overlaps = o.0; at = o.1 }
standing it s t c h (one_that_contains_itself depth is) = absurd (cc)
standing it s t c h (of_the_same_label own also at) =
    record { fault = c; is_found = h; overlaps = also; at = at }

touches_where : (r x : Span) → same_kind r.kind x.kind ≡ true → x.lower ≤ℤ r.upper → Begins r x → touches r x ≡ true
touches_where r x own le b =
    all_three (same_kind r.kind x.kind) (int_le x.lower r.upper) (begins_before (span_view r) (span_view x)) own
    (reaching x.lower r.upper le) (begins_tested r x b)
  where
    all_three : (a b c : Bool) → a ≡ true → b ≡ true → c ≡ true → (a && b && c) ≡ true
    all_three a b c h i j = rw (h, i, j) refl

touches_told : (r x : Span) → touches r x ≡ true → Precedes r x
touches_told r x h =
    by (same_kind r.kind x.kind) (int_le x.lower r.upper) (begins_before (span_view r) (span_view x)) refl refl refl h
  where
    by : (a b c : Bool) → same_kind r.kind x.kind ≡ a → int_le x.lower r.upper ≡ b
        → begins_before (span_view r) (span_view x) ≡ c → (a && b && c) ≡ true → Precedes r x
    by true true true i j k g = record { same = i; reaches = grind (arith, ints); begins = begins_told r x k }
    by false b c i j k g = absurd (cc)
    by true false c i j k g = absurd (cc)
    by true true false i j k g = absurd (cc)

found_touching : (r x : Span) (it next : BrokenRules) → is_full next ≡ false → touches r x ≡ true
    → Collects (touching r x) it next → HasOverlap next x.place
found_touching r x it next full h c =
    let own : Collects (rules.overlap (span_view x) (span_view r) ∷ []) it next =
    subst (λ b. Collects (if b then rules.overlap (span_view x) (span_view r) ∷ [] else []) it next) h c in
    elim (own.covers full (rules.overlap (span_view x) (span_view r)) (0, omega arith, refl)) [
      | inl p ↦ record {
        fault = rules.overlap (span_view x) (span_view r);
        is_found = p;
        overlaps = refl;
        at = refl;
      }
      | inr p ↦ standing next (span_view r) (span_view x) p.other p.is_found p.stands
    ]

found_back : (y x : Span) (it next : BrokenRules) → is_full next ≡ false → touches y x ≡ true
    → Collects (touching_back y x) it next → HasOverlap next y.place
found_back y x it next full h c =
    let own : Collects (rules.overlap (span_view y) (span_view x) ∷ []) it next =
    subst (λ b. Collects (if b then rules.overlap (span_view y) (span_view x) ∷ [] else []) it next) h c in
    elim (own.covers full (rules.overlap (span_view y) (span_view x)) (0, omega arith, refl)) [
      | inl p ↦ record {
        fault = rules.overlap (span_view y) (span_view x);
        is_found = p;
        overlaps = refl;
        at = refl;
      }
      | inr p ↦ standing next (span_view x) (span_view y) p.other p.is_found p.stands
    ]

one_among : (o : Broken) (ys : List Broken) → Contains ys o → AreAmong (o ∷ []) ys
one_among o ys h b (zero, lt, is) = subst (λ x. Contains ys x) is h
one_among o ys h b (suc n, lt, is) = absurd (omega (arith, lt))

touching_among : (all : List Span) (r x : Span) → Contains all r → Contains all x → IsSound r → IsSound x
    → AreAmong (touching r x) (overlaps (map span_view all))
touching_among all r x h i j k = by (touches r x) refl
  where
    by : (b : Bool) → touches r x ≡ b
        → AreAmong (if b then rules.overlap (span_view x) (span_view r) ∷ [] else []) (overlaps (map span_view all))
    by false e = none_among (overlaps (map span_view all))
    by true e =
        one_among (rules.overlap (span_view x) (span_view r)) (overlaps (map span_view all))
        (pair_there all r x h i (later_overlaps r x j k (touches_told r x e)))

back_among : (all : List Span) (y x : Span) → Contains all y → Contains all x → IsSound y → IsSound x
    → AreAmong (touching_back y x) (overlaps (map span_view all))
back_among all y x h i j k = by (touches y x) refl
  where
    by : (b : Bool) → touches y x ≡ b
        → AreAmong (if b then rules.overlap (span_view y) (span_view x) ∷ [] else []) (overlaps (map span_view all))
    by false e = none_among (overlaps (map span_view all))
    by true e =
        one_among (rules.overlap (span_view y) (span_view x)) (overlaps (map span_view all))
        (pair_there all x y i h (earlier_overlaps y x j k (touches_told y x e)))

-- The first n of the sorted spans were compared: each of them that overlaps one of them that begins before it was
-- found, each that overlaps the next of them, and one of them reaches past all the others.
pub record Swept (all spans : List Span) (n : ℕ) (reach : Span) (start it : BrokenRules) : Type 0 where
  pub adds : Adds (overlaps (map span_view all)) start it
  pub reached : Seen spans n reach
  pub furthest : (s : Span) → Seen spans n s → IsPast s reach
  pub found : is_full it ≡ false → (s t : Span) → Seen spans n s → Seen spans n t → Precedes s t → HasOverlap it t.place
  pub neighbours : is_full it ≡ false → (j : ℕ) (s t : Span) → j + 1 < n → slice_index_or spans j s ≡ s
      → slice_index_or spans (j + 1) t ≡ t → Precedes s t → HasOverlap it s.place

pub swept_first : (all spans : List Span) (e : Span) (start it : BrokenRules) → start ≡ it → 0 < length spans
    → Swept all spans 1 (slice_index_or spans 0 e) start it
swept_first all spans e start it is some =
    subst (λ b. Swept all spans 1 (slice_index_or spans 0 e) start b) is (record {
      adds = adds_nothing (overlaps (map span_view all)) start;
      reached = (0, omega arith, get_or_default spans 0 (slice_index_or spans 0 e) e some);
      furthest = λ s h. subst (λ x. IsPast s x) (only s h) (past_itself s);
      found = λ full s t h i p.
          absurd (none_begins_after s t (subst (λ x. InOrder t x) (only t i ∙ sym (only s h)) (itself_in_order t)) p);
      neighbours = λ full j s t lt h i p. absurd (omega (arith, lt));
    })
  where
    only : (s : Span) → Seen spans 1 s → s ≡ slice_index_or spans 0 e
    only s (zero, lt, at) = sym at ∙ get_or_default spans 0 s e some
    only s (suc k, lt, at) = absurd (omega (arith, lt))

found_next : (spans : List Span) (n : ℕ) (s r x : Span) (it next : BrokenRules) → is_full next ≡ false → InOrder r x
    → Seen spans n s → Seen spans n r → IsPast s r
    → (is_full it ≡ false → (s t : Span) → Seen spans n s → Seen spans n t → Precedes s t → HasOverlap it t.place)
    → Collects (touching r x) it next → Precedes s x → HasOverlap next x.place
found_next spans n s r x it next full o h i past before c p =
    let there = reached_past s r x past o p in
    elim (begins_or_same r x there.1 o) [
      | inl b ↦ found_touching r x it next full (touches_where r x there.1 there.2 b) c
      | inr same ↦ subst (λ place. HasOverlap next place) same.1
          (overlap_kept (touching r x) it next r.place c.adds
          (before (room_before (touching r x) it next c.adds full) s r h i (record {
            same = there.0;
            reaches = subst (λ v. v ≤ℤ s.upper) (sym same.0) p.reaches;
            begins = begins_also s r x same.0 same.1 p.begins;
          })))
    ]

-- after the next span was compared with the one that reaches furthest
found_on : (all spans : List Span) (n : ℕ) (r e : Span) (start it next : BrokenRules) → n < length spans → Ascend spans
    → Swept all spans n r start it → Collects (touching r (slice_index_or spans n e)) it next → is_full next ≡ false
    → (s t : Span) → Seen spans (n + 1) s → Seen spans (n + 1) t → Precedes s t → HasOverlap next t.place
found_on all spans n r e start it next lt up h c full s t i j p =
    let x = slice_index_or spans n e in
    let o = ordered spans up n e r lt h.reached in
    elim (seen_cases spans n e t lt j) [
      | inl k ↦ elim (seen_cases spans n e s lt i) [
        | inl l ↦ overlap_kept (touching r x) it next t.place c.adds
            (h.found (room_before (touching r x) it next c.adds full) s t l k p)
        | inr l ↦ absurd (none_begins_after s t (subst (λ y. InOrder t y) l (ordered spans up n e t lt k)) p)
      ]
      | inr k ↦ elim (seen_cases spans n e s lt i) [
        | inl l ↦ subst (λ y. HasOverlap next y.place) k
            (found_next spans n s r x it next full o l h.reached (h.furthest s l) h.found c
            (subst (λ y. Precedes s y) (sym k) p))
        | inr l ↦ absurd (none_begins_after s t (subst (λ y. InOrder t y) (sym k ∙ l) (itself_in_order t)) p)
      ]
    ]

pub swept_next : (all spans : List Span) (n m : ℕ) (r e d : Span) (start it mid next : BrokenRules) → m + 1 ≡ n
    → n < length spans → IsPermutation all spans → Ascend spans → All IsSound spans → Swept all spans n r start it
    → Collects (touching r (slice_index_or spans n e)) it mid
    → Collects (touching_back (slice_index_or spans m d) (slice_index_or spans n e)) mid next
    → Swept all spans (n + 1) (further r (slice_index_or spans n e)) start next
swept_next all spans n m r e d start it mid next is lt p up sound h c b =
    let x = slice_index_or spans n e in
    let y = slice_index_or spans m d in
    let own = last_seen spans n e lt in
    let has_x = seen_there spans (n + 1) x (omega (arith, lt)) own in
    let has_r = seen_there spans n r (omega (arith, lt)) h.reached in
    let has_y = seen_there spans (m + 1) y (omega (arith, lt, is)) (last_seen spans m d (omega (arith, lt, is))) in
    let turned = IsPermutation-sym all spans p in
    let o = ordered spans up n e r lt h.reached in
    let among = touching_among all r x (Contains-permutation spans all r turned has_r)
    (Contains-permutation spans all x turned has_x) (All-contains IsSound spans r sound has_r)
    (All-contains IsSound spans x sound has_x) in
    let also = back_among all y x (Contains-permutation spans all y turned has_y)
    (Contains-permutation spans all x turned has_x) (All-contains IsSound spans y sound has_y)
    (All-contains IsSound spans x sound has_x) in
    record {
      adds = adds_then (overlaps (map span_view all)) start mid next
          (adds_then (overlaps (map span_view all)) start it mid h.adds
          (adds_more (touching r x) (overlaps (map span_view all)) it mid among c.adds))
          (adds_more (touching_back y x) (overlaps (map span_view all)) mid next also b.adds);
      reached = one_of (same_kind r.kind x.kind && int_lt x.upper r.upper) (seen_later spans n r h.reached) own;
      furthest = λ s i. elim (seen_cases spans n e s lt i) [
        | inl j ↦ past_further s r x (h.furthest s j) o
        | inr j ↦ subst (λ z. IsPast z (further r x)) j (own_past r x)
      ];
      found = λ full s t i j q.
          overlap_kept (touching_back y x) mid next t.place b.adds
          (found_on all spans n r e start it mid lt up h c (room_before (touching_back y x) mid next b.adds full) s t i
          j q);
      neighbours = λ full j s t before i k q.
          ⊎_elim (λ same. last full j s t same i k q)
          (λ other. kept full j s t (omega (arith, before, other, is)) i k q) (cases_eq j m);
    }
  where
    one_of : (b : Bool) → Seen spans (n + 1) r → Seen spans (n + 1) (slice_index_or spans n e)
        → Seen spans (n + 1) (if b then r else slice_index_or spans n e)
    one_of true i j = i
    one_of false i j = j

    last : is_full next ≡ false → (j : ℕ) (s t : Span) → j ≡ m → slice_index_or spans j s ≡ s
        → slice_index_or spans (j + 1) t ≡ t → Precedes s t → HasOverlap next s.place
    last full j s t same i k q =
        let first : slice_index_or spans m d ≡ s =
        get_or_default spans m d s (omega (arith, lt, is)) ∙ subst (λ l. slice_index_or spans l s ≡ s) same i in
        let second : slice_index_or spans n e ≡ t =
        get_or_default spans n e t lt ∙ subst (λ l. slice_index_or spans l t ≡ t) (ap (λ l. l + 1) same ∙ is) k in
        let back : Collects (touching_back s t) mid next =
        subst (λ z. Collects (touching_back s z) mid next) second
        (subst (λ z. Collects (touching_back z (slice_index_or spans n e)) mid next) first b) in
        found_back s t mid next full (touches_where s t q.same q.reaches q.begins) back

    kept : is_full next ≡ false → (j : ℕ) (s t : Span) → j + 1 < n → slice_index_or spans j s ≡ s
        → slice_index_or spans (j + 1) t ≡ t → Precedes s t → HasOverlap next s.place
    kept full j s t before i k q =
        let y = slice_index_or spans m d in
        let x = slice_index_or spans n e in
        let room = room_before (touching_back y x) mid next b.adds full in
        overlap_kept (touching_back y x) mid next s.place b.adds
        (overlap_kept (touching r x) it mid s.place c.adds
        (h.neighbours (room_before (touching r x) it mid c.adds room) j s t before i k q))

-- What stands between two of one type is of that type, and begins no later than the second.
kind_between : (s u t : Span) → InOrder s u → InOrder u t → same_kind s.kind t.kind ≡ true
    → same_kind s.kind u.kind ≡ true
kind_between s u t (by_type b) o h =
    absurd (contrary (same_kind s.kind t.kind) h (not_itself s.kind t.kind (before_in_order s.kind u t b o)))
kind_between s u t (by_lower own lt) o h = own
kind_between s u t (by_place own is le ends) o h = own

lower_in_order : (u t : Span) → InOrder u t → same_kind u.kind t.kind ≡ true → u.lower ≤ℤ t.lower
lower_in_order u t (by_type b) h = absurd (contrary (same_kind u.kind t.kind) h (not_itself u.kind t.kind b))
lower_in_order u t (by_lower own lt) h = grind (arith, ints)
lower_in_order u t (by_place own is le ends) h = subst (λ v. u.lower ≤ℤ v) is (at_most_itself u.lower)

-- A span that overlaps one after it overlaps the next one, or the next one begins with it and overlaps that one too.
found_ahead : (spans : List Span) (it : BrokenRules) → Ascend spans
    → ((j : ℕ) (s t : Span) → j + 1 < length spans → slice_index_or spans j s ≡ s → slice_index_or spans (j + 1) t ≡ t
    → Precedes s t → HasOverlap it s.place)
    → (k i j : ℕ) (s t : Span) → i < j → j ≤ i + suc k → j < length spans → slice_index_or spans i s ≡ s
    → slice_index_or spans j t ≡ t → Precedes s t → HasOverlap it s.place
found_ahead spans it up near zero i j s t after le lt h l p =
    near i s t (omega (arith, after, lt)) h
    (subst (λ m. slice_index_or spans m t ≡ t) (let same : j ≡ i + 1 = omega (arith, after, le) in same) l) p
found_ahead spans it up near (suc k) i j s t after le lt h l p =
    ⊎_elim (λ same. near i s t (omega (arith, after, lt)) h (subst (λ m. slice_index_or spans m t ≡ t) same l) p)
    (λ other. past_next
    (λ u there at_u q. found_ahead spans it up near k (i + 1) j u t there (omega (arith, le)) lt at_u l q)
    (omega (arith, after, other))) (cases_eq j (i + 1))
  where
    past_next : ((u : Span) → i + 1 < j → slice_index_or spans (i + 1) u ≡ u → Precedes u t → HasOverlap it u.place)
        → i + 1 < j → HasOverlap it s.place
    past_next rest there =
        let u = slice_index_or spans (i + 1) s in
        let at_u : slice_index_or spans (i + 1) u ≡ u =
        get_or_default spans (i + 1) u s (omega (arith, there, lt)) in
        let own : InOrder s u = subst (λ z. InOrder z u) h (up i s (omega (arith, there, lt))) in
        let next : InOrder u t =
        subst (λ z. InOrder u z) l (ordered spans up j t u lt (i + 1, there, at_u)) in
        let same = kind_between s u t own next p.same in
        let also = kinds_joined s.kind u.kind t.kind same p.same in
        elim (begins_or_same s u same own) [
          | inl b ↦ near i s u (omega (arith, there, lt)) h at_u (record {
            same = same;
            reaches = at_most_then u.lower t.lower s.upper (lower_in_order u t next also) p.reaches;
            begins = b;
          })
          | inr q ↦ subst (λ place. HasOverlap it place) (sym q.1)
              (rest u there at_u (record {
                same = also;
                reaches = at_most_then t.lower s.upper u.upper p.reaches q.2;
                begins = begins_from s u t q.0 q.1 p.begins;
              }))
        ]

-- What begins before another one stands before it.
found_after : (spans : List Span) (it : BrokenRules) → Ascend spans
    → ((j : ℕ) (s t : Span) → j + 1 < length spans → slice_index_or spans j s ≡ s → slice_index_or spans (j + 1) t ≡ t
    → Precedes s t → HasOverlap it s.place)
    → (s t : Span) → Contains spans s → Contains spans t → Precedes s t → HasOverlap it s.place
found_after spans it up near s t (i, below, h) (j, lt, l) p = by (nat_lt i j) refl
  where
    before : nat_lt i j ≡ true → i < j
    before e = grind (arith, nat_tests)

    no_later : nat_lt i j ≡ false → j ≤ i
    no_later e = grind (arith, nat_tests)

    by : (b : Bool) → nat_lt i j ≡ b → HasOverlap it s.place
    by true e = found_ahead spans it up near j i j s t (before e) (omega arith) lt h l p
    by false e =
        let le = no_later e in
        absurd (none_begins_after s t
        (⊎_elim (λ same. subst (λ z. InOrder t z) (sym l ∙ get_or_default spans j t s lt
        ∙ subst (λ m. slice_index_or spans m s ≡ s) same h) (itself_in_order t))
        (λ other. subst (λ z. InOrder t z) h (ordered spans up i s t below (j, omega (arith, le, other), l)))
        (cases_eq i j)) p)

pub swept_all : (all spans : List Span) (n : ℕ) (r : Span) (start it : BrokenRules) → length spans ≤ n
    → IsPermutation all spans → Ascend spans → Swept all spans n r start it
    → Collects (overlaps (map span_view all)) start it
swept_all all spans n r start it done p up h = record {
  adds = h.adds;
  covers = λ full b k. inr (stands b (pair_of all b k) full);
}
  where
    seen : (s : Span) → Contains spans s → Seen spans n s
    seen s i = (i.0, (let lt = i.1 in omega (arith, lt, done)), i.2)

    at_second : (s t : Span) → is_full it ≡ false → Contains spans s → Contains spans t
        → Precedes s t ⊎ Precedes t s → HasOverlap it t.place
    at_second s t full i j (inl q) = h.found full s t (seen s i) (seen t j) q
    at_second s t full i j (inr q) =
        found_after spans it up (λ k u v lt l m o. h.neighbours full k u v (omega (arith, lt, done)) l m o) t s j i q

    stands : (b : Broken) → Pair all b → is_full it ≡ false → IsSampled it.found.items b
    stands b k full =
        let one = at_second k.first k.second full (Contains-permutation all spans k.first p k.has_first)
        (Contains-permutation all spans k.second p k.has_second) (one_precedes k.first k.second k.meets) in
        record {
          other = one.fault;
          is_found = one.is_found;
          stands = of_the_same_label (ap (λ c. is_overlap c.reason) (sym k.is)) one.overlaps
              (one.at ∙ ap (λ c. c.place) k.is);
        }

-- there are none
pub swept_none : (all spans : List Span) (start it : BrokenRules) → start ≡ it → length spans ≡ 0
    → IsPermutation all spans → Collects (overlaps (map span_view all)) start it
swept_none all spans start it is empty p =
    subst (λ b. Collects (overlaps (map span_view all)) start b) is (record {
      adds = adds_nothing (overlaps (map span_view all)) start;
      covers = λ full b k.
          absurd (let there = Contains-permutation all spans (pair_of all b k).first p (pair_of all b k).has_first in
          let lt = there.1 in omega (arith, lt, empty));
    })
