-- A part that is read as an initial value is one, and the tokens before a refusal begin one.
use Rattle.std.proofs.Common.{◌≡◌, ℕ, zero, suc, ◌+◌, ◌<◌, ◌≤◌, true, false, ◌||◌, List, [], ◌∷◌, length, Some, None, Err}
use Rattle.std.proofs.Common.{refl, ap, arith, inl, inr}
use Rattle.st_types.specs.declared.literal.Number.{Number as NumberLeaf}
use Rattle.st_types.specs.declared.literal.Literal.{Literal}
use Rattle.st_types.specs.declared.literal.Literal.TheVariants as literals
use Rattle.st_lex.specs.declared.token.Token.{Token}
use Rattle.st_lex.specs.declared.token.TokenKind.{TokenKind}
use Rattle.st_lex.specs.declared.token.TokenKind.TheVariants.{Name, Mark, Number, Truth, Duration, Enumerated}
use Rattle.st_lex.specs.declared.mark.Mark.TheVariants as m
use Rattle.st_types.specs.Initials.{Initial, Element, Member, elements_of, members_of}
use Rattle.st_types.specs.Initials as i
use Rattle.st_types.specs.Depths.{depth_of_initial, depth_of_element, deepest_element, deepest_member}
use Rattle.st_parse.specs.Tokens.{Tokens, next, Is, is, Passes, mark, name, whole, constant as constant_of}
use Rattle.st_parse.specs.Tokens.{constant_in, value_at, negative_at, unsigned, is_mark, is_number}
use Rattle.st_parse.specs.declared.fault.Refusal.TheVariants.{Unexpected}
use Rattle.st_parse.specs.Parsers.{Parser, if_next, too_deep}
use Rattle.st_parse.specs.InitialReading.{starts_constant, starts_initial, negative_constant_at, literal_constant_at, defaults_of}
use Rattle.st_parse.specs.InitialReading.{member_at, structure_at, single_at, repeated_of, repetition_of}
use Rattle.st_parse.specs.InitialReading.{counted_at, element_at, list_at, initial_at}
use Rattle.st_parse.specs.Laws.{Grammar, IsPrefix}
use Rattle.st_parse.specs.Initials.{IsConstant, literal, negative, IsInitial, constant, list, structure}
use Rattle.st_parse.specs.Initials.{IsElements, elements, IsMoreElements, no_more_elements, next_element}
use Rattle.st_parse.specs.Initials.{IsElement, single, repeated, defaults, IsMembers, members, IsMoreMembers}
use Rattle.st_parse.specs.Initials.{no_more_members, next_member, IsMember, member}
use Rattle.st_parse.proofs.Sound.{Family, Told, Tells, Seq, Made, made, told_agree, told_too_deep}
use Rattle.st_parse.proofs.SoundReadings.{Sound, told_by, sound_then, sound_pure, sound_as, sound_under, sound_if}
use Rattle.st_parse.proofs.SoundReadings.{sound_one, sound_mark, sound_name, sound_whole, IsNegative}
use Rattle.st_parse.proofs.SoundReadings.{sound_negative, token_of, a_number, number_token, an_identifier, mark_is}
use Rattle.st_parse.proofs.SoundReadings.{mark_at, whole_literal}
use Rattle.st_parse.proofs.SoundLists.{Each, sound_listed}
use Rattle.st_parse.proofs.ExpressionFacts.{is_less, or_false, or_true}

abbrev pub LowInitial : ℕ → Initial → Tokens → Type 0
LowInitial depth x us = depth_of_initial x ≤ depth

abbrev pub LowElement : ℕ → Element → Tokens → Type 0
LowElement depth x us = depth_of_element x ≤ depth

abbrev pub LowMember : ℕ → Member → Tokens → Type 0
LowMember depth x us = depth_of_initial x.1 ≤ depth

-- ---- facts about the grammar

constant_less : {ts us : Tokens} {l : Literal} → IsConstant ts l us → length us < length ts
constant_less (literal p) = is_less p
constant_less (negative at n s p eq) = let a = is_less s in let b = is_less p in omega arith

mutual
  pub initial_less : {ts us : Tokens} {x : Initial} → IsInitial ts x us → length us < length ts
  initial_less (constant l p q) = constant_less p
  initial_less (list at xs o p c q) = let a = is_less o in let b = elements_less p in let d = is_less c.1 in omega arith
  initial_less (structure at xs o p c q) = let a = is_less o in let b = members_less p in let d = is_less c.1 in
      omega arith

  pub elements_less : {ts us : Tokens} {xs : List Element} → IsElements ts xs us → length us < length ts
  elements_less (elements p q) = let a = element_less p in let b = more_elements_less q in omega arith

  pub more_elements_less : {ts us : Tokens} {xs : List Element} → IsMoreElements ts xs us → length us ≤ length ts
  more_elements_less no_more_elements = omega arith
  more_elements_less (next_element c p q) = let a = is_less c.1 in let b = element_less p in
      let d = more_elements_less q in omega arith

  pub element_less : {ts us : Tokens} {x : Element} → IsElement ts x us → length us < length ts
  element_less (single v p q) = initial_less p
  element_less (repeated n v p o s c q) = let a = is_less p in let b = is_less o.1 in let d = initial_less s in
      let f = is_less c.1 in omega arith
  element_less (defaults n p o c q) = let a = is_less p in let b = is_less o.1 in let d = is_less c.1 in omega arith

  pub members_less : {ts us : Tokens} {xs : List Member} → IsMembers ts xs us → length us < length ts
  members_less (members p q) = let a = member_less p in let b = more_members_less q in omega arith

  pub more_members_less : {ts us : Tokens} {xs : List Member} → IsMoreMembers ts xs us → length us ≤ length ts
  more_members_less no_more_members = omega arith
  more_members_less (next_member c p q) = let a = is_less c.1 in let b = member_less p in let d = more_members_less q in
      omega arith

  pub member_less : {ts us : Tokens} {x : Member} → IsMember ts x us → length us < length ts
  member_less (member x v n o s q) = let a = is_less n in let b = is_less o.1 in let d = initial_less s in omega arith

pub initial_some : (x : Initial) → 1 ≤ depth_of_initial x
initial_some (i.constant l) = omega arith
initial_some (i.list at xs) = omega arith
initial_some (i.structure at xs) = omega arith

each_element : (n : ℕ) (xs : List Element) → Each (λ x. depth_of_element x ≤ n) xs
    → deepest_element (elements_of xs) ≤ n
each_element n [] all = omega arith
each_element n (x ∷ xs) all = let a = all.0 in let b = each_element n xs all.1 in omega arith

each_member : (n : ℕ) (xs : List Member) → Each (λ x. depth_of_initial x.1 ≤ n) xs → deepest_member (members_of xs) ≤ n
each_member n [] all = omega arith
each_member n (x ∷ xs) all = let a = all.0 in let b = each_member n xs all.1 in omega arith

abbrev a_constant : Initial
a_constant = i.constant (literals.Number a_number)

constant_is : (after : Tokens) → IsInitial (number_token ∷ after) a_constant after
constant_is after = constant (literals.Number a_number) (literal (is refl)) refl

pub initial_begins : IsPrefix IsInitial []
initial_begins = record { more = number_token ∷ []; tree = a_constant; whole = λ after. constant_is after }

element_begins : IsPrefix IsElement []
element_begins = record {
  more = number_token ∷ [];
  tree = i.single a_constant;
  whole =
      λ after. single a_constant (constant_is after) refl;
}

-- ---- parts without initial values

is_negative_constant : (ts : Tokens) (x : Initial) (us : Tokens)
    → Seq IsNegative (λ n. Made (i.constant (literals.Number n))) ts x us → IsInitial ts x us
is_negative_constant ts x us (n, vs, (at, ws, s, (k, zs, w, made same)), made eq) =
    constant (literals.Number n) (negative at k s w (ap literals.Number same)) eq

sound_negative_constant : {C : Type 0} (n : ℕ) → Sound C (λ e. negative_constant_at) IsInitial (LowInitial (n + 1))
unfolding negative_constant_at
sound_negative_constant n = sound_as is_negative_constant (λ x us d. d) (sound_then sound_negative
    (λ k. sound_pure (i.constant (literals.Number k)) (LowInitial (n + 1)) (λ c us. omega arith)))

is_literal_constant : (ts : Tokens) (x : Initial) (us : Tokens) → Seq (Is constant_of) (λ l. Made (i.constant l)) ts x us
    → IsInitial ts x us
is_literal_constant ts x us (l, vs, s, made eq) = constant l (literal s) eq

sound_literal_constant : {C : Type 0} (n : ℕ) → Sound C (λ e. literal_constant_at) IsInitial (LowInitial (n + 1))
unfolding literal_constant_at
sound_literal_constant n = sound_as is_literal_constant (λ x us d. d) (sound_then (sound_one constant_of number_token
    (literals.Number a_number) refl) (λ l. sound_pure (i.constant l) (LowInitial (n + 1)) (λ c us. omega arith)))

-- ---- elements and members, of one depth

is_member : (ts : Tokens) (y : Member) (us : Tokens)
    → Seq (Is name) (λ x. Seq (Is (mark m.Assign)) (λ at. Seq IsInitial (λ v. Made (x, v)))) ts y us → IsMember ts y us
is_member ts y us (x, vs, n, (at, ws, o, (v, zs, s, made eq))) = member x v n (at, o) s eq

is_structure : (ts : Tokens) (x : Initial) (us : Tokens) → Seq (Is (mark m.Open))
    (λ at. Seq IsMembers (λ xs. Seq (Is (mark m.Close)) (λ end. Made (i.structure at (members_of xs))))) ts x us
    → IsInitial ts x us
is_structure ts x us (at, vs, o, (xs, ws, s, (end, zs, c, made eq))) = structure at xs o s (end, c) eq

is_list : (ts : Tokens) (x : Initial) (us : Tokens) → Seq (Is (mark m.OpenBracket))
    (λ at. Seq IsElements (λ xs. Seq (Is (mark m.CloseBracket)) (λ end. Made (i.list at (elements_of xs))))) ts x us
    → IsInitial ts x us
is_list ts x us (at, vs, o, (xs, ws, s, (end, zs, c, made eq))) = list at xs o s (end, c) eq

-- the part after a count
abbrev pub AfterWhole : NumberLeaf → Grammar Element
AfterWhole n us y vs = (ts : Tokens) → Is whole ts n us → IsElement ts y vs

abbrev pub InParentheses : NumberLeaf → Grammar Element
InParentheses n us y vs = (ts rs : Tokens) → Is whole ts n rs → Passes (mark m.Open) rs us → IsElement ts y vs

is_defaults : (n : NumberLeaf) (us : Tokens) (y : Element) (vs : Tokens)
    → Seq (Is (mark m.Close)) (λ end. Made (i.defaults n)) us y vs → InParentheses n us y vs
is_defaults n us y vs (end, ws, c, made eq) ts rs w o = defaults n w o (end, c) eq

is_repeated : (n : NumberLeaf) (us : Tokens) (y : Element) (vs : Tokens)
    → Seq IsInitial (λ v. Seq (Is (mark m.Close)) (λ end. Made (i.repeated n v))) us y vs → InParentheses n us y vs
is_repeated n us y vs (v, ws, s, (end, zs, c, made eq)) ts rs w o = repeated n v w o s (end, c) eq

is_repetition : (n : NumberLeaf) (us : Tokens) (y : Element) (vs : Tokens)
    → Seq (Is (mark m.Open)) (λ at. InParentheses n) us y vs → AfterWhole n us y vs
is_repetition n us y vs s ts w = s.3 ts us w (s.0, s.2)

is_lone_number : (n : NumberLeaf) (us : Tokens) (y : Element) (vs : Tokens)
    → Made (i.single (i.constant (literals.Number n))) us y vs → AfterWhole n us y vs
is_lone_number n us y vs (made eq) ts (is {t} w) =
    single (i.constant (literals.Number n)) (constant (literals.Number n) (literal (is (whole_literal t n w))) refl) eq

is_counted : (ts : Tokens) (y : Element) (us : Tokens) → Seq (Is whole) AfterWhole ts y us → IsElement ts y us
is_counted ts y us s = s.3 ts s.2

is_single : (ts : Tokens) (y : Element) (us : Tokens) → Seq IsInitial (λ v. Made (i.single v)) ts y us
    → IsElement ts y us
is_single ts y us (v, vs, s, made eq) = single v s eq

module _ (depth : ℕ) (initial : ℕ → Parser Initial) (tells : Tells initial IsInitial (LowInitial depth)) where
  sound_initial : {C : Type 0} → Sound C initial IsInitial (LowInitial depth)
  sound_initial = record { begins = initial_begins; tells = λ c. tells }

  sound_member : {C : Type 0} → Sound C (λ e. member_at (initial e)) IsMember (LowMember depth)
  unfolding member_at
  sound_member = sound_as is_member (λ x us d. d) (sound_then sound_name (λ x. sound_then (sound_mark m.Assign)
      (λ at. sound_then sound_initial (λ v. sound_pure (x, v) (LowMember depth) (λ c us. c.1.1)))))

  pub sound_structure : {C : Type 0} → Sound C (λ e. structure_at (initial e)) IsInitial (LowInitial (depth + 1))
  unfolding structure_at
  sound_structure = sound_as is_structure (λ x us d. d) (sound_then (sound_mark m.Open) (λ at. sound_then
      (sound_listed (λ e. member_at (initial e)) IsMember IsMoreMembers IsMembers (λ x. depth_of_initial x.1 ≤ depth)
      (λ ts. no_more_members) (λ ts us x vs xs ws c o r. next_member c o r) (λ ts x us o. member_less o)
      (λ ts x us xs vs o r. members o r) sound_member)
      (λ xs. sound_then (sound_mark m.Close) (λ end. sound_pure (i.structure at (members_of xs))
      (LowInitial (depth + 1)) (λ c us. let l = each_member depth xs c.0.1.1.0 in omega arith)))))

  sound_repeated_of : {C : Type 0} (n : NumberLeaf)
      → Sound C (λ e. repeated_of (initial e) n) (InParentheses n) (LowElement depth)
  unfolding repeated_of
  sound_repeated_of n = sound_as (is_repeated n) (λ x us d. d) (sound_then sound_initial
      (λ v. sound_then (sound_mark m.Close) (λ end. sound_pure (i.repeated n v) (LowElement depth) (λ c us. c.0.1.1))))

  module _ (some : 1 ≤ depth) where
    sound_defaults_of : {C : Type 0} (n : NumberLeaf)
        → Sound C (λ e. defaults_of n) (InParentheses n) (LowElement depth)
    unfolding defaults_of
    sound_defaults_of n = sound_as (is_defaults n) (λ x us d. d)
        (sound_then (sound_mark m.Close) (λ end. sound_pure (i.defaults n) (LowElement depth) (λ c us. some)))

    sound_repetition_of : {C : Type 0} (n : NumberLeaf)
        → Sound C (λ e. repetition_of (initial e) n) (AfterWhole n) (LowElement depth)
    unfolding repetition_of
    sound_repetition_of n = sound_as (is_repetition n) (λ x us d. d)
        (sound_then (sound_mark m.Open) (λ at. sound_if (is_mark m.Close) (sound_defaults_of n) (sound_repeated_of n)))

    sound_counted : {C : Type 0} → Sound C (λ e. counted_at (initial e)) IsElement (LowElement depth)
    unfolding counted_at
    sound_counted = sound_as is_counted (λ x us d. d)
        (sound_then sound_whole (λ n. sound_if (is_mark m.Open) (sound_repetition_of n)
        (sound_as (is_lone_number n) (λ x us d. d)
        (sound_pure (i.single (i.constant (literals.Number n))) (LowElement depth) (λ c us. some)))))

    sound_single : {C : Type 0} → Sound C (λ e. single_at (initial e)) IsElement (LowElement depth)
    unfolding single_at
    sound_single = sound_as is_single (λ x us d. d)
        (sound_then sound_initial (λ v. sound_pure (i.single v) (LowElement depth) (λ c us. c.1.1)))

    sound_some_element : {C : Type 0}
        → Sound C (λ e. if_next is_number (counted_at (initial e)) (single_at (initial e))) IsElement (LowElement depth)
    sound_some_element = sound_if is_number sound_counted sound_single

  pub sound_list : {C : Type 0} (element : ℕ → Parser Element) → Sound (Unit {0}) element IsElement (LowElement depth)
      → Sound C (λ e. list_at (element e)) IsInitial (LowInitial (depth + 1))
  unfolding list_at
  sound_list element sound_element =
      sound_as is_list (λ x us d. d) (sound_then (sound_mark m.OpenBracket) (λ at. sound_then
      (sound_listed element IsElement IsMoreElements IsElements (λ x. depth_of_element x ≤ depth)
      (λ ts. no_more_elements) (λ ts us x vs xs ws c o r. next_element c o r) (λ ts x us o. element_less o)
      (λ ts x us xs vs o r. elements o r) (sound_under (λ c. tt) sound_element))
      (λ xs. sound_then (sound_mark m.CloseBracket) (λ end. sound_pure (i.list at (elements_of xs))
      (LowInitial (depth + 1)) (λ c us. let l = each_element depth xs c.0.1.1.0 in omega arith)))))

-- ---- if no depth is left

starts_nothing : (ts : Tokens) → next starts_initial ts ≡ false → (next (is_mark m.OpenBracket) ts ≡ false)
    × (next (is_mark m.Open) ts ≡ false) × (next (is_mark m.Minus) ts ≡ false) × (next starts_constant ts ≡ false)
starts_nothing [] eq = (refl, refl, refl, refl)
starts_nothing (t ∷ ts) eq =
    let a = or_false (is_mark m.OpenBracket t.kind || is_mark m.Open t.kind || is_mark m.Minus t.kind)
    (starts_constant t.kind) eq in
    let b = or_false (is_mark m.OpenBracket t.kind || is_mark m.Open t.kind) (is_mark m.Minus t.kind) a.0 in
    let c = or_false (is_mark m.OpenBracket t.kind) (is_mark m.Open t.kind) b.0 in
    (c.0, c.1, b.1, a.1)

no_literal : (at : ℕ) (k : TokenKind) → starts_constant k ≡ false → constant_in at k ≡ None
no_literal at (Number n) eq = absurd cc
no_literal at (Truth n) eq = absurd cc
no_literal at (Duration n) eq = absurd cc
no_literal at (Enumerated n x) eq = absurd cc
no_literal at (Name x) eq = absurd cc
no_literal at _ eq = refl

literal_refuses : (ts : Tokens) → next starts_constant ts ≡ false → literal_constant_at ts ≡ Err (Unexpected (length ts))
unfolding literal_constant_at
literal_refuses [] eq = refl
literal_refuses (t ∷ ts) eq = rw (no_literal t.start t.kind eq) refl

initial_refuses : (depth : ℕ) (ts : Tokens) → next starts_initial ts ≡ false
    → initial_at depth ts ≡ Err (Unexpected (length ts))
unfolding initial_at
initial_refuses zero ts eq = rw eq refl
initial_refuses (suc below) ts eq = let n = starts_nothing ts eq in rw (n.0, n.1, n.2) (literal_refuses ts n.3)

no_number : (ts : Tokens) → next starts_constant ts ≡ false → next is_number ts ≡ false
no_number [] eq = refl
no_number (t ∷ ts) eq = not_one t.kind eq
  where
    not_one : (k : TokenKind) → starts_constant k ≡ false → is_number k ≡ false
    not_one (Number n) eq = absurd cc
    not_one _ eq = refl

element_refuses : (initial : Parser Initial) (depth : ℕ) (ts : Tokens) → next starts_initial ts ≡ false
    → initial ts ≡ Err (Unexpected (length ts)) → element_at initial depth ts ≡ Err (Unexpected (length ts))
unfolding element_at single_at
element_refuses initial zero ts eq same = rw eq refl
element_refuses initial (suc below) ts eq same = let n = no_number ts (starts_nothing ts eq).3 in rw (n, same) refl

literal_begun : (t : Token) (k : TokenKind) → t.kind ≡ k → starts_constant k ≡ true → IsPrefix IsInitial (t ∷ [])
literal_begun t (Number n) eq yes' = record {
  more = [];
  tree = i.constant (literals.Number (unsigned t.start n));
  whole = λ after. constant (literals.Number (unsigned t.start n)) (literal (is (ap (constant_in t.start) eq))) refl;
}
literal_begun t (Truth b) eq yes' = record {
  more = [];
  tree = i.constant (literals.Truth t.start b);
  whole =
      λ after. constant (literals.Truth t.start b) (literal (is (ap (constant_in t.start) eq))) refl;
}
literal_begun t (Duration d) eq yes' = record {
  more = [];
  tree = i.constant (literals.Duration t.start d);
  whole =
      λ after. constant (literals.Duration t.start d) (literal (is (ap (constant_in t.start) eq))) refl;
}
literal_begun t (Enumerated n x) eq yes' = record {
  more = [];
  tree = i.constant (literals.Enumerated (value_at t.start (Some n) x));
  whole =
      λ after. constant (literals.Enumerated (value_at t.start (Some n) x)) (literal (is (ap (constant_in t.start) eq))) refl;
}
literal_begun t (Name x) eq yes' = record {
  more = [];
  tree = i.constant (literals.Enumerated (value_at t.start None x));
  whole =
      λ after. constant (literals.Enumerated (value_at t.start None x)) (literal (is (ap (constant_in t.start) eq))) refl;
}
literal_begun t _ eq yes' = absurd cc

minus_begun : (t : Token) → t.kind ≡ Mark m.Minus → IsPrefix IsInitial (t ∷ [])
minus_begun t eq =
    record {
      more = number_token ∷ [];
      tree = i.constant (literals.Number (negative_at t.start a_number));
      whole =
          λ after. constant (literals.Number (negative_at t.start a_number))
          (negative t.start a_number (is (mark_at m.Minus t eq)) (is refl) refl) refl;
    }

abbrev bracket_token : Token
bracket_token = token_of (Mark m.CloseBracket)

list_begun : (t : Token) → t.kind ≡ Mark m.OpenBracket → IsPrefix IsInitial (t ∷ [])
list_begun t eq = record {
  more = number_token ∷ bracket_token ∷ [];
  tree = i.list t.start (elements_of (i.single a_constant ∷ []));
  whole = λ after. list t.start (i.single a_constant ∷ []) (is (mark_at m.OpenBracket t eq))
      (elements (single a_constant (constant_is (bracket_token ∷ after)) refl) no_more_elements)
      (0, is (mark_at m.CloseBracket bracket_token refl)) refl;
}

abbrev close_token : Token
close_token = token_of (Mark m.Close)

abbrev assign_token : Token
assign_token = token_of (Mark m.Assign)

structure_begun : (t : Token) → t.kind ≡ Mark m.Open → IsPrefix IsInitial (t ∷ [])
structure_begun t eq = record {
  more = token_of (Name []) ∷ assign_token ∷ number_token ∷ close_token ∷ [];
  tree = i.structure t.start (members_of ((an_identifier, a_constant) ∷ []));
  whole = λ after. structure t.start ((an_identifier, a_constant) ∷ []) (is (mark_at m.Open t eq))
      (members (member an_identifier a_constant (is refl) (0, is (mark_at m.Assign assign_token refl))
      (constant_is (close_token ∷ after)) refl) no_more_members) (0, is (mark_at m.Close close_token refl)) refl;
}

pub initial_begun : (t : Token) → starts_initial t.kind ≡ true → IsPrefix IsInitial (t ∷ [])
initial_begun t eq = elim (or_true (is_mark m.OpenBracket t.kind || is_mark m.Open t.kind || is_mark m.Minus t.kind)
    (starts_constant t.kind) eq) [
      | inl a ↦ elim (or_true (is_mark m.OpenBracket t.kind || is_mark m.Open t.kind) (is_mark m.Minus t.kind) a) [
        | inl b ↦ elim (or_true (is_mark m.OpenBracket t.kind) (is_mark m.Open t.kind) b) [
          | inl c ↦ list_begun t (mark_is m.OpenBracket t.kind c)
          | inr c ↦ structure_begun t (mark_is m.Open t.kind c)
        ]
        | inr b ↦ minus_begun t (mark_is m.Minus t.kind b)
      ]
      | inr a ↦ literal_begun t t.kind refl a
    ]

element_begun : (t : Token) → starts_initial t.kind ≡ true → IsPrefix IsElement (t ∷ [])
element_begun t eq = let b = initial_begun t eq in
    record { more = b.more; tree = i.single b.tree; whole = λ after. single b.tree (b.whole after) refl }

-- ---- all depths

abbrev ElementAt : ℕ → Family Element
ElementAt depth n = element_at (initial_at (depth + n)) (depth + n)

element_none : (ts : Tokens) → element_at (initial_at (0 + 0)) (0 + 0) ts ≡ too_deep starts_initial ts
unfolding element_at
element_none ts = refl

element_deeper : (initial : Parser Initial) (below n : ℕ) (ts : Tokens)
    → element_at initial (suc below + n) ts ≡ if_next is_number (counted_at initial) (single_at initial) ts
unfolding element_at
element_deeper initial below n ts = let h : suc below + n ≡ suc (below + n) = omega arith in rw h refl

told_element : (depth : ℕ) → Tells (λ n. initial_at (depth + n)) IsInitial (LowInitial depth) → (ts : Tokens)
    → Told (ElementAt depth) IsElement (LowElement depth) ts (ElementAt depth 0 ts)
told_element zero tells ts =
    told_too_deep starts_initial (ElementAt zero) IsElement (LowElement zero) element_begins element_begun element_none
    (λ n us eq. element_refuses (initial_at (0 + n)) (0 + n) us eq (initial_refuses (0 + n) us eq)) ts
told_element (suc below) tells ts = rw (element_deeper (initial_at (suc below + 0)) below 0 ts)
    (told_agree (λ n. if_next is_number (counted_at (initial_at (suc below + n)))
    (single_at (initial_at (suc below + n)))) (ElementAt (suc below)) IsElement (LowElement (suc below)) ts
    (if_next is_number (counted_at (initial_at (suc below + 0))) (single_at (initial_at (suc below + 0))) ts)
    (λ n more same. element_deeper (initial_at (suc below + n)) below n more)
    (told_by (sound_some_element (suc below) (λ n. initial_at (suc below + n)) tells (omega arith)) ts))

pub sound_element : {C : Type 0} (depth : ℕ) → Tells (λ n. initial_at (depth + n)) IsInitial (LowInitial depth)
    → Sound C (ElementAt depth) IsElement (LowElement depth)
sound_element depth tells = record { begins = element_begins; tells = λ c. told_element depth tells }

abbrev Deeper : ℕ → Family Initial
Deeper below n = if_next (is_mark m.OpenBracket) (list_at (ElementAt below n)) (if_next (is_mark m.Open)
    (structure_at (initial_at (below + n))) (if_next (is_mark m.Minus) negative_constant_at literal_constant_at))

initial_none : (ts : Tokens) → initial_at (0 + 0) ts ≡ too_deep starts_initial ts
unfolding initial_at
initial_none ts = refl

initial_deeper : (below n : ℕ) (ts : Tokens) → initial_at (suc below + n) ts ≡ Deeper below n ts
unfolding initial_at
initial_deeper below n ts = let h : suc below + n ≡ suc (below + n) = omega arith in rw h refl

sound_deeper : {C : Type 0} (below : ℕ) → Tells (λ n. initial_at (below + n)) IsInitial (LowInitial below)
    → Sound C (Deeper below) IsInitial (LowInitial (below + 1))
sound_deeper below tells = sound_if (is_mark m.OpenBracket)
    (sound_list below (λ n. initial_at (below + n)) tells (ElementAt below) (sound_element below tells))
    (sound_if (is_mark m.Open) (sound_structure below (λ n. initial_at (below + n)) tells)
    (sound_if (is_mark m.Minus) (sound_negative_constant below) (sound_literal_constant below)))

pub told_initial : (depth : ℕ) → Tells (λ n. initial_at (depth + n)) IsInitial (LowInitial depth)
told_initial zero ts = told_too_deep starts_initial (λ n. initial_at (zero + n)) IsInitial (LowInitial zero)
    initial_begins initial_begun initial_none (λ n us eq. initial_refuses (0 + n) us eq) ts
told_initial (suc below) ts =
    rw (initial_deeper below 0 ts) (told_agree (Deeper below) (λ n. initial_at (suc below + n)) IsInitial
    (LowInitial (suc below)) ts (Deeper below 0 ts) (λ n more same. initial_deeper below n more)
    (told_by (sound_as (λ ts x us s. s) (λ x us d. let l = d in omega arith) (sound_deeper below (told_initial below)))
    ts))
