-- An initial value is read.
use Rattle.std.proofs.Common.{◌≡◌, ℕ, zero, suc, ◌≤◌, true, false, List, [], ◌∷◌, Some, Ok, refl, sym, ap, subst, ◌∙◌}
use Rattle.std.proofs.Common.{arith, inl, inr}
use Rattle.std.proofs.lemmas.Bool.{cases_Bool}
use Rattle.st_types.specs.declared.identifier.Identifier.{Identifier}
use Rattle.st_types.specs.declared.literal.Number.{Number as NumberLeaf}
use Rattle.st_types.specs.declared.literal.Literal.{Literal}
use Rattle.st_types.specs.declared.literal.Literal.TheVariants as literals
use Rattle.st_lex.specs.declared.token.Token.{Token}
use Rattle.st_lex.specs.declared.token.WholeNumber.{WholeNumber}
use Rattle.st_lex.specs.declared.token.TokenKind.{TokenKind}
use Rattle.st_lex.specs.declared.token.TokenKind.TheVariants.{Mark, Number}
use Rattle.st_lex.specs.declared.mark.Mark.{Mark as MarkType}
use Rattle.st_lex.specs.declared.mark.Mark.TheVariants as m
use Rattle.st_types.specs.Initials.{Initial, Element, Member, elements_of, members_of}
use Rattle.st_types.specs.Initials as i
use Rattle.st_types.specs.Depths.{depth_of_initial, depth_of_element, deepest_element, deepest_member}
use Rattle.st_parse.specs.Tokens.{Tokens, next, Is, is, Passes, mark, name, whole, constant as constant_of}
use Rattle.st_parse.specs.Tokens.{constant_in, unsigned, is_mark, is_number, same_mark}
use Rattle.st_parse.specs.Parsers.{Outcome, Parser, after_comma, listed, negative_number_at}
use Rattle.st_parse.specs.InitialReading.{negative_constant_at, literal_constant_at, defaults_of, member_at}
use Rattle.st_parse.specs.InitialReading.{structure_at, single_at, repeated_of, repetition_of, counted_at}
use Rattle.st_parse.specs.InitialReading.{element_at, list_at, initial_at}
use Rattle.st_parse.specs.Initials.{IsConstant, literal, negative, IsInitial, constant, list, structure}
use Rattle.st_parse.specs.Initials.{IsElements, elements, IsMoreElements, no_more_elements, next_element}
use Rattle.st_parse.specs.Initials.{IsElement, single, repeated, defaults, IsMembers, members, IsMoreMembers}
use Rattle.st_parse.specs.Initials.{no_more_members, next_member, IsMember, member}
use Rattle.st_parse.proofs.ExpressionFacts.{is_less}
use Rattle.st_parse.proofs.SoundInitials.{element_less, member_less, initial_some}
use Rattle.st_parse.proofs.Complete.{one_complete, mark_head, whole_head, Repeats, repeats_halt, repeats_step}
use Rattle.st_parse.proofs.Complete.{after_comma_complete, comma_next, listed_complete}
use Rattle.st_parse.proofs.CompleteExpressions.{close_no_comma}

literal_plain : (x : MarkType) (at : ℕ) (k : TokenKind) (l : Literal) → constant_in at k ≡ Some l → is_mark x k ≡ false
literal_plain x at (Mark y) l eq = absurd cc
literal_plain x at _ l eq = refl

literal_head : (x : MarkType) {ts us : Tokens} {l : Literal} → Is constant_of ts l us → next (is_mark x) ts ≡ false
literal_head x {l = l} (is {t} eq) = literal_plain x t.start t.kind l eq

-- ---- constants

constant_complete : (below : ℕ) {ts us : Tokens} {l : Literal} → IsConstant ts l us
    → initial_at (suc below) ts ≡ Ok (i.constant l, us)
unfolding initial_at negative_constant_at literal_constant_at negative_number_at same_mark
constant_complete below (literal p) =
    rw (literal_head m.OpenBracket p, literal_head m.Open p, literal_head m.Minus p, one_complete p) refl
constant_complete below (negative at n p q eq) =
    let a = mark_head m.Minus (is_mark m.OpenBracket) p in
    let b = mark_head m.Minus (is_mark m.Open) p in
    let c = mark_head m.Minus (is_mark m.Minus) p in
    rw (a, b, c, one_complete p, one_complete q, eq) refl

list_complete : (below : ℕ) {ts us vs ws : Tokens} {at : ℕ} {xs : List Element} → Is (mark m.OpenBracket) ts at us
    → listed (element_at (initial_at below) below) us ≡ Ok (xs, vs) → Passes (mark m.CloseBracket) vs ws
    → initial_at (suc below) ts ≡ Ok (i.list at (elements_of xs), ws)
unfolding initial_at list_at same_mark
list_complete below o eq c = let a = mark_head m.OpenBracket (is_mark m.OpenBracket) o in
    rw (a, one_complete o, eq, one_complete c.1) refl

structure_complete : (below : ℕ) {ts us vs ws : Tokens} {at : ℕ} {xs : List Member} → Is (mark m.Open) ts at us
    → listed (member_at (initial_at below)) us ≡ Ok (xs, vs) → Passes (mark m.Close) vs ws
    → initial_at (suc below) ts ≡ Ok (i.structure at (members_of xs), ws)
unfolding initial_at structure_at same_mark
structure_complete below o eq c =
    let a = mark_head m.Open (is_mark m.OpenBracket) o in
    let b = mark_head m.Open (is_mark m.Open) o in
    rw (a, b, one_complete o, eq, one_complete c.1) refl

-- ---- elements

number_is : (k : TokenKind) → is_number k ≡ true → (w : WholeNumber) × (k ≡ Number w)
number_is (Number w) eq = (w, refl)
number_is _ eq = absurd cc

number_initial : (below : ℕ) (t : Token) (rest : Tokens) (w : WholeNumber) → t.kind ≡ Number w
    → initial_at (suc below) (t ∷ rest) ≡ Ok (i.constant (literals.Number (unsigned t.start w)), rest)
unfolding initial_at literal_constant_at
number_initial below t rest w eq = rw eq refl

number_element : (initial : Parser Initial) (below : ℕ) (t : Token) (rest : Tokens) (w : WholeNumber)
    → t.kind ≡ Number w → next (is_mark m.Open) rest ≡ false → element_at initial (suc below) (t ∷ rest)
    ≡ Ok (i.single (i.constant (literals.Number (unsigned t.start w))), rest)
unfolding element_at counted_at
number_element initial below t rest w eq plain = rw (eq, plain) refl

abbrev answer : {A : Type 0} → A → Tokens → Outcome A
answer x us = Ok (x, us)

pub same_pair : {A : Type 0} (x y : A) (us vs : Tokens) → answer x us ≡ answer y vs
    → (let p : A × Tokens = (x, us) in p ≡ (y, vs))
same_pair x y us vs e = cc

same_tree : {A : Type 0} (x y : A) (us vs : Tokens) → answer x us ≡ answer y vs → x ≡ y
same_tree {A} x y us vs e = ap (λ (p : A × Tokens). p.0) (same_pair x y us vs e)

same_rest : {A : Type 0} (x y : A) (us vs : Tokens) → answer x us ≡ answer y vs → us ≡ vs
same_rest {A} x y us vs e = ap (λ (p : A × Tokens). p.1) (same_pair x y us vs e)

single_other : (initial : Parser Initial) (below : ℕ) (ts us : Tokens) (v : Initial) → initial ts ≡ Ok (v, us)
    → next is_number ts ≡ false → element_at initial (suc below) ts ≡ Ok (i.single v, us)
unfolding element_at single_at
single_other initial below ts us v eq other = rw (other, eq) refl

single_number : (below : ℕ) (t : Token) (rest us : Tokens) (v : Initial) (w : WholeNumber) → t.kind ≡ Number w
    → initial_at (suc below) (t ∷ rest) ≡ Ok (v, us) → next (is_mark m.Open) us ≡ false
    → element_at (initial_at (suc below)) (suc below) (t ∷ rest) ≡ Ok (i.single v, us)
single_number below t rest us v w at eq plain =
    let n = i.constant (literals.Number (unsigned t.start w)) in
    let e = sym (number_initial below t rest w at) ∙ eq in
    let tree : i.constant (literals.Number (unsigned t.start w)) ≡ v =
    same_tree (i.constant (literals.Number (unsigned t.start w))) v rest us e in
    let tail : rest ≡ us = same_rest (i.constant (literals.Number (unsigned t.start w))) v rest us e in
    let plain' : next (is_mark m.Open) rest ≡ false = ap (next (is_mark m.Open)) tail ∙ plain in
    number_element (initial_at (suc below)) below t rest w at plain'
    ∙ (ap (λ (z : Initial). answer (i.single z) rest) tree ∙ ap (λ (zs : Tokens). answer (i.single v) zs) tail)

single_by : (below : ℕ) (ts us : Tokens) (v : Initial) → initial_at (suc below) ts ≡ Ok (v, us)
    → next (is_mark m.Open) us ≡ false → element_at (initial_at (suc below)) (suc below) ts ≡ Ok (i.single v, us)
single_by below [] us v eq plain = single_other (initial_at (suc below)) below [] us v eq refl
single_by below (t ∷ rest) us v eq plain = elim (cases_Bool (is_number t.kind)) [
  | inl hit ↦ let n = number_is t.kind hit in single_number below t rest us v n.0 n.1 eq plain
  | inr miss ↦ single_other (initial_at (suc below)) below (t ∷ rest) us v eq miss
]

repeated_complete : (initial : Parser Initial) (below : ℕ) {ts us vs ws zs : Tokens} {n : NumberLeaf} {v : Initial}
    → Is whole ts n us → Passes (mark m.Open) us vs → next (is_mark m.Close) vs ≡ false → initial vs ≡ Ok (v, ws)
    → Passes (mark m.Close) ws zs
    → element_at initial (suc below) ts ≡ Ok (i.repeated n v, zs)
unfolding element_at counted_at repetition_of repeated_of same_mark
repeated_complete initial below w o other eq c = let a = mark_head m.Open (is_mark m.Open) o.1 in
    rw (whole_head w, one_complete w, a, one_complete o.1, other, eq, one_complete c.1) refl

defaults_complete : (initial : Parser Initial) (below : ℕ) {ts us vs ws : Tokens} {n : NumberLeaf} → Is whole ts n us
    → Passes (mark m.Open) us vs → Passes (mark m.Close) vs ws
    → element_at initial (suc below) ts ≡ Ok (i.defaults n, ws)
unfolding element_at counted_at repetition_of defaults_of same_mark
defaults_complete initial below w o c =
    let a = mark_head m.Open (is_mark m.Open) o.1 in
    let b = mark_head m.Close (is_mark m.Close) c.1 in
    rw (whole_head w, one_complete w, a, one_complete o.1, b, one_complete c.1) refl

initial_open : {ts us : Tokens} {x : Initial} → IsInitial ts x us → next (is_mark m.Close) ts ≡ false
unfolding same_mark
initial_open (constant l (literal p) q) = literal_head m.Close p
initial_open (constant l (negative at n p r eq) q) = mark_head m.Minus (is_mark m.Close) p
initial_open (list at xs o p c q) = mark_head m.OpenBracket (is_mark m.Close) o
initial_open (structure at xs o p c q) = mark_head m.Open (is_mark m.Close) o

member_is : (initial : Parser Initial) {ts us vs ws : Tokens} {x : Identifier} {v : Initial} → Is name ts x us
    → Passes (mark m.Assign) us vs → initial vs ≡ Ok (v, ws) → member_at initial ts ≡ Ok ((x, v), ws)
unfolding member_at
member_is initial n o eq = rw (one_complete n, one_complete o.1, eq) refl

-- ---- the tokens after an element

elements_plain : {us vs ws : Tokens} {xs : List Element} → IsMoreElements us xs vs → Passes (mark m.CloseBracket) vs ws
    → next (is_mark m.Open) us ≡ false
unfolding same_mark
elements_plain no_more_elements c = mark_head m.CloseBracket (is_mark m.Open) c.1
elements_plain (next_element p e r) c = mark_head m.Comma (is_mark m.Open) p.1

bracket_no_comma : {ts us : Tokens} → Passes (mark m.CloseBracket) ts us → next (is_mark m.Comma) ts ≡ false
unfolding same_mark
bracket_no_comma c = mark_head m.CloseBracket (is_mark m.Comma) c.1

-- ---- all

abbrev ElementAt : ℕ → Parser Element
ElementAt depth = element_at (initial_at depth) depth

as_initial : (x y : Initial) (depth : ℕ) (us : Tokens) (r : Outcome Initial) → x ≡ y → r ≡ Ok (y, us) → r ≡ Ok (x, us)
as_initial x y depth us r eq same = rw eq same

lower : (x y : Initial) (n : ℕ) → x ≡ y → depth_of_initial x ≤ n → depth_of_initial y ≤ n
lower x y n eq low = subst (λ (z : Initial). depth_of_initial z ≤ n) eq low

lower_element : (x y : Element) (n : ℕ) → x ≡ y → depth_of_element x ≤ n → depth_of_element y ≤ n
lower_element x y n eq low = subst (λ (z : Element). depth_of_element z ≤ n) eq low

lower_member : (x y : Member) (n : ℕ) → x ≡ y → depth_of_initial x.1 ≤ n → depth_of_initial y.1 ≤ n
lower_member x y n eq low = subst (λ (z : Member). depth_of_initial z.1 ≤ n) eq low

mutual
  pub initial_complete : {ts us : Tokens} {x : Initial} → IsInitial ts x us → (depth : ℕ) → depth_of_initial x ≤ depth
      → initial_at depth ts ≡ Ok (x, us)
  initial_complete {x = x} p zero low = let some = initial_some x in absurd (omega arith)
  initial_complete (constant {ts} {us} {x} l p q) (suc below) low = rw q (constant_complete below p)
  initial_complete (list {ts} {us} {vs} {ws} {x} at xs o p c q) (suc below) low =
      let low' = lower x (i.list at (elements_of xs)) (suc below) q low in
      rw q (list_complete below o (elements_complete p c below (omega arith)) c)
  initial_complete (structure {ts} {us} {vs} {ws} {x} at xs o p c q) (suc below) low =
      let low' = lower x (i.structure at (members_of xs)) (suc below) q low in
      rw q (structure_complete below o (members_complete p c below (omega arith)) c)

  elements_complete : {ts us vs : Tokens} {xs : List Element} → IsElements ts xs us → Passes (mark m.CloseBracket) us vs
      → (depth : ℕ) → deepest_element (elements_of xs) ≤ depth → listed (ElementAt depth) ts ≡ Ok (xs, us)
  elements_complete (elements p r) c depth low = listed_complete (ElementAt depth)
      (element_complete p depth (omega arith) (elements_plain r c)) (more_elements_complete r c depth (omega arith))

  more_elements_complete : {ts us vs : Tokens} {xs : List Element} → IsMoreElements ts xs us
      → Passes (mark m.CloseBracket) us vs → (depth : ℕ) → deepest_element (elements_of xs) ≤ depth
      → Repeats (is_mark m.Comma) (after_comma (ElementAt depth)) ts xs us
  more_elements_complete (no_more_elements {ts}) c depth low =
      repeats_halt (is_mark m.Comma) (after_comma (ElementAt depth)) ts (bracket_no_comma c)
  more_elements_complete (next_element {ts} {us} {vs} {ws} {x} {xs} p e r) c depth low =
      let less = is_less p.1 in
      let less' = element_less e in
      repeats_step (is_mark m.Comma) (after_comma (ElementAt depth)) ts vs ws x xs (comma_next p)
      (after_comma_complete (ElementAt depth) p (element_complete e depth (omega arith) (elements_plain r c)))
      (omega arith) (more_elements_complete r c depth (omega arith))

  element_complete : {ts us : Tokens} {x : Element} → IsElement ts x us → (depth : ℕ) → depth_of_element x ≤ depth
      → next (is_mark m.Open) us ≡ false → ElementAt depth ts ≡ Ok (x, us)
  element_complete (single {ts} {us} {x} v p q) zero low plain = let low' = lower_element x (i.single v) zero q low in
      let some = initial_some v in absurd (omega arith)
  element_complete (single {ts} {us} {x} v p q) (suc below) low plain = let low' =
      lower_element x (i.single v) (suc below) q low in
      rw q (single_by below ts us v (initial_complete p (suc below) low') plain)
  element_complete (repeated {ts} {us} {vs} {ws} {zs} {x} n v w o p c q) zero low plain = let low' =
      lower_element x (i.repeated n v) zero q low in let some = initial_some v in absurd (omega arith)
  element_complete (repeated {ts} {us} {vs} {ws} {zs} {x} n v w o p c q) (suc below) low plain =
      let low' = lower_element x (i.repeated n v) (suc below) q low in
      rw q (repeated_complete (initial_at (suc below)) below w o (initial_open p)
      (initial_complete p (suc below) low') c)
  element_complete (defaults {ts} {us} {vs} {ws} {x} n w o c q) zero low plain = let low' =
      lower_element x (i.defaults n) zero q low in absurd (omega arith)
  element_complete (defaults {ts} {us} {vs} {ws} {x} n w o c q) (suc below) low plain =
      rw q (defaults_complete (initial_at (suc below)) below w o c)

  members_complete : {ts us vs : Tokens} {xs : List Member} → IsMembers ts xs us → Passes (mark m.Close) us vs
      → (depth : ℕ) → deepest_member (members_of xs) ≤ depth → listed (member_at (initial_at depth)) ts ≡ Ok (xs, us)
  members_complete (members p r) c depth low = listed_complete (member_at (initial_at depth))
      (member_complete p depth (omega arith)) (more_members_complete r c depth (omega arith))

  more_members_complete : {ts us vs : Tokens} {xs : List Member} → IsMoreMembers ts xs us → Passes (mark m.Close) us vs
      → (depth : ℕ) → deepest_member (members_of xs) ≤ depth
      → Repeats (is_mark m.Comma) (after_comma (member_at (initial_at depth))) ts xs us
  more_members_complete (no_more_members {ts}) c depth low =
      repeats_halt (is_mark m.Comma) (after_comma (member_at (initial_at depth))) ts (close_no_comma c)
  more_members_complete (next_member {ts} {us} {vs} {ws} {x} {xs} p e r) c depth low =
      let less = is_less p.1 in
      let less' = member_less e in
      repeats_step (is_mark m.Comma) (after_comma (member_at (initial_at depth))) ts vs ws x xs (comma_next p)
      (after_comma_complete (member_at (initial_at depth)) p (member_complete e depth (omega arith))) (omega arith)
      (more_members_complete r c depth (omega arith))

  member_complete : {ts us : Tokens} {x : Member} → IsMember ts x us → (depth : ℕ) → depth_of_initial x.1 ≤ depth
      → member_at (initial_at depth) ts ≡ Ok (x, us)
  member_complete (member {ts} {us} {vs} {ws} {y} x v n o p q) depth low =
      let low' = lower_member y (x, v) depth q low in
      rw q (member_is (initial_at depth) n o (initial_complete p depth low'))
