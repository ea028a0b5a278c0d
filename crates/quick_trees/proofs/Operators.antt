-- Instructions give for words what operators give for the values.
use Rattle.std.proofs.Common.{◌≡◌, ℕ, suc, ◌-◌, ◌≤◌, ◌^◌, ◌*◌, ℤ, pos, negsuc, ◌+ℤ◌, ◌-ℤ◌, ◌*ℤ◌, ◌≤ℤ◌, Bool, true}
use Rattle.std.proofs.Common.{false, Option, Some, None, Result, Ok, Err, refl, sym, ap, subst, ◌∙◌, arith, w64, w16}
use Rattle.std.proofs.Common.{w32, ◌<ℤ◌, FitsSigned, mul-le-mul, zero, ◌<◌, ◌≢◌}
use Rattle.std.proofs.Common.{inl, inr}
use Rattle.std.specs.Prelude.{◌⊎◌, if◌then◌else◌, int_div, int_le, int_lt, not, unsigned_abs}
use Rattle.std.specs.Ordering.{int_eq}
use Rattle.std.specs.Int.{int_wrapping_add, int_wrapping_mul, int_wrapping_sub, int_bit_and, int_bit_or, int_bit_xor}
use Rattle.std.proofs.Math.IntN.{+ℤ_idr, +ℤ-neg_ℤ_cancel, neg_ℤ}
use Rattle.std.proofs.lemmas.Int.{ints, unsigned_abs-mul, int_wrap_fits, wrapping_add_is, wrapping_mul_is}
use Rattle.std.proofs.lemmas.Int.{wrapping_sub_is, quot-rem, quot_fits, rem_below}
use Rattle.std.proofs.lemmas.Bool.Decides.{Decides-int_eq, Decides-like, same_from_decides}
use Rattle.st_types.specs.declared.fault.Fault.{Fault}
use Rattle.st_types.specs.declared.fault.Fault.TheVariants.{DivisionByZero, Range}
use Rattle.st_types.specs.declared.kind.Kind.{Kind}
use Rattle.st_types.specs.declared.kind.Kind.TheVariants.{Sint, Int, Dint, Lint, Usint, Uint, Udint, Ulint, Byte, Word}
use Rattle.st_types.specs.declared.kind.Kind.TheVariants.{Dword, Lword, Time, Bool as Boolean, Enumerated}
use Rattle.st_types.specs.declared.operator.BinaryOperator.{BinaryOperator}
use Rattle.st_types.specs.declared.operator.BinaryOperator.TheVariants.{Or, Xor, And, Equal, NotEqual, Less, Greater}
use Rattle.st_types.specs.declared.operator.BinaryOperator.TheVariants.{LessOrEqual, GreaterOrEqual, Add, Subtract}
use Rattle.st_types.specs.declared.operator.BinaryOperator.TheVariants.{Multiply, Divide, Modulo}
use Rattle.st_types.specs.Kinds.{holds, greatest}
use Rattle.st_types.specs.Values.{Datum, IsHeld, bool_datum, in_range}
use Rattle.st_types.specs.Words.{datum_at, number_at, shift_of}
use Rattle.st_meaning.specs.Operators.{applied, quotient, remainder, apply_unary}
use Rattle.quick_code.specs.declared.operation.Operation.{Operation}
use Rattle.quick_code.specs.declared.operation.Operation.TheVariants as op
use Rattle.quick_code.specs.declared.operation.Signed.{Signed}
use Rattle.quick_code.specs.declared.operation.Signed.TheVariants as signed
use Rattle.quick_code.specs.declared.quick_code.Way.{Way}
use Rattle.quick_code.specs.declared.quick_instr.QuickInstr.{QuickInstr}
use Rattle.quick_code.specs.declared.quick_instr.QuickInstr.TheVariants.{AddDint, AddInt, AddLint, DivideDint}
use Rattle.quick_code.specs.declared.quick_instr.QuickInstr.TheVariants.{DivideInt, DivideLint, MultiplyDint}
use Rattle.quick_code.specs.declared.quick_instr.QuickInstr.TheVariants.{MultiplyInt, MultiplyLint, SubtractDint}
use Rattle.quick_code.specs.declared.quick_instr.QuickInstr.TheVariants.{SubtractInt, SubtractLint}
use Rattle.std.specs.Int.RustNames.{int_rem}
use Rattle.quick_code.specs.declared.quick_instr.QuickInstr.TheVariants as quick
use Rattle.quick_code.specs.Words.{bool_word, difference, divided, kept, kind_of, operator_result, product, sum}
use Rattle.quick_trees.specs.Instructions.{branch_for, branch_for_by, branch_unless_by, branch_when, branch_when_by}
use Rattle.quick_trees.specs.Instructions.{instr_by, comparison_instr, branch_unless, by_dint, by_kind, instr_for}
use Rattle.quick_trees.proofs.Bits.{and_is, bits_of, greatest_held, greatest_is, or_is, xor_is, xor_turns}
use Rattle.st_types.specs.declared.operator.UnaryOperator.{UnaryOperator}
use Rattle.st_types.specs.declared.operator.UnaryOperator.TheVariants.{Negate, Not}
use Rattle.quick_code.specs.QuickRuns.{Left}
use Rattle.quick_code.specs.QuickSteps.{Memory, act, look, put, with_word}
use Rattle.quick_trees.specs.QuickMemory.{EndsWellAt, Frame}
use Rattle.quick_trees.proofs.Stepping.{Follows, HasBranched, has_branched, has_put}

-- the words of a type with a sign are its numbers
pub number_is : (s : Signed) (w : ℤ) → number_at (kind_of s) w ≡ w
number_is signed.Int w = +ℤ_idr w
number_is signed.Dint w = +ℤ_idr w
number_is signed.Lint w = +ℤ_idr w

abbrev pub IsWord : Signed → ℤ → Type 0
IsWord s w = holds (kind_of s) w ≡ true

pub word_held : (s : Signed) (w : ℤ) → IsHeld (datum_at (kind_of s) w) → IsWord s w
word_held s w h = subst (IsWord s) (number_is s w) h

held_word : (s : Signed) (w : ℤ) → IsWord s w → IsHeld (datum_at (kind_of s) w)
held_word s w h = subst (IsWord s) (sym (number_is s w)) h

-- a word that is narrow has at most 32 bits
abbrev IsNarrow : ℤ → Type 0
IsNarrow x = (negsuc (2 ^ 31 - 1) ≤ℤ x) × (x ≤ℤ pos (2 ^ 31))

int_narrow : (x : ℤ) → IsWord signed.Int x → IsNarrow x
int_narrow x h = grind (arith, ints)

dint_narrow : (x : ℤ) → IsWord signed.Dint x → IsNarrow x
dint_narrow x h = grind (arith, ints)

narrow_fits : (x : ℤ) → IsNarrow x → FitsSigned w64 x
narrow_fits x f = (let a = f.0 in let b = f.1 in grind (arith, ints))

sum_fits : (x y : ℤ) → IsNarrow x → IsNarrow y → FitsSigned w64 (x +ℤ y)
sum_fits x y f g = (let a = f.0 in let b = f.1 in let c = g.0 in let d = g.1 in grind (arith, ints))

difference_fits : (x y : ℤ) → IsNarrow x → IsNarrow y → FitsSigned w64 (x -ℤ y)
difference_fits x y f g = (let a = f.0 in let b = f.1 in let c = g.0 in let d = g.1 in grind (arith, ints))

abs_small : (x : ℤ) → IsNarrow x → unsigned_abs x ≤ 2 ^ 31
abs_small x f = (let a = f.0 in let b = f.1 in grind (arith, ints))

fits_by_abs : (z : ℤ) → unsigned_abs z ≤ 2 ^ 31 * 2 ^ 31 → FitsSigned w64 z
fits_by_abs z small = grind (arith, ints)

product_fits : (x y : ℤ) → IsNarrow x → IsNarrow y → FitsSigned w64 (x *ℤ y)
product_fits x y f g =
    fits_by_abs (x *ℤ y)
    (subst (λ n. n ≤ 2 ^ 31 * 2 ^ 31) (sym (unsigned_abs-mul x y)) (mul-le-mul (abs_small x f) (abs_small y g)))

module _ (x y : ℤ) (f : IsNarrow x) (g : IsNarrow y) where
  whole_sum : int_wrapping_add w64 x y ≡ x +ℤ y
  whole_sum =
      wrapping_add_is w64 x y (narrow_fits x f) (narrow_fits y g) ∙ int_wrap_fits w64 (x +ℤ y) (sum_fits x y f g)

  whole_difference : int_wrapping_sub w64 x y ≡ x -ℤ y
  whole_difference =
      wrapping_sub_is w64 x y (narrow_fits x f) (narrow_fits y g)
      ∙ int_wrap_fits w64 (x -ℤ y) (difference_fits x y f g)

  whole_product : int_wrapping_mul w64 x y ≡ x *ℤ y
  whole_product =
      wrapping_mul_is w64 x y (narrow_fits x f) (narrow_fits y g) ∙ int_wrap_fits w64 (x *ℤ y) (product_fits x y f g)

-- nothing leaves 64 bits
sum_is : (s : Signed) (x y : ℤ) → IsWord s x → IsWord s y → sum s x y ≡ x +ℤ y
sum_is signed.Int x y f g = whole_sum x y (int_narrow x f) (int_narrow y g)
sum_is signed.Dint x y f g = whole_sum x y (dint_narrow x f) (dint_narrow y g)
sum_is signed.Lint x y f g = refl

difference_is : (s : Signed) (x y : ℤ) → IsWord s x → IsWord s y → difference s x y ≡ x -ℤ y
difference_is signed.Int x y f g = whole_difference x y (int_narrow x f) (int_narrow y g)
difference_is signed.Dint x y f g = whole_difference x y (dint_narrow x f) (dint_narrow y g)
difference_is signed.Lint x y f g = refl

product_is : (s : Signed) (x y : ℤ) → IsWord s x → IsWord s y → product s x y ≡ x *ℤ y
product_is signed.Int x y f g = whole_product x y (int_narrow x f) (int_narrow y g)
product_is signed.Dint x y f g = whole_product x y (dint_narrow x f) (dint_narrow y g)
product_is signed.Lint x y f g = refl

-- A word is the result of an operator.
pub record IsResult (r : Result Datum Fault) (t : Kind) (w : ℤ) : Type 0 where
  pub value : r ≡ Ok (datum_at t w)
  pub held : IsHeld (datum_at t w)

-- a word that is kept is the number, which the type has
kept_is : (s : Signed) (z w : ℤ) → kept s z ≡ Some w → IsResult (in_range (kind_of s) z) (kind_of s) w
kept_is s z w e = by_test (holds (kind_of s) z) refl e
  where
    by_test : (t : Bool) → holds (kind_of s) z ≡ t → (if t then Some z else None) ≡ Some w
        → IsResult (in_range (kind_of s) z) (kind_of s) w
    by_test true h e =
        let same : z ≡ w = cc in
        let kind = kind_of s in record {
          value = ap (λ t. if t then Ok (record { kind = kind; number = z }) else Err Range) h
              ∙ ap (λ n. Ok (record { kind = kind; number = n })) (same ∙ sym (number_is s w));
          held = held_word s w (subst (IsWord s) same h);
        }
    by_test false h e = absurd cc

-- the same for a quotient
divided_is : (s : Signed) (x y w : ℤ) → divided y (kept s (int_div x y)) ≡ Some w
    → IsResult (quotient (kind_of s) x y) (kind_of s) w
divided_is s x y w e = by_test (int_eq y (pos 0)) e
  where
    by_test : (t : Bool) → (if t then None else kept s (int_div x y)) ≡ Some w
        → IsResult (if t then Err DivisionByZero else in_range (kind_of s) (int_div x y)) (kind_of s) w
    by_test true e = absurd cc
    by_test false e = kept_is s (int_div x y) w e

rest_is : (a d : ℤ) → int_rem a d ≡ a -ℤ (int_div a d *ℤ d)
rest_is a d = let e = quot-rem a d in omega (arith, ints)

remainder_is : (a d : ℤ) → d ≢ pos 0 → int_rem a d ≡ remainder a d
remainder_is a d h = by_test (int_eq d (pos 0)) refl
  where
    by_test : (t : Bool) → int_eq d (pos 0) ≡ t → int_rem a d ≡ (if t then pos 0 else a -ℤ (int_div a d *ℤ d))
    by_test true e = absurd (h ((Decides-int_eq d (pos 0)).0 e))
    by_test false e = rest_is a d

abs_pos : (y : ℤ) → y ≢ pos 0 → 0 < unsigned_abs y
abs_pos (pos zero) h = absurd (h refl)
abs_pos (pos (suc n)) h = omega arith
abs_pos (negsuc n) h = omega arith

nearer_int : (r y : ℤ) → IsWord signed.Int y → unsigned_abs r < unsigned_abs y → IsWord signed.Int r
nearer_int r y h less = grind (arith, ints)

nearer_dint : (r y : ℤ) → IsWord signed.Dint y → unsigned_abs r < unsigned_abs y → IsWord signed.Dint r
nearer_dint r y h less = grind (arith, ints)

nearer_lint : (r y : ℤ) → IsWord signed.Lint y → unsigned_abs r < unsigned_abs y → IsWord signed.Lint r
nearer_lint r y h less = grind (arith, ints)

-- a remainder is nearer to 0 than the divisor
remainder_held : (s : Signed) (x y : ℤ) → IsWord s y → y ≢ pos 0 → IsWord s (int_rem x y)
remainder_held signed.Int x y h apart = nearer_int (int_rem x y) y h (rem_below x y (abs_pos y apart))
remainder_held signed.Dint x y h apart = nearer_dint (int_rem x y) y h (rem_below x y (abs_pos y apart))
remainder_held signed.Lint x y h apart = nearer_lint (int_rem x y) y h (rem_below x y (abs_pos y apart))

unequal : (y : ℤ) → int_eq y (pos 0) ≡ false → y ≢ pos 0
unequal y h same = let is : int_eq y (pos 0) ≡ true = (Decides-int_eq y (pos 0)).1 same in cc

kept_same : (s : Signed) (z w : ℤ) (t : Bool) → (if t then Some z else None) ≡ Some w → z ≡ w
kept_same s z w true e = cc
kept_same s z w false e = absurd cc

-- a word that is kept is that number
pub made_number : (z w : ℤ) → kept signed.Lint z ≡ Some w → z ≡ w
made_number z w e = kept_same signed.Lint z w (holds (kind_of signed.Lint) z) e

-- a remainder in 64 bits is one in its type
remainder_typed : (s : Signed) (x y w : ℤ) → IsWord s y → operator_result op.Modulo signed.Lint x y ≡ Some w
    → operator_result op.Modulo s x y ≡ Some w
remainder_typed s x y w h e = by_test (int_eq y (pos 0)) refl e
  where
    by_test : (t : Bool) → int_eq y (pos 0) ≡ t → (if t then None else kept signed.Lint (int_rem x y)) ≡ Some w
        → (if t then None else kept s (int_rem x y)) ≡ Some w
    by_test true z e = absurd cc
    by_test false z e =
        let r = int_rem x y in
        let same = kept_same signed.Lint r w (holds (kind_of signed.Lint) r) e in
        ap (λ t. if t then Some r else None) (remainder_held s x y h (unequal y z)) ∙ ap (λ n. Some n) same

-- the same for a remainder
remainder_by : (s : Signed) (x y w : ℤ) (t : Bool) → int_eq y (pos 0) ≡ t
    → (if t then None else kept s (int_rem x y)) ≡ Some w → IsResult (in_range (kind_of s) (remainder x y)) (kind_of s)
    w
remainder_by s x y w true h e = absurd cc
remainder_by s x y w false h e =
    kept_is s (remainder x y) w (ap (kept s) (sym (remainder_is x y (unequal y h))) ∙ e)

remainder_of : (s : Signed) (x y w : ℤ) → divided y (kept s (int_rem x y)) ≡ Some w
    → IsResult (in_range (kind_of s) (remainder x y)) (kind_of s) w
remainder_of s x y w e = remainder_by s x y w (int_eq y (pos 0)) refl e

-- an operator that an instruction computes
abbrev pub operation_of : BinaryOperator → Option Operation
operation_of Add = Some op.Add
operation_of Subtract = Some op.Subtract
operation_of Multiply = Some op.Multiply
operation_of Divide = Some op.Divide
operation_of Modulo = Some op.Modulo
operation_of _ = None

some_is : {A : Type 0} {x y : A} → Some x ≡ Some y → y ≡ x
some_is e = cc

pub made_is : (o : BinaryOperator) (n : Operation) (s : Signed) (x y w : ℤ) → operation_of o ≡ Some n → IsWord s x
    → IsWord s y → operator_result n s x y ≡ Some w → IsResult (applied o (kind_of s) x y) (kind_of s) w
made_is Or n s x y w of f g e = absurd cc
made_is Xor n s x y w of f g e = absurd cc
made_is And n s x y w of f g e = absurd cc
made_is Equal n s x y w of f g e = absurd cc
made_is NotEqual n s x y w of f g e = absurd cc
made_is Less n s x y w of f g e = absurd cc
made_is Greater n s x y w of f g e = absurd cc
made_is LessOrEqual n s x y w of f g e = absurd cc
made_is GreaterOrEqual n s x y w of f g e = absurd cc
made_is Add n s x y w of f g e =
    kept_is s (x +ℤ y) w (ap (kept s) (sym (sum_is s x y f g)) ∙ subst (λ n. operator_result n s x y ≡ Some w) (some_is of) e)
made_is Subtract n s x y w of f g e =
    kept_is s (x -ℤ y) w
    (ap (kept s) (sym (difference_is s x y f g)) ∙ subst (λ n. operator_result n s x y ≡ Some w) (some_is of) e)
made_is Multiply n s x y w of f g e =
    kept_is s (x *ℤ y) w
    (ap (kept s) (sym (product_is s x y f g)) ∙ subst (λ n. operator_result n s x y ≡ Some w) (some_is of) e)
made_is Divide n s x y w of f g e =
    divided_is s x y w (subst (λ n. operator_result n s x y ≡ Some w) (some_is of) e)
made_is Modulo n s x y w of f g e =
    remainder_of s x y w (subst (λ n. operator_result n s x y ≡ Some w) (some_is of) e)

-- a word is the result of an operator on two numbers, for each type that has it
abbrev pub IsMadeOf : BinaryOperator → ℤ → ℤ → ℤ → Type 0
IsMadeOf o x y w = (k : Kind) → holds k w ≡ true → applied o k x y ≡ Ok (record { kind = k; number = w })

in_kind : (z w : ℤ) (k : Kind) → z ≡ w → holds k w ≡ true → in_range k z ≡ Ok (record { kind = k; number = w })
in_kind z w k same h =
    ap (in_range k) same ∙ ap (λ t. if t then Ok (record { kind = k; number = w }) else Err Range) h

pub sum_makes : (x y w : ℤ) → x +ℤ y ≡ w → IsMadeOf Add x y w
sum_makes x y w is = λ k h. in_kind (x +ℤ y) w k is h

pub difference_makes : (x y w : ℤ) → x -ℤ y ≡ w → IsMadeOf Subtract x y w
difference_makes x y w is = λ k h. in_kind (x -ℤ y) w k is h

quotient_made : (x y w : ℤ) (t : Bool) → int_eq y (pos 0) ≡ t
    → (if t then None else kept signed.Lint (int_div x y)) ≡ Some w → IsMadeOf Divide x y w
quotient_made x y w true z e = absurd cc
quotient_made x y w false z e = λ k h.
    ap (λ t. if t then Err DivisionByZero else in_range k (int_div x y)) z
    ∙ in_kind (int_div x y) w k (made_number (int_div x y) w e) h

remainder_made : (x y w : ℤ) (t : Bool) → int_eq y (pos 0) ≡ t
    → (if t then None else kept signed.Lint (int_rem x y)) ≡ Some w → IsMadeOf Modulo x y w
remainder_made x y w true z e = absurd cc
remainder_made x y w false z e = λ k h.
    in_kind (remainder x y) w k
    (sym (remainder_is x y (unequal y z)) ∙ made_number (int_rem x y) w e) h

abbrev chosen : Signed → QuickInstr → QuickInstr → QuickInstr → QuickInstr
chosen signed.Int a b c = a
chosen signed.Dint a b c = b
chosen signed.Lint a b c = c

-- a difference is the sum with the second number negated
negated_narrow : (x : ℤ) → IsNarrow x → IsNarrow (neg_ℤ x)
negated_narrow x f = (let a = f.0 in let b = f.1 in (omega (arith, ints), omega (arith, ints)))

with_sign_turned : (x y : ℤ) → x +ℤ neg_ℤ y ≡ x -ℤ y
with_sign_turned x y = omega (arith, ints)

sum_turned : (s : Signed) (x y : ℤ) → IsWord s x → IsWord s y → sum s x (neg_ℤ y) ≡ x -ℤ y
sum_turned signed.Int x y f g =
    whole_sum x (neg_ℤ y) (int_narrow x f) (negated_narrow y (int_narrow y g)) ∙ with_sign_turned x y
sum_turned signed.Dint x y f g =
    whole_sum x (neg_ℤ y) (dint_narrow x f) (negated_narrow y (dint_narrow y g)) ∙ with_sign_turned x y
sum_turned signed.Lint x y f g = with_sign_turned x y

-- the words of a type are the numbers of its bits
int_fits : (x : ℤ) → IsWord signed.Int x → FitsSigned w16 x
int_fits x h = grind (arith, ints)

fits_int : (x : ℤ) → FitsSigned w16 x → IsWord signed.Int x
fits_int x h = grind (arith, ints)

dint_fits : (x : ℤ) → IsWord signed.Dint x → FitsSigned w32 x
dint_fits x h = grind (arith, ints)

fits_dint : (x : ℤ) → FitsSigned w32 x → IsWord signed.Dint x
fits_dint x h = grind (arith, ints)

lint_fits : (x : ℤ) → IsWord signed.Lint x → FitsSigned w64 x
lint_fits x h = grind (arith, ints)

fits_lint : (x : ℤ) → FitsSigned w64 x → IsWord signed.Lint x
fits_lint x h = grind (arith, ints)

-- a quotient by a divisor above 0 leaves no type
quotient_held : (s : Signed) (x d : ℤ) → IsWord s x → pos 0 <ℤ d → IsWord s (int_div x d)
quotient_held signed.Int x d h less = fits_int (int_div x d) (quot_fits w16 x d (int_fits x h) less)
quotient_held signed.Dint x d h less = fits_dint (int_div x d) (quot_fits w32 x d (dint_fits x h) less)
quotient_held signed.Lint x d h less = fits_lint (int_div x d) (quot_fits w64 x d (lint_fits x h) less)

above_none : (n : ℕ) → pos n ≢ pos 0 → pos 0 <ℤ pos n
above_none n h = grind (arith, ints)

-- a quotient in 64 bits is one in its type
quotient_typed : (s : Signed) (x : ℤ) (n : ℕ) (w : ℤ) → IsWord s x → operator_result op.Divide signed.Lint x (pos n) ≡ Some w
    → operator_result op.Divide s x (pos n) ≡ Some w
quotient_typed s x n w h e = by_test (int_eq (pos n) (pos 0)) refl e
  where
    by_test : (t : Bool) → int_eq (pos n) (pos 0) ≡ t
        → (if t then None else kept signed.Lint (int_div x (pos n))) ≡ Some w
        → (if t then None else kept s (int_div x (pos n))) ≡ Some w
    by_test true z e = absurd cc
    by_test false z e =
        let q = int_div x (pos n) in
        let same = kept_same signed.Lint q w (holds (kind_of signed.Lint) q) e in
        ap (λ t. if t then Some q else None) (quotient_held s x (pos n) h (above_none n (unequal (pos n) z)))
        ∙ ap (λ n. Some n) same

-- a type is computed as one with a sign
abbrev IsAs : Kind → Signed → Type 0
IsAs t s = (t ≡ kind_of s) ⊎ ((t ≡ Time) × (s ≡ signed.Lint))

-- A type is computed as one with a sign, and an instruction is the one for it.
record IsSigned (t : Kind) (a b c i : QuickInstr) : Type 0 where
  type : Signed
  kind : IsAs t type
  instr : i ≡ chosen type a b c

held_as : (t : Kind) (s : Signed) (x : ℤ) → IsAs t s → IsHeld (datum_at t x) → IsHeld (datum_at (kind_of s) x)
held_as t s x (inl is) h = subst (λ k. IsHeld (datum_at k x)) is h
held_as t s x (inr (time, lint)) h =
    subst (λ s. IsHeld (datum_at (kind_of s) x)) (sym lint) (subst (λ k. IsHeld (datum_at k x)) time h)

chosen_same : (s : Signed) (a : QuickInstr) → chosen s a a a ≡ a
chosen_same signed.Int a = refl
chosen_same signed.Dint a = refl
chosen_same signed.Lint a = refl

signed_of : (t : Kind) (a b c i : QuickInstr) → by_kind t a b c ≡ Some i → IsSigned t a b c i
signed_of Sint a b c i e = absurd cc
signed_of Int a b c i e = record { type = signed.Int; kind = inl refl; instr = cc }
signed_of Dint a b c i e = record { type = signed.Dint; kind = inl refl; instr = cc }
signed_of Lint a b c i e = record { type = signed.Lint; kind = inl refl; instr = cc }
signed_of Usint a b c i e = absurd cc
signed_of Uint a b c i e = absurd cc
signed_of Udint a b c i e = absurd cc
signed_of Ulint a b c i e = absurd cc
signed_of Byte a b c i e = absurd cc
signed_of Word a b c i e = absurd cc
signed_of Dword a b c i e = absurd cc
signed_of Lword a b c i e = absurd cc
signed_of Time a b c i e = record { type = signed.Lint; kind = inr (refl, refl); instr = cc }
signed_of Boolean a b c i e = absurd cc
signed_of (Enumerated names number) a b c i e = absurd cc

abbrev number_in : Kind → ℤ → Result Datum Fault
number_in k z = Ok (record { kind = k; number = z })

abbrev number_or_none : Result Datum Fault → ℤ
number_or_none (Ok v) = v.number
number_or_none (Err e) = pos 0

same_number : (k : Kind) (x y : ℤ) → number_in k x ≡ number_in k y → x ≡ y
same_number k x y e = ap number_or_none e

-- a number that is a LINT is a TIME
in_time : (z w : ℤ) (t : Bool) → (if t then number_in Lint z else Err Range) ≡ number_in Lint w
    → (if t then number_in Time z else Err Range) ≡ number_in Time w
in_time z w true e = ap (number_in Time) (same_number Lint z w e)
in_time z w false e = absurd cc

quotient_in_time : (x y w : ℤ) (t : Bool)
    → (if t then Err DivisionByZero else in_range Lint (int_div x y)) ≡ Ok (datum_at Lint w)
    → (if t then Err DivisionByZero else in_range Time (int_div x y)) ≡ Ok (datum_at Time w)
quotient_in_time x y w true e = absurd cc
quotient_in_time x y w false e = in_time (int_div x y) (number_at Lint w) (holds Lint (int_div x y)) e

-- an operator on TIME gives the same number as on LINT
time_as : (o : BinaryOperator) (n : Operation) (x y w : ℤ) → operation_of o ≡ Some n
    → IsResult (applied o Lint (number_at Lint x) (number_at Lint y)) Lint w
    → IsResult (applied o Time (number_at Time x) (number_at Time y)) Time w
time_as Or n x y w of r = absurd cc
time_as Xor n x y w of r = absurd cc
time_as And n x y w of r = absurd cc
time_as Equal n x y w of r = absurd cc
time_as NotEqual n x y w of r = absurd cc
time_as Less n x y w of r = absurd cc
time_as Greater n x y w of r = absurd cc
time_as LessOrEqual n x y w of r = absurd cc
time_as GreaterOrEqual n x y w of r = absurd cc
time_as Add n x y w of r =
    let z = number_at Lint x +ℤ number_at Lint y in
    record { value = in_time z (number_at Lint w) (holds Lint z) r.value; held = r.held }
time_as Subtract n x y w of r =
    let z = number_at Lint x -ℤ number_at Lint y in
    record { value = in_time z (number_at Lint w) (holds Lint z) r.value; held = r.held }
time_as Multiply n x y w of r =
    let z = number_at Lint x *ℤ number_at Lint y in
    record { value = in_time z (number_at Lint w) (holds Lint z) r.value; held = r.held }
time_as Divide n x y w of r =
    let a = number_at Lint x in
    let b = number_at Lint y in
    record { value = quotient_in_time a b w (int_eq b (pos 0)) r.value; held = r.held }
time_as Modulo n x y w of r =
    let z = remainder (number_at Lint x) (number_at Lint y) in
    record { value = in_time z (number_at Lint w) (holds Lint z) r.value; held = r.held }

from_none : (z : ℤ) → pos 0 -ℤ z ≡ neg_ℤ z
from_none z = omega (arith, ints)

dint_of : (t : Kind) (a i : QuickInstr) → by_dint t a ≡ Some i → (t ≡ Dint) × (i ≡ a)
dint_of Sint a i e = absurd cc
dint_of Int a i e = absurd cc
dint_of Dint a i e = (refl, some_is e)
dint_of Lint a i e = absurd cc
dint_of Usint a i e = absurd cc
dint_of Uint a i e = absurd cc
dint_of Udint a i e = absurd cc
dint_of Ulint a i e = absurd cc
dint_of Byte a i e = absurd cc
dint_of Word a i e = absurd cc
dint_of Dword a i e = absurd cc
dint_of Lword a i e = absurd cc
dint_of Time a i e = absurd cc
dint_of Boolean a i e = absurd cc
dint_of (Enumerated names number) a i e = absurd cc

module _ (f : Frame) (p : ℕ) (e : Left) (m : Memory) (b : ℕ) where
  -- The result of an operator on two words was assigned.
  pub record HasComputed (o : BinaryOperator) (t : Kind) (x y : ℤ) (to : ℕ) : Type 0 where
    pub word : ℤ
    pub result : IsResult (applied o t (number_at t x) (number_at t y)) t word
    pub ends : EndsWellAt f (suc p) (with_word m to word) b e

  -- The result of an operator on one word was assigned.
  pub record HasApplied (o : UnaryOperator) (t : Kind) (x : ℤ) (to : ℕ) : Type 0 where
    pub word : ℤ
    pub result : IsResult (apply_unary o (datum_at t x)) t word
    pub ends : EndsWellAt f (suc p) (with_word m to word) b e

  of_signed : (o : BinaryOperator) (n : Operation) (s : Signed) (x y : ℤ) (to : ℕ) → operation_of o ≡ Some n
      → IsHeld (datum_at (kind_of s) x) → IsHeld (datum_at (kind_of s) y)
      → Follows f p e (put to (operator_result n s x y) m b) → HasComputed o (kind_of s) x y to
  of_signed o n s x y to of g h runs =
      let done = has_put f p e to (operator_result n s x y) m b runs in
      let k = kind_of s in
      let result = made_is o n s x y done.word of (word_held s x g) (word_held s y h) done.is in record {
        word = done.word;
        result = subst (λ z. IsResult (applied o k z (number_at k y)) k done.word) (sym (number_is s x))
            (subst (λ z. IsResult (applied o k x z) k done.word) (sym (number_is s y)) result);
        ends = done.ends;
      }

  -- a result that was computed as another type
  back : (o : BinaryOperator) (n : Operation) (s : Signed) (t : Kind) (x y : ℤ) (to : ℕ) → operation_of o ≡ Some n
      → IsAs t s → HasComputed o (kind_of s) x y to → HasComputed o t x y to
  back o n s t x y to of (inl is) done = subst (λ k. HasComputed o k x y to) (sym is) done
  back o n s t x y to of (inr (time, lint)) done =
      let as_lint = subst (λ s. HasComputed o (kind_of s) x y to) lint done in
      subst (λ k. HasComputed o k x y to) (sym time) (record {
        word = as_lint.word;
        result = time_as o n x y as_lint.word of as_lint.result;
        ends = as_lint.ends;
      })

  of_type : (o : BinaryOperator) (n : Operation) (t : Kind) (x y : ℤ) (to : ℕ) (a d c i : QuickInstr)
      → operation_of o ≡ Some n → by_kind t a d c ≡ Some i
      → ((s : Signed) → act f.ways f.now (chosen s a d c) m b ≡ put to (operator_result n s x y) m b)
      → IsHeld (datum_at t x) → IsHeld (datum_at t y) → Follows f p e (act f.ways f.now i m b)
      → HasComputed o t x y to
  of_type o n t x y to a d c i of is does g h runs =
      let which = signed_of t a d c i is in
      let s = which.type in
      back o n s t x y to of which.kind
      (of_signed o n s x y to of (held_as t s x which.kind g) (held_as t s y which.kind h)
      (subst (Follows f p e) (does s) (subst (λ i. Follows f p e (act f.ways f.now i m b)) which.instr runs)))

  -- the words of a type are its numbers
  of_words : (o : BinaryOperator) (n : Operation) (s : Signed) (t : Kind) (x y w : ℤ) (to : ℕ)
      → operation_of o ≡ Some n → IsAs t s → IsResult (applied o (kind_of s) x y) (kind_of s) w
      → EndsWellAt f (suc p) (with_word m to w) b e → HasComputed o t x y to
  of_words o n s t x y w to of kind result ends =
      let k = kind_of s in
      back o n s t x y to of kind (record {
        word = w;
        result = subst (λ z. IsResult (applied o k z (number_at k y)) k w) (sym (number_is s x))
            (subst (λ z. IsResult (applied o k x z) k w) (sym (number_is s y)) result);
        ends = ends;
      })

  -- a difference, which is computed as a sum
  of_difference : (t : Kind) (x y : ℤ) (to : ℕ) (a d c i : QuickInstr) → by_kind t a d c ≡ Some i
      → ((s : Signed) → act f.ways f.now (chosen s a d c) m b ≡ put to (operator_result op.Add s x (neg_ℤ y)) m b)
      → IsHeld (datum_at t x) → IsHeld (datum_at t y) → Follows f p e (act f.ways f.now i m b)
      → HasComputed Subtract t x y to
  of_difference t x y to a d c i is does g h runs =
      let which = signed_of t a d c i is in
      let s = which.type in
      let hx = word_held s x (held_as t s x which.kind g) in
      let hy = word_held s y (held_as t s y which.kind h) in
      let done = has_put f p e to (operator_result op.Add s x (neg_ℤ y)) m b
      (subst (Follows f p e) (does s) (subst (λ i. Follows f p e (act f.ways f.now i m b)) which.instr runs)) in
      of_words Subtract op.Subtract s t x y done.word to refl which.kind
      (kept_is s (x -ℤ y) done.word (ap (kept s) (sym (sum_turned s x y hx hy)) ∙ done.is)) done.ends

  -- a quotient, which is computed in 64 bits
  of_quotient : (t : Kind) (x : ℤ) (n to : ℕ) (a i : QuickInstr) → by_kind t a a a ≡ Some i
      → act f.ways f.now a m b ≡ put to (operator_result op.Divide signed.Lint x (pos n)) m b → IsHeld (datum_at t x)
      → Follows f p e (act f.ways f.now i m b) → HasComputed Divide t x (pos n) to
  of_quotient t x n to a i is does g runs =
      let which = signed_of t a a a i is in
      let s = which.type in
      let hx = word_held s x (held_as t s x which.kind g) in
      let done = has_put f p e to (operator_result op.Divide signed.Lint x (pos n)) m b
      (subst (Follows f p e) does
      (subst (λ i. Follows f p e (act f.ways f.now i m b)) (which.instr ∙ chosen_same s a) runs)) in
      of_words Divide op.Divide s t x (pos n) done.word to refl which.kind
      (divided_is s x (pos n) done.word (quotient_typed s x n done.word hx done.is)) done.ends

  -- a remainder, which is computed in 64 bits
  of_remainder : (t : Kind) (x y : ℤ) (to : ℕ) (a i : QuickInstr) → by_kind t a a a ≡ Some i
      → act f.ways f.now a m b ≡ put to (operator_result op.Modulo signed.Lint x y) m b → IsHeld (datum_at t x)
      → IsHeld (datum_at t y) → Follows f p e (act f.ways f.now i m b) → HasComputed Modulo t x y to
  of_remainder t x y to a i is does g h runs =
      let which = signed_of t a a a i is in
      let s = which.type in
      let k = kind_of s in
      let hx = word_held s x (held_as t s x which.kind g) in
      let hy = word_held s y (held_as t s y which.kind h) in
      let done = has_put f p e to (operator_result op.Modulo signed.Lint x y) m b
      (subst (Follows f p e) does
      (subst (λ i. Follows f p e (act f.ways f.now i m b)) (which.instr ∙ chosen_same s a) runs)) in
      let result = made_is Modulo op.Modulo s x y done.word refl hx hy (remainder_typed s x y done.word hy done.is) in
      of_words Modulo op.Modulo s t x y done.word to refl which.kind result done.ends

  -- an operator on bits
  of_operator : (o : BinaryOperator) (t : Kind) (x y v : ℤ) (to : ℕ)
      → (applied o t (number_at t x) (number_at t y) ≡ Ok (datum_at t v)) × IsHeld (datum_at t v)
      → Follows f p e (put to (Some v) m b) → HasComputed o t x y to
  of_operator o t x y v to is runs =
      record { word = v; result = record { value = is.0; held = is.1 }; ends = runs }

  pub has_computed : (o : BinaryOperator) (t : Kind) (l r to : ℕ) (i : QuickInstr) → instr_for o t l r to ≡ Some i
      → IsHeld (datum_at t (look m l)) → IsHeld (datum_at t (look m r)) → Follows f p e (act f.ways f.now i m b)
      → HasComputed o t (look m l) (look m r) to
  has_computed Or t l r to i is g h runs =
      let bits = bits_of t (quick.Or l r to) i is in
      let x = look m l in
      let y = look m r in
      of_operator Or t x y (int_bit_or w64 x y) to (or_is bits.bits t x y bits.are g h)
      (subst (λ i. Follows f p e (act f.ways f.now i m b)) bits.instr runs)
  has_computed Xor t l r to i is g h runs =
      let bits = bits_of t (quick.Xor l r to) i is in
      let x = look m l in
      let y = look m r in
      of_operator Xor t x y (int_bit_xor w64 x y) to (xor_is bits.bits t x y bits.are g h)
      (subst (λ i. Follows f p e (act f.ways f.now i m b)) bits.instr runs)
  has_computed And t l r to i is g h runs =
      let bits = bits_of t (quick.And l r to) i is in
      let x = look m l in
      let y = look m r in
      of_operator And t x y (int_bit_and w64 x y) to (and_is bits.bits t x y bits.are g h)
      (subst (λ i. Follows f p e (act f.ways f.now i m b)) bits.instr runs)
  has_computed Equal t l r to i is g h runs = absurd cc
  has_computed NotEqual t l r to i is g h runs = absurd cc
  has_computed Less t l r to i is g h runs = absurd cc
  has_computed Greater t l r to i is g h runs = absurd cc
  has_computed LessOrEqual t l r to i is g h runs = absurd cc
  has_computed GreaterOrEqual t l r to i is g h runs = absurd cc
  has_computed Add t l r to i is g h runs =
      of_type Add op.Add t (look m l) (look m r) to (AddInt l r to) (AddDint l r to) (AddLint l r to) i refl is
      (λ s. elim s as (λ s. act f.ways f.now (chosen s (AddInt l r to) (AddDint l r to) (AddLint l r to)) m b
      ≡ put to (operator_result op.Add s (look m l) (look m r)) m b) [
        | signed.Int ↦ refl
        | signed.Dint ↦ refl
        | signed.Lint ↦ refl
      ])
      g h runs
  has_computed Subtract t l r to i is g h runs =
      of_type Subtract op.Subtract t (look m l) (look m r) to (SubtractInt l r to) (SubtractDint l r to) (SubtractLint
      l r to) i refl is
      (λ s. elim s as (λ s. act f.ways f.now (chosen s (SubtractInt l r to) (SubtractDint l r to) (SubtractLint l r
      to)) m b
      ≡ put to (operator_result op.Subtract s (look m l) (look m r)) m b) [
        | signed.Int ↦ refl
        | signed.Dint ↦ refl
        | signed.Lint ↦
            refl
      ])
      g h runs
  has_computed Multiply t l r to i is g h runs =
      of_type Multiply op.Multiply t (look m l) (look m r) to (MultiplyInt l r to) (MultiplyDint l r to) (MultiplyLint
      l r to) i refl is
      (λ s. elim s as (λ s. act f.ways f.now (chosen s (MultiplyInt l r to) (MultiplyDint l r to) (MultiplyLint l r
      to)) m b
      ≡ put to (operator_result op.Multiply s (look m l) (look m r)) m b) [
        | signed.Int ↦ refl
        | signed.Dint ↦ refl
        | signed.Lint ↦
            refl
      ])
      g h runs
  has_computed Divide t l r to i is g h runs =
      of_type Divide op.Divide t (look m l) (look m r) to (DivideInt l r to) (DivideDint l r to) (DivideLint l r to) i
      refl is
      (λ s. elim s as (λ s. act f.ways f.now (chosen s (DivideInt l r to) (DivideDint l r to) (DivideLint l r to)) m b
      ≡ put to (operator_result op.Divide s (look m l) (look m r)) m b) [
        | signed.Int ↦ refl
        | signed.Dint ↦ refl
        | signed.Lint ↦
            refl
      ])
      g h runs
  has_computed Modulo t l r to i is g h runs =
      of_remainder t (look m l) (look m r) to (quick.Modulo l r to) i is refl g h runs

  pub has_computed_by : (o : BinaryOperator) (t : Kind) (l : ℕ) (n : ℤ) (to : ℕ) (i : QuickInstr)
      → instr_by o t l n to ≡ Some i → IsHeld (datum_at t (look m l)) → IsHeld (datum_at t n)
      → Follows f p e (act f.ways f.now i m b) → HasComputed o t (look m l) n to
  has_computed_by Or t l n to i is g h runs = absurd cc
  has_computed_by Xor t l n to i is g h runs =
      let bits = bits_of t (quick.XorBy l n to) i is in
      let x = look m l in
      of_operator Xor t x n (int_bit_xor w64 x n) to (xor_is bits.bits t x n bits.are g h)
      (subst (λ i. Follows f p e (act f.ways f.now i m b)) bits.instr runs)
  has_computed_by And t l n to i is g h runs =
      let bits = bits_of t (quick.AndBy l n to) i is in
      let x = look m l in
      of_operator And t x n (int_bit_and w64 x n) to (and_is bits.bits t x n bits.are g h)
      (subst (λ i. Follows f p e (act f.ways f.now i m b)) bits.instr runs)
  has_computed_by Equal t l n to i is g h runs = absurd cc
  has_computed_by NotEqual t l n to i is g h runs = absurd cc
  has_computed_by Less t l n to i is g h runs = absurd cc
  has_computed_by Greater t l n to i is g h runs = absurd cc
  has_computed_by LessOrEqual t l n to i is g h runs = absurd cc
  has_computed_by GreaterOrEqual t l n to i is g h runs = absurd cc
  has_computed_by Add t l n to i is g h runs =
      of_type Add op.Add t (look m l) n to (quick.AddIntBy l n to) (quick.AddDintBy l n to) (quick.AddLintBy l n to) i
      refl is
      (λ s. elim s as (λ s. act f.ways f.now
      (chosen s (quick.AddIntBy l n to) (quick.AddDintBy l n to) (quick.AddLintBy l n to)) m b
      ≡ put to (operator_result op.Add s (look m l) n) m b) [ signed.Int ↦ refl | signed.Dint ↦ refl | signed.Lint ↦ refl ])
      g h runs
  has_computed_by Subtract t l n to i is g h runs =
      of_difference t (look m l) n to (quick.AddIntBy l (neg_ℤ n) to) (quick.AddDintBy l (neg_ℤ n) to)
      (quick.AddLintBy l (neg_ℤ n) to) i is
      (λ s. elim s as (λ s. act f.ways f.now
      (chosen s (quick.AddIntBy l (neg_ℤ n) to) (quick.AddDintBy l (neg_ℤ n) to) (quick.AddLintBy l (neg_ℤ n) to)) m b
      ≡ put to (operator_result op.Add s (look m l) (neg_ℤ n)) m b) [
        | signed.Int ↦ refl
        | signed.Dint ↦ refl
        | signed.Lint ↦ refl
      ])
      g h runs
  has_computed_by Multiply t l n to i is g h runs =
      let which = dint_of t (quick.MultiplyDintBy l n to) i is in
      subst (λ k. HasComputed Multiply k (look m l) n to) (sym which.0)
      (of_signed Multiply op.Multiply signed.Dint (look m l) n to refl
      (subst (λ k. IsHeld (datum_at k (look m l))) which.0 g) (subst (λ k. IsHeld (datum_at k n)) which.0 h)
      (subst (λ i. Follows f p e (act f.ways f.now i m b)) which.1 runs))
  has_computed_by Divide t l (pos n) to i is g h runs =
      of_quotient t (look m l) n to (quick.DivideBy l (pos n) to) i is refl g runs
  has_computed_by Divide t l (negsuc n) to i is g h runs = absurd cc
  has_computed_by Modulo t l n to i is g h runs =
      of_remainder t (look m l) n to (quick.ModuloBy l n to) i is refl g h runs

  -- The result of an operator on two numbers was assigned, as of two of LINT.
  pub record HasMadeOf (o : BinaryOperator) (x y : ℤ) (to : ℕ) : Type 0 where
    pub word : ℤ
    pub is : IsMadeOf o x y word
    pub ends : EndsWellAt f (suc p) (with_word m to word) b e

  sum_put : (o : BinaryOperator) (z x y : ℤ) (to : ℕ)
      → ((w : ℤ) → z ≡ w → IsMadeOf o x y w) → Follows f p e (put to (kept signed.Lint z) m b) → HasMadeOf o x y to
  sum_put o z x y to means runs =
      let done = has_put f p e to (kept signed.Lint z) m b runs in
      record { word = done.word; is = means done.word (made_number z done.word done.is); ends = done.ends }

  quotient_put : (x y : ℤ) (to : ℕ) → Follows f p e (put to (operator_result op.Divide signed.Lint x y) m b)
      → HasMadeOf Divide x y to
  quotient_put x y to runs =
      let done = has_put f p e to (operator_result op.Divide signed.Lint x y) m b runs in
      record {
        word = done.word;
        is = quotient_made x y done.word (int_eq y (pos 0)) refl done.is;
        ends = done.ends;
      }

  remainder_put : (x y : ℤ) (to : ℕ) → Follows f p e (put to (operator_result op.Modulo signed.Lint x y) m b)
      → HasMadeOf Modulo x y to
  remainder_put x y to runs =
      let done = has_put f p e to (operator_result op.Modulo signed.Lint x y) m b runs in
      record {
        word = done.word;
        is = remainder_made x y done.word (int_eq y (pos 0)) refl done.is;
        ends = done.ends;
      }

  as_instr : (i j : QuickInstr) → Some i ≡ Some j → Follows f p e (act f.ways f.now j m b)
      → Follows f p e (act f.ways f.now i m b)
  as_instr i j is runs = subst (λ i. Follows f p e (act f.ways f.now i m b)) (some_is is) runs

  pub has_made_of : (o : BinaryOperator) (l r to : ℕ) (i : QuickInstr) → instr_for o Lint l r to ≡ Some i
      → Follows f p e (act f.ways f.now i m b) → HasMadeOf o (look m l) (look m r) to
  has_made_of Or l r to i is runs = absurd cc
  has_made_of Xor l r to i is runs = absurd cc
  has_made_of And l r to i is runs = absurd cc
  has_made_of Equal l r to i is runs = absurd cc
  has_made_of NotEqual l r to i is runs = absurd cc
  has_made_of Less l r to i is runs = absurd cc
  has_made_of Greater l r to i is runs = absurd cc
  has_made_of LessOrEqual l r to i is runs = absurd cc
  has_made_of GreaterOrEqual l r to i is runs = absurd cc
  has_made_of Add l r to i is runs =
      let x = look m l in
      let y = look m r in
      sum_put Add (x +ℤ y) x y to (λ w same k h. in_kind (x +ℤ y) w k same h) (as_instr (AddLint l r to) i is runs)
  has_made_of Subtract l r to i is runs =
      let x = look m l in
      let y = look m r in
      sum_put Subtract (x -ℤ y) x y to (λ w same k h. in_kind (x -ℤ y) w k same h)
      (as_instr (SubtractLint l r to) i is runs)
  has_made_of Multiply l r to i is runs =
      let x = look m l in
      let y = look m r in
      sum_put Multiply (x *ℤ y) x y to (λ w same k h. in_kind (x *ℤ y) w k same h)
      (as_instr (MultiplyLint l r to) i is runs)
  has_made_of Divide l r to i is runs =
      quotient_put (look m l) (look m r) to (as_instr (DivideLint l r to) i is runs)
  has_made_of Modulo l r to i is runs =
      remainder_put (look m l) (look m r) to (as_instr (quick.Modulo l r to) i is runs)

  pub has_made_of_by : (o : BinaryOperator) (l : ℕ) (n : ℤ) (to : ℕ) (i : QuickInstr) → instr_by o Lint l n to ≡ Some i
      → Follows f p e (act f.ways f.now i m b) → HasMadeOf o (look m l) n to
  has_made_of_by Or l n to i is runs = absurd cc
  has_made_of_by Xor l n to i is runs = absurd cc
  has_made_of_by And l n to i is runs = absurd cc
  has_made_of_by Equal l n to i is runs = absurd cc
  has_made_of_by NotEqual l n to i is runs = absurd cc
  has_made_of_by Less l n to i is runs = absurd cc
  has_made_of_by Greater l n to i is runs = absurd cc
  has_made_of_by LessOrEqual l n to i is runs = absurd cc
  has_made_of_by GreaterOrEqual l n to i is runs = absurd cc
  has_made_of_by Add l n to i is runs =
      let x = look m l in
      sum_put Add (x +ℤ n) x n to (λ w same k h. in_kind (x +ℤ n) w k same h)
      (as_instr (quick.AddLintBy l n to) i is runs)
  has_made_of_by Subtract l n to i is runs =
      let x = look m l in
      sum_put Subtract (x +ℤ neg_ℤ n) x n to
      (λ w same k h. in_kind (x -ℤ n) w k (sym (with_sign_turned x n) ∙ same) h)
      (as_instr (quick.AddLintBy l (neg_ℤ n) to) i is runs)
  has_made_of_by Multiply l n to i is runs = absurd cc
  has_made_of_by Divide l (pos n) to i is runs =
      quotient_put (look m l) (pos n) to (as_instr (quick.DivideBy l (pos n) to) i is runs)
  has_made_of_by Divide l (negsuc n) to i is runs = absurd cc
  has_made_of_by Modulo l n to i is runs =
      remainder_put (look m l) n to (as_instr (quick.ModuloBy l n to) i is runs)

  -- each bit of a word was flipped
  pub has_turned : (t : Kind) (l r to : ℕ) (i : QuickInstr) → instr_for Xor t l r to ≡ Some i
      → IsHeld (datum_at t (look m l)) → IsHeld (datum_at t (look m r)) → number_at t (look m r) ≡ greatest t
      → Follows f p e (act f.ways f.now i m b) → HasApplied Not t (look m l) to
  has_turned t l r to i is g h ones runs =
      let bits = bits_of t (quick.Xor l r to) i is in
      let done = has_computed Xor t l r to i is g h runs in record {
        word = done.word;
        result = record {
          value = sym (xor_turns bits.bits t bits.are (look m l) (look m r) g ones) ∙ done.result.value;
          held = done.result.held;
        };
        ends = done.ends;
      }

  pub has_turned_by : (t : Kind) (l to : ℕ) (i : QuickInstr) → instr_by Xor t l (greatest t) to ≡ Some i
      → IsHeld (datum_at t (look m l)) → Follows f p e (act f.ways f.now i m b) → HasApplied Not t (look m l) to
  has_turned_by t l to i is g runs =
      let bits = bits_of t (quick.XorBy l (greatest t) to) i is in
      let done = has_computed_by Xor t l (greatest t) to i is g (greatest_held bits.bits t bits.are) runs in record {
        word = done.word;
        result = record {
          value = sym (xor_turns bits.bits t bits.are (look m l) (greatest t) g (greatest_is bits.bits t bits.are))
              ∙ done.result.value;
          held = done.result.held;
        };
        ends = done.ends;
      }

  -- a word was subtracted from 0
  pub has_negated : (t : Kind) (l r to : ℕ) (i : QuickInstr) → instr_for Subtract t l r to ≡ Some i
      → IsHeld (datum_at t (look m l)) → IsHeld (datum_at t (look m r)) → number_at t (look m l) ≡ pos 0
      → Follows f p e (act f.ways f.now i m b) → HasApplied Negate t (look m r) to
  has_negated t l r to i is g h none runs =
      let done = has_computed Subtract t l r to i is g h runs in record {
        word = done.word;
        result = record {
          value = ap (in_range t) (sym (from_none (number_at t (look m r))))
              ∙ ap (λ n. in_range t (n -ℤ number_at t (look m r))) (sym none)
              ∙ done.result.value;
          held = done.result.held;
        };
        ends = done.ends;
      }

less_shifted : (x y s : ℤ) → int_lt (x +ℤ s) (y +ℤ s) ≡ int_lt x y
less_shifted x y s = grind (arith, ints)

pub at_most_shifted : (x y s : ℤ) → int_le (x +ℤ s) (y +ℤ s) ≡ int_le x y
at_most_shifted x y s = grind (arith, ints)

pub equal_shifted : (x y s : ℤ) → int_eq (x +ℤ s) (y +ℤ s) ≡ int_eq x y
equal_shifted x y s =
    same_from_decides (int_eq (x +ℤ s) (y +ℤ s)) (int_eq x y) (Decides-int_eq (x +ℤ s) (y +ℤ s))
    (Decides-like (int_eq x y) (ap (λ z. z +ℤ s))
    (λ e. sym (+ℤ-neg_ℤ_cancel x s) ∙ ap (λ z. z -ℤ s) e ∙ +ℤ-neg_ℤ_cancel y s) (Decides-int_eq x y))

-- whether a branch is taken, by whether it is to be taken when a condition holds or unless it does
abbrev pub turn_for : Bool → Bool → Bool
turn_for true go = go
turn_for false go = not go

not_less : (x y : ℤ) → not (int_lt x y) ≡ int_le y x
not_less x y = grind (arith, ints)

not_at_most : (x y : ℤ) → not (int_le x y) ≡ int_lt y x
not_at_most x y = grind (arith, ints)

pub not_not : (t : Bool) → not (not t) ≡ t
not_not true = refl
not_not false = refl

module _ (f : Frame) (q : ℕ) (e : Left) (m : Memory) (b : ℕ) where
  -- A comparison was tested, and the run went by the way when it holds, or unless it does.
  pub record HasCompared (o : BinaryOperator) (t : Kind) (x y : ℤ) (when : Bool) (w : Way) (past : ℕ) : Type 0 where
    pub go : Bool
    pub is : applied o t (number_at t x) (number_at t y) ≡ Ok (bool_datum go)
    pub ends : HasBranched f q e (turn_for when go) w past m b

  by_branch : (o : BinaryOperator) (t : Kind) (x y : ℤ) (w : Way) (past : ℕ) (go : Bool)
      → applied o t (number_at t x) (number_at t y) ≡ Ok (bool_datum go) → (turn : Bool) → not go ≡ turn
      → HasBranched f q e turn w past m b → HasCompared o t x y false w past
  by_branch o t x y w past go is turn same h =
      record { go = go; is = is; ends = subst (λ u. HasBranched f q e u w past m b) (sym same) h }

  compared_unless : (o : BinaryOperator) (t : Kind) (l r : ℕ) (w : Way) (past : ℕ) (i : QuickInstr)
      → branch_unless o l r w past ≡ Some i → Follows f q e (act f.ways f.now i m b)
      → HasCompared o t (look m l) (look m r) false w past
  compared_unless Or t l r w past i is runs = absurd cc
  compared_unless Xor t l r w past i is runs = absurd cc
  compared_unless And t l r w past i is runs = absurd cc
  compared_unless Equal t l r w past i is runs =
      by_branch Equal t (look m l) (look m r) w past (int_eq (look m l) (look m r))
      (ap (λ u. Ok (bool_datum u)) (equal_shifted (look m l) (look m r) (shift_of t))) (not (int_eq (look m l)
      (look m r))) (refl)
      (has_branched f q e (not (int_eq (look m l) (look m r))) w past m b
      (subst (λ i. Follows f q e (act f.ways f.now i m b)) (some_is is) runs))
  compared_unless NotEqual t l r w past i is runs =
      by_branch NotEqual t (look m l) (look m r) w past (not (int_eq (look m l) (look m r)))
      (ap (λ u. Ok (bool_datum u)) (ap not (equal_shifted (look m l) (look m r) (shift_of t)))) (int_eq (look m l)
      (look m r)) (not_not (int_eq (look m l) (look m r)))
      (has_branched f q e (int_eq (look m l) (look m r)) w past m b
      (subst (λ i. Follows f q e (act f.ways f.now i m b)) (some_is is) runs))
  compared_unless Less t l r w past i is runs =
      by_branch Less t (look m l) (look m r) w past (int_lt (look m l) (look m r))
      (ap (λ u. Ok (bool_datum u)) (less_shifted (look m l) (look m r) (shift_of t))) (int_le (look m r) (look m
      l)) (not_less (look m l) (look m r))
      (has_branched f q e (int_le (look m r) (look m l)) w past m b
      (subst (λ i. Follows f q e (act f.ways f.now i m b)) (some_is is) runs))
  compared_unless Greater t l r w past i is runs =
      by_branch Greater t (look m l) (look m r) w past (int_lt (look m r) (look m l))
      (ap (λ u. Ok (bool_datum u)) (less_shifted (look m r) (look m l) (shift_of t))) (int_le (look m l) (look m
      r)) (not_less (look m r) (look m l))
      (has_branched f q e (int_le (look m l) (look m r)) w past m b
      (subst (λ i. Follows f q e (act f.ways f.now i m b)) (some_is is) runs))
  compared_unless LessOrEqual t l r w past i is runs =
      by_branch LessOrEqual t (look m l) (look m r) w past (int_le (look m l) (look m r))
      (ap (λ u. Ok (bool_datum u)) (at_most_shifted (look m l) (look m r) (shift_of t))) (int_lt (look m r) (look m
      l)) (not_at_most (look m l) (look m r))
      (has_branched f q e (int_lt (look m r) (look m l)) w past m b
      (subst (λ i. Follows f q e (act f.ways f.now i m b)) (some_is is) runs))
  compared_unless GreaterOrEqual t l r w past i is runs =
      by_branch GreaterOrEqual t (look m l) (look m r) w past (int_le (look m r) (look m l))
      (ap (λ u. Ok (bool_datum u)) (at_most_shifted (look m r) (look m l) (shift_of t))) (int_lt (look m l) (look m
      r)) (not_at_most (look m r) (look m l))
      (has_branched f q e (int_lt (look m l) (look m r)) w past m b
      (subst (λ i. Follows f q e (act f.ways f.now i m b)) (some_is is) runs))
  compared_unless Add t l r w past i is runs = absurd cc
  compared_unless Subtract t l r w past i is runs = absurd cc
  compared_unless Multiply t l r w past i is runs = absurd cc
  compared_unless Divide t l r w past i is runs = absurd cc
  compared_unless Modulo t l r w past i is runs = absurd cc

  compared_unless_to : (o : BinaryOperator) (t : Kind) (l : ℕ) (n : ℤ) (w : Way) (past : ℕ) (i : QuickInstr)
      → branch_unless_by o l n w past ≡ Some i → Follows f q e (act f.ways f.now i m b)
      → HasCompared o t (look m l) n false w past
  compared_unless_to Or t l n w past i is runs = absurd cc
  compared_unless_to Xor t l n w past i is runs = absurd cc
  compared_unless_to And t l n w past i is runs = absurd cc
  compared_unless_to Equal t l n w past i is runs =
      by_branch Equal t (look m l) n w past (int_eq (look m l) n)
      (ap (λ u. Ok (bool_datum u)) (equal_shifted (look m l) n (shift_of t))) (not (int_eq (look m l) n)) (refl)
      (has_branched f q e (not (int_eq (look m l) n)) w past m b
      (subst (λ i. Follows f q e (act f.ways f.now i m b)) (some_is is) runs))
  compared_unless_to NotEqual t l n w past i is runs =
      by_branch NotEqual t (look m l) n w past (not (int_eq (look m l) n))
      (ap (λ u. Ok (bool_datum u)) (ap not (equal_shifted (look m l) n (shift_of t)))) (int_eq (look m l) n)
      (not_not (int_eq (look m l) n))
      (has_branched f q e (int_eq (look m l) n) w past m b
      (subst (λ i. Follows f q e (act f.ways f.now i m b)) (some_is is) runs))
  compared_unless_to Less t l n w past i is runs =
      by_branch Less t (look m l) n w past (int_lt (look m l) n)
      (ap (λ u. Ok (bool_datum u)) (less_shifted (look m l) n (shift_of t))) (int_le n (look m l)) (not_less (look
      m l) n)
      (has_branched f q e (int_le n (look m l)) w past m b
      (subst (λ i. Follows f q e (act f.ways f.now i m b)) (some_is is) runs))
  compared_unless_to Greater t l n w past i is runs =
      by_branch Greater t (look m l) n w past (int_lt n (look m l))
      (ap (λ u. Ok (bool_datum u)) (less_shifted n (look m l) (shift_of t))) (int_le (look m l) n) (not_less n
      (look m l))
      (has_branched f q e (int_le (look m l) n) w past m b
      (subst (λ i. Follows f q e (act f.ways f.now i m b)) (some_is is) runs))
  compared_unless_to LessOrEqual t l n w past i is runs =
      by_branch LessOrEqual t (look m l) n w past (int_le (look m l) n)
      (ap (λ u. Ok (bool_datum u)) (at_most_shifted (look m l) n (shift_of t))) (int_lt n (look m l)) (not_at_most
      (look m l) n)
      (has_branched f q e (int_lt n (look m l)) w past m b
      (subst (λ i. Follows f q e (act f.ways f.now i m b)) (some_is is) runs))
  compared_unless_to GreaterOrEqual t l n w past i is runs =
      by_branch GreaterOrEqual t (look m l) n w past (int_le n (look m l))
      (ap (λ u. Ok (bool_datum u)) (at_most_shifted n (look m l) (shift_of t))) (int_lt (look m l) n) (not_at_most
      n (look m l))
      (has_branched f q e (int_lt (look m l) n) w past m b
      (subst (λ i. Follows f q e (act f.ways f.now i m b)) (some_is is) runs))
  compared_unless_to Add t l n w past i is runs = absurd cc
  compared_unless_to Subtract t l n w past i is runs = absurd cc
  compared_unless_to Multiply t l n w past i is runs = absurd cc
  compared_unless_to Divide t l n w past i is runs = absurd cc
  compared_unless_to Modulo t l n w past i is runs = absurd cc

  compared_when : (o : BinaryOperator) (t : Kind) (l r : ℕ) (w : Way) (past : ℕ) (i : QuickInstr)
      → branch_when o l r w past ≡ Some i → Follows f q e (act f.ways f.now i m b)
      → HasCompared o t (look m l) (look m r) true w past
  compared_when Or t l r w past i is runs = absurd cc
  compared_when Xor t l r w past i is runs = absurd cc
  compared_when And t l r w past i is runs = absurd cc
  compared_when Equal t l r w past i is runs = record {
    go = int_eq (look m l) (look m r);
    is = ap (λ u. Ok (bool_datum u)) (equal_shifted (look m l) (look m r) (shift_of t));
    ends = has_branched f q e (int_eq (look m l) (look m r)) w past m b
        (subst (λ i. Follows f q e (act f.ways f.now i m b)) (some_is is) runs);
  }
  compared_when NotEqual t l r w past i is runs = record {
    go = not (int_eq (look m l) (look m r));
    is = ap (λ u. Ok (bool_datum u)) (ap not (equal_shifted (look m l) (look m r) (shift_of t)));
    ends = has_branched f q e (not (int_eq (look m l) (look m r))) w past m b
        (subst (λ i. Follows f q e (act f.ways f.now i m b)) (some_is is) runs);
  }
  compared_when Less t l r w past i is runs = record {
    go = int_lt (look m l) (look m r);
    is = ap (λ u. Ok (bool_datum u)) (less_shifted (look m l) (look m r) (shift_of t));
    ends = has_branched f q e (int_lt (look m l) (look m r)) w past m b
        (subst (λ i. Follows f q e (act f.ways f.now i m b)) (some_is is) runs);
  }
  compared_when Greater t l r w past i is runs = record {
    go = int_lt (look m r) (look m l);
    is = ap (λ u. Ok (bool_datum u)) (less_shifted (look m r) (look m l) (shift_of t));
    ends = has_branched f q e (int_lt (look m r) (look m l)) w past m b
        (subst (λ i. Follows f q e (act f.ways f.now i m b)) (some_is is) runs);
  }
  compared_when LessOrEqual t l r w past i is runs = record {
    go = int_le (look m l) (look m r);
    is = ap (λ u. Ok (bool_datum u)) (at_most_shifted (look m l) (look m r) (shift_of t));
    ends = has_branched f q e (int_le (look m l) (look m r)) w past m b
        (subst (λ i. Follows f q e (act f.ways f.now i m b)) (some_is is) runs);
  }
  compared_when GreaterOrEqual t l r w past i is runs = record {
    go = int_le (look m r) (look m l);
    is = ap (λ u. Ok (bool_datum u)) (at_most_shifted (look m r) (look m l) (shift_of t));
    ends = has_branched f q e (int_le (look m r) (look m l)) w past m b
        (subst (λ i. Follows f q e (act f.ways f.now i m b)) (some_is is) runs);
  }
  compared_when Add t l r w past i is runs = absurd cc
  compared_when Subtract t l r w past i is runs = absurd cc
  compared_when Multiply t l r w past i is runs = absurd cc
  compared_when Divide t l r w past i is runs = absurd cc
  compared_when Modulo t l r w past i is runs = absurd cc

  compared_when_to : (o : BinaryOperator) (t : Kind) (l : ℕ) (n : ℤ) (w : Way) (past : ℕ) (i : QuickInstr)
      → branch_when_by o l n w past ≡ Some i → Follows f q e (act f.ways f.now i m b)
      → HasCompared o t (look m l) n true w past
  compared_when_to Or t l n w past i is runs = absurd cc
  compared_when_to Xor t l n w past i is runs = absurd cc
  compared_when_to And t l n w past i is runs = absurd cc
  compared_when_to Equal t l n w past i is runs = record {
    go = int_eq (look m l) n;
    is = ap (λ u. Ok (bool_datum u)) (equal_shifted (look m l) n (shift_of t));
    ends = has_branched f q e (int_eq (look m l) n) w past m b
        (subst (λ i. Follows f q e (act f.ways f.now i m b)) (some_is is) runs);
  }
  compared_when_to NotEqual t l n w past i is runs = record {
    go = not (int_eq (look m l) n);
    is = ap (λ u. Ok (bool_datum u)) (ap not (equal_shifted (look m l) n (shift_of t)));
    ends = has_branched f q e (not (int_eq (look m l) n)) w past m b
        (subst (λ i. Follows f q e (act f.ways f.now i m b)) (some_is is) runs);
  }
  compared_when_to Less t l n w past i is runs = record {
    go = int_lt (look m l) n;
    is = ap (λ u. Ok (bool_datum u)) (less_shifted (look m l) n (shift_of t));
    ends = has_branched f q e (int_lt (look m l) n) w past m b
        (subst (λ i. Follows f q e (act f.ways f.now i m b)) (some_is is) runs);
  }
  compared_when_to Greater t l n w past i is runs = record {
    go = int_lt n (look m l);
    is = ap (λ u. Ok (bool_datum u)) (less_shifted n (look m l) (shift_of t));
    ends = has_branched f q e (int_lt n (look m l)) w past m b
        (subst (λ i. Follows f q e (act f.ways f.now i m b)) (some_is is) runs);
  }
  compared_when_to LessOrEqual t l n w past i is runs = record {
    go = int_le (look m l) n;
    is = ap (λ u. Ok (bool_datum u)) (at_most_shifted (look m l) n (shift_of t));
    ends = has_branched f q e (int_le (look m l) n) w past m b
        (subst (λ i. Follows f q e (act f.ways f.now i m b)) (some_is is) runs);
  }
  compared_when_to GreaterOrEqual t l n w past i is runs = record {
    go = int_le n (look m l);
    is = ap (λ u. Ok (bool_datum u)) (at_most_shifted n (look m l) (shift_of t));
    ends = has_branched f q e (int_le n (look m l)) w past m b
        (subst (λ i. Follows f q e (act f.ways f.now i m b)) (some_is is) runs);
  }
  compared_when_to Add t l n w past i is runs = absurd cc
  compared_when_to Subtract t l n w past i is runs = absurd cc
  compared_when_to Multiply t l n w past i is runs = absurd cc
  compared_when_to Divide t l n w past i is runs = absurd cc
  compared_when_to Modulo t l n w past i is runs = absurd cc

  pub has_compared : (when : Bool) (o : BinaryOperator) (t : Kind) (l r : ℕ) (w : Way) (past : ℕ) (i : QuickInstr)
      → branch_for when o l r w past ≡ Some i → Follows f q e (act f.ways f.now i m b)
      → HasCompared o t (look m l) (look m r) when w past
  has_compared true o t l r w past i is runs = compared_when o t l r w past i is runs
  has_compared false o t l r w past i is runs = compared_unless o t l r w past i is runs

  pub has_compared_to : (when : Bool) (o : BinaryOperator) (t : Kind) (l : ℕ) (n : ℤ) (w : Way) (past : ℕ)
      (i : QuickInstr) → branch_for_by when o l n w past ≡ Some i → Follows f q e (act f.ways f.now i m b)
      → HasCompared o t (look m l) n when w past
  has_compared_to true o t l n w past i is runs = compared_when_to o t l n w past i is runs
  has_compared_to false o t l n w past i is runs = compared_unless_to o t l n w past i is runs

  -- The truth of a comparison was assigned.
  pub record HasTruth (o : BinaryOperator) (t : Kind) (x y : ℤ) (to : ℕ) : Type 0 where
    pub go : Bool
    pub is : applied o t (number_at t x) (number_at t y) ≡ Ok (bool_datum go)
    pub ends : EndsWellAt f (suc q) (with_word m to (bool_word go)) b e

  pub has_truth : (o : BinaryOperator) (t : Kind) (l r to : ℕ) (i : QuickInstr) → comparison_instr o l r to ≡ Some i
      → Follows f q e (act f.ways f.now i m b) → HasTruth o t (look m l) (look m r) to
  has_truth Or t l r to i is runs = absurd cc
  has_truth Xor t l r to i is runs = absurd cc
  has_truth And t l r to i is runs = absurd cc
  has_truth Equal t l r to i is runs = record {
    go = int_eq (look m l) (look m r);
    is = ap (λ u. Ok (bool_datum u)) (equal_shifted (look m l) (look m r) (shift_of t));
    ends = subst (λ i. Follows f q e (act f.ways f.now i m b)) (some_is is) runs;
  }
  has_truth NotEqual t l r to i is runs = record {
    go = not (int_eq (look m l) (look m r));
    is = ap (λ u. Ok (bool_datum u)) (ap not (equal_shifted (look m l) (look m r) (shift_of t)));
    ends = subst (λ i. Follows f q e (act f.ways f.now i m b)) (some_is is) runs;
  }
  has_truth Less t l r to i is runs = record {
    go = int_lt (look m l) (look m r);
    is = ap (λ u. Ok (bool_datum u)) (less_shifted (look m l) (look m r) (shift_of t));
    ends = subst (λ i. Follows f q e (act f.ways f.now i m b)) (some_is is) runs;
  }
  has_truth Greater t l r to i is runs = record {
    go = int_lt (look m r) (look m l);
    is = ap (λ u. Ok (bool_datum u)) (less_shifted (look m r) (look m l) (shift_of t));
    ends = subst (λ i. Follows f q e (act f.ways f.now i m b)) (some_is is) runs;
  }
  has_truth LessOrEqual t l r to i is runs = record {
    go = int_le (look m l) (look m r);
    is = ap (λ u. Ok (bool_datum u)) (at_most_shifted (look m l) (look m r) (shift_of t));
    ends = subst (λ i. Follows f q e (act f.ways f.now i m b)) (some_is is) runs;
  }
  has_truth GreaterOrEqual t l r to i is runs = record {
    go = int_le (look m r) (look m l);
    is = ap (λ u. Ok (bool_datum u)) (at_most_shifted (look m r) (look m l) (shift_of t));
    ends = subst (λ i. Follows f q e (act f.ways f.now i m b)) (some_is is) runs;
  }
  has_truth Add t l r to i is runs = absurd cc
  has_truth Subtract t l r to i is runs = absurd cc
  has_truth Multiply t l r to i is runs = absurd cc
  has_truth Divide t l r to i is runs = absurd cc
  has_truth Modulo t l r to i is runs = absurd cc
