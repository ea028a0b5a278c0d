-- The code of a standard function gives for words what the function gives for the values.
use Rattle.std.proofs.Common.{◌≡◌, ◌&&◌, ℕ, suc, ◌+◌, ◌-◌, ◌<◌, ◌≤◌, ◌^◌, ◌/◌, ℤ, pos, negsuc, ◌-ℤ◌, Bool, true, false}
use Rattle.std.proofs.Common.{List, [], ◌∷◌, Some, None, Ok, Err, refl, sym, ap, ap₂, subst, ◌∙◌, arith}
use Rattle.std.proofs.Common.{inr}
use Rattle.std.specs.Prelude.{if◌then◌else◌, int_le, not, slice_get, unsigned_abs}
use Rattle.std.specs.Ordering.{int_eq}
use Rattle.std.proofs.lemmas.Int.{ints}
use Rattle.st_types.specs.declared.fault.Fault.TheVariants.{Conversion, Range}
use Rattle.st_types.specs.declared.kind.Kind.{Kind}
use Rattle.st_types.specs.declared.kind.Kind.TheVariants.{Bool as Boolean}
use Rattle.st_types.proofs.KindLemmas.{same_kind-refl}
use Rattle.st_types.specs.Kinds.{greatest, holds, least, row_of}
use Rattle.st_types.specs.Values.{Datum, IsHeld, bool_datum, in_range, is_true}
use Rattle.st_types.specs.Words.{datum_at, is_wide, number_at, shift_of}
use Rattle.st_meaning.specs.Failures.{failing, ill_typed}
use Rattle.st_meaning.specs.StandardFunctions.{ABS, CONVERT, LIMIT, MAX, MIN, ROL, ROR, SEL, SHL, SHR, Standard}
use Rattle.st_meaning.specs.StandardFunctions.{bits_down, conversion, greater, lesser, shifted, standard_value}
use Rattle.machine_code.specs.declared.mark.Mark.{Mark}
use Rattle.quick_code.specs.declared.operation.Operation.TheVariants as op
use Rattle.quick_code.specs.declared.operation.Signed.TheVariants as signed
use Rattle.quick_code.specs.declared.quick_instr.QuickInstr.TheVariants.{ShiftRight}
use Rattle.quick_code.specs.QuickRuns.{Left}
use Rattle.quick_code.specs.QuickSteps.{Memory, act, look, with_word}
use Rattle.quick_code.specs.Words.{between, operator_result, shifted_down, bool_word}
use Rattle.quick_trees.specs.declared.noting.Noting.{Noting}
use Rattle.quick_trees.specs.Functions.{AreThree, AreTwo, IsPicked, IsConverted, IsFunctionOf, IsGreater, IsLesser}
use Rattle.quick_trees.specs.Functions.{IsLimited, IsMovedWithin, IsOne, IsSelected, IsShifted, IsWithoutSign}
use Rattle.quick_trees.specs.Pieces.{IsNumberAt}
use Rattle.quick_trees.specs.Points.{Point, next}
use Rattle.quick_trees.specs.QuickMemory.{EndsWellAt, Frame, first_temporary}
use Rattle.quick_trees.proofs.Bits.{bits_of, down_number, has_masked, number_word, shifted_by, turned_up, up_in_type}
use Rattle.std.proofs.Math.Nat.{mod-eq_of_lt}
use Rattle.std.proofs.Common.{w64, ◌*◌, ◌*ℤ◌, ◌+ℤ◌}
use Rattle.std.specs.Prelude.{◌%◌}
use Rattle.std.specs.Int.{int_bit_and}
use Rattle.st_meaning.specs.Operators.{natural}
use Rattle.st_meaning.specs.StandardFunctions.{bits_turned, bits_up, turned_down}
use Rattle.quick_code.specs.declared.quick_instr.QuickInstr.TheVariants.{And}
use Rattle.quick_trees.specs.Functions.{IsMovedUp, IsShiftedUp, IsTurnedBy}
use Rattle.quick_trees.proofs.Elements.{narrow_number}
use Rattle.quick_trees.proofs.Lists.{some_is, there_within}
use Rattle.quick_trees.proofs.Memories.{IsNoted, Keeps, keeps_all, keeps_below, keeps_both, keeps_less, keeps_word}
use Rattle.quick_trees.proofs.Memories.{noted_word, word_here}
use Rattle.quick_trees.proofs.Operators.{at_most_shifted, made_number}
use Rattle.quick_trees.proofs.Settings.{AreGiven}
use Rattle.quick_trees.proofs.Stepping.{Follows, has_put, stepped}
use Rattle.quick_trees.proofs.Truths.{truth_is_word}

-- A word has the value of an argument.
record IsArgument (m : Memory) (d : ℕ) (t : Kind) (x : ℕ) : Type 0 where
  held : IsHeld (datum_at t (look m x))
  low : x < d

module _ (m : Memory) (d : ℕ) where
  abbrev value : Kind → ℕ → Datum
  value t x = datum_at t (look m x)

  record HasOne (values : List Datum) (t : Kind) (x : ℕ) : Type 0 where
    is : values ≡ value t x ∷ []
    first : IsArgument m d t x

  record HaveTwo (values : List Datum) (t u : Kind) (x y : ℕ) : Type 0 where
    is : values ≡ value t x ∷ value u y ∷ []
    first : IsArgument m d t x
    second : IsArgument m d u y

  record HaveThree (values : List Datum) (t u v : Kind) (x y z : ℕ) : Type 0 where
    is : values ≡ value t x ∷ value u y ∷ value v z ∷ []
    first : IsArgument m d t x
    second : IsArgument m d u y
    third : IsArgument m d v z

  argument : (kinds : List Kind) (words : List ℕ) (values : List Datum) (i x : ℕ) (t : Kind)
      → AreGiven m d kinds words values → slice_get words i ≡ Some x → slice_get kinds i ≡ Some t → IsArgument m d t x
  argument kinds words values i x t given at type =
      record { held = given.held i x t at type; low = given.low i x at }

  one_of : (values : List Datum) (t : Kind) (x : ℕ) → AreGiven m d (t ∷ []) (x ∷ []) values → HasOne values t x
  one_of [] t x given = absurd (let long = given.words_long in omega arith)
  one_of (a ∷ []) t x given = record {
    is = ap (λ a. a ∷ []) (some_is (given.each 0 x t refl refl));
    first = argument (t ∷ []) (x ∷ []) (a ∷ []) 0 x t given refl refl;
  }
  one_of (a ∷ b ∷ rest) t x given = absurd (let long = given.words_long in omega arith)

  two_of : (values : List Datum) (t u : Kind) (x y : ℕ) → AreGiven m d (t ∷ u ∷ []) (x ∷ y ∷ []) values
      → HaveTwo values t u x y
  two_of [] t u x y given = absurd (let long = given.words_long in omega arith)
  two_of (a ∷ []) t u x y given = absurd (let long = given.words_long in omega arith)
  two_of (a ∷ b ∷ []) t u x y given = record {
    is = ap₂ (λ a b. a ∷ b ∷ []) (some_is (given.each 0 x t refl refl)) (some_is (given.each 1 y u refl refl));
    first = argument (t ∷ u ∷ []) (x ∷ y ∷ []) (a ∷ b ∷ []) 0 x t given refl refl;
    second = argument (t ∷ u ∷ []) (x ∷ y ∷ []) (a ∷ b ∷ []) 1 y u given refl refl;
  }
  two_of (a ∷ b ∷ c ∷ rest) t u x y given = absurd (let long = given.words_long in omega arith)

  three_of : (values : List Datum) (t u v : Kind) (x y z : ℕ)
      → AreGiven m d (t ∷ u ∷ v ∷ []) (x ∷ y ∷ z ∷ []) values → HaveThree values t u v x y z
  three_of [] t u v x y z given = absurd (let long = given.words_long in omega arith)
  three_of (a ∷ []) t u v x y z given = absurd (let long = given.words_long in omega arith)
  three_of (a ∷ b ∷ []) t u v x y z given = absurd (let long = given.words_long in omega arith)
  three_of (a ∷ b ∷ c ∷ []) t u v x y z given = record {
    is = ap₂ (λ a rest. a ∷ rest) (some_is (given.each 0 x t refl refl))
        (ap₂ (λ b c. b ∷ c ∷ []) (some_is (given.each 1 y u refl refl)) (some_is (given.each 2 z v refl refl)));
    first = argument (t ∷ u ∷ v ∷ []) (x ∷ y ∷ z ∷ []) (a ∷ b ∷ c ∷ []) 0 x t given refl refl;
    second = argument (t ∷ u ∷ v ∷ []) (x ∷ y ∷ z ∷ []) (a ∷ b ∷ c ∷ []) 1 y u given refl refl;
    third = argument (t ∷ u ∷ v ∷ []) (x ∷ y ∷ z ∷ []) (a ∷ b ∷ c ∷ []) 2 z v given refl refl;
  }
  three_of (a ∷ b ∷ c ∷ e ∷ rest) t u v x y z given = absurd (let long = given.words_long in omega arith)

  abbrev Given : List Kind → List ℕ → List Datum → Type 0
  Given kinds words values = AreGiven m d kinds words values

  has_one : (kinds : List Kind) (words : List ℕ) (values : List Datum) (t : Kind) (x : ℕ) → IsOne kinds words t x
      → Given kinds words values → HasOne values t x
  has_one kinds words values t x are given =
      one_of values t x
      (subst (λ k. Given k (x ∷ []) values) are.0 (subst (λ w. Given kinds w values) are.1 given))

  have_two : (kinds : List Kind) (words : List ℕ) (values : List Datum) (t u : Kind) (x y : ℕ)
      → AreTwo kinds words t u x y → Given kinds words values → HaveTwo values t u x y
  have_two kinds words values t u x y are given =
      two_of values t u x y
      (subst (λ k. Given k (x ∷ y ∷ []) values) are.0 (subst (λ w. Given kinds w values) are.1 given))

  have_three : (kinds : List Kind) (words : List ℕ) (values : List Datum) (t u v : Kind) (x y z : ℕ)
      → AreThree kinds words t u v x y z → Given kinds words values → HaveThree values t u v x y z
  have_three kinds words values t u v x y z are given =
      three_of values t u v x y z
      (subst (λ k. Given k (x ∷ y ∷ z ∷ []) values) are.0 (subst (λ w. Given kinds w values) are.1 given))

-- a word between two is that word
between_is : (low high w v : ℤ) (t : Bool) → (int_le low w && int_le w high) ≡ t
    → (if t then Some w else None) ≡ Some v → (w ≡ v) × ((int_le low w && int_le w high) ≡ true)
between_is low high w v true h e = (some_is e, h)
between_is low high w v false h e = absurd cc

-- a number is one of another type, if words of both are numbers
converted_is : (from to : Kind) (w : ℤ) → is_wide from ≡ false → is_wide to ≡ false → holds to w ≡ true
    → standard_value (CONVERT from to) (datum_at from w ∷ []) ≡ Ok (datum_at to w)
converted_is from to w narrow_from narrow_to held =
    ap (λ b. if b then failing (conversion to (number_at from w)) else Err ill_typed) (same_kind-refl from)
    ∙ ap (λ n. failing (conversion to n)) (narrow_number from w narrow_from)
    ∙ ap (λ b. failing (if b then Ok (record { kind = to; number = w }) else Err Conversion)) held
    ∙ ap (λ n. Ok (record { kind = to; number = n })) (sym (narrow_number to w narrow_to))

-- the value selected by the word of a comparison
pub by_word : (go : Bool) (y z : ℤ) → (if int_eq (bool_word go) (pos 0) then z else y) ≡ (if go then y else z)
by_word true y z = refl
by_word false y z = refl

abbrev pub chosen : Bool → ℤ → ℤ → ℤ
chosen go y z = if go then y else z

value_chosen : (t : Kind) (go : Bool) (y z : ℤ)
    → (if go then datum_at t y else datum_at t z) ≡ datum_at t (chosen go y z)
value_chosen t true y z = refl
value_chosen t false y z = refl

held_chosen : (t : Kind) (go : Bool) (y z : ℤ) → IsHeld (datum_at t y) → IsHeld (datum_at t z)
    → IsHeld (datum_at t (chosen go y z))
held_chosen t true y z g h = g
held_chosen t false y z g h = h

lesser_is : (t : Kind) (y z : ℤ) → lesser (datum_at t y) (datum_at t z) ≡ datum_at t (chosen (int_le y z) y z)
lesser_is t y z =
    ap (λ go. if go then datum_at t y else datum_at t z) (at_most_shifted y z (shift_of t))
    ∙ value_chosen t (int_le y z) y z

greater_is : (t : Kind) (y z : ℤ) → greater (datum_at t y) (datum_at t z) ≡ datum_at t (chosen (int_le z y) y z)
greater_is t y z =
    ap (λ go. if go then datum_at t y else datum_at t z) (at_most_shifted z y (shift_of t))
    ∙ value_chosen t (int_le z y) y z

truth_again : (go : Bool) → is_true (bool_datum go) ≡ go
truth_again true = refl
truth_again false = refl

value_selected : (t : Kind) (none : Bool) (y z : ℤ)
    → (if not none then datum_at t z else datum_at t y) ≡ datum_at t (chosen none y z)
value_selected t true y z = refl
value_selected t false y z = refl

-- the one of a number and its negation that is not below 0
without_sign : (w : ℤ) → chosen (int_le (pos 0) w) w (pos 0 -ℤ w) ≡ pos (unsigned_abs w)
without_sign (pos n) =
    let above : int_le (pos 0) (pos n) ≡ true = grind (arith, ints) in
    ap (λ go. chosen go (pos n) (pos 0 -ℤ pos n)) above
without_sign (negsuc n) = (let sum : 0 + suc n ≡ suc n = omega arith in ap pos sum)

ranged : (t : Kind) (z : ℤ) → holds t z ≡ true → in_range t z ≡ Ok (record { kind = t; number = z })
ranged t z held = ap (λ b. if b then Ok (record { kind = t; number = z }) else Err Range) held

module _ (f : Frame) (x : Left) (ns : List Noting) (marks : List Mark) where
  -- the word of a constant has its number, and is not a temporary
  constant_there : (t : Kind) (n : ℤ) (k : ℕ) (m : Memory) → IsNumberAt f t n k → IsNoted f ns marks m
      → number_at t (look m k) ≡ n
  constant_there t n k m is noted =
      ap (λ (v : Datum). v.number)
      (ap (λ k. datum_at t (look m k)) is.place
      ∙ noted.room.constants is.index (record { kind = t; number = n }) is.among)

  constant_low : (t : Kind) (n : ℤ) (k d : ℕ) → IsNumberAt f t n k → first_temporary f ≤ d → k < d
  constant_low t n k d is deep =
      let place = is.place in
      let lt = there_within f.constants is.index (record { kind = t; number = n }) is.among in
      omega arith

  constant_word : (t : Kind) (n : ℤ) (k : ℕ) (m : Memory) → is_wide t ≡ false → IsNumberAt f t n k
      → IsNoted f ns marks m → look m k ≡ n
  constant_word t n k m narrow is noted =
      sym (narrow_number t (look m k) narrow) ∙ constant_there t n k m is noted

  constant_held : (t : Kind) (n : ℤ) (k : ℕ) (m : Memory) → IsNumberAt f t n k → IsNoted f ns marks m
      → IsHeld (datum_at t (look m k))
  constant_held t n k m is noted =
      let v : Datum = record { kind = t; number = n } in
      subst IsHeld (sym (ap (λ k. datum_at t (look m k)) is.place ∙ noted.room.constants is.index v is.among))
      (noted.room.held is.index v is.among)

  -- A word was assigned that is a number of a type.
  pub record HasMovedWithin (t : Kind) (p to : ℕ) (w : ℤ) (m : Memory) (b : ℕ) : Type 0 where
    pub held : holds t w ≡ true
    pub ends : EndsWellAt f (suc p) (with_word m to w) b x

  pub moved_within : (t : Kind) (from to p : ℕ) (m : Memory) (b : ℕ) → IsMovedWithin f t from to p
      → IsNoted f ns marks m → EndsWellAt f p m b x → HasMovedWithin t p to (look m from) m b
  moved_within t from to p m b is noted runs =
      let low = constant_word t (least t) is.low m is.narrow is.is_low noted in
      let high = constant_word t (greatest t) is.high m is.narrow is.is_high noted in
      let w = look m from in
      let done = has_put f p x to (between (look m is.low) (look m is.high) w) m b
      (stepped f p x m b _ runs is.stands) in
      let same = between_is (look m is.low) (look m is.high) w done.word
      (int_le (look m is.low) w && int_le w (look m is.high)) refl done.is in record {
        held = ap₂ (λ l h. int_le l w && int_le w h) (sym low) (sym high) ∙ same.1;
        ends = subst (λ w. EndsWellAt f (suc p) (with_word m to w) b x) (sym same.0) done.ends;
      }

  -- One of two words was assigned.
  record HasChosen (d to : ℕ) (w : ℤ) (p q : Point) (m : Memory) (b : ℕ) : Type 0 where
    memory : Memory
    keeps : Keeps d m memory
    noted : IsNoted f ns marks memory
    told : q.noted ≡ p.noted
    ahead : q.ahead ≡ p.ahead
    ends : EndsWellAt f q.place (with_word memory to w) b x

  has_chosen : (l r y z d to : ℕ) (p q : Point) (m : Memory) (b : ℕ) → first_temporary f ≤ d → y < d → z < d
      → IsPicked f l r y z d to p q → IsNoted f ns marks m → EndsWellAt f p.place m b x
      → HasChosen d to (chosen (int_le (look m l) (look m r)) (look m y) (look m z)) p q m b
  has_chosen l r y z d to p q m b deep y_low z_low is noted runs =
      let go = int_le (look m l) (look m r) in
      let one = stepped f p.place x m b _ runs is.compared in
      let m' = with_word m d (bool_word go) in
      let keeps = keeps_below d m d (bool_word go) (omega arith) in
      let there = is.there in
      let long = noted.room.words in
      let here = word_here m d (bool_word go) (omega arith) in
      let two = stepped f (suc p.place) x m' b _ one is.chosen in
      let word : (if int_eq (look m' d) (pos 0) then look m' z else look m' y) ≡ chosen go (look m y) (look m z) =
      ap (λ w. if int_eq w (pos 0) then look m' z else look m' y) here
      ∙ by_word go (look m' y) (look m' z)
      ∙ ap₂ (chosen go) (keeps_word d m m' y keeps y_low) (keeps_word d m m' z keeps z_low) in
      subst (λ q. HasChosen d to (chosen go (look m y) (look m z)) p q m b) (sym is.is) (record {
        memory = m';
        keeps = keeps;
        noted = noted_word f ns marks m noted d (bool_word go) (inr deep);
        told = refl;
        ahead = refl;
        ends = subst (λ w. EndsWellAt f (suc (suc p.place)) (with_word m' to w) b x) word two;
      })

  -- The value of a standard function was assigned to a word.
  pub record HasValue (g : Standard) (values : List Datum) (t : Kind) (d to : ℕ) (p q : Point) (m : Memory) (b : ℕ) :
      Type 0
    where
      pub memory : Memory
      pub word : ℤ
      pub value : standard_value g values ≡ Ok (datum_at t word)
      pub held : IsHeld (datum_at t word)
      pub keeps : Keeps d m memory
      pub noted : IsNoted f ns marks memory
      pub told : q.noted ≡ p.noted
      pub ahead : q.ahead ≡ p.ahead
      pub ends : EndsWellAt f q.place (with_word memory to word) b x

  -- how the code of a function computes it
  module _ (kinds : List Kind) (words : List ℕ) (values : List Datum) (t : Kind) (d to : ℕ) (p q : Point) (m : Memory)
      (b : ℕ) (given : AreGiven m d kinds words values) (deep : first_temporary f ≤ d) (noted : IsNoted f ns marks m)
      (runs : EndsWellAt f p.place m b x) where
    has_converted : (from into : Kind) → IsConverted f from into kinds words t to p q
        → HasValue (CONVERT from into) values t d to p q m b
    has_converted from into is =
        let one = has_one m d kinds words values from is.word is.argument given in
        let w = look m is.word in
        let moved = moved_within t is.word to p.place m b is.moves noted runs in
        subst (λ q. HasValue (CONVERT from into) values t d to p q m b) (sym is.is) (record {
          memory = m;
          word = w;
          value = ap (standard_value (CONVERT from into)) one.is
              ∙ ap (λ u. standard_value (CONVERT from u) (datum_at from w ∷ [])) is.result
              ∙ converted_is from t w is.narrow is.moves.narrow moved.held;
          held = ap (holds t) (narrow_number t w is.moves.narrow) ∙ moved.held;
          keeps = keeps_all d m;
          noted = noted;
          told = refl;
          ahead = refl;
          ends = moved.ends;
        })

    has_shifted : IsShifted f kinds words t to p q → HasValue SHR values t d to p q m b
    has_shifted is =
        let two = have_two m d kinds words values t is.kind is.word is.count is.arguments given in
        let w = look m is.word in
        let count = constant_there is.kind (pos is.places) is.count m is.is_count noted in
        let bits = bits_of t (ShiftRight is.word is.places to) is.stands.instr is.stands.is in
        let step = stepped f p.place x m b is.stands.instr runs is.stands.at in
        let done = has_put f p.place x to (shifted_down is.places w) m b
        (subst (λ i. Follows f p.place x (act f.ways f.now i m b)) bits.instr step) in
        let moved = shifted_by bits.bits t w is.places done.word bits.are two.first.held is.few done.is in
        subst (λ q. HasValue SHR values t d to p q m b) (sym is.is) (record {
          memory = m;
          word = done.word;
          value = ap (standard_value SHR) two.is
              ∙ ap (λ n. failing (shifted bits_down (datum_at t w) n)) count
              ∙ ap failing moved.0;
          held = moved.1;
          keeps = keeps_all d m;
          noted = noted;
          told = refl;
          ahead = refl;
          ends = done.ends;
        })

    -- bits were moved up
    record HasMovedUp (word places e out : ℕ) (p' q' : Point) : Type 0 where
      memory : Memory
      keeps : Keeps e m memory
      is_noted : IsNoted f ns marks memory
      told : q'.noted ≡ p'.noted
      ahead : q'.ahead ≡ p'.ahead
      ends : EndsWellAt f q'.place (with_word memory out
          (pos ((natural (look m word) % 2 ^ ((row_of t).bits - places)) * 2 ^ places))) b x

    moved_up_to : (word places e out : ℕ) (q' : Point) → first_temporary f ≤ e → IsHeld (datum_at t (look m word))
        → IsMovedUp f t word places e out p q' → HasMovedUp word places e out p q'
    moved_up_to word places e out q' far held is =
        let bits = bits_of t (And word is.mask e) is.masked.instr is.masked.is in
        let w = look m word in
        let mask = constant_there t (pos (2 ^ ((row_of t).bits - places) - 1)) is.mask m is.is_mask noted in
        let power = constant_word t (pos (2 ^ places)) is.power m bits.are.narrow is.is_power noted in
        let mask_held = constant_held t (pos (2 ^ ((row_of t).bits - places) - 1)) is.mask m is.is_mask noted in
        let v = int_bit_and w64 w (look m is.mask) in
        let low = natural w % 2 ^ ((row_of t).bits - places) in
        let is_v : v ≡ pos low = has_masked bits.bits t w (look m is.mask) ((row_of t).bits - places) bits.are held
        mask_held mask in
        let one : EndsWellAt f (suc p.place) (with_word m e v) b x =
        subst (λ i. Follows f p.place x (act f.ways f.now i m b)) bits.instr
        (stepped f p.place x m b is.masked.instr runs is.masked.at) in
        let m' = with_word m e v in
        let there = is.there in
        let long = noted.room.words in
        let here = word_here m e v (omega arith) in
        let keeps = keeps_below e m e v (omega arith) in
        let power_low = constant_low t (pos (2 ^ places)) is.power e is.is_power far in
        let factor : look m' is.power ≡ pos (2 ^ places) = keeps_word e m m' is.power keeps power_low ∙ power in
        let done = has_put f (suc p.place) x out (operator_result op.Multiply signed.Lint (look m' e) (look m' is.power)) m' b
        (stepped f (suc p.place) x m' b _ one is.moved) in
        let word_is : done.word ≡ pos (low * 2 ^ places) =
        sym (made_number (look m' e *ℤ look m' is.power) done.word done.is)
        ∙ ap₂ (λ y z. y *ℤ z) (here ∙ is_v) factor in
        subst (λ q'. HasMovedUp word places e out p q') (sym is.is) (record {
          memory = m';
          keeps = keeps;
          is_noted = noted_word f ns marks m noted e v (inr far);
          told = refl;
          ahead = refl;
          ends = subst (λ z. EndsWellAt f (suc (suc p.place)) (with_word m' out z) b x) word_is done.ends;
        })

    has_shifted_up : IsShiftedUp f kinds words t d to p q → HasValue SHL values t d to p q m b
    has_shifted_up is =
        let two = have_two m d kinds words values t is.kind is.word is.count is.arguments given in
        let w = look m is.word in
        let count = constant_there is.kind (pos is.places) is.count m is.is_count noted in
        let bits = bits_of t (And is.word is.moves.mask d) is.moves.masked.instr is.moves.masked.is in
        let done = moved_up_to is.word is.places d to q deep two.first.held is.moves in
        let a = natural w in
        let number : number_at t w ≡ pos a =
        narrow_number t w bits.are.narrow ∙ number_word bits.bits t w bits.are two.first.held in
        let moved = up_in_type bits.bits t a is.places bits.are is.few in record {
          memory = done.memory;
          word = pos ((a % 2 ^ ((row_of t).bits - is.places)) * 2 ^ is.places);
          value = ap (standard_value SHL) two.is
              ∙ ap (λ n. failing (shifted bits_up (datum_at t w) n)) count
              ∙ ap (λ z. failing (in_range t (pos (bits_up (row_of t).bits (natural z) is.places)))) number
              ∙ ap failing moved.0;
          held = moved.1;
          keeps = done.keeps;
          noted = done.is_noted;
          told = done.told;
          ahead = done.ahead;
          ends = done.ends;
        }

    -- bits were rotated
    turned_by : (g : Standard) (move : ℕ → ℕ → ℕ → ℕ) (constant up : ℕ)
        → ((v u : Datum) → standard_value g (v ∷ u ∷ []) ≡ failing (shifted move v u.number)) → 0 < up
        → up < (row_of t).bits
        → ((a : ℕ) → move (row_of t).bits a constant ≡ bits_turned (row_of t).bits a up)
        → IsTurnedBy f kinds words t constant up d to p q → HasValue g values t d to p q m b
    turned_by g move constant up means some few moves is =
        let two = have_two m d kinds words values t is.kind is.word is.count is.arguments given in
        let w = look m is.word in
        let a = natural w in
        let width = (row_of t).bits in
        let count = constant_there is.kind (pos constant) is.count m is.is_count noted in
        let bits = bits_of t (And is.word is.moves.mask d) is.moves.masked.instr is.moves.masked.is in
        let one = moved_up_to is.word up d d is.last deep two.first.held is.moves in
        let high = (a % 2 ^ (width - up)) * 2 ^ up in
        let low = a / 2 ^ (width - up) in
        let m1 = with_word one.memory d (pos high) in
        let noted1 = noted_word f ns marks one.memory one.is_noted d (pos high) (inr deep) in
        let there = is.there in
        let long = one.is_noted.room.words in
        let here : look m1 d ≡ pos high = word_here one.memory d (pos high) (omega arith) in
        let keeps1 = keeps_both d d m one.memory m1 (omega arith) one.keeps
        (keeps_below d one.memory d (pos high) (omega arith)) in
        let same : look m1 is.word ≡ pos a =
        keeps_word d m m1 is.word keeps1 two.first.low ∙ number_word bits.bits t w bits.are two.first.held in
        let down = has_put f is.last.place x (suc d) (shifted_down (width - up) (look m1 is.word)) m1 b
        (stepped f is.last.place x m1 b _ one.ends is.below) in
        let is_low : pos low ≡ down.word = down_number (width - up) a down.word
        (ap (shifted_down (width - up)) (sym same) ∙ down.is) in
        let m2 = with_word m1 (suc d) down.word in
        let noted2 = noted_word f ns marks m1 noted1 (suc d) down.word (inr (let deep = deep in omega arith)) in
        let long1 = noted1.room.words in
        let second : look m2 (suc d) ≡ down.word = word_here m1 (suc d) down.word (omega arith) in
        let first : look m2 d ≡ pos high = keeps_word (suc d) m1 m2 d
        (keeps_below (suc d) m1 (suc d) down.word (omega arith)) (omega arith) ∙ here in
        let sum = has_put f (suc is.last.place) x d (operator_result op.Add signed.Lint (look m2 d) (look m2 (suc d))) m2 b
        (stepped f (suc is.last.place) x m2 b _ down.ends is.sum) in
        let v = pos (high + low) in
        let is_v : sum.word ≡ v =
        sym (made_number (look m2 d +ℤ look m2 (suc d)) sum.word sum.is)
        ∙ ap₂ (λ y z. y +ℤ z) first (second ∙ sym is_low) in
        let m3 = with_word m2 d v in
        let ends3 = subst (λ z. EndsWellAt f (suc (suc is.last.place)) (with_word m2 d z) b x) is_v sum.ends in
        let noted3 = noted_word f ns marks m2 noted2 d v (inr deep) in
        let long2 = noted2.room.words in
        let third : look m3 d ≡ v = word_here m2 d v (omega arith) in
        let moved = moved_within t d to (suc (suc is.last.place)) m3 b is.within noted3 ends3 in
        let held : holds t v ≡ true = ap (holds t) (sym third) ∙ moved.held in
        let narrow = bits.are.narrow in
        let number : number_at t w ≡ pos a =
        narrow_number t w narrow ∙ number_word bits.bits t w bits.are two.first.held in
        subst (λ q. HasValue g values t d to p q m b) (sym is.is) (record {
          memory = m3;
          word = v;
          value = ap (standard_value g) two.is
              ∙ means (datum_at t w) (datum_at is.kind (look m is.count))
              ∙ ap (λ n. failing (shifted move (datum_at t w) n)) count
              ∙ ap (λ z. failing (in_range t (pos (move width (natural z) constant)))) number
              ∙ ap (λ c. failing (in_range t (pos c))) (moves a ∙ turned_up width a up some few)
              ∙ ap failing (ranged t v held)
              ∙ ap (λ z. Ok (record { kind = t; number = z })) (sym (narrow_number t v narrow));
          held = ap (holds t) (narrow_number t v narrow) ∙ held;
          keeps = keeps_both d d m m1 m3 (omega arith) keeps1
              (keeps_both d d m1 m2 m3 (omega arith)
              (keeps_less d (suc d) m1 m2 (omega arith) (keeps_below (suc d) m1 (suc d) down.word (omega arith)))
              (keeps_below d m2 d v (omega arith)));
          noted = noted3;
          told = one.told;
          ahead = one.ahead;
          ends = subst (λ z. EndsWellAt f (suc (suc (suc is.last.place))) (with_word m3 to z) b x) third moved.ends;
        })

    has_lesser : IsLesser f kinds words t d to p q → HasValue MIN values t d to p q m b
    has_lesser is =
        let two = have_two m d kinds words values t t is.left is.right is.arguments given in
        let y = look m is.left in
        let z = look m is.right in
        let done = has_chosen is.left is.right is.left is.right d to p q m b deep two.first.low two.second.low is.chosen
        noted runs in record {
          memory = done.memory;
          word = chosen (int_le y z) y z;
          value = ap (standard_value MIN) two.is ∙ ap Ok (lesser_is t y z);
          held = held_chosen t (int_le y z) y z two.first.held two.second.held;
          keeps = done.keeps;
          noted = done.noted;
          told = done.told;
          ahead = done.ahead;
          ends = done.ends;
        }

    has_greater : IsGreater f kinds words t d to p q → HasValue MAX values t d to p q m b
    has_greater is =
        let two = have_two m d kinds words values t t is.left is.right is.arguments given in
        let y = look m is.left in
        let z = look m is.right in
        let done = has_chosen is.right is.left is.left is.right d to p q m b deep two.first.low two.second.low is.chosen
        noted runs in record {
          memory = done.memory;
          word = chosen (int_le z y) y z;
          value = ap (standard_value MAX) two.is ∙ ap Ok (greater_is t y z);
          held = held_chosen t (int_le z y) y z two.first.held two.second.held;
          keeps = done.keeps;
          noted = done.noted;
          told = done.told;
          ahead = done.ahead;
          ends = done.ends;
        }

    has_selected : IsSelected f kinds words t to p q → HasValue SEL values t d to p q m b
    has_selected is =
        let all = have_three m d kinds words values Boolean t t is.truth is.left is.right is.arguments given in
        let y = look m is.left in
        let z = look m is.right in
        let w = look m is.truth in
        let none = int_eq w (pos 0) in
        let done = stepped f p.place x m b _ runs is.stands in
        subst (λ q. HasValue SEL values t d to p q m b) (sym is.is) (record {
          memory = m;
          word = chosen none y z;
          value = ap (standard_value SEL) all.is
              ∙ ap (λ g. Ok (if is_true g then datum_at t z else datum_at t y)) (truth_is_word w all.first.held)
              ∙ ap (λ go. Ok (if go then datum_at t z else datum_at t y)) (truth_again (not none))
              ∙ ap Ok (value_selected t none y z);
          held = held_chosen t none y z all.second.held all.third.held;
          keeps = keeps_all d m;
          noted = noted;
          told = refl;
          ahead = refl;
          ends = done;
        })

    has_limited : IsLimited f kinds words t d to p q → HasValue LIMIT values t d to p q m b
    has_limited is =
        let all = have_three m d kinds words values t t t is.lower is.word is.upper is.arguments given in
        let l = look m is.lower in
        let y = look m is.word in
        let u = look m is.upper in
        let low = chosen (int_le l y) y l in
        let r = is.chosen.middle in
        let one = has_chosen is.lower is.word is.word is.lower d d p r m b deep all.second.low all.first.low
        is.chosen.first noted runs in
        let m' = with_word one.memory d low in
        let there = is.chosen.first.there in
        let long = one.noted.room.words in
        let here = word_here one.memory d low (omega arith) in
        let below = keeps_below d one.memory d low (omega arith) in
        let keeps = keeps_both d d m one.memory m' (omega arith) one.keeps below in
        let up : look m' is.upper ≡ u = keeps_word d m m' is.upper keeps all.third.low in
        let third_low = all.third.low in
        let two = has_chosen d is.upper d is.upper (suc d) to r q m' b (omega arith) (omega arith) (omega arith)
        is.chosen.second (noted_word f ns marks one.memory one.noted d low (inr deep)) one.ends in
        let word : chosen (int_le (look m' d) (look m' is.upper)) (look m' d) (look m' is.upper)
        ≡ chosen (int_le low u) low u =
        ap₂ (λ a c. chosen (int_le a c) a c) here up in record {
          memory = two.memory;
          word = chosen (int_le low u) low u;
          value = ap (standard_value LIMIT) all.is
              ∙ ap (λ v. Ok (lesser v (datum_at t u))) (greater_is t y l)
              ∙ ap Ok (lesser_is t low u);
          held = held_chosen t (int_le low u) low u
              (held_chosen t (int_le l y) y l all.second.held all.first.held) all.third.held;
          keeps = keeps_both d (suc d) m m' two.memory (omega arith) keeps two.keeps;
          noted = two.noted;
          told = two.told ∙ one.told;
          ahead = two.ahead ∙ one.ahead;
          ends = subst (λ w. EndsWellAt f q.place (with_word two.memory to w) b x) word two.ends;
        }

    has_no_sign : IsWithoutSign f kinds words t d to p q → HasValue ABS values t d to p q m b
    has_no_sign is =
        let one = has_one m d kinds words values t is.word is.argument given in
        let w = look m is.word in
        let narrow = is.moves.narrow in
        let none : look m is.nought ≡ pos 0 = constant_word t (pos 0) is.nought m narrow is.is_nought noted in
        let nought_low = constant_low t (pos 0) is.nought d is.is_nought deep in
        let done = has_put f p.place x d (operator_result op.Subtract signed.Lint (look m is.nought) w) m b
        (stepped f p.place x m b _ runs is.stands) in
        let turned : pos 0 -ℤ w ≡ done.word =
        ap (λ z. z -ℤ w) (sym none) ∙ made_number (look m is.nought -ℤ w) done.word done.is in
        let m' = with_word m d done.word in
        let there = is.there in
        let long = noted.room.words in
        let here = word_here m d done.word (omega arith) in
        let keeps = keeps_below d m d done.word (omega arith) in
        let low = one.first.low in
        let again : look m' is.word ≡ w = keeps_word d m m' is.word keeps low in
        let still : look m' is.nought ≡ pos 0 = keeps_word d m m' is.nought keeps nought_low ∙ none in
        let noted' = noted_word f ns marks m noted d done.word (inr deep) in
        let two = has_chosen is.nought is.word is.word d (suc d) d (next p) is.last m' b (omega arith) (omega arith)
        (omega arith) is.chosen noted' done.ends in
        let word : chosen (int_le (look m' is.nought) (look m' is.word)) (look m' is.word) (look m' d)
        ≡ pos (unsigned_abs w) =
        ap₂ (λ n y. chosen (int_le n y) y (look m' d)) still again
        ∙ ap (chosen (int_le (pos 0) w) w) (here ∙ sym turned)
        ∙ without_sign w in
        let v = pos (unsigned_abs w) in
        let n = with_word two.memory d v in
        let two_long = two.noted.room.words in
        let kept = keeps_below d two.memory d v (omega arith) in
        let is_v = word_here two.memory d v (omega arith) in
        let ends = subst (λ w. EndsWellAt f is.last.place (with_word two.memory d w) b x) word two.ends in
        let moved = moved_within t d to is.last.place n b is.moves
        (noted_word f ns marks two.memory two.noted d v (inr deep)) ends in
        let held : holds t v ≡ true = ap (holds t) (sym is_v) ∙ moved.held in
        subst (λ q. HasValue ABS values t d to p q m b) (sym is.is) (record {
          memory = n;
          word = v;
          value = ap (standard_value ABS) one.is
              ∙ ap (λ z. failing (in_range t (pos (unsigned_abs z)))) (narrow_number t w narrow)
              ∙ ap failing (ranged t v held)
              ∙ ap (λ z. Ok (record { kind = t; number = z })) (sym (narrow_number t v narrow));
          held = ap (holds t) (narrow_number t v narrow) ∙ held;
          keeps = keeps_both d d m m' n (omega arith) keeps
              (keeps_both d d m' two.memory n (omega arith)
              (keeps_less d (suc d) m' two.memory (omega arith) two.keeps) kept);
          noted = noted_word f ns marks two.memory two.noted d v (inr deep);
          told = two.told;
          ahead = two.ahead;
          ends = subst (λ w. EndsWellAt f (suc is.last.place) (with_word n to w) b x) is_v moved.ends;
        })

    pub has_value : (g : Standard) → IsFunctionOf f g kinds words t d to p q → HasValue g values t d to p q m b
    has_value (CONVERT from into) is = has_converted from into is
    has_value SHR is = has_shifted is
    has_value MIN is = has_lesser is
    has_value MAX is = has_greater is
    has_value LIMIT is = has_limited is
    has_value SEL is = has_selected is
    has_value ABS is = has_no_sign is
    has_value SHL is = has_shifted_up is
    has_value ROL (n, is) = turned_by ROL bits_turned n n (λ v u. refl) is.some is.few (λ a. refl) is
    has_value ROR (n, is) =
        let width = (row_of t).bits in
        let some = is.some in
        let few = is.few in
        turned_by ROR turned_down n (width - n) (λ v u. refl) (omega arith) (omega arith)
        (λ a. ap (λ n. bits_turned width a (width - n)) (mod-eq_of_lt few)) is
