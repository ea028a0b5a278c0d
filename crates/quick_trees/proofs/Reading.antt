-- Code that reads an expression gives the value that the expression has.
use Rattle.std.proofs.Common.{◌≡◌, ℕ, zero, suc, ◌<◌, ◌≤◌, ℤ, true, List, [], ◌∷◌, length, Some, None, Ok, Err, refl}
use Rattle.std.proofs.Common.{sym, ap, ap₂, subst, ◌∙◌, arith, ◌+◌, ◌*◌, inl, inr, ◌+ℤ◌, ◌-ℤ◌, pos, false}
use Rattle.std.specs.Prelude.{◌⊎◌, if◌then◌else◌, slice_get}
use Rattle.st_types.specs.declared.fault.Fault.TheVariants.{Conversion, Index}
use Rattle.st_types.specs.declared.kind.Kind.{Kind}
use Rattle.st_types.specs.declared.literal.Literal.{Literal}
use Rattle.st_types.specs.declared.operator.BinaryOperator.{BinaryOperator}
use Rattle.st_types.specs.declared.operator.BinaryOperator.TheVariants.{Add, And, Divide, Equal, Greater}
use Rattle.st_types.specs.declared.operator.BinaryOperator.TheVariants.{GreaterOrEqual, Less, LessOrEqual, Modulo}
use Rattle.st_types.specs.declared.operator.BinaryOperator.TheVariants.{Multiply, NotEqual, Or, Subtract, Xor}
use Rattle.st_types.proofs.KindLemmas.{same_kind-refl}
use Rattle.st_types.specs.Kinds.{holds, greatest}
use Rattle.st_types.specs.Values.{Datum, IsHeld, bool_datum}
use Rattle.st_types.specs.Words.{datum_at, number_at, is_wide}
use Rattle.st_meaning.specs.Failures.{StuckFaults, failing, ill_typed, or_failure, valueless}
use Rattle.st_meaning.specs.Evaluation.{known}
use Rattle.st_meaning.specs.Operators.{applied, apply, apply_unary}
use Rattle.st_meaning.specs.StandardFunctions.{ABS, CONVERT, LIMIT, MAX, MIN, ROL, ROR, SEL, SHL, SHR, conversion}
use Rattle.st_meaning.specs.StandardFunctions.{standard_value}
use Rattle.st_meaning.specs.Ticks.{attempt, fault, follow, give}
use Rattle.layout.specs.Shapes.{distance, in_bounds}
use Rattle.machine_code.specs.Tracking.{Tracked, looked}
use Rattle.quick_code.specs.QuickSteps.{Memory, offset_by, look, note, noted_read, nested_place, with_word}
use Rattle.quick_code.specs.declared.quick_instr.QuickInstr.{QuickInstr}
use Rattle.quick_code.specs.declared.quick_instr.QuickInstr.TheVariants.{LoadNested, Locate, LocateNested}
use Rattle.quick_code.specs.Words.{element_place, bool_word}
use Rattle.std.proofs.Math.IntN.{+ℤ_idr}
use Rattle.std.proofs.Math.Nat.{add_assoc}
use Rattle.std.proofs.lemmas.Int.{ints}
use Rattle.slot_trees.specs.SlotTrees.{Anchor, SlotExpr, SlotExprs, binary, call, compute, constant, expr_then, load}
use Rattle.slot_trees.specs.SlotTrees.{Subscripts, no_exprs, no_subscripts, place, subscript_then, unary}
use Rattle.slot_trees.specs.SlotEvaluation.{slot_at}
use Rattle.machine_code.specs.MarkedEvaluation.{MarkedScope, marked_led, marked_load, marked_value, marked_values}
use Rattle.quick_trees.specs.Points.{CodeRelation, Point, next}
use Rattle.quick_trees.specs.QuickMemory.{EndsWellAt, Frame}
use Rattle.quick_trees.specs.UnitValues.{HasOwnWord, base_of}
use Rattle.quick_trees.specs.UnitValues.{IsExact}
use Rattle.quick_trees.specs.Pieces.{AreRead, IsComputed, IsComputedBy, IsFetched, IsNumber, IsTemporary, InSequence}
use Rattle.quick_trees.specs.Pieces.{IsIndexed, IsLed, IsComparisonValue, IsWider, IsWithin, IsOffset, IsNegated, IsNumberAt}
use Rattle.quick_trees.specs.Pieces.{HasNumbers, IsSubscript, IsTurned, TurnsBits}
use Rattle.quick_trees.specs.TreeCode.{AreArguments, IsCall, IsLedOn, IsRead, IsReadApart, IsReadWithout}
use Rattle.quick_trees.proofs.Lists.{some_is, there_within}
use Rattle.quick_trees.proofs.Stepping.{stepped}
use Rattle.quick_trees.proofs.Memories.{Holds, IsSite, Keeps, deeper, holds_kept, holds_loaded, holds_looked}
use Rattle.quick_trees.proofs.Memories.{holds_temporary, keeps_all, keeps_below, keeps_both, keeps_less, keeps_word}
use Rattle.quick_trees.proofs.Memories.{marks_of, own_value, with_look, word_here}
use Rattle.quick_trees.proofs.Elements.{IsElement, LeadsTo, element_is, has_loaded, has_located, is_behind}
use Rattle.quick_trees.proofs.Elements.{narrow_number, of_load, place_is}
use Rattle.st_types.specs.declared.operator.UnaryOperator.{UnaryOperator}
use Rattle.st_types.specs.declared.operator.UnaryOperator.TheVariants.{Negate, Not}
use Rattle.quick_trees.proofs.Operators.{HasApplied, has_negated, has_turned, has_turned_by, has_computed}
use Rattle.quick_trees.proofs.Operators.{has_computed_by, has_truth}
use Rattle.quick_trees.proofs.Truths.{then_gives, truth_held, truth_word}
use Rattle.quick_trees.proofs.Settings.{AreGiven, Setting, scope_of}
use Rattle.quick_trees.specs.Functions.{IsComputedByWithin, IsComputedWithin, IsEvaluated}
use Rattle.quick_trees.proofs.Computing.{has_value, moved_within}
use Rattle.quick_trees.proofs.Operators.{difference_makes, has_made_of, has_made_of_by, IsMadeOf, sum_makes}
use Rattle.quick_trees.proofs.Memories.{IsNoted}
use Rattle.st_meaning.specs.StandardFunctions.{Standard}
use Rattle.st_types.specs.declared.kind.Kind.TheVariants.{Bool as Boolean}

-- the value of a slot is loaded, which is marked
load_gives : (t : StuckFaults) (tr : Tracked) (k : ℕ) (v : Datum) (n : ℕ) → slice_get tr.values k ≡ Some v → IsHeld v
    → marked_load t tr k n ≡ Ok ((v, with_look tr k), n)
load_gives t tr k v n at held =
    ap (λ o. follow (attempt t (or_failure valueless (looked tr k o)) n)
    (λ r. λ b. follow (attempt t (or_failure valueless (known (Some r.0))) b) (λ v. give (v, r.1)))) at
    ∙ ap (λ h. follow (attempt t (or_failure valueless (if h then Some v else None)) n) (λ v. give (v, with_look tr k)))
    held

module _ (s : Setting) where
  abbrev f : Frame
  f = s.frame

  abbrev z : MarkedScope
  z = scope_of s

  abbrev pub AreHeld : Point → Memory → Tracked → Type 0
  AreHeld p m t = Holds s.frame s.site s.around p.noted m t

  abbrev pub Is : SlotExpr → Kind → ℕ → ℕ → CodeRelation
  Is e t d k = IsRead s.frame s.site s.units e t d k

  -- An expression was read: a word has its value now.
  pub record HasRead (e : SlotExpr) (t : Kind) (d k : ℕ) (p q : Point) (m : Memory) (tr : Tracked) (b : ℕ) : Type 0
    where
      pub memory : Memory
      pub tracked : Tracked
      pub left : ℕ
      pub gives : marked_value z tr e (b + p.ahead) ≡ Ok ((datum_at t (look memory k), tracked), left + q.ahead)
      pub fewer : left + q.ahead ≤ b + p.ahead
      pub keeps : Keeps d m memory
      pub is : AreHeld q memory tracked
      pub held : IsHeld (datum_at t (look memory k))
      pub low : k < suc d
      pub ends : EndsWellAt f q.place memory left s.finish

  -- how code does something that begins at a point
  abbrev pub From : ℕ → Point → (Memory → Tracked → ℕ → Type 0) → Type 0
  From d p Then =
      (m : Memory) (tr : Tracked) (b : ℕ) → IsSite s.frame s.site d → AreHeld p m tr → EndsWellAt f p.place m b s.finish
      → Then m tr b

  -- how code reads an expression
  abbrev pub Reads : SlotExpr → Kind → ℕ → Type 0
  Reads e t d = (k : ℕ) (p q : Point) → Is e t d k p q → From d p (HasRead e t d k p q)

  -- Two expressions were read.
  pub record HaveRead (l r : SlotExpr) (t u : Kind) (d i j : ℕ) (p q : Point) (m : Memory) (tr : Tracked) (b : ℕ) :
      Type 0
    where
      pub memory : Memory
      pub between : Tracked
      pub then_left : ℕ
      pub tracked : Tracked
      pub left : ℕ
      pub first : marked_value z tr l (b + p.ahead) ≡ Ok ((datum_at t (look memory i), between), then_left)
      pub second : marked_value z between r then_left ≡ Ok ((datum_at u (look memory j), tracked), left + q.ahead)
      pub fewer : left + q.ahead ≤ b + p.ahead
      pub keeps : Keeps d m memory
      pub is : AreHeld q memory tracked
      pub held_first : IsHeld (datum_at t (look memory i))
      pub held_second : IsHeld (datum_at u (look memory j))
      pub ends : EndsWellAt f q.place memory left s.finish

  pub read_both : (l r : SlotExpr) (t : Kind) (d i j : ℕ) (p q : Point) → Reads l t d → Reads r t (suc d)
      → AreRead (Is l t d) (Is r t (suc d)) i j p q → From d p (HaveRead l r t t d i j p q)
  read_both l r t d i j p q reads_l reads_r are m tr b site is runs =
      let one = reads_l i p are.middle are.first m tr b site is runs in
      let two = reads_r j are.middle q are.second one.memory one.tracked one.left
      (deeper s.frame s.site d (suc d) (omega arith) site) one.is one.ends in
      let same = keeps_word (suc d) one.memory two.memory i two.keeps one.low in
      let few_one = one.fewer in
      let few_two = two.fewer in record {
        memory = two.memory;
        between = one.tracked;
        then_left = one.left + are.middle.ahead;
        tracked = two.tracked;
        left = two.left;
        first = one.gives ∙ ap (λ w. Ok ((datum_at t w, one.tracked), one.left + are.middle.ahead)) (sym same);
        second = two.gives;
        fewer = omega arith;
        keeps = keeps_both d (suc d) m one.memory two.memory (omega arith) one.keeps two.keeps;
        is = two.is;
        held_first = subst (λ w. IsHeld (datum_at t w)) (sym same) one.held;
        held_second = two.held;
        ends = two.ends;
      }

  -- the result of an operator on two values of a type
  pub applied_to : (op : BinaryOperator) (l r : SlotExpr) (t : Kind) (v w : ℤ) (tr tr' tr'' : Tracked) (a b c : ℕ)
      (y : Datum) → marked_value z tr l a ≡ Ok ((datum_at t v, tr'), b)
      → marked_value z tr' r b ≡ Ok ((datum_at t w, tr''), c) → applied op t (number_at t v) (number_at t w) ≡ Ok y
      → marked_value z tr (binary op l r) a ≡ Ok ((y, tr''), c)
  applied_to op l r t v w tr tr' tr'' a b c y first second gives =
      then_gives (marked_value z tr l a) (datum_at t v, tr') b
      (λ u. λ n. follow (marked_value z u.1 r n)
      (λ i. λ n. follow (attempt s.stuck_faults (apply op u.0 i.0) n) (λ v. give (v, i.1)))) first
      ∙ then_gives (marked_value z tr' r b) (datum_at t w, tr'') c
      (λ i. λ n. follow (attempt s.stuck_faults (apply op (datum_at t v) i.0) n) (λ v. give (v, i.1))) second
      ∙ ap (λ h. follow (attempt s.stuck_faults
      (if h then failing (applied op t (number_at t v) (number_at t w)) else Err ill_typed) c) (λ v. give (v, tr'')))
      (same_kind-refl t)
      ∙ ap (λ o. follow (attempt s.stuck_faults (failing o) c) (λ v. give (v, tr''))) gives

  -- The value of an expression was assigned to a word.
  pub record HasMade (e : SlotExpr) (t : Kind) (d to : ℕ) (p q : Point) (m : Memory) (tr : Tracked) (b : ℕ) : Type 0
    where
      pub memory : Memory
      pub tracked : Tracked
      pub left : ℕ
      pub word : ℤ
      pub gives : marked_value z tr e (b + p.ahead) ≡ Ok ((datum_at t word, tracked), left + q.ahead)
      pub fewer : left + q.ahead ≤ b + p.ahead
      pub keeps : Keeps d m memory
      pub is : AreHeld q memory tracked
      pub held : IsHeld (datum_at t word)
      pub ends : EndsWellAt f q.place (with_word memory to word) left s.finish

  made_by : (op : BinaryOperator) (l r : SlotExpr) (t : Kind) (d to : ℕ) (p q : Point) → Reads l t d
      → Reads r t (suc d) → IsComputed f (Is l t d) (Is r t (suc d)) op t to p q
      → From d p (HasMade (binary op l r) t d to p q)
  made_by op l r t d to p q reads_l reads_r is m tr b site of runs =
      let both = read_both l r t d is.left is.right p is.last reads_l reads_r is.reads m tr b site of runs in
      let step = stepped f is.last.place s.finish both.memory both.left is.stands.instr both.ends is.stands.at in
      let done = has_computed f is.last.place s.finish both.memory both.left op t is.left is.right to is.stands.instr
      is.stands.is both.held_first both.held_second step in
      subst (λ q. HasMade (binary op l r) t d to p q m tr b) (sym is.next) (record {
        memory = both.memory;
        tracked = both.tracked;
        left = both.left;
        word = done.word;
        gives = applied_to op l r t (look both.memory is.left) (look both.memory is.right) tr both.between both.tracked
            (b + p.ahead) both.then_left (both.left + is.last.ahead) (datum_at t done.word) both.first both.second
            done.result.value;
        fewer = both.fewer;
        keeps = both.keeps;
        is = both.is;
        held = done.result.held;
        ends = done.ends;
      })

  truth_by : (op : BinaryOperator) (l r : SlotExpr) (t : Kind) (d to : ℕ) (p q : Point) → ((u : Kind) → Reads l u d)
      → ((u : Kind) → Reads r u (suc d)) → IsComparisonValue f (λ u. Is l u d) (λ u. Is r u (suc d)) op t to p q
      → From d p (HasMade (binary op l r) t d to p q)
  truth_by op l r t d to p q reads_l reads_r is m tr b site of runs =
      let u = is.kind in
      let both = read_both l r u d is.left is.right p is.last (reads_l u) (reads_r u) is.reads m tr b site of runs in
      let step = stepped f is.last.place s.finish both.memory both.left is.stands.instr both.ends is.stands.at in
      let done = has_truth f is.last.place s.finish both.memory both.left op u is.left is.right to is.stands.instr
      is.stands.is step in
      subst (λ t. HasMade (binary op l r) t d to p q m tr b) (sym is.truth)
      (subst (λ q. HasMade (binary op l r) Boolean d to p q m tr b)
      (sym is.next) (record {
        memory = both.memory;
        tracked = both.tracked;
        left = both.left;
        word = bool_word done.go;
        gives = applied_to op l r u (look both.memory is.left) (look both.memory is.right) tr both.between both.tracked
            (b + p.ahead) both.then_left (both.left + is.last.ahead) (bool_datum done.go) both.first both.second
            done.is
            ∙ ap (λ v. Ok ((v, both.tracked), both.left + is.last.ahead)) (sym (truth_word done.go));
        fewer = both.fewer;
        keeps = both.keeps;
        is = both.is;
        held = truth_held done.go;
        ends = done.ends;
      }))

  -- a constant has its value
  pub number_gives : (r : SlotExpr) (t : Kind) (w : ℤ) (tr : Tracked) (n : ℕ) → IsNumber r t w
      → marked_value z tr r n ≡ Ok ((datum_at t w, tr), n)
  number_gives (constant l) t w tr n is = ap (λ r. follow (attempt s.stuck_faults r n) (λ v. give (v, tr))) is.0
  number_gives (load l) t w tr n is = absurd is
  number_gives (compute g es) t w tr n is = absurd is
  number_gives (call g es) t w tr n is = absurd is
  number_gives (unary op e) t w tr n is = absurd is
  number_gives (binary op x y) t w tr n is = absurd is

  pub number_held : (r : SlotExpr) (t : Kind) (w : ℤ) → IsNumber r t w → IsHeld (datum_at t w)
  number_held (constant l) t w is = is.1
  number_held (load l) t w is = absurd is
  number_held (compute g es) t w is = absurd is
  number_held (call g es) t w is = absurd is
  number_held (unary op e) t w is = absurd is
  number_held (binary op x y) t w is = absurd is

  computed_by : (op : BinaryOperator) (l r : SlotExpr) (t : Kind) (d to : ℕ) (p q : Point) → Reads l t d
      → IsComputedBy f (Is l t d) op t r to p q → From d p (HasMade (binary op l r) t d to p q)
  computed_by op l r t d to p q reads_l is m tr b site of runs =
      let one = reads_l is.left p is.last is.reads m tr b site of runs in
      let step = stepped f is.last.place s.finish one.memory one.left is.stands.instr one.ends is.stands.at in
      let done = has_computed_by f is.last.place s.finish one.memory one.left op t is.left is.word to is.stands.instr
      is.stands.is one.held (number_held r t is.word is.number) step in
      subst (λ q. HasMade (binary op l r) t d to p q m tr b) (sym is.next) (record {
        memory = one.memory;
        tracked = one.tracked;
        left = one.left;
        word = done.word;
        gives = applied_to op l r t (look one.memory is.left) is.word tr one.tracked one.tracked (b + p.ahead)
            (one.left + is.last.ahead) (one.left + is.last.ahead) (datum_at t done.word) one.gives
            (number_gives r t is.word one.tracked (one.left + is.last.ahead) is.number) done.result.value;
        fewer = one.fewer;
        keeps = one.keeps;
        is = one.is;
        held = done.result.held;
        ends = done.ends;
      })

  -- the word of a constant has its number
  number_there : (t : Kind) (n : ℤ) (k : ℕ) (p : Point) (m : Memory) (tr : Tracked) → IsNumberAt f t n k
      → AreHeld p m tr → (number_at t (look m k) ≡ n) × IsHeld (datum_at t (look m k))
  number_there t n k p m tr is of =
      let v : Datum = record { kind = t; number = n } in
      let at : datum_at t (look m k) ≡ v =
      ap (λ k. datum_at t (look m k)) is.place ∙ of.noted.room.constants is.index v is.among in (
        ap (λ (v : Datum). v.number) at,
        subst IsHeld (sym at) (of.noted.room.held is.index v is.among),
      )

  -- the result of an operator on one value was assigned
  applied_once : (op : UnaryOperator) (e : SlotExpr) (t : Kind) (d k to : ℕ) (p r q : Point) (m : Memory) (tr : Tracked)
      (b : ℕ) → q ≡ next r → (one : HasRead e t d k p r m tr b)
      → HasApplied f r.place s.finish one.memory one.left op t (look one.memory k) to
      → HasMade (unary op e) t d to p q m tr b
  applied_once op e t d k to p r q m tr b is one done =
      let w = look one.memory k in
      subst (λ q. HasMade (unary op e) t d to p q m tr b) (sym is) (record {
        memory = one.memory;
        tracked = one.tracked;
        left = one.left;
        word = done.word;
        gives = then_gives (marked_value z tr e (b + p.ahead)) (datum_at t w, one.tracked) (one.left + r.ahead)
            (λ v. λ n. follow (attempt s.stuck_faults (failing (apply_unary op v.0)) n) (λ x. give (x, v.1))) one.gives
            ∙ ap (λ o. follow (attempt s.stuck_faults (failing o) (one.left + r.ahead)) (λ x. give (x, one.tracked)))
            done.result.value;
        fewer = one.fewer;
        keeps = one.keeps;
        is = one.is;
        held = done.result.held;
        ends = done.ends;
      })

  pub negated_by : (e : SlotExpr) (t : Kind) (d to : ℕ) (p q : Point) → Reads e t d
      → IsNegated f (Is e t d) t to p q → From d p (HasMade (unary Negate e) t d to p q)
  negated_by e t d to p q reads_e is m tr b site of runs =
      let one = reads_e is.from p is.last is.reads m tr b site of runs in
      let nought = number_there t (pos 0) is.nought is.last one.memory one.tracked is.is_nought one.is in
      applied_once Negate e t d is.from to p is.last q m tr b is.next one
      (has_negated f is.last.place s.finish one.memory one.left t is.nought is.from to is.stands.instr is.stands.is
      nought.1 one.held nought.0
      (stepped f is.last.place s.finish one.memory one.left is.stands.instr one.ends is.stands.at))

  turned_to : (t : Kind) (d k to : ℕ) (e : SlotExpr) (p r : Point) (m : Memory) (tr : Tracked) (b : ℕ)
      → (one : HasRead e t d k p r m tr b) → TurnsBits f t k to r.place
      → HasApplied f r.place s.finish one.memory one.left Not t (look one.memory k) to
  turned_to t d k to e p r m tr b one (inl is) =
      has_turned_by f r.place s.finish one.memory one.left t k to is.instr is.is one.held
      (stepped f r.place s.finish one.memory one.left is.instr one.ends is.at)
  turned_to t d k to e p r m tr b one (inr (ones, (number, is))) =
      let all = number_there t (greatest t) ones r one.memory one.tracked number one.is in
      has_turned f r.place s.finish one.memory one.left t k ones to is.instr is.is one.held all.1 all.0
      (stepped f r.place s.finish one.memory one.left is.instr one.ends is.at)

  pub turned_by : (e : SlotExpr) (t : Kind) (d to : ℕ) (p q : Point) → Reads e t d
      → IsTurned f (Is e t d) t to p q → From d p (HasMade (unary Not e) t d to p q)
  turned_by e t d to p q reads_e is m tr b site of runs =
      let one = reads_e is.from p is.last is.reads m tr b site of runs in
      applied_once Not e t d is.from to p is.last q m tr b is.next one
      (turned_to t d is.from to e p is.last m tr b one is.turns)

  -- the result of an operator on two words that are numbers
  made_within : (op : BinaryOperator) (t : Kind) (x y w : ℤ) → is_wide t ≡ false → IsMadeOf op x y w
      → holds t w ≡ true → applied op t (number_at t x) (number_at t y) ≡ Ok (datum_at t w)
  made_within op t x y w narrow is held =
      ap₂ (applied op t) (narrow_number t x narrow) (narrow_number t y narrow)
      ∙ is t held
      ∙ ap (λ n. Ok (record { kind = t; number = n })) (sym (narrow_number t w narrow))

  within_made : (op : BinaryOperator) (l r : SlotExpr) (t : Kind) (d to : ℕ) (p q : Point) → Reads l t d
      → Reads r t (suc d) → IsComputedWithin f (Is l t d) (Is r t (suc d)) op t d to p q
      → From d p (HasMade (binary op l r) t d to p q)
  within_made op l r t d to p q reads_l reads_r is m tr b site of runs =
      let both = read_both l r t d is.left is.right p is.last reads_l reads_r is.reads m tr b site of runs in
      let step = stepped f is.last.place s.finish both.memory both.left is.stands.instr both.ends is.stands.at in
      let one = has_made_of f is.last.place s.finish both.memory both.left op is.left is.right d is.stands.instr
      is.stands.is step in
      let n = with_word both.memory d one.word in
      let held = holds_temporary s.frame s.site s.around is.last.noted both.memory both.tracked both.is d site d
      one.word
      (omega arith) in
      let moved = moved_within f s.finish is.last.noted (marks_of s.site s.around both.tracked) t d to
      (suc is.last.place) n both.left is.moves held.noted one.ends in
      let there = is.there in
      let long = both.is.noted.room.words in
      let here : look n d ≡ one.word = word_here both.memory d one.word (omega arith) in
      let narrow = is.moves.narrow in
      let kept : holds t one.word ≡ true = ap (holds t) (sym here) ∙ moved.held in
      subst (λ q. HasMade (binary op l r) t d to p q m tr b) (sym is.is) (record {
        memory = n;
        tracked = both.tracked;
        left = both.left;
        word = one.word;
        gives = applied_to op l r t (look both.memory is.left) (look both.memory is.right) tr both.between both.tracked
            (b + p.ahead) both.then_left (both.left + is.last.ahead) (datum_at t one.word) both.first both.second
            (made_within op t (look both.memory is.left) (look both.memory is.right) one.word narrow one.is kept);
        fewer = both.fewer;
        keeps = keeps_both d d m both.memory n (omega arith) both.keeps
            (keeps_below d both.memory d one.word (omega arith));
        is = held;
        held = ap (holds t) (narrow_number t one.word narrow) ∙ kept;
        ends = subst (λ w. EndsWellAt f (suc (suc is.last.place)) (with_word n to w) both.left s.finish) here moved.ends;
      })

  within_made_by : (op : BinaryOperator) (l r : SlotExpr) (t : Kind) (d to : ℕ) (p q : Point) → Reads l t d
      → IsComputedByWithin f (Is l t d) op t r d to p q → From d p (HasMade (binary op l r) t d to p q)
  within_made_by op l r t d to p q reads_l is m tr b site of runs =
      let both = reads_l is.left p is.last is.reads m tr b site of runs in
      let step = stepped f is.last.place s.finish both.memory both.left is.stands.instr both.ends is.stands.at in
      let one = has_made_of_by f is.last.place s.finish both.memory both.left op is.left is.word d is.stands.instr
      is.stands.is step in
      let n = with_word both.memory d one.word in
      let held = holds_temporary s.frame s.site s.around is.last.noted both.memory both.tracked both.is d site d
      one.word
      (omega arith) in
      let moved = moved_within f s.finish is.last.noted (marks_of s.site s.around both.tracked) t d to
      (suc is.last.place) n both.left is.moves held.noted one.ends in
      let there = is.there in
      let long = both.is.noted.room.words in
      let here : look n d ≡ one.word = word_here both.memory d one.word (omega arith) in
      let narrow = is.moves.narrow in
      let kept : holds t one.word ≡ true = ap (holds t) (sym here) ∙ moved.held in
      subst (λ q. HasMade (binary op l r) t d to p q m tr b) (sym is.is) (record {
        memory = n;
        tracked = both.tracked;
        left = both.left;
        word = one.word;
        gives = applied_to op l r t (look both.memory is.left) is.word tr both.tracked both.tracked (b + p.ahead)
            (both.left + is.last.ahead) (both.left + is.last.ahead) (datum_at t one.word) both.gives
            (number_gives r t is.word both.tracked (both.left + is.last.ahead) is.number)
            (made_within op t (look both.memory is.left) is.word one.word narrow one.is kept);
        fewer = both.fewer;
        keeps = keeps_both d d m both.memory n (omega arith) both.keeps
            (keeps_below d both.memory d one.word (omega arith));
        is = held;
        held = ap (holds t) (narrow_number t one.word narrow) ∙ kept;
        ends = subst (λ w. EndsWellAt f (suc (suc is.last.place)) (with_word n to w) both.left s.finish) here moved.ends;
      })

  -- the result of an operator, computed or compared
  pub binary_by : (op : BinaryOperator) (l r : SlotExpr) (t : Kind) (d to : ℕ) (p q : Point) → ((u : Kind)
      → Reads l u d)
      → ((u : Kind) → Reads r u (suc d))
      → IsComputed f (Is l t d) (Is r t (suc d)) op t to p q
      ⊎ (IsComparisonValue f (λ u. Is l u d) (λ u. Is r u (suc d)) op t to p q
      ⊎ (IsComputedBy f (Is l t d) op t r to p q
      ⊎ (IsComputedWithin f (Is l t d) (Is r t (suc d)) op t d to p q
      ⊎ IsComputedByWithin f (Is l t d) op t r d to p q)))
      → From d p (HasMade (binary op l r) t d to p q)
  binary_by op l r t d to p q reads_l reads_r (inl is) =
      made_by op l r t d to p q (reads_l t) (reads_r t) is
  binary_by op l r t d to p q reads_l reads_r (inr (inl is)) =
      truth_by op l r t d to p q reads_l reads_r is
  binary_by op l r t d to p q reads_l reads_r (inr (inr (inl is))) =
      computed_by op l r t d to p q (reads_l t) is
  binary_by op l r t d to p q reads_l reads_r (inr (inr (inr (inl is)))) =
      within_made op l r t d to p q (reads_l t) (reads_r t) is
  binary_by op l r t d to p q reads_l reads_r (inr (inr (inr (inr is)))) =
      within_made_by op l r t d to p q (reads_l t) is

  read_constant : (l : Literal) (t : Kind) (d : ℕ) → Reads (constant l) t d
  read_constant l t d k p q is m tr b site of runs =
      let c = is.1 in
      let at : datum_at t (look m k) ≡ c.value =
      ap₂ (λ t k. datum_at t (look m k)) (sym c.of_type) c.place ∙ of.noted.room.constants c.index c.value c.among in
      let place = c.place in
      let deep = site.deep in
      let lt = there_within s.frame.constants c.index c.value c.among in
      subst (λ q. HasRead (constant l) t d k p q m tr b) is.0 (record {
        memory = m;
        tracked = tr;
        left = b;
        gives = ap (λ r. follow (attempt s.stuck_faults r (b + p.ahead)) (λ v. give (v, tr))) c.of_literal
            ∙ ap (λ v. Ok ((v, tr), b + p.ahead)) (sym at);
        fewer = omega arith;
        keeps = keeps_all d m;
        is = of;
        held = subst IsHeld (sym at) (of.noted.room.held c.index c.value c.among);
        low = omega arith;
        ends = runs;
      })

  read_slot : (a : Anchor) (t : Kind) (d : ℕ) → Reads (load (place a no_subscripts)) t d
  read_slot a t d k p q is m tr b site of runs =
      let slot = slot_at (base_of s.site) a in
      let value = of.values slot k t is.of_type is.has in
      let lt = site.below slot k t is.of_type is.has in
      subst (λ q. HasRead (load (place a no_subscripts)) t d k p q m tr b) (sym is.is) (record {
        memory = m;
        tracked = with_look tr slot;
        left = b;
        gives = load_gives s.stuck_faults tr slot (datum_at t (look m k)) (b + p.ahead) value.is value.held;
        fewer = omega arith;
        keeps = keeps_all d m;
        is = holds_looked s.frame s.site s.around p.noted m tr of slot k q.noted is.has is.touches;
        held = value.held;
        low = omega arith;
        ends = runs;
      })

  -- A value was read but for a number, which is not added: with it a word has the value now, if its type has that.
  pub record HasReadApart (e : SlotExpr) (t : Kind) (n : ℤ) (d k : ℕ) (p q : Point) (m : Memory) (tr : Tracked)
      (b : ℕ) : Type 0
    where
      pub memory : Memory
      pub tracked : Tracked
      pub left : ℕ
      pub gives : is_wide t ≡ false → (n ≡ pos 0) ⊎ (holds t (look memory k +ℤ n) ≡ true)
          → marked_value z tr e (b + p.ahead) ≡ Ok ((datum_at t (look memory k +ℤ n), tracked), left + q.ahead)
      pub fewer : left + q.ahead ≤ b + p.ahead
      pub keeps : Keeps d m memory
      pub is : AreHeld q memory tracked
      pub ends : EndsWellAt f q.place memory left s.finish

  abbrev pub ReadsApart : SlotExpr → ℕ → Type 0
  ReadsApart e d = (t : Kind) (n : ℤ) (k : ℕ) (p q : Point) → IsReadApart s.frame s.site s.units e t n d k p q
      → From d p (HasReadApart e t n d k p q)

  abbrev pub ReadsWithout : SlotExpr → ℕ → Type 0
  ReadsWithout e d = (t : Kind) (n : ℤ) (k : ℕ) (p q : Point) → IsReadWithout s.frame s.site s.units e t n d k p q
      → From d p (HasReadApart e t n d k p q)

  pub apart_by : (e : SlotExpr) (d : ℕ) → ((t : Kind) → Reads e t d) → ReadsWithout e d → ReadsApart e d
  apart_by e d reads_e without t n k p q (inl is) = λ m tr b site of runs.
      let one = reads_e t k p q is.1 m tr b site of runs in
      let w = look one.memory k in
      let same : w ≡ w +ℤ n = sym (+ℤ_idr w) ∙ ap (λ n. w +ℤ n) (sym is.0) in
      record {
        memory = one.memory;
        tracked = one.tracked;
        left = one.left;
        gives = λ narrow has. one.gives ∙ ap (λ w. Ok ((datum_at t w, one.tracked), one.left + q.ahead)) same;
        fewer = one.fewer;
        keeps = one.keeps;
        is = one.is;
        ends = one.ends;
      }
  apart_by e d reads_e without t n k p q (inr is) = without t n k p q is

  -- if the number is 0, the type has the word with it
  with_number : (t : Kind) (w n : ℤ) → is_wide t ≡ false → IsHeld (datum_at t w)
      → (n ≡ pos 0) ⊎ (holds t (w +ℤ n) ≡ true) → holds t (w +ℤ n) ≡ true
  with_number t w n narrow held (inl is) =
      ap (λ n. holds t (w +ℤ n)) is ∙ ap (holds t) (+ℤ_idr w) ∙ ap (holds t) (sym (narrow_number t w narrow)) ∙ held
  with_number t w n narrow held (inr is) = is

  -- a constant on the right of a sum or a difference was left out
  without_right : (op : BinaryOperator) (l r : SlotExpr) (d : ℕ) (t : Kind) (n : ℤ) (k : ℕ) (p q : Point)
      → Reads l t d → (by : ℤ) → IsNumber r t by
      → ((w : ℤ) → IsMadeOf op w by (w +ℤ n)) → Is l t d k p q
      → From d p (HasReadApart (binary op l r) t n d k p q)
  without_right op l r d t n k p q reads_l by number makes is m tr b site of runs =
      let one = reads_l k p q is m tr b site of runs in
      let w = look one.memory k in
      record {
        memory = one.memory;
        tracked = one.tracked;
        left = one.left;
        gives = λ narrow has. applied_to op l r t w by tr one.tracked one.tracked (b + p.ahead)
            (one.left + q.ahead) (one.left + q.ahead) (datum_at t (w +ℤ n)) one.gives
            (number_gives r t by one.tracked (one.left + q.ahead) number)
            (made_within op t w by (w +ℤ n) narrow (makes w) (with_number t w n narrow one.held has));
        fewer = one.fewer;
        keeps = one.keeps;
        is = one.is;
        ends = one.ends;
      }

  -- a constant on the left of a sum was left out
  without_left : (l r : SlotExpr) (d : ℕ) (t : Kind) (n : ℤ) (k : ℕ) (p q : Point)
      → Reads r t d → IsNumber l t n → Is r t d k p q → From d p (HasReadApart (binary Add l r) t n d k p q)
  without_left l r d t n k p q reads_r number is m tr b site of runs =
      let one = reads_r k p q is m tr b site of runs in
      let w = look one.memory k in
      record {
        memory = one.memory;
        tracked = one.tracked;
        left = one.left;
        gives = λ narrow has. applied_to Add l r t n w tr tr one.tracked (b + p.ahead)
            (b + p.ahead) (one.left + q.ahead) (datum_at t (w +ℤ n)) (number_gives l t n tr (b + p.ahead) number)
            one.gives
            (made_within Add t n w (w +ℤ n) narrow (sum_makes n w (w +ℤ n) (omega (arith, ints)))
            (with_number t w n narrow one.held has));
        fewer = one.fewer;
        keeps = one.keeps;
        is = one.is;
        ends = one.ends;
      }

  pub without_by : (op : BinaryOperator) (l r : SlotExpr) (d : ℕ) → ((t : Kind) → Reads l t d)
      → ((t : Kind) → Reads r t d) → ReadsWithout (binary op l r) d
  without_by op l r d reads_l reads_r t n k p q (inr (is, (number, read))) =
      subst (λ op. From d p (HasReadApart (binary op l r) t n d k p q)) (sym is)
      (without_left l r d t n k p q (reads_r t) number read)
  without_by Add l r d reads_l reads_r t n k p q (inl (number, read)) =
      without_right Add l r d t n k p q (reads_l t) n number (λ w. sum_makes w n (w +ℤ n) refl) read
  without_by Subtract l r d reads_l reads_r t n k p q (inl ((by, (number, is)), read)) =
      without_right Subtract l r d t n k p q (reads_l t) by number
      (λ w. difference_makes w by (w +ℤ n) (omega (arith, ints, is))) read
  without_by Or l r d reads_l reads_r t n k p q (inl is) = absurd is.0
  without_by Xor l r d reads_l reads_r t n k p q (inl is) = absurd is.0
  without_by And l r d reads_l reads_r t n k p q (inl is) = absurd is.0
  without_by Equal l r d reads_l reads_r t n k p q (inl is) = absurd is.0
  without_by NotEqual l r d reads_l reads_r t n k p q (inl is) = absurd is.0
  without_by Less l r d reads_l reads_r t n k p q (inl is) = absurd is.0
  without_by Greater l r d reads_l reads_r t n k p q (inl is) = absurd is.0
  without_by LessOrEqual l r d reads_l reads_r t n k p q (inl is) = absurd is.0
  without_by GreaterOrEqual l r d reads_l reads_r t n k p q (inl is) = absurd is.0
  without_by Multiply l r d reads_l reads_r t n k p q (inl is) = absurd is.0
  without_by Divide l r d reads_l reads_r t n k p q (inl is) = absurd is.0
  without_by Modulo l r d reads_l reads_r t n k p q (inl is) = absurd is.0

  -- A subscript leads to an element: it has a value, which leads there in the tree.
  pub record HasElement (e : SlotExpr) (lower : ℤ) (first word count stride : ℕ) (w : ℕ) (tr tr' : Tracked)
      (a b : ℕ) : Type 0
    where
      pub kind : Kind
      pub value : ℤ
      pub gives : marked_value z tr e a ≡ Ok ((datum_at kind value, tr'), b)
      pub is : IsElement lower first word count stride (number_at kind value) w

  number_fits : (t : Kind) (n v lower : ℤ) (count j : ℕ) → (n ≡ pos 0) ⊎ HasNumbers t lower count → v ≡ lower +ℤ pos j
      → j < count → (n ≡ pos 0) ⊎ (holds t v ≡ true)
  number_fits t n v lower count j (inl nought) at less = inl nought
  number_fits t n v lower count j (inr has) at less = inr (ap (holds t) at ∙ has j less)

  pub leads_there : (e : SlotExpr) (lower shift : ℤ) (count d k : ℕ) (p q : Point) (m : Memory) (tr : Tracked) (b : ℕ)
      → (is : IsSubscript (λ u n. IsReadApart s.frame s.site s.units e u n d) lower shift count k p q)
      → (one : HasReadApart e is.kind is.added d k p q m tr b) → (first word stride w : ℕ)
      → element_place word count stride (look one.memory k +ℤ shift) ≡ Some w
      → HasElement e lower first word count stride w tr one.tracked (b + p.ahead) (one.left + q.ahead)
  leads_there e lower shift count d k p q m tr b is one first word stride w found =
      let n = is.added in
      let v = look one.memory k in
      let from = is.from_lower in
      let same : v +ℤ shift ≡ (v +ℤ n) +ℤ (shift -ℤ n) = omega (arith, ints) in
      let el = element_is lower (shift -ℤ n) first word count stride is.kind (v +ℤ n) w (omega (arith, ints, from))
      is.narrow (ap (element_place word count stride) (sym same) ∙ found) in
      record {
        kind = is.kind;
        value = v +ℤ n;
        gives = one.gives is.narrow (number_fits is.kind n (v +ℤ n) lower count el.before is.fits
            (sym (narrow_number is.kind (v +ℤ n) is.narrow) ∙ el.number) el.less);
        is = el;
      }

  -- a subscript was read: if it led to a place of the array, it leads there in the tree
  pub led_by : (e : SlotExpr) (lower : ℤ) (first count stride : ℕ) (t : Kind) (w : ℤ) (k : ℕ) (tr tr' : Tracked)
      (a b : ℕ)
      → marked_value z tr e a ≡ Ok ((datum_at t w, tr'), b) → LeadsTo lower first count stride (number_at t w) k
      → marked_led z tr first (subscript_then e lower count stride no_subscripts) a ≡ Ok ((k, tr'), b)
  led_by e lower first count stride t w k tr tr' a b value leads =
      then_gives (marked_value z tr e a) (datum_at t w, tr') b (λ r. if in_bounds lower count r.0.number
      then give (first + distance lower r.0.number * stride, r.1) else fault Index) value
      ∙ ap (λ u. (if u then give (first + distance lower (number_at t w) * stride, tr') else fault Index) b)
      leads.inside
      ∙ ap (λ j. Ok ((first + j * stride, tr'), b)) leads.distance_is
      ∙ ap (λ j. Ok ((j, tr'), b)) (sym leads.place)

  pub fetched_by : (a : Anchor) (e : SlotExpr) (lower : ℤ) (count stride : ℕ) (t : Kind) (d to : ℕ) (p q : Point)
      → ReadsApart e d
      → IsFetched f s.site (λ u n. IsReadApart s.frame s.site s.units e u n d) lower (slot_at (base_of s.site) a) count
      stride t to p q
      → From d p (HasMade (load (place a (subscript_then e lower count stride no_subscripts))) t d to p q)
  fetched_by a e lower count stride t d to p q reads_e is m tr b site of runs =
      let first = slot_at (base_of s.site) a in
      let one = reads_e is.subscript.kind is.subscript.added is.index p is.last is.subscript.reads m tr b site of runs
      in
      let done = has_loaded f is.last.place s.finish one.memory one.left is.index is.shift to is.word count stride
      is.loads one.ends in
      let there = leads_there e lower is.shift count d is.index p is.last m tr b is.subscript one first is.word stride
      done.place done.is in
      let leads = there.is in
      let k = first + leads.before * stride in
      let own = subst (HasOwnWord s.frame.window s.site k) (sym leads.place) (is.elements.words leads.before
      leads.less) in
      let target = is.elements.each leads.before leads.less in
      let value = own_value s.frame s.site s.around is.last.noted one.memory one.tracked one.is d site k done.place t
      target own in
      subst (λ q. HasMade (load (place a (subscript_then e lower count stride no_subscripts))) t d to p q m tr b)
      (sym is.next) (record {
        memory = note noted_read done.place one.memory;
        tracked = with_look one.tracked k;
        left = one.left;
        word = look one.memory done.place;
        gives = then_gives
            (marked_led z tr first (subscript_then e lower count stride no_subscripts) (b + p.ahead))
            (k, one.tracked) (one.left + is.last.ahead) (λ r. marked_load s.stuck_faults r.1 r.0)
            (led_by e lower first count stride there.kind there.value k tr one.tracked (b + p.ahead)
            (one.left + is.last.ahead) there.gives leads.leads)
            ∙ load_gives s.stuck_faults one.tracked k (datum_at t (look one.memory done.place)) (one.left + is.last.ahead)
            value.is value.held;
        fewer = one.fewer;
        keeps = record { long = one.keeps.long; same = one.keeps.same };
        is = holds_loaded s.frame s.site s.around is.last.noted one.memory one.tracked one.is d site k done.place t
            target own (subst (IsExact s.site is.last.noted) (sym leads.place) (is.elements.exact leads.before
            leads.less));
        held = value.held;
        ends = done.ends;
      })

  -- a value that was made in a temporary was read
  pub read_made : (e : SlotExpr) (t : Kind) (d k : ℕ) (p q : Point) → IsTemporary f k d
      → From d p (HasMade e t d k p q) → From d p (HasRead e t d k p q)
  read_made e t d k p q is makes m tr b site of runs =
      let made = makes m tr b site of runs in
      let depth = is.depth in
      let there = is.there in
      let long = of.noted.room.words in
      let kept = made.keeps.long in
      let here = word_here made.memory k made.word (omega arith) in record {
        memory = with_word made.memory k made.word;
        tracked = made.tracked;
        left = made.left;
        gives = made.gives ∙ ap (λ w. Ok ((datum_at t w, made.tracked), made.left + q.ahead)) (sym here);
        fewer = made.fewer;
        keeps = keeps_both d d m made.memory (with_word made.memory k made.word) (omega arith) made.keeps
            (keeps_below d made.memory k made.word (omega arith));
        is = holds_temporary s.frame s.site s.around q.noted made.memory made.tracked made.is d site k made.word
            (omega arith);
        held = subst (λ w. IsHeld (datum_at t w)) (sym here) made.held;
        low = omega arith;
        ends = made.ends;
      }

  -- a value of a type is one of a wider type
  widened : (from t : Kind) (w : ℤ) → IsWider from t → IsHeld (datum_at from w)
      → (standard_value (CONVERT from t) (datum_at from w ∷ []) ≡ Ok (datum_at t w)) × IsHeld (datum_at t w)
  widened from t w wider held =
      let one = narrow_number from w wider.narrow_from in
      let two = narrow_number t w wider.narrow_to in
      let same : number_at from w ≡ number_at t w = one ∙ sym two in
      let holds_it : holds t (number_at from w) ≡ true = wider.all (number_at from w) held in (
        ap (λ b. if b then failing (conversion t (number_at from w)) else Err ill_typed) (same_kind-refl from)
            ∙ ap (λ b. failing (if b then Ok (record { kind = t; number = number_at from w }) else Err Conversion))
            holds_it
            ∙ ap (λ n. Ok (record { kind = t; number = n })) same,
        subst (λ n. holds t n ≡ true) same holds_it,
      )

  read_wider : (e : SlotExpr) (from to t : Kind) (d : ℕ) → Reads e from d
      → (k : ℕ) (p q : Point) → (to ≡ t) × IsWider from t × Is e from d k p q
      → From d p (HasRead (compute (CONVERT from to) (expr_then e no_exprs)) t d k p q)
  read_wider e from to t d reads_e k p q is m tr b site of runs =
      let one = reads_e k p q is.2 m tr b site of runs in
      let w = look one.memory k in
      let wide = widened from t w is.1 one.held in record {
        memory = one.memory;
        tracked = one.tracked;
        left = one.left;
        gives = ap (λ u. marked_value z tr (compute (CONVERT from u) (expr_then e no_exprs)) (b + p.ahead)) is.0
            ∙ then_gives (marked_values z tr (expr_then e no_exprs) (b + p.ahead))
            (datum_at from w ∷ [], one.tracked) (one.left + q.ahead)
            (λ xs. λ b. follow (attempt s.stuck_faults (standard_value (CONVERT from t) xs.0) b) (λ v. give (v, xs.1)))
            (then_gives (marked_value z tr e (b + p.ahead)) (datum_at from w, one.tracked) (one.left + q.ahead)
            (λ r. λ n. follow (marked_values z r.1 no_exprs n) (λ xs. give (r.0 ∷ xs.0, xs.1))) one.gives)
            ∙ ap (λ o. follow (attempt s.stuck_faults o (one.left + q.ahead)) (λ v. give (v, one.tracked))) wide.0;
        fewer = one.fewer;
        keeps = one.keeps;
        is = one.is;
        held = wide.1;
        low = one.low;
        ends = one.ends;
      }

  -- Arguments were read.
  pub record HaveArguments (es : SlotExprs) (d : ℕ) (kinds : List Kind) (words : List ℕ) (p q : Point) (m : Memory)
      (tr : Tracked) (b : ℕ) : Type 0 where
    pub memory : Memory
    pub tracked : Tracked
    pub left : ℕ
    pub arguments : List Datum
    pub gives : marked_values z tr es (b + p.ahead) ≡ Ok ((arguments, tracked), left + q.ahead)
    pub fewer : left + q.ahead ≤ b + p.ahead
    pub keeps : Keeps d m memory
    pub is : AreHeld q memory tracked
    pub given : AreGiven memory (d + length words) kinds words arguments
    pub ends : EndsWellAt f q.place memory left s.finish

  abbrev pub ReadsAll : SlotExprs → ℕ → List Kind → List ℕ → Type 0
  ReadsAll es d kinds words =
      (p q : Point) → AreArguments s.frame s.site s.units es d kinds words p q
      → From d p (HaveArguments es d kinds words p q)

  read_none : (d : ℕ) → ReadsAll no_exprs d [] []
  read_none d p q is m tr b site of runs =
      subst (λ q. HaveArguments no_exprs d [] [] p q m tr b) is (record {
        memory = m;
        tracked = tr;
        left = b;
        arguments = [];
        gives = refl;
        fewer = omega arith;
        keeps = keeps_all d m;
        is = of;
        given = record {
          words_long = refl;
          kinds_long = refl;
          each = λ i w t at type. absurd cc;
          held = λ i w t at type. absurd cc;
          low = λ i w at. absurd cc;
        };
        ends = runs;
      })

  read_further : (e : SlotExpr) (es : SlotExprs) (d : ℕ) (t : Kind) (kinds : List Kind) (w : ℕ) (words : List ℕ)
      → Reads e t d → ReadsAll es (suc d) kinds words → ReadsAll (expr_then e es) d (t ∷ kinds) (w ∷ words)
  read_further e es d t kinds w words reads_e reads_es p q is m tr b site of runs =
      let one = reads_e w p is.middle is.first m tr b site of runs in
      let rest = reads_es is.middle q is.second one.memory one.tracked one.left
      (deeper s.frame s.site d (suc d) (omega arith) site) one.is one.ends in
      let same = keeps_word (suc d) one.memory rest.memory w rest.keeps one.low in
      let low = one.low in
      let few_one = one.fewer in
      let few_rest = rest.fewer in
      let v = datum_at t (look rest.memory w) in record {
        memory = rest.memory;
        tracked = rest.tracked;
        left = rest.left;
        arguments = v ∷ rest.arguments;
        gives = then_gives (marked_value z tr e (b + p.ahead)) (datum_at t (look one.memory w), one.tracked)
            (one.left + is.middle.ahead)
            (λ r. λ n. follow (marked_values z r.1 es n) (λ xs. give (r.0 ∷ xs.0, xs.1))) one.gives
            ∙ then_gives (marked_values z one.tracked es (one.left + is.middle.ahead)) (rest.arguments, rest.tracked)
            (rest.left + q.ahead) (λ xs. give (datum_at t (look one.memory w) ∷ xs.0, xs.1)) rest.gives
            ∙ ap (λ x. Ok ((datum_at t x ∷ rest.arguments, rest.tracked), rest.left + q.ahead)) (sym same);
        fewer = omega arith;
        keeps = keeps_both d (suc d) m one.memory rest.memory (omega arith) one.keeps rest.keeps;
        is = rest.is;
        given = given_further d t kinds w words rest.memory rest.arguments
            (subst (λ w. IsHeld (datum_at t w)) (sym same) one.held) low rest.given;
        ends = rest.ends;
      }
    where
      given_further : (d : ℕ) (t : Kind) (kinds : List Kind) (w : ℕ) (words : List ℕ) (m : Memory) (values : List Datum)
          → IsHeld (datum_at t (look m w)) → w < suc d → AreGiven m (suc d + length words) kinds words values
          → AreGiven m (d + suc (length words)) (t ∷ kinds) (w ∷ words) (datum_at t (look m w) ∷ values)
      given_further d t kinds w words m values held low rest = record {
        words_long = ap suc rest.words_long;
        kinds_long = ap suc rest.kinds_long;
        each = λ i. elim i as (λ i. (u : ℕ) (r : Kind) → slice_get (w ∷ words) i ≡ Some u
            → slice_get (t ∷ kinds) i ≡ Some r
            → slice_get (datum_at t (look m w) ∷ values) i ≡ Some (datum_at r (look m u))) [
              | zero ↦ λ u r at type. ap₂ (λ r u. Some (datum_at r (look m u))) (some_is type) (some_is at)
              | suc i ↦ λ u r at type. rest.each i u r at type
            ];
        held = λ i. elim i as (λ i. (u : ℕ) (r : Kind) → slice_get (w ∷ words) i ≡ Some u
            → slice_get (t ∷ kinds) i ≡ Some r → IsHeld (datum_at r (look m u))) [
              | zero ↦ λ u r at type. subst (λ u. IsHeld (datum_at r (look m u))) (some_is at)
                  (subst (λ r. IsHeld (datum_at r (look m w))) (some_is type) held)
              | suc i ↦ λ u r at type. rest.held i u r at type
            ];
        low = λ i. elim i as (λ i. (u : ℕ) → slice_get (w ∷ words) i ≡ Some u → u < d + suc (length words)) [
          | zero ↦ λ u at. subst (λ u. u < d + suc (length words)) (some_is at) (omega arith)
          | suc i ↦ λ u at. (let low = rest.low i u at in omega arith)
        ];
      }

  -- a function was called
  pub called_by : (i : ℕ) (es : SlotExprs) (t : Kind) (d to : ℕ) (p q : Point)
      → ((kinds : List Kind) (words : List ℕ) → ReadsAll es d kinds words)
      → IsCall s.units (AreArguments s.frame s.site s.units es d) i t d to p q
      → From d p (HasMade (call i es) t d to p q)
  called_by i es t d to p q reads_es is m tr b site of runs =
      let all = reads_es is.kinds is.words p is.given is.arguments m tr b site of runs in
      let deep = site.deep in
      let done = s.does i is.kinds is.words (d + length is.words) t to is.given q is.calls
      (marks_of s.site s.around all.tracked) all.memory all.left all.arguments (omega arith) all.is.noted all.given
      all.ends in
      let few_all = all.fewer in
      let few_done = done.fewer in record {
        memory = done.memory;
        tracked = all.tracked;
        left = done.left;
        word = done.word;
        gives = then_gives (marked_values z tr es (b + p.ahead)) (all.arguments, all.tracked)
            (all.left + is.given.ahead)
            (λ r. λ n. follow (s.means.functions i r.0 n) (λ v. give (v, r.1))) all.gives
            ∙ then_gives (s.means.functions i all.arguments (all.left + is.given.ahead)) (datum_at t done.word)
            (done.left + q.ahead) (λ v. give (v, all.tracked)) done.gives;
        fewer = omega arith;
        keeps = keeps_both d (d + length is.words) m all.memory done.memory (omega arith) all.keeps done.keeps;
        is = holds_kept s.frame s.site s.around is.given.noted all.memory all.tracked all.is d site q.noted done.memory
            (keeps_less d (d + length is.words) all.memory done.memory (omega arith) done.keeps) done.noted;
        held = done.held;
        ends = done.ends;
      }

  -- a standard function was computed
  pub evaluated_by : (g : Standard) (es : SlotExprs) (t : Kind) (d to : ℕ) (p q : Point)
      → ((kinds : List Kind) (words : List ℕ) → ReadsAll es d kinds words)
      → IsEvaluated f (AreArguments s.frame s.site s.units es d) g t d to p q
      → From d p (HasMade (compute g es) t d to p q)
  evaluated_by g es t d to p q reads_es is m tr b site of runs =
      let all = reads_es is.kinds is.words p is.given is.arguments m tr b site of runs in
      let c = d + length is.words in
      let deep = site.deep in
      let done = has_value f s.finish is.given.noted (marks_of s.site s.around all.tracked) is.kinds is.words
      all.arguments t c to is.given q all.memory all.left all.given (omega arith) all.is.noted all.ends g is.computes in
      let few = all.fewer in
      let same = done.ahead in
      record {
        memory = done.memory;
        tracked = all.tracked;
        left = all.left;
        word = done.word;
        gives = then_gives (marked_values z tr es (b + p.ahead)) (all.arguments, all.tracked)
            (all.left + is.given.ahead)
            (λ r. λ n. follow (attempt s.stuck_faults (standard_value g r.0) n) (λ v. give (v, r.1))) all.gives
            ∙ ap (λ o. follow (attempt s.stuck_faults o (all.left + is.given.ahead)) (λ v. give (v, all.tracked)))
            done.value
            ∙ ap (λ a. Ok ((datum_at t done.word, all.tracked), all.left + a)) (sym same);
        fewer = omega arith;
        keeps = keeps_both d c m all.memory done.memory (omega arith) all.keeps done.keeps;
        is = holds_kept s.frame s.site s.around is.given.noted all.memory all.tracked all.is d site q.noted done.memory
            (keeps_less d c all.memory done.memory (omega arith) done.keeps)
            (subst (λ ns. IsNoted f ns (marks_of s.site s.around all.tracked) done.memory) (sym done.told) done.noted);
        held = done.held;
        ends = done.ends;
      }

  -- a value was converted to a wider type, or computed
  read_converted : (e : SlotExpr) (from to t : Kind) (d : ℕ) → Reads e from d
      → ((kinds : List Kind) (words : List ℕ) → ReadsAll (expr_then e no_exprs) d kinds words)
      → Reads (compute (CONVERT from to) (expr_then e no_exprs)) t d
  read_converted e from to t d reads_e reads_es k p q (inl is) = read_wider e from to t d reads_e k p q is
  read_converted e from to t d reads_e reads_es k p q (inr is) =
      read_made (compute (CONVERT from to) (expr_then e no_exprs)) t d k p q is.0
      (evaluated_by (CONVERT from to) (expr_then e no_exprs) t d k p q reads_es is.1)

  -- A subscript was read, up to the instruction that takes it.
  record HasIndexed (e : SlotExpr) (lower : ℤ) (count d : ℕ) (Instr : ℕ → ℤ → QuickInstr) (p q : Point) (m : Memory)
      (tr : Tracked) (b : ℕ) : Type 0 where
    memory : Memory
    tracked : Tracked
    left : ℕ
    index : ℕ
    shift : ℤ
    gives : (first word stride w : ℕ) → element_place word count stride (look memory index +ℤ shift) ≡ Some w
        → HasElement e lower first word count stride w tr tracked (b + p.ahead) (left + q.ahead)
    fewer : left + q.ahead ≤ b + p.ahead
    keeps : Keeps d m memory
    is : AreHeld q memory tracked
    place : ℕ
    next : q.place ≡ suc place
    stands : slice_get f.code place ≡ Some (Instr index shift)
    ends : EndsWellAt f place memory left s.finish

  indexed_by : (e : SlotExpr) (lower : ℤ) (count d : ℕ) (Instr : ℕ → ℤ → QuickInstr) (p q : Point)
      → ReadsApart e d
      → IsIndexed f (λ u n. IsReadApart s.frame s.site s.units e u n d) lower count Instr p q
      → From d p (HasIndexed e lower count d Instr p q)
  indexed_by e lower count d Instr p q reads_e is m tr b site of runs =
      let one = reads_e is.subscript.kind is.subscript.added is.index p is.last is.subscript.reads m tr b site of runs
      in
      subst (λ q. HasIndexed e lower count d Instr p q m tr b) (sym is.next) (record {
        memory = one.memory;
        tracked = one.tracked;
        left = one.left;
        index = is.index;
        shift = is.shift;
        gives = leads_there e lower is.shift count d is.index p is.last m tr b is.subscript one;
        fewer = one.fewer;
        keeps = one.keeps;
        is = one.is;
        place = is.last.place;
        next = refl;
        stands = is.stands;
        ends = one.ends;
      })

  -- a subscript was read: further ones lead on from its element
  led_on : (e : SlotExpr) (lower : ℤ) (k count stride : ℕ) (ss : Subscripts) (t : Kind) (w : ℤ) (j : ℕ)
      (tr tr' : Tracked) (a b : ℕ) → marked_value z tr e a ≡ Ok ((datum_at t w, tr'), b)
      → LeadsTo lower k count stride (number_at t w) j
      → marked_led z tr k (subscript_then e lower count stride ss) a ≡ marked_led z tr' j ss b
  led_on e lower k count stride ss t w j tr tr' a b value leads =
      then_gives (marked_value z tr e a) (datum_at t w, tr') b (λ r. if in_bounds lower count r.0.number
      then marked_led z r.1 (k + distance lower r.0.number * stride) ss else fault Index) value
      ∙ ap (λ u. (if u then marked_led z tr' (k + distance lower (number_at t w) * stride) ss else fault Index) b)
      leads.inside
      ∙ ap (λ i. marked_led z tr' (k + i * stride) ss b) leads.distance_is
      ∙ ap (λ i. marked_led z tr' i ss b) (sym leads.place)

  -- Subscripts led from the value at an offset to a place of a word, and to the slot.
  pub record ComesTo (ss : Subscripts) (start o k word to : ℕ) (tr tr' : Tracked) (a b : ℕ) : Type 0 where
    pub offset : ℕ
    pub reached : IsOffset ss offset
    pub place : to ≡ word + (o + offset)
    pub gives : marked_led z tr k ss a ≡ Ok ((start + (o + offset), tr'), b)

  -- Subscripts were read, up to the instruction of the last one.
  pub record HasLed (ss : Subscripts) (d start o k : ℕ) (Instr : ℕ → ℤ → ℕ → ℕ → QuickInstr) (p q : Point) (m : Memory)
      (tr : Tracked) (b : ℕ) : Type 0
    where
      pub memory : Memory
      pub tracked : Tracked
      pub left : ℕ
      pub index : ℕ
      pub shift : ℤ
      pub count : ℕ
      pub stride : ℕ
      pub offset : ℕ
      pub is_offset : look memory d ≡ pos offset
      pub comes : (word w : ℕ) → element_place word count stride (look memory index +ℤ shift) ≡ Some w
          → ComesTo ss start o k word (offset + w) tr tracked (b + p.ahead) (left + q.ahead)
      pub fewer : left + q.ahead ≤ b + p.ahead
      pub keeps : Keeps d m memory
      pub is : AreHeld q memory tracked
      pub place : ℕ
      pub next : q.place ≡ suc place
      pub stands : slice_get f.code place ≡ Some (Instr index shift count stride)
      pub ends : EndsWellAt f place memory left s.finish

  -- how further subscripts lead on
  abbrev pub LeadsOn : Subscripts → ℕ → Type 0
  LeadsOn ss d =
      (Instr : ℕ → ℤ → ℕ → ℕ → QuickInstr) (p q : Point) → IsLedOn s.frame s.site s.units ss d Instr p q
      → (start o k : ℕ) → k ≡ start + o → d < f.size
      → From d p (λ m tr b. look m d ≡ pos o → HasLed ss d start o k Instr p q m tr b)

  last_led : (e : SlotExpr) (lower : ℤ) (count stride d : ℕ) → ReadsApart e (suc d)
      → LeadsOn (subscript_then e lower count stride no_subscripts) d
  last_led e lower count stride d reads_e Instr p q is start o k at there m tr b site of runs offset =
      let ss = subscript_then e lower count stride no_subscripts in
      let one = indexed_by e lower count (suc d) (λ i n. Instr i n count stride) p q reads_e is m tr b
      (deeper s.frame s.site d (suc d) (omega arith) site) of runs in
      record {
        memory = one.memory;
        tracked = one.tracked;
        left = one.left;
        index = one.index;
        shift = one.shift;
        count = count;
        stride = stride;
        offset = o;
        is_offset = keeps_word (suc d) m one.memory d one.keeps (omega arith) ∙ offset;
        comes = λ word w found. (
            let there = one.gives k word stride w found in
            let el = there.is in
            let j = el.before * stride in
            let slot : k + j ≡ start + (o + j) = ap (λ k. k + j) at ∙ add_assoc start o j in
            let place = el.place in record {
              offset = j;
              reached = (el.before, (0, (el.less, (refl, omega arith))));
              place = omega arith;
              gives = led_by e lower k count stride there.kind there.value (k + j) tr one.tracked (b + p.ahead)
                  (one.left + q.ahead) there.gives el.leads
                  ∙ ap (λ i. Ok ((i, one.tracked), one.left + q.ahead)) slot;
            });
        fewer = one.fewer;
        keeps = keeps_less d (suc d) m one.memory (omega arith) one.keeps;
        is = one.is;
        place = one.place;
        next = one.next;
        stands = one.stands;
        ends = one.ends;
      }

  -- an offset was assigned, from which further subscripts led on
  module _ (e : SlotExpr) (lower : ℤ) (count stride : ℕ) (ss : Subscripts) (d c : ℕ) (le : d ≤ c)
      (First : ℕ → ℤ → QuickInstr) (Instr : ℕ → ℤ → ℕ → ℕ → QuickInstr) (p r q : Point) (start o k : ℕ)
      (at : k ≡ start + o) (there : d < f.size) (leads : LeadsOn ss d)
      (further : IsLedOn s.frame s.site s.units ss d Instr r q) (m : Memory) (tr : Tracked) (b : ℕ)
      (site : IsSite s.frame s.site d) (one : HasIndexed e lower count c First p r m tr b) (place : ℕ)
      (found : element_place 0 count stride (look one.memory one.index +ℤ one.shift) ≡ Some place)
      (runs : EndsWellAt f (suc one.place) (with_word one.memory d (pos (o + place))) one.left s.finish) where
    led_further : HasLed (subscript_then e lower count stride ss) d start o k Instr p q m tr b
    led_further =
        let value = one.gives k 0 stride place found in
        let el = value.is in
        let j = el.before * stride in
        let here : place ≡ j = omega (arith, el.place) in
        let o' = o + place in
        let slot : k + j ≡ start + o' =
        ap (λ k. k + j) at ∙ add_assoc start o j ∙ ap (λ j. start + (o + j)) (sym here) in
        let m' = with_word one.memory d (pos o') in
        let words = one.is.noted.room.words in
        let rest = leads Instr r q further start o' (k + j) slot there m' one.tracked one.left site
        (holds_temporary s.frame s.site s.around r.noted one.memory one.tracked one.is d site d (pos o') (omega arith))
        (subst (λ i. EndsWellAt f i m' one.left s.finish) (sym one.next) runs)
        (word_here one.memory d (pos o') (omega arith)) in
        let few_one = one.fewer in
        let few_rest = rest.fewer in
        record {
          memory = rest.memory;
          tracked = rest.tracked;
          left = rest.left;
          index = rest.index;
          shift = rest.shift;
          count = rest.count;
          stride = rest.stride;
          offset = rest.offset;
          is_offset = rest.is_offset;
          comes = λ word w found. (
              let to = rest.comes word w found in
              let sum : o + (j + to.offset) ≡ o' + to.offset = omega arith in
              let there = to.place in record {
                offset = j + to.offset;
                reached = (el.before, (to.offset, (el.less, (to.reached, refl))));
                place = omega arith;
                gives = led_on e lower k count stride ss value.kind value.value (k + j) tr one.tracked (b + p.ahead)
                    (one.left + r.ahead) value.gives el.leads
                    ∙ to.gives
                    ∙ ap (λ i. Ok ((start + i, rest.tracked), rest.left + q.ahead)) (sym sum);
              });
          fewer = omega arith;
          keeps = keeps_both d d m one.memory rest.memory (omega arith) (keeps_less d c m one.memory le one.keeps)
              (keeps_both d d one.memory m' rest.memory (omega arith)
              (keeps_below d one.memory d (pos o') (omega arith)) rest.keeps);
          is = rest.is;
          place = rest.place;
          next = rest.next;
          stands = rest.stands;
          ends = rest.ends;
        }

  middle_led : (e : SlotExpr) (lower : ℤ) (count stride : ℕ) (ss : Subscripts) (d : ℕ)
      → ReadsApart e (suc d) → LeadsOn ss d → (Instr : ℕ → ℤ → ℕ → ℕ → QuickInstr) (p q : Point)
      → InSequence (IsIndexed f (λ u n. IsReadApart s.frame s.site s.units e u n (suc d)) lower count
      (λ i n. LocateNested d i n d count stride))
      (IsLedOn s.frame s.site s.units ss d Instr) p q
      → (start o k : ℕ) → k ≡ start + o → d < f.size
      → From d p (λ m tr b. look m d ≡ pos o
      → HasLed (subscript_then e lower count stride ss) d start o k Instr p q m tr b)
  middle_led e lower count stride ss d reads_e leads Instr p q is start o k at there m tr b site of runs offset =
      let one = indexed_by e lower count (suc d) (λ i n. LocateNested d i n d count stride) p is.middle reads_e is.first
      m tr b (deeper s.frame s.site d (suc d) (omega arith) site) of runs in
      let found = element_place 0 count stride (look one.memory one.index +ℤ one.shift) in
      let done = has_located f one.place s.finish one.memory one.left d (offset_by (look one.memory d) found)
      (stepped f one.place s.finish one.memory one.left _ one.ends one.stands) in
      let is_behind = is_behind (look one.memory d) found o done.offset
      (keeps_word (suc d) m one.memory d one.keeps (omega arith) ∙ offset) done.is in
      led_further e lower count stride ss d (suc d) (omega arith) (λ i n. LocateNested d i n d count stride) Instr p
      is.middle q start o k at there leads is.second m tr b site one is_behind.before is_behind.is
      (subst (λ o. EndsWellAt f (suc one.place) (with_word one.memory d (pos o)) one.left s.finish) is_behind.place_is
      done.ends)

  pub led_first : (e : SlotExpr) (lower : ℤ) (count stride : ℕ) (ss : Subscripts) (d start : ℕ)
      (Instr : ℕ → ℤ → ℕ → ℕ → QuickInstr) (p q : Point) → ReadsApart e d → LeadsOn ss d
      → IsLed f (λ u n. IsReadApart s.frame s.site s.units e u n d) lower count stride d
      (IsLedOn s.frame s.site s.units ss d Instr) p q
      → From d p (HasLed (subscript_then e lower count stride ss) d start 0 start Instr p q)
  led_first e lower count stride ss d start Instr p q reads_e leads is m tr b site of runs =
      let one = indexed_by e lower count d (λ i n. Locate i n d count stride) p is.located reads_e is.first m tr b site
      of runs in
      let found = element_place 0 count stride (look one.memory one.index +ℤ one.shift) in
      let done = has_located f one.place s.finish one.memory one.left d found
      (stepped f one.place s.finish one.memory one.left _ one.ends one.stands) in
      led_further e lower count stride ss d d (omega arith) (λ i n. Locate i n d count stride) Instr p is.located q
      start 0 start (omega arith) is.there leads is.further m tr b site one done.offset done.is
      (subst (λ o. EndsWellAt f (suc one.place) (with_word one.memory d (pos o)) one.left s.finish)
      (let same : done.offset ≡ 0 + done.offset = omega arith in same) done.ends)

  -- an element of an array in an array was loaded
  pub within_by : (a : Anchor) (e : SlotExpr) (lower : ℤ) (count stride : ℕ) (ss : Subscripts) (t : Kind) (d to : ℕ)
      (p q : Point) → ReadsApart e d → LeadsOn ss d
      → IsWithin f s.site (slot_at (base_of s.site) a) (subscript_then e lower count stride ss) t
      (λ word. IsLed f (λ u n. IsReadApart s.frame s.site s.units e u n d) lower count stride d
      (IsLedOn s.frame s.site s.units ss d (λ i n count stride. LoadNested d i n to word count stride))) p q
      → From d p (HasMade (load (place a (subscript_then e lower count stride ss))) t d to p q)
  within_by a e lower count stride ss t d to p q reads_e leads is m tr b site of runs =
      let first = slot_at (base_of s.site) a in
      let all = subscript_then e lower count stride ss in
      let one = led_first e lower count stride ss d first (λ i n count stride. LoadNested d i n to is.word count stride)
      p q reads_e leads is.led m tr b site of runs in
      let at = element_place is.word one.count one.stride (look one.memory one.index +ℤ one.shift) in
      let done = of_load f one.place s.finish one.memory one.left (nested_place one.memory d at) to
      (stepped f one.place s.finish one.memory one.left _ one.ends one.stands) in
      let here = place_is one.memory d one.offset done.place at one.is_offset done.is in
      let comes = one.comes is.word here.before here.is in
      let o = comes.offset in
      let k = first + o in
      let word : done.place ≡ is.word + o = omega (arith, here.place_is, comes.place) in
      let slot : first + (0 + o) ≡ k = omega arith in
      let target = is.reached.each o comes.reached in
      let own = subst (HasOwnWord s.frame.window s.site k) (sym word) (is.reached.words o comes.reached) in
      let value = own_value s.frame s.site s.around q.noted one.memory one.tracked one.is d site k done.place t target
      own in
      record {
        memory = note noted_read done.place one.memory;
        tracked = with_look one.tracked k;
        left = one.left;
        word = look one.memory done.place;
        gives = then_gives (marked_led z tr first all (b + p.ahead)) (k, one.tracked) (one.left + q.ahead)
            (λ r. marked_load s.stuck_faults r.1 r.0)
            (comes.gives ∙ ap (λ k. Ok ((k, one.tracked), one.left + q.ahead)) slot)
            ∙ load_gives s.stuck_faults one.tracked k (datum_at t (look one.memory done.place)) (one.left + q.ahead)
            value.is value.held;
        fewer = one.fewer;
        keeps = record { long = one.keeps.long; same = one.keeps.same };
        is = holds_loaded s.frame s.site s.around q.noted one.memory one.tracked one.is d site k done.place t target own
            (subst (IsExact s.site q.noted) (sym word) (is.reached.exact o comes.reached));
        held = value.held;
        ends = subst (λ i. EndsWellAt f i (with_word (note noted_read done.place one.memory) to (look one.memory done.place))
            one.left s.finish) (sym one.next) done.ends;
      }

  mutual
    pub reads : (e : SlotExpr) (t : Kind) (d : ℕ) → Reads e t d
    reads (constant l) t d = read_constant l t d
    reads (load (place a no_subscripts)) t d = read_slot a t d
    reads (load (place a (subscript_then i lower count stride no_subscripts))) t d = λ k p q is.
        read_made (load (place a (subscript_then i lower count stride no_subscripts))) t d k p q is.0
        (fetched_by a i lower count stride t d k p q (apart_by i d (λ u. reads i u d) (reads_without i d)) is.1)
    reads (load (place a (subscript_then i lower count stride (subscript_then j l c r ss)))) t d = λ k p q is.
        read_made (load (place a (subscript_then i lower count stride (subscript_then j l c r ss)))) t d k p q is.0
        (within_by a i lower count stride (subscript_then j l c r ss) t d k p q
        (apart_by i d (λ u. reads i u d) (reads_without i d))
        (leads_on (subscript_then j l c r ss) d) is.1)
    reads (compute ABS es) t d = λ k p q is. read_made (compute ABS es) t d k p q is.0
        (evaluated_by ABS es t d k p q (λ kinds words. reads_all es d kinds words) is.1)
    reads (compute MIN es) t d = λ k p q is. read_made (compute MIN es) t d k p q is.0
        (evaluated_by MIN es t d k p q (λ kinds words. reads_all es d kinds words) is.1)
    reads (compute MAX es) t d = λ k p q is. read_made (compute MAX es) t d k p q is.0
        (evaluated_by MAX es t d k p q (λ kinds words. reads_all es d kinds words) is.1)
    reads (compute LIMIT es) t d = λ k p q is. read_made (compute LIMIT es) t d k p q is.0
        (evaluated_by LIMIT es t d k p q (λ kinds words. reads_all es d kinds words) is.1)
    reads (compute SEL es) t d = λ k p q is. read_made (compute SEL es) t d k p q is.0
        (evaluated_by SEL es t d k p q (λ kinds words. reads_all es d kinds words) is.1)
    reads (compute SHL es) t d = λ k p q is. read_made (compute SHL es) t d k p q is.0
        (evaluated_by SHL es t d k p q (λ kinds words. reads_all es d kinds words) is.1)
    reads (compute SHR es) t d = λ k p q is. read_made (compute SHR es) t d k p q is.0
        (evaluated_by SHR es t d k p q (λ kinds words. reads_all es d kinds words) is.1)
    reads (compute ROL es) t d = λ k p q is. read_made (compute ROL es) t d k p q is.0
        (evaluated_by ROL es t d k p q (λ kinds words. reads_all es d kinds words) is.1)
    reads (compute ROR es) t d = λ k p q is. read_made (compute ROR es) t d k p q is.0
        (evaluated_by ROR es t d k p q (λ kinds words. reads_all es d kinds words) is.1)
    reads (compute (CONVERT from to) no_exprs) t d = λ k p q is.
        read_made (compute (CONVERT from to) no_exprs) t d k p q is.0
        (evaluated_by (CONVERT from to) no_exprs t d k p q
        (λ kinds words. reads_all no_exprs d kinds words) is.1)
    reads (compute (CONVERT from to) (expr_then e no_exprs)) t d =
        read_converted e from to t d (reads e from d)
        (λ kinds words. reads_all (expr_then e no_exprs) d kinds words)
    reads (compute (CONVERT from to) (expr_then e (expr_then i es))) t d = λ k p q is.
        read_made (compute (CONVERT from to) (expr_then e (expr_then i es))) t d k p q is.0
        (evaluated_by (CONVERT from to) (expr_then e (expr_then i es)) t d k p q
        (λ kinds words. reads_all (expr_then e (expr_then i es)) d kinds words) is.1)
    reads (call g es) t d = λ k p q is.
        read_made (call g es) t d k p q is.0
        (called_by g es t d k p q (λ kinds words. reads_all es d kinds words) is.1)
    reads (unary Negate e) t d = λ k p q is.
        read_made (unary Negate e) t d k p q is.0 (negated_by e t d k p q (reads e t d) is.1)
    reads (unary Not e) t d = λ k p q is.
        read_made (unary Not e) t d k p q is.0 (turned_by e t d k p q (reads e t d) is.1)
    reads (binary op l r) t d = λ k p q is.
        read_made (binary op l r) t d k p q is.0
        (binary_by op l r t d k p q (λ u. reads l u d) (λ u. reads r u (suc d)) is.1)

    pub reads_without : (e : SlotExpr) (d : ℕ) → ReadsWithout e d
    reads_without (binary op x y) d = without_by op x y d (λ t. reads x t d) (λ t. reads y t d)
    reads_without (constant l) d = λ t n k p q is. absurd is
    reads_without (load x) d = λ t n k p q is. absurd is
    reads_without (unary op x) d = λ t n k p q is. absurd is
    reads_without (compute g es) d = λ t n k p q is. absurd is
    reads_without (call i es) d = λ t n k p q is. absurd is

    pub reads_all : (es : SlotExprs) (d : ℕ) (kinds : List Kind) (words : List ℕ) → ReadsAll es d kinds words
    reads_all no_exprs d [] [] = read_none d
    reads_all no_exprs d [] (w ∷ words) = λ p q is. absurd is
    reads_all no_exprs d (t ∷ kinds) words = λ p q is. absurd is
    reads_all (expr_then e es) d [] words = λ p q is. absurd is
    reads_all (expr_then e es) d (t ∷ kinds) [] = λ p q is. absurd is
    reads_all (expr_then e es) d (t ∷ kinds) (w ∷ words) =
        read_further e es d t kinds w words (reads e t d) (reads_all es (suc d) kinds words)

    pub leads_on : (ss : Subscripts) (d : ℕ) → LeadsOn ss d
    leads_on no_subscripts d = λ Instr p q is. absurd is
    leads_on (subscript_then e lower count stride no_subscripts) d =
        last_led e lower count stride d (apart_by e (suc d) (λ u. reads e u (suc d)) (reads_without e (suc d)))
    leads_on (subscript_then e lower count stride (subscript_then i l c r ss)) d =
        middle_led e lower count stride (subscript_then i l c r ss) d
        (apart_by e (suc d) (λ u. reads e u (suc d)) (reads_without e (suc d)))
        (leads_on (subscript_then i l c r ss) d)

  pub reads_apart : (e : SlotExpr) (d : ℕ) → ReadsApart e d
  reads_apart e d = apart_by e d (λ u. reads e u d) (reads_without e d)
