-- The machine gives the values of expressions, and makes the marks of their looks.
use Rattle.std.proofs.Common.{◌≡◌, ℕ, suc, ◌+◌, ◌*◌, ◌≤◌, ◌<◌, Bool, true, false, if◌then◌else◌, List}
use Rattle.std.proofs.Common.{◌∷◌, length, Result, Ok, Err, refl, sym, ap, ◌∙◌, subst, arith}
use Rattle.st_types.specs.Values.{Datum}
use Rattle.st_types.specs.declared.fault.Fault.TheVariants.{Index}
use Rattle.st_meaning.specs.Failures.{Failure, fails, StuckFaults, failing}
use Rattle.st_meaning.specs.Operators.{value_of_literal, apply, apply_unary, condition_of}
use Rattle.st_meaning.specs.StandardFunctions as functions
use Rattle.st_meaning.specs.StandardFunctions.{Standard, standard_value}
use Rattle.st_meaning.specs.Ticks.{Run, follow, give, fault, attempt}
use Rattle.layout.specs.Shapes.{in_bounds, distance}
use Rattle.symbols.specs.Standard.{standard_view}
use Rattle.slot_trees.specs.SlotTrees.{SlotExpr, constant, load, compute, call, unary, binary, SlotExprs, no_exprs}
use Rattle.slot_trees.specs.SlotTrees.{expr_then, place, Subscripts, no_subscripts, subscript_then}
use Rattle.slot_trees.specs.SlotEvaluation.{slot_at}
use Rattle.machine_code.specs.declared.instr.Instr.{Instr}
use Rattle.machine_code.specs.declared.instr.Instr.TheVariants.{Push, Load, LoadAt, Unary, Binary, Compute, JumpIfFalse}
use Rattle.machine_code.specs.declared.instr.Instr.TheVariants.{JumpIfTrue}
use Rattle.machine_code.specs.declared.instr.Instr.TheVariants.{Subscript}
use Rattle.machine_code.specs.Tracking.{Tracked}
use Rattle.machine_code.specs.Machine.{Ending, on_result, a_slot, slot_number}
use Rattle.machine_code.specs.Growing.{Code, ◌◂◌}
use Rattle.machine_code.specs.UnitFrames.{UnitFrame, slot_in, end_of}
use Rattle.machine_code.specs.Codes.{CodeUnits, standard_code, literal_code, count_of, expr_code, exprs_code}
use Rattle.machine_code.specs.Codes.{led_code, number_value, subscripts_code}
use Rattle.machine_code.specs.Fitting.{UnitCall, of_function, IsValue, reach, ExprFits, ExprsFit, SubscriptsFit}
use Rattle.machine_code.specs.MarkedEvaluation.{MarkedUnits, MarkedScope, marked_load, marked_value, marked_values}
use Rattle.machine_code.specs.MarkedEvaluation.{marked_led, marked_truth}
use Rattle.machine_code.proofs.Places.{Has, same_code, grows_on, put, put_on, part}
use Rattle.machine_code.proofs.Gives.{Gives, by_eq, given, bind, taking}
use Rattle.machine_code.proofs.Growth.{UnitsGrow, expr_grows, exprs_grow, subscripts_grow}
use Rattle.machine_code.proofs.Regions.{Holds, holds_frame}
use Rattle.machine_code.proofs.Steps.{G, stacked, tops, down, one, loading}
use Rattle.machine_code.proofs.UnitCalls.{UnitsRun}
use Rattle.machine_code.proofs.Bounds.{is_a_slot, reached}

-- values of expressions: the memory still holds the unit's, and their number is `count`
pub record Evaluated (memory : ℕ) (s : UnitFrame) (told : ℕ) (below : Tracked) (count : ℕ) (xs : List Datum × Tracked)
    (m : Tracked) : Type 0 where
  pub holds : Holds memory s told below xs.1 m
  pub counted : length xs.0 ≡ count

-- a slot among the unit's values
pub record Reached (memory : ℕ) (s : UnitFrame) (told : ℕ) (below : Tracked) (k : ℕ × Tracked) (m : Tracked) : Type 0 where
  pub holds : Holds memory s told below k.1 m
  pub within : k.0 < s.size

standard_is : (f : Standard) → standard_view (standard_code f) ≡ f
standard_is functions.ABS = refl
standard_is functions.MIN = refl
standard_is functions.MAX = refl
standard_is functions.LIMIT = refl
standard_is functions.SEL = refl
standard_is functions.SHL = refl
standard_is functions.SHR = refl
standard_is functions.ROL = refl
standard_is functions.ROR = refl
standard_is (functions.CONVERT k l) = refl

module _ (t : StuckFaults) (now memory : ℕ) (small : memory ≤ 65536) (F : Code) (units : MarkedUnits) (codes : CodeUnits)
    (CallFits : UnitCall → Type 0) (run : UnitsRun t now memory F units codes CallFits) (s : UnitFrame)
    (room : end_of s ≤ memory) (told : ℕ) (below : Tracked) where
  -- where the body runs
  abbrev pub scope : MarkedScope
  scope = record { units = units; base = s.base; stuck_faults = t }

  -- the run goes on with a value on the stack
  abbrev pub Valued : Code → List Datum → Datum × Tracked → Tracked → ℕ → Ending Tracked
  Valued c st v m a = G t now F (length c) (v.0 ∷ st) m a

  abbrev pub Placed : Code → List Datum → ℕ × Tracked → Tracked → ℕ → Ending Tracked
  Placed c st k m a = G t now F (length c) (slot_number (s.start + k.0) ∷ st) m a

  abbrev grow : UnitsGrow codes
  grow = run.grow

  abbrev Held : {A : Type 0} → A × Tracked → Tracked → Type 0
  Held v m = Holds memory s told below v.1 m

  literal_runs : (r : Result Datum Failure) (c : Code) (st : List Datum) (vs m : Tracked) (b : ℕ) → IsValue r
      → Holds memory s told below vs m → Has F (length c) (literal_code r c)
      → Gives (follow (attempt t r b) (λ v. give (v, vs))) b Held (Valued c st)
      (G t now F (length (literal_code r c)) st m b)
  literal_runs (Ok v) c st vs m b fits holds has = one t now F c (Push v) st m b has (given m holds)
  literal_runs (Err e) c st vs m b fits holds has = absurd fits

  -- a subscript on the stack moves the slot below it on, or is out of bounds
  element_so : {B : Type 0} (go : Bool) (j : ℕ) (f : Run B) (a : ℕ) (m : Tracked)
      (next : ℕ → Ending Tracked) (Good : B → Tracked → Type 0) (on : B → Tracked → ℕ → Ending Tracked)
      → (go ≡ true → Gives (f a) a Good on (on_result t (a_slot j) m next))
      → Gives ((if go then f else fault Index) a) a Good on
      (on_result t (if go then a_slot j else Err (fails Index)) m next)
  element_so true j f a m next Good on h = h refl
  element_so false j f a m next Good on h = record { by = (m, refl) }

  -- an instruction for a slot, which follows the subscripts that lead to it
  pub led_runs : {B : Type 0} (ss : Subscripts) (k : ℕ) (here : ℕ → Instr) (at : Instr) (c : Code)
      (st : List Datum) (f : ℕ × Tracked → Run B) (Good : B → Tracked → Type 0)
      (on : B → Tracked → ℕ → Ending Tracked) (vs m : Tracked) (b : ℕ)
      → (Has F (length c) (c ◂ here (s.start + k))
      → Gives (f (k, vs) b) b Good on (G t now F (length (c ◂ here (s.start + k))) st m b))
      → ((j : ℕ) (us n : Tracked) (a : ℕ) → Reached memory s told below (j, us) n → Has F (length c) (c ◂ at)
      → Gives (f (j, us) a) a Good on (G t now F (length (c ◂ at)) (slot_number (s.start + j) ∷ st) n a))
      → (Has F (length (c ◂ at)) (subscripts_code codes s ss (c ◂ at))
      → Gives (marked_led scope vs k ss b) b (Reached memory s told below) (Placed (c ◂ at) st)
      (G t now F (length (subscripts_code codes s ss (c ◂ at))) (slot_number (s.start + k) ∷ st) m b))
      → Has F (length c) (led_code codes s ss (s.start + k) here at c)
      → Gives (follow (marked_led scope vs k ss b) f) b Good on
      (G t now F (length (led_code codes s ss (s.start + k) here at c)) st m b)
  led_runs no_subscripts k here at c st f Good on vs m b direct there inside has = direct has
  led_runs (subscript_then e lower count stride ss) k here at c st f Good on vs m b direct there inside has =
      let all = subscript_then e lower count stride ss in
      let d = c ◂ at in
      one t now F (subscripts_code codes s all d) (Push (slot_number (s.start + k))) st m b
      (part (grows_on (put c _) (subscripts_grow codes grow s all _)) (same_code _) has)
      (bind f (inside (part (put c at) (put _ _) has)) (λ j n a good le.
      there j.0 j.1 n a good (part (same_code c) (put_on _ (subscripts_grow codes grow s all _)) has)))

  mutual
    pub expr_runs : (e : SlotExpr) (c : Code) (st : List Datum) (vs m : Tracked) (b : ℕ) → ExprFits CallFits s e
        → Holds memory s told below vs m → Has F (length c) (expr_code codes s e c)
        → Gives (marked_value scope vs e b) b Held (Valued c st) (G t now F (length (expr_code codes s e c)) st m b)
    expr_runs (constant l) c st vs m b fits holds has = literal_runs (value_of_literal l) c st vs m b fits holds has
    expr_runs (load (place a ss)) c st vs m b fits holds has =
        led_runs ss (slot_at s.base a) Load LoadAt c st (λ r. marked_load t r.1 r.0) Held (Valued c st) vs m b
        (λ has. one t now F c (Load (slot_in s a)) st m b has
        (loading t memory s room told below Held (λ v n a. G t now F (length c) (v ∷ st) n a) vs m
        (slot_at s.base a) b holds (let l = fits.0 in omega arith) (λ v us n h. h)))
        (λ j us n a at has. one t now F c LoadAt (slot_number (s.start + j) ∷ st) n a has
        (loading t memory s room told below Held (λ v n a. G t now F (length c) (v ∷ st) n a) us n j a at.holds
        at.within (λ v us n h. h)))
        (λ has. subscripts_run ss (slot_at s.base a) (c ◂ LoadAt) st vs m b fits.0 fits.1 holds has)
        has
    expr_runs (compute f es) c st vs m b fits holds has =
        let i = Compute (standard_code f) (count_of es) in
        bind _ (exprs_run es (c ◂ i) st vs m b fits holds (part (put c _) (same_code _) has)) (λ xs n a good le.
        one t now F c i (stacked xs.0 st) n a (part (same_code c) (exprs_grow codes grow s es _) has)
        (by_eq (tops t xs.0 (count_of es) st n _ good.counted
        ∙ ap (λ g. on_result t (standard_value g xs.0) n (λ v. G t now F (length c) (v ∷ st) n a)) (standard_is f))
        (taking t (standard_value f xs.0) _ a n _ (λ v. given n good.holds))))
    expr_runs (call f es) c st vs m b fits holds has =
        let d = codes.functions f (end_of s) c in
        let grows = grow.functions f (end_of s) c in
        bind _ (exprs_run es d st vs m b fits.0 holds (part grows (same_code _) has)) (λ xs n a good le.
        bind _ (run.functions f (end_of s) xs.0 c st n a
        (subst (λ k. CallFits (of_function f (end_of s) k)) (sym good.counted) fits.1) good.holds.long
        (part (same_code c) (exprs_grow codes grow s es d) has)) (λ v k i frame le.
        given k (holds_frame memory s told below xs.1 n k good.holds frame)))
    expr_runs (unary op e) c st vs m b fits holds has =
        bind _ (expr_runs e (c ◂ Unary op) st vs m b fits holds (part (put c _) (same_code _) has)) (λ x n a good le.
        one t now F c (Unary op) (x.0 ∷ st) n a (part (same_code c) (expr_grows codes grow s e _) has)
        (taking t (failing (apply_unary op x.0)) _ a n _ (λ v. given n good)))
    expr_runs (binary op l r) c st vs m b fits holds has =
        let d = c ◂ Binary op in
        bind _ (expr_runs l (expr_code codes s r d) st vs m b fits.0 holds
        (part (grows_on (put c _) (expr_grows codes grow s r d)) (same_code _) has)) (λ x n a good le.
        bind _ (expr_runs r d (x.0 ∷ st) x.1 n a fits.1 good (part (put c _) (expr_grows codes grow s l _) has))
        (λ y k f good le.
        one t now F c (Binary op) (y.0 ∷ x.0 ∷ st) k f
        (part (same_code c) (grows_on (expr_grows codes grow s r d) (expr_grows codes grow s l _)) has)
        (taking t (apply op x.0 y.0) _ f k _ (λ v. given k good))))

    pub exprs_run : (es : SlotExprs) (c : Code) (st : List Datum) (vs m : Tracked) (b : ℕ) → ExprsFit CallFits s es
        → Holds memory s told below vs m → Has F (length c) (exprs_code codes s es c)
        → Gives (marked_values scope vs es b) b (Evaluated memory s told below (count_of es))
        (λ xs n a. G t now F (length c) (stacked xs.0 st) n a)
        (G t now F (length (exprs_code codes s es c)) st m b)
    exprs_run no_exprs c st vs m b fits holds has = given m (record { holds = holds; counted = refl })
    exprs_run (expr_then e es) c st vs m b fits holds has =
        let d = exprs_code codes s es c in
        bind _ (expr_runs e d st vs m b fits.0 holds (part (exprs_grow codes grow s es c) (same_code _) has))
        (λ v n a good le.
        bind _ (exprs_run es c (v.0 ∷ st) v.1 n a fits.1 good (part (same_code c) (expr_grows codes grow s e d) has))
        (λ xs k f done le. given k (record { holds = done.holds; counted = ap suc done.counted })))

    pub subscripts_run : (ss : Subscripts) (k : ℕ) (c : Code) (st : List Datum) (vs m : Tracked) (b : ℕ)
        → k + reach ss < s.size → SubscriptsFit CallFits s ss → Holds memory s told below vs m
        → Has F (length c) (subscripts_code codes s ss c)
        → Gives (marked_led scope vs k ss b) b (Reached memory s told below) (Placed c st)
        (G t now F (length (subscripts_code codes s ss c)) (slot_number (s.start + k) ∷ st) m b)
    subscripts_run no_subscripts k c st vs m b lt fits holds has =
        given m (record { holds = holds; within = (let l = lt in omega arith) })
    subscripts_run (subscript_then e lower count stride ss) k c st vs m b lt fits holds has =
        let d = subscripts_code codes s ss c in
        let i = Subscript count stride (number_value lower) in
        bind _ (expr_runs e (d ◂ i) (slot_number (s.start + k) ∷ st) vs m b fits.0 holds
        (part (put_on _ (subscripts_grow codes grow s ss c)) (same_code _) has)) (λ v n a good le.
        let z = v.0.number in
        one t now F d i (v.0 ∷ slot_number (s.start + k) ∷ st) n a
        (part (subscripts_grow codes grow s ss c) (expr_grows codes grow s e _) has)
        (element_so (in_bounds lower count z) (s.start + k + distance lower z * stride)
        (marked_led scope v.1 (k + distance lower z * stride) ss) a n _ _ _ (λ go.
        let within = reached lower count stride z k (reach ss) s.size go lt in
        by_eq (is_a_slot t (s.start + k + distance lower z * stride) (s.start + (k + distance lower z * stride)) n
        (λ j. G t now F (length d) (slot_number j ∷ st) n a) (omega arith) (let r = room in omega arith))
        (subscripts_run ss (k + distance lower z * stride) c st v.1 n a within fits.1 good
        (part (same_code c) (grows_on (put d _) (expr_grows codes grow s e _)) has)))))

  -- a condition: if it is FALSE the run goes on after a jump, or if it is TRUE
  pub truth_unless : (e : SlotExpr) (c : Code) (to : ℕ) (st : List Datum) (vs m : Tracked) (b : ℕ)
      → ExprFits CallFits s e → to ≤ length c → Holds memory s told below vs m
      → Has F (length c) (expr_code codes s e (c ◂ JumpIfFalse to))
      → Gives (marked_truth scope e vs b) b Held
      (λ go n a. if go.0 then G t now F (length c) st n a else G t now F to st n a)
      (G t now F (length (expr_code codes s e (c ◂ JumpIfFalse to))) st m b)
  unfolding marked_truth
  truth_unless e c to st vs m b fits le holds has =
      bind _ (expr_runs e (c ◂ JumpIfFalse to) st vs m b fits holds (part (put c _) (same_code _) has)) (λ v n a good l.
      one t now F c (JumpIfFalse to) (v.0 ∷ st) n a (part (same_code c) (expr_grows codes grow s e _) has)
      (by_eq (ap (λ d. on_result t (condition_of v.0) n (λ go. if go then G t now F (length c) st n a else d))
      (down t to (length c) n (G t now F to st n a) le))
      (taking t (condition_of v.0) _ a n _ (λ go. given n good))))

  pub truth_when : (e : SlotExpr) (c : Code) (to : ℕ) (st : List Datum) (vs m : Tracked) (b : ℕ)
      → ExprFits CallFits s e → to ≤ length c → Holds memory s told below vs m
      → Has F (length c) (expr_code codes s e (c ◂ JumpIfTrue to))
      → Gives (marked_truth scope e vs b) b Held
      (λ go n a. if go.0 then G t now F to st n a else G t now F (length c) st n a)
      (G t now F (length (expr_code codes s e (c ◂ JumpIfTrue to))) st m b)
  unfolding marked_truth
  truth_when e c to st vs m b fits le holds has =
      bind _ (expr_runs e (c ◂ JumpIfTrue to) st vs m b fits holds (part (put c _) (same_code _) has)) (λ v n a good l.
      one t now F c (JumpIfTrue to) (v.0 ∷ st) n a (part (same_code c) (expr_grows codes grow s e _) has)
      (by_eq (ap (λ d. on_result t (condition_of v.0) n (λ go. if go then d else G t now F (length c) st n a))
      (down t to (length c) n (G t now F to st n a) le))
      (taking t (condition_of v.0) _ a n _ (λ go. given n good))))
