-- The functions whose calls are in the code of a body, and how long that code is at least.
use Rattle.std.proofs.Common.{◌≡◌, refl, sym, ap, arith, ℕ, zero, suc, ◌+◌, ◌*◌, ◌≤◌, List, [], ◌∷◌, ◌++◌, map}
use Rattle.std.proofs.Common.{length, Option, Some, None, option_map, ◌∙◌, subst}
use Rattle.std.specs.Prelude.{slice_get}
use Rattle.std.proofs.lemmas.Option.{slice_get-map}
use Rattle.slot_trees.specs.LibraryViews.{KeptLibrary, IsKeptOf}
use Rattle.slot_trees.specs.SlotTrees.{SlotExpr, constant, load, compute, call, unary, binary, SlotExprs}
use Rattle.slot_trees.specs.SlotTrees.{no_exprs, expr_then, Place, place, Subscripts, no_subscripts, subscript_then}
use Rattle.slot_trees.specs.SlotTrees.{BlockCode, own_block, standard_block, SlotArgument, given, copied, SlotStmt}
use Rattle.slot_trees.specs.SlotTrees.{empty, assign, invoke, IF, CASE, FOR, WHILE, REPEAT, EXIT, RETURN, SlotStmts}
use Rattle.slot_trees.specs.SlotTrees.{no_stmts, stmt_then, SlotArms, no_arms, arm_then, SlotCaseArms}
use Rattle.slot_trees.specs.SlotTrees.{no_case_arms, case_arm_then, SlotFunction, SlotLibrary}
use Rattle.machine_code.specs.Programs.{program_code}
use Rattle.st_compile.specs.Lengths.{UnitLengths, expr_length, exprs_length, place_length, led_length}
use Rattle.st_compile.specs.Lengths.{subscripts_length, step_length, inputs_length, outputs_length}
use Rattle.st_compile.specs.Lengths.{stmt_length, stmts_length, arms_length, case_length}
use Rattle.st_compile.specs.Lengths.{if_function_length, if_body_length, block_length, units_length}
use Rattle.st_compile.proofs.Lengths.{program_long}
use Rattle.config.proofs.CallSums.{sum_of, sum_appended}

-- of the units that are called
pub record UnitCalls : Type 0 where
  pub functions : ℕ → List ℕ
  pub blocks : BlockCode → List ℕ

module _ (units : UnitCalls) where
  abbrev mutual
    pub expr_calls : SlotExpr → List ℕ
    expr_calls (constant l) = []
    expr_calls (load p) = place_calls p
    expr_calls (compute f es) = exprs_calls es
    expr_calls (call f es) = units.functions f ++ exprs_calls es
    expr_calls (unary op e) = expr_calls e
    expr_calls (binary op l r) = expr_calls l ++ expr_calls r

    pub exprs_calls : SlotExprs → List ℕ
    exprs_calls no_exprs = []
    exprs_calls (expr_then e es) = expr_calls e ++ exprs_calls es

    pub place_calls : Place → List ℕ
    place_calls (place a ss) = subscripts_calls ss

    pub subscripts_calls : Subscripts → List ℕ
    subscripts_calls no_subscripts = []
    subscripts_calls (subscript_then e lower count stride ss) = expr_calls e ++ subscripts_calls ss

  abbrev pub step_calls : Option SlotExpr → List ℕ
  step_calls None = []
  step_calls (Some e) = expr_calls e

  abbrev pub argument_calls : SlotArgument → List ℕ
  argument_calls (given o e) = expr_calls e
  argument_calls (copied o p) = place_calls p

  abbrev pub arguments_calls : List SlotArgument → List ℕ
  arguments_calls [] = []
  arguments_calls (x ∷ xs) = argument_calls x ++ arguments_calls xs

  abbrev mutual
    pub stmt_calls : SlotStmt → List ℕ
    stmt_calls empty = []
    stmt_calls (assign p e) = place_calls p ++ expr_calls e
    stmt_calls (invoke a code xs) = units.blocks code ++ arguments_calls xs
    stmt_calls (IF arms otherwise) = arms_calls arms ++ stmts_calls otherwise
    stmt_calls (CASE e arms otherwise) = expr_calls e ++ (case_calls arms ++ stmts_calls otherwise)
    stmt_calls (FOR a start limit step body) =
        expr_calls start ++ (expr_calls limit ++ (step_calls step ++ stmts_calls body))
    stmt_calls (WHILE e body) = expr_calls e ++ stmts_calls body
    stmt_calls (REPEAT body e) = expr_calls e ++ stmts_calls body
    stmt_calls EXIT = []
    stmt_calls RETURN = []

    pub stmts_calls : SlotStmts → List ℕ
    stmts_calls no_stmts = []
    stmts_calls (stmt_then x xs) = stmt_calls x ++ stmts_calls xs

    pub arms_calls : SlotArms → List ℕ
    arms_calls no_arms = []
    arms_calls (arm_then e body arms) = expr_calls e ++ (stmts_calls body ++ arms_calls arms)

    pub case_calls : SlotCaseArms → List ℕ
    case_calls no_case_arms = []
    case_calls (case_arm_then labels body arms) = stmts_calls body ++ case_calls arms

-- a function's call comes before those of its body
abbrev pub function_calls : UnitCalls → ℕ → Option SlotFunction → List ℕ
function_calls units i None = []
function_calls units i (Some f) = i ∷ stmts_calls units f.body

abbrev pub body_calls : UnitCalls → Option SlotStmts → List ℕ
body_calls units None = []
body_calls units (Some body) = stmts_calls units body

abbrev pub block_calls : SlotLibrary → UnitCalls → BlockCode → List ℕ
block_calls library units (standard_block b) = []
block_calls library units (own_block i) = body_calls units (slice_get library.blocks i)

-- of the units of a library, with calls at most n deep
unfoldable pub units_calls : SlotLibrary → ℕ → UnitCalls
units_calls library zero = record { functions = λ f. []; blocks = λ b. [] }
units_calls library (suc n) = record {
  functions = λ f. function_calls (units_calls library n) f (slice_get library.functions f);
  blocks = λ b. block_calls library (units_calls library n) b;
}

-- the number of values with which a call of this function begins
abbrev pub values_of_function : Option SlotFunction → ℕ
values_of_function None = 0
values_of_function (Some f) = length f.fresh

abbrev pub values_at : SlotLibrary → ℕ → ℕ
values_at library i = values_of_function (slice_get library.functions i)

-- A length holds the values of these calls, each twice.
abbrev Holds : (ℕ → ℕ) → List ℕ → ℕ → Type 0
Holds w xs n = 2 * sum_of w xs ≤ n

joined : (w : ℕ → ℕ) (xs ys : List ℕ) (m n k : ℕ) → Holds w xs m → Holds w ys n → m + n ≤ k → Holds w (xs ++ ys) k
joined w xs ys m n k h g le = let sum = sum_appended w xs ys in omega (arith, sum, h, g, le)

pub record Contains (w : ℕ → ℕ) (calls : UnitCalls) (lengths : UnitLengths) : Type 0 where
  pub functions : (f : ℕ) → 2 * sum_of w (calls.functions f) ≤ lengths.functions f
  pub blocks : (b : BlockCode) → 2 * sum_of w (calls.blocks b) ≤ lengths.blocks b

module _ (w : ℕ → ℕ) (c : UnitCalls) (u : UnitLengths) (holds : Contains w c u) where
  mutual
    expr_holds : (e : SlotExpr) → Holds w (expr_calls c e) (expr_length u e)
    expr_holds (constant l) = omega arith
    expr_holds (load p) = place_holds p
    expr_holds (compute f es) = let h = exprs_holds es in omega (arith, h)
    expr_holds (call f es) = joined w (c.functions f) (exprs_calls c es) _ _ _ (holds.functions f) (exprs_holds es)
        (omega arith)
    expr_holds (unary op e) = let h = expr_holds e in omega (arith, h)
    expr_holds (binary op l r) = joined w (expr_calls c l) (expr_calls c r) _ _ _ (expr_holds l) (expr_holds r)
        (omega arith)

    exprs_holds : (es : SlotExprs) → Holds w (exprs_calls c es) (exprs_length u es)
    exprs_holds no_exprs = omega arith
    exprs_holds (expr_then e es) = joined w (expr_calls c e) (exprs_calls c es) _ _ _ (expr_holds e) (exprs_holds es)
        (omega arith)

    place_holds : (p : Place) → Holds w (place_calls c p) (place_length u p)
    place_holds (place a ss) = led_holds ss

    led_holds : (ss : Subscripts) → Holds w (subscripts_calls c ss) (led_length u ss)
    led_holds no_subscripts = omega arith
    led_holds (subscript_then e lower count stride ss) =
        joined w (expr_calls c e) (subscripts_calls c ss) _ _ _ (expr_holds e) (subscripts_hold ss) (omega arith)

    subscripts_hold : (ss : Subscripts) → Holds w (subscripts_calls c ss) (subscripts_length u ss)
    subscripts_hold no_subscripts = omega arith
    subscripts_hold (subscript_then e lower count stride ss) =
        joined w (expr_calls c e) (subscripts_calls c ss) _ _ _ (expr_holds e) (subscripts_hold ss) (omega arith)

  step_holds : (o : Option SlotExpr) → Holds w (step_calls c o) (step_length u o)
  step_holds None = omega arith
  step_holds (Some e) = expr_holds e

  arguments_hold : (xs : List SlotArgument)
      → Holds w (arguments_calls c xs) (outputs_length u xs + inputs_length u xs)
  arguments_hold [] = omega arith
  arguments_hold (given o e ∷ rest) =
      joined w (expr_calls c e) (arguments_calls c rest) _ _ _ (expr_holds e) (arguments_hold rest) (omega arith)
  arguments_hold (copied o p ∷ rest) =
      joined w (place_calls c p) (arguments_calls c rest) _ _ _ (place_holds p) (arguments_hold rest) (omega arith)

  mutual
    stmt_holds : (x : SlotStmt) → Holds w (stmt_calls c x) (stmt_length u x)
    stmt_holds empty = omega arith
    stmt_holds (assign p e) =
        joined w (place_calls c p) (expr_calls c e) _ _ _ (place_holds p) (expr_holds e) (omega arith)
    stmt_holds (invoke a code xs) =
        joined w (c.blocks code) (arguments_calls c xs) _ _ _ (holds.blocks code) (arguments_hold xs) (omega arith)
    stmt_holds (IF arms otherwise) =
        joined w (arms_calls c arms) (stmts_calls c otherwise) _ _ _ (arms_hold arms) (stmts_hold otherwise)
        (omega arith)
    stmt_holds (CASE e arms otherwise) =
        joined w (expr_calls c e) (case_calls c arms ++ stmts_calls c otherwise) _
        (case_length u arms + stmts_length u otherwise) _ (expr_holds e)
        (joined w (case_calls c arms) (stmts_calls c otherwise) _ _ _ (case_hold arms) (stmts_hold otherwise)
        (omega arith)) (omega arith)
    stmt_holds (FOR a start limit step body) =
        joined w (expr_calls c start) (expr_calls c limit ++ (step_calls c step ++ stmts_calls c body)) _
        (expr_length u limit + step_length u step + stmts_length u body) _ (expr_holds start)
        (joined w (expr_calls c limit) (step_calls c step ++ stmts_calls c body) _
        (step_length u step + stmts_length u body) _ (expr_holds limit)
        (joined w (step_calls c step) (stmts_calls c body) _ _ _ (step_holds step) (stmts_hold body)
        (omega arith)) (omega arith)) (omega arith)
    stmt_holds (WHILE e body) =
        joined w (expr_calls c e) (stmts_calls c body) _ _ _ (expr_holds e) (stmts_hold body) (omega arith)
    stmt_holds (REPEAT body e) =
        joined w (expr_calls c e) (stmts_calls c body) _ _ _ (expr_holds e) (stmts_hold body) (omega arith)
    stmt_holds EXIT = omega arith
    stmt_holds RETURN = omega arith

    pub stmts_hold : (xs : SlotStmts) → 2 * sum_of w (stmts_calls c xs) ≤ stmts_length u xs
    stmts_hold no_stmts = omega arith
    stmts_hold (stmt_then x xs) =
        joined w (stmt_calls c x) (stmts_calls c xs) _ _ _ (stmt_holds x) (stmts_hold xs) (omega arith)

    arms_hold : (arms : SlotArms) → Holds w (arms_calls c arms) (arms_length u arms)
    arms_hold no_arms = omega arith
    arms_hold (arm_then e body arms) =
        joined w (expr_calls c e) (stmts_calls c body ++ arms_calls c arms) _
        (stmts_length u body + arms_length u arms) _ (expr_holds e)
        (joined w (stmts_calls c body) (arms_calls c arms) _ _ _ (stmts_hold body) (arms_hold arms) (omega arith))
        (omega arith)

    case_hold : (arms : SlotCaseArms) → Holds w (case_calls c arms) (case_length u arms)
    case_hold no_case_arms = omega arith
    case_hold (case_arm_then labels body arms) =
        joined w (stmts_calls c body) (case_calls c arms) _ _ _ (stmts_hold body) (case_hold arms) (omega arith)

-- nothing is left out
abbrev all_kept : SlotLibrary → KeptLibrary
all_kept whole = record { functions = map Some whole.functions; blocks = map Some whole.blocks }

-- an element of a list, kept
abbrev kept_of : {A : Type 0} → Option A → Option (Option A)
kept_of None = None
kept_of (Some x) = Some (Some x)

each_kept : {A : Type 0} (xs : List A) (i : ℕ) → slice_get (map Some xs) i ≡ kept_of (slice_get xs i)
each_kept xs i = slice_get-map Some xs i ∙ by_element (slice_get xs i)
  where
    by_element : {A : Type 0} (o : Option A) → option_map Some o ≡ kept_of o
    by_element None = refl
    by_element (Some x) = refl

still_there : {A : Type 0} (o : Option A) (x : A) → kept_of o ≡ Some (Some x) → o ≡ Some x
still_there None x h = absurd (cc)
still_there (Some y) x h = cc

all_is_kept : (whole : SlotLibrary) → IsKeptOf (all_kept whole) whole
all_is_kept whole = record {
  functions = λ i f h. still_there (slice_get whole.functions i) f (sym (each_kept whole.functions i) ∙ h);
  blocks = λ i b h. still_there (slice_get whole.blocks i) b (sym (each_kept whole.blocks i) ∙ h);
}

module _ (whole : SlotLibrary) where
  abbrev Contained : ℕ → Type 0
  Contained n = Contains (values_at whole) (units_calls whole n) (units_length (all_kept whole) n)

  function_contained : (n : ℕ) → Contained n → (i : ℕ) (o : Option SlotFunction) → slice_get whole.functions i ≡ o
      → Holds (values_at whole) (function_calls (units_calls whole n) i o)
      (if_function_length (units_length (all_kept whole) n) (kept_of o))
  function_contained n h i None is = omega arith
  function_contained n h i (Some f) is =
      let body = stmts_hold (values_at whole) (units_calls whole n) (units_length (all_kept whole) n) h f.body in
      let own : values_at whole i ≡ length f.fresh = ap values_of_function is in
      omega (arith, body, own)

  body_contained : (n : ℕ) → Contained n → (o : Option SlotStmts)
      → Holds (values_at whole) (body_calls (units_calls whole n) o)
      (if_body_length (units_length (all_kept whole) n) (kept_of o))
  body_contained n h None = omega arith
  body_contained n h (Some body) =
      stmts_hold (values_at whole) (units_calls whole n) (units_length (all_kept whole) n) h body

  block_contained : (n : ℕ) → Contained n → (b : BlockCode)
      → Holds (values_at whole) (block_calls whole (units_calls whole n) b)
      (block_length (units_length (all_kept whole) n) (all_kept whole) b)
  block_contained n h (standard_block b) = omega arith
  block_contained n h (own_block i) =
      subst (λ o. Holds (values_at whole) (body_calls (units_calls whole n) (slice_get whole.blocks i))
      (if_body_length (units_length (all_kept whole) n) o)) (sym (each_kept whole.blocks i))
      (body_contained n h (slice_get whole.blocks i))

  units_contained : (n : ℕ) → Contained n
  unfolding units_calls units_length
  units_contained zero = record { functions = λ f. omega arith; blocks = λ b. omega arith }
  units_contained (suc n) = record {
    functions = λ f.
        subst (λ o. Holds (values_at whole)
        (function_calls (units_calls whole n) f (slice_get whole.functions f))
        (if_function_length (units_length (all_kept whole) n) o)) (sym (each_kept whole.functions f))
        (function_contained n (units_contained n) f (slice_get whole.functions f) refl);
    blocks = λ b. block_contained n (units_contained n) b;
  }

  -- Code of a program has two instructions at least for each value with which the calls in it begin.
  pub code_holds_calls : (base size : ℕ) (body : SlotStmts) (n : ℕ)
      → 2 * sum_of (values_at whole) (stmts_calls (units_calls whole n) body)
      ≤ length (program_code whole base size body n)
  code_holds_calls base size body n =
      let calls = stmts_hold (values_at whole) (units_calls whole n) (units_length (all_kept whole) n)
      (units_contained n) body in
      let long = program_long (all_kept whole) whole (all_is_kept whole) base size body n in
      omega (arith, calls, long)
