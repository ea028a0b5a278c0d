-- If lists fit, so do their elements, and nothing fits a unit that is left out.
use Rattle.std.proofs.Common.{◌≡◌, ℕ, zero, suc, ◌+◌, ◌-◌, ◌<◌, ◌≤◌, List, [], ◌∷◌, length, get_or, map, sym, subst}
use Rattle.std.proofs.Common.{ap}
use Rattle.std.proofs.Common.{◌∙◌, arith, Option, Some, None, option_map, refl}
use Rattle.std.specs.Prelude.{slice_get}
use Rattle.std.proofs.lemmas.Option.{slice_get-map}
use Rattle.slot_trees.specs.declared.expression.SlotExpr as code_expr
use Rattle.slot_trees.specs.declared.expression.Subscript as code_subscript
use Rattle.slot_trees.specs.declared.statement.SlotStmt as code_stmt
use Rattle.slot_trees.specs.declared.statement.SlotArgument as code_argument
use Rattle.slot_trees.specs.declared.statement.SlotArgument.TheVariants.{Given, Copied}
use Rattle.slot_trees.specs.declared.statement.SlotArm as code_arm
use Rattle.slot_trees.specs.declared.statement.SlotCaseArm as code_case_arm
use Rattle.slot_trees.specs.Chains.{exprs_of, subscripts_of, stmts_of, arms_of, case_arms_of, Subscript}
use Rattle.slot_trees.specs.ExpressionViews.{slot_expr_view, place_view, subscript_view}
use Rattle.slot_trees.specs.LibraryViews.{KeptLibrary}
use Rattle.slot_trees.specs.StatementViews.{slot_argument_view, slot_stmt_view, slot_stmts_view, slot_arm_view}
use Rattle.slot_trees.specs.StatementViews.{slot_case_arm_view}
use Rattle.slot_trees.specs.SlotTrees.{BlockCode, own_block, standard_block, SlotArgument, given, copied}
use Rattle.slot_trees.specs.SlotTrees.{SlotFunction, SlotLibrary}
use Rattle.slot_trees.specs.SlotTrees.{SlotStmts}
use Rattle.st_meaning.specs.StandardBlocks.{StandardBlock}
use Rattle.machine_code.specs.Codes.{given_members}
use Rattle.machine_code.specs.Fitting.{UnitCall, of_function, of_block, AllBelow, ExprFits, ExprsFit, PlaceFits}
use Rattle.machine_code.specs.Fitting.{SubscriptsFit, ArgumentsFit, StmtFits, StmtsFit, ArmsFit, CaseArmsFit}
use Rattle.machine_code.specs.Fitting.{CallFitsWithin, FunctionFits, IfFunctionFits, IfBodyFits, InstanceFits}
use Rattle.machine_code.specs.UnitFrames.{UnitFrame}
use Rattle.st_compile.specs.Emitting.{InputsFit, OutputsFit, filled, or_unfit_function, or_unfit_body}
use Rattle.st_compile.specs.Lengths.{units_length, if_function_length, if_body_length, block_length, stmts_length}
use Rattle.st_compile.proofs.Elements.{subscript_seen}

-- a call one level deeper
pub function_fits_below : (memory : ℕ) (library : SlotLibrary) (n d f start count : ℕ) (o : Option SlotFunction)
    → suc d ≡ n → slice_get library.functions f ≡ o → CallFitsWithin memory library n (of_function f start count)
    → IfFunctionFits (CallFitsWithin memory library d) memory o start count
unfolding CallFitsWithin
function_fits_below memory library n d f start count o e at h =
    subst (λ x. IfFunctionFits (CallFitsWithin memory library d) memory x start count) at
    (subst (λ m. CallFitsWithin memory library m (of_function f start count)) (sym e) h)

pub block_fits_below : (memory : ℕ) (library : SlotLibrary) (n d : ℕ) (b : BlockCode) (s : UnitFrame) → suc d ≡ n
    → CallFitsWithin memory library n (of_block b s) → InstanceFits (CallFitsWithin memory library d) library b s
unfolding CallFitsWithin
block_fits_below memory library n d b s e h =
    subst (λ m. CallFitsWithin memory library m (of_block b s)) (sym e) h

pub body_fits_below : (memory : ℕ) (library : SlotLibrary) (n d number : ℕ) (block : BlockCode) (body : SlotStmts)
    (s : UnitFrame) → suc d ≡ n → block ≡ own_block number → slice_get library.blocks number ≡ Some body
    → CallFitsWithin memory library n (of_block block s) → StmtsFit (CallFitsWithin memory library d) s body
body_fits_below memory library n d number block body s e of at h =
    rw at at (rw of at (block_fits_below memory library n d block s e h))

-- a unit that is left out fits nothing
pub no_function_fits : (memory : ℕ) (kept : KeptLibrary) (n d f start count : ℕ) → suc d ≡ n
    → slice_get kept.functions f ≡ Some None → CallFitsWithin memory (filled kept) n (of_function f start count) → ⊥
no_function_fits memory kept n d f start count e none h =
    let there : slice_get (filled kept).functions f ≡ Some (or_unfit_function None) =
    slice_get-map or_unfit_function kept.functions f ∙ ap (option_map or_unfit_function) none in
    let fits = function_fits_below memory (filled kept) n d f start count (Some (or_unfit_function None)) e there h in
    let result = fits.result in
    omega arith

pub no_body_fits : (memory : ℕ) (kept : KeptLibrary) (n d number : ℕ) (block : BlockCode) (s : UnitFrame) → suc d ≡ n
    → block ≡ own_block number → slice_get kept.blocks number ≡ Some None
    → CallFitsWithin memory (filled kept) n (of_block block s) → ⊥
no_body_fits memory kept n d number block s e of none h =
    let there : slice_get (filled kept).blocks number ≡ Some (or_unfit_body None) =
    slice_get-map or_unfit_body kept.blocks number ∙ ap (option_map or_unfit_body) none in
    let fits = body_fits_below memory (filled kept) n d number block (or_unfit_body None) s e of there h in
    fits.0.0

-- how many instructions a call has, one level deeper
pub functions_length : (kept : KeptLibrary) (n d f : ℕ) (o : Option (Option SlotFunction)) → suc d ≡ n
    → slice_get kept.functions f ≡ o
    → (units_length kept n).functions f ≡ if_function_length (units_length kept d) o
unfolding units_length
functions_length kept n d f o e at =
    subst (λ x. (units_length kept n).functions f ≡ if_function_length (units_length kept d) x) at
    (subst (λ m. (units_length kept m).functions f
    ≡ if_function_length (units_length kept d) (slice_get kept.functions f)) e refl)

pub blocks_length : (kept : KeptLibrary) (n d : ℕ) (b : BlockCode) → suc d ≡ n
    → (units_length kept n).blocks b ≡ block_length (units_length kept d) kept b
unfolding units_length
blocks_length kept n d b e = subst (λ m. (units_length kept m).blocks b ≡ block_length (units_length kept d) kept b)
    e refl

-- a standard block is one instruction, and a block of the text has those of its body
pub standard_length : (kept : KeptLibrary) (n d : ℕ) (block : BlockCode) (b : StandardBlock) → suc d ≡ n
    → block ≡ standard_block b → (units_length kept n).blocks block ≡ 1
standard_length kept n d block b e of =
    blocks_length kept n d block e ∙ ap (block_length (units_length kept d) kept) of

pub own_length : (kept : KeptLibrary) (n d number : ℕ) (block : BlockCode) (body : SlotStmts) → suc d ≡ n
    → block ≡ own_block number → slice_get kept.blocks number ≡ Some (Some body)
    → (units_length kept n).blocks block ≡ stmts_length (units_length kept d) body
own_length kept n d number block body e of at =
    blocks_length kept n d block e ∙ ap (block_length (units_length kept d) kept) of
    ∙ ap (if_body_length (units_length kept d)) at

module _ (C : UnitCall → Type 0) (s : UnitFrame) where
  pub inputs_fit : (at : ℕ) (xs : List SlotArgument) → ArgumentsFit C s at xs → InputsFit C s at xs
  inputs_fit at [] h = tt
  inputs_fit at (given o e ∷ rest) h = (h.0, h.1, inputs_fit at rest h.2)
  inputs_fit at (copied o p ∷ rest) h = inputs_fit at rest h.2

  pub outputs_fit : (at : ℕ) (xs : List SlotArgument) → ArgumentsFit C s at xs → OutputsFit C s at xs
  outputs_fit at [] h = tt
  outputs_fit at (given o e ∷ rest) h = outputs_fit at rest h.2
  outputs_fit at (copied o p ∷ rest) h = (h.0, h.1, outputs_fit at rest h.2)

  pub members_fit : (at n : ℕ) (xs : List SlotArgument) → s.size ≤ at + n → ArgumentsFit C s at xs
      → AllBelow n (given_members xs)
  members_fit at n [] le h = tt
  members_fit at n (given o e ∷ rest) le h = (let lt = h.0 in omega arith, members_fit at n rest le h.2)
  members_fit at n (copied o p ∷ rest) le h = members_fit at n rest le h.2

  pub expr_fits : (es : List code_expr.SlotExpr) (k : ℕ) (e : code_expr.SlotExpr) → k < length es
      → e ≡ get_or es k e → ExprsFit C s (exprs_of (map slot_expr_view es)) → ExprFits C s (slot_expr_view e)
  expr_fits [] k e lt is h = absurd (omega arith)
  expr_fits (x ∷ xs) zero e lt is h = subst (λ y. ExprFits C s (slot_expr_view y)) (sym is) h.0
  expr_fits (x ∷ xs) (suc k) e lt is h = expr_fits xs k e (omega arith) is h.1

  pub subscript_fits : (ss : List code_subscript.Subscript) (k : ℕ) (x : code_subscript.Subscript) → k < length ss
      → x ≡ get_or ss k x → SubscriptsFit C s (subscripts_of (map subscript_view ss))
      → ExprFits C s (slot_expr_view x.index)
  subscript_fits [] k e lt is h = absurd (omega arith)
  subscript_fits (x ∷ xs) zero e lt is h =
      subst (λ (y : code_subscript.Subscript). ExprFits C s (slot_expr_view y.index)) (sym is)
      (subst (λ (y : Subscript). ExprFits C s y.index) (subscript_seen x) h.0)
  subscript_fits (x ∷ xs) (suc k) e lt is h = subscript_fits xs k e (omega arith) is h.1

  -- the demands on an argument that is given, and on one that is copied
  abbrev pub InputFits : ℕ → code_argument.SlotArgument → Type 0
  InputFits at (Given o e) = (at + o < s.size) × ExprFits C s (slot_expr_view e)
  InputFits at (Copied o p) = Unit {0}

  abbrev pub OutputFits : ℕ → code_argument.SlotArgument → Type 0
  OutputFits at (Given o e) = Unit {0}
  OutputFits at (Copied o p) = (at + o < s.size) × PlaceFits C s (place_view p)

  pub input_fits : (xs : List code_argument.SlotArgument) (k at : ℕ) (a b : code_argument.SlotArgument) → k < length
      xs
      → a ≡ get_or xs k a → a ≡ b → InputsFit C s at (map slot_argument_view xs) → InputFits at b
  input_fits [] k at a b lt is of h = absurd (omega arith)
  input_fits (Given p f ∷ xs) zero at a b lt is of h = subst (λ y. InputFits at y) (sym is ∙ of) (h.0, h.1)
  input_fits (Copied p f ∷ xs) zero at a b lt is of h = subst (λ y. InputFits at y) (sym is ∙ of) tt
  input_fits (Given p f ∷ xs) (suc k) at a b lt is of h = input_fits xs k at a b (omega arith) is of h.2
  input_fits (Copied p f ∷ xs) (suc k) at a b lt is of h = input_fits xs k at a b (omega arith) is of h

  pub output_fits : (xs : List code_argument.SlotArgument) (k at : ℕ) (a b : code_argument.SlotArgument) → k < length
      xs
      → a ≡ get_or xs k a → a ≡ b → OutputsFit C s at (map slot_argument_view xs) → OutputFits at b
  output_fits [] k at a b lt is of h = absurd (omega arith)
  output_fits (Given p f ∷ xs) zero at a b lt is of h = subst (λ y. OutputFits at y) (sym is ∙ of) tt
  output_fits (Copied p f ∷ xs) zero at a b lt is of h = subst (λ y. OutputFits at y) (sym is ∙ of) (h.0, h.1)
  output_fits (Given p f ∷ xs) (suc k) at a b lt is of h = output_fits xs k at a b (omega arith) is of h
  output_fits (Copied p f ∷ xs) (suc k) at a b lt is of h = output_fits xs k at a b (omega arith) is of h.2

  pub stmt_fits : (xs : List code_stmt.SlotStmt) (k : ℕ) (x : code_stmt.SlotStmt) → k < length xs
      → x ≡ get_or xs k x → StmtsFit C s (stmts_of (map slot_stmt_view xs)) → StmtFits C s (slot_stmt_view x)
  stmt_fits [] k y lt is h = absurd (omega arith)
  stmt_fits (x ∷ xs) zero y lt is h = subst (λ z. StmtFits C s (slot_stmt_view z)) (sym is) h.0
  stmt_fits (x ∷ xs) (suc k) y lt is h = stmt_fits xs k y (omega arith) is h.1

  pub arm_fits : (xs : List code_arm.SlotArm) (k : ℕ) (a : code_arm.SlotArm) → k < length xs
      → a ≡ get_or xs k a → ArmsFit C s (arms_of (map slot_arm_view xs))
      → ExprFits C s (slot_expr_view a.condition) × StmtsFit C s (slot_stmts_view a.body.items)
  arm_fits [] k a lt is h = absurd (omega arith)
  arm_fits (x ∷ xs) zero a lt is h =
      subst (λ (y : code_arm.SlotArm). ExprFits C s (slot_expr_view y.condition)
      × StmtsFit C s (slot_stmts_view y.body.items)) (sym is) (h.0, h.1)
  arm_fits (x ∷ xs) (suc k) a lt is h = arm_fits xs k a (omega arith) is h.2

  pub case_fits : (xs : List code_case_arm.SlotCaseArm) (k : ℕ) (a : code_case_arm.SlotCaseArm) → k < length xs
      → a ≡ get_or xs k a → CaseArmsFit C s (case_arms_of (map slot_case_arm_view xs))
      → StmtsFit C s (slot_stmts_view a.body.items)
  case_fits [] k a lt is h = absurd (omega arith)
  case_fits (x ∷ xs) zero a lt is h =
      subst (λ (y : code_case_arm.SlotCaseArm). StmtsFit C s (slot_stmts_view y.body.items)) (sym is) h.0
  case_fits (x ∷ xs) (suc k) a lt is h = case_fits xs k a (omega arith) is h.1
