-- The requirements on a body with names, so that code is made of its linked form.
use Rattle.std.specs.Prelude.{◌≡◌, ℕ, suc, ◌+◌, ◌<◌, ◌≤◌, List, [], ◌∷◌, Option, Some, None}
use Rattle.std.specs.Prelude.{option_and_then}
use Rattle.st_types.specs.Expressions as named
use Rattle.st_types.specs.Expressions.{Expr, literal, read, parenthesis, Exprs, Variable, variable, member, subscript}
use Rattle.st_types.specs.Expressions.{Selectors, no_selectors, selector_then}
use Rattle.st_types.specs.Statements as text
use Rattle.st_types.specs.Statements.{Argument, Stmt, Stmts, Arms, CaseArms}
use Rattle.st_meaning.specs.NameTypes.{Declared}
use Rattle.st_meaning.specs.Operators.{value_of_literal}
use Rattle.layout.specs.LayoutVariables.{Owned}
use Rattle.layout.specs.TextLayouts.{variable_shape}
use Rattle.st_meaning.specs.Scopes.{Name}
use Rattle.st_meaning.specs.StandardFunctions.{Standard, standard_of}
use Rattle.layout.specs.Shapes.{Shape, plain, array, parts, Parts, no_parts, part_then, size}
use Rattle.slot_trees.specs.LinkedStatements.{Instance, instance_of_symbol, block_code_of}
use Rattle.slot_trees.specs.SlotEvaluation.{slot_at}
use Rattle.slot_trees.specs.SlotTrees.{BlockCode}
use Rattle.slot_trees.specs.Tables.{Symbol, Table, symbol_of, named_in}
use Rattle.machine_code.specs.Fitting.{UnitCall, of_function, of_block, IsValue}
use Rattle.machine_code.specs.UnitFrames.{UnitFrame, end_of, instance_frame}
use Rattle.st_compile.specs.Linked.{IsNumber, AreLabels}

-- each array has an element, and a lower bound that instructions hold
abbrev mutual
  pub IsBounded : Shape → Type 0
  IsBounded (plain k) = Unit {0}
  IsBounded (array lower count sh) = (0 < count) × IsNumber lower × IsBounded sh
  IsBounded (parts w ps) = AreBounded ps

  pub AreBounded : Parts → Type 0
  AreBounded no_parts = Unit {0}
  AreBounded (part_then x sh ps) = IsBounded sh × AreBounded ps

-- each array of a layout's variables is bounded so
abbrev pub AreBoundedVariables : Declared → List Owned → Type 0
AreBoundedVariables text [] = Unit {0}
AreBoundedVariables text (v ∷ vs) = IsBounded (variable_shape text v) × AreBoundedVariables text vs

-- variables lie among the values of a unit
abbrev pub SymbolsWithin : UnitFrame → List Symbol → Type 0
SymbolsWithin site [] = Unit {0}
SymbolsWithin site (y ∷ ys) =
    (slot_at site.base y.anchor + size y.shape ≤ site.size) × IsBounded y.shape × SymbolsWithin site ys

-- how many expressions there are
abbrev pub number_of_exprs : Exprs → ℕ
number_of_exprs named.no_exprs = 0
number_of_exprs (named.expr_then e es) = suc (number_of_exprs es)

module _ (CallLinked : UnitCall → Type 0) (site : UnitFrame) (t : Table) where
  -- a standard function has as few arguments as instructions hold, and code is made of the text's function of this name,
  -- with `count` arguments
  abbrev pub CallSound : Option Standard → Name → ℕ → Type 0
  CallSound (Some standard) f count = count < 65536
  CallSound None f count = (i : ℕ) → named_in t.functions f ≡ Some i → CallLinked (of_function i (end_of site) count)

  abbrev mutual
    pub ExprSound : Expr → Type 0
    ExprSound (literal l) = IsValue (value_of_literal l)
    ExprSound (read v) = VariableSound v
    ExprSound (named.call f es) = ExprsSound es × CallSound (standard_of f.name) f.name (number_of_exprs es)
    ExprSound (parenthesis at e) = ExprSound e
    ExprSound (named.unary op at e) = ExprSound e
    ExprSound (named.binary op l r) = ExprSound l × ExprSound r

    pub ExprsSound : Exprs → Type 0
    ExprsSound named.no_exprs = Unit {0}
    ExprsSound (named.expr_then e es) = ExprSound e × ExprsSound es

    pub VariableSound : Variable → Type 0
    VariableSound (variable x xs) = SelectorsSound xs

    pub SelectorsSound : Selectors → Type 0
    SelectorsSound no_selectors = Unit {0}
    SelectorsSound (selector_then (member x) xs) = SelectorsSound xs
    SelectorsSound (selector_then (subscript e) xs) = ExprSound e × SelectorsSound xs

  abbrev pub StepSound : Option Expr → Type 0
  StepSound None = Unit {0}
  StepSound (Some e) = ExprSound e

  abbrev pub ArgumentsSound : List Argument → Type 0
  ArgumentsSound [] = Unit {0}
  ArgumentsSound (text.given x e ∷ rest) = ExprSound e × ArgumentsSound rest
  ArgumentsSound (text.copied x v ∷ rest) = VariableSound v × ArgumentsSound rest

  -- code is made of the block of an instance, wherever the instance is
  abbrev pub InstanceSound : Name → Type 0
  InstanceSound x = (code : BlockCode) (i : Instance) → block_code_of t x ≡ Some code
      → option_and_then instance_of_symbol (symbol_of t.symbols x) ≡ Some i
      → CallLinked (of_block code (instance_frame site (slot_at site.base i.anchor)))

  abbrev mutual
    pub StmtSound : Stmt → Type 0
    StmtSound text.empty = Unit {0}
    StmtSound (text.assign v e) = VariableSound v × ExprSound e
    StmtSound (text.invoke x arguments) = InstanceSound x.name × ArgumentsSound arguments
    StmtSound (text.IF arms otherwise) = ArmsSound arms × StmtsSound otherwise
    StmtSound (text.CASE e arms otherwise) = ExprSound e × CaseArmsSound arms × StmtsSound otherwise
    StmtSound (text.FOR x start limit step body) =
        ExprSound start × ExprSound limit × StepSound step × StmtsSound body
    StmtSound (text.WHILE e body) = ExprSound e × StmtsSound body
    StmtSound (text.REPEAT body e) = StmtsSound body × ExprSound e
    StmtSound (text.EXIT at) = Unit {0}
    StmtSound text.RETURN = Unit {0}

    pub StmtsSound : Stmts → Type 0
    StmtsSound text.no_stmts = Unit {0}
    StmtsSound (text.stmt_then x xs) = StmtSound x × StmtsSound xs

    pub ArmsSound : Arms → Type 0
    ArmsSound text.no_arms = Unit {0}
    ArmsSound (text.arm_then e body arms) = ExprSound e × StmtsSound body × ArmsSound arms

    pub CaseArmsSound : CaseArms → Type 0
    CaseArmsSound text.no_case_arms = Unit {0}
    CaseArmsSound (text.case_arm_then labels body arms) = AreLabels labels × StmtsSound body × CaseArmsSound arms
