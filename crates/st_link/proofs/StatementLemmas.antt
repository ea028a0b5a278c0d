-- Statements, by their linked parts.
use Rattle.std.proofs.Common.{◌≡◌, refl, Option, Some, None, List}
use Rattle.std.specs.Prelude.{option_and_then, option_map}
use Rattle.st_types.specs.declared.identifier.Identifier.{Identifier}
use Rattle.st_types.specs.declared.statement.Label.{Label}
use Rattle.st_types.specs.Expressions.{Expr, Variable}
use Rattle.st_types.specs.Statements as texts
use Rattle.st_types.specs.Statements.{Stmts, Arms, CaseArms}
use Rattle.slot_trees.specs.SlotTrees.{Anchor, Place, SlotExpr, SlotStmts, SlotArms, SlotCaseArms}
use Rattle.slot_trees.specs.SlotTrees as slots
use Rattle.slot_trees.specs.Linking.{linked, linked_target}
use Rattle.slot_trees.specs.LinkedStatements.{control_of, linked_arms, linked_case_arms, linked_step, linked_stmt}
use Rattle.slot_trees.specs.LinkedStatements.{linked_stmts}
use Rattle.slot_trees.specs.Tables.{Table, symbol_of}
use Rattle.st_link.specs.Arms.{linked_arm, linked_case_arm}

module _ (t : Table) where
  pub no_target : (v : Variable) (e : Expr) → linked_target t v ≡ None → linked_stmt t (texts.assign v e) ≡ None
  no_target v e h = rw h refl

  pub no_value : (v : Variable) (e : Expr) (p : Place) → linked_target t v ≡ Some p → linked t e ≡ None
      → linked_stmt t (texts.assign v e) ≡ None
  no_value v e p h g = rw (h, g) refl

  pub choice : (arms : Arms) (others : Stmts) (a : SlotArms) (o : SlotStmts) → linked_arms t arms ≡ Some a
      → linked_stmts t others ≡ Some o → linked_stmt t (texts.IF arms others) ≡ Some (slots.IF a o)
  choice arms others a o h g = rw (h, g) refl

  pub no_choice : (arms : Arms) (others : Stmts) → linked_arms t arms ≡ None
      → linked_stmt t (texts.IF arms others) ≡ None
  no_choice arms others h = rw h refl

  pub no_otherwise : (arms : Arms) (others : Stmts) (a : SlotArms) → linked_arms t arms ≡ Some a
      → linked_stmts t others ≡ None → linked_stmt t (texts.IF arms others) ≡ None
  no_otherwise arms others a h g = rw (h, g) refl

  pub selection : (e : Expr) (arms : CaseArms) (others : Stmts) (x : SlotExpr) (a : SlotCaseArms) (o : SlotStmts)
      → linked t e ≡ Some x → linked_case_arms t arms ≡ Some a → linked_stmts t others ≡ Some o
      → linked_stmt t (texts.CASE e arms others) ≡ Some (slots.CASE x a o)
  selection e arms others x a o f h g = rw (f, h, g) refl

  pub no_selector : (e : Expr) (arms : CaseArms) (others : Stmts) → linked t e ≡ None
      → linked_stmt t (texts.CASE e arms others) ≡ None
  no_selector e arms others f = rw f refl

  pub no_selection : (e : Expr) (arms : CaseArms) (others : Stmts) (x : SlotExpr) → linked t e ≡ Some x
      → linked_case_arms t arms ≡ None → linked_stmt t (texts.CASE e arms others) ≡ None
  no_selection e arms others x f h = rw (f, h) refl

  pub no_other : (e : Expr) (arms : CaseArms) (others : Stmts) (x : SlotExpr) (a : SlotCaseArms)
      → linked t e ≡ Some x → linked_case_arms t arms ≡ Some a → linked_stmts t others ≡ None
      → linked_stmt t (texts.CASE e arms others) ≡ None
  no_other e arms others x a f h g = rw (f, h, g) refl

  module _ (x : Identifier) (start limit : Expr) (step : Option Expr) (body : Stmts) where
    pub counted : (a : Anchor) (i n : SlotExpr) (d : Option SlotExpr) (b : SlotStmts)
        → option_and_then control_of (symbol_of t.symbols x.name) ≡ Some a → linked t start ≡ Some i
        → linked t limit ≡ Some n → linked_step t step ≡ Some d → linked_stmts t body ≡ Some b
        → linked_stmt t (texts.FOR x start limit step body) ≡ Some (slots.FOR a i n d b)
    counted a i n d b h1 h2 h3 h4 h5 = rw (h1, h2, h3, h4, h5) refl

    pub no_control : option_and_then control_of (symbol_of t.symbols x.name) ≡ None
        → linked_stmt t (texts.FOR x start limit step body) ≡ None
    no_control h1 = rw h1 refl

    pub no_start : (a : Anchor) → option_and_then control_of (symbol_of t.symbols x.name) ≡ Some a
        → linked t start ≡ None → linked_stmt t (texts.FOR x start limit step body) ≡ None
    no_start a h1 h2 = rw (h1, h2) refl

    pub no_limit : (a : Anchor) (i : SlotExpr) → option_and_then control_of (symbol_of t.symbols x.name) ≡ Some a
        → linked t start ≡ Some i → linked t limit ≡ None
        → linked_stmt t (texts.FOR x start limit step body) ≡ None
    no_limit a i h1 h2 h3 = rw (h1, h2, h3) refl

    pub no_step : (a : Anchor) (i n : SlotExpr) → option_and_then control_of (symbol_of t.symbols x.name) ≡ Some a
        → linked t start ≡ Some i → linked t limit ≡ Some n → linked_step t step ≡ None
        → linked_stmt t (texts.FOR x start limit step body) ≡ None
    no_step a i n h1 h2 h3 h4 = rw (h1, h2, h3, h4) refl

    pub no_body : (a : Anchor) (i n : SlotExpr) (d : Option SlotExpr)
        → option_and_then control_of (symbol_of t.symbols x.name) ≡ Some a → linked t start ≡ Some i
        → linked t limit ≡ Some n → linked_step t step ≡ Some d → linked_stmts t body ≡ None
        → linked_stmt t (texts.FOR x start limit step body) ≡ None
    no_body a i n d h1 h2 h3 h4 h5 = rw (h1, h2, h3, h4, h5) refl

  pub while_no_condition : (e : Expr) (body : Stmts) → linked t e ≡ None
      → linked_stmt t (texts.WHILE e body) ≡ None
  while_no_condition e body h = rw h refl

  pub while_no_body : (e : Expr) (body : Stmts) (x : SlotExpr) → linked t e ≡ Some x → linked_stmts t body ≡ None
      → linked_stmt t (texts.WHILE e body) ≡ None
  while_no_body e body x h g = rw (h, g) refl

  pub until_no_condition : (e : Expr) (body : Stmts) → linked t e ≡ None
      → linked_stmt t (texts.REPEAT body e) ≡ None
  until_no_condition e body h = rw h refl

  pub until_no_body : (e : Expr) (body : Stmts) (x : SlotExpr) → linked t e ≡ Some x → linked_stmts t body ≡ None
      → linked_stmt t (texts.REPEAT body e) ≡ None
  until_no_body e body x h g = rw (h, g) refl

  pub no_condition : (a : texts.Arm) → linked t a.0 ≡ None → linked_arm t a ≡ None
  no_condition a h = rw h refl

  pub no_arm_body : (a : texts.Arm) (x : SlotExpr) → linked t a.0 ≡ Some x → linked_stmts t a.1 ≡ None
      → linked_arm t a ≡ None
  no_arm_body a x h g = rw (h, g) refl
