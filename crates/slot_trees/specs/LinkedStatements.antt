-- From statements with names to statements with slots.
use Rattle.std.specs.Prelude.{ℕ, List, [], ◌∷◌, if◌then◌else◌, Option, Some, None, option_map, option_and_then}
use Rattle.st_types.specs.Expressions.{Expr}
use Rattle.st_types.specs.Statements as text
use Rattle.st_types.specs.Statements.{Argument, Stmt, Stmts, Arms, CaseArms}
use Rattle.st_meaning.specs.Scopes.{Name, block_named}
use Rattle.layout.specs.Shapes.{Shape, plain, array, parts, Parts}
use Rattle.slot_trees.specs.SlotTrees.{Anchor, SlotExpr, BlockCode, SlotArgument, given, copied, SlotStmt, empty}
use Rattle.slot_trees.specs.SlotTrees.{assign, invoke, IF, CASE, FOR, WHILE, REPEAT, EXIT, RETURN, SlotStmts, no_stmts}
use Rattle.slot_trees.specs.SlotTrees.{stmt_then, SlotArms, no_arms, arm_then, SlotCaseArms, no_case_arms}
use Rattle.slot_trees.specs.SlotTrees.{case_arm_then}
use Rattle.slot_trees.specs.Tables.{Symbol, Table, symbol_of, named_in, Part, part_at}
use Rattle.slot_trees.specs.Linking.{linked, linked_target}

-- the slot of a control variable: one that is elementary and isn't an input
abbrev pub plain_anchor : Anchor → Shape → Option Anchor
plain_anchor a (plain k) = Some a
plain_anchor a (array lower count sh) = None
plain_anchor a (parts w ps) = None

abbrev pub control_of : Symbol → Option Anchor
control_of y = if y.is_input then None else plain_anchor y.anchor y.shape

-- an instance: its first slot, and its members
pub record Instance : Type 0 where
  pub anchor : Anchor
  pub members : Parts

abbrev pub instance_at : Anchor → Shape → Option Instance
instance_at a (plain k) = None
instance_at a (array lower count sh) = None
instance_at a (parts w ps) = Some (record { anchor = a; members = ps })

abbrev pub instance_of_symbol : Symbol → Option Instance
instance_of_symbol y = if y.is_input then None else instance_at y.anchor y.shape

-- the offset of an elementary member
abbrev pub plain_offset : ℕ → Shape → Option ℕ
plain_offset o (plain k) = Some o
plain_offset o (array lower count sh) = None
plain_offset o (parts w ps) = None

abbrev pub offset_of : Part → Option ℕ
offset_of e = plain_offset e.offset e.shape

abbrev pub linked_argument : Table → Parts → Argument → Option SlotArgument
linked_argument t ps (text.given x e) =
    option_and_then (λ o. option_map (given o) (linked t e)) (option_and_then offset_of (part_at ps x.name))
linked_argument t ps (text.copied x v) =
    option_and_then (λ o. option_map (copied o) (linked_target t v)) (option_and_then offset_of (part_at ps x.name))

abbrev pub linked_arguments : Table → Parts → List Argument → Option (List SlotArgument)
linked_arguments t ps [] = Some []
linked_arguments t ps (a ∷ rest) =
    option_and_then (λ x. option_map (λ xs. x ∷ xs) (linked_arguments t ps rest)) (linked_argument t ps a)

abbrev pub linked_step : Table → Option Expr → Option (Option SlotExpr)
linked_step t None = Some None
linked_step t (Some e) = option_map Some (linked t e)

-- the block of an instance
abbrev pub block_code_of : Table → Name → Option BlockCode
block_code_of t x = option_and_then (named_in t.blocks) (block_named t.instances x)

-- a call of an instance, whose place and members are known
abbrev pub linked_call_of : Table → Name → List Argument → Instance → Option SlotStmt
linked_call_of t x arguments i =
    option_and_then (λ code. option_map (invoke i.anchor code) (linked_arguments t i.members arguments)) (block_code_of t x)

abbrev pub linked_invocation : Table → Name → List Argument → Option SlotStmt
linked_invocation t x arguments =
    option_and_then (linked_call_of t x arguments) (option_and_then instance_of_symbol (symbol_of t.symbols x))

abbrev mutual
  pub linked_stmt : Table → Stmt → Option SlotStmt
  linked_stmt t text.empty = Some empty
  linked_stmt t (text.assign v e) =
      option_and_then (λ p. option_map (assign p) (linked t e)) (linked_target t v)
  linked_stmt t (text.invoke x arguments) = linked_invocation t x.name arguments
  linked_stmt t (text.IF arms otherwise) =
      option_and_then (λ a. option_map (IF a) (linked_stmts t otherwise)) (linked_arms t arms)
  linked_stmt t (text.CASE e arms otherwise) =
      option_and_then (λ x. option_and_then (λ a. option_map (CASE x a) (linked_stmts t otherwise))
      (linked_case_arms t arms)) (linked t e)
  linked_stmt t (text.FOR x start limit step body) =
      option_and_then (λ a. option_and_then (λ i. option_and_then (λ n. option_and_then
      (λ d. option_map (FOR a i n d) (linked_stmts t body)) (linked_step t step)) (linked t limit)) (linked t start))
      (option_and_then control_of (symbol_of t.symbols x.name))
  linked_stmt t (text.WHILE e body) = option_and_then (λ x. option_map (WHILE x) (linked_stmts t body)) (linked t e)
  linked_stmt t (text.REPEAT body e) =
      option_and_then (λ x. option_map (λ b. REPEAT b x) (linked_stmts t body)) (linked t e)
  linked_stmt t (text.EXIT at) = Some EXIT
  linked_stmt t text.RETURN = Some RETURN

  pub linked_stmts : Table → Stmts → Option SlotStmts
  linked_stmts t text.no_stmts = Some no_stmts
  linked_stmts t (text.stmt_then x xs) =
      option_and_then (λ y. option_map (stmt_then y) (linked_stmts t xs)) (linked_stmt t x)

  pub linked_arms : Table → Arms → Option SlotArms
  linked_arms t text.no_arms = Some no_arms
  linked_arms t (text.arm_then e body arms) =
      option_and_then (λ x. option_and_then (λ b. option_map (arm_then x b) (linked_arms t arms))
      (linked_stmts t body)) (linked t e)

  pub linked_case_arms : Table → CaseArms → Option SlotCaseArms
  linked_case_arms t text.no_case_arms = Some no_case_arms
  linked_case_arms t (text.case_arm_then labels body arms) =
      option_and_then (λ b. option_map (case_arm_then labels b) (linked_case_arms t arms)) (linked_stmts t body)
