-- Code is made of linked statements.
use Rattle.std.proofs.Common.{◌≡◌, ℕ, ◌+◌, ◌<◌, ◌≤◌, List, [], ◌∷◌, Option, Some, None}
use Rattle.std.proofs.Common.{refl, subst, ap, ◌∙◌, arith}
use Rattle.std.specs.Prelude.{option_map, option_and_then}
use Rattle.st_types.specs.Expressions.{Expr}
use Rattle.st_types.specs.Statements as text
use Rattle.st_types.specs.Statements.{Argument, Stmt, Stmts, Arms, CaseArms}
use Rattle.st_meaning.specs.Scopes.{Name}
use Rattle.layout.specs.Shapes.{Shape, plain, array, parts, Parts, size, sizes}
use Rattle.slot_trees.specs.Linking.{linked, linked_target}
use Rattle.slot_trees.specs.LinkedStatements.{plain_anchor, control_of, Instance, instance_at, instance_of_symbol}
use Rattle.slot_trees.specs.LinkedStatements.{plain_offset, offset_of, linked_argument, linked_arguments, linked_step}
use Rattle.slot_trees.specs.LinkedStatements.{block_code_of, linked_call_of, linked_stmt, linked_stmts}
use Rattle.slot_trees.specs.LinkedStatements.{linked_arms, linked_case_arms}
use Rattle.slot_trees.specs.SlotEvaluation.{slot_at}
use Rattle.slot_trees.specs.SlotTrees.{Anchor, SlotExpr, SlotArgument, given, copied, SlotStmt, empty, assign, invoke}
use Rattle.slot_trees.specs.SlotTrees.{IF, CASE, FOR, WHILE, REPEAT, EXIT, RETURN, SlotStmts, no_stmts, stmt_then}
use Rattle.slot_trees.specs.SlotTrees.{SlotArms, no_arms, arm_then, SlotCaseArms, no_case_arms, case_arm_then}
use Rattle.slot_trees.specs.Tables.{Table, Symbol, symbol_of, part_at}
use Rattle.machine_code.specs.Fitting.{UnitCall}
use Rattle.machine_code.specs.UnitFrames.{UnitFrame}
use Rattle.st_compile.specs.Linked.{StepLinked, ArgumentsLinked, StmtLinked, StmtsLinked}
use Rattle.st_compile.specs.Linked.{ArmsLinked, CaseArmsLinked}
use Rattle.config.specs.Sound.{IsBounded, AreBounded, SymbolsWithin, StepSound, ArgumentsSound, StmtSound}
use Rattle.config.specs.Sound.{StmtsSound}
use Rattle.config.specs.Sound.{ArmsSound, CaseArmsSound}
use Rattle.config.proofs.Options.{unless_some}
use Rattle.config.proofs.Selected.{part_within, symbol_within}
use Rattle.config.proofs.LinkedBodies.{expr_linked, target_linked}
use Rattle.st_types.proofs.OptionLemmas.{map_some, then_some}

plain_anchor_is : (a b : Anchor) (sh : Shape) → plain_anchor a sh ≡ Some b → (a ≡ b) × (size sh ≡ 1)
plain_anchor_is a b (plain k) h = (cc, refl)
plain_anchor_is a b (array lower count sh) h = absurd (cc)
plain_anchor_is a b (parts w ps) h = absurd (cc)

plain_offset_is : (o p : ℕ) (sh : Shape) → plain_offset o sh ≡ Some p → (o ≡ p) × (size sh ≡ 1)
plain_offset_is o p (plain k) h = (cc, refl)
plain_offset_is o p (array lower count sh) h = absurd (cc)
plain_offset_is o p (parts w ps) h = absurd (cc)

-- an instance among the values of a unit
record InstanceWithin (s : UnitFrame) (i : Instance) : Type 0 where
  within : slot_at s.base i.anchor + sizes i.members ≤ s.size
  bounded : AreBounded i.members

member_within : (ps : Parts) (x : Name) (o : ℕ) → option_and_then offset_of (part_at ps x) ≡ Some o → AreBounded ps
    → o < sizes ps
member_within ps x o h bounded =
    let m = then_some offset_of (part_at ps x) o h in
    let w = part_within ps x m.0 m.1 bounded in
    let within = w.within in
    let p = plain_offset_is m.0.offset o m.0.shape m.2 in
    omega (arith, p.0, p.1)

module _ (C : UnitCall → Type 0) (s : UnitFrame) (t : Table) (small : s.size < 65536)
    (stands : SymbolsWithin s t.symbols) where
  control_within : (x : Name) (a : Anchor) → option_and_then control_of (symbol_of t.symbols x) ≡ Some a
      → slot_at s.base a < s.size
  control_within x a h =
      let m = then_some control_of (symbol_of t.symbols x) a h in
      let w = symbol_within s t.symbols x m.0 m.1 stands in
      let within = w.within in
      let free = unless_some m.0.is_input (plain_anchor m.0.anchor m.0.shape) a m.2 in
      let p = plain_anchor_is m.0.anchor a m.0.shape free in
      subst (λ b. slot_at s.base b < s.size) p.0 (omega (arith, p.1))

  instance_in : (y : Symbol) (sh : Shape) (i : Instance) → sh ≡ y.shape → instance_at y.anchor sh ≡ Some i
      → slot_at s.base y.anchor + size sh ≤ s.size → IsBounded sh → InstanceWithin s i
  instance_in y (plain k) i is h le bounded = absurd (cc)
  instance_in y (array lower count sh) i is h le bounded = absurd (cc)
  instance_in y (parts w ps) i is h le bounded =
      let made : Instance = record { anchor = y.anchor; members = ps } in
      let e : made ≡ i = cc in
      let l : InstanceWithin s made = record { within = le; bounded = bounded } in
      subst (λ z. InstanceWithin s z) e l

  instance_within : (x : Name) (i : Instance) → option_and_then instance_of_symbol (symbol_of t.symbols x) ≡ Some i
      → InstanceWithin s i
  instance_within x i h =
      let m = then_some instance_of_symbol (symbol_of t.symbols x) i h in
      let w = symbol_within s t.symbols x m.0 m.1 stands in
      let free = unless_some m.0.is_input (instance_at m.0.anchor m.0.shape) i m.2 in
      instance_in m.0 m.0.shape i refl free w.within w.bounded

  step_linked : (o : Option Expr) (x : Option SlotExpr) → linked_step t o ≡ Some x → StepSound C s t o
      → StepLinked C s x
  step_linked None x h g =
      let none : Option SlotExpr = None in
      let is : none ≡ x = cc in
      subst (λ y. StepLinked C s y) is tt
  step_linked (Some e) x h g =
      let m = map_some Some (linked t e) x h in
      subst (λ y. StepLinked C s y) m.2 (expr_linked C s t small stands e m.0 m.1 g)

  arguments_linked : (ps : Parts) (at : ℕ) (rest : List Argument) (xs : List SlotArgument) → at + sizes ps ≤ s.size
      → AreBounded ps → linked_arguments t ps rest ≡ Some xs → ArgumentsSound C s t rest
      → ArgumentsLinked C s at xs
  arguments_linked ps at [] xs le bounded h g =
      let none : List SlotArgument = [] in
      let is : none ≡ xs = cc in
      subst (λ ys. ArgumentsLinked C s at ys) is tt
  arguments_linked ps at (text.given x e ∷ rest) xs le bounded h g =
      let m = then_some (λ y. option_map (λ ys. y ∷ ys) (linked_arguments t ps rest))
      (linked_argument t ps (text.given x e)) xs h in
      let k = map_some (λ ys. m.0 ∷ ys) (linked_arguments t ps rest) xs m.2 in
      let n = then_some (λ o. option_map (given o) (linked t e)) (option_and_then offset_of (part_at ps x.name)) m.0
      m.1 in
      let j = map_some (given n.0) (linked t e) m.0 n.2 in
      let o = member_within ps x.name n.0 n.1 bounded in
      subst (λ ys. ArgumentsLinked C s at ys) (ap (λ y. y ∷ k.0) j.2 ∙ k.2)
      (omega arith, expr_linked C s t small stands e j.0 j.1 g.0, arguments_linked ps at rest k.0 le bounded k.1 g.1)
  arguments_linked ps at (text.copied x v ∷ rest) xs le bounded h g =
      let m = then_some (λ y. option_map (λ ys. y ∷ ys) (linked_arguments t ps rest))
      (linked_argument t ps (text.copied x v)) xs h in
      let k = map_some (λ ys. m.0 ∷ ys) (linked_arguments t ps rest) xs m.2 in
      let n = then_some (λ o. option_map (copied o) (linked_target t v)) (option_and_then offset_of (part_at ps x.name))
      m.0 m.1 in
      let j = map_some (copied n.0) (linked_target t v) m.0 n.2 in
      let o = member_within ps x.name n.0 n.1 bounded in
      subst (λ ys. ArgumentsLinked C s at ys) (ap (λ y. y ∷ k.0) j.2 ∙ k.2)
      (omega arith, target_linked C s t small stands v j.0 j.1 g.0, arguments_linked ps at rest k.0 le bounded k.1 g.1)

  mutual
    pub stmt_linked : (x : Stmt) (y : SlotStmt) → linked_stmt t x ≡ Some y → StmtSound C s t x → StmtLinked C s y
    stmt_linked text.empty y h g = let is : empty ≡ y = cc in subst (λ z. StmtLinked C s z) is tt
    stmt_linked (text.assign v e) y h g =
        let m = then_some (λ p. option_map (assign p) (linked t e)) (linked_target t v) y h in
        let k = map_some (assign m.0) (linked t e) y m.2 in
        subst (λ z. StmtLinked C s z) k.2
        (target_linked C s t small stands v m.0 m.1 g.0, expr_linked C s t small stands e k.0 k.1 g.1)
    stmt_linked (text.invoke x arguments) y h g =
        let m = then_some (linked_call_of t x.name arguments)
        (option_and_then instance_of_symbol (symbol_of t.symbols x.name)) y h in
        let n = then_some (λ code. option_map (invoke m.0.anchor code) (linked_arguments t m.0.members arguments))
        (block_code_of t x.name) y m.2 in
        let k = map_some (invoke m.0.anchor n.0) (linked_arguments t m.0.members arguments) y n.2 in
        let w = instance_within x.name m.0 m.1 in
        let within = w.within in
        subst (λ z. StmtLinked C s z) k.2 (
          omega arith,
          g.0 n.0 m.0 n.1 m.1,
          arguments_linked m.0.members
              (slot_at s.base m.0.anchor) arguments k.0 within w.bounded k.1 g.1,
        )
    stmt_linked (text.IF arms otherwise) y h g =
        let m = then_some (λ a. option_map (IF a) (linked_stmts t otherwise)) (linked_arms t arms) y h in
        let k = map_some (IF m.0) (linked_stmts t otherwise) y m.2 in
        subst (λ z. StmtLinked C s z) k.2 (arms_linked arms m.0 m.1 g.0, stmts_linked otherwise k.0 k.1 g.1)
    stmt_linked (text.CASE e arms otherwise) y h g =
        let m = then_some (λ x. option_and_then (λ a. option_map (CASE x a) (linked_stmts t otherwise))
        (linked_case_arms t arms)) (linked t e) y h in
        let n = then_some (λ a. option_map (CASE m.0 a) (linked_stmts t otherwise)) (linked_case_arms t arms) y m.2 in
        let k = map_some (CASE m.0 n.0) (linked_stmts t otherwise) y n.2 in
        subst (λ z. StmtLinked C s z) k.2 (
          expr_linked C s t small stands e m.0 m.1 g.0,
          case_linked arms n.0 n.1 g.1,
          stmts_linked otherwise k.0 k.1 g.2,
        )
    stmt_linked (text.FOR x start limit step body) y h g =
        let a = then_some (λ a. option_and_then (λ i. option_and_then (λ n. option_and_then
        (λ d. option_map (FOR a i n d) (linked_stmts t body)) (linked_step t step)) (linked t limit)) (linked t start))
        (option_and_then control_of (symbol_of t.symbols x.name)) y h in
        let i = then_some (λ i. option_and_then (λ n. option_and_then
        (λ d. option_map (FOR a.0 i n d) (linked_stmts t body)) (linked_step t step)) (linked t limit)) (linked t start)
        y a.2 in
        let n = then_some (λ n. option_and_then (λ d. option_map (FOR a.0 i.0 n d) (linked_stmts t body))
        (linked_step t step)) (linked t limit) y i.2 in
        let d = then_some (λ d. option_map (FOR a.0 i.0 n.0 d) (linked_stmts t body)) (linked_step t step) y n.2 in
        let k = map_some (FOR a.0 i.0 n.0 d.0) (linked_stmts t body) y d.2 in
        subst (λ z. StmtLinked C s z) k.2 (
          control_within x.name a.0 a.1,
          expr_linked C s t small stands start i.0 i.1 g.0,
          expr_linked C s t small stands limit n.0 n.1 g.1,
          step_linked step d.0 d.1 g.2,
          stmts_linked body k.0 k.1 g.3,
        )
    stmt_linked (text.WHILE e body) y h g =
        let m = then_some (λ x. option_map (WHILE x) (linked_stmts t body)) (linked t e) y h in
        let k = map_some (WHILE m.0) (linked_stmts t body) y m.2 in
        subst (λ z. StmtLinked C s z) k.2 (expr_linked C s t small stands e m.0 m.1 g.0, stmts_linked body k.0 k.1 g.1)
    stmt_linked (text.REPEAT body e) y h g =
        let m = then_some (λ x. option_map (λ b. REPEAT b x) (linked_stmts t body)) (linked t e) y h in
        let k = map_some (λ b. REPEAT b m.0) (linked_stmts t body) y m.2 in
        subst (λ z. StmtLinked C s z) k.2 (stmts_linked body k.0 k.1 g.0, expr_linked C s t small stands e m.0 m.1 g.1)
    stmt_linked (text.EXIT at) y h g = let is : EXIT ≡ y = cc in subst (λ z. StmtLinked C s z) is tt
    stmt_linked text.RETURN y h g = let is : RETURN ≡ y = cc in subst (λ z. StmtLinked C s z) is tt

    pub stmts_linked : (xs : Stmts) (ys : SlotStmts) → linked_stmts t xs ≡ Some ys → StmtsSound C s t xs
        → StmtsLinked C s ys
    stmts_linked text.no_stmts ys h g = let is : no_stmts ≡ ys = cc in subst (λ z. StmtsLinked C s z) is tt
    stmts_linked (text.stmt_then x xs) ys h g =
        let m = then_some (λ y. option_map (stmt_then y) (linked_stmts t xs)) (linked_stmt t x) ys h in
        let k = map_some (stmt_then m.0) (linked_stmts t xs) ys m.2 in
        subst (λ z. StmtsLinked C s z) k.2 (stmt_linked x m.0 m.1 g.0, stmts_linked xs k.0 k.1 g.1)

    pub arms_linked : (arms : Arms) (ys : SlotArms) → linked_arms t arms ≡ Some ys → ArmsSound C s t arms
        → ArmsLinked C s ys
    arms_linked text.no_arms ys h g = let is : no_arms ≡ ys = cc in subst (λ z. ArmsLinked C s z) is tt
    arms_linked (text.arm_then e body arms) ys h g =
        let m = then_some (λ x. option_and_then (λ b. option_map (arm_then x b) (linked_arms t arms))
        (linked_stmts t body)) (linked t e) ys h in
        let n = then_some (λ b. option_map (arm_then m.0 b) (linked_arms t arms)) (linked_stmts t body) ys m.2 in
        let k = map_some (arm_then m.0 n.0) (linked_arms t arms) ys n.2 in
        subst (λ z. ArmsLinked C s z) k.2 (
          expr_linked C s t small stands e m.0 m.1 g.0,
          stmts_linked body n.0 n.1 g.1,
          arms_linked arms k.0 k.1 g.2,
        )

    pub case_linked : (arms : CaseArms) (ys : SlotCaseArms) → linked_case_arms t arms ≡ Some ys
        → CaseArmsSound C s t arms → CaseArmsLinked C s ys
    case_linked text.no_case_arms ys h g = let is : no_case_arms ≡ ys = cc in subst (λ z. CaseArmsLinked C s z) is tt
    case_linked (text.case_arm_then labels body arms) ys h g =
        let m = then_some (λ b. option_map (case_arm_then labels b) (linked_case_arms t arms)) (linked_stmts t body)
        ys h in
        let k = map_some (case_arm_then labels m.0) (linked_case_arms t arms) ys m.2 in
        subst (λ z. CaseArmsLinked C s z) k.2 (g.0, stmts_linked body m.0 m.1 g.1, case_linked arms k.0 k.1 g.2)
