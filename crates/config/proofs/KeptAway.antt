-- Linked statements keep away from a slot if their control variables and the instances that they call do.
use Rattle.std.proofs.Common.{◌≡◌, subst, ap, ◌∙◌, ℕ, ◌+◌, List, [], ◌∷◌, Some}
use Rattle.std.specs.Prelude.{option_map, option_and_then}
use Rattle.st_types.specs.Statements as text
use Rattle.st_types.specs.Statements.{Argument, Stmt, Stmts, Arms, CaseArms}
use Rattle.st_meaning.specs.Scopes.{Name}
use Rattle.layout.specs.Shapes.{Parts}
use Rattle.slot_trees.specs.Linking.{linked, linked_target}
use Rattle.slot_trees.specs.LinkedStatements.{control_of, Instance, instance_of_symbol, offset_of, linked_argument}
use Rattle.slot_trees.specs.LinkedStatements.{linked_arguments, linked_step, block_code_of, linked_call_of, linked_stmt}
use Rattle.slot_trees.specs.LinkedStatements.{linked_stmts, linked_arms, linked_case_arms}
use Rattle.slot_trees.specs.SlotEvaluation.{slot_at}
use Rattle.slot_trees.specs.SlotTrees.{Anchor, BlockCode, SlotArgument, given, copied, SlotStmt, empty, assign, invoke}
use Rattle.slot_trees.specs.SlotTrees.{IF, CASE, FOR, WHILE, REPEAT, EXIT, RETURN, SlotStmts, no_stmts, stmt_then}
use Rattle.slot_trees.specs.SlotTrees.{SlotArms, no_arms, arm_then, SlotCaseArms, no_case_arms, case_arm_then}
use Rattle.slot_trees.specs.Tables.{Table, symbol_of, part_at}
use Rattle.machine_code.specs.Codes.{CodeUnits}
use Rattle.machine_code.specs.UnitFrames.{UnitFrame, slot_in}
use Rattle.config.proofs.CodeReads.{CopiesAvoid, BlockKeeps, StmtAvoids, StmtsAvoid, ArmsAvoid, CaseArmsAvoid}
use Rattle.config.proofs.Counters.{StmtCounts, StmtsCount, ArmsCount, CaseArmsCount}
use Rattle.st_types.proofs.OptionLemmas.{map_some, then_some}

-- a call of an instance of a block keeps code clean, and none of its outputs is in the slot
pub record InstanceAvoids (k : ℕ) (units : CodeUnits) (s : UnitFrame) (i : Instance) (code : BlockCode) : Type 0 where
  pub block : BlockKeeps k units s code (slot_at s.base i.anchor)
  pub outputs : (x : Name) (o : ℕ) → option_and_then offset_of (part_at i.members x) ≡ Some o
      → s.start + (slot_at s.base i.anchor + o) ≡ k → ⊥

module _ (k : ℕ) (units : CodeUnits) (s : UnitFrame) (t : Table) (Own : Name → Type 0)
    (control : (x : Name) (a : Anchor) → Own x → option_and_then control_of (symbol_of t.symbols x) ≡ Some a
    → slot_in s a ≡ k → ⊥)
    (instance : (x : Name) (i : Instance) (code : BlockCode)
    → option_and_then instance_of_symbol (symbol_of t.symbols x) ≡ Some i → block_code_of t x ≡ Some code
    → InstanceAvoids k units s i code) where
  copies_avoid : (ps : Parts) (at : ℕ) (rest : List Argument) (xs : List SlotArgument)
      → ((x : Name) (o : ℕ) → option_and_then offset_of (part_at ps x) ≡ Some o → s.start + (at + o) ≡ k → ⊥)
      → linked_arguments t ps rest ≡ Some xs → CopiesAvoid k units s at xs
  copies_avoid ps at [] xs apart h =
      let none : List SlotArgument = [] in
      let is : none ≡ xs = cc in
      subst (λ ys. CopiesAvoid k units s at ys) is tt
  copies_avoid ps at (text.given x e ∷ rest) xs apart h =
      let m = then_some (λ y. option_map (λ ys. y ∷ ys) (linked_arguments t ps rest))
      (linked_argument t ps (text.given x e)) xs h in
      let l = map_some (λ ys. m.0 ∷ ys) (linked_arguments t ps rest) xs m.2 in
      let n = then_some (λ o. option_map (given o) (linked t e)) (option_and_then offset_of (part_at ps x.name)) m.0
      m.1 in
      let j = map_some (given n.0) (linked t e) m.0 n.2 in
      subst (λ ys. CopiesAvoid k units s at ys) (ap (λ y. y ∷ l.0) j.2 ∙ l.2)
      (copies_avoid ps at rest l.0 apart l.1)
  copies_avoid ps at (text.copied x v ∷ rest) xs apart h =
      let m = then_some (λ y. option_map (λ ys. y ∷ ys) (linked_arguments t ps rest))
      (linked_argument t ps (text.copied x v)) xs h in
      let l = map_some (λ ys. m.0 ∷ ys) (linked_arguments t ps rest) xs m.2 in
      let n = then_some (λ o. option_map (copied o) (linked_target t v)) (option_and_then offset_of (part_at ps x.name))
      m.0 m.1 in
      let j = map_some (copied n.0) (linked_target t v) m.0 n.2 in
      subst (λ ys. CopiesAvoid k units s at ys) (ap (λ y. y ∷ l.0) j.2 ∙ l.2)
      (apart x.name n.0 n.1, copies_avoid ps at rest l.0 apart l.1)

  mutual
    stmt_avoids : (x : Stmt) (y : SlotStmt) → linked_stmt t x ≡ Some y → StmtCounts Own x → StmtAvoids k units s y
    stmt_avoids text.empty y h g = let is : empty ≡ y = cc in subst (λ z. StmtAvoids k units s z) is tt
    stmt_avoids (text.assign v e) y h g =
        let m = then_some (λ p. option_map (assign p) (linked t e)) (linked_target t v) y h in
        let l = map_some (assign m.0) (linked t e) y m.2 in
        subst (λ z. StmtAvoids k units s z) l.2 tt
    stmt_avoids (text.invoke x arguments) y h g =
        let m = then_some (linked_call_of t x.name arguments)
        (option_and_then instance_of_symbol (symbol_of t.symbols x.name)) y h in
        let n = then_some (λ code. option_map (invoke m.0.anchor code) (linked_arguments t m.0.members arguments))
        (block_code_of t x.name) y m.2 in
        let l = map_some (invoke m.0.anchor n.0) (linked_arguments t m.0.members arguments) y n.2 in
        let i = instance x.name m.0 n.0 m.1 n.1 in
        subst (λ z. StmtAvoids k units s z) l.2
        (i.block, copies_avoid m.0.members (slot_at s.base m.0.anchor) arguments l.0 i.outputs l.1)
    stmt_avoids (text.IF arms otherwise) y h g =
        let m = then_some (λ a. option_map (IF a) (linked_stmts t otherwise)) (linked_arms t arms) y h in
        let l = map_some (IF m.0) (linked_stmts t otherwise) y m.2 in
        subst (λ z. StmtAvoids k units s z) l.2 (arms_avoid arms m.0 m.1 g.0, stmts_avoid otherwise l.0 l.1 g.1)
    stmt_avoids (text.CASE e arms otherwise) y h g =
        let m = then_some (λ x. option_and_then (λ a. option_map (CASE x a) (linked_stmts t otherwise))
        (linked_case_arms t arms)) (linked t e) y h in
        let n = then_some (λ a. option_map (CASE m.0 a) (linked_stmts t otherwise)) (linked_case_arms t arms) y m.2 in
        let l = map_some (CASE m.0 n.0) (linked_stmts t otherwise) y n.2 in
        subst (λ z. StmtAvoids k units s z) l.2 (case_avoids arms n.0 n.1 g.0, stmts_avoid otherwise l.0 l.1 g.1)
    stmt_avoids (text.FOR x start limit step body) y h g =
        let a = then_some (λ a. option_and_then (λ i. option_and_then (λ n. option_and_then
        (λ d. option_map (FOR a i n d) (linked_stmts t body)) (linked_step t step)) (linked t limit)) (linked t start))
        (option_and_then control_of (symbol_of t.symbols x.name)) y h in
        let i = then_some (λ i. option_and_then (λ n. option_and_then
        (λ d. option_map (FOR a.0 i n d) (linked_stmts t body)) (linked_step t step)) (linked t limit)) (linked t start)
        y a.2 in
        let n = then_some (λ n. option_and_then (λ d. option_map (FOR a.0 i.0 n d) (linked_stmts t body))
        (linked_step t step)) (linked t limit) y i.2 in
        let d = then_some (λ d. option_map (FOR a.0 i.0 n.0 d) (linked_stmts t body)) (linked_step t step) y n.2 in
        let l = map_some (FOR a.0 i.0 n.0 d.0) (linked_stmts t body) y d.2 in
        subst (λ z. StmtAvoids k units s z) l.2 (control x.name a.0 g.0 a.1, stmts_avoid body l.0 l.1 g.1)
    stmt_avoids (text.WHILE e body) y h g =
        let m = then_some (λ x. option_map (WHILE x) (linked_stmts t body)) (linked t e) y h in
        let l = map_some (WHILE m.0) (linked_stmts t body) y m.2 in
        subst (λ z. StmtAvoids k units s z) l.2 (stmts_avoid body l.0 l.1 g)
    stmt_avoids (text.REPEAT body e) y h g =
        let m = then_some (λ x. option_map (λ b. REPEAT b x) (linked_stmts t body)) (linked t e) y h in
        let l = map_some (λ b. REPEAT b m.0) (linked_stmts t body) y m.2 in
        subst (λ z. StmtAvoids k units s z) l.2 (stmts_avoid body l.0 l.1 g)
    stmt_avoids (text.EXIT at) y h g = let is : EXIT ≡ y = cc in subst (λ z. StmtAvoids k units s z) is tt
    stmt_avoids text.RETURN y h g = let is : RETURN ≡ y = cc in subst (λ z. StmtAvoids k units s z) is tt

    pub stmts_avoid : (xs : Stmts) (ys : SlotStmts) → linked_stmts t xs ≡ Some ys → StmtsCount Own xs
        → StmtsAvoid k units s ys
    stmts_avoid text.no_stmts ys h g = let is : no_stmts ≡ ys = cc in subst (λ z. StmtsAvoid k units s z) is tt
    stmts_avoid (text.stmt_then x xs) ys h g =
        let m = then_some (λ y. option_map (stmt_then y) (linked_stmts t xs)) (linked_stmt t x) ys h in
        let l = map_some (stmt_then m.0) (linked_stmts t xs) ys m.2 in
        subst (λ z. StmtsAvoid k units s z) l.2 (stmt_avoids x m.0 m.1 g.0, stmts_avoid xs l.0 l.1 g.1)

    arms_avoid : (arms : Arms) (ys : SlotArms) → linked_arms t arms ≡ Some ys → ArmsCount Own arms
        → ArmsAvoid k units s ys
    arms_avoid text.no_arms ys h g = let is : no_arms ≡ ys = cc in subst (λ z. ArmsAvoid k units s z) is tt
    arms_avoid (text.arm_then e body arms) ys h g =
        let m = then_some (λ x. option_and_then (λ b. option_map (arm_then x b) (linked_arms t arms))
        (linked_stmts t body)) (linked t e) ys h in
        let n = then_some (λ b. option_map (arm_then m.0 b) (linked_arms t arms)) (linked_stmts t body) ys m.2 in
        let l = map_some (arm_then m.0 n.0) (linked_arms t arms) ys n.2 in
        subst (λ z. ArmsAvoid k units s z) l.2 (stmts_avoid body n.0 n.1 g.0, arms_avoid arms l.0 l.1 g.1)

    case_avoids : (arms : CaseArms) (ys : SlotCaseArms) → linked_case_arms t arms ≡ Some ys
        → CaseArmsCount Own arms → CaseArmsAvoid k units s ys
    case_avoids text.no_case_arms ys h g = let is : no_case_arms ≡ ys = cc in subst (λ z. CaseArmsAvoid k units s z) is tt
    case_avoids (text.case_arm_then labels body arms) ys h g =
        let m = then_some (λ b. option_map (case_arm_then labels b) (linked_case_arms t arms)) (linked_stmts t body)
        ys h in
        let l = map_some (case_arm_then labels m.0) (linked_case_arms t arms) ys m.2 in
        subst (λ z. CaseArmsAvoid k units s z) l.2 (stmts_avoid body m.0 m.1 g.0, case_avoids arms l.0 l.1 g.1)
