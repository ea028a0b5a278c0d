-- Code of statements one after another, and of the arms of an IF.
use Rattle.std.proofs.Common.{◌≡◌, ◌∙◌, ℕ, zero, suc, List, [], ◌∷◌, length, get_or, drop, map, true, false, refl, ap, subst, arith, ◌<◌, ◌≤◌, ◌+◌}
use Rattle.std.proofs.Common.{Result, Ok, Err, OnOk}
use Rattle.slot_trees.specs.declared.statement.SlotStmt as code_stmt
use Rattle.slot_trees.specs.declared.statement.SlotArm as code_arm
use Rattle.slot_trees.specs.Chains.{arms_of, stmts_of}
use Rattle.slot_trees.specs.ExpressionViews.{slot_expr_view}
use Rattle.slot_trees.specs.StatementViews.{slot_arm_view, slot_stmt_view, slot_stmts_view}
use Rattle.slot_trees.specs.SlotTrees.{SlotStmts, no_stmts, stmt_then}
use Rattle.quick_trees.specs.declared.noting.Noting.{Noting}
use Rattle.quick_trees.specs.declared.noting.Noting.TheVariants.{Exact, LookAhead, AssignmentAhead, BothAhead}
use Rattle.quick_trees.specs.declared.noting.Noting.TheVariants.{Looked, LookedAssignmentAhead, Assigned}
use Rattle.quick_trees.specs.Notes.{Implies, implies}
use Rattle.quick_trees.specs.Pieces.{IsTicked}
use Rattle.quick_trees.specs.Points.{AreNoted, LoopsBack, Joins, Refines, CodeRelation, Point, along, past_branch}
use Rattle.quick_trees.specs.QuickMemory.{Frame}
use Rattle.quick_trees.specs.UnitValues.{UnitValues}
use Rattle.quick_trees.specs.TreeCode.{AreArmsCode, Exits, IsTestedFor, QuickUnits, IsStmtCode, AreStmtsCode}
use Rattle.quick_code.specs.declared.quick_code.Way.{Way}
use Rattle.quick_checks.specs.declared.draft.Landing.{Landing}
use Rattle.quick_checks.specs.Checking.{landing_of}

tells_same : (n : Noting) → implies n n ≡ true
tells_same Exact = refl
tells_same LookAhead = refl
tells_same AssignmentAhead = refl
tells_same BothAhead = refl
tells_same Looked = refl
tells_same LookedAssignmentAhead = refl
tells_same Assigned = refl

pub tell_same : (ns : List Noting) → Implies ns ns
tell_same ns = record { each = λ k n e. (n, (e, tells_same n)) }

-- passing a branch at one point is the same at another one
pub passes_same : (x y z : Point) (past : ℕ) → x ≡ y → LoopsBack (past_branch x past) z
    → LoopsBack (past_branch y past) z
passes_same x y z past same h = subst (λ x. LoopsBack (past_branch x past) z) same h

pub meets_same : (p : Point) → Refines p p
meets_same p = record { place = refl; ahead = refl; noted = tell_same p.noted }

tells_on : (l m n : Noting) → implies l m ≡ true → implies m n ≡ true → implies l n ≡ true
tells_on Exact Exact n a b = b
tells_on LookAhead LookAhead n a b = b
tells_on AssignmentAhead AssignmentAhead n a b = b
tells_on BothAhead BothAhead n a b = b
tells_on Looked Looked n a b = b
tells_on LookedAssignmentAhead LookedAssignmentAhead n a b = b
tells_on Assigned m n a b = refl
tells_on Looked Exact Exact a b = refl
tells_on Looked LookAhead LookAhead a b = refl
tells_on LookedAssignmentAhead AssignmentAhead AssignmentAhead a b = refl
tells_on LookedAssignmentAhead BothAhead BothAhead a b = refl
tells_on l m n a b = absurd (cc)

pub meets_on : (p q r : Point) → Refines p q → Refines q r → Refines p r
meets_on p q r a b = record {
  place = a.place ∙ b.place;
  ahead = a.ahead ∙ b.ahead;
  noted = record {
    each = λ k n e.
        let m = b.noted.each k n e in
        let l = a.noted.each k m.0 m.1.0 in (l.0, (l.1.0, tells_on l.0 m.0 n l.1.1 m.1.1));
  };
}

module _ (f : Frame) (s : UnitValues) (units : QuickUnits) where
  -- statements come to each point at which less is known, too
  pub stmts_on : (xs : SlotStmts) (d : ℕ) (e : Exits) (p q r : Point) → AreStmtsCode f s units xs d e p q → Refines q r
      → AreStmtsCode f s units xs d e p r
  stmts_on no_stmts d e p q r h m = meets_on p q r h m
  stmts_on (stmt_then x xs) d e p q r h m = record {
    middle = h.middle;
    first = h.first;
    second = record {
      middle = h.second.middle;
      first = h.second.first;
      second = stmts_on xs d e h.second.middle q r h.second.second m;
    };
  }

  pub stmts_next : (xs : List code_stmt.SlotStmt) (k j : ℕ) (x : code_stmt.SlotStmt) (d : ℕ) (e : Exits)
      (p r t q : Point) → k < length xs → j ≡ k + 1 → x ≡ get_or xs k x → AreNoted f p r
      → IsStmtCode f s units (slot_stmt_view x) d e r t
      → AreStmtsCode f s units (stmts_of (map slot_stmt_view (drop j xs))) d e t q
      → AreStmtsCode f s units (stmts_of (map slot_stmt_view (drop k xs))) d e p q
  stmts_next [] k j x d e p r t q lt n is notes stands rest = absurd (omega arith)
  stmts_next (y ∷ ys) zero j x d e p r t q lt n is notes stands rest =
      let one : j ≡ 1 = omega arith in record {
        middle = r;
        first = notes;
        second = record {
          middle = t;
          first = subst (λ z. IsStmtCode f s units (slot_stmt_view z) d e r t) is stands;
          second = rw one at rest;
        };
      }
  stmts_next (y ∷ ys) (suc k) j x d e p r t q lt n is notes stands rest =
      let more : j ≡ suc (k + 1) = omega arith in
      stmts_next ys k (k + 1) x d e p r t q (omega arith) refl is notes stands (rw more at rest)

  pub stmts_over : (xs : List code_stmt.SlotStmt) (k d : ℕ) (e : Exits) (p : Point) → length xs ≤ k
      → AreStmtsCode f s units (stmts_of (map slot_stmt_view (drop k xs))) d e p p
  stmts_over [] zero d e p le = meets_same p
  stmts_over [] (suc k) d e p le = meets_same p
  stmts_over (y ∷ ys) zero d e p le = absurd (omega arith)
  stmts_over (y ∷ ys) (suc k) d e p le = stmts_over ys k d e p (omega arith)

  pub arms_next : (xs : List code_arm.SlotArm) (k j : ℕ) (x : code_arm.SlotArm) (otherwise : CodeRelation) (d : ℕ) (e : Exits)
      (p r t end q : Point) (w : Way) (past : ℕ) → k < length xs → j ≡ k + 1 → x ≡ get_or xs k x → AreNoted f p r
      → IsTestedFor f s units (slot_expr_view x.condition) false d r t w past
      → AreStmtsCode f s units (slot_stmts_view x.body.items) d e (past_branch t past) end → Joins f end q
      → AreArmsCode f s units (arms_of (map slot_arm_view (drop j xs))) otherwise d e (along t w) q
      → AreArmsCode f s units (arms_of (map slot_arm_view (drop k xs))) otherwise d e p q
  arms_next [] k j x otherwise d e p r t end q w past lt n is notes tested body joins rest = absurd (omega arith)
  arms_next (y ∷ ys) zero j x otherwise d e p r t end q w past lt n is notes tested body joins rest =
      let one : j ≡ 1 = omega arith in record {
        middle = r;
        first = notes;
        second = record {
          test = t;
          way = w;
          past = past;
          tested = subst (λ (z : code_arm.SlotArm). IsTestedFor f s units (slot_expr_view z.condition) false d r t w past)
              is tested;
          end = end;
          body = subst (λ (z : code_arm.SlotArm). AreStmtsCode f s units (slot_stmts_view z.body.items) d e
              (past_branch t past) end) is body;
          joins = joins;
          rest = rw one at rest;
        };
      }
  arms_next (y ∷ ys) (suc k) j x otherwise d e p r t end q w past lt n is notes tested body joins rest =
      let more : j ≡ suc (k + 1) = omega arith in
      arms_next ys k (k + 1) x otherwise d e p r t end q w past (omega arith) refl is notes tested body joins
      (rw more at rest)

  pub arms_over : (xs : List code_arm.SlotArm) (k : ℕ) (otherwise : CodeRelation) (d : ℕ) (e : Exits) (p q : Point)
      → length xs ≤ k → otherwise p q
      → AreArmsCode f s units (arms_of (map slot_arm_view (drop k xs))) otherwise d e p q
  arms_over [] zero otherwise d e p q le h = h
  arms_over [] (suc k) otherwise d e p q le h = h
  arms_over (y ∷ ys) zero otherwise d e p q le h = absurd (omega arith)
  arms_over (y ∷ ys) (suc k) otherwise d e p q le h = arms_over ys k otherwise d e p q (omega arith) h

-- a fact holds if a call went well, if it follows from that
pub on_ok_by : {T E Q : Type 0} (r : Result T E) → ((x : T) → r ≡ Ok x → Q) → OnOk r Q
on_ok_by (Ok x) h = h x refl
on_ok_by (Err e) h = tt

pub ticked : (Rest : CodeRelation) (p m q : Point) → p.ahead ≡ suc m.ahead → m ≡ record p { ahead = m.ahead } → Rest m q
    → IsTicked Rest p q
ticked Rest p m q t e h = record { behind = m.ahead; ticks = t; rest = subst (λ x. Rest x q) e h }

pub landing_is : (l : Landing) (ns : List Noting) → l.ahead ≡ 0 → l.noted.items ≡ ns
    → landing_of l ≡ record { place = l.place; ahead = 0; noted = ns }
landing_is l ns a n =
    let first : ℕ → Point = λ x. record { place = l.place; ahead = x; noted = l.noted.items } in
    let second : List Noting → Point = λ x. record { place = l.place; ahead = 0; noted = x } in
    ap first a ∙ ap second n
