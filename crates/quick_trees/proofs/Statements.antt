-- Code that stands for statements does what they mean.
use Rattle.std.proofs.Common.{◌≡◌, ℕ, ◌+◌, ◌-◌, ◌≤◌, ◌+ℤ◌, ℤ, Bool, true, false, Option, Some, None, refl, ap}
use Rattle.std.proofs.Common.{subst, ◌∙◌, arith, inl, inr}
use Rattle.std.specs.Prelude.{◌⊎◌, if◌then◌else◌, slice_get}
use Rattle.std.specs.List.{list_any}
use Rattle.st_types.specs.Words.{datum_at, number_at}
use Rattle.st_meaning.specs.Execution.{label_holds}
use Rattle.st_meaning.specs.Loops.{exits, goes_on, returns}
use Rattle.st_meaning.specs.Ticks.{Run, follow, give}
use Rattle.machine_code.specs.Tracking.{Tracked}
use Rattle.quick_code.specs.declared.quick_code.Way.{Way}
use Rattle.quick_code.specs.QuickRuns.{Left}
use Rattle.quick_code.specs.QuickSteps.{Memory, look, taken_if_any}
use Rattle.quick_code.specs.Words.{case_of}
use Rattle.slot_trees.specs.SlotTrees.{SlotArms, SlotCaseArms, SlotExpr, SlotStmt, SlotStmts, arm_then, assign, CASE}
use Rattle.slot_trees.specs.SlotTrees.{case_arm_then, empty, EXIT, FOR, IF, invoke, no_arms, no_case_arms, no_stmts}
use Rattle.slot_trees.specs.SlotTrees.{no_subscripts, place, REPEAT, RETURN, stmt_then, subscript_then, WHILE}
use Rattle.slot_trees.specs.SlotEvaluation.{slot_at}
use Rattle.machine_code.specs.MarkedEvaluation.{MarkedScope, marked_truth, marked_value}
use Rattle.machine_code.specs.MarkedExecution.{MarkedEnd, marked_assigning, marked_counting, marked_exec, marked_exec_all}
use Rattle.machine_code.specs.MarkedExecution.{marked_exec_arms, marked_exec_case, marked_guarded, marked_loop}
use Rattle.machine_code.specs.MarkedExecution.{marked_no_step, marked_until, marked_invoking}
use Rattle.quick_trees.specs.Pieces.{InSequence, IsArm, IsLoop, IsUntil}
use Rattle.quick_trees.specs.Points.{Joins, Refines, CodeRelation, along}
use Rattle.quick_trees.specs.QuickMemory.{EndsWellAt, Frame}
use Rattle.quick_trees.specs.UnitValues.{base_of}
use Rattle.quick_trees.specs.TreeCode.{AreArmsCode, IsChosenCode, Exits, IsAssignment, IsCase, IsChosen, IsFor, IsStored}
use Rattle.quick_trees.specs.TreeCode.{IsTestedFor, IsStmtCode, AreStmtsCode, part_by, IsStoredWithin, IsInvoked}
use Rattle.quick_trees.proofs.Stepping.{Follows, has_taken, stepped}
use Rattle.quick_trees.proofs.Memories.{spares_kept}
use Rattle.quick_trees.proofs.Elements.{narrow_number}
use Rattle.quick_trees.proofs.Settings.{Setting, scope_of}
use Rattle.quick_trees.proofs.Truths.{then_gives}
use Rattle.quick_trees.proofs.Reading.{Is, reads}
use Rattle.quick_trees.proofs.Running.{Does, HasRun, does_arm, does_assign, does_exit, does_nothing, does_return}
use Rattle.quick_trees.proofs.Running.{does_store_within, does_store, gives_same, in_turn, noting, run_joined, ticked}
use Rattle.quick_trees.proofs.Looping.{does_repeat, does_while}
use Rattle.quick_trees.proofs.Choosing.{does_choice}
use Rattle.quick_trees.proofs.Counting.{does_for}
use Rattle.quick_trees.proofs.Invoking.{does_invoke}

-- A way of a table was taken.
record HasSwitched (f : Frame) (e : Left) (o : Option Way) (m : Memory) (b : ℕ) : Type 0 where
  way : Way
  is : o ≡ Some way
  enough : way.ticks ≤ b
  ends : EndsWellAt f way.place m (b - way.ticks) e

has_switched : (f : Frame) (p : ℕ) (e : Left) (o : Option Way) (m : Memory) (b : ℕ)
    → Follows f p e (taken_if_any o m b) → HasSwitched f e o m b
has_switched f p e (Some w) m b h =
    let took = has_taken f p e w m b h in record { way = w; is = refl; enough = took.0; ends = took.1 }
has_switched f p e None m b h = absurd h

module _ (s : Setting) where
  abbrev z : MarkedScope
  z = scope_of s

  -- the statements that are chosen by the number of a selector
  module _ (x : SlotExpr) (d : ℕ) (e : Exits) (run : ℤ → Tracked → Run MarkedEnd) (Chosen : ℤ → CodeRelation)
      (does_chosen : (n : ℤ) → Does s (run n) d e (Chosen n)) where
    pub does_case : Does s (λ tr. λ b. follow (marked_value z tr x b) (λ r. run r.0.number r.1)) d e
        (IsCase s.frame (λ t. Is s x t d) Chosen)
    does_case p q r m tr b site is runs =
        let one = reads s x r.kind d r.selector p r.last r.reads m tr b site is runs in
        let w = look one.memory r.selector in
        let number : number_at r.kind w ≡ w = narrow_number r.kind w r.narrow in
        let went = has_switched s.frame r.last.place s.finish
        (slice_get s.frame.ways (r.first + case_of r.count (w +ℤ r.shift))) one.memory one.left
        (stepped s.frame r.last.place s.finish one.memory one.left _ one.ends r.stands) in
        let enough = went.enough in
        let rest = one.left - went.way.ticks in
        let same : rest + (r.last.ahead + went.way.ticks) ≡ one.left + r.last.ahead = omega arith in
        gives_same s (λ tr. λ b. follow (marked_value z tr x b) (λ r. run r.0.number r.1)) (run w) d e q m one.memory tr
        one.tracked (b + p.ahead) (one.left + r.last.ahead)
        (then_gives (marked_value z tr x (b + p.ahead)) (datum_at r.kind w, one.tracked) (one.left + r.last.ahead)
        (λ r. run r.0.number r.1) one.gives
        ∙ ap (λ n. run n one.tracked (one.left + r.last.ahead)) number)
        one.fewer (spares_kept s.frame s.site d m one.memory one.keeps)
        (subst (HasRun s (run w) d e q one.memory one.tracked) same
        (does_chosen w (along r.last went.way) q (r.chosen w went.way went.is) one.memory one.tracked rest site one.is
        went.ends))

  -- one part or another
  either : (run : Tracked → Run MarkedEnd) (d : ℕ) (e : Exits) (one other : CodeRelation) → Does s run d e one
      → Does s run d e other → Does s run d e (λ p q. one p q ⊎ other p q)
  either run d e one other does does_other p q (inl is) = does p q is
  either run d e one other does does_other p q (inr is) = does_other p q is

  -- a part that is joined to the rest
  joins_on : (run : Tracked → Run MarkedEnd) (d : ℕ) (e : Exits) (part : CodeRelation) → Does s run d e part
      → Does s run d e (InSequence part (Joins s.frame))
  joins_on run d e part does p q r m tr b site is runs =
      run_joined s run d e r.middle q m tr (b + p.ahead) r.second (does p r.middle r.first m tr b site is runs)

  one_of : (run go : Tracked → Run MarkedEnd) (d : ℕ) (e : Exits) (part other : CodeRelation) (t : Bool) → Does s run d e part
      → Does s go d e other → Does s (λ tr. if t then run tr else go tr) d e (part_by t part other)
  one_of run go d e part other true does does_other = does
  one_of run go d e part other false does does_other = does_other

  mutual
    does_stmt : (x : SlotStmt) (d : ℕ) (e : Exits)
        → Does s (marked_exec z x) d e (IsStmtCode s.frame s.site s.units x d e)
    does_stmt empty d e = ticked s (λ tr. give (goes_on tr)) d e Refines (does_nothing s d e)
    does_stmt (assign (place a no_subscripts) y) d e =
        ticked s (marked_assigning z (place a no_subscripts) y) d e (IsAssignment s.frame s.site s.units a y d)
        (does_assign s a y d e)
    does_stmt (assign (place a (subscript_then i lower count stride no_subscripts)) y) d e =
        ticked s (marked_assigning z (place a (subscript_then i lower count stride no_subscripts)) y) d e
        (IsStored s.frame s.site s.units a i lower count stride y d) (does_store s a i lower count stride y d e)
    does_stmt (assign (place a (subscript_then i lower count stride (subscript_then j l c r ss))) y) d e =
        ticked s (marked_assigning z (place a (subscript_then i lower count stride (subscript_then j l c r ss))) y) d e
        (IsStoredWithin s.frame s.site s.units a i lower count stride (subscript_then j l c r ss) y d)
        (does_store_within s a i lower count stride (subscript_then j l c r ss) y d e)
    does_stmt (invoke a code arguments) d e =
        ticked s (marked_invoking z (slot_at (base_of s.site) a) code arguments) d e
        (IsInvoked s.frame s.site s.units a code arguments d) (does_invoke s a code arguments d e)
    does_stmt (IF arms otherwise) d e =
        ticked s (marked_exec_arms z arms (marked_exec_all z otherwise)) d e
        (λ p q. IsChosen s.frame s.site s.units arms otherwise d p q
        ⊎ AreArmsCode s.frame s.site s.units arms (AreStmtsCode s.frame s.site s.units otherwise d e) d e p q)
        (either (marked_exec_arms z arms (marked_exec_all z otherwise)) d e
        (IsChosen s.frame s.site s.units arms otherwise d)
        (AreArmsCode s.frame s.site s.units arms (AreStmtsCode s.frame s.site s.units otherwise d e) d e)
        (does_choice s arms otherwise d e) (does_arms arms otherwise d e (does_stmts otherwise d e)))
    does_stmt (CASE x arms otherwise) d e =
        ticked s (λ tr. λ b. follow (marked_value z tr x b)
        (λ r. marked_exec_case z r.0.number arms (marked_exec_all z otherwise) r.1)) d e
        (IsCase s.frame (λ t. Is s x t d) (λ n. IsChosenCode s.frame s.site s.units n arms
        (AreStmtsCode s.frame s.site s.units otherwise d e) d e))
        (does_case x d e (λ n. marked_exec_case z n arms (marked_exec_all z otherwise))
        (λ n. IsChosenCode s.frame s.site s.units n arms (AreStmtsCode s.frame s.site s.units otherwise d e) d e)
        (λ n. does_chosen n arms otherwise d e (does_stmts otherwise d e)))
    does_stmt (FOR a start limit step body) d e =
        ticked s (marked_counting z (slot_at (base_of s.site) a) start limit step (marked_exec_all z body)) d e
        (λ p q. IsFor s.frame s.site s.units (λ c. AreStmtsCode s.frame s.site s.units body c (record e { out = q }))
        a start limit step d p q)
        (λ p q r. does_for s a start limit step d e (marked_exec_all z body)
        (λ c. AreStmtsCode s.frame s.site s.units body c (record e { out = q })) p q
        (λ c. does_stmts body c (record e { out = q })) r)
    does_stmt (WHILE x body) d e =
        ticked s (marked_loop (marked_guarded (marked_truth z x) (marked_exec_all z body)) marked_no_step) d e
        (λ p q. IsLoop s.frame (λ when. IsTestedFor s.frame s.site s.units x when d)
        (AreStmtsCode s.frame s.site s.units body d (record e { out = q })) p q)
        (λ p q r. does_while s x d e (marked_exec_all z body)
        (AreStmtsCode s.frame s.site s.units body d (record e { out = q })) p q
        (does_stmts body d (record e { out = q })) r)
    does_stmt (REPEAT body x) d e =
        ticked s (marked_loop (marked_until (marked_exec_all z body) (marked_truth z x)) marked_no_step) d e
        (λ p q. IsUntil s.frame (λ when. IsTestedFor s.frame s.site s.units x when d)
        (AreStmtsCode s.frame s.site s.units body d (record e { out = q })) p q)
        (λ p q r. does_repeat s x d e (marked_exec_all z body)
        (AreStmtsCode s.frame s.site s.units body d (record e { out = q })) p q
        (does_stmts body d (record e { out = q })) r)
    does_stmt EXIT d e = ticked s (λ tr. give (exits tr)) d e (λ p q. Joins s.frame p e.out) (does_exit s d e)
    does_stmt RETURN d e = ticked s (λ tr. give (returns tr)) d e (λ p q. Joins s.frame p e.back) (does_return s d e)

    pub does_stmts : (xs : SlotStmts) (d : ℕ) (e : Exits)
        → Does s (marked_exec_all z xs) d e (AreStmtsCode s.frame s.site s.units xs d e)
    does_stmts no_stmts d e = does_nothing s d e
    does_stmts (stmt_then x xs) d e =
        noting s (marked_exec_all z (stmt_then x xs)) d e
        (InSequence (IsStmtCode s.frame s.site s.units x d e) (AreStmtsCode s.frame s.site s.units xs d e))
        (in_turn s (marked_exec z x) (marked_exec_all z xs) d e (IsStmtCode s.frame s.site s.units x d e)
        (AreStmtsCode s.frame s.site s.units xs d e) (does_stmt x d e) (does_stmts xs d e))

    does_arms : (arms : SlotArms) (otherwise : SlotStmts) (d : ℕ) (e : Exits)
        → Does s (marked_exec_all z otherwise) d e (AreStmtsCode s.frame s.site s.units otherwise d e)
        → Does s (marked_exec_arms z arms (marked_exec_all z otherwise)) d e
        (AreArmsCode s.frame s.site s.units arms (AreStmtsCode s.frame s.site s.units otherwise d e) d e)
    does_arms no_arms otherwise d e does = does
    does_arms (arm_then x body arms) otherwise d e does =
        noting s (marked_exec_arms z (arm_then x body arms) (marked_exec_all z otherwise)) d e
        (IsArm s.frame (IsTestedFor s.frame s.site s.units x false d) (AreStmtsCode s.frame s.site s.units body d e)
        (AreArmsCode s.frame s.site s.units arms (AreStmtsCode s.frame s.site s.units otherwise d e) d e))
        (does_arm s x d e (marked_exec_all z body) (marked_exec_arms z arms (marked_exec_all z otherwise))
        (AreStmtsCode s.frame s.site s.units body d e)
        (AreArmsCode s.frame s.site s.units arms (AreStmtsCode s.frame s.site s.units otherwise d e) d e)
        (does_stmts body d e) (does_arms arms otherwise d e does))

    does_chosen : (n : ℤ) (arms : SlotCaseArms) (otherwise : SlotStmts) (d : ℕ) (e : Exits)
        → Does s (marked_exec_all z otherwise) d e (AreStmtsCode s.frame s.site s.units otherwise d e)
        → Does s (marked_exec_case z n arms (marked_exec_all z otherwise)) d e
        (IsChosenCode s.frame s.site s.units n arms (AreStmtsCode s.frame s.site s.units otherwise d e) d e)
    does_chosen n no_case_arms otherwise d e does =
        joins_on (marked_exec_all z otherwise) d e (AreStmtsCode s.frame s.site s.units otherwise d e) does
    does_chosen n (case_arm_then labels body arms) otherwise d e does =
        one_of (marked_exec_all z body) (marked_exec_case z n arms (marked_exec_all z otherwise)) d e
        (InSequence (AreStmtsCode s.frame s.site s.units body d e) (Joins s.frame))
        (IsChosenCode s.frame s.site s.units n arms (AreStmtsCode s.frame s.site s.units otherwise d e) d e)
        (list_any (label_holds n) labels)
        (joins_on (marked_exec_all z body) d e (AreStmtsCode s.frame s.site s.units body d e) (does_stmts body d e))
        (does_chosen n arms otherwise d e does)
