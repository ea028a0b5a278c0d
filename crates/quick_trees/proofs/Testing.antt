-- Code that assigns, keeps or tests the value of an expression.
use Rattle.std.proofs.Common.{◌≡◌, ℕ, suc, ◌+◌, ◌≤◌, pos, Bool, true, false, Ok, sym, ap, subst, ◌∙◌, arith, inl, inr}
use Rattle.std.specs.Prelude.{◌⊎◌, not}
use Rattle.std.specs.Ordering.{int_eq}
use Rattle.st_types.specs.declared.kind.Kind.{Kind}
use Rattle.st_types.specs.declared.kind.Kind.TheVariants.{Bool as Boolean}
use Rattle.st_types.specs.declared.operator.UnaryOperator.TheVariants.{Negate, Not}
use Rattle.st_types.specs.Values.{bool_datum}
use Rattle.st_meaning.specs.Failures.{failing}
use Rattle.st_meaning.specs.Operators.{apply_unary, condition_of}
use Rattle.st_meaning.specs.Ticks.{attempt, follow, give}
use Rattle.machine_code.specs.Tracking.{Tracked}
use Rattle.quick_code.specs.declared.quick_code.Way.{Way}
use Rattle.quick_code.specs.QuickSteps.{Memory, act, look}
use Rattle.slot_trees.specs.SlotTrees.{SlotExpr, binary, call, compute, constant, load, no_subscripts, place}
use Rattle.slot_trees.specs.SlotTrees.{subscript_then, unary}
use Rattle.machine_code.specs.MarkedEvaluation.{MarkedScope, marked_truth, marked_value}
use Rattle.quick_trees.specs.Instructions.{bool_branch}
use Rattle.quick_trees.specs.Pieces.{IsMoved, IsTemporary, IsTested}
use Rattle.quick_trees.specs.Points.{Point}
use Rattle.quick_trees.specs.TreeCode.{IsAssignedTo, IsTestedFor}
use Rattle.quick_trees.proofs.Stepping.{Follows, HasBranched, has_branched, stepped}
use Rattle.quick_trees.proofs.Memories.{Keeps, keeps_all}
use Rattle.quick_trees.proofs.Operators.{has_compared, has_compared_to, turn_for, not_not}
use Rattle.quick_trees.proofs.Settings.{Setting, scope_of}
use Rattle.quick_trees.proofs.Truths.{not_is, then_gives, truth_is_word, truth_of_truth, turned}
use Rattle.quick_trees.proofs.Reading.{negated_by, turned_by, AreHeld, From, HasMade, HasRead, Is, applied_to}
use Rattle.quick_trees.proofs.Reading.{evaluated_by, binary_by, called_by, fetched_by, leads_on, within_by, number_gives, number_held}
use Rattle.quick_trees.proofs.Reading.{read_both, read_made, reads, reads_all, reads_apart}

module _ (s : Setting) where
  abbrev z : MarkedScope
  z = scope_of s

  -- the value of an expression is moved
  pub moved : (e : SlotExpr) (t : Kind) (d to : ℕ) (p q : Point) → IsMoved s.frame (Is s e t d) to p q
      → From s d p (HasMade s e t d to p q)
  moved e t d to p q is m tr b site of runs =
      let read = reads s e t d is.from p is.last is.reads m tr b site of runs in
      let step = stepped s.frame is.last.place s.finish read.memory read.left _ read.ends is.stands in
      subst (λ q. HasMade s e t d to p q m tr b) (sym is.next) (record {
        memory = read.memory;
        tracked = read.tracked;
        left = read.left;
        word = look read.memory is.from;
        gives = read.gives;
        fewer = read.fewer;
        keeps = read.keeps;
        is = read.is;
        held = read.held;
        ends = step;
      })

  -- the value of an expression is assigned to a word
  pub made : (e : SlotExpr) (t : Kind) (d to : ℕ) (p q : Point) → IsAssignedTo s.frame s.site s.units e t d to p q
      → From s d p (HasMade s e t d to p q)
  made (constant l) t d to p q (inl is) = moved (constant l) t d to p q is
  made (constant l) t d to p q (inr is) = λ m tr b site of runs.
      subst (λ q. HasMade s (constant l) t d to p q m tr b) (sym is.next) (record {
        memory = m;
        tracked = tr;
        left = b;
        word = is.word;
        gives = number_gives s (constant l) t is.word tr (b + p.ahead) is.number;
        fewer = omega arith;
        keeps = keeps_all d m;
        is = of;
        held = number_held s (constant l) t is.word is.number;
        ends = stepped s.frame p.place s.finish m b _ runs is.stands;
      })
  made (load (place a no_subscripts)) t d to p q is = moved (load (place a no_subscripts)) t d to p q is
  made (load (place a (subscript_then i lower count stride no_subscripts))) t d to p q is =
      fetched_by s a i lower count stride t d to p q (reads_apart s i d) is
  made (load (place a (subscript_then i lower count stride (subscript_then j l c r ss)))) t d to p q is =
      within_by s a i lower count stride (subscript_then j l c r ss) t d to p q (reads_apart s i d)
      (leads_on s (subscript_then j l c r ss) d) is
  made (compute g es) t d to p q (inl is) = moved (compute g es) t d to p q is
  made (compute g es) t d to p q (inr is) =
      evaluated_by s g es t d to p q (λ kinds words. reads_all s es d kinds words) is
  made (call g es) t d to p q is =
      called_by s g es t d to p q (λ kinds words. reads_all s es d kinds words) is
  made (unary Negate e) t d to p q is = negated_by s e t d to p q (reads s e t d) is
  made (unary Not e) t d to p q is = turned_by s e t d to p q (reads s e t d) is
  made (binary op l r) t d to p q is =
      binary_by s op l r t d to p q (λ u. reads s l u d) (λ u. reads s r u (suc d)) is

  -- the value of an expression is in a word, perhaps moved there
  pub kept_in : (e : SlotExpr) (t : Kind) (d k : ℕ) (p q : Point)
      → Is s e t d k p q ⊎ (IsTemporary s.frame k d × IsMoved s.frame (Is s e t d) k p q)
      → From s d p (HasRead s e t d k p q)
  kept_in e t d k p q (inl is) = reads s e t d k p q is
  kept_in e t d k p q (inr is) = read_made s e t d k p q is.0 (moved e t d k p q is.1)

  -- A condition was tested, and the run went by the way when it holds, or unless it does.
  pub record HasTested (e : SlotExpr) (when : Bool) (d : ℕ) (p q : Point) (w : Way) (past : ℕ) (m : Memory)
      (tr : Tracked) (b : ℕ) : Type 0
    where
      pub memory : Memory
      pub tracked : Tracked
      pub left : ℕ
      pub keeps : Keeps d m memory
      pub is : AreHeld s q memory tracked
      pub go : Bool
      pub value : marked_value z tr e (b + p.ahead) ≡ Ok ((bool_datum go, tracked), left + q.ahead)
      pub fewer : left + q.ahead ≤ b + p.ahead
      pub ends : HasBranched s.frame q.place s.finish (turn_for when go) w past memory left

  pub truth_is : (e : SlotExpr) (tr tr' : Tracked) (go : Bool) (a b : ℕ)
      → marked_value z tr e a ≡ Ok ((bool_datum go, tr'), b) → marked_truth z e tr a ≡ Ok ((go, tr'), b)
  unfolding marked_truth
  truth_is e tr tr' go a b gives =
      then_gives (marked_value z tr e a) (bool_datum go, tr') b
      (λ r. λ n. follow (attempt s.stuck_faults (condition_of r.0) n) (λ go. give (go, r.1))) gives
      ∙ ap (λ r. follow (attempt s.stuck_faults r b) (λ go. give (go, tr'))) (truth_of_truth go)

  -- how a branch on a BOOL goes
  word_branched : (when : Bool) (k q : ℕ) (w : Way) (past : ℕ) (m : Memory) (b : ℕ)
      → Follows s.frame q s.finish (act s.frame.ways s.frame.now (bool_branch when k w past) m b)
      → HasBranched s.frame q s.finish (turn_for when (not (int_eq (look m k) (pos 0)))) w past m b
  word_branched true k q w past m b runs =
      has_branched s.frame q s.finish (not (int_eq (look m k) (pos 0))) w past m b runs
  word_branched false k q w past m b runs =
      subst (λ t. HasBranched s.frame q s.finish t w past m b) (sym (not_not (int_eq (look m k) (pos 0))))
      (has_branched s.frame q s.finish (int_eq (look m k) (pos 0)) w past m b runs)

  tested_word : (e : SlotExpr) (when : Bool) (d : ℕ) (p q : Point) (w : Way) (past : ℕ)
      → IsTested s.frame (Is s e Boolean d) when p q w past → From s d p (HasTested e when d p q w past)
  tested_word e when d p q w past is m tr b site of runs =
      let read = reads s e Boolean d is.from p q is.reads m tr b site of runs in
      let step = stepped s.frame q.place s.finish read.memory read.left (bool_branch when is.from w past) read.ends
      is.stands in
      let word = look read.memory is.from in
      record {
        memory = read.memory;
        tracked = read.tracked;
        left = read.left;
        keeps = read.keeps;
        is = read.is;
        go = not (int_eq word (pos 0));
        value = read.gives ∙ ap (λ v. Ok ((v, read.tracked), read.left + q.ahead)) (truth_is_word word read.held);
        fewer = read.fewer;
        ends = word_branched when is.from q.place w past read.memory read.left step;
      }

  pub tested : (e : SlotExpr) (when : Bool) (d : ℕ) (p q : Point) (w : Way) (past : ℕ)
      → IsTestedFor s.frame s.site s.units e when d p q w past → From s d p (HasTested e when d p q w past)
  tested (constant l) v d p q w past is = tested_word (constant l) v d p q w past is
  tested (load l) v d p q w past is = tested_word (load l) v d p q w past is
  tested (compute g es) v d p q w past is = tested_word (compute g es) v d p q w past is
  tested (call g es) v d p q w past is = tested_word (call g es) v d p q w past is
  tested (unary Negate e) v d p q w past is = tested_word (unary Negate e) v d p q w past is
  tested (unary Not e) v d p q w past is = λ m tr b site of runs. (
      let t = tested e (not v) d p q w past is m tr b site of runs in
      record {
        memory = t.memory;
        tracked = t.tracked;
        left = t.left;
        keeps = t.keeps;
        is = t.is;
        go = not t.go;
        value = then_gives (marked_value z tr e (b + p.ahead)) (bool_datum t.go, t.tracked) (t.left + q.ahead)
            (λ r. λ n. follow (attempt s.stuck_faults (failing (apply_unary Not r.0)) n) (λ v. give (v, r.1))) t.value
            ∙ ap (λ o. follow (attempt s.stuck_faults (failing o) (t.left + q.ahead)) (λ v. give (v, t.tracked)))
            (not_is t.go);
        fewer = t.fewer;
        ends = subst (λ u. HasBranched s.frame q.place s.finish u w past t.memory t.left) (turned v t.go) t.ends;
      })
  tested (binary op l r) v d p q w past (inr (inr is)) = tested_word (binary op l r) v d p q w past is
  tested (binary op l r) v d p q w past (inr (inl is)) = λ m tr b site of runs. (
      let t = is.kind in
      let one = reads s l t d is.left p q is.reads m tr b site of runs in
      let step = stepped s.frame q.place s.finish one.memory one.left is.stands.instr one.ends is.stands.at in
      let done = has_compared_to s.frame q.place s.finish one.memory one.left v op t is.left is.word w past
      is.stands.instr is.stands.is step in
      record {
        memory = one.memory;
        tracked = one.tracked;
        left = one.left;
        keeps = one.keeps;
        is = one.is;
        go = done.go;
        value = applied_to s op l r t (look one.memory is.left) is.word tr one.tracked one.tracked (b + p.ahead)
            (one.left + q.ahead) (one.left + q.ahead) (bool_datum done.go) one.gives
            (number_gives s r t is.word one.tracked (one.left + q.ahead) is.number) done.is;
        fewer = one.fewer;
        ends = done.ends;
      })
  tested (binary op l r) v d p q w past (inl is) = λ m tr b site of runs. (
      let t = is.kind in
      let both = read_both s l r t d is.left is.right p q (reads s l t d) (reads s r t (suc d)) is.reads m tr b site of
      runs in
      let step = stepped s.frame q.place s.finish both.memory both.left is.stands.instr both.ends is.stands.at in
      let done = has_compared s.frame q.place s.finish both.memory both.left v op t is.left is.right w past
      is.stands.instr is.stands.is step in
      record {
        memory = both.memory;
        tracked = both.tracked;
        left = both.left;
        keeps = both.keeps;
        is = both.is;
        go = done.go;
        value = applied_to s op l r t (look both.memory is.left) (look both.memory is.right) tr both.between
            both.tracked
            (b + p.ahead) both.then_left (both.left + q.ahead) (bool_datum done.go) both.first both.second done.is;
        fewer = both.fewer;
        ends = done.ends;
      })
