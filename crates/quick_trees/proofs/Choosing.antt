-- Code that reads two expressions and assigns one of them does the same as an IF that assigns one of them.
use Rattle.std.proofs.Common.{◌≡◌, ℕ, zero, suc, ◌+◌, ◌-◌, ◌<◌, ◌≤◌, ℤ, pos, Bool, true, false, List, Some, Ok, refl}
use Rattle.std.proofs.Common.{sym, ap, subst, ◌∙◌, arith, inl, inr}
use Rattle.std.specs.Prelude.{if◌then◌else◌, not, slice_get}
use Rattle.std.specs.Ordering.{int_eq}
use Rattle.st_types.specs.declared.kind.Kind.{Kind}
use Rattle.st_types.specs.declared.kind.Kind.TheVariants.{Bool as Boolean}
use Rattle.st_types.specs.declared.operator.BinaryOperator.TheVariants.{NotEqual}
use Rattle.st_types.specs.Values.{IsHeld, bool_datum}
use Rattle.st_types.specs.Words.{datum_at, shift_of}
use Rattle.st_meaning.specs.Loops.{continue_with, goes_on}
use Rattle.st_meaning.specs.Ticks.{Run, follow}
use Rattle.machine_code.specs.Tracking.{Tracked, assigned_slot}
use Rattle.quick_code.specs.QuickSteps.{Memory, act, look, put, with_word}
use Rattle.quick_code.specs.declared.quick_instr.QuickInstr.TheVariants.{Select}
use Rattle.slot_trees.specs.SlotTrees.{Anchor, SlotArms, SlotExpr, SlotStmts, arm_then, assign, no_arms, no_stmts}
use Rattle.slot_trees.specs.SlotTrees.{no_subscripts, place, stmt_then}
use Rattle.slot_trees.specs.SlotEvaluation.{slot_at}
use Rattle.machine_code.specs.MarkedEvaluation.{MarkedScope, marked_truth, marked_value}
use Rattle.machine_code.specs.MarkedExecution.{MarkedEnd, marked_assigning, marked_exec_all, marked_exec_arms}
use Rattle.quick_trees.specs.declared.noting.Noting.{Noting}
use Rattle.quick_trees.specs.Points.{Point}
use Rattle.quick_trees.specs.QuickMemory.{EndsWellAt}
use Rattle.quick_trees.specs.UnitValues.{base_of}
use Rattle.quick_trees.specs.TreeCode.{Exits, IsAsked, IsChosen}
use Rattle.quick_trees.specs.Straight.{AssignsAt, IsStraight}
use Rattle.quick_trees.proofs.Stepping.{Follows, has_put, stepped}
use Rattle.quick_trees.proofs.Memories.{Holds, IsSite, Keeps, deeper, holds_assigned, holds_temporary, keeps_all}
use Rattle.quick_trees.proofs.Memories.{keeps_below, keeps_both, keeps_word, own_value, spares_both, spares_kept}
use Rattle.quick_trees.proofs.Memories.{spares_own, still_told}
use Rattle.quick_trees.proofs.Operators.{equal_shifted}
use Rattle.quick_trees.proofs.Settings.{Setting, scope_of}
use Rattle.quick_trees.proofs.Truths.{then_gives, truth_is_word}
use Rattle.quick_trees.proofs.Reading.{AreHeld, From, applied_to, number_gives, reads}
use Rattle.quick_trees.proofs.Testing.{truth_is}
use Rattle.quick_trees.proofs.Running.{Does, HasEnded, HasRun, assigns, gives_same}

module _ (s : Setting) where
  abbrev z : MarkedScope
  z = scope_of s

  -- Straight-line code was run: words below a depth are as they were, and the notes.
  record HasPassed (d q : ℕ) (ns : List Noting) (m : Memory) (tr : Tracked) (b : ℕ) : Type 0 where
    memory : Memory
    keeps : Keeps d m memory
    is : Holds s.frame s.site s.around ns memory tr
    ends : EndsWellAt s.frame q memory b s.finish

  passed_by : (n d p q : ℕ) (ns : List Noting) (m : Memory) (tr : Tracked) (b : ℕ) → p + n ≡ q
      → ((r : ℕ) → p ≤ r → r < q → AssignsAt s.frame d r) → IsSite s.frame s.site d
      → Holds s.frame s.site s.around ns m tr → EndsWellAt s.frame p m b s.finish → HasPassed d q ns m tr b
  passed_by zero d p q ns m tr b many each site is runs = record {
    memory = m;
    keeps = keeps_all d m;
    is = is;
    ends = subst (λ p. EndsWellAt s.frame p m b s.finish) (let same : p ≡ q = omega arith in same) runs;
  }
  passed_by (suc n) d p q ns m tr b many each site is runs =
      let a = each p (omega arith) (omega arith) in
      let step = stepped s.frame p s.finish m b a.instr runs a.at in
      let done = has_put s.frame p s.finish a.to (a.assigns.word m) m b
      (subst (Follows s.frame p s.finish) (a.assigns.does m b) step) in
      let m' = with_word m a.to done.word in
      let rest = passed_by n d (suc p) q ns m' tr b (omega arith) (λ r le lt. each r (omega arith) lt) site
      (holds_temporary s.frame s.site s.around ns m tr is d site a.to done.word a.deep) done.ends in
      record {
        memory = rest.memory;
        keeps = keeps_both d d m m' rest.memory (omega arith) (keeps_below d m a.to done.word a.deep) rest.keeps;
        is = rest.is;
        ends = rest.ends;
      }

  passed : (d p q : ℕ) (ns : List Noting) (m : Memory) (tr : Tracked) (b : ℕ) → IsStraight s.frame d p q
      → IsSite s.frame s.site d → Holds s.frame s.site s.around ns m tr → EndsWellAt s.frame p m b s.finish
      → HasPassed d q ns m tr b
  passed d p q ns m tr b straight site is runs =
      let ordered = straight.ordered in
      passed_by (q - p) d p q ns m tr b (omega arith) straight.each site is runs

  -- A condition was read: it holds if a word is not 0.
  record HasAsked (x : SlotExpr) (d k : ℕ) (p q : Point) (m : Memory) (tr : Tracked) (b : ℕ) : Type 0 where
    memory : Memory
    tracked : Tracked
    left : ℕ
    value : marked_value z tr x (b + p.ahead)
        ≡ Ok ((bool_datum (not (int_eq (look memory k) (pos 0))), tracked), left + q.ahead)
    fewer : left + q.ahead ≤ b + p.ahead
    keeps : Keeps d m memory
    is : AreHeld s q memory tracked
    low : k < suc d
    ends : EndsWellAt s.frame q.place memory left s.finish

  asked : (x : SlotExpr) (d k : ℕ) (p q : Point) → IsAsked s.frame s.site s.units x d k p q
      → From s d p (HasAsked x d k p q)
  asked x d k p q (inr is) m tr b site of runs =
      let read = reads s x Boolean d k p q is m tr b site of runs in
      record {
        memory = read.memory;
        tracked = read.tracked;
        left = read.left;
        value = read.gives
            ∙ ap (λ v. Ok ((v, read.tracked), read.left + q.ahead)) (truth_is_word (look read.memory k) read.held);
        fewer = read.fewer;
        keeps = read.keeps;
        is = read.is;
        low = read.low;
        ends = read.ends;
      }
  asked x d k p q (inl is) m tr b site of runs =
      let read = reads s is.left is.kind d k p q is.reads m tr b site of runs in
      let w = look read.memory k in
      let rest = read.left + q.ahead in
      subst (λ x. HasAsked x d k p q m tr b) (sym is.is) (record {
        memory = read.memory;
        tracked = read.tracked;
        left = read.left;
        value = applied_to s NotEqual is.left is.right is.kind w (pos 0) tr read.tracked read.tracked (b + p.ahead) rest
            rest (bool_datum (not (int_eq w (pos 0)))) read.gives
            (number_gives s is.right is.kind (pos 0) read.tracked rest is.nought)
            (ap (λ u. Ok (bool_datum u)) (ap not (equal_shifted w (pos 0) (shift_of is.kind))));
        fewer = read.fewer;
        keeps = read.keeps;
        is = read.is;
        low = read.low;
        ends = read.ends;
      })

  module _ (arms : SlotArms) (otherwise : SlotStmts) (d : ℕ) (e : Exits) (p q : Point)
      (r : IsChosen s.frame s.site s.units arms otherwise d p q) where
    abbrev assigned_alone : SlotExpr → Tracked → Run MarkedEnd
    assigned_alone y = marked_exec_all z (stmt_then (assign (place r.variable no_subscripts) y) no_stmts)

    -- the value that is chosen was assigned
    gave : (y : SlotExpr) (m n : Memory) (tr us : Tracked) (t b a : ℕ) (w : ℤ) → IsSite s.frame s.site d
        → marked_value z tr y t ≡ Ok ((datum_at r.kind w, us), b + a) → a ≡ r.last.ahead → b + a ≤ t
        → IsHeld (datum_at r.kind w) → Keeps d m n → Holds s.frame s.site s.around r.last.noted n us
        → EndsWellAt s.frame (suc r.last.place) (with_word n r.word w) b s.finish
        → HasRun s (assigned_alone y) d e q m tr (suc t)
    gave y m n tr us t b a w site value ahead fewer held keeps is runs =
        let k = slot_at (base_of s.site) r.variable in
        let old = own_value s.frame s.site s.around r.last.noted n us is d site k r.word r.kind r.target r.own in
        let after = assigned_slot us k (datum_at r.kind w) in
        let m' = with_word n r.word w in
        record {
          end = goes_on after;
          rest = b + a;
          gives = ap (λ o. follow o (λ e. continue_with e (marked_exec_all z no_stmts)))
              (assigns s (place r.variable no_subscripts) y tr us us t (b + a) (b + a) k r.kind w (look n r.word) value
              refl old.is held);
          fewer = omega arith;
          ended = subst (λ q. HasEnded s d e q m (goes_on after) (b + a)) (sym r.is) (record {
            memory = m';
            left = b;
            ticks = ap (λ a. b + a) ahead;
            spares = spares_both s.frame s.site d d m n m' (omega arith) (spares_kept s.frame s.site d m n keeps)
                (spares_own s.frame s.site d n m' k r.word r.kind w r.target r.own refl);
            is = holds_assigned s.frame s.site s.around r.last.noted n us is d site k r.word r.kind r.target r.own w
                held q.noted r.touches;
            ends = runs;
          });
        }

    -- if the condition does not hold, nothing needs the word that the first expression has assigned
    by_word : (m : Memory) (tr : Tracked) (b : ℕ) → IsSite s.frame s.site d → AreHeld s r.asked m tr
        → EndsWellAt s.frame r.asked.place m b s.finish → r.tested < suc d → (nought : Bool)
        → int_eq (look m r.tested) (pos 0) ≡ nought
        → HasRun s (λ us. if not nought then assigned_alone r.yes us else assigned_alone r.no us) d e q m tr
        (b + r.asked.ahead)
    by_word m tr b site is runs low false tells =
        let tick = r.tick in
        let at : suc (b + r.behind) ≡ b + r.asked.ahead = omega arith in
        let inner = deeper s.frame s.site d (suc d) (omega arith) site in
        let one = reads s r.yes r.kind (suc d) r.first (record r.asked { ahead = r.behind }) r.middle r.reads_first m tr
        b inner is runs in
        let two = passed (suc (suc d)) r.middle.place r.last.place r.middle.noted one.memory one.tracked one.left
        r.straight_second (deeper s.frame s.site (suc d) (suc (suc d)) (omega arith) inner) one.is one.ends in
        let keeps = keeps_both (suc d) (suc (suc d)) m one.memory two.memory (omega arith) one.keeps two.keeps in
        let step = stepped s.frame r.last.place s.finish two.memory one.left _ two.ends r.stands in
        let still = ap (λ w. int_eq w (pos 0)) (keeps_word (suc d) m two.memory r.tested keeps low) ∙ tells in
        let same = keeps_word (suc (suc d)) one.memory two.memory r.first two.keeps one.low in
        subst (HasRun s (assigned_alone r.yes) d e q m tr) at
        (gave r.yes m two.memory tr one.tracked (b + r.behind) one.left r.middle.ahead (look one.memory r.first) site
        one.gives r.as_many one.fewer one.held (keeps_both d (suc d) m m two.memory (omega arith) (keeps_all d m) keeps)
        (still_told s.frame s.site s.around r.middle.noted two.memory one.tracked two.is r.last.noted r.as_much)
        (subst (λ w. EndsWellAt s.frame (suc r.last.place) (with_word two.memory r.word w) one.left s.finish) same
        (subst (λ t. EndsWellAt s.frame (suc r.last.place) (with_word two.memory r.word
        (if t then look two.memory r.second else look two.memory r.first)) one.left s.finish) still step)))
    by_word m tr b site is runs low true tells =
        let tick = r.tick in
        let at : suc (b + r.behind) ≡ b + r.asked.ahead = omega arith in
        let inner = deeper s.frame s.site d (suc d) (omega arith) site in
        let one = passed (suc d) r.asked.place r.middle.place r.asked.noted m tr b r.straight_first inner is runs in
        let two = reads s r.no r.kind (suc (suc d)) r.second
        (record r.asked { place = r.middle.place; ahead = r.behind }) r.last r.reads_second one.memory tr b
        (deeper s.frame s.site (suc d) (suc (suc d)) (omega arith) inner) one.is one.ends in
        let keeps = keeps_both (suc d) (suc (suc d)) m one.memory two.memory (omega arith) one.keeps two.keeps in
        let step = stepped s.frame r.last.place s.finish two.memory two.left _ two.ends r.stands in
        let still = ap (λ w. int_eq w (pos 0)) (keeps_word (suc d) m two.memory r.tested keeps low) ∙ tells in
        subst (HasRun s (assigned_alone r.no) d e q m tr) at
        (gave r.no m two.memory tr two.tracked (b + r.behind) two.left r.last.ahead (look two.memory r.second) site
        two.gives refl two.fewer two.held (keeps_both d (suc d) m m two.memory (omega arith) (keeps_all d m) keeps)
        two.is
        (subst (λ t. EndsWellAt s.frame (suc r.last.place) (with_word two.memory r.word
        (if t then look two.memory r.second else look two.memory r.first)) two.left s.finish) still step))

    chosen : (m : Memory) (tr : Tracked) (b : ℕ) → IsSite s.frame s.site d → AreHeld s p m tr
        → EndsWellAt s.frame p.place m b s.finish
        → HasRun s (marked_exec_arms z
        (arm_then r.condition (stmt_then (assign (place r.variable no_subscripts) r.yes) no_stmts) no_arms)
        (assigned_alone r.no)) d e q m tr (b + p.ahead)
    chosen m tr b site is runs =
        let t = asked r.condition d r.tested p r.asked r.asks m tr b site is runs in
        let nought = int_eq (look t.memory r.tested) (pos 0) in
        gives_same s (λ tr. λ b. follow (marked_truth z r.condition tr b)
        (λ v. if v.0 then assigned_alone r.yes v.1 else assigned_alone r.no v.1))
        (λ us. if not nought then assigned_alone r.yes us else assigned_alone r.no us) d e q m t.memory tr t.tracked
        (b + p.ahead) (t.left + r.asked.ahead)
        (then_gives (marked_truth z r.condition tr (b + p.ahead)) (not nought, t.tracked) (t.left + r.asked.ahead)
        (λ v. if v.0 then assigned_alone r.yes v.1 else assigned_alone r.no v.1)
        (truth_is s r.condition tr t.tracked (not nought) (b + p.ahead) (t.left + r.asked.ahead) t.value))
        t.fewer (spares_kept s.frame s.site d m t.memory t.keeps)
        (by_word t.memory t.tracked t.left site t.is t.ends t.low nought refl)

  pub does_choice : (arms : SlotArms) (otherwise : SlotStmts) (d : ℕ) (e : Exits)
      → Does s (marked_exec_arms z arms (marked_exec_all z otherwise)) d e
      (IsChosen s.frame s.site s.units arms otherwise d)
  does_choice arms otherwise d e p q r m tr b site is runs =
      subst (λ a. HasRun s (marked_exec_arms z a (marked_exec_all z otherwise)) d e q m tr (b + p.ahead))
      (sym r.if_it_holds)
      (subst (λ o. HasRun s (marked_exec_arms z
      (arm_then r.condition (stmt_then (assign (place r.variable no_subscripts) r.yes) no_stmts) no_arms)
      (marked_exec_all z o)) d e q m tr (b + p.ahead)) (sym r.otherwise_so)
      (chosen arms otherwise d e p q r m tr b site is runs))
