-- Code that stands for a FOR does what it means.
use Rattle.std.proofs.Common.{◌≡◌, ◌≢◌, ℕ, zero, suc, ◌+◌, ◌-◌, ◌<◌, ◌≤◌, ◌+ℤ◌, ℤ, pos, negsuc, Bool, true, false}
use Rattle.std.proofs.Common.{List, Option, length}
use Rattle.std.proofs.Common.{Some, None, Ok, refl, sym, ap, ap₂, subst, ◌∙◌, arith, inl, inr}
use Rattle.std.specs.Prelude.{◌⊎◌, if◌then◌else◌, int_le, int_lt, not, slice_get}
use Rattle.std.specs.Ordering.{int_eq}
use Rattle.std.proofs.lemmas.Grind.{common_steps}
use Rattle.std.proofs.lemmas.Int.{ints}
use Rattle.st_types.specs.declared.kind.Kind.{Kind}
use Rattle.st_types.specs.declared.kind.Kind.TheVariants as kinds
use Rattle.st_types.specs.declared.operator.BinaryOperator.TheVariants.{Add}
use Rattle.st_types.specs.Values.{IsHeld, in_range}
use Rattle.st_types.specs.Kinds.{holds}
use Rattle.st_types.specs.Words.{datum_at, is_wide, number_at, shift_of}
use Rattle.st_meaning.specs.Failures.{StuckFaults, ill_typed, or_failure}
use Rattle.st_meaning.specs.Loops.{IterationOf, again, goes_on, nonzero, stepped_on, unless_fault}
use Rattle.st_meaning.specs.Ticks.{Run, attempt, follow, give}
use Rattle.machine_code.specs.declared.mark.Mark.{Mark}
use Rattle.machine_code.specs.Tracking.{Tracked, looked, assigned_slot}
use Rattle.quick_trees.specs.declared.noting.Noting.{Noting}
use Rattle.quick_code.specs.declared.operation.Operation.TheVariants as op
use Rattle.quick_code.specs.declared.operation.Signed.{Signed}
use Rattle.quick_code.specs.declared.operation.Signed.TheVariants as signed
use Rattle.quick_code.specs.declared.operation.Test.{Test}
use Rattle.quick_code.specs.declared.operation.Test.TheVariants as test
use Rattle.quick_code.specs.declared.quick_code.Way.{Way}
use Rattle.quick_code.specs.QuickRuns.{Left}
use Rattle.quick_code.specs.QuickSteps.{Memory, counted, look, with_word}
use Rattle.quick_code.specs.Words.{kind_of, operator_result, passes, bool_word}
use Rattle.slot_trees.specs.SlotTrees.{Anchor, SlotExpr, constant}
use Rattle.slot_trees.specs.SlotEvaluation.{slot_at}
use Rattle.machine_code.specs.MarkedEvaluation.{MarkedScope, marked_value}
use Rattle.machine_code.specs.MarkedExecution.{MarkedEnd, marked_counting, marked_guarded, marked_loop, marked_on}
use Rattle.machine_code.specs.MarkedExecution.{marked_put}
use Rattle.machine_code.specs.MarkedExecution.{marked_runs_on, marked_step, marked_step_of, marked_step_on, marked_turns}
use Rattle.quick_trees.specs.declared.pace.Pace.{Pace}
use Rattle.quick_trees.specs.declared.pace.Pace.TheVariants.{Literal, Words}
use Rattle.quick_trees.specs.Counting.{AddsStep, AreOrdered, LoopBegins, BeginsToCount, Counts, CountsAsLint, CountsAtOnce}
use Rattle.quick_trees.specs.Counting.{CountsBy, IsRepeatTest, Is64Bit, IsStep, inside}
use Rattle.quick_trees.specs.Functions.{IsMovedWithin}
use Rattle.quick_trees.specs.Points.{CodeRelation, Point, along, past_branch}
use Rattle.quick_trees.specs.QuickMemory.{EndsWellAt, Frame, first_temporary}
use Rattle.quick_trees.specs.UnitValues.{HasOwnWord, UnitValues, base_of, kinds_of}
use Rattle.quick_trees.specs.TreeCode.{Exits, IsFor, IsKeptStep, IsPaced}
use Rattle.quick_trees.proofs.Stepping.{Follows, HasBranched, has_branched, has_put, stepped}
use Rattle.quick_trees.proofs.Memories.{IsSite, Keeps, Spares, assigned_again, assigned_look, assigned_then, deeper}
use Rattle.quick_trees.proofs.Memories.{holds_assigned, holds_kept, holds_looked, holds_temporary, keeps_all}
use Rattle.quick_trees.proofs.Memories.{keeps_below, keeps_both, keeps_less, keeps_word, own_inside, own_value}
use Rattle.quick_trees.proofs.Memories.{spares_both, spares_kept, spares_less, spares_own, spares_word, still_told}
use Rattle.quick_trees.proofs.Memories.{IsNoted, marks_of, noted_word, own_no_constant, own_place}
use Rattle.quick_trees.proofs.Memories.{with_look, word_elsewhere, word_here}
use Rattle.quick_trees.proofs.Operators.{IsResult, at_most_shifted, has_computed, made_is, made_number, number_is}
use Rattle.quick_trees.proofs.Operators.{sum_makes, word_held}
use Rattle.quick_trees.proofs.Computing.{by_word, chosen, moved_within}
use Rattle.quick_trees.proofs.Elements.{narrow_number}
use Rattle.quick_trees.proofs.Settings.{Setting, scope_of}
use Rattle.quick_trees.proofs.Truths.{then_gives}
use Rattle.quick_trees.proofs.Reading.{AreHeld, From, reads}
use Rattle.quick_trees.proofs.Testing.{kept_in}
use Rattle.quick_trees.proofs.Running.{Does, HasEnded, HasRun, ends_met, gives_same, has_noted, held_met, nothing, puts}
use Rattle.quick_trees.proofs.Running.{spares_words}
use Rattle.quick_trees.proofs.Looping.{behind_body, behind_test, going_back, turn_is}
use Rattle.quick_trees.proofs.Lists.{set_here, set_same, some_is, there_within, within_there}
use Rattle.quick_trees.specs.UnitValues.{IsValueAt}

-- a control variable has not passed the limit, if the step is above 0 or below
abbrev pub goes_for : ℤ → ℤ → ℤ → Bool
goes_for (pos n) w l = int_le w l
goes_for (negsuc n) w l = int_le l w

-- The step was added to a control variable, and the limit was tested.
pub record HasCounted (f : Frame) (p : ℕ) (e : Left) (t : Kind) (k : ℕ) (v n l : ℤ) (w : Way) (past : ℕ) (m : Memory)
    (b : ℕ) : Type 0 where
  pub word : ℤ
  pub result : IsResult (in_range t (number_at t v +ℤ n)) t word
  pub ends : HasBranched f p e (goes_for n word l) w past (with_word m k word) b

module _ (f : Frame) (p : ℕ) (e : Left) (k limit : ℕ) (n : ℤ) (w : Way) (past : ℕ) (m : Memory) (b : ℕ) (o : Test)
    (same : (v l : ℤ) → passes o v l ≡ goes_for n v l) where
  of_value : (s : Signed) (v : Option ℤ) → operator_result op.Add s (look m k) n ≡ v → IsHeld (datum_at (kind_of s) (look m k))
      → IsHeld (datum_at (kind_of s) n) → Follows f p e (counted v k o (look m limit) w past m b)
      → HasCounted f p e (kind_of s) k (look m k) n (look m limit) w past m b
  of_value s (Some v) is g h runs =
      let t = kind_of s in
      let x = look m k in record {
        word = v;
        result = subst (λ u. IsResult (in_range t (u +ℤ n)) t v) (sym (number_is s x))
            (made_is Add op.Add s x n v refl (word_held s x g) (word_held s n h) is);
        ends = subst (λ t. HasBranched f p e t w past (with_word m k v) b) (same v (look m limit))
            (has_branched f p e (passes o v (look m limit)) w past (with_word m k v) b runs);
      }
  of_value s None is g h runs = absurd runs

  of_signed : (s : Signed) → IsHeld (datum_at (kind_of s) (look m k)) → IsHeld (datum_at (kind_of s) n)
      → Follows f p e (counted (operator_result op.Add s (look m k) n) k o (look m limit) w past m b)
      → HasCounted f p e (kind_of s) k (look m k) n (look m limit) w past m b
  of_signed s g h runs = of_value s (operator_result op.Add s (look m k) n) refl g h runs

  of_type : (s : Signed) (t : Kind) → t ≡ kind_of s → IsHeld (datum_at t (look m k)) → IsHeld (datum_at t n)
      → Follows f p e (counted (operator_result op.Add s (look m k) n) k o (look m limit) w past m b)
      → HasCounted f p e t k (look m k) n (look m limit) w past m b
  of_type s t is g h runs =
      subst (λ u. HasCounted f p e u k (look m k) n (look m limit) w past m b) (sym is)
      (of_signed s (subst (λ u. IsHeld (datum_at u (look m k))) is g) (subst (λ u. IsHeld (datum_at u n)) is h) runs)

counted_at_once : (f : Frame) (p : ℕ) (e : Left) (k limit : ℕ) (n : ℤ) (w : Way) (past : ℕ) (m : Memory) (b : ℕ)
    (t : Kind) → CountsAtOnce f t k n limit w past p → IsHeld (datum_at t (look m k)) → IsHeld (datum_at t n)
    → EndsWellAt f p m b e → HasCounted f p e t k (look m k) n (look m limit) w past m b
counted_at_once f p e k limit (pos n) w past m b t (inl is) g h runs =
    of_type f p e k limit (pos n) w past m b test.AtMost (λ v l. refl) signed.Int t is.0 g h
    (stepped f p e m b _ runs is.1)
counted_at_once f p e k limit (pos n) w past m b t (inr is) g h runs =
    of_type f p e k limit (pos n) w past m b test.AtMost (λ v l. refl) signed.Dint t is.0 g h
    (stepped f p e m b _ runs is.1)
counted_at_once f p e k limit (negsuc n) w past m b t (inl is) g h runs =
    of_type f p e k limit (negsuc n) w past m b test.AtLeast (λ v l. refl) signed.Int t is.0 g h
    (stepped f p e m b _ runs is.1)
counted_at_once f p e k limit (negsuc n) w past m b t (inr is) g h runs =
    of_type f p e k limit (negsuc n) w past m b test.AtLeast (λ v l. refl) signed.Dint t is.0 g h
    (stepped f p e m b _ runs is.1)

-- the test for a further turn
goes_on_counting : (f : Frame) (q : ℕ) (e : Left) (k limit : ℕ) (n : ℤ) (w : Way) (past : ℕ) (m : Memory) (b : ℕ)
    → IsRepeatTest f n k limit w past q → EndsWellAt f q m b e
    → HasBranched f q e (goes_for n (look m k) (look m limit)) w past m b
goes_on_counting f q e k limit (pos n) w past m b is runs =
    has_branched f q e (int_le (look m k) (look m limit)) w past m b (stepped f q e m b _ runs is)
goes_on_counting f q e k limit (negsuc n) w past m b is runs =
    has_branched f q e (int_le (look m limit) (look m k)) w past m b (stepped f q e m b _ runs is)

-- a sum of LINT is a number of another type
sum_within : (t : Kind) (v n w : ℤ) → is_wide t ≡ false → v +ℤ n ≡ w → holds t w ≡ true
    → IsResult (in_range t (number_at t v +ℤ n)) t w
sum_within t v n w narrow is held = record {
  value = ap (λ u. in_range t (u +ℤ n)) (narrow_number t v narrow)
      ∙ sum_makes v n w is t held
      ∙ ap (λ u. Ok (record { kind = t; number = u })) (sym (narrow_number t w narrow));
  held = ap (holds t) (narrow_number t w narrow) ∙ held;
}

-- a number that is a LINT is the word of a ULINT
long_word : (w : ℤ) → holds kinds.Lint w ≡ true → holds kinds.Ulint (number_at kinds.Ulint w) ≡ true
long_word w held = grind (arith, common_steps)

sum_long : (t : Kind) (v n w : ℤ) → Is64Bit t → v +ℤ n ≡ w → holds kinds.Lint w ≡ true
    → IsResult (in_range t (number_at t v +ℤ n)) t w
sum_long t v n w (inl lint) is held =
    sum_within t v n w (ap is_wide lint) is (ap (λ t. holds t w) lint ∙ held)
sum_long t v n w (inr ulint) is held =
    subst (λ t. IsResult (in_range t (number_at t v +ℤ n)) t w) (sym ulint) (record {
      value = sum_makes (number_at kinds.Ulint v) n (number_at kinds.Ulint w) (omega (arith, ints, is)) kinds.Ulint
          (long_word w held);
      held = long_word w held;
    })

-- a sum that is kept is a LINT
kept_held : (z w : ℤ) (h : Bool) → holds (kind_of signed.Lint) z ≡ h → (if h then Some z else None) ≡ Some w
    → holds (kind_of signed.Lint) w ≡ true
kept_held z w true h is = ap (holds (kind_of signed.Lint)) (sym (some_is is)) ∙ h
kept_held z w false h is = absurd cc

module _ (f : Frame) (ns : List Noting) (marks : List Mark) (p q : ℕ) (e : Left) (k limit : ℕ) (n : ℤ) (w : Way)
    (past : ℕ) (m : Memory) (b : ℕ) (t : Kind) (inside : k < length m.words)
    (place : (k < length f.window) ⊎ (first_temporary f ≤ k)) (apart : limit ≡ k → ⊥) (noted : IsNoted f ns marks m)
  where
    -- after the sum and the test of its type
    ends_counting : (word : ℤ) → IsRepeatTest f n k limit w past q
        → IsResult (in_range t (number_at t (look m k) +ℤ n)) t word
        → EndsWellAt f q (with_word m k word) b e → HasCounted f q e t k (look m k) n (look m limit) w past m b
    ends_counting word tested result runs = record {
      word = word;
      result = result;
      ends = subst (λ v. HasBranched f q e (goes_for n v (look m limit)) w past (with_word m k word) b)
          (word_here m k word inside)
          (subst (λ l. HasBranched f q e (goes_for n (look (with_word m k word) k) l) w past (with_word m k word) b)
          (word_elsewhere m limit k word apart)
          (goes_on_counting f q e k limit n w past (with_word m k word) b tested runs));
    }

    by_within : (is : CountsAsLint f t k n limit w past p q) (word : ℤ) → look m k +ℤ n ≡ word
        → holds (kind_of signed.Lint) word ≡ true
        → (Is64Bit t × (q ≡ suc p)) ⊎ (IsMovedWithin f t k k (suc p) × (q ≡ suc (suc p)))
        → EndsWellAt f (suc p) (with_word m k word) b e → HasCounted f q e t k (look m k) n (look m limit) w past m b
    by_within is word sum held (inl (long, at)) runs =
        ends_counting word is.tested
        (sum_long t (look m k) n word long sum held)
        (subst (λ q. EndsWellAt f q (with_word m k word) b e) (sym at) runs)
    by_within is word sum held (inr (moves, at)) runs =
        let m' = with_word m k word in
        let here : look m' k ≡ word = word_here m k word inside in
        let itself : with_word m' k (look m' k) ≡ m' = ap (λ ws. record m { words = ws })
        (sym (set_same m'.words k (look m' k) (set_here m.words k word inside ∙ ap Some (sym here)))) in
        let moved = moved_within f e ns marks t k k (suc p) m' b moves (noted_word f ns marks m noted k word place) runs
        in
        ends_counting word is.tested
        (sum_within t (look m k) n word moves.narrow sum (ap (holds t) (sym here) ∙ moved.held))
        (subst (λ q. EndsWellAt f q m' b e) (sym at)
        (subst (λ m. EndsWellAt f (suc (suc p)) m b e) itself moved.ends))

    has_counted : Counts f t k n limit w past p q → IsHeld (datum_at t (look m k)) → IsHeld (datum_at t n)
        → EndsWellAt f p m b e → HasCounted f q e t k (look m k) n (look m limit) w past m b
    has_counted (inl (at, is)) g h runs =
        subst (λ q. HasCounted f q e t k (look m k) n (look m limit) w past m b) (sym at)
        (counted_at_once f p e k limit n w past m b t is g h runs)
    has_counted (inr is) g h runs =
        let done = has_put f p e k (operator_result op.Add signed.Lint (look m k) n) m b (stepped f p e m b _ runs is.added) in
        by_within is done.word (made_number (look m k +ℤ n) done.word done.is)
        (kept_held (look m k +ℤ n) done.word (holds (kind_of signed.Lint) (look m k +ℤ n)) refl done.is)
        is.within done.ends

passed_up : (w l : ℤ) → int_lt l w ≡ not (int_le w l)
passed_up w l = grind (arith, ints)

-- the first test of the limit
has_begun : (f : Frame) (p : ℕ) (e : Left) (k limit : ℕ) (n : ℤ) (w : Way) (past : ℕ) (m : Memory) (b : ℕ)
    → BeginsToCount f n k limit w past p → EndsWellAt f p m b e
    → HasBranched f p e (not (goes_for n (look m k) (look m limit))) w past m b
has_begun f p e k limit (pos n) w past m b is runs =
    subst (λ t. HasBranched f p e t w past m b) (passed_up (look m k) (look m limit))
    (has_branched f p e (int_lt (look m limit) (look m k)) w past m b (stepped f p e m b _ runs is))
has_begun f p e k limit (negsuc n) w past m b is runs =
    subst (λ t. HasBranched f p e t w past m b) (passed_up (look m limit) (look m k))
    (has_branched f p e (int_lt (look m k) (look m limit)) w past m b (stepped f p e m b _ runs is))

above_0 : (by : ℕ) → int_lt (pos by) (pos 0) ≡ false
above_0 by = grind (arith, ints)

below_0 : (by : ℕ) → int_lt (negsuc by) (pos 0) ≡ true
below_0 by = grind (arith, ints)

tested_by : (by : ℤ) (t : Kind) (w l : ℤ) → (if int_lt by (pos 0) then int_le (number_at t l) (number_at t w)
    else int_le (number_at t w) (number_at t l)) ≡ goes_for by w l
tested_by (pos by) t w l =
    ap (λ u. if u then int_le (number_at t l) (number_at t w) else int_le (number_at t w) (number_at t l)) (above_0 by)
    ∙ at_most_shifted w l (shift_of t)
tested_by (negsuc by) t w l =
    ap (λ u. if u then int_le (number_at t l) (number_at t w) else int_le (number_at t w) (number_at t l)) (below_0 by)
    ∙ at_most_shifted l w (shift_of t)

-- a step that is not 0 is not a fault
no_fault : (by : ℤ) (n : ℕ) → (by ≡ pos 0 → ⊥) → nonzero by n ≡ Ok (tt, n)
no_fault (pos zero) n apart = absurd (apart refl)
no_fault (pos (suc by)) n apart = refl
no_fault (negsuc by) n apart = refl

runs_on_is : (s : StuckFaults) (k : ℕ) (t : Kind) (w l by : ℤ) (tr : Tracked) (n : ℕ)
    → slice_get tr.values k ≡ Some (datum_at t w)
    → marked_runs_on s k (number_at t l) by tr n ≡ Ok ((goes_for by w l, with_look tr k), n)
unfolding marked_runs_on
runs_on_is s k t w l by tr n at =
    ap (λ o. follow (attempt s (or_failure ill_typed (looked tr k o)) n) (λ r. give
    ((if int_lt by (pos 0) then int_le (number_at t l) r.0.number else int_le r.0.number (number_at t l)), r.1))) at
    ∙ ap (λ u. Ok ((u, with_look tr k), n)) (tested_by by t w l)

step_on_is : (s : StuckFaults) (k : ℕ) (t : Kind) (w v by : ℤ) (tr : Tracked) (n : ℕ)
    → slice_get tr.values k ≡ Some (datum_at t w) → IsResult (in_range t (number_at t w +ℤ by)) t v
    → marked_step_on s k by tr n ≡ Ok (again (assigned_slot (with_look tr k) k (datum_at t v)), n)
unfolding marked_step_on
step_on_is s k t w v by tr n at result =
    ap (λ o. follow (attempt s (or_failure ill_typed (looked tr k o)) n)
    (λ r. marked_step_of s k (stepped_on by r.0) r.1)) at
    ∙ ap (λ r. marked_step_of s k (unless_fault r) (with_look tr k) n) result.value
    ∙ ap (λ r. follow r (λ u. give (again u))) (puts s (with_look tr k) k t w v n at result.held)

-- The state after scratch work: words below a depth and all notes are as they were.
pub record HasScratched (f : Frame) (d : ℕ) (m m' : Memory) : Type 0 where
  pub keeps : Keeps d m m'
  pub noted : (ns : List Noting) (marks : List Mark) → IsNoted f ns marks m → IsNoted f ns marks m'

-- The control variable and the limit were assigned to temporaries.
record HasOrdered (f : Frame) (p : ℕ) (e : Left) (x y : ℤ) (d : ℕ) (m : Memory) (b : ℕ) : Type 0 where
  memory : Memory
  scratched : HasScratched f d m memory
  lower : look memory d ≡ x
  upper : look memory (suc d) ≡ y
  ends : EndsWellAt f (suc (suc p)) memory b e

-- one word or another was assigned to a temporary
selected : (go : Bool) (m : Memory) (c y z : ℕ) → look m c ≡ bool_word go
    → (if int_eq (look m c) (pos 0) then look m z else look m y) ≡ chosen go (look m y) (look m z)
selected go m c y z is =
    ap (λ w. if int_eq w (pos 0) then look m z else look m y) is ∙ by_word go (look m y) (look m z)

module _ (f : Frame) (p : ℕ) (e : Left) (below k limit d : ℕ) (turned : Bool) (m : Memory) (b : ℕ)
    (deep : first_temporary f ≤ d) (below_low : below < d) (k_low : k < d) (limit_low : limit < d)
    (long : length m.words ≡ f.size) (tells : look m below ≡ bool_word turned)
  where
    has_ordered : AreOrdered f below k limit d p → EndsWellAt f p m b e
        → HasOrdered f p e (chosen turned (look m limit) (look m k)) (chosen turned (look m k) (look m limit)) d m b
    has_ordered is runs =
        let there = is.there in
        let x = chosen turned (look m limit) (look m k) in
        let y = chosen turned (look m k) (look m limit) in
        let m1 = with_word m d x in
        let one = subst (λ w. EndsWellAt f (suc p) (with_word m d w) b e) (selected turned m below limit k tells)
        (stepped f p e m b _ runs is.first) in
        let keeps1 = keeps_below d m d x (omega arith) in
        let tells1 = keeps_word d m m1 below keeps1 below_low ∙ tells in
        let second : (if int_eq (look m1 below) (pos 0) then look m1 limit else look m1 k) ≡ y =
        selected turned m1 below k limit tells1
        ∙ ap₂ (chosen turned) (keeps_word d m m1 k keeps1 k_low) (keeps_word d m m1 limit keeps1 limit_low) in
        let m2 = with_word m1 (suc d) y in
        let two = subst (λ w. EndsWellAt f (suc (suc p)) (with_word m1 (suc d) w) b e) second
        (stepped f (suc p) e m1 b _ one is.second) in
        let keeps2 = keeps_below (suc d) m1 (suc d) y (omega arith) in
        let long1 = keeps1.long in record {
          memory = m2;
          scratched = record {
            keeps = keeps_both d (suc d) m m1 m2 (omega arith) keeps1 keeps2;
            noted = λ ns marks noted. noted_word f ns marks m1 (noted_word f ns marks m noted d x (inr deep)) (suc d) y
                (inr (omega arith));
          };
          lower = keeps_word (suc d) m1 m2 d keeps2 (omega arith) ∙ word_here m d x (omega arith);
          upper = word_here m1 (suc d) y (omega arith);
          ends = two;
        }

-- the lesser one and the greater one if the loop goes on
ordered_for : (by v l : ℤ)
    → int_le (chosen (int_lt by (pos 0)) l v) (chosen (int_lt by (pos 0)) v l) ≡ goes_for by v l
ordered_for (pos by) v l = ap (λ t. int_le (chosen t l v) (chosen t v l)) (above_0 by)
ordered_for (negsuc by) v l = ap (λ t. int_le (chosen t l v) (chosen t v l)) (below_0 by)

-- the step by which a FOR counts, in a memory
abbrev pub Paces : Kind → Pace → ℤ → Memory → Type 0
Paces t (Literal n) by m = (n ≡ by) × IsHeld (datum_at t n)
Paces t (Words step below) by m =
    (number_at t (look m step) ≡ by)
    × (IsHeld (datum_at t (look m step)) × (look m below ≡ bool_word (int_lt by (pos 0))))

-- the words for that are below a depth, and no statement of the unit assigns them
abbrev pub Stays : Frame → UnitValues → ℕ → Type 0
Stays f s k = (j : ℕ) → j < length (kinds_of f s) → HasOwnWord f.window s j k → ⊥

abbrev pub ArePacing : Frame → UnitValues → Pace → ℕ → Type 0
ArePacing f s (Literal n) c = Unit {0}
ArePacing f s (Words step below) c = ((step < c) × Stays f s step) × ((below < c) × Stays f s below)

-- they are as they were
paces_on : (f : Frame) (s : UnitValues) (t : Kind) (pace : Pace) (by : ℤ) (c : ℕ) (m m' : Memory) → ArePacing f s pace c
    → Spares f s c m m' → Paces t pace by m → Paces t pace by m'
paces_on f s t (Literal n) by c m m' are spares paces = paces
paces_on f s t (Words step below) by c m m' are spares paces =
    let one = spares_word f s c m m' step spares are.0.0 are.0.1 in
    let two = spares_word f s c m m' below spares are.1.0 are.1.1 in
    (ap (number_at t) one ∙ paces.0, (subst (λ w. IsHeld (datum_at t w)) (sym one) paces.1.0, two ∙ paces.1.1))

-- The limit was tested for the first time.
record HasBegun (f : Frame) (q : ℕ) (e : Left) (by v l : ℤ) (w : Way) (past d : ℕ) (m : Memory) (b : ℕ) : Type 0 where
  memory : Memory
  scratched : HasScratched f d m memory
  ends : HasBranched f q e (not (goes_for by v l)) w past memory b

scratched_none : (f : Frame) (d : ℕ) (m : Memory) → HasScratched f d m m
scratched_none f d m = record { keeps = keeps_all d m; noted = λ ns marks noted. noted }

module _ (f : Frame) (s : UnitValues) (e : Left) (t : Kind) (k limit d : ℕ) (by : ℤ) (w : Way) (past : ℕ) (m : Memory) (b : ℕ)
    (deep : first_temporary f ≤ d) (k_low : k < d) (limit_low : limit < d) (long : length m.words ≡ f.size) where
  begun : (pace : Pace) (p q : ℕ) → ArePacing f s pace d → Paces t pace by m → LoopBegins f pace k limit d w past p q
      → EndsWellAt f p m b e → HasBegun f q e by (look m k) (look m limit) w past d m b
  begun (Literal n) p q are paces is runs =
      subst (λ by. HasBegun f q e by (look m k) (look m limit) w past d m b) paces.0
      (subst (λ q. HasBegun f q e n (look m k) (look m limit) w past d m b) (sym is.0) (record {
        memory = m;
        scratched = scratched_none f d m;
        ends = has_begun f p e k limit n w past m b is.1 runs;
      }))
  begun (Words step below) p q are paces is runs =
      let turned = int_lt by (pos 0) in
      let v = look m k in
      let l = look m limit in
      let x = chosen turned l v in
      let y = chosen turned v l in
      let o = has_ordered f p e below k limit d turned m b deep are.1.0 k_low limit_low long paces.1.1 is.0 runs in
      let went = has_branched f q e (int_lt (look o.memory (suc d)) (look o.memory d)) w past o.memory b
      (stepped f q e o.memory b _ (subst (λ q. EndsWellAt f q o.memory b e) (sym is.1.0) o.ends) is.1.1) in
      let how : int_lt (look o.memory (suc d)) (look o.memory d) ≡ not (goes_for by v l) =
      ap₂ int_lt o.upper o.lower ∙ passed_up x y ∙ ap not (ordered_for by v l) in record {
        memory = o.memory;
        scratched = o.scratched;
        ends = subst (λ t. HasBranched f q e t w past o.memory b) how went;
      }

-- The step was added, and the limit was tested.
pub record HasTurned (f : Frame) (q : ℕ) (e : Left) (t : Kind) (k : ℕ) (v by l : ℤ) (w : Way) (past d : ℕ) (m : Memory)
    (b : ℕ) : Type 0 where
  pub word : ℤ
  pub result : IsResult (in_range t (number_at t v +ℤ by)) t word
  pub memory : Memory
  pub scratched : HasScratched f d (with_word m k word) memory
  pub ends : HasBranched f q e (goes_for by word l) w past memory b

-- The step was added.
record HasAdded (f : Frame) (q : ℕ) (e : Left) (t : Kind) (k : ℕ) (v by : ℤ) (m : Memory) (b : ℕ) : Type 0 where
  word : ℤ
  result : IsResult (in_range t (number_at t v +ℤ by)) t word
  ends : EndsWellAt f q (with_word m k word) b e

module _ (f : Frame) (s : UnitValues) (ns : List Noting) (marks : List Mark) (e : Left) (t : Kind) (k limit d : ℕ) (by : ℤ)
    (w : Way) (past : ℕ) (m : Memory) (b : ℕ) (deep : first_temporary f ≤ d) (k_low : k < d) (limit_low : limit < d)
    (inside : k < length m.words) (place : (k < length f.window) ⊎ (first_temporary f ≤ k))
    (other : (u : ℕ) → Stays f s u → u ≡ k → ⊥) (stays : Stays f s limit) (noted : IsNoted f ns marks m)
    (held : IsHeld (datum_at t (look m k)))
  where
    has_added : (step p q : ℕ) → number_at t (look m step) ≡ by → IsHeld (datum_at t (look m step))
        → AddsStep f t k step p q → EndsWellAt f p m b e → HasAdded f q e t k (look m k) by m b
    has_added step p q is_by small (inl is) runs =
        let done = has_computed f p e m b Add t k step k is.0.instr is.0.is held small
        (stepped f p e m b is.0.instr runs is.0.at) in
        subst (λ q. HasAdded f q e t k (look m k) by m b) (sym is.1) (record {
          word = done.word;
          result = subst (λ by. IsResult (in_range t (number_at t (look m k) +ℤ by)) t done.word) is_by done.result;
          ends = done.ends;
        })
    has_added step p q is_by small (inr is) runs =
        let narrow = is.1.0.narrow in
        let v = look m k in
        let n = look m step in
        let done = has_put f p e k (operator_result op.Add signed.Lint v n) m b (stepped f p e m b _ runs is.0) in
        let word = done.word in
        let sum : v +ℤ n ≡ word = made_number (v +ℤ n) word done.is in
        let m' = with_word m k word in
        let here : look m' k ≡ word = word_here m k word inside in
        let itself : with_word m' k (look m' k) ≡ m' = ap (λ ws. record m { words = ws })
        (sym (set_same m'.words k (look m' k) (set_here m.words k word inside ∙ ap Some (sym here)))) in
        let moved = moved_within f e ns marks t k k (suc p) m' b is.1.0 (noted_word f ns marks m noted k word place)
        done.ends in
        subst (λ q. HasAdded f q e t k v by m b) (sym is.1.1) (record {
          word = word;
          result = subst (λ by. IsResult (in_range t (number_at t v +ℤ by)) t word)
              (sym (narrow_number t n narrow) ∙ is_by)
              (sum_within t v n word narrow sum (ap (holds t) (sym here) ∙ moved.held));
          ends = subst (λ m. EndsWellAt f (suc (suc p)) m b e) itself moved.ends;
        })

    turned : (pace : Pace) (p q : ℕ) → ArePacing f s pace d → Paces t pace by m
        → CountsBy f t pace k limit d w past p q → EndsWellAt f p m b e
        → HasTurned f q e t k (look m k) by (look m limit) w past d m b
    turned (Literal n) p q are paces is runs =
        let done = has_counted f ns marks p q e k limit n w past m b t inside place (other limit stays) noted is held
        paces.1 runs in
        subst (λ by. HasTurned f q e t k (look m k) by (look m limit) w past d m b) paces.0 (record {
          word = done.word;
          result = done.result;
          memory = with_word m k done.word;
          scratched = scratched_none f d (with_word m k done.word);
          ends = done.ends;
        })
    turned (Words step below) p q are paces is runs =
        let go = int_lt by (pos 0) in
        let done = has_added step p is.added paces.0 paces.1.0 is.adds runs in
        let word = done.word in
        let m1 = with_word m k word in
        let here : look m1 k ≡ word = word_here m k word inside in
        let still : look m1 limit ≡ look m limit = word_elsewhere m limit k word (other limit stays) in
        let tells = word_elsewhere m below k word (other below are.1.1) ∙ paces.1.1 in
        let long = (noted_word f ns marks m noted k word place).room.words in
        let o = has_ordered f is.added e below k limit d go m1 b deep are.1.0 k_low limit_low long tells is.ordered
        done.ends in
        let went = has_branched f q e (int_le (look o.memory d) (look o.memory (suc d))) w past o.memory b
        (stepped f q e o.memory b _ (subst (λ q. EndsWellAt f q o.memory b e) (sym is.behind) o.ends) is.tested) in
        let how : int_le (look o.memory d) (look o.memory (suc d)) ≡ goes_for by word (look m limit) =
        ap₂ int_le o.lower o.upper
        ∙ ordered_for by (look m1 k) (look m1 limit)
        ∙ ap₂ (goes_for by) here still in record {
          word = word;
          result = done.result;
          memory = o.memory;
          scratched = o.scratched;
          ends = subst (λ t. HasBranched f q e t w past o.memory b) how went;
        }

-- only a word that is not 0 is divided by itself
not_nought : (x w : ℤ) → operator_result op.Divide signed.Lint x x ≡ Some w → x ≡ pos 0 → ⊥
not_nought x w is nought =
    let none : None ≡ Some w =
    subst (λ x. operator_result op.Divide signed.Lint x x ≡ Some w) nought is in
    absurd cc

module _ (s : Setting) where
  -- the step of a FOR
  step_is : (step : Option SlotExpr) (by : ℤ) (tr : Tracked) (n : ℕ) → IsStep step by
      → marked_step (scope_of s) tr step n ≡ Ok ((by, tr), n)
  step_is None by tr n is = ap (λ i. Ok ((i, tr), n)) (sym is)
  step_is (Some (constant l)) by tr n is =
      let value : marked_value (scope_of s) tr (constant l) n ≡ Ok ((is.value, tr), n) =
      ap (λ r. follow (attempt s.stuck_faults r n) (λ v. give (v, tr))) is.of_literal in
      then_gives (marked_value (scope_of s) tr (constant l) n) (is.value, tr) n (λ r. give (r.0.number, r.1)) value
      ∙ ap (λ i. Ok ((i, tr), n)) is.number
  step_is (Some _) by tr n is = absurd is

  -- The step of a FOR was evaluated, and is known.
  record HasPaced (step : Option SlotExpr) (t : Kind) (pace : Pace) (d : ℕ) (p q : Point) (m : Memory) (tr : Tracked)
      (b : ℕ) : Type 0 where
    by : ℤ
    memory : Memory
    tracked : Tracked
    left : ℕ
    gives : marked_step (scope_of s) tr step (b + p.ahead) ≡ Ok ((by, tracked), left + q.ahead)
    moves : by ≡ pos 0 → ⊥
    fewer : left + q.ahead ≤ b + p.ahead
    keeps : Keeps (suc (suc d)) m memory
    is : AreHeld s q memory tracked
    paces : Paces t pace by memory
    are : ArePacing s.frame s.site pace (inside pace d)
    ends : EndsWellAt s.frame q.place memory left s.finish

  -- temporaries are not words of a unit
  temporary_stays : (d k : ℕ) → d ≤ k → IsSite s.frame s.site d → Stays s.frame s.site k
  temporary_stays d k le site j lt own =
      let there = within_there (kinds_of s.frame s.site) j lt in
      let below = site.below j k there.0 there.1 (site.has j k own) in
      absurd (omega arith)

  paced_by_words : (x : SlotExpr) (t : Kind) (step below d : ℕ) (p q : Point)
      → IsKeptStep s.frame s.site s.units x t (suc (suc d)) step below p q
      → From s (suc (suc d)) p (HasPaced (Some x) t (Words step below) d p q)
  paced_by_words x t step below d p q r m tr b site is runs =
      let c = suc (suc d) in
      let f = s.frame in
      let one = kept_in s x t c step p r.last r.keeps.kept m tr b site is runs in
      let low = one.low in
      let depth = r.temporary.depth in
      let there = r.temporary.there in
      let away : step ≡ below → ⊥ = λ same. omega arith in
      let v = look one.memory step in
      let divided = has_put f r.last.place s.finish below (operator_result op.Divide signed.Lint v v) one.memory one.left
      (stepped f r.last.place s.finish one.memory one.left _ one.ends r.not_0) in
      let m1 = with_word one.memory below divided.word in
      let m2 = with_word m1 below (pos 0) in
      let two = stepped f (suc r.last.place) s.finish m1 one.left _ divided.ends r.nought in
      let three = stepped f (suc (suc r.last.place)) s.finish m2 one.left _ two r.tested in
      let is1 = holds_temporary f s.site s.around r.last.noted one.memory one.tracked one.is c site below divided.word
      (omega arith) in
      let is2 = holds_temporary f s.site s.around r.last.noted m1 one.tracked is1 c site below (pos 0) (omega arith) in
      let long1 = is1.noted.room.words in
      let long2 = is2.noted.room.words in
      let step_there : look m2 step ≡ v =
      word_elsewhere m1 step below (pos 0) away ∙ word_elsewhere one.memory step below divided.word away in
      let nought : look m2 below ≡ pos 0 = word_here m1 below (pos 0) (omega arith) in
      let w = bool_word (int_lt (look m2 step) (look m2 below)) in
      let m3 = with_word m2 below w in
      let is3 = holds_temporary f s.site s.around r.last.noted m2 one.tracked is2 c site below w (omega arith) in
      let step_still : look m3 step ≡ v = word_elsewhere m2 step below w away ∙ step_there in
      let narrow = narrow_number t v r.narrow in
      let by = number_at t v in
      let signs : look m3 below ≡ bool_word (int_lt by (pos 0)) =
      word_here m2 below w (omega arith)
      ∙ ap₂ (λ x y. bool_word (int_lt x y)) (step_there ∙ sym narrow) nought in
      let not_0 = not_nought v divided.word divided.is in
      subst (λ q. HasPaced (Some x) t (Words step below) d p q m tr b) (sym r.is) (record {
        by = by;
        memory = m3;
        tracked = one.tracked;
        left = one.left;
        gives = then_gives (marked_value (scope_of s) tr x (b + p.ahead)) (datum_at t v, one.tracked)
            (one.left + r.last.ahead) (λ r. give (r.0.number, r.1)) one.gives;
        moves = λ e. not_0 (sym narrow ∙ e);
        fewer = one.fewer;
        keeps = keeps_both c c m one.memory m3 (omega arith) one.keeps
            (keeps_both c c one.memory m1 m3 (omega arith) (keeps_below c one.memory below divided.word (omega arith))
            (keeps_both c c m1 m2 m3 (omega arith) (keeps_below c m1 below (pos 0) (omega arith))
            (keeps_below c m2 below w (omega arith))));
        is = is3;
        paces = (
          ap (number_at t) step_still,
          (subst (λ w. IsHeld (datum_at t w)) (sym step_still) one.held, signs),
        );
        are = (
          ((let lt : step < suc (suc c) = omega arith in lt), r.keeps.stays),
          ((let lt : below < suc (suc c) = omega arith in lt), temporary_stays c below (omega arith) site),
        );
        ends = three;
      })

  paced : (step : Option SlotExpr) (t : Kind) (pace : Pace) (d : ℕ) (p q : Point)
      → IsPaced s.frame s.site s.units step t pace (suc (suc d)) p q
      → From s (suc (suc d)) p (HasPaced step t pace d p q)
  paced step t (Literal n) d p q r m tr b site is runs =
      subst (λ q. HasPaced step t (Literal n) d p q m tr b) r.0 (record {
        by = n;
        memory = m;
        tracked = tr;
        left = b;
        gives = step_is step n tr (b + p.ahead) r.1.is;
        moves = r.1.moves;
        fewer = omega arith;
        keeps = keeps_all (suc (suc d)) m;
        is = is;
        paces = (refl, r.1.small);
        are = tt;
        ends = runs;
      })
  paced (Some x) t (Words step below) d p q r m tr b site is runs =
      paced_by_words x t step below d p q r m tr b site is runs
  paced None t (Words step below) d p q r m tr b site is runs = absurd r

  inside_deep : (pace : Pace) (d : ℕ) → suc (suc d) ≤ inside pace d
  inside_deep (Literal n) d = omega arith
  inside_deep (Words step below) d = omega arith

  module _ (a : Anchor) (start limit : SlotExpr) (step : Option SlotExpr) (d : ℕ) (e : Exits)
      (body : Tracked → Run MarkedEnd) (Body : ℕ → CodeRelation) (p q : Point)
      (does_body : (c : ℕ) → Does s body c (record e { out = q }) (Body c))
      (r : IsFor s.frame s.site s.units Body a start limit step d p q) where
    abbrev z : MarkedScope
    z = scope_of s

    abbrev k : ℕ
    k = slot_at (base_of s.site) a

    abbrev t : Kind
    t = r.kind

    -- temporaries from here on are the body's
    abbrev c : ℕ
    c = inside r.pace d

    d_c : suc (suc d) ≤ c
    d_c = inside_deep r.pace d

    deeper_site : IsSite s.frame s.site d → IsSite s.frame s.site c
    deeper_site site = let le = d_c in deeper s.frame s.site d c (omega arith) site

    -- the control variable's word is not one that stays
    other : (u : ℕ) → Stays s.frame s.site u → u ≢ r.control
    other u stays is =
        stays k (there_within (kinds_of s.frame s.site) k t r.target)
        (subst (HasOwnWord s.frame.window s.site k) (sym is) r.own)

    module _ (l by : ℤ) (are : ArePacing s.frame s.site r.pace c) where
      abbrev condition : Tracked → Run (Bool × Tracked)
      condition = marked_runs_on s.stuck_faults k (number_at t l) by

      abbrev on_step : Tracked → Run (IterationOf Tracked)
      on_step = marked_step_on s.stuck_faults k by

      abbrev rounds : ℕ → Tracked → Run MarkedEnd
      rounds n = marked_turns n (marked_guarded condition body) on_step

      abbrev entered : ℕ → Bool → Tracked → Run MarkedEnd
      entered n = behind_test body on_step (rounds n)

      -- the words of limit and step have their values
      abbrev Governs : Memory → Type 0
      Governs m = (look m r.to ≡ l) × Paces t r.pace by m

      governs_on : (m m' : Memory) → r.to < c → Spares s.frame s.site c m m' → Governs m → Governs m'
      governs_on m m' low spares governs = (
        spares_word s.frame s.site c m m' r.to spares low r.second.stays ∙ governs.0,
        paces_on s.frame s.site t r.pace by c m m' are spares governs.1,
      )

      -- the loop from the first statement of the body on, within n further turns
      abbrev Around : ℕ → Type 0
      Around n =
          From s d r.head (λ m tr b. Governs m → b + r.head.ahead ≤ n
          → HasRun s (entered n true) d e q m tr (b + r.head.ahead))

      -- after the body
      module _ (m : Memory) (us : Tracked) (rest : ℕ) (site : IsSite s.frame s.site d) (low : r.to < c)
          (governs : Governs m) (h : HasEnded s c (record e { out = q }) r.end m (goes_on us) rest)
        where
          abbrev here : ℤ
          here = look h.memory r.control

          still : Governs h.memory
          still = governs_on m h.memory low h.spares governs

          site_c : IsSite s.frame s.site c
          site_c = deeper_site site

          control_value : IsValueAt h.memory us.values t k r.control
          control_value =
              own_value s.frame s.site s.around r.end.noted h.memory us h.is d site k r.control t r.target r.own

          control_low : r.control < c
          control_low = site_c.below k r.control t r.target (site.has k r.control r.own)

          control_inside : r.control < length h.memory.words
          control_inside =
              own_inside s.frame s.site s.around r.end.noted h.memory us h.is d site k r.control t r.target r.own

          -- the step is added
          count : HasTurned s.frame r.foot s.finish t r.control here by l r.back r.after c h.memory h.left
          count =
              subst (λ l. HasTurned s.frame r.foot s.finish t r.control here by l r.back r.after c h.memory h.left)
              still.0
              (turned s.frame s.site r.end.noted (marks_of s.site s.around us) s.finish t r.control r.to c by r.back
              r.after h.memory h.left site_c.deep control_low low control_inside
              (own_no_constant s.frame s.site r.control
              (own_place s.frame s.site s.around r.end.noted h.memory us h.is d site k r.control t r.target r.own))
              other r.second.stays h.is.noted control_value.held r.pace r.end.place r.foot are still.1 r.counts h.ends)

          abbrev assigned : Memory
          assigned = with_word h.memory r.control count.word

          abbrev after : Memory
          after = count.memory

          abbrev stepped_to : Tracked
          stepped_to = assigned_slot (with_look us k) k (datum_at t count.word)

          held_assigned : AreHeld s r.end assigned stepped_to
          held_assigned =
              holds_assigned s.frame s.site s.around r.end.noted h.memory (with_look us k)
              (holds_looked s.frame s.site s.around r.end.noted h.memory us h.is k r.control r.end.noted
              (site.has k r.control r.own) (assigned_look s.site r.control r.end.noted r.known))
              d site k r.control t r.target r.own count.word count.result.held r.end.noted
              (assigned_again s.site r.control r.end.noted r.known)

          held_after : AreHeld s r.end after stepped_to
          held_after =
              holds_kept s.frame s.site s.around r.end.noted assigned stepped_to held_assigned c site_c r.end.noted
              after count.scratched.keeps
              (count.scratched.noted r.end.noted (marks_of s.site s.around stepped_to) held_assigned.noted)

          held_looked : AreHeld s r.end after (with_look stepped_to k)
          held_looked =
              holds_looked s.frame s.site s.around r.end.noted after stepped_to held_after k r.control r.end.noted
              (site.has k r.control r.own) (assigned_look s.site r.control r.end.noted r.known)

          spared_inside : Spares s.frame s.site c h.memory after
          spared_inside =
              spares_both s.frame s.site c c h.memory assigned after (omega arith)
              (spares_own s.frame s.site c h.memory assigned k r.control t count.word r.target r.own refl)
              (spares_kept s.frame s.site c assigned after count.scratched.keeps)

          spared : Spares s.frame s.site d h.memory after
          spared = let le = d_c in spares_less s.frame s.site d c h.memory after (omega arith) spared_inside

          now : look after r.control ≡ count.word
          now =
              keeps_word c assigned after r.control count.scratched.keeps control_low
              ∙ word_here h.memory r.control count.word control_inside

          now_value : slice_get stepped_to.values k ≡ Some (datum_at t count.word)
          now_value =
              (own_value s.frame s.site s.around r.end.noted after stepped_to held_after d site k r.control t r.target
              r.own).is
              ∙ ap (λ w. Some (datum_at t w)) now

          -- the tick of going back, the step and the test
          onward : (n u : ℕ) → rest ≡ suc u
              → going_back on_step (rounds (suc n)) us rest
              ≡ entered n (goes_for by count.word l) (with_look stepped_to k) u
          onward n u at =
              ap (λ c. going_back on_step (rounds (suc n)) us c) at
              ∙ ap (λ o. follow o (marked_on (rounds (suc n))))
              (step_on_is s.stuck_faults k t here count.word by us u control_value.is count.result)
              ∙ turn_is condition body on_step n stepped_to (with_look stepped_to k) u u (goes_for by count.word l)
              (runs_on_is s.stuck_faults k t count.word l by stepped_to u now_value)

          -- the tick was paid
          paid : (go : Bool) → HasBranched s.frame r.foot s.finish go r.back r.after after h.left → 0 < rest
          paid true b =
              let enough = b.0 in let ahead = r.again.ahead in let ticks = h.ticks in omega arith
          paid false b =
              let enough = b.0 in let ahead = r.behind.ahead in let ticks = h.ticks in omega arith

          by_count : (n : ℕ) → Around n → rest ≤ suc n → (go : Bool) → goes_for by count.word l ≡ go
              → HasBranched s.frame r.foot s.finish go r.back r.after after h.left
              → HasRun s (going_back on_step (rounds (suc n))) d e q h.memory us rest
          by_count n around le true goes b =
              let enough = b.0 in
              let ahead = r.again.ahead in
              let ticks = h.ticks in
              let left = h.left - r.back.ticks in
              let at : rest ≡ suc (left + r.head.ahead) = omega arith in
              gives_same s (going_back on_step (rounds (suc n))) (entered n true) d e q h.memory after us
              (with_look stepped_to k) rest (left + r.head.ahead)
              (onward n (left + r.head.ahead) at
              ∙ ap (λ go. entered n go (with_look stepped_to k) (left + r.head.ahead)) goes)
              (omega arith) spared
              (around after (with_look stepped_to k) left site
              (still_told s.frame s.site s.around r.end.noted after (with_look stepped_to k) held_looked r.head.noted
              r.again.noted)
              (subst (λ i. EndsWellAt s.frame i after left s.finish) r.again.place b.1)
              (governs_on h.memory after low spared_inside still) (omega arith))
          by_count n around le false goes b =
              let enough = b.0 in
              let ahead = r.behind.ahead in
              let ticks = h.ticks in
              let left = h.left - r.after in
              let at : rest ≡ suc (left + q.ahead) = omega arith in
              gives_same s (going_back on_step (rounds (suc n))) (entered n false) d e q h.memory after us
              (with_look stepped_to k) rest (left + q.ahead)
              (onward n (left + q.ahead) at
              ∙ ap (λ go. entered n go (with_look stepped_to k) (left + q.ahead)) goes)
              (omega arith) spared
              (nothing s (entered n false) d e q after (with_look stepped_to k) left (left + q.ahead) (left + q.ahead)
              (still_told s.frame s.site s.around r.end.noted after (with_look stepped_to k) held_looked q.noted
              r.behind.noted)
              (subst (λ i. EndsWellAt s.frame i after left s.finish) r.behind.place b.1) refl refl (omega arith))

      around : r.to < c → (n : ℕ) → Around n
      around low zero m tr b site is runs governs le =
          behind_body s body on_step (rounds zero) d c (let le = d_c in omega arith) e r.end q m tr (b + r.head.ahead)
          (λ us rest h fewer. absurd (
          let count = count m us rest site low governs h in
          let some = paid m us rest site low governs h (goes_for by count.word l) count.ends in
          omega arith))
          (does_body c r.head r.end r.body m tr b (deeper_site site) is runs)
      around low (suc n) m tr b site is runs governs le =
          behind_body s body on_step (rounds (suc n)) d c (let le = d_c in omega arith) e r.end q m tr
          (b + r.head.ahead)
          (λ us rest h fewer. (let count = count m us rest site low governs h in
          by_count m us rest site low governs h n (around low n) (omega arith) (goes_for by count.word l) refl
          count.ends))
          (does_body c r.head r.end r.body m tr b (deeper_site site) is runs)

      -- the loop after its first test
      begins : r.to < c → (n : ℕ) (go : Bool) (m : Memory) (tr : Tracked) (b : ℕ) → IsSite s.frame s.site d
          → AreHeld s r.test m tr → Governs m
          → HasBranched s.frame r.asked s.finish (not go) r.way r.past m b → b + r.test.ahead ≤ n
          → HasRun s (entered n go) d e q m tr (b + r.test.ahead)
      begins low n true m tr b site is governs h le =
          let enough = h.0 in
          let noted = has_noted s r.notes.notes (past_branch (record r.test { place = r.asked }) r.past) r.noted m tr
          (b - r.past) r.notes.all is h.1 in
          let one = noted.ahead in
          let two = r.begins.ahead in
          let at : b - r.past + r.head.ahead ≡ b + r.test.ahead = omega arith in
          let spares = spares_words s c m noted.memory noted.words in
          gives_same s (entered n true) (entered n true) d e q m noted.memory tr tr (b + r.test.ahead)
          (b - r.past + r.head.ahead) (ap (entered n true tr) (sym at)) (omega arith)
          (spares_words s d m noted.memory noted.words)
          (around low n noted.memory tr (b - r.past) site
          (held_met s r.noted r.head noted.memory tr r.begins noted.is)
          (ends_met s r.noted r.head noted.memory (b - r.past) r.begins noted.ends)
          (governs_on m noted.memory low spares governs) (omega arith))
      begins low n false m tr b site is governs h le =
          let enough = h.0 in
          let ahead = r.over.ahead in
          let at : b + r.test.ahead ≡ b - r.way.ticks + q.ahead = omega arith in
          nothing s (entered n false) d e q m tr (b - r.way.ticks) (b + r.test.ahead) (b + r.test.ahead)
          (held_met s (along r.test r.way) q m tr r.over is)
          (ends_met s (along r.test r.way) q m (b - r.way.ticks) r.over h.1) refl at (omega arith)

      loop_is : (tr : Tracked) (w : ℤ) (n : ℕ) → slice_get tr.values k ≡ Some (datum_at t w)
          → marked_loop (marked_guarded condition body) on_step tr n
          ≡ entered n (goes_for by w l) (with_look tr k) n
      unfolding marked_loop
      loop_is tr w n at =
          turn_is condition body on_step n tr (with_look tr k) n n (goes_for by w l)
          (runs_on_is s.stuck_faults k t w l by tr n at)

    -- the values that are evaluated before the loop
    counting : (tr tr1 tr2 tr3 : Tracked) (u u1 u2 u3 : ℕ) (v l by old : ℤ) → (by ≡ pos 0 → ⊥)
        → marked_value z tr start u ≡ Ok ((datum_at t v, tr1), u1)
        → marked_value z tr1 limit u1 ≡ Ok ((datum_at t l, tr2), u2)
        → marked_step z tr2 step u2 ≡ Ok ((by, tr3), u3)
        → slice_get tr3.values k ≡ Some (datum_at t old) → IsHeld (datum_at t v)
        → marked_counting z k start limit step body tr u
        ≡ marked_loop (marked_guarded (marked_runs_on s.stuck_faults k (number_at t l) by) body)
        (marked_step_on s.stuck_faults k by) (assigned_slot tr3 k (datum_at t v)) u3
    counting tr tr1 tr2 tr3 u u1 u2 u3 v l by old moves first second third at held =
        ap (λ o. follow o (λ i. λ b. follow (marked_value z i.1 limit b) (λ n. λ b. follow (marked_step z n.1 step b)
        (λ e. λ b. follow (nonzero e.0 b) (λ _. λ b. follow (marked_put s.stuck_faults e.1 k i.0 b)
        (marked_loop (marked_guarded (marked_runs_on s.stuck_faults k n.0.number e.0) body)
        (marked_step_on s.stuck_faults k e.0))))))) first
        ∙ ap (λ o. follow o (λ n. λ b. follow (marked_step z n.1 step b)
        (λ e. λ b. follow (nonzero e.0 b) (λ _. λ b. follow (marked_put s.stuck_faults e.1 k (datum_at t v) b)
        (marked_loop (marked_guarded (marked_runs_on s.stuck_faults k n.0.number e.0) body)
        (marked_step_on s.stuck_faults k e.0)))))) second
        ∙ ap (λ o. follow o (λ e. λ b. follow (nonzero e.0 b)
        (λ _. λ b. follow (marked_put s.stuck_faults e.1 k (datum_at t v) b)
        (marked_loop (marked_guarded (marked_runs_on s.stuck_faults k (number_at t l) e.0) body)
        (marked_step_on s.stuck_faults k e.0))))) third
        ∙ ap (λ o. follow o (λ _. λ b. follow (marked_put s.stuck_faults tr3 k (datum_at t v) b)
        (marked_loop (marked_guarded (marked_runs_on s.stuck_faults k (number_at t l) by) body)
        (marked_step_on s.stuck_faults k by)))) (no_fault by u3 moves)
        ∙ ap (λ o. follow o (marked_loop (marked_guarded (marked_runs_on s.stuck_faults k (number_at t l) by) body)
        (marked_step_on s.stuck_faults k by))) (puts s.stuck_faults tr3 k t old v u3 at held)

    pub does_for : From s d p (λ m tr b. HasRun s (marked_counting z k start limit step body) d e q m tr (b + p.ahead))
    does_for m tr b site is runs =
        let f = s.frame in
        let one = reads s start t d r.from p r.middle r.first m tr b site is runs in
        let two = kept_in s limit t (suc d) r.to r.middle r.bounded r.second.kept one.memory one.tracked one.left
        (deeper f s.site d (suc d) (omega arith) site) one.is one.ends in
        let three = paced step t r.pace d r.bounded r.move r.third two.memory two.tracked two.left
        (deeper f s.site d (suc (suc d)) (omega arith) site) two.is two.ends in
        let by = three.by in
        let c_deep = d_c in
        let site_c = deeper_site site in
        let low : r.to < c = (let low = two.low in omega arith) in
        let one_low = one.low in
        let from_kept = keeps_word (suc d) two.memory three.memory r.from
        (keeps_less (suc d) (suc (suc d)) two.memory three.memory (omega arith) three.keeps) one_low
        ∙ keeps_word (suc d) one.memory two.memory r.from two.keeps one_low in
        let to_kept = keeps_word (suc (suc d)) two.memory three.memory r.to three.keeps two.low in
        let v = look three.memory r.from in
        let held = subst (λ w. IsHeld (datum_at t w)) (sym from_kept) one.held in
        let first = one.gives ∙ ap (λ w. Ok ((datum_at t w, one.tracked), one.left + r.middle.ahead)) (sym from_kept) in
        let l = look three.memory r.to in
        let second = two.gives ∙ ap (λ w. Ok ((datum_at t w, two.tracked), two.left + r.bounded.ahead)) (sym to_kept) in
        let old = own_value f s.site s.around r.move.noted three.memory three.tracked three.is d site k r.control t
        r.target r.own in
        let us = assigned_slot three.tracked k (datum_at t v) in
        let m1 = with_word three.memory r.control v in
        let assigned = holds_assigned f s.site s.around r.move.noted three.memory three.tracked three.is d site k
        r.control t r.target r.own v held r.test.noted r.touches in
        let known = assigned_look s.site r.control r.test.noted (assigned_then s.site r.control r.move.noted
        r.test.noted r.touches) in
        let moved = stepped f r.move.place s.finish three.memory three.left _ three.ends r.assigned in
        let place : r.test.place ≡ suc r.move.place = ap (λ (p : Point). p.place) r.assigns in
        let ahead : r.test.ahead ≡ r.move.ahead = ap (λ (p : Point). p.ahead) r.assigns in
        let inside = own_inside f s.site s.around r.move.noted three.memory three.tracked three.is d site k r.control t
        r.target r.own in
        let spared1 = spares_own f s.site c three.memory m1 k r.control t v r.target r.own refl in
        let governs1 = governs_on l by three.are three.memory m1 low spared1 (refl, three.paces) in
        let control_is : look m1 r.control ≡ v = word_here three.memory r.control v inside in
        let control_low = site_c.below k r.control t r.target (site.has k r.control r.own) in
        let begun = begun f s.site s.finish t r.control r.to c by r.way r.past m1 three.left site_c.deep control_low low
        assigned.noted.room.words r.pace r.test.place r.asked three.are governs1.1 r.tested
        (subst (λ i. EndsWellAt f i m1 three.left s.finish) (sym place) moved) in
        let m2 = begun.memory in
        let spared2 = spares_kept f s.site c m1 m2 begun.scratched.keeps in
        let governs2 = governs_on l by three.are m1 m2 low spared2 governs1 in
        let now = holds_kept f s.site s.around r.test.noted m1 us assigned c site_c r.test.noted m2
        begun.scratched.keeps
        (begun.scratched.noted r.test.noted (marks_of s.site s.around us) assigned.noted) in
        let looked = holds_looked f s.site s.around r.test.noted m2 us now k r.control r.test.noted
        (site.has k r.control r.own) known in
        let value = (own_value f s.site s.around r.test.noted m1 us assigned d site k r.control t r.target r.own).is
        ∙ ap (λ w. Some (datum_at t w)) control_is in
        let branch = subst (λ w. HasBranched f r.asked s.finish (not (goes_for by w l)) r.way r.past m2 three.left)
        control_is
        (subst (λ l. HasBranched f r.asked s.finish (not (goes_for by (look m1 r.control) l)) r.way r.past m2
        three.left) governs1.0 begun.ends) in
        let few_one = one.fewer in
        let few_two = two.fewer in
        let few_three = three.fewer in
        let n = three.left + r.move.ahead in
        let at : three.left + r.move.ahead ≡ three.left + r.test.ahead = omega arith in
        let keeps1 = keeps_both d (suc d) m one.memory two.memory (omega arith) one.keeps two.keeps in
        let keeps2 = keeps_both d (suc (suc d)) m two.memory three.memory (omega arith) keeps1 three.keeps in
        gives_same s (marked_counting z k start limit step body)
        (entered l by three.are n (goes_for by v l)) d e q m m2 tr (with_look us k) (b + p.ahead)
        (three.left + r.test.ahead)
        (counting tr one.tracked two.tracked three.tracked (b + p.ahead) (one.left + r.middle.ahead)
        (two.left + r.bounded.ahead) n v l by (look three.memory r.control) three.moves first second three.gives old.is
        held
        ∙ loop_is l by three.are us v n value
        ∙ ap (entered l by three.are n (goes_for by v l) (with_look us k)) at)
        (omega arith)
        (spares_both f s.site d c m three.memory m2 (omega arith)
        (spares_kept f s.site d m three.memory keeps2)
        (spares_both f s.site c c three.memory m1 m2 (omega arith) spared1 spared2))
        (begins l by three.are low n (goes_for by v l) m2 (with_look us k) three.left site looked governs2 branch
        (omega arith))
