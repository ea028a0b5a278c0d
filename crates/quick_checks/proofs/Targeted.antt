-- Instructions that assign a word and do nothing else.
use Rattle.std.proofs.Common.{◌≡◌, ℕ, ℤ, pos, List, Option, Some, refl, subst}
use Rattle.std.specs.Prelude.{if◌then◌else◌}
use Rattle.std.specs.Ordering.{int_eq}
use Rattle.quick_code.specs.declared.operation.Operation.TheVariants as op
use Rattle.quick_code.specs.declared.operation.Signed.TheVariants.{Int, Dint, Lint}
use Rattle.quick_code.specs.declared.operation.Test.TheVariants as test
use Rattle.quick_code.specs.declared.quick_code.Way.{Way}
use Rattle.quick_code.specs.declared.quick_instr.QuickInstr.{QuickInstr}
use Rattle.quick_code.specs.declared.quick_instr.QuickInstr.TheVariants.{Move, Set, MoveWithin, Select, Clock, AddInt}
use Rattle.quick_code.specs.declared.quick_instr.QuickInstr.TheVariants.{AddDint, AddLint, AddIntBy, AddDintBy}
use Rattle.quick_code.specs.declared.quick_instr.QuickInstr.TheVariants.{AddLintBy, SubtractInt, SubtractDint}
use Rattle.quick_code.specs.declared.quick_instr.QuickInstr.TheVariants.{SubtractLint, MultiplyInt, MultiplyDint}
use Rattle.quick_code.specs.declared.quick_instr.QuickInstr.TheVariants.{MultiplyLint, MultiplyDintBy, DivideInt}
use Rattle.quick_code.specs.declared.quick_instr.QuickInstr.TheVariants.{DivideDint, DivideLint, DivideBy, Modulo}
use Rattle.quick_code.specs.declared.quick_instr.QuickInstr.TheVariants.{ModuloBy, And, AndBy, Or, Xor, XorBy}
use Rattle.quick_code.specs.declared.quick_instr.QuickInstr.TheVariants.{ShiftRight, Equal, NotEqual, Less, AtMost}
use Rattle.quick_code.specs.QuickSteps.{Memory, act, look, moment, put}
use Rattle.quick_code.specs.Words.{between, operator_result, passes, shifted_down, bool_word}
use Rattle.quick_trees.specs.Straight.{Assigns}
use Rattle.quick_trees.proofs.Lists.{some_is}
use Rattle.quick_checks.specs.Targets.{target}

module _ (ways : List Way) (now : ℕ) where
  assigned : (i : QuickInstr) (to j : ℕ) (word : Memory → Option ℤ)
      → ((m : Memory) (b : ℕ) → act ways now i m b ≡ put to (word m) m b) → Some to ≡ Some j → Assigns ways now i j
  assigned i to j word does e = subst (Assigns ways now i) (some_is e) (record { word = word; does = does })

  -- the word that `target` gives is assigned
  pub target_assigned : (i : QuickInstr) (j : ℕ) → target i ≡ Some j → Assigns ways now i j
  target_assigned (Move from to) j e = assigned (Move from to) to j (λ m. Some (look m from)) (λ m b. refl) e
  target_assigned (Set w to) j e = assigned (Set w to) to j (λ m. Some w) (λ m b. refl) e
  target_assigned (MoveWithin from least greatest to) j e =
      assigned (MoveWithin from least greatest to) to j
      (λ m. between (look m least) (look m greatest) (look m from)) (λ m b. refl) e
  target_assigned (Select x y z to) j e =
      assigned (Select x y z to) to j
      (λ m. Some (if int_eq (look m x) (pos 0) then look m z else look m y)) (λ m b. refl) e
  target_assigned (Clock to) j e = assigned (Clock to) to j (λ m. moment now) (λ m b. refl) e
  target_assigned (AddInt l r to) j e =
      assigned (AddInt l r to) to j (λ m. operator_result op.Add Int (look m l) (look m r)) (λ m b. refl) e
  target_assigned (AddDint l r to) j e =
      assigned (AddDint l r to) to j (λ m. operator_result op.Add Dint (look m l) (look m r)) (λ m b. refl) e
  target_assigned (AddLint l r to) j e =
      assigned (AddLint l r to) to j (λ m. operator_result op.Add Lint (look m l) (look m r)) (λ m b. refl) e
  target_assigned (AddIntBy l k to) j e =
      assigned (AddIntBy l k to) to j (λ m. operator_result op.Add Int (look m l) k) (λ m b. refl) e
  target_assigned (AddDintBy l k to) j e =
      assigned (AddDintBy l k to) to j (λ m. operator_result op.Add Dint (look m l) k) (λ m b. refl) e
  target_assigned (AddLintBy l k to) j e =
      assigned (AddLintBy l k to) to j (λ m. operator_result op.Add Lint (look m l) k) (λ m b. refl) e
  target_assigned (SubtractInt l r to) j e =
      assigned (SubtractInt l r to) to j (λ m. operator_result op.Subtract Int (look m l) (look m r)) (λ m b. refl) e
  target_assigned (SubtractDint l r to) j e =
      assigned (SubtractDint l r to) to j (λ m. operator_result op.Subtract Dint (look m l) (look m r)) (λ m b. refl) e
  target_assigned (SubtractLint l r to) j e =
      assigned (SubtractLint l r to) to j (λ m. operator_result op.Subtract Lint (look m l) (look m r)) (λ m b. refl) e
  target_assigned (MultiplyInt l r to) j e =
      assigned (MultiplyInt l r to) to j (λ m. operator_result op.Multiply Int (look m l) (look m r)) (λ m b. refl) e
  target_assigned (MultiplyDint l r to) j e =
      assigned (MultiplyDint l r to) to j (λ m. operator_result op.Multiply Dint (look m l) (look m r)) (λ m b. refl) e
  target_assigned (MultiplyLint l r to) j e =
      assigned (MultiplyLint l r to) to j (λ m. operator_result op.Multiply Lint (look m l) (look m r)) (λ m b. refl) e
  target_assigned (MultiplyDintBy l k to) j e =
      assigned (MultiplyDintBy l k to) to j (λ m. operator_result op.Multiply Dint (look m l) k) (λ m b. refl) e
  target_assigned (DivideInt l r to) j e =
      assigned (DivideInt l r to) to j (λ m. operator_result op.Divide Int (look m l) (look m r)) (λ m b. refl) e
  target_assigned (DivideDint l r to) j e =
      assigned (DivideDint l r to) to j (λ m. operator_result op.Divide Dint (look m l) (look m r)) (λ m b. refl) e
  target_assigned (DivideLint l r to) j e =
      assigned (DivideLint l r to) to j (λ m. operator_result op.Divide Lint (look m l) (look m r)) (λ m b. refl) e
  target_assigned (DivideBy l k to) j e =
      assigned (DivideBy l k to) to j (λ m. operator_result op.Divide Lint (look m l) k) (λ m b. refl) e
  target_assigned (Modulo l r to) j e =
      assigned (Modulo l r to) to j (λ m. operator_result op.Modulo Lint (look m l) (look m r)) (λ m b. refl) e
  target_assigned (ModuloBy l k to) j e =
      assigned (ModuloBy l k to) to j (λ m. operator_result op.Modulo Lint (look m l) k) (λ m b. refl) e
  target_assigned (And l r to) j e =
      assigned (And l r to) to j (λ m. operator_result op.And Lint (look m l) (look m r)) (λ m b. refl) e
  target_assigned (AndBy l k to) j e =
      assigned (AndBy l k to) to j (λ m. operator_result op.And Lint (look m l) k) (λ m b. refl) e
  target_assigned (Or l r to) j e =
      assigned (Or l r to) to j (λ m. operator_result op.Or Lint (look m l) (look m r)) (λ m b. refl) e
  target_assigned (Xor l r to) j e =
      assigned (Xor l r to) to j (λ m. operator_result op.Xor Lint (look m l) (look m r)) (λ m b. refl) e
  target_assigned (XorBy l k to) j e =
      assigned (XorBy l k to) to j (λ m. operator_result op.Xor Lint (look m l) k) (λ m b. refl) e
  target_assigned (ShiftRight from n to) j e =
      assigned (ShiftRight from n to) to j (λ m. shifted_down n (look m from)) (λ m b. refl) e
  target_assigned (Equal l r to) j e =
      assigned (Equal l r to) to j (λ m. Some (bool_word (passes test.Equal (look m l) (look m r)))) (λ m b. refl) e
  target_assigned (NotEqual l r to) j e =
      assigned (NotEqual l r to) to j
      (λ m. Some (bool_word (passes test.NotEqual (look m l) (look m r)))) (λ m b. refl) e
  target_assigned (Less l r to) j e =
      assigned (Less l r to) to j (λ m. Some (bool_word (passes test.Less (look m l) (look m r)))) (λ m b. refl) e
  target_assigned (AtMost l r to) j e =
      assigned (AtMost l r to) to j
      (λ m. Some (bool_word (passes test.AtMost (look m l) (look m r)))) (λ m b. refl) e
  target_assigned i j e = absurd cc
