-- Instructions on the topmost values.
use Rattle.std.proofs.Common.{◌≡◌, ℕ, List, ◌∷◌, Some, Result, Ok, Err, sym, ap, ◌∙◌}
use Rattle.st_types.specs.declared.fault.Fault.{Fault as TheFault}
use Rattle.st_types.specs.declared.operator.BinaryOperator.{BinaryOperator}
use Rattle.st_types.specs.Values.{Datum}
use Rattle.st_meaning.specs.Failures.{in_runs, run_result}
use Rattle.st_meaning.specs.Operators.{apply}
use Rattle.st_meaning.specs.Operators.{natural}
use Rattle.machine_code.specs.declared.instr.Instr.TheVariants.{Binary, Subscript}
use Rattle.machine_code.specs.Machine.{Next, failed, act, element, slot_number}
use Rattle.machine_code.specs.Tracking.{Tracked, tracking}
use Rattle.slot_machine.specs.declared.stop.Stop.{Stop}
use Rattle.slot_machine.specs.declared.stop.Stop.TheVariants.{Fault, Memory}
use Rattle.slot_machine.specs.Steps.{Steps, IsPushed}
use Rattle.slot_machine.proofs.Results.{result_ok, result_err}

module _ (old mid rest : List Datum) (y x : Datum) (first : old ≡ y ∷ mid)
    (second : mid ≡ x ∷ rest) where
  both : old ≡ y ∷ x ∷ rest
  both = first ∙ ap (λ st. y ∷ st) second

  pub binary_ok : (op : BinaryOperator) (v : Datum) (new : List Datum) (r : Result (Unit {0}) Stop) → Ok v ≡ run_result
      (apply op x y)
      → IsPushed r v rest new → (now size p b : ℕ) (m : Tracked)
      → Steps r now size (Some (Binary op)) p old m b p new m b
  binary_ok op v new (Ok u) is pushed now size p b m = λ next.
      ap (λ st. act tracking in_runs now size (Some (Binary op)) next p st m b) both
      ∙ result_ok (apply op x y) v m (λ v. next p (v ∷ rest) m b) is ∙ ap (λ st. next p st m b) (sym pushed)
  binary_ok op v new (Err (Fault f)) is pushed now size p b m = absurd pushed
  binary_ok op v new (Err Memory) is pushed now size p b m = tt

  pub binary_err : (op : BinaryOperator) (f : TheFault) → Err f ≡ run_result (apply op x y) → (now size p b : ℕ)
      (m : Tracked)
      (next : Next Tracked) → act tracking in_runs now size (Some (Binary op)) next p old m b ≡ failed m f
  binary_err op f is now size p b m next =
      ap (λ st. act tracking in_runs now size (Some (Binary op)) next p st m b) both
      ∙ result_err (apply op x y) f m (λ v. next p (v ∷ rest) m b) is

  pub subscript_err : (lower : Datum) (count stride : ℕ) (f : TheFault)
      → Err f ≡ run_result (element lower.number count stride y.number (natural x.number))
      → (now size p b : ℕ) (m : Tracked) (next : Next Tracked)
      → act tracking in_runs now size (Some (Subscript count stride lower)) next p old m b ≡ failed m f
  subscript_err lower count stride f is now size p b m next =
      ap (λ st. act tracking in_runs now size (Some (Subscript count stride lower)) next p st m b) both
      ∙ result_err (element lower.number count stride y.number (natural x.number)) f m
      (λ j. next p (slot_number j ∷ rest) m b) is
