-- Standard functions on the topmost values.
use Rattle.std.proofs.Common.{◌≡◌, ℕ, ◌<◌, ◌≤◌, Bool, true, false, if◌then◌else◌, List, [], ◌∷◌, length, take, drop}
use Rattle.std.proofs.Common.{Some, Result, Ok, Err, refl, sym, ap, ◌∙◌, arith}
use Rattle.std.specs.Prelude.{nat_le, reverse}
use Rattle.std.proofs.lemmas.Bool.{le-leb}
use Rattle.std.proofs.lemmas.Bool.Decides.{nat_tests}
use Rattle.st_types.specs.declared.fault.Fault.{Fault as TheFault}
use Rattle.st_types.specs.declared.fault.Fault.TheVariants.{Conversion}
use Rattle.st_types.specs.Values.{Datum}
use Rattle.st_meaning.specs.Failures.{ill_typed, StuckFaults, in_runs, run_result}
use Rattle.st_meaning.specs.StandardFunctions.{Standard, standard_value}
use Rattle.symbols.specs.Standard.{standard_view}
use Rattle.symbols.specs.declared.standard_functions.Standard as code_function
use Rattle.machine_code.specs.declared.instr.Instr.TheVariants.{Compute}
use Rattle.machine_code.specs.Machine.{Ending, Next, failed, act, on_tops, on_result}
use Rattle.machine_code.specs.Tracking.{Tracked, tracking}
use Rattle.slot_machine.specs.declared.stop.Stop.{Stop}
use Rattle.slot_machine.specs.declared.stop.Stop.TheVariants.{Fault, Memory}
use Rattle.slot_machine.specs.Steps.{Steps, IsPushed, operated}
use Rattle.slot_machine.proofs.Results.{result_ok, result_err}
use Rattle.slot_machine.proofs.Tops.{tops_there, tops_missing}

there : (f : Standard) (n : ℕ) (st : List Datum) → n ≤ length st
    → standard_value f (reverse (take n st)) ≡ operated f n st
there f n st le =
    ap (λ t. if t then standard_value f (reverse (take n st)) else Err ill_typed) (sym (le-leb n (length st) le))

missing : (f : Standard) (n : ℕ) (st : List Datum) → length st < n → operated f n st ≡ Err ill_typed
missing f n st lt =
    let no : nat_le n (length st) ≡ false = grind (arith, nat_tests) in
    ap (λ t. if t then standard_value f (reverse (take n st)) else Err ill_typed) no

pub operated_there : (f : Standard) (n : ℕ) (st xs : List Datum) → n ≤ length st → xs ≡ reverse (take n st)
    → run_result (standard_value f xs) ≡ run_result (operated f n st)
operated_there f n st xs le e = ap (λ ys. run_result (standard_value f ys)) e ∙ ap run_result (there f n st le)

pub operated_missing : (f : Standard) (n : ℕ) (st : List Datum) → length st < n
    → Err Conversion ≡ run_result (operated f n st)
operated_missing f n st lt = sym (ap run_result (missing f n st lt))

-- the machine on the topmost values
by_test : {M : Type 0} (t : StuckFaults) (f : Standard) (n : ℕ) (st : List Datum) (m : M)
    (go : List Datum → Datum → Ending M) (b : Bool) → nat_le n (length st) ≡ b
    → on_tops t n [] st m (λ xs rest. on_result t (standard_value f xs) m (go rest))
    ≡ on_result t (operated f n st) m (go (drop n st))
by_test t f n st m go true e =
    let le : n ≤ length st = grind (arith, nat_tests) in
    tops_there t n st m (λ xs rest. on_result t (standard_value f xs) m (go rest)) le
    ∙ ap (λ r. on_result t r m (go (drop n st))) (there f n st le)
by_test t f n st m go false e =
    let lt : length st < n = grind (arith, nat_tests) in
    tops_missing t n [] st m (λ xs rest. on_result t (standard_value f xs) m (go rest)) lt
    ∙ ap (λ r. on_result t r m (go (drop n st))) (sym (missing f n st lt))

module _ (f : code_function.Standard) (n : ℕ) (old : List Datum) where
  computed : (now size p b : ℕ) (m : Tracked) (next : Next Tracked)
      → act tracking in_runs now size (Some (Compute f n)) next p old m b
      ≡ on_result in_runs (operated (standard_view f) n old) m (λ v. next p (v ∷ drop n old) m b)
  computed now size p b m next =
      by_test in_runs (standard_view f) n old m (λ rest v. next p (v ∷ rest) m b) (nat_le n (length old)) refl

  pub compute_ok : (rest : List Datum) (v : Datum) (new : List Datum) (r : Result (Unit {0}) Stop)
      → Ok v ≡ run_result (operated (standard_view f) n old) → rest ≡ drop n old → IsPushed r v rest new
      → (now size p b : ℕ) (m : Tracked) → Steps r now size (Some (Compute f n)) p old m b p new m b
  compute_ok rest v new (Ok u) is dropped pushed now size p b m = λ next.
      computed now size p b m next
      ∙ result_ok (operated (standard_view f) n old) v m (λ v. next p (v ∷ drop n old) m b) is
      ∙ ap (λ st. next p st m b) (ap (λ st. v ∷ st) (sym dropped) ∙ sym pushed)
  compute_ok rest v new (Err (Fault f)) is dropped pushed now size p b m = absurd pushed
  compute_ok rest v new (Err Memory) is dropped pushed now size p b m = tt

  pub compute_err : (e : TheFault) → Err e ≡ run_result (operated (standard_view f) n old) → (now size p b : ℕ)
      (m : Tracked) (next : Next Tracked)
      → act tracking in_runs now size (Some (Compute f n)) next p old m b ≡ failed m e
  compute_err e is now size p b m next =
      computed now size p b m next
      ∙ result_err (operated (standard_view f) n old) e m (λ v. next p (v ∷ drop n old) m b) is
