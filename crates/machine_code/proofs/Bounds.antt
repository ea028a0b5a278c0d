-- Slots to which subscripts lead.
use Rattle.std.proofs.Common.{◌≡◌, ℕ, ◌+◌, ◌-◌, ◌*◌, ◌≤◌, ◌<◌, true, Ok, Err, ap, ◌∙◌}
use Rattle.std.proofs.Common.{arith, if◌then◌else◌}
use Rattle.std.specs.Prelude.{ℤ, nat_lt}
use Rattle.std.proofs.lemmas.Bool.Decides.{nat_tests}
use Rattle.std.proofs.lemmas.Int.{ints}
use Rattle.std.proofs.Math.Nat.{mul-le-mul_right}
use Rattle.st_meaning.specs.Failures.{StuckFaults, ill_typed}
use Rattle.layout.specs.Shapes.{in_bounds, distance}
use Rattle.machine_code.specs.Machine.{Ending, on_result, a_slot}

-- a number below 65536 is a slot's
pub is_a_slot : {M : Type 0} (t : StuckFaults) (j k : ℕ) (m : M) (next : ℕ → Ending M) → j ≡ k → k < 65536
    → on_result t (a_slot j) m next ≡ next k
is_a_slot t j k m next e lt =
    let is : nat_lt k 65536 ≡ true = grind (arith, nat_tests) in
    ap (λ i. on_result t (a_slot i) m next) e
    ∙ ap (λ go. on_result t (if go then Ok k else Err ill_typed) m next) is

-- an element within bounds is one of as many as there are
pub distance_below : (lower : ℤ) (count : ℕ) (z : ℤ) → in_bounds lower count z ≡ true → distance lower z < count
distance_below lower count z h = grind (arith, ints)

-- a slot after an element is as far as subscripts reach
pub reached : (lower : ℤ) (count stride : ℕ) (z : ℤ) (k rest size : ℕ) → in_bounds lower count z ≡ true
    → k + ((count - 1) * stride + rest) < size → k + distance lower z * stride + rest < size
reached lower count stride z k rest size h lt =
    let d = distance_below lower count z h in
    let le : distance lower z ≤ count - 1 = omega arith in
    let times = mul-le-mul_right stride le in
    omega arith
