-- The two sides of an equation.
use Rattle.std.proofs.Common.{◌≡◌, Bool, true, IsTrue}

-- the value that equals another
abbrev pub left_of : {A : Type 0} {a b : A} → a ≡ b → A
left_of {A} {a} {b} e = a

pub true_is : (t : Bool) → t ≡ true → IsTrue t
true_is t e = cc
