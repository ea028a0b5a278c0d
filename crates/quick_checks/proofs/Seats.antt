-- Seats of lists.
use Rattle.std.proofs.Common.{◌≡◌, ℕ, zero, suc, List, [], ◌∷◌, map}
use Rattle.std.specs.Prelude.{Some, slice_get}
use Rattle.quick_checks.specs.declared.scope.FunctionWord.{FunctionWord}
use Rattle.quick_checks.specs.Checking.{seat_of}

pub seat_seen : (ss : List FunctionWord) (k : ℕ) (s : FunctionWord) → slice_get ss k ≡ Some s
    → slice_get (map seat_of ss) k ≡ Some (seat_of s)
seat_seen [] k s e = cc
seat_seen (x ∷ xs) zero s e = let h : x ≡ s = cc in cc
seat_seen (x ∷ xs) (suc k) s e = seat_seen xs k s e
