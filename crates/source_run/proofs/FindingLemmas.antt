-- Looking up an entry, and looking up its code.
use Rattle.std.proofs.Common.{◌≡◌, refl, ℕ, List, [], ◌∷◌, Bool, true, false, Option, Some, None}
use Rattle.std.proofs.Common.{find, map, option_map, cond}
use denote.Bor.{Bor}
use Rattle.source_run.specs.declared.entry.Explanation.{Explanation}
use Rattle.source_run.specs.ListedCodes.{code_bytes, has_code, is_code}

-- the code of a choice, either way
pub code_chosen : (b : Bool) (x : Explanation) (rest : Option Explanation) (codes : Option (List ℕ))
    → option_map code_bytes rest ≡ codes → option_map code_bytes (cond b (Some x) rest) ≡ cond b (Some (code_bytes x)) codes
code_chosen true x rest codes same = refl
code_chosen false x rest codes same = same

-- the code of the entry that is found is the code that is found
pub find_code : (words : List ℕ) (table : List Explanation)
    → option_map code_bytes (find (has_code words) table) ≡ find (is_code words) (map code_bytes table)
find_code words [] = refl
find_code words (x ∷ xs) =
    code_chosen (has_code words x) x (find (has_code words) xs) (find (is_code words) (map code_bytes xs))
    (find_code words xs)

-- the code under a reference
pub code_behind : (found : Option (Bor Explanation))
    → option_map (λ e. code_bytes e.now) found ≡ option_map code_bytes (option_map (λ e. e.now) found)
code_behind None = refl
code_behind (Some e) = refl
