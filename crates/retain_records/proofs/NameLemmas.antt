-- Names separated by commas, as the code counts them.
use Rattle.std.proofs.Common.{◌≡◌, ℕ, suc, ◌+◌, ◌<◌, ◌≤◌, Bool, true, false, List, [], ◌∷◌, length}
use Rattle.std.proofs.Common.{Option, Some, None, refl, ap, ◌∙◌, arith}
use Rattle.std.specs.Prelude.{◌&&◌, nat_le, if◌then◌else◌}
use Rattle.std.specs.List.{list_all}
use Rattle.std.proofs.lemmas.Bool.{le-leb, lt-leb}
use Rattle.st_types.specs.UpperNames.{is_upper_name}
use Rattle.retain_records.specs.Splits.{split_at, parted, names_counted}
use Rattle.retain_records.proofs.CutLemmas.{parted_at, parted_at_none}

-- names after `n` that are counted
abbrev pub counted_on : ℕ → List (List ℕ) → Option ℕ
counted_on n names =
    if list_all is_upper_name names && nat_le (n + length names) 65535 then Some (n + length names) else None

pub counted_at_first : (names : List (List ℕ)) → names_counted names ≡ counted_on 0 names
counted_at_first names = let e : 0 + length names ≡ length names = omega arith in rw e refl

-- one name more is counted
pub counted_one : (n : ℕ) (x : List ℕ) (xs : List (List ℕ)) → is_upper_name x ≡ true
    → counted_on n (x ∷ xs) ≡ counted_on (n + 1) xs
counted_one n x xs h =
    let e : n + suc (length xs) ≡ n + 1 + length xs = omega arith in rw (h, e) refl

pub not_counted : (n : ℕ) (x : List ℕ) (xs : List (List ℕ)) → is_upper_name x ≡ false
    → counted_on n (x ∷ xs) ≡ None
not_counted n x xs h = rw h refl

-- no room for one more
beyond : (n : ℕ) (x : List ℕ) (xs : List (List ℕ)) → 65535 ≤ n → counted_on n (x ∷ xs) ≡ None
beyond n x xs h =
    let over : nat_le (n + suc (length xs)) 65535 ≡ false = lt-leb (n + suc (length xs)) 65535 (omega arith) in
    rw over (neither (is_upper_name x && list_all is_upper_name xs))
  where
    neither : (t : Bool) → (if t && false then Some (n + suc (length xs)) else None) ≡ None
    neither true = refl
    neither false = refl

pub counted_all : (n : ℕ) → n ≤ 65535 → counted_on n [] ≡ Some n
counted_all n h =
    let e : n + 0 ≡ n = omega arith in rw (e, le-leb n 65535 h) refl

-- a turn of the loop over names
pub no_name_here : (n : ℕ) (rest x behind : List ℕ) → split_at 44 rest ≡ Some (x, behind) → is_upper_name x ≡ false
    → counted_on n (parted 44 rest) ≡ None
no_name_here n rest x behind e h = ap (counted_on n) (parted_at 44 rest x behind e)
    ∙ not_counted n x (parted 44 behind) h

pub no_room_here : (n : ℕ) (rest x behind : List ℕ) → split_at 44 rest ≡ Some (x, behind) → n ≡ 65535
    → counted_on n (parted 44 rest) ≡ None
no_room_here n rest x behind e h = ap (counted_on n) (parted_at 44 rest x behind e)
    ∙ beyond n x (parted 44 behind) (omega arith)

pub name_here : (n : ℕ) (rest x behind : List ℕ) → split_at 44 rest ≡ Some (x, behind) → is_upper_name x ≡ true
    → counted_on n (parted 44 rest) ≡ counted_on (n + 1) (parted 44 behind)
name_here n rest x behind e h = ap (counted_on n) (parted_at 44 rest x behind e) ∙ counted_one n x (parted 44 behind) h

pub no_name_left : (n : ℕ) (rest : List ℕ) → split_at 44 rest ≡ None → is_upper_name rest ≡ false
    → counted_on n (parted 44 rest) ≡ None
no_name_left n rest e h = ap (counted_on n) (parted_at_none 44 rest e) ∙ not_counted n rest [] h

pub no_room_left : (n : ℕ) (rest : List ℕ) → split_at 44 rest ≡ None → n ≡ 65535 → counted_on n (parted 44 rest) ≡ None
no_room_left n rest e h = ap (counted_on n) (parted_at_none 44 rest e) ∙ beyond n rest [] (omega arith)

pub name_left : (n : ℕ) (rest : List ℕ) → split_at 44 rest ≡ None → is_upper_name rest ≡ true → n < 65535
    → counted_on n (parted 44 rest) ≡ Some (n + 1)
name_left n rest e h lt =
    ap (counted_on n) (parted_at_none 44 rest e) ∙ counted_one n rest [] h ∙ counted_all (n + 1) (omega arith)
