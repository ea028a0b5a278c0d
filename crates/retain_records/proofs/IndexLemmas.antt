-- The lines of a layout text in an index.
use Rattle.std.proofs.Common.{◌≡◌, ◌∙◌, ap, sym, refl, subst, arith, ℕ, suc, ◌+◌, Bool, true, false, if◌then◌else◌, cond, not, nat_lt}
use Rattle.std.proofs.Common.{List, [], ◌∷◌, ◌++◌, length, map, Some, None, append_assoc, vec_items}
use Rattle.std.specs.Prelude.{Vec, bytes_eq, option_map, position}
use Rattle.std.specs.List.{list_any, position_or_len, AllByRecursion, IsDistinct}
use Rattle.std.specs.Cmp.Lexicographic.{nat_list_eq_equiv}
use Rattle.std.proofs.lemmas.Bool.{or_from}
use Rattle.std.proofs.lemmas.Bool.Decides.{nat_tests}
use Rattle.indexmap.specs.IndexSet.{insert_key}
use Rattle.retain_records.specs.Lines.{place_of}

-- ---- the place of a line

behind_by : (b : Bool) (n l : ℕ) → nat_lt n l ≡ b
    → cond (nat_lt (1 + n) (suc l)) (Some (1 + n)) None ≡ option_map suc (cond b (Some n) None)
behind_by true n l e = let f : nat_lt (1 + n) (suc l) ≡ true = grind (arith, nat_tests) in
    let g : 1 + n ≡ suc n = omega arith in rw f (ap (λ m. Some m) g)
behind_by false n l e = let f : nat_lt (1 + n) (suc l) ≡ false = grind (arith, nat_tests) in rw f refl

place_by : (t : Bool) (n l : ℕ) → cond (nat_lt (cond (not t) (1 + n) 0) (suc l)) (Some (cond (not t) (1 + n) 0)) None
    ≡ (if t then Some 0 else option_map suc (cond (nat_lt n l) (Some n) None))
place_by true n l = let f : nat_lt 0 (suc l) ≡ true = grind (arith, nat_tests) in rw f refl
place_by false n l = behind_by (nat_lt n l) n l refl

pub placed : {Z : Type 0} (line : List ℕ) (keys : List (Vec ℕ Z))
    → position (λ k. bytes_eq line (vec_items k)) keys ≡ place_of (map vec_items keys) line
placed line [] = refl
placed line (k ∷ keys) =
    place_by (bytes_eq line (vec_items k)) (position_or_len (λ x. bytes_eq line (vec_items x)) keys) (length keys)
    ∙ ap (λ o. if bytes_eq line (vec_items k) then Some 0 else option_map suc o) (placed line keys)

-- ---- one more line

unlike : (x y : List ℕ) (xs rest : List (List ℕ)) → AllByRecursion (λ z. bytes_eq x z ≡ false) (xs ++ y ∷ rest)
    → bytes_eq y x ≡ false
unlike x y [] rest all = nat_list_eq_equiv.symm y x ∙ all.0
unlike x y (z ∷ xs) rest all = unlike x y xs rest all.1

absent : {Z : Type 0} (keys : List (Vec ℕ Z)) (v : Vec ℕ Z) (rest : List (List ℕ))
    → IsDistinct bytes_eq (map vec_items keys ++ vec_items v ∷ rest)
    → list_any (λ k. bytes_eq (vec_items v) (vec_items k)) keys ≡ false
unfolding IsDistinct
absent [] v rest differ = refl
absent (k ∷ keys) v rest differ =
    or_from (bytes_eq (vec_items v) (vec_items k)) (list_any (λ x. bytes_eq (vec_items v) (vec_items x)) keys)
    (unlike (vec_items k) (vec_items v) (map vec_items keys) rest differ.0) (absent keys v rest differ.1)

map_push : {Z : Type 0} (keys : List (Vec ℕ Z)) (v : Vec ℕ Z)
    → map vec_items (keys ++ v ∷ []) ≡ map vec_items keys ++ vec_items v ∷ []
map_push [] v = refl
map_push (k ∷ keys) v = ap (λ (xs : List (List ℕ)). vec_items k ∷ xs) (map_push keys v)

-- a line of another text is appended to the others
pub put_behind : {Z : Type 0} (keys : List (Vec ℕ Z)) (v : Vec ℕ Z) (line : List ℕ) (rest all : List (List ℕ))
    → vec_items v ≡ line → map vec_items keys ++ line ∷ rest ≡ all → IsDistinct bytes_eq all
    → map vec_items (insert_key (λ x y. bytes_eq (vec_items x) (vec_items y)) keys v) ++ rest ≡ all
put_behind {Z} keys v line rest all is whole differ =
    let now : map vec_items keys ++ vec_items v ∷ rest ≡ all =
    ap (λ (x : List ℕ). map vec_items keys ++ x ∷ rest) is ∙ whole in
    let none = absent keys v rest (subst (IsDistinct bytes_eq) (sym now) differ) in
    ap (λ (b : Bool). map vec_items (if b then keys else keys ++ v ∷ []) ++ rest) none
    ∙ ap (λ (xs : List (List ℕ)). xs ++ rest) (map_push keys v)
    ∙ append_assoc (map vec_items keys) (vec_items v ∷ []) rest ∙ now
