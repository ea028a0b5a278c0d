-- Numbers of names, one more at a time.
use Rattle.std.proofs.Common.{◌≡◌, refl, sym, ap, ◌∙◌, arith, ℕ, suc, ◌+◌, List, [], ◌∷◌, ◌++◌, length, Bool}
use Rattle.std.proofs.Common.{true, false}
use Rattle.std.proofs.Common.{if◌then◌else◌, Option, Some, None, subst, ◌<◌, map, take, slice_index_or}
use denote.Bor.{Bor}
use Rattle.std.proofs.lemmas.List.{length-map, length-take-le, map-append, take_more}
use Rattle.st_types.specs.declared.name.Name as code_name
use Rattle.std.specs.Prelude.{bytes_eq, is_some}
use Rattle.std.proofs.lemmas.Slice.Eq.{bytes_eq-Decides}
use Rattle.st_types.specs.declared.unit.UnitSort.{UnitSort}
use Rattle.st_types.specs.declared.unit.UnitSort.TheVariants.{Function, FunctionBlock, Program}
use Rattle.st_types.specs.Units.{OrganisationUnit}
use Rattle.st_meaning.specs.NameTypes.{unit_named}
use Rattle.st_meaning.specs.Scopes.{Name}
use Rattle.symbols.specs.Found.{or_found}
use Rattle.slot_trees.specs.Tables.{named_in}
use Rattle.slot_trees.specs.TextNumbers.{block_name_then, block_names, numbered_from}

pub numbered_more : (n : ℕ) (xs : List Name) (y x : Name) → named_in (numbered_from n (xs ++ y ∷ [])) x
    ≡ or_found (named_in (numbered_from n xs) x) (if bytes_eq x y then Some (n + length xs) else None)
numbered_more n [] y x = ap (λ m. if bytes_eq x y then Some m else None) (none n)
  where
    none : (m : ℕ) → m ≡ m + 0
    none m = omega arith
numbered_more n (z ∷ xs) y x = by_test (bytes_eq x z) (numbered_more (suc n) xs y x)
  where
    later : (m k : ℕ) → suc m + k ≡ m + (k + 1)
    later m k = omega arith

    by_test : (b : Bool) → named_in (numbered_from (suc n) (xs ++ y ∷ [])) x
        ≡ or_found (named_in (numbered_from (suc n) xs) x) (if bytes_eq x y then Some (suc n + length xs) else None)
        → (if b then Some n else named_in (numbered_from (suc n) (xs ++ y ∷ [])) x)
        ≡ or_found (if b then Some n else named_in (numbered_from (suc n) xs) x)
        (if bytes_eq x y then Some (n + length (z ∷ xs)) else None)
    by_test true ih = refl
    by_test false ih =
        ih ∙ ap (λ m. or_found (named_in (numbered_from (suc n) xs) x) (if bytes_eq x y then Some m else None))
        (more (length xs))
      where
        more : (k : ℕ) → suc n + k ≡ n + suc k
        more k = omega arith

-- a name that is equal to itself
pub itself : (x : Name) → bytes_eq x x ≡ true
itself x = (bytes_eq-Decides x x).1 refl

-- a block of the text has a number
some_later : (b : Bool) (n : ℕ) (o : Option ℕ) → is_some o ≡ true → is_some (if b then Some n else o) ≡ true
some_later true n o h = refl
some_later false n o h = h

pub block_numbered : (n : ℕ) (us : List OrganisationUnit) (x : Name) (u : OrganisationUnit)
    → unit_named us x ≡ Some u → u.sort ≡ FunctionBlock
    → is_some (named_in (numbered_from n (block_names us)) x) ≡ true
block_numbered n [] x u h sort = absurd (cc)
block_numbered n (v ∷ us) x u h sort =
    by_test (bytes_eq x v.name.name) refl h (λ m. block_numbered m us x u)
  where
    by_sort : (s : UnitSort) → (unit_named us x ≡ Some u → (m : ℕ) → u.sort ≡ FunctionBlock
        → is_some (named_in (numbered_from m (block_names us)) x) ≡ true) → unit_named us x ≡ Some u
        → is_some (named_in (numbered_from n (block_name_then s v.name.name (block_names us))) x) ≡ true
    by_sort FunctionBlock ih g = some_later (bytes_eq x v.name.name) n
        (named_in (numbered_from (suc n) (block_names us)) x) (ih g (suc n) sort)
    by_sort (Function t) ih g = ih g n sort
    by_sort Program ih g = ih g n sort

    by_test : (b : Bool) → bytes_eq x v.name.name ≡ b → (if b then Some v else unit_named us x) ≡ Some u
        → ((m : ℕ) → unit_named us x ≡ Some u → u.sort ≡ FunctionBlock
        → is_some (named_in (numbered_from m (block_names us)) x) ≡ true)
        → is_some (named_in (numbered_from n (block_name_then v.sort v.name.name (block_names us))) x) ≡ true
    by_test false e g ih = by_sort v.sort (λ k m s. ih m k s) g
    by_test true e g ih =
        let same : v.sort ≡ FunctionBlock = ap (λ w. w.sort) (let is : v ≡ u = cc in is) ∙ sort in
        subst (λ s. is_some (named_in (numbered_from n (block_name_then s v.name.name (block_names us))) x) ≡ true)
        (sym same)
        (ap (λ b. is_some (if b then Some n else named_in (numbered_from (suc n) (block_names us)) x)) e)

-- one turn over names of the code
pub numbers_more : (xs : List (Bor code_name.Name)) (i : ℕ) (y : Bor code_name.Name) (x : Name)
    (before after : Option ℕ) → i < length xs → y ≡ slice_index_or xs i y
    → before ≡ named_in (numbered_from 0 (map (λ z. z.now) (take i xs))) x
    → after ≡ or_found before (if bytes_eq x y.now then Some i else None)
    → after ≡ named_in (numbered_from 0 (map (λ z. z.now) (take (i + 1) xs))) x
numbers_more xs i y x before after below is so_far added =
    let shown : List (Bor code_name.Name) → List Name = λ zs. map (λ z. z.now) zs in
    let count : i ≡ 0 + length (shown (take i xs)) =
    counted i (length (take i xs)) (length (shown (take i xs))) (length-take-le i xs (omega arith))
    (length-map (take i xs) (λ z. z.now)) in
    added ∙ ap (λ o. or_found o (if bytes_eq x y.now then Some i else None)) so_far
    ∙ ap (λ n. or_found (named_in (numbered_from 0 (shown (take i xs))) x) (if bytes_eq x y.now then Some n else None))
    count
    ∙ sym (numbered_more 0 (shown (take i xs)) y.now x)
    ∙ ap (λ zs. named_in (numbered_from 0 zs) x)
    (sym (ap shown (take_more xs i y below ∙ ap (λ z. take i xs ++ z ∷ []) (sym is))
    ∙ map-append (λ z. z.now) (take i xs) (y ∷ [])))
  where
    counted : (n a b : ℕ) → a ≡ n → b ≡ a → n ≡ 0 + b
    counted n a b h g = omega (arith, h, g)
