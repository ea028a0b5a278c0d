-- The function and the block that are kept by a number.
use Rattle.std.proofs.Common.{◌≡◌, refl, ap, subst, ◌∙◌, ℕ, suc, ◌+◌, arith, List, [], ◌∷◌, map, Bool, true, false}
use Rattle.std.proofs.Common.{if◌then◌else◌, Option, Some, None, slice_get}
use Rattle.std.specs.Prelude.{bytes_eq}
use Rattle.st_types.specs.declared.unit.UnitSort.{UnitSort}
use Rattle.st_types.specs.declared.unit.UnitSort.TheVariants as sorts
use Rattle.st_types.specs.Units.{OrganisationUnit}
use Rattle.st_meaning.specs.NameTypes.{Declared}
use Rattle.st_meaning.specs.ResolvedUnits.{resolved}
use Rattle.st_meaning.specs.Scopes.{Name}
use Rattle.layout.specs.LayoutVariables.{Owned}
use Rattle.layout.proofs.ResolvedLemmas.{taken_text}
use Rattle.st_link.proofs.Among.{Among, here, later}
use Rattle.slot_trees.specs.SlotTrees.{SlotFunction, SlotStmts}
use Rattle.slot_trees.specs.Tables.{named_in}
use Rattle.slot_trees.specs.TextNumbers.{numbered_from, function_name_then, function_names, block_name_then, block_names}
use Rattle.slot_trees.proofs.LibraryLinks.{linked_list}
use Rattle.st_link.specs.KeptTexts.{kept_block, kept_block_then, kept_blocks, kept_function, kept_function_then}
use Rattle.st_link.specs.KeptTexts.{kept_functions}
use Rattle.st_types.proofs.OptionLemmas.{some_is}

-- a unit of a list, and the one that is kept of it by its number
pub record IsKeptAt (A : Type 0) (kept : OrganisationUnit → Option A) (us : List OrganisationUnit) (gs : List A)
    (x : Name) (n i : ℕ) : Type 0 where
  pub unit : OrganisationUnit
  pub among : Among unit us
  pub named : bytes_eq x unit.name.name ≡ true
  pub value : A
  pub position : ℕ
  pub there : slice_get gs position ≡ Some value
  pub number : i ≡ n + position
  pub is : kept unit ≡ Some value

module _ (A : Type 0) (kept : OrganisationUnit → Option A) (x : Name) (i : ℕ) where
  first_kept : (v : OrganisationUnit) (us : List OrganisationUnit) (a : A) (gs : List A) (n : ℕ)
      → bytes_eq x v.name.name ≡ true → n ≡ i → kept v ≡ Some a → IsKeptAt A kept (v ∷ us) (a ∷ gs) x n i
  first_kept v us a gs n e number is = record {
    unit = v;
    among = here;
    named = e;
    value = a;
    position = 0;
    there = refl;
    number = omega (arith, number);
    is = is;
  }

  later_kept : (v : OrganisationUnit) (us : List OrganisationUnit) (a : A) (gs : List A) (n : ℕ)
      → IsKeptAt A kept us gs x (suc n) i → IsKeptAt A kept (v ∷ us) (a ∷ gs) x n i
  later_kept v us a gs n k =
      let number = k.number in
      record {
        unit = k.unit;
        among = later k.among;
        named = k.named;
        value = k.value;
        position = suc k.position;
        there = k.there;
        number = omega (arith, number);
        is = k.is;
      }

  other_kept : (v : OrganisationUnit) (us : List OrganisationUnit) (gs : List A) (n : ℕ)
      → IsKeptAt A kept us gs x n i → IsKeptAt A kept (v ∷ us) gs x n i
  other_kept v us gs n k = record {
    unit = k.unit;
    among = later k.among;
    named = k.named;
    value = k.value;
    position = k.position;
    there = k.there;
    number = k.number;
    is = k.is;
  }

  tested : (v : OrganisationUnit) (us : List OrganisationUnit) (names : List Name) (a : A) (gs : List A) (n : ℕ)
      → kept v ≡ Some a
      → (named_in (numbered_from (suc n) names) x ≡ Some i → IsKeptAt A kept us gs x (suc n) i) → (b : Bool)
      → bytes_eq x v.name.name ≡ b → (if b then Some n else named_in (numbered_from (suc n) names) x) ≡ Some i
      → IsKeptAt A kept (v ∷ us) (a ∷ gs) x n i
  tested v us names a gs n is ih true e h = first_kept v us a gs n e (some_is h) is
  tested v us names a gs n is ih false e h = later_kept v us a gs n (ih h)

module _ (called : Name → Bool) (text : Declared) (x : Name) (i : ℕ) where
  abbrev whole : Declared
  whole = taken_text text

  -- the function that is kept of a unit
  abbrev pub function_by : UnitSort → OrganisationUnit → Option (Option SlotFunction)
  function_by (sorts.Function t) u = kept_function called (taken_text text) t (resolved text u)
  function_by sorts.FunctionBlock u = None
  function_by sorts.Program u = None

  abbrev pub function_of : OrganisationUnit → Option (Option SlotFunction)
  function_of u = function_by u.sort u

  function_cases : (v : OrganisationUnit) (us : List OrganisationUnit) (s : UnitSort) → v.sort ≡ s → (n : ℕ)
      (gs : List (Option SlotFunction))
      → ((m : ℕ) (fs : List (Option SlotFunction)) → kept_functions called whole (map (resolved text) us) ≡ Some fs
      → named_in (numbered_from m (function_names (map (resolved text) us))) x ≡ Some i
      → IsKeptAt (Option SlotFunction) function_of us fs x m i)
      → kept_function_then called whole s (resolved text v) (kept_functions called whole (map (resolved text) us)) ≡ Some gs
      → named_in (numbered_from n (function_name_then s v.name.name (function_names (map (resolved text) us)))) x
      ≡ Some i
      → IsKeptAt (Option SlotFunction) function_of (v ∷ us) gs x n i
  function_cases v us (sorts.Function t) sort n gs ih h g =
      let p = linked_list (kept_function called whole t (resolved text v)) (kept_functions called whole (map (resolved text) us)) gs h
      in
      subst (λ hs. IsKeptAt (Option SlotFunction) function_of (v ∷ us) hs x n i) p.all
      (tested (Option SlotFunction) function_of x i v us (function_names (map (resolved text) us)) p.first p.others n
      (ap (λ s. function_by s v) sort ∙ p.first_is) (ih (suc n) p.others p.others_are) (bytes_eq x v.name.name) refl g)
  function_cases v us sorts.FunctionBlock sort n gs ih h g =
      other_kept (Option SlotFunction) function_of x i v us gs n (ih n gs h g)
  function_cases v us sorts.Program sort n gs ih h g =
      other_kept (Option SlotFunction) function_of x i v us gs n (ih n gs h g)

  pub function_at : (us : List OrganisationUnit) (n : ℕ) (gs : List (Option SlotFunction))
      → kept_functions called (taken_text text) (map (resolved text) us) ≡ Some gs
      → named_in (numbered_from n (function_names (map (resolved text) us))) x ≡ Some i
      → IsKeptAt (Option SlotFunction) function_of us gs x n i
  function_at [] n gs h g = absurd (cc)
  function_at (v ∷ us) n gs h g = function_cases v us v.sort refl n gs (λ m fs k j. function_at us m fs k j) h g

  module _ (vs : List Owned) where
    -- and the block
    abbrev pub block_by : UnitSort → OrganisationUnit → Option (Option SlotStmts)
    block_by sorts.FunctionBlock u = kept_block (taken_text text) vs (resolved text u)
    block_by (sorts.Function t) u = None
    block_by sorts.Program u = None

    abbrev pub block_of : OrganisationUnit → Option (Option SlotStmts)
    block_of u = block_by u.sort u

    block_cases : (v : OrganisationUnit) (us : List OrganisationUnit) (s : UnitSort) → v.sort ≡ s → (n : ℕ)
        (gs : List (Option SlotStmts))
        → ((m : ℕ) (fs : List (Option SlotStmts)) → kept_blocks whole vs (map (resolved text) us) ≡ Some fs
        → named_in (numbered_from m (block_names (map (resolved text) us))) x ≡ Some i
        → IsKeptAt (Option SlotStmts) block_of us fs x m i)
        → kept_block_then whole vs s (resolved text v) (kept_blocks whole vs (map (resolved text) us)) ≡ Some gs
        → named_in (numbered_from n (block_name_then s v.name.name (block_names (map (resolved text) us)))) x ≡ Some i
        → IsKeptAt (Option SlotStmts) block_of (v ∷ us) gs x n i
    block_cases v us sorts.FunctionBlock sort n gs ih h g =
        let p = linked_list (kept_block whole vs (resolved text v)) (kept_blocks whole vs (map (resolved text) us)) gs h
        in
        subst (λ hs. IsKeptAt (Option SlotStmts) block_of (v ∷ us) hs x n i) p.all
        (tested (Option SlotStmts) block_of x i v us (block_names (map (resolved text) us)) p.first p.others n
        (ap (λ s. block_by s v) sort ∙ p.first_is) (ih (suc n) p.others p.others_are) (bytes_eq x v.name.name) refl g)
    block_cases v us (sorts.Function t) sort n gs ih h g =
        other_kept (Option SlotStmts) block_of x i v us gs n (ih n gs h g)
    block_cases v us sorts.Program sort n gs ih h g =
        other_kept (Option SlotStmts) block_of x i v us gs n (ih n gs h g)

    pub block_at : (us : List OrganisationUnit) (n : ℕ) (gs : List (Option SlotStmts))
        → kept_blocks (taken_text text) vs (map (resolved text) us) ≡ Some gs
        → named_in (numbered_from n (block_names (map (resolved text) us))) x ≡ Some i
        → IsKeptAt (Option SlotStmts) block_of us gs x n i
    block_at [] n gs h g = absurd (cc)
    block_at (v ∷ us) n gs h g = block_cases v us v.sort refl n gs (λ m fs k j. block_at us m fs k j) h g
