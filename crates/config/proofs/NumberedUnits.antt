-- The function and the block with a given number in a linked library.
use Rattle.std.proofs.Common.{◌≡◌, refl, subst, arith, ℕ, suc, ◌+◌, Bool, true, false, if◌then◌else◌}
use Rattle.std.proofs.Common.{List, [], ◌∷◌, Some, slice_get}
use Rattle.std.specs.Prelude.{bytes_eq}
use Rattle.st_types.specs.declared.data_type.SimpleType.{SimpleType}
use Rattle.st_types.specs.declared.unit.UnitSort.{UnitSort}
use Rattle.st_types.specs.declared.unit.UnitSort.TheVariants as sorts
use Rattle.st_types.specs.Units.{OrganisationUnit}
use Rattle.st_meaning.specs.NameTypes.{Declared}
use Rattle.st_meaning.specs.Scopes.{Name}
use Rattle.layout.specs.LayoutVariables.{Owned}
use Rattle.st_link.proofs.Among.{Among, here, later}
use Rattle.slot_trees.specs.SlotTrees.{SlotFunction, SlotStmts}
use Rattle.slot_trees.specs.Tables.{named_in}
use Rattle.slot_trees.specs.TextLinks.{linked_block, linked_block_then, linked_blocks, linked_function}
use Rattle.slot_trees.specs.TextLinks.{linked_function_then, linked_functions}
use Rattle.slot_trees.specs.TextNumbers.{block_name_then, block_names, function_name_then, function_names}
use Rattle.slot_trees.specs.TextNumbers.{numbered_from}
use Rattle.slot_trees.proofs.LibraryLinks.{linked_list}
use Rattle.st_types.proofs.OptionLemmas.{some_is}

pub record FunctionAt (text : Declared) (us : List OrganisationUnit) (fs : List SlotFunction) (x : Name) (n i : ℕ)
    : Type 0 where
  pub unit : OrganisationUnit
  pub among : Among unit us
  pub named : bytes_eq x unit.name.name ≡ true
  pub result : SimpleType
  pub sort : unit.sort ≡ sorts.Function result
  pub linked : SlotFunction
  pub is : linked_function text result unit ≡ Some linked
  pub position : ℕ
  pub there : slice_get fs position ≡ Some linked
  pub number : i ≡ n + position

pub record BlockAt (text : Declared) (vs : List Owned) (us : List OrganisationUnit) (bs : List SlotStmts) (x : Name)
    (n i : ℕ) : Type 0 where
  pub unit : OrganisationUnit
  pub among : Among unit us
  pub named : bytes_eq x unit.name.name ≡ true
  pub sort : unit.sort ≡ sorts.FunctionBlock
  pub linked : SlotStmts
  pub is : linked_block text vs unit ≡ Some linked
  pub position : ℕ
  pub there : slice_get bs position ≡ Some linked
  pub number : i ≡ n + position

module _ (text : Declared) (x : Name) (i : ℕ) where
  other_function : (v : OrganisationUnit) (us : List OrganisationUnit) (fs : List SlotFunction) (n : ℕ)
      → FunctionAt text us fs x n i → FunctionAt text (v ∷ us) fs x n i
  other_function v us fs n k = record {
    unit = k.unit;
    among = later k.among;
    named = k.named;
    result = k.result;
    sort = k.sort;
    linked = k.linked;
    is = k.is;
    position = k.position;
    there = k.there;
    number = k.number;
  }

  later_function : (v : OrganisationUnit) (us : List OrganisationUnit) (f : SlotFunction) (fs : List SlotFunction)
      (n : ℕ) → FunctionAt text us fs x (suc n) i → FunctionAt text (v ∷ us) (f ∷ fs) x n i
  later_function v us f fs n k =
      let number = k.number in
      record {
        unit = k.unit;
        among = later k.among;
        named = k.named;
        result = k.result;
        sort = k.sort;
        linked = k.linked;
        is = k.is;
        position = suc k.position;
        there = k.there;
        number = omega (arith, number);
      }

  function_by_name : (v : OrganisationUnit) (us : List OrganisationUnit) (t : SimpleType) (f : SlotFunction)
      (fs : List SlotFunction) (n : ℕ) → v.sort ≡ sorts.Function t → linked_function text t v ≡ Some f
      → (named_in (numbered_from (suc n) (function_names us)) x ≡ Some i → FunctionAt text us fs x (suc n) i)
      → (b : Bool) → bytes_eq x v.name.name ≡ b
      → (if b then Some n else named_in (numbered_from (suc n) (function_names us)) x) ≡ Some i
      → FunctionAt text (v ∷ us) (f ∷ fs) x n i
  function_by_name v us t f fs n sort is rest true named h =
      let same : n ≡ i = some_is h in
      record {
        unit = v;
        among = here;
        named = named;
        result = t;
        sort = sort;
        linked = f;
        is = is;
        position = 0;
        there = refl;
        number = omega (arith, same);
      }
  function_by_name v us t f fs n sort is rest false named h = later_function v us f fs n (rest h)

  function_by_sort : (v : OrganisationUnit) (us : List OrganisationUnit) (s : UnitSort) → v.sort ≡ s → (n : ℕ)
      (fs : List SlotFunction)
      → ((m : ℕ) (gs : List SlotFunction) → linked_functions text us ≡ Some gs
      → named_in (numbered_from m (function_names us)) x ≡ Some i → FunctionAt text us gs x m i)
      → linked_function_then text s v (linked_functions text us) ≡ Some fs
      → named_in (numbered_from n (function_name_then s v.name.name (function_names us))) x ≡ Some i
      → FunctionAt text (v ∷ us) fs x n i
  function_by_sort v us (sorts.Function t) sort n fs ih l h =
      let p = linked_list (linked_function text t v) (linked_functions text us) fs l in
      subst (λ gs. FunctionAt text (v ∷ us) gs x n i) p.all
      (function_by_name v us t p.first p.others n sort p.first_is (ih (suc n) p.others p.others_are)
      (bytes_eq x v.name.name) refl h)
  function_by_sort v us sorts.FunctionBlock sort n fs ih l h = other_function v us fs n (ih n fs l h)
  function_by_sort v us sorts.Program sort n fs ih l h = other_function v us fs n (ih n fs l h)

  pub function_at : (us : List OrganisationUnit) (n : ℕ) (fs : List SlotFunction) → linked_functions text us ≡ Some fs
      → named_in (numbered_from n (function_names us)) x ≡ Some i → FunctionAt text us fs x n i
  function_at [] n fs l h = absurd (cc)
  function_at (v ∷ us) n fs l h = function_by_sort v us v.sort refl n fs (λ m gs k j. function_at us m gs k j) l h

module _ (text : Declared) (vs : List Owned) (x : Name) (i : ℕ) where
  other_block : (v : OrganisationUnit) (us : List OrganisationUnit) (bs : List SlotStmts) (n : ℕ)
      → BlockAt text vs us bs x n i → BlockAt text vs (v ∷ us) bs x n i
  other_block v us bs n k = record {
    unit = k.unit;
    among = later k.among;
    named = k.named;
    sort = k.sort;
    linked = k.linked;
    is = k.is;
    position = k.position;
    there = k.there;
    number = k.number;
  }

  later_block : (v : OrganisationUnit) (us : List OrganisationUnit) (b : SlotStmts) (bs : List SlotStmts) (n : ℕ)
      → BlockAt text vs us bs x (suc n) i → BlockAt text vs (v ∷ us) (b ∷ bs) x n i
  later_block v us b bs n k =
      let number = k.number in
      record {
        unit = k.unit;
        among = later k.among;
        named = k.named;
        sort = k.sort;
        linked = k.linked;
        is = k.is;
        position = suc k.position;
        there = k.there;
        number = omega (arith, number);
      }

  block_by_name : (v : OrganisationUnit) (us : List OrganisationUnit) (b : SlotStmts) (bs : List SlotStmts) (n : ℕ)
      → v.sort ≡ sorts.FunctionBlock → linked_block text vs v ≡ Some b
      → (named_in (numbered_from (suc n) (block_names us)) x ≡ Some i → BlockAt text vs us bs x (suc n) i)
      → (e : Bool) → bytes_eq x v.name.name ≡ e
      → (if e then Some n else named_in (numbered_from (suc n) (block_names us)) x) ≡ Some i
      → BlockAt text vs (v ∷ us) (b ∷ bs) x n i
  block_by_name v us b bs n sort is rest true named h =
      let same : n ≡ i = some_is h in
      record {
        unit = v;
        among = here;
        named = named;
        sort = sort;
        linked = b;
        is = is;
        position = 0;
        there = refl;
        number = omega (arith, same);
      }
  block_by_name v us b bs n sort is rest false named h = later_block v us b bs n (rest h)

  block_by_sort : (v : OrganisationUnit) (us : List OrganisationUnit) (s : UnitSort) → v.sort ≡ s → (n : ℕ)
      (bs : List SlotStmts)
      → ((m : ℕ) (ds : List SlotStmts) → linked_blocks text vs us ≡ Some ds
      → named_in (numbered_from m (block_names us)) x ≡ Some i → BlockAt text vs us ds x m i)
      → linked_block_then text vs s v (linked_blocks text vs us) ≡ Some bs
      → named_in (numbered_from n (block_name_then s v.name.name (block_names us))) x ≡ Some i
      → BlockAt text vs (v ∷ us) bs x n i
  block_by_sort v us sorts.FunctionBlock sort n bs ih l h =
      let p = linked_list (linked_block text vs v) (linked_blocks text vs us) bs l in
      subst (λ ds. BlockAt text vs (v ∷ us) ds x n i) p.all
      (block_by_name v us p.first p.others n sort p.first_is (ih (suc n) p.others p.others_are)
      (bytes_eq x v.name.name) refl h)
  block_by_sort v us (sorts.Function t) sort n bs ih l h = other_block v us bs n (ih n bs l h)
  block_by_sort v us sorts.Program sort n bs ih l h = other_block v us bs n (ih n bs l h)

  pub block_at : (us : List OrganisationUnit) (n : ℕ) (bs : List SlotStmts) → linked_blocks text vs us ≡ Some bs
      → named_in (numbered_from n (block_names us)) x ≡ Some i → BlockAt text vs us bs x n i
  block_at [] n bs l h = absurd (cc)
  block_at (v ∷ us) n bs l h = block_by_sort v us v.sort refl n bs (λ m ds k j. block_at us m ds k j) l h
