-- The entries of lists of names.
use Rattle.std.proofs.Common.{◌≡◌, ◌⊎◌, inl, inr, Bool, true, false, if◌then◌else◌, List, [], ◌∷◌, ◌++◌, map}
use Rattle.std.proofs.Common.{Some, None, option_map, refl, ap, ◌∙◌}
use Rattle.std.specs.Prelude.{bytes_eq}
use Rattle.st_meaning.specs.Scopes.{Name}
use Rattle.st_meaning.specs.StandardBlocks.{block_of, members_of}
use Rattle.slot_trees.specs.SlotTrees.{standard_block}
use Rattle.slot_trees.specs.Tables.{named_in}
use Rattle.slot_trees.specs.LinkedTexts.{parts_of_members}
use Rattle.slot_trees.specs.TextNumbers.{standard_blocks, standard_codes, standard_members}

module _ {A : Type 0} where
  -- of two lists, the first one's entry takes precedence
  pub named_split : (es fs : List (Name × A)) (x : Name) (a : A) → named_in (es ++ fs) x ≡ Some a
      → (named_in es x ≡ Some a) ⊎ ((named_in es x ≡ None) × (named_in fs x ≡ Some a))
  named_split [] fs x a h = inr (refl, h)
  named_split (e ∷ es) fs x a h = by_test (bytes_eq x e.0) h (named_split es fs x a)
    where
      by_test : (b : Bool) → (if b then Some e.1 else named_in (es ++ fs) x) ≡ Some a
          → (named_in (es ++ fs) x ≡ Some a
          → (named_in es x ≡ Some a) ⊎ ((named_in es x ≡ None) × (named_in fs x ≡ Some a)))
          → ((if b then Some e.1 else named_in es x) ≡ Some a)
          ⊎ (((if b then Some e.1 else named_in es x) ≡ None) × (named_in fs x ≡ Some a))
      by_test true g ih = inl g
      by_test false g ih = ih g

  pub named_first : (es fs : List (Name × A)) (x : Name) (a : A) → named_in es x ≡ Some a
      → named_in (es ++ fs) x ≡ Some a
  named_first [] fs x a h = absurd (cc)
  named_first (e ∷ es) fs x a h = by_test (bytes_eq x e.0) h (named_first es fs x a)
    where
      by_test : (b : Bool) → (if b then Some e.1 else named_in es x) ≡ Some a
          → (named_in es x ≡ Some a → named_in (es ++ fs) x ≡ Some a)
          → (if b then Some e.1 else named_in (es ++ fs) x) ≡ Some a
      by_test true g ih = g
      by_test false g ih = ih g

  pub named_behind : (es fs : List (Name × A)) (x : Name) → named_in es x ≡ None
      → named_in (es ++ fs) x ≡ named_in fs x
  named_behind [] fs x h = refl
  named_behind (e ∷ es) fs x h = by_test (bytes_eq x e.0) h (named_behind es fs x)
    where
      by_test : (b : Bool) → (if b then Some e.1 else named_in es x) ≡ None
          → (named_in es x ≡ None → named_in (es ++ fs) x ≡ named_in fs x)
          → (if b then Some e.1 else named_in (es ++ fs) x) ≡ named_in fs x
      by_test true g ih = absurd (cc)
      by_test false g ih = ih g

pub named_mapped : {A B : Type 0} (f : A → B) (es : List (Name × A)) (x : Name)
    → named_in (map (λ e. (e.0, f e.1)) es) x ≡ option_map f (named_in es x)
named_mapped f [] x = refl
named_mapped f (e ∷ es) x = by_test (bytes_eq x e.0) (named_mapped f es x)
  where
    by_test : (b : Bool) → named_in (map (λ e. (e.0, f e.1)) es) x ≡ option_map f (named_in es x)
        → (if b then Some (f e.1) else named_in (map (λ e. (e.0, f e.1)) es) x)
        ≡ option_map f (if b then Some e.1 else named_in es x)
    by_test true ih = refl
    by_test false ih = ih

-- standard blocks are found by their names
standard_named : (x : Name) → named_in standard_blocks x ≡ block_of x
unfolding block_of
standard_named x = refl

pub standard_code : (x : Name) → named_in standard_codes x ≡ option_map standard_block (block_of x)
standard_code x = named_mapped standard_block standard_blocks x ∙ ap (option_map standard_block) (standard_named x)

pub standard_member : (x : Name)
    → named_in standard_members x ≡ option_map (λ k. parts_of_members (members_of k)) (block_of x)
standard_member x =
    named_mapped (λ k. parts_of_members (members_of k)) standard_blocks x
    ∙ ap (option_map (λ k. parts_of_members (members_of k))) (standard_named x)
