-- Loops over lists whose faults are told by recursion.
use Rattle.std.proofs.Common.{◌≡◌, ap, ◌∙◌, ℕ, ◌+◌, ◌<◌, ◌≤◌, List, [], ◌∷◌, ◌++◌, length, map, drop, slice_index_or}
use Rattle.std.specs.List.{flat_map}
use Rattle.std.proofs.lemmas.List.{drop_all}
use Rattle.st_types.proofs.ListLemmas.{drop_next, map_drop_next}
use Rattle.st_rules.specs.declared.rule.Broken.{Broken}
use Rattle.st_rules.specs.declared.broken_rules.BrokenRules.{BrokenRules}
use Rattle.st_rules.specs.Collecting.{Collects}
use Rattle.st_rules.proofs.CollectLemmas.{Searches, search_goes_on, search_ends, search_is}

module _ {A B : Type 0} (f : List B → List Broken) (g : A → B) (xs : List A) (i : ℕ) (all : List Broken) where
  pub part_goes_on : (x : A) (part : List Broken) (start it next : BrokenRules) → i < length xs
      → x ≡ slice_index_or xs i x → f (g x ∷ map g (drop (i + 1) xs)) ≡ part ++ f (map g (drop (i + 1) xs))
      → Searches all (f (map g (drop i xs))) start it → Collects part it next
      → Searches all (f (map g (drop (i + 1) xs))) start next
  part_goes_on x part start it next h is first s one =
      let rest = f (map g (drop (i + 1) xs)) in
      search_goes_on all part rest start it next
      (search_is all (f (map g (drop i xs))) (part ++ rest) start it (ap f (map_drop_next g xs i x h is) ∙ first) s)
      one.adds one.covers

  pub parts_end : (start it : BrokenRules) → length xs ≤ i → f [] ≡ [] → Searches all (f (map g (drop i xs))) start it
      → Collects all start it
  parts_end start it h none s =
      search_ends all start it (search_is all (f (map g (drop i xs))) [] start it
      (ap (λ ys. f (map g ys)) (drop_all i xs h) ∙ none) s)

-- the same for what is told of each element
pub each_goes_on : {A : Type 0} (f : A → List Broken) (xs : List A) (i : ℕ) (x : A) (all : List Broken)
    (start it next : BrokenRules) → i < length xs → x ≡ slice_index_or xs i x
    → Searches all (flat_map f (drop i xs)) start it → Collects (f x) it next
    → Searches all (flat_map f (drop (i + 1) xs)) start next
each_goes_on f xs i x all start it next h is s one =
    search_goes_on all (f x) (flat_map f (drop (i + 1) xs)) start it next
    (search_is all (flat_map f (drop i xs)) (f x ++ flat_map f (drop (i + 1) xs)) start it
    (ap (flat_map f) (drop_next xs i x h is)) s) one.adds one.covers

pub each_ends : {A : Type 0} (f : A → List Broken) (xs : List A) (i : ℕ) (all : List Broken) (start it : BrokenRules)
    → length xs ≤ i → Searches all (flat_map f (drop i xs)) start it → Collects all start it
each_ends f xs i all start it h s =
    search_ends all start it
    (search_is all (flat_map f (drop i xs)) [] start it (ap (flat_map f) (drop_all i xs h)) s)
