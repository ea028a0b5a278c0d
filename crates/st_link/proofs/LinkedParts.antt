-- Linked parts, put together.
use Rattle.std.proofs.Common.{◌≡◌, List, ◌∷◌, Option, Some, option_map, option_and_then, ap, ◌∙◌}
use Rattle.slot_trees.specs.TextLinks.{linked_then}
use Rattle.st_link.specs.Served.{IsLinked}

pub linked_and : {A B : Type 0} (f : A → Option B) (o : Option A) → IsLinked o → ((a : A) → IsLinked (f a))
    → IsLinked (option_and_then f o)
linked_and f o h g =
    let i = g h.value in record { value = i.value; is = ap (option_and_then f) h.is ∙ i.is }

pub linked_from : {A B : Type 0} (f : A → Option B) (o : Option A) (a : A) → o ≡ Some a → IsLinked (f a)
    → IsLinked (option_and_then f o)
linked_from f o a e h = record { value = h.value; is = ap (option_and_then f) e ∙ h.is }

pub linked_map : {A B : Type 0} (f : A → B) (o : Option A) → IsLinked o → IsLinked (option_map f o)
linked_map f o h = record { value = f h.value; is = ap (option_map f) h.is }

pub linked_as : {A : Type 0} (o p : Option A) → o ≡ p → IsLinked p → IsLinked o
linked_as o p e h = record { value = h.value; is = e ∙ h.is }

-- one more element of a list
pub linked_list : {A : Type 0} (o : Option A) (rest : Option (List A)) → IsLinked o → IsLinked rest
    → IsLinked (linked_then o rest)
linked_list o rest h g =
    linked_and (λ y. option_map (λ ys. y ∷ ys) rest) o h (λ y. linked_map (λ ys. y ∷ ys) rest g)
