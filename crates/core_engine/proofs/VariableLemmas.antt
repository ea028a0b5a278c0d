-- The variables of a plan by their slots.
use Rattle.std.proofs.Common.{◌≡◌, ℕ, suc, ◌+◌, ◌<◌, Bool, true, false, if◌then◌else◌, List, [], ◌∷◌}
use Rattle.std.proofs.Common.{length, map, Option, Some, None, option_map, slice_get, refl, ap, ◌∙◌, arith}
use Rattle.std.proofs.lemmas.Option.{slice_get-map, slice_get_within}
use Rattle.st_types.specs.Values.{Datum}
use Rattle.st_types.specs.Paths.{Path, same_path}
use Rattle.st_meaning.specs.declared.plan.PlanVariable.{PlanVariable}
use Rattle.st_meaning.specs.declared.plan.PlanInput.{PlanInput}
use Rattle.st_meaning.specs.Stores.{Store, get}
use Rattle.st_meaning.specs.Slots.{slot_of, IsLayout, variables_with}
use Rattle.st_meaning.specs.Layouts.{variable_slot, input_slot, layout_of}
use Rattle.st_types.proofs.ListLemmas.{get_first}

no_values : (ins : List PlanInput) → variables_with (map input_slot ins) [] ≡ []
no_values [] = refl
no_values (i ∷ ins) = refl

pub initial_stored : (vs : List PlanVariable) (ins : List PlanInput)
    → variables_with (layout_of vs ins) (map (λ v. v.initial) vs) ≡ map (λ v. (v.path, v.initial)) vs
initial_stored [] ins = no_values ins
initial_stored (v ∷ vs) ins = ap (λ (s : Store). (v.path, v.initial) ∷ s) (initial_stored vs ins)

behind : (d : Datum) (ds : List Datum) (s : Store) (p : Path) (n k : ℕ) (t : Bool) (o : Option ℕ) → k < n + 1
    → ((j : ℕ) → o ≡ Some j → j < n → get s p ≡ slice_get ds j) → (if t then Some 0 else option_map suc o) ≡ Some k
    → (if t then Some d else get s p) ≡ slice_get (d ∷ ds) k
behind d ds s p n k true o l rest h = let z : k ≡ 0 = cc in rw z refl
behind d ds s p n k false None l rest h = absurd (cc)
behind d ds s p n k false (Some j) l rest h = let z : k ≡ suc j = cc in rw z (rest j refl (omega arith))

get_of : (vs : List PlanVariable) (ins : List PlanInput) (ds : List Datum) (p : Path) (k : ℕ) → length ds ≡ length vs
    → k < length vs → slot_of (layout_of vs ins) p ≡ Some k
    → get (variables_with (layout_of vs ins) ds) p ≡ slice_get ds k
get_of [] ins ds p k e l h = absurd (omega arith)
get_of (v ∷ vs) ins [] p k e l h = absurd (omega arith)
get_of (v ∷ vs) ins (d ∷ ds) p k e l h =
    behind d ds (variables_with (layout_of vs ins) ds) p (length vs) k (same_path p v.path) (slot_of (layout_of vs ins) p)
    (omega arith) (λ j is m. get_of vs ins ds p j (omega arith) m is) h

-- a variable's value is that of its slot
pub get_in : (vs : List PlanVariable) (ins : List PlanInput) (ds : List Datum) (k : ℕ) (v : PlanVariable)
    → IsLayout (layout_of vs ins) → length ds ≡ length vs → slice_get vs k ≡ Some v
    → get (variables_with (layout_of vs ins) ds) v.path ≡ slice_get ds k
get_in vs ins ds k v distinct e at =
    let there : slice_get (map variable_slot vs) k ≡ Some (variable_slot v) = slice_get-map variable_slot vs k
    ∙ ap (option_map variable_slot) at in
    get_of vs ins ds v.path k e (slice_get_within vs k v at)
    (distinct k (variable_slot v) (get_first (map variable_slot vs) (map input_slot ins) k (variable_slot v) there))
