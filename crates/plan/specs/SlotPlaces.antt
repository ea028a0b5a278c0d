-- The slots of a plan in the order of its text: variables with inputs of the plant among them.
use Rattle.std.specs.Prelude.{ℕ, suc, ◌==◌, List, [], ◌∷◌, map, Bool, ◌&&◌, Option, Some, None}
use Rattle.std.specs.Prelude.{position, slice_get, slice_set}
use Rattle.st_types.specs.Paths.{Path, same_path}
use Rattle.st_types.specs.Values.{Datum}
use Rattle.st_meaning.specs.Slots.{Slot, Cell}
use Rattle.st_meaning.specs.declared.plan.PlanVariable.{PlanVariable}
use Rattle.st_meaning.specs.declared.plan.PlanInput.{PlanInput}
use Rattle.st_meaning.specs.Layouts.{variable_slot, input_slot}
use Rattle.plan.specs.declared.slots.SlotPlace.{SlotPlace}
use Rattle.plan.specs.declared.slots.SlotPlace.TheVariants.{Variable, Input}

-- Variables and inputs are numbered in their order, from these numbers on up to those.
abbrev pub are_numbered : ℕ → ℕ → List SlotPlace → ℕ → ℕ → Bool
are_numbered v i [] variables inputs = v == variables && i == inputs
are_numbered v i (Variable k ∷ ps) variables inputs = k == v && are_numbered (suc v) i ps variables inputs
are_numbered v i (Input k ∷ ps) variables inputs = k == i && are_numbered v (suc i) ps variables inputs

-- the contents of the slots, those of variables and of inputs in their order
abbrev pub merged : {A : Type 0} → List SlotPlace → List A → List A → List A
merged [] vs xs = []
merged (Variable k ∷ ps) [] xs = []
merged (Variable k ∷ ps) (v ∷ vs) xs = v ∷ merged ps vs xs
merged (Input k ∷ ps) vs [] = []
merged (Input k ∷ ps) vs (x ∷ xs) = x ∷ merged ps vs xs

-- the slots of variables and inputs
abbrev pub slots_among : List SlotPlace → List PlanVariable → List PlanInput → List Slot
slots_among places variables inputs = merged places (map variable_slot variables) (map input_slot inputs)

-- the place of a path: among the inputs, or else among the variables
abbrev pub place_among : Option ℕ → Option ℕ → Option SlotPlace
place_among (Some input) variable = Some (Input input)
place_among None (Some variable) = Some (Variable variable)
place_among None None = None

abbrev pub place_of : List PlanVariable → List PlanInput → Path → Option SlotPlace
place_of variables inputs p =
    place_among (position (λ i. same_path p i.path) inputs) (position (λ v. same_path p v.path) variables)

-- the value in a place, of these variables and inputs
abbrev pub value_at_place : List Datum → List Datum → Option SlotPlace → Option Datum
value_at_place vs image None = None
value_at_place vs image (Some (Variable n)) = slice_get vs n
value_at_place vs image (Some (Input n)) = slice_get image n

-- the variables after a value is put in a place; only a place of a variable changes them
abbrev pub put_in : List Datum → Option SlotPlace → Datum → List Datum
put_in vs None v = vs
put_in vs (Some (Variable n)) v = slice_set vs n v
put_in vs (Some (Input n)) v = vs

-- the variables after cells are written
abbrev pub written_variables : List SlotPlace → List Datum → List Cell → List Datum
written_variables ps vs [] = vs
written_variables ps vs (c ∷ cells) = written_variables ps (put_in vs (slice_get ps c.0) c.1) cells
