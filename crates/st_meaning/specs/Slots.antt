-- Slots: the variables and the inputs of a plan by their numbers.
use Rattle.std.specs.Prelude.{◌≡◌, ℕ, suc, List, [], ◌∷◌, Bool, true, false, ◌&&◌, if◌then◌else◌, Option, Some, None}
use Rattle.std.specs.Prelude.{option_map, map, slice_get, slice_set, Result, Ok, Err}
use Rattle.st_types.specs.declared.kind.Kind.{Kind}
use Rattle.st_types.specs.Values.{Datum, same_datum}
use Rattle.st_types.specs.Paths.{Path, same_path}
use Rattle.st_meaning.specs.Failures.{Failure, ill_typed}
use Rattle.st_meaning.specs.Stores.{Store, may_replace}

-- a slot: whose value it holds, its type, and whether it comes from the plant
pub record Slot : Type 0 where
  pub path : Path
  pub kind : Kind
  pub is_input : Bool

-- the number of a path's slot
abbrev pub slot_of : List Slot → Path → Option ℕ
slot_of [] p = None
slot_of (l ∷ ls) p = if same_path p l.path then Some 0 else option_map suc (slot_of ls p)

-- each path has one slot
abbrev pub IsLayout : List Slot → Type 0
IsLayout layout = (k : ℕ) (l : Slot) → slice_get layout k ≡ Some l → slot_of layout l.path ≡ Some k

-- a value for each slot, of its type
abbrev pub AreOfTypes : List Slot → List Datum → Type 0
AreOfTypes layout vs = map (λ v. v.kind) vs ≡ map (λ l. l.kind) layout

-- the variables of slots with these values, and the inputs of the plant
abbrev pub variables_with : List Slot → List Datum → Store
variables_with [] vs = []
variables_with (l ∷ ls) [] = []
variables_with (l ∷ ls) (v ∷ vs) = if l.is_input then variables_with ls vs else (l.path, v) ∷ variables_with ls vs

abbrev pub inputs_in : List Slot → List Datum → Store
inputs_in [] vs = []
inputs_in (l ∷ ls) [] = []
inputs_in (l ∷ ls) (v ∷ vs) = if l.is_input then (l.path, v) ∷ inputs_in ls vs else inputs_in ls vs

-- a slot's number with a value
abbrev pub Cell : Type 0
Cell = ℕ × Datum

abbrev pub is_value : Option Datum → Datum → Bool
is_value None v = false
is_value (Some w) v = same_datum w v

-- each slot of the list has its value
abbrev pub agrees : List Datum → List Cell → Bool
agrees vs [] = true
agrees vs (c ∷ cells) = is_value (slice_get vs c.0) c.1 && agrees vs cells

-- the values after these are written, the first of them first
abbrev pub after_writes : List Datum → List Cell → List Datum
after_writes vs [] = vs
after_writes vs (c ∷ cells) = after_writes (slice_set vs c.0 c.1) cells

-- the variables after a value is written to a slot, if it may take the place of the old one
abbrev pub after_write : List Slot → List Datum → ℕ → Datum → Datum → Result Store Failure
after_write layout vs k old v =
    if may_replace old v then Ok (variables_with layout (slice_set vs k v)) else Err ill_typed
