-- The layout of a plan: its slots, the layout text of a record, and how long a record is.
use Rattle.std.specs.Prelude.{ℕ, ◌+◌, List, [], ◌∷◌, ◌++◌, length, map, true, false, if◌then◌else◌, Option, Some}
use Rattle.std.specs.Prelude.{None, codes, slice_get}
use Rattle.std.specs.Fmt.{signed_decimal}
use Rattle.st_types.specs.declared.path.Owner.{Owner}
use Rattle.st_types.specs.declared.path.Step.{Step}
use Rattle.st_types.specs.declared.path.Step.TheVariants.{Member, Element}
use Rattle.st_types.specs.declared.kind.Kind.{Kind}
use Rattle.st_types.specs.declared.kind.Kind.TheVariants.{Enumerated}
use Rattle.st_types.specs.Kinds.{row_of, width_of}
use Rattle.st_types.specs.Paths.{Path}
use Rattle.st_types.specs.UpperNames.{joined}
use Rattle.st_meaning.specs.declared.plan.PlanVariable.{PlanVariable}
use Rattle.st_meaning.specs.declared.plan.PlanInput.{PlanInput}
use Rattle.st_meaning.specs.Slots.{Slot}

-- the slots of a plan: its variables in order, and after them its inputs
abbrev pub variable_slot : PlanVariable → Slot
variable_slot v = record { path = v.path; kind = v.initial.kind; is_input = false }

abbrev pub input_slot : PlanInput → Slot
input_slot i = record { path = i.path; kind = i.kind; is_input = true }

abbrev pub layout_of : List PlanVariable → List PlanInput → List Slot
layout_of variables inputs = map variable_slot variables ++ map input_slot inputs

-- a path as it is written: RESOURCE/INSTANCE.NAME, then .MEMBER and [subscript]
abbrev pub owner_text : Option Owner → List ℕ
owner_text None = []
owner_text (Some o) = o.resource ++ codes "/" ++ o.instance ++ codes "."

abbrev pub step_text : Step → List ℕ
step_text (Member x) = codes "." ++ x
step_text (Element z) = codes "[" ++ signed_decimal z ++ codes "]"

abbrev pub steps_text : List Step → List ℕ
steps_text [] = []
steps_text (x ∷ xs) = step_text x ++ steps_text xs

abbrev pub path_text : Path → List ℕ
path_text p = owner_text p.owner ++ p.name ++ steps_text p.steps

-- the names of each enumerated type of a text, in the order of the types' numbers
abbrev pub Enumerations : Type 0
Enumerations = List (List (List ℕ))

abbrev pub enumeration_text : Option (List (List ℕ)) → List ℕ
enumeration_text None = []
enumeration_text (Some names) = codes "(" ++ joined names ++ codes ")"

-- a type as a record spells it: by its keyword, or an enumerated one by its names between parentheses, with commas and
-- no space
abbrev pub type_text : Enumerations → Kind → List ℕ
type_text types (Enumerated names number) = enumeration_text (slice_get types number)
type_text types k = (row_of k).keyword

-- a line PATH TYPE with LF for each retained variable, in order
abbrev pub line_of : Enumerations → PlanVariable → List ℕ
line_of types v = path_text v.path ++ codes " " ++ type_text types v.initial.kind ++ 10 ∷ []

abbrev pub layout_text : Enumerations → List PlanVariable → List ℕ
layout_text types [] = []
layout_text types (v ∷ vs) = if v.retained then line_of types v ++ layout_text types vs else layout_text types vs

abbrev pub values_length : List PlanVariable → ℕ
values_length [] = 0
values_length (v ∷ vs) = if v.retained then width_of v.initial.kind + values_length vs else values_length vs

-- the length in bytes of a record's body: the moment, the length of the layout text, this text, and the values
abbrev pub record_length : Enumerations → List PlanVariable → ℕ
record_length types vs = 8 + 4 + length (layout_text types vs) + values_length vs
