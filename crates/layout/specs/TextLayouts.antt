-- The layout of a text: its slots, the plan's variables and inputs, and how many instances of blocks it has.
use Rattle.std.specs.Prelude.{ℕ, ◌+◌, List, [], ◌∷◌, ◌++◌, map, not, if◌then◌else◌, filter}
use Rattle.st_types.specs.declared.path.Step.{Step}
use Rattle.st_types.specs.declared.kind.Kind.{Kind}
use Rattle.st_types.specs.Paths.{Path}
use Rattle.st_types.specs.Declarations.{TypeDeclaration}
use Rattle.st_types.specs.Sources.{Source}
use Rattle.st_meaning.specs.Enumerations.{enumerations_of}
use Rattle.st_meaning.specs.NameTypes.{Declared}
use Rattle.st_meaning.specs.Slots.{Slot}
use Rattle.st_meaning.specs.Stores.{Store}
use Rattle.st_meaning.specs.declared.plan.PlanVariable.{PlanVariable}
use Rattle.st_meaning.specs.declared.plan.PlanInput.{PlanInput}
use Rattle.st_meaning.specs.Layouts.{Enumerations}
use Rattle.layout.specs.Shapes.{Shape, Leaf, leaves_of, instance_count}
use Rattle.layout.specs.Types.{shape_of_type}
use Rattle.layout.specs.Sites.{initial_at, retained_at, default_of}
use Rattle.layout.specs.LayoutVariables.{Owned, declared_of, layout_variables}

-- the path that further steps lead to from a path
abbrev pub further : Path → List Step → Path
further p xs = record { owner = p.owner; name = p.name; steps = p.steps ++ xs }

abbrev pub variable_path : Owned → Path
variable_path v = record { owner = v.owner; name = v.name; steps = [] }

abbrev pub variable_shape : Declared → Owned → Shape
variable_shape text v = shape_of_type text v.site.declared

abbrev pub leaves_of_variable : Declared → Owned → List Leaf
leaves_of_variable text v = leaves_of (variable_shape text v)

-- the slots of a variable
abbrev pub slot_of_leaf : Owned → Leaf → Slot
slot_of_leaf v l = record { path = further (variable_path v) l.steps; kind = l.kind; is_input = v.is_input }

abbrev pub slots_of_variable : Declared → Owned → List Slot
slots_of_variable text v = map (slot_of_leaf v) (leaves_of_variable text v)

abbrev pub slots_of : Declared → List Owned → List Slot
slots_of text [] = []
slots_of text (v ∷ vs) = slots_of_variable text v ++ slots_of text vs

-- a variable of a plan: with its initial value, and whether it is retained
abbrev pub variable_of_leaf : Declared → Owned → Leaf → PlanVariable
variable_of_leaf text v l = record {
  path = further (variable_path v) l.steps;
  initial = initial_at text v.site l.steps l.kind;
  retained = retained_at text v.site l.steps;
}

abbrev pub plan_variables_of : Declared → List Owned → List PlanVariable
plan_variables_of text [] = []
plan_variables_of text (v ∷ vs) = if v.is_input
    then plan_variables_of text vs
    else map (variable_of_leaf text v) (leaves_of_variable text v) ++ plan_variables_of text vs

-- an input of a plan
abbrev pub input_of_leaf : Owned → Leaf → PlanInput
input_of_leaf v l = record { path = further (variable_path v) l.steps; kind = l.kind }

abbrev pub plan_inputs_of : Declared → List Owned → List PlanInput
plan_inputs_of text [] = []
plan_inputs_of text (v ∷ vs) = if v.is_input
    then map (input_of_leaf v) (leaves_of_variable text v) ++ plan_inputs_of text vs
    else plan_inputs_of text vs

-- how many instances of blocks the variables are and have, at every depth
abbrev pub instances_of : Declared → List Owned → ℕ
instances_of text [] = 0
instances_of text (v ∷ vs) = instance_count (variable_shape text v) + instances_of text vs

-- of slots, those of variables and those of inputs, and their contents: paths with their types
abbrev pub variable_slots : List Slot → List Slot
variable_slots ls = filter (λ l. not l.is_input) ls

abbrev pub input_slots : List Slot → List Slot
input_slots ls = filter (λ l. l.is_input) ls

abbrev pub types_of_slots : List Slot → List (Path × Kind)
types_of_slots ls = map (λ l. (l.path, l.kind)) ls

-- variables with their initial values, and inputs as at the start of a life: 0 or FALSE
abbrev pub initial_values : List PlanVariable → Store
initial_values vs = map (λ v. (v.path, v.initial)) vs

abbrev pub initial_image : List PlanInput → Store
initial_image is = map (λ i. (i.path, default_of i.kind)) is

-- of a text whose literals are all resolved: the slots in the order of the layout, inputs among them
abbrev pub slots_of_text : Source → List Slot
slots_of_text source = slots_of (declared_of source) (layout_variables source)

-- the variables and the inputs of its plan
abbrev pub plan_variables_of_text : Source → List PlanVariable
plan_variables_of_text source = plan_variables_of (declared_of source) (layout_variables source)

abbrev pub plan_inputs_of_text : Source → List PlanInput
plan_inputs_of_text source = plan_inputs_of (declared_of source) (layout_variables source)

-- the names of its enumerated types, in the order of their numbers
abbrev pub enumeration_names : List TypeDeclaration → Enumerations
enumeration_names ts = map (λ e. map (λ x. x.name) e.names) (enumerations_of ts)

abbrev pub enumerations_of_text : Source → Enumerations
enumerations_of_text source = enumeration_names (declared_of source).types

-- how many instances of blocks its layout has
abbrev pub instances_of_text : Source → ℕ
instances_of_text source = instances_of (declared_of source) (layout_variables source)
