-- How the parts of a plan fit together, and their limits.
use Rattle.std.specs.Prelude.{◌≡◌, ℕ, ◌+◌, ◌<◌, ◌≤◌, ◌==◌, nat_le, List, [], ◌∷◌, length, map, filter, Bool, true}
use Rattle.std.specs.Prelude.{false, not, ◌&&◌, Option, Some, None, slice_get}
use Rattle.std.specs.List.{list_all}
use Rattle.st_types.specs.declared.limits.TheConstants.{MAX_BUDGET, MAX_PATHS, MAX_PROGRAMS, MAX_RECORD_BODY}
use Rattle.st_types.specs.declared.limits.TheConstants.{MAX_RESOURCES, MAX_TASKS}
use Rattle.st_types.specs.declared.kind.Kind.{Kind}
use Rattle.st_types.specs.declared.kind.Kind.TheVariants.{Bool as Boolean, Enumerated}
use Rattle.st_types.specs.Kinds.{same_kind}
use Rattle.st_types.specs.UpperNames.{is_upper_name}
use Rattle.st_rules.specs.declared.limits.TheConstants.{MAX_NAMES}
use Rattle.st_meaning.specs.declared.plan.PlanVariable.{PlanVariable}
use Rattle.st_meaning.specs.declared.plan.PlanInput.{PlanInput}
use Rattle.st_meaning.specs.Scopes.{Name, contains_name}
use Rattle.st_meaning.specs.Slots.{IsLayout}
use Rattle.st_meaning.specs.Layouts.{Enumerations, layout_of, path_text, record_length}
use Rattle.st_meaning.specs.Slots.{Slot}
use Rattle.st_types.specs.Sources.{Source}
use Rattle.slot_code.specs.Codes.{code_view}
use Rattle.slot_code.specs.Meanings.{Means}
use Rattle.slot_code.specs.Reads.{ReadsAsAsked}
use Rattle.plan.specs.declared.slots.SlotPlace.{SlotPlace}
use Rattle.plan.specs.Owners.{AreDistinguished}
use Rattle.plan.specs.SlotPlaces.{are_numbered, slots_among}
use Rattle.plan.specs.Sources.{program_numbered}
use Rattle.plan.specs.declared.task.Trigger.{Trigger}
use Rattle.plan.specs.declared.task.Trigger.TheVariants.{Absent, Input, Variable}
use Rattle.plan.specs.declared.task.Task.{Task}
use Rattle.plan.specs.declared.task.ProgramInstance.{ProgramInstance}
use Rattle.layout.specs.Names.{are_different}

-- the bytes that a path in a record's layout text may have
abbrev pub is_spelled : Name → Bool
is_spelled x = not (length x == 0) && list_all (λ b. nat_le 33 b && nat_le b 126) x

-- this number of names, each an identifier in upper case
abbrev pub has_names : Option (List Name) → ℕ → Bool
has_names None n = false
has_names (Some names) n =
    length names == n && nat_le 1 n && nat_le n MAX_NAMES && list_all is_upper_name names

-- a type that a record can spell: an elementary one, or an enumerated one of the text with all its names
abbrev pub has_spelling : Enumerations → Kind → Bool
has_spelling types (Enumerated n number) = has_names (slice_get types number) n
has_spelling types k = true

-- a variable that may have a line in a record's layout text, by its path and its type
abbrev pub has_line : Enumerations → PlanVariable → Bool
has_line types v = is_spelled (path_text v.path) && has_spelling types v.initial.kind

abbrev pub is_boolean_variable : Option PlanVariable → Bool
is_boolean_variable None = false
is_boolean_variable (Some v) = same_kind v.initial.kind Boolean

abbrev pub is_boolean_input : Option PlanInput → Bool
is_boolean_input None = false
is_boolean_input (Some i) = same_kind i.kind Boolean

-- SINGLE is a BOOL
abbrev pub is_sound_trigger : List PlanVariable → List PlanInput → Trigger → Bool
is_sound_trigger variables inputs Absent = true
is_sound_trigger variables inputs (Input i) = is_boolean_input (slice_get inputs i)
is_sound_trigger variables inputs (Variable k) = is_boolean_variable (slice_get variables k)

abbrev pub is_of_resource : ℕ → Option Task → Bool
is_of_resource r None = false
is_of_resource r (Some t) = t.resource == r

abbrev pub tasks_of : ℕ → List Task → ℕ
tasks_of r tasks = length (filter (λ t. t.resource == r) tasks)

-- The limits: 4,096 paths, 8 resources with 32 tasks each, 64 programs, 1 to 1,000,000 ticks, a record of 131,059
-- bytes.
pub record IsWithinLimits (types : Enumerations) (variables : List PlanVariable) (inputs : List PlanInput) (resources : ℕ)
    (tasks : List Task) (programs budget : ℕ) : Type 0 where
  pub paths : length variables + length inputs ≤ MAX_PATHS
  pub resources_are : resources ≤ MAX_RESOURCES
  pub tasks_each : list_all (λ t. nat_le (tasks_of t.resource tasks) MAX_TASKS) tasks ≡ true
  pub programs_are : programs ≤ MAX_PROGRAMS
  pub some_ticks : 1 ≤ budget
  pub ticks : budget ≤ MAX_BUDGET
  pub record_is : record_length types variables ≤ MAX_RECORD_BODY

-- The code of an instance does over the slots what its program does, the instance has its program's names, and its
-- program asks for each global and input that the code reads.
pub record IsCodeOf (source : Source) (layout : List Slot) (p : ProgramInstance) : Type 0 where
  pub means : Means layout (code_view p.code.value) (program_numbered source p.number)
  pub owner : (program_numbered source p.number).owner ≡ p.owner
  pub reads : ReadsAsAsked layout (code_view p.code.value) (program_numbered source p.number)

-- Each path has one slot; variables and inputs are numbered in the order of the slots; the code of each instance does
-- what its program does, and reads only globals and inputs that the program asks for; each program runs in a task of
-- its resource; each variable can have a line in a record, and no two paths are spelled alike; the names of instances
-- are distinct, and so are those of the values of each enumerated type.
pub record PlanInvariant (source : Source) (types : Enumerations) (variables : List PlanVariable)
    (inputs : List PlanInput) (slots : List SlotPlace) (resources : ℕ) (tasks : List Task) (programs : List ProgramInstance)
    (budget : ℕ) : Type 0 where
  pub layout : IsLayout (layout_of variables inputs)
  pub numbered : are_numbered 0 0 slots (length variables) (length inputs) ≡ true
  pub codes : (k : ℕ) (p : ProgramInstance) → slice_get programs k ≡ Some p
      → IsCodeOf source (slots_among slots variables inputs) p
  pub resources_are : (k : ℕ) (t : Task) → slice_get tasks k ≡ Some t → t.resource < resources
  pub places : (k : ℕ) (p : ProgramInstance) → slice_get programs k ≡ Some p
      → is_of_resource p.resource (slice_get tasks p.task) ≡ true
  pub singles : list_all (λ t. is_sound_trigger variables inputs t.single) tasks ≡ true
  pub spelled : list_all (has_line types) variables ≡ true
  pub different : are_different (map (λ v. path_text v.path) variables) ≡ true
  pub limits : IsWithinLimits types variables inputs resources tasks (length programs) budget
  pub once : IsLayout (slots_among slots variables inputs)
  pub instances : AreDistinguished (map (λ p. p.owner) programs)
  pub values : list_all are_different types ≡ true
