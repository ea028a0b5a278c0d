-- The meaning of a word in a plan.
use Rattle.std.specs.Prelude.{◌≡◌, ℕ, Bool, true, false, List, Some, slice_get}
use Rattle.std.specs.Str.{str_eq_ignore_ascii_case}
use Rattle.st_types.specs.Paths.{Path}
use Rattle.st_meaning.specs.declared.plan.PlanVariable.{PlanVariable}
use Rattle.st_meaning.specs.declared.plan.PlanInput.{PlanInput}
use Rattle.st_meaning.specs.Layouts.{path_text}
use Rattle.plan.specs.declared.plan.Plan.{Plan}
use Rattle.plots.specs.declared.shown.Shown.{Shown}
use Rattle.plots.specs.declared.shown.Shown.TheVariants.{Variable, Input}

-- whether the word is the path as reports print it, in any case
abbrev pub is_written : List ℕ → Path → Bool
is_written word path = str_eq_ignore_ascii_case (path_text path) word

abbrev pub IsVariableCalled : List PlanVariable → List ℕ → ℕ → Type 0
IsVariableCalled variables word i =
    (v : PlanVariable) × (slice_get variables i ≡ Some v) × (is_written word v.path ≡ true)

abbrev pub IsInputCalled : List PlanInput → List ℕ → ℕ → Type 0
IsInputCalled inputs word i = (v : PlanInput) × (slice_get inputs i ≡ Some v) × (is_written word v.path ≡ true)

abbrev pub NoVariableCalled : List PlanVariable → List ℕ → Type 0
NoVariableCalled variables word =
    (i : ℕ) (v : PlanVariable) → slice_get variables i ≡ Some v → is_written word v.path ≡ false

abbrev pub NoInputCalled : List PlanInput → List ℕ → Type 0
NoInputCalled inputs word = (i : ℕ) (v : PlanInput) → slice_get inputs i ≡ Some v → is_written word v.path ≡ false

-- the variable or the input of this path
abbrev pub IsCalled : Plan → List ℕ → Shown → Type 0
IsCalled plan word (Variable i) = IsVariableCalled plan.variables.items word i
IsCalled plan word (Input i) = IsInputCalled plan.inputs.items word i

-- neither a variable nor an input has this path
abbrev pub IsUncalled : Plan → List ℕ → Type 0
IsUncalled plan word = NoVariableCalled plan.variables.items word × NoInputCalled plan.inputs.items word
