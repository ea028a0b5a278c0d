-- The retained variables of a plan by their order.
use Rattle.std.specs.Prelude.{ℕ, List, [], ◌∷◌, if◌then◌else◌, Option}
use Rattle.st_types.specs.declared.kind.Kind.{Kind}
use Rattle.st_types.specs.Values.{Datum}
use Rattle.st_types.specs.Paths.{Path}
use Rattle.st_meaning.specs.declared.plan.PlanVariable.{PlanVariable}
use Rattle.st_meaning.specs.Stores.{Store}
use Rattle.st_meaning.specs.Restarts.{Kept, lines_with}
use Rattle.plan.specs.declared.plan.Plan.{Plan}
use Rattle.plan.specs.PlanViews.{plan_view}

abbrev pub retained_paths : List PlanVariable → List Path
retained_paths [] = []
retained_paths (v ∷ vs) = if v.retained then v.path ∷ retained_paths vs else retained_paths vs

abbrev pub retained_kinds : List PlanVariable → List Kind
retained_kinds [] = []
retained_kinds (v ∷ vs) = if v.retained then v.initial.kind ∷ retained_kinds vs else retained_kinds vs

-- of these values of all variables, those of the retained ones
abbrev pub retained_values : List PlanVariable → List Datum → List Datum
retained_values [] ds = []
retained_values (v ∷ vs) [] = []
retained_values (v ∷ vs) (d ∷ ds) = if v.retained then d ∷ retained_values vs ds else retained_values vs ds

-- each path with its value
abbrev pub paired : List Path → List Datum → Store
paired [] ds = []
paired (p ∷ ps) [] = []
paired (p ∷ ps) (d ∷ ds) = (p, d) ∷ paired ps ds

-- the contents of a record of these values of the retained variables
abbrev pub kept_from : Plan → List Datum → Option ℕ → Kept
kept_from plan values moment = record {
  lines = lines_with (plan_view plan).enumerations (paired (retained_paths plan.variables.items) values);
  moment = moment;
}
