-- The arguments of a call.
use Rattle.std.specs.Prelude.{◌≡◌, ℕ, List, [], ◌∷◌, ◌++◌, ◌==◌, length, map, Option}
use Rattle.std.specs.List.{flat_map}
use Rattle.st_types.specs.declared.kind.Kind.{Kind}
use Rattle.st_types.specs.Expressions.{Exprs, no_exprs, expr_then}
use Rattle.st_meaning.specs.Resolution.{common_kind}
use Rattle.st_meaning.specs.StandardFunctions.{Standard}
use Rattle.st_rules.specs.declared.reason.Reason.TheVariants.{ArgumentCount}
use Rattle.st_rules.specs.declared.rule.Broken.{Broken}
use Rattle.st_rules.specs.declared.demand.Purpose.TheVariants.{Argument}
use Rattle.st_rules.specs.declared.demand.Sorts.TheVariants.{Any}
use Rattle.st_rules.specs.declared.demand.Demand.{Demand}
use Rattle.st_rules.specs.declared.demand.Demand.TheVariants.{Asked}
use Rattle.st_rules.specs.Demands.{demands_of_standard}
use Rattle.st_rules.specs.Environments.{Environment}
use Rattle.st_rules.specs.ExpressionRules.{wrong_node, count_of}
use Rattle.st_rules.specs.Faults.{breaking, unless}
use Rattle.st_rules.specs.Nodes.{nodes_of_all, first_demand, other_demands}
use Rattle.st_rules.specs.Typings.{kinds_of, typings_of}
use Rattle.st_typing.specs.declared.demands.Demands.{Demands}
use Rattle.st_typing.specs.declared.demands.Demands.TheVariants.{One, Two, Three}
use Rattle.st_typing.specs.Answers.{wrong_by_place}

-- the demands of a standard function, in order
abbrev pub demands_view : Demands → List Demand
demands_view (One d) = d ∷ []
demands_view (Two d e) = d ∷ e ∷ []
demands_view (Three d e f) = d ∷ e ∷ f ∷ []

-- the demands of a function of the text, called at a place, whose inputs have these types
abbrev pub demands_of_inputs : ℕ → List (Option Kind) → List Demand
demands_of_inputs at ks = map (λ k. Asked k Any (Argument at)) ks

-- too few or too many arguments of a call
abbrev pub wrong_number_of : ℕ → List Demand → Exprs → List Broken
wrong_number_of at ds es = breaking (ArgumentCount (count_of es) (length ds)) (unless (count_of es == length ds) at)

-- the faults in arguments with these demands
abbrev pub wrong_arguments : Environment → List Demand → Exprs → List Broken
wrong_arguments env ds es = flat_map (wrong_node env) (nodes_of_all env ds es)

-- the faults in them, or in their number
abbrev pub wrong_in_call : Environment → ℕ → List Demand → Exprs → List Broken
wrong_in_call env at ds es = wrong_number_of at ds es ++ wrong_arguments env ds es

-- the demands of a standard function on these arguments
abbrev pub demands_on : Environment → ℕ → Standard → Exprs → List Demand
demands_on env at s es = demands_of_standard at s (common_kind s (kinds_of (typings_of env es)))

abbrev pub wrong_in_standard : Environment → ℕ → Standard → Exprs → List Broken
wrong_in_standard env at s es = wrong_in_call env at (demands_on env at s es) es

-- the faults of arguments at their places, without those that are known with their typings
abbrev pub wrong_by_places : Environment → List Demand → Exprs → List Broken
wrong_by_places env ds no_exprs = []
wrong_by_places env ds (expr_then e es) =
    wrong_by_place env (first_demand ds) e ++ wrong_by_places env (other_demands ds) es

abbrev pub wrong_standard : Environment → ℕ → Standard → Exprs → List Broken
wrong_standard env at s es =
    wrong_by_places env (demands_on env at s es) es ++ wrong_number_of at (demands_on env at s es) es
