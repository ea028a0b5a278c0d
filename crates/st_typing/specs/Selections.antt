-- Selections of a variable, step by step.
use Rattle.std.specs.Prelude.{◌≡◌, ◌++◌, ℕ, List, [], Option, Some, None, option_and_then}
use Rattle.std.specs.Prelude.{if◌then◌else◌}
use Rattle.std.specs.List.{flat_map}
use Rattle.st_types.specs.declared.data_type.VariableType.{VariableType}
use Rattle.st_types.specs.Expressions.{Selector, Selectors, Variable}
use Rattle.st_meaning.specs.NameTypes.{Declared, selected_type}
use Rattle.st_rules.specs.declared.rule.Broken.{Broken}
use Rattle.st_rules.specs.Environments.{Environment}
use Rattle.st_rules.specs.Typings.{typing_of_type, is_nothing}
use Rattle.st_rules.specs.Nodes.{nodes_of_selectors, nodes_of_place}
use Rattle.st_rules.specs.ExpressionRules.{wrong_selector, wrong_selectors, wrong_variable, wrong_node}

-- the type of the part that a selector selects of a known type
abbrev pub selected : Declared → Option VariableType → Selector → Option VariableType
selected text o x = option_and_then (λ t. selected_type text t x) o

-- the faults in one selection, from the part that it selects
abbrev pub wrong_selected : Declared → ℕ → VariableType → Selector → Option VariableType → List Broken
wrong_selected text at t x (Some u) = []
wrong_selected text at t x None = if is_nothing (typing_of_type text (Some t)) then [] else wrong_selector at t x

-- nothing is asked of an unknown type
abbrev pub wrong_step : Declared → ℕ → Option VariableType → Selector → List Broken
wrong_step text at None x = []
wrong_step text at (Some t) x = wrong_selected text at t x (selected_type text t x)

abbrev pub wrong_from : Declared → ℕ → Option VariableType → Selectors → List Broken
wrong_from text at None xs = []
wrong_from text at (Some t) xs = wrong_selectors text at t xs

-- the faults in selectors of a variable and in their subscripts
abbrev pub wrong_in_selectors : Environment → ℕ → Option VariableType → Selectors → List Broken
wrong_in_selectors env at o xs = wrong_from env.text at o xs ++ flat_map (wrong_node env) (nodes_of_selectors env xs)

-- the faults in a variable and in its subscripts
abbrev pub wrong_place : Environment → Variable → List Broken
wrong_place env v = wrong_variable env v ++ flat_map (wrong_node env) (nodes_of_place env v)
