-- The expressions of a statement, each with the demand of its place.
use Rattle.std.specs.Prelude.{List, [], ◌∷◌, ◌++◌, Option, Some, None}
use Rattle.std.specs.List.{flat_map}
use Rattle.st_types.specs.declared.data_type.VariableType.{VariableType}
use Rattle.st_types.specs.Expressions.{Expr, Variable}
use Rattle.st_types.specs.Statements.{Argument, given, copied, Stmt, assign, invoke, IF, CASE, FOR, WHILE}
use Rattle.st_types.specs.Statements.{REPEAT, Arms, no_arms, arm_then}
use Rattle.st_meaning.specs.Scopes.{Name}
use Rattle.st_meaning.specs.Resolution.{place_of_variable}
use Rattle.st_rules.specs.declared.rule.Broken.{Broken}
use Rattle.st_rules.specs.declared.demand.Sorts.TheVariants.{Selecting, NoSort}
use Rattle.st_rules.specs.declared.demand.Purpose.{Purpose}
use Rattle.st_rules.specs.declared.demand.Purpose.TheVariants as purposes
use Rattle.st_rules.specs.declared.demand.Demand.{Demand}
use Rattle.st_rules.specs.declared.demand.Demand.TheVariants.{Operand, Asked}
use Rattle.st_rules.specs.declared.typings.Typing.{Typing}
use Rattle.st_rules.specs.declared.typings.Typing.TheVariants.{Untyped, Elementary, Composite, Nothing}
use Rattle.st_rules.specs.Environments.{Environment, type_of_name, type_of_place, input_of}
use Rattle.st_rules.specs.Demands.{condition, exactly}
use Rattle.st_rules.specs.Typings.{typing_of_type}
use Rattle.st_rules.specs.Nodes.{Node, node, nodes_of, nodes_of_place}
use Rattle.st_rules.specs.ExpressionRules.{wrong_node}

-- The demand of a variable on a value: its type. A variable with parts takes no value, and an unknown one demands nothing.
abbrev pub demand_of_typing : Purpose → Typing → Demand
demand_of_typing p (Elementary k) = exactly k p
demand_of_typing p Composite = Asked None NoSort p
demand_of_typing p Untyped = Operand None
demand_of_typing p Nothing = Operand None

abbrev pub demand_of_type : Environment → Purpose → Option VariableType → Demand
demand_of_type env p t = demand_of_typing p (typing_of_type env.text t)

abbrev pub roots_of_argument : Environment → Name → Argument → List Node
roots_of_argument env instance (given x e) = node (demand_of_type env (purposes.Input x.place) (input_of env instance x.name)) e ∷ []
roots_of_argument env instance (copied x v) = []

abbrev pub conditions_of : Arms → List Node
conditions_of no_arms = []
conditions_of (arm_then e body arms) = node condition e ∷ conditions_of arms

abbrev pub roots_of_step : Demand → Option Expr → List Node
roots_of_step d None = []
roots_of_step d (Some e) = node d e ∷ []

abbrev pub roots_of : Environment → Stmt → List Node
roots_of env (assign v e) = node (demand_of_type env (purposes.Assigned (place_of_variable v)) (type_of_place env v)) e ∷ []
roots_of env (invoke x arguments) = flat_map (roots_of_argument env x.name) arguments
roots_of env (IF arms otherwise) = conditions_of arms
roots_of env (CASE e arms otherwise) = node (Asked None Selecting purposes.Selector) e ∷ []
roots_of env (FOR x start limit step body) =
    (node (demand_of_type env (purposes.Count x.place) (type_of_name env x.name)) start
    ∷ node (demand_of_type env (purposes.Count x.place) (type_of_name env x.name)) limit ∷ [])
    ++ roots_of_step (demand_of_type env (purposes.Count x.place) (type_of_name env x.name)) step
roots_of env (WHILE e body) = node condition e ∷ []
roots_of env (REPEAT body e) = node condition e ∷ []
roots_of env _ = []

-- the variables that a statement assigns by their names: the target of an assignment, and those of `=>`
abbrev pub targets_of_arguments : List Argument → List Variable
targets_of_arguments [] = []
targets_of_arguments (given x e ∷ rest) = targets_of_arguments rest
targets_of_arguments (copied x v ∷ rest) = v ∷ targets_of_arguments rest

abbrev pub targets_of : Stmt → List Variable
targets_of (assign v e) = v ∷ []
targets_of (invoke x arguments) = targets_of_arguments arguments
targets_of _ = []

-- The parts of all expressions of a statement, including those of its targets' subscripts.
abbrev pub nodes_of_root : Environment → Node → List Node
nodes_of_root env n = nodes_of env n.demand n.tree

abbrev pub nodes_in : Environment → Stmt → List Node
nodes_in env x = flat_map (nodes_of_root env) (roots_of env x) ++ flat_map (nodes_of_place env) (targets_of x)

-- the faults in the expressions of a statement
abbrev pub wrong_nodes : Environment → Stmt → List Broken
wrong_nodes env x = flat_map (wrong_node env) (nodes_in env x)
