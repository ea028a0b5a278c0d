-- The expressions of statements as one list, each with the demand of its place: those in subscripts of targets too.
use Rattle.std.specs.Prelude.{List, [], ◌∷◌, ◌++◌, None}
use Rattle.std.specs.List.{flat_map}
use Rattle.st_types.specs.ExpressionViews.{expr_view}
use Rattle.st_types.specs.Expressions.{Variable, variable, Selector, member, subscript, Selectors, no_selectors}
use Rattle.st_types.specs.Expressions.{selector_then}
use Rattle.st_types.specs.Statements.{Stmt}
use Rattle.st_rules.specs.declared.rule.Broken.{Broken}
use Rattle.st_rules.specs.declared.demand.Purpose.TheVariants as purposes
use Rattle.st_rules.specs.declared.demand.Sorts.TheVariants.{Whole}
use Rattle.st_rules.specs.declared.demand.Demand.TheVariants.{Asked}
use Rattle.st_rules.specs.Environments.{Environment}
use Rattle.st_rules.specs.ExpressionRules.{wrong_expression}
use Rattle.st_rules.specs.Nodes.{Node, node}
use Rattle.st_rules.specs.Roots.{roots_of, targets_of}
use Rattle.st_check.specs.declared.roots.Root.{Root}

abbrev pub root_view : Root → Node
root_view r = node r.demand (expr_view r.tree.now)

-- a subscript is a whole number
abbrev pub roots_of_selector : Selector → List Node
roots_of_selector (member x) = []
roots_of_selector (subscript e) = node (Asked None Whole purposes.Subscript) e ∷ []

abbrev pub roots_of_selectors : Selectors → List Node
roots_of_selectors no_selectors = []
roots_of_selectors (selector_then x xs) = roots_of_selector x ++ roots_of_selectors xs

abbrev pub roots_of_target : Variable → List Node
roots_of_target (variable x xs) = roots_of_selectors xs

abbrev pub all_roots : Environment → Stmt → List Node
all_roots env x = roots_of env x ++ flat_map roots_of_target (targets_of x)

-- the faults in an expression, by the demand of its place
unfoldable pub wrong_root : Environment → Node → List Broken
wrong_root env n = wrong_expression env n.demand n.tree
