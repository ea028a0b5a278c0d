-- Calls of instances of blocks.
use Rattle.std.specs.Prelude.{List, [], ◌∷◌, ◌++◌, Bool, ◌&&◌, not, if◌then◌else◌, Option, Some, None, is_some}
use Rattle.std.specs.List.{flat_map}
use Rattle.st_types.specs.declared.identifier.Identifier.{Identifier}
use Rattle.st_types.specs.declared.data_type.VariableType.{VariableType}
use Rattle.st_types.specs.Statements.{Argument, given, copied, Stmt, invoke}
use Rattle.st_meaning.specs.Scopes.{Name, contains_name}
use Rattle.st_rules.specs.declared.demand.Purpose.TheVariants.{Output}
use Rattle.st_rules.specs.declared.reason.BlockSide.{BlockSide}
use Rattle.st_rules.specs.declared.reason.BlockSide.TheVariants as sides
use Rattle.st_rules.specs.declared.reason.TypeWord.{TypeWord}
use Rattle.st_rules.specs.declared.reason.Reason.{Reason}
use Rattle.st_rules.specs.declared.reason.Reason.TheVariants.{Undeclared, Mismatch, NotInstance, ArgumentGivenBefore}
use Rattle.st_rules.specs.declared.reason.Reason.TheVariants.{NoSuchArgument, OtherSide}
use Rattle.st_rules.specs.Reasons.{type_word}
use Rattle.st_rules.specs.declared.rule.Broken.{Broken}
use Rattle.st_rules.specs.Faults.{breaking, unless}
use Rattle.st_rules.specs.Environments.{Environment, type_of_name, is_instance, input_of, output_of}
use Rattle.st_rules.specs.Typings.{typing_of_type, typing_of_variable, is_nothing, allows}
use Rattle.st_rules.specs.Roots.{demand_of_type}
use Rattle.st_meaning.specs.Resolution.{place_of_variable}

abbrev pub argument_name : Argument → Identifier
argument_name (given x e) = x
argument_name (copied x v) = x

-- `:=` gives an input of the block, and `=>` copies an output of it
abbrev pub is_argument : Environment → Name → Argument → Bool
is_argument env instance (given x e) = is_some (input_of env instance x.name)
is_argument env instance (copied x v) = is_some (output_of env instance x.name)

abbrev pub side_of : Argument → BlockSide
side_of (given x e) = sides.Input
side_of (copied x v) = sides.Output

-- an output that is given a value, or an input that is copied
abbrev pub is_of_other_side : Environment → Name → Argument → Bool
is_of_other_side env instance (given x e) = is_some (output_of env instance x.name)
is_of_other_side env instance (copied x v) = is_some (input_of env instance x.name)

-- why an argument of an instance of a block is wrong, if it is
abbrev pub reason_of_argument : Environment → TypeWord → Name → List Name → Argument → Reason
reason_of_argument env block instance before a =
    if contains_name before (argument_name a).name then ArgumentGivenBefore
    else if is_of_other_side env instance a then OtherSide block (side_of a) else NoSuchArgument block (side_of a)

-- Each argument is an input or an output of the block, and each name occurs once.
abbrev pub wrong_arguments : Environment → TypeWord → Name → List Name → List Argument → List Broken
wrong_arguments env block instance before [] = []
wrong_arguments env block instance before (a ∷ rest) =
    breaking (reason_of_argument env block instance before a)
    (unless (is_argument env instance a && not (contains_name before (argument_name a).name)) (argument_name a).place)
    ++ wrong_arguments env block instance ((argument_name a).name ∷ before) rest

-- an output is copied to a variable of its type
abbrev pub wrong_copy : Environment → Name → Argument → List Broken
wrong_copy env instance (given x e) = []
wrong_copy env instance (copied x v) =
    breaking (Mismatch (demand_of_type env (Output x.place) (output_of env instance x.name)) (typing_of_variable env v))
    (unless (allows (demand_of_type env (Output x.place) (output_of env instance x.name)) (typing_of_variable env v))
    (place_of_variable v))

-- the callee is an instance; for a variable of an unknown type nothing is checked
abbrev pub wrong_instance : Environment → Identifier → List Argument → Option VariableType → List Broken
wrong_instance env x arguments None = breaking Undeclared (x.place ∷ [])
wrong_instance env x arguments (Some t) =
    if is_instance env (Some t)
    then wrong_arguments env (type_word t) x.name [] arguments
    ++ flat_map (wrong_copy env x.name) arguments
    else breaking (NotInstance (type_word t)) (unless (is_nothing (typing_of_type env.text (Some t))) x.place)

abbrev pub wrong_invocation : Environment → Stmt → List Broken
wrong_invocation env (invoke x arguments) = wrong_instance env x arguments (type_of_name env x.name)
wrong_invocation env _ = []
