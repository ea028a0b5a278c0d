-- Arguments of a call of an instance, one after another.
use Rattle.std.proofs.Common.{◌≡◌, refl, sym, ap, ◌∙◌, ℕ, ◌+◌, ◌<◌, ◌≤◌, List, [], ◌∷◌, ◌++◌, Bool, true, false}
use Rattle.std.proofs.Common.{◌&&◌, ◌||◌}
use Rattle.std.proofs.Common.{if◌then◌else◌, Option, Some, None, length, map, drop, slice_index_or, rules}
use Rattle.std.specs.Prelude.{is_some, not, option_and_then, Vec}
use Rattle.std.specs.List.{flat_map}
use Rattle.std.proofs.lemmas.List.{drop_all}
use Rattle.std.specs.declared.alloc.Global.{Global}
use Rattle.st_types.specs.declared.identifier.Identifier.{Identifier}
use Rattle.st_types.specs.declared.data_type.VariableType.{VariableType}
use Rattle.st_types.specs.declared.statement.Argument as code_argument
use Rattle.st_types.specs.declared.statement.Stmt as code_stmt
use Rattle.st_types.specs.Expressions.{Variable}
use Rattle.st_types.specs.Statements.{Argument, copied, invoke}
use Rattle.st_types.specs.StatementViews.{argument_view, stmt_view}
use Rattle.st_types.proofs.ListLemmas.{map_drop_next}
use Rattle.st_meaning.specs.Scopes.{Name, contains_name}
use Rattle.st_rules.specs.declared.reason.Reason.{Reason}
use Rattle.st_rules.specs.declared.reason.Reason.TheVariants.{Mismatch, NotInstance, Undeclared}
use Rattle.st_rules.specs.declared.reason.TypeWord.{TypeWord}
use Rattle.st_rules.specs.declared.rule.Broken.{Broken}
use Rattle.st_rules.specs.declared.broken_rules.BrokenRules.{BrokenRules}
use Rattle.st_rules.specs.Collecting.{Adds, Collects}
use Rattle.st_rules.specs.Environments.{Environment, is_instance, output_of, type_of_name}
use Rattle.st_rules.specs.Faults.{breaking, unless}
use Rattle.st_rules.specs.Reasons.{type_word}
use Rattle.st_rules.specs.Typings.{allows, is_nothing, typing_of_type, typing_of_variable}
use Rattle.st_rules.specs.declared.demand.Demand.{Demand}
use Rattle.st_rules.specs.declared.demand.Purpose.TheVariants.{Output}
use Rattle.st_rules.specs.declared.typings.Typing.{Typing}
use Rattle.st_rules.specs.Roots.{demand_of_type}
use Rattle.st_meaning.specs.Resolution.{place_of_variable}
use Rattle.st_meaning.specs.NameTypes.{block_variable, is_output}
use Rattle.st_meaning.specs.StandardBlocks.{outputs_of}
use Rattle.st_rules.specs.CallRules.{argument_name, is_argument, reason_of_argument, wrong_arguments, wrong_copy}
use Rattle.st_rules.specs.CallRules.{wrong_instance}
use Rattle.st_rules.proofs.CollectLemmas.{Searches, search_fails, search_goes_on, search_ends, search_is}
use Rattle.symbols.specs.Found.{or_found}

-- one more name that came before
pub known_more : (b c : Bool) (o : Option (Unit {0})) → is_some o ≡ c
    → is_some (or_found o (if b then Some tt else None)) ≡ (b || c)
known_more true c None h = refl
known_more true c (Some u) h = refl
known_more false c None h = h
known_more false c (Some u) h = h

-- the fault in one argument, after these names
abbrev pub wrong_argument : Environment → TypeWord → Name → List Name → Argument → List Broken
wrong_argument env block instance names a =
    breaking (reason_of_argument env block instance names a)
    (unless (is_argument env instance a && not (contains_name names (argument_name a).name)) (argument_name a).place)

pub argument_collected : (env : Environment) (block : TypeWord) (instance : Name) (names : List Name) (a : Argument)
    (right : Bool) (reason : Reason) (at : ℕ) (old new : BrokenRules)
    → right ≡ (is_argument env instance a && not (contains_name names (argument_name a).name))
    → reason ≡ reason_of_argument env block instance names a → at ≡ (argument_name a).place
    → Collects (breaking reason (unless right at)) old new
    → Collects (wrong_argument env block instance names a) old new
argument_collected env block instance names a right reason at old new is why place h = rw (is, why, place) at h

module _ (env : Environment) (block : TypeWord) (instance : Name) (names : List Name)
    (xs : List code_argument.Argument) (i : ℕ) (x : code_argument.Argument) (all : List Broken)
    (start it next : BrokenRules) where
  abbrev others : List Broken
  others = wrong_arguments env block instance ((argument_name (argument_view x)).name ∷ names)
      (map argument_view (drop (i + 1) xs))

  argument_first : i < length xs → x ≡ slice_index_or xs i x
      → Searches all (wrong_arguments env block instance names (map argument_view (drop i xs))) start it
      → Searches all (wrong_argument env block instance names (argument_view x) ++ others) start it
  argument_first h is s =
      search_is all (wrong_arguments env block instance names (map argument_view (drop i xs)))
      (wrong_argument env block instance names (argument_view x) ++ others) start it
      (ap (wrong_arguments env block instance names) (map_drop_next argument_view xs i x h is)) s

  pub argument_goes_on : i < length xs → x ≡ slice_index_or xs i x
      → Searches all (wrong_arguments env block instance names (map argument_view (drop i xs))) start it
      → Collects (wrong_argument env block instance names (argument_view x)) it next → Searches all others start next
  argument_goes_on h is s one =
      search_goes_on all (wrong_argument env block instance names (argument_view x)) others start it next
      (argument_first h is s) one.adds one.covers

  pub argument_fails : i < length xs → x ≡ slice_index_or xs i x
      → Searches all (wrong_arguments env block instance names (map argument_view (drop i xs))) start it
      → Collects (wrong_argument env block instance names (argument_view x)) it next → Adds all start next
  argument_fails h is s one =
      search_fails all (wrong_argument env block instance names (argument_view x)) others start it next
      (argument_first h is s) one.adds

pub arguments_end : (env : Environment) (block : TypeWord) (instance : Name) (names : List Name)
    (xs : List code_argument.Argument) (i : ℕ) (all : List Broken) (start it : BrokenRules) → length xs ≤ i
    → Searches all (wrong_arguments env block instance names (map argument_view (drop i xs))) start it
    → Collects all start it
arguments_end env block instance names xs i all start it h s =
    search_ends all start it
    (search_is all (wrong_arguments env block instance names (map argument_view (drop i xs))) [] start it
    (ap (λ ys. wrong_arguments env block instance names (map argument_view ys)) (drop_all i xs h)) s)

-- what is called, by the type of its name
module _ (env : Environment) (x : Identifier) (arguments : List Argument) where
  pub unknown_called : None ≡ type_of_name env x.name
      → breaking Undeclared (x.place ∷ []) ≡ wrong_instance env x arguments (type_of_name env x.name)
  unknown_called is = ap (wrong_instance env x arguments) is

  by_kind : (t : VariableType) (b : Bool) → is_instance env (Some t) ≡ b → Some t ≡ type_of_name env x.name
      → (if b then wrong_arguments env (type_word t) x.name [] arguments ++ flat_map (wrong_copy env x.name) arguments
      else breaking (NotInstance (type_word t)) (unless (is_nothing (typing_of_type env.text (Some t))) x.place))
      ≡ wrong_instance env x arguments (type_of_name env x.name)
  by_kind t b kind is =
      ap (λ c. if c then wrong_arguments env (type_word t) x.name [] arguments
      ++ flat_map (wrong_copy env x.name) arguments
      else breaking (NotInstance (type_word t)) (unless (is_nothing (typing_of_type env.text (Some t))) x.place))
      (sym kind)
      ∙ ap (wrong_instance env x arguments) is

  pub instance_called : (t : VariableType) → is_instance env (Some t) ≡ true → Some t ≡ type_of_name env x.name
      → wrong_arguments env (type_word t) x.name [] arguments ++ flat_map (wrong_copy env x.name) arguments
      ≡ wrong_instance env x arguments (type_of_name env x.name)
  instance_called t own is = by_kind t true own is

  pub other_called : (t : VariableType) → is_instance env (Some t) ≡ false → Some t ≡ type_of_name env x.name
      → breaking (NotInstance (type_word t)) (unless (is_nothing (typing_of_type env.text (Some t))) x.place)
      ≡ wrong_instance env x arguments (type_of_name env x.name)
  other_called t other is = by_kind t false other is

-- a call of an instance as its mirror has it
call_view : (x : Identifier) (arguments : Vec code_argument.Argument Global)
    → stmt_view (code_stmt.Invoke x arguments) ≡ invoke x (map argument_view arguments.items)
call_view x arguments = search (rules, code_stmt.the_lemmas)

pub invoked : (s : code_stmt.Stmt) (x : Identifier) (arguments : Vec code_argument.Argument Global)
    → s ≡ code_stmt.Invoke x arguments → stmt_view s ≡ invoke x (map argument_view arguments.items)
invoked s x arguments is = ap stmt_view is ∙ call_view x arguments

-- the variable to which an output is copied
pub output_told : (env : Environment) (instance x : Name) (t : VariableType) (o : Option VariableType)
    → type_of_name env instance ≡ Some t → o ≡ block_variable env.text outputs_of is_output t x
    → o ≡ output_of env instance x
output_told env instance x t o is found =
    found ∙ sym (ap (option_and_then (λ u. block_variable env.text outputs_of is_output u x)) is)

pub copy_collected : (env : Environment) (instance : Name) (x : Identifier) (v : Variable) (d : Demand) (t : Typing)
    (at : ℕ) (old new : BrokenRules) → d ≡ demand_of_type env (Output x.place) (output_of env instance x.name)
    → t ≡ typing_of_variable env v → at ≡ place_of_variable v
    → Collects (breaking (Mismatch d t) (unless (allows d t) at)) old new
    → Collects (wrong_copy env instance (copied x v)) old new
copy_collected env instance x v d t at old new demand typing place h = rw (demand, typing, place) at h
