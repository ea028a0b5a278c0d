-- The faults in variables, by the meanings of their names.
use Rattle.std.proofs.Common.{◌≡◌, refl, sym, ap, ◌∙◌, ℕ, ◌+◌, ◌<◌, ◌≤◌, List, [], ◌∷◌, ◌++◌, length, map, get_or}
use Rattle.std.proofs.Common.{rules, Bool, Option, Some, None, if◌then◌else◌}
use Rattle.std.specs.Prelude.{is_some}
use Rattle.std.proofs.lemmas.List.{drop_all}
use Rattle.st_types.specs.declared.identifier.Identifier.{Identifier}
use Rattle.st_types.specs.declared.data_type.VariableType.{VariableType}
use Rattle.st_types.specs.declared.expression.Selector as code_selector
use Rattle.st_types.specs.declared.expression.Variable as code_variable
use Rattle.st_types.specs.Expressions.{Variable, variable, Selectors, no_selectors, selectors_of}
use Rattle.st_types.specs.ExpressionViews.{variable_view, selector_view}
use Rattle.st_meaning.specs.NameTypes.{Declared}
use Rattle.st_rules.specs.declared.reason.Reason.TheVariants.{Undeclared}
use Rattle.st_rules.specs.declared.rule.Broken.{Broken}
use Rattle.st_rules.specs.declared.broken_rules.BrokenRules.{BrokenRules}
use Rattle.st_rules.specs.Collecting.{Collects}
use Rattle.st_rules.specs.Environments.{Environment, type_of_name, type_of_place}
use Rattle.st_rules.specs.ExpressionRules.{wrong_selectors, wrong_variable}
use Rattle.st_rules.specs.Faults.{breaking}
use Rattle.st_rules.proofs.CollectLemmas.{collects_both, collects_is, Searches, search_goes_on, search_ends, search_is}
use Rattle.st_typing.specs.Selections.{selected, wrong_from, wrong_step}
use Rattle.st_check.specs.Targets.{wrong_assignment, wrong_target}
use Rattle.st_typing.proofs.SelectionLemmas.{from_step, left, selectors_left}

pub variable_is : (v : code_variable.Variable)
    → variable_view v ≡ variable v.name (selectors_of (map selector_view v.selectors.items))
variable_is v = search (rules, code_variable.the_lemmas)

-- if a variable is declared, its selections are judged
abbrev faults_of : Environment → Identifier → Selectors → Option VariableType → List Broken
faults_of env x xs o =
    elim o [ Some t ↦ wrong_selectors env.text x.place t xs | None ↦ breaking Undeclared (x.place ∷ []) ]

pub selections_collected : (env : Environment) (x : Identifier) (xs : Selectors) (t : VariableType)
    (old new : BrokenRules) → Some t ≡ type_of_name env x.name
    → Collects (wrong_selectors env.text x.place t xs) old new → Collects (wrong_variable env (variable x xs)) old new
selections_collected env x xs t old new is h =
    collects_is (wrong_selectors env.text x.place t xs) (wrong_variable env (variable x xs)) old new
    (ap (faults_of env x xs) is) h

pub unknown_collected : (env : Environment) (x : Identifier) (xs : Selectors) (old new : BrokenRules)
    → None ≡ type_of_name env x.name → Collects (breaking Undeclared (x.place ∷ [])) old new
    → Collects (wrong_variable env (variable x xs)) old new
unknown_collected env x xs old new is h =
    collects_is (breaking Undeclared (x.place ∷ [])) (wrong_variable env (variable x xs)) old new
    (ap (faults_of env x xs) is) h

-- a selector was judged
pub selection_goes_on : (text : Declared) (at : ℕ) (p q : Option VariableType) (xs : List code_selector.Selector)
    (i : ℕ)
    (x : code_selector.Selector) (all : List Broken) (start it next : BrokenRules) → i < length xs
    → x ≡ get_or xs i x → q ≡ selected text p (selector_view x)
    → Searches all (wrong_from text at p (left xs i)) start it
    → Collects (wrong_step text at p (selector_view x)) it next
    → Searches all (wrong_from text at q (left xs (i + 1))) start next
selection_goes_on text at p q xs i x all start it next h is to s one =
    let y = selector_view x in
    let ys = left xs (i + 1) in
    let step = wrong_step text at p y in
    let rest = wrong_from text at (selected text p y) ys in
    rw to (search_goes_on all step rest start it next
    (search_is all (wrong_from text at p (left xs i)) _ start it
    (ap (wrong_from text at p) (selectors_left xs i x h is) ∙ from_step text at p y ys) s) one.adds one.covers)

none_left : (text : Declared) (at : ℕ) (p : Option VariableType) → wrong_from text at p no_selectors ≡ []
none_left text at None = refl
none_left text at (Some t) = refl

pub selections_end : (text : Declared) (at : ℕ) (p : Option VariableType) (xs : List code_selector.Selector) (i : ℕ)
    (all : List Broken) (start it : BrokenRules) → length xs ≤ i
    → Searches all (wrong_from text at p (left xs i)) start it → Collects all start it
selections_end text at p xs i all start it h s =
    search_ends all start it (search_is all (wrong_from text at p (left xs i)) [] start it
    (ap (λ ys. wrong_from text at p (selectors_of (map selector_view ys))) (drop_all i xs h) ∙ none_left text at p) s)

-- only a variable that exists is judged as one that is assigned
pub target_collected : (env : Environment) (runs : Bool) (v : Variable) (exists : Bool) (old mid new : BrokenRules)
    → is_some (type_of_place env v) ≡ exists → Collects (wrong_variable env v) old mid
    → Collects (if exists then wrong_assignment env runs v else []) mid new
    → Collects (wrong_target env runs v) old new
target_collected env runs v exists old mid new is one two =
    let behind = λ (b : Bool). if b then wrong_assignment env runs v else [] in
    collects_is (wrong_variable env v ++ behind exists) (wrong_target env runs v) old new
    (ap (λ b. wrong_variable env v ++ behind b) (sym is))
    (collects_both (wrong_variable env v) (behind exists) old mid new one two)
