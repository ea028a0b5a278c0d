-- Selections of a variable, step by step.
use Rattle.std.proofs.Common.{◌≡◌, ◌∙◌, refl, sym, ap, subst, ℕ, ◌+◌, ◌<◌, ◌≤◌, ◌==◌, List, [], ◌∷◌, ◌++◌, Option, Some, None}
use Rattle.std.proofs.Common.{append-nil, arith, length, map, drop, get_or, true, false}
use Rattle.std.specs.Prelude.{option_and_then, if◌then◌else◌}
use Rattle.std.specs.List.{flat_map}
use Rattle.std.proofs.lemmas.Bool.{eqb-true, eqb-false}
use Rattle.std.proofs.lemmas.List.{drop_more, drop_all}
use Rattle.std.proofs.lemmas.List.Concat.{flat_map-append}
use Rattle.st_types.specs.declared.identifier.Identifier.{Identifier}
use Rattle.st_types.specs.declared.data_type.VariableType.{VariableType}
use Rattle.st_types.specs.declared.expression.Selector as code_selector
use Rattle.st_types.specs.Expressions.{read, Variable, variable, Selector, Selectors, no_selectors, selector_then}
use Rattle.st_types.specs.Expressions.{selectors_of}
use Rattle.st_types.specs.ExpressionViews.{selector_view}
use Rattle.st_meaning.specs.NameTypes.{Declared, selected_type, type_after_selectors}
use Rattle.st_rules.specs.declared.reason.Reason.TheVariants.{Undeclared}
use Rattle.st_rules.specs.declared.rule.Broken.{Broken}
use Rattle.st_rules.specs.declared.broken_rules.BrokenRules.{BrokenRules}
use Rattle.st_rules.specs.declared.typings.Typing.{Typing}
use Rattle.st_rules.specs.Collecting.{Collects}
use Rattle.st_rules.specs.Environments.{Environment, type_of_name}
use Rattle.st_rules.specs.ExpressionRules.{wrong_alone, wrong_node, wrong_selector, wrong_selectors}
use Rattle.st_rules.specs.Faults.{breaking}
use Rattle.st_rules.specs.Nodes.{nodes_of_selector, nodes_of_selectors}
use Rattle.st_rules.specs.Typings.{typing_of_type, typing_of_alone, typing_of_variable, is_nothing}
use Rattle.st_rules.proofs.CollectLemmas.{AreAmong, among_itself, among_left, among_right, both_among, collects_is}
use Rattle.st_rules.proofs.CollectLemmas.{Searches, search_goes_on, search_ends, search_same, search_is}
use Rattle.st_typing.specs.Answers.{Types}
use Rattle.st_typing.specs.Selections.{selected, wrong_selected, wrong_step, wrong_from, wrong_in_selectors, wrong_place}
use Rattle.st_typing.proofs.TypingLemmas.{types_from}

-- the faults in one step, and in the others
selected_step : (text : Declared) (at : ℕ) (t : VariableType) (x : Selector) (xs : Selectors) (o : Option VariableType)
    → elim o [
      | Some u ↦ wrong_selectors text at u xs
      | None ↦ if is_nothing (typing_of_type text (Some t)) then [] else wrong_selector at t x
    ] ≡ wrong_selected text at t x o ++ wrong_from text at o xs
selected_step text at t x xs (Some u) = refl
selected_step text at t x xs None = sym (append-nil _)

pub from_step : (text : Declared) (at : ℕ) (p : Option VariableType) (x : Selector) (xs : Selectors)
    → wrong_from text at p (selector_then x xs) ≡ wrong_step text at p x ++ wrong_from text at (selected text p x) xs
from_step text at None x xs = refl
from_step text at (Some t) x xs = selected_step text at t x xs (selected_type text t x)

abbrev own_nodes : Environment → Selector → List Broken
own_nodes env x = flat_map (wrong_node env) (nodes_of_selector env x)

abbrev pub all_nodes : Environment → Selectors → List Broken
all_nodes env xs = flat_map (wrong_node env) (nodes_of_selectors env xs)

nodes_step : (env : Environment) (x : Selector) (xs : Selectors)
    → all_nodes env (selector_then x xs) ≡ own_nodes env x ++ all_nodes env xs
nodes_step env x xs = flat_map-append (wrong_node env) (nodes_of_selector env x) (nodes_of_selectors env xs)

-- selectors, as slices of the code
pub selectors_left : (xs : List code_selector.Selector) (i : ℕ) (x : code_selector.Selector) → i < length xs
    → x ≡ get_or xs i x → selectors_of (map selector_view (drop i xs))
    ≡ selector_then (selector_view x) (selectors_of (map selector_view (drop (i + 1) xs)))
selectors_left xs i x h is =
    ap (λ ys. selectors_of (map selector_view ys)) (drop_more xs i x h)
    ∙ ap (λ y. selector_then (selector_view y) (selectors_of (map selector_view (drop (i + 1) xs)))) (sym is)

abbrev pub left : List code_selector.Selector → ℕ → Selectors
left xs i = selectors_of (map selector_view (drop i xs))

-- a selector and its subscript were searched
abbrev one_by_one : Environment → ℕ → Option VariableType → Selector → Selectors → List Broken
one_by_one env at p x ys =
    own_nodes env x ++ (wrong_step env.text at p x ++ wrong_in_selectors env at (selected env.text p x) ys)

step_order : (env : Environment) (at : ℕ) (p : Option VariableType) (x : Selector) (ys : Selectors)
    → wrong_in_selectors env at p (selector_then x ys)
    ≡ (wrong_step env.text at p x ++ wrong_from env.text at (selected env.text p x) ys)
    ++ (own_nodes env x ++ all_nodes env ys)
step_order env at p x ys =
    ap (λ zs. zs ++ all_nodes env (selector_then x ys)) (from_step env.text at p x ys)
    ∙ ap (λ zs. (wrong_step env.text at p x ++ wrong_from env.text at (selected env.text p x) ys) ++ zs)
    (nodes_step env x ys)

module _ (s f o a : List Broken) where
  ordered : AreAmong ((s ++ f) ++ (o ++ a)) (o ++ (s ++ (f ++ a)))
  ordered = both_among (s ++ f) (o ++ a) (o ++ (s ++ (f ++ a)))
      (both_among s f _ (among_right s o _ (among_left s s (f ++ a) (among_itself s)))
      (among_right f o _ (among_right f s (f ++ a) (among_left f f a (among_itself f)))))
      (both_among o a _ (among_left o o _ (among_itself o))
      (among_right a o _ (among_right a s (f ++ a) (among_right a f a (among_itself a)))))

  disordered : AreAmong (o ++ (s ++ (f ++ a))) ((s ++ f) ++ (o ++ a))
  disordered = both_among o (s ++ (f ++ a)) ((s ++ f) ++ (o ++ a))
      (among_right o (s ++ f) (o ++ a) (among_left o o a (among_itself o)))
      (both_among s (f ++ a) _ (among_left s (s ++ f) (o ++ a) (among_left s s f (among_itself s)))
      (both_among f a _ (among_left f (s ++ f) (o ++ a) (among_right f s f (among_itself f)))
      (among_right a (s ++ f) (o ++ a) (among_right a o a (among_itself a)))))

pub selector_goes_on : (env : Environment) (at : ℕ) (p q : Option VariableType) (xs : List code_selector.Selector) (i : ℕ)
    (x : code_selector.Selector) (all : List Broken) (start it mid next : BrokenRules) → i < length xs
    → x ≡ get_or xs i x → q ≡ selected env.text p (selector_view x)
    → Searches all (wrong_in_selectors env at p (left xs i)) start it
    → Collects (own_nodes env (selector_view x)) it mid → Collects (wrong_step env.text at p (selector_view x)) mid next
    → Searches all (wrong_in_selectors env at q (left xs (i + 1))) start next
selector_goes_on env at p q xs i x all start it mid next h is to s one two =
    let y = selector_view x in
    let ys = left xs (i + 1) in
    let st = wrong_step env.text at p y in
    let fr = wrong_from env.text at (selected env.text p y) ys in
    let ow = own_nodes env y in
    let al = all_nodes env ys in
    let seen = search_is all (wrong_in_selectors env at p (left xs i)) ((st ++ fr) ++ (ow ++ al)) start it
    (ap (wrong_in_selectors env at p) (selectors_left xs i x h is) ∙ step_order env at p y ys) s in
    let ready = search_same all ((st ++ fr) ++ (ow ++ al)) (ow ++ (st ++ (fr ++ al))) start it (ordered st fr ow al)
    (disordered st fr ow al) seen in
    let half = search_goes_on all ow (st ++ (fr ++ al)) start it mid ready one.adds one.covers in
    rw to (search_goes_on all st (fr ++ al) start mid next half two.adds two.covers)

pub type_goes_on : (text : Declared) (p q : Option VariableType) (xs : List code_selector.Selector) (i : ℕ)
    (x : code_selector.Selector) (t : Option VariableType) → i < length xs → x ≡ get_or xs i x
    → q ≡ selected text p (selector_view x) → option_and_then (type_after_selectors text (left xs i)) p ≡ t
    → option_and_then (type_after_selectors text (left xs (i + 1))) q ≡ t
type_goes_on text None q xs i x t h is to e = rw to e
type_goes_on text (Some u) q xs i x t h is to e =
    rw to (subst (λ ys. type_after_selectors text ys u ≡ t) (selectors_left xs i x h is) e)

pub subscript_goes_on : (env : Environment) (xs : List code_selector.Selector) (i : ℕ) (x : code_selector.Selector)
    (all : List Broken) (start it next : BrokenRules) → i < length xs → x ≡ get_or xs i x
    → Searches all (all_nodes env (left xs i)) start it → Collects (own_nodes env (selector_view x)) it next
    → Searches all (all_nodes env (left xs (i + 1))) start next
subscript_goes_on env xs i x all start it next h is s one =
    search_goes_on all (own_nodes env (selector_view x)) (all_nodes env (left xs (i + 1))) start it next
    (search_is all (all_nodes env (left xs i)) _ start it
    (ap (all_nodes env) (selectors_left xs i x h is) ∙ nodes_step env (selector_view x) (left xs (i + 1))) s)
    one.adds one.covers

-- a variable with its type
abbrev faults_of : Environment → Identifier → Selectors → Option VariableType → List Broken
faults_of env x xs o =
    elim o [ Some t ↦ wrong_selectors env.text x.place t xs | None ↦ breaking Undeclared (x.place ∷ []) ]

pub place_found : (env : Environment) (x : Identifier) (xs : Selectors) (t : VariableType) (old new : BrokenRules)
    → Some t ≡ type_of_name env x.name → Collects (wrong_in_selectors env x.place (Some t) xs) old new
    → Collects (wrong_place env (variable x xs)) old new
place_found env x xs t old new is h =
    collects_is (wrong_in_selectors env x.place (Some t) xs) (wrong_place env (variable x xs)) old new
    (ap (λ ys. ys ++ all_nodes env xs) (ap (faults_of env x xs) is)) h

pub place_lost : (env : Environment) (x : Identifier) (xs : Selectors) (old new : BrokenRules)
    → None ≡ type_of_name env x.name
    → Collects (breaking Undeclared (x.place ∷ []) ++ all_nodes env xs) old new
    → Collects (wrong_place env (variable x xs)) old new
place_lost env x xs old new is h =
    collects_is (breaking Undeclared (x.place ∷ []) ++ all_nodes env xs) (wrong_place env (variable x xs)) old new
    (ap (λ ys. ys ++ all_nodes env xs) (ap (faults_of env x xs) is)) h

pub none_written : (n : ℕ) (xs : List code_selector.Selector) → n ≡ length xs → (n == 0) ≡ true
    → selectors_of (map selector_view xs) ≡ no_selectors
none_written n [] is h = refl
none_written n (x ∷ xs) is h = absurd (omega (arith, is, eqb-true n 0 h))

-- the first selector and the others
pub record HasFirst (xs : Selectors) : Type 0 where
  pub first : Selector
  pub rest : Selectors
  pub is : xs ≡ selector_then first rest

pub some_written : (n : ℕ) (xs : List code_selector.Selector) → n ≡ length xs → (n == 0) ≡ false
    → HasFirst (selectors_of (map selector_view xs))
some_written n [] is h = absurd (eqb-false n 0 h is)
some_written n (x ∷ xs) is h =
    record { first = selector_view x; rest = selectors_of (map selector_view xs); is = refl }

-- a variable that is read
pub alone_types : (env : Environment) (x : Identifier) (v : Variable) (t : Typing) (old new : BrokenRules)
    → v ≡ variable x no_selectors → t ≡ typing_of_alone env x.name (type_of_name env x.name)
    → Collects (wrong_alone env x.place x.name (type_of_name env x.name)) old new → Types env (read v) t old new
alone_types env x v t old new is typed h =
    rw is (types_from env (read (variable x no_selectors)) t
    (wrong_alone env x.place x.name (type_of_name env x.name)) old new typed refl (λ k. sym (append-nil _)) h)

pub read_types : (env : Environment) (x : Identifier) (y : Selector) (ys : Selectors) (v : Variable) (t : Typing)
    (old new : BrokenRules) → v ≡ variable x (selector_then y ys) → t ≡ typing_of_variable env v
    → Collects (wrong_place env v) old new → Types env (read v) t old new
read_types env x y ys v t old new is typed h =
    rw is (types_from env (read (variable x (selector_then y ys))) t
    (wrong_place env (variable x (selector_then y ys))) old new (rw is at typed) refl (λ k. refl) (rw is at h))

-- the selectors before one were followed
pub record Follows (env : Environment) (at : ℕ) (t : VariableType) (xs : List code_selector.Selector) (i : ℕ)
    (p : Option VariableType) (start it : BrokenRules) : Type 0 where
  pub types : option_and_then (type_after_selectors env.text (left xs i)) p
      ≡ type_after_selectors env.text (selectors_of (map selector_view xs)) t
  pub faults : Searches (wrong_in_selectors env at (Some t) (selectors_of (map selector_view xs)))
      (wrong_in_selectors env at p (left xs i)) start it

nothing_left : (xs : List code_selector.Selector) (i : ℕ) → length xs ≤ i → left xs i ≡ no_selectors
nothing_left xs i h = ap (λ ys. selectors_of (map selector_view ys)) (drop_all i xs h)

after_none : (text : Declared) (p : Option VariableType) → option_and_then (type_after_selectors text no_selectors) p ≡ p
after_none text None = refl
after_none text (Some t) = refl

pub type_ends : (text : Declared) (xs : List code_selector.Selector) (i : ℕ) (p t : Option VariableType) → length xs ≤ i
    → option_and_then (type_after_selectors text (left xs i)) p ≡ t → p ≡ t
type_ends text xs i p t h e =
    sym (after_none text p)
    ∙ subst (λ ys. option_and_then (type_after_selectors text ys) p ≡ t) (nothing_left xs i h) e

wrong_none : (text : Declared) (at : ℕ) (p : Option VariableType) → wrong_from text at p no_selectors ≡ []
wrong_none text at None = refl
wrong_none text at (Some t) = refl

pub selectors_end : (env : Environment) (at : ℕ) (xs : List code_selector.Selector) (i : ℕ) (p : Option VariableType)
    (all : List Broken) (start it : BrokenRules) → length xs ≤ i
    → Searches all (wrong_in_selectors env at p (left xs i)) start it → Collects all start it
selectors_end env at xs i p all start it h s =
    search_ends all start it (search_is all (wrong_in_selectors env at p (left xs i)) [] start it
    (ap (wrong_in_selectors env at p) (nothing_left xs i h)
    ∙ ap (λ ys. ys ++ all_nodes env no_selectors) (wrong_none env.text at p)) s)

pub no_nodes_left : (env : Environment) (xs : List code_selector.Selector) (i : ℕ) → length xs ≤ i
    → all_nodes env (left xs i) ≡ []
no_nodes_left env xs i h = ap (all_nodes env) (nothing_left xs i h)
