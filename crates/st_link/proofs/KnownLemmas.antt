-- If nothing is wrong in an expression, and the types of variables are known, its type is.
use Rattle.std.proofs.Common.{◌≡◌, refl, sym, ap, subst, ◌∙◌, ℕ, Bool, true, false, if◌then◌else◌, List}
use Rattle.std.proofs.Common.{[], ◌∷◌, ◌++◌, Option, Some, None}
use Rattle.std.specs.Prelude.{option_and_then, IsSome}
use Rattle.std.specs.List.{flat_map}
use Rattle.std.proofs.lemmas.List.Concat.{flat_map-append}
use Rattle.st_types.specs.declared.kind.Kind.{Kind}
use Rattle.st_types.specs.declared.kind.Kind.TheVariants.{Bool as Boolean}
use Rattle.st_types.specs.declared.identifier.Identifier.{Identifier}
use Rattle.st_types.specs.declared.literal.Literal.{Literal}
use Rattle.st_types.specs.declared.literal.Literal.TheVariants as literals
use Rattle.st_types.specs.declared.operator.BinaryOperator.{BinaryOperator}
use Rattle.st_types.specs.declared.data_type.VariableType.{VariableType}
use Rattle.st_types.specs.Expressions.{Expr, literal, read, call, parenthesis, unary, binary, Exprs, Variable, variable}
use Rattle.st_types.specs.Expressions.{Selector, member, subscript, Selectors, no_selectors, selector_then}
use Rattle.st_meaning.specs.Scopes.{Name}
use Rattle.st_meaning.specs.NameTypes.{Declared, selected_type, type_after_selectors}
use Rattle.st_meaning.specs.Operators.{or_kind}
use Rattle.st_meaning.specs.StandardFunctions.{Standard, ABS, MIN, MAX, LIMIT, SEL, SHL, SHR, ROL, ROR, CONVERT}
use Rattle.st_meaning.specs.Resolution.{is_joining, standard_kind}
use Rattle.st_rules.specs.declared.reason.Reason.TheVariants.{Undeclared, NoMember, NotArray}
use Rattle.st_rules.specs.declared.rule.Broken.{Broken}
use Rattle.st_rules.specs.declared.demand.Demand.{Demand}
use Rattle.st_rules.specs.declared.demand.Demand.TheVariants.{Operand as operand}
use Rattle.st_rules.specs.declared.typings.Typing.{Typing}
use Rattle.st_rules.specs.declared.typings.Typing.TheVariants.{Untyped as untyped, Elementary as elementary}
use Rattle.st_rules.specs.declared.typings.Typing.TheVariants.{Composite as composite, Nothing as nothing}
use Rattle.st_rules.specs.Faults.{breaking}
use Rattle.st_rules.specs.Reasons.{type_word}
use Rattle.st_rules.specs.Readings.{Reading, reading_among, reading_of_name, reading_written, wrong_reading}
use Rattle.st_rules.specs.Readings as readings
use Rattle.st_rules.specs.Environments.{Environment, Callee, standard, own, callee_of, type_of_name, type_of_place}
use Rattle.st_rules.specs.Typings.{typing_of, typing_of_type, typing_of_reading, typing_of_number, typing_of_kind}
use Rattle.st_rules.specs.Typings.{typing_of_literal, typing_of_alone, typing_of_callee, kinds_of, typings_of, joined}
use Rattle.st_rules.specs.Typings.{is_nothing}
use Rattle.st_rules.specs.Nodes.{nodes_of, nodes_below, offered, demands_of}
use Rattle.st_rules.specs.ExpressionRules.{wrong_selector, wrong_selectors, wrong_variable, wrong_alone, wrong_call}
use Rattle.st_rules.specs.ExpressionRules.{wrong_part, wrong_node, wrong_within}
use Rattle.st_link.specs.Soundness.{IsKnown, IsTypeIn, of_variable, of_part, AreKnown}
use Rattle.st_types.proofs.ListLemmas.{append_first, append_second}

-- An expression with a type isn't unknown.
number_known : (o : Option Kind) → is_nothing (typing_of_number o) ≡ false
number_known None = refl
number_known (Some k) = refl

pub reading_known : (at : ℕ) (r : Reading) → wrong_reading at r ≡ [] → is_nothing (typing_of_reading r) ≡ false
reading_known at (readings.value m) h = refl
reading_known at readings.unknown h = absurd (cc)
reading_known at readings.ambiguous h = absurd (cc)

literal_known : (text : Declared) (k : Option Kind) (l : Literal) (env : Environment) → env.text ≡ text
    → wrong_part env k (literal l) ≡ [] → is_nothing (typing_of_literal env.text l) ≡ false
literal_known text k (literals.Number n) env e h = number_known n.written
literal_known text k (literals.Truth at b) env e h = refl
literal_known text k (literals.Duration at n) env e h = refl
literal_known text k (literals.Enumerated v) env e h = reading_known v.place (reading_written env.text v) h

alone_known : (env : Environment) → AreKnown env → (at : ℕ) (x : Name) (o : Option VariableType)
    → type_of_name env x ≡ o
    → wrong_alone env at x o ≡ [] → is_nothing (typing_of_alone env x o) ≡ false
alone_known env known at x None is h = reading_known at (reading_of_name env.text x) h
alone_known env known at x (Some t) is h = known.types t (of_variable x is)

-- A selection in which nothing is wrong leads to a type.
pub record Leads (text : Declared) (t : VariableType) (xs : Selectors) : Type 0 where
  pub type_is : VariableType
  pub leads : type_after_selectors text xs t ≡ Some type_is
  pub known : IsKnown text type_is

abbrev selector_faults : Declared → ℕ → Selector → Selectors → VariableType → Option VariableType → List Broken
selector_faults text at x xs t o = elim o [
  | Some u ↦ wrong_selectors text at u xs
  | None ↦ if is_nothing (typing_of_type text (Some t)) then [] else wrong_selector at t x
]

one_selector : (text : Declared) (at : ℕ) (x : Selector) (xs : Selectors) (t : VariableType) (o : Option VariableType)
    → selected_type text t x ≡ o → IsKnown text t
    → selector_faults text at x xs t o ≡ []
    → (u : VariableType) × (o ≡ Some u) × (wrong_selectors text at u xs ≡ [])
one_selector text at x xs t (Some u) is known h = (u, refl, h)
one_selector text at (member x) xs t None is known h =
    let wrong = breaking (NoMember (type_word t)) (x.place ∷ []) in
    let none : wrong ≡ [] = subst (λ b. ◌≡◌ {A = List Broken} (if b then [] else wrong) []) known h in
    absurd (cc)
one_selector text at (subscript e) xs t None is known h =
    let wrong = breaking (NotArray (type_word t)) (at ∷ []) in
    let none : wrong ≡ [] = subst (λ b. ◌≡◌ {A = List Broken} (if b then [] else wrong) []) known h in
    absurd (cc)

pub selectors_lead : (env : Environment) → AreKnown env → (at : ℕ) (xs : Selectors) (t : VariableType)
    → IsTypeIn env t → wrong_selectors env.text at t xs ≡ [] → Leads env.text t xs
selectors_lead env known at no_selectors t k h = record { type_is = t; leads = refl; known = known.types t k }
selectors_lead env known at (selector_then x xs) t k h =
    let one = one_selector env.text at x xs t (selected_type env.text t x) refl (known.types t k) h in
    let rest = selectors_lead env known at xs one.0 (of_part x k one.1) one.2 in
    record {
      type_is = rest.type_is;
      leads = ap (option_and_then (type_after_selectors env.text xs)) one.1 ∙ rest.leads;
      known = rest.known;
    }

-- A variable in which nothing is wrong exists.
pub record IsThere (env : Environment) (x : Identifier) (xs : Selectors) : Type 0 where
  pub declared : VariableType
  pub named : type_of_name env x.name ≡ Some declared
  pub known : IsKnown env.text declared
  pub behind : Leads env.text declared xs

abbrev variable_faults : Environment → Identifier → Selectors → Option VariableType → List Broken
variable_faults env x xs o =
    elim o [ Some t ↦ wrong_selectors env.text x.place t xs | None ↦ breaking Undeclared (x.place ∷ []) ]

variable_named : (env : Environment) → AreKnown env → (x : Identifier) (xs : Selectors) (o : Option VariableType)
    → type_of_name env x.name ≡ o
    → variable_faults env x xs o ≡ [] → IsThere env x xs
variable_named env known x xs (Some t) is h = record {
  declared = t;
  named = is;
  known = known.types t (of_variable x.name is);
  behind = selectors_lead env known x.place xs t (of_variable x.name is) h;
}
variable_named env known x xs None is h = absurd (cc)

pub variable_is_there : (env : Environment) → AreKnown env → (x : Identifier) (xs : Selectors)
    → wrong_variable env (variable x xs) ≡ [] → IsThere env x xs
variable_is_there env known x xs h = variable_named env known x xs (type_of_name env x.name) refl h

pub type_there : (env : Environment) (x : Identifier) (xs : Selectors) (h : IsThere env x xs)
    → type_of_place env (variable x xs) ≡ Some h.behind.type_is
type_there env x xs h = ap (option_and_then (type_after_selectors env.text xs)) h.named ∙ h.behind.leads

read_known : (env : Environment) → AreKnown env → (k : Option Kind) (v : Variable) → wrong_part env k (read v) ≡ []
    → is_nothing (typing_of env (read v)) ≡ false
read_known env known k (variable x no_selectors) h =
    alone_known env known x.place x.name (type_of_name env x.name) refl h
read_known env known k (variable x (selector_then y ys)) h =
    let there = variable_is_there env known x (selector_then y ys) h in
    subst (λ o. is_nothing (typing_of_type env.text o) ≡ false) (sym (type_there env x (selector_then y ys) there))
    there.behind.known

-- calls have a type
some_kind : (o : Option Kind) (k : Kind) → is_nothing (typing_of_kind (or_kind o (Some k))) ≡ false
some_kind None k = refl
some_kind (Some l) k = refl

standard_known : (std : Standard) (ks : List (Option Kind)) → is_nothing (typing_of_kind (standard_kind std ks)) ≡ false
standard_known ABS ks = some_kind _ _
standard_known MIN ks = some_kind _ _
standard_known MAX ks = some_kind _ _
standard_known LIMIT ks = some_kind _ _
standard_known SEL ks = some_kind _ _
standard_known SHL ks = some_kind _ _
standard_known SHR ks = some_kind _ _
standard_known ROL ks = some_kind _ _
standard_known ROR ks = some_kind _ _
standard_known (CONVERT k l) ks = refl

result_known : (o : Option Kind) → IsSome o → is_nothing (typing_of_kind o) ≡ false
result_known (Some k) h = refl
result_known None h = absurd (cc)

call_known : (env : Environment) → AreKnown env → (at : ℕ) (f : Name) (ds : List Demand) (es : Exprs)
    (ks : List (Option Kind)) (c : Option Callee) → callee_of env f ≡ c → wrong_call at c ds es ≡ []
    → is_nothing (typing_of_callee c ks) ≡ false
call_known env known at f ds es ks None is h = absurd (cc)
call_known env known at f ds es ks (Some (standard std)) is h = standard_known std ks
call_known env known at f ds es ks (Some (own inputs result)) is h =
    result_known result (known.results f inputs result is)

joined_known : (t u : Typing) → is_nothing t ≡ false → is_nothing u ≡ false → is_nothing (joined t u) ≡ false
joined_known (elementary k) u p q = refl
joined_known untyped u p q = q
joined_known composite (elementary k) p q = refl
joined_known composite untyped p q = refl
joined_known composite composite p q = refl
joined_known composite nothing p q = refl
joined_known nothing u p q = absurd (cc)

operation_known : (b : Bool) (t u : Typing) → is_nothing t ≡ false → is_nothing u ≡ false
    → is_nothing (if b then joined t u else elementary Boolean) ≡ false
operation_known true t u p q = joined_known t u p q
operation_known false t u p q = refl

-- the parts of an operation in which nothing is wrong
pub below_binary : (env : Environment) (k : Option Kind) (op : BinaryOperator) (l r : Expr)
    → wrong_within env k (binary op l r) ≡ []
    → wrong_within env (offered k op (typing_of env l) (typing_of env r)) l
    ++ wrong_within env (offered k op (typing_of env l) (typing_of env r)) r ≡ []
below_binary env k op l r h =
    let o = offered k op (typing_of env l) (typing_of env r) in
    sym (flat_map-append (wrong_node env) (nodes_of env (operand o) l) (nodes_of env (operand o) r))
    ∙ append_second (wrong_part env k (binary op l r))
    (flat_map (wrong_node env) (nodes_of env (operand o) l ++ nodes_of env (operand o) r)) h

pub own_part : (env : Environment) (k : Option Kind) (e : Expr) → wrong_within env k e ≡ [] → wrong_part env k e ≡ []
own_part env k e h = append_first (wrong_part env k e) (flat_map (wrong_node env) (nodes_below env k e)) h

pub typing_known : (env : Environment) → AreKnown env → (k : Option Kind) (e : Expr) → wrong_within env k e ≡ []
    → is_nothing (typing_of env e) ≡ false
typing_known env known k (literal l) h = literal_known env.text k l env refl (own_part env k (literal l) h)
typing_known env known k (read v) h = read_known env known k v (own_part env k (read v) h)
typing_known env known k (call f es) h =
    call_known env known f.place f.name (demands_of env f.place (callee_of env f.name) es) es
    (kinds_of (typings_of env es))
    (callee_of env f.name) refl (own_part env k (call f es) h)
typing_known env known k (parenthesis at e) h = typing_known env known k e h
typing_known env known k (unary op at e) h =
    typing_known env known k e (append_second (wrong_part env k (unary op at e)) (wrong_within env k e) h)
typing_known env known k (binary op l r) h =
    let o = offered k op (typing_of env l) (typing_of env r) in
    let below = below_binary env k op l r h in
    operation_known (is_joining op) (typing_of env l) (typing_of env r)
    (typing_known env known o l (append_first (wrong_within env o l) (wrong_within env o r) below))
    (typing_known env known o r (append_second (wrong_within env o l) (wrong_within env o r) below))
