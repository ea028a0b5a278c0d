-- Consequences for the parts of statements in which nothing is wrong.
use Rattle.std.proofs.Common.{◌≡◌, refl, sym, ◌∙◌, ℕ, Bool, true, false, ◌&&◌, not, List, [], ◌∷◌, ◌++◌, Option, Some, None}
use Rattle.std.specs.List.{flat_map}
use Rattle.std.proofs.lemmas.Bool.{and_parts}
use Rattle.std.proofs.lemmas.List.Concat.{flat_map-append}
use Rattle.st_types.specs.declared.kind.Kind.{Kind}
use Rattle.st_types.specs.declared.identifier.Identifier.{Identifier}
use Rattle.st_types.specs.declared.data_type.VariableType.{VariableType}
use Rattle.st_types.specs.Expressions.{Expr, variable, no_selectors}
use Rattle.st_types.specs.Statements.{Stmt, Stmts, stmt_then}
use Rattle.st_rules.specs.declared.reason.Reason.{Reason}
use Rattle.st_rules.specs.declared.reason.Reason.TheVariants.{Undeclared, NotControl}
use Rattle.st_rules.specs.declared.rule.Broken.{Broken}
use Rattle.st_rules.specs.declared.demand.Sorts.TheVariants.{Whole as whole}
use Rattle.st_rules.specs.declared.demand.Demand.{Demand}
use Rattle.st_rules.specs.declared.typings.Typing.TheVariants.{Elementary as elementary}
use Rattle.st_rules.specs.Faults.{breaking, unless}
use Rattle.st_rules.specs.Environments.{Environment, type_of_name, section_of}
use Rattle.st_rules.specs.Typings.{typing_of_type}
use Rattle.st_rules.specs.Nodes.{Node, node, nodes_of, nodes_of_place}
use Rattle.st_rules.specs.ExpressionRules.{wrong_node, wrong_expression}
use Rattle.st_rules.specs.Statements.{Context, Placed, placed, statements_below, statements_of}
use Rattle.st_rules.specs.Roots.{roots_of, targets_of, nodes_of_root, wrong_nodes}
use Rattle.st_rules.specs.TargetRules.{is_fixed, is_assignable, unassignable, is_own, is_control, wrong_targets}
use Rattle.st_rules.specs.TargetRules.{wrong_for}
use Rattle.st_rules.specs.CallRules.{wrong_invocation}
use Rattle.st_rules.specs.LabelRules.{wrong_case}
use Rattle.st_rules.specs.BodyRules.{wrong_exit, wrong_statement}
use Rattle.st_link.specs.Soundness.{of_variable, AreKnown}
use Rattle.st_link.specs.StatementSoundness.{BodyRight}
use Rattle.st_link.proofs.ValueLaw.{met_kind}
use Rattle.st_types.proofs.TestLemmas.{false_from_not}
use Rattle.st_types.proofs.ListLemmas.{append_first, append_second}

pub record StatementRight (env : Environment) (c : Context) (x : Stmt) : Type 0 where
  pub nodes : wrong_nodes env x ≡ []
  pub targets : wrong_targets env c x ≡ []
  pub invocation : wrong_invocation env x ≡ []
  pub control : wrong_for env c x ≡ []

pub statement_right : (env : Environment) (c : Context) (x : Stmt) → wrong_statement env (placed c x) ≡ []
    → StatementRight env c x
statement_right env c x h =
    let n = wrong_nodes env x in
    let t = wrong_targets env c x in
    let v = wrong_invocation env x in
    let k = wrong_case env x in
    let f = wrong_for env c x in
    let to_control = append_first ((((n ++ t) ++ v) ++ k) ++ f) (wrong_exit c.in_loop x) h in
    let to_invocation = append_first ((n ++ t) ++ v) k (append_first (((n ++ t) ++ v) ++ k) f to_control) in
    let to_targets = append_first (n ++ t) v to_invocation in
    record {
      nodes = append_first n t to_targets;
      targets = append_second n t to_targets;
      invocation = append_second (n ++ t) v to_invocation;
      control = append_second (((n ++ t) ++ v) ++ k) f to_control;
    }

-- statements
pub body_split : (env : Environment) (ps qs : List Placed) → BodyRight env (ps ++ qs)
    → BodyRight env ps × BodyRight env qs
body_split env ps qs h =
    let both = sym (flat_map-append (wrong_statement env) ps qs) ∙ h in
    let one = flat_map (wrong_statement env) ps in
    let two = flat_map (wrong_statement env) qs in
    (append_first one two both, append_second one two both)

pub record FirstRight (env : Environment) (c : Context) (x : Stmt) (xs : Stmts) : Type 0 where
  pub itself : wrong_statement env (placed c x) ≡ []
  pub below : BodyRight env (statements_below c x)
  pub rest : BodyRight env (statements_of c xs)

pub first_right : (env : Environment) (c : Context) (x : Stmt) (xs : Stmts)
    → BodyRight env (statements_of c (stmt_then x xs)) → FirstRight env c x xs
first_right env c x xs h =
    let split = body_split env (placed c x ∷ statements_below c x) (statements_of c xs) h in
    let one = wrong_statement env (placed c x) in
    let two = flat_map (wrong_statement env) (statements_below c x) in
    record { itself = append_first one two split.0; below = append_second one two split.0; rest = split.1 }

-- expressions
abbrev pub RootsRight : Environment → List Node → Type 0
RootsRight env ns = flat_map (wrong_node env) (flat_map (nodes_of_root env) ns) ≡ []

pub roots_right : (env : Environment) (x : Stmt) → wrong_nodes env x ≡ [] → RootsRight env (roots_of env x)
roots_right env x h =
    let rs = flat_map (nodes_of_root env) (roots_of env x) in
    let ts = flat_map (nodes_of_place env) (targets_of x) in
    append_first (flat_map (wrong_node env) rs) (flat_map (wrong_node env) ts)
    (sym (flat_map-append (wrong_node env) rs ts) ∙ h)

pub first_root : (env : Environment) (d : Demand) (e : Expr) (rest : List Node) → RootsRight env (node d e ∷ rest)
    → (wrong_expression env d e ≡ []) × RootsRight env rest
first_root env d e rest h =
    let one = nodes_of env d e in
    let two = flat_map (nodes_of_root env) rest in
    let both = sym (flat_map-append (wrong_node env) one two) ∙ h in (
      append_first (flat_map (wrong_node env) one) (flat_map (wrong_node env) two) both,
      append_second (flat_map (wrong_node env) one) (flat_map (wrong_node env) two) both,
    )

-- the control variable of a FOR
pub unless_right : (reason : Reason) (b : Bool) (at : ℕ) → breaking reason (unless b at) ≡ [] → b ≡ true
unless_right reason true at h = refl
unless_right reason false at h = absurd (cc)

pub record IsControlled (env : Environment) (x : Identifier) : Type 0 where
  pub declared : VariableType
  pub named : type_of_name env x.name ≡ Some declared
  pub kind : Kind
  pub typed : typing_of_type env.text (Some declared) ≡ elementary kind
  pub free : is_fixed (section_of env x.name) ≡ false

abbrev control_faults : Environment → Context → Identifier → Option VariableType → List Broken
control_faults env c x o = elim o [
  | Some t ↦ breaking NotControl (unless (is_control env x t) x.place)
      ++ breaking (unassignable env c (variable x no_selectors))
      (unless (is_assignable env c (variable x no_selectors)) x.place)
  | None ↦ breaking Undeclared (x.place ∷ [])
]

control_named : (env : Environment) → AreKnown env → (c : Context) (x : Identifier) (o : Option VariableType)
    → type_of_name env x.name ≡ o → control_faults env c x o ≡ [] → IsControlled env x
control_named env known c x None is h = absurd (cc)
control_named env known c x (Some t) is h =
    let type_faults = breaking NotControl (unless (is_control env x t) x.place) in
    let reason = unassignable env c (variable x no_selectors) in
    let target_faults = breaking reason (unless (is_assignable env c (variable x no_selectors)) x.place) in
    let right = unless_right NotControl (is_control env x t) x.place (append_first type_faults target_faults h) in
    let assignable = unless_right reason (is_assignable env c (variable x no_selectors)) x.place
    (append_second type_faults target_faults h) in
    let kind = met_kind None whole (typing_of_type env.text (Some t)) (and_parts (is_own (section_of env x.name)) _ right).1
    (known.types t (of_variable x.name is)) in
    let outer = (and_parts (not (is_fixed (section_of env x.name)) && _) _ assignable).0 in
    let free = (and_parts (not (is_fixed (section_of env x.name))) _ outer).0 in
    record {
      declared = t;
      named = is;
      kind = kind.0;
      typed = kind.1;
      free = false_from_not (is_fixed (section_of env x.name)) free;
    }

pub control_right : (env : Environment) → AreKnown env → (c : Context) (x : Identifier)
    → control_faults env c x (type_of_name env x.name) ≡ [] → IsControlled env x
control_right env known c x h = control_named env known c x (type_of_name env x.name) refl h
