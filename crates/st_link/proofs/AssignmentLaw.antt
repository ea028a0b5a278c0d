-- Well-typed assignments are done, or end with a fault of the run.
use Rattle.std.proofs.Common.{◌≡◌, refl, sym, ap, subst, ◌∙◌, ℕ, zero, suc, Bool, true, false, ◌&&◌, not, if◌then◌else◌}
use Rattle.std.proofs.Common.{List}
use Rattle.std.proofs.Common.{[], ◌∷◌, ◌++◌, Option, Some, None, Result, Ok, Err}
use Rattle.std.specs.Prelude.{is_some}
use Rattle.std.specs.List.{flat_map}
use Rattle.std.proofs.lemmas.Bool.{and_parts}
use Rattle.std.proofs.lemmas.List.Concat.{flat_map-append}
use Rattle.st_types.specs.declared.kind.Kind.{Kind}
use Rattle.st_types.specs.declared.identifier.Identifier.{Identifier}
use Rattle.st_types.specs.Kinds.{same_kind}
use Rattle.st_types.proofs.KindLemmas.{same_kind_is}
use Rattle.st_types.specs.Values.{Datum}
use Rattle.st_types.specs.Paths.{Path, same_path}
use Rattle.st_types.specs.declared.data_type.VariableType.{VariableType}
use Rattle.st_types.specs.Expressions.{Expr, Variable, variable, Selectors}
use Rattle.st_types.specs.Statements.{assign}
use Rattle.st_meaning.specs.Failures.{Failure, StuckFaults, ill_typed}
use Rattle.st_meaning.specs.Stores.{Store, get, may_replace, replaced, with_entry, assigned}
use Rattle.st_meaning.specs.Ticks.{follow, give, attempt}
use Rattle.st_meaning.specs.Scopes.{Units, Scope, path_in}
use Rattle.st_meaning.specs.Evaluation.{value, selected}
use Rattle.st_meaning.specs.Loops.{End, goes_on}
use Rattle.st_meaning.specs.Execution.{assigning, exec}
use Rattle.st_meaning.specs.Runs.{store_of}
use Rattle.st_meaning.specs.ResolvedUnits.{resolved_stmt}
use Rattle.st_meaning.specs.NameTypes.{kind_among, kind_of_variable}
use Rattle.st_meaning.specs.Resolution.{resolved_expr, resolved_variable, resolved_selectors, place_of_variable}
use Rattle.st_rules.specs.declared.reason.Reason.{Reason}
use Rattle.st_rules.specs.declared.rule.Broken.{Broken}
use Rattle.st_rules.specs.declared.demand.Sorts.TheVariants.{Any as any, NoSort as no_sort}
use Rattle.st_rules.specs.declared.demand.Purpose.{Purpose}
use Rattle.st_rules.specs.declared.demand.Purpose.TheVariants as purposes
use Rattle.st_rules.specs.declared.demand.Demand.TheVariants.{Asked as asked}
use Rattle.st_rules.specs.declared.typings.Typing.{Typing}
use Rattle.st_rules.specs.declared.typings.Typing.TheVariants.{Untyped as untyped, Elementary as elementary}
use Rattle.st_rules.specs.declared.typings.Typing.TheVariants.{Composite as composite, Nothing as nothing}
use Rattle.st_rules.specs.Faults.{breaking, unless}
use Rattle.st_rules.specs.Environments.{Environment, type_of_place, section_of}
use Rattle.st_rules.specs.Demands.{exactly}
use Rattle.st_rules.specs.Typings.{kind_of, is_untyped_typing, is_nothing, typing_of, typing_of_type, settled, fits}
use Rattle.st_rules.specs.Nodes.{nodes_of, nodes_of_place}
use Rattle.st_rules.specs.ExpressionRules.{wrong_variable, wrong_node, wrong_expression}
use Rattle.st_rules.specs.Statements.{Context, placed}
use Rattle.st_rules.specs.Roots.{demand_of_typing, demand_of_type, wrong_nodes}
use Rattle.st_rules.specs.TargetRules.{is_fixed, is_assignable, unassignable, wrong_target, wrong_targets}
use Rattle.st_rules.specs.TargetRules.{wrong_for}
use Rattle.st_rules.specs.CallRules.{wrong_invocation}
use Rattle.st_rules.specs.LabelRules.{wrong_case}
use Rattle.st_rules.specs.BodyRules.{wrong_exit, wrong_statement}
use Rattle.st_rules.proofs.TypingLaws.{kind_of_declared, untyped_declared}
use Rattle.st_link.specs.Soundness.{IsOf, HasKind, EndsAlikeIn, with_units, IsPlace, root}
use Rattle.st_link.specs.Soundness.{Keeps, LeavesAgreeing, AssignmentsAreSound}
use Rattle.st_link.proofs.Alikes.{alike_then, alike_as, Succeeds, succeeds_as, attempted}
use Rattle.st_link.proofs.Keeping.{assigned_keeps, agrees_kept}
use Rattle.st_link.proofs.OperatorLemmas.{same_kinds}
use Rattle.st_link.proofs.KnownLemmas.{IsThere, variable_is_there, type_there, typing_known}
use Rattle.st_link.proofs.ValueLaw.{Premises, settled_known, value_alike, place_alike, inside, asked_right}
use Rattle.st_types.proofs.TestLemmas.{false_from_not}
use Rattle.st_types.proofs.ListLemmas.{append_first, append_second}
use Rattle.std.proofs.lemmas.List.{append-nil}

-- a value of the variable's type is assigned
replaced_succeeds : (e : Path × Datum) (v : Datum) (s : Store) (b : Bool) → b ≡ true
    → Succeeds {A = Store} (λ _. Unit {0}) (if b then Ok ((e.0, v) ∷ s) else Err ill_typed)
replaced_succeeds e v s true h = tt
replaced_succeeds e v s false h = absurd (cc)

behind_succeeds : (e : Path × Datum) (r : Result Store Failure) → Succeeds {A = Store} (λ _. Unit {0}) r
    → Succeeds {A = Store} (λ _. Unit {0}) (with_entry e r)
behind_succeeds e (Ok t) h = tt
behind_succeeds e (Err f) h = h

may_of_one_kind : (k : Kind) (old new : Datum) → IsOf k old → IsOf k new → may_replace old new ≡ true
may_of_one_kind k old new p q =
    rw (same_kinds old.kind new.kind (p.kind ∙ sym q.kind), q.held) refl

assigned_first : (s : Store) (e : Path × Datum) (p : Path) (v : Datum) (k : Kind) (b : Bool)
    → HasKind (if b then Some e.1 else get s p) k → IsOf k v
    → ((h : HasKind (get s p) k) → Succeeds {A = Store} (λ _. Unit {0}) (assigned s p v))
    → Succeeds {A = Store} (λ _. Unit {0}) (if b then replaced e v s else with_entry e (assigned s p v))
assigned_first s e p v k true h of rest =
    let is : e.1 ≡ h.datum = cc in
    let old : IsOf k e.1 = subst (λ d. IsOf k d) (sym is) h.is_of in
    replaced_succeeds e v s (may_replace e.1 v) (may_of_one_kind k e.1 v old of)
assigned_first s e p v k false h of rest = behind_succeeds e (assigned s p v) (rest h)

assigned_there : (s : Store) (p : Path) (v : Datum) (k : Kind) → HasKind (get s p) k → IsOf k v
    → Succeeds {A = Store} (λ _. Unit {0}) (assigned s p v)
assigned_there [] p v k h of = absurd (let e = h.there in cc)
assigned_there (e ∷ s) p v k h of =
    assigned_first s e p v k (same_path p e.0) h of (λ g. assigned_there s p v k g of)

pub assigned_succeeds : (s : Store) (p : Path) (v : Datum) (k : Kind) → HasKind (get s p) k → IsOf k v
    → Succeeds (Keeps s) (assigned s p v)
assigned_succeeds s p v k h of = succeeds_as {A = Store} (λ _. Unit {0}) (Keeps s) (assigned s p v)
    (assigned_there s p v k h of) (λ t is. assigned_keeps s p v t is)

-- the demand of a target
pub composite_refused : (t : Typing) → fits None no_sort t ≡ true → is_nothing t ≡ false → ⊥
composite_refused untyped h i = cc
composite_refused (elementary k) h i = cc
composite_refused composite h i = cc
composite_refused nothing h i = cc

pub exact_kind : (k : Kind) (t : Typing) → fits (Some k) any t ≡ true → is_nothing t ≡ false → t ≡ elementary k
exact_kind k untyped h i = absurd (cc)
exact_kind k (elementary l) h i = ap (λ (j : Kind). elementary j) (same_kind_is l k (and_parts (same_kind l k) _ h).0)
exact_kind k composite h i = absurd (cc)
exact_kind k nothing h i = absurd (cc)

-- an assignment to a place of an elementary type, from its parts
assigning_alike : (env : Environment) (w : Scope) (s : Store) (u v : Units) (i j : StuckFaults) → Premises env w s u v
    → (purpose : Purpose) (x : Identifier) (xs : Selectors) (e : Expr) (there : IsThere env x xs)
    → is_fixed (section_of env x.name) ≡ false
    → flat_map (wrong_node env) (nodes_of_place env (variable x xs)) ≡ [] → (t : Typing)
    → typing_of_type env.text (Some there.behind.type_is) ≡ t → is_nothing t ≡ false → is_untyped_typing t ≡ false
    → wrong_expression env (demand_of_typing purpose t) e ≡ [] → (b : ℕ)
    → EndsAlikeIn {A = End} (λ r. Keeps s (store_of r))
    (assigning (with_units u i w) (resolved_variable env.text env.unit (variable x xs))
    (resolved_expr env.text env.unit (kind_of t) e) s b)
    (assigning (with_units v j w) (resolved_variable env.text env.unit (variable x xs))
    (resolved_expr env.text env.unit (kind_of t) e) s b)
assigning_alike env w s u v i j p purpose x xs e there fixed parts untyped is k n h b = absurd (cc)
assigning_alike env w s u v i j p purpose x xs e there fixed parts nothing is k n h b = absurd (cc)
assigning_alike env w s u v i j p purpose x xs e there fixed parts composite is k n h b =
    let d = asked None no_sort purpose in
    absurd (composite_refused (settled None (typing_of env e)) (asked_right env d e h)
    (settled_known None (typing_of env e) (typing_known env p.known None e (inside env d e h))))
assigning_alike env w s u v i j p purpose x xs e there fixed parts (elementary k) is known n h b =
    let d = exactly k purpose in
    let t = there.behind.type_is in
    let kind : settled (Some k) (typing_of env e) ≡ elementary k =
    exact_kind k (settled (Some k) (typing_of env e)) (asked_right env d e h)
    (settled_known (Some k) (typing_of env e) (typing_known env p.known (Some k) e (inside env d e h))) in
    let among : kind_among env.text.types t ≡ Some k =
    kind_of_declared env.text (Some t) ∙ ap kind_of is in
    let at = path_in w.frame w.body x.name in
    let ys = resolved_selectors env.text env.unit xs in
    alike_then {A = Datum} {B = End} (IsOf k) (λ r. Keeps s (store_of r))
    (value (with_units u i w) s (resolved_expr env.text env.unit (Some k) e) b)
    (value (with_units v j w) s (resolved_expr env.text env.unit (Some k) e) b)
    (λ n c. follow (selected (with_units u i w) s at ys c)
    (λ q d. follow (attempt i (assigned s q n) d) (λ r. give (goes_on r))))
    (λ n c. follow (selected (with_units v j w) s at ys c)
    (λ q d. follow (attempt j (assigned s q n) d) (λ r. give (goes_on r))))
    (value_alike env w s u v i j p (Some k) e (inside env d e h) k kind b)
    (λ n c of. alike_then {A = Path} {B = End} (λ q. IsPlace env w s x.name q t) (λ r. Keeps s (store_of r))
    (selected (with_units u i w) s at ys c) (selected (with_units v j w) s at ys c)
    (λ q d. follow (attempt i (assigned s q n) d) (λ r. give (goes_on r)))
    (λ q d. follow (attempt j (assigned s q n) d) (λ r. give (goes_on r)))
    (place_alike env w s u v i j p x.name at there.declared (root x.name there.named) xs t there.behind.leads parts c)
    (λ q d place. alike_then {A = Store} {B = End} (λ r. Keeps s r) (λ r. Keeps s (store_of r))
    (attempt i (assigned s q n) d) (attempt j (assigned s q n) d) (λ r. give (goes_on r)) (λ r. give (goes_on r))
    (attempted {A = Store} (λ r. Keeps s r) i j (assigned s q n) d
    (assigned_succeeds s q n k (p.agrees.stored k place fixed among) of))
    (λ r f kept. (refl, kept))))

pub assignable_there : (reason : Reason) (o : Option VariableType) (t : VariableType) (b : Bool) (at : ℕ) → o ≡ Some t
    → breaking reason (if is_some o then unless b at else []) ≡ [] → b ≡ true
assignable_there reason (Some u) t true at is h = refl
assignable_there reason (Some u) t false at is h = absurd (cc)
assignable_there reason None t b at is h = absurd (cc)

-- the parts of an assignment in which nothing is wrong
abbrev in_nodes : Environment → Variable → Expr → List Broken
in_nodes env v e = wrong_nodes env (assign v e)

target_and_nodes : (env : Environment) (c : Context) (v : Variable) (e : Expr)
    → wrong_statement env (placed c (assign v e)) ≡ [] → in_nodes env v e ++ wrong_targets env c (assign v e) ≡ []
target_and_nodes env c v e h =
    let x = assign v e in
    let a = in_nodes env v e ++ wrong_targets env c x in
    let d = a ++ wrong_invocation env x ++ wrong_case env x in
    append_first a (wrong_invocation env x)
    (append_first (a ++ wrong_invocation env x) (wrong_case env x)
    (append_first d (wrong_for env c x)
    (append_first (d ++ wrong_for env c x) (wrong_exit c.in_loop x) h)))

pub target_right : (env : Environment) (c : Context) (v : Variable) (e : Expr)
    → wrong_statement env (placed c (assign v e)) ≡ [] → wrong_target env c v ≡ []
target_right env c v e h = sym (append-nil (wrong_target env c v))
    ∙ append_second (in_nodes env v e) (wrong_targets env c (assign v e)) (target_and_nodes env c v e h)

pub nodes_right : (env : Environment) (c : Context) (v : Variable) (e : Expr)
    → wrong_statement env (placed c (assign v e)) ≡ []
    → (wrong_expression env (demand_of_type env (purposes.Assigned (place_of_variable v)) (type_of_place env v)) e ≡ [])
    × (flat_map (wrong_node env) (nodes_of_place env v) ≡ [])
nodes_right env c v e h =
    let d = demand_of_type env (purposes.Assigned (place_of_variable v)) (type_of_place env v) in
    let one = nodes_of env d e in
    let two = nodes_of_place env v in
    let all : in_nodes env v e ≡ [] =
    append_first (in_nodes env v e) (wrong_targets env c (assign v e)) (target_and_nodes env c v e h) in
    let plain : (one ++ []) ++ (two ++ []) ≡ one ++ two =
    ap (λ xs. xs ++ (two ++ [])) (append-nil one) ∙ ap (λ ys. one ++ ys) (append-nil two) in
    let both : flat_map (wrong_node env) one ++ flat_map (wrong_node env) two ≡ [] =
    sym (flat_map-append (wrong_node env) one two)
    ∙ subst (λ xs. flat_map (wrong_node env) xs ≡ []) plain all in (
      append_first (flat_map (wrong_node env) one) (flat_map (wrong_node env) two) both,
      append_second (flat_map (wrong_node env) one) (flat_map (wrong_node env) two) both,
    )

assign_alike : (env : Environment) (w : Scope) (s : Store) (u v : Units) (i j : StuckFaults) → Premises env w s u v
    → (c : Context) (x : Identifier) (xs : Selectors) (e : Expr)
    → wrong_target env c (variable x xs) ≡ []
    → wrong_expression env (demand_of_type env (purposes.Assigned x.place) (type_of_place env (variable x xs))) e ≡ []
    → flat_map (wrong_node env) (nodes_of_place env (variable x xs)) ≡ [] → (b : ℕ)
    → EndsAlikeIn {A = End} (λ r. Keeps s (store_of r))
    (assigning (with_units u i w) (resolved_variable env.text env.unit (variable x xs))
    (resolved_expr env.text env.unit (kind_of_variable env.text env.unit (variable x xs)) e) s b)
    (assigning (with_units v j w) (resolved_variable env.text env.unit (variable x xs))
    (resolved_expr env.text env.unit (kind_of_variable env.text env.unit (variable x xs)) e) s b)
assign_alike env w s u v i j p c x xs e target h parts b =
    let v' = variable x xs in
    let reason = unassignable env c v' in
    let there = variable_is_there env p.known x xs (append_first (wrong_variable env v')
    (breaking reason (if is_some (type_of_place env v') then unless (is_assignable env c v') x.place else []))
    target) in
    let is = type_there env x xs there in
    let assignable =
    assignable_there reason (type_of_place env v') there.behind.type_is (is_assignable env c v') x.place is
    (append_second (wrong_variable env v')
    (breaking reason (if is_some (type_of_place env v') then unless (is_assignable env c v') x.place else []))
    target) in
    let free = (and_parts (not (is_fixed (section_of env x.name))) _
    (and_parts (not (is_fixed (section_of env x.name)) && _) _ assignable).0).0 in
    let kind : kind_of_variable env.text env.unit v' ≡ kind_of (typing_of_type env.text (Some there.behind.type_is)) =
    kind_of_declared env.text (type_of_place env v') ∙ ap (λ o. kind_of (typing_of_type env.text o)) is in
    subst (λ (k : Option Kind). EndsAlikeIn {A = End} (λ r. Keeps s (store_of r))
    (assigning (with_units u i w) (resolved_variable env.text env.unit v') (resolved_expr env.text env.unit k e) s b)
    (assigning (with_units v j w) (resolved_variable env.text env.unit v') (resolved_expr env.text env.unit k e) s b))
    (sym kind)
    (assigning_alike env w s u v i j p (purposes.Assigned x.place) x xs e there
    (false_from_not (is_fixed (section_of env x.name)) free) parts
    (typing_of_type env.text (Some there.behind.type_is)) refl there.behind.known
    (sym (untyped_declared env.text (Some there.behind.type_is)))
    (subst (λ o. wrong_expression env (demand_of_type env (purposes.Assigned x.place) o) e ≡ []) is h) b)

-- an assignment as a statement
pub assignment_alike : (env : Environment) (w : Scope) (s : Store) (u v : Units) (i j : StuckFaults) → Premises env w s u v
    → (c : Context) (x : Variable) (e : Expr) → wrong_statement env (placed c (assign x e)) ≡ [] → (b : ℕ)
    → EndsAlikeIn {A = End} (λ r. Keeps s (store_of r))
    (exec (with_units u i w) (resolved_stmt env.text env.unit (assign x e)) s b)
    (exec (with_units v j w) (resolved_stmt env.text env.unit (assign x e)) s b)
assignment_alike env w s u v i j p c (variable x xs) e h zero = refl
assignment_alike env w s u v i j p c (variable x xs) e h (suc b) =
    let parts = nodes_right env c (variable x xs) e h in
    assign_alike env w s u v i j p c x xs e (target_right env c (variable x xs) e h) parts.0 parts.1 b

pub assignments_are_sound : AssignmentsAreSound
assignments_are_sound env w s u v i j c x e b agrees units known h =
    alike_as {A = End} (λ r. Keeps s (store_of r)) (LeavesAgreeing env w)
    (exec (with_units u i w) (resolved_stmt env.text env.unit (assign x e)) s b)
    (exec (with_units v j w) (resolved_stmt env.text env.unit (assign x e)) s b)
    (λ r kept. agrees_kept agrees kept)
    (assignment_alike env w s u v i j (record { agrees = agrees; units = units; known = known }) c x e h b)
