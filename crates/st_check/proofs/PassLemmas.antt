-- The faults that the passes over a body find are those in the body.
use Rattle.std.proofs.Common.{◌≡◌, refl, sym, ap, ◌∙◌, List, [], ◌++◌, false, append-nil}
use Rattle.std.specs.List.{flat_map}
use Rattle.std.proofs.lemmas.List.Concat.{flat_map-append}
use Rattle.std.proofs.lemmas.List.Folds.{flat_map-map}
use Rattle.st_types.specs.Expressions.{Variable, variable, Selector, member, subscript, Selectors, no_selectors}
use Rattle.st_types.specs.Expressions.{selector_then}
use Rattle.st_types.specs.Statements.{Stmt, Stmts, stmts_of}
use Rattle.st_rules.specs.declared.rule.Broken.{Broken}
use Rattle.st_rules.specs.declared.broken_rules.BrokenRules.{BrokenRules}
use Rattle.st_rules.specs.BodyRules.{wrong_body, wrong_exit, wrong_statement}
use Rattle.st_rules.specs.CallRules.{wrong_invocation}
use Rattle.st_rules.specs.Collecting.{Adds, Covers, Collects}
use Rattle.st_rules.specs.Environments.{Environment}
use Rattle.st_rules.specs.ExpressionRules.{wrong_node}
use Rattle.st_rules.specs.LabelRules.{wrong_case}
use Rattle.st_rules.specs.Nodes.{Node, nodes_of_place, nodes_of_selector, nodes_of_selectors}
use Rattle.st_rules.specs.Roots.{nodes_of_root, roots_of, targets_of, wrong_nodes}
use Rattle.st_rules.specs.Statements.{Placed, outside, statements_in, statements_of}
use Rattle.st_rules.specs.TargetRules.{wrong_for, wrong_targets}
use Rattle.st_rules.proofs.CollectLemmas.{AreAmong, among_itself, among_then, among_left, among_right, both_among}
use Rattle.st_rules.proofs.CollectLemmas.{collects_is, Searches, search_starts, search_fails, search_goes_on}
use Rattle.st_rules.proofs.CollectLemmas.{search_ends, search_is}
use Rattle.st_check.specs.Assignments.{Assigned, assigned_in}
use Rattle.st_check.specs.Bodies.{wrong_roots_of, wrong_assigned_in, wrong_invocations_of, wrong_cases_of}
use Rattle.st_check.specs.Bodies.{wrong_exits_of, wrong_passes, wrong_statements}
use Rattle.st_check.specs.Listings.{Listed, listed_in}
use Rattle.st_check.specs.Roots.{roots_of_selector, roots_of_selectors, roots_of_target, all_roots, wrong_root}
use Rattle.st_check.specs.Targets.{wrong_assigned}
use Rattle.st_check.proofs.BodyLemmas.{brief, brief_all, wrong_assigning, assigning_told}
use Rattle.st_decl.proofs.EntryLemmas.{flat_flat, flat_same, both_left, both_right}
use Rattle.st_check.proofs.PartLemmas.{is_among, together, flat_within}

-- the parts of expressions, root by root
root_is : (env : Environment) (n : Node) → flat_map (wrong_node env) (nodes_of_root env n) ≡ wrong_root env n
unfolding wrong_root
root_is env n = refl

selector_is : (env : Environment) (x : Selector)
    → flat_map (wrong_node env) (nodes_of_selector env x) ≡ flat_map (wrong_root env) (roots_of_selector x)
unfolding wrong_root
selector_is env (member x) = refl
selector_is env (subscript e) = sym (append-nil _)

selectors_are : (env : Environment) (xs : Selectors)
    → flat_map (wrong_node env) (nodes_of_selectors env xs) ≡ flat_map (wrong_root env) (roots_of_selectors xs)
selectors_are env no_selectors = refl
selectors_are env (selector_then x xs) =
    flat_map-append (wrong_node env) (nodes_of_selector env x) (nodes_of_selectors env xs)
    ∙ ap (λ ys. ys ++ flat_map (wrong_node env) (nodes_of_selectors env xs)) (selector_is env x)
    ∙ ap (λ ys. flat_map (wrong_root env) (roots_of_selector x) ++ ys) (selectors_are env xs)
    ∙ sym (flat_map-append (wrong_root env) (roots_of_selector x) (roots_of_selectors xs))

target_is : (env : Environment) (v : Variable)
    → flat_map (wrong_node env) (nodes_of_place env v) ≡ flat_map (wrong_root env) (roots_of_target v)
target_is env (variable x xs) = selectors_are env xs

nodes_are : (env : Environment) (x : Stmt) → flat_map (wrong_root env) (all_roots env x) ≡ wrong_nodes env x
nodes_are env x =
    let roots = roots_of env x in
    let targets = targets_of x in
    flat_map-append (wrong_root env) roots (flat_map roots_of_target targets)
    ∙ ap (λ ys. ys ++ flat_map (wrong_root env) (flat_map roots_of_target targets))
    (sym (flat_flat (wrong_node env) (nodes_of_root env) roots
    ∙ flat_same (λ n. flat_map (wrong_node env) (nodes_of_root env n)) (wrong_root env) (root_is env) roots))
    ∙ ap (λ ys. flat_map (wrong_node env) (flat_map (nodes_of_root env) roots) ++ ys)
    (flat_flat (wrong_root env) roots_of_target targets
    ∙ sym (flat_flat (wrong_node env) (nodes_of_place env) targets
    ∙ flat_same (λ v. flat_map (wrong_node env) (nodes_of_place env v))
    (λ v. flat_map (wrong_root env) (roots_of_target v)) (target_is env) targets))
    ∙ sym (flat_map-append (wrong_node env) (flat_map (nodes_of_root env) roots)
    (flat_map (nodes_of_place env) targets))

-- each pass over all statements of a body
abbrev nodes_at : Environment → Placed → List Broken
nodes_at env p = wrong_nodes env p.statement

abbrev invocation_at : Environment → Placed → List Broken
invocation_at env p = wrong_invocation env p.statement

abbrev case_at : Environment → Placed → List Broken
case_at env p = wrong_case env p.statement

abbrev exit_at : Placed → List Broken
exit_at p = wrong_exit p.context.in_loop p.statement

abbrev placed : Stmts → List Placed
placed body = statements_of outside body

roots_pass : (env : Environment) (body : Stmts)
    → wrong_roots_of env (listed_in false body) ≡ flat_map (nodes_at env) (placed body)
unfolding wrong_roots_of
roots_pass env body =
    let ps = placed body in
    ap (λ ls. flat_map (wrong_root env) (flat_map (λ (l : Listed). all_roots env l.statement) ls))
    (brief_all outside body)
    ∙ ap (flat_map (wrong_root env)) (flat_map-map (λ (l : Listed). all_roots env l.statement) brief ps)
    ∙ flat_flat (wrong_root env) (λ (p : Placed). all_roots env p.statement) ps
    ∙ flat_same (λ (p : Placed). flat_map (wrong_root env) (all_roots env p.statement)) (nodes_at env)
    (λ p. nodes_are env p.statement) ps

assigned_pass : (env : Environment) (body : Stmts)
    → wrong_assigned_in env body ≡ flat_map (wrong_assigning env) (placed body)
unfolding wrong_assigned_in
assigned_pass env body = assigning_told env outside body

invocations_pass : (env : Environment) (body : Stmts)
    → wrong_invocations_of env (listed_in false body) ≡ flat_map (invocation_at env) (placed body)
unfolding wrong_invocations_of
invocations_pass env body =
    ap (flat_map (λ (l : Listed). wrong_invocation env l.statement)) (brief_all outside body)
    ∙ flat_map-map (λ (l : Listed). wrong_invocation env l.statement) brief (placed body)

cases_pass : (env : Environment) (body : Stmts)
    → wrong_cases_of env (listed_in false body) ≡ flat_map (case_at env) (placed body)
unfolding wrong_cases_of
cases_pass env body =
    ap (flat_map (λ (l : Listed). wrong_case env l.statement)) (brief_all outside body)
    ∙ flat_map-map (λ (l : Listed). wrong_case env l.statement) brief (placed body)

exits_pass : (body : Stmts) → wrong_exits_of (listed_in false body) ≡ flat_map exit_at (placed body)
unfolding wrong_exits_of
exits_pass body =
    ap (flat_map (λ (l : Listed). wrong_exit l.in_loop l.statement)) (brief_all outside body)
    ∙ flat_map-map (λ (l : Listed). wrong_exit l.in_loop l.statement) brief (placed body)

-- a statement, part by part
abbrev last_two : Environment → Placed → List Broken
last_two env p = case_at env p ++ exit_at p

abbrev last_three : Environment → Placed → List Broken
last_three env p = invocation_at env p ++ last_two env p

abbrev last_four : Environment → Placed → List Broken
last_four env p = wrong_assigning env p ++ last_three env p

abbrev in_parts : Environment → Placed → List Broken
in_parts env p = nodes_at env p ++ last_four env p

module _ (n t i c f e : List Broken) where
  regrouped : AreAmong (n ++ ((t ++ f) ++ (i ++ (c ++ e)))) (n ++ t ++ i ++ c ++ f ++ e)
  regrouped =
      let all = n ++ t ++ i ++ c ++ f ++ e in
      let to_f = n ++ t ++ i ++ c ++ f in
      let to_c = n ++ t ++ i ++ c in
      let to_i = n ++ t ++ i in
      let in_c = λ (x : List Broken) (h : AreAmong x to_c). among_left x to_f e (among_left x to_c f h) in
      let in_i = λ (x : List Broken) (h : AreAmong x to_i). in_c x (among_left x to_i c h) in
      let in_t = λ (x : List Broken) (h : AreAmong x (n ++ t)). in_i x (among_left x (n ++ t) i h) in
      both_among n ((t ++ f) ++ (i ++ (c ++ e))) all (in_t n (among_left n n t (among_itself n)))
      (both_among (t ++ f) (i ++ (c ++ e)) all
      (both_among t f all (in_t t (among_right t n t (among_itself t)))
      (among_left f to_f e (among_right f to_c f (among_itself f))))
      (both_among i (c ++ e) all (in_i i (among_right i (n ++ t) i (among_itself i)))
      (both_among c e all (in_c c (among_right c to_i c (among_itself c))) (among_right e to_f e (among_itself e)))))

  ungrouped : AreAmong (n ++ t ++ i ++ c ++ f ++ e) (n ++ ((t ++ f) ++ (i ++ (c ++ e))))
  ungrouped =
      let all = n ++ ((t ++ f) ++ (i ++ (c ++ e))) in
      let rest = (t ++ f) ++ (i ++ (c ++ e)) in
      let in_rest = λ (x : List Broken) (h : AreAmong x rest). among_right x n rest h in
      let in_a = λ (x : List Broken) (h : AreAmong x (t ++ f)). in_rest x (among_left x (t ++ f) (i ++ (c ++ e)) h) in
      let in_last = λ (x : List Broken) (h : AreAmong x (i ++ (c ++ e))). in_rest x
      (among_right x (t ++ f) (i ++ (c ++ e)) h) in
      both_among (n ++ t ++ i ++ c ++ f) e all
      (both_among (n ++ t ++ i ++ c) f all
      (both_among (n ++ t ++ i) c all
      (both_among (n ++ t) i all
      (both_among n t all (among_left n n rest (among_itself n)) (in_a t (among_left t t f (among_itself t))))
      (in_last i (among_left i i (c ++ e) (among_itself i))))
      (in_last c (among_right c i (c ++ e) (among_left c c e (among_itself c)))))
      (in_a f (among_right f t f (among_itself f))))
      (in_last e (among_right e i (c ++ e) (among_right e c e (among_itself e))))

statement_in : (env : Environment) (p : Placed) → AreAmong (wrong_statement env p) (in_parts env p)
statement_in env p =
    let x = p.statement in
    ungrouped (wrong_nodes env x) (wrong_targets env p.context x) (wrong_invocation env x) (wrong_case env x)
    (wrong_for env p.context x) (wrong_exit p.context.in_loop x)

in_statement : (env : Environment) (p : Placed) → AreAmong (in_parts env p) (wrong_statement env p)
in_statement env p =
    let x = p.statement in
    regrouped (wrong_nodes env x) (wrong_targets env p.context x) (wrong_invocation env x) (wrong_case env x)
    (wrong_for env p.context x) (wrong_exit p.context.in_loop x)

-- all statements, pass by pass
module _ (env : Environment) (ps : List Placed) where
  abbrev passes : List Broken
  passes =
      flat_map (nodes_at env) ps ++ (flat_map (wrong_assigning env) ps ++ (flat_map (invocation_at env) ps
      ++ (flat_map (case_at env) ps ++ flat_map exit_at ps)))

  passes_in : AreAmong passes (flat_map (wrong_statement env) ps)
  passes_in =
      let ns = flat_map (nodes_at env) ps in
      let ws = flat_map (wrong_assigning env) ps in
      let is = flat_map (invocation_at env) ps in
      let cs = flat_map (case_at env) ps in
      let es = flat_map exit_at ps in
      let two = both_right (case_at env) exit_at ps in
      let three = among_then (is ++ (cs ++ es)) (is ++ flat_map (last_two env) ps) (flat_map (last_three env) ps)
      (together is (cs ++ es) is (flat_map (last_two env) ps) (among_itself is) two)
      (both_right (invocation_at env) (last_two env) ps) in
      let four = among_then (ws ++ (is ++ (cs ++ es))) (ws ++ flat_map (last_three env) ps)
      (flat_map (last_four env) ps)
      (together ws (is ++ (cs ++ es)) ws (flat_map (last_three env) ps) (among_itself ws) three)
      (both_right (wrong_assigning env) (last_three env) ps) in
      among_then passes (flat_map (in_parts env) ps) (flat_map (wrong_statement env) ps)
      (among_then passes (ns ++ flat_map (last_four env) ps) (flat_map (in_parts env) ps)
      (together ns (ws ++ (is ++ (cs ++ es))) ns (flat_map (last_four env) ps) (among_itself ns) four)
      (both_right (nodes_at env) (last_four env) ps))
      (flat_within (in_parts env) (wrong_statement env) (in_statement env) ps)

  in_passes : AreAmong (flat_map (wrong_statement env) ps) passes
  in_passes =
      let ns = flat_map (nodes_at env) ps in
      let ws = flat_map (wrong_assigning env) ps in
      let is = flat_map (invocation_at env) ps in
      let cs = flat_map (case_at env) ps in
      let es = flat_map exit_at ps in
      let two = both_left (case_at env) exit_at ps in
      let three = among_then (flat_map (last_three env) ps) (is ++ flat_map (last_two env) ps) (is ++ (cs ++ es))
      (both_left (invocation_at env) (last_two env) ps)
      (together is (flat_map (last_two env) ps) is (cs ++ es) (among_itself is) two) in
      let four = among_then (flat_map (last_four env) ps) (ws ++ flat_map (last_three env) ps)
      (ws ++ (is ++ (cs ++ es)))
      (both_left (wrong_assigning env) (last_three env) ps)
      (together ws (flat_map (last_three env) ps) ws (is ++ (cs ++ es)) (among_itself ws) three) in
      among_then (flat_map (wrong_statement env) ps) (flat_map (in_parts env) ps) passes
      (flat_within (wrong_statement env) (in_parts env) (statement_in env) ps)
      (among_then (flat_map (in_parts env) ps) (ns ++ flat_map (last_four env) ps) passes
      (both_left (nodes_at env) (last_four env) ps)
      (together ns (flat_map (last_four env) ps) ns (ws ++ (is ++ (cs ++ es))) (among_itself ns) four))

-- five lists of faults that are known under other names
five : (a b c d e v w x y z : List Broken) → a ≡ v → b ≡ w → c ≡ x → d ≡ y → e ≡ z
    → a ++ (b ++ (c ++ (d ++ e))) ≡ v ++ (w ++ (x ++ (y ++ z)))
five a b c d e v w x y z h i j k l = rw (h, i, j, k, l) refl

passes_are : (env : Environment) (body : Stmts) → wrong_passes env body ≡ passes env (placed body)
passes_are env body =
    let ps = placed body in
    five (wrong_roots_of env (listed_in false body)) (wrong_assigned_in env body)
    (wrong_invocations_of env (listed_in false body)) (wrong_cases_of env (listed_in false body))
    (wrong_exits_of (listed_in false body)) (flat_map (nodes_at env) ps) (flat_map (wrong_assigning env) ps)
    (flat_map (invocation_at env) ps) (flat_map (case_at env) ps) (flat_map exit_at ps) (roots_pass env body)
    (assigned_pass env body) (invocations_pass env body) (cases_pass env body) (exits_pass body)

pub passes_among : (env : Environment) → AreAmong (wrong_passes env (stmts_of env.unit.body)) (wrong_body env)
passes_among env =
    let body = stmts_of env.unit.body in
    let ps = statements_in env.unit in
    among_then (wrong_passes env body) (passes env ps) (wrong_body env)
    (is_among (wrong_passes env body) (passes env ps) (passes_are env body)) (passes_in env ps)

pub among_passes : (env : Environment) → AreAmong (wrong_body env) (wrong_passes env (stmts_of env.unit.body))
among_passes env =
    let body = stmts_of env.unit.body in
    let ps = statements_in env.unit in
    among_then (wrong_body env) (passes env ps) (wrong_passes env body) (in_passes env ps)
    (is_among (passes env ps) (wrong_passes env body) (sym (passes_are env body)))

-- The passes as the code makes them: what is left after each.
abbrev pub PassesLeft : Environment → Stmts → List Broken → BrokenRules → BrokenRules → Type 0
PassesLeft env body rest start it = Searches (wrong_passes env body) rest start it

pub roots_collected : (env : Environment) (rs : List Node) (ls all : List Listed) (old new : BrokenRules) → ls ≡ all
    → rs ≡ flat_map (λ l. all_roots env l.statement) ls → Collects (flat_map (wrong_root env) rs) old new
    → Collects (wrong_roots_of env all) old new
unfolding wrong_roots_of
roots_collected env rs ls all old new is from h =
    collects_is (flat_map (wrong_root env) rs) (wrong_roots_of env all) old new
    (ap (flat_map (wrong_root env)) (from ∙ ap (flat_map (λ (l : Listed). all_roots env l.statement)) is)) h

pub assigned_collected : (env : Environment) (xs : List Assigned) (body : Stmts) (old new : BrokenRules)
    → xs ≡ assigned_in [] body → Collects (flat_map (wrong_assigned env) xs) old new
    → Collects (wrong_assigned_in env body) old new
unfolding wrong_assigned_in
assigned_collected env xs body old new is h =
    collects_is (flat_map (wrong_assigned env) xs) (wrong_assigned_in env body) old new
    (ap (flat_map (wrong_assigned env)) is) h

pub invocations_is : (env : Environment) (ls all : List Listed) → ls ≡ all
    → flat_map (λ l. wrong_invocation env l.statement) ls ≡ wrong_invocations_of env all
unfolding wrong_invocations_of
invocations_is env ls all is = ap (flat_map (λ (l : Listed). wrong_invocation env l.statement)) is

pub cases_is : (env : Environment) (ls all : List Listed) → ls ≡ all
    → flat_map (λ l. wrong_case env l.statement) ls ≡ wrong_cases_of env all
unfolding wrong_cases_of
cases_is env ls all is = ap (flat_map (λ (l : Listed). wrong_case env l.statement)) is

pub exits_collected : (ls all : List Listed) (old new : BrokenRules) → ls ≡ all
    → Collects (flat_map (λ l. wrong_exit l.in_loop l.statement) ls) old new → Collects (wrong_exits_of all) old new
unfolding wrong_exits_of
exits_collected ls all old new is h =
    collects_is (flat_map (λ l. wrong_exit l.in_loop l.statement) ls) (wrong_exits_of all) old new
    (ap (flat_map (λ (l : Listed). wrong_exit l.in_loop l.statement)) is) h

module _ (env : Environment) (body : Stmts) (start it next : BrokenRules) where
  abbrev all : List Listed
  all = listed_in false body

  pub after_roots : start ≡ it → Collects (wrong_roots_of env all) it next
      → PassesLeft env body (wrong_assigned_in env body ++ wrong_statements env all) start next
  after_roots is one =
      search_goes_on (wrong_passes env body) (wrong_roots_of env all)
      (wrong_assigned_in env body ++ wrong_statements env all) start it next
      (search_starts (wrong_passes env body) start it is) one.adds one.covers

  pub after_assigned : PassesLeft env body (wrong_assigned_in env body ++ wrong_statements env all) start it
      → Collects (wrong_assigned_in env body) it next → PassesLeft env body (wrong_statements env all) start next
  after_assigned s one =
      search_goes_on (wrong_passes env body) (wrong_assigned_in env body) (wrong_statements env all) start it next s
      one.adds one.covers

  pub invocations_fail : PassesLeft env body (wrong_statements env all) start it
      → Adds (wrong_invocations_of env all) it next → Adds (wrong_passes env body) start next
  invocations_fail s one =
      search_fails (wrong_passes env body) (wrong_invocations_of env all) (wrong_cases_of env all ++ wrong_exits_of all)
      start it next s one

  pub after_invocations : PassesLeft env body (wrong_statements env all) start it
      → Adds (wrong_invocations_of env all) it next → Covers (wrong_invocations_of env all) next
      → PassesLeft env body (wrong_cases_of env all ++ wrong_exits_of all) start next
  after_invocations s one found =
      search_goes_on (wrong_passes env body) (wrong_invocations_of env all)
      (wrong_cases_of env all ++ wrong_exits_of all) start it next s one found

  pub cases_fail : PassesLeft env body (wrong_cases_of env all ++ wrong_exits_of all) start it
      → Adds (wrong_cases_of env all) it next → Adds (wrong_passes env body) start next
  cases_fail s one =
      search_fails (wrong_passes env body) (wrong_cases_of env all) (wrong_exits_of all) start it next s one

  pub after_cases : PassesLeft env body (wrong_cases_of env all ++ wrong_exits_of all) start it
      → Adds (wrong_cases_of env all) it next → Covers (wrong_cases_of env all) next
      → PassesLeft env body (wrong_exits_of all) start next
  after_cases s one found =
      search_goes_on (wrong_passes env body) (wrong_cases_of env all) (wrong_exits_of all) start it next s one found

  pub after_exits : PassesLeft env body (wrong_exits_of all) start it → Collects (wrong_exits_of all) it next
      → Collects (wrong_passes env body) start next
  after_exits s one =
      search_ends (wrong_passes env body) start next
      (search_goes_on (wrong_passes env body) (wrong_exits_of all) [] start it next
      (search_is (wrong_passes env body) (wrong_exits_of all) (wrong_exits_of all ++ []) start it
      (sym (append-nil (wrong_exits_of all))) s) one.adds one.covers)
