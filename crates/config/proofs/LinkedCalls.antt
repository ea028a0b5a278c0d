-- Calls of a body with names are in its linked form.
use Rattle.std.proofs.Common.{◌≡◌, refl, sym, ap, subst, ◌∙◌, ℕ, ◌*◌, List, [], ◌∷◌, ◌++◌, Bool, true, false}
use Rattle.std.proofs.Common.{if◌then◌else◌, Option, Some, None, option_map, option_and_then, inl, inr}
use Rattle.std.specs.Prelude.{◌⊎◌, nat_lt}
use Rattle.std.specs.List.{flat_map}
use Rattle.st_types.specs.declared.identifier.Identifier.{Identifier}
use Rattle.st_types.specs.Expressions as named
use Rattle.st_types.specs.Expressions.{Expr, literal, read, parenthesis, Exprs, Variable, variable, Selectors}
use Rattle.st_types.specs.Expressions.{no_selectors, selector_then, member, subscript}
use Rattle.st_types.specs.Statements as text
use Rattle.st_types.specs.Statements.{Argument, Stmt, Stmts, Arms, CaseArms}
use Rattle.st_meaning.specs.Scopes.{Name}
use Rattle.st_meaning.specs.StandardFunctions.{Standard, standard_of}
use Rattle.st_rules.specs.Containment.{calls_in, calls_in_all, calls_in_variable, calls_in_selectors}
use Rattle.st_rules.specs.Containment.{calls_in_argument, calls_in_conditions, calls_in_statement, calls_in_step}
use Rattle.layout.specs.Shapes.{Shape, Parts, plain, array, parts, size}
use Rattle.st_decl.specs.Flattened.{all_below, all_in, all_in_arms, all_in_case_arms}
use Rattle.st_link.proofs.Among.{Among, here, later, in_front, in_back, in_either}
use Rattle.slot_trees.specs.SlotTrees.{SlotExpr, load, call, unary, binary, SlotExprs, expr_then, Place}
use Rattle.slot_trees.specs.SlotTrees.{Anchor, BlockCode, SlotArgument, given, copied}
use Rattle.slot_trees.specs.SlotTrees.{SlotStmt, assign, invoke, IF, CASE}
use Rattle.slot_trees.specs.SlotTrees.{FOR, WHILE, REPEAT, SlotStmts, stmt_then, SlotArms, arm_then, SlotCaseArms}
use Rattle.slot_trees.specs.SlotTrees.{case_arm_then}
use Rattle.slot_trees.specs.Tables.{Table, Symbol, Part, named_in, part_at, symbol_of}
use Rattle.slot_trees.specs.Linking.{Selected, with_offset, with_subscript, linked, linked_all, linked_call}
use Rattle.slot_trees.specs.Linking.{linked_selectors, linked_target}
use Rattle.slot_trees.specs.Linking.{linked_variable, place_if_plain, place_of_shape}
use Rattle.slot_trees.specs.Linking.{target_of}
use Rattle.slot_trees.specs.LinkedStatements.{block_code_of, control_of, instance_of_symbol, linked_argument}
use Rattle.slot_trees.specs.LinkedStatements.{linked_arguments, linked_arms, linked_call_of, linked_case_arms}
use Rattle.slot_trees.specs.LinkedStatements.{linked_step, linked_stmt, linked_stmts, offset_of}
use Rattle.slot_trees.proofs.OptionLemmas.{not_some}
use Rattle.config.proofs.CallLengths.{UnitCalls, expr_calls, exprs_calls}
use Rattle.config.proofs.CallLengths.{place_calls, subscripts_calls, step_calls}
use Rattle.config.proofs.CallLengths.{argument_calls, arguments_calls, stmt_calls, stmts_calls, arms_calls}
use Rattle.config.proofs.CallLengths.{case_calls}
use Rattle.st_types.proofs.OptionLemmas.{some_is, map_some, then_some}

pub none_among : {A X : Type 0} {a : A} → Among a [] → X
none_among a = elim a [ ]

-- the first one of a list, or one of the others
pub first_or : {A : Type 0} {a b : A} {xs : List A} → Among a (b ∷ xs) → (a ≡ b) ⊎ Among a xs
first_or here = inl refl
first_or (later h) = inr h

some_if : {A : Type 0} (b : Bool) (o : Option A) (y : A) → (if b then o else None) ≡ Some y → o ≡ Some y
some_if true o y h = h
some_if false o y h = absurd (cc)

module _ (units : UnitCalls) (t : Table) (g : ℕ) where
  place_of : (a : Anchor) (n : ℕ) (s : Selected) (sh : Shape) (p : Place)
      → place_of_shape a n s.subscripts sh ≡ Some p → Among g (subscripts_calls units s.subscripts)
      → Among g (place_calls units p)
  place_of a n s (plain k) p h i =
      subst (λ q. Among g (place_calls units q)) (some_is h) i
  place_of a n s (array lower count sh) p h i = absurd (cc)
  place_of a n s (parts w ps) p h i = absurd (cc)

  -- a function that is called by its name
  module _ (f : Name) (own : standard_of f ≡ None)
      (calls : (i : ℕ) → named_in t.functions f ≡ Some i → Among g (units.functions i)) where
    -- the call itself
    call_calls_it : (k : Name) (xs : SlotExprs) (x : SlotExpr) → f ≡ k
        → linked_call t k (standard_of k) xs ≡ Some x → Among g (expr_calls units x)
    call_calls_it k xs x same h =
        let at_f : linked_call t f (standard_of f) xs ≡ Some x =
        subst (λ y. linked_call t y (standard_of y) xs ≡ Some x) (sym same) h in
        let own_call : option_map (λ j. call j xs) (named_in t.functions f) ≡ Some x =
        sym (ap (λ o. linked_call t f o xs) own) ∙ at_f in
        let m = map_some (λ j. call j xs) (named_in t.functions f) x own_call in
        subst (λ y. Among g (expr_calls units y)) m.2 (in_front (exprs_calls units xs) (calls m.0 m.1))

    -- the calls in its arguments
    given_calls_it : (k : Name) (xs : SlotExprs) (x : SlotExpr) → Among g (exprs_calls units xs)
        → (o : Option Standard) → linked_call t k o xs ≡ Some x → Among g (expr_calls units x)
    given_calls_it k xs x a (Some s) h = subst (λ y. Among g (expr_calls units y)) (some_is h) a
    given_calls_it k xs x a None h =
        let m = map_some (λ j. call j xs) (named_in t.functions k) x h in
        subst (λ y. Among g (expr_calls units y)) m.2 (in_back (units.functions m.0) a)

    mutual
      expr_calls_it : (e : Expr) (x : SlotExpr) → linked t e ≡ Some x → Among f (calls_in e)
          → Among g (expr_calls units x)
      expr_calls_it (literal l) x h a = none_among a
      expr_calls_it (read v) x h a =
          let m = map_some load (linked_variable t v) x h in
          subst (λ y. Among g (expr_calls units y)) m.2 (variable_calls_it v m.0 m.1 a)
      expr_calls_it (named.call k es) x h a =
          let m = then_some (λ xs. linked_call t k.name (standard_of k.name) xs) (linked_all t es) x h in
          elim (first_or a) [
            | inl same ↦ call_calls_it k.name m.0 x same m.2
            | inr b ↦ given_calls_it k.name m.0 x (exprs_calls_it es m.0 m.1 b) (standard_of k.name) m.2
          ]
      expr_calls_it (parenthesis at e) x h a = expr_calls_it e x h a
      expr_calls_it (named.unary op at e) x h a =
          let m = map_some (unary op) (linked t e) x h in
          subst (λ y. Among g (expr_calls units y)) m.2 (expr_calls_it e m.0 m.1 a)
      expr_calls_it (named.binary op l r) x h a =
          let m = then_some (λ y. option_map (binary op y) (linked t r)) (linked t l) x h in
          let k = map_some (binary op m.0) (linked t r) x m.2 in
          subst (λ y. Among g (expr_calls units y)) k.2 (elim (in_either (calls_in l) (calls_in r) a) [
            | inl b ↦ in_front (expr_calls units k.0) (expr_calls_it l m.0 m.1 b)
            | inr b ↦ in_back (expr_calls units m.0) (expr_calls_it r k.0 k.1 b)
          ])

      exprs_calls_it : (es : Exprs) (xs : SlotExprs) → linked_all t es ≡ Some xs → Among f (calls_in_all es)
          → Among g (exprs_calls units xs)
      exprs_calls_it named.no_exprs xs h a = none_among a
      exprs_calls_it (named.expr_then e es) xs h a =
          let m = then_some (λ y. option_map (expr_then y) (linked_all t es)) (linked t e) xs h in
          let k = map_some (expr_then m.0) (linked_all t es) xs m.2 in
          subst (λ ys. Among g (exprs_calls units ys)) k.2 (elim (in_either (calls_in e) (calls_in_all es) a) [
            | inl b ↦ in_front (exprs_calls units k.0) (expr_calls_it e m.0 m.1 b)
            | inr b ↦ in_back (expr_calls units m.0) (exprs_calls_it es k.0 k.1 b)
          ])

      variable_calls_it : (v : Variable) (p : Place) → linked_variable t v ≡ Some p → Among f (calls_in_variable v)
          → Among g (place_calls units p)
      variable_calls_it (variable x xs) p h a =
          let m = then_some (λ (y : Symbol). option_and_then (place_if_plain y.anchor)
          (linked_selectors t y.shape xs)) (symbol_of t.symbols x.name) p h in
          let k = then_some (place_if_plain m.0.anchor) (linked_selectors t m.0.shape xs) p m.2 in
          place_of m.0.anchor k.0.offset k.0 k.0.shape p k.2 (selectors_call_it m.0.shape xs k.0 k.1 a)

      selectors_call_it : (sh : Shape) (xs : Selectors) (z : Selected) → linked_selectors t sh xs ≡ Some z
          → Among f (calls_in_selectors xs) → Among g (subscripts_calls units z.subscripts)
      selectors_call_it sh no_selectors z h a = none_among a
      selectors_call_it (parts w ps) (selector_then (member x) xs) z h a =
          let m = then_some (λ (e : Part). option_map (with_offset e.offset) (linked_selectors t e.shape xs))
          (part_at ps x.name) z h in
          let k = map_some (with_offset m.0.offset) (linked_selectors t m.0.shape xs) z m.2 in
          subst (λ (y : Selected). Among g (subscripts_calls units y.subscripts)) k.2
          (selectors_call_it m.0.shape xs k.0 k.1 a)
      selectors_call_it (array lower count sh) (selector_then (subscript e) xs) z h a =
          let q = some_if (nat_lt 0 (count * size sh))
          (option_and_then (λ i. option_map (with_subscript i lower count (size sh)) (linked_selectors t sh xs))
          (linked t e)) z h in
          let m = then_some (λ i. option_map (with_subscript i lower count (size sh)) (linked_selectors t sh xs))
          (linked t e) z q in
          let k = map_some (with_subscript m.0 lower count (size sh)) (linked_selectors t sh xs) z m.2 in
          subst (λ (y : Selected). Among g (subscripts_calls units y.subscripts)) k.2
          (elim (in_either (calls_in e) (calls_in_selectors xs) a) [
            | inl b ↦ in_front (subscripts_calls units k.0.subscripts) (expr_calls_it e m.0 m.1 b)
            | inr b ↦ in_back (expr_calls units m.0) (selectors_call_it sh xs k.0 k.1 b)
          ])
      selectors_call_it (plain k) (selector_then x xs) z h a = absurd (cc)
      selectors_call_it (parts w ps) (selector_then (subscript e) xs) z h a = absurd (cc)
      selectors_call_it (array lower count sh) (selector_then (member x) xs) z h a = absurd (cc)

    target_calls_it : (v : Variable) (p : Place) → linked_target t v ≡ Some p → Among f (calls_in_variable v)
        → Among g (place_calls units p)
    target_calls_it (variable x xs) p h a =
        let m = then_some (λ (y : Symbol). target_of t y xs) (symbol_of t.symbols x.name) p h in
        let free = not_some m.0.is_input (option_and_then (place_if_plain m.0.anchor)
        (linked_selectors t m.0.shape xs)) p m.2 in
        let k = then_some (place_if_plain m.0.anchor) (linked_selectors t m.0.shape xs) p free.1 in
        place_of m.0.anchor k.0.offset k.0 k.0.shape p k.2 (selectors_call_it m.0.shape xs k.0 k.1 a)

    step_calls_it : (o : Option Expr) (x : Option SlotExpr) → linked_step t o ≡ Some x → Among f (calls_in_step o)
        → Among g (step_calls units x)
    step_calls_it None x h a = none_among a
    step_calls_it (Some e) x h a =
        let m = map_some Some (linked t e) x h in
        subst (λ y. Among g (step_calls units y)) m.2 (expr_calls_it e m.0 m.1 a)

    argument_calls_it : (ps : Parts) (x : Argument) (y : SlotArgument) → linked_argument t ps x ≡ Some y
        → Among f (calls_in_argument x) → Among g (argument_calls units y)
    argument_calls_it ps (text.given x e) y h a =
        let m = then_some (λ o. option_map (given o) (linked t e))
        (option_and_then offset_of (part_at ps x.name)) y h in
        let k = map_some (given m.0) (linked t e) y m.2 in
        subst (λ z. Among g (argument_calls units z)) k.2 (expr_calls_it e k.0 k.1 a)
    argument_calls_it ps (text.copied x v) y h a =
        let m = then_some (λ o. option_map (copied o) (linked_target t v))
        (option_and_then offset_of (part_at ps x.name)) y h in
        let k = map_some (copied m.0) (linked_target t v) y m.2 in
        subst (λ z. Among g (argument_calls units z)) k.2 (target_calls_it v k.0 k.1 a)

    arguments_call_it : (ps : Parts) (xs : List Argument) (ys : List SlotArgument)
        → linked_arguments t ps xs ≡ Some ys
        → Among f (flat_map calls_in_argument xs) → Among g (arguments_calls units ys)
    arguments_call_it ps [] ys h a = none_among a
    arguments_call_it ps (x ∷ xs) ys h a =
        let m = then_some (λ y. option_map (λ zs. y ∷ zs) (linked_arguments t ps xs)) (linked_argument t ps x) ys h in
        let k = map_some (λ zs. m.0 ∷ zs) (linked_arguments t ps xs) ys m.2 in
        subst (λ zs. Among g (arguments_calls units zs)) k.2
        (elim (in_either (calls_in_argument x) (flat_map calls_in_argument xs) a) [
          | inl b ↦ in_front (arguments_calls units k.0) (argument_calls_it ps x m.0 m.1 b)
          | inr b ↦ in_back (argument_calls units m.0) (arguments_call_it ps xs k.0 k.1 b)
        ])

    conditions_call_it : (arms : Arms) (ys : SlotArms) → linked_arms t arms ≡ Some ys
        → Among f (calls_in_conditions arms) → Among g (arms_calls units ys)
    conditions_call_it text.no_arms ys h a = none_among a
    conditions_call_it (text.arm_then e body arms) ys h a =
        let m = then_some (λ x. option_and_then (λ b. option_map (arm_then x b) (linked_arms t arms))
        (linked_stmts t body)) (linked t e) ys h in
        let n = then_some (λ b. option_map (arm_then m.0 b) (linked_arms t arms)) (linked_stmts t body) ys m.2 in
        let k = map_some (arm_then m.0 n.0) (linked_arms t arms) ys n.2 in
        subst (λ zs. Among g (arms_calls units zs)) k.2
        (elim (in_either (calls_in e) (calls_in_conditions arms) a) [
          | inl b ↦ in_front (stmts_calls units n.0 ++ arms_calls units k.0) (expr_calls_it e m.0 m.1 b)
          | inr b ↦ in_back (expr_calls units m.0) (in_back (stmts_calls units n.0)
              (conditions_call_it arms k.0 k.1 b))
        ])

    -- a statement's own expressions
    pub own_calls_it : (x : Stmt) (y : SlotStmt) → linked_stmt t x ≡ Some y → Among f (calls_in_statement x)
        → Among g (stmt_calls units y)
    own_calls_it text.empty y h a = none_among a
    own_calls_it (text.assign v e) y h a =
        let m = then_some (λ p. option_map (assign p) (linked t e)) (linked_target t v) y h in
        let k = map_some (assign m.0) (linked t e) y m.2 in
        subst (λ z. Among g (stmt_calls units z)) k.2 (elim (in_either (calls_in_variable v) (calls_in e) a) [
          | inl b ↦ in_front (expr_calls units k.0) (target_calls_it v m.0 m.1 b)
          | inr b ↦ in_back (place_calls units m.0) (expr_calls_it e k.0 k.1 b)
        ])
    own_calls_it (text.invoke x arguments) y h a =
        let m = then_some (linked_call_of t x.name arguments)
        (option_and_then instance_of_symbol (symbol_of t.symbols x.name)) y h in
        let n = then_some (λ code. option_map (invoke m.0.anchor code) (linked_arguments t m.0.members arguments))
        (block_code_of t x.name) y m.2 in
        let k = map_some (invoke m.0.anchor n.0) (linked_arguments t m.0.members arguments) y n.2 in
        subst (λ z. Among g (stmt_calls units z)) k.2
        (in_back (units.blocks n.0) (arguments_call_it m.0.members arguments k.0 k.1 a))
    own_calls_it (text.IF arms otherwise) y h a =
        let m = then_some (λ b. option_map (IF b) (linked_stmts t otherwise)) (linked_arms t arms) y h in
        let k = map_some (IF m.0) (linked_stmts t otherwise) y m.2 in
        subst (λ z. Among g (stmt_calls units z)) k.2
        (in_front (stmts_calls units k.0) (conditions_call_it arms m.0 m.1 a))
    own_calls_it (text.CASE e arms otherwise) y h a =
        let m = then_some (λ x. option_and_then (λ b. option_map (CASE x b) (linked_stmts t otherwise))
        (linked_case_arms t arms)) (linked t e) y h in
        let n = then_some (λ b. option_map (CASE m.0 b) (linked_stmts t otherwise)) (linked_case_arms t arms) y m.2 in
        let k = map_some (CASE m.0 n.0) (linked_stmts t otherwise) y n.2 in
        subst (λ z. Among g (stmt_calls units z)) k.2
        (in_front (case_calls units n.0 ++ stmts_calls units k.0) (expr_calls_it e m.0 m.1 a))
    own_calls_it (text.FOR x start limit step body) y h a =
        let m = then_some (λ b. option_and_then (λ i. option_and_then (λ n. option_and_then
        (λ d. option_map (FOR b i n d) (linked_stmts t body)) (linked_step t step)) (linked t limit))
        (linked t start))
        (option_and_then control_of (symbol_of t.symbols x.name)) y h in
        let n = then_some (λ i. option_and_then (λ n. option_and_then
        (λ d. option_map (FOR m.0 i n d) (linked_stmts t body)) (linked_step t step)) (linked t limit))
        (linked t start) y m.2 in
        let o = then_some (λ l. option_and_then (λ d. option_map (FOR m.0 n.0 l d) (linked_stmts t body))
        (linked_step t step)) (linked t limit) y n.2 in
        let q = then_some (λ d. option_map (FOR m.0 n.0 o.0 d) (linked_stmts t body)) (linked_step t step) y o.2 in
        let k = map_some (FOR m.0 n.0 o.0 q.0) (linked_stmts t body) y q.2 in
        subst (λ z. Among g (stmt_calls units z)) k.2
        (elim (in_either (calls_in start ++ calls_in limit) (calls_in_step step) a) [
          | inl b ↦ elim (in_either (calls_in start) (calls_in limit) b) [
            | inl c ↦ in_front (expr_calls units o.0 ++ (step_calls units q.0 ++ stmts_calls units k.0))
                (expr_calls_it start n.0 n.1 c)
            | inr c ↦ in_back (expr_calls units n.0) (in_front (step_calls units q.0 ++ stmts_calls units k.0)
                (expr_calls_it limit o.0 o.1 c))
          ]
          | inr b ↦ in_back (expr_calls units n.0) (in_back (expr_calls units o.0)
              (in_front (stmts_calls units k.0) (step_calls_it step q.0 q.1 b)))
        ])
    own_calls_it (text.WHILE e body) y h a =
        let m = then_some (λ x. option_map (WHILE x) (linked_stmts t body)) (linked t e) y h in
        let k = map_some (WHILE m.0) (linked_stmts t body) y m.2 in
        subst (λ z. Among g (stmt_calls units z)) k.2 (in_front (stmts_calls units k.0) (expr_calls_it e m.0 m.1 a))
    own_calls_it (text.REPEAT body e) y h a =
        let m = then_some (λ x. option_map (λ b. REPEAT b x) (linked_stmts t body)) (linked t e) y h in
        let k = map_some (λ b. REPEAT b m.0) (linked_stmts t body) y m.2 in
        subst (λ z. Among g (stmt_calls units z)) k.2 (in_front (stmts_calls units k.0) (expr_calls_it e m.0 m.1 a))
    own_calls_it (text.EXIT at) y h a = none_among a
    own_calls_it text.RETURN y h a = none_among a

  -- a call of a block
  pub block_calls_it : (x : Identifier) (arguments : List Argument)
      → ((code : BlockCode) → block_code_of t x.name ≡ Some code → Among g (units.blocks code)) → (y : SlotStmt)
      → linked_stmt t (text.invoke x arguments) ≡ Some y → Among g (stmt_calls units y)
  block_calls_it x arguments calls y h =
      let m = then_some (linked_call_of t x.name arguments)
      (option_and_then instance_of_symbol (symbol_of t.symbols x.name)) y h in
      let n = then_some (λ c. option_map (invoke m.0.anchor c) (linked_arguments t m.0.members arguments))
      (block_code_of t x.name) y m.2 in
      let k = map_some (invoke m.0.anchor n.0) (linked_arguments t m.0.members arguments) y n.2 in
      subst (λ z. Among g (stmt_calls units z)) k.2 (in_front (arguments_calls units k.0) (calls n.0 n.1))

  -- the calls of a statement, wherever it is in a body
  module _ (z : Stmt) (calls : (y : SlotStmt) → linked_stmt t z ≡ Some y → Among g (stmt_calls units y)) where
    mutual
      below_calls_it : (x : Stmt) (y : SlotStmt) → linked_stmt t x ≡ Some y → Among z (all_below x)
          → Among g (stmt_calls units y)
      below_calls_it (text.IF arms otherwise) y h a =
          let m = then_some (λ b. option_map (IF b) (linked_stmts t otherwise)) (linked_arms t arms) y h in
          let k = map_some (IF m.0) (linked_stmts t otherwise) y m.2 in
          subst (λ w. Among g (stmt_calls units w)) k.2 (elim (in_either (all_in_arms arms) (all_in otherwise) a) [
            | inl b ↦ in_front (stmts_calls units k.0) (arms_call_it arms m.0 m.1 b)
            | inr b ↦ in_back (arms_calls units m.0) (stmts_call_it otherwise k.0 k.1 b)
          ])
      below_calls_it (text.CASE e arms otherwise) y h a =
          let m = then_some (λ x. option_and_then (λ b. option_map (CASE x b) (linked_stmts t otherwise))
          (linked_case_arms t arms)) (linked t e) y h in
          let n = then_some (λ b. option_map (CASE m.0 b) (linked_stmts t otherwise)) (linked_case_arms t arms) y
          m.2 in
          let k = map_some (CASE m.0 n.0) (linked_stmts t otherwise) y n.2 in
          subst (λ w. Among g (stmt_calls units w)) k.2
          (in_back (expr_calls units m.0) (elim (in_either (all_in_case_arms arms) (all_in otherwise) a) [
            | inl b ↦ in_front (stmts_calls units k.0) (cases_call_it arms n.0 n.1 b)
            | inr b ↦ in_back (case_calls units n.0) (stmts_call_it otherwise k.0 k.1 b)
          ]))
      below_calls_it (text.FOR x start limit step body) y h a =
          let m = then_some (λ b. option_and_then (λ i. option_and_then (λ n. option_and_then
          (λ d. option_map (FOR b i n d) (linked_stmts t body)) (linked_step t step)) (linked t limit))
          (linked t start)) (option_and_then control_of (symbol_of t.symbols x.name)) y h in
          let n = then_some (λ i. option_and_then (λ n. option_and_then
          (λ d. option_map (FOR m.0 i n d) (linked_stmts t body)) (linked_step t step)) (linked t limit))
          (linked t start) y m.2 in
          let o = then_some (λ l. option_and_then (λ d. option_map (FOR m.0 n.0 l d) (linked_stmts t body))
          (linked_step t step)) (linked t limit) y n.2 in
          let q = then_some (λ d. option_map (FOR m.0 n.0 o.0 d) (linked_stmts t body)) (linked_step t step) y o.2 in
          let k = map_some (FOR m.0 n.0 o.0 q.0) (linked_stmts t body) y q.2 in
          subst (λ w. Among g (stmt_calls units w)) k.2
          (in_back (expr_calls units n.0) (in_back (expr_calls units o.0) (in_back (step_calls units q.0)
          (stmts_call_it body k.0 k.1 a))))
      below_calls_it (text.WHILE e body) y h a =
          let m = then_some (λ x. option_map (WHILE x) (linked_stmts t body)) (linked t e) y h in
          let k = map_some (WHILE m.0) (linked_stmts t body) y m.2 in
          subst (λ w. Among g (stmt_calls units w)) k.2
          (in_back (expr_calls units m.0) (stmts_call_it body k.0 k.1 a))
      below_calls_it (text.REPEAT body e) y h a =
          let m = then_some (λ x. option_map (λ b. REPEAT b x) (linked_stmts t body)) (linked t e) y h in
          let k = map_some (λ b. REPEAT b m.0) (linked_stmts t body) y m.2 in
          subst (λ w. Among g (stmt_calls units w)) k.2
          (in_back (expr_calls units m.0) (stmts_call_it body k.0 k.1 a))
      below_calls_it text.empty y h a = none_among a
      below_calls_it (text.assign v e) y h a = none_among a
      below_calls_it (text.invoke x arguments) y h a = none_among a
      below_calls_it (text.EXIT at) y h a = none_among a
      below_calls_it text.RETURN y h a = none_among a

      pub stmts_call_it : (xs : Stmts) (ys : SlotStmts) → linked_stmts t xs ≡ Some ys → Among z (all_in xs)
          → Among g (stmts_calls units ys)
      stmts_call_it text.no_stmts ys h a = none_among a
      stmts_call_it (text.stmt_then x xs) ys h a =
          let m = then_some (λ y. option_map (stmt_then y) (linked_stmts t xs)) (linked_stmt t x) ys h in
          let k = map_some (stmt_then m.0) (linked_stmts t xs) ys m.2 in
          subst (λ w. Among g (stmts_calls units w)) k.2 (elim (in_either (x ∷ all_below x) (all_in xs) a) [
            | inl b ↦ in_front (stmts_calls units k.0) (elim (first_or b) [
              | inl same ↦ calls m.0 (ap (linked_stmt t) same ∙ m.1)
              | inr c ↦ below_calls_it x m.0 m.1 c
            ])
            | inr b ↦ in_back (stmt_calls units m.0) (stmts_call_it xs k.0 k.1 b)
          ])

      arms_call_it : (arms : Arms) (ys : SlotArms) → linked_arms t arms ≡ Some ys → Among z (all_in_arms arms)
          → Among g (arms_calls units ys)
      arms_call_it text.no_arms ys h a = none_among a
      arms_call_it (text.arm_then e body arms) ys h a =
          let m = then_some (λ x. option_and_then (λ b. option_map (arm_then x b) (linked_arms t arms))
          (linked_stmts t body)) (linked t e) ys h in
          let n = then_some (λ b. option_map (arm_then m.0 b) (linked_arms t arms)) (linked_stmts t body) ys m.2 in
          let k = map_some (arm_then m.0 n.0) (linked_arms t arms) ys n.2 in
          subst (λ w. Among g (arms_calls units w)) k.2
          (in_back (expr_calls units m.0) (elim (in_either (all_in body) (all_in_arms arms) a) [
            | inl b ↦ in_front (arms_calls units k.0) (stmts_call_it body n.0 n.1 b)
            | inr b ↦ in_back (stmts_calls units n.0) (arms_call_it arms k.0 k.1 b)
          ]))

      cases_call_it : (arms : CaseArms) (ys : SlotCaseArms) → linked_case_arms t arms ≡ Some ys
          → Among z (all_in_case_arms arms) → Among g (case_calls units ys)
      cases_call_it text.no_case_arms ys h a = none_among a
      cases_call_it (text.case_arm_then labels body arms) ys h a =
          let m = then_some (λ b. option_map (case_arm_then labels b) (linked_case_arms t arms)) (linked_stmts t body)
          ys h in
          let k = map_some (case_arm_then labels m.0) (linked_case_arms t arms) ys m.2 in
          subst (λ w. Among g (case_calls units w)) k.2
          (elim (in_either (all_in body) (all_in_case_arms arms) a) [
            | inl b ↦ in_front (case_calls units k.0) (stmts_call_it body m.0 m.1 b)
            | inr b ↦ in_back (stmts_calls units m.0) (cases_call_it arms k.0 k.1 b)
          ])
