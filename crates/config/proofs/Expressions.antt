-- Expressions in which nothing is wrong are sound.
use Rattle.std.proofs.Common.{◌≡◌, refl, sym, ap, subst, ◌∙◌, ℕ, suc, ◌+◌, ◌<◌, ◌==◌, arith, true}
use Rattle.std.proofs.Common.{if◌then◌else◌, List, [], ◌∷◌, ◌++◌, length, Option, Some, None}
use Rattle.std.specs.Prelude.{map, is_some}
use Rattle.std.specs.List.{flat_map}
use Rattle.std.proofs.lemmas.Bool.Decides.{nat_tests}
use Rattle.std.proofs.lemmas.List.{length-map}
use Rattle.std.proofs.lemmas.List.Concat.{flat_map-append}
use Rattle.st_types.specs.declared.identifier.Identifier.{Identifier}
use Rattle.st_types.specs.declared.kind.Kind.{Kind}
use Rattle.st_types.specs.declared.data_type.VariableType.{VariableType}
use Rattle.st_types.specs.declared.unit.UnitSort.{UnitSort}
use Rattle.st_types.specs.declared.unit.UnitSort.TheVariants.{Function, FunctionBlock, Program}
use Rattle.st_types.specs.Declarations.{VariableBlock}
use Rattle.st_types.specs.Expressions as named
use Rattle.st_types.specs.Expressions.{Expr, literal, read, parenthesis, Exprs, no_exprs, expr_then, variable}
use Rattle.st_types.specs.Expressions.{member, subscript, Selectors, no_selectors, selector_then}
use Rattle.st_types.specs.Units.{OrganisationUnit}
use Rattle.st_meaning.specs.Enumerations.{Member, member_named}
use Rattle.st_meaning.specs.NameTypes.{unit_named, input_kinds, result_kind}
use Rattle.st_meaning.specs.Resolution.{own_kinds, common_kind, expected_kinds, inputs_of_unit, inputs_of_function}
use Rattle.st_meaning.specs.Resolution.{resolved_expr, resolved_exprs, resolved_selectors}
use Rattle.st_meaning.specs.Scopes.{Name}
use Rattle.st_meaning.specs.StandardFunctions.{Standard, standard_of, ABS, MIN, MAX, LIMIT, SEL, SHL, SHR, ROL, ROR}
use Rattle.st_meaning.specs.StandardFunctions.{CONVERT}
use Rattle.st_rules.specs.declared.demand.Sorts.TheVariants.{Any as any, Whole as whole}
use Rattle.st_rules.specs.declared.demand.Demand.{Demand}
use Rattle.st_rules.specs.declared.demand.Demand.TheVariants.{Asked as asked}
use Rattle.st_rules.specs.declared.demand.Purpose.TheVariants as purposes
use Rattle.st_rules.specs.Environments.{Environment, own, callee_of, callee_of_sort, type_of_name}
use Rattle.st_rules.specs.Demands.{expected_of, demands_of_standard}
use Rattle.st_rules.specs.Typings.{kinds_of, typing_of, typings_of}
use Rattle.st_rules.specs.Nodes.{nodes_of, nodes_of_all, nodes_of_selectors, offered, demands_of}
use Rattle.st_rules.specs.ExpressionRules.{count_of, wrong_call, wrong_part, wrong_node, wrong_within}
use Rattle.st_rules.specs.ExpressionRules.{wrong_expression}
use Rattle.st_rules.proofs.TypingLaws.{all_kinds_told}
use Rattle.st_link.proofs.KnownLemmas.{below_binary, own_part}
use Rattle.st_link.proofs.ValueLaw.{inside, offers, standard_expected, inputs_expected, count_right, too_many}
use Rattle.st_link.proofs.ValueLaw.{one_less, callee_by, own_callee, alone_expr}
use Rattle.slot_trees.specs.Tables.{Table}
use Rattle.machine_code.specs.Fitting.{UnitCall, of_function}
use Rattle.machine_code.specs.UnitFrames.{UnitFrame, end_of}
use Rattle.config.specs.Sound.{number_of_exprs, CallSound, ExprSound, ExprsSound, SelectorsSound}
use Rattle.config.specs.Callable.{IsCallable}
use Rattle.config.specs.Spelled.{ExprOf, ExprsOf, SelectorsOf}
use Rattle.config.proofs.LiteralLemmas.{literal_value, named_held, member_value}
use Rattle.st_types.proofs.TestLemmas.{equal_numbers}
use Rattle.st_types.proofs.ListLemmas.{append_first, append_second}

one_counted : (m n : ℕ) → m ≡ n → suc m ≡ 1 + n
one_counted m n h = omega (arith, h)

-- no standard function takes many arguments
few_demands : (at : ℕ) (std : Standard) (k : Option Kind) → length (demands_of_standard at std k) < 65536
few_demands at ABS k = omega arith
few_demands at MIN k = omega arith
few_demands at MAX k = omega arith
few_demands at LIMIT k = omega arith
few_demands at SEL k = omega arith
few_demands at SHL k = omega arith
few_demands at SHR k = omega arith
few_demands at ROL k = omega arith
few_demands at ROR k = omega arith
few_demands at (CONVERT a b) k = omega arith

module _ (C : UnitCall → Type 0) (s : UnitFrame) (env : Environment) (t : Table) where
  abbrev Callable : Name → Type 0
  Callable = IsCallable C s env t

  -- a name alone: a variable of the unit, or a value of an enumerated type
  member_sound : (x : Identifier) (o : Option Member) → member_named env.text.types x.name ≡ o
      → ExprSound C s t (alone_expr x o)
  member_sound x None is = tt
  member_sound x (Some m) is = member_value x.place m (named_held env.text.types x.name m is)

  alone_sound : (x : Identifier) (o : Option VariableType)
      → ExprSound C s t (alone_expr x (if is_some o then None else member_named env.text.types x.name))
  alone_sound x (Some u) = tt
  alone_sound x None = member_sound x (member_named env.text.types x.name) refl

  -- as many arguments as there are
  all_counted : (ks : List (Option Kind)) (es : Exprs)
      → number_of_exprs (resolved_exprs env.text env.unit ks es) ≡ count_of es
  all_counted ks no_exprs = refl
  all_counted [] (expr_then e es) =
      one_counted (number_of_exprs (resolved_exprs env.text env.unit [] es)) (count_of es) (all_counted [] es)
  all_counted (k ∷ ks) (expr_then e es) =
      one_counted (number_of_exprs (resolved_exprs env.text env.unit ks es)) (count_of es) (all_counted ks es)

  -- a call, from its arguments
  abbrev AreSound : Exprs → Type 0
  AreSound es =
      (ds : List Demand) → (count_of es == length ds) ≡ true
      → flat_map (wrong_node env) (nodes_of_all env ds es) ≡ []
      → ExprsSound C s t (resolved_exprs env.text env.unit (map expected_of ds) es)

  abbrev CallIs : Name → Option Standard → Exprs → Type 0
  CallIs f o es = ExprsSound C s t es × CallSound C s t o f (number_of_exprs es)

  standard_sound : (at : ℕ) (std : Standard) (f : Name) (es : Exprs) → AreSound es
      → (count_of es == length (demands_of_standard at std (common_kind std (kinds_of (typings_of env es))))) ≡ true
      → flat_map (wrong_node env)
      (nodes_of_all env (demands_of_standard at std (common_kind std (kinds_of (typings_of env es)))) es) ≡ []
      → CallIs f (Some std) (resolved_exprs env.text env.unit (expected_kinds std (own_kinds env.text env.unit es)) es)
  standard_sound at std f es all n h =
      let ks = kinds_of (typings_of env es) in
      let ds = demands_of_standard at std (common_kind std ks) in
      let same : resolved_exprs env.text env.unit (expected_kinds std (own_kinds env.text env.unit es)) es
      ≡ resolved_exprs env.text env.unit (map expected_of ds) es =
      ap (λ q. resolved_exprs env.text env.unit (expected_kinds std q) es) (all_kinds_told env es)
      ∙ standard_expected env.text env.unit at std ks es in
      let number : number_of_exprs (resolved_exprs env.text env.unit (map expected_of ds) es) ≡ length ds =
      all_counted (map expected_of ds) es ∙ equal_numbers (count_of es) (length ds) n in
      let few : number_of_exprs (resolved_exprs env.text env.unit (map expected_of ds) es) < 65536 =
      subst (λ k. k < 65536) (sym number) (few_demands at std (common_kind std ks)) in
      subst (λ (q : Exprs). CallIs f (Some std) q) (sym same) (all ds n h, few)

  own_sound : (at : ℕ) (f : Name) (inputs : List (Option Kind)) (result : Option Kind) (es : Exprs)
      → callee_of env f ≡ Some (own inputs result) → Callable f → AreSound es
      → (count_of es == length (map (λ i. asked i any (purposes.Argument at)) inputs)) ≡ true
      → flat_map (wrong_node env) (nodes_of_all env (map (λ i. asked i any (purposes.Argument at)) inputs) es) ≡ []
      → CallIs f None (resolved_exprs env.text env.unit inputs es)
  own_sound at f inputs result es is callable all n h =
      let ds = map (λ i. asked i any (purposes.Argument at)) inputs in
      let count : length inputs ≡ number_of_exprs (resolved_exprs env.text env.unit inputs es) =
      sym (length-map inputs (λ i. asked i any (purposes.Argument at)))
      ∙ sym (equal_numbers (count_of es) (length ds) n) ∙ sym (all_counted inputs es) in (
        subst (λ (q : List (Option Kind)). ExprsSound C s t (resolved_exprs env.text env.unit q es))
            (inputs_expected at inputs) (all ds n h),
        λ i there. subst (λ k. C (of_function i (end_of s) k)) count (callable inputs result i is there),
      )

  unit_sound : (at : ℕ) (f : Name) (es : Exprs) (o : Option OrganisationUnit)
      → callee_of env f ≡ own_callee env.text o → Callable f → AreSound es
      → wrong_call at (own_callee env.text o) (demands_of env at (own_callee env.text o) es) es ≡ []
      → flat_map (wrong_node env) (nodes_of_all env (demands_of env at (own_callee env.text o) es) es) ≡ []
      → CallIs f None (resolved_exprs env.text env.unit (inputs_of_unit env.text o) es)
  unit_sound at f es None is callable all n h = absurd (cc)
  unit_sound at f es (Some g) is callable all n h = by_sort g.sort g.blocks is n h
    where
      by_sort : (sort : UnitSort) (bs : List VariableBlock) → callee_of env f ≡ callee_of_sort env.text sort bs
          → wrong_call at (callee_of_sort env.text sort bs) (demands_of env at (callee_of_sort env.text sort bs) es) es
          ≡ []
          → flat_map (wrong_node env) (nodes_of_all env (demands_of env at (callee_of_sort env.text sort bs) es) es)
          ≡ []
          → CallIs f None (resolved_exprs env.text env.unit (inputs_of_function env.text sort bs) es)
      by_sort (Function q) bs e m k =
          own_sound at f (input_kinds env.text bs) (result_kind env.text (Function q)) es e callable all
          (count_right _ _ at m) k
      by_sort FunctionBlock bs e m k = absurd (cc)
      by_sort Program bs e m k = absurd (cc)

  call_sound : (at : ℕ) (f : Name) (es : Exprs) (o : Option Standard) → callee_of env f ≡ callee_by env f o
      → Callable f → AreSound es
      → wrong_call at (callee_by env f o) (demands_of env at (callee_by env f o) es) es ≡ []
      → flat_map (wrong_node env) (nodes_of_all env (demands_of env at (callee_by env f o) es) es) ≡ []
      → CallIs f o (resolved_exprs env.text env.unit
      (elim o [
        | Some std ↦ expected_kinds std (own_kinds env.text env.unit es)
        | None ↦ inputs_of_unit env.text (unit_named env.text.units f)
      ]) es)
  call_sound at f es (Some std) is callable all n h = standard_sound at std f es all (count_right _ _ at n) h
  call_sound at f es None is callable all n h = unit_sound at f es (unit_named env.text.units f) is callable all n h

  mutual
    pub expr_sound : (k : Option Kind) (e : Expr) → wrong_within env k e ≡ [] → ExprOf (IsCallable C s env t) e
        → ExprSound C s t (resolved_expr env.text env.unit k e)
    expr_sound k (literal x) h of = literal_value env.text k x (own_part env k (literal x) h) of
    expr_sound k (read (variable x no_selectors)) h of = alone_sound x (type_of_name env x.name)
    expr_sound k (read (variable x (selector_then y ys))) h of =
        selectors_sound (selector_then y ys)
        (append_second (wrong_part env k (read (variable x (selector_then y ys))))
        (flat_map (wrong_node env) (nodes_of_selectors env (selector_then y ys))) h) of
    expr_sound k (named.call f es) h of =
        call_sound f.place f.name es (standard_of f.name) refl of.0 (λ ds n g. exprs_sound es ds n g of.1)
        (own_part env k (named.call f es) h)
        (append_second (wrong_part env k (named.call f es))
        (flat_map (wrong_node env) (nodes_of_all env (demands_of env f.place (callee_of env f.name) es) es)) h)
    expr_sound k (parenthesis at e) h of = expr_sound k e h of
    expr_sound k (named.unary op at e) h of =
        expr_sound k e (append_second (wrong_part env k (named.unary op at e)) (wrong_within env k e) h) of
    expr_sound k (named.binary op x y) h of =
        let o = offered k op (typing_of env x) (typing_of env y) in
        let below = below_binary env k op x y h in
        let first = expr_sound o x (append_first (wrong_within env o x) (wrong_within env o y) below) of.0 in
        let second = expr_sound o y (append_second (wrong_within env o x) (wrong_within env o y) below) of.1 in
        subst (λ (q : Option Kind). ExprSound C s t (resolved_expr env.text env.unit q x)
        × ExprSound C s t (resolved_expr env.text env.unit q y)) (sym (offers env k op x y)) (first, second)

    pub exprs_sound : (es : Exprs) (ds : List Demand) → (count_of es == length ds) ≡ true
        → flat_map (wrong_node env) (nodes_of_all env ds es) ≡ [] → ExprsOf (IsCallable C s env t) es
        → ExprsSound C s t (resolved_exprs env.text env.unit (map expected_of ds) es)
    exprs_sound no_exprs ds n h of = tt
    exprs_sound (expr_then e es) [] n h of = absurd (too_many (count_of es) n)
    exprs_sound (expr_then e es) (d ∷ ds) n h of =
        let split : wrong_expression env d e ++ flat_map (wrong_node env) (nodes_of_all env ds es) ≡ [] =
        sym (flat_map-append (wrong_node env) (nodes_of env d e) (nodes_of_all env ds es)) ∙ h in
        let here = append_first (wrong_expression env d e) (flat_map (wrong_node env) (nodes_of_all env ds es)) split in
        let rest = append_second (wrong_expression env d e) (flat_map (wrong_node env) (nodes_of_all env ds es)) split in (
          expr_sound (expected_of d) e (inside env d e here) of.0,
          exprs_sound es ds (one_less (count_of es) (length ds) n) rest of.1,
        )

    pub selectors_sound : (xs : Selectors) → flat_map (wrong_node env) (nodes_of_selectors env xs) ≡ []
        → SelectorsOf (IsCallable C s env t) xs → SelectorsSound C s t (resolved_selectors env.text env.unit xs)
    selectors_sound no_selectors h of = tt
    selectors_sound (selector_then (member y) xs) h of = selectors_sound xs h of
    selectors_sound (selector_then (subscript e) xs) h of =
        let d = asked None whole purposes.Subscript in
        let split : wrong_expression env d e ++ flat_map (wrong_node env) (nodes_of_selectors env xs) ≡ [] =
        sym (flat_map-append (wrong_node env) (nodes_of env d e) (nodes_of_selectors env xs)) ∙ h in
        let here =
        append_first (wrong_expression env d e) (flat_map (wrong_node env) (nodes_of_selectors env xs)) split in
        let others =
        append_second (wrong_expression env d e) (flat_map (wrong_node env) (nodes_of_selectors env xs)) split in
        (expr_sound None e (inside env d e here) of.0, selectors_sound xs others of.1)
