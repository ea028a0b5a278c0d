-- Expressions in which nothing is wrong are linked, and so are the places that they name.
use Rattle.std.proofs.Common.{◌≡◌, refl, sym, ap, subst, ◌∙◌, ℕ, ◌==◌, ℤ, true, false}
use Rattle.std.proofs.Common.{if◌then◌else◌, List, [], ◌∷◌, ◌++◌, length, Option, Some, None, option_map}
use Rattle.std.proofs.Common.{option_and_then}
use Rattle.std.specs.Prelude.{map, is_some, nat_lt}
use Rattle.std.specs.List.{flat_map}
use Rattle.std.proofs.lemmas.List.Concat.{flat_map-append}
use Rattle.st_types.specs.declared.identifier.Identifier.{Identifier}
use Rattle.st_types.specs.declared.kind.Kind.{Kind}
use Rattle.st_types.specs.declared.literal.Literal.TheVariants as literals
use Rattle.st_types.specs.declared.data_type.VariableType.{VariableType}
use Rattle.st_types.specs.declared.unit.UnitSort.{UnitSort}
use Rattle.st_types.specs.declared.unit.UnitSort.TheVariants.{Function, FunctionBlock, Program}
use Rattle.st_types.specs.Declarations.{VariableBlock}
use Rattle.st_types.specs.Expressions as named
use Rattle.st_types.specs.Expressions.{Expr, literal, read, parenthesis, Exprs, no_exprs, expr_then, Variable, variable}
use Rattle.st_types.specs.Expressions.{member, subscript, Selectors, no_selectors, selector_then}
use Rattle.st_types.specs.Units.{OrganisationUnit}
use Rattle.st_meaning.specs.Enumerations.{Member, enumerations_of, members_named, only_one, number_of_member}
use Rattle.st_meaning.specs.NameTypes.{selected_type, type_after_selectors, kind_among, unit_named, input_kinds}
use Rattle.st_meaning.specs.NameTypes.{result_kind}
use Rattle.st_meaning.specs.Resolution.{own_kinds, taken_kind, taking_literal, common_kind, expected_kinds}
use Rattle.st_meaning.specs.Resolution.{inputs_of_unit, inputs_of_function, resolved_expr, resolved_exprs}
use Rattle.st_meaning.specs.Resolution.{resolved_selectors}
use Rattle.st_meaning.specs.Scopes.{Name}
use Rattle.st_meaning.specs.StandardFunctions.{Standard, standard_of}
use Rattle.st_rules.specs.declared.demand.Sorts.TheVariants.{Any as any, Whole as whole}
use Rattle.st_rules.specs.declared.demand.Demand.{Demand}
use Rattle.st_rules.specs.declared.demand.Demand.TheVariants.{Operand as operand, Asked as asked}
use Rattle.st_rules.specs.declared.demand.Purpose.TheVariants as purposes
use Rattle.st_rules.specs.declared.typings.Typing.TheVariants.{Elementary as elementary}
use Rattle.st_rules.specs.Readings.{reading_among, wrong_reading}
use Rattle.st_rules.specs.Environments.{Environment, own, callee_of, callee_of_sort, type_of_name}
use Rattle.st_rules.specs.Demands.{expected_of, demands_of_standard, sorts_of_binary}
use Rattle.st_rules.specs.Typings.{kinds_of, typing_of, typings_of, typing_of_type}
use Rattle.st_rules.specs.Typings.{typing_of_alone, settled}
use Rattle.st_rules.specs.Nodes.{nodes_of, nodes_of_all, nodes_of_selectors, offered, demands_of}
use Rattle.st_rules.specs.ExpressionRules.{count_of, wrong_alone, wrong_call, wrong_part, wrong_node, wrong_within}
use Rattle.st_rules.specs.ExpressionRules.{wrong_expression}
use Rattle.st_rules.proofs.TypingLaws.{all_kinds_told}
use Rattle.st_rules.specs.TypeRules.{elements_of_array}
use Rattle.layout.specs.Shapes.{PartsOwner, Shape, Parts, plain, array, parts, size, sizes}
use Rattle.layout.specs.Types.{shape_within, is_within_depth, lower_of}
use Rattle.st_link.specs.Soundness.{IsTypeIn, of_variable, of_part}
use Rattle.st_link.proofs.KnownLemmas.{variable_is_there, type_there, typing_known, below_binary, own_part}
use Rattle.st_link.proofs.ValueLaw.{settled_known, inside, kind_asked, operands_alike, offers}
use Rattle.st_link.proofs.ValueLaw.{operands_right, kind_there, standard_expected, inputs_expected, standard_asked}
use Rattle.st_link.proofs.ValueLaw.{inputs_asked, count_right, never, too_few, too_many, one_less, are_asked}
use Rattle.st_link.proofs.ValueLaw.{callee_by, own_callee, alone_expr}
use Rattle.st_link.proofs.SoundMembers.{member_part, element_part}
use Rattle.slot_trees.specs.SlotTrees.{SlotExpr, constant, load, compute, call, unary, binary, no_exprs as none}
use Rattle.slot_trees.specs.SlotTrees.{expr_then as one_then, place, no_subscripts}
use Rattle.slot_trees.specs.Tables.{Symbol, Table, symbol_of, named_in, Part, part_at, moved}
use Rattle.slot_trees.specs.Linking.{Selected, with_offset, with_subscript, place_of_shape, place_if_plain}
use Rattle.slot_trees.specs.Linking.{linked_call, linked, linked_all, linked_variable, linked_selectors}
use Rattle.slot_trees.specs.Linking.{target_of, linked_target}
use Rattle.st_link.specs.Served.{IsLinked, HasSymbol, Serves, IsOrderly}
use Rattle.st_link.proofs.LinkedParts.{linked_and, linked_map}
use Rattle.st_link.proofs.TypeShapes.{room_of_both, has_part, has_elements, plain_shape}
use Rattle.st_types.proofs.OptionLemmas.{some_is, then_some}
use Rattle.st_types.proofs.ListLemmas.{append_first, append_second}

-- selectors lead to an elementary part of the shape, which so has room
pub record LeadsTo (t : Table) (sh : Shape) (xs : Selectors) (k : Kind) : Type 0 where
  pub selected : Selected
  pub is : linked_selectors t sh xs ≡ Some selected
  pub shape : selected.shape ≡ plain k
  pub room : nat_lt 0 (size sh) ≡ true

module _ (t : Table) (k : Kind) where
  nothing_leads : LeadsTo t (plain k) no_selectors k
  nothing_leads = record {
    selected = record { offset = 0; subscripts = no_subscripts; shape = plain k };
    is = refl;
    shape = refl;
    room = refl;
  }

  member_leads : (w : PartsOwner) (ps : Parts) (x : Identifier) (e : Part) (xs : Selectors) → part_at ps x.name ≡ Some e
      → (nat_lt 0 (size e.shape) ≡ true → nat_lt 0 (sizes ps) ≡ true) → LeadsTo t e.shape xs k
      → LeadsTo t (parts w ps) (selector_then (member x) xs) k
  member_leads w ps x e xs h room l = record {
    selected = with_offset e.offset l.selected;
    is = ap (option_and_then (λ d. option_map (with_offset d.offset) (linked_selectors t d.shape xs))) h
        ∙ ap (option_map (with_offset e.offset)) l.is;
    shape = l.shape;
    room = room l.room;
  }

  element_leads : (lower : ℤ) (count : ℕ) (sh : Shape) (e : Expr) (i : SlotExpr) (xs : Selectors)
      → linked t e ≡ Some i → nat_lt 0 count ≡ true → LeadsTo t sh xs k
      → LeadsTo t (array lower count sh) (selector_then (subscript e) xs) k
  element_leads lower count sh e i xs h some l = record {
    selected = with_subscript i lower count (size sh) l.selected;
    is =
        ap (λ b. if b
        then option_and_then (λ j. option_map (with_subscript j lower count (size sh)) (linked_selectors t sh xs))
        (linked t e) else None) (room_of_both count (size sh) some l.room)
        ∙ ap (option_and_then
        (λ j. option_map (with_subscript j lower count (size sh)) (linked_selectors t sh xs))) h
        ∙ ap (option_map (with_subscript i lower count (size sh))) l.is;
    shape = l.shape;
    room = room_of_both count (size sh) some l.room;
  }

-- a place that is elementary
module _ (t : Table) (x : Identifier) (y : Symbol) (there : symbol_of t.symbols x.name ≡ Some y) (xs : Selectors)
    (k : Kind) (l : LeadsTo t y.shape xs k) where
  place_there : option_and_then (place_if_plain y.anchor) (linked_selectors t y.shape xs)
      ≡ Some (place (moved y.anchor l.selected.offset) l.selected.subscripts)
  place_there =
      ap (option_and_then (place_if_plain y.anchor)) l.is
      ∙ ap (place_of_shape y.anchor l.selected.offset l.selected.subscripts) l.shape

  pub variable_linked : IsLinked (linked_variable t (variable x xs))
  variable_linked = record {
    value = place (moved y.anchor l.selected.offset) l.selected.subscripts;
    is = ap (option_and_then
        (λ z. option_and_then (place_if_plain z.anchor) (linked_selectors t z.shape xs))) there ∙ place_there;
  }

  pub target_linked : y.is_input ≡ false → IsLinked (linked_target t (variable x xs))
  target_linked free = record {
    value = place (moved y.anchor l.selected.offset) l.selected.subscripts;
    is = ap (option_and_then (λ z. target_of t z xs)) there
        ∙ ap (λ b. if b then None else option_and_then (place_if_plain y.anchor) (linked_selectors t y.shape xs)) free
        ∙ place_there;
  }

module _ (env : Environment) (t : Table) (orderly : IsOrderly env) (serves : Serves env t) where
  abbrev tree : Option Kind → Expr → Expr
  tree k e = resolved_expr env.text env.unit k e

  abbrev behind : Selectors → Selectors
  behind xs = resolved_selectors env.text env.unit xs

  -- a name alone: a variable of the unit, or a value of an enumerated type
  value_linked : (k : Option Kind) (x : Identifier) (ms : List Member) (l : Kind)
      → wrong_reading x.place (reading_among ms) ≡ [] → IsLinked (linked t (alone_expr x (only_one ms)))
  value_linked k x [] l h = absurd (cc)
  value_linked k x (m ∷ []) l h =
      record { value = constant (literals.Number (number_of_member x.place m)); is = refl }
  value_linked k x (m ∷ n ∷ rest) l h = absurd (cc)

  alone_linked : (k : Option Kind) (x : Identifier) (o : Option VariableType) (l : Kind) → type_of_name env x.name ≡ o
      → wrong_alone env x.place x.name o ≡ [] → settled k (typing_of_alone env x.name o) ≡ elementary l
      → IsLinked (linked t (alone_expr x
      (if is_some o then None else only_one (members_named (enumerations_of env.text.types) x.name))))
  alone_linked k x None l is h e =
      value_linked k x (members_named (enumerations_of env.text.types) x.name) l h
  alone_linked k x (Some s) l is h e =
      let y = serves.symbols x.name s is in
      let shape = y.shape ∙ plain_shape env.text y.depth s l y.within (kind_there env.text k (Some s) l e) in
      linked_map load (linked_variable t (variable x no_selectors))
      (variable_linked t x y.symbol y.there no_selectors l
      (subst (λ sh. LeadsTo t sh no_selectors l) (sym shape) (nothing_leads t l)))

  -- a call, from its arguments
  abbrev AreLinked : Exprs → Type 0
  AreLinked es =
      (ds : List Demand) → (count_of es == length ds) ≡ true → are_asked ds ≡ true
      → flat_map (wrong_node env) (nodes_of_all env ds es) ≡ []
      → IsLinked (linked_all t (resolved_exprs env.text env.unit (map expected_of ds) es))

  abbrev called : Name → Option Standard → Exprs → Option SlotExpr
  called f o es = option_and_then (λ xs. linked_call t f o xs) (linked_all t es)

  standard_linked : (at : ℕ) (std : Standard) (f : Name) (es : Exprs) → AreLinked es
      → (count_of es == length (demands_of_standard at std (common_kind std (kinds_of (typings_of env es))))) ≡ true
      → flat_map (wrong_node env)
      (nodes_of_all env (demands_of_standard at std (common_kind std (kinds_of (typings_of env es)))) es) ≡ []
      → IsLinked (called f (Some std)
      (resolved_exprs env.text env.unit (expected_kinds std (own_kinds env.text env.unit es)) es))
  standard_linked at std f es all n h =
      let ks = kinds_of (typings_of env es) in
      let ds = demands_of_standard at std (common_kind std ks) in
      let same : resolved_exprs env.text env.unit (expected_kinds std (own_kinds env.text env.unit es)) es
      ≡ resolved_exprs env.text env.unit (map expected_of ds) es =
      ap (λ q. resolved_exprs env.text env.unit (expected_kinds std q) es) (all_kinds_told env es)
      ∙ standard_expected env.text env.unit at std ks es in
      subst (λ (q : Exprs). IsLinked (called f (Some std) q)) (sym same)
      (linked_and (λ xs. linked_call t f (Some std) xs)
      (linked_all t (resolved_exprs env.text env.unit (map expected_of ds) es))
      (all ds n (standard_asked at std (common_kind std ks)) h) (λ xs. record { value = compute std xs; is = refl }))

  own_linked : (at : ℕ) (f : Name) (inputs : List (Option Kind)) (result : Option Kind) (es : Exprs)
      → callee_of env f ≡ Some (own inputs result) → AreLinked es
      → (count_of es == length (map (λ i. asked i any (purposes.Argument at)) inputs)) ≡ true
      → flat_map (wrong_node env) (nodes_of_all env (map (λ i. asked i any (purposes.Argument at)) inputs) es) ≡ []
      → IsLinked (called f None (resolved_exprs env.text env.unit inputs es))
  own_linked at f inputs result es is all n h =
      let ds = map (λ i. asked i any (purposes.Argument at)) inputs in
      subst (λ (q : List (Option Kind)). IsLinked (called f None (resolved_exprs env.text env.unit q es)))
      (inputs_expected at inputs)
      (linked_and (λ xs. linked_call t f None xs)
      (linked_all t (resolved_exprs env.text env.unit (map expected_of ds) es))
      (all ds n (inputs_asked at inputs) h)
      (λ xs. linked_map (λ i. call i xs) (named_in t.functions f) (serves.functions f inputs result is)))

  unit_linked : (at : ℕ) (f : Name) (es : Exprs) (o : Option OrganisationUnit)
      → callee_of env f ≡ own_callee env.text o → AreLinked es
      → wrong_call at (own_callee env.text o) (demands_of env at (own_callee env.text o) es) es ≡ []
      → flat_map (wrong_node env) (nodes_of_all env (demands_of env at (own_callee env.text o) es) es) ≡ []
      → IsLinked (called f None (resolved_exprs env.text env.unit (inputs_of_unit env.text o) es))
  unit_linked at f es None is all n h = absurd (cc)
  unit_linked at f es (Some g) is all n h = by_sort g.sort g.blocks is n h
    where
      by_sort : (sort : UnitSort) (bs : List VariableBlock) → callee_of env f ≡ callee_of_sort env.text sort bs
          → wrong_call at (callee_of_sort env.text sort bs) (demands_of env at (callee_of_sort env.text sort bs) es) es
          ≡ []
          → flat_map (wrong_node env) (nodes_of_all env (demands_of env at (callee_of_sort env.text sort bs) es) es)
          ≡ []
          → IsLinked (called f None (resolved_exprs env.text env.unit (inputs_of_function env.text sort bs) es))
      by_sort (Function q) bs e m k =
          own_linked at f (input_kinds env.text bs) (result_kind env.text (Function q)) es e all
          (count_right _ _ at m) k
      by_sort FunctionBlock bs e m k = absurd (cc)
      by_sort Program bs e m k = absurd (cc)

  call_linked : (at : ℕ) (f : Name) (es : Exprs) (o : Option Standard) → callee_of env f ≡ callee_by env f o
      → AreLinked es
      → wrong_call at (callee_by env f o) (demands_of env at (callee_by env f o) es) es ≡ []
      → flat_map (wrong_node env) (nodes_of_all env (demands_of env at (callee_by env f o) es) es) ≡ []
      → IsLinked (called f o (resolved_exprs env.text env.unit
      (elim o [
        | Some std ↦ expected_kinds std (own_kinds env.text env.unit es)
        | None ↦ inputs_of_unit env.text (unit_named env.text.units f)
      ]) es))
  call_linked at f es (Some std) is all n h = standard_linked at std f es all (count_right _ _ at n) h
  call_linked at f es None is all n h = unit_linked at f es (unit_named env.text.units f) is all n h

  -- a variable that exists
  read_linked : (x : Identifier) (xs : Selectors) (s : VariableType) (k : Kind) (y : HasSymbol env t.symbols x.name s)
      → LeadsTo t (shape_within y.depth env.text s) (behind xs) k
      → IsLinked (linked t (read (variable x (behind xs))))
  read_linked x xs s k y l =
      linked_map load (linked_variable t (variable x (behind xs)))
      (variable_linked t x y.symbol y.there (behind xs) k
      (subst (λ sh. LeadsTo t sh (behind xs) k) (sym y.shape) l))

  mutual
    pub expr_linked : (k : Option Kind) (e : Expr) → wrong_within env k e ≡ [] → (l : Kind)
        → settled k (typing_of env e) ≡ elementary l → IsLinked (linked t (resolved_expr env.text env.unit k e))
    expr_linked k (literal x) h l is =
        record { value = constant (taking_literal env.text.types (taken_kind k) x); is = refl }
    expr_linked k (read (variable x no_selectors)) h l is =
        alone_linked k x (type_of_name env x.name) l refl (own_part env k (read (variable x no_selectors)) h) is
    expr_linked k (read (variable x (selector_then y ys))) h l is =
        let there = variable_is_there env orderly.known x (selector_then y ys)
        (own_part env k (read (variable x (selector_then y ys))) h) in
        let r = there.behind.type_is in
        let kind = kind_there env.text k (Some r) l
        (subst (λ o. settled k (typing_of_type env.text o) ≡ elementary l)
        (type_there env x (selector_then y ys) there) is) in
        let z = serves.symbols x.name there.declared there.named in
        read_linked x (selector_then y ys) there.declared l z
        (selectors_linked (selector_then y ys) z.depth there.declared (of_variable x.name there.named) z.within r
        there.behind.leads l kind
        (append_second (wrong_part env k (read (variable x (selector_then y ys))))
        (flat_map (wrong_node env) (nodes_of_selectors env (selector_then y ys))) h))
    expr_linked k (named.call f es) h l is =
        call_linked f.place f.name es (standard_of f.name) refl (exprs_linked es) (own_part env k (named.call f es) h)
        (append_second (wrong_part env k (named.call f es))
        (flat_map (wrong_node env) (nodes_of_all env (demands_of env f.place (callee_of env f.name) es) es)) h)
    expr_linked k (parenthesis at e) h l is = expr_linked k e h l is
    expr_linked k (named.unary op at e) h l is =
        linked_map (unary op) (linked t (resolved_expr env.text env.unit k e))
        (expr_linked k e (append_second (wrong_part env k (named.unary op at e)) (wrong_within env k e) h) l is)
    expr_linked k (named.binary op x y) h l is =
        let o = offered k op (typing_of env x) (typing_of env y) in
        let below = below_binary env k op x y h in
        let left = append_first (wrong_within env o x) (wrong_within env o y) below in
        let right = append_second (wrong_within env o x) (wrong_within env o y) below in
        let alike = operands_alike (sorts_of_binary op) (settled o (typing_of env x)) (settled o (typing_of env y))
        (operands_right env k op x y h)
        (settled_known o (typing_of env x) (typing_known env orderly.known o x left))
        (settled_known o (typing_of env y) (typing_known env orderly.known o y right)) in
        let first = expr_linked o x left alike.0 alike.2 in
        let second = expr_linked o y right alike.1 alike.3 in
        subst (λ (q : Option Kind). IsLinked
        (option_and_then (λ a. option_map (binary op a) (linked t (resolved_expr env.text env.unit q y)))
        (linked t (resolved_expr env.text env.unit q x)))) (sym (offers env k op x y))
        (linked_and (λ a. option_map (binary op a) (linked t (resolved_expr env.text env.unit o y)))
        (linked t (resolved_expr env.text env.unit o x)) first
        (λ a. linked_map (binary op a) (linked t (resolved_expr env.text env.unit o y)) second))

    pub exprs_linked : (es : Exprs) (ds : List Demand) → (count_of es == length ds) ≡ true → are_asked ds ≡ true
        → flat_map (wrong_node env) (nodes_of_all env ds es) ≡ []
        → IsLinked (linked_all t (resolved_exprs env.text env.unit (map expected_of ds) es))
    exprs_linked no_exprs [] n a h = record { value = none; is = refl }
    exprs_linked no_exprs (d ∷ ds) n a h = absurd (too_few (length ds) n)
    exprs_linked (expr_then e es) [] n a h = absurd (too_many (count_of es) n)
    exprs_linked (expr_then e es) (operand k ∷ ds) n a h = absurd (never a)
    exprs_linked (expr_then e es) (asked k ss p ∷ ds) n a h =
        let d = asked k ss p in
        let split : wrong_expression env d e ++ flat_map (wrong_node env) (nodes_of_all env ds es) ≡ [] =
        sym (flat_map-append (wrong_node env) (nodes_of env d e) (nodes_of_all env ds es)) ∙ h in
        let here = append_first (wrong_expression env d e) (flat_map (wrong_node env) (nodes_of_all env ds es)) split in
        let rest = append_second (wrong_expression env d e) (flat_map (wrong_node env) (nodes_of_all env ds es)) split in
        let kind = kind_asked env orderly.known k ss p e here in
        let ls = map expected_of ds in
        linked_and (λ x. option_map (one_then x) (linked_all t (resolved_exprs env.text env.unit ls es)))
        (linked t (resolved_expr env.text env.unit k e))
        (expr_linked k e (inside env d e here) kind.0 kind.1)
        (λ x. linked_map (one_then x) (linked_all t (resolved_exprs env.text env.unit ls es))
        (exprs_linked es ds (one_less (count_of es) (length ds) n) a rest))

    pub selectors_linked : (xs : Selectors) (n : ℕ) (s : VariableType) → IsTypeIn env s
        → is_within_depth n env.text s ≡ true → (r : VariableType) → type_after_selectors env.text xs s ≡ Some r → (k : Kind)
        → kind_among env.text.types r ≡ Some k → flat_map (wrong_node env) (nodes_of_selectors env xs) ≡ []
        → LeadsTo t (shape_within n env.text s) (resolved_selectors env.text env.unit xs) k
    selectors_linked no_selectors n s typed within r is k kind h =
        subst (λ sh. LeadsTo t sh no_selectors k)
        (sym (plain_shape env.text n s k within (ap (kind_among env.text.types) (some_is is) ∙ kind)))
        (nothing_leads t k)
    selectors_linked (selector_then (member y) xs) n s typed within r is k kind h =
        let one = then_some (type_after_selectors env.text xs) (selected_type env.text s (member y)) r is in
        let p = has_part env.text n s y.name one.0 within (member_part env.text orderly.names s y.name one.0 one.1) in
        let rest = selectors_linked xs p.depth one.0 (of_part (member y) typed one.1) p.within r one.2 k kind h in
        subst
        (λ sh. LeadsTo t sh (selector_then (member y) (resolved_selectors env.text env.unit xs)) k) (sym p.is)
        (member_leads t k p.whole p.members y p.part (resolved_selectors env.text env.unit xs) p.there p.room
        (subst (λ sh. LeadsTo t sh (resolved_selectors env.text env.unit xs) k) (sym p.shape) rest))
    selectors_linked (selector_then (subscript e) xs) n s typed within r is k kind h =
        let one = then_some (type_after_selectors env.text xs) (selected_type env.text s (subscript e)) r is in
        let a = element_part env.text orderly.names s one.0 one.1 in
        let p = has_elements env.text n s one.0 within a in
        let d = asked None whole purposes.Subscript in
        let split : wrong_expression env d e ++ flat_map (wrong_node env) (nodes_of_selectors env xs) ≡ [] =
        sym (flat_map-append (wrong_node env) (nodes_of env d e) (nodes_of_selectors env xs)) ∙ h in
        let here =
        append_first (wrong_expression env d e) (flat_map (wrong_node env) (nodes_of_selectors env xs)) split in
        let others =
        append_second (wrong_expression env d e) (flat_map (wrong_node env) (nodes_of_selectors env xs)) split in
        let number = kind_asked env orderly.known None whole purposes.Subscript e here in
        let index = expr_linked None e (inside env d e here) number.0 number.1 in
        let inner = of_part (subscript e) typed one.1 in
        let rest = selectors_linked xs p.depth one.0 inner p.within r one.2 k kind others in
        subst
        (λ sh. LeadsTo t sh
        (selector_then (subscript (resolved_expr env.text env.unit None e))
        (resolved_selectors env.text env.unit xs)) k) (sym p.is)
        (element_leads t k (lower_of a.array) (elements_of_array a.array) (shape_within p.depth env.text one.0)
        (resolved_expr env.text env.unit None e) index.value (resolved_selectors env.text env.unit xs) index.is
        (orderly.bounded s typed a.array a.composition) rest)
