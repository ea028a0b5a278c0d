use Rattle.std.proofs.Common.{◌≤◌, ap, arith, inl, inr, map, refl, rules, subst, sym, ◌∙◌, ◌≡◌}
use Rattle.symbols.specs.Standard.{standard_view}
use Rattle.st_meaning.specs.StandardFunctions.{CONVERT}
use Rattle.slot_trees.specs.SlotTrees.{binary, compute, load}
use Rattle.slot_trees.specs.Chains.{exprs_of}
use Rattle.slot_trees.specs.ExpressionViews.{place_view, slot_expr_view}
use Rattle.st_compile.proofs.Sizes.{expr_size, exprs_size}
use Rattle.quick_trees.specs.Pieces.{IsTemporary, IsInstr}
use Rattle.quick_checks.specs.Checking.{frame_of, point_of, site_of}
use Rattle.quick_trees.specs.Calls.{quick_units}
use Rattle.quick_trees.specs.TreeCode.{IsRead}
use Rattle.st_types.specs.declared.kind.Kind.TheVariants.{Bool as Boolean}
use Rattle.slot_trees.specs.declared.expression.Operands as code_operands
use Rattle.slot_trees.specs.declared.expression.Place as code_place
use Rattle.slot_trees.specs.declared.expression.SlotExpr as code_expr
use Rattle.st_types.specs.declared.kind.Kind.TheVariants.{Bool as Boolean}
use Rattle.std.proofs.Common.{◌+◌, length}
use Rattle.std.specs.Prelude.{option_map}
use Rattle.slot_trees.specs.Chains.{arms_of}
use Rattle.slot_trees.specs.StatementViews.{slot_arm_view, slot_stmt_view, slot_stmts_view}
use Rattle.slot_trees.specs.ExpressionViews.{anchor_view}
use Rattle.slot_trees.specs.declared.statement.SlotStmt as code_stmt
use Rattle.slot_trees.specs.declared.statement.SlotArm as code_arm
use Rattle.slot_trees.proofs.Bridge.{choose_view}
use Rattle.slot_trees.specs.SlotTrees.{call, constant, empty, EXIT, FOR, IF, REPEAT, RETURN, WHILE}
use Rattle.st_compile.proofs.Elements.{body_smaller, condition_smaller, expr_smaller, stmt_smaller}
use Rattle.st_compile.proofs.Sizes.{stmt_size, stmts_size}
use Rattle.quick_trees.specs.Points.{Refines, Point, next}
use Rattle.quick_checks.specs.Checking.{exits_of, kinds_read, landing_of, seat_of, words_read}
use Rattle.quick_checks.proofs.Arguments.{arguments_all, arguments_more, function_stands, long_seats, long_words}
use Rattle.std.proofs.Common.{suc}
use Rattle.slot_trees.specs.LibraryViews.{slot_function_view, slot_library_view}
use Rattle.st_compile.specs.Emitting.{filled}
use Rattle.st_compile.proofs.Depths.{function_lighter}
use Rattle.st_compile.proofs.Filled.{filled_function}
use Rattle.quick_checks.proofs.TreeCodeLemmas.{on_ok_by, passes_same}
use Rattle.quick_checks.proofs.TreeCodeLemmas.{arms_next, arms_over, meets_same, stmts_next, stmts_on, stmts_over, ticked}
use Rattle.std.specs.Prelude.{Some, slice_get}
use Rattle.std.proofs.Common.{ℕ}
use Rattle.quick_trees.specs.Points.{AreNoted, LoopsBack, Joins, along, past_branch}
use Rattle.quick_trees.specs.TreeCode.{AreStmtsCode}
use Rattle.slot_trees.specs.declared.statement.SlotCaseArm as code_case_arm
use Rattle.slot_trees.specs.Chains.{case_arms_of}
use Rattle.slot_trees.specs.StatementViews.{slot_case_arm_view}
use Rattle.slot_trees.proofs.Bridge.{select_view}
use Rattle.slot_trees.specs.SlotTrees.{CASE}
use Rattle.st_compile.proofs.Elements.{case_smaller}
use Rattle.quick_code.specs.declared.quick_code.Way.{Way}
use Rattle.quick_trees.specs.Pieces.{InSequence}
use Rattle.quick_checks.specs.Choices.{body_at}
use Rattle.quick_checks.proofs.Below.{one_more}
use Rattle.quick_trees.specs.Functions.{IsMovedWithin}
use Rattle.quick_checks.proofs.Evaluated.{read_evaluated}
use Rattle.quick_checks.proofs.ChosenArms.{body_is, case_stands}
use Rattle.std.proofs.Common.{List, []}
use Rattle.symbols.specs.Standard.{block_view}
use Rattle.slot_trees.specs.SlotTrees.{SlotArgument, invoke, own_block, standard_block}
use Rattle.slot_trees.specs.StatementViews.{block_code_view, slot_argument_view}
use Rattle.st_compile.proofs.Depths.{block_lighter}
use Rattle.st_compile.proofs.Elements.{argument_smaller}
use Rattle.st_compile.proofs.Filled.{filled_body}
use Rattle.st_compile.proofs.Sizes.{argument_size, arguments_size, stmt_size}
use Rattle.quick_trees.specs.Pieces.{Input}
use Rattle.quick_trees.specs.TreeCode.{InputsRead}
use Rattle.quick_checks.specs.declared.members.Taken.{Taken}
use Rattle.quick_checks.specs.Checking.{inputs_taken}
use Rattle.quick_checks.proofs.Instances.{all_inputs, argument_next, arguments_over, block_stands}
use Rattle.quick_checks.proofs.Instances.{copied_read, given_read}
use Rattle.slot_trees.specs.SlotTrees.{assign, unary}
use Rattle.quick_checks.specs.Within.{access_instr}
use Rattle.quick_checks.proofs.Unaries.{unary_read}
use Rattle.quick_checks.proofs.AlongSubscripts.{led_first, led_last, led_more, place_seen, subscripts_larger}
use Rattle.quick_checks.proofs.Sums.{sum_read}
use Rattle.quick_checks.proofs.Chosen.{choice_stands, if_chosen, if_stands}
use Rattle.st_compile.proofs.Sizes.{arms_size}
use Rattle.std.proofs.Common.{pos}
use Rattle.quick_checks.proofs.AlongSubscripts.{within_made, within_read, within_stands, within_stored}
use Rattle.quick_checks.proofs.+check.Goals as goal

pub reading::check_binary-returns-in-Some : goal.reading::check_binary-returns-in-Some
reading::check_binary-returns-in-Some t c = λ now whole kept. inr (inr (inl (record {
  left = c.in_ok-left.left.word;
  word = c.in-Some.field-0;
  last = _;
  reads = c.in_ok-left.ensures now whole kept;
  number = c.in-Some.ensures.number;
  stands = c.in-Some.ensures.stands now;
  next = c.in_ok-step.ensures;
})))

pub reading::check_binary-returns-then-is_instr : goal.reading::check_binary-returns-then-is_instr
reading::check_binary-returns-then-is_instr t c =
    let kinds : c.in_ok-right.right.kind ≡ c.in_ok-left.left.kind = c.if-not-is_kind.ensures (search rules) in
    λ now whole kept. inl (record {
      left = c.in_ok-left.left.word;
      right = c.in_ok-right.right.word;
      last = _;
      reads = record {
        middle = _;
        first = c.in_ok-left.ensures now whole kept;
        second = rw (← kinds, ← c.in_ok-below.ensures) (c.in_ok-right.ensures now whole kept);
      };
      stands = subst (λ o. IsInstr (frame_of c.args.draft.now now) o c.check_read-2.new.at.place) c.instr_for.ensures
          (c.if-is_instr.ensures (search rules) now);
      next = c.in_ok-step-3.ensures;
    })

pub reading::check_binary-returns-in-Some-constant_as_lint : goal.reading::check_binary-returns-in-Some-constant_as_lint
reading::check_binary-returns-in-Some-constant_as_lint t c = λ now whole kept. inr (inr (inr (inr (record {
  left = c.in_ok-left.left.word;
  word = c.in-Some-constant_as_lint.field-0;
  last = _;
  reads = c.in_ok-left.ensures now whole kept;
  number = c.in-Some-constant_as_lint.ensures.number;
  there = c.in-Some-constant_as_lint.ensures.there;
  stands = c.in-Some-constant_as_lint.ensures.stands now;
  moves = subst (λ (p : Point). IsMovedWithin (frame_of c.args.draft.now now) c.in_ok-left.left.kind c.args.depth
      c.args.to p.place) c.in_ok-step-2.ensures (c.in_ok-expect_within.ensures.moves now);
  is = c.in_ok-expect_within.ensures.next ∙ ap next c.in_ok-step-2.ensures;
}))))

pub reading::check_binary-returns-then-is_instr-2 : goal.reading::check_binary-returns-then-is_instr-2
reading::check_binary-returns-then-is_instr-2 t c =
    let kinds : c.in_ok-right.right.kind ≡ c.in_ok-left.left.kind = c.if-not-is_kind.ensures (search rules) in
    λ now whole kept. inr (inl (record {
      truth = refl;
      kind = c.in_ok-left.left.kind;
      left = c.in_ok-left.left.word;
      right = c.in_ok-right.right.word;
      last = _;
      reads = record {
        middle = _;
        first = c.in_ok-left.ensures now whole kept;
        second = rw (← kinds, ← c.in_ok-below.ensures) (c.in_ok-right.ensures now whole kept);
      };
      stands = subst (λ o. IsInstr (frame_of c.args.draft.now now) o c.check_read-2.new.at.place) c.comparison_instr.ensures
          (c.if-is_instr-2.ensures (search rules) now);
      next = c.in_ok-step-4.ensures;
    }))

pub reading::check_binary-returns : goal.reading::check_binary-returns
reading::check_binary-returns t c =
    let kinds : c.in_ok-right.right.kind ≡ c.in_ok-left.left.kind = c.if-not-is_kind.ensures (search rules) in
    λ now whole kept. inr (inr (inr (inl (record {
      left = c.in_ok-left.left.word;
      right = c.in_ok-right.right.word;
      last = _;
      reads = record {
        middle = _;
        first = c.in_ok-left.ensures now whole kept;
        second = rw (← kinds, ← c.in_ok-below.ensures) (c.in_ok-right.ensures now whole kept);
      };
      there = c.in_ok-expect_kept.ensures.there;
      stands = subst (λ o. IsInstr (frame_of c.args.draft.now now) o c.check_read-2.new.at.place) c.instr_for-sum.ensures
          (c.in_ok-expect_kept.ensures.stands now);
      moves = c.in_ok-expect_kept.ensures.moves now;
      is = c.in_ok-expect_kept.ensures.next;
    }))))

pub subscripts::check_subscript-returns-in-Some : goal.subscripts::check_subscript-returns-in-Some
subscripts::check_subscript-returns-in-Some t c =
    let kind : c.in_ok-read.read.kind ≡ c.in-Some.sum.kind = c.if-not-is_kind.ensures (search rules) in
    λ now whole kept. record {
      kind = c.in-Some.sum.kind;
      narrow = c.in-Some.ensures.narrow;
      added = c.in-Some.sum.added;
      reads = inr (sum_read (frame_of c.args.draft.now now) (site_of c.args.scope.now.values)
          (quick_units (frame_of c.args.draft.now now) whole c.args.scope.now.calls)
          (slot_expr_view c.args.subscript.now.index) (slot_expr_view c.in-Some.sum.rest.now) c.in-Some.sum.kind
          c.in-Some.sum.added c.args.depth c.in_ok-read.read.word _ _ c.in-Some.ensures.sum
          (rw (← kind) (c.in_ok-read.ensures now whole kept)));
      fits = inr c.in-Some.ensures.fits;
      from_lower = search rules;
    }

pub reading::check_fetched-returns : goal.reading::check_fetched-returns
reading::check_fetched-returns t c = λ now whole kept. record {
  index = c.in_ok-index.index.word;
  shift = c.in_ok-index.index.shift;
  last = _;
  subscript = c.in_ok-index.ensures now whole kept;
  word = c.in_ok-elements.elements.word;
  elements = c.in_ok-elements.ensures now;
  loads = c.in_ok-expect_load.ensures.loads now;
  next = c.in_ok-expect_load.ensures.next;
}

pub reading::check_read-check_fetched-requires : goal.reading::check_read-check_fetched-requires
reading::check_read-check_fetched-requires t c =
    let seen : slot_expr_view c.args.expression.now ≡ load (place_view c.in-Load.place) =
    rw c.in-Load.is (search (rules, code_expr.the_lemmas)) in
    let e = ap expr_size (seen ∙ ap load c.in-Some-element_of.ensures) in (omega (arith, e), tt)

pub reading::check_converted-check_read-requires : goal.reading::check_converted-check_read-requires
reading::check_converted-check_read-requires t c =
    let p = ap exprs_size c.in-Some.ensures in (omega (arith, p), tt)

pub reading::check_read-check_converted-requires : goal.reading::check_read-check_converted-requires
reading::check_read-check_converted-requires t c =
    let es = c.in-Compute.arguments.items in
    let seen : slot_expr_view c.args.expression.now
    ≡ compute (standard_view c.in-Compute.function) (exprs_of (map slot_expr_view es)) =
    rw c.in-Compute.is (search (rules, code_expr.the_lemmas)) in
    let e = ap expr_size seen in
    let d = ap (λ xs. exprs_size (exprs_of (map slot_expr_view xs))) c.deref-then-is_widening.ensures.value in
    (omega (arith, e, d), tt)

pub reading::check_read-returns-in_ok-kind-in-Load : goal.reading::check_read-returns-in_ok-kind-in-Load
reading::check_read-returns-in_ok-kind-in-Load t c =
    let seen : slot_expr_view c.args.expression.now ≡ load (place_view c.in-Load.place) =
    rw c.in-Load.is (search (rules, code_expr.the_lemmas)) in
    let is = seen ∙ ap load c.in-Some-element_of.ensures in
    λ now whole kept. rw is (c.in_ok-temporary-in-Load.ensures now, c.in_ok-kind-in-Load.ensures now whole kept)

pub reading::check_read-returns-in_ok-kind-in-Binary : goal.reading::check_read-returns-in_ok-kind-in-Binary
reading::check_read-returns-in_ok-kind-in-Binary t c =
    let seen : slot_expr_view c.args.expression.now ≡ binary c.in-Binary.operator
    (slot_expr_view c.in-Binary.operands.value.left) (slot_expr_view c.in-Binary.operands.value.right) =
    rw c.in-Binary.is (search (rules, code_expr.the_lemmas)) in
    let is = seen ∙ ap (λ (b : code_operands.Operands). binary c.in-Binary.operator (slot_expr_view b.left)
    (slot_expr_view b.right)) (sym c.deref-in-Binary.ensures) in
    λ now whole kept. rw is (c.in_ok-temporary-in-Binary.ensures now, c.in_ok-kind-in-Binary.ensures now whole kept)

pub signs::check_unary-returns-in_ok-expect_negated-in-Negate :
    goal.signs::check_unary-returns-in_ok-expect_negated-in-Negate
signs::check_unary-returns-in_ok-expect_negated-in-Negate t c = λ now whole kept. rw c.in-Negate.is (record {
  from = c.in_ok-from.from.word;
  last = _;
  reads = c.in_ok-from.ensures now whole kept;
  nought = c.in_ok-expect_negated-in-Negate.field-0;
  is_nought = c.in_ok-expect_negated-in-Negate.ensures.nought now;
  stands = c.in_ok-expect_negated-in-Negate.ensures.stands now;
  next = c.in_ok-expect_negated-in-Negate.ensures.next;
})

pub signs::check_unary-returns-in_ok-expect_turned-in-Not :
    goal.signs::check_unary-returns-in_ok-expect_turned-in-Not
signs::check_unary-returns-in_ok-expect_turned-in-Not t c = λ now whole kept. rw c.in-Not.is (record {
  from = c.in_ok-from.from.word;
  last = _;
  reads = c.in_ok-from.ensures now whole kept;
  turns = c.in_ok-expect_turned-in-Not.ensures.turns now;
  next = c.in_ok-expect_turned-in-Not.ensures.next;
})

pub reading::check_read-returns-in_ok-kind-in-Unary : goal.reading::check_read-returns-in_ok-kind-in-Unary
reading::check_read-returns-in_ok-kind-in-Unary t c =
    let seen : slot_expr_view c.args.expression.now
    ≡ unary c.in-Unary.operator (slot_expr_view c.in-Unary.operand.value) =
    rw c.in-Unary.is (search (rules, code_expr.the_lemmas)) in
    let is = seen ∙ ap (λ (x : code_expr.SlotExpr). unary c.in-Unary.operator (slot_expr_view x))
    (sym c.deref-in-Unary.ensures) in
    λ now whole kept. rw is (unary_read (frame_of c.args.draft.now now) (site_of c.args.scope.now.values)
    (quick_units (frame_of c.args.draft.now now) whole c.args.scope.now.calls)
    c.in-Unary.operator (slot_expr_view c.deref-in-Unary.result.now) c.in_ok-kind-in-Unary.kind c.args.depth _ _
    (c.in_ok-temporary-in-Unary.ensures now) (c.in_ok-kind-in-Unary.ensures now whole kept))

pub reading::check_read-check_read_within-requires : goal.reading::check_read-check_read_within-requires
reading::check_read-check_read_within-requires t c =
    let seen : slot_expr_view c.args.expression.now ≡ load (place_view c.in-Load.place) =
    rw c.in-Load.is (search (rules, code_expr.the_lemmas)) in
    let e = ap expr_size (seen ∙ ap load (place_seen c.in-Load.place)) in (omega (arith, e), tt)

pub reading::check_made-check_made_within-requires : goal.reading::check_made-check_made_within-requires
reading::check_made-check_made_within-requires t c =
    let seen : slot_expr_view c.args.expression.now ≡ load (place_view c.in-Load.place) =
    rw c.in-Load.is (search (rules, code_expr.the_lemmas)) in
    let e = ap expr_size (seen ∙ ap load (place_seen c.in-Load.place)) in (omega (arith, e), tt)

pub within::check_led-check_subscript-requires : goal.within::check_led-check_subscript-requires
within::check_led-check_subscript-requires t c =
    let e = subscripts_larger c.args.subscripts.now c.in-Some.subscript.now c.in-Some.rest.now
    c.in-Some.ensures.cases.0 in (omega (arith, e), tt)

pub within::check_led-check_led_on-requires : goal.within::check_led-check_led_on-requires
within::check_led-check_led_on-requires t c =
    let e = subscripts_larger c.args.subscripts.now c.in-Some.subscript.now c.in-Some.rest.now
    c.in-Some.ensures.cases.0 in (omega (arith, e), tt)

pub within::check_led-returns : goal.within::check_led-returns
within::check_led-returns t c = λ now whole kept. led_first (frame_of c.args.draft.now now)
    (site_of c.args.scope.now.values) (quick_units (frame_of c.args.draft.now now) whole c.args.scope.now.calls)
    c.args.subscripts.now c.in-Some.subscript.now c.in-Some.rest.now c.args.depth c.in_ok-index.index.word
    c.in_ok-index.index.shift (access_instr c.args.access c.args.depth c.args.word) _ _ _ _
    c.in-Some.ensures.cases.0 (c.in_ok-temporary.ensures now).there (c.in_ok-index.ensures now whole kept)
    c.in_ok-expect_located.ensures.stands c.in_ok-expect_located.ensures.next
    (c.in_ok-check_led_on.ensures now whole kept)

pub within::check_led_on-check_subscript-requires : goal.within::check_led_on-check_subscript-requires
within::check_led_on-check_subscript-requires t c =
    let e = subscripts_larger c.args.subscripts.now c.in-Some.subscript.now c.in-Some.rest.now
    c.in-Some.ensures.cases.0 in (omega (arith, e), tt)

pub within::check_led_on-check_led_on-requires : goal.within::check_led_on-check_led_on-requires
within::check_led_on-check_led_on-requires t c =
    let e = subscripts_larger c.args.subscripts.now c.in-Some.subscript.now c.in-Some.rest.now
    c.in-Some.ensures.cases.0 in (omega (arith, e), tt)

pub within::check_led_on-returns-then-is_empty : goal.within::check_led_on-returns-then-is_empty
within::check_led_on-returns-then-is_empty t c =
    let none : length c.in-Some.rest.now ≡ 0 = search rules in
    λ now whole kept. led_last (frame_of c.args.draft.now now)
    (site_of c.args.scope.now.values) (quick_units (frame_of c.args.draft.now now) whole c.args.scope.now.calls)
    c.args.subscripts.now c.in-Some.subscript.now c.in-Some.rest.now c.args.depth c.in_ok-below.below
    c.in_ok-index.index.word c.in_ok-index.index.shift (access_instr c.args.access c.args.depth c.args.word) _ _ _
    c.in-Some.ensures.cases.0 none c.in_ok-below.ensures (c.in_ok-index.ensures now whole kept)
    c.in_ok-expect_access.ensures.stands c.in_ok-expect_access.ensures.next

pub within::check_led_on-returns : goal.within::check_led_on-returns
within::check_led_on-returns t c =
    let some : length c.in-Some.rest.now ≡ 0 → ⊥ = search rules in
    λ now whole kept. led_more (frame_of c.args.draft.now now)
    (site_of c.args.scope.now.values) (quick_units (frame_of c.args.draft.now now) whole c.args.scope.now.calls)
    c.args.subscripts.now c.in-Some.subscript.now c.in-Some.rest.now c.args.depth c.in_ok-below.below
    c.in_ok-index.index.word c.in_ok-index.index.shift
    (access_instr c.args.access c.args.depth c.args.word) _ _ _ _ c.in-Some.ensures.cases.0 some
    c.in_ok-below.ensures (c.in_ok-index.ensures now whole kept)
    c.in_ok-expect_located_nested.ensures.stands c.in_ok-expect_located_nested.ensures.next
    (c.in_ok-check_led_on.ensures now whole kept)

pub within::check_read_within-returns : goal.within::check_read_within-returns
within::check_read_within-returns t c =
    let p = code_place.out-Place c.args.place.now in
    let all : c.as_slice-subscripts.result.now ≡ p.subscripts.items = c.as_slice-subscripts.ensures.value in
    let two : 2 ≤ length p.subscripts.items = omega (arith, ap length all) in
    λ now whole kept. rw (place_seen c.args.place.now) (within_read (frame_of c.args.draft.now now)
    (site_of c.args.scope.now.values) (quick_units (frame_of c.args.draft.now now) whole c.args.scope.now.calls)
    (anchor_view p.anchor) p.subscripts.items c.in_ok-kind.kind c.args.depth _ _ two
    (c.in_ok-temporary.ensures now) (rw all at (c.in_ok-kind.ensures now whole kept)))

pub within::check_made_within-returns : goal.within::check_made_within-returns
within::check_made_within-returns t c =
    let p = code_place.out-Place c.args.place.now in
    let all : c.as_slice-subscripts.result.now ≡ p.subscripts.items = c.as_slice-subscripts.ensures.value in
    let two : 2 ≤ length p.subscripts.items = omega (arith, ap length all) in
    λ now whole kept. rw (place_seen c.args.place.now) (within_made (frame_of c.args.draft.now now)
    (site_of c.args.scope.now.values) (quick_units (frame_of c.args.draft.now now) whole c.args.scope.now.calls)
    (anchor_view p.anchor) p.subscripts.items c.in_ok-kind.kind c.args.depth c.args.to
    _ _ two (rw all at (c.in_ok-kind.ensures now whole kept)))

pub within::check_stored_within-returns : goal.within::check_stored_within-returns
within::check_stored_within-returns t c =
    let p = code_place.out-Place c.args.place.now in
    let all : c.as_slice-subscripts.result.now ≡ p.subscripts.items = c.as_slice-subscripts.ensures.value in
    let two : 2 ≤ length p.subscripts.items = omega (arith, ap length all) in
    let kind : c.in_ok-kind.kind ≡ c.in_ok-from.from.kind = c.if-not-is_kind.ensures (search rules) in
    λ now whole kept. rw (place_seen c.args.place.now) (within_stored (frame_of c.args.draft.now now)
    (site_of c.args.scope.now.values) (quick_units (frame_of c.args.draft.now now) whole c.args.scope.now.calls)
    (anchor_view p.anchor) p.subscripts.items (slot_expr_view c.args.value.now)
    c.in_ok-from.from.kind c.args.depth c.in_ok-below.below c.in_ok-from.from.word _ _ _ two c.in_ok-below.ensures
    (c.in_ok-from.ensures now whole kept) (rw (all, kind) at (c.in_ok-kind.ensures now whole kept)))

pub statements::check_stmt-check_stored_within-requires : goal.statements::check_stmt-check_stored_within-requires
statements::check_stmt-check_stored_within-requires t c =
    let seen : slot_stmt_view c.args.statement.now
    ≡ assign (place_view c.in-Assign.place) (slot_expr_view c.in-Assign.value) =
    rw c.in-Assign.is (search (rules, code_stmt.the_lemmas)) in
    let e = ap stmt_size (seen ∙ ap (λ x. assign x (slot_expr_view c.in-Assign.value))
    (place_seen c.in-Assign.place)) in (omega (arith, e), tt)

pub statements::check_stmt-returns-in_default-element_of : goal.statements::check_stmt-returns-in_default-element_of
statements::check_stmt-returns-in_default-element_of t c =
    let seen : slot_stmt_view c.args.statement.now
    ≡ assign (place_view c.in-Assign.place) (slot_expr_view c.in-Assign.value) =
    rw c.in-Assign.is (search (rules, code_stmt.the_lemmas)) in
    on_ok_by c.check_stored_within.result (λ _ e now whole kept. rw seen (within_stands (frame_of c.args.draft.now now) (site_of c.args.scope.now.values)
    (quick_units (frame_of c.args.draft.now now) whole c.args.scope.now.calls)
    (place_view c.in-Assign.place) (slot_expr_view c.in-Assign.value) c.args.depth (exits_of c.args.exits.now)
    (point_of c.args.at.now) (point_of c.tick.new.at) (point_of c.check_stored_within.new.at)
    c.in_ok-tick.ensures.ticks c.in_ok-tick.ensures.rest ((rw e at c.check_stored_within.ensures) now whole kept)))

pub reading::check_converted-returns : goal.reading::check_converted-returns
reading::check_converted-returns t c =
    let is = ap (λ g. compute (standard_view g) (exprs_of (map slot_expr_view c.args.arguments.now))) c.in-Convert.is
    ∙ ap (compute (CONVERT c.in-Convert.from c.in-Convert.to)) c.in-Some.ensures in
    let kind : c.in_ok-read.read.kind ≡ c.in-Convert.from = c.if-not-is_kind.ensures (search rules) in
    λ now whole kept. subst (λ x. IsRead (frame_of c.args.draft.now now) (site_of c.args.scope.now.values)
    (quick_units (frame_of c.args.draft.now now) whole c.args.scope.now.calls) x c.in-Convert.to c.args.depth
    c.in_ok-read.read.word (point_of c.args.at.now) (point_of c.check_read.new.at)) (sym is)
    (inl (refl, c.if-not-is_wider.ensures (search rules), rw (← kind) (c.in_ok-read.ensures now whole kept)))

pub reading::check_read-returns-then-is_widening : goal.reading::check_read-returns-then-is_widening
reading::check_read-returns-then-is_widening t c =
    let es = c.in-Compute.arguments.items in
    let seen : slot_expr_view c.args.expression.now
    ≡ compute (standard_view c.in-Compute.function) (exprs_of (map slot_expr_view es)) =
    rw c.in-Compute.is (search (rules, code_expr.the_lemmas)) in
    let is = seen ∙ ap (λ xs. compute (standard_view c.in-Compute.function) (exprs_of (map slot_expr_view xs)))
    (sym c.deref-then-is_widening.ensures.value) in
    rw is c.check_converted.ensures

pub reading::check_read-returns-in_ok-kind-in-Compute : goal.reading::check_read-returns-in_ok-kind-in-Compute
reading::check_read-returns-in_ok-kind-in-Compute t c =
    let es = c.in-Compute.arguments.items in
    let seen : slot_expr_view c.args.expression.now
    ≡ compute (standard_view c.in-Compute.function) (exprs_of (map slot_expr_view es)) =
    rw c.in-Compute.is (search (rules, code_expr.the_lemmas)) in
    let is = seen ∙ ap (λ xs. compute (standard_view c.in-Compute.function) (exprs_of (map slot_expr_view xs)))
    (sym c.deref-in-Compute.ensures.value) in
    λ now whole kept. rw is (read_evaluated (frame_of c.args.draft.now now) (site_of c.args.scope.now.values)
    (quick_units (frame_of c.args.draft.now now) whole c.args.scope.now.calls) (standard_view c.in-Compute.function) _
    c.in_ok-kind-in-Compute.kind c.args.depth c.args.depth (point_of c.args.at.now) _
    (c.in_ok-temporary-in-Compute.ensures now) (c.in_ok-kind-in-Compute.ensures now whole kept))

pub reading::check_made-returns-in-Some : goal.reading::check_made-returns-in-Some
reading::check_made-returns-in-Some t c =
    let seen : slot_expr_view c.args.expression.now ≡ load (place_view c.in-Load.place) =
    rw c.in-Load.is (search (rules, code_expr.the_lemmas)) in
    let is = seen ∙ ap load c.in-Some.ensures in
    λ now whole kept. rw is (record {
      from = c.in_ok-read-in-Load.read.word;
      last = _;
      reads = record {
        of_type = c.in_ok-read-in-Load.ensures.of_type now;
        has = c.in_ok-read-in-Load.ensures.has;
        is = c.in_ok-read-in-Load.ensures.same;
        touches = c.in_ok-read-in-Load.ensures.touches;
      };
      stands = c.in_ok-expect-in-Load.ensures.stands;
      next = c.in_ok-expect-in-Load.ensures.next;
    })

pub reading::check_made-returns-in-Some-element_of : goal.reading::check_made-returns-in-Some-element_of
reading::check_made-returns-in-Some-element_of t c =
    let seen : slot_expr_view c.args.expression.now ≡ load (place_view c.in-Load.place) =
    rw c.in-Load.is (search (rules, code_expr.the_lemmas)) in
    let is = seen ∙ ap load c.in-Some-element_of.ensures in
    rw is c.check_fetched.ensures

pub reading::check_made-returns-in_ok-expect-in-Compute : goal.reading::check_made-returns-in_ok-expect-in-Compute
reading::check_made-returns-in_ok-expect-in-Compute t c =
    let es = c.in-Compute.arguments.items in
    let seen : slot_expr_view c.args.expression.now
    ≡ compute (standard_view c.in-Compute.function) (exprs_of (map slot_expr_view es)) =
    rw c.in-Compute.is (search (rules, code_expr.the_lemmas)) in
    let is = seen ∙ ap (λ xs. compute (standard_view c.in-Compute.function) (exprs_of (map slot_expr_view xs)))
    (sym c.deref-in-Compute.ensures.value) in
    λ now whole kept. rw is (inl (record {
      from = c.in_ok-read-in-Compute.read.word;
      last = _;
      reads = c.in_ok-read-in-Compute.ensures now whole kept;
      stands = c.in_ok-expect-in-Compute.ensures.stands;
      next = c.in_ok-expect-in-Compute.ensures.next;
    }))

pub reading::check_made-returns-then-not-is_widening : goal.reading::check_made-returns-then-not-is_widening
reading::check_made-returns-then-not-is_widening t c =
    let es = c.in-Compute.arguments.items in
    let seen : slot_expr_view c.args.expression.now
    ≡ compute (standard_view c.in-Compute.function) (exprs_of (map slot_expr_view es)) =
    rw c.in-Compute.is (search (rules, code_expr.the_lemmas)) in
    let is = seen ∙ ap (λ xs. compute (standard_view c.in-Compute.function) (exprs_of (map slot_expr_view xs)))
    (sym c.deref-then-not-is_widening.ensures.value) in
    λ now whole kept. rw is (inr (c.in_ok-kind-in-Compute.ensures now whole kept))

pub reading::check_made-returns-in-Binary : goal.reading::check_made-returns-in-Binary
reading::check_made-returns-in-Binary t c =
    let seen : slot_expr_view c.args.expression.now ≡ binary c.in-Binary.operator
    (slot_expr_view c.in-Binary.operands.value.left) (slot_expr_view c.in-Binary.operands.value.right) =
    rw c.in-Binary.is (search (rules, code_expr.the_lemmas)) in
    let is = seen ∙ ap (λ (b : code_operands.Operands). binary c.in-Binary.operator (slot_expr_view b.left)
    (slot_expr_view b.right)) (sym c.deref.ensures) in
    rw is c.check_binary.ensures

pub conditions::check_bool-returns : goal.conditions::check_bool-returns
conditions::check_bool-returns t c =
    let kind : c.in_ok-read.read.kind ≡ Boolean = c.if-not-is_kind.ensures (search rules) in
    λ now whole kept. record {
      from = c.in_ok-read.read.word;
      reads = rw (← kind) (c.in_ok-read.ensures now whole kept);
      stands = c.in_ok-leg.ensures;
    }

pub conditions::check_compared-returns-then-not-is_comparison : goal.conditions::check_compared-returns-then-not-is_comparison
conditions::check_compared-returns-then-not-is_comparison t c =
    let kind : c.in_ok-kind.kind ≡ Boolean = c.if-not-is_kind.ensures (search rules) in
    λ now whole kept. inr (inr (record {
      from = c.args.depth;
      reads = (c.in_ok-temporary.ensures now, rw (← kind) (c.in_ok-kind.ensures now whole kept));
      stands = c.in_ok-leg.ensures;
    }))

pub conditions::check_compared-returns-in-Some : goal.conditions::check_compared-returns-in-Some
conditions::check_compared-returns-in-Some t c = λ now whole kept. inr (inl (record {
  kind = c.in_ok-left.left.kind;
  left = c.in_ok-left.left.word;
  word = c.in-Some.compared.constant;
  reads = c.in_ok-left.ensures now whole kept;
  number = c.in-Some.ensures.number;
  stands = c.in-Some.ensures.stands now;
}))

pub conditions::check_compared-returns : goal.conditions::check_compared-returns
conditions::check_compared-returns t c =
    let kinds : c.in_ok-right.right.kind ≡ c.in_ok-left.left.kind = c.if-not-is_kind-2.ensures (search rules) in
    λ now whole kept. inl (record {
      kind = c.in_ok-left.left.kind;
      left = c.in_ok-left.left.word;
      right = c.in_ok-right.right.word;
      reads = record {
        middle = _;
        first = c.in_ok-left.ensures now whole kept;
        second = rw (← kinds, ← c.in_ok-below.ensures) (c.in_ok-right.ensures now whole kept);
      };
      stands = c.in_ok-leg-2.ensures now;
    })

pub conditions::check_test-returns-in_ok-leg-in-Load : goal.conditions::check_test-returns-in_ok-leg-in-Load
conditions::check_test-returns-in_ok-leg-in-Load t c =
    let seen : slot_expr_view c.args.condition.now ≡ load (place_view c.in-Load.field-0) =
    rw c.in-Load.is (search (rules, code_expr.the_lemmas)) in
    λ now whole kept. rw seen (rw seen at (c.in_ok-leg-in-Load.ensures now whole kept))

pub conditions::check_test-returns-in_ok-leg-in-Call : goal.conditions::check_test-returns-in_ok-leg-in-Call
conditions::check_test-returns-in_ok-leg-in-Call t c =
    let seen : slot_expr_view c.args.condition.now
    ≡ call c.in-Call.field-0 (exprs_of (map slot_expr_view c.in-Call.field-1.items)) =
    rw c.in-Call.is (search (rules, code_expr.the_lemmas)) in
    λ now whole kept. rw seen (rw seen at (c.in_ok-leg-in-Call.ensures now whole kept))

pub reading::check_read-returns-in_ok-kind-in-Call : goal.reading::check_read-returns-in_ok-kind-in-Call
reading::check_read-returns-in_ok-kind-in-Call t c =
    let seen : slot_expr_view c.args.expression.now
    ≡ call c.in-Call.function (exprs_of (map slot_expr_view c.in-Call.arguments.items)) =
    rw c.in-Call.is (search (rules, code_expr.the_lemmas)) in
    let is = seen ∙ ap (λ xs. call c.in-Call.function (exprs_of (map slot_expr_view xs)))
    (sym c.deref-in-Call.ensures.value) in
    λ now whole kept. rw is (c.in_ok-temporary-in-Call.ensures now, c.in_ok-kind-in-Call.ensures now whole kept)

pub statements::check_assigned-returns : goal.statements::check_assigned-returns
statements::check_assigned-returns t c =
    let kind : c.in_ok-kind.kind ≡ c.in_ok-target.target.kind = c.if-not-is_kind.ensures (search rules) in
    λ now whole kept. record {
      kind = c.in_ok-target.target.kind;
      target = c.in_ok-target.ensures.of_type now;
      word = c.in_ok-target.target.word;
      own = c.in_ok-target.ensures.own;
      made = _;
      makes = rw (← kind) (c.in_ok-kind.ensures now whole kept);
      is = c.in_ok-assign.ensures.same;
      touches = c.in_ok-assign.ensures.touches;
    }

pub statements::check_stored-returns : goal.statements::check_stored-returns
statements::check_stored-returns t c =
    let kind : c.in_ok-elements.elements.kind ≡ c.in_ok-from.from.kind = c.if-not-is_kind.ensures (search rules) in
    λ now whole kept. record {
      kind = c.in_ok-from.from.kind;
      from = c.in_ok-from.from.word;
      middle = _;
      value = c.in_ok-from.ensures now whole kept;
      at = c.in_ok-index.index.word;
      shift = c.in_ok-index.index.shift;
      last = _;
      subscript = rw (← c.in_ok-below.ensures) (c.in_ok-index.ensures now whole kept);
      word = c.in_ok-elements.elements.word;
      elements = rw (← kind) (c.in_ok-elements.ensures now);
      stores = c.in_ok-expect_store.ensures.stores now;
      is = c.in_ok-expect_store.ensures.next;
    }

pub statements::check_stmts-check_stmt-requires : goal.statements::check_stmts-check_stmt-requires
statements::check_stmts-check_stmt-requires t c = (
  omega (
    arith,
    stmt_smaller c.args.statements.now c.loop-index.index c.index-statements-index.result
        c.loop-index-test.true c.index-statements-index.is,
  ),
  tt,
)

pub statements::check_stmts-loop-index-preserved : goal.statements::check_stmts-loop-index-preserved
statements::check_stmts-loop-index-preserved t c = λ now whole kept q rest.
    c.loop-index.invariant now whole kept q (stmts_next (frame_of c.args.draft.now now) (site_of c.args.scope.now.values)
    (quick_units (frame_of c.args.draft.now now) whole c.args.scope.now.calls) c.args.statements.now c.loop-index.index
    (c.loop-index.index + 1) c.index-statements-index.result c.args.depth (exits_of c.args.exits.now) _ _ _ q
    c.loop-index-test.true refl c.index-statements-index.is (c.in_ok-read_notes_before.ensures now)
    (c.in_ok-check_stmt.ensures now whole kept) rest)

pub statements::check_stmts-returns : goal.statements::check_stmts-returns
statements::check_stmts-returns t c = λ now whole kept.
    c.loop-index.invariant now whole kept (point_of c.loop-index.at) (stmts_over (frame_of c.args.draft.now now)
    (site_of c.args.scope.now.values) (quick_units (frame_of c.args.draft.now now) whole c.args.scope.now.calls)
    c.args.statements.now c.loop-index.index c.args.depth (exits_of c.args.exits.now) (point_of c.loop-index.at)
    c.loop-index-test.false)

pub statements::check_if-check_test-requires : goal.statements::check_if-check_test-requires
statements::check_if-check_test-requires t c =
    let e = ap (λ (y : code_arm.SlotArm). expr_size (slot_expr_view y.condition)) c.index-arms-index.is in (
      omega (
        arith,
        e,
        condition_smaller c.args.arms.now c.loop-index.index c.index-arms-index.result
            c.loop-index-test.true c.index-arms-index.is,
      ),
      tt,
    )

pub statements::check_if-check_stmts-requires : goal.statements::check_if-check_stmts-requires
statements::check_if-check_stmts-requires t c =
    let d = ap (λ xs. stmts_size (slot_stmts_view xs)) c.deref.ensures.value in
    let e = ap (λ (y : code_arm.SlotArm). stmts_size (slot_stmts_view y.body.items)) c.index-arms-index.is in (
      omega (
        arith,
        d,
        e,
        body_smaller c.args.arms.now c.loop-index.index c.index-arms-index.result
            c.loop-index-test.true c.index-arms-index.is,
      ),
      tt,
    )

pub statements::check_if-loop-index-preserved : goal.statements::check_if-loop-index-preserved
statements::check_if-loop-index-preserved t c =
    let go = c.go.ensures ∙ c.in_ok-rest.ensures in
    λ now whole kept rest. c.loop-index.invariant now whole kept (arms_next (frame_of c.args.draft.now now)
    (site_of c.args.scope.now.values) (quick_units (frame_of c.args.draft.now now) whole c.args.scope.now.calls)
    c.args.arms.now c.loop-index.index (c.loop-index.index + 1) c.index-arms-index.result _ c.args.depth
    (exits_of c.args.exits.now) _ _ (point_of c.check_test.new.at) (point_of c.check_stmts.new.at) _
    c.in_ok-leg.leg.way c.in_ok-leg.leg.past c.loop-index-test.true refl c.index-arms-index.is
    (c.in_ok-read_notes.ensures now) (c.in_ok-leg.ensures now whole kept)
    (rw (c.deref.ensures.value, c.in_ok-pass.ensures) at (c.in_ok-check_stmts.ensures now whole kept))
    (c.if-not-joins.ensures (search rules) now) (rw go at rest))

pub statements::check_if-returns : goal.statements::check_if-returns
statements::check_if-returns t c =
    λ now whole kept. rw c.go-2.ensures (c.loop-index.invariant now whole kept (arms_over
    (frame_of c.args.draft.now now) (site_of c.args.scope.now.values)
    (quick_units (frame_of c.args.draft.now now) whole c.args.scope.now.calls) c.args.arms.now c.loop-index.index _
    c.args.depth (exits_of c.args.exits.now) _ _ c.loop-index-test.false (stmts_on (frame_of c.args.draft.now now)
    (site_of c.args.scope.now.values) (quick_units (frame_of c.args.draft.now now) whole c.args.scope.now.calls)
    (slot_stmts_view c.args.otherwise.now) c.args.depth (exits_of c.args.exits.now) _ _ _
    (c.in_ok-check_stmts-2.ensures now whole kept) (c.if-not-is_at.ensures (search rules)))))

pub statements::check_loop_body-returns : goal.statements::check_loop_body-returns
statements::check_loop_body-returns t c = rw c.in_ok-inner.ensures at c.check_stmts.ensures

pub statements::check_while-returns : goal.statements::check_while-returns
statements::check_while-returns t c =
    let q = c.go.ensures in
    λ now whole kept. record {
      test = point_of c.check_test.new.at;
      way = c.in_ok-first.first.way;
      past = c.in_ok-first.first.past;
      tested = rw c.landing.ensures at (c.in_ok-first.ensures now whole kept);
      over = rw q (c.if-not-leads.ensures (search rules));
      noted = point_of c.read_notes.new.at;
      notes = rw c.in_ok-pass.ensures at (c.in_ok-read_notes.ensures now);
      head = point_of c.read_notes.new.at;
      begins = meets_same _;
      end = point_of c.check_loop_body.new.at;
      body = rw q (c.in_ok-check_loop_body.ensures now whole kept);
      turn = _;
      tick = c.in_ok-tick.ensures.ticks;
      foot = point_of c.check_test-2.new.at;
      back = c.in_ok-again.again.way;
      after = c.in_ok-again.again.past;
      asked = rw c.in_ok-tick.ensures.rest at (c.in_ok-again.ensures now whole kept);
      again = rw c.in_ok-head.ensures at (c.if-not-leads-2.ensures (search rules));
      behind = rw q (c.if-not-passes.ensures (search rules));
    }

pub statements::check_repeat-returns : goal.statements::check_repeat-returns
statements::check_repeat-returns t c =
    let q = c.go.ensures in
    λ now whole kept. record {
      noted = point_of c.read_notes.new.at;
      notes = rw c.landing.ensures at (c.in_ok-read_notes.ensures now);
      head = point_of c.read_notes.new.at;
      begins = meets_same _;
      end = point_of c.check_loop_body.new.at;
      body = rw q (c.in_ok-check_loop_body.ensures now whole kept);
      foot = point_of c.check_test.new.at;
      back = c.in_ok-again.again.way;
      after = c.in_ok-again.again.past;
      asked = c.in_ok-again.ensures now whole kept;
      again = rw c.in_ok-head.ensures at (c.if-not-loops_back.ensures (search rules));
      behind = rw q (c.if-not-passes.ensures (search rules));
    }

pub counting::check_for-returns : goal.counting::check_for-returns
counting::check_for-returns t c =
    let q = c.go.ensures in
    let from : c.in_ok-from.from.kind ≡ c.in_ok-target.target.kind = c.if-not-is_kind.ensures (search rules) in
    let kept : c.in_ok-kept.kept.kind ≡ c.in_ok-target.target.kind = c.if-not-is_kind-2.ensures (search rules) in
    let begun = c.in_ok-first.ensures.same in
    λ now whole is. record {
      kind = c.in_ok-target.target.kind;
      target = c.in_ok-target.ensures.of_type now;
      control = c.in_ok-target.target.word;
      own = c.in_ok-target.ensures.own;
      from = c.in_ok-from.from.word;
      to = c.in_ok-kept.kept.word;
      middle = point_of c.check_read.new.at;
      bounded = point_of c.check_kept.new.at;
      move = point_of c.check_pace.new.at;
      first = rw (c.landing.ensures, from) at (c.in_ok-from.ensures now whole is);
      second = rw (c.in_ok-below.ensures, kept) at (c.in_ok-kept.ensures now whole is);
      pace = c.in_ok-pace.pace;
      third = rw (c.in_ok-free.ensures, c.in_ok-below.ensures) at (c.in_ok-pace.ensures now whole is);
      assigned = c.in_ok-expect.ensures.stands;
      test = point_of c.assign.new.at;
      assigns = c.in_ok-assign.ensures.same
          ∙ ap (λ (x : Point). record x { noted = c.assign.new.at.noted.items }) c.in_ok-expect.ensures.next;
      touches = rw (ap (λ (x : Point). x.noted) c.in_ok-expect.ensures.next) at c.in_ok-assign.ensures.touches;
      way = c.in_ok-first.first.way;
      past = c.in_ok-first.first.past;
      asked = c.expect_begun.new.at.place;
      tested = rw c.in_ok-within.ensures at (c.in_ok-first.ensures.begins now);
      over = rw q (subst (λ (x : Point). Refines (along x c.in_ok-first.first.way)
          (landing_of c.in_ok-behind.behind)) begun
          (c.if-not-leads.ensures (search rules)));
      noted = point_of c.read_notes.new.at;
      notes = subst (λ (x : Point). AreNoted (frame_of c.args.draft.now now) (past_branch x c.in_ok-first.first.past)
          (point_of c.read_notes.new.at)) begun
          (rw c.in_ok-pass.ensures at (c.in_ok-read_notes.ensures now));
      head = point_of c.read_notes.new.at;
      begins = meets_same _;
      end = point_of c.check_loop_body.new.at;
      body = rw (q, ← c.in_ok-within.ensures) (c.in_ok-check_loop_body.ensures now whole is);
      known = c.if-not-is_assigned.ensures (search rules);
      back = c.in_ok-again.again.way;
      after = c.in_ok-again.again.past;
      foot = c.expect_turned.new.at.place;
      counts = rw c.in_ok-within.ensures at (c.in_ok-again.ensures.counts now);
      again = subst (λ (x : Point). LoopsBack (along x c.in_ok-again.again.way) (point_of c.read_notes.new.at))
          c.in_ok-again.ensures.same (rw c.in_ok-head.ensures at (c.if-not-loops_back.ensures (search rules)));
      behind = rw q (passes_same _ _ _ c.in_ok-again.again.past c.in_ok-again.ensures.same
          (c.if-not-passes_back.ensures (search rules)));
    }

pub counting::check_kept-returns-then-is_same : goal.counting::check_kept-returns-then-is_same
counting::check_kept-returns-then-is_same t c = λ now whole kept. record {
  kept = inr (
    c.in_ok-temporary.ensures now,
    record {
      from = c.in_ok-read.read.word;
      last = _;
      reads = c.in_ok-read.ensures now whole kept;
      stands = c.in_ok-expect.ensures.stands;
      next = c.in_ok-expect.ensures.next;
    },
  );
  stays = c.if-not-stays.ensures (search rules) now;
}

pub counting::check_step-returns : goal.counting::check_step-returns
counting::check_step-returns t c =
    let kind : c.in_ok-kept.kept.kind ≡ c.args.kind = c.if-not-is_kind.ensures (search rules) in
    let second = c.in_ok-expect.ensures.next in
    let third = c.in_ok-expect-2.ensures.next ∙ ap next second in
    λ now whole is. record {
      narrow = sym c.is_wide.ensures ∙ c.if-is_wide.false;
      last = point_of c.check_kept.new.at;
      keeps = rw kind at (c.in_ok-kept.ensures now whole is);
      temporary = subst (IsTemporary (frame_of c.args.draft.now now) c.in_ok-below.below) c.in_ok-below.ensures
          (c.in_ok-temporary.ensures now);
      not_0 = c.in_ok-expect.ensures.stands;
      nought = rw (ap (λ (p : Point). p.place) second) at c.in_ok-expect-2.ensures.stands;
      tested = rw (ap (λ (p : Point). p.place) third) at c.in_ok-expect-3.ensures.stands;
      is = c.in_ok-expect-3.ensures.next ∙ ap next third;
    }

pub statements::check_stmt-returns-in-Empty : goal.statements::check_stmt-returns-in-Empty
statements::check_stmt-returns-in-Empty t c =
    let seen : slot_stmt_view c.args.statement.now ≡ empty = rw c.in-Empty.is (search (rules, code_stmt.the_lemmas)) in
    λ now whole kept. rw seen (ticked Refines (point_of c.args.at.now) (point_of c.tick.new.at) (point_of c.tick.new.at)
    c.in_ok-tick.ensures.ticks c.in_ok-tick.ensures.rest (meets_same _))

pub statements::check_stmt-returns-after-choice_of : goal.statements::check_stmt-returns-after-choice_of
statements::check_stmt-returns-after-choice_of t c =
    let seen : slot_stmt_view c.args.statement.now
    ≡ IF (arms_of (map slot_arm_view c.in-If.arms.items)) (slot_stmts_view c.in-If.otherwise.items) =
    rw c.in-If.is (choose_view c.in-If.arms c.in-If.otherwise) in
    let is = seen ∙ ap (λ xs. IF (arms_of (map slot_arm_view xs)) (slot_stmts_view c.in-If.otherwise.items))
    (sym c.deref-in-If-2.ensures.value)
    ∙ ap (λ xs. IF (arms_of (map slot_arm_view c.deref-in-If-2.result.now)) (slot_stmts_view xs))
    (sym c.deref-in-If-3.ensures.value) in
    on_ok_by c.check_if.result (λ _ e now whole kept. rw is (if_stands (frame_of c.args.draft.now now) (site_of c.args.scope.now.values)
    (quick_units (frame_of c.args.draft.now now) whole c.args.scope.now.calls) _ _ c.args.depth
    (exits_of c.args.exits.now) (point_of c.args.at.now) (point_of c.tick.new.at) (point_of c.check_if.new.at)
    c.in_ok-tick.ensures.ticks c.in_ok-tick.ensures.rest ((rw e at c.check_if.ensures) now whole kept)))

pub statements::check_stmt-check_choice-requires : goal.statements::check_stmt-check_choice-requires
statements::check_stmt-check_choice-requires t c =
    let seen : slot_stmt_view c.args.statement.now
    ≡ IF (arms_of (map slot_arm_view c.in-If.arms.items)) (slot_stmts_view c.in-If.otherwise.items) =
    rw c.in-If.is (choose_view c.in-If.arms c.in-If.otherwise) in
    let is = seen ∙ ap (λ xs. IF (arms_of (map slot_arm_view xs)) (slot_stmts_view c.in-If.otherwise.items))
    (sym c.deref.ensures.value)
    ∙ ap (λ xs. IF (arms_of (map slot_arm_view c.deref.result.now)) (slot_stmts_view xs))
    (sym c.deref-in-If.ensures.value) in
    let e = ap stmt_size is in
    let a = ap arms_size c.in-Some-choice_of.ensures.if_it_holds in
    let o = ap stmts_size c.in-Some-choice_of.ensures.otherwise_so in
    (omega (arith, e, a, o), tt)

pub statements::check_stmt-returns-then-is_choice_next : goal.statements::check_stmt-returns-then-is_choice_next
statements::check_stmt-returns-then-is_choice_next t c =
    let seen : slot_stmt_view c.args.statement.now
    ≡ IF (arms_of (map slot_arm_view c.in-If.arms.items)) (slot_stmts_view c.in-If.otherwise.items) =
    rw c.in-If.is (choose_view c.in-If.arms c.in-If.otherwise) in
    let is = seen ∙ ap (λ xs. IF (arms_of (map slot_arm_view xs)) (slot_stmts_view c.in-If.otherwise.items))
    (sym c.deref.ensures.value)
    ∙ ap (λ xs. IF (arms_of (map slot_arm_view c.deref.result.now)) (slot_stmts_view xs))
    (sym c.deref-in-If.ensures.value) in
    on_ok_by c.check_choice.result (λ _ e now whole kept. rw is (if_chosen (frame_of c.args.draft.now now) (site_of c.args.scope.now.values)
    (quick_units (frame_of c.args.draft.now now) whole c.args.scope.now.calls) _ _ c.args.depth
    (exits_of c.args.exits.now) (point_of c.args.at.now) (point_of c.tick.new.at) (point_of c.check_choice.new.at)
    c.in_ok-tick.ensures.ticks c.in_ok-tick.ensures.rest _ _ c.in-Some-choice_of.ensures.if_it_holds
    c.in-Some-choice_of.ensures.otherwise_so ((rw e at c.check_choice.ensures) now whole kept)))

pub statements::check_stmt-returns-in-For : goal.statements::check_stmt-returns-in-For
statements::check_stmt-returns-in-For t c =
    let seen : slot_stmt_view c.args.statement.now
    ≡ FOR (anchor_view c.in-For.control) (slot_expr_view c.in-For.start) (slot_expr_view c.in-For.limit)
    (option_map slot_expr_view c.in-For.step) (slot_stmts_view c.in-For.body.items) =
    rw c.in-For.is (search (rules, code_stmt.the_lemmas)) in
    let is = seen ∙ ap (λ xs. FOR (anchor_view c.in-For.control) (slot_expr_view c.in-For.start)
    (slot_expr_view c.in-For.limit) (option_map slot_expr_view c.in-For.step) (slot_stmts_view xs))
    (sym c.deref-in-For.ensures.value) in
    on_ok_by c.check_for.result (λ _ e now whole kept. rw is (ticked _ (point_of c.args.at.now) (point_of c.tick.new.at) (point_of c.check_for.new.at)
    c.in_ok-tick.ensures.ticks c.in_ok-tick.ensures.rest ((rw e at c.check_for.ensures) now whole kept)))

pub statements::check_stmt-returns-in-Exit : goal.statements::check_stmt-returns-in-Exit
statements::check_stmt-returns-in-Exit t c =
    let seen : slot_stmt_view c.args.statement.now ≡ EXIT = rw c.in-Exit.is (search (rules, code_stmt.the_lemmas)) in
    on_ok_by c.leave.result (λ _ e now whole kept. rw seen (ticked _ (point_of c.args.at.now) (point_of c.tick.new.at)
    (point_of c.leave.new.at) c.in_ok-tick.ensures.ticks c.in_ok-tick.ensures.rest ((rw e at c.leave.ensures) now)))

pub statements::check_stmt-returns-in-Return : goal.statements::check_stmt-returns-in-Return
statements::check_stmt-returns-in-Return t c =
    let seen : slot_stmt_view c.args.statement.now ≡ RETURN = rw c.in-Return.is (search (rules, code_stmt.the_lemmas)) in
    on_ok_by c.leave-in-Return.result (λ _ e now whole kept. rw seen (ticked _ (point_of c.args.at.now)
    (point_of c.tick.new.at) (point_of c.leave-in-Return.new.at) c.in_ok-tick.ensures.ticks c.in_ok-tick.ensures.rest
    ((rw e at c.leave-in-Return.ensures) now)))

pub statements::check_stmt-returns-in-Some : goal.statements::check_stmt-returns-in-Some
statements::check_stmt-returns-in-Some t c =
    let seen : slot_stmt_view c.args.statement.now
    ≡ assign (place_view c.in-Assign.place) (slot_expr_view c.in-Assign.value) =
    rw c.in-Assign.is (search (rules, code_stmt.the_lemmas)) in
    let is = seen ∙ ap (λ x. assign x (slot_expr_view c.in-Assign.value)) c.in-Some.ensures in
    on_ok_by c.check_assigned.result (λ _ e now whole kept. rw is (ticked _ (point_of c.args.at.now)
    (point_of c.tick.new.at) (point_of c.check_assigned.new.at) c.in_ok-tick.ensures.ticks c.in_ok-tick.ensures.rest
    ((rw e at c.check_assigned.ensures) now whole kept)))

pub statements::check_stmt-returns-in-Some-element_of : goal.statements::check_stmt-returns-in-Some-element_of
statements::check_stmt-returns-in-Some-element_of t c =
    let seen : slot_stmt_view c.args.statement.now
    ≡ assign (place_view c.in-Assign.place) (slot_expr_view c.in-Assign.value) =
    rw c.in-Assign.is (search (rules, code_stmt.the_lemmas)) in
    let is = seen ∙ ap (λ x. assign x (slot_expr_view c.in-Assign.value)) c.in-Some-element_of.ensures in
    on_ok_by c.check_stored.result (λ _ e now whole kept. rw is (ticked _ (point_of c.args.at.now)
    (point_of c.tick.new.at) (point_of c.check_stored.new.at) c.in_ok-tick.ensures.ticks c.in_ok-tick.ensures.rest
    ((rw e at c.check_stored.ensures) now whole kept)))

pub statements::check_stmt-returns-in-While : goal.statements::check_stmt-returns-in-While
statements::check_stmt-returns-in-While t c =
    let seen : slot_stmt_view c.args.statement.now
    ≡ WHILE (slot_expr_view c.in-While.condition) (slot_stmts_view c.in-While.body.items) =
    rw c.in-While.is (search (rules, code_stmt.the_lemmas)) in
    let is = seen ∙ ap (λ xs. WHILE (slot_expr_view c.in-While.condition) (slot_stmts_view xs))
    (sym c.deref-in-While.ensures.value) in
    on_ok_by c.check_while.result (λ _ e now whole kept. rw is (ticked _ (point_of c.args.at.now) (point_of c.tick.new.at) (point_of c.check_while.new.at)
    c.in_ok-tick.ensures.ticks c.in_ok-tick.ensures.rest ((rw e at c.check_while.ensures) now whole kept)))

pub statements::check_stmt-returns-in-Repeat : goal.statements::check_stmt-returns-in-Repeat
statements::check_stmt-returns-in-Repeat t c =
    let seen : slot_stmt_view c.args.statement.now
    ≡ REPEAT (slot_stmts_view c.in-Repeat.body.items) (slot_expr_view c.in-Repeat.condition) =
    rw c.in-Repeat.is (search (rules, code_stmt.the_lemmas)) in
    let is = seen ∙ ap (λ xs. REPEAT (slot_stmts_view xs) (slot_expr_view c.in-Repeat.condition))
    (sym c.deref-in-Repeat.ensures.value) in
    on_ok_by c.check_repeat.result (λ _ e now whole kept. rw is (ticked _ (point_of c.args.at.now) (point_of c.tick.new.at) (point_of c.check_repeat.new.at)
    c.in_ok-tick.ensures.ticks c.in_ok-tick.ensures.rest ((rw e at c.check_repeat.ensures) now whole kept)))

pub calls::check_arguments-check_read-requires : goal.calls::check_arguments-check_read-requires
calls::check_arguments-check_read-requires t c = (
  omega (
    arith,
    expr_smaller c.args.arguments.now c.loop-index.index c.index-arguments-index.result
        c.loop-index-test.true c.index-arguments-index.is,
  ),
  tt,
)

pub calls::check_arguments-loop-index-preserved : goal.calls::check_arguments-loop-index-preserved
calls::check_arguments-loop-index-preserved t c = λ now whole kept.
    arguments_more (frame_of c.args.draft.now now) (site_of c.args.scope.now.values)
    (quick_units (frame_of c.args.draft.now now) whole c.args.scope.now.calls) c.args.arguments.now c.loop-index.index
    c.index-arguments-index.result c.loop-index.below c.in_ok-below.below c.args.depth c.loop-index.read.items
    c.push.new.self.items c.in_ok-argument.argument _ _ _ c.loop-index-test.true c.index-arguments-index.is
    (c.in_ok-argument.ensures now whole kept) c.in_ok-below.ensures c.in_ok-push.ensures.items
    (c.loop-index.invariant now whole kept)

pub calls::check_arguments-returns : goal.calls::check_arguments-returns
calls::check_arguments-returns t c = λ now whole kept.
    arguments_all (frame_of c.args.draft.now now) (site_of c.args.scope.now.values)
    (quick_units (frame_of c.args.draft.now now) whole c.args.scope.now.calls) c.args.arguments.now c.loop-index.index
    c.loop-index.below c.args.depth c.loop-index.read.items _ _ c.loop-index-test.false
    (c.loop-index.invariant now whole kept)

pub functions::check_evaluated-returns : goal.functions::check_evaluated-returns
functions::check_evaluated-returns t c =
    let many = long_words c.in_ok-read.read.items in
    let long = ap length c.deref.ensures.value in
    let below : c.in_ok-narrow.field-0 ≡ c.args.depth + length (words_read c.in_ok-read.read.items) =
    omega (arith, many, long, c.in_ok-narrow.ensures, c.in-Some.ensures, c.len.ensures, c.deref.ensures.len) in
    λ now whole kept. record {
      kinds = kinds_read c.in_ok-read.read.items;
      words = words_read c.in_ok-read.read.items;
      given = point_of c.check_arguments.new.at;
      arguments = c.in_ok-read.ensures now whole kept;
      computes = rw (c.deref.ensures.value, below) at (c.in_ok-kind.ensures now);
    }

pub calls::check_call-returns : goal.calls::check_call-returns
calls::check_call-returns t c =
    let many = long_words c.in_ok-read.read.items in
    let long = ap length c.deref.ensures.value in
    let below : c.in_ok-narrow.field-0 ≡ c.args.depth + length (words_read c.in_ok-read.read.items) =
    omega (arith, many, long, c.in_ok-narrow.ensures, c.in-Some.ensures, c.len.ensures, c.deref.ensures.len) in
    λ now whole kept. record {
      kinds = kinds_read c.in_ok-read.read.items;
      words = words_read c.in_ok-read.read.items;
      given = point_of c.check_arguments.new.at;
      arguments = c.in_ok-read.ensures now whole kept;
      calls = rw (c.deref.ensures.value, below) at (c.in_ok-kind.ensures now whole kept);
    }

pub calls::check_function-check_stmts-requires : goal.calls::check_function-check_stmts-requires
calls::check_function-check_stmts-requires t c =
    let g = slot_function_view c.in-Ok.function.now in
    let d = ap (λ xs. stmts_size (slot_stmts_view xs)) c.deref.ensures.value in
    let fewer : suc c.in-Some.calls ≡ c.args.scope.now.calls = omega (arith, c.in-Some.ensures) in (
      omega (
        arith,
        d,
        function_lighter (filled (slot_library_view c.args.library.now)) c.args.scope.now.calls
            c.in-Some.calls c.args.number g fewer
            (filled_function (slot_library_view c.args.library.now) c.args.number g c.in-Ok.ensures.known),
      ),
      tt,
    )

pub calls::check_function-returns : goal.calls::check_function-returns
calls::check_function-returns t c =
    let g = slot_function_view c.in-Ok.function.now in
    let fewer : suc c.in-Some.calls ≡ c.args.scope.now.calls = omega (arith, c.in-Some.ensures) in
    let result = c.in_ok-result.ensures in
    λ now whole kept. function_stands (frame_of c.args.draft.now now) whole c.args.scope.now.calls c.in-Some.calls
    c.args.number g _ _ _ _ _ _ _ fewer (kept.functions c.args.number g c.in-Ok.ensures.known) (record {
      inputs = c.if-not-are_inputs.ensures (search rules);
      room = c.in_ok-below.ensures.room;
      seats = map seat_of c.in_ok-seats.seats.items;
      all = long_seats c.in_ok-seats.seats.items ∙ c.in_ok-seats.ensures.all;
      begun = point_of c.begin.new.at;
      begins = c.in_ok-seats.ensures.begun now;
      end = point_of c.check_stmts.new.at;
      last = landing_of c.in_ok-last.last;
      body = rw (
        c.in_ok-kinds.ensures,
        c.deref.ensures.value,
        c.in_ok-below.ensures.below,
        c.in_ok-exits.ensures,
        c.landing.ensures,
      ) at (c.in_ok-check_stmts.ensures now whole kept);
      joins = c.if-not-joins.ensures (search rules) now;
      result = result.0;
      seat = result.1.0;
      of_type = rw c.in_ok-kinds.ensures at (c.in_ok-kind.ensures now);
      moved = rw (← ap (λ (x : Point). x.place) c.go.ensures, ← result.1.1) c.in_ok-expect.ensures.stands;
      is = c.in_ok-expect.ensures.next ∙ ap next c.go.ensures;
    })

pub blocks::check_inputs-check_argument-requires : goal.blocks::check_inputs-check_argument-requires
blocks::check_inputs-check_argument-requires t c = (
  omega (
    arith,
    argument_smaller c.args.arguments.now c.loop-index.index c.index-arguments-index.result
        c.loop-index-test.true c.index-arguments-index.is,
  ),
  tt,
)

pub blocks::check_inputs-loop-index-preserved : goal.blocks::check_inputs-loop-index-preserved
blocks::check_inputs-loop-index-preserved t c =
    let same = argument_next c.args.arguments.now c.loop-index.index (c.loop-index.index + 1)
    c.index-arguments-index.result c.loop-index-test.true refl c.index-arguments-index.is in
    λ now whole kept js q rest.
    (let h = c.in_ok-below.ensures now whole kept _ js q rest in
    subst (λ (is : List Input). InputsRead (frame_of c.args.draft.now now) (site_of c.args.scope.now.values)
    (quick_units (frame_of c.args.draft.now now) whole c.args.scope.now.calls)
    (map slot_argument_view c.args.arguments.now) c.args.depth is (point_of c.args.at.now) q) (sym h.1.0) (c.loop-index.invariant now whole kept h.0 q
    (subst (λ (xs : List SlotArgument). InputsRead (frame_of c.args.draft.now now) (site_of c.args.scope.now.values)
    (quick_units (frame_of c.args.draft.now now) whole c.args.scope.now.calls) xs c.loop-index.below h.0
    (point_of c.loop-index.at) q) (sym same) h.1.1)))

pub blocks::check_inputs-returns : goal.blocks::check_inputs-returns
blocks::check_inputs-returns t c =
    let over = arguments_over c.args.arguments.now c.loop-index.index c.loop-index-test.false in
    λ now whole kept. rw (all_inputs (inputs_taken c.loop-index.inputs.items)) at
    (c.loop-index.invariant now whole kept [] (point_of c.loop-index.at) (subst (λ (xs : List SlotArgument). InputsRead
    (frame_of c.args.draft.now now) (site_of c.args.scope.now.values)
    (quick_units (frame_of c.args.draft.now now) whole c.args.scope.now.calls) xs c.loop-index.below []
    (point_of c.loop-index.at) (point_of c.loop-index.at)) (sym over) refl))

pub blocks::check_argument-check_input-requires : goal.blocks::check_argument-check_input-requires
blocks::check_argument-check_input-requires t c =
    let e = ap (λ x. argument_size (slot_argument_view x)) c.in-Given.is in (omega (arith, e), tt)

pub blocks::check_argument-returns-in_ok-below-in-Given : goal.blocks::check_argument-returns-in_ok-below-in-Given
blocks::check_argument-returns-in_ok-below-in-Given t c =
    let taken : Taken = record {
      member = c.in-Given.member;
      kind = c.in_ok-read-in-Given.read.kind;
      word = c.in_ok-read-in-Given.read.word;
    } in
    λ now whole kept rest js q more. given_read (frame_of c.args.draft.now now) (site_of c.args.scope.now.values)
    (quick_units (frame_of c.args.draft.now now) whole c.args.scope.now.calls) _ c.in-Given.member
    (slot_expr_view c.in-Given.value) c.args.depth c.in_ok-below-in-Given.below c.args.inputs.now.items
    c.put_taken.new.inputs.items taken rest js (point_of c.args.at.now) (point_of c.check_input.new.at) q
    (ap slot_argument_view c.in-Given.is) refl c.in_ok-put_taken-in-Given.ensures c.in_ok-below-in-Given.ensures
    (c.in_ok-read-in-Given.ensures now whole kept) more

pub blocks::check_argument-returns-in-Copied : goal.blocks::check_argument-returns-in-Copied
blocks::check_argument-returns-in-Copied t c =
    λ now whole kept rest js q more. copied_read (frame_of c.args.draft.now now) (site_of c.args.scope.now.values)
    (quick_units (frame_of c.args.draft.now now) whole c.args.scope.now.calls) _ c.in-Copied.field-0
    (place_view c.in-Copied.field-1) c.args.depth c.args.inputs.now.items rest js (point_of c.args.at.now) q
    (ap slot_argument_view c.in-Copied.is) more

pub blocks::check_input-returns-then-not-is_same : goal.blocks::check_input-returns-then-not-is_same
blocks::check_input-returns-then-not-is_same t c = λ now whole kept. inl (c.in_ok-read.ensures now whole kept)

pub blocks::check_input-returns : goal.blocks::check_input-returns
blocks::check_input-returns t c = λ now whole kept. inr (
  c.in_ok-temporary.ensures now,
  record {
    from = c.in_ok-read.read.word;
    last = _;
    reads = c.in_ok-read.ensures now whole kept;
    stands = c.in_ok-expect.ensures.stands;
    next = c.in_ok-expect.ensures.next;
  },
)

pub blocks::check_block-returns-in-Own : goal.blocks::check_block-returns-in-Own
blocks::check_block-returns-in-Own t c = rw c.in-Own.is c.check_own.ensures

pub blocks::check_block-returns-in_ok-check_step-in-Standard :
    goal.blocks::check_block-returns-in_ok-check_step-in-Standard
blocks::check_block-returns-in_ok-check_step-in-Standard t c =
    let fewer : suc c.in-Some.calls ≡ c.args.scope.now.calls = omega (arith, c.in-Some.ensures) in
    λ now whole kept. rw c.in-Standard.is (block_stands (frame_of c.args.draft.now now) whole c.args.scope.now.calls
    c.in-Some.calls (standard_block (block_view c.in-Standard.standard)) c.args.first c.args.depth _ _ fewer
    (c.in_ok-check_step-in-Standard.ensures now))

pub blocks::check_own-check_stmts-requires : goal.blocks::check_own-check_stmts-requires
blocks::check_own-check_stmts-requires t c =
    let fewer : suc c.in-Some.calls ≡ c.args.scope.now.calls = omega (arith, c.in-Some.ensures) in (
      omega (
        arith,
        block_lighter (filled (slot_library_view c.args.library.now)) c.args.scope.now.calls c.in-Some.calls
            c.args.number (slot_stmts_view c.in-Ok.body.now) fewer
            (filled_body (slot_library_view c.args.library.now) c.args.number (slot_stmts_view c.in-Ok.body.now)
            c.in-Ok.ensures.known),
      ),
      tt,
    )

pub blocks::check_own-returns : goal.blocks::check_own-returns
blocks::check_own-returns t c =
    let fewer : suc c.in-Some.calls ≡ c.args.scope.now.calls = omega (arith, c.in-Some.ensures) in
    λ now whole kept. block_stands (frame_of c.args.draft.now now) whole c.args.scope.now.calls c.in-Some.calls
    (own_block c.args.number) c.args.first c.args.depth _ _ fewer (
      slot_stmts_view c.in-Ok.body.now,
      (
        kept.blocks c.args.number (slot_stmts_view c.in-Ok.body.now) c.in-Ok.ensures.known,
        record {
          end = point_of c.check_stmts.new.at;
          stands = rw c.go.ensures (rw (c.in_ok-exits.ensures, c.landing.ensures) at
              (c.in_ok-check_stmts.ensures now whole kept));
          joins = rw c.go.ensures (c.if-not-joins.ensures (search rules) now);
        },
      ),
    )

pub blocks::check_invoked-returns : goal.blocks::check_invoked-returns
blocks::check_invoked-returns t c =
    let first = c.in_ok-first.ensures in
    λ now whole kept. record {
      of_program = c.in_ok-of_program.ensures;
      inputs = inputs_taken c.in_ok-inputs.inputs.items;
      read = point_of c.check_inputs.new.at;
      reads = c.in_ok-inputs.ensures now whole kept;
      begun = point_of c.check_given.new.at;
      gives = rw (c.deref.ensures.value, first) at
          (c.in_ok-check_given.ensures now whole c.args.scope.now.calls);
      done = point_of c.check_block.new.at;
      does = rw first at (c.in_ok-check_block.ensures now whole kept);
      copies = rw first at (c.in_ok-check_copied.ensures now whole c.args.scope.now.calls);
    }

pub statements::check_stmt-check_invoked-requires : goal.statements::check_stmt-check_invoked-requires
statements::check_stmt-check_invoked-requires t c =
    let seen : slot_stmt_view c.args.statement.now
    ≡ invoke (anchor_view c.in-Invoke.instance) (block_code_view c.in-Invoke.block)
    (map slot_argument_view c.in-Invoke.arguments.items) =
    rw c.in-Invoke.is (search (rules, code_stmt.the_lemmas)) in
    let e = ap stmt_size seen in
    let d = ap (λ xs. arguments_size (map slot_argument_view xs)) c.deref-in-Invoke.ensures.value in
    (omega (arith, e, d), tt)

pub statements::check_stmt-returns-in-Invoke : goal.statements::check_stmt-returns-in-Invoke
statements::check_stmt-returns-in-Invoke t c =
    let seen : slot_stmt_view c.args.statement.now
    ≡ invoke (anchor_view c.in-Invoke.instance) (block_code_view c.in-Invoke.block)
    (map slot_argument_view c.in-Invoke.arguments.items) =
    rw c.in-Invoke.is (search (rules, code_stmt.the_lemmas)) in
    let is = seen ∙ ap (λ xs. invoke (anchor_view c.in-Invoke.instance) (block_code_view c.in-Invoke.block)
    (map slot_argument_view xs)) (sym c.deref-in-Invoke.ensures.value) in
    on_ok_by c.check_invoked.result (λ _ e now whole kept. rw is (ticked _ (point_of c.args.at.now) (point_of c.tick.new.at)
    (point_of c.check_invoked.new.at) c.in_ok-tick.ensures.ticks c.in_ok-tick.ensures.rest ((rw e at c.check_invoked.ensures) now whole kept)))

pub conditions::check_test-returns-in_ok-leg-in-Constant : goal.conditions::check_test-returns-in_ok-leg-in-Constant
conditions::check_test-returns-in_ok-leg-in-Constant t c =
    let seen : slot_expr_view c.args.condition.now ≡ constant c.in-Constant.field-0.value =
    rw c.in-Constant.is (search (rules, code_expr.the_lemmas)) in
    λ now whole kept. rw seen (rw seen at (c.in_ok-leg-in-Constant.ensures now whole kept))

pub cases::check_case_arms-check_arm-requires : goal.cases::check_case_arms-check_arm-requires
cases::check_case_arms-check_arm-requires t c =
    let d = ap (λ xs. stmts_size (slot_stmts_view xs)) c.deref.ensures.value in
    let e = ap (λ (y : code_case_arm.SlotCaseArm). stmts_size (slot_stmts_view y.body.items)) c.index-arms-index.is in (
      omega (
        arith,
        d,
        e,
        case_smaller c.args.arms.now c.loop-index.index c.index-arms-index.result
            c.loop-index-test.true c.index-arms-index.is,
      ),
      tt,
    )

pub cases::check_case_arms-loop-index-preserved : goal.cases::check_case_arms-loop-index-preserved
cases::check_case_arms-loop-index-preserved t c =
    let body = ap slot_stmts_view c.deref.ensures.value ∙ body_is c.args.arms.now c.loop-index.index
    c.index-arms-index.result c.loop-index-test.true c.index-arms-index.is in
    λ now whole kept. one_more (λ k. (j : ℕ) (w : Way) → slice_get c.args.choices.now j ≡ Some k
    → slice_get c.args.draft.now.code.ways.items (c.args.table.now.first + j) ≡ Some w
    → InSequence (AreStmtsCode (frame_of c.args.draft.now now) (site_of c.args.scope.now.values)
    (quick_units (frame_of c.args.draft.now now) whole c.args.scope.now.calls)
    (body_at k (map slot_case_arm_view c.args.arms.now)) c.args.depth (exits_of c.args.exits.now))
    (Joins (frame_of c.args.draft.now now)) (along (landing_of c.args.start.now) w) (landing_of c.args.behind.now))
    c.loop-index.index (c.loop-index.invariant now whole kept)
    (rw body at (c.in_ok-check_arm.ensures now whole kept))

pub cases::check_arm-returns : goal.cases::check_arm-returns
cases::check_arm-returns t c =
    let all = rw c.in-Some.is at c.in_ok-way.ensures.all in
    let entry = c.go.ensures ∙ c.in_ok-entry.ensures in
    λ now whole kept j w choice there. subst (λ v. InSequence (AreStmtsCode (frame_of c.args.draft.now now)
    (site_of c.args.scope.now.values) (quick_units (frame_of c.args.draft.now now) whole c.args.scope.now.calls)
    (slot_stmts_view c.args.body.now) c.args.depth (exits_of c.args.exits.now)) (Joins (frame_of c.args.draft.now now))
    (along (landing_of c.args.start.now) v) (landing_of c.args.behind.now)) (sym (all j w choice there)) (record {
      middle = point_of c.check_stmts.new.at;
      first = rw entry at (c.in_ok-check_stmts.ensures now whole kept);
      second = c.if-not-joins.ensures (search rules) now;
    })

pub cases::check_case-returns : goal.cases::check_case-returns
cases::check_case-returns t c =
    let last : c.in-Some.last ≡ c.in_ok-table.table.first + c.in_ok-table.table.count =
    omega (arith, c.in-Some.ensures) in
    let entry = c.go.ensures ∙ c.in_ok-entry.ensures in
    λ now whole kept. record {
      kind = c.in_ok-read.read.kind;
      narrow = sym c.is_wide.ensures ∙ c.if-is_wide.false;
      selector = c.in_ok-read.read.word;
      last = landing_of c.in_ok-start.start;
      reads = rw c.in_ok-start.ensures (rw c.landing.ensures at (c.in_ok-read.ensures now whole kept));
      shift = c.in_ok-table.table.shift;
      first = c.in_ok-table.table.first;
      count = c.in_ok-table.table.count;
      stands = rw (ap (λ (x : Point). x.place) c.in_ok-start.ensures) c.in_ok-table.ensures;
      chosen = λ n w look. rw c.go-2.ensures (case_stands (frame_of c.args.draft.now now)
          (site_of c.args.scope.now.values) (quick_units (frame_of c.args.draft.now now) whole c.args.scope.now.calls) n
          c.args.arms.now _ c.args.depth (exits_of c.args.exits.now) (landing_of c.in_ok-start.start)
          (landing_of c.in_ok-behind.behind) c.in_ok-table.table.shift c.in_ok-table.table.first
          c.in_ok-table.table.count c.in_ok-choices.choices.items c.in_ok-way.way
          (c.if-not-arms_inside.ensures (search rules)) c.in_ok-choices.ensures.chosen
          (rw c.deref.ensures.value at (c.in_ok-check_case_arms.ensures now whole kept))
          (rw last at c.in_ok-way.ensures)
          (rw c.deref-2.ensures.value at (c.if-not-all_lead.ensures (search rules))) (record {
            middle = point_of c.check_stmts.new.at;
            first = rw entry at (c.in_ok-check_stmts.ensures now whole kept);
            second = c.if-not-joins.ensures (search rules) now;
          }) w look);
    }

pub statements::check_stmt-returns-in-Case : goal.statements::check_stmt-returns-in-Case
statements::check_stmt-returns-in-Case t c =
    let seen : slot_stmt_view c.args.statement.now
    ≡ CASE (slot_expr_view c.in-Case.selector) (case_arms_of (map slot_case_arm_view c.in-Case.arms.items))
    (slot_stmts_view c.in-Case.otherwise.items) =
    rw c.in-Case.is (select_view c.in-Case.selector c.in-Case.arms c.in-Case.otherwise) in
    let is = seen ∙ ap (λ xs. CASE (slot_expr_view c.in-Case.selector) (case_arms_of (map slot_case_arm_view xs))
    (slot_stmts_view c.in-Case.otherwise.items)) (sym c.deref-in-Case.ensures.value)
    ∙ ap (λ xs. CASE (slot_expr_view c.in-Case.selector)
    (case_arms_of (map slot_case_arm_view c.deref-in-Case.result.now)) (slot_stmts_view xs))
    (sym c.deref-in-Case-2.ensures.value) in
    on_ok_by c.check_case.result (λ _ e now whole kept. rw is (ticked _ (point_of c.args.at.now) (point_of c.tick.new.at) (point_of c.check_case.new.at)
    c.in_ok-tick.ensures.ticks c.in_ok-tick.ensures.rest ((rw e at c.check_case.ensures) now whole kept)))

pub choosing::check_asked-returns-in-Some : goal.choosing::check_asked-returns-in-Some
choosing::check_asked-returns-in-Some t c =
    let nought : c.in-Some-number_for.number ≡ pos 0 = search rules in
    λ now whole kept. inl (record {
      left = slot_expr_view c.in-Some.operands.now.left;
      right = slot_expr_view c.in-Some.operands.now.right;
      is = c.in-Some.ensures;
      kind = c.in_ok-left.left.kind;
      reads = c.in_ok-left.ensures now whole kept;
      nought = rw nought at c.in-Some-number_for.ensures;
    })

pub choosing::check_choice-returns : goal.choosing::check_choice-returns
choosing::check_choice-returns t c =
    let many : c.in_ok-middle.middle.ahead ≡ c.check_read-2.new.at.ahead = omega (arith, c.if-middle-at.false) in
    λ now whole kept. choice_stands (frame_of c.args.draft.now now) (site_of c.args.scope.now.values)
    (quick_units (frame_of c.args.draft.now now) whole c.args.scope.now.calls) _ _ _ _ c.in_ok-target.target.kind
    c.in_ok-first.first.kind c.in_ok-second.second.kind c.args.depth c.in_ok-below.below c.in_ok-deep.deep
    c.in_ok-tested.tested c.in_ok-target.target.word c.in_ok-first.first.word c.in_ok-second.second.word
    c.tick.new.at.ahead (point_of c.args.at.now) (point_of c.check_asked.new.at) (point_of c.tick.new.at)
    (landing_of c.in_ok-asked.asked) (point_of c.check_read.new.at) (landing_of c.in_ok-middle.middle)
    (point_of c.go.new.at) (point_of c.check_read-2.new.at) (point_of c.expect.new.at) (point_of c.assign.new.at)
    (c.in_ok-target.ensures.of_type now) c.in_ok-target.ensures.own
    (rw c.landing.ensures at (c.in_ok-tested.ensures now whole kept)) c.in_ok-tick.ensures.ticks
    c.in_ok-tick.ensures.rest c.in_ok-below.ensures c.in_ok-deep.ensures c.in_ok-asked.ensures c.in_ok-middle.ensures
    c.go.ensures (c.if-not-is_kind.ensures (search rules)) (c.in_ok-first.ensures now whole kept)
    (c.if-not-is_straight.ensures (search rules) now) (c.if-not-is_kind-2.ensures (search rules))
    (c.in_ok-second.ensures now whole kept) (c.if-not-is_straight-2.ensures (search rules) now) many
    (rw (c.deref.ensures.value, c.deref-else-middle-at.ensures.value) at (c.if-not-notes_imply.ensures (search rules)))
    c.in_ok-expect.ensures.stands c.in_ok-expect.ensures.next c.in_ok-assign.ensures.same
    c.in_ok-assign.ensures.touches
