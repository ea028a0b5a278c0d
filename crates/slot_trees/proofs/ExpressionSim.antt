-- A linked expression gives for the slots the value that its named one gives for the variables.
use Rattle.std.proofs.Common.{◌≡◌, ℕ, ◌+◌, ◌*◌, ℤ, Bool, true, false, ◌&&◌, ◌||◌, if◌then◌else◌, List, [], ◌∷◌}
use Rattle.std.proofs.Common.{slice_get}
use Rattle.std.proofs.Common.{Option, Some, None, option_map, option_and_then, Result, refl, sym, ap₂, ◌∙◌, subst}
use Rattle.std.proofs.Common.{zero, suc, add_assoc, add-zero, arith}
use Rattle.std.proofs.lemmas.Bool.Decides.{nat_tests}
use Rattle.std.specs.Prelude.{nat_lt}
use Rattle.st_types.specs.declared.fault.Fault.TheVariants.{Index}
use Rattle.st_types.specs.declared.kind.Kind.{Kind}
use Rattle.st_types.specs.declared.path.Step.TheVariants.{Element}
use Rattle.st_types.specs.Values.{Datum}
use Rattle.st_types.specs.Paths.{Path}
use Rattle.st_types.specs.Expressions as named
use Rattle.st_types.specs.Expressions.{Expr, literal, read, parenthesis, Exprs, Variable, variable, member, subscript}
use Rattle.st_types.specs.Expressions.{Selectors, no_selectors, selector_then}
use Rattle.st_meaning.specs.Failures.{Failure, valueless, or_failure, failing}
use Rattle.st_meaning.specs.Stores.{Store, has_part}
use Rattle.st_meaning.specs.Ticks.{◌>>=◌, give, fault, attempt}
use Rattle.st_meaning.specs.Operators.{value_of_literal, apply, apply_unary, condition_of}
use Rattle.st_meaning.specs.StandardFunctions.{Standard, standard_of, standard_value}
use Rattle.st_meaning.specs.Scopes.{Name, Scope, path_in, member_at}
use Rattle.st_meaning.specs.Evaluation.{known, value, values, place as named_place, selected, element_at, bounded}
use Rattle.st_meaning.specs.Evaluation.{looked_up, called, truth_of}
use Rattle.st_meaning.specs.Slots.{Slot, IsLayout}
use Rattle.layout.specs.Shapes.{Shape, plain, array, parts, size, in_bounds, distance, leads_on}
use Rattle.layout.specs.VariableSlots.{LiesAt}
use Rattle.slot_trees.specs.SlotTrees.{Anchor, own, absolute, SlotExpr, load, call, unary, binary}
use Rattle.slot_trees.specs.SlotTrees.{SlotExprs, expr_then, Place, place, Subscripts}
use Rattle.slot_trees.specs.SlotEvaluation.{SlotScope, slot_at, loaded, slot_value, slot_values, placed, led}
use Rattle.slot_trees.specs.SlotEvaluation.{slot_truth}
use Rattle.slot_trees.specs.Tables.{Symbol, Table, symbol_of, named_in, moved, part_at}
use Rattle.slot_trees.specs.Linking.{Selected, with_offset, with_subscript, place_of_shape, place_if_plain}
use Rattle.slot_trees.specs.Linking.{linked_call, linked, linked_all, linked_variable, linked_selectors, target_of}
use Rattle.slot_trees.specs.Linking.{linked_target}
use Rattle.slot_trees.specs.Seeing.{Sees, IsSlotOf}
use Rattle.slot_trees.specs.Alike.{RunEqually}
use Rattle.slot_trees.specs.TrueTables.{IsTableOf}
use Rattle.slot_trees.proofs.Sim.{Same, sim_give, sim_fault, sim_then, sim_same, sim_attempt, sim_attempted, sim_weaker}
use Rattle.slot_trees.proofs.Sim.{sim_apart, ResultAlike}
use Rattle.slot_trees.proofs.OptionLemmas.{not_some}
use Rattle.slot_trees.proofs.SlotLemmas.{stands_member, stands_element, plain_at}
use Rattle.slot_trees.proofs.Sights.{has_part_slots, seen_there}
use Rattle.st_types.proofs.OptionLemmas.{some_is, map_some, if_some, then_some}

pub moved_slot : (base : ℕ) (a : Anchor) (n : ℕ) → slot_at base (moved a n) ≡ slot_at base a + n
moved_slot base (own o) n = sym (add_assoc base o n)
moved_slot base (absolute k) n = refl

-- an array that takes room has elements that do
pub element_room : (count n : ℕ) → nat_lt 0 (count * n) ≡ true → nat_lt 0 n ≡ true
element_room count zero h = absurd (let none : nat_lt 0 (count * 0) ≡ false = grind (arith, nat_tests) in cc)
element_room count (suc n) h = grind (arith, nat_tests)

leads_none : (sh : Shape) → nat_lt 0 (size sh) ≡ true → leads_on sh [] ≡ true
leads_none (plain k) h = refl
leads_none (array lower count sh) h = h
leads_none (parts w ps) h = h

and_true : (a b : Bool) → b ≡ true → (a && b) ≡ a
and_true true b h = h
and_true false b h = refl

-- a place that leads to an elementary part
plain_place : (a : Anchor) (n : ℕ) (ss : Subscripts) (sh : Shape) (p : Place) → place_of_shape a n ss sh ≡ Some p
    → (k : Kind) × (sh ≡ plain k) × (place (moved a n) ss ≡ p)
plain_place a n ss (plain k) p h = (k, refl, cc)
plain_place a n ss (array lower count sh) p h = absurd (cc)
plain_place a n ss (parts w ps) p h = absurd (cc)

module _ (layout : List Slot) (distinct : IsLayout layout) (w : Scope) (z : SlotScope) (t : Table)
    (truths : IsTableOf layout w z t) where
  abbrev pub ValueRun : Store → List Datum → Expr → SlotExpr → Type 0
  ValueRun s vs e x = RunEqually Datum Datum (Same Datum) (value w s e) (slot_value z vs x)

  abbrev pub ValuesRun : Store → List Datum → Exprs → SlotExprs → Type 0
  ValuesRun s vs es xs = RunEqually (List Datum) (List Datum) (Same (List Datum)) (values w s es) (slot_values z vs xs)

  -- the same faults stand for the cases that no well-typed text meets
  pub attempt_sim : {A B : Type 0} {R : A → B → Type 0} (x : Result A Failure) (y : Result B Failure)
      → ResultAlike R x y → RunEqually A B R (attempt w.stuck_faults x) (attempt z.stuck_faults y)
  attempt_sim {A = A} {B = B} {R = R} x y h =
      subst (λ u. RunEqually A B R (attempt w.stuck_faults x) (attempt u y)) (sym truths.stuck_faults)
      (sim_attempt w.stuck_faults x y h)

  pub attempted_sim : {A : Type 0} (x : Result A Failure)
      → RunEqually A A (Same A) (attempt w.stuck_faults x) (attempt z.stuck_faults x)
  attempted_sim {A = A} x =
      subst (λ u. RunEqually A A (Same A) (attempt w.stuck_faults x) (attempt u x)) (sym truths.stuck_faults)
      (sim_attempted w.stuck_faults x)

  module _ (s : Store) (vs : List Datum) (h : Sees layout w.image s vs) where
    looked_sim : (input : Bool) (q : Path) (k : ℕ) → IsSlotOf layout input q k
        → RunEqually Datum Datum (Same Datum) (looked_up w s q) (loaded z vs k)
    looked_sim input q k at =
        let e = seen_there layout distinct w.image s vs h q k input at in
        rw e (attempted_sim (or_failure valueless (known (slice_get vs k))))

    called_sim : (f : Name) (o : Option Standard) (es : Exprs) (xs : SlotExprs) (x : SlotExpr) → ValuesRun s vs es xs
        → linked_call t f o xs ≡ Some x
        → RunEqually Datum Datum (Same Datum) (values w s es >>= (λ us. called w o f us)) (slot_value z vs x)
    called_sim f (Some standard) es xs x g e =
        subst
        (λ y. RunEqually Datum Datum (Same Datum) (values w s es >>= (λ us. called w (Some standard) f us))
        (slot_value z vs y)) (some_is e) (sim_same g (λ us. attempted_sim (standard_value standard us)))
    called_sim f None es xs x g e =
        let i = map_some (λ i. call i xs) (named_in t.functions f) x e in
        subst
        (λ y. RunEqually Datum Datum (Same Datum) (values w s es >>= (λ us. called w None f us)) (slot_value z vs y)) i.2
        (sim_same g (λ us. truths.functions f i.0 i.1 us))

    -- a subscript is within the bounds exactly when a variable's path begins with it
    bounds_are : (input : Bool) (p : Path) (lower : ℤ) (count : ℕ) (sh : Shape) (k : ℕ) → nat_lt 0 (size sh) ≡ true
        → LiesAt layout input p (array lower count sh) k → (n : ℤ)
        → (has_part w.image (element_at p n) || has_part s (element_at p n)) ≡ in_bounds lower count n
    bounds_are input p lower count sh k room st n =
        ap₂ (λ i u. has_part i (element_at p n) || has_part u (element_at p n)) h.inputs h.variables
        ∙ has_part_slots layout vs (element_at p n) h.length ∙ st.only (Element n ∷ [])
        ∙ and_true (in_bounds lower count n) (leads_on sh []) (leads_none sh room)

    abbrev pub SelectedRun : Bool → Path → ℕ → Selectors → Selected → Type 0
    SelectedRun input p k xs r =
        RunEqually Path ℕ (λ q j. LiesAt layout input q r.shape j) (selected w s p xs)
        (led z vs (k + r.offset) r.subscripts)

    abbrev pub PlaceRun : Bool → Path → Selectors → Place → Type 0
    PlaceRun input p xs l =
        RunEqually Path ℕ (λ q j. IsSlotOf layout input q j) (selected w s p xs) (placed z vs l)

    pub place_sim : (input : Bool) (p : Path) (y : Symbol) (xs : Selectors) (r : Selected) (l : Place)
        → SelectedRun input p (slot_at z.base y.anchor) xs r → place_if_plain y.anchor r ≡ Some l
        → PlaceRun input p xs l
    place_sim input p y xs r l g e =
        let c = plain_place y.anchor r.offset r.subscripts r.shape l e in
        let m = moved_slot z.base y.anchor r.offset in
        subst (λ x. PlaceRun input p xs x) c.2
        (subst
        (λ n. RunEqually Path ℕ (λ q j. IsSlotOf layout input q j) (selected w s p xs) (led z vs n r.subscripts)) (sym m)
        (sim_weaker (λ q j st. plain_at layout input q c.0 j (subst (λ sh. LiesAt layout input q sh j) c.1 st)) g))

    subscript_cases : (b : Bool) (q : Path) (xs : Selectors) (input : Bool) (sh : Shape) (n : ℕ) (ss : Subscripts)
        → (b ≡ true → RunEqually Path ℕ (λ u j. LiesAt layout input u sh j) (selected w s q xs) (led z vs n ss))
        → RunEqually Path ℕ (λ u j. LiesAt layout input u sh j)
        ((if b then give q else fault Index) >>= (λ u. selected w s u xs)) (if b then led z vs n ss else fault Index)
    subscript_cases true q xs input sh n ss g = g refl
    subscript_cases false q xs input sh n ss g = sim_fault Index

    subscript_sim : (input : Bool) (p : Path) (lower : ℤ) (count : ℕ) (sh : Shape) (k : ℕ)
        → nat_lt 0 (size sh) ≡ true → LiesAt layout input p (array lower count sh) k → (n : ℤ) (xs : Selectors)
        (r : Selected) → (in_bounds lower count n ≡ true
        → SelectedRun input (element_at p n) (k + distance lower n * size sh) xs r)
        → RunEqually Path ℕ (λ u j. LiesAt layout input u r.shape j)
        (bounded w.image s (element_at p n) >>= (λ u. selected w s u xs))
        (if in_bounds lower count n then led z vs ((k + r.offset) + distance lower n * size sh) r.subscripts
        else fault Index)
    subscript_sim input p lower count sh k room st n xs r ih =
        let b = bounds_are input p lower count sh k room st n in
        let a : (k + r.offset) + distance lower n * size sh ≡ (k + distance lower n * size sh) + r.offset =
        omega arith in
        subst
        (λ m. RunEqually Path ℕ (λ u j. LiesAt layout input u r.shape j)
        (bounded w.image s (element_at p n) >>= (λ u. selected w s u xs))
        (if in_bounds lower count n then led z vs m r.subscripts else fault Index)) (sym a)
        (subst
        (λ c. RunEqually Path ℕ (λ u j. LiesAt layout input u r.shape j)
        ((if c then give (element_at p n) else fault Index) >>= (λ u. selected w s u xs))
        (if in_bounds lower count n then led z vs ((k + distance lower n * size sh) + r.offset) r.subscripts
        else fault Index)) (sym b)
        (subscript_cases (in_bounds lower count n) (element_at p n) xs input r.shape
        ((k + distance lower n * size sh) + r.offset) r.subscripts ih))

    mutual
      pub value_sim : (e : Expr) (x : SlotExpr) → linked t e ≡ Some x → ValueRun s vs e x
      value_sim (literal l) x e =
          subst (λ y. ValueRun s vs (literal l) y) (some_is e) (attempted_sim (value_of_literal l))
      value_sim (read (variable v xs)) x e =
          let i = map_some load (linked_variable t (variable v xs)) x e in
          let y = then_some (λ y. option_and_then (place_if_plain y.anchor) (linked_selectors t y.shape xs))
          (symbol_of t.symbols v.name) i.0 i.1 in
          let r = then_some (place_if_plain y.0.anchor) (linked_selectors t y.0.shape xs) i.0 y.2 in
          let p : Path = path_in w.frame w.body v.name in
          let g = selected_sim y.0.is_input p y.0.shape (slot_at z.base y.0.anchor) (truths.names v.name y.0 y.1) xs
          r.0 r.1 in
          subst (λ a. ValueRun s vs (read (variable v xs)) a) i.2
          (sim_then (place_sim y.0.is_input p y.0 xs r.0 i.0 g r.2) (λ q k at. looked_sim y.0.is_input q k at))
      value_sim (named.call f es) x e =
          let i = then_some (λ xs. linked_call t f.name (standard_of f.name) xs) (linked_all t es) x e in
          called_sim f.name (standard_of f.name) es i.0 x (values_sim es i.0 i.1) i.2
      value_sim (parenthesis at a) x e = value_sim a x e
      value_sim (named.unary op at a) x e =
          let i = map_some (unary op) (linked t a) x e in
          subst (λ y. ValueRun s vs (named.unary op at a) y) i.2
          (sim_same (value_sim a i.0 i.1) (λ v. attempted_sim (failing (apply_unary op v))))
      value_sim (named.binary op l r) x e =
          let i = then_some (λ x. option_map (binary op x) (linked t r)) (linked t l) x e in
          let j = map_some (binary op i.0) (linked t r) x i.2 in
          subst (λ y. ValueRun s vs (named.binary op l r) y) j.2
          (sim_same (value_sim l i.0 i.1) (λ u. sim_same (value_sim r j.0 j.1) (λ v. attempted_sim (apply op u v))))

      pub values_sim : (es : Exprs) (xs : SlotExprs) → linked_all t es ≡ Some xs → ValuesRun s vs es xs
      values_sim named.no_exprs xs e =
          subst (λ y. ValuesRun s vs named.no_exprs y) (some_is e) (sim_give [] [] refl)
      values_sim (named.expr_then a rest) xs e =
          let i = then_some (λ x. option_map (expr_then x) (linked_all t rest)) (linked t a) xs e in
          let j = map_some (expr_then i.0) (linked_all t rest) xs i.2 in
          subst (λ y. ValuesRun s vs (named.expr_then a rest) y) j.2
          (sim_same (value_sim a i.0 i.1) (λ v. sim_same (values_sim rest j.0 j.1)
          (λ us. sim_give (v ∷ us) (v ∷ us) refl)))

      pub selected_sim : (input : Bool) (p : Path) (sh : Shape) (k : ℕ) → LiesAt layout input p sh k
          → (xs : Selectors) (r : Selected) → linked_selectors t sh xs ≡ Some r → SelectedRun input p k xs r
      selected_sim input p sh k st no_selectors r e =
          subst (λ y. SelectedRun input p k no_selectors y) (some_is e)
          (sim_give p (k + 0) (let b = add-zero k in rw b st))
      selected_sim input p (parts of ps) k st (selector_then (member x) xs) r e =
          let i = then_some (λ e. option_map (with_offset e.offset) (linked_selectors t e.shape xs))
          (part_at ps x.name) r e in
          let j = map_some (with_offset i.0.offset) (linked_selectors t i.0.shape xs) r i.2 in
          let ih = selected_sim input (member_at p x.name) i.0.shape (k + i.0.offset)
          (stands_member layout input p of ps k x.name i.0 i.1 st) xs j.0 j.1 in
          subst (λ y. SelectedRun input p k (selector_then (member x) xs) y) j.2
          (subst
          (λ n. RunEqually Path ℕ (λ q m. LiesAt layout input q j.0.shape m) (selected w s (member_at p x.name) xs)
          (led z vs n j.0.subscripts)) (add_assoc k i.0.offset j.0.offset) ih)
      selected_sim input p (array lower count sh) k st (selector_then (subscript a) xs) r e =
          let c = if_some (nat_lt 0 (count * size sh))
          (option_and_then (λ i. option_map (with_subscript i lower count (size sh)) (linked_selectors t sh xs))
          (linked t a)) r e in
          let i = then_some (λ i. option_map (with_subscript i lower count (size sh)) (linked_selectors t sh xs))
          (linked t a) r c.1 in
          let j = map_some (with_subscript i.0 lower count (size sh)) (linked_selectors t sh xs) r i.2 in
          subst (λ y. SelectedRun input p k (selector_then (subscript a) xs) y) j.2
          (sim_apart (value w s a) (λ v. bounded w.image s (element_at p v.number)) (λ q. selected w s q xs) _
          (sim_same (value_sim a i.0 i.1) (λ v. subscript_sim input p lower count sh k
          (element_room count (size sh) c.0) st v.number xs j.0
          (λ within. selected_sim input (element_at p v.number) sh (k + distance lower v.number * size sh)
          (stands_element layout input p lower count sh k v.number within st) xs j.0 j.1))))
      selected_sim input p (plain k) n st (selector_then x xs) r e = absurd (cc)
      selected_sim input p (array lower count sh) n st (selector_then (member x) xs) r e = absurd (cc)
      selected_sim input p (parts of ps) n st (selector_then (subscript a) xs) r e = absurd (cc)

    pub truth_sim : (e : Expr) (x : SlotExpr) → linked t e ≡ Some x
        → RunEqually Bool Bool (Same Bool) (truth_of w e s) (slot_truth z x vs)
    unfolding truth_of slot_truth
    truth_sim e x l = sim_same (value_sim e x l) (λ v. attempted_sim (condition_of v))

    -- a variable that may be assigned leads to its slot
    pub target_sim : (v : Variable) (p : Place) → linked_target t v ≡ Some p
        → RunEqually Path ℕ (λ q j. IsSlotOf layout false q j) (named_place w s v) (placed z vs p)
    target_sim (variable x xs) p e =
        let y = then_some (λ y. target_of t y xs) (symbol_of t.symbols x.name) p e in
        let c = not_some y.0.is_input
        (option_and_then (place_if_plain y.0.anchor) (linked_selectors t y.0.shape xs)) p y.2 in
        let r = then_some (place_if_plain y.0.anchor) (linked_selectors t y.0.shape xs) p c.1 in
        let q : Path = path_in w.frame w.body x.name in
        let st = subst (λ b. LiesAt layout b q y.0.shape (slot_at z.base y.0.anchor)) c.0
        (truths.names x.name y.0 y.1) in
        place_sim false q y.0 xs r.0 p
        (selected_sim false q y.0.shape (slot_at z.base y.0.anchor) st xs r.0 r.1) r.2
