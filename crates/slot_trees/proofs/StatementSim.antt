-- A linked statement has the effect on the slots that its named statement has on the variables.
use Rattle.std.proofs.Common.{◌≡◌, ℕ, zero, ◌+◌, ℤ, pos, Bool, false, List, [], ◌∷◌, slice_get}
use Rattle.std.proofs.Common.{Option, Some, None, option_map, option_and_then, Ok, refl, sym, ap, ◌∙◌}
use Rattle.std.proofs.Common.{subst}
use Rattle.std.specs.List.{list_any}
use Rattle.st_types.specs.declared.fault.Fault.TheVariants.{ZeroStep}
use Rattle.st_types.specs.Values.{Datum}
use Rattle.st_types.specs.Paths.{Path}
use Rattle.st_types.specs.Expressions.{Expr, Variable}
use Rattle.st_types.specs.Statements as text
use Rattle.st_types.specs.Statements.{Argument, Stmt, Stmts, Arms, CaseArms}
use Rattle.st_meaning.specs.Failures.{ill_typed, or_failure}
use Rattle.st_meaning.specs.Stores.{Store, assigned}
use Rattle.st_meaning.specs.Ticks.{Run, ◌>>◌, give, attempt, proceed, tick}
use Rattle.st_meaning.specs.Scopes.{Name, Scope, path_in, member_at, block_named}
use Rattle.st_meaning.specs.Loops.{End, goes_on, exits, returns, runs_on, step_on, stepped_on}
use Rattle.st_meaning.specs.Loops.{stored}
use Rattle.st_meaning.specs.Loops.{no_step, nonzero}
use Rattle.st_meaning.specs.Execution.{label_holds, given_inputs, assigned_inputs, copied_outputs, step_of, counting}
use Rattle.st_meaning.specs.Execution.{assigning, invoking, exec, exec_all, exec_arms, exec_case}
use Rattle.st_meaning.specs.Slots.{Slot, IsLayout}
use Rattle.layout.specs.Shapes.{PartsOwner, Shape, plain, array, parts, Parts}
use Rattle.layout.specs.VariableSlots.{LiesAt}
use Rattle.slot_trees.specs.SlotTrees.{Anchor, SlotExpr, Place, BlockCode, SlotArgument, given, copied, SlotStmt}
use Rattle.slot_trees.specs.SlotTrees.{assign, invoke, IF, CASE, FOR, WHILE, REPEAT, SlotStmts, stmt_then, SlotArms}
use Rattle.slot_trees.specs.SlotTrees.{arm_then}
use Rattle.slot_trees.specs.SlotTrees.{SlotCaseArms, case_arm_then}
use Rattle.slot_trees.specs.SlotEvaluation.{SlotScope, slot_at}
use Rattle.slot_trees.specs.SlotExecution.{SlotEnd, stored_at, slot_inputs, stored_inputs, slot_outputs, slot_step}
use Rattle.slot_trees.specs.SlotExecution.{slot_runs_on, slot_stored, slot_step_on, slot_assigning, slot_invoking}
use Rattle.slot_trees.specs.SlotExecution.{slot_counting, slot_exec, slot_exec_all, slot_exec_arms, slot_exec_case}
use Rattle.slot_trees.specs.Tables.{Table, symbol_of, named_in, part_at}
use Rattle.slot_trees.specs.Linking.{linked, linked_target}
use Rattle.slot_trees.specs.LinkedStatements.{plain_anchor, control_of, Instance, instance_at, instance_of_symbol}
use Rattle.slot_trees.specs.LinkedStatements.{plain_offset, offset_of, linked_argument, linked_arguments, linked_step}
use Rattle.slot_trees.specs.LinkedStatements.{block_code_of, linked_call_of, linked_invocation, linked_stmt, linked_stmts}
use Rattle.slot_trees.specs.LinkedStatements.{linked_arms, linked_case_arms}
use Rattle.slot_trees.specs.Seeing.{Sees, IsSlotOf}
use Rattle.slot_trees.specs.Alike.{RunEqually, EndsEqually}
use Rattle.slot_trees.specs.TrueTables.{IsTableOf}
use Rattle.slot_trees.proofs.Sim.{Same, sim_give, sim_fault, sim_then, sim_same, sim_tick, sim_if, ResultAlike}
use Rattle.slot_trees.proofs.Sim.{proceed_alike}
use Rattle.slot_trees.proofs.LoopSim.{StepAlike, StepRun, sim_behind, sim_loop, sim_guarded}
use Rattle.slot_trees.proofs.LoopSim.{sim_until}
use Rattle.slot_trees.proofs.OptionLemmas.{not_some}
use Rattle.slot_trees.proofs.SlotLemmas.{stands_member, plain_at}
use Rattle.slot_trees.proofs.Sights.{got_there, stored_there}
use Rattle.slot_trees.proofs.ExpressionSim.{attempt_sim, attempted_sim, value_sim, truth_sim, target_sim}
use Rattle.st_types.proofs.OptionLemmas.{some_is, map_some, then_some}

-- an elementary variable is at its anchor
plain_anchor_is : (a : Anchor) (sh : Shape) (b : Anchor) → plain_anchor a sh ≡ Some b → (layout : List Slot)
    (input : Bool) (p : Path) (base : ℕ) → LiesAt layout input p sh (slot_at base a)
    → IsSlotOf layout input p (slot_at base b)
plain_anchor_is a (plain k) b h layout input p base st =
    subst (λ c. IsSlotOf layout input p (slot_at base c)) (some_is h) (plain_at layout input p k (slot_at base a) st)
plain_anchor_is a (array lower count sh) b h layout input p base st = absurd (cc)
plain_anchor_is a (parts w ps) b h layout input p base st = absurd (cc)

-- an instance is at its anchor
instance_at_is : (a : Anchor) (sh : Shape) (i : Instance) → instance_at a sh ≡ Some i
    → (of : PartsOwner) × (a ≡ i.anchor) × (sh ≡ parts of i.members)
instance_at_is a (parts w ps) i h = (w, ap (λ i. i.anchor) (some_is h), ap (λ i. parts w i.members) (some_is h))
instance_at_is a (array lower count sh) i h = absurd (cc)
instance_at_is a (plain k) i h = absurd (cc)

-- an elementary part is at its offset
plain_offset_is : (n : ℕ) (sh : Shape) (o : ℕ) → plain_offset n sh ≡ Some o → (layout : List Slot) (input : Bool)
    (p : Path) (k : ℕ) → LiesAt layout input p sh (k + n) → IsSlotOf layout input p (k + o)
plain_offset_is n (plain κ) o h layout input p k st =
    subst (λ m. IsSlotOf layout input p (k + m)) (some_is h) (plain_at layout input p κ (k + n) st)
plain_offset_is n (array lower count sh) o h layout input p k st = absurd (cc)
plain_offset_is n (parts w ps) o h layout input p k st = absurd (cc)

module _ (layout : List Slot) (distinct : IsLayout layout) (w : Scope) (z : SlotScope) (t : Table)
    (truths : IsTableOf layout w z t) where
  abbrev pub Seen : Store → List Datum → Type 0
  Seen s vs = Sees layout w.image s vs

  abbrev pub StateRun : Run Store → Run (List Datum) → Type 0
  StateRun m n = RunEqually Store (List Datum) Seen m n

  abbrev pub StmtRun : Run End → Run SlotEnd → Type 0
  StmtRun m n = RunEqually End SlotEnd (EndsEqually Seen) m n

  abbrev pub StmtsRun : (Store → Run End) → (List Datum → Run SlotEnd) → Type 0
  StmtsRun f g = (s : Store) (vs : List Datum) → Seen s vs → StmtRun (f s) (g vs)

  store_sim : (s : Store) (vs : List Datum) → Seen s vs → (q : Path) (j : ℕ) → IsSlotOf layout false q j → (v : Datum)
      → StateRun (attempt w.stuck_faults (assigned s q v)) (attempt z.stuck_faults (stored_at vs j v))
  store_sim s vs h q j at v =
      attempt_sim layout distinct w z t truths (assigned s q v) (stored_at vs j v)
      (stored_there layout distinct w.image s vs h q j at v)

  assign_sim : (v : Variable) (e : Expr) (p : Place) (x : SlotExpr) → linked_target t v ≡ Some p → linked t e ≡ Some x
      → StmtsRun (assigning w v e) (slot_assigning z p x)
  assign_sim v e p x lp lx s vs h =
      sim_same (value_sim layout distinct w z t truths s vs h e x lx)
      (λ a. sim_then (target_sim layout distinct w z t truths s vs h v p lp)
      (λ q j at. sim_then (store_sim s vs h q j at a) (λ u us k. sim_give (goes_on u) (goes_on us) k)))

  -- the step of a loop with a control variable
  step_sim : (o : Option Expr) (x : Option SlotExpr) → linked_step t o ≡ Some x → (s : Store) (vs : List Datum)
      → Seen s vs → RunEqually ℤ ℤ (Same ℤ) (step_of w s o) (slot_step z vs x)
  step_sim None x e s vs h =
      subst (λ y. RunEqually ℤ ℤ (Same ℤ) (step_of w s None) (slot_step z vs y)) (some_is e)
      (sim_give (pos 1) (pos 1) refl)
  step_sim (Some a) x e s vs h =
      let i = map_some Some (linked t a) x e in
      subst (λ y. RunEqually ℤ ℤ (Same ℤ) (step_of w s (Some a)) (slot_step z vs y)) i.2
      (sim_same (value_sim layout distinct w z t truths s vs h a i.0 i.1) (λ v. sim_give v.number v.number refl))

  nonzero_sim : (n : ℤ) → RunEqually (Unit {0}) (Unit {0}) (Same (Unit {0})) (nonzero n) (nonzero n)
  nonzero_sim (pos zero) = sim_fault ZeroStep
  nonzero_sim _ = sim_give tt tt refl

  module _ (x : Path) (k : ℕ) (at : IsSlotOf layout false x k) where
    runs_on_sim : (limit step : ℤ) (s : Store) (vs : List Datum) → Seen s vs
        → RunEqually Bool Bool (Same Bool) (runs_on w.stuck_faults x limit step s)
        (slot_runs_on z.stuck_faults k limit step vs)
    unfolding runs_on slot_runs_on
    runs_on_sim limit step s vs h =
        let g = got_there layout distinct w.image s vs h x k at in
        sim_same (rw g (attempted_sim layout distinct w z t truths (or_failure ill_typed (slice_get vs k))))
        (λ v. sim_give _ _ refl)

    stored_alike : (s : Store) (vs : List Datum) → Seen s vs → (o : Option Datum)
        → ResultAlike (StepAlike Store (List Datum) Seen) (stored s x o) (slot_stored vs k o)
    stored_alike s vs h None = tt
    stored_alike s vs h (Some v) =
        proceed_alike Seen (StepAlike Store (List Datum) Seen) (λ u. Ok (Some u)) (λ us. Ok (Some us)) (assigned s x v)
        (stored_at vs k v) (stored_there layout distinct w.image s vs h x k at v) (λ u us g. g)

    then_alike : (step : ℤ) (s : Store) (vs : List Datum) → Seen s vs → (o : Option Datum)
        → ResultAlike (StepAlike Store (List Datum) Seen)
        (proceed (or_failure ill_typed o) (λ v. stored s x (stepped_on step v)))
        (proceed (or_failure ill_typed o) (λ v. slot_stored vs k (stepped_on step v)))
    then_alike step s vs h None = refl
    then_alike step s vs h (Some v) = stored_alike s vs h (stepped_on step v)

    step_on_sim : (step : ℤ) → StepRun Store (List Datum) Seen (step_on w.stuck_faults x step)
        (slot_step_on z.stuck_faults k step)
    unfolding step_on slot_step_on
    step_on_sim step s vs h =
        let g = got_there layout distinct w.image s vs h x k at in
        attempt_sim layout distinct w z t truths _ _ (rw g (then_alike step s vs h (slice_get vs k)))

    counting_sim : (start limit : Expr) (step : Option Expr) (i n : SlotExpr) (d : Option SlotExpr)
        (body : Store → Run End) (body' : List Datum → Run SlotEnd) → linked t start ≡ Some i → linked t limit ≡ Some n
        → linked_step t step ≡ Some d → StmtsRun body body'
        → StmtsRun (counting w x start limit step body) (slot_counting z k i n d body')
    counting_sim start limit step i n d body body' li ln ld b s vs h =
        sim_same (value_sim layout distinct w z t truths s vs h start i li)
        (λ a. sim_same (value_sim layout distinct w z t truths s vs h limit n ln)
        (λ c. sim_same (step_sim step d ld s vs h) (λ m. sim_same (nonzero_sim m)
        (λ _. sim_then (store_sim s vs h x k at a)
        (λ u us g. sim_loop Store (List Datum) Seen _ _ _ _
        (sim_guarded Store (List Datum) Seen _ _ _ _ (runs_on_sim c.number m) b) (step_on_sim m) u us g)))))

  -- a control variable is in its slot
  control_slot : (x : Name) (a : Anchor) → option_and_then control_of (symbol_of t.symbols x) ≡ Some a
      → IsSlotOf layout false (path_in w.frame w.body x) (slot_at z.base a)
  control_slot x a e =
      let y = then_some control_of (symbol_of t.symbols x) a e in
      let c = not_some y.0.is_input (plain_anchor y.0.anchor y.0.shape) a y.2 in
      plain_anchor_is y.0.anchor y.0.shape a c.1 layout false (path_in w.frame w.body x) z.base
      (subst (λ u. LiesAt layout u (path_in w.frame w.body x) y.0.shape (slot_at z.base y.0.anchor)) c.0
      (truths.names x y.0 y.1))

  -- a loop with no control variable makes no step
  no_step_sim : StepRun Store (List Datum) Seen no_step no_step
  no_step_sim s vs h = sim_give (Some s) (Some vs) h

  -- the members of an instance
  module _ (at : Path) (of : PartsOwner) (ps : Parts) (k : ℕ) (st : LiesAt layout false at (parts of ps) k) where
    member_slot : (x : Name) (o : ℕ) → option_and_then offset_of (part_at ps x) ≡ Some o
        → IsSlotOf layout false (member_at at x) (k + o)
    member_slot x o e =
        let i = then_some offset_of (part_at ps x) o e in
        plain_offset_is i.0.offset i.0.shape o i.2 layout false (member_at at x) k
        (stands_member layout false at of ps k x i.0 i.1 st)

    abbrev InputsAlike : List (Name × Datum) → List (ℕ × Datum) → Type 0
    InputsAlike [] [] = Unit {0}
    InputsAlike (e ∷ es) (f ∷ fs) =
        IsSlotOf layout false (member_at at e.0) (k + f.0) × (e.1 ≡ f.1) × InputsAlike es fs
    InputsAlike [] (f ∷ fs) = ⊥
    InputsAlike (e ∷ es) [] = ⊥

    abbrev InputsRun : Run (List (Name × Datum)) → Run (List (ℕ × Datum)) → Type 0
    InputsRun m n = RunEqually (List (Name × Datum)) (List (ℕ × Datum)) InputsAlike m n

    given_sim : (as' : List Argument) (xs : List SlotArgument) → linked_arguments t ps as' ≡ Some xs → (s : Store)
        (vs : List Datum) → Seen s vs → InputsRun (given_inputs w s as') (slot_inputs z vs xs)
    given_sim [] xs e s vs h =
        subst (λ y. InputsRun (give []) (slot_inputs z vs y)) (some_is e) (sim_give [] [] tt)
    given_sim (text.given x a ∷ rest) xs e s vs h =
        let i = then_some (λ y. option_map (λ ys. y ∷ ys) (linked_arguments t ps rest))
        (linked_argument t ps (text.given x a)) xs e in
        let j = map_some (λ ys. i.0 ∷ ys) (linked_arguments t ps rest) xs i.2 in
        let o = then_some (λ o. option_map (given o) (linked t a)) (option_and_then offset_of (part_at ps x.name)) i.0
        i.1 in
        let v = map_some (given o.0) (linked t a) i.0 o.2 in
        subst (λ y. InputsRun (given_inputs w s (text.given x a ∷ rest)) (slot_inputs z vs y))
        (ap (λ y. y ∷ j.0) v.2 ∙ j.2)
        (sim_same (value_sim layout distinct w z t truths s vs h a v.0 v.1)
        (λ u. sim_then (given_sim rest j.0 j.1 s vs h)
        (λ es fs g. sim_give ((x.name, u) ∷ es) ((o.0, u) ∷ fs) (member_slot x.name o.0 o.1, refl, g))))
    given_sim (text.copied x v ∷ rest) xs e s vs h =
        let i = then_some (λ y. option_map (λ ys. y ∷ ys) (linked_arguments t ps rest))
        (linked_argument t ps (text.copied x v)) xs e in
        let j = map_some (λ ys. i.0 ∷ ys) (linked_arguments t ps rest) xs i.2 in
        let o = then_some (λ o. option_map (copied o) (linked_target t v))
        (option_and_then offset_of (part_at ps x.name)) i.0 i.1 in
        let l = map_some (copied o.0) (linked_target t v) i.0 o.2 in
        subst (λ y. InputsRun (given_inputs w s (text.copied x v ∷ rest)) (slot_inputs z vs y))
        (ap (λ y. y ∷ j.0) l.2 ∙ j.2) (given_sim rest j.0 j.1 s vs h)

    assigned_sim : (es : List (Name × Datum)) (fs : List (ℕ × Datum)) → InputsAlike es fs → (s : Store)
        (vs : List Datum) → Seen s vs
        → StateRun (assigned_inputs w.stuck_faults at es s) (stored_inputs z.stuck_faults k fs vs)
    assigned_sim [] [] a s vs h = sim_give s vs h
    assigned_sim (e ∷ es) (f ∷ fs) a s vs h =
        sim_then
        (subst
        (λ v. StateRun (attempt w.stuck_faults (assigned s (member_at at e.0) e.1))
        (attempt z.stuck_faults (stored_at vs (k + f.0) v))) a.1
        (store_sim s vs h (member_at at e.0) (k + f.0) a.0 e.1)) (λ u us g. assigned_sim es fs a.2 u us g)
    assigned_sim [] (f ∷ fs) a s vs h = absurd a
    assigned_sim (e ∷ es) [] a s vs h = absurd a

    copied_sim : (as' : List Argument) (xs : List SlotArgument) → linked_arguments t ps as' ≡ Some xs → (s : Store)
        (vs : List Datum) → Seen s vs → StateRun (copied_outputs w at as' s) (slot_outputs z k xs vs)
    copied_sim [] xs e s vs h = subst (λ y. StateRun (give s) (slot_outputs z k y vs)) (some_is e) (sim_give s vs h)
    copied_sim (text.given x a ∷ rest) xs e s vs h =
        let i = then_some (λ y. option_map (λ ys. y ∷ ys) (linked_arguments t ps rest))
        (linked_argument t ps (text.given x a)) xs e in
        let j = map_some (λ ys. i.0 ∷ ys) (linked_arguments t ps rest) xs i.2 in
        let o = then_some (λ o. option_map (given o) (linked t a)) (option_and_then offset_of (part_at ps x.name)) i.0
        i.1 in
        let v = map_some (given o.0) (linked t a) i.0 o.2 in
        subst (λ y. StateRun (copied_outputs w at (text.given x a ∷ rest) s) (slot_outputs z k y vs))
        (ap (λ y. y ∷ j.0) v.2 ∙ j.2) (copied_sim rest j.0 j.1 s vs h)
    copied_sim (text.copied x v ∷ rest) xs e s vs h =
        let i = then_some (λ y. option_map (λ ys. y ∷ ys) (linked_arguments t ps rest))
        (linked_argument t ps (text.copied x v)) xs e in
        let j = map_some (λ ys. i.0 ∷ ys) (linked_arguments t ps rest) xs i.2 in
        let o = then_some (λ o. option_map (copied o) (linked_target t v))
        (option_and_then offset_of (part_at ps x.name)) i.0 i.1 in
        let l = map_some (copied o.0) (linked_target t v) i.0 o.2 in
        let g = got_there layout distinct w.image s vs h (member_at at x.name) (k + o.0) (member_slot x.name o.0 o.1) in
        subst (λ y. StateRun (copied_outputs w at (text.copied x v ∷ rest) s) (slot_outputs z k y vs))
        (ap (λ y. y ∷ j.0) l.2 ∙ j.2)
        (sim_same
        (rw g (attempted_sim layout distinct w z t truths (or_failure ill_typed (slice_get vs (k + o.0)))))
        (λ u. sim_then (target_sim layout distinct w z t truths s vs h v l.0 l.1)
        (λ q m b. sim_then (store_sim s vs h q m b u) (λ r rs f. copied_sim rest j.0 j.1 r rs f))))

    -- a call of the instance, whose block has the same effect by paths and by slots
    invoking_sim : (b : Name) (code : BlockCode) → ((s : Store) (vs : List Datum) → Seen s vs
        → StateRun (w.units.blocks b at s) (z.units.blocks code k vs)) → (as' : List Argument)
        (xs : List SlotArgument) → linked_arguments t ps as' ≡ Some xs
        → StmtsRun (invoking w at (Some b) as') (slot_invoking z k code xs)
    invoking_sim b code call as' xs e s vs h =
        sim_then (given_sim as' xs e s vs h)
        (λ es fs g. sim_then (assigned_sim es fs g s vs h)
        (λ u us f. sim_then (call u us f)
        (λ r rs d. sim_then (copied_sim as' xs e r rs d) (λ q qs m. sim_give (goes_on q) (goes_on qs) m))))

  invoke_sim : (x : Name) (as' : List Argument) (y : SlotStmt) → linked_invocation t x as' ≡ Some y
      → StmtsRun
      (λ s. tick >> invoking w (path_in w.frame w.body x) (block_named w.body.instances x) as' s) (slot_exec z y)
  invoke_sim x as' y e s vs h =
      let a = then_some (linked_call_of t x as') (option_and_then instance_of_symbol (symbol_of t.symbols x)) y e in
      let c = then_some (λ code. option_map (invoke a.0.anchor code) (linked_arguments t a.0.members as'))
      (block_code_of t x) y a.2 in
      let l = map_some (invoke a.0.anchor c.0) (linked_arguments t a.0.members as') y c.2 in
      let n = then_some instance_of_symbol (symbol_of t.symbols x) a.0 a.1 in
      let i = not_some n.0.is_input (instance_at n.0.anchor n.0.shape) a.0 n.2 in
      let p = instance_at_is n.0.anchor n.0.shape a.0 i.1 in
      let b = then_some (named_in t.blocks) (block_named t.instances x) c.0 c.1 in
      let st = subst (λ u. LiesAt layout u (path_in w.frame w.body x) n.0.shape (slot_at z.base n.0.anchor)) i.0
      (truths.names x n.0 n.1) in
      let st' = subst (λ u. LiesAt layout false (path_in w.frame w.body x) n.0.shape (slot_at z.base u)) p.1 st in
      let st'' = subst (λ u. LiesAt layout false (path_in w.frame w.body x) u (slot_at z.base a.0.anchor)) p.2 st' in
      let named : block_named w.body.instances x ≡ Some b.0 =
      ap (λ u. block_named u x) (sym truths.instances) ∙ b.1 in
      subst
      (λ u. StmtRun (tick >> invoking w (path_in w.frame w.body x) (block_named w.body.instances x) as' s)
      (slot_exec z u vs)) l.2
      (subst
      (λ o. StmtRun (tick >> invoking w (path_in w.frame w.body x) o as' s)
      (slot_exec z (invoke a.0.anchor c.0 l.0) vs)) (sym named)
      (sim_tick (invoking_sim (path_in w.frame w.body x) p.0 a.0.members (slot_at z.base a.0.anchor) st'' b.0 c.0
      (λ u us f. subst
      (λ m. StateRun (w.units.blocks b.0 (path_in w.frame w.body x) u) (z.units.blocks c.0 (slot_at z.base m) us)) p.1
      (truths.blocks x b.0 c.0 n.0 b.1 b.2 n.1 u us f)) as' l.0 l.1 s vs h)))

  mutual
    pub exec_sim : (x : Stmt) (y : SlotStmt) → linked_stmt t x ≡ Some y → StmtsRun (exec w x) (slot_exec z y)
    exec_sim text.empty y e s vs h =
        subst (λ u. StmtRun (exec w text.empty s) (slot_exec z u vs)) (some_is e)
        (sim_tick (sim_give (goes_on s) (goes_on vs) h))
    exec_sim (text.assign v a) y e s vs h =
        let p = then_some (λ p. option_map (assign p) (linked t a)) (linked_target t v) y e in
        let x = map_some (assign p.0) (linked t a) y p.2 in
        subst (λ u. StmtRun (exec w (text.assign v a) s) (slot_exec z u vs)) x.2
        (sim_tick (assign_sim v a p.0 x.0 p.1 x.1 s vs h))
    exec_sim (text.invoke x as') y e s vs h = invoke_sim x.name as' y e s vs h
    exec_sim (text.IF arms otherwise) y e s vs h =
        let a = then_some (λ a. option_map (IF a) (linked_stmts t otherwise)) (linked_arms t arms) y e in
        let o = map_some (IF a.0) (linked_stmts t otherwise) y a.2 in
        subst (λ u. StmtRun (exec w (text.IF arms otherwise) s) (slot_exec z u vs)) o.2
        (sim_tick (arms_sim arms a.0 a.1 (exec_all w otherwise) (slot_exec_all z o.0)
        (exec_all_sim otherwise o.0 o.1) s vs h))
    exec_sim (text.CASE a arms otherwise) y e s vs h =
        let x = then_some
        (λ x. option_and_then (λ a. option_map (CASE x a) (linked_stmts t otherwise)) (linked_case_arms t arms))
        (linked t a) y e in
        let c = then_some (λ a. option_map (CASE x.0 a) (linked_stmts t otherwise)) (linked_case_arms t arms) y x.2 in
        let o = map_some (CASE x.0 c.0) (linked_stmts t otherwise) y c.2 in
        subst (λ u. StmtRun (exec w (text.CASE a arms otherwise) s) (slot_exec z u vs)) o.2
        (sim_tick (sim_same (value_sim layout distinct w z t truths s vs h a x.0 x.1)
        (λ v. case_sim v.number arms c.0 c.1 (exec_all w otherwise) (slot_exec_all z o.0)
        (exec_all_sim otherwise o.0 o.1) s vs h)))
    exec_sim (text.FOR x start limit step body) y e s vs h =
        let o = then_some
        (λ a. option_and_then (λ i. option_and_then (λ n. option_and_then
        (λ d. option_map (FOR a i n d) (linked_stmts t body)) (linked_step t step)) (linked t limit))
        (linked t start)) (option_and_then control_of (symbol_of t.symbols x.name)) y e in
        let i = then_some
        (λ i. option_and_then (λ n. option_and_then (λ d. option_map (FOR o.0 i n d) (linked_stmts t body))
        (linked_step t step)) (linked t limit)) (linked t start) y o.2 in
        let n = then_some
        (λ n. option_and_then (λ d. option_map (FOR o.0 i.0 n d) (linked_stmts t body)) (linked_step t step))
        (linked t limit) y i.2 in
        let d = then_some (λ d. option_map (FOR o.0 i.0 n.0 d) (linked_stmts t body)) (linked_step t step) y n.2 in
        let b = map_some (FOR o.0 i.0 n.0 d.0) (linked_stmts t body) y d.2 in
        subst (λ u. StmtRun (exec w (text.FOR x start limit step body) s) (slot_exec z u vs)) b.2
        (sim_tick (counting_sim (path_in w.frame w.body x.name) (slot_at z.base o.0) (control_slot x.name o.0 o.1) start
        limit step i.0 n.0 d.0 (exec_all w body) (slot_exec_all z b.0) i.1 n.1 d.1 (exec_all_sim body b.0 b.1) s vs h))
    exec_sim (text.WHILE a body) y e s vs h =
        let x = then_some (λ x. option_map (WHILE x) (linked_stmts t body)) (linked t a) y e in
        let b = map_some (WHILE x.0) (linked_stmts t body) y x.2 in
        subst (λ u. StmtRun (exec w (text.WHILE a body) s) (slot_exec z u vs)) b.2
        (sim_tick (sim_loop Store (List Datum) Seen _ _ no_step no_step
        (sim_guarded Store (List Datum) Seen _ _ _ _
        (λ r rs f. truth_sim layout distinct w z t truths r rs f a x.0 x.1) (exec_all_sim body b.0 b.1))
        no_step_sim s vs h))
    exec_sim (text.REPEAT body a) y e s vs h =
        let x = then_some (λ x. option_map (λ b. REPEAT b x) (linked_stmts t body)) (linked t a) y e in
        let b = map_some (λ b. REPEAT b x.0) (linked_stmts t body) y x.2 in
        subst (λ u. StmtRun (exec w (text.REPEAT body a) s) (slot_exec z u vs)) b.2
        (sim_tick (sim_loop Store (List Datum) Seen _ _ no_step no_step
        (sim_until Store (List Datum) Seen _ _ _ _
        (λ r rs f. truth_sim layout distinct w z t truths r rs f a x.0 x.1) (exec_all_sim body b.0 b.1))
        no_step_sim s vs h))
    exec_sim (text.EXIT at) y e s vs h =
        subst (λ u. StmtRun (exec w (text.EXIT at) s) (slot_exec z u vs)) (some_is e)
        (sim_tick (sim_give (exits s) (exits vs) h))
    exec_sim text.RETURN y e s vs h =
        subst (λ u. StmtRun (exec w text.RETURN s) (slot_exec z u vs)) (some_is e)
        (sim_tick (sim_give (returns s) (returns vs) h))

    pub exec_all_sim : (xs : Stmts) (ys : SlotStmts) → linked_stmts t xs ≡ Some ys
        → StmtsRun (exec_all w xs) (slot_exec_all z ys)
    exec_all_sim text.no_stmts ys e s vs h =
        subst (λ u. StmtRun (exec_all w text.no_stmts s) (slot_exec_all z u vs)) (some_is e)
        (sim_give (goes_on s) (goes_on vs) h)
    exec_all_sim (text.stmt_then x xs) ys e s vs h =
        let a = then_some (λ y. option_map (stmt_then y) (linked_stmts t xs)) (linked_stmt t x) ys e in
        let b = map_some (stmt_then a.0) (linked_stmts t xs) ys a.2 in
        subst (λ u. StmtRun (exec_all w (text.stmt_then x xs) s) (slot_exec_all z u vs)) b.2
        (sim_then (exec_sim x a.0 a.1 s vs h)
        (λ f g k. sim_behind Store (List Datum) Seen f g (exec_all w xs) (slot_exec_all z b.0) k
        (exec_all_sim xs b.0 b.1)))

    arms_sim : (arms : Arms) (ys : SlotArms) → linked_arms t arms ≡ Some ys → (otherwise : Store → Run End)
        (otherwise' : List Datum → Run SlotEnd) → StmtsRun otherwise otherwise'
        → StmtsRun (exec_arms w arms otherwise) (slot_exec_arms z ys otherwise')
    arms_sim text.no_arms ys e otherwise otherwise' k s vs h =
        subst (λ u. StmtRun (otherwise s) (slot_exec_arms z u otherwise' vs)) (some_is e) (k s vs h)
    arms_sim (text.arm_then a body arms) ys e otherwise otherwise' k s vs h =
        let x = then_some
        (λ x. option_and_then (λ b. option_map (arm_then x b) (linked_arms t arms)) (linked_stmts t body))
        (linked t a) ys e in
        let b = then_some (λ b. option_map (arm_then x.0 b) (linked_arms t arms)) (linked_stmts t body) ys x.2 in
        let c = map_some (arm_then x.0 b.0) (linked_arms t arms) ys b.2 in
        subst
        (λ u. StmtRun (exec_arms w (text.arm_then a body arms) otherwise s) (slot_exec_arms z u otherwise' vs)) c.2
        (sim_same (truth_sim layout distinct w z t truths s vs h a x.0 x.1)
        (λ go. sim_if go (exec_all_sim body b.0 b.1 s vs h) (arms_sim arms c.0 c.1 otherwise otherwise' k s vs h)))

    case_sim : (n : ℤ) (arms : CaseArms) (ys : SlotCaseArms) → linked_case_arms t arms ≡ Some ys
        → (otherwise : Store → Run End) (otherwise' : List Datum → Run SlotEnd) → StmtsRun otherwise otherwise'
        → StmtsRun (exec_case w n arms otherwise) (slot_exec_case z n ys otherwise')
    case_sim n text.no_case_arms ys e otherwise otherwise' k s vs h =
        subst (λ u. StmtRun (otherwise s) (slot_exec_case z n u otherwise' vs)) (some_is e) (k s vs h)
    case_sim n (text.case_arm_then labels body arms) ys e otherwise otherwise' k s vs h =
        let b = then_some (λ b. option_map (case_arm_then labels b) (linked_case_arms t arms)) (linked_stmts t body)
        ys e in
        let c = map_some (case_arm_then labels b.0) (linked_case_arms t arms) ys b.2 in
        subst
        (λ u. StmtRun (exec_case w n (text.case_arm_then labels body arms) otherwise s)
        (slot_exec_case z n u otherwise' vs)) c.2
        (sim_if (list_any (label_holds n) labels) (exec_all_sim body b.0 b.1 s vs h)
        (case_sim n arms c.0 c.1 otherwise otherwise' k s vs h))
