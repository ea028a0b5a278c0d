-- The units of a linked text have the effect on the slots that they have on the variables.
use Rattle.std.proofs.Common.{◌≡◌, ℕ, zero, suc, ◌+◌, Bool, true, false, if◌then◌else◌, List, [], ◌∷◌, length}
use Rattle.std.proofs.Common.{slice_get, Some, option_map, option_and_then, refl, sym, ap, ap₂, subst}
use Rattle.std.proofs.Common.{add-zero, add-suc, arith}
use Rattle.st_types.specs.declared.fault.Fault.TheVariants.{Budget}
use Rattle.st_types.specs.Values.{Datum}
use Rattle.st_types.specs.Paths.{Path}
use Rattle.st_meaning.specs.Failures.{StuckFaults, ill_typed, or_failure}
use Rattle.st_meaning.specs.Stores.{Store, get, assigned}
use Rattle.st_meaning.specs.Slots.{Slot, IsLayout, variables_with, inputs_in}
use Rattle.st_meaning.specs.Ticks.{attempt}
use Rattle.st_meaning.specs.StandardBlocks as standard
use Rattle.st_meaning.specs.StandardBlocks.{StandardBlock, BlockMember, block_of, members_of, stepped}
use Rattle.st_meaning.specs.Scopes.{Name, of_block, of_call, Function, Block, Library, Units, Scope, unowned, member_at}
use Rattle.st_meaning.specs.Scopes.{contains_name, path_in}
use Rattle.st_meaning.specs.Loops.{EndOf, End, goes_on, exits, returns}
use Rattle.st_meaning.specs.Runs.{store_of, bound_inputs, function_value, member_values, members_assigned, standard_call}
use Rattle.st_meaning.specs.Runs.{block_call, instance_call, units_within}
use Rattle.layout.specs.Shapes.{PartsOwner, plain, parts, Parts}
use Rattle.layout.specs.VariableSlots.{LiesAt}
use Rattle.slot_trees.specs.SlotTrees.{BlockCode, own_block, standard_block, SlotStmts, SlotFunction, SlotLibrary}
use Rattle.slot_trees.specs.SlotEvaluation.{SlotUnits, SlotScope, slot_at}
use Rattle.slot_trees.specs.SlotExecution.{SlotEnd, stored_at}
use Rattle.slot_trees.specs.SlotRuns.{state_of, bound_input_slots, slot_function, slot_block, member_slots, members_stored}
use Rattle.slot_trees.specs.SlotRuns.{slot_standard, slot_instance_call, slot_units_within}
use Rattle.slot_trees.specs.Tables.{Symbol, Part, symbol_of, named_in, part_at}
use Rattle.slot_trees.specs.Seeing.{Sees, IsSlotOf}
use Rattle.slot_trees.specs.Alike.{RunEqually, EndsEqually}
use Rattle.slot_trees.specs.TrueTables.{IsTableOf}
use Rattle.slot_trees.specs.LinkedTexts.{Numbers, table_of, parts_of_members, layout_of_fresh, values_of_fresh}
use Rattle.slot_trees.specs.LinkedTexts.{InputsLieAt, IsFunctionLink, IsInstance, IsBlockLink, IsLibraryLink}
use Rattle.slot_trees.proofs.Sim.{Same, sim_give, sim_fault, sim_then, sim_same, sim_attempt, sim_attempted}
use Rattle.slot_trees.proofs.Sim.{ResultAlike, proceed_alike}
use Rattle.slot_trees.proofs.SlotLemmas.{stands_member, plain_at}
use Rattle.slot_trees.proofs.Sights.{got_there, stored_there}
use Rattle.slot_trees.proofs.StatementSim.{exec_all_sim}

-- the states at ends that are alike
pub ended : {B : Type 0} (R : Store → B → Type 0) (e : End) (f : EndOf B) → EndsEqually R e f
    → R (store_of e) (state_of f)
ended R (goes_on s) (goes_on t) h = h
ended R (exits s) (exits t) h = h
ended R (returns s) (returns t) h = h
ended R (goes_on s) (exits t) h = absurd h
ended R (goes_on s) (returns t) h = absurd h
ended R (exits s) (goes_on t) h = absurd h
ended R (exits s) (returns t) h = absurd h
ended R (returns s) (goes_on t) h = absurd h
ended R (returns s) (exits t) h = absurd h

-- a store as slots of its own
fresh_variables : (s : Store) → s ≡ variables_with (layout_of_fresh s) (values_of_fresh s)
fresh_variables [] = refl
fresh_variables (e ∷ s) = ap (λ t. e ∷ t) (fresh_variables s)

fresh_inputs : (s : Store) → [] ≡ inputs_in (layout_of_fresh s) (values_of_fresh s)
fresh_inputs [] = refl
fresh_inputs (e ∷ s) = fresh_inputs s

fresh_length : (s : Store) → length (layout_of_fresh s) ≡ length (values_of_fresh s)
fresh_length [] = refl
fresh_length (e ∷ s) = let h = fresh_length s in omega arith

fresh_sees : (s : Store) → Sees (layout_of_fresh s) [] s (values_of_fresh s)
fresh_sees s = record { variables = fresh_variables s; inputs = fresh_inputs s; length = fresh_length s }

-- the inputs of a function take the arguments' values
begun_alike : (layout : List Slot) → IsLayout layout → (xs : List Name) (ks : List ℕ) (us : List Datum)
    → InputsLieAt layout xs ks → (s : Store) (vs : List Datum) → Sees layout [] s vs
    → ResultAlike (Sees layout []) (bound_inputs s xs us) (bound_input_slots vs ks us)
begun_alike layout distinct [] [] [] at s vs h = h
begun_alike layout distinct [] [] (u ∷ us) at s vs h = refl
begun_alike layout distinct (x ∷ xs) (k ∷ ks) [] at s vs h = refl
begun_alike layout distinct (x ∷ xs) (k ∷ ks) (u ∷ us) at s vs h =
    proceed_alike (Sees layout []) (Sees layout []) (λ t. bound_inputs t xs us) (λ t. bound_input_slots t ks us)
    (assigned s (unowned x) u) (stored_at vs k u) (stored_there layout distinct [] s vs h (unowned x) k at.0 u)
    (λ t ts g. begun_alike layout distinct xs ks us at.1 t ts g)
begun_alike layout distinct [] (k ∷ ks) us at s vs h = absurd at
begun_alike layout distinct (x ∷ xs) [] us at s vs h = absurd at

-- the members of a standard block are in consecutive slots
abbrev MembersStand : List Slot → Path → ℕ → List BlockMember → Type 0
MembersStand layout at k [] = Unit {0}
MembersStand layout at k (m ∷ ms) = IsSlotOf layout false (member_at at m.0) k × MembersStand layout at (suc k) ms

abbrev plain_part : ℕ → BlockMember → Part
plain_part i m = record { offset = i; shape = plain m.1 }

abbrev EachAt : Parts → ℕ → List BlockMember → Type 0
EachAt ps i [] = Unit {0}
EachAt ps i (m ∷ ms) = (part_at ps m.0 ≡ Some (plain_part i m)) × EachAt ps (suc i) ms

members_from : (layout : List Slot) (at : Path) (of : PartsOwner) (ps : Parts) (k : ℕ)
    → LiesAt layout false at (parts of ps) k → (i : ℕ) (ms : List BlockMember) → EachAt ps i ms
    → MembersStand layout at (k + i) ms
members_from layout at of ps k st i [] h = tt
members_from layout at of ps k st i (m ∷ ms) h = (
  plain_at layout false (member_at at m.0) m.1 (k + i)
      (stands_member layout false at of ps k m.0 (plain_part i m) h.0 st),
  subst (λ n. MembersStand layout at n ms) (add-suc k i) (members_from layout at of ps k st (suc i) ms h.1),
)

each_at : (b : StandardBlock) → EachAt (parts_of_members (members_of b)) 0 (members_of b)
each_at standard.SR = (refl, (refl, (refl, tt)))
each_at standard.RS = (refl, (refl, (refl, tt)))
each_at standard.R_TRIG = (refl, (refl, (refl, tt)))
each_at standard.F_TRIG = (refl, (refl, (refl, tt)))
each_at standard.CTU = (refl, (refl, (refl, (refl, (refl, (refl, tt))))))
each_at standard.CTD = (refl, (refl, (refl, (refl, (refl, (refl, tt))))))
each_at standard.CTUD = (refl, (refl, (refl, (refl, (refl, (refl, (refl, (refl, (refl, (refl, tt))))))))))
each_at standard.TON = (refl, (refl, (refl, (refl, (refl, (refl, tt))))))
each_at standard.TOF = (refl, (refl, (refl, (refl, (refl, (refl, tt))))))
each_at standard.TP = (refl, (refl, (refl, (refl, (refl, (refl, tt))))))

members_stand : (layout : List Slot) (at : Path) (of : PartsOwner) (b : StandardBlock) (k : ℕ)
    → LiesAt layout false at (parts of (parts_of_members (members_of b))) k → MembersStand layout at k (members_of b)
members_stand layout at of b k st =
    subst (λ n. MembersStand layout at n (members_of b)) (add-zero k)
    (members_from layout at of (parts_of_members (members_of b)) k st 0 (members_of b) (each_at b))

module _ (layout : List Slot) (distinct : IsLayout layout) (image : Store) (at : Path) where
  members_read : (ms : List BlockMember) (k : ℕ) → MembersStand layout at k ms → (s : Store) (vs : List Datum)
      → Sees layout image s vs → member_values s at ms ≡ member_slots vs k ms
  members_read [] k st s vs h = refl
  members_read (m ∷ ms) k st s vs h =
      ap₂ (λ rest here. option_and_then (λ v. option_map (λ us. v ∷ us) rest) here)
      (members_read ms (suc k) st.1 s vs h) (got_there layout distinct image s vs h (member_at at m.0) k st.0)

  members_written : (ms : List BlockMember) (k : ℕ) → MembersStand layout at k ms → (xs : List Datum) (s : Store)
      (vs : List Datum) → Sees layout image s vs
      → ResultAlike (Sees layout image) (members_assigned s at ms xs) (members_stored vs k ms xs)
  members_written [] k st [] s vs h = h
  members_written [] k st (x ∷ xs) s vs h = h
  members_written (m ∷ ms) k st [] s vs h = h
  members_written (m ∷ ms) k st (x ∷ xs) s vs h =
      proceed_alike (Sees layout image) (Sees layout image) (λ t. members_assigned t at ms xs)
      (λ t. members_stored t (suc k) ms xs) (assigned s (member_at at m.0) x) (stored_at vs k x)
      (stored_there layout distinct image s vs h (member_at at m.0) k st.0 x)
      (λ t ts g. members_written ms (suc k) st.1 xs t ts g)

  -- a call of a standard block
  standard_sim : (stuck_faults : StuckFaults) (of : PartsOwner) (b : StandardBlock) (now k : ℕ)
      → LiesAt layout false at (parts of (parts_of_members (members_of b))) k → (s : Store) (vs : List Datum)
      → Sees layout image s vs
      → RunEqually Store (List Datum) (Sees layout image) (standard_call stuck_faults b now at s)
      (slot_standard stuck_faults b now k vs)
  standard_sim stuck_faults of b now k st s vs h =
      let m = members_stand layout at of b k st in
      let r = members_read (members_of b) k m s vs h in
      sim_same
      (subst
      (λ o. RunEqually (List Datum) (List Datum) (Same (List Datum)) (attempt stuck_faults (or_failure ill_typed o))
      (attempt stuck_faults (or_failure ill_typed (member_slots vs k (members_of b))))) (sym r)
      (sim_attempted stuck_faults (or_failure ill_typed (member_slots vs k (members_of b)))))
      (λ xs. sim_attempt stuck_faults (members_assigned s at (members_of b) (stepped b now xs))
      (members_stored vs k (members_of b) (stepped b now xs))
      (members_written (members_of b) k m (stepped b now xs) s vs h))

-- the effects of units by names and by slots
pub record UnitsAlike (layout : List Slot) (image : Store) (numbers : Numbers) (u : Units)
    (v : SlotUnits) : Type 0 where
  pub functions : (f : Name) (i : ℕ) → named_in numbers.functions f ≡ Some i → (xs : List Datum)
      → RunEqually Datum Datum (Same Datum) (u.functions f xs) (v.functions i xs)
  pub blocks : (b : Name) (c : BlockCode) (ps : Parts) → named_in numbers.blocks b ≡ Some c
      → named_in numbers.members b ≡ Some ps → (at : Path) (of : PartsOwner) (k : ℕ)
      → LiesAt layout false at (parts of ps) k → (s : Store) (vs : List Datum) → Sees layout image s vs
      → RunEqually Store (List Datum) (Sees layout image) (u.blocks b at s) (v.blocks c k vs)

module _ (stuck_faults : StuckFaults) (now : ℕ) (numbers : Numbers) (layout : List Slot) (image : Store) (u : Units)
    (v : SlotUnits) (alike : UnitsAlike layout image numbers u v) where
  -- a function's body, on slots of its own
  function_sim : (f : Function) (g : SlotFunction) → IsFunctionLink numbers f g → (xs : List Datum)
      → RunEqually Datum Datum (Same Datum) (function_value stuck_faults u now f xs) (slot_function stuck_faults v g xs)
  function_sim f g link xs =
      sim_then
      (sim_attempt stuck_faults (bound_inputs f.fresh f.inputs xs) (bound_input_slots g.fresh g.inputs xs)
      (subst
      (λ fresh. ResultAlike (Sees (layout_of_fresh f.fresh) []) (bound_inputs f.fresh f.inputs xs)
      (bound_input_slots fresh g.inputs xs)) (sym link.fresh)
      (begun_alike (layout_of_fresh f.fresh) link.distinct f.inputs g.inputs xs link.inputs f.fresh
      (values_of_fresh f.fresh) (fresh_sees f.fresh))))
      (λ s vs h. sim_then
      (exec_all_sim (layout_of_fresh f.fresh) link.distinct w z (table_of numbers link.symbols []) truths
      f.body.statements g.body link.body s vs h) result)
    where
      w : Scope
      w = record { units = u; frame = of_call; body = f.body; image = []; now = now; stuck_faults = stuck_faults }

      z : SlotScope
      z = record { units = v; base = 0; stuck_faults = stuck_faults }

      truths : IsTableOf (layout_of_fresh f.fresh) w z (table_of numbers link.symbols [])
      truths = record {
        names = link.names;
        instances = sym link.instances;
        functions = alike.functions;
        blocks = λ x b c y h. absurd (cc);
        stuck_faults = refl;
      }

      result : (e : End) (d : SlotEnd) → EndsEqually (Sees (layout_of_fresh f.fresh) []) e d
          → RunEqually Datum Datum (Same Datum)
          (attempt stuck_faults (or_failure ill_typed (get (store_of e) (unowned f.name))))
          (attempt stuck_faults (or_failure ill_typed (slice_get (state_of d) g.result)))
      result e d k =
          let r = got_there (layout_of_fresh f.fresh) link.distinct [] (store_of e) (state_of d)
          (ended (Sees (layout_of_fresh f.fresh) []) e d k) (unowned f.name) g.result link.result in
          rw r (sim_attempted stuck_faults (or_failure ill_typed (slice_get (state_of d) g.result)))

  -- for the instances of a body, their calls are alike
  pub instance_sim : (b : Name) (c : BlockCode) (y : Symbol) → IsInstance numbers b y
      → named_in numbers.blocks b ≡ Some c → (p : Path) (k : ℕ) → LiesAt layout y.is_input p y.shape k → (s : Store)
      (vs : List Datum) → Sees layout image s vs
      → RunEqually Store (List Datum) (Sees layout image) (u.blocks b p s) (v.blocks c k vs)
  instance_sim b c y i e p k st s vs h =
      alike.blocks b c i.members e i.known p i.whole k
      (subst (λ input. LiesAt layout input p (parts i.whole i.members) k) i.is_variable
      (subst (λ sh. LiesAt layout y.is_input p sh k) i.shape st)) s vs h

  module _ (distinct : IsLayout layout) (of : PartsOwner) (ps : Parts) (b : Block) (code : SlotStmts)
      (link : IsBlockLink layout numbers ps b code) (at : Path) (k : ℕ)
      (st : LiesAt layout false at (parts of ps) k) where
    -- the places of the names of a block's body
    names_cases : (x : Name) (y : Symbol) → symbol_of link.symbols x ≡ Some y → (c : Bool)
        → contains_name b.body.externals x ≡ c
        → LiesAt layout y.is_input (if c then unowned x else member_at at x) y.shape (slot_at k y.anchor)
    names_cases x y e true h =
        let i = link.externals x y e h in
        subst (λ a. LiesAt layout y.is_input (unowned x) y.shape (slot_at k a)) (sym i.anchor) i.stands
    names_cases x y e false h =
        let i = link.variables x y e h in
        subst (λ a. LiesAt layout y.is_input (member_at at x) y.shape (slot_at k a)) (sym i.anchor)
        (subst (λ input. LiesAt layout input (member_at at x) y.shape (k + i.offset)) (sym i.is_variable)
        (stands_member layout false at of ps k x (record { offset = i.offset; shape = y.shape }) i.part st))

    block_names : (x : Name) (y : Symbol) → symbol_of link.symbols x ≡ Some y
        → LiesAt layout y.is_input (path_in (of_block at) b.body x) y.shape (slot_at k y.anchor)
    block_names x y e = names_cases x y e (contains_name b.body.externals x) refl

    -- a block's body, on the slots of its instance
    block_sim : (s : Store) (vs : List Datum) → Sees layout image s vs
        → RunEqually Store (List Datum) (Sees layout image) (block_call stuck_faults u image now b at s)
        (slot_block stuck_faults v code k vs)
    block_sim s vs h =
        sim_then
        (exec_all_sim layout distinct w z (table_of numbers link.symbols b.body.instances) truths b.body.statements code
        link.body s vs h) (λ e d g. sim_give (store_of e) (state_of d) (ended (Sees layout image) e d g))
      where
        w : Scope
        w = record { units = u; frame = of_block at; body = b.body; image = image; now = now; stuck_faults = stuck_faults }

        z : SlotScope
        z = record { units = v; base = k; stuck_faults = stuck_faults }

        truths : IsTableOf layout w z (table_of numbers link.symbols b.body.instances)
        truths = record {
          names = block_names;
          instances = refl;
          functions = alike.functions;
          blocks = λ x c m y i j e. instance_sim c m y (link.instances x c y i e) j (path_in (of_block at) b.body x)
              (slot_at k y.anchor) (block_names x y e);
          stuck_faults = refl;
        }

module _ (layout : List Slot) (distinct : IsLayout layout) (image : Store) (stuck_faults : StuckFaults) (now : ℕ)
    (numbers : Numbers) (library : Library) (code : SlotLibrary)
    (link : IsLibraryLink layout library code numbers) where
  by_code : (u : Units) (v : SlotUnits) → UnitsAlike layout image numbers u v → (b : Name) (c : BlockCode) (ps : Parts)
      → named_in numbers.blocks b ≡ Some c → named_in numbers.members b ≡ Some ps → (at : Path) (of : PartsOwner) (k : ℕ)
      → LiesAt layout false at (parts of ps) k → (s : Store) (vs : List Datum) → Sees layout image s vs
      → RunEqually Store (List Datum) (Sees layout image)
      (instance_call stuck_faults library image u now b (block_of b) at s) (slot_instance_call stuck_faults code v now c k vs)
  by_code u v ih b (own_block i) ps e g at of k st s vs h =
      let has = link.blocks b i ps e g in let a = has.own in let c = has.there in let d = has.numbered in
      rw (a, c, d) (block_sim stuck_faults now numbers layout image u v ih distinct of ps has.named has.linked has.link at
      k st s vs h)
  by_code u v ih b (standard_block m) ps e g at of k st s vs h =
      let has = link.standards b m ps e g in let a = has.there in
      rw a (standard_sim layout distinct image at stuck_faults of m now k
      (subst (λ qs. LiesAt layout false at (parts of qs) k) has.members st) s vs h)

  pub units_alike : (n : ℕ)
      → UnitsAlike layout image numbers (units_within stuck_faults library image now n)
      (slot_units_within stuck_faults code now n)
  unfolding units_within slot_units_within
  units_alike zero = record {
    functions = λ f i e xs. sim_fault Budget;
    blocks = λ b c ps e g at of k st s vs h. sim_fault Budget;
  }
  units_alike (suc n) =
      let u = units_within stuck_faults library image now n in
      let v = slot_units_within stuck_faults code now n in
      let ih = units_alike n in
      record {
        functions = λ f i e xs.
            let has = link.functions f i e in let a = has.there in let c = has.numbered in
            rw (a, c) (function_sim stuck_faults now numbers layout image u v ih has.named has.linked has.link xs);
        blocks = λ b c ps e g at of k st s vs h. by_code u v ih b c ps e g at of k st s vs h;
      }
