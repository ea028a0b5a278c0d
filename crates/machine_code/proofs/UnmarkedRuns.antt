-- Without the marks, the result of a run of a program over marked slots is that over slots.
use Rattle.std.proofs.Common.{◌≡◌, ℕ, zero, suc, List, [], ◌∷◌, Option, Some, None, Result, Ok, Err, refl, ap, ap₂}
use Rattle.std.proofs.Common.{subst}
use Rattle.std.specs.Prelude.{slice_get, option_map, option_and_then}
use Rattle.st_types.specs.declared.fault.Fault.{Fault}
use Rattle.st_types.specs.declared.fault.Fault.TheVariants.{Budget}
use Rattle.st_types.specs.Values.{Datum}
use Rattle.st_meaning.specs.Failures.{StuckFaults, ill_typed, or_failure}
use Rattle.st_meaning.specs.Ticks.{Run, ◌>>=◌, give, attempt}
use Rattle.st_meaning.specs.StandardBlocks.{StandardBlock, BlockMember, members_of, stepped}
use Rattle.st_meaning.specs.Loops.{goes_on, exits, returns}
use Rattle.machine_code.specs.Tracking.{Tracked}
use Rattle.slot_trees.specs.SlotTrees.{BlockCode, own_block, standard_block, SlotStmts, SlotFunction, SlotLibrary}
use Rattle.slot_trees.specs.SlotEvaluation.{SlotUnits}
use Rattle.slot_trees.specs.SlotExecution.{Slots, SlotEnd, stored_at}
use Rattle.slot_trees.specs.SlotRuns.{state_of, bound_input_slots, slot_function, slot_block, member_slots, members_stored}
use Rattle.slot_trees.specs.SlotRuns.{slot_standard, slot_function_call, slot_instance_call, slot_units_within}
use Rattle.slot_trees.specs.SlotRuns.{slots_ran}
use Rattle.slot_trees.specs.Alike.{EndEqually, RunEqually, EndsEqually}
use Rattle.slot_trees.proofs.Sim.{Same, sim_give, sim_fault, sim_then, sim_same, sim_attempted}
use Rattle.machine_code.specs.MarkedEvaluation.{MarkedUnits}
use Rattle.machine_code.specs.MarkedExecution.{MarkedEnd}
use Rattle.machine_code.specs.MarkedRuns.{unmarked_values, marked_function, marked_block, marked_members}
use Rattle.machine_code.specs.MarkedRuns.{marked_members_stored, marked_standard, marked_function_call}
use Rattle.machine_code.specs.MarkedRuns.{marked_instance_call, marked_units_within, marked_ran, without_marks}
use Rattle.machine_code.specs.MarkedRuns.{run_without_marks}
use Rattle.machine_code.proofs.UnmarkedLoops.{Unmarked, ReadRun, StateRun, sim_read, sim_proceed}
use Rattle.machine_code.proofs.UnmarkedEvaluation.{UnitsAlike, look_sim}
use Rattle.machine_code.proofs.UnmarkedExecution.{put_sim, exec_all_sim}

-- ends that are alike are the same without the marks
same_end : (e : MarkedEnd) (f : SlotEnd) → EndsEqually Unmarked e f → without_marks e ≡ f
same_end (goes_on m) (goes_on vs) h = ap goes_on h
same_end (exits m) (exits vs) h = ap exits h
same_end (returns m) (returns vs) h = ap returns h
same_end (goes_on m) (exits vs) h = absurd h
same_end (goes_on m) (returns vs) h = absurd h
same_end (exits m) (goes_on vs) h = absurd h
same_end (exits m) (returns vs) h = absurd h
same_end (returns m) (goes_on vs) h = absurd h
same_end (returns m) (exits vs) h = absurd h

pub state_without : (e : MarkedEnd) → (state_of e).values ≡ state_of (without_marks e)
state_without (goes_on m) = refl
state_without (exits m) = refl
state_without (returns m) = refl

same_state : (e : MarkedEnd) (f : SlotEnd) → EndsEqually Unmarked e f → Unmarked (state_of e) (state_of f)
same_state e f h = subst (λ d. Unmarked (state_of e) (state_of d)) (same_end e f h) (state_without e)

module _ (t : StuckFaults) where
  -- members one after another
  member_apart : {C : Type 0} {R : C → List Datum → Type 0} (m : Run C) (o : Option Datum) (p : Option (List Datum))
      → RunEqually C (List Datum) R m (attempt t (or_failure ill_typed o)
      >>= (λ v. attempt t (or_failure ill_typed p) >>= (λ xs. give (v ∷ xs))))
      → RunEqually C (List Datum) R m
      (attempt t (or_failure ill_typed (option_and_then (λ v. option_map (λ xs. v ∷ xs) p) o)))
  member_apart m (Some v) (Some xs) h = h
  member_apart m (Some v) None h = h
  member_apart m None p h = h

  members_sim : (ms : List BlockMember) (k : ℕ) (m : Tracked) (vs : Slots) → Unmarked m vs
      → ReadRun (List Datum) vs (marked_members t ms k m) (attempt t (or_failure ill_typed (member_slots vs k ms)))
  members_sim [] k m vs h = sim_give ([], m) [] (refl, h)
  members_sim (x ∷ ms) k m vs h =
      member_apart (marked_members t (x ∷ ms) k m) (slice_get vs k) (member_slots vs (suc k) ms)
      (sim_read _ _ (look_sim t ill_typed m k vs h) (λ v n g.
      sim_read _ _ (members_sim ms (suc k) n vs g) (λ xs i e. sim_give (v ∷ xs, i) (v ∷ xs) (refl, e))))

  members_stored_sim : (ms : List BlockMember) (k : ℕ) (xs : List Datum) (m : Tracked) (vs : Slots) → Unmarked m vs
      → StateRun (marked_members_stored t ms k xs m) (attempt t (members_stored vs k ms xs))
  members_stored_sim (x ∷ ms) k (v ∷ xs) m vs h =
      sim_proceed t (stored_at vs k v) (λ us. members_stored us (suc k) ms xs)
      (sim_then (put_sim t m k v vs h) (λ n us g. members_stored_sim ms (suc k) xs n us g))
  members_stored_sim [] k xs m vs h = sim_give m vs h
  members_stored_sim (x ∷ ms) k [] m vs h = sim_give m vs h

  standard_sim : (b : StandardBlock) (now at : ℕ) (m : Tracked) (vs : Slots) → Unmarked m vs
      → StateRun (marked_standard t b now at m) (slot_standard t b now at vs)
  standard_sim b now at m vs h =
      sim_read _ _ (members_sim (members_of b) at m vs h) (λ xs n g.
      members_stored_sim (members_of b) at (stepped b now xs) n vs g)

  module _ (units : MarkedUnits) (others : SlotUnits) (alike : UnitsAlike units others) where
    result_sim : (k : ℕ) (us vs : Slots) → us ≡ vs
        → RunEqually Datum Datum (Same Datum) (attempt t (or_failure ill_typed (slice_get us k)))
        (attempt t (or_failure ill_typed (slice_get vs k)))
    result_sim k us vs h =
        subst (λ ws. RunEqually Datum Datum (Same Datum) (attempt t (or_failure ill_typed (slice_get us k)))
        (attempt t (or_failure ill_typed (slice_get ws k)))) h
        (sim_attempted t (or_failure ill_typed (slice_get us k)))

    function_sim : (f : SlotFunction) (xs : List Datum)
        → RunEqually Datum Datum (Same Datum) (marked_function t units f xs) (slot_function t others f xs)
    function_sim f xs =
        sim_same (sim_attempted t (bound_input_slots f.fresh f.inputs xs)) (λ vs.
        sim_then (exec_all_sim t units others alike 0 f.body (unmarked_values vs) vs refl) (λ e d h.
        result_sim f.result (state_of e).values (state_of d) (same_state e d h)))

    block_sim : (body : SlotStmts) (at : ℕ) (m : Tracked) (vs : Slots) → Unmarked m vs
        → StateRun (marked_block t units body at m) (slot_block t others body at vs)
    block_sim body at m vs h =
        sim_then (exec_all_sim t units others alike at body m vs h) (λ e d g.
        sim_give (state_of e) (state_of d) (same_state e d g))

    function_call_sim : (library : SlotLibrary) (f : ℕ) (xs : List Datum)
        → RunEqually Datum Datum (Same Datum) (marked_function_call t library units f xs)
        (slot_function_call t library others f xs)
    function_call_sim library f xs =
        sim_same (sim_attempted t (or_failure ill_typed (slice_get library.functions f))) (λ g. function_sim g xs)

    instance_call_sim : (library : SlotLibrary) (now : ℕ) (code : BlockCode) (at : ℕ) (m : Tracked) (vs : Slots)
        → Unmarked m vs
        → StateRun (marked_instance_call t library units now code at m)
        (slot_instance_call t library others now code at vs)
    instance_call_sim library now (standard_block b) at m vs h = standard_sim b now at m vs h
    instance_call_sim library now (own_block i) at m vs h =
        sim_same (sim_attempted t (or_failure ill_typed (slice_get library.blocks i))) (λ body.
        block_sim body at m vs h)

  units_alike : (library : SlotLibrary) (now n : ℕ)
      → UnitsAlike (marked_units_within t library now n) (slot_units_within t library now n)
  unfolding marked_units_within slot_units_within
  units_alike library now zero =
      record { functions = λ f xs. sim_fault Budget; blocks = λ code at m vs h. sim_fault Budget }
  units_alike library now (suc n) =
      let alike = units_alike library now n in
      record {
        functions = λ f xs. function_call_sim (marked_units_within t library now n)
            (slot_units_within t library now n) alike library f xs;
        blocks = λ code at m vs h. instance_call_sim (marked_units_within t library now n)
            (slot_units_within t library now n) alike library now code at m vs h;
      }

same_run : (x : Result (MarkedEnd × ℕ) Fault) (y : Result (SlotEnd × ℕ) Fault) → EndEqually (EndsEqually Unmarked) x y
    → run_without_marks x ≡ y
same_run (Ok r) (Ok q) h = ap₂ (λ e b. Ok (e, b)) (same_end r.0 q.0 h.0) h.1
same_run (Err e) (Err f) h = ap Err h
same_run (Ok r) (Err f) h = absurd h
same_run (Err e) (Ok q) h = absurd h

-- marks change nothing of a program's effect
pub runs_without_marks : (t : StuckFaults) (library : SlotLibrary) (base : ℕ) (body : SlotStmts) (now depth : ℕ)
    (m : Tracked) (b : ℕ)
    → run_without_marks (marked_ran t library base body now depth m b) ≡ slots_ran t library base body now depth
    m.values b
unfolding marked_ran slots_ran
runs_without_marks t library base body now depth m b =
    same_run _ _ ((exec_all_sim t (marked_units_within t library now depth) (slot_units_within t library now depth)
    (units_alike t library now depth) base body m m.values refl).alike b)
