-- Places that are assigned, and the arguments of calls of instances.
use Rattle.std.proofs.Common.{◌≡◌, ℕ, ◌+◌, ◌≤◌, List, [], ◌∷◌, ◌++◌, length, map}
use Rattle.std.proofs.Common.{refl, ap, subst, arith}
use Rattle.st_types.specs.Values.{Datum}
use Rattle.st_meaning.specs.Failures.{StuckFaults, ill_typed}
use Rattle.st_meaning.specs.Ticks.{Run, follow, ◌>>=◌, attempt}
use Rattle.slot_trees.specs.SlotTrees.{Place, place, SlotArgument, given, copied}
use Rattle.slot_trees.specs.SlotEvaluation.{slot_at}
use Rattle.slot_trees.specs.SlotExecution.{Slots, stored_at}
use Rattle.slot_trees.specs.SlotRuns.{bound_input_slots}
use Rattle.machine_code.specs.declared.instr.Instr.TheVariants.{LoadRaw, Store, StoreAt}
use Rattle.machine_code.specs.Tracking.{Tracked}
use Rattle.machine_code.specs.Machine.{Ending, slot_number}
use Rattle.machine_code.specs.Growing.{Code, ◌◂◌}
use Rattle.machine_code.specs.UnitFrames.{UnitFrame, slot_in, end_of}
use Rattle.machine_code.specs.Codes.{CodeUnits, stores_code, given_members, place_code, inputs_code}
use Rattle.machine_code.specs.Codes.{outputs_code}
use Rattle.machine_code.specs.Fitting.{UnitCall, AllBelow, PlaceFits, ArgumentsFit}
use Rattle.machine_code.specs.MarkedEvaluation.{MarkedUnits, marked_place}
use Rattle.machine_code.specs.MarkedExecution.{marked_put, marked_inputs, marked_stored, marked_outputs}
use Rattle.machine_code.specs.MarkedRuns.{unmarked_values}
use Rattle.machine_code.proofs.Places.{Has, same_code, grows_on, put, put_on, part}
use Rattle.machine_code.proofs.Gives as gives
use Rattle.machine_code.proofs.Gives.{Gives, by_eq, bind, attempt_then}
use Rattle.machine_code.proofs.Growth.{expr_grows, place_grows, inputs_grow, outputs_grow, stores_grow}
use Rattle.machine_code.proofs.Regions.{Holds}
use Rattle.machine_code.proofs.Steps.{G, stacked, one, storing, storing_own, looking}
use Rattle.machine_code.proofs.UnitCalls.{UnitsRun}
use Rattle.machine_code.proofs.Expressions.{scope, expr_runs, led_runs, subscripts_run}

-- the values of inputs: the memory still holds the unit's, and they are for these members
pub record Given (memory : ℕ) (s : UnitFrame) (told : ℕ) (below : Tracked) (members : List ℕ)
    (xs : List (ℕ × Datum) × Tracked) (m : Tracked) : Type 0 where
  pub holds : Holds memory s told below xs.1 m
  pub members_are : map (λ e. e.0) xs.0 ≡ members

abbrev pub values_of : List (ℕ × Datum) → List Datum
values_of xs = map (λ e. e.1) xs

-- values on the stack, the first on top, are assigned to slots of a unit
module _ (t : StuckFaults) (now memory : ℕ) (F : Code) (s : UnitFrame) (room : end_of s ≤ memory) (told : ℕ)
    (below : Tracked) where
  -- of a function, whose marks are unknown
  pub begun_runs : (ks : List ℕ) (xs : List Datum) (vs : Slots) (c : Code) (st : List Datum) (m : Tracked) (b : ℕ)
      → length xs ≡ length ks → AllBelow s.size ks → Holds memory s told below (unmarked_values vs) m
      → Has F (length c) (stores_code s.start ks c)
      → Gives (attempt t (bound_input_slots vs ks xs) b) b (λ us n. Holds memory s told below (unmarked_values us) n)
      (λ us n a. G t now F (length c) st n a)
      (G t now F (length (stores_code s.start ks c)) (xs ++ st) m b)
  begun_runs [] [] vs c st m b e lt holds has = gives.given m holds
  begun_runs [] (x ∷ xs) vs c st m b e lt holds has = absurd (omega arith)
  begun_runs (k ∷ ks) [] vs c st m b e lt holds has = absurd (omega arith)
  begun_runs (k ∷ ks) (x ∷ xs) vs c st m b e lt holds has =
      let d = stores_code s.start ks c in
      one t now F d (Store (s.start + k)) (x ∷ (xs ++ st)) m b (part (stores_grow s.start ks c) (same_code _) has)
      (attempt_then t (stored_at vs k x) (λ us. bound_input_slots us ks xs)
      (storing_own t memory s room told below _ _ vs m k x _ b _ holds lt.0 (λ us n h.
      begun_runs ks xs us c st n b (omega arith) lt.1 h (part (same_code c) (put d _) has))))

  pub stored_runs : (at : ℕ) (xs : List (ℕ × Datum)) (vs : Tracked) (c : Code) (st : List Datum) (m : Tracked) (b : ℕ)
      → AllBelow s.size (map (λ e. at + e.0) xs) → Holds memory s told below vs m
      → Has F (length c) (stores_code (s.start + at) (map (λ e. e.0) xs) c)
      → Gives (marked_stored t at xs vs b) b (λ us n. Holds memory s told below us n)
      (λ us n a. G t now F (length c) st n a)
      (G t now F (length (stores_code (s.start + at) (map (λ e. e.0) xs) c)) (values_of xs ++ st) m b)
  stored_runs at [] vs c st m b lt holds has = gives.given m holds
  stored_runs at (x ∷ xs) vs c st m b lt holds has =
      let d = stores_code (s.start + at) (map (λ e. e.0) xs) c in
      let k : s.start + at + x.0 ≡ s.start + (at + x.0) = omega arith in
      let has' = subst (λ j. Has F (length c) (d ◂ Store j)) k has in
      by_eq (ap (λ j. G t now F (length (d ◂ Store j)) (x.1 ∷ (values_of xs ++ st)) m b) k)
      (one t now F d (Store (s.start + (at + x.0))) (x.1 ∷ (values_of xs ++ st)) m b
      (part (stores_grow (s.start + at) (map (λ e. e.0) xs) c) (same_code _) has')
      (storing t memory s room told below _ _ vs m (at + x.0) x.1 _ b _ holds lt.0 (λ us n h.
      stored_runs at xs us c st n b lt.1 h (part (same_code c) (put d _) has'))))

module _ (t : StuckFaults) (now memory : ℕ) (small : memory ≤ 65536) (F : Code) (units : MarkedUnits) (codes : CodeUnits)
    (CallFits : UnitCall → Type 0) (run : UnitsRun t now memory F units codes CallFits) (s : UnitFrame)
    (room : end_of s ≤ memory) (told : ℕ) (below : Tracked) where
  -- a value on the stack is assigned to a place
  pub storing_place : {B : Type 0} (p : Place) (c : Code) (st : List Datum) (x : Datum) (f : Tracked → Run B)
      (Good : B → Tracked → Type 0) (on : B → Tracked → ℕ → Ending Tracked) (vs m : Tracked) (b : ℕ)
      → PlaceFits CallFits s p → Holds memory s told below vs m
      → Has F (length c) (place_code codes s p Store StoreAt c)
      → ((us n : Tracked) (a : ℕ) → Holds memory s told below us n
      → Gives (f us a) a Good on (G t now F (length c) st n a))
      → Gives (follow (marked_place (scope t now memory small F units codes CallFits run s room told below) vs p b)
      (λ k. marked_put t k.1 k.0 x >>= f)) b Good on
      (G t now F (length (place_code codes s p Store StoreAt c)) (x ∷ st) m b)
  storing_place (place a ss) c st x f Good on vs m b fits holds has next =
      led_runs t now memory small F units codes CallFits run s room told below ss (slot_at s.base a) Store StoreAt c
      (x ∷ st) _ Good on vs m b
      (λ has. one t now F c (Store (slot_in s a)) (x ∷ st) m b has
      (storing t memory s room told below Good on vs m (slot_at s.base a) x f b _ holds
      (let l = fits.0 in omega arith) (λ us n h. next us n b h)))
      (λ j us n b at has. one t now F c StoreAt (slot_number (s.start + j) ∷ x ∷ st) n b has
      (storing t memory s room told below Good on us n j x f b _ at.holds at.within (λ us n h. next us n b h)))
      (λ has. subscripts_run t now memory small F units codes CallFits run s room told below ss
      (slot_at s.base a) (c ◂ StoreAt) (x ∷ st) vs m b fits.0 fits.1 holds has)
      has

  pub inputs_run : (at : ℕ) (arguments : List SlotArgument) (c : Code) (st : List Datum) (vs m : Tracked) (b : ℕ)
      → ArgumentsFit CallFits s at arguments → Holds memory s told below vs m
      → Has F (length c) (inputs_code codes s arguments c)
      → Gives (marked_inputs (scope t now memory small F units codes CallFits run s room told below) vs arguments b) b
      (Given memory s told below (given_members arguments))
      (λ xs n a. G t now F (length c) (stacked (values_of xs.0) st) n a)
      (G t now F (length (inputs_code codes s arguments c)) st m b)
  inputs_run at [] c st vs m b fits holds has = gives.given m (record { holds = holds; members_are = refl })
  inputs_run at (given o e ∷ rest) c st vs m b fits holds has =
      let d = inputs_code codes s rest c in
      bind _ (expr_runs t now memory small F units codes CallFits run s room told below e d st vs m b fits.1 holds
      (part (inputs_grow codes run.grow s rest c) (same_code _) has)) (λ v n a good le.
      bind _ (inputs_run at rest c (v.0 ∷ st) v.1 n a fits.2 good
      (part (same_code c) (expr_grows codes run.grow s e d) has)) (λ xs k f done le.
      gives.given k (record { holds = done.holds; members_are = ap (λ ks. o ∷ ks) done.members_are })))
  inputs_run at (copied o p ∷ rest) c st vs m b fits holds has = inputs_run at rest c st vs m b fits.2 holds has

  pub outputs_run : (at : ℕ) (arguments : List SlotArgument) (c : Code) (st : List Datum) (vs m : Tracked) (b : ℕ)
      → ArgumentsFit CallFits s at arguments → Holds memory s told below vs m
      → Has F (length c) (outputs_code codes s at arguments c)
      → Gives (marked_outputs (scope t now memory small F units codes CallFits run s room told below) at arguments vs b)
      b (λ us n. Holds memory s told below us n) (λ us n a. G t now F (length c) st n a)
      (G t now F (length (outputs_code codes s at arguments c)) st m b)
  outputs_run at [] c st vs m b fits holds has = gives.given m holds
  outputs_run at (given o e ∷ rest) c st vs m b fits holds has = outputs_run at rest c st vs m b fits.2 holds has
  outputs_run at (copied o p ∷ rest) c st vs m b fits holds has =
      let d = outputs_code codes s at rest c in
      let q = place_code codes s p Store StoreAt d in
      let low = outputs_grow codes run.grow s at rest c in
      let up = place_grows codes run.grow s p Store StoreAt d in
      one t now F q (LoadRaw (s.start + (at + o))) st m b (part (grows_on low up) (same_code _) has)
      (looking t memory s room told below _ _ ill_typed vs m (at + o) _ b _ holds fits.0 (λ v us n h.
      storing_place p d st v _ _ _ us n b fits.1 h (part low (put _ _) has) (λ us n a h.
      outputs_run at rest c st us n a fits.2 h (part (same_code c) (put_on _ up) has))))
