-- The code of units does what they do, whatever they call.
use Rattle.std.proofs.Common.{◌≡◌, ℕ, zero, suc, ◌+◌, ◌≤◌, List, [], ◌∷◌, ◌++◌, length, Option, Some, None}
use Rattle.std.proofs.Common.{refl, sym, ap, ◌∙◌, arith}
use Rattle.std.specs.Prelude.{slice_get}
use Rattle.st_types.specs.Values.{Datum}
use Rattle.st_meaning.specs.Failures.{StuckFaults, ill_typed, or_failure}
use Rattle.st_meaning.specs.StandardBlocks.{StandardBlock, BlockMember, members_of}
use Rattle.st_meaning.specs.StandardBlocks as blocks
use Rattle.st_meaning.specs.Ticks.{Run, follow, attempt}
use Rattle.symbols.specs.Standard.{block_view}
use Rattle.slot_trees.specs.SlotTrees.{BlockCode, own_block, standard_block, SlotStmts, SlotFunction, SlotLibrary}
use Rattle.slot_trees.specs.SlotRuns.{state_of}
use Rattle.machine_code.specs.declared.instr.Instr.TheVariants.{Push, LoadRaw, StoreRaw, Step, Reverse}
use Rattle.machine_code.specs.Tracking.{Tracked, tracking, overwritten, assigned_slot}
use Rattle.machine_code.specs.Machine.{Ending, on_result, on_members, on_stored}
use Rattle.machine_code.proofs.MarkLemmas.{set_long, within_there}
use Rattle.machine_code.specs.Growing.{Code, ◌◂◌}
use Rattle.machine_code.specs.UnitFrames.{UnitFrame, end_of, call_frame}
use Rattle.machine_code.specs.Codes.{CodeUnits, block_code, body_targets, stores_code, stmts_code}
use Rattle.machine_code.specs.Calls.{resets_code, called_code, body_code, instance_code, units_code}
use Rattle.machine_code.specs.Fitting.{UnitCall, IfFunctionFits, IfBodyFits}
use Rattle.machine_code.specs.Fitting.{InstanceFits, StmtsFit, CallFitsWithin}
use Rattle.machine_code.specs.MarkedEvaluation.{MarkedUnits, marked_look}
use Rattle.machine_code.specs.MarkedExecution.{marked_exec_all}
use Rattle.machine_code.specs.MarkedRuns.{unmarked_values, marked_function, marked_block, marked_members}
use Rattle.machine_code.specs.MarkedRuns.{marked_members_stored, marked_standard, marked_instance_call}
use Rattle.machine_code.specs.MarkedRuns.{marked_units_within}
use Rattle.machine_code.proofs.Places.{Has, same_code, grows_on, put, put_on, part}
use Rattle.machine_code.proofs.Gives.{Gives, by_eq, going, given, bind, apart}
use Rattle.machine_code.proofs.Growth.{stores_grow, resets_grow, stmts_grow, units_grow}
use Rattle.machine_code.proofs.Regions.{Holds, Frame, reset_all, holds_reset, frame_of}
use Rattle.machine_code.proofs.Steps.{G, stacked, tops, one, stepped, storing, looking, looking_last}
use Rattle.machine_code.proofs.UnitCalls.{UnitsRun}
use Rattle.machine_code.proofs.Arguments.{begun_runs}
use Rattle.machine_code.proofs.Statements.{fine_body, ends_call, stmts_run}

pub block_is : (b : StandardBlock) → block_view (block_code b) ≡ b
block_is blocks.SR = refl
block_is blocks.RS = refl
block_is blocks.R_TRIG = refl
block_is blocks.F_TRIG = refl
block_is blocks.CTU = refl
block_is blocks.CTD = refl
block_is blocks.CTUD = refl
block_is blocks.TON = refl
block_is blocks.TOF = refl
block_is blocks.TP = refl

module _ (t : StuckFaults) (now memory : ℕ) (small : memory ≤ 65536) (F : Code) where
  abbrev At : Code → List Datum → Tracked → ℕ → Ending Tracked
  At c st m a = G t now F (length c) st m a

  reset_here : (k : ℕ) (v : Datum) (m : Tracked) (o : Option Datum) (next : Tracked → Ending Tracked)
      → (w : Datum) × (o ≡ Some w)
      → on_result t (or_failure ill_typed (overwritten m k v o)) m next ≡ next (assigned_slot m k v)
  reset_here k v m o next there = rw there.1 refl

  -- a function's variables are put
  resets_run : (k : ℕ) (vs : List Datum) (c : Code) (st : List Datum) (m : Tracked) (b : ℕ)
      → k + length vs ≤ length m.values → Has F (length c) (resets_code k vs c)
      → At (resets_code k vs c) st m b ≡ At c st (reset_all k vs m) b
  resets_run k [] c st m b le has = refl
  resets_run k (v ∷ vs) c st m b le has =
      let d = resets_code (suc k) vs c in
      let g = resets_grow (suc k) vs c in
      stepped t now F (d ◂ StoreRaw k) (Push v) st m b (part (put_on _ g) (same_code _) has)
      ∙ stepped t now F d (StoreRaw k) (v ∷ st) m b (part g (put _ _) has)
      ∙ reset_here k v m (slice_get m.values k) (λ n. At d st n b) (within_there m.values k (omega arith))
      ∙ resets_run (suc k) vs c st (assigned_slot m k v) b (let l = set_long m.values k v in omega arith)
      (part (same_code c) (put_on _ (put d _)) has)

  module _ (units : MarkedUnits) (codes : CodeUnits) (CallFits : UnitCall → Type 0)
      (run : UnitsRun t now memory F units codes CallFits) where
    -- a body in the place of its call
    body_runs : (body : SlotStmts) (s : UnitFrame) (told : ℕ) (below vs : Tracked) (c : Code) (st : List Datum)
        (m : Tracked) (b : ℕ) → StmtsFit CallFits s body → end_of s ≤ memory → Holds memory s told below vs m
        → Has F (length c) (stmts_code codes s body (body_targets (length c)) c)
        → Gives (marked_exec_all (record { units = units; base = s.base; stuck_faults = t }) body vs b) b
        (λ e n. Holds memory s told below (state_of e) n) (λ e n a. At c st n a)
        (At (stmts_code codes s body (body_targets (length c)) c) st m b)
    body_runs body s told below vs c st m b fits room holds has =
        going (λ e n a. ends_call t now memory small F units codes CallFits run s room told below c st e n a)
        (stmts_run t now memory small F units codes CallFits run s room told below body (body_targets (length c)) c st st
        vs m b fits (fine_body c st) holds has)

    called_runs : (o : Option SlotFunction) (start : ℕ) (xs : List Datum) (c : Code) (st : List Datum) (m : Tracked)
        (b : ℕ) → IfFunctionFits CallFits memory o start (length xs) → length m.values ≡ memory
        → Has F (length c) (called_code codes o start c)
        → Gives (follow (attempt t (or_failure ill_typed o) b) (λ g. marked_function t units g xs)) b
        (λ v n. Frame memory start m n) (λ v n a. At c (v ∷ st) n a) (At (called_code codes o start c)
        (stacked xs st) m b)
    called_runs None start xs c st m b fits long has = absurd fits
    called_runs (Some f) start xs c st m b fits long has =
        let s = call_frame start (length f.fresh) in
        let d = c ◂ LoadRaw (start + f.result) in
        let body = stmts_code codes s f.body (body_targets (length d)) d in
        let stores = stores_code start f.inputs body in
        let resets = resets_code start f.fresh stores in
        let g1 = stmts_grow codes run.grow s f.body (body_targets (length d)) d in
        let g2 = stores_grow start f.inputs body in
        let g3 = resets_grow start f.fresh stores in
        let top = put_on (Reverse (length f.inputs)) (same_code resets) in
        let fresh = holds_reset memory start f.fresh m long fits.room in
        one t now F resets (Reverse (length f.inputs)) (stacked xs st) m b
        (part (grows_on (put c _) (grows_on g1 (grows_on g2 g3))) (same_code _) has)
        (by_eq (tops t xs (length f.inputs) st m _ fits.arguments
        ∙ resets_run start f.fresh stores (xs ++ st) m b (let r = fits.room in omega arith)
        (part (grows_on (put c _) (grows_on g1 g2)) top has))
        (bind _ (begun_runs t now memory F s fits.room 0 m f.inputs xs f.fresh body st (reset_all start f.fresh m) b
        fits.arguments fits.inputs fresh (part (grows_on (put c _) g1) (grows_on g3 top) has)) (λ vs n a h le.
        bind _ (body_runs f.body s 0 m (unmarked_values vs) d st n a fits.body fits.room h
        (part (put c _) (grows_on g2 (grows_on g3 top)) has))
        (λ e k i h le.
        one t now F c (LoadRaw (start + f.result)) st k i
        (part (same_code c) (grows_on g1 (grows_on g2 (grows_on g3 top))) has)
        (looking_last t memory s fits.room 0 m (λ v j. Frame memory start m j) _ (state_of e) k f.result i h
        fits.result (λ v us j q. frame_of memory s 0 m us j q))))))

    block_runs : (o : Option SlotStmts) (s : UnitFrame) (told : ℕ) (below vs : Tracked) (c : Code) (st : List Datum)
        (m : Tracked) (b : ℕ) → IfBodyFits CallFits o s → end_of s ≤ memory → Holds memory s told below vs m
        → Has F (length c) (body_code codes o s c)
        → Gives (follow (attempt t (or_failure ill_typed o) b) (λ body. marked_block t units body s.base vs)) b
        (λ us n. Holds memory s told below us n) (λ us n a. At c st n a) (At (body_code codes o s c) st m b)
    block_runs None s told below vs c st m b fits room holds has = absurd fits
    block_runs (Some body) s told below vs c st m b fits room holds has =
        bind _ (body_runs body s told below vs c st m b fits room holds has) (λ e n a h le. given n h)

  -- a standard block: its members are looked at, and stored once they stepped
  module _ (s : UnitFrame) (room : end_of s ≤ memory) (told : ℕ) (below : Tracked) where
    members_run : {B : Type 0} (Good : B → Tracked → Type 0) (on : B → Tracked → ℕ → Ending Tracked)
        (ms : List BlockMember) (k : ℕ) (vs m : Tracked) (f : List Datum × Tracked → Run B) (b : ℕ)
        (next : List Datum → Tracked → Ending Tracked) → k + length ms ≤ s.size → Holds memory s told below vs m
        → ((xs : List Datum) (us n : Tracked) → Holds memory s told below us n
        → Gives (f (xs, us) b) b Good on (next xs n))
        → Gives (follow (marked_members t ms k vs b) f) b Good on (on_members tracking t ms (s.start + k) m next)
    members_run Good on [] k vs m f b next le holds h = h [] vs m holds
    members_run Good on (x ∷ ms) k vs m f b next le holds h =
        apart (marked_look t ill_typed vs k b) _ f
        (looking t memory s room told below Good on ill_typed vs m k _ b _ holds (omega arith) (λ v us n g.
        (let e : s.start + suc k ≡ suc (s.start + k) = omega arith in
        by_eq (ap (λ j. on_members tracking t ms j n (λ xs. next (v ∷ xs))) (sym e))
        (apart (marked_members t ms (suc k) us b) _ f
        (members_run Good on ms (suc k) us n _ b (λ xs. next (v ∷ xs)) (omega arith) g
        (λ xs us n q. h (v ∷ xs) us n q))))))

    stored_members : (ms : List BlockMember) (k : ℕ) (xs : List Datum) (vs m : Tracked) (c : Code)
        (st : List Datum) (b : ℕ) → k + length ms ≤ s.size → Holds memory s told below vs m
        → Gives (marked_members_stored t ms k xs vs b) b (λ us n. Holds memory s told below us n)
        (λ us n a. At c st n a) (on_stored tracking t ms (s.start + k) xs m (λ n. At c st n b))
    stored_members (x ∷ ms) k (v ∷ xs) vs m c st b le holds =
        let e : s.start + suc k ≡ suc (s.start + k) = omega arith in
        storing t memory s room told below _ _ vs m k v _ b _ holds (omega arith) (λ us n h.
        by_eq (ap (λ j. on_stored tracking t ms j xs n (λ n. At c st n b)) (sym e))
        (stored_members ms (suc k) xs us n c st b (omega arith) h))
    stored_members [] k xs vs m c st b le holds = given m holds
    stored_members (x ∷ ms) k [] vs m c st b le holds = given m holds

    standard_runs : (k : StandardBlock) (vs : Tracked) (c : Code) (st : List Datum) (m : Tracked) (b : ℕ)
        → s.base + length (members_of k) ≤ s.size → Holds memory s told below vs m
        → Has F (length c) (c ◂ Step (block_code k) (s.start + s.base))
        → Gives (marked_standard t k now s.base vs b) b (λ us n. Holds memory s told below us n)
        (λ us n a. At c st n a) (At (c ◂ Step (block_code k) (s.start + s.base)) st m b)
    standard_runs k vs c st m b fits holds has =
        one t now F c (Step (block_code k) (s.start + s.base)) st m b has
        (by_eq (ap (λ j. on_members tracking t (members_of j) (s.start + s.base) m (λ xs n.
        on_stored tracking t (members_of j) (s.start + s.base) (blocks.stepped j now xs) n (λ n. At c st n b)))
        (block_is k))
        (members_run _ _ (members_of k) s.base vs m _ b _ fits holds (λ xs us n h.
        stored_members (members_of k) s.base (blocks.stepped k now xs) us n c st b fits h)))

  module _ (library : SlotLibrary) (units : MarkedUnits) (codes : CodeUnits) (CallFits : UnitCall → Type 0)
      (run : UnitsRun t now memory F units codes CallFits) where
    instance_runs : (code : BlockCode) (s : UnitFrame) (told : ℕ) (below vs : Tracked) (c : Code) (st : List Datum)
        (m : Tracked) (b : ℕ) → InstanceFits CallFits library code s → end_of s ≤ memory
        → Holds memory s told below vs m → Has F (length c) (instance_code library codes code s c)
        → Gives (marked_instance_call t library units now code s.base vs b) b
        (λ us n. Holds memory s told below us n) (λ us n a. At c st n a)
        (At (instance_code library codes code s c) st m b)
    instance_runs (standard_block k) s told below vs c st m b fits room holds has =
        standard_runs s room told below k vs c st m b fits holds has
    instance_runs (own_block i) s told below vs c st m b fits room holds has =
        block_runs units codes CallFits run (slice_get library.blocks i) s told below vs c st m b fits room holds has

  -- units with calls at most n deep
  pub units_run : (library : SlotLibrary) (n depth : ℕ) → n ≤ depth
      → UnitsRun t now memory F (marked_units_within t library now depth) (units_code library n)
      (CallFitsWithin memory library n)
  unfolding marked_units_within units_code CallFitsWithin
  units_run library zero depth le = record {
    grow = units_grow library zero;
    functions = λ f start xs c st m b fits long has. absurd fits;
    blocks = λ code s told below vs c st m b fits room holds has. absurd fits;
  }
  units_run library (suc n) zero le = absurd (omega arith)
  units_run library (suc n) (suc depth) le =
      let run = units_run library n depth (omega arith) in
      record {
        grow = units_grow library (suc n);
        functions = λ f start xs c st m b fits long has.
            called_runs (marked_units_within t library now depth) (units_code library n)
            (CallFitsWithin memory library n)
            run (slice_get library.functions f) start xs c st m b fits long has;
        blocks = λ code s told below vs c st m b fits room holds has.
            instance_runs library (marked_units_within t library now depth) (units_code library n)
            (CallFitsWithin memory library n) run code s told below vs c st m b fits room holds has;
      }
