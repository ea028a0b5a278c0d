-- A run of quick code that ends well ends as the instructions of the same program.
use Rattle.std.proofs.Common.{◌≡◌, ℕ, zero, suc, ◌+◌, ◌≤◌, List, [], ◌∷◌, ◌++◌, length, take}
use Rattle.std.proofs.Common.{Result, Ok, Err, sym, ap, ap₂, subst, ◌∙◌, arith, length-append}
use Rattle.std.specs.Prelude.{false, replicate}
use Rattle.st_types.specs.declared.fault.Fault.{Fault}
use Rattle.st_types.specs.declared.kind.Kind.{Kind}
use Rattle.st_types.specs.Values.{Datum, bool_datum}
use Rattle.st_meaning.specs.Failures.{StuckFaults, in_runs}
use Rattle.machine_code.specs.declared.instr.Instr.{Instr}
use Rattle.machine_code.specs.declared.mark.Mark.{Mark}
use Rattle.machine_code.specs.Machine.{Ending, finished, failed, runs}
use Rattle.machine_code.specs.Tracking.{Tracked, tracked, tracking}
use Rattle.slot_trees.specs.SlotTrees.{SlotLibrary, SlotStmts}
use Rattle.slot_trees.specs.SlotRuns.{state_of}
use Rattle.machine_code.specs.MarkedExecution.{MarkedEnd}
use Rattle.machine_code.specs.MarkedPrograms.{MarkedEndsAs}
use Rattle.machine_code.specs.MarkedRuns.{marked_ran}
use Rattle.machine_code.specs.Programs.{program_code, ProgramFits}
use Rattle.quick_code.specs.QuickRuns.{EndsWell, Left}
use Rattle.quick_code.specs.QuickSteps.{Memory}
use Rattle.quick_trees.specs.Notes.{AreTrueOf}
use Rattle.quick_trees.specs.Points.{Point}
use Rattle.quick_trees.specs.Programs.{beginning, EndsAs, IsProgram}
use Rattle.quick_trees.specs.QuickMemory.{EndsWellAt, Frame, first_temporary}
use Rattle.quick_trees.specs.UnitValues.{IsMemory, whole}
use Rattle.quick_trees.proofs.Lists.{replicate_long}
use Rattle.slot_code.specs.declared.parts.QuickParts.{QuickParts}
use Rattle.quick_trees.specs.Windows.{StaysOutside}
use Rattle.slot_code.specs.Quick.{AnswersFor, HasEnded, frame_of, kinds_of, run_of, unmarked, unmarked_slots}
use Rattle.st_types.proofs.ListLemmas.{length_map}

-- `n` and `k` equal elements
replicate_both : {A : Type 0} (n k : ℕ) (v : A) → replicate (n + k) v ≡ replicate n v ++ replicate k v
replicate_both zero k v = (let at : 0 + k ≡ k = omega arith in ap (λ j. replicate j v) at)
replicate_both (suc n) k v =
    (let at : suc n + k ≡ suc (n + k) = omega arith in
    ap (λ j. replicate j v) at ∙ ap (λ xs. v ∷ xs) (replicate_both n k v))

-- the words and notes encode the same for whatever unit has all slots
told_of : (f : Frame) (base : ℕ) (at : Point) (m : Memory) (t : Tracked) → at.noted ≡ (beginning f).noted
    → IsMemory f (whole base) at m t → IsMemory f (whole 0) (beginning f) m t
told_of f base at m t exact is = record {
  room = is.room;
  long = is.long;
  values = is.values;
  marks = subst (λ ns. AreTrueOf f.window ns t.marks m.notes) exact is.marks;
}

of_base : (f : Frame) (base : ℕ) (m : Memory) (t : Tracked) → IsMemory f (whole 0) (beginning f) m t
    → IsMemory f (whole base) (beginning f) m t
of_base f base m t is = record { room = is.room; long = is.long; values = is.values; marks = is.marks }

-- A program that ends as a run of quick code, and a run of instructions that ends as the program.
ended : (f : Frame) (base : ℕ) (vs : List Datum) (e : Left) (o : Result (MarkedEnd × ℕ) Fault) (r : Ending Tracked)
    → EndsAs f base (unmarked_slots vs) o e → MarkedEndsAs (length vs) o r → HasEnded f vs e r
ended f base vs e (Ok x) (finished m b) tells so =
    let n = length vs in
    let same : x ≡ (tells.end, e.ticks) = cc in
    let state = state_of tells.end in
    let values : take n m.values ≡ state.values = so.1 ∙ ap (λ (y : MarkedEnd × ℕ). (state_of y.0).values) same in
    let marks : take n m.marks ≡ state.marks = so.2 ∙ ap (λ (y : MarkedEnd × ℕ). (state_of y.0).marks) same in
    let ticks : b ≡ e.ticks = so.0 ∙ ap (λ (y : MarkedEnd × ℕ). y.1) same in record {
      memory = m;
      is = ap (finished m) ticks;
      told = subst (λ (t : Tracked). IsMemory f (whole 0) (beginning f) e.memory t)
          (ap₂ tracked (sym values) (sym marks)) (told_of f base tells.at e.memory state tells.exact tells.is);
      stays = subst (λ (t : Tracked). StaysOutside f.window (unmarked_slots vs) t) (ap₂ tracked (sym values) (sym
          marks))
          tells.stays;
      marks = ap length so.2 ∙ so.3;
    }
ended f base vs e (Ok x) (failed m g) tells so = absurd so
ended f base vs e (Err g) (finished m b) tells so = absurd so
ended f base vs e (Err g) (failed m h) tells so =
    (let wrong : Err g ≡ Ok (tells.end, e.ticks) = tells.gives in absurd cc)

-- the law of quick code, and that of instructions
abbrev pub QuickLaw : Type 0
QuickLaw =
    (stuck_faults : StuckFaults) (library : SlotLibrary) (base calls depth budget : ℕ) (body : SlotStmts) (f : Frame)
    (m : Memory) (t : Tracked) (e : Left) → IsProgram f library base calls body → calls ≤ depth
    → IsMemory f (whole base) (beginning f) m t → EndsWellAt f 0 m budget e
    → EndsAs f base t (marked_ran stuck_faults library base body f.now depth t budget) e

abbrev pub MarkedLaw : Type 0
MarkedLaw =
    (stuck_faults : StuckFaults) (library : SlotLibrary) (base : ℕ) (body : SlotStmts) (now n depth memory : ℕ)
    (vs rest : List Datum) (marks others : List Mark) (budget : ℕ)
    → ProgramFits memory library base (length vs) body n → n ≤ depth → length (vs ++ rest) ≡ memory
    → length marks ≡ length vs → let code = program_code library base (length vs) body n in
    MarkedEndsAs (length vs) (marked_ran stuck_faults library base body now depth (tracked vs marks) budget)
    (runs tracking stuck_faults now code (length code) [] (tracked (vs ++ rest) (marks ++ others)) budget)

module _ (quick : QuickLaw) (marked : MarkedLaw) (library : SlotLibrary) (base calls depth extra : ℕ)
    (body : SlotStmts) (kinds : List Kind) (p : QuickParts) (window : List ℕ)
    (stands : (now : ℕ) → IsProgram (frame_of p window kinds now) library base calls body)
    (room : first_temporary (frame_of p window kinds 0) ≤ p.words)
    (fits : ProgramFits (length kinds + extra) library base (length kinds) body depth) where
  abbrev code_over : ℕ → List Instr
  code_over n = program_code library base n body depth

  -- the run of instructions over values of the types
  module _ (now budget : ℕ) (vs : List Datum) (memory : Memory) (e : Left) (typed : kinds_of vs ≡ kinds) where
    as_many : length kinds ≡ length vs
    as_many = ap length (sym typed) ∙ length_map (λ (v : Datum). v.kind) vs

    abbrev rest : List Datum
    rest = replicate extra (bool_datum false)

    abbrev marks : List Mark
    marks = replicate (length vs) unmarked

    ends_so : MarkedEndsAs (length vs)
        (marked_ran in_runs library base body now (calls + depth) (tracked vs marks) budget)
        (run_of (code_over (length kinds)) extra now vs budget)
    ends_so =
        let memory_long = length-append vs rest in
        let rest_long = replicate_long extra (bool_datum false) in
        let fits_here = subst (λ n. ProgramFits (n + extra) library base n body depth) as_many fits in
        let whole_run = marked in_runs library base body now depth (calls + depth) (length vs + extra) vs rest marks
        (replicate extra unmarked) budget fits_here (omega arith) (omega (arith, memory_long, rest_long))
        (replicate_long (length vs) unmarked) in
        subst (λ n. MarkedEndsAs (length vs)
        (marked_ran in_runs library base body now (calls + depth) (tracked vs marks) budget)
        (run_of (code_over n) extra now vs budget)) (sym as_many)
        (subst (λ ms. MarkedEndsAs (length vs)
        (marked_ran in_runs library base body now (calls + depth) (tracked vs marks) budget)
        (runs tracking in_runs now (code_over (length vs)) (length (code_over (length vs))) []
        (tracked (vs ++ rest) ms) budget)) (sym (replicate_both (length vs) extra unmarked)) whole_run)

    pub has_ended : let f = frame_of p window kinds now in
        IsMemory f (whole 0) (beginning f) memory (unmarked_slots vs)
        → EndsWell p.code.instrs.items p.code.ways.items now 0 memory budget e
        → HasEnded f vs e (run_of (code_over (length kinds)) extra now vs budget)
    has_ended is runs =
        let f = frame_of p window kinds now in
        ended f base vs e _ _
        (quick in_runs library base calls (calls + depth) budget body f memory (unmarked_slots vs) e (stands now)
        (omega arith) (of_base f base memory (unmarked_slots vs) is) runs) ends_so

  pub answers : AnswersFor (code_over (length kinds)) kinds extra p window
  answers =
      record {
        room = room;
        ends = λ now budget vs memory e typed is runs. has_ended now budget vs memory e typed is
            runs;
      }
