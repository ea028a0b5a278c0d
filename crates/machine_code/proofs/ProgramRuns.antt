-- The machine does on a program's code what the program does.
use Rattle.std.proofs.Common.{◌≡◌, ℕ, ◌+◌, ◌≤◌, List, [], ◌++◌, length, Result, Ok, Err, refl, sym, subst}
use Rattle.std.proofs.Common.{◌∙◌, arith, replicate, false}
use Rattle.std.proofs.lemmas.List.{length-replicate}
use Rattle.st_types.specs.Values.{Datum}
use Rattle.st_types.specs.declared.fault.Fault.{Fault}
use Rattle.st_meaning.specs.Failures.{StuckFaults}
use Rattle.slot_trees.specs.SlotTrees.{SlotStmts, SlotLibrary}
use Rattle.slot_trees.specs.SlotRuns.{state_of, slots_ran}
use Rattle.machine_code.specs.declared.mark.Mark.{Mark}
use Rattle.machine_code.specs.Tracking.{Tracked, tracked, tracking, unmarked}
use Rattle.machine_code.specs.Memories.{plain}
use Rattle.machine_code.specs.Machine.{Ending, finished, failed, runs}
use Rattle.machine_code.proofs.Fixpoint.{at_end}
use Rattle.machine_code.proofs.Tracks.{marked_runs_alike}
use Rattle.machine_code.specs.Growing.{Code}
use Rattle.machine_code.specs.Codes.{body_targets, stmts_code}
use Rattle.machine_code.specs.Calls.{units_code}
use Rattle.machine_code.specs.Fitting.{CallFitsWithin}
use Rattle.machine_code.specs.Programs.{program_frame, program_code, ProgramFits, MachineEndsAs}
use Rattle.machine_code.specs.MarkedExecution.{MarkedEnd}
use Rattle.machine_code.specs.MarkedRuns.{marked_ran, marked_units_within, run_without_marks}
use Rattle.machine_code.specs.MarkedPrograms.{MarkedEndsAs}
use Rattle.machine_code.proofs.Places.{Has}
use Rattle.machine_code.proofs.Gives.{GivesBy, going}
use Rattle.machine_code.proofs.Regions.{Holds, stands_first, first_ones}
use Rattle.machine_code.proofs.Statements.{fine_body, ends_call, stmts_run}
use Rattle.machine_code.proofs.Units.{units_run}
use Rattle.machine_code.proofs.UnmarkedRuns.{state_without, runs_without_marks}

all_has : (c : Code) → Has c 0 c
all_has c = record { within = omega arith; same = λ k i le e. e }

-- the values of the slots are first in the memory, and so are their marks
holds_first : (memory base : ℕ) (vs rest : List Datum) (marks others : List Mark) → length (vs ++ rest) ≡ memory
    → length marks ≡ length vs → let m = tracked (vs ++ rest) (marks ++ others) in
    Holds memory (program_frame base (length vs)) (length vs) m (tracked vs marks) m
holds_first memory base vs rest marks others long as_many = record {
  long = long;
  told_within = omega arith;
  values = stands_first (length vs) vs rest refl;
  marks = stands_first (length vs) marks others as_many;
}

ends_so : (memory base size : ℕ) (below : Tracked) (r : Result (MarkedEnd × ℕ) Fault) (b : ℕ) (e : Ending Tracked)
    → GivesBy r b (λ t n. Holds memory (program_frame base size) size below (state_of t) n) (λ t n a. finished n a) e
    → MarkedEndsAs size r e
ends_so memory base size below (Ok r) b e h =
    let holds = h.1.0 in
    let values = first_ones size below.values (state_of r.0).values h.0.values holds.values in
    let marks = first_ones size below.marks (state_of r.0).marks h.0.marks holds.marks in
    subst (MarkedEndsAs size (Ok r)) (sym h.1.2) (refl, values, marks, holds.marks.long)
ends_so memory base size below (Err f) b e h = subst (MarkedEndsAs size (Err f)) (sym h.1) refl

pub marked_program_runs : (t : StuckFaults) (library : SlotLibrary) (base : ℕ) (body : SlotStmts)
    (now n depth memory : ℕ) (vs rest : List Datum) (marks others : List Mark) (b : ℕ)
    → ProgramFits memory library base (length vs) body n → n ≤ depth → length (vs ++ rest) ≡ memory
    → length marks ≡ length vs → let code = program_code library base (length vs) body n in
    MarkedEndsAs (length vs) (marked_ran t library base body now depth (tracked vs marks) b)
    (runs tracking t now code (length code) [] (tracked (vs ++ rest) (marks ++ others)) b)
unfolding marked_ran program_code
marked_program_runs t library base body now n depth memory vs rest marks others b fits le long as_many =
    let s = program_frame base (length vs) in
    let m = tracked (vs ++ rest) (marks ++ others) in
    let codes = units_code library n in
    let code = stmts_code codes s body (body_targets 0) [] in
    let units = marked_units_within t library now depth in
    let run = units_run t now memory fits.numbered code library n depth le in
    let room : 0 + length vs ≤ memory = (let l = fits.room in omega arith) in
    let done = stmts_run t now memory fits.numbered code units codes (CallFitsWithin memory library n) run s room
    (length vs) m body (body_targets 0) [] [] [] (tracked vs marks) m b fits.body_fits (fine_body [] [])
    (holds_first memory base vs rest marks others long as_many) (all_has code) in
    let ended = going (λ e m a. ends_call t now memory fits.numbered code units codes
    (CallFitsWithin memory library n) run
    s room (length vs) (tracked (vs ++ rest) (marks ++ others)) [] [] e m a ∙ at_end tracking t now code [] m a) done in
    ends_so memory base (length vs) m _ b _ ended.by

-- so it does without the marks
ends_unmarked : (size : ℕ) (r : Result (MarkedEnd × ℕ) Fault) (e : Ending Tracked) → MarkedEndsAs size r e
    → MachineEndsAs size (run_without_marks r) (unmarked e)
ends_unmarked size (Ok r) (finished m b) h = (h.0, h.1 ∙ state_without r.0)
ends_unmarked size (Err f) (failed m g) h = h
ends_unmarked size (Ok r) (failed m g) h = absurd h
ends_unmarked size (Err f) (finished m b) h = absurd h

no_mark : Mark
no_mark = record { is_read = false; is_assigned = false }

pub program_runs : (t : StuckFaults) (library : SlotLibrary) (base : ℕ) (body : SlotStmts) (now n depth memory : ℕ)
    (vs rest : List Datum) (b : ℕ) → ProgramFits memory library base (length vs) body n → n ≤ depth
    → length (vs ++ rest) ≡ memory → let code = program_code library base (length vs) body n in
    MachineEndsAs (length vs) (slots_ran t library base body now depth vs b)
    (runs plain t now code (length code) [] (vs ++ rest) b)
program_runs t library base body now n depth memory vs rest b fits le long =
    let code = program_code library base (length vs) body n in
    let marks = replicate (length vs) no_mark in
    let m = tracked (vs ++ rest) (marks ++ []) in
    let done = marked_program_runs t library base body now n depth memory vs rest marks [] b fits le long
    (length-replicate (length vs) no_mark) in
    subst (λ r. MachineEndsAs (length vs) r (runs plain t now code (length code) [] (vs ++ rest) b))
    (runs_without_marks t library base body now depth (tracked vs marks) b)
    (subst
    (MachineEndsAs (length vs) (run_without_marks (marked_ran t library base body now depth (tracked vs marks) b)))
    (sym (marked_runs_alike t now code (length code) m b)) (ends_unmarked (length vs) _ _ done))
