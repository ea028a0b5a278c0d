-- Code of a program does what its body says.
use Rattle.std.proofs.Common.{◌≡◌, ℕ, ◌+◌, ◌-◌, ◌≤◌, Ok, ap, subst, ◌∙◌, arith, length, []}
use Rattle.st_meaning.specs.Failures.{StuckFaults}
use Rattle.machine_code.specs.Tracking.{Tracked}
use Rattle.quick_code.specs.declared.quick_instr.QuickInstr.TheVariants.{End, Jump}
use Rattle.quick_code.specs.QuickRuns.{Left, left}
use Rattle.quick_code.specs.QuickSteps.{Memory}
use Rattle.slot_trees.specs.SlotTrees.{SlotLibrary, SlotStmts}
use Rattle.slot_trees.specs.SlotRuns.{state_of}
use Rattle.machine_code.specs.MarkedRuns.{marked_ran, marked_units_within}
use Rattle.quick_trees.specs.declared.noting.Noting.TheVariants.{Exact}
use Rattle.quick_trees.specs.Calls.{quick_units}
use Rattle.quick_trees.specs.Points.{Point, along}
use Rattle.quick_trees.specs.Programs.{EndsAs, IsProgram, beginning}
use Rattle.quick_trees.specs.QuickMemory.{EndsWellAt, Frame, first_temporary}
use Rattle.quick_trees.specs.UnitValues.{IsMemory, whole}
use Rattle.quick_trees.proofs.Lists.{replicate_long}
use Rattle.quick_trees.proofs.Outside.{stays_all}
use Rattle.quick_trees.proofs.Stepping.{has_taken, stepped}
use Rattle.quick_trees.proofs.Memories.{Holds, whole_site}
use Rattle.quick_trees.proofs.Settings.{Setting}
use Rattle.quick_trees.proofs.Running.{joined}
use Rattle.quick_trees.proofs.Statements.{does_stmts}
use Rattle.quick_trees.proofs.Calling.{at_last, does_units, is_over}

pub program_runs : (stuck_faults : StuckFaults) (library : SlotLibrary) (base calls depth budget : ℕ) (body : SlotStmts)
    (f : Frame) (m : Memory) (t : Tracked) (e : Left) → IsProgram f library base calls body → calls ≤ depth
    → IsMemory f (whole base) (beginning f) m t → EndsWellAt f 0 m budget e
    → EndsAs f base t (marked_ran stuck_faults library base body f.now depth t budget) e
unfolding marked_ran
program_runs stuck_faults library base calls depth budget body f m t e program le is runs =
    let units = does_units f e stuck_faults library calls depth le in
    let s : Setting = record {
      frame = f;
      site = whole base;
      units = quick_units f library calls;
      means = marked_units_within stuck_faults library f.now depth;
      stuck_faults = stuck_faults;
      around = t;
      finish = e;
      does = units.0;
      does_blocks = units.1;
    } in
    let holds : Holds f (whole base) t (beginning f).noted m t = record {
      noted = record {
        room = is.room;
        few = (let long = replicate_long (length f.window) Exact in omega arith);
        are = is.marks;
      };
      stays = stays_all f.window t;
      long = is.long;
      values = is.values;
    } in
    let took = has_taken f 0 e program.way m budget (stepped f 0 e m budget (Jump program.way) runs program.begins) in
    let enough = took.0 in
    let ran = does_stmts s body (first_temporary f) (at_last program.last) (along (beginning f) program.way) program.end
    program.stands m t (budget - program.way.ticks) (whole_site f base is.room.window) holds took.1 in
    let over = is_over s (first_temporary f) program.last m ran.end ran.rest
    (joined s (first_temporary f) (at_last program.last) program.end program.last m ran.end ran.rest program.joins
    ran.ended) in
    let left_is : left over.memory over.left ≡ e = stepped f program.last.place e over.memory over.left End over.ends
    program.ends in
    let whole_budget : budget ≡ budget - program.way.ticks + (0 + program.way.ticks) = omega arith in
    let ahead : program.last.ahead ≡ 0 = ap (λ (p : Point). p.ahead) program.last_is in
    let ticks = over.ticks in
    let rest : ran.rest ≡ over.left = omega arith in
    record {
      end = ran.end;
      gives = ap (λ n. marked_ran stuck_faults library base body f.now depth t n) whole_budget
          ∙ ran.gives
          ∙ ap (λ n. Ok (ran.end, n)) (rest ∙ ap (λ (e : Left). e.ticks) left_is);
      at = program.last;
      exact = ap (λ (p : Point). p.noted) program.last_is;
      is = subst (λ (e : Left). IsMemory f (whole base) program.last e.memory (state_of ran.end)) left_is (record {
        room = over.is.noted.room;
        long = over.is.long;
        values = over.is.values;
        marks = over.is.noted.are;
      });
      stays = over.is.stays;
    }
