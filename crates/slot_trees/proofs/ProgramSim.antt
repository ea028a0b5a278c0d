-- A linked program has the effect on the slots that the program has on the variables.
use Rattle.std.proofs.Common.{◌≡◌, ◌≤◌, ℕ, suc, List, Result, Ok, Err, refl, sym, ap, subst, arith}
use Rattle.st_types.specs.declared.fault.Fault.{Fault}
use Rattle.st_types.specs.Values.{Datum}
use Rattle.st_meaning.specs.declared.outcome.Outcome.{Outcome}
use Rattle.st_meaning.specs.Failures.{StuckFaults, in_runs}
use Rattle.st_meaning.specs.Stores.{Store}
use Rattle.st_meaning.specs.Slots.{Slot}
use Rattle.st_meaning.specs.Scopes.{of_program, path_in}
use Rattle.st_meaning.specs.Loops.{End}
use Rattle.st_meaning.specs.Execution.{exec_all}
use Rattle.st_meaning.specs.Runs.{Program, scope_where, ran_where, ran, units_within, outcome_in, store_in}
use Rattle.st_meaning.specs.Runs.{outcome_of, store_after}
use Rattle.st_meaning.proofs.Agrees.{Agrees, agrees_closed, units_agree}
use Rattle.st_meaning.proofs.Related.{stand_themselves, exec_all_q}
use Rattle.slot_trees.specs.SlotTrees.{SlotStmts, SlotLibrary}
use Rattle.slot_trees.specs.SlotEvaluation.{SlotScope, slot_at}
use Rattle.slot_trees.specs.SlotExecution.{SlotEnd}
use Rattle.slot_trees.specs.SlotRuns.{slot_units_within, slots_ran, slot_outcome_in, slots_in}
use Rattle.slot_trees.specs.Seeing.{Sees}
use Rattle.slot_trees.specs.Alike.{EndEqually, RunEqually, EndsEqually}
use Rattle.slot_trees.specs.TrueTables.{IsTableOf}
use Rattle.slot_trees.specs.LinkedTexts.{table_of, IsProgramLink}
use Rattle.slot_trees.proofs.StatementSim.{exec_all_sim}
use Rattle.slot_trees.proofs.UnitSim.{UnitsAlike, units_alike, instance_sim, ended}

same_outcome : (R : Store → List Datum → Type 0) (x : Result (End × ℕ) Fault) (y : Result (SlotEnd × ℕ) Fault)
    → EndEqually (EndsEqually R) x y → outcome_in x ≡ slot_outcome_in y
same_outcome R (Ok a) (Ok b) h = refl
same_outcome R (Err e) (Err f) h = ap Outcome.Faulted h
same_outcome R (Ok a) (Err f) h = absurd h
same_outcome R (Err e) (Ok b) h = absurd h

same_store : (layout : List Slot) (image : Store) (x : Result (End × ℕ) Fault) (y : Result (SlotEnd × ℕ) Fault)
    (s : Store) (vs : List Datum) → Sees layout image s vs → EndEqually (EndsEqually (Sees layout image)) x y
    → Sees layout image (store_in x s) (slots_in y vs)
same_store layout image (Ok a) (Ok b) s vs h g = ended (Sees layout image) a.0 b.0 g.0
same_store layout image (Err e) (Err f) s vs h g = h
same_store layout image (Ok a) (Err f) s vs h g = absurd g
same_store layout image (Err e) (Ok b) s vs h g = absurd g

-- deeper calls change nothing, whatever faults stand for the cases that no well-typed text meets
ran_where_agrees : (t : StuckFaults) (p : Program) (image : Store) (now b n : ℕ) (s : Store) → b ≤ n
    → ran_where t p image now b s ≡ exec_all (scope_where t p image now n) p.body.statements s b
unfolding ran_where
ran_where_agrees t p image now b n s le =
    let u = units_agree t p.library image now b b n (omega arith) le in
    (exec_all_q (Agrees b) (Agrees (suc b)) (agrees_closed b) (scope_where t p image now b) (units_within t p.library
    image now n) t u.functions u.blocks (stand_themselves (Agrees b) (Agrees (suc b)) (agrees_closed b) t)
    p.body.statements s).same b (omega arith)

module _ (layout : List Slot) (p : Program) (base : ℕ) (code : SlotLibrary) (body : SlotStmts)
    (link : IsProgramLink layout p base code body) where
  abbrev EndsRun : Store → Result (End × ℕ) Fault → Result (SlotEnd × ℕ) Fault → Type 0
  EndsRun image x y = EndEqually (EndsEqually (Sees layout image)) x y

  program_sim : (stuck_faults : StuckFaults) (image : Store) (now depth : ℕ) (s : Store) (vs : List Datum)
      → Sees layout image s vs → RunEqually End SlotEnd (EndsEqually (Sees layout image))
      (exec_all (scope_where stuck_faults p image now depth) p.body.statements s)
      (slots_ran stuck_faults code base body now depth vs)
  unfolding slots_ran
  program_sim stuck_faults image now depth s vs h =
      exec_all_sim layout link.distinct (scope_where stuck_faults p image now depth) z
      (table_of link.numbers link.symbols p.body.instances) truths p.body.statements body link.linked s vs h
    where
      z : SlotScope
      z = record { units = slot_units_within stuck_faults code now depth; base = base; stuck_faults = stuck_faults }

      alike : UnitsAlike layout image link.numbers (units_within stuck_faults p.library image now depth)
          (slot_units_within stuck_faults code now depth)
      alike = units_alike layout link.distinct image stuck_faults now link.numbers p.library code link.library depth

      truths : IsTableOf layout (scope_where stuck_faults p image now depth) z
          (table_of link.numbers link.symbols p.body.instances)
      truths = record {
        names = link.names;
        instances = refl;
        functions = alike.functions;
        blocks = λ x c d y i j e. instance_sim stuck_faults now link.numbers layout image
            (units_within stuck_faults p.library image now depth) (slot_units_within stuck_faults code now depth) alike c d y
            (link.instances x c y i e) j (path_in (of_program p.owner) p.body x) (slot_at base y.anchor)
            (link.names x y e);
        stuck_faults = refl;
      }

  -- with any faults for the cases that no well-typed text meets, and with calls of any depth
  pub ends_alike : (stuck_faults : StuckFaults) (image : Store) (now budget depth : ℕ) (s : Store) (vs : List Datum)
      → budget ≤ depth → Sees layout image s vs
      → EndsRun image (ran_where stuck_faults p image now budget s)
      (slots_ran stuck_faults code base body now depth vs budget)
  ends_alike stuck_faults image now budget depth s vs le h =
      subst (λ x. EndsRun image x (slots_ran stuck_faults code base body now depth vs budget))
      (sym (ran_where_agrees stuck_faults p image now budget depth s le))
      ((program_sim stuck_faults image now depth s vs h).alike budget)

  run_alike : (image : Store) (now budget depth : ℕ) (s : Store) (vs : List Datum) → budget ≤ depth
      → Sees layout image s vs
      → EndsRun image (ran p image now budget s) (slots_ran in_runs code base body now depth vs budget)
  unfolding ran
  run_alike image now budget depth s vs le h = ends_alike in_runs image now budget depth s vs le h

  pub outcome_alike : (image : Store) (now budget depth : ℕ) (s : Store) (vs : List Datum) → budget ≤ depth
      → Sees layout image s vs
      → outcome_of p budget s image now ≡ slot_outcome_in (slots_ran in_runs code base body now depth vs budget)
  unfolding outcome_of
  outcome_alike image now budget depth s vs le h =
      same_outcome (Sees layout image) (ran p image now budget s)
      (slots_ran in_runs code base body now depth vs budget) (run_alike image now budget depth s vs le h)

  pub store_alike : (image : Store) (now budget depth : ℕ) (s : Store) (vs : List Datum) → budget ≤ depth
      → Sees layout image s vs → Sees layout image (store_after p budget s image now)
      (slots_in (slots_ran in_runs code base body now depth vs budget) vs)
  unfolding store_after
  store_alike image now budget depth s vs le h =
      same_store layout image (ran p image now budget s) (slots_ran in_runs code base body now depth vs budget) s vs h
      (run_alike image now budget depth s vs le h)
