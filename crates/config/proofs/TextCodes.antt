-- Code that is made of a linked body.
use Rattle.std.proofs.Common.{◌≡◌, ℕ, ◌+◌, List, length, Some, Result, Ok, Err, ◌∙◌, ap, sym, subst, arith, []}
use Rattle.std.proofs.Common.{◌++◌}
use Rattle.std.specs.Prelude.{slice_get}
use Rattle.std.proofs.lemmas.List.{length-append}
use Rattle.st_types.specs.Values.{Datum}
use Rattle.st_types.specs.declared.fault.Fault.{Fault}
use Rattle.st_types.specs.Sources.{Source}
use Rattle.st_meaning.specs.Failures.{StuckFaults}
use Rattle.st_meaning.specs.Loops.{End}
use Rattle.slot_trees.specs.Alike.{EndEqually}
use Rattle.slot_trees.specs.SlotExecution.{SlotEnd}
use Rattle.slot_trees.specs.SlotTrees.{SlotStmts}
use Rattle.slot_trees.specs.TextLinks.{LinkedText, linked_source}
use Rattle.machine_code.specs.Memories.{plain}
use Rattle.machine_code.specs.Machine.{Ending, finished, failed, runs}
use Rattle.machine_code.specs.Asking.{FailsWith}
use Rattle.machine_code.specs.Programs.{program_code, ProgramFits, MachineEndsAs}
use Rattle.slot_code.specs.Codes.{CodeView}
use Rattle.slot_code.specs.Meanings.{code_run_where}
use Rattle.config.specs.ProgramCodes.{IsCodeOf}
use Rattle.std.proofs.lemmas.Option.{same_Some}

-- the run of the code is that of the linked body's
pub same_run : (t : StuckFaults) (code : CodeView) (linked : LinkedText) (body : SlotStmts) (depth now n : ℕ)
    (vs rest : List Datum) (budget : ℕ) → code.instrs ≡ program_code linked.library 0 n body depth → n ≡ length vs
    → (let xs = program_code linked.library 0 (length vs) body depth in
    runs plain t now xs (length xs) [] (vs ++ rest) budget) ≡ code_run_where t code now (vs ++ rest) budget
same_run t code linked body depth now n vs rest budget is long =
    let e : program_code linked.library 0 (length vs) body depth ≡ code.instrs =
    ap (λ k. program_code linked.library 0 k body depth) (sym long) ∙ sym is in
    ap (λ xs. runs plain t now xs (length xs) [] (vs ++ rest) budget) e

pub fits_values : (linked : LinkedText) (body : SlotStmts) (memory depth n k : ℕ) → n ≡ k
    → ProgramFits memory linked.library 0 n body depth → ProgramFits memory linked.library 0 k body depth
fits_values linked body memory depth n k e fits =
    subst (λ j. ProgramFits memory linked.library 0 j body depth) e fits

pub room_for : (vs rest : List Datum) (n extra : ℕ) → n ≡ length vs → length rest ≡ extra
    → length (vs ++ rest) ≡ n + extra
room_for vs rest n extra long room = let a = length-append vs rest in omega arith

-- a text has one linked form, and a program one linked body
pub code_here : (source : Source) (n depth : ℕ) (linked linked' : LinkedText) (body body' : SlotStmts)
    (code : CodeView) → linked_source source ≡ Some linked → linked_source source ≡ Some linked'
    → slice_get linked.programs n ≡ Some body → slice_get linked'.programs n ≡ Some body'
    → IsCodeOf source linked body depth code → IsCodeOf source linked' body' depth code
code_here source n depth linked linked' body body' code is is' there there' of =
    let l = same_Some _ _ (sym is ∙ is') in
    let b = same_Some _ _ (sym there ∙ ap (λ (x : LinkedText). slice_get x.programs n) l ∙ there') in
    subst (λ x. IsCodeOf source linked' x depth code) b (subst (λ x. IsCodeOf source x body depth code) l of)

-- if the ends are equal, so are the faults
pub fails_so : (size : ℕ) (R : End → SlotEnd → Type 0) (x : Result (End × ℕ) Fault) (y : Result (SlotEnd × ℕ) Fault)
    (e : Ending (List Datum)) (f : Fault) → EndEqually R x y → MachineEndsAs size y e → FailsWith f e → x ≡ Err f
fails_so size R (Err a) (Err b) (failed m g) f same ends fails = ap Err (same ∙ sym ends ∙ fails)
fails_so size R (Ok a) (Ok b) (failed m g) f same ends fails = absurd ends
fails_so size R (Ok a) (Err b) e f same ends fails = absurd same
fails_so size R (Err a) (Ok b) e f same ends fails = absurd same
fails_so size R (Ok a) (Ok b) (finished m c) f same ends fails = absurd fails
fails_so size R (Err a) (Err b) (finished m c) f same ends fails = absurd fails
