-- The reads of executions of a plan's programs are asked for.
use Rattle.std.proofs.Common.{◌≡◌, ℕ, ◌==◌, List, ap, subst, sym, ◌∙◌, Some, slice_get}
use Rattle.std.specs.List.{list_any}
use Rattle.st_types.specs.SourceViews.{source_view}
use Rattle.st_meaning.specs.Slots.{AreOfTypes}
use Rattle.machine_code.specs.Asking.{IsOnlyLookedUp}
use Rattle.slot_code.specs.Codes.{code_view}
use Rattle.slot_code.specs.Meanings.{FailsEqually}
use Rattle.st_types.specs.Values.{Datum}
use Rattle.slot_code.specs.Quick.{AreIn, kinds_of}
use Rattle.slot_code.specs.Windows.{window_of}
use Rattle.slot_run.specs.declared.quick_snapshot.QuickSnapshot.{QuickSnapshot}
use Rattle.slot_run.specs.declared.snapshot.Snapshot.{Snapshot}
use Rattle.plan.specs.declared.plan.Plan.{Plan}
use Rattle.plan.specs.declared.task.ProgramInstance.{ProgramInstance}
use Rattle.plan.specs.Reads.{slots_of_plan}
use Rattle.plan.specs.Sources.{program_numbered}
use Rattle.plan.specs.Reading.{AsksForReads, AsksForQuickReads}
use Rattle.plan.proofs.ReadLemmas.{is_asked}

pub asks_for_reads : (plan : Plan) (n : ℕ) (p : ProgramInstance) (snapshot : Snapshot)
    → slice_get plan.programs.items n ≡ Some p → snapshot.code.value ≡ p.code.value → AsksForReads plan p snapshot
asks_for_reads plan n p snapshot there code effect k l of at nobody read =
    let kept = plan.sound.codes n p there in
    let layout = slots_of_plan plan in
    let program = program_numbered (source_view plan.text.value) p.number in
    let typed : AreOfTypes layout snapshot.slots.items =
    snapshot.typed ∙ ap (λ x. x.kinds.value.items) code ∙ sym kept.means.kinds in
    is_asked layout (code_view snapshot.code.value) program snapshot.moment snapshot.budget snapshot.slots.items k l
    (subst (λ x. FailsEqually layout (code_view x) program) (sym code) kept.reads.fails) plan.sound.once typed at
    (subst (λ x. IsOnlyLookedUp x.instrs.value.items k) (sym code) (kept.reads.looked_up k l at nobody))
    (ap (list_any (λ c. c.0 == k)) (sym of.reads) ∙ read) nobody

-- The same for a quick snapshot, over values of all slots that agree with those it has for the names of the code.
pub asks_for_quick_reads : (plan : Plan) (n : ℕ) (p : ProgramInstance) (slots : List Datum) (quick : QuickSnapshot)
    → slice_get plan.programs.items n ≡ Some p → quick.code.value ≡ p.code.value
    → kinds_of slots ≡ quick.code.value.kinds.value.items
    → AreIn (window_of quick.code.value) slots quick.values.items → AsksForQuickReads plan p slots quick
asks_for_quick_reads plan n p slots quick there code kinds values effect k l of at nobody read =
    let kept = plan.sound.codes n p there in
    let layout = slots_of_plan plan in
    let program = program_numbered (source_view plan.text.value) p.number in
    let typed : AreOfTypes layout slots = kinds ∙ ap (λ x. x.kinds.value.items) code ∙ sym kept.means.kinds in
    is_asked layout (code_view quick.code.value) program quick.moment quick.budget slots k l
    (subst (λ x. FailsEqually layout (code_view x) program) (sym code) kept.reads.fails) plan.sound.once typed at
    (subst (λ x. IsOnlyLookedUp x.instrs.value.items k) (sym code) (kept.reads.looked_up k l at nobody))
    (ap (list_any (λ c. c.0 == k)) (sym (of.run slots kinds values).reads) ∙ read) nobody
