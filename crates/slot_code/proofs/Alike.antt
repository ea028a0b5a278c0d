-- Equal parts give equal results.
use Rattle.std.proofs.Common.{◌≡◌, ◌≤◌, ◌<◌, ◌∙◌, ℕ, List, length, refl, sym, ap, subst, arith, ◌+◌}
use Rattle.std.specs.Prelude.{Some, slice_get}
use Rattle.st_types.specs.declared.kind.Kind.{Kind}
use Rattle.st_types.specs.Values.{Datum}
use Rattle.machine_code.specs.declared.instr.Instr.{Instr}
use Rattle.quick_code.specs.declared.quick_code.Way.{Way}
use Rattle.quick_code.specs.declared.quick_instr.QuickInstr.{QuickInstr}
use Rattle.quick_code.specs.QuickRuns.{EndsWell, Left}
use Rattle.quick_code.specs.QuickSteps.{Memory}
use Rattle.quick_code.specs.Soundness.{IsSafe, IsSound, LeadsOn, reach}
use Rattle.quick_trees.specs.Programs.{beginning}
use Rattle.quick_trees.specs.QuickMemory.{Frame, first_temporary}
use Rattle.quick_trees.specs.UnitValues.{IsMemory, whole}
use Rattle.slot_code.specs.declared.parts.QuickParts.{QuickParts}
use Rattle.slot_code.specs.Quick.{AnswersFor, HasEnded, IsAnswering, frame_of, kinds_of, run_of, unmarked_slots}
use Rattle.slot_code.specs.Sharing.{AreSameCode}

module _ (p q : QuickParts) (alike : AreSameCode p q) where
  -- they make the same program
  same_frame : (window : List ℕ) (kinds : List Kind) (now : ℕ) → frame_of p window kinds now
      ≡ frame_of q window kinds now
  same_frame window kinds now =
      let f = frame_of p window kinds now in
      ap (λ (is : List QuickInstr). record f { code = is }) alike.instrs
      ∙ ap (λ (ws : List Way). record f { code = q.code.instrs.items; ways = ws }) alike.ways
      ∙ ap (λ (cs : List Datum). record f { code = q.code.instrs.items; ways = q.code.ways.items; constants = cs })
      alike.constants
      ∙ ap (λ (n : ℕ). record f {
        code = q.code.instrs.items;
        ways = q.code.ways.items;
        constants = q.constants.items;
        size = n;
      }) alike.words

  sound_so : IsSound p.code p.words p.words → IsSound q.code q.words q.words
  sound_so sound = record {
    safe = λ place i at.
        subst (λ ways. IsSafe q.words q.words (length ways) i) alike.ways
        (subst (λ n. IsSafe n n (length p.code.ways.items) i) alike.words
        (sound.safe place i (ap (λ is. slice_get is place) alike.instrs ∙ at)));
    onward = λ place i at.
        subst (λ ways. LeadsOn ways place (length q.code.instrs.items) i) alike.ways
        (subst (λ is. LeadsOn p.code.ways.items place (length is) i) alike.instrs
        (sound.onward place i (ap (λ is. slice_get is place) alike.instrs ∙ at)));
    closed = λ place i at.
        subst (λ is. place + reach i < length is) alike.instrs
        (sound.closed place i (ap (λ is. slice_get is place) alike.instrs ∙ at));
    begins = subst (λ is. 0 < length is) alike.instrs sound.begins;
  }

  module _ (instrs : List Instr) (kinds : List Kind) (extra : ℕ) (window : List ℕ) where
    answers_so : AnswersFor instrs kinds extra p window → AnswersFor instrs kinds extra q window
    answers_so answers = record {
      room = subst (λ (f : Frame). first_temporary f ≤ f.size) (same_frame window kinds 0) answers.room;
      ends = λ now budget vs m e typed is runs. (let same = same_frame window kinds now in
          subst (λ f. HasEnded f vs e (run_of instrs extra now vs budget)) same
          (answers.ends now budget vs m e typed
          (subst (λ f. IsMemory f (whole 0) (beginning f) m (unmarked_slots vs)) (sym same) is)
          (subst (λ (f : Frame). EndsWell f.code f.ways now 0 m budget e) (sym same) runs)));
    }

    pub answering_so : IsAnswering instrs kinds extra p window → IsAnswering instrs kinds extra q window
    answering_so is =
        record { sound = sound_so is.sound; slots = is.slots; answers = answers_so is.answers }
