-- A run over the values of a window's slots, for all slots that have them.
use Rattle.std.proofs.Common.{◌≡◌, ◌≤◌, ◌+◌, ℕ, ℤ, List, length, map, take, ap, subst, arith}
use Rattle.std.specs.Prelude.{All, replicate}
use Rattle.st_types.specs.declared.kind.Kind.{Kind}
use Rattle.st_types.specs.Values.{Datum, IsHeld}
use Rattle.machine_code.specs.declared.instr.Instr.{Instr}
use Rattle.machine_code.specs.declared.mark.Mark.{Mark}
use Rattle.quick_code.specs.QuickRuns.{EndsWell, Left, left}
use Rattle.quick_code.specs.QuickSteps.{Memory}
use Rattle.quick_trees.specs.QuickMemory.{Frame}
use Rattle.quick_trees.specs.Windows.{IsWindow}
use Rattle.slot_code.specs.declared.parts.QuickParts.{QuickParts}
use Rattle.slot_code.specs.Quick.{AreTyped, EndsWith, HasEnded, IsAnswering, Wherever, frame_of, kinds_of, run_of}
use Rattle.slot_code.specs.WordValues.{AreHeld, mark_of, values_of}
use Rattle.slot_code.proofs.Filled.{as_long, filled, filled_in, filled_typed}
use Rattle.slot_code.proofs.Leaving.{ends_with, notes_long, words_held, words_long}
use Rattle.slot_code.proofs.Words.{ends_so, words_over}

module _ (instrs : List Instr) (kinds : List Kind) (extra now budget : ℕ) (p : QuickParts) (window : List ℕ)
    (vs : List Datum) (is : IsAnswering instrs kinds extra p window) (typed : AreTyped kinds window vs) where
  -- the words of slots and constants have room
  pub has_room : length vs + length p.constants.items ≤ p.words
  has_room =
      let room = is.answers.room in
      let long = as_long kinds window vs is.slots typed in
      omega arith

  module _ (held : All IsHeld vs) (constants : All IsHeld p.constants.items) (m : Memory) (ticks : ℕ) (ws : List ℤ)
      (ns : List ℕ) (words : ws ≡ words_over p vs) (notes : ns ≡ replicate p.words 0)
      (runs : EndsWell p.code.instrs.items p.code.ways.items now 0 (record { words = ws; notes = ns }) budget
      (left m ticks)) where
    abbrev f : Frame
    f = frame_of p window kinds now

    pub ended : Wherever kinds window vs
        (λ slots. HasEnded f slots (left m ticks) (run_of instrs extra now slots budget))
    ended slots of_kinds is_in =
        ends_so instrs kinds extra now budget p window slots vs is of_kinds is_in held constants (left m ticks) ws ns
        words notes runs

    abbrev slots : List Datum
    slots = filled kinds window vs is.slots typed

    pub words_are_held : AreHeld (kinds_of vs) m.words
    words_are_held =
        let kinds_are = filled_typed kinds window vs is.slots typed in
        let is_in = filled_in kinds window vs is.slots typed in
        words_held f slots vs ticks m _ (ended slots kinds_are is_in) kinds_are is_in

    pub words_there : length vs ≤ length m.words
    words_there =
        let kinds_are = filled_typed kinds window vs is.slots typed in
        let is_in = filled_in kinds window vs is.slots typed in
        words_long f slots vs ticks m _ (ended slots kinds_are is_in) kinds_are is_in

    pub notes_there : length vs ≤ length m.notes
    notes_there =
        let kinds_are = filled_typed kinds window vs is.slots typed in
        let is_in = filled_in kinds window vs is.slots typed in
        notes_long f slots vs ticks m _ (ended slots kinds_are is_in) kinds_are is_in

-- the values and marks that it leaves
pub ends : (instrs : List Instr) (kinds : List Kind) (extra now budget : ℕ) (p : QuickParts) (window : List ℕ)
    (vs : List Datum) (m : Memory) (ticks : ℕ) (values : List Datum) (marks : List Mark)
    → Wherever kinds window vs (λ slots. HasEnded (frame_of p window kinds now) slots (left m ticks)
    (run_of instrs extra now slots budget))
    → values ≡ values_of (kinds_of vs) m.words → marks ≡ map mark_of (take (length vs) m.notes)
    → Wherever kinds window vs (λ slots. EndsWith window slots ticks values marks
    (run_of instrs extra now slots budget))
ends instrs kinds extra now budget p window vs m ticks values marks ended values_are marks_are slots of_kinds is_in =
    ends_with (frame_of p window kinds now) slots vs ticks m _ (ended slots of_kinds is_in) of_kinds is_in values marks
    values_are marks_are
