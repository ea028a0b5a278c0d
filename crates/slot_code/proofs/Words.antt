-- A run of quick code over the words of values.
use Rattle.std.proofs.Common.{◌≡◌, ℕ, ◌+◌, ◌≤◌, ◌-◌, ℤ, pos, List, ◌++◌, length, map, sym}
use Rattle.std.proofs.Common.{ap, ap₂, subst, ◌∙◌, arith}
use Rattle.std.specs.Prelude.{All, replicate}
use Rattle.st_types.specs.declared.kind.Kind.{Kind}
use Rattle.st_types.specs.Values.{Datum, IsHeld}
use Rattle.machine_code.specs.declared.instr.Instr.{Instr}
use Rattle.quick_code.specs.QuickRuns.{EndsWell, Left}
use Rattle.quick_code.specs.QuickSteps.{Memory}
use Rattle.quick_trees.specs.Programs.{beginning}
use Rattle.quick_trees.specs.UnitValues.{IsMemory, whole}
use Rattle.slot_code.specs.declared.parts.QuickParts.{QuickParts}
use Rattle.quick_trees.specs.Windows.{IsWindow}
use Rattle.slot_code.specs.Quick.{AreIn, HasEnded, IsAnswering, start_memory, frame_of, kinds_of, run_of}
use Rattle.slot_code.specs.Quick.{unmarked_slots, word_of}
use Rattle.slot_code.proofs.Beginning.{begins}
use Rattle.st_types.proofs.ListLemmas.{length_map}

abbrev pub words_over : QuickParts → List Datum → List ℤ
words_over p vs = map word_of vs ++ (map word_of p.constants.items
    ++ replicate (p.words - (length vs + length p.constants.items)) (pos 0))

-- the words of slots and constants have room
pub has_room : (instrs : List Instr) (kinds : List Kind) (extra : ℕ) (p : QuickParts) (window : List ℕ)
    (slots vs : List Datum) → IsAnswering instrs kinds extra p window → AreIn window slots vs
    → length vs + length p.constants.items ≤ p.words
has_room instrs kinds extra p window slots vs is is_in =
    let room = is.answers.room in
    let long = is_in.long in
    omega arith

-- a window of slots that have these types
pub window_over : (instrs : List Instr) (kinds : List Kind) (extra : ℕ) (p : QuickParts) (window : List ℕ)
    (slots : List Datum) → IsAnswering instrs kinds extra p window → kinds_of slots ≡ kinds
    → IsWindow (length slots) window
window_over instrs kinds extra p window slots is typed =
    subst (λ n. IsWindow n window) (ap length (sym typed) ∙ length_map (λ (v : Datum). v.kind) slots) is.slots

module _ (instrs : List Instr) (kinds : List Kind) (extra now budget : ℕ) (p : QuickParts) (window : List ℕ)
    (slots vs : List Datum) (is : IsAnswering instrs kinds extra p window) (typed : kinds_of slots ≡ kinds)
    (is_in : AreIn window slots vs) (held : All IsHeld vs) (constants : All IsHeld p.constants.items) where
  ends_by : (e : Left) → EndsWell p.code.instrs.items p.code.ways.items now 0 (start_memory p vs) budget e
      → HasEnded (frame_of p window kinds now) slots e (run_of instrs extra now slots budget)
  ends_by e runs =
      is.answers.ends now budget slots (start_memory p vs) e typed
      (subst (λ ks. let f = frame_of p window ks now in IsMemory f
      (whole 0) (beginning f) (start_memory p vs) (unmarked_slots slots))
      typed (begins p window slots vs now is_in (window_over instrs kinds extra p window slots is typed) held constants
      (has_room instrs kinds extra p window slots vs is is_in))) runs

  pub ends_so : (e : Left) (ws : List ℤ) (ns : List ℕ) → ws ≡ words_over p vs → ns ≡ replicate p.words 0
      → EndsWell p.code.instrs.items p.code.ways.items now 0 (record { words = ws; notes = ns }) budget e
      → HasEnded (frame_of p window kinds now) slots e (run_of instrs extra now slots budget)
  ends_so e ws ns words notes h =
      ends_by e (subst (λ (m : Memory). EndsWell p.code.instrs.items p.code.ways.items now 0 m budget e)
      (ap₂ (λ (ws : List ℤ) (ns : List ℕ). record { words = ws; notes = ns }) words notes) h)
