-- Other code whose runs end as before has the same results.
use Rattle.std.proofs.Common.{◌≡◌, ◌≤◌, ◌↔◌, ℕ, List, length}
use Rattle.st_types.specs.declared.kind.Kind.{Kind}
use Rattle.st_types.specs.Values.{Datum}
use Rattle.machine_code.specs.declared.instr.Instr.{Instr}
use Rattle.machine_code.specs.Machine.{Ending}
use Rattle.machine_code.specs.Tracking.{Tracked}
use Rattle.quick_code.specs.declared.quick_code.QuickCode.{QuickCode}
use Rattle.quick_code.specs.QuickRuns.{EndsWell, Left}
use Rattle.quick_code.specs.QuickSteps.{Memory}
use Rattle.quick_code.specs.Soundness.{IsSound}
use Rattle.quick_trees.specs.Programs.{beginning}
use Rattle.quick_trees.specs.QuickMemory.{Frame}
use Rattle.quick_trees.specs.UnitValues.{IsMemory, whole}
use Rattle.slot_code.specs.declared.parts.QuickParts.{QuickParts}
use Rattle.slot_code.specs.Quick.{AnswersFor, HasEnded, IsAnswering, frame_of}

-- the same words with other code
abbrev pub with_code : QuickParts → QuickCode → QuickParts
with_code p code = record { code = code; constants = p.constants; words = p.words }

-- the meaning of words and notes does not depend on the code
module _ (p : QuickParts) (code : QuickCode) (window : List ℕ) (kinds : List Kind) (now : ℕ) where
  abbrev f : Frame
  f = frame_of p window kinds now

  abbrev g : Frame
  g = frame_of (with_code p code) window kinds now

  to_other : (m : Memory) (t : Tracked) → IsMemory f (whole 0) (beginning f) m t
      → IsMemory g (whole 0) (beginning g) m t
  to_other m t is = record {
    room = record {
      words = is.room.words;
      window = is.room.window;
      notes = is.room.notes;
      room = is.room.room;
      constants = is.room.constants;
      held = is.room.held;
    };
    long = is.long;
    values = is.values;
    marks = is.marks;
  }

  from_other : (m : Memory) (t : Tracked) → IsMemory g (whole 0) (beginning g) m t
      → IsMemory f (whole 0) (beginning f) m t
  from_other m t is = record {
    room = record {
      words = is.room.words;
      window = is.room.window;
      notes = is.room.notes;
      room = is.room.room;
      constants = is.room.constants;
      held = is.room.held;
    };
    long = is.long;
    values = is.values;
    marks = is.marks;
  }

  told : (vs : List Datum) (e : Left) (r : Ending Tracked) → HasEnded f vs e r → HasEnded g vs e r
  told vs e r h = record {
    memory = h.memory;
    is = h.is;
    told = to_other e.memory _ h.told;
    stays = h.stays;
    marks = h.marks;
  }

-- code that may be run over as many words, and whose runs that end well end as those of the other one
pub answers_too : (instrs : List Instr) (kinds : List Kind) (extra : ℕ) (p : QuickParts) (window : List ℕ)
    (code : QuickCode) → ((words notes : ℕ) → IsSound p.code words notes → IsSound code words notes)
    → ((now : ℕ) (m : Memory) (b : ℕ) (e : Left) → EndsWell p.code.instrs.items p.code.ways.items now 0 m b e
    ↔ EndsWell code.instrs.items code.ways.items now 0 m b e)
    → IsAnswering instrs kinds extra p window → IsAnswering instrs kinds extra (with_code p code) window
answers_too instrs kinds extra p window code keeps same is = record {
  sound = keeps p.words p.words is.sound;
  slots = is.slots;
  answers = record {
    room = is.answers.room;
    ends = λ now budget vs m e typed begun ends. told p code window kinds now vs e _
        (is.answers.ends now budget vs m e typed (from_other p code window kinds now _ _ begun)
        ((same now _ budget e).1 ends));
  };
}
