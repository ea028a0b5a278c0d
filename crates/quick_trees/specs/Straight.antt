-- Straight-line code, which assigns temporaries alone.
use Rattle.std.specs.Prelude.{◌≡◌, ◌<◌, ◌≤◌, ℕ, ℤ, List, Option, Some, slice_get}
use Rattle.quick_code.specs.declared.quick_code.Way.{Way}
use Rattle.quick_code.specs.declared.quick_instr.QuickInstr.{QuickInstr}
use Rattle.quick_code.specs.QuickSteps.{Memory, act, put}
use Rattle.quick_trees.specs.QuickMemory.{Frame}

-- An instruction assigns a word, and does nothing else.
pub record Assigns (ways : List Way) (now : ℕ) (i : QuickInstr) (to : ℕ) : Type 0 where
  pub word : Memory → Option ℤ
  pub does : (m : Memory) (b : ℕ) → act ways now i m b ≡ put to (word m) m b

-- The instruction at a place does so, and the word is one from a depth on.
pub record AssignsAt (f : Frame) (d p : ℕ) : Type 0 where
  pub instr : QuickInstr
  pub at : slice_get f.code p ≡ Some instr
  pub to : ℕ
  pub deep : d ≤ to
  pub assigns : Assigns f.ways f.now instr to

-- Each instruction from a place on, and before another one, does so.
pub record IsStraight (f : Frame) (d first behind : ℕ) : Type 0 where
  pub ordered : first ≤ behind
  pub each : (p : ℕ) → first ≤ p → p < behind → AssignsAt f d p
