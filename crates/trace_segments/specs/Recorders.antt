-- The lines of segments, made while a life goes on.
use Rattle.std.specs.Prelude.{◌≡◌, ◌+◌, ◌++◌, ℕ, List, Option}
use Rattle.st_types.specs.declared.entry.Entry.{Entry}
use Rattle.st_meaning.specs.declared.outcome.Outcome.{Outcome}
use Rattle.plan.specs.declared.plan.Plan.{Plan}
use Rattle.core_engine.specs.Lived.{EngineView}
use Rattle.core_engine.specs.Checkpointed.{checkpoint_of}
use Rattle.trace_segments.specs.Segments.{IsResting, head_text, segment_line}

-- the lines that are made and not yet taken, the number of the segment, and how many entries it has
pub record RecorderView : Type 0 where
  pub lines : List ℕ
  pub number : ℕ
  pub entries : ℕ

-- The line of an entry that ended so is made, and counted.
pub record Records (plan : Plan) (entry : Entry) (outcome : Option Outcome) (old new : RecorderView) : Type 0 where
  pub lines : new.lines ≡ old.lines ++ segment_line plan entry outcome
  pub entries : new.entries ≡ old.entries + 1
  pub number : new.number ≡ old.number

-- The segment of a number begins where the engine is, if nothing waits there.
pub record Begins (engine : EngineView) (number : ℕ) (lines : List ℕ) (new : RecorderView) : Type 0 where
  pub head : IsResting (checkpoint_of engine)
      → new.lines ≡ lines ++ head_text engine.plan number engine.before (checkpoint_of engine)
  pub entries : new.entries ≡ 0
  pub number_is : new.number ≡ number
