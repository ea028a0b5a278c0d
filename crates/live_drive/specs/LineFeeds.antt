-- Rows that come as lines.
use Rattle.std.specs.Prelude.{◌≡◌, ◌≢◌, ◌<◌, ℕ, List, Option, Some, None}
use Rattle.std.specs.Fmt.{decimal}
use Rattle.st_types.specs.declared.limits.TheConstants.{MOMENT_LIMIT}
use Rattle.st_types.specs.Rows.{Latch}
use Rattle.st_meaning.specs.declared.plan.PlanInput.{PlanInput}
use Rattle.image.specs.Plants.{IsRowOf}
use Rattle.live_rows.specs.Lines.{HasLf, HasNoLf, ReadsLine}
use Rattle.live_rows.specs.RowLines.{first_field, row_line, timed, without_cr}
use Rattle.live_rows.specs.declared.line_reader.LineEnd.{LineEnd}
use Rattle.live_rows.specs.declared.line_reader.LineEnd.TheVariants.{Whole}
use Rattle.live_rows.specs.declared.timed_line.Moments.{Moments}
use Rattle.live_drive.specs.Stamps.{IsStamp}
use Rattle.live_drive.specs.declared.feed.FeedEnd.{FeedEnd}
use Rattle.live_drive.specs.declared.feed.FeedEnd.TheVariants.{Ended}
use Rattle.live_drive.specs.declared.feed.Incoming.{Incoming}
use Rattle.live_drive.specs.declared.feed.Incoming.TheVariants as came
use Rattle.live_drive.specs.declared.line_feed.Backlog.{Backlog}
use Rattle.live_drive.specs.declared.line_feed.Backlog.TheVariants.{All, Newest}

-- a line that ended so spells this row of the inputs
pub record Spells (inputs : List PlanInput) (end : LineEnd) (line : List ℕ) (row : Latch) : Type 0 where
  pub whole : end ≡ Whole
  pub text : without_cr line ≡ row_line row
  pub fits : IsRowOf inputs row

-- it spells no row
abbrev pub SpellsNone : List PlanInput → LineEnd → List ℕ → Type 0
SpellsNone inputs end line = (row : Latch) → Spells inputs end line row → ⊥

-- the moment that the first field of a whole line spells, if it does
abbrev pub HasMoment : LineEnd → List ℕ → Option ℕ → Type 0
HasMoment end line (Some moment) =
    (end ≡ Whole) × (moment < MOMENT_LIMIT) × (first_field line ≡ decimal moment)
HasMoment end line None =
    (moment : ℕ) → end ≡ Whole → moment < MOMENT_LIMIT → first_field line ≢ decimal moment

-- what comes with a line that ended so
abbrev pub ComesWith : List PlanInput → LineEnd → List ℕ → Incoming → Type 0
ComesWith inputs end line (came.Row row) = Spells inputs end line row
ComesWith inputs end line (came.NoRow moment) = SpellsNone inputs end line × HasMoment end line moment
ComesWith inputs end line (came.Old moment) = ⊥

-- the lines of an input as callers see them: whether rows that were read together are all latched, where they have their
-- moments from, the bytes that are left, if they are known, those of them that were read already, and the line that was
-- read last and how it ended
pub record LineFeedView : Type 0 where
  pub backlog : Backlog
  pub moments : Moments
  pub left : Option (List ℕ)
  pub ahead : List ℕ
  pub line : List ℕ
  pub end : LineEnd

-- the line was read with which the bytes begin
pub record HasRead (old new : LineFeedView) : Type 0 where
  pub reads : ReadsLine old.left new.line new.left (Some new.end)
  pub backlog : new.backlog ≡ old.backlog
  pub moments : new.moments ≡ old.moments

-- a line was read together with a newer one, and the newest alone counts
abbrev pub IsOld : Backlog → List ℕ → Type 0
IsOld All ahead = ⊥
IsOld Newest ahead = HasLf ahead

-- no newer line was read together with it, or all count
abbrev pub IsNew : Backlog → List ℕ → Type 0
IsNew All ahead = Unit {0}
IsNew Newest ahead = HasNoLf ahead

-- a line is a row, an old one if a newer line was read together with it and the newest alone counts; or it spells none
abbrev pub ComesOf : List PlanInput → LineFeedView → List ℕ → Incoming → Type 0
ComesOf inputs feed line (came.Old moment) = IsOld feed.backlog feed.ahead
    × ((row : Latch) × Spells inputs feed.end line row × (row.moment ≡ moment))
ComesOf inputs feed line (came.Row row) = IsNew feed.backlog feed.ahead × Spells inputs feed.end line row
ComesOf inputs feed line (came.NoRow moment) = SpellsNone inputs feed.end line × HasMoment feed.end line moment

-- what came with the line that was read last, after the moment that the clock gave it, if rows have none of their own
abbrev pub GivesLine : List PlanInput → Option ℕ → LineFeedView → Incoming → Type 0
GivesLine inputs last feed incoming = (stamp : Option ℕ) × IsStamp feed.moments last stamp
    × ComesOf inputs feed (timed stamp feed.line) incoming

-- the bytes have come to their end, if the feed says so
abbrev pub EndsLines : LineFeedView → FeedEnd → LineFeedView → Type 0
EndsLines old Ended new = (line : List ℕ) × ReadsLine old.left line new.left None
EndsLines old end new = Unit {0}
