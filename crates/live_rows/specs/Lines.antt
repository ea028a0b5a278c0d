-- Lines of bytes that are read one after another.
use Rattle.std.specs.Prelude.{◌≡◌, ◌≢◌, ◌<◌, ◌≤◌, ◌⊎◌, ◌++◌, ℕ, List, [], ◌∷◌, All, length, Option, Some, None, ⊤}
use Rattle.std.specs.Io.KnownBytes.{Consumes, IsAtEnd}
use Rattle.live_rows.specs.declared.line_reader.TheConstants.{MAX_LINE_BYTES}
use Rattle.live_rows.specs.declared.line_reader.LineEnd.{LineEnd}
use Rattle.live_rows.specs.declared.line_reader.LineEnd.TheVariants.{Whole, TooLong, Unfinished}
use Rattle.live_rows.specs.declared.line_reader.Part.{Part}
use Rattle.live_rows.specs.declared.line_reader.Part.TheVariants.{Begun, Ended, NoMore}

-- a reader by lines as callers see it: the bytes that are left, if they are known; those of them that were read already;
-- and the line that was read last
pub record LinesView : Type 0 where
  pub left : Option (List ℕ)
  pub ahead : List ℕ
  pub line : List ℕ

-- without a line feed
abbrev pub HasNoLf : List ℕ → Type 0
HasNoLf bytes = All (λ x. x ≢ 10) bytes

-- The bytes begin with a line that ends so, and the rest is left after it. A whole line is what stands before the first line
-- feed, at most 65,536 bytes. A longer one is left out, up to its line feed or to the end. A line without its line feed is
-- the last.
abbrev pub BeginsWith : LineEnd → List ℕ → List ℕ → List ℕ → Type 0
BeginsWith Whole line bytes rest = (bytes ≡ line ++ 10 ∷ rest) × HasNoLf line × (length line ≤ MAX_LINE_BYTES)
BeginsWith TooLong line bytes rest = (long : List ℕ) × HasNoLf long × (MAX_LINE_BYTES < length long)
    × ((bytes ≡ long ++ 10 ∷ rest) ⊎ ((bytes ≡ long) × (rest ≡ [])))
BeginsWith Unfinished line bytes rest =
    (bytes ≡ line) × (rest ≡ []) × HasNoLf line × (length line ≤ MAX_LINE_BYTES) × (line ≢ [])

-- What a reader by lines has read: nothing at the end of the bytes, otherwise the line that they begin with.
abbrev pub ReadsLine : Option (List ℕ) → List ℕ → Option (List ℕ) → Option LineEnd → Type 0
ReadsLine None line left end = ⊤
ReadsLine (Some bytes) line None end = ⊥
ReadsLine (Some bytes) line (Some rest) None = (bytes ≡ []) × (rest ≡ [])
ReadsLine (Some bytes) line (Some rest) (Some end) = BeginsWith end line bytes rest

-- a line feed is among the bytes
abbrev pub HasLf : List ℕ → Type 0
HasLf bytes = (line : List ℕ) × (rest : List ℕ) × (bytes ≡ line ++ 10 ∷ rest)

-- what a part of a line takes from the bytes: itself, and its line feed if it ends; nothing at their end
abbrev pub TakesPart : Part → List ℕ → Option (List ℕ) → Option (List ℕ) → Type 0
TakesPart Begun more old new = Consumes old new more
TakesPart Ended more old new = Consumes old new (more ++ 10 ∷ [])
TakesPart NoMore more old new = (more ≡ []) × Consumes old new [] × IsAtEnd old
