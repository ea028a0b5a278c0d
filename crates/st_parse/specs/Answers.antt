-- The answers of parsing.
use Rattle.std.specs.Prelude.{◌≡◌, ℕ, [], ◌∷◌, ◌++◌, Result, Ok, Err}
use Rattle.st_types.specs.declared.limits.TheConstants.{MAX_DEPTH}
use Rattle.st_types.specs.Sources.{Source}
use Rattle.st_types.specs.SourceViews.{source_view}
use Rattle.st_types.specs.declared.source.Source.{Source as Tree}
use Rattle.st_parse.specs.declared.fault.ParseError.{ParseError}
use Rattle.st_parse.specs.declared.fault.ParseError.TheVariants as errors
use Rattle.st_parse.specs.Tokens.{Tokens}
use Rattle.st_parse.specs.Places.{end_of}
use Rattle.st_parse.specs.Laws.{SameHead}
use Rattle.st_parse.specs.Sources.{IsSource}
use Rattle.st_parse.specs.Depths.{SourceWithin}

-- the place of the token after a prefix: its first byte, or if there is none the end of the prefix's last token
abbrev pub place_after : Tokens → Tokens → ℕ
place_after front [] = end_of 0 front
place_after front (t ∷ rest) = t.start

-- The tokens begin a text of the grammar.
pub record BeginsSource (front : Tokens) : Type 0 where
  pub more : Tokens
  pub source : Source
  pub whole : IsSource (front ++ more) source

-- The tokens before the place begin a text of the grammar, and with the next token they no longer do.
pub record IsUnexpectedAt (tokens : Tokens) (place : ℕ) : Type 0 where
  pub front : Tokens
  pub rest : Tokens
  pub parts : tokens ≡ front ++ rest
  pub here : place ≡ place_after front rest
  pub begins : BeginsSource front
  pub none : (more : Tokens) (source : Source) → SameHead rest more → IsSource (front ++ more) source → ⊥

-- A prefix of the tokens begins a text of the grammar, and every text that begins with it is too deep.
pub record IsTooDeepSource (tokens : Tokens) : Type 0 where
  pub front : Tokens
  pub rest : Tokens
  pub parts : tokens ≡ front ++ rest
  pub begins : BeginsSource front
  pub none : (more : Tokens) (source : Source) → IsSource (front ++ more) source → SourceWithin MAX_DEPTH source → ⊥

-- why tokens are refused; out of memory says nothing about them
abbrev pub Refused : Tokens → ParseError → Type 0
Refused tokens (errors.Unexpected place) = IsUnexpectedAt tokens place
Refused tokens errors.Deep = IsTooDeepSource tokens
Refused tokens errors.Memory = Unit {0}

-- this source is the answer, unless an allocation failed
abbrev pub Answers : Source → Result Tree ParseError → Type 0
Answers source (Ok tree) = source_view tree ≡ source
Answers source (Err errors.Memory) = Unit {0}
Answers source (Err other) = ⊥
