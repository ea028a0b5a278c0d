-- The tokens of a text: its front, and then those of the rest.
use Rattle.std.specs.Prelude.{◌≡◌, ℕ, ◌+◌, ◌<◌, ◌≤◌, List, [], ◌∷◌, length, drop, Result, Ok, Err}
use Rattle.std.specs.Global.{Vec}
use Rattle.st_types.specs.declared.limits.TheConstants.{MAX_SOURCE_BYTES}
use Rattle.st_lex.specs.declared.token.TokenKind.{TokenKind}
use Rattle.st_lex.specs.declared.token.Token.{Token}
use Rattle.st_lex.specs.declared.fault.LexFault.{LexFault}
use Rattle.st_lex.specs.declared.fault.LexError.{LexError}
use Rattle.st_lex.specs.declared.fault.LexError.TheVariants.{Fault, TooLong, Memory}
use Rattle.st_lex.specs.declared.front.Front.TheVariants as fronts
use Rattle.st_lex.specs.Fronts.{front_of}

-- These are the tokens of the bytes, which are at a place in the source.
pub data Spells : ℕ → List ℕ → List Token → Type 0 where
  ends : {at : ℕ} {text : List ℕ} → front_of text ≡ fronts.End → Spells at text []
  blank : {at : ℕ} {text : List ℕ} {tokens : List Token} (n : ℕ) → front_of text ≡ fronts.Blank n
      → Spells (at + n) (drop n text) tokens → Spells at text tokens
  token : {at : ℕ} {text : List ℕ} {tokens : List Token} (kind : TokenKind) (n : ℕ)
      → front_of text ≡ fronts.Token kind n
      → Spells (at + n) (drop n text) tokens
      → Spells at text (record { kind = kind; start = at; end = at + n } ∷ tokens)

-- After some tokens there is a fault at a place.
pub data HasFault : ℕ → List ℕ → LexFault → ℕ → Type 0 where
  here : {at : ℕ} {text : List ℕ} {fault : LexFault} (n : ℕ) → front_of text ≡ fronts.Fault fault n
      → HasFault at text fault (at + n)
  after_blank : {at : ℕ} {text : List ℕ} {fault : LexFault} {place : ℕ} (n : ℕ) → front_of text ≡ fronts.Blank n
      → HasFault (at + n) (drop n text) fault place → HasFault at text fault place
  after_token : {at : ℕ} {text : List ℕ} {fault : LexFault} {place : ℕ} (kind : TokenKind) (n : ℕ)
      → front_of text ≡ fronts.Token kind n
      → HasFault (at + n) (drop n text) fault place → HasFault at text fault place

-- A text that is not too long has these tokens.
pub record Lexes (text : List ℕ) (tokens : List Token) : Type 0 where
  pub short : length text ≤ MAX_SOURCE_BYTES
  pub spells : Spells 0 text tokens

-- The refusal applies to the text: the length is tested first, and the first fault is reported, at its place.
abbrev pub LexErrorApplies : List ℕ → LexError → Type 0
LexErrorApplies text Memory = Unit {0}
LexErrorApplies text TooLong = MAX_SOURCE_BYTES < length text
LexErrorApplies text (Fault fault place) = (length text ≤ MAX_SOURCE_BYTES) × HasFault 0 text fault place

-- these tokens, unless an allocation failed
abbrev pub GivesTokens : Result (Vec Token) LexError → List Token → Type 0
GivesTokens (Ok found) tokens = found.items ≡ tokens
GivesTokens (Err Memory) tokens = Unit {0}
GivesTokens (Err TooLong) tokens = ⊥
GivesTokens (Err (Fault fault place)) tokens = ⊥
