-- Properties of the tokens of every text.
use Rattle.std.specs.Prelude.{◌≡◌, ℕ, ◌-◌, ◌<◌, ◌≤◌, List, [], ◌∷◌, false, ◌&&◌, slice_index, slice_range}
use Rattle.st_lex.specs.declared.token.Token.{Token}
use Rattle.st_lex.specs.Characters.{is_word_character}
use Rattle.st_lex.specs.declared.fault.LexFault.{LexFault}
use Rattle.st_lex.specs.Texts.{Spells, HasFault, Lexes}

-- each begins at the end of the one before it, or later, and has bytes; the last ends at the end, or before
abbrev pub AreInOrder : ℕ → ℕ → List Token → Type 0
AreInOrder from end [] = from ≤ end
AreInOrder from end (t ∷ ts) = (from ≤ t.start) × (t.start < t.end) × AreInOrder t.end end ts

abbrev pub Each : (Token → Type 0) → List Token → Type 0
Each P [] = Unit {0}
Each P (t ∷ ts) = P t × Each P ts

-- the token's slice of the text is spelled by this token alone
abbrev pub IsItsSlice : List ℕ → Token → Type 0
IsItsSlice text t =
    Lexes (slice_range text t.start t.end) (record { kind = t.kind; start = 0; end = t.end - t.start } ∷ [])

-- the byte before this place and the byte at it aren't both characters of a word
abbrev pub IsParted : List ℕ → ℕ → Type 0
IsParted text at = 0 < at
    → is_word_character (slice_index text (at - 1)) && is_word_character (slice_index text at) ≡ false

-- no word goes on before the token or after it
abbrev pub IsWholeToken : List ℕ → Token → Type 0
IsWholeToken text t = IsParted text t.start × IsParted text t.end

-- the bytes at this place have tokens
abbrev pub IsSpelled : ℕ → List ℕ → Type 0
IsSpelled at text = (tokens : List Token) × Spells at text tokens

-- they have a fault, the first one
abbrev pub IsBroken : ℕ → List ℕ → Type 0
IsBroken at text = (fault : LexFault) × (place : ℕ) × HasFault at text fault place
