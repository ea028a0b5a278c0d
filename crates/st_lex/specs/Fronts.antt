-- The front of a text.
use Rattle.std.specs.Prelude.{ℕ, ◌<◌, ◌≤◌, nat_lt, List, [], ◌∷◌, take, drop, if◌then◌else◌}
use Rattle.st_lex.specs.declared.front.Front.{Front}
use Rattle.st_lex.specs.declared.front.Front.TheVariants as fronts
use Rattle.st_lex.specs.Characters.{is_space, begins}
use Rattle.st_lex.specs.Comments.{comment_front}
use Rattle.st_lex.specs.Words.{word_length, word_front}
use Rattle.st_lex.specs.Marks.{mark_front}

-- the end, a space, a comment, a word or a mark
unfoldable pub front_of : List ℕ → Front
front_of [] = fronts.End
front_of (b ∷ bs) =
    if is_space b then fronts.Blank 1 else
    if begins 40 42 (b ∷ bs) then comment_front (drop 2 (b ∷ bs)) else
    if nat_lt 0 (word_length (b ∷ bs)) then word_front (take (word_length (b ∷ bs)) (b ∷ bs)) else
    mark_front (b ∷ bs)

-- the front consists of some bytes of the text, and a fault's place is in it
abbrev pub IsWithin : ℕ → Front → Type 0
IsWithin len fronts.End = Unit {0}
IsWithin len (fronts.Blank n) = (0 < n) × (n ≤ len)
IsWithin len (fronts.Token kind n) = (0 < n) × (n ≤ len)
IsWithin len (fronts.Fault fault n) = n < len
