-- A text for worked examples of lines.
use Rattle.std.specs.Prelude.{ℕ, List, [], ◌∷◌}

-- `ab` and `cd`, with an LF between them
abbrev pub two_lines : List ℕ
two_lines = 97 ∷ 98 ∷ 10 ∷ 99 ∷ 100 ∷ []
