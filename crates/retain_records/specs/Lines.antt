-- The lines of a layout text, as they are written.
use Rattle.std.specs.Prelude.{ℕ, zero, suc, List, [], ◌∷◌, ◌++◌, length, if◌then◌else◌, Option, Some, None, option_map, bytes_eq}
use Rattle.retain_records.specs.ContentLines.{Words, words_at}

-- a line PATH TYPE without its end
abbrev pub layout_line : List ℕ → List ℕ → List ℕ
layout_line path spelling = path ++ 32 ∷ spelling

-- the first line of a layout text as it is written, and the text after it
abbrev pub line_at : List ℕ → Option (List ℕ × List ℕ)
line_at text = option_map (λ w. (layout_line w.path w.spelling, w.behind)) (words_at text)

-- a first line, and the lines of the text after it
abbrev pub written_then : Option Words → (List ℕ → List (List ℕ)) → List (List ℕ)
written_then None others = []
written_then (Some w) others = layout_line w.path w.spelling ∷ others w.behind

-- the first `n` lines of a layout text, or all that it has
abbrev pub first_lines : ℕ → List ℕ → List (List ℕ)
first_lines zero text = []
first_lines (suc n) text = written_then (words_at text) (λ behind. first_lines n behind)

-- all lines of a layout text: it has no more of them than bytes
abbrev pub lines_of : List ℕ → List (List ℕ)
lines_of text = first_lines (length text) text

-- the place of the first line that is written like this
abbrev pub place_of : List (List ℕ) → List ℕ → Option ℕ
place_of [] line = None
place_of (l ∷ ls) line = if bytes_eq line l then Some 0 else option_map suc (place_of ls line)
