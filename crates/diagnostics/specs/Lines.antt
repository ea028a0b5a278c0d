-- Lines of a text, and places in them. A line ends before LF. A place beyond the text counts as its end.
use Rattle.std.specs.Prelude.{ℕ, ◌+◌, ◌==◌, Bool, not, List, take, drop, count_by}
use Rattle.std.specs.List.{prefix_len, suffix_len}

-- LF
abbrev pub is_line_end : ℕ → Bool
is_line_end b = b == 10

abbrev pub is_inside : ℕ → Bool
is_inside b = not (b == 10)

-- the number of a place's line, from 1: one more than the LFs before the place
abbrev pub line_number : List ℕ → ℕ → ℕ
line_number text place = count_by is_line_end (take place text) + 1

-- how many bytes come before a place, back to the last LF before it
abbrev pub bytes_from_start : List ℕ → ℕ → ℕ
bytes_from_start text place = suffix_len is_inside (take place text)

-- the column of a place in bytes, from 1: one more than the bytes after the last LF before it
abbrev pub column_number : List ℕ → ℕ → ℕ
column_number text place = bytes_from_start text place + 1

-- how many bytes come from a place on, up to the next LF
abbrev pub bytes_to_end : List ℕ → ℕ → ℕ
bytes_to_end text place = prefix_len is_inside (drop place text)
