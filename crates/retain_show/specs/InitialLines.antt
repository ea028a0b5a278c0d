-- The retained variables of a text as they are written, against the lines of a record.
use Rattle.std.specs.Prelude.{ℕ, Bool, List, [], ◌∷◌, ◌++◌, if◌then◌else◌, Option}
use Rattle.std.specs.Prelude.{Some, None, option_map, unwrap_or, is_some, is_none, length, map, filter}
use Rattle.std.specs.List.{find, flat_map}
use Rattle.std.specs.Vec.{vec_items}
use Rattle.st_types.specs.Values.{Datum}
use Rattle.st_meaning.specs.declared.plan.PlanVariable.{PlanVariable}
use Rattle.st_meaning.specs.Layouts.{Enumerations, path_text, type_text}
use Rattle.st_meaning.specs.Restarts.{KeptLine}
use Rattle.retain_records.specs.Matching.{is_line_for, numbered_by}
use Rattle.retain_show.specs.declared.fate.Changes.{Changes}
use Rattle.retain_show.specs.declared.fate.Fate.{Fate}
use Rattle.retain_show.specs.declared.written_lines.Line as lines
use Rattle.retain_show.specs.declared.matching.Match.{Match}
use Rattle.retain_show.specs.declared.changes.Sides.{Sides}
use Rattle.retain_show.specs.Against.{Line, changes_of, changes_shown, dropped_shown, fate_by, line_with_path, was_shown}
use Rattle.retain_show.specs.Against.{with_value, word_of}

-- a line of the code
abbrev pub line_view : lines.Line → Line
line_view l = record { path = l.path.items; spelling = l.spelling.items; value = l.value }

abbrev pub types_of : Sides → Enumerations
types_of s = map vec_items s.types.now

abbrev pub text_lines : Sides → List Line
text_lines s = map line_view s.wanted.items

abbrev pub record_lines : Sides → List Line
record_lines s = map line_view s.lines.items

-- a variable as a line, with its initial value
abbrev pub initial_line : Enumerations → PlanVariable → Line
initial_line types v =
    record { path = path_text v.path; spelling = type_text types v.initial.kind; value = v.initial }

-- a line as a start takes it
abbrev pub kept_line : Line → KeptLine
kept_line l = record { path = l.path; spelling = l.spelling; number = l.value.number }

-- a value with the number of a line, if it is the line of this path and type
abbrev pub restored_in : List ℕ → List ℕ → Datum → KeptLine → Option Datum
restored_in path spelling d l = if is_line_for path spelling d.kind l then Some (numbered_by d l) else None

-- its own line: with its path and its type, and a number that the type holds
abbrev pub own_line : List Line → Line → Option KeptLine
own_line lines w = find (is_line_for w.path w.spelling w.value.kind) (map kept_line lines)

-- a variable, and its part of a record: the value in its own line, and the first line of its path
pub record Matched : Type 0 where
  pub wanted : Line
  pub own : Option Datum
  pub other : Option Line

abbrev pub match_view : Match → Matched
match_view m =
    record { wanted = line_view m.wanted.now; own = m.own; other = option_map (λ l. line_view l.now) m.other }

abbrev pub matched : List Line → Line → Matched
matched lines w = record {
  wanted = w;
  own = option_map (numbered_by w.value) (own_line lines w);
  other = line_with_path w.path lines;
}

abbrev pub fate_in : Matched → Fate
fate_in m = fate_by (is_some m.own) (is_some m.other)

abbrev pub match_shown : Enumerations → Matched → List ℕ
match_shown types m = word_of (fate_in m)
    ++ with_value types m.wanted.path m.wanted.spelling (unwrap_or m.own m.wanted.value)
    ++ was_shown (fate_in m) m.other ++ 10 ∷ []

-- none of these variables has the path
abbrev pub is_dropped : List Line → Line → Bool
is_dropped ws l = is_none (line_with_path l.path ws)

abbrev pub dropped_in : List Line → List Line → List Line
dropped_in lines ws = filter (is_dropped ws) lines

abbrev pub all_changes : List Line → List Line → Changes
all_changes lines ws = changes_of (map fate_in (map (matched lines) ws)) (length (dropped_in lines ws))

abbrev pub all_shown : Enumerations → List Line → List Line → List ℕ
all_shown types lines ws =
    flat_map (match_shown types) (map (matched lines) ws) ++ flat_map dropped_shown (dropped_in lines ws)
    ++ changes_shown (all_changes lines ws)
