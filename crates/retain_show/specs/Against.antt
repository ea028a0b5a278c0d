-- The outcome that a warm start of a text would have with a retain file, shown before it is done.
use Rattle.std.specs.Prelude.{ℕ, ◌+◌, ◌-◌, ◌^◌, ◌==◌, if◌then◌else◌, Bool, true, false, List, [], ◌∷◌, ◌++◌}
use Rattle.std.specs.Prelude.{Option, Some, None, is_some, is_none, codes, length, map, filter, bytes_eq}
use Rattle.std.specs.List.{find, flat_map}
use Rattle.std.specs.Fmt.{decimal}
use Rattle.st_types.specs.Values.{Datum}
use Rattle.st_print.specs.Spelling.{value_text}
use Rattle.st_meaning.specs.declared.plan.PlanVariable.{PlanVariable}
use Rattle.st_meaning.specs.Layouts.{Enumerations, layout_text, path_text, type_text}
use Rattle.st_meaning.specs.Restarts.{KeptLine, is_line_of, restarted}
use Rattle.retain_store.specs.Recovered.{Recovered, TooLong, Refused, Nothing, Found}
use Rattle.retain_records.specs.Splits.{parted}
use Rattle.plan.specs.declared.plan.Plan.{Plan}
use Rattle.plan.specs.PlanViews.{plan_view}
use Rattle.retain_records.specs.ContentLines.{Words, words_at, kept_in}
use Rattle.retain_show.specs.declared.fate.Changes.{Changes}
use Rattle.retain_show.specs.declared.fate.Fate.{Fate}
use Rattle.retain_show.specs.declared.fate.Fate.TheVariants.{Carried, New, Retyped}
use Rattle.retain_show.specs.Shown.{inner, generation_shown, moment_shown, shown_text}

-- a line of a record: a path and a type as they are written, and the value
pub record Line : Type 0 where
  pub path : List ℕ
  pub spelling : List ℕ
  pub value : Datum

abbrev pub line_then : Option Words → Datum → (List ℕ → List Line) → List Line
line_then None d others = []
line_then (Some w) d others = record { path = w.path; spelling = w.spelling; value = d } ∷ others w.behind

-- the lines of a layout text, each with its value
abbrev pub valued_lines : List ℕ → List Datum → List Line
valued_lines text [] = []
valued_lines text (d ∷ ds) = line_then (words_at text) d (λ behind. valued_lines behind ds)

-- TYPE = VALUE, a value of an enumerated type by its name
abbrev pub typed_shown : Line → List ℕ
typed_shown l = l.spelling ++ codes " = " ++ value_text (parted 44 (inner l.spelling) ∷ []) l.value

-- PATH TYPE = VALUE of a variable
abbrev pub with_value : Enumerations → List ℕ → List ℕ → Datum → List ℕ
with_value types path spelling value = path ++ codes " " ++ spelling ++ codes " = " ++ value_text types value

-- A variable with a line of its own is carried. If a line has only its path, it is retyped, and otherwise it is new.
abbrev pub fate_by : Bool → Bool → Fate
fate_by true has_path = Carried
fate_by false true = Retyped
fate_by false false = New

abbrev pub word_of : Fate → List ℕ
word_of Carried = codes "carried "
word_of New = codes "new "
word_of Retyped = codes "retyped "

-- the old type and value, as the other line has them
abbrev pub was_shown : Fate → Option Line → List ℕ
was_shown Retyped (Some l) = codes ", was " ++ typed_shown l
was_shown fate other = []

-- the first line with this path
abbrev pub line_with_path : List ℕ → List Line → Option Line
line_with_path path lines = find (λ l. bytes_eq path l.path) lines

abbrev pub is_fate : Fate → Fate → Bool
is_fate Carried Carried = true
is_fate New New = true
is_fate Retyped Retyped = true
is_fate a b = false

abbrev pub count_of : Fate → List Fate → ℕ
count_of fate fates = length (filter (is_fate fate) fates)

abbrev pub changes_of : List Fate → ℕ → Changes
changes_of fates dropped = record {
  carried = count_of Carried fates;
  new = count_of New fates;
  retyped = count_of Retyped fates;
  dropped = dropped;
}

abbrev pub count_shown : ℕ → List ℕ → List ℕ
count_shown n word = decimal n ++ word

abbrev pub changes_shown : Changes → List ℕ
changes_shown c = count_shown c.carried (codes " carried, ") ++ count_shown c.new (codes " new, ")
    ++ count_shown c.retyped (codes " retyped, ") ++ count_shown c.dropped (codes " dropped\n")

abbrev pub dropped_shown : Line → List ℕ
dropped_shown l = codes "dropped " ++ l.path ++ codes " " ++ typed_shown l ++ 10 ∷ []

-- The retained variables of a text, with these enumerated types, against the lines of a record: the lines that a
-- start takes, and how they are written.
module _ (types : Enumerations) (kept : List KeptLine) (lines : List Line) where
  abbrev pub fate_of : PlanVariable → Fate
  fate_of v = fate_by (is_some (find (is_line_of types v) kept)) (is_some (line_with_path (path_text v.path) lines))

  -- its fate, the value that it starts with, and its old line if that had another type
  abbrev pub variable_shown : PlanVariable → List ℕ
  variable_shown v = word_of (fate_of v)
      ++ with_value types (path_text v.path) (type_text types v.initial.kind) (restarted types kept v)
      ++ was_shown (fate_of v) (line_with_path (path_text v.path) lines) ++ 10 ∷ []

  -- the lines with a path that none of these variables has
  abbrev pub dropped_lines : List PlanVariable → List Line
  dropped_lines vs = filter (λ l. is_none (find (λ v. bytes_eq l.path (path_text v.path)) vs)) lines

  -- how many there are of each
  abbrev pub changes_in : List PlanVariable → Changes
  changes_in vs = changes_of (map fate_of vs) (length (dropped_lines vs))

  -- the variables, the lines that are dropped, and how many there are of each
  abbrev pub fates_shown : List PlanVariable → List ℕ
  fates_shown vs =
      flat_map variable_shown vs ++ flat_map dropped_shown (dropped_lines vs) ++ changes_shown (changes_in vs)

-- the record that the start saves: nothing if the layout text is the same; S4 if no generation is left
abbrev pub saved_shown : Bool → ℕ → List ℕ
saved_shown is_same generation =
    if is_same then codes "saves nothing" ++ 10 ∷ []
    else if generation == 2 ^ 64 - 1 then codes "fault S4" ++ 10 ∷ []
    else codes "saves generation " ++ decimal (generation + 1) ++ 10 ∷ []

-- the variables that are retained
abbrev pub retained : List PlanVariable → List PlanVariable
retained vs = filter (λ v. v.retained) vs

-- the same for all variables, by the content that a file is recovered to; nothing is shown of a file that is refused
abbrev pub against : Enumerations → List PlanVariable → Recovered → List ℕ
against types vs Nothing =
    shown_text Nothing ++ fates_shown types [] [] (retained vs) ++ saved_shown true 0
against types vs (Found generation c) = generation_shown generation ++ moment_shown c.moment
    ++ fates_shown types (kept_in c).lines (valued_lines c.layout c.values) (retained vs)
    ++ saved_shown (bytes_eq c.layout (layout_text types vs)) generation
against types vs TooLong = []
against types vs Refused = []

-- The outcome that a warm start of a plan would have with a file. The value of each variable is the one that `start` takes.
abbrev pub against_shown : Plan → Recovered → List ℕ
against_shown plan file = against (plan_view plan).enumerations plan.variables.items file

-- how many there are of each if a record of another layout text is found
abbrev pub changes : Enumerations → List PlanVariable → Recovered → Option Changes
changes types vs (Found generation c) =
    if bytes_eq c.layout (layout_text types vs) then None
    else Some (changes_in types (kept_in c).lines (valued_lines c.layout c.values) (retained vs))
changes types vs file = None

-- The changes that a warm start of a plan over another layout would make with a file.
abbrev pub changes_against : Plan → Recovered → Option Changes
changes_against plan file = changes (plan_view plan).enumerations plan.variables.items file
