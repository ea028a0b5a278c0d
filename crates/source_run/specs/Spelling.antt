-- The text that is printed for a code.
use Rattle.std.specs.Prelude.{ℕ, List, [], ◌∷◌, ◌++◌, Option, Some, None, codes}
use Rattle.std.specs.List.{flat_map}
use denote.Bor.{Bor}
use Rattle.source_run.specs.declared.entry.Explanation.{Explanation}
use Rattle.source_run.specs.declared.entry.Example.{Example}
use Rattle.source_run.specs.declared.entry.Frame as frames
use Rattle.source_run.specs.declared.entry.Frame.TheVariants.{Text, Units, Statements, Globals, Resource, Plant, Trace}
use Rattle.source_run.specs.declared.entry.Frame.TheVariants.{Command, ShortMemory}
use Rattle.source_run.specs.declared.entry.Status as statuses
use Rattle.source_run.specs.declared.entry.Status.TheVariants as status

-- the place of the lines of an example
abbrev pub frame_text : frames.Frame → List ℕ
frame_text Text = codes "as a whole source"
frame_text Units = codes "before a configuration that runs the program Main"
frame_text Statements = codes "in the program Main, where n is an INT"
frame_text Globals = codes "in a configuration, before its resources"
frame_text Resource = codes "in a resource with the task Cycle, for the program Main"
frame_text Plant = codes "as the plant of a source without inputs"
frame_text Trace = codes "in the trace of one program over rows at 0, 10 and 20"
frame_text Command = codes "on the command line"
frame_text ShortMemory = codes "on the command line, if memory runs out just then"

-- the exit status, and its meaning
abbrev pub status_words : statuses.Status → List ℕ
status_words status.Source = codes "Exit status 2: the source is refused; plant and retain file were not opened."
status_words status.Plant = codes "Exit status 3: the plant is refused; the retain file was not opened."
status_words status.Trace =
    codes "Exit status 3: the trace is refused, or a successful run could not write it."
status_words status.Start =
    codes "Exit status 4: the start is refused; the retain file keeps its values, unless the device failed."
status_words status.Run = codes "Exit status 5: the run is refused; everything acknowledged is kept."
status_words status.Execution =
    codes "Exit status 0: one execution failed and wrote nothing; the run went on, and the report counts it."

unfoldable pub status_text : statuses.Status → List ℕ
status_text s = status_words s ++ 10 ∷ []

-- a line with these words before it, and LF after it
abbrev pub line_text : List ℕ → Bor (List ℕ) → List ℕ
line_text before line = before ++ line.now ++ 10 ∷ []

abbrev pub lines_text : List ℕ → List (Bor (List ℕ)) → List ℕ
lines_text before lines = flat_map (line_text before) lines

-- the code with its title, and LF
unfoldable pub title_line : Explanation → List ℕ
title_line entry = entry.code.now ++ codes ": " ++ entry.title.now ++ 10 ∷ []

unfoldable pub gives_words : List ℕ
gives_words = codes "This gives "

unfoldable pub right_line : List ℕ
right_line = codes "This is right:" ++ 10 ∷ []

-- the line that says which code comes, before the lines that give it
abbrev pub gives_line : List ℕ → frames.Frame → List ℕ
gives_line code frame = gives_words ++ code ++ codes ", " ++ frame_text frame ++ codes ":" ++ 10 ∷ []

-- the lines that give a code
unfoldable pub wrong_text : List ℕ → Example → List ℕ
wrong_text code example = gives_line code example.frame ++ lines_text (codes "    ") example.wrong.now

-- the lines that are right in their place
unfoldable pub right_text : Example → List ℕ
right_text example = right_line ++ lines_text (codes "    ") example.right.now

abbrev pub both_text : List ℕ → Example → List ℕ
both_text code example = wrong_text code example ++ right_text example

unfoldable pub example_text : List ℕ → Option Example → List ℕ
example_text code None = []
example_text code (Some example) = both_text code example

-- the code with its title, its meaning, its example, and the exit status
abbrev pub explanation_text : Explanation → List ℕ
explanation_text entry =
    title_line entry ++ lines_text [] entry.meaning.now ++ example_text entry.code.now entry.example
    ++ status_text entry.status
