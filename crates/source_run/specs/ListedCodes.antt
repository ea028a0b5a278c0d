-- The codes that have an explanation.
use Rattle.std.specs.Prelude.{ℕ, ◌==◌, List, [], ◌∷◌, Bool, if◌then◌else◌, codes}
use Rattle.std.specs.Char.{to_ascii_uppercase}
use Rattle.std.specs.Str.{str_eq_ignore_ascii_case}
use Rattle.source_run.specs.declared.entry.Explanation.{Explanation}

abbrev pub code_bytes : Explanation → List ℕ
code_bytes entry = entry.code.now

-- the words are this code, in upper or lower case
abbrev pub is_code : List ℕ → List ℕ → Bool
is_code words code = str_eq_ignore_ascii_case code words

abbrev pub has_code : List ℕ → Explanation → Bool
has_code words entry = is_code words (code_bytes entry)

-- of the words of a text
abbrev pub listed_words : List (List ℕ)
listed_words = codes "L1" ∷ codes "L2" ∷ codes "L3" ∷ codes "L4" ∷ codes "L5" ∷ codes "L6" ∷ []

-- of the grammar of a text
abbrev pub listed_grammar : List (List ℕ)
listed_grammar = codes "P1" ∷ codes "P2" ∷ codes "P3" ∷ []

-- of names and types
abbrev pub listed_rules : List (List ℕ)
listed_rules =
    codes "C1" ∷ codes "C2" ∷ codes "C3" ∷ codes "C4" ∷ codes "C5" ∷ codes "C6" ∷ codes "C7" ∷ codes "C8"
    ∷ codes "C9" ∷ codes "C10" ∷ codes "C11" ∷ codes "C12" ∷ codes "C13" ∷ []

-- of the configuration, and the plan
abbrev pub listed_configurations : List (List ℕ)
listed_configurations =
    codes "G2" ∷ codes "G3" ∷ codes "G4" ∷ codes "G5" ∷ codes "G6" ∷ codes "G7" ∷ codes "G8" ∷ codes "G9"
    ∷ []

-- of the layout and the code
abbrev pub listed_sizes : List (List ℕ)
listed_sizes = codes "M1" ∷ codes "M2" ∷ codes "M3" ∷ []

-- of files of texts
abbrev pub listed_sources : List (List ℕ)
listed_sources = codes "X1" ∷ []

-- of the plant
abbrev pub listed_plants : List (List ℕ)
listed_plants = codes "I1" ∷ codes "I2" ∷ codes "I3" ∷ codes "I4" ∷ codes "I5" ∷ codes "I6" ∷ []

-- of the trace
abbrev pub listed_traces : List (List ℕ)
listed_traces = codes "V1" ∷ codes "V2" ∷ codes "V3" ∷ codes "V4" ∷ codes "V5" ∷ codes "V6" ∷ codes "V7" ∷ []

-- of the retain file
abbrev pub listed_stores : List (List ℕ)
listed_stores = codes "S1" ∷ codes "S2" ∷ codes "S3" ∷ codes "S4" ∷ codes "S5" ∷ codes "S6" ∷ []

-- of the start
abbrev pub listed_starts : List (List ℕ)
listed_starts = codes "N2" ∷ []

-- of the run
abbrev pub listed_cores : List (List ℕ)
listed_cores = codes "K1" ∷ codes "K2" ∷ codes "K3" ∷ codes "K4" ∷ codes "K5" ∷ codes "K6" ∷ []

-- of threads
abbrev pub listed_threads : List (List ℕ)
listed_threads = codes "H1" ∷ codes "H2" ∷ []

-- of faults of executions
abbrev pub listed_faults : List (List ℕ)
listed_faults = codes "F1" ∷ codes "F2" ∷ codes "F3" ∷ codes "F4" ∷ codes "F5" ∷ codes "F6" ∷ []

-- all codes with a letter in upper case
abbrev pub codes_with : ℕ → List (List ℕ)
codes_with letter =
    if letter == 76 then listed_words
    else if letter == 80 then listed_grammar
    else if letter == 67 then listed_rules
    else if letter == 71 then listed_configurations
    else if letter == 77 then listed_sizes
    else if letter == 88 then listed_sources
    else if letter == 73 then listed_plants
    else if letter == 86 then listed_traces
    else if letter == 83 then listed_stores
    else if letter == 78 then listed_starts
    else if letter == 75 then listed_cores
    else if letter == 72 then listed_threads
    else if letter == 70 then listed_faults
    else []

-- all codes that begin as the words do, in upper or lower case
abbrev pub codes_like : List ℕ → List (List ℕ)
codes_like [] = []
codes_like (letter ∷ rest) = codes_with (to_ascii_uppercase letter)
