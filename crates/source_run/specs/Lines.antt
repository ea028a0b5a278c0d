-- The line that reports a fault.
use Rattle.std.specs.Prelude.{ℕ, List, [], ◌∷◌, ◌++◌, Option, Some, None, codes}
use Rattle.std.specs.Fmt.{decimal}
use Rattle.source_run.specs.declared.fault.Fault.{Fault}
use Rattle.source_run.specs.Codes.{code_text}
use Rattle.source_run.specs.Causes.{code_of, place_of}

-- if a place is reported, ` at ` and its number
abbrev pub at_text : Option ℕ → List ℕ
at_text None = []
at_text (Some place) = codes " at " ++ decimal place

-- `fault CODE`, or `fault CODE at PLACE`, and LF
abbrev pub fault_line : Fault → List ℕ
fault_line fault = codes "fault " ++ code_text (code_of fault) ++ at_text (place_of fault) ++ 10 ∷ []
