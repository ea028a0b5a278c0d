-- The answers when a text is judged, by a list of faults.
use Rattle.std.specs.Prelude.{◌≡◌, List, [], Option, Some, None, Result, Ok, Err, IfOk}
use Rattle.std.specs.List.{Contains}
use Rattle.std.specs.declared.alloc.AllocError.{AllocError}
use Rattle.st_rules.specs.declared.rule.Broken.{Broken}
use Rattle.st_rules.specs.declared.broken_rules.BrokenRules.{BrokenRules}
use Rattle.st_rules.specs.Collecting.{Covers}
use Rattle.st_decl.specs.declared.judging.CheckError.{CheckError}
use Rattle.st_decl.specs.declared.judging.CheckError.TheVariants as errors

-- a fault that is reported is one of them; out of memory reports nothing
abbrev pub Refuses : List Broken → CheckError → Type 0
Refuses faults (errors.Broken b) = Contains faults b
Refuses faults errors.OutOfMemory = Unit {0}

-- accepted exactly if there is no fault
abbrev pub Judges : List Broken → Result (Unit {0}) CheckError → Type 0
Judges faults (Ok done) = faults ≡ []
Judges faults (Err e) = Refuses faults e

-- what a check for one broken rule of this list leaves
pub record HasChecked (faults : List Broken) (ended : Result (Unit {0}) AllocError) (it : BrokenRules) : Type 0 where
  pub room : it.room ≡ 1
  pub among : (b : Broken) → Contains it.found.items b → Contains faults b
  pub covers : IfOk ended (λ done. Covers faults it)

-- its answer: the rule that was found first, if any; out of memory is an answer only if nothing was found
abbrev pub answer_of : Result (Unit {0}) AllocError → Option Broken → Result (Unit {0}) CheckError
answer_of ended (Some b) = Err (errors.Broken b)
answer_of (Ok done) None = Ok tt
answer_of (Err e) None = Err errors.OutOfMemory
