-- The facts about a text that is judged.
use Rattle.std.proofs.Common.{◌≡◌, refl, ◌≤◌, ℕ, List, Result, Ok, Err, IfOk, IfErr, map, true}
use Rattle.std.specs.List.{list_all}
use Rattle.st_types.specs.declared.limits.TheConstants.{MAX_BUDGET}
use Rattle.st_types.specs.Sources.{Source}
use Rattle.st_meaning.specs.ResolvedUnits.{resolved_source}
use Rattle.st_rules.specs.Rules.{IsWellTyped}
use Rattle.st_meaning.specs.Layouts.{path_text}
use Rattle.config.specs.Configured.{IsConfigured}
use Rattle.layout.specs.TextLayouts.{enumerations_of_text, plan_variables_of_text}
use Rattle.st_link.proofs.GrammarFunctions.{functions_clean}
use Rattle.config.specs.Texts.{IsTextOf}
use Rattle.config.proofs.PlainGrammar.{plain_text}
use Rattle.plan.specs.Sound.{has_line}
use Rattle.layout.specs.declared.slots.LayoutSlot.{LayoutSlot}
use Rattle.layout.specs.KeptLayouts.{IsLayoutOf}
use Rattle.slot_code.specs.Codes.{CodeView}
use Rattle.st_compile.specs.declared.compile_error.CompileError.{CompileError}
use Rattle.st_compile.specs.declared.compile_error.CompileError.TheVariants as coding
use Rattle.config.specs.Codes.{AreCodesOf}
use Rattle.config.specs.Spelled.{IsSpelled}
use Rattle.st_link.specs.Accepted.{IsAccepted}
use Rattle.config.specs.declared.build_error.BuildError.{BuildError}
use Rattle.config.specs.declared.build_error.BuildError.TheVariants as errors
use Rattle.config.specs.Readiness.{IsJudged, IsReady}
use Rattle.config.specs.Rooms.{LacksRoom}
use Rattle.config.specs.Refusals.{LacksPlan, SourceLacksPlan}
use Rattle.config.proofs.ConfiguredLemmas.{only}
use Rattle.layout.specs.Names.{are_different}

-- a parsed text that breaks no rule, with a sound configuration, is judged
pub judged_from : (text : List ℕ) (source : Source) → IsTextOf text source → IsWellTyped source → IsConfigured source
    → list_all (has_line (enumerations_of_text source)) (plan_variables_of_text source) ≡ true
    → are_different (map (λ v. path_text v.path) (plan_variables_of_text source)) ≡ true → IsSpelled source
    → IsJudged source
judged_from text source of well sound lines apart spelled = record {
  well_typed = well;
  functions = λ f u t declared sort. functions_clean source f u t of.parsed declared sort;
  configured = sound;
  spelled = spelled;
  lines = lines;
  different = apart;
  plain = plain_text text source of;
}

-- a well-typed text without a plan is a parsed text without one
pub source_lacks : (source : Source) (e : BuildError) → IsWellTyped source → LacksPlan source e
    → SourceLacksPlan source e
source_lacks source errors.Budget well h = absurd h
source_lacks source (errors.Words x) well h = absurd h
source_lacks source (errors.Grammar x) well h = absurd h
source_lacks source (errors.Rule x) well h = absurd h
source_lacks source (errors.Configuration x) well h = (well, h)
source_lacks source (errors.Layout x) well h = (well, h)
source_lacks source (errors.Code x) well h = (well, h)
source_lacks source errors.RecordTooLong well h = (well, h)
source_lacks source errors.Memory well h = h

-- if code is not made, there is no room for it, or memory ran out
pub code_lacks : (source : Source) (e : CompileError) → (e ≡ coding.NotLinked → ⊥)
    → (e ≡ coding.TooManyInstructions → LacksRoom source e) → (e ≡ coding.TooManyPlaces → LacksRoom source e)
    → LacksPlan source (errors.Code e)
code_lacks source coding.NotLinked h long crowded = h refl
code_lacks source coding.TooManyPlaces h long crowded = crowded refl
code_lacks source coding.TooManyInstructions h long crowded = long refl
code_lacks source coding.OutOfMemory h long crowded = tt

-- it is accepted
pub accepted : (source : Source) → IsJudged source → IsAccepted source
accepted source judged = record {
  well_typed = judged.well_typed;
  functions = judged.functions;
  configuration = judged.configured.configuration;
  only = only source judged.configured;
  known = judged.configured.kept.known;
}

-- and with its layout and its codes it is ready
pub ready_for : (source tree : Source) (slots : List LayoutSlot) (codes : List CodeView) (budget : ℕ) → IsJudged source
    → tree ≡ resolved_source source → IsLayoutOf source slots → AreCodesOf source codes → 1 ≤ budget
    → budget ≤ MAX_BUDGET → IsReady source tree slots codes budget
ready_for source tree slots codes budget judged resolved layout coded some most = record {
  judged = judged;
  resolved = resolved;
  layout = layout;
  codes_are = coded;
  some_ticks = some;
  ticks = most;
}

pub on_ok : {A E : Type 0} (P Q : A → Type 0) (r : Result A E) → IfOk r P → ((x : A) → P x → Q x) → IfOk r Q
on_ok P Q (Ok x) h f = f x h
on_ok P Q (Err e) h f = tt

pub on_err : {A E : Type 0} (P Q : E → Type 0) (r : Result A E) → IfErr r P → ((e : E) → P e → Q e) → IfErr r Q
on_err P Q (Ok x) h f = tt
on_err P Q (Err e) h f = f e h
