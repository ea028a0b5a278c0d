-- The facts about a text that are known when its plan is made.
use Rattle.std.specs.Prelude.{◌≡◌, ◌≤◌, ℕ, List, map, true}
use Rattle.std.specs.List.{list_all}
use Rattle.st_types.specs.declared.limits.TheConstants.{MAX_BUDGET}
use Rattle.st_types.specs.Sources.{Source}
use Rattle.st_meaning.specs.ResolvedUnits.{resolved_source}
use Rattle.st_rules.specs.Rules.{IsWellTyped}
use Rattle.st_meaning.specs.Layouts.{path_text}
use Rattle.config.specs.Configured.{IsConfigured}
use Rattle.st_link.specs.WellTypedRuns.{HaveFunctionsNoExternals}
use Rattle.layout.specs.TextLayouts.{enumerations_of_text, plan_variables_of_text}
use Rattle.layout.specs.declared.slots.LayoutSlot.{LayoutSlot}
use Rattle.layout.specs.KeptLayouts.{IsLayoutOf}
use Rattle.slot_code.specs.Codes.{CodeView}
use Rattle.config.specs.Codes.{AreCodesOf}
use Rattle.config.specs.Spelled.{IsSpelled}
use Rattle.config.specs.PlainDeclarations.{is_plain}
use Rattle.plan.specs.Sound.{has_line}
use Rattle.layout.specs.Names.{are_different}

-- A text of the grammar that breaks no rule, with a sound configuration. Its literals are as the grammar gives them, its
-- variables have lines in a record, all different, and the names that it declares are words.
pub record IsJudged (source : Source) : Type 0 where
  pub well_typed : IsWellTyped source
  pub functions : HaveFunctionsNoExternals source
  pub configured : IsConfigured source
  pub spelled : IsSpelled source
  pub lines : list_all (has_line (enumerations_of_text source)) (plan_variables_of_text source) ≡ true
  pub different : are_different (map (λ v. path_text v.path) (plan_variables_of_text source)) ≡ true
  pub plain : is_plain source ≡ true

-- its resolved tree, its layout and the codes of its programs, and a budget in its range
pub record IsReady (source tree : Source) (slots : List LayoutSlot) (codes : List CodeView) (budget : ℕ) : Type 0 where
  pub judged : IsJudged source
  pub resolved : tree ≡ resolved_source source
  pub layout : IsLayoutOf source slots
  pub codes_are : AreCodesOf source codes
  pub some_ticks : 1 ≤ budget
  pub ticks : budget ≤ MAX_BUDGET
