-- Why a text has no plan.
use Rattle.std.specs.Prelude.{◌≡◌, ◌<◌, ◌⊎◌, ℕ, List, length, Result, Ok, Err}
use Rattle.st_types.specs.declared.limits.TheConstants.{MAX_BUDGET, MAX_RECORD_BODY}
use Rattle.st_types.specs.Sources.{Source}
use Rattle.st_lex.specs.declared.token.Token.{Token}
use Rattle.st_lex.specs.declared.fault.LexError.TheVariants as lexing
use Rattle.st_lex.specs.Texts.{Lexes, LexErrorApplies}
use Rattle.st_parse.specs.declared.fault.ParseError.TheVariants as grammar
use Rattle.st_parse.specs.Answers.{Refused}
use Rattle.st_rules.specs.Rules.{broken, IsWellTyped}
use Rattle.st_decl.specs.declared.judging.CheckError.TheVariants as checking
use Rattle.st_decl.specs.Judgements.{Refuses}
use Rattle.config.specs.declared.configuration_error.ConfigurationError.TheVariants as configurations
use Rattle.config.specs.Configured.{IsMisconfigured}
use Rattle.st_meaning.specs.Layouts.{record_length}
use Rattle.st_meaning.specs.Plans as plans
use Rattle.layout.specs.TextLayouts.{enumerations_of_text, instances_of_text, plan_variables_of_text, slots_of_text}
use Rattle.layout.specs.declared.layout_error.LayoutError.TheVariants as layouts
use Rattle.layout.specs.Growth.{Exceeds}
use Rattle.st_compile.specs.declared.compile_error.CompileError.TheVariants as coding
use Rattle.config.specs.Rooms.{LacksRoom}
use Rattle.config.specs.Texts.{IsTextOf}
use Rattle.plan.specs.declared.plan.Plan.{Plan}
use Rattle.plan.specs.PlanViews.{plan_view}
use Rattle.config.specs.declared.build_error.BuildError.{BuildError}
use Rattle.config.specs.declared.build_error.BuildError.TheVariants as errors

-- Why a well-typed text has no plan: its configuration is not sound, it is too large, or the code of its programs has no
-- room. Nothing is said if memory ran out.
abbrev pub LacksPlan : Source → BuildError → Type 0
LacksPlan source (errors.Configuration e) = IsMisconfigured source e
LacksPlan source (errors.Layout e) = Exceeds (length (slots_of_text source)) (instances_of_text source) e
LacksPlan source (errors.Code coding.NotLinked) = ⊥
LacksPlan source (errors.Code e) = LacksRoom source e
LacksPlan source errors.RecordTooLong =
    MAX_RECORD_BODY < record_length (enumerations_of_text source) (plan_variables_of_text source)
LacksPlan source errors.Memory = Unit {0}
LacksPlan source _ = ⊥

-- Why a parsed text has no plan: it breaks this rule, or it breaks none and yet has none.
abbrev pub SourceLacksPlan : Source → BuildError → Type 0
SourceLacksPlan source (errors.Rule e) = Refuses (broken source) e
SourceLacksPlan source errors.Memory = Unit {0}
SourceLacksPlan source e = IsWellTyped source × LacksPlan source e

-- Why a text has no plan for a budget.
abbrev pub TextLacksPlan : List ℕ → ℕ → BuildError → Type 0
TextLacksPlan text budget errors.Budget = (budget ≡ 0) ⊎ (MAX_BUDGET < budget)
TextLacksPlan text budget (errors.Words e) = LexErrorApplies text e
TextLacksPlan text budget (errors.Grammar e) = (tokens : List Token) × Lexes text tokens × Refused tokens e
TextLacksPlan text budget errors.Memory = Unit {0}
TextLacksPlan text budget e = (source : Source) × IsTextOf text source × SourceLacksPlan source e

-- the errors that may refuse a text that has a plan: out of memory, whichever layer reports it, or no room for its code
abbrev pub IsLackOfRoom : Source → BuildError → Type 0
IsLackOfRoom source errors.Memory = Unit {0}
IsLackOfRoom source (errors.Words lexing.Memory) = Unit {0}
IsLackOfRoom source (errors.Grammar grammar.Memory) = Unit {0}
IsLackOfRoom source (errors.Rule checking.OutOfMemory) = Unit {0}
IsLackOfRoom source (errors.Configuration configurations.OutOfMemory) = Unit {0}
IsLackOfRoom source (errors.Layout layouts.OutOfMemory) = Unit {0}
IsLackOfRoom source (errors.Code coding.NotLinked) = ⊥
IsLackOfRoom source (errors.Code e) = LacksRoom source e
IsLackOfRoom source _ = ⊥

-- this plan, unless memory runs out or its code has no room
abbrev pub GivesPlan : Source → Result Plan BuildError → plans.Plan → Type 0
GivesPlan source (Ok found) plan = plan_view found ≡ plan
GivesPlan source (Err e) plan = IsLackOfRoom source e
