-- A text that has a plan gets it.
use Rattle.std.proofs.Common.{◌≡◌, ◌∙◌, ℕ, sym, ap, subst, arith, Bool, true, false, ◌||◌, List, [], ◌∷◌}
use Rattle.std.proofs.Common.{length, Result, Ok, Err, IfOk, IfErr}
use Rattle.std.specs.Prelude.{◌==◌, nat_lt}
use Rattle.std.specs.List.{Contains}
use Rattle.std.proofs.lemmas.Bool.Decides.{nat_tests}
use Rattle.st_types.specs.declared.limits.TheConstants.{MAX_PATHS}
use Rattle.st_types.specs.Configurations.{Configuration}
use Rattle.st_types.specs.Sources.{Source}
use Rattle.st_meaning.specs.NameTypes.{declared_in}
use Rattle.st_rules.specs.ConfigurationRules.{are_known, configurations_in, has_sound_addresses}
use Rattle.st_rules.specs.ConfigurationRules.{has_too_many, have_tasks}
use Rattle.st_decl.specs.declared.judging.CheckError.TheVariants as checking
use Rattle.config.specs.declared.configuration_error.ConfigurationError.{ConfigurationError}
use Rattle.config.specs.declared.configuration_error.ConfigurationError.TheVariants as configurations
use Rattle.config.specs.Configured.{BreaksRule, IsConfigured, IsMisconfigured}
use Rattle.st_meaning.specs.Plans as plans
use Rattle.layout.specs.TextLayouts.{instances_of_text, slots_of_text}
use Rattle.layout.specs.declared.layout_error.LayoutError.TheVariants as layouts
use Rattle.layout.specs.declared.limits.TheConstants.{MAX_INSTANCES}
use Rattle.st_compile.specs.declared.compile_error.CompileError.TheVariants as coding
use Rattle.plan.specs.declared.plan.Plan.{Plan}
use Rattle.plan.specs.PlanViews.{plan_view}
use Rattle.config.specs.declared.build_error.BuildError.{BuildError}
use Rattle.config.specs.declared.build_error.BuildError.TheVariants as errors
use Rattle.config.specs.Refusals.{GivesPlan, IsLackOfRoom, SourceLacksPlan}
use Rattle.config.specs.TextPlans.{IsPlanOf}

none_there : {X : Type 0} (x : X) → Contains [] x → ⊥
none_there x h = let lt = h.1 in omega arith

abbrev head_or : Configuration → List Configuration → Configuration
head_or d [] = d
head_or d (x ∷ xs) = x

same_one : (c d : Configuration) → c ∷ [] ≡ d ∷ [] → c ≡ d
same_one c d h = ap (head_or c) h

-- its configuration is sound
broken_none : (source : Source) (c : Configuration) (e : ConfigurationError) → IsConfigured source
    → configurations_in source ≡ c ∷ [] → BreaksRule source c e → IsLackOfRoom source (errors.Configuration e)
broken_none source c configurations.NotOne of one h =
    let f = subst (λ cs. (length cs == 1) ≡ false) one h in absurd (cc)
broken_none source c configurations.Unknown of one h =
    let same = same_one c of.configuration (sym one ∙ of.one) in
    let k = ap (are_known (declared_in source)) same ∙ of.kept.known in absurd (cc)
broken_none source c configurations.WrongAddress of one h =
    let same = same_one c of.configuration (sym one ∙ of.one) in
    let k = ap (has_sound_addresses (declared_in source)) same ∙ of.kept.addresses in absurd (cc)
broken_none source c configurations.TooMany of one h =
    let same = same_one c of.configuration (sym one ∙ of.one) in
    let k = ap has_too_many same ∙ of.kept.few in absurd (cc)
broken_none source c configurations.WithoutTask of one h =
    let same = same_one c of.configuration (sym one ∙ of.one) in
    let k = ap have_tasks same ∙ of.kept.tasked in absurd (cc)
broken_none source c configurations.OutOfMemory of one h = h

misconfigured : (source : Source) (e : ConfigurationError) → IsConfigured source → IsMisconfigured source e
    → IsLackOfRoom source (errors.Configuration e)
misconfigured source configurations.NotOne of h =
    let f = subst (λ cs. (length cs == 1) ≡ false) of.one h in absurd (cc)
misconfigured source configurations.Unknown of h = broken_none source h.0 configurations.Unknown of h.1 h.2
misconfigured source configurations.WrongAddress of h = broken_none source h.0 configurations.WrongAddress of h.1 h.2
misconfigured source configurations.TooMany of h = broken_none source h.0 configurations.TooMany of h.1 h.2
misconfigured source configurations.WithoutTask of h = broken_none source h.0 configurations.WithoutTask of h.1 h.2
misconfigured source configurations.OutOfMemory of h = h

not_large : (a b : Bool) → a ≡ false → b ≡ false → (a || b) ≡ true → ⊥
not_large a b h k e = let f : (a || b) ≡ false = ap (λ x. x || b) h ∙ k in absurd (cc)

-- so it is refused only if memory runs out or its code has no room
refused : (source : Source) (budget : ℕ) (plan : plans.Plan) (e : BuildError) → IsPlanOf source budget plan
    → SourceLacksPlan source e → IsLackOfRoom source e
refused source budget plan errors.Budget of h = absurd h.1
refused source budget plan (errors.Words x) of h = absurd h.1
refused source budget plan (errors.Grammar x) of h = absurd h.1
refused source budget plan (errors.Rule (checking.Broken b)) of h =
    absurd (none_there b (subst (λ xs. Contains xs b) of.well_typed h))
refused source budget plan (errors.Rule checking.OutOfMemory) of h = h
refused source budget plan (errors.Configuration x) of h = misconfigured source x of.configured h.1
refused source budget plan (errors.Layout layouts.TooLarge) of h =
    let p = of.paths in
    let i = of.instances in
    let a : nat_lt MAX_PATHS (length (slots_of_text source)) ≡ false = grind (arith, nat_tests) in
    let b : nat_lt MAX_INSTANCES (instances_of_text source) ≡ false = grind (arith, nat_tests) in
    absurd (not_large (nat_lt MAX_PATHS (length (slots_of_text source)))
    (nat_lt MAX_INSTANCES (instances_of_text source)) a b h.1)
refused source budget plan (errors.Layout layouts.OutOfMemory) of h = h.1
refused source budget plan (errors.Code coding.NotLinked) of h = absurd h.1
refused source budget plan (errors.Code coding.TooManyPlaces) of h = h.1
refused source budget plan (errors.Code coding.TooManyInstructions) of h = h.1
refused source budget plan (errors.Code coding.OutOfMemory) of h = tt
refused source budget plan errors.RecordTooLong of h = let a = of.record_is in let b = h.1 in absurd (omega arith)
refused source budget plan errors.Memory of h = h

pub plan_given : (source : Source) (budget : ℕ) (plan : plans.Plan) (r : Result Plan BuildError)
    → IsPlanOf source budget plan → IfOk r (λ found. IsPlanOf source budget (plan_view found))
    → IfErr r (λ e. SourceLacksPlan source e) → GivesPlan source r plan
plan_given source budget plan (Ok found) of given lacks = given.is ∙ sym of.is
plan_given source budget plan (Err e) of given lacks = refused source budget plan e of lacks
