-- A text with one configuration that keeps the rules on names, addresses, numbers and tasks; and why a text has none.
use Rattle.std.specs.Prelude.{◌≡◌, true, false, [], ◌∷◌}
use Rattle.st_types.specs.Configurations.{Configuration}
use Rattle.st_types.specs.Sources.{Source}
use Rattle.st_meaning.specs.NameTypes.{declared_in}
use Rattle.st_rules.specs.ConfigurationRules.{configurations_in, has_one_configuration, are_known}
use Rattle.st_rules.specs.ConfigurationRules.{has_sound_addresses, has_too_many, have_tasks}
use Rattle.config.specs.declared.configuration_error.ConfigurationError.{ConfigurationError}
use Rattle.config.specs.declared.configuration_error.ConfigurationError.TheVariants as errors

-- Names are known, addresses are sound, there are not too many resources, tasks and programs, and each program has a
-- task.
pub record KeepsRules (source : Source) (c : Configuration) : Type 0 where
  pub known : are_known (declared_in source) c ≡ true
  pub addresses : has_sound_addresses (declared_in source) c ≡ true
  pub few : has_too_many c ≡ false
  pub tasked : have_tasks c ≡ true

-- It has one configuration, which keeps them.
pub record IsConfigured (source : Source) : Type 0 where
  pub configuration : Configuration
  pub one : configurations_in source ≡ configuration ∷ []
  pub kept : KeepsRules source configuration

-- the only configuration of a text breaks a rule
abbrev pub BreaksRule : Source → Configuration → ConfigurationError → Type 0
BreaksRule source c errors.Unknown = are_known (declared_in source) c ≡ false
BreaksRule source c errors.WrongAddress = has_sound_addresses (declared_in source) c ≡ false
BreaksRule source c errors.TooMany = has_too_many c ≡ true
BreaksRule source c errors.WithoutTask = have_tasks c ≡ false
BreaksRule source c errors.NotOne = has_one_configuration source ≡ false
BreaksRule source c errors.OutOfMemory = Unit {0}

-- Why a text is not configured: the number applies. Nothing is said if memory ran out.
abbrev pub IsMisconfigured : Source → ConfigurationError → Type 0
IsMisconfigured source errors.NotOne = has_one_configuration source ≡ false
IsMisconfigured source errors.OutOfMemory = Unit {0}
IsMisconfigured source e = (c : Configuration) × (configurations_in source ≡ c ∷ []) × BreaksRule source c e
