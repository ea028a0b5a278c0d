-- What a check of a text has found when it ends.
use Rattle.st_types.specs.Sources.{Source}
use Rattle.st_rules.specs.declared.broken_rules.BrokenRules.{BrokenRules}
use Rattle.st_rules.specs.declared.reason.Reason.TheVariants.{SurplusName}
use Rattle.st_rules.specs.Collecting.{Covers}
use Rattle.st_rules.specs.Faults.{breaking}
use Rattle.st_rules.specs.Rules.{broken, wrong_declarations}
use Rattle.st_check.specs.Surplus.{HasNoSurplus, surplus_names}

-- Every rule that is broken, if no enumerated type has too many names. If one has, no name of the text is looked up:
-- then these names, and the rules on declarations alone.
pub record CoversText (source : Source) (it : BrokenRules) : Type 0 where
  pub declared : Covers (wrong_declarations source) it
  pub surplus : Covers (breaking SurplusName (surplus_names source)) it
  pub all : HasNoSurplus source → Covers (broken source) it
