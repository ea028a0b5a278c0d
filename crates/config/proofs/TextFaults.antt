-- A text breaks the rules that its tree breaks.
use Rattle.std.proofs.Common.{◌⊎◌, inl, inr, ℕ, List}
use Rattle.std.specs.List.{Contains}
use Rattle.st_types.specs.Sources.{Source}
use Rattle.st_rules.specs.declared.broken_rules.BrokenRules.{BrokenRules}
use Rattle.st_rules.specs.declared.rule.Broken.{Broken}
use Rattle.st_rules.specs.Collecting.{Adds}
use Rattle.st_rules.specs.Rules.{broken, Breaks}
use Rattle.config.specs.Texts.{IsTextOf}

pub text_breaks : (text : List ℕ) (source : Source) (old new : BrokenRules) → IsTextOf text source
    → Adds (broken source) old new → (b : Broken) → Contains new.found.items b
    → Contains old.found.items b ⊎ ((tree : Source) × IsTextOf text tree × Breaks tree b)
text_breaks text source old new of adds b there =
    elim (adds.true_ones b there) [ inl before ↦ inl before | inr wrong ↦ inr (source, of, wrong) ]
