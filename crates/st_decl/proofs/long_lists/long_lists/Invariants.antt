use Rattle.std.proofs.Common.{map, drop}
use Rattle.std.specs.List.{flat_map}
use Rattle.st_meaning.specs.NameTypes.{Declared}
use Rattle.st_rules.specs.InitialRules.{too_long}
use Rattle.st_rules.proofs.CollectLemmas.{Searches}
use Rattle.symbols.specs.Texts.{ServesText}
use Rattle.st_decl.specs.StartViews.{start_view}
use Rattle.st_decl.proofs.long_lists.long_lists.Given as goal

abbrev pub invariant-loop-start : goal.invariant-loop-start
invariant-loop-start l = (text : Declared) → ServesText l.names text
    → Searches (flat_map (too_long text) (map start_view l.starts))
    (flat_map (too_long text) (map start_view (drop l.start-index l.starts))) l.initial.broken l.broken
