use Rattle.std.proofs.Common.{◌≡◌, List, drop, map}
use Rattle.std.specs.List.{list_all}
use Rattle.st_types.specs.Configurations as tree
use Rattle.st_types.specs.UnitViews.{unit_view}
use Rattle.st_meaning.specs.NameTypes.{Declared}
use Rattle.symbols.specs.Texts.{ServesText}
use Rattle.st_rules.specs.ConfigurationRules.{has_known_externals}
use Rattle.config.specs.Globals.{ServesGlobals}
use Rattle.config.proofs.externals.have_known_externals.Given as goal

abbrev pub invariant-loop-unit : goal.invariant-loop-unit
invariant-loop-unit l = (text : Declared) (blocks : List tree.GlobalBlock) → ServesText l.names.text.now text
    → ServesGlobals l.names.globals.now blocks
    → list_all (has_known_externals text blocks) (map (λ u. unit_view u.now) l.units)
    ≡ list_all (has_known_externals text blocks) (map (λ u. unit_view u.now) (drop l.unit-index l.units))
