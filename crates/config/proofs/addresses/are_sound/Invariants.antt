use Rattle.std.proofs.Common.{◌≡◌, drop, map}
use Rattle.std.specs.List.{list_all}
use Rattle.st_types.specs.ConfigurationViews.{global_declaration_view}
use Rattle.st_meaning.specs.NameTypes.{Declared}
use Rattle.st_rules.specs.ConfigurationRules.{is_sound_address}
use Rattle.config.proofs.addresses.are_sound.Given as goal

abbrev pub invariant-loop-declaration : goal.invariant-loop-declaration
invariant-loop-declaration l = (text : Declared)
    → list_all (λ d. is_sound_address text l.fn.qualifier d d.names) (map global_declaration_view l.declarations)
    ≡ list_all (λ d. is_sound_address text l.fn.qualifier d d.names)
    (map global_declaration_view (drop l.declaration-index l.declarations))
