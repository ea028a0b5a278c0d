use Rattle.std.proofs.Common.{rules, sym, ◌≡◌, ◌∙◌, true, map, subst, []}
use Rattle.std.specs.List.{list_all}
use Rattle.st_types.specs.ConfigurationViews.{global_block_view}
use Rattle.st_meaning.specs.NameTypes.{Declared}
use Rattle.st_rules.specs.ConfigurationRules.{addresses_in, is_in_range}
use Rattle.config.proofs.AddressLemmas.{ranged_blocks}
use Rattle.config.proofs.addresses.has_sound_addresses.Goals as goal

-- no text at all
no_text : Declared
no_text = record { types = []; units = [] }

pub are_single-requires : goal.are_single-requires
are_single-requires c =
    let passed : true ≡ c.are_sound_blocks.result = search rules in
    let sound = ranged_blocks no_text (map global_block_view c.deref.result.now)
    (sym (passed ∙ c.are_sound_blocks.ensures no_text)) in
    let same : c.deref-3.result.now ≡ addresses_in (map global_block_view c.deref.result.now) = search rules in
    subst (λ v. list_all (λ a. is_in_range a.width a.number) v ≡ true) (sym same) sound
