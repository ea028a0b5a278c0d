use Rattle.std.proofs.Common.{rules, ap, ◌≡◌, ◌∙◌, true, false, map}
use Rattle.std.specs.List.{list_all}
use Rattle.st_types.specs.ConfigurationViews.{global_block_view, global_declaration_view}
use Rattle.st_rules.specs.ConfigurationRules.{is_sound_address}
use Rattle.config.proofs.SearchLemmas.{all_but_viewed, all_not_viewed}
use Rattle.config.proofs.addresses.are_sound_blocks.Goals as goal

pub returns-then-not-are_sound : goal.returns-then-not-are_sound
returns-then-not-are_sound c text =
    let bs = c.args.blocks.now in
    let i = c.loop-block.block-index in
    let b = c.block-item.result in
    let failed : false ≡ c.are_sound.result = search rules in
    all_not_viewed (λ b. list_all (λ d. is_sound_address text b.qualifier d d.names) b.declarations) global_block_view
    bs i b (search rules) (search rules)
    (failed ∙ c.are_sound.ensures text
    ∙ ap (λ ds. list_all (λ d. is_sound_address text b.qualifier d d.names) (map global_declaration_view ds))
    c.deref.ensures.value)
    (c.loop-block.invariant text)

pub loop-block-preserved : goal.loop-block-preserved
loop-block-preserved c text =
    let bs = c.args.blocks.now in
    let i = c.loop-block.block-index in
    let b = c.block-item.result in
    let passed : true ≡ c.are_sound.result = search rules in
    all_but_viewed (λ b. list_all (λ d. is_sound_address text b.qualifier d d.names) b.declarations) global_block_view
    bs i b (search rules) (search rules)
    (passed ∙ c.are_sound.ensures text
    ∙ ap (λ ds. list_all (λ d. is_sound_address text b.qualifier d d.names) (map global_declaration_view ds))
    c.deref.ensures.value)
    (c.loop-block.invariant text)
