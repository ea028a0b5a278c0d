use Rattle.std.proofs.Common.{rules, ◌≡◌, ◌≤◌, ◌∙◌, true, false, length}
use Rattle.st_types.specs.ConfigurationViews.{global_declaration_view}
use Rattle.st_rules.specs.ConfigurationRules.{is_sound_address}
use Rattle.config.proofs.SearchLemmas.{all_but_viewed, all_not_viewed, all_passed_viewed}
use Rattle.config.proofs.addresses.are_sound.Goals as goal

pub returns-then-not-is_sound : goal.returns-then-not-is_sound
returns-then-not-is_sound c text =
    let ds = c.args.declarations.now in
    let i = c.loop-declaration.declaration-index in
    let d = c.declaration-item.result in
    let failed : false ≡ c.is_sound.result = search rules in
    all_not_viewed (λ d. is_sound_address text c.args.qualifier d d.names) global_declaration_view ds i d
    (search rules) (search rules) (failed ∙ c.is_sound.ensures text)
    (c.loop-declaration.invariant text)

pub loop-declaration-preserved : goal.loop-declaration-preserved
loop-declaration-preserved c text =
    let ds = c.args.declarations.now in
    let i = c.loop-declaration.declaration-index in
    let d = c.declaration-item.result in
    let passed : true ≡ c.is_sound.result = search rules in
    all_but_viewed (λ d. is_sound_address text c.args.qualifier d d.names) global_declaration_view ds i d
    (search rules) (search rules) (passed ∙ c.is_sound.ensures text) (c.loop-declaration.invariant text)

pub returns : goal.returns
returns c text =
    let ds = c.args.declarations.now in
    let i = c.loop-declaration.declaration-index in
    let le : length ds ≤ i = search rules in
    all_passed_viewed (λ d. is_sound_address text c.args.qualifier d d.names) global_declaration_view ds i le
    (c.loop-declaration.invariant text)
