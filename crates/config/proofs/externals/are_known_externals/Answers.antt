use Rattle.std.proofs.Common.{rules, ap, ◌≡◌, ◌≤◌, ◌∙◌, true, length}
use Rattle.st_rules.specs.ConfigurationRules.{is_known_external}
use Rattle.config.proofs.SearchLemmas.{all_but, all_passed}
use Rattle.config.proofs.externals.are_known_externals.Goals as goal

pub loop-name-preserved : goal.loop-name-preserved
loop-name-preserved c text blocks serves globals =
    let xs = c.args.declaration.now.names.items in
    let i = c.loop-name.name-index in
    let x = c.name-item.result in
    let passed : true ≡ c.is_known_external.result = search rules in
    all_but (λ x. is_known_external text blocks c.args.constant c.args.declaration.now.declared x.name) xs i x
    (search rules) (search rules)
    (passed ∙ c.is_known_external.ensures text blocks serves globals
    ∙ ap (λ t. is_known_external text blocks c.args.constant t x.name) c.place_type.ensures)
    (c.loop-name.invariant text blocks serves globals)

pub returns : goal.returns
returns c text blocks serves globals =
    let xs = c.args.declaration.now.names.items in
    let i = c.loop-name.name-index in
    let le : length xs ≤ i = search rules in
    all_passed (λ x. is_known_external text blocks c.args.constant c.args.declaration.now.declared x.name) xs i le
    (c.loop-name.invariant text blocks serves globals)
