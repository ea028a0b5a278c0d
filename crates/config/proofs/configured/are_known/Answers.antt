use Rattle.std.proofs.Common.{rules, ◌≡◌, ◌∙◌, sym, ap, true, false, ◌&&◌, map, subst, []}
use Rattle.std.specs.List.{flat_map, list_all}
use Rattle.st_types.specs.ConfigurationViews.{configuration_view, global_block_view, resource_view}
use Rattle.st_types.specs.SourceViews.{source_view}
use Rattle.st_meaning.specs.NameTypes.{declared_in}
use Rattle.st_rules.specs.ConfigurationRules.{has_known_externals, is_known_resource}
use Rattle.st_rules.specs.NameScopes.{globals_of_block}
use Rattle.st_rules.specs.Places.{repeats}
use Rattle.config.specs.Globals.{ServesGlobals}
use Rattle.config.proofs.ScopeLemmas.{globals_once}
use Rattle.config.proofs.configured.are_known.Goals as goal
use Rattle.config.proofs.configured.are_known.Goals.{then-have_known_externals, else-have_known_externals}

pub returns : goal.returns
returns c typed one =
    let text = declared_in (source_view c.args.source.now) in
    let configuration = configuration_view c.args.configuration.now in
    let blocks = configuration.globals in
    let once : repeats (flat_map globals_of_block (map global_block_view c.deref.result.now)) ≡ [] =
    subst (λ v. repeats (flat_map globals_of_block (map global_block_view v)) ≡ []) (sym c.deref.ensures.value)
    (globals_once (source_view c.args.source.now) configuration typed one) in
    let serves : ServesGlobals c.in_ok-globals.globals blocks =
    subst (λ v. ServesGlobals c.in_ok-globals.globals (map global_block_view v)) c.deref.ensures.value
    (c.in_ok-globals.ensures once) in
    let externals : c.have_known_externals.result ≡ list_all (has_known_externals text blocks) text.units =
    c.have_known_externals.ensures text blocks c.in_ok-text.ensures.serves serves
    ∙ ap (list_all (has_known_externals text blocks)) c.requires in
    let resources = list_all (is_known_resource text blocks) configuration.resources in
    elim c.if-have_known_externals.branch [
      | then-have_known_externals w ↦
          let yes : true ≡ c.have_known_externals.result = search rules in
          w.result-is ∙ w.are_known_resources.ensures text blocks c.in_ok-text.ensures.serves serves
          ∙ ap (λ v. list_all (is_known_resource text blocks) (map resource_view v))
          w.deref-then-have_known_externals.ensures.value
          ∙ ap (λ b. b && resources) (yes ∙ externals)
      | else-have_known_externals w ↦
          let no : false ≡ c.have_known_externals.result = search rules in
          w.result-is ∙ sym no ∙ ap (λ b. b && resources) (no ∙ externals)
    ]
