use Rattle.std.proofs.Common.{◌≡◌, ◌≤◌, refl, sym, ap, subst, ◌∙◌, arith, ◌∷◌, [], ◌++◌, length, map, None}
use Rattle.st_types.specs.DeclarationViews.{variable_block_view}
use Rattle.st_types.specs.declared.limits.TheConstants.{MAX_PATHS}
use Rattle.layout.specs.LayoutVariables.{owned_variable}
use Rattle.layout.specs.Libraries.{result_site}
use Rattle.layout.specs.Types.{sites_of_blocks}
use Rattle.layout.specs.Layouts.{GrowsBy, are_expandable}
use Rattle.layout.specs.NamedSites.{named_site_view}
use Rattle.layout.specs.KeptLayouts.{variables_among}
use Rattle.layout.specs.Variables.{variable_view}
use Rattle.layout.specs.declared.growing.Growing.{Growing}
use Rattle.layout.proofs.CallLemmas.{grown_within, started_are}
use Rattle.layout.proofs.LayoutLemmas.{expandable_apart, grows_by_both}
use Rattle.layout.proofs.calls.fresh_values.Goals as goal

pub returns-clause-ok : goal.returns-clause-ok
returns-clause-ok c text serves h =
    let first = owned_variable None (result_site c.args.returned.now c.args.name.now) ∷ [] in
    let own = map (variable_view None) c.deref-2.result.now in
    let rest = map (owned_variable None) (sites_of_blocks (map variable_block_view c.args.blocks.now)) in
    let seen : own ≡ rest =
    ap (map (variable_view None)) c.deref-2.ensures.value ∙ c.in_ok-variables.ensures None
    ∙ ap (λ ss. map (owned_variable None) (map named_site_view ss)) c.deref.ensures.value
    ∙ ap (map (owned_variable None)) c.in_ok-sites_of_blocks.ensures in
    let sound = ap (λ vs. are_expandable text (first ++ vs)) seen ∙ h in
    let apart = expandable_apart text first own sound in
    let old : Growing = record { slots = c.new.result; instances = 0; trail = c.new-2.result } in
    let grown = grows_by_both text first own old c.push_result.new.grown c.push_variables.new.grown
    (c.in_ok-push_result.ensures.ok text serves c.new-2.ensures.items apart.0)
    (c.in_ok-push_variables.ensures.ok text serves (c.in_ok-push_result.ensures.trail ∙ c.new-2.ensures.items)
    apart.1) in
    c.in_ok-started_values.ensures
    ∙ ap (λ ss. map (λ v. v.initial) (variables_among ss)) c.deref-3.ensures.value
    ∙ started_are text (first ++ rest) old c.push_variables.new.grown
    (subst (λ vs. GrowsBy text (first ++ vs) old c.push_variables.new.grown) seen grown) c.new.ensures.items

pub returns-clause-room : goal.returns-clause-room
returns-clause-room c text serves h =
    let first = owned_variable None (result_site c.args.returned.now c.args.name.now) ∷ [] in
    let own = map (variable_view None) c.deref-2.result.now in
    let rest = map (owned_variable None) (sites_of_blocks (map variable_block_view c.args.blocks.now)) in
    let seen : own ≡ rest =
    ap (map (variable_view None)) c.deref-2.ensures.value ∙ c.in_ok-variables.ensures None
    ∙ ap (λ ss. map (owned_variable None) (map named_site_view ss)) c.deref.ensures.value
    ∙ ap (map (owned_variable None)) c.in_ok-sites_of_blocks.ensures in
    let sound = ap (λ vs. are_expandable text (first ++ vs)) seen ∙ h in
    let apart = expandable_apart text first own sound in
    let old : Growing = record { slots = c.new.result; instances = 0; trail = c.new-2.result } in
    let grown = grows_by_both text first own old c.push_result.new.grown c.push_variables.new.grown
    (c.in_ok-push_result.ensures.ok text serves c.new-2.ensures.items apart.0)
    (c.in_ok-push_variables.ensures.ok text serves (c.in_ok-push_result.ensures.trail ∙ c.new-2.ensures.items)
    apart.1) in
    let none : length c.new.result.items ≤ MAX_PATHS =
    subst (λ ss. length ss ≤ MAX_PATHS) (sym c.new.ensures.items) (omega arith) in
    grown_within c.leaves_of_shapes.ensures.count text (first ++ rest) old c.push_variables.new.grown
    (subst (λ vs. GrowsBy text (first ++ vs) old c.push_variables.new.grown) seen grown) c.new.ensures.items refl
    (c.in_ok-push_variables.ensures.room (c.in_ok-push_result.ensures.room none))
    (c.in_ok-push_variables.ensures.few (c.in_ok-push_result.ensures.few (omega arith)))
