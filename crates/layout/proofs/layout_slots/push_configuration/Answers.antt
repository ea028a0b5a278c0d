use Rattle.std.proofs.Common.{rules, ◌≡◌, ap, ap₂, subst, ◌∙◌, ◌+◌, ◌++◌, length, map, Err, None}
use Rattle.st_types.specs.ConfigurationViews.{global_block_view, resource_view}
use Rattle.layout.specs.LayoutVariables.{variables_of_globals, variables_of_resources}
use Rattle.layout.specs.TextLayouts.{instances_of}
use Rattle.layout.specs.Growth.{Exceeds}
use Rattle.layout.specs.Instances.{instance_view, instances_in, variables_of_programs}
use Rattle.layout.specs.Layouts.{GrowsBy, are_expandable, layout_size}
use Rattle.layout.specs.Variables.{variable_view}
use Rattle.layout.proofs.LayoutLemmas.{expandable_apart, grows_by_both, no_room_first, no_room_last}
use Rattle.layout.proofs.LayoutLemmas.{programs_of_resources}
use Rattle.layout.proofs.layout_slots.push_configuration.Goals as goal

pub returns-in_err-push_variables-clause-err : goal.returns-in_err-push_variables-clause-err
returns-in_err-push_variables-clause-err c =
    let fault : c.from_residual-in_err-push_variables.result ≡ Err c.in_err-push_variables.field-0.0 = search rules in
    rw fault (λ text serves trail h.
    let own = map (variable_view None) c.deref-3.result.now in
    let rest = variables_of_resources text (map resource_view c.args.configuration.now.resources.items) in
    let globals : own ≡ variables_of_globals (map global_block_view c.args.configuration.now.globals.items) =
    ap (map (variable_view None)) c.deref-3.ensures.value ∙ c.in_ok-globals.ensures
    ∙ ap (λ bs. variables_of_globals (map global_block_view bs)) c.deref.ensures.value in
    let all = ap (λ vs. vs ++ rest) globals in
    let sound = ap (are_expandable text) all ∙ h in
    subst (λ vs. Exceeds (length c.args.grown.now.slots.items + layout_size text vs)
    (c.args.grown.now.instances + instances_of text vs) c.in_err-push_variables.field-0.0) all
    (no_room_first c.leaves_of_shapes.ensures.count text own rest c.args.grown.now c.in_err-push_variables.field-0.0
    sound (c.in_err-push_variables.ensures.err text serves trail (expandable_apart text own rest sound).0)))

pub returns-in_err-push_programs-clause-err : goal.returns-in_err-push_programs-clause-err
returns-in_err-push_programs-clause-err c =
    let fault : c.from_residual-in_err-push_programs.result ≡ Err c.in_err-push_programs.field-0.0 = search rules in
    rw fault (λ text serves trail h.
    let own = map (variable_view None) c.deref-3.result.now in
    let rest = variables_of_programs text (map instance_view c.deref-4.result.now) in
    let globals : own ≡ variables_of_globals (map global_block_view c.args.configuration.now.globals.items) =
    ap (map (variable_view None)) c.deref-3.ensures.value ∙ c.in_ok-globals.ensures
    ∙ ap (λ bs. variables_of_globals (map global_block_view bs)) c.deref.ensures.value in
    let programs : rest ≡ variables_of_resources text (map resource_view c.args.configuration.now.resources.items) =
    ap (λ is. variables_of_programs text (map instance_view is)) c.deref-4.ensures.value
    ∙ ap (variables_of_programs text) (c.in_ok-instances.ensures
    ∙ ap (λ rs. instances_in (map resource_view rs)) c.deref-2.ensures.value)
    ∙ programs_of_resources text (map resource_view c.args.configuration.now.resources.items) in
    let all = ap₂ (λ vs ws. vs ++ ws) globals programs in
    let sound = ap (are_expandable text) all ∙ h in
    let apart = expandable_apart text own rest sound in
    subst (λ vs. Exceeds (length c.args.grown.now.slots.items + layout_size text vs)
    (c.args.grown.now.instances + instances_of text vs) c.in_err-push_programs.field-0.0) all
    (no_room_last c.leaves_of_shapes.ensures.count text own rest c.args.grown.now c.push_variables.new.grown
    c.in_err-push_programs.field-0.0 sound (c.in_ok-push_variables.ensures.ok text serves trail apart.0)
    (c.in_err-push_programs.ensures.err text serves (c.in_ok-push_variables.ensures.trail ∙ trail) apart.1)))

pub returns-clause-ok : goal.returns-clause-ok
returns-clause-ok c text serves trail h =
    let own = map (variable_view None) c.deref-3.result.now in
    let rest = variables_of_programs text (map instance_view c.deref-4.result.now) in
    let globals : own ≡ variables_of_globals (map global_block_view c.args.configuration.now.globals.items) =
    ap (map (variable_view None)) c.deref-3.ensures.value ∙ c.in_ok-globals.ensures
    ∙ ap (λ bs. variables_of_globals (map global_block_view bs)) c.deref.ensures.value in
    let programs : rest ≡ variables_of_resources text (map resource_view c.args.configuration.now.resources.items) =
    ap (λ is. variables_of_programs text (map instance_view is)) c.deref-4.ensures.value
    ∙ ap (variables_of_programs text) (c.in_ok-instances.ensures
    ∙ ap (λ rs. instances_in (map resource_view rs)) c.deref-2.ensures.value)
    ∙ programs_of_resources text (map resource_view c.args.configuration.now.resources.items) in
    let all = ap₂ (λ vs ws. vs ++ ws) globals programs in
    let sound = ap (are_expandable text) all ∙ h in
    let apart = expandable_apart text own rest sound in
    subst (λ vs. GrowsBy text vs c.args.grown.now c.push_programs.new.grown) all
    (grows_by_both text own rest c.args.grown.now c.push_variables.new.grown c.push_programs.new.grown
    (c.in_ok-push_variables.ensures.ok text serves trail apart.0)
    (c.in_ok-push_programs.ensures.ok text serves (c.in_ok-push_variables.ensures.trail ∙ trail) apart.1))
