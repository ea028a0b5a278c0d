use Rattle.std.proofs.Common.{rules, ◌≡◌, refl, ap, length, [], true, false, Err, None}
use Rattle.std.proofs.lemmas.Bool.{and_parts}
use Rattle.layout.specs.LayoutVariables.{owned_variable}
use Rattle.layout.specs.Libraries.{result_site}
use Rattle.layout.specs.Shapes.{is_sound, size, instance_count}
use Rattle.layout.specs.TextLayouts.{variable_shape}
use Rattle.layout.proofs.LayoutLemmas.{exceeds_one, grows_by_one}
use Rattle.layout.proofs.calls.push_result.Goals as goal

pub returns-in_err-push_site-clause-err : goal.returns-in_err-push_site-clause-err
returns-in_err-push_site-clause-err c =
    let fault : c.from_residual.result ≡ Err c.in_err-push_site.field-0.0 = search rules in
    rw fault (λ text serves h.
    let v = owned_variable None (result_site c.args.returned.now c.args.name.now) in
    let sh = variable_shape text v in
    exceeds_one c.in_err-push_site.field-0.0 (length c.args.grown.now.slots.items) (size sh)
    c.args.grown.now.instances (instance_count sh)
    (c.in_err-push_site.ensures.err text v.site serves refl (and_parts (is_sound sh) true h).0))

pub returns-clause-ok : goal.returns-clause-ok
returns-clause-ok c text serves trail h =
    let v = owned_variable None (result_site c.args.returned.now c.args.name.now) in
    let sh = variable_shape text v in
    grows_by_one text v (record { owner = None; name = c.as_slice.result; is_input = false }) c.args.grown.now
    c.push_site.new.grown trail
    (ap (λ n. record { owner = None; name = n; steps = [] }) c.as_slice.ensures) refl
    (c.in_ok-push_site.ensures.ok text v.site serves refl (and_parts (is_sound sh) true h).0)
