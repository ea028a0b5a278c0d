use Rattle.std.proofs.Common.{rules, ◌≡◌, refl, length, true, Err}
use Rattle.std.proofs.lemmas.Bool.{and_parts}
use Rattle.layout.specs.Shapes.{is_sound, size, instance_count}
use Rattle.layout.specs.TextLayouts.{variable_shape}
use Rattle.layout.specs.Variables.{variable_view}
use Rattle.layout.proofs.LayoutLemmas.{exceeds_one, grows_by_one}
use Rattle.layout.proofs.KeptSiteLemmas.{kept_alone}
use Rattle.layout.proofs.layout_slots.push_variable.Goals as goal

pub returns-in_err-push_site-clause-err : goal.returns-in_err-push_site-clause-err
returns-in_err-push_site-clause-err c =
    let fault : c.from_residual.result ≡ Err c.in_err-push_site.field-0.0 = search rules in
    rw fault (λ text serves h.
    let v = variable_view c.args.owner c.args.variable in
    let sh = variable_shape text v in
    exceeds_one c.in_err-push_site.field-0.0 (length c.args.grown.now.slots.items) (size sh)
    c.args.grown.now.instances (instance_count sh)
    (c.in_err-push_site.ensures.err text v.site serves
    (kept_alone v.site.declared v.site.initial c.is_retained_within.result v.site.retentions
    c.is_retained_within.ensures)
    (and_parts (is_sound sh) true h).0))

pub returns-clause-ok : goal.returns-clause-ok
returns-clause-ok c text serves trail h =
    let v = variable_view c.args.owner c.args.variable in
    let sh = variable_shape text v in
    grows_by_one text v (record {
      owner = c.args.owner;
      name = c.args.variable.site.name;
      is_input = c.args.variable.is_input;
    })
    c.args.grown.now c.push_site.new.grown trail refl refl
    (c.in_ok-push_site.ensures.ok text v.site serves
    (kept_alone v.site.declared v.site.initial c.is_retained_within.result v.site.retentions
    c.is_retained_within.ensures)
    (and_parts (is_sound sh) true h).0)
