use Rattle.std.proofs.Common.{ap, sym, subst, ◌∙◌, option_map}
use Rattle.symbols.specs.PlaceTypes.{place_type_view}
use Rattle.layout.specs.Sizes.{IsSized}
use Rattle.layout.proofs.SizeLemmas.{is_named, knows_more}
use Rattle.layout.proofs.sizes.remember.Goals as goal

pub returns-in_ok-add : goal.returns-in_ok-add
returns-in_ok-add c text knows sized =
    let x = c.in-Some.name.now in
    knows_more text c.args.known.now c.add.new.self x.name x.place c.args.size knows c.in_ok-add.ensures.added
    (subst (λ t. IsSized text t c.args.size) (sym (is_named (place_type_view c.args.declared) x
    (sym c.name_of.ensures ∙ ap (option_map (λ y. y.now)) c.in-Some.is))) sized)
