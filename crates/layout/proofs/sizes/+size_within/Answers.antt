use Rattle.std.proofs.Common.{rules, arith, ◌≡◌, refl, ap, sym, subst, ◌∙◌, ℕ, suc, ◌+◌, ◌*◌, ◌-◌, ◌≤◌, [], drop, map}
use Rattle.std.proofs.Common.{false, None}
use Rattle.std.proofs.Math.ListN.{drop_of_length-le}
use Rattle.st_types.specs.declared.limits.TheConstants.{MAX_PATHS}
use Rattle.st_meaning.specs.NameTypes.{Declared}
use Rattle.st_rules.specs.TypeRules.{elements_of_array}
use Rattle.symbols.specs.PlaceTypes.{place_type_view}
use Rattle.layout.specs.Types as made
use Rattle.layout.specs.Types.{composition_of, is_within_depth}
use Rattle.layout.specs.Compositions.{ServesTypes, composition_view}
use Rattle.layout.specs.KeptSites.{part_view}
use Rattle.layout.specs.Sizes.{IsSized, KnowsSizes, capped_size}
use Rattle.layout.proofs.SizeLemmas.{SizedSoFar, if_none, if_some, nothing_within, no_elements, own_small}
use Rattle.layout.proofs.SizeLemmas.{part_too_deep}
use Rattle.layout.proofs.SizeLemmas.{sized_all, sized_array, sized_first, sized_next, too_deep_array}
use Rattle.layout.proofs.sizes.+size_within.Goals as goal
use Rattle.st_types.proofs.ListLemmas.{drop_next}

pub returns-then-depth-eq0-clause-deep : goal.returns-then-depth-eq0-clause-deep
returns-then-depth-eq0-clause-deep d c text serves knows =
    nothing_within c.args.depth text (place_type_view c.args.declared) c.if-depth-eq0.true

pub returns-in_default-2-clause-deep : goal.returns-in_default-2-clause-deep
returns-in_default-2-clause-deep d c text serves knows =
    let deep : suc (c.args.depth - 1) ≡ c.args.depth = omega (arith, c.if-depth-eq0.false) in
    let t = place_type_view c.args.declared in
    subst (λ n. is_within_depth n text t ≡ false) deep
    (too_deep_array (c.args.depth - 1) text t c.in-Elements.array.now
    (sym (c.composition_of-composed.ensures text serves) ∙ ap composition_view c.in-Elements.is)
    (if_none c.in_ok-size.field-0 c.in_default-2.is c.in_ok-size.ensures.deep text serves knows))

pub returns-in-Elements-clause-known : goal.returns-in-Elements-clause-known
returns-in-Elements-clause-known d c text serves knows =
    let t = place_type_view c.args.declared in
    let sized = sized_array text t c.in-Elements.array.now c.in-Some-2.size
    (sym (c.composition_of-composed.ensures text serves) ∙ ap composition_view c.in-Elements.is)
    (if_some _ c.in_ok-size.field-0 c.in-Some-2.size c.in-Some-2.is c.in_ok-size.ensures.size text serves knows) in
    let size : capped_size (elements_of_array c.in-Elements.array.now * c.in-Some-2.size) ≡ c.product-size.result = search rules in
    c.in_ok-remember.ensures text (c.in_ok-size.ensures.known text serves knows) (subst (IsSized text t) size sized)

pub returns-in-Elements-clause-size : goal.returns-in-Elements-clause-size
returns-in-Elements-clause-size d c text serves knows =
    let t = place_type_view c.args.declared in
    let sized = sized_array text t c.in-Elements.array.now c.in-Some-2.size
    (sym (c.composition_of-composed.ensures text serves) ∙ ap composition_view c.in-Elements.is)
    (if_some _ c.in_ok-size.field-0 c.in-Some-2.size c.in-Some-2.is c.in_ok-size.ensures.size text serves knows) in
    let size : capped_size (elements_of_array c.in-Elements.array.now * c.in-Some-2.size) ≡ c.product-size.result = search rules in
    subst (IsSized text t) size sized

pub loop-part-init : goal.loop-part-init
loop-part-init d c = record {
  known = λ text serves knows. knows;
  sized = λ text serves knows.
      sized_first text c.own_size-total.result c.deref-part-items.result.now
      (subst (λ n. n ≤ MAX_PATHS) (sym c.own_size-total.ensures)
      (own_small (composition_view c.composition_of-composed.result)));
}

pub returns-in_default-3 : goal.returns-in_default-3
returns-in_default-3 d c = record {
  known = λ text serves knows.
      c.in_ok-size-2.ensures.known text serves (c.loop-part.invariant.known text serves knows);
  size = tt;
  deep = λ text serves knows.
      let deep : suc (c.args.depth - 1) ≡ c.args.depth = omega (arith, c.if-depth-eq0.false) in
      let t = place_type_view c.args.declared in
      let s : made.Site = record { declared = t; initial = None; retentions = [] } in
      let left = drop (c.loop-part.part-index + 1) c.deref-part-items.result.now in
      subst (λ n. is_within_depth n text t ≡ false) deep
      (part_too_deep (c.args.depth - 1) text s t (composition_view c.composition_of-composed.result)
      c.own_size-total.result c.loop-part.total c.deref-part-items.result.now c.part-item.result left
      (sym (c.composition_of-composed.ensures text serves))
      (no_elements c.composition_of-composed.result c.in_default-composed.not-Elements)
      (ap (map part_view) c.deref-part-items.ensures.value ∙ c.in_ok-parts.ensures s refl)
      (subst (SizedSoFar text c.own_size-total.result c.loop-part.total c.deref-part-items.result.now)
      (drop_next c.deref-part-items.result.now c.loop-part.part-index c.part-item.result (omega arith)
      c.part-item.is)
      (c.loop-part.invariant.sized text serves knows))
      (if_none c.in_ok-size-2.field-0 c.in_default-3.is c.in_ok-size-2.ensures.deep text serves
      (c.loop-part.invariant.known text serves knows)));
}

pub loop-part-preserved : goal.loop-part-preserved
loop-part-preserved d c = record {
  known = λ text serves knows.
      c.in_ok-size-2.ensures.known text serves (c.loop-part.invariant.known text serves knows);
  sized = λ text serves knows.
      let left = drop (c.loop-part.part-index + 1) c.deref-part-items.result.now in
      subst (λ n. SizedSoFar text c.own_size-total.result n c.deref-part-items.result.now left)
      (sym c.sum-total.ensures)
      (sized_next text c.own_size-total.result c.loop-part.total c.deref-part-items.result.now c.part-item.result left
      c.in-Some-3.size
      (subst (SizedSoFar text c.own_size-total.result c.loop-part.total c.deref-part-items.result.now)
      (drop_next c.deref-part-items.result.now c.loop-part.part-index c.part-item.result (omega arith)
      c.part-item.is)
      (c.loop-part.invariant.sized text serves knows))
      (if_some _ c.in_ok-size-2.field-0 c.in-Some-3.size c.in-Some-3.is c.in_ok-size-2.ensures.size text serves
      (c.loop-part.invariant.known text serves knows)));
}

whole_sized : (d : ℕ) (c : goal.After-drop-parts-2 d) (text : Declared) → ServesTypes c.args.types.now text
    → KnowsSizes text c.args.known.now → IsSized text (place_type_view c.args.declared) c.loop-part.total
whole_sized d c text serves knows =
    let t = place_type_view c.args.declared in
    let s : made.Site = record { declared = t; initial = None; retentions = [] } in
    sized_all text s t (composition_view c.composition_of-composed.result) c.own_size-total.result c.loop-part.total
    c.deref-part-items.result.now (drop c.loop-part.part-index c.deref-part-items.result.now)
    (sym (c.composition_of-composed.ensures text serves))
    (no_elements c.composition_of-composed.result c.in_default-composed.not-Elements) c.own_size-total.ensures
    (ap (map part_view) c.deref-part-items.ensures.value ∙ c.in_ok-parts.ensures s refl)
    (drop_of_length-le c.deref-part-items.result.now (omega arith)) (c.loop-part.invariant.sized text serves knows)

pub returns : goal.returns
returns d c = record {
  known = λ text serves knows.
      c.in_ok-remember-2.ensures text (c.loop-part.invariant.known text serves knows)
      (whole_sized d c text serves knows);
  size = λ text serves knows. whole_sized d c text serves knows;
  deep = tt;
}
