use Rattle.std.proofs.Common.{rules, ◌≡◌, sym, ap, ◌∙◌, ◌<◌, length, slice_index_or, if◌then◌else◌, Some, None}
use Rattle.std.specs.Prelude.{bytes_eq}
use Rattle.symbols.specs.Found.{found, or_found}
use Rattle.symbols.specs.Enumerated.{member_at}
use Rattle.symbols.proofs.EnumerationLemmas.{place_more, values_more}
use Rattle.symbols.proofs.enumerations.add_names.Goals as goal

pub loop-place-preserved : goal.loop-place-preserved
loop-place-preserved c =
    let xs = c.args.names.now in
    let i = c.loop-place.place in
    let y = c.index-names-place.result in
    let lt : i < length xs = search rules in
    let is : y ≡ slice_index_or xs i y = search rules in (
      (λ q. c.in_ok-add_value.ensures.places q
          ∙ ap (λ o. or_found o (if bytes_eq q y.name then Some i else None)) (c.loop-place.invariant.0 q)
          ∙ sym (place_more xs i y q lt is)),
      (λ q ms told. values_more (member_at c.args.kind) c.add_value.new.values ms xs i y q (found c.loop-place.places q)
          lt is (c.loop-place.invariant.0 q)
          (c.in_ok-add_value.ensures.values q _ (c.loop-place.invariant.1 q ms told))),
    )
