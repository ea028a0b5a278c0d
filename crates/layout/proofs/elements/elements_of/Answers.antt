use Rattle.std.proofs.Common.{rules, arith, ap, ◌∙◌, ◌∷◌, [], ◌++◌, ◌+◌, ◌-◌, map, slice_get}
use Rattle.std.proofs.lemmas.List.{map-append}
use Rattle.st_rules.specs.TypeRules.{elements_of_array}
use Rattle.layout.specs.Sites.{element_initial, given}
use Rattle.layout.specs.KeptSites.{element_part, element_parts, given_view, kept_part, part_view}
use Rattle.layout.proofs.PushLemmas.{moved}
use Rattle.layout.proofs.KeptSiteLemmas.{elements_more}
use Rattle.layout.proofs.elements.elements_of.Goals as goal

pub loop-preserved : goal.loop-preserved
loop-preserved c = record {
  length = search rules;
  parts = λ s is.
      let a = c.args.array.now in
      let k = c.loop.counter in
      let y = kept_part (element_part s a k) in
      moved (y ∷ []) (map part_view c.loop.parts.items) (map part_view c.push.new.self.items)
      (map kept_part (element_parts s a k (c.elements_of_array-count.result - k)))
      (map kept_part (element_parts s a (k + 1) (c.elements_of_array-count.result - (k + 1))))
      (map kept_part (element_parts s a 0 (elements_of_array a)))
      (ap (map part_view) c.in_ok-push.ensures.items
      ∙ map-append part_view c.loop.parts.items (c.element_part.result ∷ [])
      ∙ ap (λ z. map part_view c.loop.parts.items ++ z ∷ []) (c.element_part.ensures s is (λ n.
      ap (λ xs. given (slice_get (map given_view xs) n)) c.deref.ensures.value ∙ c.in_ok-listed.ensures n
      ∙ ap (λ i. element_initial i n) (ap (λ q. q.initial) is))
      ∙ ap (λ m. kept_part (element_part s a m)) (search rules)))
      (ap (map kept_part) (elements_more s a c.elements_of_array-count.result k (omega arith)))
      (c.loop.invariant.parts s is);
}
