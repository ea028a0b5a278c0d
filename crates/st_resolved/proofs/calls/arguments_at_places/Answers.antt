use Rattle.std.proofs.Common.{rules, ◌≡◌, ◌∙◌, sym, ap, subst, refl, List, [], ◌∷◌, ◌++◌, length, drop, map, option_map, arith}
use Rattle.std.proofs.lemmas.List.{length-map, map-append}
use Rattle.std.specs.Vec.Iter.{into_iter_items}
use Rattle.st_types.specs.Expressions.{Expr}
use Rattle.st_types.specs.ExpressionViews.{expr_view}
use Rattle.st_meaning.specs.Resolution.{first_kind, resolved_expr}
use Rattle.symbols.specs.Tables.{callee_view}
use Rattle.st_resolved.specs.declared.resolutions.Resolution.{Resolution}
use Rattle.st_resolved.specs.Calls.{expected_of_call}
use Rattle.st_resolved.specs.Resolutions.{resolved_kind, Resolves}
use Rattle.st_resolved.proofs.CallLemmas.{Places, places_more, places_all}
use Rattle.st_resolved.proofs.calls.arguments_at_places.Goals as goal

none_left : (l : List Resolution) → length l ≡ 0 → l ≡ []
none_left [] h = refl
none_left (x ∷ xs) h = absurd (omega arith)

pub loop-part-preserved : goal.loop-part-preserved
loop-part-preserved c =
    let at = c.loop-part in
    let all = c.args.parts.items in
    let ks = expected_of_call (option_map callee_view c.args.callee) (map resolved_kind all) in
    let r = c.in-Some.part in
    let x = c.at_place.result in
    let done = map expr_view at.arguments.items in
    let left = into_iter_items c.next.new.self in
    let steps : into_iter_items at.part-iterator ≡ r ∷ left = c.in-Some.ensures.steps.0 in
    let pushed : map expr_view c.push.new.self.items ≡ done ++ expr_view x ∷ [] =
    ap (map expr_view) (search rules) ∙ map-append expr_view at.arguments.items (x ∷ []) in
    let count : c.len.result ≡ length done = omega (arith, c.len.ensures, at.arguments.ok.0, length-map at.arguments.items expr_view) in
    record {
      places = λ env es resolves common.
          let before : Places env ks es done (r ∷ left) =
          subst (Places env ks es done) steps (at.invariant.places env es resolves common) in
          subst (λ l. Places env ks es l left) (sym pushed)
          (places_more env ks es done r left (expr_view x) before (λ e h.
          c.at_place.ensures env e h
          ∙ ap (λ k. resolved_expr env.text env.unit k e) (c.expected_at-expected.ensures (map resolved_kind all) common
          ∙ ap (λ n. first_kind (drop n ks)) count)));
      len = let was = at.invariant.len in let gone = c.in-Some.ensures.steps.1 in let short = ap length steps in omega arith;
    }

pub returns : goal.returns
returns c env es resolves common =
    let at = c.loop-part in
    let ks = expected_of_call (option_map callee_view c.args.callee) (map resolved_kind c.args.parts.items) in
    let done = map expr_view at.arguments.items in
    let none = c.in-None.ensures.steps in
    let empty : into_iter_items at.part-iterator ≡ [] = none_left _ (sym at.invariant.len ∙ none.0) in
    places_all env ks es done (subst (Places env ks es done) empty (at.invariant.places env es resolves common))
