use Rattle.std.proofs.Common.{◌≡◌, ◌++◌, ◌∷◌, [], ◌+◌, refl, sym, rules, subst, length, drop, min, map}
use Rattle.std.specs.Vec.{vec_items}
use Rattle.std.proofs.lemmas.List.{length-append}
use Rattle.std.proofs.lemmas.Slice.Zip.{zip_end, zip_turn}
use Rattle.st_print.proofs.AppendLemmas.{appends_both}
use Rattle.trace.proofs.PutLemmas.{both_more}
use Rattle.source_run.specs.Reports.{variable_line, variables_text}
use Rattle.source_run.proofs.ReportLemmas.{all_written}
use Rattle.source_run.proofs.report.write_variables.Goals as goal

pub loop-variable-preserved : goal.loop-variable-preserved
loop-variable-preserved g c =
    let (text, wrote, so_far) = c.loop-variable.invariant in
    let ts = map vec_items c.args.names.now in
    let vs = c.args.variables.now in
    let ds = c.args.values.now in
    let v = c.in-Some.variable.now in
    let d = c.in-Some.value.now in
    let yielded = c.loop-variable.yielded in
    let (small, few, at, is) = zip_turn vs ds yielded c.into_iter-variable-iterator.result
    c.loop-variable.variable-iterator c.next.new.self _ (search rules) (search rules) c.loop-variable.yielded_by
    (c.in-Some.variable, c.in-Some.value) c.in-Some.is c.next.ensures.steps in
    let count : length yielded + 1 ≡ length (yielded ++ (c.in-Some.variable, c.in-Some.value) ∷ []) =
    sym (length-append yielded ((c.in-Some.variable, c.in-Some.value) ∷ [])) in (
      text ++ variable_line ts v.path d,
      appends_both _ _ _ _ _ wrote (search rules),
      subst (λ n. (text ++ variable_line ts v.path d) ++ variables_text ts (drop n vs) (drop n ds)
          ≡ variables_text ts vs ds) count
          (both_more (variables_text ts) (λ x y. variable_line ts x.path y) (λ x y xs ys. refl) vs ds (length yielded)
          v d text (variables_text ts vs ds) small few (sym (at v)) (sym (is d)) so_far),
    )

pub returns : goal.returns
returns g c =
    let (text, wrote, so_far) = c.loop-variable.invariant in
    let ts = map vec_items c.args.names.now in
    let vs = c.args.variables.now in
    let ds = c.args.values.now in
    let yielded = c.loop-variable.yielded in
    let end : length yielded ≡ min (length vs) (length ds) =
    zip_end vs ds yielded c.into_iter-variable-iterator.result c.loop-variable.variable-iterator c.next.new.self _
    (search rules) (search rules) c.loop-variable.yielded_by c.in-None.is c.next.ensures.steps in
    all_written ts _ _ vs ds text (length yielded) end wrote so_far
