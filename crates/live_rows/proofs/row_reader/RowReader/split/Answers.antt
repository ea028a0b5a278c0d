use Rattle.std.proofs.Common.{◌++◌, [], ◌∷◌, drop, ap, ◌∙◌}
use Rattle.std.proofs.lemmas.List.{take_rest, drop-drop}
use Rattle.std.proofs.lemmas.Result.{on_ok_weaker}
use Rattle.csv.specs.Records.{fields_of, partial_of}
use Rattle.live_rows.specs.RowLines.{fields_in}
use Rattle.live_rows.proofs.RowLineLemmas.{fields_more, fields_last}
use Rattle.live_rows.proofs.row_reader.RowReader.split.Goals as goal

pub loop-end-preserved : goal.loop-end-preserved
loop-end-preserved c =
    let old = c.loop-end.self.fields in
    let rest = c.loop-end.rest.now in
    let end = c.in-Some.end in
    let parts = c.split_at.ensures in
    let pushed = c.in_ok-push_field.ensures in
    record {
      fields = ap (λ l. fields_of c.push_field.new.self ++ fields_in l) (take_rest c.split_at.result.1.now 1 ∙ ap (drop 1) parts.back ∙ drop-drop 1 end rest)
          ∙ fields_more rest end _ _ (partial_of old) c.in-Some.ensures c.loop-end.invariant.whole
          (pushed.fields ∙ ap (λ f. fields_of old ++ (partial_of old ++ f) ∷ []) parts.front)
          ∙ c.loop-end.invariant.fields;
      whole = pushed.partial;
    }

pub returns : goal.returns
returns c =
    let inv = c.loop-end.invariant in
    on_ok_weaker c.push_field-2.result (λ last. fields_last c.loop-end.rest.now _ _ _ c.in_default.ensures inv.whole last ∙ inv.fields) c.push_field-2.ensures.fields
