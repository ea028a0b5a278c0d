use Rattle.std.proofs.Common.{◌≡◌, ◌∷◌, ◌++◌, [], rules, ap}
use Rattle.std.specs.Fmt.{decimal}
use Rattle.live_drive.specs.AnswerLines.{outputs_line, value_fields}
use Rattle.live_drive.proofs.AnswerLemmas.{line_unsent, shown}
use Rattle.live_drive.proofs.answers.Answers.send_outputs.Goals as goal

pub returns-in_err-write-clause-sent : goal.returns-in_err-write-clause-sent
returns-in_err-write-clause-sent g c = (
  outputs_line c.unwrap_or-moment.result c.values-values.result.now c.args.self.now,
  line_unsent (g.W.Write.contents c.args.out.now)
      (outputs_line c.unwrap_or-moment.result c.values-values.result.now c.args.self.now)
      c.from_residual.result c.from_residual.ensures.0,
  shown c.args.core.now c.args.self.now c.unwrap_or-moment.result c.last_moment.result c.values-values.result.now
      c.unwrap_or-moment.ensures c.last_moment.ensures c.values-values.ensures,
)

pub returns-in_err-put_values-clause-sent : goal.returns-in_err-put_values-clause-sent
returns-in_err-put_values-clause-sent g c = (
  outputs_line c.unwrap_or-moment.result c.values-values.result.now c.args.self.now,
  line_unsent (g.W.Write.contents c.args.out.now)
      (outputs_line c.unwrap_or-moment.result c.values-values.result.now c.args.self.now)
      c.from_residual-in_err-put_values.result c.from_residual-in_err-put_values.ensures.0,
  shown c.args.core.now c.args.self.now c.unwrap_or-moment.result c.last_moment.result c.values-values.result.now
      c.unwrap_or-moment.ensures c.last_moment.ensures c.values-values.ensures,
)

pub returns-clause-sent : goal.returns-clause-sent
returns-clause-sent g c =
    let moment = c.unwrap_or-moment.result in
    let values = c.values-values.result.now in
    let places = c.args.self.now in
    let put : c.put_values.new.line.items ≡ decimal moment ++ value_fields values places = search rules in
    let whole : c.put_values.new.line.items ++ 10 ∷ [] ≡ outputs_line moment values places =
    ap (λ l. l ++ 10 ∷ []) put in (
      outputs_line moment values places,
      search rules,
      shown c.args.core.now places moment c.last_moment.result values c.unwrap_or-moment.ensures c.last_moment.ensures
          c.values-values.ensures,
    )
