use Rattle.std.proofs.Common.{◌≡◌, ◌++◌, ◌∷◌, [], true, false, rules}
use Rattle.live_drive.proofs.AnswerLemmas.{line_put, line_sent}
use Rattle.live_drive.proofs.answers.send.Goals as goal

pub returns-then-not-put : goal.returns-then-not-put
returns-then-not-put g c =
    let is : c.deref.result.now ≡ c.args.line.now.items ++ 10 ∷ [] = search rules in
    line_put (g.W.Write.contents c.args.out.now) (g.W.Write.contents c.put.new.out) false c.deref.result.now
    (c.args.line.now.items ++ 10 ∷ []) is c.if-not-put.ensures

pub returns : goal.returns
returns g c =
    let is : c.deref.result.now ≡ c.args.line.now.items ++ 10 ∷ [] = search rules in
    line_sent (g.W.Write.contents c.args.out.now) (g.W.Write.contents c.put.new.out) (g.W.Write.contents c.flush.new.self)
    (c.args.line.now.items ++ 10 ∷ []) c.flush.result
    (line_put (g.W.Write.contents c.args.out.now) (g.W.Write.contents c.put.new.out) true c.deref.result.now
    (c.args.line.now.items ++ 10 ∷ []) is c.if-not-put.ensures) c.flush.ensures.bytes
