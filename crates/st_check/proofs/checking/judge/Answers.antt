use Rattle.st_types.specs.SourceViews.{source_view}
use Rattle.st_rules.specs.Rules.{broken}
use Rattle.st_check.proofs.JudgeLemmas.{has_checked}
use Rattle.st_check.proofs.checking.judge.Goals as goal

pub returns-in-Ok : goal.returns-in-Ok
returns-in-Ok c =
    let s = source_view c.args.source.now in
    c.answered.ensures.judged (broken s)
    (has_checked s c.judge_all-ended.result c.in-Ok.broken c.judge_all-ended.new.broken c.in-Ok.ensures.found
    c.in-Ok.ensures.room c.judge_all-ended.ensures.adds c.judge_all-ended.ensures.covers)
