use Rattle.std.proofs.Common.{rules}
use Rattle.st_types.specs.SourceViews.{source_view}
use Rattle.config.specs.Texts.{IsTextOf}
use Rattle.st_rules.proofs.CollectLemmas.{keeps_all}
use Rattle.config.proofs.TextFaults.{text_breaks}
use Rattle.config.proofs.broken_rules.add_broken_rules.Goals as goal

pub returns-in_err-tokens-clause-keeps : goal.returns-in_err-tokens-clause-keeps
returns-in_err-tokens-clause-keeps c = keeps_all _

pub returns-in_err-source-clause-keeps : goal.returns-in_err-source-clause-keeps
returns-in_err-source-clause-keeps c = keeps_all _

pub returns-in_err-judge_all-clause-keeps : goal.returns-in_err-judge_all-clause-keeps
returns-in_err-judge_all-clause-keeps c = c.judge_all.ensures.adds.keeps

pub returns-clause-keeps : goal.returns-clause-keeps
returns-clause-keeps c = c.judge_all.ensures.adds.keeps

pub returns-in_err-judge_all-clause-true_ones : goal.returns-in_err-judge_all-clause-true_ones
returns-in_err-judge_all-clause-true_ones c =
    let source = source_view c.in_ok-source.source in
    let of : IsTextOf c.args.text.now source = search rules in
    text_breaks c.args.text.now source c.args.broken.now c.judge_all.new.broken of c.judge_all.ensures.adds

pub returns-clause-true_ones : goal.returns-clause-true_ones
returns-clause-true_ones c =
    let source = source_view c.in_ok-source.source in
    let of : IsTextOf c.args.text.now source = search rules in
    text_breaks c.args.text.now source c.args.broken.now c.judge_all.new.broken of c.judge_all.ensures.adds
