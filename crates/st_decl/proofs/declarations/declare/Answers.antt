use Rattle.st_types.specs.SourceViews.{source_view}
use Rattle.st_rules.specs.Rules.{wrong_declarations}
use Rattle.st_decl.proofs.JudgeLemmas.{has_checked}
use Rattle.st_decl.proofs.declarations.declare.Goals as goal

pub returns-in-Ok : goal.returns-in-Ok
returns-in-Ok c =
    let faults = wrong_declarations (source_view c.args.source.now) in
    c.answered.ensures.judged faults
    (has_checked faults c.judge-ended.result c.in-Ok.broken c.judge-ended.new.broken c.in-Ok.ensures.found
    c.in-Ok.ensures.room c.judge-ended.ensures.adds c.judge-ended.ensures.covers)
