use Rattle.symbols.specs.PlaceTypes.{place_type_view}
use Rattle.st_rules.specs.declared.limits.TheConstants.{MAX_TYPE_DEPTH}
use Rattle.layout.proofs.SizeLemmas.{answered, if_none, if_some}
use Rattle.layout.proofs.sizes.Sizes.size_of.Goals as goal

pub returns-clause-size : goal.returns-clause-size
returns-clause-size c text serves within =
    answered MAX_TYPE_DEPTH text (place_type_view c.args.declared) c.in_ok-answer.answer
    (λ n is. if_some _ c.in_ok-answer.answer n is c.in_ok-answer.ensures.size text serves.types serves.known)
    (λ is. if_none c.in_ok-answer.answer is c.in_ok-answer.ensures.deep text serves.types serves.known) within
