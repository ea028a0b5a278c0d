use Rattle.std.proofs.Common.{sym, ap, ◌∙◌}
use Rattle.std.specs.Prelude.{option_map}
use Rattle.st_meaning.specs.StandardFunctions.{CONVERT}
use Rattle.symbols.specs.Words.{is_back, IsTarget}
use Rattle.symbols.proofs.standard_functions.conversion_from.Goals as goal

pub returns-in-Some-other_named : goal.returns-in-Some-other_named
returns-in-Some-other_named c =
    let x = c.args.name.now in
    let k = c.args.from in
    let told : IsTarget x k c.in-Some.word.now =
    λ to. c.target.ensures to ∙ ap (λ o. is_back to (option_map (λ r. r.now) o)) c.in-Some.is in
    ap (option_map (CONVERT k)) (sym c.in-Some-other_named.is) ∙ c.other_named.ensures x told

pub returns-in-None : goal.returns-in-None
returns-in-None c =
    let x = c.args.name.now in
    let k = c.args.from in
    let told : IsTarget x k c.in-Some.word.now =
    λ to. c.target.ensures to ∙ ap (λ o. is_back to (option_map (λ r. r.now) o)) c.in-Some.is in
    ap (option_map (CONVERT k)) (sym c.in-None.is) ∙ c.other_named.ensures x told
