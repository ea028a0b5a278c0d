use Rattle.std.proofs.Common.{◌≡◌, ◌∙◌, ap, map}
use Rattle.std.specs.List.{flat_map}
use Rattle.st_meaning.specs.NameTypes.{declared_in}
use Rattle.st_rules.specs.InitialRules.{starts_of_declaring, wrong_start}
use Rattle.st_rules.specs.Rules.{starts_in}
use Rattle.st_rules.proofs.CollectLemmas.{adds_nothing, collects_is}
use Rattle.st_decl.specs.DeclaringViews.{declaring_view}
use Rattle.st_decl.specs.StartViews.{start_view}
use Rattle.st_check.proofs.starts.wrong_starts.Goals as goal

pub returns-in_err-starts-clause-adds : goal.returns-in_err-starts-clause-adds
returns-in_err-starts-clause-adds c source serves = adds_nothing _ _

pub returns-clause-adds : goal.returns-clause-adds
returns-clause-adds c source serves =
    let text = declared_in source in
    let starts : map start_view c.deref-2.result.now ≡ starts_in source =
    ap (map start_view) c.deref-2.ensures.value ∙ c.in_ok-starts.ensures text serves.names serves.fields
    ∙ ap (λ ds. flat_map (starts_of_declaring text) (map declaring_view ds)) c.deref.ensures.value
    ∙ ap (flat_map (starts_of_declaring text)) serves.declarings in
    let all = collects_is _ _ _ _ (ap (flat_map (wrong_start text)) starts)
    (c.wrong_starts_of.ensures text serves.names serves.tables serves.fields) in
    all.adds

pub returns-clause-covers : goal.returns-clause-covers
returns-clause-covers c source serves =
    let text = declared_in source in
    let starts : map start_view c.deref-2.result.now ≡ starts_in source =
    ap (map start_view) c.deref-2.ensures.value ∙ c.in_ok-starts.ensures text serves.names serves.fields
    ∙ ap (λ ds. flat_map (starts_of_declaring text) (map declaring_view ds)) c.deref.ensures.value
    ∙ ap (flat_map (starts_of_declaring text)) serves.declarings in
    let all = collects_is _ _ _ _ (ap (flat_map (wrong_start text)) starts)
    (c.wrong_starts_of.ensures text serves.names serves.tables serves.fields) in
    all.covers
