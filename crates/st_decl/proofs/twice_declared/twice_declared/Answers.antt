use Rattle.std.proofs.Common.{◌≡◌}
use Rattle.std.specs.Prelude.{map}
use Rattle.st_types.specs.SourceViews.{source_view}
use Rattle.st_rules.specs.NameScopes.{names_of_text}
use Rattle.st_rules.proofs.CollectLemmas.{adds_more, adds_both, collects_both, collects_is, among_left, among_itself}
use Rattle.st_decl.proofs.ScopeLemmas.{standard_where}
use Rattle.st_decl.proofs.twice_declared.twice_declared.Goals as goal

pub returns-in_err-repeated_in_scopes-clause-adds : goal.returns-in_err-repeated_in_scopes-clause-adds
returns-in_err-repeated_in_scopes-clause-adds c =
    adds_more _ _ _ _ (among_left _ _ _ (among_left _ _ _ (among_itself _)))
    (rw (c.deref.ensures.value, c.in_ok-scopes.ensures) at c.repeated_in_scopes.ensures.adds)

pub returns-in_err-names-clause-adds : goal.returns-in_err-names-clause-adds
returns-in_err-names-clause-adds c =
    adds_more _ _ _ _ (among_left _ _ _ (among_left _ _ _ (among_itself _)))
    (rw (c.deref.ensures.value, c.in_ok-scopes.ensures) at c.repeated_in_scopes.ensures.adds)

pub returns-in_err-index-clause-adds : goal.returns-in_err-index-clause-adds
returns-in_err-index-clause-adds c =
    let names = names_of_text (source_view c.args.source.now) in
    let listed : map (λ x. x.now) c.in_ok-names.names.items ≡ names =
    rw c.deref-2.ensures.value at c.in_ok-names.ensures in
    let standard = collects_is _ _ _ _ (standard_where names)
    (rw (c.deref-3.ensures.value, listed) at c.standard_names.ensures) in
    adds_more _ _ _ _ (among_left _ _ _ (among_itself _))
    (adds_both _ _ _ _ _ (rw (c.deref.ensures.value, c.in_ok-scopes.ensures) at c.repeated_in_scopes.ensures.adds)
    standard.adds)

pub returns-in_err-variables-clause-adds : goal.returns-in_err-variables-clause-adds
returns-in_err-variables-clause-adds c =
    let names = names_of_text (source_view c.args.source.now) in
    let listed : map (λ x. x.now) c.in_ok-names.names.items ≡ names =
    rw c.deref-2.ensures.value at c.in_ok-names.ensures in
    let standard = collects_is _ _ _ _ (standard_where names)
    (rw (c.deref-3.ensures.value, listed) at c.standard_names.ensures) in
    adds_more _ _ _ _ (among_left _ _ _ (among_itself _))
    (adds_both _ _ _ _ _ (rw (c.deref.ensures.value, c.in_ok-scopes.ensures) at c.repeated_in_scopes.ensures.adds)
    standard.adds)

pub returns : goal.returns
returns c =
    let names = names_of_text (source_view c.args.source.now) in
    let listed : map (λ x. x.now) c.in_ok-names.names.items ≡ names =
    rw c.deref-2.ensures.value at c.in_ok-names.ensures in
    let repeats = rw (c.deref.ensures.value, c.in_ok-scopes.ensures) at c.in_ok-repeated_in_scopes.ensures in
    let standard = collects_is _ _ _ _ (standard_where names)
    (rw (c.deref-3.ensures.value, listed) at c.standard_names.ensures) in
    let variables = rw c.deref-5.ensures.value at c.in_ok-variables.ensures in
    let taken = rw (c.deref-6.ensures.value, variables) at c.taken_names.ensures names
    (λ q. rw (c.deref-4.ensures.value, listed) at c.in_ok-index.ensures q) in
    let all = collects_both _ _ _ _ _ (collects_both _ _ _ _ _
    (record { adds = repeats.adds; covers = repeats.covers }) standard) taken in
    record { adds = all.adds; covers = all.covers }
