use Rattle.std.proofs.Common.{ap, ◌∙◌, map}
use Rattle.std.specs.List.{flat_map, filter_map}
use Rattle.st_types.specs.SourceViews.{source_view}
use Rattle.st_rules.specs.DeclaredTypes.{array_of_type}
use Rattle.st_rules.specs.TypeRules.{wrong_bounds}
use Rattle.st_rules.proofs.CollectLemmas.{collects_is, collects_same, search_goes_on, search_fails}
use Rattle.st_decl.specs.DeclaringViews.{declaring_view}
use Rattle.st_decl.specs.Entries.{declaring_of}
use Rattle.st_decl.proofs.EntryLemmas.{declarings_listed, arrays_to_rules, arrays_from_rules, addresses_listed}
use Rattle.st_decl.proofs.JudgeLemmas.{declarations_start, search_completes}
use Rattle.st_decl.proofs.declarations.wrong_declarations.Goals as goal

pub too_deep-requires : goal.too_deep-requires
too_deep-requires c =
    let source = source_view c.args.source.now in
    ap (map (λ a. a.now)) c.deref-2.ensures.value ∙ c.in_ok-arrays.ensures
    ∙ ap (flat_map (λ d. array_of_type d.declared)) (ap (map declaring_view) c.deref.ensures.value
    ∙ c.in_ok-declarings.ensures ∙ ap (filter_map declaring_of) c.requires ∙ declarings_listed source)

pub wrong_lists-requires : goal.wrong_lists-requires
wrong_lists-requires c =
    let source = source_view c.args.source.now in
    ap (map declaring_view) c.deref-3.ensures.value ∙ c.in_ok-declarings.ensures
    ∙ ap (filter_map declaring_of) c.requires ∙ declarings_listed source

pub returns-in_err-twice_declared-clause-adds : goal.returns-in_err-twice_declared-clause-adds
returns-in_err-twice_declared-clause-adds c =
    search_fails _ _ _ _ _ _ (declarations_start (source_view c.args.source.now) c.args.broken.now)
    c.twice_declared.ensures.adds

pub returns-in_err-declarings-clause-adds : goal.returns-in_err-declarings-clause-adds
returns-in_err-declarings-clause-adds c =
    search_fails _ _ _ _ _ _ (declarations_start (source_view c.args.source.now) c.args.broken.now)
    c.twice_declared.ensures.adds

pub returns-in_err-arrays-clause-adds : goal.returns-in_err-arrays-clause-adds
returns-in_err-arrays-clause-adds c =
    search_fails _ _ _ _ _ _ (declarations_start (source_view c.args.source.now) c.args.broken.now)
    c.twice_declared.ensures.adds

pub returns-in_err-too_deep-clause-adds : goal.returns-in_err-too_deep-clause-adds
returns-in_err-too_deep-clause-adds c =
    let start = declarations_start (source_view c.args.source.now) c.args.broken.now in
    let twice = search_goes_on _ _ _ _ _ _ start c.twice_declared.ensures.adds c.in_ok-twice_declared.ensures.covers in
    search_fails _ _ _ _ _ _ twice c.too_deep.ensures.adds

pub returns-in_err-wrong_lists-clause-adds : goal.returns-in_err-wrong_lists-clause-adds
returns-in_err-wrong_lists-clause-adds c =
    let source = source_view c.args.source.now in
    let start = declarations_start source c.args.broken.now in
    let twice = search_goes_on _ _ _ _ _ _ start c.twice_declared.ensures.adds c.in_ok-twice_declared.ensures.covers in
    let deep = search_goes_on _ _ _ _ _ _ twice c.too_deep.ensures.adds c.in_ok-too_deep.ensures.covers in
    let arrays = collects_same _ _ _ _ (arrays_to_rules wrong_bounds source) (arrays_from_rules wrong_bounds source)
    (rw c.requires at c.wrong_arrays.ensures) in
    let bounds = search_goes_on _ _ _ _ _ _ deep arrays.adds arrays.covers in
    search_fails _ _ _ _ _ _ bounds c.wrong_lists.ensures.adds

pub returns : goal.returns
returns c =
    let source = source_view c.args.source.now in
    let start = declarations_start source c.args.broken.now in
    let twice = search_goes_on _ _ _ _ _ _ start c.twice_declared.ensures.adds c.in_ok-twice_declared.ensures.covers in
    let deep = search_goes_on _ _ _ _ _ _ twice c.too_deep.ensures.adds c.in_ok-too_deep.ensures.covers in
    let arrays = collects_same _ _ _ _ (arrays_to_rules wrong_bounds source) (arrays_from_rules wrong_bounds source)
    (rw c.requires at c.wrong_arrays.ensures) in
    let bounds = search_goes_on _ _ _ _ _ _ deep arrays.adds arrays.covers in
    let lists = search_goes_on _ _ _ _ _ _ bounds c.wrong_lists.ensures.adds c.in_ok-wrong_lists.ensures.covers in
    let addresses = collects_is _ _ _ _ (addresses_listed source) (rw c.requires at c.retained_addresses.ensures) in
    let all = search_completes _ _ _ _ _ lists addresses in
    record { adds = all.adds; covers = all.covers }
