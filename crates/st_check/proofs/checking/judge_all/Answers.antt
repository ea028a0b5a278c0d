use Rattle.std.proofs.Common.{◌≡◌, ◌∙◌, sym, ap, map}
use Rattle.st_types.specs.SourceViews.{source_view}
use Rattle.st_types.proofs.OptionLemmas.{ok_weaker}
use Rattle.st_rules.specs.Rules.{broken}
use Rattle.st_rules.proofs.CollectLemmas.{adds_nothing, covers_later}
use Rattle.st_decl.specs.Entries.{entry_view, entries_in}
use Rattle.st_check.specs.Surplus.{surplus_names}
use Rattle.st_check.proofs.JudgeLemmas.{adds_first, adds_second, adds_third, covers_full, found_all, has_surplus}
use Rattle.st_check.proofs.TypeLemmas.{surplus_collected, surplus_seen}
use Rattle.st_check.proofs.checking.judge_all.Goals as goal

pub returns-in_err-entries-clause-adds : goal.returns-in_err-entries-clause-adds
returns-in_err-entries-clause-adds c = adds_nothing _ _

pub wrong_declarations-requires : goal.wrong_declarations-requires
wrong_declarations-requires c = ap (map entry_view) c.deref.ensures.value ∙ c.in_ok-entries.ensures

pub returns-in_err-wrong_declarations-clause-adds : goal.returns-in_err-wrong_declarations-clause-adds
returns-in_err-wrong_declarations-clause-adds c =
    adds_first (source_view c.args.source.now) _ _ c.wrong_declarations.ensures.adds

pub returns-then-surplus_names-clause-adds : goal.returns-then-surplus_names-clause-adds
returns-then-surplus_names-clause-adds c =
    let s = source_view c.args.source.now in
    let entries : map entry_view c.deref-2.result.now ≡ entries_in s =
    ap (map entry_view) c.deref-2.ensures.value ∙ c.in_ok-entries.ensures in
    let names = surplus_collected s _ _ (rw entries at c.surplus_names.ensures.broken) in
    adds_second s _ _ _ c.wrong_declarations.ensures.adds names.adds

pub returns-then-surplus_names-clause-covers : goal.returns-then-surplus_names-clause-covers
returns-then-surplus_names-clause-covers c =
    let s = source_view c.args.source.now in
    let entries : map entry_view c.deref-2.result.now ≡ entries_in s =
    ap (map entry_view) c.deref-2.ensures.value ∙ c.in_ok-entries.ensures in
    let names = surplus_collected s _ _ (rw entries at c.surplus_names.ensures.broken) in
    let seen = surplus_seen s _ (rw entries at c.surplus_names.ensures.found) in
    record {
      declared = covers_later _ _ c.wrong_declarations.new.broken c.surplus_names.new.broken
          c.in_ok-wrong_declarations.ensures.covers names.adds;
      surplus = names.covers;
      all = λ none. absurd (has_surplus (surplus_names s) (sym seen ∙ c.if-surplus_names.true) none);
    }

pub returns-then-is_full-clause-adds : goal.returns-then-is_full-clause-adds
returns-then-is_full-clause-adds c =
    let s = source_view c.args.source.now in
    let entries : map entry_view c.deref-2.result.now ≡ entries_in s =
    ap (map entry_view) c.deref-2.ensures.value ∙ c.in_ok-entries.ensures in
    let names = surplus_collected s _ _ (rw entries at c.surplus_names.ensures.broken) in
    adds_second s _ _ _ c.wrong_declarations.ensures.adds names.adds

pub returns-then-is_full-clause-covers : goal.returns-then-is_full-clause-covers
returns-then-is_full-clause-covers c =
    let s = source_view c.args.source.now in
    let entries : map entry_view c.deref-2.result.now ≡ entries_in s =
    ap (map entry_view) c.deref-2.ensures.value ∙ c.in_ok-entries.ensures in
    let names = surplus_collected s _ _ (rw entries at c.surplus_names.ensures.broken) in
    record {
      declared = covers_later _ _ c.wrong_declarations.new.broken c.surplus_names.new.broken
          c.in_ok-wrong_declarations.ensures.covers names.adds;
      surplus = names.covers;
      all = λ none. covers_full (broken s) c.surplus_names.new.broken (sym c.is_full.ensures ∙ c.if-is_full.true);
    }

pub wrong_by_names-requires : goal.wrong_by_names-requires
wrong_by_names-requires c = ap (map entry_view) c.deref-3.ensures.value ∙ c.in_ok-entries.ensures

pub returns-clause-adds : goal.returns-clause-adds
returns-clause-adds c =
    let s = source_view c.args.source.now in
    let entries : map entry_view c.deref-2.result.now ≡ entries_in s =
    ap (map entry_view) c.deref-2.ensures.value ∙ c.in_ok-entries.ensures in
    let names = surplus_collected s _ _ (rw entries at c.surplus_names.ensures.broken) in
    adds_third s _ _ _ _ c.wrong_declarations.ensures.adds names.adds c.wrong_by_names.ensures.adds

pub returns-clause-covers : goal.returns-clause-covers
returns-clause-covers c =
    let s = source_view c.args.source.now in
    let entries : map entry_view c.deref-2.result.now ≡ entries_in s =
    ap (map entry_view) c.deref-2.ensures.value ∙ c.in_ok-entries.ensures in
    let names = surplus_collected s _ _ (rw entries at c.surplus_names.ensures.broken) in
    ok_weaker c.wrong_by_names.result _ _
    (λ done h. found_all s c.wrong_declarations.new.broken c.surplus_names.new.broken c.wrong_by_names.new.broken
    c.in_ok-wrong_declarations.ensures.covers names c.wrong_by_names.ensures.adds h) c.wrong_by_names.ensures.covers
