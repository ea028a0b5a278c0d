use Rattle.std.proofs.Common.{refl, ap}
use Rattle.st_rules.specs.Collecting.{Collects}
use Rattle.st_rules.specs.TypeRules.{wrong_result}
use Rattle.st_rules.proofs.CollectLemmas.{collects_is, search_starts, loop_goes_on, loop_ends}
use Rattle.st_decl.specs.Entries.{of_each, entry_view, result_of}
use Rattle.st_check.proofs.EntryLemmas.{nothing_collected}
use Rattle.st_check.proofs.declared_types.wrong_results.Goals as goal
use Rattle.st_check.proofs.declared_types.wrong_results.Goals.{in-Some, in_default}

pub loop-entry-init : goal.loop-entry-init
loop-entry-init c text names tables = search_starts _ _ _ refl

pub loop-entry-preserved : goal.loop-entry-preserved
loop-entry-preserved c text names tables =
    let one : Collects (of_each (wrong_result text) (result_of (entry_view c.entry-item.result))) c.loop-entry.broken
    c.match-result.broken = elim c.match-result.branch [
      | in-Some w ↦
          rw w.broken-is (collects_is _ _ _ _ (ap (of_each (wrong_result text)) w.in-Some.ensures)
          (w.wrong_result.ensures text names tables))
      | in_default w ↦
          rw w.broken-is (nothing_collected (of_each (wrong_result text)) _ _ _ _ refl w.in_default.not-Some
          c.result.ensures)
    ] in
    loop_goes_on _ _ _ _ _ _ _ _ _ c.loop-entry-test.true c.entry-item.is (c.loop-entry.invariant text names tables)
    one.adds one.covers

pub returns : goal.returns
returns c text names tables = loop_ends _ _ _ _ _ _ _ c.loop-entry-test.false (c.loop-entry.invariant text names tables)
