use Rattle.std.proofs.Common.{refl, ap, sym}
use Rattle.st_rules.specs.declared.reason.Reason.TheVariants.{PriorityTooGreat}
use Rattle.st_rules.specs.Collecting.{Collects}
use Rattle.st_rules.specs.Faults.{breaking}
use Rattle.st_rules.specs.TypeRules.{wrong_priority}
use Rattle.st_rules.proofs.CollectLemmas.{collects_is, collects_nothing, search_starts, loop_goes_on, loop_ends}
use Rattle.st_decl.specs.Entries.{entry_view, priorities_of}
use Rattle.st_decl.proofs.EntryLemmas.{breaking_flat}
use Rattle.st_check.proofs.EntryLemmas.{no_resource}
use Rattle.st_check.proofs.priorities.wrong_priorities.Goals as goal
use Rattle.st_check.proofs.priorities.wrong_priorities.Goals.{in-Resource, in_default}

pub loop-entry-init : goal.loop-entry-init
loop-entry-init c = search_starts _ _ _ refl

pub loop-entry-preserved : goal.loop-entry-preserved
loop-entry-preserved c =
    let one : Collects (breaking PriorityTooGreat (priorities_of (entry_view c.entry-item.result))) c.loop-entry.broken
    c.match-entry.broken = elim c.match-entry.branch [
      | in-Resource w ↦
          let is = w.in-Resource.is in
          rw (is, w.broken-is) (collects_is _ _ _ _ (sym (breaking_flat PriorityTooGreat wrong_priority
          w.in-Resource.resource.now.tasks.items))
          (rw w.deref.ensures.value at w.wrong_tasks.ensures))
      | in_default w ↦
          rw w.broken-is (collects_is _ _ _ _ (sym (ap (breaking PriorityTooGreat)
          (no_resource c.entry-item.result w.in_default.not-Resource))) (collects_nothing _))
    ] in
    loop_goes_on _ _ _ _ _ _ _ _ _ c.loop-entry-test.true c.entry-item.is c.loop-entry.invariant one.adds one.covers

pub returns : goal.returns
returns c = loop_ends _ _ _ _ _ _ _ c.loop-entry-test.false c.loop-entry.invariant
