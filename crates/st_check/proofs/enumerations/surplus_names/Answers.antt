use Rattle.std.proofs.Common.{refl, ◌∙◌, sym, ap, ◌||◌, false, None}
use Rattle.st_rules.proofs.CollectLemmas.{collects_nothing, search_starts, loop_ends}
use Rattle.st_check.proofs.SurplusLemmas.{count_goes_on, count_ends, none_seen}
use Rattle.st_check.proofs.enumerations.surplus_names.Goals as goal
use Rattle.st_check.proofs.enumerations.surplus_names.Goals.{in-Some+then-surplus_name, in-Some+else-surplus_name}
use Rattle.st_check.proofs.enumerations.surplus_names.Goals.{in_default}

pub loop-entry-init : goal.loop-entry-init
loop-entry-init c = record { faults = search_starts _ _ _ refl; counted = refl }

pub loop-entry-preserved : goal.loop-entry-preserved
loop-entry-preserved c =
    elim c.match-enumeration.branch [
      | in-Some+then-surplus_name w ↦
          count_goes_on c.args.entries.now c.loop-entry.entry-index c.entry-item.result _ _ _ _ _ _ _ _
          c.loop-entry-test.true c.entry-item.is w.in-Some.ensures w.surplus_name.ensures.found
          w.surplus_name.ensures.broken (w.found-is ∙ w.if-surplus_name.true ∙ sym
          (ap (λ b. b || c.loop-entry.found) w.if-surplus_name.true))
          w.broken-is c.loop-entry.invariant
      | in-Some+else-surplus_name w ↦
          count_goes_on c.args.entries.now c.loop-entry.entry-index c.entry-item.result _ _ _ _ _ _ _ _
          c.loop-entry-test.true c.entry-item.is w.in-Some.ensures w.surplus_name.ensures.found
          w.surplus_name.ensures.broken (w.found-is ∙ sym (ap (λ b. b || c.loop-entry.found) w.if-surplus_name.false))
          w.broken-is c.loop-entry.invariant
      | in_default w ↦
          count_goes_on c.args.entries.now c.loop-entry.entry-index c.entry-item.result None false _ _ _ _ _ _
          c.loop-entry-test.true c.entry-item.is (none_seen _ _ _ w.in_default.not-Some c.enumeration.ensures) refl
          (collects_nothing _) w.found-is w.broken-is c.loop-entry.invariant
    ]

pub returns-clause-broken : goal.returns-clause-broken
returns-clause-broken c = loop_ends _ _ _ _ _ _ _ c.loop-entry-test.false c.loop-entry.invariant.faults

pub returns-clause-found : goal.returns-clause-found
returns-clause-found c =
    count_ends c.args.entries.now c.loop-entry.entry-index _ _ _ c.loop-entry-test.false c.loop-entry.invariant
