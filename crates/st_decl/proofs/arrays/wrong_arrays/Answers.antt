use Rattle.std.proofs.Common.{refl, sym, ap, ◌∙◌, option_map}
use Rattle.st_rules.specs.Collecting.{Collects}
use Rattle.st_rules.specs.TypeRules.{wrong_bounds}
use Rattle.st_rules.proofs.CollectLemmas.{collects_is, collects_nothing, search_starts, loop_goes_on, loop_ends}
use Rattle.st_decl.specs.Entries.{of_each, entry_view, array_of}
use Rattle.st_decl.proofs.arrays.wrong_arrays.Goals as goal
use Rattle.st_decl.proofs.arrays.wrong_arrays.Goals.{in-Some, in_default}

pub loop-entry-init : goal.loop-entry-init
loop-entry-init c = search_starts _ _ _ refl

one : (c : goal.Joined-array) → Collects (of_each wrong_bounds (array_of (entry_view c.entry-item.result)))
    c.loop-entry.broken c.match-array.broken
one c = elim c.match-array.branch [
  | in-Some w ↦ rw w.broken-is (collects_is _ _ _ _
      (ap (of_each wrong_bounds) (sym (ap (option_map (λ a. a.now)) w.in-Some.is) ∙ c.array.ensures))
      w.wrong_array.ensures)
  | in_default w ↦ rw w.broken-is (collects_is _ _ _ _
      (ap (of_each wrong_bounds) (sym (ap (option_map (λ a. a.now)) w.in_default.is) ∙ c.array.ensures))
      (collects_nothing c.loop-entry.broken))
]

pub loop-entry-preserved : goal.loop-entry-preserved
loop-entry-preserved c =
    let here = one c in
    loop_goes_on _ _ _ _ _ _ _ _ _ c.loop-entry-test.true c.entry-item.is c.loop-entry.invariant here.adds here.covers

pub returns : goal.returns
returns c = loop_ends _ _ _ _ _ _ _ c.loop-entry-test.false c.loop-entry.invariant
