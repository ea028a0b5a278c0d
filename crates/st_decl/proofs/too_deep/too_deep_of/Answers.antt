use Rattle.std.proofs.Common.{refl, sym, subst, ◌∙◌, map}
use Rattle.st_types.specs.SourceViews.{source_view}
use Rattle.st_meaning.specs.NameTypes.{declared_in}
use Rattle.st_rules.specs.Collecting.{Collects}
use Rattle.st_rules.specs.Containment.{too_deep}
use Rattle.symbols.specs.Found.{found}
use Rattle.st_decl.specs.Numbered.{IsGraphOf, AreJudged}
use Rattle.st_decl.specs.Parts.{link_of, node_parts}
use Rattle.st_decl.specs.Walks.{AreDepths}
use Rattle.st_decl.proofs.JudgeLemmas.{judged, cycle_collected, cycle_has_one, deep_collected}
use Rattle.st_decl.proofs.too_deep.too_deep_of.Goals as goal
use Rattle.st_decl.proofs.too_deep.too_deep_of.Goals.{in-Cycle+in_ok-place-in-Cycle+in-Some, in-Known}
use Rattle.st_decl.proofs.too_deep.too_deep_of.Goals.{in-Cycle+in_ok-place-in-Cycle+in_default}

all_found : (c : goal.After-drop-numbers-2)
    → Collects (too_deep (source_view c.args.source.now)) c.args.broken.now c.match-branch-3.broken
all_found c =
    let source = source_view c.args.source.now in
    let text = declared_in source in
    let numbers = found c.in_ok-numbers.numbers in
    let graph = map (map (link_of numbers)) (node_parts text) in
    let g : IsGraphOf text numbers graph = record {
      numbered = c.in_ok-numbers.ensures text c.requires.types c.requires.units;
      links = refl;
    } in
    elim c.match-branch-3.branch [
      | in-Cycle+in_ok-place-in-Cycle+in-Some w ↦
          let cycle = subst (AreDepths graph) w.in-Cycle.is c.in_ok-node.ensures in
          let is = w.in_ok-place-in-Cycle.ensures text c.requires.types c.requires.units in
          rw w.broken-is (cycle_collected source numbers graph w.in-Cycle.node w.in-Some.place _ _ g cycle
          (sym w.in-Some.is ∙ is) w.add.ensures)
      | in-Cycle+in_ok-place-in-Cycle+in_default w ↦
          let cycle = subst (AreDepths graph) w.in-Cycle.is c.in_ok-node.ensures in
          let is = w.in_ok-place-in-Cycle.ensures text c.requires.types c.requires.units in
          absurd (cycle_has_one source numbers graph w.in-Cycle.node g cycle (sym w.in_default.is ∙ is))
      | in-Known w ↦
          let told = subst (AreDepths graph) w.in-Known.is c.in_ok-node.ensures in
          let marks = judged text numbers graph w.in-Known.marks.items g told in
          rw w.broken-is (deep_collected source text _ _ _ _ refl
          (rw c.requires.types at w.deep_types.ensures text
          (subst (AreJudged text numbers) (sym w.deref.ensures.value) marks))
          (rw c.requires.units at w.deep_units.ensures text
          (subst (AreJudged text numbers) (sym w.deref-in-Known.ensures.value) marks))
          (rw c.requires.arrays at w.deep_arrays.ensures text
          (subst (AreJudged text numbers) (sym w.deref-in-Known-2.ensures.value) marks)))
    ]

pub returns-clause-adds : goal.returns-clause-adds
returns-clause-adds c = let all = all_found c in all.adds

pub returns-clause-covers : goal.returns-clause-covers
returns-clause-covers c = let all = all_found c in all.covers
