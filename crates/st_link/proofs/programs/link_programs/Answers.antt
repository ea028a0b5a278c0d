use Rattle.std.proofs.Common.{rules, ◌≡◌, ◌+◌, ap, sym, subst, ◌∙◌, arith, [], ◌∷◌, ◌++◌, map, take, drop}
use Rattle.std.proofs.lemmas.List.{map-append}
use Rattle.layout.specs.Instances.{OwnedProgram, instance_view}
use Rattle.slot_trees.specs.SlotTrees.{SlotStmts}
use Rattle.slot_trees.specs.StatementViews.{slot_stmts_view}
use Rattle.st_link.proofs.ErrorLemmas.{none_then}
use Rattle.st_link.specs.FirstSlots.{slots_taken}
use Rattle.st_link.specs.Linked.{programs_of, slots_of_instances}
use Rattle.st_link.specs.LinkVariables.{of_owned}
use Rattle.st_link.proofs.GatheredLemmas.{GatheredSoFar, gathered_all, gathered_first, gathered_more, gathered_none}
use Rattle.st_link.proofs.ProgramPlaces.{at_hand, first_is, globals_stand, layout_taken, next_first, split_at}
use Rattle.st_link.proofs.SymbolLemmas.{more_taken}
use Rattle.st_link.proofs.programs.link_programs.Goals as goal

pub loop-instance-init : goal.loop-instance-init
loop-instance-init c = record {
  small = omega (arith, c.sum-first.ensures);
  first = λ text globals layout serves slots whole l.
      first_is c.sum-first.result c.args.tables.now.global_slots (slots_taken text (map of_owned globals))
      (slots_of_instances text (map instance_view c.args.instances.now)) c.sum-first.ensures slots
      (layout_taken text globals layout (map instance_view c.args.instances.now) l);
  linked = λ text globals layout serves slots whole l.
      let ps = map instance_view c.args.instances.now in
      subst (λ bs. GatheredSoFar OwnedProgram SlotStmts (programs_of text layout) ps
      (map (λ b. slot_stmts_view b.items) bs) ps) (sym c.new-programs.ensures.items)
      (gathered_first (programs_of text layout) ps);
}

pub loop-instance-preserved : goal.loop-instance-preserved
loop-instance-preserved c =
    let xs = c.args.instances.now in
    let i = c.loop-instance.instance-index in
    let x = c.instance-item.result in
    let below = c.loop-instance-test.true in
    let before = map instance_view (take i xs) in
    let after = map instance_view (drop (i + 1) xs) in
    let p = instance_view x in
    let split = split_at xs i x below c.instance-item.is in
    let more : map instance_view (take (i + 1) xs) ≡ before ++ p ∷ [] =
    ap (map instance_view) (more_taken xs i x below c.instance-item.is)
    ∙ map-append instance_view (take i xs) (x ∷ []) in
    record {
      small = c.in_ok-first.ensures.small;
      first = λ text globals layout serves slots whole l.
          let f = c.loop-instance.invariant.first text globals layout serves slots whole l in
          let h = at_hand text globals layout (map instance_view xs) before p after c.loop-instance.first split l f in
          next_first text globals before (map instance_view (take (i + 1) xs)) p c.loop-instance.first
          c.in_ok-first.first more f h.room
          (c.in_ok-first.ensures.next text (map of_owned globals) serves whole);
      linked = λ text globals layout serves slots whole l.
          let f = c.loop-instance.invariant.first text globals layout serves slots whole l in
          let h = at_hand text globals layout (map instance_view xs) before p after c.loop-instance.first split l f in
          gathered_more instance_view (programs_of text layout) xs i x
          (map (λ b. slot_stmts_view b.items) c.loop-instance.programs.items)
          (map (λ b. slot_stmts_view b.items) c.push_program.new.programs.items) below c.instance-item.is
          (c.in_ok-first.ensures.linked text (map of_owned globals) layout serves
          (globals_stand text globals layout (map instance_view xs) l) whole h.room h.begin)
          (c.loop-instance.invariant.linked text globals layout serves slots whole l);
    }

pub returns-in_err-first-clause-none : goal.returns-in_err-first-clause-none
returns-in_err-first-clause-none c =
    let xs = c.args.instances.now in
    let i = c.loop-instance.instance-index in
    let x = c.instance-item.result in
    let below = c.loop-instance-test.true in
    let split = split_at xs i x below c.instance-item.is in
    none_then _ c.in_err-first.field-0.0 _ _ c.in_err-first.ensures.none
    (λ k text globals layout serves slots whole l.
    let f = c.loop-instance.invariant.first text globals layout serves slots whole l in
    let h = at_hand text globals layout (map instance_view xs) (map instance_view (take i xs)) (instance_view x)
    (map instance_view (drop (i + 1) xs)) c.loop-instance.first split l f in
    gathered_none instance_view (programs_of text layout) xs i x
    (map (λ b. slot_stmts_view b.items) c.loop-instance.programs.items) below c.instance-item.is
    (k text (map of_owned globals) layout serves (globals_stand text globals layout (map instance_view xs) l) whole
    h.room h.begin)
    (c.loop-instance.invariant.linked text globals layout serves slots whole l)) (search rules)

pub returns-clause-linked : goal.returns-clause-linked
returns-clause-linked c text globals layout serves slots whole l =
    gathered_all instance_view (programs_of text layout) c.args.instances.now c.loop-instance.instance-index
    (map (λ b. slot_stmts_view b.items) c.loop-instance.programs.items) c.loop-instance-test.false
    (c.loop-instance.invariant.linked text globals layout serves slots whole l)
