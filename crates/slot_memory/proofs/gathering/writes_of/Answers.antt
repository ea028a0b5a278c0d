use Rattle.std.proofs.Common.{arith, rules, ◌+◌, ◌++◌, map, drop, ap, ◌∙◌, slice_get}
use Rattle.machine_code.specs.Tracking.{are_assigned}
use Rattle.slot_memory.specs.Cells.{cell_view, picked}
use Rattle.slot_memory.proofs.PickedLemmas.{gathered_more, gathered_same, gathered_all, value_at, cut_more, assigned_so}
use Rattle.slot_memory.proofs.gathering.writes_of.Goals.{then-is_assigned+in_ok-push, else-is_assigned}
use Rattle.slot_memory.proofs.gathering.writes_of.Goals as goal

pub loop-slot-preserved : goal.loop-slot-preserved
loop-slot-preserved c =
    let marks = c.args.marks.now in
    let vs = c.args.values.now in
    let k = c.loop-slot.slot in
    let cells = c.loop-slot.cells.items in
    let all = picked (are_assigned marks) 0 vs in
    let so_far = c.loop-slot.invariant in
    let so = assigned_so (slice_get marks k) in
    elim c.if-is_assigned.branch [
      | then-is_assigned+in_ok-push w ↦
          let v = w.index-values-slot.result in
          let more = cut_more cells w.push.new.self.items k v w.in_ok-push.ensures.ok in
          rw w.cells-is (ap (λ xs. xs ++ picked (are_assigned (drop (k + 1) marks)) (k + 1) (drop (k + 1) vs)) more
          ∙ gathered_more (λ x. x.is_assigned) marks vs k (map cell_view cells) all so_far v
          (so ∙ search rules) (value_at vs k v (omega arith) w.index-values-slot.is))
      | else-is_assigned w ↦ rw w.cells-is
          (gathered_same (λ x. x.is_assigned) marks vs k (map cell_view cells) all so_far
          (so ∙ search rules))
    ]

pub returns : goal.returns
returns c =
    gathered_all (λ x. x.is_assigned) c.args.marks.now c.args.values.now c.loop-slot.slot
    (map cell_view c.loop-slot.cells.items)
    (picked (are_assigned c.args.marks.now) 0 c.args.values.now) c.loop-slot.invariant (omega arith)
