use Rattle.std.proofs.Common.{◌≡◌, List, [], ◌∷◌, subst, rules}
use mir.Syntax.{w128}
use mir.Val.{to_z, of_z}
use Rattle.std.specs.Prelude.{pos, int_le}
use Rattle.std.specs.Int.RustNames.{FitsSigned}
use Rattle.std.proofs.lemmas.Int.{ints, to_z-of_z}
use Rattle.st_types.specs.Values.{Datum, bool_datum, is_true}
use Rattle.st_meaning.specs.StandardBlocks.{int, down_count, edge}
use Rattle.std_blocks.specs.Members.{all_stored, Leaves}
use Rattle.std_blocks.proofs.BlockLemmas.{down_steps}
use Rattle.std_blocks.proofs.counters.step_down.Goals as goal

pub returns : goal.returns
returns c now =
    let m = c.in_ok-down in
    let z = c.down_count-count.result in
    let P : List Datum → Type 0 = λ ys.
    Leaves c.put_counter.result (all_stored c.args.slots.now c.args.at ys) c.put_counter.new.slots in
    let f0 : FitsSigned w128 c.down_count-count.result = search (rules, ints) in
    let s0 = to_z-of_z w128 c.down_count-count.result f0 in
    let f1 : FitsSigned w128 c.number.result = search (rules, ints) in
    let s1 = to_z-of_z w128 c.number.result f1 in
    let f2 : FitsSigned w128 c.number-2.result = search (rules, ints) in
    let s2 = to_z-of_z w128 c.number-2.result f2 in
    let told : z ≡ down_count (is_true m.load) m.preset.number (edge (is_true m.down) (is_true m.memory))
    m.count.number = cc in
    let same : m.down ∷ m.load ∷ m.preset ∷ bool_datum (int_le (to_z w128 (of_z w128 z)) (pos 0))
    ∷ int (to_z w128 (of_z w128 z)) ∷ bool_datum c.is_true-4.result ∷ []
    ≡ m.down ∷ m.load ∷ m.preset ∷ bool_datum (int_le z (pos 0)) ∷ int z ∷ bool_datum (is_true m.down)
    ∷ [] = cc in
    down_steps now c.args.at c.args.slots.now c.put_counter.new.slots m.down m.load m.preset m.field-0-3 m.count
    m.memory c.put_counter.result m.ensures.there z told
    (subst P same c.put_counter.ensures)
