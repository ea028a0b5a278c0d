use Rattle.std.proofs.Common.{◌≡◌, List, [], ◌∷◌, subst, rules}
use mir.Syntax.{w128}
use Rattle.std.specs.Prelude.{ℤ, pos, int_le}
use Rattle.std.specs.Int.RustNames.{FitsSigned}
use Rattle.std.proofs.lemmas.Int.{ints, to_z-of_z}
use Rattle.st_types.specs.Values.{Datum, bool_datum, is_true}
use Rattle.st_meaning.specs.StandardBlocks.{int, up_down_count, edge}
use Rattle.std_blocks.specs.Members.{all_stored, Leaves}
use Rattle.std_blocks.proofs.BlockLemmas.{up_down_steps}
use Rattle.std_blocks.proofs.counters.step_up_down.Goals as goal

pub returns : goal.returns
returns c now =
    let m = c.in_ok-up in
    let z = c.up_down_count-count.result in
    let P : List Datum → Type 0 = λ ys.
    Leaves c.put_up_down.result (all_stored c.args.slots.now c.args.at ys) c.put_up_down.new.slots in
    let f0 : FitsSigned w128 c.up_down_count-count.result = search (rules, ints) in
    let s0 = to_z-of_z w128 c.up_down_count-count.result f0 in
    let f1 : FitsSigned w128 c.number.result = search (rules, ints) in
    let s1 = to_z-of_z w128 c.number.result f1 in
    let f2 : FitsSigned w128 c.number-2.result = search (rules, ints) in
    let s2 = to_z-of_z w128 c.number-2.result f2 in
    let told : z ≡ up_down_count (is_true m.reset) (is_true m.load) m.preset.number (edge (is_true m.up) (is_true
    m.up_memory)) (edge (is_true m.down) (is_true m.down_memory)) m.count.number = cc in
    let Q : ℤ → Type 0 = λ y. P (m.up ∷ m.down ∷ m.reset ∷ m.load ∷ m.preset ∷ bool_datum (int_le m.preset.number y)
    ∷ bool_datum (int_le y (pos 0)) ∷ int y ∷ bool_datum (is_true m.up) ∷ bool_datum (is_true m.down)
    ∷ []) in
    up_down_steps now c.args.at c.args.slots.now c.put_up_down.new.slots m.up m.down m.reset m.load m.preset
    m.field-0-5 m.field-0-6 m.count m.up_memory m.down_memory c.put_up_down.result m.ensures.there z told
    (subst Q s0 c.put_up_down.ensures)
