use Rattle.std.proofs.Common.{◌≡◌, List, [], ◌∷◌, subst, not}
use Rattle.st_types.specs.Values.{Datum, bool_datum, is_true}
use Rattle.st_meaning.specs.StandardBlocks.{edge}
use Rattle.std_blocks.specs.Members.{all_stored, Leaves}
use Rattle.std_blocks.proofs.BlockLemmas.{falling_steps}
use Rattle.std_blocks.proofs.edge_blocks.step_falling.Goals as goal

pub returns : goal.returns
returns c now =
    let clock = c.in_ok-clock.clock in
    let P : List Datum → Type 0 = λ ys.
    Leaves c.put_all.result (all_stored c.args.slots.now c.args.at ys) c.put_all.new.slots in
    let e : clock ∷ c.from_bool-q.result ∷ c.from_bool.result ∷ [] ≡ clock
    ∷ bool_datum (edge (not (is_true c.in_ok-clock.clock)) (is_true c.in_ok-clock.memory))
    ∷ bool_datum (not (is_true c.in_ok-clock.clock)) ∷ [] = cc in
    falling_steps now c.args.at c.args.slots.now c.put_all.new.slots clock c.in_ok-clock.field-0-1 c.in_ok-clock.memory
    c.put_all.result c.in_ok-clock.ensures.there (subst P e c.put_all.ensures)
