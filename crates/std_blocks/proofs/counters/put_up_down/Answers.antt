use Rattle.std.proofs.Common.{◌≡◌, List, ◌∙◌, ap, subst, sym, rules, false}
use mir.Syntax.{w128}
use mir.Val.{to_z, of_z}
use Rattle.std.specs.Int.RustNames.{FitsSigned}
use Rattle.std.specs.Prelude.{pos, int_le}
use Rattle.std.proofs.lemmas.Int.{ints, to_z-of_z}
use Rattle.st_types.specs.declared.kind.Kind.TheVariants.{Int}
use Rattle.st_types.specs.Kinds.{holds}
use Rattle.st_types.specs.Values.{Datum, bool_datum}
use Rattle.st_meaning.specs.StandardBlocks.{int}
use Rattle.std_blocks.specs.Members.{all_stored, Leaves}
use Rattle.std_blocks.proofs.BlockLemmas.{unheld_up_down, same_ten}
use Rattle.std_blocks.proofs.counters.put_up_down.Goals as goal

pub returns-in-Err : goal.returns-in-Err
returns-in-Err c =
    let same = to_z-of_z w128 c.args.count c.ranges.count in
    let none : holds Int c.args.count ≡ false = ap (holds Int) (sym same) ∙ c.in-Err.ensures.none in
    let i = c.args.inputs in (
      unheld_up_down c.args.slots.now c.args.at i.up i.down i.reset i.load i.preset _ _ _ _ c.args.count none,
      c.in-Err.ensures.fault,
    )

pub returns : goal.returns
returns c =
    let same = to_z-of_z w128 c.args.count c.ranges.count in
    let i = c.args.inputs in
    let P : List Datum → Type 0 = λ ys.
    Leaves c.put_all.result (all_stored c.args.slots.now c.args.at ys) c.put_all.new.slots in
    let fits : FitsSigned w128 c.number.result = search (rules, ints) in
    let preset = to_z-of_z w128 c.number.result fits ∙ c.number.ensures.number in
    let e = same_ten i.up i.down i.reset i.load i.preset _ _ _ _ _ _ _ _ _ _
    (c.from_bool-up_q.ensures ∙ ap (λ x. bool_datum (int_le x (to_z w128 (of_z w128 c.args.count)))) preset
    ∙ ap (λ x. bool_datum (int_le i.preset.number x)) same)
    (c.from_bool-down_q.ensures ∙ ap (λ x. bool_datum (int_le x (pos 0))) same)
    (c.in-Ok.ensures.is ∙ ap int same)
    (c.from_bool.ensures ∙ ap bool_datum c.is_true.ensures)
    (c.from_bool-2.ensures ∙ ap bool_datum c.is_true-2.ensures) in
    subst P e c.put_all.ensures
