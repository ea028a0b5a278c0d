use Rattle.std.proofs.Common.{◌≡◌, List, [], ◌∷◌, ◌∙◌, ap, subst, sym, rules, false}
use mir.Syntax.{w128}
use Rattle.std.specs.Int.RustNames.{FitsSigned}
use Rattle.std.proofs.lemmas.Int.{ints, to_z-of_z}
use Rattle.st_types.specs.declared.kind.Kind.TheVariants.{Time}
use Rattle.st_types.specs.Kinds.{holds}
use Rattle.st_types.specs.Values.{Datum, bool_datum}
use Rattle.st_meaning.specs.StandardBlocks.{time}
use Rattle.std_blocks.specs.Members.{all_stored, Leaves}
use Rattle.std_blocks.proofs.BlockLemmas.{unheld, same_six}
use Rattle.std_blocks.proofs.timers.put_timer.Goals as goal

pub returns-in-Err : goal.returns-in-Err
returns-in-Err c =
    let t = c.args.timer in
    let fits : FitsSigned w128 t.elapsed = search (rules, ints) in
    let none : holds Time t.elapsed ≡ false = ap (holds Time) (sym (to_z-of_z w128 t.elapsed fits))
    ∙ c.in-Err.ensures.none in (
      unheld c.args.slots.now c.args.at (c.args.input ∷ c.args.preset ∷ bool_datum t.q ∷ [])
          (bool_datum t.run ∷ time t.start ∷ []) (time t.elapsed) none,
      c.in-Err.ensures.fault,
    )

pub returns-in-Err-held_value : goal.returns-in-Err-held_value
returns-in-Err-held_value c =
    let t = c.args.timer in
    let fits : FitsSigned w128 t.start = search (rules, ints) in
    let none : holds Time t.start ≡ false = ap (holds Time) (sym (to_z-of_z w128 t.start fits))
    ∙ c.in-Err-held_value.ensures.none in (
      unheld c.args.slots.now c.args.at (c.args.input ∷ c.args.preset ∷ bool_datum t.q ∷ time t.elapsed
          ∷ bool_datum t.run ∷ []) [] (time t.start) none,
      c.in-Err-held_value.ensures.fault,
    )

pub returns : goal.returns
returns c =
    let t = c.args.timer in
    let P : List Datum → Type 0 = λ ys.
    Leaves c.put_all.result (all_stored c.args.slots.now c.args.at ys) c.put_all.new.slots in
    let f : FitsSigned w128 t.elapsed = search (rules, ints) in
    let g : FitsSigned w128 t.start = search (rules, ints) in
    subst P (same_six c.args.input c.args.preset _ _ _ _ _ _ _ _ c.from_bool.ensures
    (c.in-Ok.ensures.is ∙ ap time (to_z-of_z w128 t.elapsed f)) c.from_bool-2.ensures
    (c.in-Ok-held_value.ensures.is ∙ ap time (to_z-of_z w128 t.start g))) c.put_all.ensures
