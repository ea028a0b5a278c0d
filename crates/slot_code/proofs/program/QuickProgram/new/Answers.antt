use Rattle.std.proofs.Common.{◌≡◌, subst, sym}
use Rattle.slot_code.specs.Quick.{IsAnswering}
use Rattle.slot_code.proofs.Fusing.{answers_too, with_code}
use Rattle.slot_code.proofs.program.QuickProgram.new.Goals as goal

pub invariant_of-result : goal.invariant_of-result
invariant_of-result c =
    let parts = c.into_both-parts.result.0 in
    let window = c.into_both-parts.result.1 in
    let instrs = c.args.instrs.value.items in
    let kinds = c.args.kinds.value.items in
    let given : IsAnswering instrs kinds c.args.extra parts window.items =
    subst (λ p. IsAnswering instrs kinds c.args.extra p window.items) (sym c.into_both-parts.ensures.parts)
    (subst (λ w. IsAnswering instrs kinds c.args.extra c.args.placed.parts w.items)
    (sym c.into_both-parts.ensures.window) c.requires) in
    subst (λ p. IsAnswering instrs kinds c.args.extra p window.items) (sym c.in_ok-new.ensures.ok)
    (answers_too instrs kinds c.args.extra parts window.items c.fuse.new.code c.fuse.ensures.sound c.fuse.ensures.same
    given)
