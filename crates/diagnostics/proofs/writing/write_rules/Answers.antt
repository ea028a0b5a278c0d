use Rattle.std.proofs.Common.{refl, ◌++◌, []}
use Rattle.std.proofs.KnownBytes.{Appends-nil, Appends-trans}
use Rattle.diagnostics.proofs.ShownLemmas.{shown_both}
use Rattle.diagnostics.proofs.writing.write_rules.Goals as goal

pub loop-one-init : goal.loop-one-init
loop-one-init g c = ([], refl, Appends-nil _)

pub loop-one-preserved : goal.loop-one-preserved
loop-one-preserved g c =
    let (before, printable, wrote) = c.loop-one.invariant in
    let (more, too, written) = c.in_ok-write_rule.ensures in
    (before ++ more, shown_both before more printable too, Appends-trans _ _ _ before more wrote written)
