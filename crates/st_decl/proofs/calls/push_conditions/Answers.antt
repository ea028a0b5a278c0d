use Rattle.std.proofs.Common.{refl}
use Rattle.st_types.specs.Statements.{arms_of}
use Rattle.st_rules.specs.Containment.{calls_in, calls_in_conditions}
use Rattle.st_decl.proofs.PushLemmas.{tree_turn, tree_all}
use Rattle.st_decl.proofs.calls.push_conditions.Goals as goal

pub loop-arm-preserved : goal.loop-arm-preserved
loop-arm-preserved c =
    tree_turn calls_in_conditions arms_of (λ a. calls_in a.0) _ (λ a arms. refl) _ _ _ _ _ _ c.loop-arm-test.true
    c.arm-item.is c.loop-arm.invariant c.in_ok-push_expr.ensures

pub returns : goal.returns
returns c = tree_all calls_in_conditions arms_of _ _ _ _ _ refl c.loop-arm-test.false c.loop-arm.invariant
