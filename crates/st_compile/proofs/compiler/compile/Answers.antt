use Rattle.std.proofs.Common.{◌≡◌, ◌≤◌, arith}
use Rattle.slot_trees.specs.StatementViews.{slot_stmts_view}
use Rattle.st_compile.proofs.Resets.{least_memory}
use Rattle.st_compile.proofs.compiler.compile.Goals as goal

pub returns-then-memory-roomy-clause-least : goal.returns-then-memory-roomy-clause-least
returns-then-memory-roomy-clause-least c = λ whole m is fits.
    least_memory m whole c.args.base c.args.size (slot_stmts_view c.args.body.now) _ _ _ _ fits
    (c.in_ok-roomy.ensures.code whole is) c.deref.ensures.value c.needed-memory.ensures.memory (omega arith)

pub returns-in-Ok-clause-least : goal.returns-in-Ok-clause-least
returns-in-Ok-clause-least c = λ whole m is fits.
    least_memory m whole c.args.base c.args.size (slot_stmts_view c.args.body.now) _ _ _ _ fits
    (c.in_ok-roomy.ensures.code whole is) c.deref.ensures.value c.needed-memory.ensures.memory
    (omega (arith, c.in-Ok.ensures.memory))
