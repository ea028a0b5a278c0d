-- By the law of quick code next to instructions.
use Rattle.slot_trees.specs.LibraryViews.{slot_library_view}
use Rattle.slot_trees.specs.StatementViews.{slot_stmts_view}
use Rattle.config.proofs.QuickAnswers.{all_answer}
use Rattle.config.proofs.codes.quick_of.Goals as goal

pub returns : goal.returns
returns c =
    all_answer c.quick_code_answers_as_its_instructions.ensures (slot_library_view c.args.library.now) c.args.kinds.now
    (slot_stmts_view c.args.body.now) c.args.compiled.now.code.items c.args.compiled.now.memory c.requires.code
    c.requires.fits c.requires.room c.compile.result c.compile.ensures.stands c.compile.ensures.sound
    c.compile.ensures.window c.compile.ensures.room
