use Rattle.std.proofs.Common.{◌++◌, Some, true}
use Rattle.std.specs.Prelude.{codes}
use Rattle.st_meaning.specs.Layouts.{path_text}
use Rattle.trace.proofs.PutLemmas.{put_vec, puts_both}
use Rattle.trace.proofs.keeping.words_of.Goals as goal

pub returns-then-put : goal.returns-then-put
returns-then-put c =
    put_vec c.put.new.out.items ((codes "keep " ++ path_text c.args.path.now) ++ codes " ") c.new-words.result.items
    c.put.result c.new-words.ensures.items c.if-put.true
    (puts_both (Some c.new-words.result.items) (Some c.put_path-works.new.out.items) (Some c.put.new.out.items) true
    c.put_path-works.result c.put.result (codes "keep " ++ path_text c.args.path.now) (codes " ")
    c.put_path-works.ensures c.put.ensures)
