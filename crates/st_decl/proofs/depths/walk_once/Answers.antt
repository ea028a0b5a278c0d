use Rattle.std.proofs.Common.{sym, ◌∙◌, map}
use Rattle.st_decl.proofs.WalkAll.{has_its_depth}
use Rattle.st_decl.proofs.depths.walk_once.Goals as goal

pub returns-else-is_unseen : goal.returns-else-is_unseen
returns-else-is_unseen c = has_its_depth (map (λ n. n.items) c.args.graph.now) c.args.marks.now c.args.start
    c.requires.walking c.requires.there (sym c.is_unseen.ensures ∙ c.if-is_unseen.false)
