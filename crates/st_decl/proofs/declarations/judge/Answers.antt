use Rattle.std.proofs.Common.{ap, ◌∙◌, map}
use Rattle.st_decl.specs.Entries.{entry_view}
use Rattle.st_decl.proofs.declarations.judge.Goals as goal

pub wrong_declarations-requires : goal.wrong_declarations-requires
wrong_declarations-requires c = ap (map entry_view) c.deref.ensures.value ∙ c.in_ok-entries.ensures
