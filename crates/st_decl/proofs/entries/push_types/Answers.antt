use Rattle.st_types.specs.DeclarationViews.{type_declaration_view}
use Rattle.st_decl.specs.Entries.{entries_of_type}
use Rattle.st_decl.proofs.PushLemmas.{pushed_turn, pushed_all}
use Rattle.st_decl.proofs.entries.push_types.Goals as goal

pub loop-declaration-preserved : goal.loop-declaration-preserved
loop-declaration-preserved c =
    pushed_turn entries_of_type type_declaration_view _ _ _ _ _ _ c.loop-declaration-test.true c.declaration-item.is
    c.loop-declaration.invariant c.in_ok-push_type.ensures

pub returns : goal.returns
returns c =
    pushed_all entries_of_type type_declaration_view _ _ _ _ c.loop-declaration-test.false c.loop-declaration.invariant
