use Rattle.std.proofs.Common.{◌≡◌, ap, sym, subst, ◌∙◌, None, Some}
use Rattle.std.specs.Prelude.{option_map}
use Rattle.st_meaning.specs.StandardBlocks.{block_of}
use Rattle.symbols.specs.Found.{found}
use Rattle.symbols.specs.Standard.{block_view}
use Rattle.layout.specs.Compositions.{named_type}
use Rattle.st_link.specs.Shapes.{IsAggregate, standard_kept}
use Rattle.st_link.proofs.UndeclaredLemmas.{undeclared_nothing, undeclared_whole}
use Rattle.st_link.proofs.shape_tables.ShapeTables.kept.Goals as goal

pub returns-in-Some : goal.returns-in-Some
returns-in-Some c text at serves expanded =
    let x = c.args.name.now in
    let there : found c.args.self.now.wholes x ≡ Some c.in-Some.whole.now =
    sym c.get.ensures ∙ ap (option_map (λ v. v.now)) c.in-Some.is in
    serves.known x c.in-Some.whole.now there at expanded

pub returns-in-Some-standard_block : goal.returns-in-Some-standard_block
returns-in-Some-standard_block c text at serves expanded =
    let x = c.args.name.now in
    let b = c.in-Some-standard_block.block in
    let absent : found c.args.self.now.wholes x ≡ None =
    sym c.get.ensures ∙ ap (option_map (λ v. v.now)) c.in_default.is in
    let block : block_of x ≡ Some (block_view b) =
    sym c.standard_block.ensures ∙ ap (option_map block_view) c.in-Some-standard_block.is in
    subst (IsAggregate text (named_type x at)) (sym c.aggregate.ensures)
    (undeclared_whole text x at (block_view b) (standard_kept c.args.self.now.standards b) (serves.all x absent) block
    expanded (serves.standards b text))

pub returns-in-None : goal.returns-in-None
returns-in-None c text at serves expanded =
    let x = c.args.name.now in
    let absent : found c.args.self.now.wholes x ≡ None =
    sym c.get.ensures ∙ ap (option_map (λ v. v.now)) c.in_default.is in
    let block : block_of x ≡ None = sym c.standard_block.ensures ∙ ap (option_map block_view) c.in-None.is in
    undeclared_nothing text x at (serves.all x absent) block expanded
