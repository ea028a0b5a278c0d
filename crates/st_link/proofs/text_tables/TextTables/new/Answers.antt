use Rattle.st_types.specs.SourceViews.{source_view}
use Rattle.st_meaning.specs.NameTypes.{declared_in}
use Rattle.st_link.proofs.text_tables.TextTables.new.Goals as goal

pub returns-clause-serves : goal.returns-clause-serves
returns-clause-serves c whole room =
    let text = declared_in (source_view c.args.source.now) in
    record {
      names = c.in_ok-names.ensures.serves;
      types = c.in_ok-types.ensures;
      shapes = c.in_ok-shapes.ensures;
      functions = c.in_ok-functions.ensures.functions;
      blocks = c.in_ok-functions.ensures.blocks;
      globals = λ x. c.in_ok-symbols.ensures.symbols text x c.in_ok-shapes.ensures whole room;
    }
