use Rattle.std.proofs.Common.{sym, subst, None}
use Rattle.symbols.specs.Agreeing.{Agree}
use Rattle.layout.specs.Types.{shape_of_type}
use Rattle.layout.specs.Compositions.{named_type}
use Rattle.st_link.specs.Shapes.{IsMemberPlace, member_of}
use Rattle.st_link.proofs.shape_tables.ShapeTables.member_named.Goals as goal

pub returns-in-Some : goal.returns-in-Some
returns-in-Some c text at serves expanded =
    subst (λ o. Agree (IsMemberPlace text 0) o
    (member_of (shape_of_type text (named_type c.args.whole.now at)) c.args.name.now))
    (sym c.find.ensures) ((c.in-Some.ensures text at serves expanded).members c.args.name.now)

pub returns-in-None : goal.returns-in-None
returns-in-None c text at serves expanded =
    subst (λ sh. Agree (IsMemberPlace text 0) None (member_of sh c.args.name.now))
    (sym (c.in-None.ensures text at serves expanded)) tt
