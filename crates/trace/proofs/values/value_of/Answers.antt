use Rattle.std.proofs.Common.{◌∙◌, map, sym, subst, Option}
use Rattle.std.specs.Vec.{vec_items}
use Rattle.st_types.specs.Values.{Datum}
use Rattle.st_print.specs.Spelling.{value_text}
use Rattle.trace.specs.Reads.{FieldSpells}
use Rattle.trace.proofs.ValueLemmas.{MayBe}
use Rattle.trace.proofs.NameLemmas.{named_spells, plain_spells}
use Rattle.trace.proofs.values.value_of.Goals as goal

pub returns-then-is_place : goal.returns-then-is_place
returns-then-is_place c =
    let types = map vec_items c.args.types.now in
    subst (λ (o : Option Datum). FieldSpells (MayBe c.args.kind) (value_text types) c.args.field.now o)
    (sym c.by_name.ensures)
    (named_spells types c.args.kind c.args.field.now (sym c.is_place.ensures ∙ c.if-is_place.true) c.requires.spelled
    c.requires.apart)

pub returns-else-is_place : goal.returns-else-is_place
returns-else-is_place c =
    plain_spells (map vec_items c.args.types.now) c.args.kind c.args.field.now c.by_number.result
    (sym c.is_place.ensures ∙ c.if-is_place.false) c.by_number.ensures
