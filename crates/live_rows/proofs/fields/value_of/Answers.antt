use Rattle.std.proofs.Common.{◌≡◌, get_or, arith, rules}
use Rattle.st_types.specs.declared.kind.Kind.TheVariants.{Bool as Boolean}
use Rattle.live_rows.proofs.ValueLemmas.{only_byte, spells_false, spells_true}
use Rattle.live_rows.proofs.fields.value_of.Goals as goal
use Rattle.live_rows.proofs.fields.value_of.Goals.{in-Bool, in_default}

pub returns-in-48-clause-spelled : goal.returns-in-48-clause-spelled
returns-in-48-clause-spelled c =
    let field = c.args.field.now in
    let first : get_or field 0 0 ≡ 48 = search rules in
    let kind : c.args.kind ≡ Boolean =
    elim c.match-matches.branch [ in-Bool w ↦ w.in-Bool.is | in_default w ↦ absurd (cc) ] in
    spells_false c.args.kind field c.from_bool.result kind c.from_bool.ensures
    (only_byte field 48 (omega arith) (omega arith) first)

pub returns-in-49-clause-spelled : goal.returns-in-49-clause-spelled
returns-in-49-clause-spelled c =
    let field = c.args.field.now in
    let first : get_or field 0 0 ≡ 49 = search rules in
    let kind : c.args.kind ≡ Boolean =
    elim c.match-matches.branch [ in-Bool w ↦ w.in-Bool.is | in_default w ↦ absurd (cc) ] in
    spells_true c.args.kind field c.from_bool-in-49.result kind c.from_bool-in-49.ensures
    (only_byte field 49 (omega arith) (omega arith) first)
