use Rattle.std.proofs.Common.{◌≡◌, ap, sym, ◌∙◌, subst, rules, Option, []}
use Rattle.std.specs.Prelude.{codes}
use Rattle.std.specs.Result.{result_ok}
use Rattle.st_types.specs.Values.{Datum}
use Rattle.st_print.specs.Spelling.{value_text}
use Rattle.trace.specs.Reads.{FieldSpells}
use Rattle.trace.proofs.ValueLemmas.{MayBe, truth_told}
use Rattle.trace.proofs.values.bool_value.Goals as goal

pub returns-then-eq : goal.returns-then-eq
returns-then-eq c =
    let is : c.args.field.now ≡ codes "TRUE" = search rules in
    subst (λ (o : Option Datum). FieldSpells (MayBe c.args.kind) (value_text []) c.args.field.now o)
    (sym (c.ok.ensures.value ∙ ap result_ok c.new.ensures)) (truth_told c.args.kind c.args.field.now c.requires is)
