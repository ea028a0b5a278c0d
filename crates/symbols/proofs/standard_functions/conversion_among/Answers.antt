use Rattle.std.proofs.Common.{rules, sym, ap, ◌∙◌, ◌+◌, drop}
use Rattle.std.specs.Prelude.{option_map}
use Rattle.std.specs.List.{flat_map}
use Rattle.st_types.specs.declared.kind.Kind.TheVariants.{Sint}
use Rattle.st_meaning.specs.StandardFunctions.{conversions_from, named}
use Rattle.symbols.specs.Found.{or_found}
use Rattle.symbols.specs.Standard.{standard_view}
use Rattle.symbols.proofs.ConversionLemmas.{from_more}
use Rattle.symbols.proofs.standard_functions.conversion_among.Goals as goal

pub returns-in-Some : goal.returns-in-Some
returns-in-Some c =
    let x = c.args.name.now in
    let ks = c.args.from.now in
    let to = c.args.to.now in
    let i = c.loop-kind.kind-index in
    let rest = named (flat_map (λ l. conversions_from l to) (drop (i + 1) ks)) x in
    ap (λ o. or_found (option_map standard_view o) rest) (sym c.in-Some.is)
    ∙ ap (λ o. or_found o rest) c.conversion_from.ensures ∙ sym (from_more ks to i Sint x (search rules))
    ∙ c.loop-kind.invariant

pub loop-kind-preserved : goal.loop-kind-preserved
loop-kind-preserved c =
    let x = c.args.name.now in
    let ks = c.args.from.now in
    let to = c.args.to.now in
    let i = c.loop-kind.kind-index in
    let rest = named (flat_map (λ l. conversions_from l to) (drop (i + 1) ks)) x in
    ap (λ o. or_found (option_map standard_view o) rest) (sym c.in_default.is)
    ∙ ap (λ o. or_found o rest) c.conversion_from.ensures ∙ sym (from_more ks to i Sint x (search rules))
    ∙ c.loop-kind.invariant
