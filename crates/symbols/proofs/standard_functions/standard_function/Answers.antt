use Rattle.std.proofs.Common.{sym, ap, ◌∙◌}
use Rattle.std.specs.Prelude.{option_map}
use Rattle.std.specs.List.{flat_map}
use Rattle.st_meaning.specs.StandardFunctions.{convertible, conversions_from, named}
use Rattle.symbols.specs.Standard.{standard_view}
use Rattle.symbols.proofs.ConversionLemmas.{simple_found, simple_missed}
use Rattle.symbols.proofs.standard_functions.standard_function.Goals as goal

pub returns-in-Some : goal.returns-in-Some
returns-in-Some c =
    simple_found c.args.name.now (standard_view c.in-Some.found)
    (sym c.selection_or_shift.ensures ∙ ap (option_map standard_view) c.in-Some.is)

pub returns-in-None : goal.returns-in-None
returns-in-None c =
    c.conversion_among.ensures
    ∙ ap (λ ks. named (flat_map (λ k. conversions_from k ks) c.convertible.result) c.args.name.now) c.convertible-in-None.ensures
    ∙ ap (λ ks. named (flat_map (λ k. conversions_from k convertible) ks) c.args.name.now) c.convertible.ensures
    ∙ simple_missed c.args.name.now (sym c.selection_or_shift.ensures ∙ ap (option_map standard_view) c.in-None.is)
