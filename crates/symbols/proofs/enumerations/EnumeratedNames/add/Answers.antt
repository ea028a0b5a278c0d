use Rattle.std.proofs.Common.{◌≡◌, sym, ap, subst, Some}
use Rattle.st_types.specs.DeclarationViews.{type_declaration_view, type_definition_view}
use Rattle.st_meaning.specs.Enumerations.{enumerated_names, enumerations_of}
use Rattle.symbols.specs.Enumerated.{HasEnumerations}
use Rattle.std.proofs.lemmas.Result.{on_ok_weaker}
use Rattle.symbols.proofs.EnumerationLemmas.{not_enumerated, enumerated}
use Rattle.symbols.proofs.enumerations.EnumeratedNames.add.Goals as goal

pub returns-in-Array : goal.returns-in-Array
returns-in-Array c ts has =
    let t = type_declaration_view c.args.declared.now in
    subst (HasEnumerations c.args.self.now)
    (sym (not_enumerated ts t (ap (λ d. enumerated_names (type_definition_view d)) c.in-Array.is))) has

pub returns-in-Structure : goal.returns-in-Structure
returns-in-Structure c ts has =
    let t = type_declaration_view c.args.declared.now in
    subst (HasEnumerations c.args.self.now)
    (sym (not_enumerated ts t (ap (λ d. enumerated_names (type_definition_view d)) c.in-Structure.is))) has

pub returns-in-Enumeration : goal.returns-in-Enumeration
returns-in-Enumeration c =
    let t = type_declaration_view c.args.declared.now in
    let names = c.in-Enumeration.names.items in
    let kind : enumerated_names t.definition ≡ Some names =
    ap (λ d. enumerated_names (type_definition_view d)) c.in-Enumeration.is in
    on_ok_weaker c.add_enumeration.result
    (λ added ts has. subst (HasEnumerations c.add_enumeration.new.self) (sym (enumerated ts t names kind))
    (rw c.deref.ensures.value at (added (enumerations_of ts) has)))
    c.add_enumeration.ensures
