use Rattle.std.proofs.Common.{◌≡◌, List, map, Some, sym, ap, ◌∙◌, subst}
use Rattle.st_types.specs.Values.{Datum}
use Rattle.st_types.specs.Units.{OrganisationUnit}
use Rattle.st_types.specs.Sources.{Source}
use Rattle.st_meaning.specs.NameTypes.{Declared, declared_in}
use Rattle.st_meaning.specs.Scopes.{Scope}
use Rattle.st_meaning.specs.Slots.{Slot, variables_with, inputs_in}
use Rattle.st_link.specs.Soundness.{Agrees}
use Rattle.layout.specs.LayoutVariables.{variables_of_configuration}
use Rattle.layout.specs.Names.{are_different, are_types_and_units_different}
use Rattle.layout.specs.TextLayouts.{slots_of, slots_of_text}
use Rattle.layout.proofs.NameLemmas.{configuration_once}
use Rattle.layout.proofs.ResolvedLemmas.{slots_taken}
use Rattle.st_link.specs.Homes.{AreValuesOf, IsProgramRun}
use Rattle.st_link.proofs.AgreementLemmas.{slots_agree}
use Rattle.st_link.proofs.HomeLemmas.{program_homes}
use Rattle.st_link.proofs.homes.programs_agree_with_their_layout.Goals as goal
use Rattle.std.proofs.lemmas.Bool.{and_parts}
use Rattle.st_rules.specs.Rules.{environment}

module _ (source : Source) (u : OrganisationUnit) (w : Scope) (vs : List Datum) (r : IsProgramRun source u w) where
  abbrev text : Declared
  text = declared_in source

  abbrev layout : List Slot
  layout = slots_of text (variables_of_configuration text (Some r.configuration))

  layout_is : slots_of_text source ≡ layout
  layout_is = slots_taken source ∙ ap (λ c. slots_of text (variables_of_configuration text c)) r.only

  over_its_slots : AreValuesOf layout vs → w.image ≡ inputs_in layout vs
      → Agrees (environment text u) w (variables_with layout vs)
  over_its_slots values image =
      let b = and_parts (are_different (map (λ t. t.name.name) text.types)) (are_types_and_units_different text) r.names in
      let once = configuration_once text b.1 (Some r.configuration) r.scopes in
      slots_agree (environment text u) (variables_of_configuration text (Some r.configuration)) w vs r.names once
      values
      image (program_homes text r.configuration r.owner u r.instance once r.grounded w r.runs)

  over_the_text : AreValuesOf (slots_of_text source) vs → w.image ≡ inputs_in (slots_of_text source) vs
      → Agrees (environment text u) w (variables_with (slots_of_text source) vs)
  over_the_text values image =
      subst (λ ls. Agrees (environment text u) w (variables_with ls vs)) (sym layout_is)
      (over_its_slots (subst (λ ls. AreValuesOf ls vs) layout_is values)
      (image ∙ ap (λ ls. inputs_in ls vs) layout_is))

pub returns : goal.returns
returns c = over_the_text
