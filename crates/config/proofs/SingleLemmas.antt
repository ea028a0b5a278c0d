-- SINGLE of a known task is a BOOL of the layout.
use Rattle.std.proofs.Common.{◌≡◌, ◌+◌, ℕ, suc, refl, sym, ap, ◌∙◌, subst, arith, true}
use Rattle.std.proofs.Common.{List, [], map, slice_get, Option, Some, None}
use Rattle.std.specs.List.{list_any}
use Rattle.st_types.specs.declared.identifier.Identifier.{Identifier}
use Rattle.st_types.specs.declared.kind.Kind.{Kind}
use Rattle.st_types.specs.declared.kind.Kind.TheVariants.{Bool as Boolean}
use Rattle.st_types.proofs.KindLemmas.{same_kind_is}
use Rattle.st_types.specs.declared.data_type.VariableType.{VariableType}
use Rattle.st_types.specs.Configurations.{GlobalBlock, Configuration}
use Rattle.st_types.specs.Sources.{Source}
use Rattle.st_meaning.specs.NameTypes.{Declared, declared_in, definition_of, is_named, kind_among}
use Rattle.st_meaning.specs.Scopes.{Name, unowned}
use Rattle.st_meaning.specs.Slots.{Slot}
use Rattle.st_rules.specs.ConfigurationRules.{is_boolean_global, is_known_single, is_of_kind}
use Rattle.st_rules.specs.NameScopes.{listed_names}
use Rattle.st_rules.specs.Rules.{IsWellTyped}
use Rattle.st_link.proofs.WellTypedTexts.{parts_right}
use Rattle.layout.specs.LayoutVariables.{Owned, configurations_in, only_configuration, retention_of_globals}
use Rattle.layout.specs.LayoutVariables.{site_of_global, variables_of_configuration, variables_of_globals}
use Rattle.layout.specs.LayoutVariables.{variables_of_resources}
use Rattle.layout.specs.Names.{are_different, are_types_and_units_different, is_configuration_different}
use Rattle.layout.specs.Shapes.{plain, position_of}
use Rattle.layout.specs.VariableSlots.{are_declared_once, variable_at, slot, path_to}
use Rattle.layout.specs.TextLayouts.{further, slots_of, slots_of_text, variable_shape}
use Rattle.layout.specs.Types.{Site, composed_shape, defined_composition, of_kind, shape_within}
use Rattle.layout.proofs.ListLemmas.{same_name}
use Rattle.layout.proofs.NameLemmas.{configuration_once}
use Rattle.layout.proofs.ResolvedLemmas.{slots_taken}
use Rattle.layout.proofs.VariableLemmas.{variable_stands}
use Rattle.st_link.proofs.DifferentNames.{names_differ, scopes_differ}
use Rattle.st_link.proofs.GlobalVariables.{listed_variable, in_declarations, in_globals}
use Rattle.st_link.proofs.HomeLemmas.{among_left, found_at}
use Rattle.st_link.proofs.ListTests.{any_at}
use Rattle.std.proofs.lemmas.Bool.{and_parts}

-- a BOOL is one slot
plain_within : (text : Declared) (n : ℕ) (t : VariableType) (k : Kind) → kind_among text.types t ≡ Some k
    → shape_within (suc n) text t ≡ plain k
unfolding shape_within
plain_within text n t k e =
    ap (λ m. composed_shape (shape_within n text)
    (elim m [ Some l ↦ of_kind l | None ↦ defined_composition text t (definition_of text t) ])) e

of_one_kind : (k : Kind) (o : Option Kind) → is_of_kind k o ≡ true → o ≡ Some k
of_one_kind k None h = absurd (cc)
of_one_kind k (Some l) h = ap Some (sym (same_kind_is k l h))

-- a BOOL of the path of this global
pub record HasBoolean (ls : List Slot) (x : Name) : Type 0 where
  pub number : ℕ
  pub slot : Slot
  pub at : slice_get ls number ≡ Some slot
  pub path : slot.path ≡ unowned x
  pub kind : slot.kind ≡ Boolean

module _ (source : Source) (well : IsWellTyped source) (c : Configuration)
    (only : only_configuration (configurations_in source) ≡ Some c) where
  abbrev text : Declared
  text = declared_in source

  abbrev variables : List Owned
  variables = variables_of_configuration text (Some c)

  once : are_declared_once text variables ≡ true
  once =
      let twice = (parts_right source well).names.all in
      let units = and_parts (are_different (map (λ t. t.name.name) text.types)) (are_types_and_units_different text)
      (names_differ source twice) in
      configuration_once text units.1 (Some c)
      (subst (λ o. is_configuration_different o ≡ true) only (scopes_differ source twice))

  layout_is : slots_of_text source ≡ slots_of text variables
  layout_is = slots_taken source ∙ ap (λ o. slots_of text (variables_of_configuration text o)) only

  pub boolean_global : (x : Identifier) → is_known_single text c.globals (Some x) ≡ true
      → HasBoolean (slots_of_text source) x.name
  boolean_global x known =
      let block = any_at (λ (b : GlobalBlock). list_any (is_boolean_global text x.name) b.declarations) c.globals known in
      let global = any_at (is_boolean_global text x.name) block.one.declarations block.passes in
      let g = global.one in
      let facts = and_parts (list_any (is_named x.name) (listed_names g.names))
      (is_of_kind Boolean (kind_among text.types g.declared)) global.passes in
      let z = any_at (is_named x.name) (listed_names g.names) facts.0 in
      let keep = retention_of_globals block.one.qualifier in
      let v = listed_variable (site_of_global keep g) g.names z.one z.among in
      let among = among_left (variables_of_globals c.globals) (variables_of_resources text c.resources)
      (in_globals c.globals block.among (in_declarations keep block.one.declarations global.among v.among)) in
      let found = found_at text variables once v.variable among in
      let named : v.variable.name ≡ x.name = v.named ∙ sym (same_name x.name z.one.name z.passes) in
      let there : variable_at text variables None x.name ≡ Some (found.first, v.variable) =
      ap (λ (y : Name). variable_at text variables None y) (sym named)
      ∙ ap (λ o. variable_at text variables o v.variable.name) (sym v.nobody) ∙ found.there in
      let declared : v.variable.site.declared ≡ g.declared = ap (λ (s : Site). s.declared) v.site in
      let kind : kind_among text.types v.variable.site.declared ≡ Some Boolean =
      ap (kind_among text.types) declared ∙ of_one_kind Boolean (kind_among text.types g.declared) facts.1 in
      let shape : variable_shape text v.variable ≡ plain Boolean =
      plain_within text 63 v.variable.site.declared Boolean kind in
      let stands = variable_stands text variables once None x.name found.first v.variable there in
      let place = slot (further (path_to None x.name) []) Boolean v.variable.is_input in
      let position = stands.at [] (record { number = 0; kind = Boolean })
      (ap (λ sh. position_of sh []) shape) in
      let n : found.first + 0 ≡ found.first = omega arith in
      record {
        number = found.first;
        slot = place;
        at = ap (λ (ls : List Slot). slice_get ls found.first) layout_is
            ∙ sym (ap (slice_get (slots_of text variables)) n) ∙ position;
        path = refl;
        kind = refl;
      }
