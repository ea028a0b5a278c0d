-- An external that is known stands for a global of its type.
use Rattle.std.proofs.Common.{◌≡◌, Bool, true, false, not, ◌&&◌, if◌then◌else◌, List, []}
use Rattle.std.proofs.Common.{Some, None, refl, sym, ap, ◌∙◌, subst}
use Rattle.std.specs.List.{list_any}
use Rattle.st_types.specs.declared.identifier.Identifier.{Identifier}
use Rattle.st_types.specs.declared.data_type.VariableType.{VariableType}
use Rattle.st_types.specs.declared.declaration.Section.{Section}
use Rattle.st_types.specs.declared.declaration.Section.TheVariants as sections
use Rattle.st_types.specs.Configurations.{GlobalBlock, Configuration}
use Rattle.st_types.specs.Declarations.{Declaration, VariableBlock}
use Rattle.st_types.specs.Units.{OrganisationUnit}
use Rattle.st_types.specs.Sources as sources
use Rattle.st_types.specs.Sources.{Source}
use Rattle.st_meaning.specs.Bodies.{is_external, externals_in}
use Rattle.st_meaning.specs.NameTypes.{Declared, declared_in, is_named, variable_type}
use Rattle.st_meaning.specs.Scopes.{Name, contains_name, unowned}
use Rattle.st_rules.specs.ConfigurationRules.{same_type, is_constant, is_plant_input, is_fixed_global}
use Rattle.st_rules.specs.ConfigurationRules.{is_external_of, is_known_external, are_known_externals, is_known_section}
use Rattle.st_rules.specs.ConfigurationRules.{has_known_externals}
use Rattle.st_rules.specs.Containment.{too_deep}
use Rattle.st_rules.specs.Environments.{section_of}
use Rattle.st_rules.specs.NameScopes.{listed_names}
use Rattle.st_rules.specs.TargetRules.{is_fixed}
use Rattle.st_rules.specs.declared.limits.TheConstants.{MAX_TYPE_DEPTH}
use Rattle.st_link.proofs.Among.{Among}
use Rattle.st_link.proofs.ApartNames.{NamesRight}
use Rattle.st_link.proofs.DeclaredVariables.{type_of_declared, section_of_declared}
use Rattle.st_link.proofs.KnownTypes.{TypesRight}
use Rattle.layout.specs.LayoutVariables.{Owned, site_of_global}
use Rattle.layout.specs.LayoutVariables.{retention_of_globals, variables_of_globals}
use Rattle.layout.specs.LayoutVariables.{variables_of_resources, variables_of_configuration}
use Rattle.layout.specs.VariableSlots.{are_declared_once, variable_at}
use Rattle.layout.specs.Types.{Site, shape_within}
use Rattle.layout.proofs.ListLemmas.{same_name}
use Rattle.st_link.specs.Homes.{IsLayoutPart, are_names_different}
use Rattle.st_link.proofs.HomeLemmas.{among_left, found_at}
use Rattle.st_link.proofs.KnownDepths.{depths_known}
use Rattle.st_link.proofs.SameShapes.{same_shapes}
use Rattle.st_link.proofs.ListTests.{all_at, any_at}
use Rattle.st_link.proofs.ExternalNames.{ExternalIn, external_in}
use Rattle.st_link.proofs.GlobalVariables.{listed_variable, in_declarations, in_globals}
use Rattle.std.proofs.lemmas.Bool.{or_parts, and_parts}
use Rattle.st_types.proofs.TestLemmas.{false_from_not}
use Rattle.st_rules.specs.Rules.{environment}

-- each external of a unit stands for a global of its type
abbrev pub StandForGlobals : Source → Configuration → OrganisationUnit → Type 0
StandForGlobals source c u =
    (x : Name) (t : VariableType) → contains_name (externals_in u.blocks) x ≡ true → variable_type u x ≡ Some t
    → IsLayoutPart (declared_in source) (variables_of_configuration (declared_in source) (Some c))
    (is_fixed (section_of (environment (declared_in source) u) x)) (unowned x) t

if_free : (constant fixed : Bool) → (if constant then fixed else not fixed) ≡ true → constant ≡ false → fixed ≡ false
if_free true fixed h e = absurd (cc)
if_free false fixed h e = false_from_not fixed h

module _ (source : Source) (right : TypesRight source) (names : NamesRight source) (deep : too_deep source ≡ [])
    (differ : are_names_different (declared_in source) ≡ true) (c : Configuration)
    (once : are_declared_once (declared_in source) (variables_of_configuration (declared_in source) (Some c)) ≡ true)
    (u : OrganisationUnit) (unit : Among (sources.unit u) source) where
  abbrev text : Declared
  text = declared_in source

  abbrev variables : List Owned
  variables = variables_of_configuration (declared_in source) (Some c)

  home_of_global : (constant : Bool) (d : Declaration) (x : Name)
      → is_known_external text c.globals constant d.declared x ≡ true → variable_type u x ≡ Some d.declared
      → (fixed : Bool) → (fixed ≡ false → constant ≡ false) → IsLayoutPart text variables fixed (unowned x) d.declared
  home_of_global constant d x known type fixed free =
      let block = any_at
      (λ (b : GlobalBlock). list_any (is_external_of text constant d.declared x b.qualifier) b.declarations) c.globals
      known in
      let q = block.one.qualifier in
      let global = any_at (is_external_of text constant d.declared x q) block.one.declarations block.passes in
      let g = global.one in
      let keep = retention_of_globals q in
      let facts = and_parts (list_any (is_named x) (listed_names g.names) && same_type text d.declared g.declared)
      (if constant then is_fixed_global q g.names else not (is_fixed_global q g.names)) global.passes in
      let two = and_parts (list_any (is_named x) (listed_names g.names)) (same_type text d.declared g.declared) facts.0 in
      let z = any_at (is_named x) (listed_names g.names) two.0 in
      let v = listed_variable (site_of_global keep g) g.names z.one z.among in
      let among = among_left (variables_of_globals c.globals) (variables_of_resources text c.resources)
      (in_globals c.globals block.among (in_declarations keep block.one.declarations global.among v.among)) in
      let found = found_at text variables once v.variable among in
      let named : v.variable.name ≡ x = v.named ∙ sym (same_name x z.one.name z.passes) in
      record {
        owner = None;
        name = x;
        steps = [];
        first = found.first;
        variable = v.variable;
        depth = MAX_TYPE_DEPTH;
        path = refl;
        there = ap (λ (y : Name). variable_at text variables None y) (sym named)
            ∙ ap (λ o. variable_at text variables o v.variable.name) (sym v.nobody) ∙ found.there;
        free = λ e. v.is_input ∙ (or_parts (is_constant q) (is_plant_input g.names)
            (if_free constant (is_fixed_global q g.names) facts.1 (free e))).1;
        within = depths_known source right names deep u unit x d.declared type;
        shape = ap (λ (s : Site). Some (shape_within MAX_TYPE_DEPTH text s.declared)) v.site
            ∙ ap Some (sym (same_shapes text differ MAX_TYPE_DEPTH d.declared g.declared two.1 MAX_TYPE_DEPTH));
      }

  by_section : (x : Name) (e : ExternalIn u.blocks x) (s : Section) → e.block.section ≡ s → is_external s ≡ true
      → is_known_section text c.globals s e.block.declarations ≡ true → variable_type u x ≡ Some e.declaration.declared
      → IsLayoutPart text variables (is_fixed (Some s)) (unowned x) e.declaration.declared
  by_section x e sections.External is external known type =
      let d = e.declaration in
      let each = all_at (are_known_externals text c.globals false) e.among known in
      let one = all_at (λ (y : Identifier). is_known_external text c.globals false d.declared y.name) e.name each in
      home_of_global false d x
      (subst (λ (y : Name). is_known_external text c.globals false d.declared y ≡ true) (sym e.named) one) type false
      (λ f. refl)
  by_section x e sections.ConstantExternal is external known type =
      let d = e.declaration in
      let each = all_at (are_known_externals text c.globals true) e.among known in
      let one = all_at (λ (y : Identifier). is_known_external text c.globals true d.declared y.name) e.name each in
      home_of_global true d x
      (subst (λ (y : Name). is_known_external text c.globals true d.declared y ≡ true) (sym e.named) one) type true
      (λ f. absurd (cc))
  by_section x e (sections.Input keep) is external known type = absurd (cc)
  by_section x e (sections.Output keep) is external known type = absurd (cc)
  by_section x e (sections.Local keep) is external known type = absurd (cc)
  by_section x e sections.Constant is external known type = absurd (cc)

  pub externals_stand : has_known_externals (declared_in source) c.globals u ≡ true → StandForGlobals source c u
  externals_stand known x t external h =
      let e = external_in u.blocks x external in
      let b = e.block in
      let d = e.declaration in
      let type : variable_type u x ≡ Some d.declared =
      ap (variable_type u) e.named
      ∙ type_of_declared source names u unit b e.there d e.among e.one e.name in
      let section : section_of (environment text u) x ≡ Some b.section =
      ap (section_of (environment text u)) e.named
      ∙ section_of_declared source names u unit b e.there d e.among e.one e.name in
      let same : d.declared ≡ t = cc (type, h) in
      let block = all_at (λ (o : VariableBlock). is_known_section text c.globals o.section o.declarations) e.there known in
      subst (λ (s : VariableType). IsLayoutPart text variables (is_fixed (section_of (environment text u) x)) (unowned x) s)
      same
      (subst (λ o. IsLayoutPart text variables (is_fixed o) (unowned x) d.declared) (sym section)
      (by_section x e b.section refl e.external block type))
