-- A variable of a unit has the type and the section that it is declared with, if no name is declared twice.
use Rattle.std.proofs.Common.{◌≡◌, refl, sym, ap, subst, ◌∙◌, Bool, true, false, ◌||◌, if◌then◌else◌, List, [], ◌∷◌, ◌++◌}
use Rattle.std.proofs.Common.{Option, Some, None}
use Rattle.std.specs.List.{flat_map, list_any}
use Rattle.st_types.specs.declared.identifier.Identifier.{Identifier}
use Rattle.st_types.specs.declared.data_type.VariableType.{VariableType}
use Rattle.st_types.specs.Declarations.{Declaration, VariableBlock}
use Rattle.st_types.specs.Units.{OrganisationUnit}
use Rattle.st_types.specs.Sources as sources
use Rattle.st_types.specs.Sources.{Source}
use Rattle.st_meaning.specs.NameTypes.{declared_in, is_named, result_type, type_in_blocks, variable_type}
use Rattle.st_rules.specs.Environments.{section_in, section_of}
use Rattle.st_rules.specs.NameScopes.{names_of_element, names_of_text, variables_of_block, variables_of_element}
use Rattle.st_rules.specs.NameScopes.{scopes_of_element}
use Rattle.st_rules.specs.Places.{repeats}
use Rattle.st_rules.specs.Rules.{environment}
use Rattle.st_rules.specs.TwiceDeclared.{is_standard, is_taken}
use Rattle.st_link.proofs.Among.{Among, here, later, in_flat, none_of, none_passes}
use Rattle.st_link.proofs.ApartNames.{NamesRight, repeats_behind}
use Rattle.st_link.proofs.DeclaredOnce.{itself_named, none_declared, type_once}
use Rattle.st_link.proofs.InstanceSections.{absent}
use Rattle.st_types.proofs.TestLemmas.{or_second}
use Rattle.std.proofs.lemmas.Bool.{or_right}

abbrev names_in : Declaration → List Identifier
names_in d = d.names

any_declared : (ds : List Declaration) {d : Declaration} {x : Identifier} → Among d ds → Among x d.names
    → list_any (λ c. list_any (is_named x.name) c.names) ds ≡ true
any_declared [] declaration name = elim declaration [ ]
any_declared (d ∷ ds) {x = x} here name =
    ap (λ b. b || list_any (λ c. list_any (is_named x.name) c.names) ds) (itself_named d.names name)
any_declared (c ∷ ds) {x = x} (later declaration) name =
    or_right (list_any (is_named x.name) c.names) _ (any_declared ds declaration name)

section_once : (bs : List VariableBlock) {b : VariableBlock} {d : Declaration} {x : Identifier}
    → repeats (flat_map variables_of_block bs) ≡ [] → Among b bs → Among d b.declarations → Among x d.names
    → section_in bs x.name ≡ Some b.section
section_once [] once block declaration name = elim block [ ]
section_once (b ∷ bs) {x = x} once here declaration name =
    ap (λ c. if c then Some b.section else section_in bs x.name) (any_declared b.declarations declaration name)
section_once (c ∷ bs) {x = x} once (later block) declaration name =
    ap (λ b. if b then Some c.section else section_in bs x.name)
    (absent c.declarations x.name (none_declared c.declarations (flat_map variables_of_block bs) once
    (in_flat variables_of_block block (in_flat names_in declaration name))))
    ∙ section_once bs (repeats_behind (variables_of_block c) (flat_map variables_of_block bs) once) block declaration
    name

-- a name that doesn't occur in a list
none_has : (test : Identifier → Bool) {a : Identifier} {xs : List Identifier} → Among a xs → list_any test xs ≡ false
    → test a ≡ false
none_has test (here {a = a} {rest = rest}) h = first_false (test a) (list_any test rest) h
  where
    first_false : (a b : Bool) → (a || b) ≡ false → a ≡ false
    first_false true b k = k
    first_false false b k = refl
none_has test (later {b = x} {rest = rest} k) h = none_has test k (second_false (test x) (list_any test rest) h)
  where
    second_false : (a b : Bool) → (a || b) ≡ false → b ≡ false
    second_false true b k = absurd (cc)
    second_false false b k = k

module _ (source : Source) (names : NamesRight source) (u : OrganisationUnit) (unit : Among (sources.unit u) source)
    (b : VariableBlock) (block : Among b u.blocks) (d : Declaration) (declaration : Among d b.declarations)
    (x : Identifier) (name : Among x d.names) where
  other_name : is_named x.name u.name ≡ false
  other_name =
      let own = in_flat variables_of_block block (in_flat names_in declaration name) in
      let free = none_passes (is_taken (names_of_text source)) (in_flat variables_of_element unit own) names.untaken in
      none_has (is_named x.name) (in_flat names_of_element unit here)
      (or_second (is_standard x.name) (list_any (is_named x.name) (names_of_text source)) free)

  once : repeats (flat_map variables_of_block u.blocks) ≡ []
  once = none_of repeats (in_flat scopes_of_element unit here) names.scopes

  pub type_of_declared : variable_type u x.name ≡ Some d.declared
  type_of_declared =
      ap (λ (c : Bool). if c then result_type u.sort else type_in_blocks u.blocks x.name) other_name
      ∙ type_once u.blocks once block declaration name

  pub section_of_declared : section_of (environment (declared_in source) u) x.name ≡ Some b.section
  section_of_declared =
      ap (λ (c : Bool). if c then None else section_in u.blocks x.name) other_name
      ∙ section_once u.blocks once block declaration name
