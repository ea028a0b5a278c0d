-- In a text in which no rule on declarations is broken an instance is a VAR of its unit, so it is not fixed.
use Rattle.std.proofs.Common.{◌≡◌, refl, sym, ap, subst, ◌∙◌, Bool, true, false, ◌||◌, if◌then◌else◌, List, [], ◌∷◌}
use Rattle.std.proofs.Common.{Option, Some, None}
use Rattle.std.specs.Prelude.{is_some}
use Rattle.std.specs.List.{list_any}
use Rattle.st_types.specs.declared.identifier.Identifier.{Identifier}
use Rattle.st_types.specs.declared.data_type.SimpleType.TheVariants.{Named}
use Rattle.st_types.specs.declared.data_type.VariableType.{VariableType}
use Rattle.st_types.specs.declared.data_type.VariableType.TheVariants as types
use Rattle.st_types.specs.declared.declaration.Section.{Section}
use Rattle.st_types.specs.declared.declaration.Section.TheVariants as sections
use Rattle.st_types.specs.declared.unit.UnitSort.{UnitSort}
use Rattle.st_types.specs.declared.unit.UnitSort.TheVariants.{Function as function, FunctionBlock as function_block}
use Rattle.st_types.specs.declared.unit.UnitSort.TheVariants.{Program as program}
use Rattle.st_types.specs.Declarations.{Declaration, VariableBlock}
use Rattle.st_types.specs.Units.{OrganisationUnit}
use Rattle.st_types.specs.Sources as sources
use Rattle.st_types.specs.Sources.{Source}
use Rattle.st_meaning.specs.StandardFunctions.{standard_of}
use Rattle.st_meaning.specs.Scopes.{Name}
use Rattle.st_meaning.specs.NameTypes.{Declared, declared_in, is_named, type_named, unit_named, type_in, or_type}
use Rattle.st_meaning.specs.NameTypes.{type_in_blocks, result_type, variable_type}
use Rattle.st_rules.specs.Environments.{is_block, is_instance, section_in, section_of}
use Rattle.st_rules.specs.DeclaredTypes.{variable_of, Declaring}
use Rattle.st_rules.specs.TargetRules.{is_fixed}
use Rattle.st_rules.specs.TypeRules.{wrong_name, may_be_instance}
use Rattle.st_rules.specs.Rules.{environment}
use Rattle.st_link.proofs.Among.{Among, here, later}
use Rattle.st_link.proofs.KnownTypes.{TypesRight, declared_right, variable_among}
use Rattle.st_link.proofs.NamedFaults.{may_stand}
use Rattle.st_link.proofs.ApartNames.{NamesRight, types_are_no_blocks}
use Rattle.st_link.proofs.NoInstances.{functions_have_none}

-- the declaration of a variable, with its section
record FoundIn (bs : List VariableBlock) (x : Name) (t : VariableType) : Type 0 where
  pub block : VariableBlock
  pub there : Among block bs
  pub declaration : Declaration
  pub among : Among declaration block.declarations
  pub declared : declaration.declared ≡ t
  pub section : section_in bs x ≡ Some block.section

-- a list of declarations that has the name, and the one that has it
pub record FoundAmong (ds : List Declaration) (x : Name) (t : VariableType) : Type 0 where
  pub declaration : Declaration
  pub among : Among declaration ds
  pub declared : declaration.declared ≡ t
  pub named : list_any (λ d. list_any (is_named x) d.names) ds ≡ true

among_at : (d : Declaration) (ds : List Declaration) (x : Name) (t : VariableType) (b : Bool)
    → list_any (is_named x) d.names ≡ b → (type_in ds x ≡ Some t → FoundAmong ds x t)
    → (if b then Some d.declared else type_in ds x) ≡ Some t → FoundAmong (d ∷ ds) x t
among_at d ds x t true e f h =
    record { declaration = d; among = here; declared = cc; named = rw e refl }
among_at d ds x t false e f h =
    let rest = f h in
    record {
      declaration = rest.declaration;
      among = later rest.among;
      declared = rest.declared;
      named = rw e rest.named;
    }

pub found_among : (ds : List Declaration) (x : Name) (t : VariableType) → type_in ds x ≡ Some t → FoundAmong ds x t
found_among [] x t h = absurd (cc)
found_among (d ∷ ds) x t h =
    among_at d ds x t (list_any (is_named x) d.names) refl (λ k. found_among ds x t k) h

-- a list of declarations that doesn't have the name
absent_at : (d : Declaration) (ds : List Declaration) (x : Name) (b : Bool) → list_any (is_named x) d.names ≡ b
    → (type_in ds x ≡ None → list_any (λ c. list_any (is_named x) c.names) ds ≡ false)
    → (if b then Some d.declared else type_in ds x) ≡ None
    → list_any (λ c. list_any (is_named x) c.names) (d ∷ ds) ≡ false
absent_at d ds x true e f h = absurd (cc)
absent_at d ds x false e f h = rw e (f h)

pub absent : (ds : List Declaration) (x : Name) → type_in ds x ≡ None
    → list_any (λ c. list_any (is_named x) c.names) ds ≡ false
absent [] x h = refl
absent (d ∷ ds) x h = absent_at d ds x (list_any (is_named x) d.names) refl (λ k. absent ds x k) h

found_at : (b : VariableBlock) (bs : List VariableBlock) (x : Name) (t : VariableType) (o : Option VariableType)
    → type_in b.declarations x ≡ o → (type_in_blocks bs x ≡ Some t → FoundIn bs x t)
    → or_type o (type_in_blocks bs x) ≡ Some t → FoundIn (b ∷ bs) x t
found_at b bs x t (Some u) e f h =
    let found = found_among b.declarations x t (e ∙ h) in
    record {
      block = b;
      there = here;
      declaration = found.declaration;
      among = found.among;
      declared = found.declared;
      section = ap (λ c. if c then Some b.section else section_in bs x) found.named;
    }
found_at b bs x t None e f h =
    let rest = f h in
    record {
      block = rest.block;
      there = later rest.there;
      declaration = rest.declaration;
      among = rest.among;
      declared = rest.declared;
      section = ap (λ c. if c then Some b.section else section_in bs x) (absent b.declarations x e) ∙ rest.section;
    }

found_in : (bs : List VariableBlock) (x : Name) (t : VariableType) → type_in_blocks bs x ≡ Some t → FoundIn bs x t
found_in [] x t h = absurd (cc)
found_in (b ∷ bs) x t h = found_at b bs x t (type_in b.declarations x) refl (λ k. found_in bs x t k) h

local_free : (sort : UnitSort) (section : Section) → may_be_instance (variable_of sort section) ≡ true
    → is_fixed (Some section) ≡ false
local_free sort (sections.Local keep) h = refl
local_free sort (sections.Output keep) h = refl
local_free sort sections.External h = refl
local_free sort (sections.Input keep) h = absurd (cc)
local_free sort sections.Constant h = absurd (cc)
local_free sort sections.ConstantExternal h = absurd (cc)

module _ (source : Source) (right : TypesRight source) (names : NamesRight source) (u : OrganisationUnit)
    (unit : Among (sources.unit u) source) where
  abbrev text : Declared
  text = declared_in source

  -- an instance is declared in a VAR
  pub record InstanceVariable (x : Name) (b : Identifier) : Type 0 where
    pub section : Section
    pub declared : type_in_blocks u.blocks x ≡ Some (types.Simple (Named b))
    pub there : section_in u.blocks x ≡ Some section
    pub local : may_be_instance (variable_of u.sort section) ≡ true

  declared_instance : (x : Name) (b : Identifier) → is_block text b.name ≡ true
      → type_in_blocks u.blocks x ≡ Some (types.Simple (Named b)) → InstanceVariable x b
  declared_instance x b is h =
      let found = found_in u.blocks x (types.Simple (Named b)) h in
      let d = found.declaration in
      let it : Declaring =
      record { role = variable_of u.sort found.block.section; declared = d.declared; initial = d.initial } in
      let rules = declared_right source right it (variable_among source right u found.block d unit found.there found.among)
      in
      let may = may_be_instance (variable_of u.sort found.block.section) in
      let name = subst (λ (t : VariableType). wrong_name text may t ≡ []) found.declared rules.name in
      record {
        section = found.block.section;
        declared = h;
        there = found.section;
        local = may_stand (is_some (type_named text.types b.name)) (is_block text b.name)
            (is_some (unit_named text.units b.name) || is_some (standard_of b.name)) may b.place name is
            (types_are_no_blocks source names b.name);
      }

  -- a function's result isn't an instance
  no_result : (b : Identifier) → is_block text b.name ≡ true → (x : Name)
      → variable_type u x ≡ Some (types.Simple (Named b)) → (sort : UnitSort) → u.sort ≡ sort
      → result_type sort ≡ Some (types.Simple (Named b)) → ⊥
  no_result b is x h (function s) e g =
      let none = functions_have_none source right names u unit s e x in
      let also : is_block text b.name ≡ false =
      ap (is_instance (environment (declared_in source) u)) (sym h) ∙ none in
      cc
  no_result b is x h function_block e g = cc
  no_result b is x h program e g = cc

  instance_by : (x : Name) (b : Identifier) → is_block text b.name ≡ true
      → variable_type u x ≡ Some (types.Simple (Named b)) → (c : Bool)
      → (if c then result_type u.sort else type_in_blocks u.blocks x) ≡ Some (types.Simple (Named b))
      → InstanceVariable x b
  instance_by x b is h true g = absurd (no_result b is x h u.sort refl g)
  instance_by x b is h false g = declared_instance x b is g

  pub instance_variable : (x : Name) (b : Identifier) → variable_type u x ≡ Some (types.Simple (Named b))
      → is_block (declared_in source) b.name ≡ true → InstanceVariable x b
  instance_variable x b h is = instance_by x b is h (is_named x u.name) h

  free_by : (x : Name) (b : Identifier) → is_block text b.name ≡ true → (c : Bool)
      → (if c then result_type u.sort else type_in_blocks u.blocks x) ≡ Some (types.Simple (Named b))
      → is_fixed (if c then None else section_in u.blocks x) ≡ false
  free_by x b is true h = refl
  free_by x b is false h =
      let v = declared_instance x b is h in ap is_fixed v.there ∙ local_free u.sort v.section v.local

  pub instances_are_free : (x : Name) (b : Identifier) → variable_type u x ≡ Some (types.Simple (Named b))
      → is_block (declared_in source) b.name ≡ true
      → is_fixed (section_of (environment (declared_in source) u) x) ≡ false
  instances_are_free x b h is = free_by x b is (is_named x u.name) h
