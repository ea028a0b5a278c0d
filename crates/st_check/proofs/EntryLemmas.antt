-- Parts of the flat list of declarations, as those of the text.
use Rattle.std.proofs.Common.{◌≡◌, refl, sym, ap, ◌∙◌, List, [], ◌∷◌, ◌++◌, map, append-nil, Option, Some, None, Bor}
use Rattle.std.specs.Prelude.{option_map}
use Rattle.std.specs.List.{flat_map, filter_map, cons_option}
use Rattle.std.proofs.lemmas.List.Concat.{flat_map-append}
use Rattle.std.proofs.lemmas.List.Folds.{flat_map-map}
use Rattle.st_types.specs.declared.identifier.Identifier.{Identifier}
use Rattle.st_types.specs.declared.configuration.GlobalQualifier.{GlobalQualifier}
use Rattle.st_types.specs.declared.configuration.Resource as code_resource
use Rattle.st_types.specs.declared.data_type.SimpleType.{SimpleType}
use Rattle.st_types.specs.declared.declaration.Section.{Section}
use Rattle.st_types.specs.declared.unit.UnitSort.{UnitSort}
use Rattle.st_types.specs.declared.unit.UnitSort.TheVariants.{Function, FunctionBlock, Program}
use Rattle.st_types.specs.Declarations as declared_as
use Rattle.st_types.specs.Declarations.{Declaration, Field, TypeDefinition, TypeDeclaration, VariableBlock}
use Rattle.st_types.specs.Configurations.{Configuration, GlobalBlock, GlobalDeclaration, Resource}
use Rattle.st_types.specs.Units.{OrganisationUnit}
use Rattle.st_types.specs.Sources as sources
use Rattle.st_types.specs.Sources.{LibraryElement, Source}
use Rattle.st_rules.specs.declared.rule.Broken.{Broken}
use Rattle.st_rules.specs.DeclaredTypes as rules
use Rattle.st_rules.specs.DeclaredTypes.{Declaring, field, variable_of, global, declarings_of_definition}
use Rattle.st_rules.specs.DeclaredTypes.{declarings_of_block, declarings_of_globals, declarings_of_element}
use Rattle.st_rules.specs.DeclaredTypes.{declarings_in}
use Rattle.st_rules.specs.DeclaredTypes.{array_of_definition, array_of_type, named_arrays_of_element, unnamed_arrays_in}
use Rattle.st_rules.specs.DeclaredTypes.{arrays_in, results_of_element, results_in, names_of_definition}
use Rattle.st_rules.specs.DeclaredTypes.{enumerations_of_element, enumerations_in}
use Rattle.st_rules.specs.TypeRules.{wrong_priority, wrong_priorities_of}
use Rattle.st_rules.specs.declared.broken_rules.BrokenRules.{BrokenRules}
use Rattle.st_rules.specs.Collecting.{Collects}
use Rattle.st_rules.proofs.CollectLemmas.{collects_is, collects_nothing}
use Rattle.st_decl.specs.declared.entries.Entry as code_entry
use Rattle.st_decl.specs.declared.entries.Entry.TheVariants as code
use Rattle.st_decl.specs.Entries.{Entry, type_declared, field_declared, unit_declared, variable_declared}
use Rattle.st_decl.specs.Entries.{global_declared}
use Rattle.st_decl.specs.Entries.{resource_declared, fields_of, entries_of_type, entries_of_block}
use Rattle.st_decl.specs.Entries.{entries_of_globals, entries_of_element, entries_in, of_each}
use Rattle.st_decl.specs.Entries.{declaring_of, result_of_sort, result_of}
use Rattle.st_decl.specs.Entries.{names_in_definition, entry_view, enumeration_of, priorities_of}
use Rattle.st_decl.proofs.EntryLemmas.{flat_flat, flat_same, flat_none, declarings_listed}

-- the faults in a part that a declaration hasn't got
pub nothing_collected : {A C : Type 0} (f : Option C → List Broken) (k : A → C) (o : Option A) (p : Option C)
    (it : BrokenRules) → f None ≡ [] → ((x : A) → o ≡ Some x → ⊥) → option_map k o ≡ p → Collects (f p) it it
nothing_collected f k None p it none h is = collects_is [] (f p) it it (sym none ∙ ap f is) (collects_nothing it)
nothing_collected f k (Some x) p it none h is = absurd (h x refl)

pub no_resource : (e : code_entry.Entry) → ((r : Bor code_resource.Resource) → e ≡ code.Resource r → ⊥)
    → priorities_of (entry_view e) ≡ []
no_resource (code.«Type» t) h = refl
no_resource (code.Field x) h = refl
no_resource (code.Unit u) h = refl
no_resource (code.Variable sort section d) h = refl
no_resource (code.Global q d) h = refl
no_resource (code.Resource r) h = absurd (h r refl)

-- What is listed of each declaration, by what is listed of its type, its unit or its configuration.
module _ {B : Type 0} (g : Entry → List B) where
  abbrev of_type : TypeDeclaration → List B
  of_type t = g (type_declared t) ++ flat_map g (fields_of t.definition)

  abbrev of_block : OrganisationUnit → VariableBlock → List B
  of_block u b = flat_map (λ d. g (variable_declared u.sort b.section d)) b.declarations

  abbrev of_globals : GlobalBlock → List B
  of_globals b = flat_map (λ d. g (global_declared b.qualifier d)) b.declarations

  abbrev of_element : LibraryElement → List B
  of_element (sources.types ts) = flat_map of_type ts
  of_element (sources.unit u) = g (unit_declared u) ++ flat_map (of_block u) u.blocks
  of_element (sources.configuration c) =
      flat_map of_globals c.globals ++ flat_map (λ r. g (resource_declared r)) c.resources

  element_is : (x : LibraryElement) → flat_map g (entries_of_element x) ≡ of_element x
  element_is (sources.types ts) = flat_flat g entries_of_type ts
  element_is (sources.unit u) =
      ap (λ ys. g (unit_declared u) ++ ys)
      (flat_flat g (entries_of_block u.sort) u.blocks
      ∙ flat_same (λ b. flat_map g (entries_of_block u.sort b)) (of_block u)
      (λ b. flat_map-map g (variable_declared u.sort b.section) b.declarations) u.blocks)
  element_is (sources.configuration c) =
      flat_map-append g (flat_map entries_of_globals c.globals) (map resource_declared c.resources)
      ∙ ap (λ ys. ys ++ flat_map g (map resource_declared c.resources))
      (flat_flat g entries_of_globals c.globals
      ∙ flat_same (λ b. flat_map g (entries_of_globals b)) of_globals
      (λ b. flat_map-map g (global_declared b.qualifier) b.declarations) c.globals)
      ∙ ap (λ ys. flat_map of_globals c.globals ++ ys) (flat_map-map g resource_declared c.resources)

  entries_are : (h : LibraryElement → List B) → ((x : LibraryElement) → of_element x ≡ h x) → (source : Source)
      → flat_map g (entries_in source) ≡ flat_map h source
  entries_are h same source =
      flat_flat g entries_of_element source
      ∙ flat_same (λ x. flat_map g (entries_of_element x)) h (λ x. element_is x ∙ same x) source

  -- kinds of declarations that have none of it
  no_fields : ((x : Field) → g (field_declared x) ≡ []) → (d : TypeDefinition) → flat_map g (fields_of d) ≡ []
  no_fields h (declared_as.array a) = refl
  no_fields h (declared_as.structure fields) =
      flat_map-map g field_declared fields ∙ flat_none (λ x. g (field_declared x)) h fields
  no_fields h (declared_as.enumeration names) = refl

  no_variables : ((sort : UnitSort) (section : Section) (d : Declaration) → g (variable_declared sort section d) ≡ [])
      → (u : OrganisationUnit) → flat_map (of_block u) u.blocks ≡ []
  no_variables h u =
      flat_none (of_block u)
      (λ b. flat_none (λ d. g (variable_declared u.sort b.section d)) (h u.sort b.section) b.declarations) u.blocks

  no_globals : ((q : Option GlobalQualifier) (d : GlobalDeclaration) → g (global_declared q d) ≡ [])
      → (bs : List GlobalBlock) → flat_map of_globals bs ≡ []
  no_globals h bs =
      flat_none of_globals (λ b. flat_none (λ d. g (global_declared b.qualifier d)) (h b.qualifier) b.declarations) bs

  no_configuration : ((q : Option GlobalQualifier) (d : GlobalDeclaration) → g (global_declared q d) ≡ [])
      → ((r : Resource) → g (resource_declared r) ≡ []) → (c : Configuration)
      → of_element (sources.configuration c) ≡ []
  no_configuration h k c =
      ap (λ ys. ys ++ flat_map (λ r. g (resource_declared r)) c.resources) (no_globals h c.globals)
      ∙ flat_none (λ r. g (resource_declared r)) k c.resources

-- declared types
listed : {B C : Type 0} (f : B → List C) (o : Option B) (ys : List C) (rest : List B) → ys ≡ flat_map f rest
    → of_each f o ++ ys ≡ flat_map f (cons_option o rest)
listed f None ys rest h = h
listed f (Some x) ys rest h = ap (λ zs. f x ++ zs) h

each_listed : {A B C : Type 0} (f : B → List C) (h : A → Option B) (xs : List A)
    → flat_map (λ x. of_each f (h x)) xs ≡ flat_map f (filter_map h xs)
each_listed f h [] = refl
each_listed f h (x ∷ xs) =
    listed f (h x) (flat_map (λ y. of_each f (h y)) xs) (filter_map h xs) (each_listed f h xs)

pub each_declaring_is : {B : Type 0} (f : Declaring → List B) (source : Source)
    → flat_map (λ e. of_each f (declaring_of e)) (entries_in source) ≡ flat_map f (declarings_in source)
each_declaring_is f source =
    each_listed f declaring_of (entries_in source) ∙ ap (flat_map f) (declarings_listed source)

-- results of functions
module _ {B : Type 0} (f : SimpleType → List B) where
  abbrev each_result : Entry → List B
  each_result e = of_each f (result_of e)

  sort_is : (s : UnitSort) → of_each f (result_of_sort s) ≡ flat_map f (rules.result_of_sort s)
  sort_is (Function t) = sym (append-nil (f t))
  sort_is FunctionBlock = refl
  sort_is Program = refl

  result_in : (x : LibraryElement) → of_element each_result x ≡ flat_map f (results_of_element x)
  result_in (sources.types ts) = flat_none (of_type each_result) (λ t. no_fields each_result (λ x. refl) t.definition)
      ts
  result_in (sources.unit u) =
      ap (λ ys. of_each f (result_of_sort u.sort) ++ ys)
      (no_variables each_result (λ s k d. refl) u)
      ∙ append-nil (of_each f (result_of_sort u.sort)) ∙ sort_is u.sort
  result_in (sources.configuration c) = no_configuration each_result (λ q d. refl) (λ r. refl) c

  pub each_result_is : (source : Source) → flat_map each_result (entries_in source) ≡ flat_map f (results_in source)
  each_result_is source =
      entries_are each_result (λ x. flat_map f (results_of_element x)) result_in source
      ∙ sym (flat_flat f results_of_element source)

-- names of enumerated types
module _ {B : Type 0} (f : List Identifier → List B) where
  abbrev each_enumeration : Entry → List B
  each_enumeration e = of_each f (enumeration_of e)

  names_are : (d : TypeDefinition) → of_each f (names_in_definition d) ≡ flat_map f (names_of_definition d)
  names_are (declared_as.array a) = refl
  names_are (declared_as.structure fields) = refl
  names_are (declared_as.enumeration names) = sym (append-nil (f names))

  names_in : (x : LibraryElement) → of_element each_enumeration x ≡ flat_map f (enumerations_of_element x)
  names_in (sources.types ts) =
      flat_same (of_type each_enumeration) (λ t. flat_map f (names_of_definition t.definition))
      (λ t. ap (λ ys. of_each f (names_in_definition t.definition) ++ ys)
      (no_fields each_enumeration (λ x. refl) t.definition)
      ∙ append-nil (of_each f (names_in_definition t.definition)) ∙ names_are t.definition) ts
      ∙ sym (flat_flat f (λ t. names_of_definition t.definition) ts)
  names_in (sources.unit u) =
      no_variables each_enumeration (λ s k d. refl) u
  names_in (sources.configuration c) = no_configuration each_enumeration (λ q d. refl) (λ r. refl) c

  pub each_enumeration_is : (source : Source)
      → flat_map each_enumeration (entries_in source) ≡ flat_map f (enumerations_in source)
  each_enumeration_is source =
      entries_are each_enumeration (λ x. flat_map f (enumerations_of_element x)) names_in source
      ∙ sym (flat_flat f enumerations_of_element source)

-- priorities of tasks
priorities_in : (x : LibraryElement) → of_element priorities_of x ≡ wrong_priorities_of x
priorities_in (sources.types ts) = flat_none (of_type priorities_of)
    (λ t. no_fields priorities_of (λ x. refl) t.definition) ts
priorities_in (sources.unit u) =
    no_variables priorities_of (λ s k d. refl) u
priorities_in (sources.configuration c) =
    ap (λ ys. ys ++ flat_map (λ r. flat_map wrong_priority r.tasks) c.resources)
    (no_globals priorities_of (λ q d. refl) c.globals)

pub priorities_are : (source : Source) → flat_map priorities_of (entries_in source) ≡ flat_map wrong_priorities_of
    source
priorities_are source = entries_are priorities_of wrong_priorities_of priorities_in source
