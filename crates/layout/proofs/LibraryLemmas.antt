-- How calls find units in the library of a text, and the parts of instances and functions.
use Rattle.std.proofs.Common.{◌≡◌, ℕ, ◌+◌, Bool, true, false, if◌then◌else◌, List, [], ◌∷◌, map, Option, Some}
use Rattle.std.proofs.Common.{None, option_map, refl, sym, ap, ap₂, ◌∙◌}
use Rattle.std.specs.Prelude.{bytes_eq, is_none}
use Rattle.std.specs.List.{list_all}
use Rattle.st_types.specs.declared.identifier.Identifier.{Identifier}
use Rattle.st_types.specs.declared.path.Owner.{Owner}
use Rattle.st_types.specs.declared.data_type.SimpleType.{SimpleType}
use Rattle.st_types.specs.declared.data_type.SimpleType.TheVariants.{Elementary, Named}
use Rattle.st_types.specs.declared.data_type.VariableType.{VariableType}
use Rattle.st_types.specs.declared.data_type.VariableType.TheVariants as types
use Rattle.st_types.specs.declared.unit.UnitSort.{UnitSort}
use Rattle.st_types.specs.declared.unit.UnitSort.TheVariants as sorts
use Rattle.st_types.specs.Declarations.{TypeDeclaration}
use Rattle.st_types.specs.Units.{OrganisationUnit}
use Rattle.st_meaning.specs.Enumerations.{enumerated_names, enumerations_from, enumeration_named}
use Rattle.st_meaning.specs.Enumerations.{kind_of_enumeration}
use Rattle.st_meaning.specs.NameTypes.{Declared, is_named, type_named, unit_named, definition_of, kind_among}
use Rattle.st_meaning.specs.Bodies.{plain_program, externals_in}
use Rattle.st_meaning.specs.Scopes.{Name, Function, Block, function_in, block_in}
use Rattle.st_meaning.specs.Runs.{Program}
use Rattle.st_meaning.specs.Stores.{IsStore}
use Rattle.st_types.specs.Statements.{stmts_of}
use Rattle.layout.specs.Shapes.{of_instance}
use Rattle.layout.specs.Types.{NamedSite, sites_of_blocks, BlockType, block_type_named, instance_of}
use Rattle.layout.specs.Types.{of_kind, of_parts, instance_parts, defined_composition, composition_of}
use Rattle.layout.specs.LayoutVariables.{owned_variable}
use Rattle.layout.specs.TextLayouts.{plan_inputs_of, initial_image}
use Rattle.layout.specs.Names
use Rattle.layout.specs.Names.{are_different, names_of_sites, variable_names, has_different_variables}
use Rattle.layout.specs.Names.{are_types_and_units_different}
use Rattle.layout.specs.Libraries.{instances_among, result_site, fresh_values, function_of_unit}
use Rattle.layout.specs.Libraries.{function_then, functions_among, block_of_unit, block_then, blocks_among}
use Rattle.layout.specs.Libraries.{library_of}
use Rattle.layout.specs.Libraries.{program_of_unit, is_program}
use Rattle.layout.proofs.NameLemmas.{variables_once}
use Rattle.layout.proofs.VariableLemmas.{variables_layout}
use Rattle.layout.proofs.StoreLemmas.{initial_store_is}
use Rattle.st_types.proofs.OptionLemmas.{some_is, if_some}
use Rattle.std.proofs.lemmas.Bool.{and_parts}

-- an enumerated type is a type of its name
pub no_enumeration : (n : ℕ) (ts : List TypeDeclaration) (x : Name) → type_named ts x ≡ None
    → enumeration_named (enumerations_from n ts) x ≡ None
no_enumeration n [] x h = refl
no_enumeration n (t ∷ ts) x h =
    by_test (is_named x t.name) refl h (λ m g. no_enumeration m ts x g)
  where
    by_names : (names : Option (List Identifier)) → bytes_eq x t.name.name ≡ false
        → ((m : ℕ) → enumeration_named (enumerations_from m ts) x ≡ None)
        → enumeration_named (elim names [
          | Some xs ↦ record { number = n; name = t.name.name; names = xs } ∷ enumerations_from (n + 1) ts
          | None ↦ enumerations_from n ts
        ]) x ≡ None
    by_names (Some xs) e ih = let i = ih (n + 1) in rw (e, i) refl
    by_names None e ih = ih n

    by_test : (b : Bool) → is_named x t.name ≡ b → (if b then Some t.definition else type_named ts x) ≡ None
        → ((m : ℕ) → type_named ts x ≡ None → enumeration_named (enumerations_from m ts) x ≡ None)
        → enumeration_named (enumerations_from n (t ∷ ts)) x ≡ None
    by_test true e g ih = absurd (cc)
    by_test false e g ih = by_names (enumerated_names t.definition) e (λ m. ih m g)

not_there : {A : Type 0} (o : Option A) → is_none o ≡ true → o ≡ None
not_there None h = refl
not_there (Some a) h = absurd (cc)

-- an instance has the members of its block
pub instance_made : (text : Declared) (t : VariableType) (b : BlockType) → instance_of text t ≡ Some b
    → composition_of text t ≡ of_parts of_instance b.members
instance_made text (types.Array a) b h = absurd (cc)
instance_made text (types.Simple (Elementary k at)) b h = absurd (cc)
instance_made text (types.Simple (Named x)) b h =
    let i = if_some (is_none (type_named text.types x.name)) (block_type_named text x.name) b h in
    let n = not_there (type_named text.types x.name) i.0 in
    let e : kind_among text.types (types.Simple (Named x)) ≡ None =
    ap (option_map kind_of_enumeration) (no_enumeration 0 text.types x.name n) in
    ap (λ m. elim m [
      | Some k ↦ of_kind k
      | None ↦ defined_composition text (types.Simple (Named x)) (definition_of text (types.Simple (Named x)))
    ]) e
    ∙ ap (defined_composition text (types.Simple (Named x))) n ∙ ap instance_parts h

-- a function of the text
function_by_sort : (text : Declared) (s : UnitSort) (v u : OrganisationUnit) (us : List OrganisationUnit) (x : Name)
    (t : SimpleType) → v.sort ≡ s → u.sort ≡ sorts.Function t → (b : Bool) → bytes_eq x v.name.name ≡ b
    → (if b then Some v else unit_named us x) ≡ Some u
    → (unit_named us x ≡ Some u → function_in (functions_among text us) x ≡ Some (function_of_unit text t u))
    → function_in (function_then text s v (functions_among text us)) x ≡ Some (function_of_unit text t u)
function_by_sort text (sorts.Function r) v u us x t s e true n h ih =
    let q : v ≡ u = some_is h in
    let w : sorts.Function r ≡ sorts.Function t = sym s ∙ ap (λ w. w.sort) q ∙ e in
    let k : r ≡ t = cc in
    rw n (ap₂ (λ a b. Some (function_of_unit text a b)) k q)
function_by_sort text (sorts.Function r) v u us x t s e false n h ih = rw n (ih h)
function_by_sort text sorts.FunctionBlock v u us x t s e true n h ih =
    let q : v ≡ u = some_is h in
    let w : sorts.FunctionBlock ≡ sorts.Function t = sym s ∙ ap (λ w. w.sort) q ∙ e in absurd (cc)
function_by_sort text sorts.FunctionBlock v u us x t s e false n h ih = ih h
function_by_sort text sorts.Program v u us x t s e true n h ih =
    let q : v ≡ u = some_is h in
    let w : sorts.Program ≡ sorts.Function t = sym s ∙ ap (λ w. w.sort) q ∙ e in absurd (cc)
function_by_sort text sorts.Program v u us x t s e false n h ih = ih h

function_among : (text : Declared) (us : List OrganisationUnit) (x : Name) (u : OrganisationUnit) (t : SimpleType)
    → unit_named us x ≡ Some u → u.sort ≡ sorts.Function t
    → function_in (functions_among text us) x ≡ Some (function_of_unit text t u)
function_among text [] x u t h e = absurd (cc)
function_among text (v ∷ us) x u t h e =
    function_by_sort text v.sort v u us x t refl e (bytes_eq x v.name.name) refl h
    (λ g. function_among text us x u t g e)

pub function_found : (text : Declared) (x : Name) (u : OrganisationUnit) (t : SimpleType)
    → unit_named text.units x ≡ Some u → u.sort ≡ sorts.Function t
    → function_in (library_of text).functions x ≡ Some (function_of_unit text t u)
function_found text x u t h e = function_among text text.units x u t h e

-- a block of the text
block_by_sort : (text : Declared) (s : UnitSort) (v u : OrganisationUnit) (us : List OrganisationUnit) (x : Name)
    → v.sort ≡ s → u.sort ≡ sorts.FunctionBlock → (b : Bool) → bytes_eq x v.name.name ≡ b
    → (if b then Some v else unit_named us x) ≡ Some u
    → (unit_named us x ≡ Some u → block_in (blocks_among text us) x ≡ Some (block_of_unit text u))
    → block_in (block_then text s v (blocks_among text us)) x ≡ Some (block_of_unit text u)
block_by_sort text sorts.FunctionBlock v u us x s e true n h ih =
    let q : v ≡ u = some_is h in rw n (ap (λ w. Some (block_of_unit text w)) q)
block_by_sort text sorts.FunctionBlock v u us x s e false n h ih = rw n (ih h)
block_by_sort text (sorts.Function r) v u us x s e true n h ih =
    let q : v ≡ u = some_is h in
    let w : sorts.Function r ≡ sorts.FunctionBlock = sym s ∙ ap (λ w. w.sort) q ∙ e in absurd (cc)
block_by_sort text (sorts.Function r) v u us x s e false n h ih = ih h
block_by_sort text sorts.Program v u us x s e true n h ih =
    let q : v ≡ u = some_is h in
    let w : sorts.Program ≡ sorts.FunctionBlock = sym s ∙ ap (λ w. w.sort) q ∙ e in absurd (cc)
block_by_sort text sorts.Program v u us x s e false n h ih = ih h

block_among : (text : Declared) (us : List OrganisationUnit) (x : Name) (u : OrganisationUnit)
    → unit_named us x ≡ Some u → u.sort ≡ sorts.FunctionBlock
    → block_in (blocks_among text us) x ≡ Some (block_of_unit text u)
block_among text [] x u h e = absurd (cc)
block_among text (v ∷ us) x u h e =
    block_by_sort text v.sort v u us x refl e (bytes_eq x v.name.name) refl h (λ g. block_among text us x u g e)

pub block_found : (text : Declared) (x : Name) (u : OrganisationUnit) → unit_named text.units x ≡ Some u
    → u.sort ≡ sorts.FunctionBlock → block_in (library_of text).blocks x ≡ Some (block_of_unit text u)
block_found text x u h e = block_among text text.units x u h e

-- the variables of a call are a store
no_inputs_among : (text : Declared) (ds : List NamedSite) → plan_inputs_of text (map (owned_variable None) ds) ≡ []
no_inputs_among text [] = refl
no_inputs_among text (d ∷ ds) = no_inputs_among text ds

fresh_is_store : (text : Declared) → are_types_and_units_different text ≡ true → (ds : List NamedSite)
    → are_different (names_of_sites ds) ≡ true → IsStore [] (fresh_values text ds)
fresh_is_store text differ ds h =
    let e : initial_image (plan_inputs_of text (map (owned_variable None) ds)) ≡ [] =
    ap initial_image (no_inputs_among text ds) in
    let s = initial_store_is text (map (owned_variable None) ds)
    (variables_layout text (map (owned_variable None) ds) (variables_once text differ ds h)) in
    rw e at s

fresh_by_sort : (text : Declared) → are_types_and_units_different text ≡ true → (s : UnitSort) (v : OrganisationUnit)
    → are_different (variable_names s v) ≡ true → (us : List OrganisationUnit) (x : Name) (f : Function)
    → (function_in (functions_among text us) x ≡ Some f → IsStore [] f.fresh)
    → function_in (function_then text s v (functions_among text us)) x ≡ Some f → IsStore [] f.fresh
fresh_by_sort text differ (sorts.Function t) v d us x f ih h =
    by_test (bytes_eq x v.name.name) h
    (fresh_is_store text differ (result_site t v.name.name ∷ sites_of_blocks v.blocks) d) ih
  where
    by_test : (b : Bool)
        → (if b then Some (function_of_unit text t v) else function_in (functions_among text us) x) ≡ Some f
        → IsStore [] (function_of_unit text t v).fresh
        → (function_in (functions_among text us) x ≡ Some f → IsStore [] f.fresh) → IsStore [] f.fresh
    by_test true g here ih = let q : function_of_unit text t v ≡ f = some_is g in rw (← q) here
    by_test false g here ih = ih g
fresh_by_sort text differ sorts.FunctionBlock v d us x f ih h = ih h
fresh_by_sort text differ sorts.Program v d us x f ih h = ih h

fresh_among : (text : Declared) → are_types_and_units_different text ≡ true → (us : List OrganisationUnit)
    → list_all has_different_variables us ≡ true → (x : Name) (f : Function)
    → function_in (functions_among text us) x ≡ Some f → IsStore [] f.fresh
fresh_among text differ [] all x f h = absurd (cc)
fresh_among text differ (v ∷ us) all x f h =
    let b = and_parts (has_different_variables v) (list_all has_different_variables us) all in
    fresh_by_sort text differ v.sort v b.0 us x f (λ g. fresh_among text differ us b.1 x f g) h

pub function_starts : (text : Declared) → are_types_and_units_different text ≡ true → (x : Name) (f : Function)
    → function_in (library_of text).functions x ≡ Some f → IsStore [] f.fresh
function_starts text differ x f h =
    fresh_among text differ text.units
    (and_parts (list_all (λ t. Names.has_different_fields t.definition) text.types)
    (list_all has_different_variables text.units) differ).1 x f h

-- a program of a text of programs that has no instances
no_functions : (text : Declared) (us : List OrganisationUnit) → list_all (λ v. is_program v.sort) us ≡ true
    → functions_among text us ≡ []
no_functions text [] h = refl
no_functions text (v ∷ us) h =
    let b = and_parts (is_program v.sort) (list_all (λ v. is_program v.sort) us) h in
    by_sort v.sort b.0 ∙ no_functions text us b.1
  where
    by_sort : (s : UnitSort) → is_program s ≡ true
        → function_then text s v (functions_among text us) ≡ functions_among text us
    by_sort sorts.Program h = refl
    by_sort sorts.FunctionBlock h = refl
    by_sort (sorts.Function t) h = absurd (cc)

no_blocks : (text : Declared) (us : List OrganisationUnit) → list_all (λ v. is_program v.sort) us ≡ true
    → blocks_among text us ≡ []
no_blocks text [] h = refl
no_blocks text (v ∷ us) h =
    let b = and_parts (is_program v.sort) (list_all (λ v. is_program v.sort) us) h in
    by_sort v.sort b.0 ∙ no_blocks text us b.1
  where
    by_sort : (s : UnitSort) → is_program s ≡ true
        → block_then text s v (blocks_among text us) ≡ blocks_among text us
    by_sort sorts.Program h = refl
    by_sort sorts.FunctionBlock h = absurd (cc)
    by_sort (sorts.Function t) h = refl

abbrev program_of_parts : List Function → List Block → List (Name × Name) → Owner → OrganisationUnit → Program
program_of_parts fs bs is owner u = record {
  library = record { functions = fs; blocks = bs };
  owner = owner;
  body = record { externals = externals_in u.blocks; instances = is; statements = stmts_of u.body };
}

pub plain_program_is : (text : Declared) (owner : Owner) (u : OrganisationUnit)
    → list_all (λ v. is_program v.sort) text.units ≡ true → instances_among text (sites_of_blocks u.blocks) ≡ []
    → program_of_unit text owner u ≡ plain_program owner u
plain_program_is text owner u h g =
    ap (λ fs. program_of_parts fs (blocks_among text text.units) (instances_among text (sites_of_blocks u.blocks))
    owner u)
    (no_functions text text.units h)
    ∙ ap (λ bs. program_of_parts [] bs (instances_among text (sites_of_blocks u.blocks)) owner u)
    (no_blocks text text.units h)
    ∙ ap (λ is. program_of_parts [] [] is owner u) g
