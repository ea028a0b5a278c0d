-- Units linked by their tables.
use Rattle.std.proofs.Common.{◌≡◌, refl, sym, ap, subst, ◌∙◌, arith, ℕ, ◌+◌, ◌≤◌, List, [], ◌∷◌, ◌++◌, map, Bool}
use Rattle.std.proofs.Common.{true, false, Option, Some, None, ◌<◌, ◌&&◌}
use Rattle.std.specs.Prelude.{nat_lt, not, option_map, option_and_then}
use Rattle.std.proofs.lemmas.Bool.Decides.{nat_tests}
use Rattle.st_types.specs.declared.limits.TheConstants.{MAX_PATHS}
use Rattle.st_types.specs.declared.path.Owner.{Owner}
use Rattle.st_types.specs.declared.configuration.Instance.{Instance}
use Rattle.st_types.specs.declared.data_type.SimpleType.{SimpleType}
use Rattle.st_types.specs.declared.unit.UnitSort.{UnitSort}
use Rattle.st_types.specs.declared.unit.UnitSort.TheVariants as units
use Rattle.st_types.specs.Configurations.{Configuration, Resource}
use Rattle.st_types.specs.Units.{OrganisationUnit}
use Rattle.st_meaning.specs.Bodies.{externals_in}
use Rattle.st_meaning.specs.NameTypes.{Declared, unit_named}
use Rattle.st_meaning.specs.Scopes.{Name}
use Rattle.layout.specs.LayoutVariables.{Owned, owner_in}
use Rattle.layout.specs.Instances.{OwnedProgram, instance_on}
use Rattle.layout.specs.Instances as layouts
use Rattle.layout.specs.Libraries.{body_of_unit}
use Rattle.layout.specs.Shapes.{size, sizes}
use Rattle.layout.specs.Types.{NamedSite, parts_of, shape_of_type, sites_of_blocks}
use Rattle.layout.specs.Sizes.{capped_size}
use Rattle.slot_trees.specs.SlotTrees.{Anchor, SlotStmts, absolute, own}
use Rattle.slot_trees.specs.LinkedTexts.{table_of}
use Rattle.slot_trees.specs.Tables.{Table}
use Rattle.slot_trees.specs.TextLinks.{linked_instances, linked_program, linked_program_by_sort, linked_program_then}
use Rattle.slot_trees.specs.TextLinks.{linked_programs, linked_resources}
use Rattle.slot_trees.specs.TextLinks.{linked_then, symbols_of_block, symbols_of_function, symbols_of_program}
use Rattle.slot_trees.specs.TextNumbers.{members_of_block, numbers_of}
use Rattle.st_link.specs.FirstSlots.{slots_taken}
use Rattle.st_link.specs.Gathered.{gathered}
use Rattle.st_link.specs.KeptTexts.{block_fits, kept_block, kept_block_then, kept_blocks, kept_function}
use Rattle.st_link.specs.KeptTexts.{kept_function_then, kept_functions, kept_if}
use Rattle.st_link.specs.Linked.{alone, blocks_by, blocks_of, functions_by, functions_of, if_program, program_unit}
use Rattle.st_link.specs.Linked.{programs_by, programs_of}
use Rattle.st_link.specs.Orderly.{instances_of}
use Rattle.st_link.specs.LinkVariables.{LinkVariable, of_site, result_of, variables_of_blocks}
use Rattle.st_link.specs.Tables.{AreGlobals, BeginAt, IsUnitTable}
use Rattle.st_link.proofs.UnitInstances.{instances_seen}
use Rattle.st_link.proofs.SiteLemmas.{sites_seen}
use Rattle.st_link.proofs.UnitSymbols.{block_symbols_are, function_symbols_are, program_symbols_are}
use Rattle.st_link.specs.Tables.{instances_in}
use Rattle.layout.specs.Libraries.{instances_among}
use Rattle.std.proofs.lemmas.Bool.{and_from}

pub unit_instances : (text : Declared) (u : OrganisationUnit)
    → instances_among text (sites_of_blocks u.blocks) ≡ instances_in text (variables_of_blocks u.blocks)
unit_instances text u =
    instances_seen text (sites_of_blocks u.blocks) ∙ ap (instances_in text) (sites_seen u.blocks)

-- the tables of the definitions
pub block_table : (text : Declared) (vs : List Owned) (globals : List LinkVariable) (u : OrganisationUnit)
    → AreGlobals text vs globals
    → IsUnitTable text globals (externals_in u.blocks) (own 0) (variables_of_blocks u.blocks)
    (variables_of_blocks u.blocks)
    (table_of (numbers_of text) (symbols_of_block text vs u) (body_of_unit text u).instances)
block_table text vs globals u are = record {
  symbols = λ x. block_symbols_are text vs globals u x are;
  instances = unit_instances text u;
  functions = refl;
  blocks = refl;
}

pub program_table : (text : Declared) (vs : List Owned) (globals : List LinkVariable) (owner : Owner) (first : ℕ)
    (u : OrganisationUnit) → AreGlobals text vs globals → BeginAt text vs owner first (variables_of_blocks u.blocks)
    → IsUnitTable text globals (externals_in u.blocks) (absolute first) (variables_of_blocks u.blocks)
    (variables_of_blocks u.blocks)
    (table_of (numbers_of text) (symbols_of_program text vs owner u) (body_of_unit text u).instances)
program_table text vs globals owner first u are begin = record {
  symbols = λ x. program_symbols_are text vs globals owner first u x are begin;
  instances = unit_instances text u;
  functions = refl;
  blocks = refl;
}

pub function_table : (text : Declared) (globals : List LinkVariable) (t : SimpleType) (u : OrganisationUnit)
    → IsUnitTable text globals [] (own 0) (result_of u.name.name t ∷ variables_of_blocks u.blocks) []
    (table_of (numbers_of text) (symbols_of_function text t u) [])
function_table text globals t u = record {
  symbols = λ x. function_symbols_are text globals t u x;
  instances = refl;
  functions = refl;
  blocks = refl;
}

-- how many slots the members of a block take
sizes_taken : (text : Declared) (ds : List NamedSite)
    → sizes (parts_of (shape_of_type text) ds) ≡ slots_taken text (map of_site ds)
sizes_taken text [] = refl
sizes_taken text (d ∷ ds) = ap (λ n. size (shape_of_type text d.site.declared) + n) (sizes_taken text ds)

pub members_taken : (text : Declared) (u : OrganisationUnit)
    → sizes (members_of_block text u) ≡ slots_taken text (variables_of_blocks u.blocks)
members_taken text u = sizes_taken text (sites_of_blocks u.blocks) ∙ ap (slots_taken text) (sites_seen u.blocks)

too_many : (n : ℕ) → MAX_PATHS + 1 ≤ n → nat_lt MAX_PATHS n ≡ true
too_many n h = grind (arith, nat_tests)

not_too_many : (n : ℕ) → n ≤ MAX_PATHS → nat_lt MAX_PATHS n ≡ false
not_too_many n h = grind (arith, nat_tests)

pub block_large : (text : Declared) (u : OrganisationUnit)
    → MAX_PATHS + 1 ≤ slots_taken text (variables_of_blocks u.blocks) → block_fits text u ≡ false
block_large text u h =
    ap (λ n. not (nat_lt MAX_PATHS n)) (members_taken text u)
    ∙ ap not (too_many (slots_taken text (variables_of_blocks u.blocks)) h)

pub block_small : (text : Declared) (u : OrganisationUnit)
    → slots_taken text (variables_of_blocks u.blocks) ≤ MAX_PATHS → block_fits text u ≡ true
block_small text u h =
    ap (λ n. not (nat_lt MAX_PATHS n)) (members_taken text u)
    ∙ ap not (not_too_many (slots_taken text (variables_of_blocks u.blocks)) h)

-- the units that are kept
pub kept_there : {A : Type 0} (b : Bool) (o : Option A) (x : A) → b ≡ true → o ≡ Some x → kept_if b o ≡ Some (Some x)
kept_there b o x h is = ap (λ c. kept_if c o) h ∙ ap (λ p. option_map (λ y. Some y) p) is

pub kept_nowhere : {A : Type 0} (b : Bool) (o : Option A) → b ≡ true → o ≡ None → kept_if b o ≡ None
kept_nowhere b o h is = ap (λ c. kept_if c o) h ∙ ap (λ p. option_map (λ y. Some y) p) is

pub kept_out : {A : Type 0} (b : Bool) (o : Option A) → b ≡ false → kept_if b o ≡ Some None
kept_out b o h = ap (λ c. kept_if c o) h

-- lists of units
then_alone : {A : Type 0} (o : Option A) (rest rest' : Option (List A)) → rest ≡ rest'
    → linked_then o rest ≡ option_and_then (λ ys. option_map (λ zs. ys ++ zs) rest') (alone o)
then_alone None rest rest' e = refl
then_alone (Some y) rest rest' e = ap (option_map (λ ys. y ∷ ys)) e

rest_alone : {A : Type 0} (rest rest' : Option (List A)) → rest ≡ rest'
    → rest ≡ option_map (λ zs. [] ++ zs) rest'
rest_alone rest None e = e
rest_alone rest (Some ys) e = e

pub functions_gathered : (called : Name → Bool) (text : Declared) (us : List OrganisationUnit)
    → kept_functions called text us ≡ gathered (functions_of called text) us
functions_gathered called text [] = refl
functions_gathered called text (u ∷ us) = by_sort u.sort (functions_gathered called text us)
  where
    by_sort : (s : UnitSort) → kept_functions called text us ≡ gathered (functions_of called text) us
        → kept_function_then called text s u (kept_functions called text us)
        ≡ option_and_then (λ ys. option_map (λ zs. ys ++ zs) (gathered (functions_of called text) us))
        (functions_by called text s u)
    by_sort (units.Function t) ih =
        then_alone (kept_function called text t u) (kept_functions called text us)
        (gathered (functions_of called text) us) ih
    by_sort units.FunctionBlock ih =
        rest_alone (kept_functions called text us) (gathered (functions_of called text) us) ih
    by_sort units.Program ih = rest_alone (kept_functions called text us) (gathered (functions_of called text) us) ih

pub blocks_gathered : (text : Declared) (vs : List Owned) (us : List OrganisationUnit)
    → kept_blocks text vs us ≡ gathered (blocks_of text vs) us
blocks_gathered text vs [] = refl
blocks_gathered text vs (u ∷ us) = by_sort u.sort (blocks_gathered text vs us)
  where
    by_sort : (s : UnitSort) → kept_blocks text vs us ≡ gathered (blocks_of text vs) us
        → kept_block_then text vs s u (kept_blocks text vs us)
        ≡ option_and_then (λ ys. option_map (λ zs. ys ++ zs) (gathered (blocks_of text vs) us)) (blocks_by text vs s u)
    by_sort units.FunctionBlock ih =
        then_alone (kept_block text vs u) (kept_blocks text vs us) (gathered (blocks_of text vs) us) ih
    by_sort (units.Function t) ih = rest_alone (kept_blocks text vs us) (gathered (blocks_of text vs) us) ih
    by_sort units.Program ih = rest_alone (kept_blocks text vs us) (gathered (blocks_of text vs) us) ih

-- the programs of instances
module _ (text : Declared) (vs : List Owned) where
  abbrev give : OwnedProgram → Option (List SlotStmts)
  give = programs_of text vs

  by_unit : (owner : Owner) (s : UnitSort) (u : OrganisationUnit) (rest rest' : Option (List SlotStmts)) → rest ≡ rest'
      → linked_program_by_sort text vs owner s u rest
      ≡ option_and_then (λ ys. option_map (λ zs. ys ++ zs) rest') (programs_by text vs owner (if_program s u))
  by_unit owner units.Program u rest rest' e = then_alone (linked_program text vs owner u) rest rest' e
  by_unit owner units.FunctionBlock u rest rest' e = rest_alone rest rest' e
  by_unit owner (units.Function t) u rest rest' e = rest_alone rest rest' e

  by_named : (owner : Owner) (o : Option OrganisationUnit) (rest rest' : Option (List SlotStmts)) → rest ≡ rest'
      → linked_program_then text vs owner o rest
      ≡ option_and_then (λ ys. option_map (λ zs. ys ++ zs) rest') (programs_by text vs owner (program_unit o))
  by_named owner None rest rest' e = rest_alone rest rest' e
  by_named owner (Some u) rest rest' e = by_unit owner u.sort u rest rest' e

  instances_linked : (r : Name) (is : List Instance) (ps : List OwnedProgram) (rest : Option (List SlotStmts))
      → rest ≡ gathered give ps
      → linked_instances text vs r is rest ≡ gathered give (map (instance_on r) is ++ ps)
  instances_linked r [] ps rest e = e
  instances_linked r (i ∷ is) ps rest e =
      by_named (owner_in r i) (unit_named text.units i.program.name) (linked_instances text vs r is rest)
      (gathered give (map (instance_on r) is ++ ps)) (instances_linked r is ps rest e)

  resources_linked : (rs : List Resource) → linked_resources text vs rs ≡ gathered give (layouts.instances_in rs)
  resources_linked [] = refl
  resources_linked (r ∷ rs) =
      instances_linked r.name.name r.instances (layouts.instances_in rs) (linked_resources text vs rs)
      (resources_linked rs)

  pub programs_gathered : (c : Option Configuration)
      → linked_programs text vs c ≡ gathered give (instances_of c)
  programs_gathered None = refl
  programs_gathered (Some c) = resources_linked c.resources

-- a table over lists of the code
pub table_seen : (text : Declared) (globals : List LinkVariable) (base : Anchor) (t : Table) (exts es : List Name)
    (vs ws ms is : List LinkVariable) → exts ≡ es → vs ≡ ws → ms ≡ is → IsUnitTable text globals es base ws is t
    → IsUnitTable text globals exts base vs ms t
table_seen text globals base t exts es vs ws ms is e v o table =
    subst (λ xs. IsUnitTable text globals xs base vs ms t) (sym e)
    (subst (λ xs. IsUnitTable text globals es base xs ms t) (sym v)
    (subst (λ xs. IsUnitTable text globals es base ws xs t) (sym o) table))

pub cut_small : (s n : ℕ) → s ≡ capped_size n → s ≤ MAX_PATHS → n ≤ MAX_PATHS
cut_small s n is small = grind (arith)

pub cut_large : (s n : ℕ) → s ≡ capped_size n → MAX_PATHS < s → MAX_PATHS + 1 ≤ n
cut_large s n is large = grind (arith)
