-- As many programs are linked as the text has, and there are as many codes.
use Rattle.std.proofs.Common.{◌≡◌, refl, sym, ap, ◌∙◌, ℕ, suc, ◌+◌, arith, List, [], ◌∷◌, length, Option}
use Rattle.std.proofs.Common.{Some, None, option_map, length-append}
use Rattle.st_types.specs.declared.kind.Kind.{Kind}
use Rattle.st_types.specs.declared.path.Owner.{Owner}
use Rattle.st_types.specs.declared.configuration.Instance.{Instance}
use Rattle.st_types.specs.declared.unit.UnitSort.{UnitSort}
use Rattle.st_types.specs.declared.unit.UnitSort.TheVariants as sorts
use Rattle.st_types.specs.Configurations.{Configuration, Resource}
use Rattle.st_types.specs.Sources.{Source}
use Rattle.st_types.specs.Units.{OrganisationUnit}
use Rattle.st_meaning.specs.NameTypes.{Declared, unit_named}
use Rattle.st_meaning.specs.Scopes.{Name}
use Rattle.layout.specs.LayoutVariables.{Owned, configuration_of, declared_of, layout_variables, owner_in}
use Rattle.layout.specs.Libraries.{program_by_sort, program_if_there, programs_of_configuration}
use Rattle.layout.specs.Libraries.{programs_of_instances, programs_of_resources, programs_of_text}
use Rattle.slot_trees.specs.SlotTrees.{SlotLibrary, SlotStmts}
use Rattle.slot_trees.specs.TextLinks.{LinkedText, linked_instances, linked_library, linked_program}
use Rattle.slot_trees.specs.TextLinks.{linked_program_by_sort, linked_program_then, linked_programs, linked_resources}
use Rattle.slot_trees.specs.TextLinks.{linked_source, text_with}
use Rattle.slot_trees.proofs.LibraryLinks.{linked_list}
use Rattle.slot_code.specs.Codes.{CodeView}
use Rattle.config.specs.Codes.{AreCodesOver}
use Rattle.st_types.proofs.OptionLemmas.{map_some, then_some}

-- a list that exists has this number of elements
abbrev Counts : Option (List SlotStmts) → ℕ → Type 0
Counts o n = (bodies : List SlotStmts) → o ≡ Some bodies → length bodies ≡ n

module _ (text : Declared) (vs : List Owned) where
  by_sort : (owner : Owner) (u : OrganisationUnit) (rest : Option (List SlotStmts)) (n : ℕ) → Counts rest n
      → (s : UnitSort)
      → Counts (linked_program_by_sort text vs owner s u rest) (length (program_by_sort text owner s u) + n)
  by_sort owner u rest n counted sorts.Program bodies linked =
      let p = linked_list (linked_program text vs owner u) rest bodies linked in
      let others = counted p.others p.others_are in
      let all : suc (length p.others) ≡ length bodies = ap length p.all in
      omega (arith, others, all)
  by_sort owner u rest n counted sorts.FunctionBlock bodies linked =
      let all = counted bodies linked in omega (arith, all)
  by_sort owner u rest n counted (sorts.Function t) bodies linked =
      let all = counted bodies linked in omega (arith, all)

  if_there : (owner : Owner) (rest : Option (List SlotStmts)) (n : ℕ) → Counts rest n → (o : Option OrganisationUnit)
      → Counts (linked_program_then text vs owner o rest) (length (program_if_there text owner o) + n)
  if_there owner rest n counted None bodies linked = let all = counted bodies linked in omega (arith, all)
  if_there owner rest n counted (Some u) bodies linked = by_sort owner u rest n counted u.sort bodies linked

  instances_counted : (r : Name) (is : List Instance) (rest : Option (List SlotStmts)) (n : ℕ) → Counts rest n
      → Counts (linked_instances text vs r is rest) (length (programs_of_instances text r is) + n)
  instances_counted r [] rest n counted bodies linked = let all = counted bodies linked in omega (arith, all)
  instances_counted r (i ∷ is) rest n counted bodies linked =
      let o = unit_named text.units i.program.name in
      let first = program_if_there text (owner_in r i) o in
      let others = programs_of_instances text r is in
      let all = if_there (owner_in r i) (linked_instances text vs r is rest) (length others + n)
      (instances_counted r is rest n counted) o bodies linked in
      let both = length-append first others in
      omega (arith, all, both)

  resources_counted : (rs : List Resource) → Counts (linked_resources text vs rs) (length (programs_of_resources text rs))
  resources_counted [] = λ bodies linked. let same : [] ≡ bodies = cc in ap length (sym same)
  resources_counted (r ∷ rs) = λ bodies linked.
      let first = programs_of_instances text r.name.name r.instances in
      let others = programs_of_resources text rs in
      let all = instances_counted r.name.name r.instances (linked_resources text vs rs) (length others)
      (resources_counted rs) bodies linked in
      let both = length-append first others in
      omega (arith, all, both)

  programs_counted : (c : Option Configuration)
      → Counts (linked_programs text vs c) (length (programs_of_configuration text c))
  programs_counted None = λ bodies linked. let same : [] ≡ bodies = cc in ap length (sym same)
  programs_counted (Some c) = resources_counted c.resources

pub linked_counted : (source : Source) (whole : LinkedText) → linked_source source ≡ Some whole
    → length whole.programs ≡ length (programs_of_text source)
linked_counted source whole h =
    let text = declared_of source in
    let vs = layout_variables source in
    let programs = linked_programs text vs (configuration_of source) in
    let l = then_some (λ library. option_map (text_with library) programs) (linked_library text vs) whole h in
    let p = map_some (text_with l.0) programs whole l.2 in
    ap (λ (w : LinkedText). length w.programs) (sym p.2)
    ∙ programs_counted text vs (configuration_of source) p.0 p.1

pub codes_counted : (library : SlotLibrary) (kinds : List Kind) (bodies : List SlotStmts) (codes : List CodeView)
    → AreCodesOver library kinds bodies codes → length codes ≡ length bodies
codes_counted library kinds [] [] h = refl
codes_counted library kinds [] (c ∷ codes) h = absurd h
codes_counted library kinds (b ∷ bodies) [] h = absurd h
codes_counted library kinds (b ∷ bodies) (c ∷ codes) h = ap suc (codes_counted library kinds bodies codes h.1)
