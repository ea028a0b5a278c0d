-- The programs of a linked text are linked.
use Rattle.std.proofs.Common.{◌≡◌, ℕ, zero, suc, ◌+◌, Bool, true, false, not, ◌&&◌, if◌then◌else◌, List, [], ◌∷◌}
use Rattle.std.proofs.Common.{◌++◌, map, slice_get, Option, Some, None, option_map, refl, sym, ap, ◌∙◌, subst}
use Rattle.std.proofs.Common.{append_assoc}
use Rattle.std.specs.Prelude.{bytes_eq}
use Rattle.std.specs.List.{list_all}
use Rattle.st_types.specs.declared.path.Owner.{Owner}
use Rattle.st_types.specs.declared.configuration.Instance.{Instance}
use Rattle.st_types.specs.declared.unit.UnitSort.{UnitSort}
use Rattle.st_types.specs.declared.unit.UnitSort.TheVariants as sorts
use Rattle.st_types.specs.Configurations.{Resource, Configuration}
use Rattle.st_types.specs.Units.{OrganisationUnit}
use Rattle.st_types.specs.Sources.{Source}
use Rattle.st_meaning.specs.NameTypes.{Declared, unit_named}
use Rattle.st_meaning.specs.Runs.{Program}
use Rattle.st_meaning.specs.Scopes.{Name}
use Rattle.st_meaning.specs.Slots.{Slot}
use Rattle.layout.specs.LayoutVariables.{Owned, owned_variable, sites_of_program, program_sites, owner_in}
use Rattle.layout.specs.LayoutVariables.{variables_of_globals, variables_of_instances, variables_of_resources}
use Rattle.layout.specs.LayoutVariables.{variables_of_configuration, declared_of, configuration_of}
use Rattle.layout.specs.Libraries.{program_of_unit, program_by_sort, program_if_there, programs_of_instances}
use Rattle.layout.specs.Libraries.{programs_of_resources, programs_of_configuration, programs_of_text}
use Rattle.layout.specs.Names.{are_different, names_of_sites, variable_names, has_different_variables}
use Rattle.layout.specs.Names.{has_different_fields, are_types_and_units_different, is_configuration_different}
use Rattle.layout.specs.VariableSlots.{is_variable, has_variable, are_declared_once, variable_at}
use Rattle.layout.specs.TextLayouts.{slots_of, slots_of_text, variable_shape, variable_path}
use Rattle.layout.specs.Types.{Site, NamedSite, site_named, sites_of_blocks}
use Rattle.layout.specs.Shapes.{is_sound, size}
use Rattle.layout.proofs.ListLemmas.{same_name}
use Rattle.layout.proofs.NameLemmas.{found_unit, configuration_once}
use Rattle.layout.proofs.VariableLemmas.{variable_is, variable_itself, variables_layout}
use Rattle.slot_trees.specs.SlotTrees.{SlotStmts, SlotLibrary}
use Rattle.slot_trees.specs.LinkedTexts.{IsProgramLink}
use Rattle.slot_trees.specs.TextNumbers.{numbers_of}
use Rattle.slot_trees.specs.TextLinks.{names_in, linked_library, symbols_of_program, linked_program}
use Rattle.slot_trees.specs.TextLinks.{linked_program_by_sort, linked_program_then, linked_instances, linked_resources}
use Rattle.slot_trees.specs.TextLinks.{linked_programs, LinkedText, text_with, linked_text}
use Rattle.slot_trees.specs.LinkedPrograms.{IsLinkOf, HasProgram}
use Rattle.slot_trees.specs.Orderly.{has_orderly_variables, are_units_orderly}
use Rattle.slot_trees.proofs.BlockLinks.{HasVariables, program_instances}
use Rattle.slot_trees.proofs.LibraryLinks.{linked_list, library_link}
use Rattle.slot_trees.proofs.ProgramTableLemmas.{program_names}
use Rattle.st_types.proofs.OptionLemmas.{some_is, map_some, then_some}
use Rattle.std.proofs.lemmas.Bool.{and_parts, or_left, or_right}
use Rattle.st_types.proofs.TestLemmas.{false_from_not}

-- one of a list
pub data Among {A : Type 0} : A → List A → Type 0 where
  here : {a : A} {rest : List A} → Among a (a ∷ rest)
  behind : {a b : A} {rest : List A} → Among a rest → Among a (b ∷ rest)

pub among_left : {A : Type 0} (a : A) (xs ys : List A) → Among a xs → Among a (xs ++ ys)
among_left {A = A} a [] ys h = elim h [ ]
among_left a (x ∷ xs) ys here = here
among_left a (x ∷ xs) ys (behind h) = behind (among_left a xs ys h)

pub among_right : {A : Type 0} (a : A) (xs ys : List A) → Among a ys → Among a (xs ++ ys)
among_right a [] ys h = h
among_right a (x ∷ xs) ys h = behind (among_right a xs ys h)

-- a variable of the layout is found by its owner and name
among_named : (v : Owned) (vs : List Owned) → Among v vs → has_variable vs v.owner v.name ≡ true
among_named v [] h = elim h [ ]
among_named v (w ∷ vs) here =
    or_left (is_variable v.owner v.name v) (has_variable vs v.owner v.name) (variable_itself v)
among_named v (w ∷ vs) (behind h) =
    or_right (is_variable v.owner v.name w) (has_variable vs v.owner v.name) (among_named v vs h)

module _ (text : Declared) where
  first_found : (v : Owned) (vs : List Owned) → variable_at text (v ∷ vs) v.owner v.name ≡ Some (0, v)
  first_found v vs = rw (variable_itself v) refl

  later_found : (v w : Owned) (vs : List Owned) → Among v vs → has_variable vs w.owner w.name ≡ false
      → ((k : ℕ) × (variable_at text vs v.owner v.name ≡ Some (k, v))) → (b : Bool) → is_variable v.owner v.name w ≡ b
      → (k : ℕ) × (variable_at text (w ∷ vs) v.owner v.name ≡ Some (k, v))
  later_found v w vs h apart found true e =
      let s : variable_path v ≡ variable_path w = variable_is v.owner v.name w e in
      let there : has_variable vs w.owner w.name ≡ true =
      subst (λ p. has_variable vs p.owner p.name ≡ true) s (among_named v vs h) in
      absurd (cc)
  later_found v w vs h apart found false e =
      let at = found.1 in (size (variable_shape text w) + found.0, rw (e, at) refl)

  pub variable_found : (vs : List Owned) → are_declared_once text vs ≡ true → (v : Owned) → Among v vs
      → (k : ℕ) × (variable_at text vs v.owner v.name ≡ Some (k, v))
  variable_found [] once v h = elim h [ ]
  variable_found (w ∷ vs) once v here = (0, first_found v vs)
  variable_found (w ∷ vs) once v (behind h) =
      let a = and_parts (not (has_variable vs w.owner w.name))
      (is_sound (variable_shape text w) && are_declared_once text vs) once in
      let b = and_parts (is_sound (variable_shape text w)) (are_declared_once text vs) a.1 in
      later_found v w vs h (false_from_not (has_variable vs w.owner w.name) a.0) (variable_found vs b.1 v h)
      (is_variable v.owner v.name w) refl

-- the variable of a site
pub site_among : (o : Option Owner) (ds : List NamedSite) (x : Name) (s : Site) → site_named ds x ≡ Some s
    → Among (owned_variable o (record { name = x; site = s })) (map (owned_variable o) ds)
site_among o [] x s h = absurd (cc)
site_among o (d ∷ ds) x s h = by_test (bytes_eq x d.name) refl h (site_among o ds x s)
  where
    by_test : (b : Bool) → bytes_eq x d.name ≡ b → (if b then Some d.site else site_named ds x) ≡ Some s
        → (site_named ds x ≡ Some s
        → Among (owned_variable o (record { name = x; site = s })) (map (owned_variable o) ds))
        → Among (owned_variable o (record { name = x; site = s })) (map (owned_variable o) (d ∷ ds))
    by_test true e g ih =
        subst
        (λ y. Among (owned_variable o (record { name = y; site = s })) (map (owned_variable o) (d ∷ ds)))
        (sym (same_name x d.name e))
        (subst
        (λ t. Among (owned_variable o (record { name = d.name; site = t })) (map (owned_variable o) (d ∷ ds)))
        (some_is g) here)
    by_test false e g ih = behind (ih g)

-- a property of all units holds for one that is found
found_orderly : (p : OrganisationUnit → Bool) (us : List OrganisationUnit) → list_all p us ≡ true → (x : Name)
    (u : OrganisationUnit) → unit_named us x ≡ Some u → p u ≡ true
found_orderly p [] all x u h = absurd (cc)
found_orderly p (v ∷ us) all x u h =
    let b = and_parts (p v) (list_all p us) all in
    by_test (bytes_eq x v.name.name) h b.0 (found_orderly p us b.1 x u)
  where
    by_test : (b : Bool) → (if b then Some v else unit_named us x) ≡ Some u → p v ≡ true
        → (unit_named us x ≡ Some u → p u ≡ true) → p u ≡ true
    by_test true g first ih = ap p (sym (some_is g)) ∙ first
    by_test false g first ih = ih g

-- programs with their bodies, in order
data AreLinked (layout : List Slot) (code : SlotLibrary) : List Program → List SlotStmts → Type 0 where
  none : AreLinked layout code [] []
  one_then : {p : Program} {b : SlotStmts} {ps : List Program} {bs : List SlotStmts}
      → IsProgramLink layout p 0 code b → AreLinked layout code ps bs → AreLinked layout code (p ∷ ps) (b ∷ bs)

has_program : (layout : List Slot) (code : SlotLibrary) (n : ℕ) (p : Program) (ps : List Program)
    (bs : List SlotStmts) → AreLinked layout code ps bs → slice_get ps n ≡ Some p
    → (b : SlotStmts) × (slice_get bs n ≡ Some b) × IsProgramLink layout p 0 code b
has_program layout code n p [] [] none h = absurd (cc)
has_program layout code n p [] (b ∷ bs) l h = elim l [ ]
has_program layout code n p (q ∷ ps) [] l h = elim l [ ]
has_program layout code zero p (q ∷ ps) (b ∷ bs) (one_then link rest) h =
    (b, refl, subst (λ r. IsProgramLink layout r 0 code b) (some_is h) link)
has_program layout code (suc n) p (q ∷ ps) (b ∷ bs) (one_then link rest) h =
    has_program layout code n p ps bs rest h

module _ (text : Declared) (vs : List Owned) (code : SlotLibrary)
    (once : are_declared_once text vs ≡ true) (differ : are_types_and_units_different text ≡ true)
    (orderly : are_units_orderly text ≡ true) (h : linked_library text vs ≡ Some code) where
  abbrev Linked : List Program → List SlotStmts → Type 0
  Linked ps bs = AreLinked (slots_of text vs) code ps bs

  abbrev AreThere : List Owned → Type 0
  AreThere us = (v : Owned) → Among v us → Among v vs

  has_variables : (owner : Owner) (u : OrganisationUnit)
      → AreThere (map (owned_variable (Some owner)) (sites_of_blocks u.blocks)) → HasVariables text u vs owner
  has_variables owner u there x s g =
      variable_found text vs once (owned_variable (Some owner) (record { name = x; site = s }))
      (there (owned_variable (Some owner) (record { name = x; site = s }))
      (site_among (Some owner) (sites_of_blocks u.blocks) x s g))

  units_differ : list_all has_different_variables text.units ≡ true
  units_differ =
      (and_parts (list_all (λ t. has_different_fields t.definition) text.types)
      (list_all has_different_variables text.units) differ).1

  program_link : (owner : Owner) (x : Name) (u : OrganisationUnit) (body : SlotStmts)
      → unit_named text.units x ≡ Some u → are_different (names_of_sites (sites_of_blocks u.blocks)) ≡ true
      → AreThere (map (owned_variable (Some owner)) (sites_of_blocks u.blocks))
      → linked_program text vs owner u ≡ Some body
      → IsProgramLink (slots_of text vs) (program_of_unit text owner u) 0 code body
  program_link owner x u body named apart there l = record {
    distinct = variables_layout text vs once;
    numbers = numbers_of text;
    symbols = symbols_of_program text vs owner u;
    library = library_link text vs code once differ orderly h;
    names = program_names text vs once (program_of_unit text owner u) (names_in u.blocks) 0;
    instances = program_instances text u apart
        (found_orderly (has_orderly_variables text) text.units orderly x u named) vs owner
        (has_variables owner u there);
    linked = l;
  }

  by_sort : (owner : Owner) (x : Name) (u : OrganisationUnit) (ps : List Program) (rest : Option (List SlotStmts))
      (bodies : List SlotStmts) → unit_named text.units x ≡ Some u
      → ((bs : List SlotStmts) → rest ≡ Some bs → Linked ps bs) → (s : UnitSort)
      → are_different (variable_names s u) ≡ true
      → AreThere (map (owned_variable (Some owner)) (sites_of_program s u.blocks))
      → linked_program_by_sort text vs owner s u rest ≡ Some bodies
      → Linked (program_by_sort text owner s u ++ ps) bodies
  by_sort owner x u ps rest bodies named ih sorts.Program apart there l =
      let p = linked_list (linked_program text vs owner u) rest bodies l in
      subst (λ bs. Linked (program_of_unit text owner u ∷ ps) bs) p.all
      (one_then (program_link owner x u p.first named apart there p.first_is) (ih p.others p.others_are))
  by_sort owner x u ps rest bodies named ih sorts.FunctionBlock apart there l = ih bodies l
  by_sort owner x u ps rest bodies named ih (sorts.Function t) apart there l = ih bodies l

  if_there : (owner : Owner) (x : Name) (ps : List Program) (rest : Option (List SlotStmts)) (bodies : List SlotStmts)
      → ((bs : List SlotStmts) → rest ≡ Some bs → Linked ps bs) → (o : Option OrganisationUnit)
      → unit_named text.units x ≡ o → AreThere (map (owned_variable (Some owner)) (program_sites o))
      → linked_program_then text vs owner o rest ≡ Some bodies → Linked (program_if_there text owner o ++ ps) bodies
  if_there owner x ps rest bodies ih None named there l = ih bodies l
  if_there owner x ps rest bodies ih (Some u) named there l =
      by_sort owner x u ps rest bodies named ih u.sort (found_unit text.units units_differ x u named) there l

  instances_linked : (r : Name) (is : List Instance) (ps : List Program) (rest : Option (List SlotStmts))
      (bodies : List SlotStmts) → ((bs : List SlotStmts) → rest ≡ Some bs → Linked ps bs)
      → AreThere (variables_of_instances text r is) → linked_instances text vs r is rest ≡ Some bodies
      → Linked (programs_of_instances text r is ++ ps) bodies
  instances_linked r [] ps rest bodies ih there l = ih bodies l
  instances_linked r (i ∷ is) ps rest bodies ih there l =
      let own = map (owned_variable (Some (owner_in r i))) (program_sites (unit_named text.units i.program.name)) in
      let others = variables_of_instances text r is in
      let first = program_if_there text (owner_in r i) (unit_named text.units i.program.name) in
      subst (λ qs. Linked qs bodies) (sym (append_assoc first (programs_of_instances text r is) ps))
      (if_there (owner_in r i) i.program.name (programs_of_instances text r is ++ ps)
      (linked_instances text vs r is rest) bodies
      (λ bs g. instances_linked r is ps rest bs ih (λ v a. there v (among_right v own others a)) g)
      (unit_named text.units i.program.name) refl (λ v a. there v (among_left v own others a)) l)

  resources_linked : (rs : List Resource) (bodies : List SlotStmts) → AreThere (variables_of_resources text rs)
      → linked_resources text vs rs ≡ Some bodies → Linked (programs_of_resources text rs) bodies
  resources_linked [] [] there l = none
  resources_linked [] (b ∷ bodies) there l = absurd (let e : [] ≡ b ∷ bodies = some_is l in cc)
  resources_linked (r ∷ rs) bodies there l =
      let own = variables_of_instances text r.name.name r.instances in
      let others = variables_of_resources text rs in
      instances_linked r.name.name r.instances (programs_of_resources text rs) (linked_resources text vs rs) bodies
      (λ bs g. resources_linked rs bs (λ v a. there v (among_right v own others a)) g)
      (λ v a. there v (among_left v own others a)) l

programs_linked : (text : Declared) (c : Option Configuration) (code : SlotLibrary) (bodies : List SlotStmts)
    → are_types_and_units_different text ≡ true → is_configuration_different c ≡ true → are_units_orderly text ≡ true
    → linked_library text (variables_of_configuration text c) ≡ Some code
    → linked_programs text (variables_of_configuration text c) c ≡ Some bodies
    → AreLinked (slots_of text (variables_of_configuration text c)) code (programs_of_configuration text c) bodies
programs_linked text None code [] differ apart orderly h l = none
programs_linked text None code (b ∷ bodies) differ apart orderly h l =
    absurd (let e : [] ≡ b ∷ bodies = some_is l in cc)
programs_linked text (Some c) code bodies differ apart orderly h l =
    resources_linked text (variables_of_configuration text (Some c)) code
    (configuration_once text differ (Some c) apart) differ orderly h c.resources bodies
    (λ v a. among_right v (variables_of_globals c.globals) (variables_of_resources text c.resources) a) l

pub text_link : (text : Declared) (c : Option Configuration) (linked : LinkedText)
    → are_types_and_units_different text ≡ true → is_configuration_different c ≡ true → are_units_orderly text ≡ true
    → linked_text text (variables_of_configuration text c) c ≡ Some linked → (n : ℕ) (p : Program)
    → slice_get (programs_of_configuration text c) n ≡ Some p
    → HasProgram (slots_of text (variables_of_configuration text c)) linked n p
text_link text c linked differ apart orderly h n p g =
    let vs = variables_of_configuration text c in
    let t = then_some (λ code. option_map (text_with code) (linked_programs text vs c)) (linked_library text vs) linked
    h in
    let m = map_some (text_with t.0) (linked_programs text vs c) linked t.2 in
    let d = has_program (slots_of text vs) t.0 n p (programs_of_configuration text c) m.0
    (programs_linked text c t.0 m.0 differ apart orderly t.1 m.1) g in
    subst (λ l. HasProgram (slots_of text vs) l n p) m.2 (record { body = d.0; there = d.1; link = d.2 })

pub source_link : (source : Source) (linked : LinkedText) → IsLinkOf source linked → (n : ℕ) (p : Program)
    → slice_get (programs_of_text source) n ≡ Some p → HasProgram (slots_of_text source) linked n p
source_link source linked h n p g =
    let b = and_parts (are_types_and_units_different (declared_of source))
    (is_configuration_different (configuration_of source)) h.names in
    text_link (declared_of source) (configuration_of source) linked b.0 b.1 h.units h.is n p g

-- the body that has a program's number is linked to it
pub program_of_source : (source : Source) (linked : LinkedText) → IsLinkOf source linked → (n : ℕ) (p : Program)
    (body : SlotStmts) → slice_get (programs_of_text source) n ≡ Some p → slice_get linked.programs n ≡ Some body
    → IsProgramLink (slots_of_text source) p 0 linked.library body
program_of_source source linked h n p body g l =
    let d = source_link source linked h n p g in
    subst (λ b. IsProgramLink (slots_of_text source) p 0 linked.library b) (some_is (sym d.there ∙ l)) d.link
