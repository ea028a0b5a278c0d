-- Single calls of all called functions begin with no more values than the calls in the code of the programs.
use Rattle.std.proofs.Common.{◌≡◌, refl, sym, ap, subst, ◌∙◌, arith, ℕ, suc, ◌+◌, ◌≤◌, Bool, true, false}
use Rattle.std.proofs.Common.{if◌then◌else◌, List, [], ◌∷◌, map, length, length-append, Some, None}
use Rattle.std.proofs.Common.{slice_get, option_map, option_and_then}
use Rattle.std.specs.Prelude.{bytes_eq, nat_lt}
use Rattle.std.proofs.Math.ListN.{length-map}
use Rattle.st_types.specs.declared.limits.TheConstants.{MAX_PATHS}
use Rattle.st_types.specs.declared.data_type.SimpleType.{SimpleType}
use Rattle.st_types.specs.declared.unit.UnitSort.{UnitSort}
use Rattle.st_types.specs.declared.unit.UnitSort.TheVariants as sorts
use Rattle.st_types.specs.Sources as sources
use Rattle.st_types.specs.Sources.{Source}
use Rattle.st_types.specs.Statements.{stmts_of}
use Rattle.st_types.specs.Units.{OrganisationUnit}
use Rattle.st_meaning.specs.NameTypes.{Declared, units_in}
use Rattle.st_meaning.specs.ResolvedUnits.{resolved}
use Rattle.st_meaning.specs.Scopes.{Name}
use Rattle.st_rules.specs.NameScopes.{names_of_element, names_of_text}
use Rattle.st_rules.specs.Places.{repeats}
use Rattle.layout.specs.LayoutVariables.{owned_variable}
use Rattle.layout.specs.Libraries.{body_of_unit, fresh_values, input_names}
use Rattle.layout.specs.Shapes.{size}
use Rattle.layout.specs.TextLayouts.{leaves_of_variable, slot_of_leaf}
use Rattle.layout.specs.TextLayouts.{slots_of, slots_of_variable, variable_shape}
use Rattle.layout.specs.Types.{NamedSite, shape_of_type}
use Rattle.layout.proofs.LeafLemmas.{length_leaves}
use Rattle.layout.proofs.ListLemmas.{name_itself}
use Rattle.st_link.proofs.Among.{Among, here, later, in_flat}
use Rattle.st_link.proofs.ApartNames.{names_apart, repeats_behind, turned}
use Rattle.st_link.proofs.FoundNames.{unit_in}
use Rattle.slot_trees.specs.SlotTrees.{SlotFunction, SlotLibrary}
use Rattle.slot_trees.specs.LinkedTexts.{values_of_fresh}
use Rattle.slot_trees.specs.Tables.{named_in}
use Rattle.slot_trees.specs.TextLinks.{call_slot, call_slots, function_with, linked_function, linked_function_body}
use Rattle.slot_trees.specs.TextLinks.{linked_function_then, linked_functions, sites_of_call, symbols_of_function}
use Rattle.slot_trees.specs.TextNumbers.{function_name_then, function_names, numbered_from}
use Rattle.slot_trees.proofs.FunctionLayouts.{fresh_layout}
use Rattle.slot_trees.proofs.LibraryLinks.{linked_list}
use Rattle.st_link.specs.FirstSlots.{slots_taken}
use Rattle.st_link.specs.LinkVariables.{of_site, result_of, variables_of_blocks}
use Rattle.st_link.specs.CalledFunctions.{if_room, values_by, values_of_call, values_of_units}
use Rattle.st_link.proofs.SiteLemmas.{sites_seen}
use Rattle.config.proofs.CallSums.{sum_from, sum_further, sum_beside}
use Rattle.config.proofs.CallLengths.{values_at, values_of_function}
use Rattle.config.proofs.InstanceNames.{of_map}
use Rattle.st_types.proofs.OptionLemmas.{map_some, then_some}
use Rattle.std.proofs.lemmas.Bool.{false_from_ne_true}

-- a call has a value for each slot of its variables
slots_long : (text : Declared) (ds : List NamedSite)
    → length (slots_of text (map (owned_variable None) ds)) ≡ slots_taken text (map of_site ds)
slots_long text [] = refl
slots_long text (d ∷ ds) =
    let v = owned_variable None d in
    let all = length-append (slots_of_variable text v) (slots_of text (map (owned_variable None) ds)) in
    let own : length (slots_of_variable text v) ≡ size (shape_of_type text d.site.declared) =
    length-map (leaves_of_variable text v) (slot_of_leaf v) ∙ length_leaves (variable_shape text v) in
    let rest = slots_long text ds in
    omega (arith, all, own, rest)

fresh_long : (text : Declared) (ds : List NamedSite)
    → length (values_of_fresh (fresh_values text ds)) ≡ slots_taken text (map of_site ds)
fresh_long text ds =
    length-map (fresh_values text ds) _ ∙ sym (length-map (fresh_values text ds) _)
    ∙ ap length (fresh_layout text ds) ∙ slots_long text ds

function_long : (text : Declared) (t : SimpleType) (u : OrganisationUnit) (f : SlotFunction)
    → linked_function text t u ≡ Some f
    → length f.fresh ≡ slots_taken text (result_of u.name.name t ∷ variables_of_blocks u.blocks)
function_long text t u f h =
    let symbols = symbols_of_function text t u in
    let body = linked_function_body text symbols (body_of_unit text u).instances (stmts_of u.body) in
    let a = then_some (λ inputs. option_and_then (λ result. option_map (function_with text t u inputs result) body)
    (call_slot symbols u.name.name)) (call_slots symbols (input_names u.blocks)) f h in
    let b = then_some (λ result. option_map (function_with text t u a.0 result) body)
    (call_slot symbols u.name.name) f a.2 in
    let c = map_some (function_with text t u a.0 b.0) body f b.2 in
    ap (λ (k : SlotFunction). length k.fresh) (sym c.2) ∙ fresh_long text (sites_of_call t u)
    ∙ ap (λ vs. slots_taken text (result_of u.name.name t ∷ vs)) (sites_seen u.blocks)

at_most_all : (n : ℕ) → if_room n ≤ n
at_most_all n = by_room (nat_lt MAX_PATHS n)
  where
    by_room : (b : Bool) → (if b then 0 else n) ≤ n
    by_room true = omega arith
    by_room false = omega arith

-- no two units have the same name
abbrev pub Differ : List OrganisationUnit → Type 0
Differ [] = Unit {0}
Differ (v ∷ us) = ((u : OrganisationUnit) → Among u us → bytes_eq u.name.name v.name.name ≡ false) × Differ us

pub units_differ : (source : Source) → repeats (names_of_text source) ≡ [] → Differ (units_in source)
units_differ [] h = tt
units_differ (sources.types ts ∷ rest) h =
    units_differ rest (repeats_behind (names_of_element (sources.types ts)) (names_of_text rest) h)
units_differ (sources.configuration c ∷ rest) h = units_differ rest h
units_differ (sources.unit v ∷ rest) h = (
  λ u among. false_from_ne_true (bytes_eq u.name.name v.name.name) (λ same.
      names_apart (v.name ∷ []) (names_of_text rest) h here
      (in_flat names_of_element (unit_in rest u among) here) (turned u.name.name v.name.name same)),
  units_differ rest (repeats_behind (v.name ∷ []) (names_of_text rest) h),
)

pub taken_units_differ : (text : Declared) (us : List OrganisationUnit) → Differ us → Differ (map (resolved text) us)
taken_units_differ text [] h = tt
taken_units_differ text (v ∷ us) h = (
  λ u among.
      let i = of_map (resolved text) u us among in
      ap (λ (w : OrganisationUnit). bytes_eq w.name.name v.name.name) (sym i.is) ∙ h.0 i.element i.among,
  taken_units_differ text us h.1,
)

module _ (called : Name → Bool) (text : Declared) (library : SlotLibrary) (calls : List ℕ) where
  -- the functions of a list are in the library from this number on
  abbrev Stand : ℕ → List SlotFunction → Type 0
  Stand k fs = (p : ℕ) (f : SlotFunction) → slice_get fs p ≡ Some f → slice_get library.functions (k + p) ≡ Some f

  -- those that are called are among the calls
  abbrev Found : ℕ → List OrganisationUnit → Type 0
  Found k us = (u : OrganisationUnit) (t : SimpleType) (i : ℕ) → Among u us → u.sort ≡ sorts.Function t
      → called u.name.name ≡ true → named_in (numbered_from k (function_names us)) u.name.name ≡ Some i
      → Among i calls

  stand_next : (k : ℕ) (f : SlotFunction) (fs : List SlotFunction) → Stand k (f ∷ fs) → Stand (suc k) fs
  stand_next k f fs h p g is =
      subst (λ n. slice_get library.functions n ≡ Some g) (one_further k p) (h (suc p) g is)
    where
      one_further : (a b : ℕ) → a + suc b ≡ suc a + b
      one_further a b = omega arith

  stand_first : (k : ℕ) (f : SlotFunction) (fs : List SlotFunction) → Stand k (f ∷ fs)
      → slice_get library.functions k ≡ Some f
  stand_first k f fs h = subst (λ n. slice_get library.functions n ≡ Some f) (none k) (h 0 f refl)
    where
      none : (n : ℕ) → n + 0 ≡ n
      none n = omega arith

  one_function : (k : ℕ) (v : OrganisationUnit) (t : SimpleType) (f : SlotFunction) (n : ℕ)
      → v.sort ≡ sorts.Function t
      → linked_function text t v ≡ Some f → slice_get library.functions k ≡ Some f
      → (called v.name.name ≡ true → Among k calls) → n ≤ sum_from (values_at library) (suc k) calls → (b : Bool)
      → called v.name.name ≡ b
      → (if b then values_of_call text t v else 0) + n ≤ sum_from (values_at library) k calls
  one_function k v t f n sort linked slot found rest true is =
      let beside = sum_beside (values_at library) k calls (found is) in
      let own : values_at library k ≡ length f.fresh = ap values_of_function slot in
      let long = function_long text t v f linked in
      let most = at_most_all (slots_taken text (result_of v.name.name t ∷ variables_of_blocks v.blocks)) in
      omega (arith, beside, own, long, most, rest)
  one_function k v t f n sort linked slot found rest false is =
      let further = sum_further (values_at library) k calls in
      omega (arith, further, rest)

  other_found : (k : ℕ) (v : OrganisationUnit) (us : List OrganisationUnit) (t : SimpleType)
      → ((u : OrganisationUnit) → Among u us → bytes_eq u.name.name v.name.name ≡ false)
      → ((u : OrganisationUnit) (r : SimpleType) (i : ℕ) → Among u (v ∷ us) → u.sort ≡ sorts.Function r
      → called u.name.name ≡ true
      → named_in (numbered_from k (v.name.name ∷ function_names us)) u.name.name ≡ Some i → Among i calls)
      → Found (suc k) us
  other_found k v us t differ found u r i among sort is number =
      found u r i (later among) sort is
      (ap (λ (b : Bool). if b then Some k else named_in (numbered_from (suc k) (function_names us)) u.name.name)
      (differ u among) ∙ number)

  values_by_sort : (us : List OrganisationUnit)
      → ((m : ℕ) (gs : List SlotFunction) → linked_functions text us ≡ Some gs → Stand m gs → Found m us
      → values_of_units called text us ≤ sum_from (values_at library) m calls)
      → (v : OrganisationUnit) (s : UnitSort) → v.sort ≡ s → (k : ℕ) (fs : List SlotFunction)
      → ((u : OrganisationUnit) → Among u us → bytes_eq u.name.name v.name.name ≡ false)
      → linked_function_then text s v (linked_functions text us) ≡ Some fs → Stand k fs
      → ((u : OrganisationUnit) (t : SimpleType) (i : ℕ) → Among u (v ∷ us) → u.sort ≡ sorts.Function t
      → called u.name.name ≡ true
      → named_in (numbered_from k (function_name_then s v.name.name (function_names us))) u.name.name ≡ Some i
      → Among i calls)
      → values_by called text s v + values_of_units called text us ≤ sum_from (values_at library) k calls
  values_by_sort us rest v (sorts.Function t) sort k fs differ linked stand found =
      let p = linked_list (linked_function text t v) (linked_functions text us) fs linked in
      let stands : Stand k (p.first ∷ p.others) = subst (λ gs. Stand k gs) (sym p.all) stand in
      let others = rest (suc k) p.others p.others_are (stand_next k p.first p.others stands)
      (other_found k v us t differ found) in
      one_function k v t p.first (values_of_units called text us) sort p.first_is
      (stand_first k p.first p.others stands)
      (λ is. found v t k here sort is
      (ap (λ (b : Bool). if b then Some k else named_in (numbered_from (suc k) (function_names us)) v.name.name)
      (name_itself v.name.name)))
      others (called v.name.name) refl
  values_by_sort us rest v sorts.FunctionBlock sort k fs differ linked stand found =
      let others = rest k fs linked stand (λ u t i among s is number. found u t i (later among) s is number) in
      omega (arith, others)
  values_by_sort us rest v sorts.Program sort k fs differ linked stand found =
      let others = rest k fs linked stand (λ u t i among s is number. found u t i (later among) s is number) in
      omega (arith, others)

  pub values_within : (us : List OrganisationUnit) (k : ℕ) (fs : List SlotFunction) → Differ us
      → linked_functions text us ≡ Some fs
      → ((p : ℕ) (f : SlotFunction) → slice_get fs p ≡ Some f → slice_get library.functions (k + p) ≡ Some f)
      → ((u : OrganisationUnit) (t : SimpleType) (i : ℕ) → Among u us → u.sort ≡ sorts.Function t
      → called u.name.name ≡ true → named_in (numbered_from k (function_names us)) u.name.name ≡ Some i
      → Among i calls)
      → values_of_units called text us ≤ sum_from (values_at library) k calls
  values_within [] k fs differ linked stand found = omega arith
  values_within (v ∷ us) k fs differ linked stand found =
      values_by_sort us (λ m gs l s g. values_within us m gs differ.1 l s g) v v.sort refl k fs differ.0 linked stand
      found
