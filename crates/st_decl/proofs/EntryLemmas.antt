-- The flat list of declarations has those that the rules list: arrays, declared types and addresses.
use Rattle.std.proofs.Common.{◌≡◌, refl, sym, ap, subst, ◌∙◌, ℕ, List, [], ◌∷◌, ◌++◌, map, Option, Some, None}
use Rattle.std.specs.List.{flat_map, filter_map, cons_option, Contains}
use Rattle.std.proofs.lemmas.List.{append-nil, map-append}
use Rattle.std.proofs.lemmas.List.Concat.{flat_map-append}
use Rattle.std.proofs.lemmas.List.Folds.{flat_map-map}
use Rattle.std.proofs.lemmas.List.Elements.{filter_map-append}
use Rattle.st_types.specs.declared.data_type.ArrayType.{ArrayType}
use Rattle.st_types.specs.declared.data_type.VariableType.{VariableType}
use Rattle.st_types.specs.declared.data_type.VariableType.TheVariants as types
use Rattle.st_types.specs.declared.unit.UnitSort.{UnitSort}
use Rattle.st_types.specs.Declarations as declared_as
use Rattle.st_types.specs.Declarations.{TypeDefinition, VariableBlock}
use Rattle.st_types.specs.Configurations.{GlobalBlock}
use Rattle.st_types.specs.Sources as sources
use Rattle.st_types.specs.Sources.{LibraryElement, Source}
use Rattle.st_rules.specs.declared.reason.Reason.{Reason}
use Rattle.st_rules.specs.declared.reason.Reason.TheVariants.{RetainedAddress}
use Rattle.st_rules.specs.declared.rule.Broken.{Broken}
use Rattle.st_rules.specs.DeclaredTypes as rules
use Rattle.st_rules.specs.DeclaredTypes.{declarings_in, declarings_of_element, declarings_of_block}
use Rattle.st_rules.specs.DeclaredTypes.{declarings_of_definition, declarings_of_globals, array_of_type}
use Rattle.st_rules.specs.DeclaredTypes.{array_of_definition, named_arrays_of_element, unnamed_arrays_in, arrays_in}
use Rattle.st_rules.specs.Faults.{breaks, breaking}
use Rattle.st_rules.specs.TypeRules.{retained_address, retained_addresses_of}
use Rattle.st_rules.proofs.CollectLemmas.{AreAmong, among_itself, among_left, among_right, both_among, among_then}
use Rattle.st_decl.specs.Entries.{Entry, type_declared, field_declared, unit_declared, variable_declared}
use Rattle.st_decl.specs.Entries.{global_declared, resource_declared, fields_of, entries_of_type, entries_of_block}
use Rattle.st_decl.specs.Entries.{entries_of_globals, entries_of_element, entries_in, of_each, declaring_of}
use Rattle.st_decl.specs.Entries.{array_in_type, array_in_definition, array_of, retained_address_of}

-- flat maps, one after the other
pub flat_flat : {A B C : Type 0} (f : B → List C) (g : A → List B) (xs : List A)
    → flat_map f (flat_map g xs) ≡ flat_map (λ x. flat_map f (g x)) xs
flat_flat f g [] = refl
flat_flat f g (x ∷ xs) =
    flat_map-append f (g x) (flat_map g xs) ∙ ap (λ ys. flat_map f (g x) ++ ys) (flat_flat f g xs)

pub flat_same : {A B : Type 0} (f g : A → List B) → ((x : A) → f x ≡ g x) → (xs : List A)
    → flat_map f xs ≡ flat_map g xs
flat_same f g h [] = refl
flat_same f g h (x ∷ xs) = ap (λ ys. ys ++ flat_map f xs) (h x) ∙ ap (λ ys. g x ++ ys) (flat_same f g h xs)

pub flat_none : {A B : Type 0} (f : A → List B) → ((x : A) → f x ≡ []) → (xs : List A) → flat_map f xs ≡ []
flat_none f h [] = refl
flat_none f h (x ∷ xs) = ap (λ ys. ys ++ flat_map f xs) (h x) ∙ flat_none f h xs

mapped_none : {A B C : Type 0} (f : B → List C) (g : A → B) → ((x : A) → f (g x) ≡ []) → (xs : List A)
    → flat_map f (map g xs) ≡ []
mapped_none f g h xs = flat_map-map f g xs ∙ flat_none (λ x. f (g x)) h xs

-- the same for lists from which some elements are left out
filter_flat : {A B C : Type 0} (f : B → Option C) (g : A → List B) (xs : List A)
    → filter_map f (flat_map g xs) ≡ flat_map (λ x. filter_map f (g x)) xs
filter_flat f g [] = refl
filter_flat f g (x ∷ xs) =
    filter_map-append f (g x) (flat_map g xs) ∙ ap (λ ys. filter_map f (g x) ++ ys) (filter_flat f g xs)

filter_all : {A B C : Type 0} (f : B → Option C) (g : A → B) (k : A → C) → ((x : A) → f (g x) ≡ Some (k x))
    → (xs : List A) → filter_map f (map g xs) ≡ map k xs
filter_all f g k h [] = refl
filter_all f g k h (x ∷ xs) = rw (h x, filter_all f g k h xs) refl

filter_none : {A B C : Type 0} (f : B → Option C) (g : A → B) → ((x : A) → f (g x) ≡ None) → (xs : List A)
    → filter_map f (map g xs) ≡ []
filter_none f g h [] = refl
filter_none f g h (x ∷ xs) = rw (h x) (filter_none f g h xs)

one_more : {B C : Type 0} (f : B → List C) (o : Option B) (left : List C) (rest : List B) → left ≡ flat_map f rest
    → of_each f o ++ left ≡ flat_map f (cons_option o rest)
one_more f None left rest h = h
one_more f (Some x) left rest h = ap (λ ys. f x ++ ys) h

each_filtered : {A B C : Type 0} (f : B → List C) (h : A → Option B) (xs : List A)
    → flat_map (λ x. of_each f (h x)) xs ≡ flat_map f (filter_map h xs)
each_filtered f h [] = refl
each_filtered f h (x ∷ xs) =
    one_more f (h x) (flat_map (λ y. of_each f (h y)) xs) (filter_map h xs) (each_filtered f h xs)

-- a rule that is broken at the places of a list
pub breaking_flat : {A : Type 0} (reason : Reason) (f : A → List ℕ) (xs : List A)
    → breaking reason (flat_map f xs) ≡ flat_map (λ x. breaking reason (f x)) xs
breaking_flat reason f [] = refl
breaking_flat reason f (x ∷ xs) = map-append (breaks reason) (f x) (flat_map f xs)
    ∙ ap (λ ys. breaking reason (f x) ++ ys) (breaking_flat reason f xs)

-- a search in each declaration of a text, by the elements of the text
by_elements : {B : Type 0} (f : Entry → List B) (g : LibraryElement → List B)
    → ((e : LibraryElement) → flat_map f (entries_of_element e) ≡ g e) → (source : Source)
    → flat_map f (entries_in source) ≡ flat_map g source
by_elements f g h source =
    flat_flat f entries_of_element source ∙ flat_same (λ e. flat_map f (entries_of_element e)) g h source

-- declared types
declarings_of_fields : (d : TypeDefinition) → filter_map declaring_of (fields_of d) ≡ declarings_of_definition d
declarings_of_fields (declared_as.array a) = refl
declarings_of_fields (declared_as.structure fields) = filter_all declaring_of field_declared
    (λ f. record { role = rules.field; declared = f.declared; initial = f.initial }) (λ f. refl) fields
declarings_of_fields (declared_as.enumeration names) = refl

declarings_of_variables : (sort : UnitSort) (b : VariableBlock)
    → filter_map declaring_of (entries_of_block sort b) ≡ declarings_of_block sort b
declarings_of_variables sort b = filter_all declaring_of (variable_declared sort b.section)
    (λ d. record { role = rules.variable_of sort b.section; declared = d.declared; initial = d.initial }) (λ d. refl)
    b.declarations

declarings_of_globals_are : (b : GlobalBlock)
    → filter_map declaring_of (entries_of_globals b) ≡ declarings_of_globals b
declarings_of_globals_are b = filter_all declaring_of (global_declared b.qualifier)
    (λ d. record { role = rules.global; declared = d.declared; initial = d.initial }) (λ d. refl) b.declarations

declarings_are : (e : LibraryElement) → filter_map declaring_of (entries_of_element e) ≡ declarings_of_element e
declarings_are (sources.types ts) = filter_flat declaring_of entries_of_type ts
    ∙ flat_same (λ t. filter_map declaring_of (entries_of_type t)) (λ t. declarings_of_definition t.definition)
    (λ t. declarings_of_fields t.definition) ts
declarings_are (sources.unit u) = filter_flat declaring_of (entries_of_block u.sort) u.blocks
    ∙ flat_same (λ b. filter_map declaring_of (entries_of_block u.sort b)) (declarings_of_block u.sort)
    (declarings_of_variables u.sort) u.blocks
declarings_are (sources.configuration c) =
    filter_map-append declaring_of (flat_map entries_of_globals c.globals) (map resource_declared c.resources)
    ∙ ap (λ ys. filter_map declaring_of (flat_map entries_of_globals c.globals) ++ ys)
    (filter_none declaring_of resource_declared (λ r. refl) c.resources)
    ∙ append-nil (filter_map declaring_of (flat_map entries_of_globals c.globals))
    ∙ filter_flat declaring_of entries_of_globals c.globals
    ∙ flat_same (λ b. filter_map declaring_of (entries_of_globals b)) declarings_of_globals declarings_of_globals_are
    c.globals

pub declarings_listed : (source : Source) → filter_map declaring_of (entries_in source) ≡ declarings_in source
declarings_listed source = filter_flat declaring_of entries_of_element source
    ∙ flat_same (λ e. filter_map declaring_of (entries_of_element e)) declarings_of_element declarings_are source

-- arrays with a name
abbrev named_part : {B : Type 0} (f : ArrayType → List B) → Entry → List B
named_part f (type_declared t) = of_each f (array_in_definition t.definition)
named_part f (field_declared x) = []
named_part f (unit_declared u) = []
named_part f (variable_declared sort section d) = []
named_part f (global_declared q d) = []
named_part f (resource_declared r) = []

named_of_definition : {B : Type 0} (f : ArrayType → List B) (d : TypeDefinition)
    → of_each f (array_in_definition d) ++ flat_map (named_part f) (fields_of d) ≡ flat_map f (array_of_definition d)
named_of_definition f (declared_as.array a) = refl
named_of_definition f (declared_as.structure fields) = mapped_none (named_part f) field_declared (λ x. refl) fields
named_of_definition f (declared_as.enumeration names) = refl

named_are : {B : Type 0} (f : ArrayType → List B) (e : LibraryElement)
    → flat_map (named_part f) (entries_of_element e) ≡ flat_map f (named_arrays_of_element e)
named_are f (sources.types ts) = flat_flat (named_part f) entries_of_type ts
    ∙ flat_same (λ t. flat_map (named_part f) (entries_of_type t)) (λ t. flat_map f (array_of_definition t.definition))
    (λ t. named_of_definition f t.definition) ts
    ∙ sym (flat_flat f (λ t. array_of_definition t.definition) ts)
named_are f (sources.unit u) = flat_flat (named_part f) (entries_of_block u.sort) u.blocks
    ∙ flat_none (λ b. flat_map (named_part f) (entries_of_block u.sort b))
    (λ b. mapped_none (named_part f) (variable_declared u.sort b.section) (λ d. refl) b.declarations) u.blocks
named_are f (sources.configuration c) =
    flat_map-append (named_part f) (flat_map entries_of_globals c.globals) (map resource_declared c.resources)
    ∙ ap (λ ys. ys ++ flat_map (named_part f) (map resource_declared c.resources))
    (flat_flat (named_part f) entries_of_globals c.globals
    ∙ flat_none (λ b. flat_map (named_part f) (entries_of_globals b))
    (λ b. mapped_none (named_part f) (global_declared b.qualifier) (λ d. refl) b.declarations) c.globals)
    ∙ mapped_none (named_part f) resource_declared (λ r. refl) c.resources

named_listed : {B : Type 0} (f : ArrayType → List B) (source : Source)
    → flat_map (named_part f) (entries_in source) ≡ flat_map f (flat_map named_arrays_of_element source)
named_listed f source = by_elements (named_part f) (λ e. flat_map f (named_arrays_of_element e)) (named_are f) source
    ∙ sym (flat_flat f named_arrays_of_element source)

-- and those without
abbrev unnamed_part : {B : Type 0} (f : ArrayType → List B) → Entry → List B
unnamed_part f e = of_each (λ d. flat_map f (array_of_type d.declared)) (declaring_of e)

unnamed_listed : {B : Type 0} (f : ArrayType → List B) (source : Source)
    → flat_map (unnamed_part f) (entries_in source) ≡ flat_map f (unnamed_arrays_in source)
unnamed_listed f source = each_filtered (λ d. flat_map f (array_of_type d.declared)) declaring_of (entries_in source)
    ∙ ap (flat_map (λ d. flat_map f (array_of_type d.declared))) (declarings_listed source)
    ∙ sym (flat_flat f (λ d. array_of_type d.declared) (declarings_in source))

array_here : {B : Type 0} (f : ArrayType → List B) (t : VariableType)
    → of_each f (array_in_type t) ≡ flat_map f (array_of_type t)
array_here f (types.Simple t) = refl
array_here f (types.Array a) = sym (append-nil (f a))

two_parts : {B : Type 0} (f : ArrayType → List B) (e : Entry)
    → of_each f (array_of e) ≡ named_part f e ++ unnamed_part f e
two_parts f (type_declared t) = sym (append-nil (of_each f (array_in_definition t.definition)))
two_parts f (field_declared x) = array_here f x.declared
two_parts f (unit_declared u) = refl
two_parts f (variable_declared sort section d) = array_here f d.declared
two_parts f (global_declared q d) = array_here f d.declared
two_parts f (resource_declared r) = refl

-- two searches in each of a list, or in the list one after the other
pub both_left : {A : Type 0} (f g : A → List Broken) (xs : List A)
    → AreAmong (flat_map (λ x. f x ++ g x) xs) (flat_map f xs ++ flat_map g xs)
both_left f g [] = among_itself []
both_left f g (x ∷ xs) =
    let all_f = flat_map f xs in
    let all_g = flat_map g xs in
    let fs = f x ++ all_f in
    let gs = g x ++ all_g in
    let rest = both_left f g xs in
    both_among (f x ++ g x) (flat_map (λ y. f y ++ g y) xs) (fs ++ gs)
    (both_among (f x) (g x) (fs ++ gs)
    (among_left (f x) fs gs (among_left (f x) (f x) all_f (among_itself (f x))))
    (among_right (g x) fs gs (among_left (g x) (g x) all_g (among_itself (g x)))))
    (among_then (flat_map (λ y. f y ++ g y) xs) (all_f ++ all_g) (fs ++ gs) rest
    (both_among all_f all_g (fs ++ gs)
    (among_left all_f fs gs (among_right all_f (f x) all_f (among_itself all_f)))
    (among_right all_g fs gs (among_right all_g (g x) all_g (among_itself all_g)))))

pub both_right : {A : Type 0} (f g : A → List Broken) (xs : List A)
    → AreAmong (flat_map f xs ++ flat_map g xs) (flat_map (λ x. f x ++ g x) xs)
both_right f g [] = among_itself []
both_right f g (x ∷ xs) =
    let here = f x ++ g x in
    let rest = flat_map (λ y. f y ++ g y) xs in
    let all = here ++ rest in
    let before = both_right f g xs in
    let fs : AreAmong (flat_map f xs) all = among_right (flat_map f xs) here rest
    (among_then (flat_map f xs) (flat_map f xs ++ flat_map g xs) rest
    (among_left (flat_map f xs) (flat_map f xs) (flat_map g xs) (among_itself (flat_map f xs))) before) in
    let gs : AreAmong (flat_map g xs) all = among_right (flat_map g xs) here rest
    (among_then (flat_map g xs) (flat_map f xs ++ flat_map g xs) rest
    (among_right (flat_map g xs) (flat_map f xs) (flat_map g xs) (among_itself (flat_map g xs))) before) in
    both_among (f x ++ flat_map f xs) (g x ++ flat_map g xs) all
    (both_among (f x) (flat_map f xs) all
    (among_left (f x) here rest (among_left (f x) (f x) (g x) (among_itself (f x)))) fs)
    (both_among (g x) (flat_map g xs) all
    (among_left (g x) here rest (among_right (g x) (f x) (g x) (among_itself (g x)))) gs)

entries_split : (f : ArrayType → List Broken) (source : Source)
    → flat_map (λ e. of_each f (array_of e)) (entries_in source)
    ≡ flat_map (λ e. named_part f e ++ unnamed_part f e) (entries_in source)
entries_split f source = flat_same (λ e. of_each f (array_of e)) (λ e. named_part f e ++ unnamed_part f e) (two_parts f)
    (entries_in source)

rules_split : (f : ArrayType → List Broken) (source : Source)
    → flat_map f (arrays_in source)
    ≡ flat_map (named_part f) (entries_in source) ++ flat_map (unnamed_part f) (entries_in source)
rules_split f source = flat_map-append f (flat_map named_arrays_of_element source) (unnamed_arrays_in source)
    ∙ ap (λ ys. ys ++ flat_map f (unnamed_arrays_in source)) (sym (named_listed f source))
    ∙ ap (λ ys. flat_map (named_part f) (entries_in source) ++ ys) (sym (unnamed_listed f source))

-- the faults in the arrays of a text are those in its entries, in another order
pub arrays_to_rules : (f : ArrayType → List Broken) (source : Source)
    → AreAmong (flat_map (λ e. of_each f (array_of e)) (entries_in source)) (flat_map f (arrays_in source))
arrays_to_rules f source b h = subst (λ ys. Contains ys b) (sym (rules_split f source))
    (both_left (named_part f) (unnamed_part f) (entries_in source) b
    (subst (λ ys. Contains ys b) (entries_split f source) h))

pub arrays_from_rules : (f : ArrayType → List Broken) (source : Source)
    → AreAmong (flat_map f (arrays_in source)) (flat_map (λ e. of_each f (array_of e)) (entries_in source))
arrays_from_rules f source b h = subst (λ ys. Contains ys b) (sym (entries_split f source))
    (both_right (named_part f) (unnamed_part f) (entries_in source) b
    (subst (λ ys. Contains ys b) (rules_split f source) h))

-- addresses
addresses_of_fields : (d : TypeDefinition) → flat_map retained_address_of (fields_of d) ≡ []
addresses_of_fields (declared_as.array a) = refl
addresses_of_fields (declared_as.structure fields) = mapped_none retained_address_of field_declared (λ x. refl) fields
addresses_of_fields (declared_as.enumeration names) = refl

addresses_are : (e : LibraryElement) → flat_map retained_address_of (entries_of_element e) ≡ retained_addresses_of e
addresses_are (sources.types ts) = flat_flat retained_address_of entries_of_type ts
    ∙ flat_none (λ t. flat_map retained_address_of (entries_of_type t)) (λ t. addresses_of_fields t.definition) ts
addresses_are (sources.unit u) = flat_flat retained_address_of (entries_of_block u.sort) u.blocks
    ∙ flat_none (λ b. flat_map retained_address_of (entries_of_block u.sort b))
    (λ b. mapped_none retained_address_of (variable_declared u.sort b.section) (λ d. refl) b.declarations) u.blocks
addresses_are (sources.configuration c) =
    flat_map-append retained_address_of (flat_map entries_of_globals c.globals) (map resource_declared c.resources)
    ∙ ap (λ ys. flat_map retained_address_of (flat_map entries_of_globals c.globals) ++ ys)
    (mapped_none retained_address_of resource_declared (λ r. refl) c.resources)
    ∙ append-nil (flat_map retained_address_of (flat_map entries_of_globals c.globals))
    ∙ flat_flat retained_address_of entries_of_globals c.globals
    ∙ flat_same (λ b. flat_map retained_address_of (entries_of_globals b))
    (λ b. flat_map (λ d. retained_address b.qualifier d.names) b.declarations)
    (λ b. flat_map-map retained_address_of (global_declared b.qualifier) b.declarations) c.globals

pub addresses_listed : (source : Source)
    → flat_map (λ e. breaking RetainedAddress (retained_address_of e)) (entries_in source)
    ≡ breaking RetainedAddress (flat_map retained_addresses_of source)
addresses_listed source = sym (breaking_flat RetainedAddress retained_address_of (entries_in source))
    ∙ ap (breaking RetainedAddress) (by_elements retained_address_of retained_addresses_of addresses_are source)
