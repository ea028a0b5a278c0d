-- Tables that are filled in the order of a text.
use Rattle.std.proofs.Common.{◌≡◌, refl, sym, ap, ◌∙◌, ℕ, ◌+◌, ◌<◌, List, [], ◌∷◌, ◌++◌, Bool, true, false}
use Rattle.std.proofs.Common.{if◌then◌else◌}
use Rattle.std.proofs.Common.{Option, Some, None, take, length, slice_index_or, append_assoc}
use Rattle.std.specs.Prelude.{map, option_map}
use Rattle.std.proofs.lemmas.List.{map-append, take_more}
use denote.Bor.{Bor}
use Rattle.st_types.specs.declared.identifier.Identifier.{Identifier}
use Rattle.st_types.specs.declared.data_type.TypeDefinition as code_definition
use Rattle.st_types.specs.declared.data_type.TypeDeclaration as code_type
use Rattle.st_types.specs.declared.unit.Unit as code_unit
use Rattle.st_types.specs.declared.source.LibraryElement as code_element
use Rattle.st_types.specs.DeclarationViews.{type_definition_view, type_declaration_view}
use Rattle.st_types.specs.UnitViews.{unit_view}
use Rattle.st_types.specs.SourceViews.{element_view}
use Rattle.st_types.specs.Declarations.{TypeDeclaration, TypeDefinition}
use Rattle.st_types.specs.Units.{OrganisationUnit}
use Rattle.st_types.specs.Sources as sources
use Rattle.st_types.specs.Sources.{LibraryElement, Source}
use Rattle.st_meaning.specs.Scopes.{Name}
use Rattle.st_meaning.specs.NameTypes.{is_named, type_named, unit_named, types_in, units_in}
use Rattle.symbols.specs.Found.{or_found}
use Rattle.st_types.proofs.ListLemmas.{map_take_next}
use Rattle.symbols.proofs.ConversionLemmas.{or_if}

pub or_none : {T : Type 0} (o : Option T) → or_found o None ≡ o
or_none None = refl
or_none (Some x) = refl

pub or_assoc : {T : Type 0} (a b c : Option T) → or_found (or_found a b) c ≡ or_found a (or_found b c)
or_assoc None b c = refl
or_assoc (Some x) b c = refl

-- the entry of an index, through a view
pub or_mapped : {T U : Type 0} (f : T → U) (a b : Option T)
    → option_map f (or_found a b) ≡ or_found (option_map f a) (option_map f b)
or_mapped f None b = refl
or_mapped f (Some x) b = refl

pub if_mapped : {T U : Type 0} (f : T → U) (b : Bool) (x : T)
    → option_map f (if b then Some x else None) ≡ (if b then Some (f x) else None)
if_mapped f true x = refl
if_mapped f false x = refl

pub type_named_append : (xs ys : List TypeDeclaration) (q : Name)
    → type_named (xs ++ ys) q ≡ or_found (type_named xs q) (type_named ys q)
type_named_append [] ys q = refl
type_named_append (x ∷ xs) ys q =
    ap (λ o. if is_named q x.name then Some x.definition else o) (type_named_append xs ys q)
    ∙ or_if (is_named q x.name) x.definition (type_named xs q) (type_named ys q)

pub unit_named_append : (xs ys : List OrganisationUnit) (q : Name)
    → unit_named (xs ++ ys) q ≡ or_found (unit_named xs q) (unit_named ys q)
unit_named_append [] ys q = refl
unit_named_append (x ∷ xs) ys q =
    ap (λ o. if is_named q x.name then Some x else o) (unit_named_append xs ys q)
    ∙ or_if (is_named q x.name) x (unit_named xs q) (unit_named ys q)

pub types_append : (xs ys : Source) → types_in (xs ++ ys) ≡ types_in xs ++ types_in ys
types_append [] ys = refl
types_append (sources.types ts ∷ xs) ys =
    ap (λ r. ts ++ r) (types_append xs ys) ∙ sym (append_assoc ts (types_in xs) (types_in ys))
types_append (sources.unit u ∷ xs) ys = types_append xs ys
types_append (sources.configuration c ∷ xs) ys = types_append xs ys

pub units_append : (xs ys : Source) → units_in (xs ++ ys) ≡ units_in xs ++ units_in ys
units_append [] ys = refl
units_append (sources.types ts ∷ xs) ys = units_append xs ys
units_append (sources.unit u ∷ xs) ys = ap (λ r. u ∷ r) (units_append xs ys)
units_append (sources.configuration c ∷ xs) ys = units_append xs ys

-- one more entry, after the others
pub entry_added : {T : Type 0} (old now new one before : Option T) → now ≡ or_found old before → new ≡ or_found now one
    → new ≡ or_found old (or_found before one)
entry_added old now new one before h is = is ∙ ap (λ o. or_found o one) h ∙ or_assoc old before one

-- one more type, after those that were looked at
pub type_added : (ts : List code_type.TypeDeclaration) (i : ℕ) (x : code_type.TypeDeclaration) (q : Name)
    (now new : Option (Bor code_definition.TypeDefinition)) (d : Bor code_definition.TypeDefinition)
    (old : Option TypeDefinition)
    → i < length ts → x ≡ slice_index_or ts i x
    → option_map (λ e. type_definition_view e.now) now
    ≡ or_found old (type_named (map type_declaration_view (take i ts)) q)
    → new ≡ or_found now (if is_named q x.name then Some d else None) → d.now ≡ x.definition
    → option_map (λ e. type_definition_view e.now) new
    ≡ or_found old (type_named (map type_declaration_view (take (i + 1) ts)) q)
type_added ts i x q now new d old lt is h added same =
    let f : Bor code_definition.TypeDefinition → TypeDefinition = λ e. type_definition_view e.now in
    let b = is_named q x.name in
    let before = type_named (map type_declaration_view (take i ts)) q in
    let one = if b then Some (type_definition_view x.definition) else None in
    let told : option_map f new ≡ or_found (option_map f now) one =
    ap (option_map f) added ∙ or_mapped f now (if b then Some d else None)
    ∙ ap (or_found (option_map f now)) (if_mapped f b d
    ∙ ap (λ e. if b then Some (type_definition_view e) else None) same) in
    entry_added old (option_map f now) (option_map f new) one before h told
    ∙ ap (or_found old) (sym (ap (λ zs. type_named zs q) (map_take_next type_declaration_view ts i x lt is)
    ∙ type_named_append (map type_declaration_view (take i ts)) (type_declaration_view x ∷ []) q))

-- a text of which the first `i` elements were looked at
pub types_more : (es : List code_element.LibraryElement) (i : ℕ) (x : code_element.LibraryElement) (q : Name)
    (now new : Option TypeDefinition) (ts : List TypeDeclaration)
    → i < length es → x ≡ slice_index_or es i x → now ≡ type_named (types_in (map element_view (take i es))) q
    → types_in (element_view x ∷ []) ≡ ts → new ≡ or_found now (type_named ts q)
    → new ≡ type_named (types_in (map element_view (take (i + 1) es))) q
types_more es i x q now new ts lt is h one added =
    let before = map element_view (take i es) in
    added ∙ ap (λ o. or_found o (type_named ts q)) h
    ∙ sym (ap (λ xs. type_named (types_in xs) q) (map_take_next element_view es i x lt is)
    ∙ ap (λ xs. type_named xs q) (types_append before (element_view x ∷ []))
    ∙ type_named_append (types_in before) (types_in (element_view x ∷ [])) q
    ∙ ap (λ xs. or_found (type_named (types_in before) q) (type_named xs q)) one)

pub units_more : (es : List code_element.LibraryElement) (i : ℕ) (x : code_element.LibraryElement) (q : Name)
    (now new : Option OrganisationUnit) (us : List OrganisationUnit)
    → i < length es → x ≡ slice_index_or es i x → now ≡ unit_named (units_in (map element_view (take i es))) q
    → units_in (element_view x ∷ []) ≡ us → new ≡ or_found now (unit_named us q)
    → new ≡ unit_named (units_in (map element_view (take (i + 1) es))) q
units_more es i x q now new us lt is h one added =
    let before = map element_view (take i es) in
    added ∙ ap (λ o. or_found o (unit_named us q)) h
    ∙ sym (ap (λ xs. unit_named (units_in xs) q) (map_take_next element_view es i x lt is)
    ∙ ap (λ xs. unit_named xs q) (units_append before (element_view x ∷ []))
    ∙ unit_named_append (units_in before) (units_in (element_view x ∷ [])) q
    ∙ ap (λ xs. or_found (unit_named (units_in before) q) (unit_named xs q)) one)

-- the entry of one unit, through its view
pub unit_added : (now new : Option (Bor code_unit.Unit)) (u : Bor code_unit.Unit) (q : Name) (name : Identifier)
    → new ≡ or_found now (if is_named q name then Some u else None) → (unit_view u.now).name ≡ name
    → option_map (λ e. unit_view e.now) new
    ≡ or_found (option_map (λ e. unit_view e.now) now) (unit_named (unit_view u.now ∷ []) q)
unit_added now new u q name added same =
    let f : Bor code_unit.Unit → OrganisationUnit = λ e. unit_view e.now in
    ap (option_map f) added ∙ or_mapped f now (if is_named q name then Some u else None)
    ∙ ap (or_found (option_map f now)) (if_mapped f (is_named q name) u
    ∙ ap (λ x. if is_named q x then Some (unit_view u.now) else None) (sym same))
