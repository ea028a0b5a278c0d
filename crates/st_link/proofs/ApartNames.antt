-- If no name is declared twice, the name of a type is not that of a block.
use Rattle.std.proofs.Common.{◌≡◌, refl, sym, ap₂, subst, Bool, true, false, ◌||◌, if◌then◌else◌, List, [], ◌∷◌, ◌++◌, Option}
use Rattle.std.proofs.Common.{Some, None}
use Rattle.std.specs.Prelude.{map, filter, is_some, bytes_eq}
use Rattle.std.specs.List.{flat_map}
use Rattle.std.proofs.lemmas.Slice.Eq.{bytes_eq-Decides}
use Rattle.st_types.specs.declared.identifier.Identifier.{Identifier}
use Rattle.st_types.specs.Declarations.{TypeDefinition, TypeDeclaration}
use Rattle.st_types.specs.Units.{OrganisationUnit}
use Rattle.st_types.specs.Sources as sources
use Rattle.st_types.specs.Sources.{LibraryElement, Source}
use Rattle.st_meaning.specs.StandardBlocks.{block_of}
use Rattle.st_meaning.specs.StandardFunctions.{standard_of}
use Rattle.st_meaning.specs.Scopes.{Name}
use Rattle.st_meaning.specs.NameTypes.{declared_in, is_named, type_named, unit_named}
use Rattle.st_rules.specs.Places.{places_where, repeats}
use Rattle.st_rules.specs.NameScopes.{names_of_element, names_of_text, variables_of_text, scopes_of_element}
use Rattle.st_rules.specs.TwiceDeclared.{is_standard, is_taken, twice_declared}
use Rattle.st_rules.specs.Environments.{is_own_block, is_block}
use Rattle.layout.proofs.NameLaws.{names_free}
use Rattle.st_link.proofs.Among.{Among, here, later, in_back, in_map, in_flat, none_passes}
use Rattle.st_link.proofs.FoundNames.{unit_found, unit_in, type_found, type_in_source}
use Rattle.st_types.proofs.ListLemmas.{append_first, append_second}
use Rattle.st_types.proofs.TestLemmas.{or_first}
use Rattle.std.proofs.lemmas.Bool.{or_from}

-- names in two parts of a list without repeats
differ : (b : Bool) → b ≡ false → b ≡ true → ⊥
differ true h k = cc
differ false h k = cc

pub names_apart : (xs ys : List Identifier) {a b : Identifier} → repeats (xs ++ ys) ≡ [] → Among a xs → Among b ys
    → bytes_eq a.name b.name ≡ true → ⊥
names_apart [] ys h one two same = elim one [ ]
names_apart (x ∷ xs) ys {b = b} h here two same =
    differ (bytes_eq x.name b.name) (none_passes (is_named x.name) (in_back xs two)
    (append_first (places_where (is_named x.name) (xs ++ ys)) (repeats (xs ++ ys)) h)) same
names_apart (x ∷ xs) ys h (later one) two same = names_apart xs ys
    (append_second (places_where (is_named x.name) (xs ++ ys)) (repeats (xs ++ ys)) h) one two same

pub repeats_behind : (xs ys : List Identifier) → repeats (xs ++ ys) ≡ [] → repeats ys ≡ []
repeats_behind [] ys h = h
repeats_behind (x ∷ xs) ys h =
    repeats_behind xs ys (append_second (places_where (is_named x.name) (xs ++ ys)) (repeats (xs ++ ys)) h)

places_before : (wanted : Identifier → Bool) (xs ys : List Identifier) → places_where wanted (xs ++ ys) ≡ []
    → places_where wanted xs ≡ []
places_before wanted [] ys h = refl
places_before wanted (x ∷ xs) ys h =
    by_test (wanted x) (λ k. places_before wanted xs ys k) h
  where
    by_test : (b : Bool) → (places_where wanted (xs ++ ys) ≡ [] → places_where wanted xs ≡ [])
        → map (λ (y : Identifier). y.place) (if b then x ∷ filter wanted (xs ++ ys) else filter wanted (xs ++ ys)) ≡ []
        → map (λ (y : Identifier). y.place) (if b then x ∷ filter wanted xs else filter wanted xs) ≡ []
    by_test true f k = absurd (cc)
    by_test false f k = f k

pub repeats_before : (xs ys : List Identifier) → repeats (xs ++ ys) ≡ [] → repeats xs ≡ []
repeats_before [] ys h = refl
repeats_before (x ∷ xs) ys h =
    let first = places_before (is_named x.name) xs ys
    (append_first (places_where (is_named x.name) (xs ++ ys)) (repeats (xs ++ ys)) h) in
    let rest = repeats_before xs ys (append_second (places_where (is_named x.name) (xs ++ ys)) (repeats (xs ++ ys)) h) in
    ap₂ (λ ps qs. ps ++ qs) first rest

pub turned : (x y : Name) → bytes_eq x y ≡ true → bytes_eq y x ≡ true
turned x y h = (bytes_eq-Decides y x).1 (sym ((bytes_eq-Decides x y).0 h))

abbrev name_of_type : TypeDeclaration → Identifier
name_of_type t = t.name

pub types_apart : (source : Source) {ts : List TypeDeclaration} {t : TypeDeclaration} {u : OrganisationUnit}
    → repeats (names_of_text source) ≡ [] → Among (sources.types ts) source → Among t ts
    → Among (sources.unit u) source
    → bytes_eq t.name.name u.name.name ≡ true → ⊥
types_apart [] h block type unit same = elim block [ ]
types_apart (sources.types ts ∷ rest) h here type (later unit) same =
    names_apart (map name_of_type ts) (names_of_text rest) h (in_map name_of_type type)
    (in_flat names_of_element unit here) same
types_apart (sources.unit u ∷ rest) {t = t} h (later block) type here same =
    names_apart (u.name ∷ []) (names_of_text rest) h here (in_flat names_of_element block (in_map name_of_type type))
    (turned t.name.name u.name.name same)
types_apart (e ∷ rest) h (later block) type (later unit) same =
    types_apart rest (repeats_behind (names_of_element e) (names_of_text rest) h) block type unit same

-- consequences of the rule on names
pub record NamesRight (source : Source) : Type 0 where
  pub all : twice_declared source ≡ []
  pub once : repeats (names_of_text source) ≡ []
  pub scopes : flat_map repeats (flat_map scopes_of_element source) ≡ []
  pub free : places_where (λ x. is_standard x.name) (names_of_text source) ≡ []
  pub untaken : places_where (is_taken (names_of_text source)) (variables_of_text source) ≡ []

pub names_right : (source : Source) → twice_declared source ≡ [] → NamesRight source
names_right source h =
    let n = names_of_text source in
    let first = repeats n in
    let scopes = flat_map repeats (flat_map scopes_of_element source) in
    let free = names_free source h in
    record {
      all = h;
      once = append_first first scopes free.again;
      scopes = append_second first scopes free.again;
      free = free.standard;
      untaken = free.taken;
    }

no_block_by : (source : Source) → NamesRight source → (x : Name) (t : TypeDeclaration) (block : List TypeDeclaration)
    → Among (sources.types block) source → Among t block → is_named x t.name ≡ true
    → (o : Option OrganisationUnit)
    → unit_named (declared_in source).units x ≡ o → is_own_block o ≡ false
no_block_by source right x t block stands among named None is = refl
no_block_by source right x t block stands among named (Some u) is =
    let unit = unit_found (declared_in source).units x u is in
    let one = (bytes_eq-Decides x t.name.name).0 named in
    absurd (types_apart source right.once stands among (unit_in source u unit.among)
    (subst (λ (y : Name). bytes_eq y u.name.name ≡ true) one unit.named))

type_is_no_block : (source : Source) → NamesRight source → (x : Name) (d : TypeDefinition)
    → type_named (declared_in source).types x ≡ Some d → is_block (declared_in source) x ≡ false
type_is_no_block source right x d is =
    let type = type_found (declared_in source).types x d is in
    let block = type_in_source source type.declaration type.among in
    let t = type.declaration in
    let same = (bytes_eq-Decides x t.name.name).0 type.named in
    let name = in_flat names_of_element block.there (in_map name_of_type block.among) in
    let free = or_first (is_some (block_of t.name.name)) (is_some (standard_of t.name.name))
    (none_passes (λ y. is_standard y.name) name right.free) in
    or_from (is_some (block_of x)) (is_own_block (unit_named (declared_in source).units x))
    (subst (λ (y : Name). is_some (block_of y) ≡ false) (sym same) free)
    (no_block_by source right x t block.block block.there block.among type.named
    (unit_named (declared_in source).units x) refl)

some_type : (source : Source) → NamesRight source → (x : Name) (o : Option TypeDefinition)
    → type_named (declared_in source).types x ≡ o → is_some o ≡ true → is_block (declared_in source) x ≡ false
some_type source right x (Some d) is h = type_is_no_block source right x d is
some_type source right x None is h = absurd (cc)

pub types_are_no_blocks : (source : Source) → NamesRight source → (x : Name)
    → is_some (type_named (declared_in source).types x) ≡ true → is_block (declared_in source) x ≡ false
types_are_no_blocks source right x h = some_type source right x (type_named (declared_in source).types x) refl h
