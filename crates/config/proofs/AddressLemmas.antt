-- Types at addresses, and addresses as numbers.
use Rattle.std.proofs.Common.{◌≡◌, ◌<◌, ◌+◌, ℕ, zero, suc, refl, sym, ap, ◌∙◌, subst, arith, Bool, true, false}
use Rattle.std.proofs.Common.{not, ◌&&◌, ◌||◌, List, [], ◌∷◌, drop, length, Option, Some, None, get_or, ◌≢◌}
use Rattle.std.proofs.Math.ListN.{replicate}
use Rattle.std.proofs.lemmas.Option.{slice_get-get_or}
use Rattle.std.proofs.lemmas.List.{get_or-replicate, get_or-set_other, length-replicate, length-set}
use Rattle.std.proofs.lemmas.Grind.{get_or-set_at}
use Rattle.std.proofs.Common.{ap₂}
use Rattle.std.specs.Prelude.{is_some, ◌==◌, option_map, slice_get, slice_set}
use Rattle.std.specs.List.{flat_map, list_any, list_all}
use Rattle.std.proofs.lemmas.List.Folds.{list_all-append}
use Rattle.std.proofs.lemmas.Bool.{and_parts}
use Rattle.st_types.specs.declared.kind.Kind.TheVariants.{Bool as Boolean}
use Rattle.st_types.specs.declared.configuration.Address.{Address}
use Rattle.st_types.specs.declared.configuration.AddressWidth.{AddressWidth}
use Rattle.st_types.specs.declared.configuration.AddressWidth.TheVariants as widths
use Rattle.st_types.specs.declared.configuration.Direction.{Direction}
use Rattle.st_types.specs.declared.configuration.Direction.TheVariants as directions
use Rattle.st_types.specs.declared.data_type.SimpleType.TheVariants.{Elementary, Named}
use Rattle.st_types.specs.declared.data_type.VariableType.{VariableType}
use Rattle.st_types.specs.declared.data_type.VariableType.TheVariants as types
use Rattle.st_types.specs.Declarations.{TypeDeclaration}
use Rattle.st_meaning.specs.Enumerations.{Enumeration, enumerations_of, enumeration_named, kind_of_enumeration}
use Rattle.st_types.specs.declared.configuration.GlobalQualifier.{GlobalQualifier}
use Rattle.st_types.specs.Configurations.{GlobalNames, located, listed, GlobalDeclaration, GlobalBlock}
use Rattle.st_meaning.specs.NameTypes.{Declared, kind_among, kind_of_type}
use Rattle.st_rules.specs.ConfigurationRules.{holds_kind, is_of_kind, is_in_range, same_address, same_direction}
use Rattle.st_rules.specs.ConfigurationRules.{same_width, are_single, is_sound_address, address_in, addresses_in}
use Rattle.st_rules.specs.ConfigurationRules.{is_constant, comes_from_plant}
use Rattle.config.specs.Addresses.{first_of_direction, first_of_width, number_of_address, Marks}

-- an enumerated type has no width
no_width : (w : AddressWidth) (o : Option Enumeration) → holds_kind w (option_map kind_of_enumeration o) ≡ false
no_width w None = refl
no_width widths.Bit (Some e) = refl
no_width widths.Word (Some e) = refl

pub width_of_declared : (ts : List TypeDeclaration) (w : AddressWidth) (t : VariableType)
    → holds_kind w (kind_among ts t) ≡ holds_kind w (kind_of_type t)
width_of_declared ts w (types.Simple (Elementary k at)) = refl
width_of_declared ts w (types.Simple (Named x)) = no_width w (enumeration_named (enumerations_of ts) x.name)
width_of_declared ts w (types.Array a) = refl

-- nor is it BOOL
no_boolean : (o : Option Enumeration) → is_of_kind Boolean (option_map kind_of_enumeration o) ≡ false
no_boolean None = refl
no_boolean (Some e) = refl

pub boolean_of_declared : (ts : List TypeDeclaration) (t : VariableType)
    → is_of_kind Boolean (kind_among ts t) ≡ is_of_kind Boolean (kind_of_type t)
boolean_of_declared ts (types.Simple (Elementary k at)) = refl
boolean_of_declared ts (types.Simple (Named x)) = no_boolean (enumeration_named (enumerations_of ts) x.name)
boolean_of_declared ts (types.Array a) = refl

-- the same address has the same number
pub same_number : (a b : Address) → is_in_range a.width a.number ≡ true → is_in_range b.width b.number ≡ true
    → same_address a b ≡ (number_of_address a == number_of_address b)
same_number a b ra rb = by_cases a.direction a.width b.direction b.width ra rb
  where
    by_cases : (d : Direction) (w : AddressWidth) (e : Direction) (v : AddressWidth) → is_in_range w a.number ≡ true
        → is_in_range v b.number ≡ true → (same_direction d e && same_width w v && a.number == b.number)
        ≡ ((first_of_direction d + (first_of_width w + a.number))
        == (first_of_direction e + (first_of_width v + b.number)))
    by_cases directions.Input widths.Bit directions.Input widths.Bit ra rb = grind arith
    by_cases directions.Input widths.Bit directions.Input widths.Word ra rb = grind arith
    by_cases directions.Input widths.Bit directions.Output widths.Bit ra rb = grind arith
    by_cases directions.Input widths.Bit directions.Output widths.Word ra rb = grind arith
    by_cases directions.Input widths.Word directions.Input widths.Bit ra rb = grind arith
    by_cases directions.Input widths.Word directions.Input widths.Word ra rb = grind arith
    by_cases directions.Input widths.Word directions.Output widths.Bit ra rb = grind arith
    by_cases directions.Input widths.Word directions.Output widths.Word ra rb = grind arith
    by_cases directions.Output widths.Bit directions.Input widths.Bit ra rb = grind arith
    by_cases directions.Output widths.Bit directions.Input widths.Word ra rb = grind arith
    by_cases directions.Output widths.Bit directions.Output widths.Bit ra rb = grind arith
    by_cases directions.Output widths.Bit directions.Output widths.Word ra rb = grind arith
    by_cases directions.Output widths.Word directions.Input widths.Bit ra rb = grind arith
    by_cases directions.Output widths.Word directions.Input widths.Word ra rb = grind arith
    by_cases directions.Output widths.Word directions.Output widths.Bit ra rb = grind arith
    by_cases directions.Output widths.Word directions.Output widths.Word ra rb = grind arith

-- an address that occurs twice after a place occurs twice in the list
pub twice_behind : (n : ℕ) (xs : List Address) → are_single (drop n xs) ≡ false → are_single xs ≡ false
twice_behind zero xs h = h
twice_behind (suc n) [] h = h
twice_behind (suc n) (x ∷ xs) h = none (not (list_any (same_address x) xs)) (twice_behind n xs h)
  where
    none : (b : Bool) → are_single xs ≡ false → (b && are_single xs) ≡ false
    none true e = e
    none false e = refl

pub number_below : (a : Address) → is_in_range a.width a.number ≡ true → number_of_address a < 4096
number_below a r = by_cases a.direction a.width r
  where
    by_cases : (d : Direction) (w : AddressWidth) → is_in_range w a.number ≡ true
        → first_of_direction d + (first_of_width w + a.number) < 4096
    by_cases directions.Input widths.Bit r = grind arith
    by_cases directions.Input widths.Word r = grind arith
    by_cases directions.Output widths.Bit r = grind arith
    by_cases directions.Output widths.Word r = grind arith

-- at first none is marked
pub unmarked : (marked : List Bool) (none : List Address) → marked ≡ replicate 4096 false → none ≡ []
    → Marks marked none
unmarked marked none is empty a r =
    ap (λ v. slice_get v (number_of_address a)) is
    ∙ slice_get-get_or (replicate 4096 false) (number_of_address a) false
    (ap-length (number_below a r))
    ∙ ap Some (get_or-replicate 4096 (number_of_address a) false false (number_below a r))
    ∙ ap (λ v. Some (list_any (same_address a) v)) (sym empty)
  where
    ap-length : {k : ℕ} → k < 4096 → k < length (replicate 4096 false)
    ap-length {k = k} lt = subst (λ n. k < n) (sym (length-replicate 4096 false)) lt

-- one more is marked
pub marked_more : (marked : List Bool) (b : Address) (rest : List Address) → length marked ≡ 4096
    → is_in_range b.width b.number ≡ true → Marks marked rest
    → Marks (slice_set marked (number_of_address b) true) (b ∷ rest)
marked_more marked b rest sized rb marks a ra =
    by_test (number_of_address a == number_of_address b) refl
  where
    below : number_of_address a < length marked
    below = subst (λ n. number_of_address a < n) (sym sized) (number_below a ra)

    longer : number_of_address a < length (slice_set marked (number_of_address b) true)
    longer = subst (λ n. number_of_address a < n) (sym (length-set marked (number_of_address b) true)) below

    read : slice_get (slice_set marked (number_of_address b) true) (number_of_address a)
        ≡ Some (get_or (slice_set marked (number_of_address b) true) (number_of_address a) false)
    read = slice_get-get_or (slice_set marked (number_of_address b) true) (number_of_address a) false longer

    by_test : (t : Bool) → (number_of_address a == number_of_address b) ≡ t
        → slice_get (slice_set marked (number_of_address b) true) (number_of_address a)
        ≡ Some (same_address a b || list_any (same_address a) rest)
    by_test true e =
        let s : number_of_address a ≡ number_of_address b = grind arith in
        read
        ∙ ap Some (get_or-set_at marked (number_of_address b) (number_of_address a) true false s
        (subst (λ n. n < length marked) s below))
        ∙ ap (λ t. Some (t || list_any (same_address a) rest)) (sym (same_number a b ra rb ∙ e))
    by_test false e =
        let apart : number_of_address a ≢ number_of_address b = λ s. absurd (grind arith) in
        read
        ∙ ap Some (get_or-set_other marked (number_of_address b) (number_of_address a) true false apart)
        ∙ sym (slice_get-get_or marked (number_of_address a) false below)
        ∙ marks a ra
        ∙ ap (λ t. Some (t || list_any (same_address a) rest)) (sym (same_number a b ra rb ∙ e))

-- an address and the rest of the list after it, by whether it is marked
pub single_here : (marked : List Bool) (b : Address) (rest : List Address) (m : Bool) → length marked ≡ 4096
    → is_in_range b.width b.number ≡ true → Marks marked rest → m ≡ get_or marked (number_of_address b) m
    → list_any (same_address b) rest ≡ m
single_here marked b rest m sized rb marks is =
    some_same (list_any (same_address b) rest) m
    (sym (marks b rb) ∙ slice_get-get_or marked (number_of_address b) m
    (subst (λ n. number_of_address b < n) (sym sized) (number_below b rb)) ∙ ap Some (sym is))
  where
    some_same : (x y : Bool) → Some x ≡ Some y → x ≡ y
    some_same x y h = ap (λ o. or_else o) h
      where
        or_else : Option Bool → Bool
        or_else (Some z) = z
        or_else None = false

-- an item does not depend on the default for a missing one
pub each_at : {X : Type 0} (xs : List X) (i : ℕ) (d : X) → i < length xs → get_or xs i d ≡ get_or xs i (get_or xs i d)
each_at [] i d lt = absurd (omega arith)
each_at (x ∷ xs) zero d lt = refl
each_at (x ∷ xs) (suc i) d lt = each_at xs i d (omega arith)

-- a property of all is a property of each
pub each_passes : {X : Type 0} (p : X → Bool) (xs : List X) (i : ℕ) (d : X) → list_all p xs ≡ true → i < length xs
    → p (get_or xs i d) ≡ true
each_passes p [] i d h lt = absurd (omega arith)
each_passes p (x ∷ xs) zero d h lt = first (p x) (list_all p xs) h
  where
    first : (a b : Bool) → (a && b) ≡ true → a ≡ true
    first true b h = refl
    first false b h = absurd (cc)
each_passes p (x ∷ xs) (suc i) d h lt = each_passes p xs i d (second (p x) (list_all p xs) h) (omega arith)
  where
    second : (a b : Bool) → (a && b) ≡ true → b ≡ true
    second true b h = h
    second false b h = absurd (cc)

-- one that occurs again after it, and one that does not
pub stands_again : (xs : List Address) (i : ℕ) (x : Address) (rest : List Address) → drop i xs ≡ x ∷ rest
    → list_any (same_address x) rest ≡ true → false ≡ are_single xs
stands_again xs i x rest is again = sym (twice_behind i xs
    (ap are_single is ∙ ap (λ b. not b && are_single rest) again))

pub stands_once : (xs : List Address) (i : ℕ) (x : Address) (rest : List Address) → drop i xs ≡ x ∷ rest
    → list_any (same_address x) rest ≡ false → are_single rest ≡ true → are_single (drop i xs) ≡ true
stands_once xs i x rest is once single =
    ap are_single is ∙ ap (λ b. not b && are_single rest) once ∙ single

-- sound addresses are in their ranges
ranged_names : (text : Declared) (q : Option GlobalQualifier) (d : GlobalDeclaration) (names : GlobalNames)
    → is_sound_address text q d names ≡ true → list_all (λ a. is_in_range a.width a.number) (address_in names) ≡ true
ranged_names text q d (listed xs) h = refl
ranged_names text q d (located x a) h =
    let r = is_in_range a.width a.number in
    let w = holds_kind a.width (kind_among text.types d.declared) in
    let k = not (is_constant q) in
    let i = not (comes_from_plant a.direction && is_some d.initial) in
    by_test r w k i h
  where
    by_test : (r w k i : Bool) → (r && w && k && i) ≡ true → (r && true) ≡ true
    by_test true w k i h = refl
    by_test false w k i h = absurd (cc)

ranged_declarations : (text : Declared) (q : Option GlobalQualifier) (ds : List GlobalDeclaration)
    → list_all (λ d. is_sound_address text q d d.names) ds ≡ true
    → list_all (λ a. is_in_range a.width a.number) (flat_map (λ d. address_in d.names) ds) ≡ true
ranged_declarations text q [] h = refl
ranged_declarations text q (d ∷ ds) h =
    let b = and_parts (is_sound_address text q d d.names) (list_all (λ d. is_sound_address text q d d.names) ds) h in
    list_all-append (λ a. is_in_range a.width a.number) (address_in d.names) (flat_map (λ d. address_in d.names) ds)
    ∙ ap₂ (λ a b. a && b) (ranged_names text q d d.names b.0) (ranged_declarations text q ds b.1)

pub ranged_blocks : (text : Declared) (bs : List GlobalBlock)
    → list_all (λ b. list_all (λ d. is_sound_address text b.qualifier d d.names) b.declarations) bs ≡ true
    → list_all (λ a. is_in_range a.width a.number) (addresses_in bs) ≡ true
ranged_blocks text [] h = refl
ranged_blocks text (b ∷ bs) h =
    let t = and_parts (list_all (λ d. is_sound_address text b.qualifier d d.names) b.declarations)
    (list_all (λ b. list_all (λ d. is_sound_address text b.qualifier d d.names) b.declarations) bs) h in
    list_all-append (λ a. is_in_range a.width a.number) (flat_map (λ d. address_in d.names) b.declarations)
    (addresses_in bs)
    ∙ ap₂ (λ a b. a && b) (ranged_declarations text b.qualifier b.declarations t.0) (ranged_blocks text bs t.1)
