-- The values of a row, field by field.
use Rattle.std.proofs.Common.{◌≡◌, ◌∙◌, sym, refl, ap, ℕ, suc, zero, ◌+◌, ◌<◌, ◌≤◌, List, [], ◌∷◌, ◌++◌, length, take}
use Rattle.std.proofs.Common.{get_or, true, false, ◌&&◌, arith, append_assoc, length-append, length-take-le}
use Rattle.std.specs.Fmt.{digits, signed_decimal}
use Rattle.std.proofs.lemmas.Bool.{and_parts}
use Rattle.std.proofs.lemmas.List.{map-append}
use Rattle.st_types.specs.Kinds.{same_kind, holds}
use Rattle.st_types.specs.declared.kind.Kind.{Kind}
use Rattle.st_types.specs.declared.kind.Kind.TheVariants.{Bool as Boolean}
use Rattle.st_types.specs.Values.{Datum, bool_datum}
use Rattle.st_meaning.specs.declared.plan.PlanInput.{PlanInput}
use Rattle.st_meaning.specs.Plans.{holds_each}
use Rattle.st_print.specs.Numbers.{SpellsValue}
use Rattle.image.specs.Plants.{Fields, spelled_values}
use Rattle.image.proofs.RowLemmas.{held_length}

-- the only byte
pub only_byte : (field : List ℕ) (byte : ℕ) → 1 ≤ length field → length field < 2 → get_or field 0 0 ≡ byte
    → field ≡ byte ∷ []
only_byte [] byte some few is = absurd (omega arith)
only_byte (x ∷ []) byte some few is = ap (λ y. y ∷ []) is
only_byte (x ∷ y ∷ ys) byte some few is = absurd (omega arith)

-- the digit of a BOOL
pub spells_false : (kind : Kind) (field : List ℕ) (v : Datum) → kind ≡ Boolean → v ≡ bool_datum false → field ≡ 48 ∷ []
    → SpellsValue kind field v
unfolding digits
spells_false kind field v is same digit = rw (is, same, digit) (refl, refl, refl)

pub spells_true : (kind : Kind) (field : List ℕ) (v : Datum) → kind ≡ Boolean → v ≡ bool_datum true → field ≡ 49 ∷ []
    → SpellsValue kind field v
unfolding digits
spells_true kind field v is same digit = rw (is, same, digit) (refl, refl, refl)

-- there are as many fields as values
pub length-spelled_values : (vs : List Datum) → length (spelled_values vs) ≡ length vs
length-spelled_values [] = refl
length-spelled_values (v ∷ vs) = let rest = length-spelled_values vs in omega arith

-- a value more, and the fields of the rest after it
pub value_more : (whole : Fields) (vs : List Datum) (v : Datum) (field : List ℕ) (rest behind : Fields)
    → whole ≡ spelled_values vs ++ rest → rest ≡ field ∷ behind → field ≡ signed_decimal v.number
    → whole ≡ spelled_values (vs ++ v ∷ []) ++ behind
value_more whole vs v field rest behind is cut spells =
    is ∙ ap (λ fs. spelled_values vs ++ fs) (cut ∙ ap (λ f. f ∷ behind) spells)
    ∙ sym (append_assoc (spelled_values vs) (signed_decimal v.number ∷ []) behind)
    ∙ ap (λ fs. fs ++ behind) (sym (map-append (λ v. signed_decimal v.number) vs (v ∷ [])))

-- so many values are spelled before the rest
pub left_over : (is : List PlanInput) (i : ℕ) (done vs : List Datum) (whole rest : Fields) → i ≤ length is
    → holds_each (take i is) done ≡ true → holds_each is vs ≡ true
    → whole ≡ spelled_values done ++ rest → whole ≡ spelled_values vs → i + length rest ≡ length is
left_over is i done vs whole rest within held all is_done is_all =
    let few = held_length (take i is) done held in
    let taken = length-take-le i is within in
    let many = held_length is vs all in
    let first = length-spelled_values done in
    let second = length-spelled_values vs in
    let sum = length-append (spelled_values done) rest in
    let same = ap length (sym is_done ∙ is_all) in
    omega arith

-- after the values of the inputs before, the field of an input spells a value of its type
pub next_spells : (is : List PlanInput) (i : ℕ) (input : PlanInput) (done vs : List Datum) (field : List ℕ)
    (rest : Fields) → i < length is → input ≡ get_or is i input → holds_each (take i is) done ≡ true
    → holds_each is vs ≡ true → spelled_values done ++ field ∷ rest ≡ spelled_values vs
    → (v : Datum) × SpellsValue input.kind field v
next_spells [] i input done vs field rest less at held all e = absurd (omega arith)
next_spells (x ∷ is) i input done [] field rest less at held all e = absurd (cc)
next_spells (x ∷ is) zero input [] (v ∷ vs) field rest less at held all e =
    let parts = and_parts (same_kind x.kind v.kind) (holds v.kind v.number && holds_each is vs) all in
    let held_v = (and_parts (holds v.kind v.number) (holds_each is vs) parts.1).0 in
    let same : field ≡ signed_decimal v.number = cc in
    (v, rw at (parts.0, held_v, same))
next_spells (x ∷ is) zero input (d ∷ done) (v ∷ vs) field rest less at held all e = absurd (cc)
next_spells (x ∷ is) (suc i) input [] (v ∷ vs) field rest less at held all e = absurd (cc)
next_spells (x ∷ is) (suc i) input (d ∷ done) (v ∷ vs) field rest less at held all e =
    let more = and_parts (same_kind x.kind v.kind) (holds v.kind v.number && holds_each is vs) all in
    let all_more = (and_parts (holds v.kind v.number) (holds_each is vs) more.1).1 in
    let done_parts = and_parts (same_kind x.kind d.kind) (holds d.kind d.number && holds_each (take i is) done) held in
    let done_more = (and_parts (holds d.kind d.number) (holds_each (take i is) done) done_parts.1).1 in
    let same : spelled_values done ++ field ∷ rest ≡ spelled_values vs = cc in
    next_spells is i input done vs field rest (omega arith) at done_more all_more same
