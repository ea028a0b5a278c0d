-- The values of a row, input by input.
use Rattle.std.proofs.Common.{◌≡◌, ◌∙◌, sym, refl, ap, ℕ, suc, zero, ◌+◌, ◌<◌, List, [], ◌∷◌, ◌++◌, length, take, drop}
use Rattle.std.proofs.Common.{get_or, true, ◌&&◌, Option, Some, None, arith}
use Rattle.std.specs.Fmt.{signed_decimal}
use Rattle.std.proofs.lemmas.Bool.{and_parts}
use Rattle.std.proofs.lemmas.List.{take_more, map-append}
use Rattle.csv.specs.Records.{field_at}
use Rattle.st_types.specs.declared.kind.Kind.{Kind}
use Rattle.st_types.specs.Kinds.{same_kind, holds}
use Rattle.st_types.specs.Values.{Datum}
use Rattle.st_meaning.specs.declared.plan.PlanInput.{PlanInput}
use Rattle.st_meaning.specs.Plans.{holds_each}
use Rattle.st_print.specs.Numbers.{SpellsValueAt}
use Rattle.image.specs.Plants.{Fields, spelled_values}
use Rattle.image.proofs.FieldLemmas.{take_field, field_at-behind, field_at-cons}

pub held_length : (is : List PlanInput) (vs : List Datum) → holds_each is vs ≡ true → length vs ≡ length is
held_length [] [] h = refl
held_length [] (v ∷ vs) h = absurd (cc)
held_length (i ∷ is) [] h = absurd (cc)
held_length (i ∷ is) (v ∷ vs) h =
    let parts = and_parts (same_kind i.kind v.kind) (holds v.kind v.number && holds_each is vs) h in
    let rest = held_length is vs (and_parts (holds v.kind v.number) (holds_each is vs) parts.1).1 in
    omega arith

length-spelled : (vs : List Datum) → length (spelled_values vs) ≡ length vs
length-spelled [] = refl
length-spelled (v ∷ vs) = let rest = length-spelled vs in omega arith

-- a record of a row has a field for the moment and one for each input
pub spelled_length : (is : List PlanInput) (fields : Fields) (first : List ℕ) (vs : List Datum)
    → holds_each is vs ≡ true → fields ≡ first ∷ spelled_values vs → length fields ≡ length is + 1
spelled_length is fields first vs h e =
    let held = held_length is vs h in
    let spelled = length-spelled vs in
    let same = ap length e in
    omega arith

held_at : (is : List PlanInput) (vs : List Datum) (i : ℕ) (input : PlanInput) → holds_each is vs ≡ true → i < length is
    → input ≡ get_or is i input
    → (v : Datum) × SpellsValueAt input.kind (field_at (spelled_values vs) i) v
unfolding field_at
held_at [] vs i input h less at = absurd (omega arith)
held_at (x ∷ is) [] i input h less at = absurd (cc)
held_at (x ∷ is) (v ∷ vs) zero input h less at =
    let parts = and_parts (same_kind x.kind v.kind) (holds v.kind v.number && holds_each is vs) h in
    let held = (and_parts (holds v.kind v.number) (holds_each is vs) parts.1).0 in
    (v, rw at (parts.0, held, refl))
held_at (x ∷ is) (v ∷ vs) (suc i) input h less at =
    let parts = and_parts (same_kind x.kind v.kind) (holds v.kind v.number && holds_each is vs) h in
    held_at is vs i input (and_parts (holds v.kind v.number) (holds_each is vs) parts.1).1 (omega arith) at

-- in the record of a row each input's field spells a value
pub spelled_at : (is : List PlanInput) (fields : Fields) (first : List ℕ) (vs : List Datum) (i : ℕ) (input : PlanInput)
    → holds_each is vs ≡ true → i < length is → input ≡ get_or is i input
    → fields ≡ first ∷ spelled_values vs → (v : Datum) × SpellsValueAt input.kind (field_at fields (i + 1)) v
spelled_at is fields first vs i input h less at e =
    rw (e, field_at-cons first (spelled_values vs) i) (held_at is vs i input h less at)

-- one value more
pub spelled_more : (fields : Fields) (i : ℕ) (vs : List Datum) (k : Kind) (v : Datum)
    → take i (drop 1 fields) ≡ spelled_values vs → SpellsValueAt k (field_at fields (i + 1)) v
    → take (i + 1) (drop 1 fields) ≡ spelled_values (vs ++ v ∷ [])
spelled_more fields i vs k v e h = by (field_at fields (i + 1)) refl h
  where
    by : (o : Option (List ℕ)) → field_at fields (i + 1) ≡ o → SpellsValueAt k o v
        → take (i + 1) (drop 1 fields) ≡ spelled_values (vs ++ v ∷ [])
    by None at s = absurd s
    by (Some field) at s =
        take_field (drop 1 fields) i field (sym (field_at-behind fields i) ∙ at)
        ∙ (ap (λ fs. fs ++ field ∷ []) e
        ∙ (ap (λ f. spelled_values vs ++ f ∷ []) s.2 ∙ sym (map-append (λ v. signed_decimal v.number) vs (v ∷ []))))

held_push : (is : List PlanInput) (vs : List Datum) (input : PlanInput) (v : Datum) → holds_each is vs ≡ true
    → same_kind input.kind v.kind ≡ true → holds v.kind v.number ≡ true
    → holds_each (is ++ input ∷ []) (vs ++ v ∷ []) ≡ true
held_push [] [] input v h k held = rw (k, held) refl
held_push [] (w ∷ vs) input v h k held = absurd (cc)
held_push (x ∷ is) [] input v h k held = absurd (cc)
held_push (x ∷ is) (w ∷ vs) input v h k held =
    let parts = and_parts (same_kind x.kind w.kind) (holds w.kind w.number && holds_each is vs) h in
    let more = and_parts (holds w.kind w.number) (holds_each is vs) parts.1 in
    rw (parts.0, more.0) (held_push is vs input v more.1 k held)

pub held_more : (is : List PlanInput) (vs : List Datum) (i : ℕ) (input : PlanInput) (v : Datum) (o : Option (List ℕ))
    → holds_each (take i is) vs ≡ true → i < length is → input ≡ get_or is i input
    → SpellsValueAt input.kind o v → holds_each (take (i + 1) is) (vs ++ v ∷ []) ≡ true
held_more is vs i input v None h less at s = absurd s
held_more is vs i input v (Some field) h less at s =
    rw (take_more is i input less, ← at) (held_push (take i is) vs input v h s.0 s.1)
