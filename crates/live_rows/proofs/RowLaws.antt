-- The rows that lines spell.
use Rattle.std.proofs.Common.{◌≡◌, ℕ, ℤ, ◌<◌, ◌^◌, true, ◌&&◌, List, [], ◌∷◌, All, refl, sym, ap, ◌∙◌, arith}
use Rattle.std.proofs.lemmas.Bool.{and_parts}
use Rattle.std.proofs.lemmas.Fmt.{decimal_injective}
use Rattle.std.proofs.lemmas.List.Elements.{All-head, All-tail}
use Rattle.std.specs.Fmt.{decimal, signed_decimal}
use Rattle.st_types.specs.declared.kind.Kind.{Kind}
use Rattle.st_types.specs.Kinds.{names_in, same_kind, holds}
use Rattle.st_types.specs.Values.{Datum}
use Rattle.st_types.specs.Rows.{Latch}
use Rattle.st_types.proofs.KindLemmas.{same_kind_is}
use Rattle.st_meaning.specs.declared.plan.PlanInput.{PlanInput}
use Rattle.st_meaning.specs.Plans.{holds_each}
use Rattle.st_print.proofs.NumberLemmas.{held_short, one_number}
use Rattle.image.specs.Plants.{IsRowOf, spelled, spelled_values}
use Rattle.live_rows.specs.RowLines.{fields_in, row_line}
use Rattle.live_rows.proofs.RowLineLemmas.{fields_of_row}

abbrev pub AreFew : PlanInput → Type 0
AreFew i = names_in i.kind < 2 ^ 16

abbrev datum_of : Kind → ℤ → Datum
datum_of kind number = record { kind = kind; number = number }

abbrev latch_of : ℕ → List Datum → Latch
latch_of moment image = record { moment = moment; image = image }

-- a value of an input's type has one spelling
one_value : (i : PlanInput) (v w : Datum) → AreFew i → same_kind i.kind v.kind ≡ true → holds v.kind v.number ≡ true
    → same_kind i.kind w.kind ≡ true → holds w.kind w.number ≡ true → signed_decimal v.number ≡ signed_decimal w.number → v ≡ w
one_value i v w few a b c d e =
    let first = same_kind_is i.kind v.kind a in
    let second = same_kind_is i.kind w.kind c in
    let kinds : v.kind ≡ w.kind = sym first ∙ second in
    let low : names_in v.kind < 2 ^ 16 = omega (arith, few, ap names_in first) in
    let high : names_in w.kind < 2 ^ 16 = omega (arith, few, ap names_in second) in
    let numbers : v.number ≡ w.number = one_number v.number w.number (held_short v.kind v.number low b) (held_short w.kind w.number high d) e in
    ap (λ k. datum_of k v.number) kinds ∙ ap (λ n. datum_of w.kind n) numbers

cons_parts : {X : Type 0} (x y : X) (xs ys : List X) → x ∷ xs ≡ y ∷ ys → (x ≡ y) × (xs ≡ ys)
cons_parts x y xs ys e = (cc, cc)

-- a plan's values have one spelling
pub one_image : (is : List PlanInput) (vs ws : List Datum) → All AreFew is → holds_each is vs ≡ true → holds_each is ws ≡ true
    → spelled_values vs ≡ spelled_values ws → vs ≡ ws
one_image [] [] [] few a b e = refl
one_image [] [] (w ∷ ws) few a b e = absurd cc
one_image [] (v ∷ vs) ws few a b e = absurd cc
one_image (i ∷ is) [] ws few a b e = absurd cc
one_image (i ∷ is) (v ∷ vs) [] few a b e = absurd cc
one_image (i ∷ is) (v ∷ vs) (w ∷ ws) few a b e =
    let p = and_parts (same_kind i.kind v.kind) (holds v.kind v.number && holds_each is vs) a in
    let q = and_parts (holds v.kind v.number) (holds_each is vs) p.1 in
    let r = and_parts (same_kind i.kind w.kind) (holds w.kind w.number && holds_each is ws) b in
    let s = and_parts (holds w.kind w.number) (holds_each is ws) r.1 in
    let parts = cons_parts (signed_decimal v.number) (signed_decimal w.number) (spelled_values vs) (spelled_values ws) e in
    let same = one_value i v w (All-head AreFew i is few) p.0 q.0 r.0 s.0 parts.0 in
    let more = one_image is vs ws (All-tail AreFew i is few) q.1 s.1 parts.1 in
    ap (λ x. x ∷ vs) same ∙ ap (λ xs. w ∷ xs) more

pub one_row : (inputs : List PlanInput) (a b : Latch) → All AreFew inputs → IsRowOf inputs a → IsRowOf inputs b → row_line a ≡ row_line b → a ≡ b
one_row inputs a b few p q e =
    let fields : spelled a ≡ spelled b = sym (fields_of_row a) ∙ ap fields_in e ∙ fields_of_row b in
    let parts = cons_parts (decimal a.moment) (decimal b.moment) (spelled_values a.image) (spelled_values b.image) fields in
    let moments : a.moment ≡ b.moment = decimal_injective a.moment b.moment (omega (arith, p.1)) (omega (arith, q.1)) parts.0 in
    let images : a.image ≡ b.image = one_image inputs a.image b.image few p.0 q.0 parts.1 in
    ap (λ m. latch_of m a.image) moments ∙ ap (λ vs. latch_of b.moment vs) images
