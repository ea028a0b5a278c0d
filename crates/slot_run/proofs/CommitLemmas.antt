-- Commits keep inputs and types.
use Rattle.std.proofs.Common.{◌≡◌, ℕ, zero, suc, Bool, true, false, not, if◌then◌else◌, List, [], ◌∷◌, map}
use Rattle.std.proofs.Common.{length, refl, sym, ap, ◌∙◌, arith}
use Rattle.std.specs.Prelude.{slice_set}
use Rattle.std.specs.List.{filter}
use Rattle.std.proofs.lemmas.List.{length-set}
use Rattle.st_types.specs.declared.kind.Kind.{Kind}
use Rattle.st_types.specs.Values.{Datum}
use Rattle.st_types.specs.Paths.{Path}
use Rattle.st_meaning.specs.Stores.{Store, shape_of}
use Rattle.st_meaning.specs.Slots.{Slot, Cell, variables_with, inputs_in, after_writes}
use Rattle.slot_run.specs.Inputs.{is_input_slot}
use Rattle.slot_run.specs.Commits.{committed}

-- a write to a slot that isn't an input's leaves the inputs
input_stays : (layout : List Slot) (vs : List Datum) (k : ℕ) (v : Datum) → is_input_slot layout k ≡ false
    → inputs_in layout (slice_set vs k v) ≡ inputs_in layout vs
input_stays [] vs k v out = refl
input_stays (l ∷ ls) [] k v out = refl
input_stays (l ∷ ls) (u ∷ vs) zero v out = rw out refl
input_stays (l ∷ ls) (u ∷ vs) (suc k) v out =
    ap (λ s. if l.is_input then (l.path, u) ∷ s else s) (input_stays ls vs k v out)

one_stays : (layout : List Slot) (c : Cell) (rest : List Cell) (vs : List Datum) (t : Bool)
    → is_input_slot layout c.0 ≡ t
    → ((us : List Datum) → inputs_in layout (after_writes us rest) ≡ inputs_in layout us)
    → inputs_in layout (after_writes vs (if not t then c ∷ rest else rest)) ≡ inputs_in layout vs
one_stays layout c rest vs true is go = go vs
one_stays layout c rest vs false is go = go (slice_set vs c.0 c.1) ∙ input_stays layout vs c.0 c.1 is

pub inputs_stay : (layout : List Slot) (cells : List Cell) (vs : List Datum)
    → inputs_in layout (committed layout vs cells) ≡ inputs_in layout vs
inputs_stay layout [] vs = refl
inputs_stay layout (c ∷ cells) vs =
    one_stays layout c (filter (λ c. not (is_input_slot layout c.0)) cells) vs (is_input_slot layout c.0) refl
    (λ us. inputs_stay layout cells us)

pub length_written : (cells : List Cell) (vs : List Datum) → length (after_writes vs cells) ≡ length vs
length_written [] vs = refl
length_written (c ∷ cells) vs = length_written cells (slice_set vs c.0 c.1) ∙ length-set vs c.0 c.1

-- values whose inputs are the same and whose variables are of the same types
abbrev kinds_of : List Datum → List Kind
kinds_of vs = map (λ v. v.kind) vs

abbrev with_shape : Bool → Path → Kind → List (Path × Kind) → List (Path × Kind)
with_shape t p k s = if t then s else (p, k) ∷ s

abbrev with_input : Bool → Path → Datum → Store → Store
with_input t p v s = if t then (p, v) ∷ s else s

shape_first : (t : Bool) (p : Path) (v : Datum) (s : Store)
    → shape_of (if t then s else (p, v) ∷ s) ≡ with_shape t p v.kind (shape_of s)
shape_first true p v s = refl
shape_first false p v s = refl

first_kinds : (t : Bool) (p : Path) (u v : Datum) (r s : List (Path × Kind)) (x y : Store)
    → with_shape t p u.kind r ≡ with_shape t p v.kind s → with_input t p u x ≡ with_input t p v y
    → (u.kind ≡ v.kind) × (r ≡ s) × (x ≡ y)
first_kinds true p u v r s x y e f =
    let first : ◌≡◌ {A = Path × Datum} (p, u) (p, v) = cc in (ap (λ z. z.1.kind) first, e, cc)
first_kinds false p u v r s x y e f =
    let first : ◌≡◌ {A = Path × Kind} (p, u.kind) (p, v.kind) = cc in (ap (λ z. z.1) first, cc, f)

pub types_stay : (layout : List Slot) (us vs : List Datum) → length us ≡ length vs → length layout ≡ length vs
    → shape_of (variables_with layout us) ≡ shape_of (variables_with layout vs)
    → inputs_in layout us ≡ inputs_in layout vs → kinds_of us ≡ kinds_of vs
types_stay [] [] [] long many shapes inputs = refl
types_stay [] us (v ∷ vs) long many shapes inputs = absurd (omega arith)
types_stay [] (u ∷ us) [] long many shapes inputs = absurd (omega arith)
types_stay (l ∷ ls) us [] long many shapes inputs = absurd (omega arith)
types_stay (l ∷ ls) [] (v ∷ vs) long many shapes inputs = absurd (omega arith)
types_stay (l ∷ ls) (u ∷ us) (v ∷ vs) long many shapes inputs =
    let h = first_kinds l.is_input l.path u v _ _ (inputs_in ls us) (inputs_in ls vs)
    (sym (shape_first l.is_input l.path u (variables_with ls us)) ∙ shapes
    ∙ shape_first l.is_input l.path v (variables_with ls vs)) inputs in
    let rest = types_stay ls us vs (omega arith) (omega arith) h.1 h.2 in
    ap (λ k. k ∷ kinds_of us) h.0 ∙ ap (λ ks. v.kind ∷ ks) rest
