-- Slots that are picked by their marks.
use Rattle.std.proofs.Common.{◌≡◌, ℕ, zero, suc, ◌+◌, ◌<◌, ◌≤◌, Bool, true, false, if◌then◌else◌, List, [], ◌∷◌}
use Rattle.std.proofs.Common.{◌++◌, map, length, drop, take, Option, Some, None, refl, sym, ap, ◌∙◌, arith}
use Rattle.std.proofs.Common.{append-nil, get_or}
use Rattle.std.specs.Prelude.{slice_get, slice_set}
use Rattle.std.proofs.lemmas.Option.{slice_get-get_or}
use Rattle.std.proofs.lemmas.List.{map-append, append_assoc}
use Rattle.std.proofs.Math.ListN.{drop_of_length-le}
use Rattle.std.specs.Ordering.{int_eq}
use Rattle.std.proofs.lemmas.Bool.Decides.{Decides-int_eq}
use Rattle.std.specs.Prelude.{ℤ}
use Rattle.std.proofs.lemmas.Bool.{and_parts}
use Rattle.st_types.specs.declared.kind.Kind.{Kind}
use Rattle.st_types.specs.Kinds.{same_kind}
use Rattle.st_types.specs.Values.{Datum, same_datum}
use Rattle.st_types.proofs.KindLemmas.{same_kind_is}
use Rattle.st_meaning.specs.Slots.{Cell, is_value, agrees, after_writes}
use Rattle.machine_code.specs.declared.mark.Mark.{Mark}
use Rattle.machine_code.specs.Tracking.{are_read, read_by, assigned_by}
use Rattle.slot_memory.specs.declared.cell.Cell as code
use Rattle.slot_memory.specs.Cells.{cell_view, picked, AreAscending}

pub picked_none : (bs : List Bool) (n : ℕ) → picked bs n [] ≡ []
picked_none [] n = refl
picked_none (b ∷ bs) n = refl

-- they ascend
from_lower : (j k most : ℕ) (cells : List Cell) → j ≤ k → AreAscending k most cells → AreAscending j most cells
from_lower j k most [] le h = tt
from_lower j k most (c ∷ cells) le h = (let l = h.0 in omega arith, h.1, h.2)

pub picked_ascend : (bs : List Bool) (k most : ℕ) (vs : List Datum) → k + length vs ≤ most
    → AreAscending k most (picked bs k vs)
picked_ascend [] k most vs le = tt
picked_ascend (b ∷ bs) k most [] le = tt
picked_ascend (b ∷ bs) k most (v ∷ vs) le = by_test b (picked_ascend bs (suc k) most vs (omega arith))
  where
    by_test : (b : Bool) → AreAscending (suc k) most (picked bs (suc k) vs)
        → AreAscending k most (if b then (k, v) ∷ picked bs (suc k) vs else picked bs (suc k) vs)
    by_test true h = (omega arith, omega arith, h)
    by_test false h = from_lower k (suc k) most (picked bs (suc k) vs) (omega arith) h

-- one slot after another
abbrev pub with_slot : Bool → ℕ → Option Datum → List Cell → List Cell
with_slot true n (Some v) cells = (n, v) ∷ cells
with_slot true n None cells = cells
with_slot false n o cells = cells

abbrev pub marks_so : (Mark → Bool) → Option Mark → Bool
marks_so f (Some x) = f x
marks_so f None = false

first_slot : (b : Bool) (n : ℕ) (v : Datum) (cells : List Cell)
    → (if b then (n, v) ∷ cells else cells) ≡ with_slot b n (Some v) cells
first_slot true n v cells = refl
first_slot false n v cells = refl

no_slot : (b : Bool) (n : ℕ) (cells : List Cell) → cells ≡ with_slot b n None cells
no_slot true n cells = refl
no_slot false n cells = refl

picked_at : (f : Mark → Bool) (marks : List Mark) (vs : List Datum) (k n : ℕ)
    → picked (map f (drop k marks)) n (drop k vs) ≡ with_slot (marks_so f (slice_get marks k)) n (slice_get vs k)
    (picked (map f (drop (suc k) marks)) (suc n) (drop (suc k) vs))
picked_at f [] vs zero n = refl
picked_at f [] vs (suc k) n = refl
picked_at f (x ∷ marks) [] zero n = picked_none (map f (x ∷ marks)) n ∙ sym (picked_none (map f marks) (suc n))
    ∙ no_slot (f x) n (picked (map f marks) (suc n) [])
picked_at f (x ∷ marks) [] (suc k) n =
    picked_none (map f (drop k marks)) n ∙ sym (picked_none (map f (drop (suc k) marks)) (suc n))
    ∙ no_slot (marks_so f (slice_get marks k)) n (picked (map f (drop (suc k) marks)) (suc n) [])
picked_at f (x ∷ marks) (v ∷ vs) zero n = first_slot (f x) n v (picked (map f marks) (suc n) vs)
picked_at f (x ∷ marks) (v ∷ vs) (suc k) n = picked_at f marks vs k n

pub read_so : (o : Option Mark) → marks_so (λ x. x.is_read) o ≡ read_by o
read_so (Some x) = refl
read_so None = refl

pub assigned_so : (o : Option Mark) → marks_so (λ x. x.is_assigned) o ≡ assigned_by o
assigned_so (Some x) = refl
assigned_so None = refl

-- the cells that are gathered slot by slot
module _ (f : Mark → Bool) (marks : List Mark) (vs : List Datum) (k : ℕ) (cells all : List Cell)
    (so_far : cells ++ picked (map f (drop k marks)) k (drop k vs) ≡ all) where
  abbrev later : ℕ → List Cell
  later n = picked (map f (drop n marks)) n (drop n vs)

  gathered : (b : Bool) (o : Option Datum) → marks_so f (slice_get marks k) ≡ b → slice_get vs k ≡ o
      → cells ++ with_slot b k o (later (k + 1)) ≡ all
  gathered b o mark value =
      let n : suc k ≡ k + 1 = omega arith in
      ap (λ n. cells ++ with_slot b k o (picked (map f (drop n marks)) n (drop n vs))) (sym n)
      ∙ ap (λ x. cells ++ with_slot b k x (later (suc k))) (sym value)
      ∙ ap (λ x. cells ++ with_slot x k (slice_get vs k) (later (suc k))) (sym mark)
      ∙ ap (λ xs. cells ++ xs) (sym (picked_at f marks vs k k)) ∙ so_far

  pub gathered_more : (v : Datum) → marks_so f (slice_get marks k) ≡ true → slice_get vs k ≡ Some v
      → (cells ++ (k, v) ∷ []) ++ later (k + 1) ≡ all
  gathered_more v mark value = append_assoc cells ((k, v) ∷ []) (later (k + 1)) ∙ gathered true (Some v) mark value

  pub gathered_same : marks_so f (slice_get marks k) ≡ false → cells ++ later (k + 1) ≡ all
  gathered_same mark = gathered false (slice_get vs k) mark refl

  pub gathered_all : length vs ≤ k → cells ≡ all
  gathered_all le =
      sym (append-nil cells) ∙ ap (λ xs. cells ++ xs) (sym (picked_none (map f (drop k marks)) k))
      ∙ ap (λ ys. cells ++ picked (map f (drop k marks)) k ys) (sym (drop_of_length-le vs le)) ∙ so_far

pub take_front : {A : Type 0} (xs ys : List A) (n : ℕ) → length xs ≡ n → take n (xs ++ ys) ≡ xs
take_front [] ys zero e = refl
take_front [] ys (suc n) e = absurd (omega arith)
take_front (x ∷ xs) ys zero e = absurd (omega arith)
take_front (x ∷ xs) ys (suc n) e = ap (λ zs. x ∷ zs) (take_front xs ys n (omega arith))

-- the value at a slot
pub value_at : (vs : List Datum) (k : ℕ) (v : Datum) → k < length vs → v ≡ get_or vs k v → slice_get vs k ≡ Some v
value_at vs k v lt is = slice_get-get_or vs k v lt ∙ ap Some (sym is)

-- one more cell
pub cut_more : (cells more : List code.Cell) (slot : ℕ) (value : Datum)
    → more ≡ cells ++ record { slot = slot; value = value } ∷ []
    → map cell_view more ≡ map cell_view cells ++ (slot, value) ∷ []
cut_more cells more slot value is = ap (map cell_view) is ∙ map-append cell_view cells (record { slot = slot; value = value } ∷ [])

-- values that agree with the picked ones
abbrev datum : Kind → ℤ → Datum
datum k z = record { kind = k; number = z }

same_datum_is : (a b : Datum) → same_datum a b ≡ true → a ≡ b
same_datum_is a b h =
    let p = and_parts (same_kind a.kind b.kind) (int_eq a.number b.number) h in
    ap (λ k. datum k a.number) (same_kind_is a.kind b.kind p.0)
    ∙ ap (datum b.kind) ((Decides-int_eq a.number b.number).0 p.1)

value_is : (o : Option Datum) (v : Datum) → is_value o v ≡ true → o ≡ Some v
value_is None v h = absurd (cc)
value_is (Some w) v h = ap Some (same_datum_is w v h)

pub agrees_at : (f : Mark → Bool) (marks : List Mark) (us vs : List Datum) (j k : ℕ) (u : Datum)
    → agrees vs (picked (map f marks) j us) ≡ true → marks_so f (slice_get marks k) ≡ true → slice_get us k ≡ Some u
    → slice_get vs (j + k) ≡ Some u
agrees_at f [] us vs j k u h m at = absurd (cc)
agrees_at f (x ∷ marks) [] vs j k u h m at = absurd (cc)
agrees_at f (x ∷ marks) (w ∷ us) vs j zero u h m at =
    let is : w ≡ u = cc in
    let here = and_parts (is_value (slice_get vs j) w) (agrees vs (picked (map f marks) (suc j) us))
    (ap (λ b. agrees vs (if b then (j, w) ∷ picked (map f marks) (suc j) us else picked (map f marks) (suc j) us))
    (sym m) ∙ h) in
    let z : j + 0 ≡ j = omega arith in
    ap (slice_get vs) z ∙ value_is (slice_get vs j) w here.0 ∙ ap Some is
agrees_at f (x ∷ marks) (w ∷ us) vs j (suc k) u h m at =
    let z : j + suc k ≡ suc j + k = omega arith in
    ap (slice_get vs) z ∙ agrees_at f marks us vs (suc j) k u (behind (f x) h) m at
  where
    behind : (b : Bool)
        → agrees vs (if b then (j, w) ∷ picked (map f marks) (suc j) us else picked (map f marks) (suc j) us) ≡ true
        → agrees vs (picked (map f marks) (suc j) us) ≡ true
    behind true h = (and_parts (is_value (slice_get vs j) w) (agrees vs (picked (map f marks) (suc j) us)) h).1
    behind false h = h

pub read_agrees : (marks : List Mark) (us vs : List Datum) (k : ℕ) (u : Datum)
    → agrees vs (picked (are_read marks) 0 us) ≡ true → read_by (slice_get marks k) ≡ true → slice_get us k ≡ Some u
    → slice_get vs k ≡ Some u
read_agrees marks us vs k u h m at =
    let z : 0 + k ≡ k = omega arith in
    ap (slice_get vs) (sym z) ∙ agrees_at (λ x. x.is_read) marks us vs 0 k u h (read_so (slice_get marks k) ∙ m) at

-- cells that were picked after a first slot are written after it
pub written_behind : (bs : List Bool) (us : List Datum) (k : ℕ) (v : Datum) (vs : List Datum)
    → after_writes (v ∷ vs) (picked bs (suc k) us) ≡ v ∷ after_writes vs (picked bs k us)
written_behind [] us k v vs = refl
written_behind (b ∷ bs) [] k v vs = refl
written_behind (true ∷ bs) (u ∷ us) k v vs = written_behind bs us (suc k) v (slice_set vs k u)
written_behind (false ∷ bs) (u ∷ us) k v vs = written_behind bs us (suc k) v vs
