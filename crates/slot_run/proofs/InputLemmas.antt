-- Writes to slots of inputs.
use Rattle.std.proofs.Common.{◌≡◌, ℕ, zero, suc, Bool, true, false, not, if◌then◌else◌, List, [], ◌∷◌, length, refl}
use Rattle.std.proofs.Common.{sym}
use Rattle.std.proofs.Common.{ap, ◌∙◌, arith}
use Rattle.std.specs.Prelude.{slice_set}
use Rattle.std.specs.List.{filter}
use Rattle.std.proofs.lemmas.List.{length-set}
use Rattle.st_types.specs.Values.{Datum}
use Rattle.st_types.specs.Paths.{Path}
use Rattle.st_meaning.specs.Slots.{Slot, Cell, variables_with, after_writes}
use Rattle.st_meaning.specs.Stores.{Store}
use Rattle.slot_run.specs.Inputs.{is_input_slot}

-- the variables with one slot more in front
abbrev before : Bool → Path → Datum → Store → Store
before input p v s = if input then s else (p, v) ∷ s

-- a write to an input's slot
input_set : (layout : List Slot) (vs : List Datum) (k : ℕ) (v : Datum) → is_input_slot layout k ≡ true
    → variables_with layout (slice_set vs k v) ≡ variables_with layout vs
input_set [] vs k v is = refl
input_set (l ∷ ls) [] k v is = refl
input_set (l ∷ ls) (u ∷ vs) zero v is = rw is refl
input_set (l ∷ ls) (u ∷ vs) (suc k) v is = ap (before l.is_input l.path u) (input_set ls vs k v is)

-- equal variables of two lists, slot by slot
behind_first : (t : Bool) (p : Path) (u w : Datum) (s r : Store) → before t p u s ≡ before t p w r
    → (t ≡ false → u ≡ w) × (s ≡ r)
behind_first true p u w s r e = ((λ f. absurd (cc)), e)
behind_first false p u w s r e =
    let first : ◌≡◌ {A = Path × Datum} (p, u) (p, w) = cc in ((λ f. ap (λ x. x.1) first), cc)

with_first : (t : Bool) (p : Path) (u w : Datum) (s r : Store) → (t ≡ false → u ≡ w) → s ≡ r
    → before t p u s ≡ before t p w r
with_first true p u w s r same e = e
with_first false p u w s r same e = let is = same refl in cc

-- the same written over the same variables
both_set : (layout : List Slot) (us vs : List Datum) (k : ℕ) (v : Datum) → length us ≡ length vs
    → variables_with layout us ≡ variables_with layout vs
    → variables_with layout (slice_set us k v) ≡ variables_with layout (slice_set vs k v)
both_set [] us vs k v long same = refl
both_set (l ∷ ls) [] [] k v long same = refl
both_set (l ∷ ls) [] (w ∷ vs) k v long same = absurd (omega arith)
both_set (l ∷ ls) (u ∷ us) [] k v long same = absurd (omega arith)
both_set (l ∷ ls) (u ∷ us) (w ∷ vs) zero v long same =
    let h = behind_first l.is_input l.path u w (variables_with ls us) (variables_with ls vs) same in
    ap (before l.is_input l.path v) h.1
both_set (l ∷ ls) (u ∷ us) (w ∷ vs) (suc k) v long same =
    let h = behind_first l.is_input l.path u w (variables_with ls us) (variables_with ls vs) same in
    with_first l.is_input l.path u w _ _ h.0 (both_set ls us vs k v (omega arith) h.1)

-- a write that is left out, or made
one_left_out : (layout : List Slot) (cells rest : List Cell) (c : Cell) (us vs : List Datum) (t : Bool)
    → is_input_slot layout c.0 ≡ t → length us ≡ length vs → variables_with layout us ≡ variables_with layout vs
    → ((us vs : List Datum) → length us ≡ length vs → variables_with layout us ≡ variables_with layout vs
    → variables_with layout (after_writes us rest) ≡ variables_with layout (after_writes vs cells))
    → variables_with layout (after_writes us (if not t then c ∷ rest else rest))
    ≡ variables_with layout (after_writes (slice_set vs c.0 c.1) cells)
one_left_out layout cells rest c us vs true is long same go =
    go us (slice_set vs c.0 c.1) (long ∙ sym (length-set vs c.0 c.1)) (same ∙ sym (input_set layout vs c.0 c.1 is))
one_left_out layout cells rest c us vs false is long same go =
    go (slice_set us c.0 c.1) (slice_set vs c.0 c.1) (length-set us c.0 c.1 ∙ long ∙ sym (length-set vs c.0 c.1))
    (both_set layout us vs c.0 c.1 long same)

pub left_out : (layout : List Slot) (cells : List Cell) (us vs : List Datum) → length us ≡ length vs
    → variables_with layout us ≡ variables_with layout vs
    → variables_with layout (after_writes us (filter (λ c. not (is_input_slot layout c.0)) cells))
    ≡ variables_with layout (after_writes vs cells)
left_out layout [] us vs long same = same
left_out layout (c ∷ cells) us vs long same =
    one_left_out layout cells (filter (λ c. not (is_input_slot layout c.0)) cells) c us vs (is_input_slot layout c.0)
    refl long same (λ us vs long same. left_out layout cells us vs long same)
