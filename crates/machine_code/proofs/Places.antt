-- Code that grows, and code that is part of other code.
use Rattle.std.proofs.Common.{◌≡◌, ◌≢◌, ℕ, suc, ◌≤◌, ◌<◌, [], ◌∷◌, length}
use Rattle.std.proofs.Common.{Some, ap, ◌∙◌, arith, length-append, get_or-set_other}
use Rattle.std.proofs.Common.{get_or-set_same}
use Rattle.std.specs.Prelude.{slice_get, slice_set}
use Rattle.std.proofs.Math.ListN.{get_or-append, length-set}
use Rattle.std.proofs.Math.Seq.{get_or-append_seam}
use Rattle.std.proofs.lemmas.Option.{slice_get-get_or, slice_get_within, get_or_from_slice_get}
use Rattle.machine_code.specs.declared.instr.Instr.{Instr}
use Rattle.machine_code.specs.declared.instr.Instr.TheVariants.{LoopBack}
use Rattle.machine_code.specs.Growing.{Code, ◌◂◌, closed}

-- the instructions of the first are in the second at their places
pub record Grows (v w : Code) : Type 0 where
  pub longer : length v ≤ length w
  pub keeps : (k : ℕ) (i : Instr) → slice_get v k ≡ Some i → slice_get w k ≡ Some i

-- from place n on, the instructions of w are in the whole code
pub record Has (whole : Code) (n : ℕ) (w : Code) : Type 0 where
  pub within : length w ≤ length whole
  pub same : (k : ℕ) (i : Instr) → n ≤ k → slice_get w k ≡ Some i → slice_get whole k ≡ Some i

pub same_code : (c : Code) → Grows c c
same_code c = record { longer = omega arith; keeps = λ k i h. h }

pub grows_on : {c d e : Code} → Grows c d → Grows d e → Grows c e
grows_on g h = record {
  longer = (let l = g.longer in let m = h.longer in omega arith);
  keeps = λ k i e. h.keeps k i
      (g.keeps k i e);
}

pub place_put : (c : Code) (i : Instr) → length (c ◂ i) ≡ suc (length c)
place_put c i = omega (arith, length-append c (i ∷ []))

get_put : (c : Code) (i j : Instr) (k : ℕ) → slice_get c k ≡ Some j → slice_get (c ◂ i) k ≡ Some j
get_put c i j k h =
    let lt = slice_get_within c k j h in
    let l = place_put c i in
    let in_longer : k < length (c ◂ i) = omega arith in
    slice_get-get_or (c ◂ i) k i in_longer ∙ ap Some (get_or-append c (i ∷ []) i k lt ∙ get_or_from_slice_get c k j i h)

pub get_last : (c : Code) (i : Instr) → slice_get (c ◂ i) (length c) ≡ Some i
get_last c i =
    let l = place_put c i in
    let lt : length c < length (c ◂ i) = omega arith in
    slice_get-get_or (c ◂ i) (length c) i lt ∙ ap Some (get_or-append_seam c i [] i)

pub put : (c : Code) (i : Instr) → Grows c (c ◂ i)
put c i = record { longer = (let l = place_put c i in omega arith); keeps = λ k j h. get_put c i j k h }

pub put_on : {c d : Code} (i : Instr) → Grows c d → Grows c (d ◂ i)
put_on {c} {d} i g = grows_on g (put d i)

get_set : (c : Code) (n : ℕ) (i j : Instr) (k : ℕ) → k ≢ n → slice_get c k ≡ Some j → slice_get (slice_set c n i) k
    ≡ Some j
get_set c n i j k ne h =
    let lt = slice_get_within c k j h in
    let l : length (slice_set c n i) ≡ length c = length-set c n i in
    let lt' : k < length (slice_set c n i) = omega arith in
    slice_get-get_or (slice_set c n i) k i lt' ∙ ap Some (get_or-set_other c n k i i ne
    ∙ get_or_from_slice_get c k j i h)

pub length_closed : (n : ℕ) (c : Code) → length (closed n c) ≡ length c
length_closed n c = length-set c n (LoopBack (length c))

-- code whose beginning jumps back has the instructions before it
pub close_on : {c d : Code} → Grows c d → Grows c (closed (length c) d)
close_on {c} {d} g = record {
  longer = (let l = g.longer in let e = length_closed (length c) d in omega arith);
  keeps = λ k i h. (let lt = slice_get_within c k i h in get_set d (length c) (LoopBack (length d)) i k (omega arith)
      (g.keeps k i h));
}

-- parts of code that is in the whole code
pub part : {whole c d v w : Code} → Grows c d → Grows v w → Has whole (length c) w → Has whole (length d) v
part g h has = record {
  within = (let l = h.longer in let m = has.within in omega arith);
  same = λ k i le e. (let l = g.longer in has.same k i (omega arith) (h.keeps k i e));
}

-- the code after the jump back of a loop
pub opened : {whole : Code} (c d : Code) (i : Instr) → Has whole (length c) (closed (length c) d) → Has whole (length
    (c ◂ i)) d
opened {whole} c d i has = record {
  within = (let e = length_closed (length c) d in let m = has.within in omega arith);
  same = λ k j le e. (let l = place_put c i in has.same k j (omega arith) (get_set d (length c) (LoopBack (length d)) j k
      (omega arith) e));
}

-- the jump back itself
pub at_back : {whole : Code} (c d : Code) (i : Instr) → Grows (c ◂ i) d → Has whole (length c) (closed (length c) d)
    → slice_get whole (length c) ≡ Some (LoopBack (length d))
at_back {whole} c d i g has =
    let l = place_put c i in
    let m = g.longer in
    let e = length_closed (length c) d in
    let lt : length c < length d = omega arith in
    let lt' : length c < length (closed (length c) d) = omega arith in
    has.same (length c) (LoopBack (length d)) (omega arith) (slice_get-get_or (closed (length c) d) (length c) i lt'
    ∙ ap Some (get_or-set_same d (length c) (LoopBack (length d)) i lt))

-- an instruction
pub at_put : {whole : Code} (c : Code) (i : Instr) → Has whole (length c) (c ◂ i) → slice_get whole (length c) ≡ Some i
at_put c i has = has.same (length c) i (omega arith) (get_last c i)
