-- The file after a stop while a short file is made one of two closed areas.
use Rattle.std.proofs.Common.{◌+◌, ◌-◌, ◌≡◌, ◌≢◌, ◌⊎◌, inl, inr, ⊎_elim, ℕ, ◌<◌, ◌≤◌, List, [], ◌∷◌, ◌++◌, length}
use Rattle.std.proofs.Common.{get_or, take, replicate, zero, suc, refl, sym, ◌∙◌, ap, arith, length-append}
use Rattle.std.proofs.lemmas.Grind.{common_steps}
use Rattle.std.proofs.lemmas.Bool.{cases_eq, cases_lt}
use Rattle.std.proofs.lemmas.Bool.Decides.{nat_tests}
use Rattle.std.proofs.lemmas.List.{get_or_append_left, get_or-append_right, length-replicate, length-take-le}
use Rattle.retain_store.specs.declared.shape.TheConstants.{AREA_BYTES, FILE_BYTES, OPEN_GATE}
use Rattle.disk.specs.Disk.{Torn, overwritten}
use Rattle.retain_store.specs.Recovered.{Nothing, TooLong, recovered}
use Rattle.retain_store.specs.Areas.{alone, IsShut, IsZeros}
use Rattle.retain_store.specs.declared.fault.StoreFault.TheVariants as faults
use Rattle.retain_store.specs.Opening.{IsLeftByOpening, IsRefusal}
use Rattle.retain_store.proofs.AreaLemmas.{shut_area, recovered_shut}

pub short_nothing : (file : List ℕ) → length file < FILE_BYTES → recovered file ≡ Nothing
unfolding recovered
short_nothing file short = grind (arith, nat_tests)

pub long_too_long : (file : List ℕ) → FILE_BYTES < length file → recovered file ≡ TooLong
unfolding recovered
long_too_long file long = grind (arith, nat_tests)

-- the file as it was, after a stop while it is opened
pub left_same : (old file : List ℕ) → file ≡ old → IsLeftByOpening old file
left_same old file same = record { same = ap recovered same; kept = λ long. same }

-- a file without a record, after a stop while a shorter one is opened
pub left_short : (old file : List ℕ) → length old < FILE_BYTES → recovered file ≡ Nothing → IsLeftByOpening old file
left_short old file short none = record {
  same = none ∙ sym (short_nothing old short);
  kept = λ long. absurd (omega arith);
}

-- a device that failed while the file was opened
pub device_failed : (old new : List ℕ) → (FILE_BYTES ≤ length old → new ≡ old) → IsRefusal faults.Device old new
device_failed old new kept = record { applies = tt; unwritten = kept }

-- two closed areas
pub record IsEmpty (file : List ℕ) : Type 0 where
  pub size : length file ≡ FILE_BYTES
  pub first : IsShut 0 file
  pub second : IsShut AREA_BYTES file

pub empty_nothing : (file : List ℕ) → IsEmpty file → recovered file ≡ Nothing
empty_nothing file empty = recovered_shut 0 file (inl refl) empty.size (shut_area 0 file empty.first)
    ∙ ap alone (shut_area AREA_BYTES file empty.second)

not_open : (n : ℕ) → n ≡ 0 → n ≢ OPEN_GATE
not_open n is_zero here = absurd (omega arith)

module _ (first zeros : List ℕ) (short : length first < FILE_BYTES) (good : IsZeros (FILE_BYTES - 1) zeros) where
  pub torn_zeros : (file : List ℕ) → Torn 0 (length zeros) first file → recovered file ≡ Nothing
  torn_zeros file torn = short_nothing file (omega (arith, torn.no_longer, good.size_is))

  pub second_is : overwritten first 0 zeros ≡ zeros
  second_is = grind (arith, common_steps, good.size_is)

appended : (xs bytes : List ℕ) (n : ℕ) → length xs ≡ n → overwritten xs n bytes ≡ xs ++ bytes
appended xs bytes n size = grind (arith, common_steps)

pub third_is : (zeros : List ℕ) → IsZeros (FILE_BYTES - 1) zeros
    → overwritten zeros (FILE_BYTES - 1) (0 ∷ []) ≡ zeros ++ 0 ∷ []
third_is zeros good = appended zeros (0 ∷ []) (FILE_BYTES - 1) good.size_is

-- one zero byte, and those after it that aren't there
one_zero : (i : ℕ) → ◌≡◌ {A = ℕ} (get_or (0 ∷ []) i 0) 0
one_zero zero = refl
one_zero (suc i) = refl

one_zero_more : (n : ℕ) (zeros : List ℕ) → IsZeros n zeros → IsZeros (n + 1) (zeros ++ 0 ∷ [])
one_zero_more n zeros good = record {
  size_is = omega (arith, good.size_is, length-append zeros (0 ∷ []));
  all = λ i. elim (cases_lt i n) [
    | inl low ↦ get_or_append_left zeros (0 ∷ []) 0 i (omega (arith, good.size_is)) ∙ good.all i
    | inr high ↦ get_or-append_right zeros (0 ∷ []) n i 0 good.size_is high ∙ one_zero (i - n)
  ];
}

pub zeros_third : (zeros : List ℕ) → IsZeros (FILE_BYTES - 1) zeros → IsZeros FILE_BYTES (zeros ++ 0 ∷ [])
zeros_third zeros good = one_zero_more (FILE_BYTES - 1) zeros good

-- a file of zero bytes has two closed areas
pub zeros_empty : (file : List ℕ) → IsZeros FILE_BYTES file → IsEmpty file
zeros_empty file zeros = record {
  size = zeros.size_is;
  first = not_open _ (zeros.all 0);
  second = not_open _ (zeros.all AREA_BYTES);
}

pub torn_last : (zeros file : List ℕ) → IsZeros (FILE_BYTES - 1) zeros → Torn (FILE_BYTES - 1) 1 zeros file
    → recovered file ≡ Nothing
torn_last zeros file good torn = ⊎_elim (λ short. short_nothing file short) (λ whole. empty_nothing file (record {
  size = whole;
  first = not_open _ (torn.before 0 (omega (arith, good.size_is)) (omega arith) ∙ good.all 0);
  second = not_open _ (torn.before AREA_BYTES (omega (arith, good.size_is)) (omega arith) ∙ good.all AREA_BYTES);
})) either
  where
    either : (length file < FILE_BYTES) ⊎ (length file ≡ FILE_BYTES)
    either = elim (cases_eq (length file) FILE_BYTES) [
      | inl whole ↦ inr whole
      | inr other ↦ inl (omega (arith, torn.no_longer, good.size_is))
    ]

zero_taken : (m n i : ℕ) → ◌≡◌ {A = ℕ} (get_or (take m (replicate n 0)) i 0) 0
zero_taken zero n i = refl
zero_taken (suc m) zero i = refl
zero_taken (suc m) (suc n) zero = refl
zero_taken (suc m) (suc n) (suc i) = zero_taken m n i

-- the front of a file of zero bytes
pub zeros_in_front : (m n : ℕ) (bytes : List ℕ) → bytes ≡ replicate n 0 → m ≡ (FILE_BYTES - 1) → m ≤ n
    → IsZeros (FILE_BYTES - 1) (take m bytes)
zeros_in_front m n bytes is size within = record {
  size_is = length-take-le m bytes (let long : length bytes ≡ n = ap length is ∙ length-replicate n 0 in omega arith)
      ∙ size;
  all = λ i. ap (λ (l : List ℕ). get_or (take m l) i 0) is ∙ zero_taken m n i;
}

pub length_of_zeros : (n : ℕ) (bytes : List ℕ) → bytes ≡ replicate n 0 → length bytes ≡ n
length_of_zeros n bytes is = ap length is ∙ length-replicate n 0
