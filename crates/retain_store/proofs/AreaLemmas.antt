-- The two areas after a stop in each step of a save.
use Rattle.std.proofs.Common.{◌≡◌, ◌⊎◌, inl, inr, ℕ, ◌+◌, ◌-◌, ◌<◌, ◌≤◌, ◌^◌, Some, List, length, get_or, take, drop}
use Rattle.std.proofs.Common.{refl, sym, ◌∙◌, ap, subst, arith}
use Rattle.std.proofs.lemmas.Bool.{cases_eq}
use Rattle.std.proofs.lemmas.Bool.Decides.{nat_tests}
use Rattle.std.proofs.lemmas.List.{take-take, drop-take, take_rest}
use Rattle.std.proofs.lemmas.Nat.{from_be_bytes-to_be_bytes_8, from_be_bytes-to_be_bytes_4}
use Rattle.std.specs.Int.{w32, w64, from_be_bytes, to_be_bytes}
use Rattle.retain_store.specs.declared.shape.TheConstants.{AREA_BYTES, FILE_BYTES, HEADER_BYTES, OPEN_GATE}
use Rattle.disk.specs.Disk.{Torn}
use Rattle.retain_records.specs.Records.{Content}
use Rattle.retain_records.specs.Reading.{decoded}
use Rattle.retain_store.specs.Recovered.{Area, Closed, Damaged, Open, Found, opened, area_of_parts, gated, area, chosen}
use Rattle.retain_store.specs.Recovered.{recovered}
use Rattle.retain_store.specs.Areas.{alone, IsOlder, IsShut, IsHalf}
use Rattle.retain_store.proofs.Stretches.{stretch}

abbrev Whole : List ℕ → Type 0
Whole file = length file ≡ FILE_BYTES

pub shut_area : (at : ℕ) (file : List ℕ) → IsShut at file → area at file ≡ Closed
unfolding area
shut_area at file shut = grind (arith, nat_tests)

-- the area depends on its own bytes
pub same_area : (at : ℕ) (c d : List ℕ) → at + AREA_BYTES ≤ length c → at + AREA_BYTES ≤ length d
    → ((i : ℕ) → at ≤ i → i < at + AREA_BYTES → get_or c i 0 ≡ get_or d i 0) → area at c ≡ area at d
unfolding area
same_area at c d in_c in_d same =
    let gate : get_or c at 0 ≡ get_or d at 0 = same at (omega arith) (omega arith) in
    let rest : take (AREA_BYTES - 1) (drop (at + 1) c) ≡ take (AREA_BYTES - 1) (drop (at + 1) d) = stretch c d (at + 1)
    (AREA_BYTES - 1) (omega arith) (omega arith) (λ i low high. same i (omega arith) (omega arith)) in
    ap (λ (g : ℕ). gated g (take (AREA_BYTES - 1) (drop (at + 1) c))) gate
    ∙ ap (λ (l : List ℕ). gated (get_or d at 0) l) rest

-- after any gate the area counts or it is closed
pub gated_area : (at : ℕ) (file : List ℕ)
    → (area at file ≡ opened (take (AREA_BYTES - 1) (drop (at + 1) file))) ⊎ (area at file ≡ Closed)
unfolding area
gated_area at file = elim (cases_eq (get_or file at 0) OPEN_GATE) [
  | inl open_gate ↦ inl (grind (arith, nat_tests))
  | inr shut ↦ inr (grind (arith, nat_tests))
]

pub open_area : (at : ℕ) (file : List ℕ) → get_or file at 0 ≡ OPEN_GATE
    → area at file ≡ opened (take (AREA_BYTES - 1) (drop (at + 1) file))
unfolding area
open_area at file open_gate = grind (arith, nat_tests)

pub whole : (file : List ℕ) → Whole file → recovered file ≡ chosen (area 0 file) (area AREA_BYTES file)
unfolding recovered
whole file size = grind (arith, nat_tests)

closed_first : (b : Area) → chosen Closed b ≡ alone b
closed_first Closed = refl
closed_first Damaged = refl
closed_first (Open g c) = refl

closed_second : (a : Area) → chosen a Closed ≡ alone a
closed_second Closed = refl
closed_second Damaged = refl
closed_second (Open g c) = refl

newer_first : (g : ℕ) (content : Content) (b : Area) → IsOlder g b → chosen (Open g content) b ≡ Found g content
newer_first g content Closed older = refl
newer_first g content Damaged older = absurd older
newer_first g content (Open h d) older = grind (arith, nat_tests)

newer_second : (g : ℕ) (content : Content) (a : Area) → IsOlder g a → chosen a (Open g content) ≡ Found g content
newer_second g content Closed older = refl
newer_second g content Damaged older = absurd older
newer_second g content (Open h d) older = grind (arith, nat_tests)

-- the areas in one order or the other
abbrev TwoAreas : List ℕ → ℕ → Type 0
TwoAreas file at = (recovered file ≡ chosen (area at file) (area (AREA_BYTES - at) file))
    ⊎ (recovered file ≡ chosen (area (AREA_BYTES - at) file) (area at file))

two_areas : (at : ℕ) (file : List ℕ) → IsHalf at → Whole file → TwoAreas file at
two_areas at file (inl here) size = subst (TwoAreas file) (sym here) (inl (whole file size))
two_areas at file (inr here) size = subst (TwoAreas file) (sym here) (inr (whole file size))

-- a closed area leaves the other alone
pub recovered_shut : (at : ℕ) (file : List ℕ) → IsHalf at → Whole file → area at file ≡ Closed
    → recovered file ≡ alone (area (AREA_BYTES - at) file)
recovered_shut at file half size shut = elim (two_areas at file half size) [
  | inl first ↦ first ∙ ap (λ (a : Area). chosen a (area (AREA_BYTES - at) file)) shut
      ∙ closed_first (area (AREA_BYTES - at) file)
  | inr second ↦ second ∙ ap (λ (a : Area). chosen (area (AREA_BYTES - at) file) a) shut
      ∙ closed_second (area (AREA_BYTES - at) file)
]

-- an open area of a newer generation counts
pub recovered_newer : (at g : ℕ) (content : Content) (file : List ℕ) → IsHalf at → Whole file
    → area at file ≡ Open g content → IsOlder g (area (AREA_BYTES - at) file) → recovered file ≡ Found g content
recovered_newer at g content file half size open_here older = elim (two_areas at file half size) [
  | inl first ↦ first ∙ ap (λ (a : Area). chosen a (area (AREA_BYTES - at) file)) open_here
      ∙ newer_first g content (area (AREA_BYTES - at) file) older
  | inr second ↦ second ∙ ap (λ (a : Area). chosen (area (AREA_BYTES - at) file) a) open_here
      ∙ newer_second g content (area (AREA_BYTES - at) file) older
]

pub recovered_same : (at : ℕ) (c d : List ℕ) → IsHalf at → Whole c → Whole d → area at c ≡ area at d
    → area (AREA_BYTES - at) c ≡ area (AREA_BYTES - at) d → recovered c ≡ recovered d
recovered_same at c d half in_c in_d same other = elim half [
  | inl here ↦ whole c in_c ∙ ap (λ (a : Area). chosen a (area AREA_BYTES c)) (first here)
      ∙ ap (λ (a : Area). chosen (area 0 d) a) (second here) ∙ sym (whole d in_d)
  | inr here ↦ whole c in_c ∙ ap (λ (a : Area). chosen a (area AREA_BYTES c)) (first_turned here)
      ∙ ap (λ (a : Area). chosen (area 0 d) a) (second_turned here) ∙ sym (whole d in_d)
]
  where
    first : at ≡ 0 → area 0 c ≡ area 0 d
    first here = let SameAt : ℕ → Type 0 = λ n. area n c ≡ area n d in subst SameAt here same

    second : at ≡ 0 → area AREA_BYTES c ≡ area AREA_BYTES d
    second here = let SameAt : ℕ → Type 0 =
        λ n. area n c ≡ area n d in subst SameAt (let e : AREA_BYTES - at ≡ AREA_BYTES = omega arith in e) other

    first_turned : at ≡ AREA_BYTES → area 0 c ≡ area 0 d
    first_turned here = let SameAt : ℕ → Type 0 =
        λ n. area n c ≡ area n d in subst SameAt (let e : AREA_BYTES - at ≡ 0 = omega arith in e) other

    second_turned : at ≡ AREA_BYTES → area AREA_BYTES c ≡ area AREA_BYTES d
    second_turned here = let SameAt : ℕ → Type 0 = λ n. area n c ≡ area n d in subst SameAt here same

-- a torn write elsewhere
pub torn_elsewhere : (at p n : ℕ) (d c : List ℕ) → Torn p n d c → at + AREA_BYTES ≤ length d
    → (p + n ≤ at) ⊎ (at + AREA_BYTES ≤ p) → area at c ≡ area at d
torn_elsewhere at p n d c torn inside apart =
    same_area at c d (omega (arith, torn.no_shorter)) inside (λ i low high. elim apart [
      | inl over ↦ torn.behind i (omega arith) (omega arith)
      | inr under ↦ torn.before i (omega arith) (omega arith)
    ])

-- after the header
pub opened_frame : (rest frame : List ℕ) (generation : ℕ) (content : Content) → take (length frame) rest ≡ frame
    → HEADER_BYTES ≤ length frame → length frame ≤ (AREA_BYTES - 1) → 0 < generation → generation < 2 ^ 64
    → take 8 frame ≡ to_be_bytes w64 generation → take 4 (drop 8 frame) ≡ to_be_bytes w32 (length frame - HEADER_BYTES)
    → decoded (drop HEADER_BYTES frame) ≡ Some content → opened rest ≡ Open generation content
unfolding opened
opened_frame rest frame generation content starts long short some fits head size body =
    ap (λ (n : ℕ). area_of_parts n (from_be_bytes w64 (take 8 rest)) rest) size_is
    ∙ ap (λ (g : ℕ). area_of_parts (length frame - HEADER_BYTES) g rest) generation_is ∙ last
  where
    part : (k n : ℕ) → k + n ≤ length frame → take n (drop k rest) ≡ take n (drop k frame)
    part k n inside =
        sym (drop-take k n rest) ∙ ap (λ (l : List ℕ). drop k l) (sym (take-take (k + n) (length frame) rest inside)
        ∙ ap (λ (l : List ℕ). take (k + n) l) starts) ∙ drop-take k n frame

    size_is : from_be_bytes w32 (take 4 (drop 8 rest)) ≡ length frame - HEADER_BYTES
    size_is = ap (λ (l : List ℕ). from_be_bytes w32 l) (part 8 4 (omega arith) ∙ size)
        ∙ from_be_bytes-to_be_bytes_4 (length frame - HEADER_BYTES) (omega arith)

    generation_is : from_be_bytes w64 (take 8 rest) ≡ generation
    generation_is = ap (λ (l : List ℕ). from_be_bytes w64 l) (part 0 8 (omega arith) ∙ head)
        ∙ from_be_bytes-to_be_bytes_8 generation fits

    body_is : decoded (take (length frame - HEADER_BYTES) (drop HEADER_BYTES rest)) ≡ Some content
    body_is = ap decoded (part HEADER_BYTES (length frame - HEADER_BYTES) (omega arith) ∙ take_rest frame HEADER_BYTES)
        ∙ body

    last : area_of_parts (length frame - HEADER_BYTES) generation rest ≡ Open generation content
    last = grind (arith, nat_tests, body_is)
