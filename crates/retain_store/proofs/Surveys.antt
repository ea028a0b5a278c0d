-- The results of a survey of the areas of a whole file.
use Rattle.std.proofs.Common.{◌≡◌, ◌≢◌, inl, inr, ℕ, ◌+◌, ◌-◌, ◌<◌, ◌≤◌, Option, Some, None, List, length, get_or, take}
use Rattle.std.proofs.Common.{drop, refl, sym, ◌∙◌, ap, subst, arith, length-drop}
use Rattle.std.proofs.lemmas.Bool.{cases_eq, cases_lt}
use Rattle.std.proofs.lemmas.Bool.Decides.{nat_tests}
use Rattle.std.proofs.lemmas.List.{take_all, drop-take, drop-drop, get_or-take, get_or-drop}
use Rattle.std.specs.Int.{w32, w64, from_be_bytes}
use Rattle.retain_store.specs.declared.shape.TheConstants.{AREA_BYTES, FILE_BYTES, HEADER_BYTES, OPEN_GATE}
use Rattle.st_types.specs.declared.limits.TheConstants.{MAX_RECORD_BODY}
use Rattle.retain_store.specs.declared.area.Gate.{Gate}
use Rattle.retain_store.specs.declared.area.Gate.TheVariants as gates
use Rattle.retain_store.specs.declared.area.Half.{Half}
use Rattle.retain_store.specs.declared.area.Half.TheVariants.{First, Second}
use Rattle.retain_store.specs.declared.surveying.Look.{Look}
use Rattle.retain_store.specs.declared.surveying.Look.TheVariants as looks
use Rattle.retain_records.specs.Records.{Content}
use Rattle.retain_records.specs.Reading.{decoded}
use Rattle.retain_store.specs.Recovered.{Area, Closed, Damaged, Open, Nothing, Found, area_with, area_of_parts, opened}
use Rattle.retain_store.specs.Recovered.{gated, area, recovered}
use Rattle.retain_store.specs.Areas.{alone, IsOlder, IsOpen, IsShut, IsHalf, GateIs, IsSurveyed, at_of, closed_areas}
use Rattle.retain_store.specs.Surveys.{area_in, shown, held, gate_of, LooksOlder}
use Rattle.retain_store.proofs.AreaLemmas.{open_area, gated_area, recovered_newer, recovered_shut, shut_area}

-- an open area is never a closed one, and its generation is not 0
with_not_closed : (generation : ℕ) (read : Option Content) → area_with generation read ≢ Closed
with_not_closed generation None is = cc
with_not_closed generation (Some content) is = elim (cases_eq generation 0) [
  | inl none ↦ let damaged : area_with generation (Some content) ≡ Damaged = grind (arith, nat_tests) in cc
  | inr some ↦ let opens : area_with generation (Some content) ≡ Open generation content = grind (arith, nat_tests) in
      cc
]

parts_not_closed : (size generation : ℕ) (behind : List ℕ) → area_of_parts size generation behind ≢ Closed
parts_not_closed size generation behind is = elim (cases_lt MAX_RECORD_BODY size) [
  | inl long ↦ let damaged : area_of_parts size generation behind ≡ Damaged = grind (arith, nat_tests) in cc
  | inr short ↦
      let with_body : area_of_parts size generation behind
      ≡ area_with generation (decoded (take size (drop HEADER_BYTES behind))) = grind (arith, nat_tests) in
      with_not_closed generation (decoded (take size (drop HEADER_BYTES behind))) (sym with_body ∙ is)
]

pub opened_not_closed : (behind : List ℕ) → opened behind ≢ Closed
unfolding opened
opened_not_closed behind is =
    parts_not_closed (from_be_bytes w32 (take 4 (drop 8 behind))) (from_be_bytes w64 (take 8 behind)) behind is

-- the generation of an open area is not 0
with_generation : (generation g : ℕ) (content : Content) (read : Option Content)
    → area_with generation read ≡ Open g content → 0 < g
with_generation generation g content None is = let no : Damaged ≡ Open g content = is in cc
with_generation generation g content (Some read) is = elim (cases_eq generation 0) [
  | inl none ↦ let damaged : area_with generation (Some read) ≡ Damaged = grind (arith, nat_tests) in
      let no : Damaged ≡ Open g content = sym damaged ∙ is in cc
  | inr some ↦ let opens : area_with generation (Some read) ≡ Open generation read = grind (arith, nat_tests) in
      let same : generation ≡ g = cc in omega arith
]

parts_generation : (size generation g : ℕ) (content : Content) (behind : List ℕ)
    → area_of_parts size generation behind ≡ Open g content → 0 < g
parts_generation size generation g content behind is = elim (cases_lt MAX_RECORD_BODY size) [
  | inl long ↦ let damaged : area_of_parts size generation behind ≡ Damaged = grind (arith, nat_tests) in
      let no : Damaged ≡ Open g content = sym damaged ∙ is in cc
  | inr short ↦
      let with_body : area_of_parts size generation behind
      ≡ area_with generation (decoded (take size (drop HEADER_BYTES behind))) = grind (arith, nat_tests) in
      with_generation generation g content (decoded (take size (drop HEADER_BYTES behind))) (sym with_body ∙ is)
]

pub opened_generation : (behind : List ℕ) (g : ℕ) (content : Content) → opened behind ≡ Open g content → 0 < g
unfolding opened
opened_generation behind g content is = parts_generation (from_be_bytes w32 (take 4 (drop 8 behind)))
    (from_be_bytes w64 (take 8 behind)) g content behind is

-- the results for the bytes after an open gate
module _ (behind : List ℕ) (generation size : ℕ) (is_generation : generation ≡ from_be_bytes w64 (take 8 behind))
    (is_size : size ≡ from_be_bytes w32 (take 4 (drop 8 behind))) where
  by_parts : opened behind ≡ area_of_parts size generation behind
  unfolding opened
  by_parts = ap (λ (n : ℕ). area_of_parts n (from_be_bytes w64 (take 8 behind)) behind) (sym is_size)
      ∙ ap (λ (g : ℕ). area_of_parts size g behind) (sym is_generation)

  pub opened_long : MAX_RECORD_BODY < size → opened behind ≡ Damaged
  opened_long long = let damaged : area_of_parts size generation behind ≡ Damaged = grind (arith, nat_tests) in
      by_parts ∙ damaged

  pub opened_none : generation ≡ 0 → size ≤ MAX_RECORD_BODY → opened behind ≡ Damaged
  opened_none none short = by_parts ∙ in_parts ∙ by_read (decoded (take size (drop HEADER_BYTES behind)))
    where
      in_parts : area_of_parts size generation behind
          ≡ area_with generation (decoded (take size (drop HEADER_BYTES behind)))
      in_parts = grind (arith, nat_tests)

      by_read : (read : Option Content) → area_with generation read ≡ Damaged
      by_read None = refl
      by_read (Some content) = grind (arith, nat_tests)

  module _ (short : size ≤ MAX_RECORD_BODY) where
    with_read : (read : Option Content) → decoded (take size (drop HEADER_BYTES behind)) ≡ read
        → opened behind ≡ area_with generation read
    with_read read is =
        let in_parts : area_of_parts size generation behind
        ≡ area_with generation (decoded (take size (drop HEADER_BYTES behind))) = grind (arith, nat_tests) in
        by_parts ∙ in_parts ∙ ap (λ (o : Option Content). area_with generation o) is

    pub opened_no_record : decoded (take size (drop HEADER_BYTES behind)) ≡ None → opened behind ≡ Damaged
    opened_no_record is = with_read None is

    pub opened_record : (content : Content) → decoded (take size (drop HEADER_BYTES behind)) ≡ Some content
        → generation ≢ 0 → opened behind ≡ Open generation content
    opened_record content is some = let opens : area_with generation (Some content) ≡ Open generation content =
        grind (arith, nat_tests) in with_read (Some content) is ∙ opens

pub open_generation : (at : ℕ) (file : List ℕ) (g : ℕ) (content : Content) → area at file ≡ Open g content → 0 < g
open_generation at file g content is = elim (gated_area at file) [
  | inl counts ↦ opened_generation (take (AREA_BYTES - 1) (drop (at + 1) file)) g content (sym counts ∙ is)
  | inr closed ↦ let no : Closed ≡ Open g content = sym closed ∙ is in cc
]

-- gates
pub closed_shut : (at : ℕ) (file : List ℕ) → area at file ≡ Closed → IsShut at file
closed_shut at file closed open_gate =
    opened_not_closed (take (AREA_BYTES - 1) (drop (at + 1) file)) (sym (open_area at file open_gate) ∙ closed)

pub not_closed_open : (at : ℕ) (file : List ℕ) → area at file ≢ Closed → IsOpen at file
not_closed_open at file other = elim (cases_eq (get_or file at 0) OPEN_GATE) [
  | inl open_gate ↦ open_gate
  | inr shut ↦ absurd (other (shut_area at file shut))
]

pub gate_shows : (at : ℕ) (file : List ℕ) (look : Look) (content : Content) → area at file ≡ shown look content
    → GateIs (gate_of look) at file
gate_shows at file looks.Closed content is = closed_shut at file is
gate_shows at file looks.Damaged content is =
    not_closed_open at file (λ closed. let no : Damaged ≡ Closed = sym is ∙ closed in cc)
gate_shows at file (looks.Open generation) content is =
    not_closed_open at file (λ closed. let no : Open generation content ≡ Closed = sym is ∙ closed in cc)

-- the areas of a whole file, by their own bytes
pub first_area : (file bytes : List ℕ) → bytes ≡ take AREA_BYTES file → length file ≡ FILE_BYTES
    → area 0 file ≡ area_in bytes
unfolding area
first_area file bytes is size =
    let gate : get_or bytes 0 0 ≡ get_or file 0 0 = ap (λ (l : List ℕ). get_or l 0 0) is
    ∙ get_or-take AREA_BYTES file 0 0 (omega arith) in
    let behind : drop 1 bytes ≡ take (AREA_BYTES - 1) (drop 1 file) = ap (λ (l : List ℕ). drop 1 l) is
    ∙ drop-take 1 (AREA_BYTES - 1) file in
    sym (ap (λ (g : ℕ). gated g (drop 1 bytes)) gate ∙ ap (λ (l : List ℕ). gated (get_or file 0 0) l) behind)

pub second_area : (file bytes : List ℕ) → bytes ≡ drop AREA_BYTES file → length file ≡ FILE_BYTES
    → area AREA_BYTES file ≡ area_in bytes
unfolding area
second_area file bytes is size =
    let gate : get_or bytes 0 0 ≡ get_or file AREA_BYTES 0 = ap (λ (l : List ℕ). get_or l 0 0) is
    ∙ get_or-drop AREA_BYTES file 0 0 in
    let behind : drop 1 bytes ≡ take (AREA_BYTES - 1) (drop (AREA_BYTES + 1) file) = ap (λ (l : List ℕ). drop 1 l) is
    ∙ drop-drop 1 AREA_BYTES file ∙ sym
    (take_all (AREA_BYTES - 1) (drop (AREA_BYTES + 1) file) (omega (arith, length-drop (AREA_BYTES + 1) file))) in
    sym (ap (λ (g : ℕ). gated g (drop 1 bytes)) gate ∙ ap (λ (l : List ℕ). gated (get_or file AREA_BYTES 0) l) behind)

pub other_half : (at : ℕ) → IsHalf at → IsHalf (AREA_BYTES - at)
other_half at (inl here) = inr (omega arith)
other_half at (inr here) = inl (omega arith)

pub twice : (at : ℕ) → IsHalf at → AREA_BYTES - (AREA_BYTES - at) ≡ at
twice at (inl here) = omega arith
twice at (inr here) = omega arith

pub is_half : (half : Half) → IsHalf (at_of half)
is_half First = inl refl
is_half Second = inr refl

-- a record of a generation above 0
pub held_some : (generation : ℕ) (content : Content) → 0 < generation
    → held generation content ≡ Found generation content
held_some generation content some = grind (arith, nat_tests)

pub older_next : (generation : ℕ) (a : Area) → IsOlder generation a → IsOlder (generation + 1) a
older_next generation Closed older = older
older_next generation Damaged older = older
older_next generation (Open g c) older = omega arith

pub shown_older : (generation : ℕ) (look : Look) (content : Content) (a : Area) → a ≡ shown look content
    → LooksOlder generation look → IsOlder generation a
shown_older generation looks.Closed content a is older = subst (IsOlder generation) (sym is) tt
shown_older generation looks.Damaged content a is older = absurd older
shown_older generation (looks.Open g) content a is older = subst (IsOlder generation) (sym is) older

-- two closed areas
pub surveyed_closed : (file : List ℕ) → length file ≡ FILE_BYTES → area 0 file ≡ Closed → area AREA_BYTES file ≡ Closed
    → IsSurveyed file closed_areas Nothing
surveyed_closed file size first second =
    let none : recovered file ≡ Nothing = recovered_shut 0 file (inl refl) size first ∙ ap alone second in
    record {
      ready = record {
        spare = record { size = size; last = none ∙ ap alone (sym second) };
        older =
            subst (IsOlder 1) (sym second) tt;
      };
      gate = closed_shut 0 file first;
      other_gate = closed_shut AREA_BYTES file second;
      last_is = none;
      first = λ _. refl;
    }

-- The other area holds the last record.
found_in_other : (at : ℕ) → IsHalf at → (file : List ℕ) → length file ≡ FILE_BYTES
    → (generation : ℕ) (content : Content) → area (AREA_BYTES - at) file ≡ Open generation content
    → IsOlder generation (area at file) → recovered file ≡ Found generation content
found_in_other at half file size generation content holds older =
    recovered_newer (AREA_BYTES - at) generation content file (other_half at half) size holds
    (subst (λ (n : ℕ). IsOlder generation (area n file)) (sym (twice at half)) older)

pub surveyed_one : (target : Half) (gate : Gate) (file : List ℕ) → length file ≡ FILE_BYTES
    → (generation : ℕ) (content : Content) → area (AREA_BYTES - at_of target) file ≡ Open generation content
    → IsOlder generation (area (at_of target) file) → GateIs gate (at_of target) file
    → IsSurveyed file (record { target = target; target_gate = gate; other_gate = gates.Open; generation = generation })
    (held generation content)
surveyed_one target gate file size generation content holds older gate_is =
    let at = at_of target in
    let found : recovered file ≡ Found generation content =
    found_in_other at (is_half target) file size generation content holds older in
    let some : 0 < generation = open_generation (AREA_BYTES - at) file generation content holds in
    record {
      ready = record {
        spare = record { size = size; last = found ∙ ap alone (sym holds) };
        older = subst (IsOlder (generation + 1)) (sym holds)
            (let below : generation < generation + 1 = omega arith in below);
      };
      gate = gate_is;
      other_gate = not_closed_open (AREA_BYTES - at) file
          (λ closed. let no : Open generation content ≡ Closed = sym holds ∙ closed in cc);
      last_is = found ∙ sym (held_some generation content some);
      first = λ none.
          let no : Found generation content ≡ Nothing = sym (held_some generation content some) ∙ none in cc;
    }
