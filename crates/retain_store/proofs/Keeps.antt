-- The invariant of a store after a save.
use Rattle.std.proofs.Common.{◌≡◌, inl, inr, ℕ, ◌+◌, ◌-◌, ◌<◌, ◌≤◌, List, get_or, length, refl, sym, ◌∙◌, ap, subst, arith}
use Rattle.std.proofs.lemmas.Bool.{cases_eq}
use Rattle.std.proofs.lemmas.Bool.Decides.{nat_tests}
use Rattle.retain_store.specs.declared.shape.TheConstants.{AREA_BYTES, FILE_BYTES, HEADER_BYTES}
use Rattle.disk.specs.Disk.{Only}
use Rattle.retain_store.specs.declared.area.Areas.{Areas}
use Rattle.retain_store.specs.declared.area.Gate.{Gate}
use Rattle.retain_store.specs.declared.area.Gate.TheVariants as gates
use Rattle.retain_store.specs.declared.area.Half.{Half}
use Rattle.retain_store.specs.declared.area.Half.TheVariants.{First, Second}
use Rattle.retain_store.specs.declared.store.Saves.{Saves}
use Rattle.retain_store.specs.declared.store.Saves.TheVariants as saves
use Rattle.retain_records.specs.Records.{Content}
use Rattle.retain_store.specs.Recovered.{Area, Closed, Damaged, Open, Recovered, TooLong, Refused, Nothing, Found, area}
use Rattle.retain_store.specs.Recovered.{recovered}
use Rattle.retain_store.specs.Areas.{alone, at_of, other_of, HoldsRecord, IsOlder, IsOpen, GateIs, IsReady, IsEither}
use Rattle.retain_store.specs.Areas.{IsSaved, IsSurveyed, IsZeros, areas_after_save}
use Rattle.retain_store.specs.Surveys.{held}
use Rattle.retain_store.specs.Opening.{IsAtRest, KeepsRecord}
use Rattle.retain_store.specs.Kept.{StoreInvariant, IsLast}
use Rattle.retain_store.proofs.Surveys.{twice, is_half, held_some}

other_at : (half : Half) → at_of (other_of half) ≡ AREA_BYTES - at_of half
other_at First = refl
other_at Second = refl

gate_moves : (gate : Gate) (at : ℕ) (c d : List ℕ) → get_or c at 0 ≡ get_or d at 0 → GateIs gate at d → GateIs gate at c
gate_moves gates.Open at c d same gate = same ∙ gate
gate_moves gates.Closed at c d same gate = λ here. gate (sym same ∙ here)

-- the record of a generation
pub held_last : (generation : ℕ) (content : Content) → IsLast generation (held generation content)
held_last generation content = elim (cases_eq generation 0) [
  | inl none ↦ let is : held generation content ≡ Nothing = grind (arith, nat_tests) in
      subst (IsLast generation) (sym is) none
  | inr some ↦ let is : held generation content ≡ Found generation content = grind (arith, nat_tests) in
      subst (IsLast generation) (sym is) (refl, omega arith)
]

-- by the offsets of the halves
surveyed_at : (file : List ℕ) (target : Half) (gate other_gate : Gate) (generation : ℕ) (last : Recovered) (n : ℕ)
    → at_of target ≡ n → IsReady (generation + 1) n file → GateIs gate n file → GateIs other_gate (AREA_BYTES - n) file
    → recovered file ≡ last → (last ≡ Nothing → target ≡ First)
    → IsSurveyed file (record { target = target; target_gate = gate; other_gate = other_gate; generation = generation })
    last
surveyed_at file target gate other_gate generation last n is ready gate_is other_is last_is none = record {
  ready = subst (λ (k : ℕ). IsReady (generation + 1) k file) (sym is) ready;
  gate = subst (λ (k : ℕ). GateIs gate k file) (sym is) gate_is;
  other_gate = subst (λ (k : ℕ). GateIs other_gate (AREA_BYTES - k) file) (sym is) other_is;
  last_is = last_is;
  first = none;
}

surveyed_next : (first file : List ℕ) (areas : Areas) (last : Recovered) (content : Content)
    → IsSurveyed first areas last → IsSaved (areas.generation + 1) (at_of areas.target) content first file
    → IsSurveyed file (areas_after_save areas) (Found (areas.generation + 1) content)
surveyed_next first file areas last content surveyed saved =
    let at = at_of areas.target in
    let half = is_half areas.target in
    let generation = areas.generation + 1 in
    let here : area (AREA_BYTES - (AREA_BYTES - at)) file ≡ Open generation content =
    subst (λ (n : ℕ). area n file ≡ Open generation content) (sym (twice at half)) saved.saved in
    surveyed_at file (other_of areas.target) areas.other_gate gates.Open generation (Found generation content)
    (AREA_BYTES - at) (other_at areas.target)
    (record {
      spare = record { size = saved.size; last = saved.found ∙ ap alone (sym here) };
      older =
          subst (IsOlder (generation + 1)) (sym here) (let below : generation < generation + 1 = omega arith in below);
    })
    (gate_moves areas.other_gate (AREA_BYTES - at) file first saved.other_gate surveyed.other_gate)
    (subst (λ (n : ℕ). IsOpen n file) (sym (twice at half)) saved.gate)
    saved.found
    (λ none. let no : Found generation content ≡ Nothing = none in cc)

-- the area of a record that is the last, if the other one is closed
alone_found : (a : Area) (generation : ℕ) (content : Content) → alone a ≡ Found generation content
    → a ≡ Open generation content
alone_found Closed generation content is = let no : Nothing ≡ Found generation content = is in cc
alone_found Damaged generation content is = let no : Refused ≡ Found generation content = is in cc
alone_found (Open g c) generation content is = let same : Found g c ≡ Found generation content = is in cc

-- after a save the record before it is still in the other area
pub before_stays : (first file : List ℕ) (areas : Areas) (last : Recovered) (content : Content) (g : ℕ) (c : Content)
    → IsSurveyed first areas last → IsSaved (areas.generation + 1) (at_of areas.target) content first file
    → last ≡ Found g c → HoldsRecord g c file
before_stays first file areas last content g c surveyed saved is =
    let at = at_of areas.target in
    let was : alone (area (AREA_BYTES - at) first) ≡ Found g c =
    sym surveyed.ready.spare.last ∙ surveyed.last_is ∙ is in
    let stays : area (AREA_BYTES - at) file ≡ Open g c =
    saved.other ∙ alone_found (area (AREA_BYTES - at) first) g c was in (
      other_of areas.target,
      subst (λ (n : ℕ). area n file ≡ Open g c) (sym (other_at areas.target)) stays,
    )

no_generation : (generation : ℕ) (content : Content) → held generation content ≡ Nothing → generation ≡ 0
no_generation generation content is = elim (cases_eq generation 0) [
  | inl none ↦ none
  | inr some ↦
      let found : held generation content ≡ Found generation content = grind (arith, nat_tests) in
      let no : Found generation content ≡ Nothing = sym found ∙ is in cc
]

-- the first record of a file is in the first area
pub first_in_first : (first file : List ℕ) (areas : Areas) (last content : Content)
    → IsSurveyed first areas (held areas.generation last)
    → IsSaved (areas.generation + 1) (at_of areas.target) content first file
    → held areas.generation last ≡ Nothing → area 0 file ≡ Open 1 content
first_in_first first file areas last content surveyed saved none =
    subst (λ (n : ℕ). area n file ≡ Open 1 content) (ap at_of (surveyed.first none))
    (saved.saved ∙ ap (λ (n : ℕ). Open (n + 1) content) (no_generation areas.generation last none))

-- after a save that succeeded
pub kept_ok : (tells : Type 0) (first file : List ℕ) (files files' : List ℕ → Type 0) (areas : Areas) (met : Saves)
    (last : Recovered) (content : Content) (size : ℕ) → HEADER_BYTES ≤ size → size ≤ (AREA_BYTES - 1)
    → (tells → IsAtRest first files areas last)
    → (tells → IsSaved (areas.generation + 1) (at_of areas.target) content first file) → (tells → Only file files')
    → StoreInvariant tells file files' (areas_after_save areas) met (held (areas.generation + 1) content)
    (held (areas.generation + 1) content) size
kept_ok tells first file files files' areas met last content size least greatest at_rest saved synced =
    let is : held (areas.generation + 1) content ≡ Found (areas.generation + 1) content =
    held_some (areas.generation + 1) content (let some : 0 < areas.generation + 1 = omega arith in some) in
    record {
      left = λ t c may. inl (ap recovered (synced t c may) ∙ (saved t).found ∙ sym is);
      at_rest = λ t ok. record {
        synced = synced t;
        surveyed = subst (IsSurveyed file (areas_after_save areas)) (sym is)
            (surveyed_next first file areas last content (at_rest t).surveyed (saved t));
      };
      least = least;
      greatest = greatest;
    }

-- after one that failed
pub kept_err : (tells : Type 0) (file : List ℕ) (files : List ℕ → Type 0) (areas : Areas) (last tried : Recovered)
    (size : ℕ) → HEADER_BYTES ≤ size → size ≤ (AREA_BYTES - 1)
    → (tells → (c : List ℕ) → files c → IsEither last tried (recovered c))
    → StoreInvariant tells file files areas saves.Broken last tried size
kept_err tells file files areas last tried size least greatest left = record {
  left = left;
  at_rest = λ t ok. cc;
  least = least;
  greatest = greatest;
}

-- after the file was opened
pub kept_opened : (tells : Type 0) (file : List ℕ) (files : List ℕ → Type 0) (areas : Areas) (last : Recovered)
    (size : ℕ) → HEADER_BYTES ≤ size → size ≤ (AREA_BYTES - 1) → (tells → IsAtRest file files areas last)
    → StoreInvariant tells file files areas saves.Working last last size
kept_opened tells file files areas last size least greatest at_rest = record {
  left = λ t c may. inl (ap recovered ((at_rest t).synced c may) ∙ (at_rest t).surveyed.last_is);
  at_rest = λ t ok. at_rest t;
  least = least;
  greatest = greatest;
}

-- after a save that was refused because the generations are used up
pub kept_used_up : (tells : Type 0) (file : List ℕ) (files : List ℕ → Type 0) (areas : Areas) (last tried : Recovered)
    (size : ℕ) → StoreInvariant tells file files areas saves.Working last tried size
    → StoreInvariant tells file files areas saves.UsedUp last tried size
kept_used_up tells file files areas last tried size kept = record {
  left = kept.left;
  at_rest = λ t ok. cc;
  least = kept.least;
  greatest = kept.greatest;
}

-- a whole file that is as it was
whole_kept : (old new : List ℕ) → length old ≡ FILE_BYTES → new ≡ old
    → (length old ≡ FILE_BYTES → new ≡ old) × (length old < FILE_BYTES → IsZeros FILE_BYTES new)
whole_kept old new whole same = (λ _. same, λ short. absurd (omega (arith, whole, short)))

pub keeps_record : (found : Recovered) (old new : List ℕ) → length old ≡ FILE_BYTES → new ≡ old
    → KeepsRecord found old new
keeps_record TooLong old new whole same = whole_kept old new whole same
keeps_record Refused old new whole same = whole_kept old new whole same
keeps_record Nothing old new whole same = whole_kept old new whole same
keeps_record (Found generation content) old new whole same = same

-- a shorter file that is all zero bytes now has no record
pub keeps_formatted : (content : Content) (old new : List ℕ) → length old < FILE_BYTES → IsZeros FILE_BYTES new
    → KeepsRecord (held 0 content) old new
keeps_formatted content old new short zeros = (λ whole. absurd (omega (arith, whole, short)), λ _. zeros)
