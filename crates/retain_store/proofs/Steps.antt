-- The files that a stop may leave after each device call of a save.
use Rattle.std.proofs.Common.{◌≡◌, inl, inr, ⊎_elim, ℕ, ◌+◌, ◌-◌, ◌≤◌, Some, List, [], ◌∷◌, length, get_or, take, drop}
use Rattle.std.proofs.Common.{sym, ◌∙◌, ap, subst, arith, add-zero}
use Rattle.std.proofs.lemmas.List.{take-take}
use Rattle.retain_store.specs.declared.shape.TheConstants.{AREA_BYTES, FILE_BYTES, HEADER_BYTES, OPEN_GATE}
use Rattle.disk.specs.Disk.{Torn, overwritten}
use Rattle.retain_records.specs.Records.{Content}
use Rattle.retain_records.specs.Reading.{decoded}
use Rattle.retain_store.specs.Recovered.{Closed, Open, Found, opened, area, recovered}
use Rattle.retain_store.specs.Areas.{alone, IsOlder, IsSpare, IsReady, IsClosedNow, IsOpen, IsShut, IsEither, IsSaved}
use Rattle.retain_store.specs.Areas.{IsHalf, IsFrame}
use Rattle.retain_store.proofs.Stretches.{stretch, torn_size, written_torn, written_bytes, written_at}
use Rattle.retain_store.proofs.AreaLemmas.{shut_area, gated_area, open_area, recovered_shut, recovered_newer}
use Rattle.retain_store.proofs.AreaLemmas.{recovered_same, torn_elsewhere, opened_frame}

-- the bytes after a gate
abbrev rest : ℕ → List ℕ → List ℕ
rest at file = take (AREA_BYTES - 1) (drop (at + 1) file)

module _ (at : ℕ) (half : IsHalf at) (first : List ℕ) (spare : IsSpare at first) where
  inside : at + AREA_BYTES ≤ FILE_BYTES
  inside = ⊎_elim (λ here. omega arith) (λ here. omega arith) half

  -- any write within this area
  module _ (p n : ℕ) (low : at ≤ p) (high : p + n ≤ at + AREA_BYTES) (file : List ℕ) (torn : Torn p n first file) where
    pub same_size : length file ≡ FILE_BYTES
    same_size = torn_size p n first file torn (omega (arith, spare.size, inside)) ∙ spare.size

    pub same_other : area (AREA_BYTES - at) file ≡ area (AREA_BYTES - at) first
    same_other = torn_elsewhere (AREA_BYTES - at) p n first file torn (omega (arith, spare.size))
        (⊎_elim (λ here. inl (omega arith)) (λ here. inr (omega arith)) half)

    pub same_other_gate : get_or file (AREA_BYTES - at) 0 ≡ get_or first (AREA_BYTES - at) 0
    same_other_gate = ⊎_elim (λ here. torn.behind (AREA_BYTES - at) (omega (arith, spare.size)) (omega arith))
        (λ here. torn.before (AREA_BYTES - at) (omega (arith, spare.size)) (omega arith)) half

    pub still_spare : recovered file ≡ recovered first → IsSpare at file
    still_spare same = record { size = same_size; last = same ∙ spare.last ∙ ap alone (sym same_other) }

    -- this area is closed
    pub same_if_shut : area at file ≡ Closed → recovered file ≡ recovered first
    same_if_shut shut = recovered_shut at file half same_size shut ∙ ap alone same_other ∙ sym spare.last

  -- a write after a closed gate
  pub shut_behind : (n : ℕ) (file : List ℕ) → Torn (at + 1) n first file → IsShut at first → IsShut at file
  shut_behind n file torn shut = let same : get_or file at 0 ≡ get_or first at 0 =
      torn.before at (omega (arith, spare.size, inside)) (omega arith) in λ open_gate. shut (sym same ∙ open_gate)

  pub behind : (n : ℕ) (file : List ℕ) → n ≤ (AREA_BYTES - 1) → Torn (at + 1) n first file → IsShut at first
      → recovered file ≡ recovered first
  behind n file short torn shut =
      same_if_shut (at + 1) n (omega arith) (omega arith) file torn (shut_area at file (shut_behind n file torn shut))

  -- a write of the gate alone
  module _ (file : List ℕ) (torn : Torn at 1 first file) where
    same_rest : rest at file ≡ rest at first
    same_rest = stretch file first (at + 1) (AREA_BYTES - 1) (omega
        (arith, inside, same_size at 1 (omega arith) (omega arith) file torn)) (omega (arith, inside, spare.size))
        (λ i low high. torn.behind i (omega (arith, inside, spare.size)) (omega arith))

    -- if the gate was open already
    pub closing : IsOpen at first → recovered file ≡ recovered first
    closing open_gate = elim (gated_area at file) [
      | inl counts ↦ recovered_same at file first half (same_size at 1 (omega arith) (omega arith) file torn) spare.size
          (counts ∙ ap opened same_rest ∙ sym (open_area at first open_gate))
          (same_other at 1 (omega arith) (omega arith) file torn)
      | inr closed ↦ same_if_shut at 1 (omega arith) (omega arith) file torn closed
    ]

    module _ (generation : ℕ) (was_older : IsOlder generation (area (AREA_BYTES - at) first)) (content : Content)
        (holds : opened (rest at first) ≡ Open generation content) where
      older : IsOlder generation (area (AREA_BYTES - at) file)
      older = subst (IsOlder generation) (sym (same_other at 1 (omega arith) (omega arith) file torn)) was_older

      -- over a record that comes after it
      pub opening : IsEither (recovered first) (Found generation content) (recovered file)
      opening = elim (gated_area at file) [
        | inl counts ↦ inr (recovered_newer at generation content file half
            (same_size at 1 (omega arith) (omega arith) file torn) (counts ∙ ap opened same_rest ∙ holds) older)
        | inr closed ↦ inl (same_if_shut at 1 (omega arith) (omega arith) file torn closed)
      ]

      pub opened_gate : IsOpen at file → IsSaved generation at content first file
      opened_gate open_gate =
          let here : area at file ≡ Open generation content = open_area at file open_gate ∙ ap opened same_rest
          ∙ holds in
          record {
            size = same_size at 1 (omega arith) (omega arith) file torn;
            gate = open_gate;
            saved = here;
            other = same_other at 1 (omega arith) (omega arith) file torn;
            other_gate = same_other_gate at 1 (omega arith) (omega arith) file torn;
            found = recovered_newer at generation content file half
                (same_size at 1 (omega arith) (omega arith) file torn) here older;
          }

  -- the bytes after the gate after the record was written there
  pub written_behind : (generation : ℕ) (frame : List ℕ) (content : Content) → IsFrame generation frame
      → decoded (drop HEADER_BYTES frame) ≡ Some content
      → opened (rest at (overwritten first (at + 1) frame)) ≡ Open generation content
  written_behind generation frame content good spells =
      opened_frame (rest at (overwritten first (at + 1) frame)) frame generation content
      (take-take (length frame) (AREA_BYTES - 1) (drop (at + 1) (overwritten first (at + 1) frame)) good.short
      ∙ written_bytes (at + 1) frame first (omega (arith, spare.size, inside, good.short)))
      good.long good.short good.some good.fits good.head good.length_is spells

  -- the gate was written whole
  module _ (bit : ℕ) (file : List ℕ) (is : file ≡ overwritten first at (bit ∷ [])) where
    pub gate_torn : Torn at 1 first file
    gate_torn = subst (Torn at 1 first) (sym is) (written_torn at (bit ∷ []) first (omega (arith, spare.size, inside)))

    pub gate_is : get_or file at 0 ≡ bit
    gate_is = ap (λ (l : List ℕ). get_or l at 0) is
        ∙ subst (λ (i : ℕ). get_or (overwritten first at (bit ∷ [])) i 0 ≡ bit) (add-zero at)
        (written_at at (bit ∷ []) first (omega (arith, spare.size, inside)) 0 (omega arith))

  pub closed_now : IsOpen at first → (file : List ℕ) → file ≡ overwritten first at (0 ∷ []) → IsClosedNow at first file
  closed_now open_gate file is =
      let torn = gate_torn 0 file is in
      let same = closing file torn open_gate in
      record {
        spare = still_spare at 1 (omega arith) (omega arith) file torn same;
        shut = let gate : get_or file at 0 ≡ 0 = gate_is 0 file is in λ at_open. absurd (omega (arith, gate, at_open));
        same = same;
        other = same_other at 1 (omega arith) (omega arith) file torn;
        other_gate = same_other_gate at 1 (omega arith) (omega arith) file torn;
      }

  -- the second of two writes, over the file after the first
  module _ (generation : ℕ) (frame : List ℕ) (content : Content) (good : IsFrame generation frame)
      (spells : decoded (drop HEADER_BYTES frame) ≡ Some content) (shut : IsShut at first) (second : List ℕ)
      (is : second ≡ overwritten first (at + 1) frame) where
    torn_first : Torn (at + 1) (length frame) first second
    torn_first = subst (Torn (at + 1) (length frame) first) (sym is)
        (written_torn (at + 1) frame first (omega (arith, spare.size, inside, good.short)))

    pub second_same : recovered second ≡ recovered first
    second_same = behind (length frame) second good.short torn_first shut

    pub second_spare : IsSpare at second
    second_spare =
        still_spare (at + 1) (length frame) (omega arith) (omega (arith, good.short)) second torn_first second_same

    pub second_other : area (AREA_BYTES - at) second ≡ area (AREA_BYTES - at) first
    second_other = same_other (at + 1) (length frame) (omega arith) (omega (arith, good.short)) second torn_first

    pub second_other_gate : get_or second (AREA_BYTES - at) 0 ≡ get_or first (AREA_BYTES - at) 0
    second_other_gate =
        same_other_gate (at + 1) (length frame) (omega arith) (omega (arith, good.short)) second torn_first

    pub second_holds : opened (rest at second) ≡ Open generation content
    second_holds = subst (λ (f : List ℕ). opened (rest at f) ≡ Open generation content) (sym is)
        (written_behind generation frame content good spells)

module _ (generation at : ℕ) (half : IsHalf at) (first : List ℕ) (ready : IsReady generation at first) (frame : List ℕ)
    (content : Content) (good : IsFrame generation frame) (spells : decoded (drop HEADER_BYTES frame) ≡ Some content)
    (shut : IsShut at first) (second : List ℕ) (is : second ≡ overwritten first (at + 1) frame) where
  again : IsSpare at second
  again = second_spare at half first ready.spare generation frame content good spells shut second is

  same : recovered second ≡ recovered first
  same = second_same at half first ready.spare generation frame content good spells shut second is

  other : area (AREA_BYTES - at) second ≡ area (AREA_BYTES - at) first
  other = second_other at half first ready.spare generation frame content good spells shut second is

  still_older : IsOlder generation (area (AREA_BYTES - at) second)
  still_older = subst (IsOlder generation) (sym other) ready.older

  holds : opened (rest at second) ≡ Open generation content
  holds = second_holds at half first ready.spare generation frame content good spells shut second is

  pub opening_second : (file : List ℕ) → Torn at 1 second file
      → IsEither (recovered first) (Found generation content) (recovered file)
  opening_second file torn = ⊎_elim (λ before. inl (before ∙ same)) inr
      (opening at half second again file torn generation still_older content holds)

  pub saved_now : (file : List ℕ) → file ≡ overwritten second at (OPEN_GATE ∷ [])
      → IsSaved generation at content first file
  saved_now file written =
      let saved = opened_gate at half second again file (gate_torn at half second again OPEN_GATE file written)
      generation still_older content holds (gate_is at half second again OPEN_GATE file written) in
      record {
        size = saved.size;
        gate = saved.gate;
        saved = saved.saved;
        other = saved.other ∙ other;
        other_gate = saved.other_gate
            ∙ second_other_gate at half first ready.spare generation frame content good spells shut second is;
        found = saved.found;
      }
