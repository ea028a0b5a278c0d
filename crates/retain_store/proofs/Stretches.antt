-- The effect of a write, whole or torn, on a stretch of a file.
use Rattle.std.proofs.Common.{◌≡◌, ℕ, ◌+◌, ◌<◌, ◌≤◌, List, ◌++◌, length, get_or, take, drop, sym, ◌∙◌, ap, arith}
use Rattle.std.proofs.Common.{length-drop}
use Rattle.std.proofs.lemmas.Grind.{common_steps}
use Rattle.std.proofs.lemmas.List.{ext_get_or, get_or-take, get_or-drop, length-take-le, take_all, take-append-drop}
use Rattle.retain_store.specs.declared.shape.TheConstants.{AREA_BYTES, FILE_BYTES}
use Rattle.disk.specs.Disk.{Torn, overwritten}

-- two files that agree on a stretch have the same stretch
pub stretch : (c d : List ℕ) (p n : ℕ) → p + n ≤ length c → p + n ≤ length d
    → ((i : ℕ) → p ≤ i → i < p + n → get_or c i 0 ≡ get_or d i 0) → take n (drop p c) ≡ take n (drop p d)
stretch c d p n in_c in_d same = ext_get_or 0 _ _ (size c in_c ∙ sym (size d in_d)) (λ i low.
    let under : i < n = omega (arith, low, size c in_c) in
    read c i under ∙ same (p + i) (omega arith) (omega arith) ∙ sym (read d i under))
  where
    size : (f : List ℕ) → p + n ≤ length f → length (take n (drop p f)) ≡ n
    size f in_f = length-take-le n (drop p f) (omega (arith, length-drop p f))

    read : (f : List ℕ) (i : ℕ) → i < n → get_or (take n (drop p f)) i 0 ≡ get_or f (p + i) 0
    read f i under = get_or-take n (drop p f) i 0 under ∙ get_or-drop p f i 0

pub torn_size : (p n : ℕ) (old new : List ℕ) → Torn p n old new → p + n ≤ length old → length new ≡ length old
torn_size p n old new torn inside = omega (arith, torn.no_shorter, torn.no_longer)

module _ (p : ℕ) (bytes old : List ℕ) (inside : p + length bytes ≤ length old) where
  pub written_size : length (overwritten old p bytes) ≡ length old
  written_size = grind (arith, common_steps)

  -- a write that was not torn is one of those that might have been
  pub written_torn : Torn p (length bytes) old (overwritten old p bytes)
  written_torn = record {
    no_shorter = omega (arith, written_size);
    no_longer = omega (arith, written_size);
    before = λ i low under. grind (arith, common_steps);
    behind = λ i low over. grind (arith, common_steps);
  }

  pub written_bytes : take (length bytes) (drop p (overwritten old p bytes)) ≡ bytes
  written_bytes = grind (arith, common_steps)

  pub written_at : (i : ℕ) → i < length bytes → get_or (overwritten old p bytes) (p + i) 0 ≡ get_or bytes i 0
  written_at i low = sym (get_or-take (length bytes) (drop p (overwritten old p bytes)) i 0 low
      ∙ get_or-drop p (overwritten old p bytes) i 0) ∙ ap (λ (l : List ℕ). get_or l i 0) written_bytes

-- a file as long as two areas is the two of them
pub two_parts : (first second file same : List ℕ) (n m : ℕ) → n ≡ AREA_BYTES → m ≡ AREA_BYTES
    → first ≡ take n (drop 0 file) → second ≡ take m (drop AREA_BYTES same) → same ≡ file → length file ≡ FILE_BYTES
    → first ++ second ≡ file
two_parts first second file same n m is_n is_m is_first is_second is_same size =
    let front : first ≡ take AREA_BYTES file = is_first ∙ ap (λ (k : ℕ). take k file) is_n in
    let back : second ≡ drop AREA_BYTES file = is_second ∙ ap (λ (k : ℕ). take k (drop AREA_BYTES same)) is_m
    ∙ ap (λ (l : List ℕ). take AREA_BYTES (drop AREA_BYTES l)) is_same
    ∙ take_all AREA_BYTES (drop AREA_BYTES file) (omega (arith, length-drop AREA_BYTES file)) in
    ap (λ (l : List ℕ). l ++ second) front ∙ ap (λ (l : List ℕ). take AREA_BYTES file ++ l) back
    ∙ take-append-drop AREA_BYTES file
