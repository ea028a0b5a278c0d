-- The view that contracts have of a medium, from the parts of the code.
use Rattle.std.proofs.Common.{◌≡◌, ◌≢◌, [], count_by, inl, inr, append_assoc, ℕ, ◌+◌, ◌-◌, ◌<◌, ◌≤◌, min, max, Bool}
use Rattle.std.proofs.Common.{true, false, List, ◌++◌, length, get_or, take, drop, replicate, refl, sym, ◌∙◌, ap, arith}
use Rattle.std.proofs.Common.{length-take}
use Rattle.std.proofs.lemmas.Bool.{cases_lt}
use Rattle.std.proofs.lemmas.Grind.{common_steps}
use Rattle.std.proofs.Math.Seq.{take-append-add}
use Rattle.std.proofs.lemmas.List.{drop-take, take-replicate, length-take-le, length-replicate, get_or-take}
use Rattle.std.proofs.lemmas.List.{get_or_past, replicate-append-replicate}
use Rattle.disk.specs.Disk.{put_over}
use Rattle.disk.specs.Medium.{MediumView, MediumInvariant, IsLeft, with_write, all_synced, torn_byte}
use Rattle.disk.proofs.Places.{rest_at}

-- mediums of the same parts are the same
same_view : (file file' : List ℕ) (written written' : List Bool) (appended appended' room room' : ℕ) → file ≡ file'
    → written ≡ written' → appended ≡ appended' → room ≡ room'
    → ◌≡◌ {A = MediumView} (record { file = file; written = written; appended = appended; room = room })
    (record { file = file'; written = written'; appended = appended'; room = room' })
same_view file file' written written' appended appended' room room' f w a r = rw (f, w, a, r) refl

-- a medium of which nothing counts as written
pub at_rest : (file bytes : List ℕ) (touched : List Bool) (len synced n room : ℕ) → take len bytes ≡ file
    → touched ≡ replicate n false → synced ≡ len → len ≤ length bytes → len ≤ n → length bytes ≡ room
    → ◌≡◌ {A = MediumView}
    (record { file = take len bytes; written = take len touched; appended = len - synced; room = length bytes })
    (all_synced file room)
at_rest file bytes touched len synced n room is flags all within small roomy =
    same_view _ _ _ _ _ _ _ _ is
    (ap (take len) flags ∙ take-replicate len n false small
    ∙ ap (λ (k : ℕ). replicate k false) (sym (length-take-le len bytes within) ∙ ap length is))
    (omega (arith, all)) roomy

-- a stretch of a front
take-take-min : {X : Type 0} (n m : ℕ) (xs : List X) → take n (take m xs) ≡ take (min n m) xs
take-take-min n m xs = elim (cases_lt n m) [
  | inl less ↦ grind (arith, common_steps)
  | inr more ↦ grind (arith, common_steps)
]

drop-take-sub : {X : Type 0} (n m : ℕ) (xs : List X) → drop n (take m xs) ≡ take (m - n) (drop n xs)
drop-take-sub n m xs = elim (cases_lt n m) [
  | inl less ↦ ap (λ (k : ℕ). drop n (take k xs)) (omega arith) ∙ drop-take n (m - n) xs
  | inr more ↦ grind (arith, common_steps)
]

-- a prefix of a list in which a stretch was filled and overwritten
module _ {X : Type 0} (filler : X) (xs new : List X) (len at start : ℕ) (is : start ≡ min at len)
    (within : len ≤ length xs) (room : at + length new ≤ length xs) where
  front : List X
  front = take start xs ++ replicate (at - start) filler ++ new

  length-front : length front ≡ at + length new
  unfolding front
  length-front = grind (arith, common_steps)

  front_is : front ≡ take at (take len xs) ++ replicate (at - length (take len xs)) filler ++ new
  unfolding front
  front_is =
      ap (λ (l : List X). l ++ replicate (at - start) filler ++ new)
      (ap (λ (k : ℕ). take k xs) is ∙ sym (take-take-min at len xs))
      ∙ ap (λ (k : ℕ). take at (take len xs) ++ replicate k filler ++ new)
      (omega (arith, is, length-take-le len xs within))

  cut : take (max len (at + length new)) (take start xs ++ replicate (at - start) filler ++ new
      ++ drop (at + length new) xs) ≡ put_over filler (take len xs) at new
  unfolding front
  cut =
      ap (λ (k : ℕ). take k (front ++ drop (at + length new) xs)) (omega (arith, length-front))
      ∙ take-append-add front (drop (at + length new) xs) (len - (at + length new))
      ∙ ap (λ (l : List X). front ++ l) (sym (drop-take-sub (at + length new) len xs))
      ∙ ap (λ (l : List X). l ++ drop (at + length new) (take len xs)) front_is

-- a vector after its slice was changed
same_items : {X : Type 0} (old new : List X) (n : ℕ) → length old ≡ n → length new ≡ n
    → take n (new ++ drop (length new) old) ≡ new
same_items old new n long size = grind (arith, common_steps)

-- a medium after the bytes of a write were put and marked
module _ (bytes put_bytes : List ℕ) (touched mark_touched : List Bool) (len synced at start end n m : ℕ)
    (written : List ℕ)
    (is : start ≡ min at len) (sound : MediumInvariant bytes touched len synced)
    (room : at + length written ≤ length bytes) (end_is : end ≡ max len (at + length written))
    (long_bytes : length bytes ≡ n) (long_touched : length touched ≡ m)
    (was_put : put_bytes ≡ take start bytes ++ replicate (at - start) 0 ++ written ++ drop (at + length written) bytes)
    (was_marked : mark_touched ≡ take start touched ++ replicate (at + length written - start) true
    ++ drop (at + length written) touched) where
  new_bytes : List ℕ
  new_bytes = take n (put_bytes ++ drop (length put_bytes) bytes)

  new_touched : List Bool
  new_touched = take m (mark_touched ++ drop (length mark_touched) touched)

  put : new_bytes ≡ take start bytes ++ replicate (at - start) 0 ++ written ++ drop (at + length written) bytes
  unfolding new_bytes
  put = same_items bytes put_bytes n long_bytes (rw was_put (grind (arith, common_steps))) ∙ was_put

  marked : new_touched ≡ take start touched ++ replicate (at + length written - start) true
      ++ drop (at + length written) touched
  unfolding new_touched
  marked = same_items touched mark_touched m long_touched (rw was_marked (grind (arith, common_steps, sound.flags)))
      ∙ was_marked

  flags : List Bool
  flags = replicate (length written) true

  length-flags : length flags ≡ length written
  unfolding flags
  length-flags = length-replicate (length written) true

  -- the gap and the range count as written
  marked_parts : new_touched ≡ take start touched ++ replicate (at - start) true ++ flags
      ++ drop (at + length flags) touched
  unfolding flags
  marked_parts =
      marked
      ∙ ap (λ (l : List Bool). take start touched ++ l ++ drop (at + length written) touched)
      (ap (λ (k : ℕ). replicate k true) (omega arith)
      ∙ sym (replicate-append-replicate (at - start) (length written) true))
      ∙ ap (λ (l : List Bool). l ++ drop (at + length written) touched)
      (sym (append_assoc (take start touched) (replicate (at - start) true) (replicate (length written) true)))
      ∙ ap (λ (k : ℕ). take start touched ++ replicate (at - start) true ++ flags ++ drop (at + k) touched)
      (sym length-flags)

  length-put : length new_bytes ≡ length bytes
  length-put = rw put (grind (arith, common_steps, sound.within))

  length-marked : length new_touched ≡ length touched
  length-marked = rw marked (grind (arith, common_steps, sound.within, sound.flags))

  still_marked : (i : ℕ) → synced ≤ i → i < max len (at + length written) → get_or new_touched i true ≡ true
  still_marked i late low = elim (cases_lt i start) [
    | inl early ↦ rw marked (let was : get_or touched i true ≡ true = sound.appended i late (omega arith) in
        grind (arith, common_steps, was))
    | inr over ↦ elim (cases_lt i (at + length written)) [
      | inl inside ↦ rw marked (grind (arith, common_steps))
      | inr behind ↦ rw marked (rest_at true (take start touched ++ replicate (at + length written - start) true)
          touched (at + length written) i (grind (arith, common_steps, sound.flags, sound.within)) behind
          ∙ sound.appended i late (omega arith))
    ]
  ]

  pub still_sound : MediumInvariant (take n (put_bytes ++ drop (length put_bytes) bytes))
      (take m (mark_touched ++ drop (length mark_touched) touched)) end synced
  unfolding new_bytes new_touched
  still_sound = record {
    flags = length-marked ∙ sound.flags ∙ sym length-put;
    within = omega (arith, sound.within, length-put, end_is);
    order = omega (arith, sound.order, end_is);
    appended = λ i late low. still_marked i late (omega (arith, end_is));
  }

  pub written_view : ◌≡◌ {A = MediumView}
      (record {
        file = take end (take n (put_bytes ++ drop (length put_bytes) bytes));
        written = take end (take m (mark_touched ++ drop (length mark_touched) touched));
        appended = end - synced;
        room = length (take n (put_bytes ++ drop (length put_bytes) bytes));
      })
      (with_write (record {
        file = take len bytes;
        written = take len touched;
        appended = len - synced;
        room =
            length bytes;
      }) at written)
  unfolding flags new_bytes new_touched
  written_view = rw end_is (
      same_view _ _ _ _ _ _ _ _
      (ap (take (max len (at + length written))) put ∙ cut 0 bytes written len at start is sound.within room)
      (ap (λ (k : ℕ). take (max len (at + k)) new_touched) (sym length-flags)
      ∙ ap (take (max len (at + length flags))) marked_parts ∙ cut true touched flags len at start is
      (omega (arith, sound.flags, sound.within)) (omega (arith, length-flags, sound.flags)))
      (omega (arith, length-take-le len bytes sound.within, sound.order))
      length-put)

-- the bytes appended since the last sync count as written
pub late_written : (bytes : List ℕ) (touched : List Bool) (len synced : ℕ) → MediumInvariant bytes touched len synced
    → (i : ℕ) → length (take len bytes) - (len - synced) ≤ i → get_or (take len touched) i true ≡ true
late_written bytes touched len synced sound i late = elim (cases_lt i len) [
  | inl low ↦ get_or-take len touched i true low
      ∙ sound.appended i (omega (arith, length-take-le len bytes sound.within, sound.order)) low
  | inr past ↦ get_or_past (take len touched) i true (omega (arith, length-take len touched))
]

-- the file that a stop leaves of a medium
module _ (bytes new torn : List ℕ) (touched : List Bool) (len synced wanted size : ℕ)
    (sound : MediumInvariant bytes touched len synced)
    (long : length new ≡ length bytes) (is : size ≡ max (min wanted len) synced)
    (chosen : torn ≢ [] → (i : ℕ) → i < length bytes → get_or touched i true ≡ true
    → get_or new i 0 ≡ torn_byte torn (count_by (λ t. t) (take i touched)))
    (as_written : torn ≡ [] → (i : ℕ) → i < length bytes → get_or touched i true ≡ true
    → get_or new i 0 ≡ get_or bytes i 0)
    (kept : (i : ℕ) → get_or touched i true ≡ false → get_or new i 0 ≡ get_or bytes i 0) where
  length-left : length (take size new) ≡ size
  length-left = length-take-le size new (omega (arith, sound.order, sound.within))

  low_is : (i : ℕ) → i < length (take size new) → i < len
  low_is i low = omega (arith, length-left, sound.order)

  at_place : (i : ℕ) → i < length (take size new) → get_or (take size new) i 0 ≡ get_or new i 0
  at_place i low = get_or-take size new i 0 (omega (arith, length-left))

  flag_at : (i : ℕ) → i < length (take size new) → get_or (take len touched) i true ≡ get_or touched i true
  flag_at i low = get_or-take len touched i true (low_is i low)

  byte_at : (i : ℕ) → i < length (take size new) → get_or (take len bytes) i 0 ≡ get_or bytes i 0
  byte_at i low = get_or-take len bytes i 0 (low_is i low)

  same_rank : (i : ℕ) → i < len → take i (take len touched) ≡ take i touched
  same_rank i low = take-take-min i len touched ∙ ap (λ (k : ℕ). take k touched) (omega arith)

  pub left_of : IsLeft
      (record { file = take len bytes; written = take len touched; appended = len - synced; room = length bytes }) torn
      wanted (take size new)
  left_of = record {
    moved = omega (arith, length-left, length-take-le len bytes sound.within, sound.order);
    chosen = λ some i low written.
        at_place i low
        ∙ chosen some i (omega (arith, low_is i low, sound.within)) (sym (flag_at i low) ∙ written)
        ∙ ap (λ (ts : List Bool). torn_byte torn (count_by (λ t. t) ts)) (sym (same_rank i (low_is i low)));
    as_written = λ none i low written.
        at_place i low
        ∙ as_written none i (omega (arith, low_is i low, sound.within)) (sym (flag_at i low) ∙ written)
        ∙ sym (byte_at i low);
    kept = λ i low synced_there. at_place i low ∙ kept i (sym (flag_at i low) ∙ synced_there) ∙ sym (byte_at i low);
  }

-- the same for a slice that kept its length
pub same_items_of : {X : Type 0} (old new : List X) (n : ℕ) → length old ≡ n → length new ≡ length old
    → take n (new ++ drop (length new) old) ≡ new
same_items_of old new n long same = same_items old new n long (same ∙ long)
