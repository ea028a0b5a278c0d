-- The values and marks after a run of quick code.
use Rattle.std.proofs.Common.{◌≡◌, ℕ, zero, suc, ◌<◌, ◌≤◌, ℤ, List, [], ◌∷◌, ◌++◌, length, map, take, Bool, true, false}
use Rattle.std.proofs.Common.{Some}
use Rattle.std.proofs.Common.{refl, sym, ap, ap₂, subst, ◌∙◌, ◌+◌, add-one, arith}
use Rattle.std.specs.Prelude.{replicate, slice_get}
use Rattle.st_types.specs.declared.kind.Kind.{Kind}
use Rattle.st_types.specs.Values.{Datum}
use Rattle.st_types.specs.Words.{datum_at}
use Rattle.machine_code.specs.declared.mark.Mark.{Mark}
use Rattle.machine_code.specs.Machine.{Ending}
use Rattle.machine_code.specs.Tracking.{Tracked}
use Rattle.quick_code.specs.QuickRuns.{left}
use Rattle.quick_code.specs.QuickSteps.{Memory, or_none}
use Rattle.quick_code.specs.Words.{word_at}
use Rattle.quick_trees.specs.declared.noting.Noting.TheVariants.{Exact}
use Rattle.quick_trees.specs.Notes.{note_of}
use Rattle.quick_trees.specs.QuickMemory.{Frame}
use Rattle.quick_trees.proofs.Lists.{map_there, there_within, within_there}
use Rattle.slot_code.specs.Quick.{AreIn, EndsWith, HasEnded, kinds_of}
use Rattle.slot_code.proofs.Beginning.{value_of}
use Rattle.slot_code.specs.WordValues.{AreHeld, mark_of, values_of}
use Rattle.st_types.proofs.ListLemmas.{length_map}
use Rattle.st_types.proofs.OptionLemmas.{some_is}
use Rattle.slot_code.proofs.Memories.{kind_at}

equal_at : {A : Type 0} (n k : ℕ) (v : A) → k < n → slice_get (replicate n v) k ≡ Some v
equal_at zero k v lt = absurd (omega arith)
equal_at (suc n) zero v lt = refl
equal_at (suc n) (suc k) v lt = equal_at n k v (omega arith)

-- the value at a place is that of its word
value_told : (ks : List Kind) (ws : List ℤ) (k : ℕ) (t : Kind) → slice_get ks k ≡ Some t → length ks ≤ length ws
    → slice_get (values_of ks ws) k ≡ Some (datum_at t (word_at ws k))
value_told [] ws k t at le = absurd cc
value_told (u ∷ ks) [] k t at le = absurd (omega arith)
value_told (u ∷ ks) (w ∷ ws) zero t at le = ap (λ u. Some (datum_at u w)) (some_is at)
value_told (u ∷ ks) (w ∷ ws) (suc k) t at le = value_told ks ws k t at (omega arith)

-- as many values as types, if there are words for them
pub values_long : (ks : List Kind) (ws : List ℤ) → length ks ≤ length ws → length (values_of ks ws) ≡ length ks
values_long [] ws le = refl
values_long (t ∷ ks) [] le = absurd (omega arith)
values_long (t ∷ ks) (w ∷ ws) le = ap suc (values_long ks ws (omega arith))

mark_by : (read assigned : Bool)
    → mark_of (note_of (record { is_read = read; is_assigned = assigned }))
    ≡ record { is_read = read; is_assigned = assigned }
mark_by true true = refl
mark_by true false = refl
mark_by false true = refl
mark_by false false = refl

mark_again : (x : Mark) → mark_of (note_of x) ≡ x
mark_again x = mark_by x.is_read x.is_assigned

take_long : {A : Type 0} (n : ℕ) (xs : List A) → n ≤ length xs → length (take n xs) ≡ n
take_long zero xs le = refl
take_long (suc n) [] le = absurd (omega arith)
take_long (suc n) (x ∷ xs) le = ap suc (take_long n xs (omega arith))

mark_told : (n : ℕ) (ns : List ℕ) (k : ℕ) → k < n → n ≤ length ns
    → slice_get (map mark_of (take n ns)) k ≡ Some (mark_of (or_none (slice_get ns k)))
mark_told zero ns k lt le = absurd (omega arith)
mark_told (suc n) [] k lt le = absurd (omega arith)
mark_told (suc n) (x ∷ ns) zero lt le = refl
mark_told (suc n) (x ∷ ns) (suc k) lt le = mark_told n ns k (omega arith) (omega arith)

module _ (f : Frame) (slots begun : List Datum) (ticks : ℕ) (m : Memory) (r : Ending Tracked)
    (h : HasEnded f slots (left m ticks) r) (typed : kinds_of slots ≡ f.kinds) (is_in : AreIn f.window slots begun)
  where
    abbrev n : ℕ
    n = length slots

    within_words : length begun ≤ f.size
    within_words = (let room = h.told.room.room in let long = is_in.long in omega arith)

    pub words_long : length begun ≤ length m.words
    words_long = (let long = h.told.room.words in let le = within_words in omega arith)

    pub notes_long : length begun ≤ length m.notes
    notes_long = (let long = h.told.room.notes in let le = within_words in omega arith)

    as_many : length f.kinds ≡ n
    as_many = ap length (sym typed) ∙ length_map (λ (v : Datum). v.kind) slots

    -- the slot of a word, and its type
    slot_of : (w : ℕ) (t : Kind) → slice_get (kinds_of begun) w ≡ Some t
        → (k : ℕ) × ((slice_get f.window w ≡ Some k) × (slice_get f.kinds k ≡ Some t))
    slot_of w t at =
        let v = value_of begun w t at in
        let lt = there_within begun w v.0 v.1.0 in
        let long = is_in.long in
        let k = within_there f.window w (omega arith) in
        let there : slice_get slots k.0 ≡ Some v.0 = sym (is_in.each w k.0 k.1) ∙ v.1.0 in (
          k.0,
          (k.1, ap (λ ks. slice_get ks k.0) (sym typed) ∙ kind_at slots k.0 v.0 there ∙ ap (λ t. Some t) v.1.1),
        )

    pub words_held : AreHeld (kinds_of begun) m.words
    words_held = record {
      each = λ w t at. (let k = slot_of w t at in (h.told.values k.0 w t k.1.1 k.1.0).held);
    }

    values_told : (w k : ℕ) → slice_get f.window w ≡ Some k
        → slice_get (take n h.memory.values) k ≡ slice_get (values_of (kinds_of begun) m.words) w
    values_told w k at =
        let inside = h.told.room.window.inside w k at in
        let t = within_there f.kinds k inside in
        let v = value_of slots k t.0 (ap (λ ks. slice_get ks k) typed ∙ t.1) in
        let there : slice_get begun w ≡ Some v.0 = is_in.each w k at ∙ v.1.0 in
        let kind : slice_get (kinds_of begun) w ≡ Some t.0 = kind_at begun w v.0 there ∙ ap (λ t. Some t) v.1.1 in
        let le = words_long in
        let many = length_map (λ (v : Datum). v.kind) begun in
        (h.told.values k w t.0 t.1 at).is
        ∙ sym (value_told (kinds_of begun) m.words w t.0 kind (omega arith))

    marks_told : (w k : ℕ) → slice_get f.window w ≡ Some k
        → slice_get (take n h.memory.marks) k ≡ slice_get (map mark_of (take (length begun) m.notes)) w
    marks_told w k at =
        let inside = h.told.room.window.inside w k at in
        let many = as_many in
        let marks_long = h.marks in
        let x = within_there (take n h.memory.marks) k (omega arith) in
        let lt = there_within f.window w k at in
        let long = is_in.long in
        let note = h.told.marks.each w k Exact x.0 at (equal_at (length f.window) w Exact lt) x.1 in
        x.1 ∙ ap (λ y. Some y) (sym (ap mark_of note ∙ mark_again x.0))
        ∙ sym (mark_told (length begun) m.notes w (omega arith) notes_long)

    left_long : length (values_of (kinds_of begun) m.words) ≡ length f.window
    left_long =
        let many = length_map (λ (v : Datum). v.kind) begun in
        let le = words_long in
        values_long (kinds_of begun) m.words (omega arith) ∙ many ∙ is_in.long

    marks_long : length (map mark_of (take (length begun) m.notes)) ≡ length f.window
    marks_long =
        length_map mark_of (take (length begun) m.notes) ∙ take_long (length begun) m.notes notes_long ∙ is_in.long

    -- the run of instructions ends with them
    pub ends_with : (values : List Datum) (marks : List Mark) → values ≡ values_of (kinds_of begun) m.words
        → marks ≡ map mark_of (take (length begun) m.notes) → EndsWith f.window slots ticks values marks r
    ends_with values marks values_is marks_is = record {
      memory = h.memory;
      is = h.is;
      slots = h.told.long ∙ as_many;
      marked = h.marks;
      left = record {
        long = ap length values_is ∙ left_long;
        each = λ w k at. ap (λ vs. slice_get vs w) values_is ∙ sym (values_told w k at);
      };
      long = ap length marks_is ∙ marks_long;
      told = λ w k at. ap (λ xs. slice_get xs w) marks_is ∙ sym (marks_told w k at);
      stays = h.stays;
    }

-- one mark more
marks_on : (ns : List ℕ) (k : ℕ) (n : ℕ) → slice_get ns k ≡ Some n
    → map mark_of (take k ns) ++ mark_of n ∷ [] ≡ map mark_of (take (suc k) ns)
marks_on [] k n at = absurd cc
marks_on (x ∷ ns) zero n at = ap (λ y. mark_of y ∷ []) (sym (some_is at))
marks_on (x ∷ ns) (suc k) n at = ap (λ xs. mark_of x ∷ xs) (marks_on ns k n at)

pub marks_after : (ns : List ℕ) (k n : ℕ) (x : Mark) (ms new : List Mark) → slice_get ns k ≡ Some n → x ≡ mark_of n
    → ms ≡ map mark_of (take k ns) → new ≡ ms ++ x ∷ [] → new ≡ map mark_of (take (k + 1) ns)
marks_after ns k n x ms new at is before pushed =
    pushed ∙ ap₂ (λ ys y. ys ++ y ∷ []) before is ∙ marks_on ns k n at
    ∙ ap (λ j. map mark_of (take j ns)) (sym (add-one k))
