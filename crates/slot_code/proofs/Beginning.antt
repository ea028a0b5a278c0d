-- The words and notes with which a run begins are the values of its slots.
use Rattle.std.proofs.Common.{◌≡◌, ℕ, zero, suc, ◌+◌, ◌-◌, ◌≤◌, ℤ, pos, List, [], ◌∷◌, ◌++◌, length, map}
use Rattle.std.proofs.Common.{Some, refl, sym, ap, ap₂, subst, ◌∙◌, arith, length-append}
use Rattle.std.proofs.lemmas.List.Elements.{All-head, All-tail}
use Rattle.std.specs.Prelude.{All, replicate, slice_get}
use Rattle.st_types.specs.declared.kind.Kind.{Kind}
use Rattle.st_types.specs.Values.{Datum, IsHeld}
use Rattle.st_types.specs.Words.{datum_at}
use Rattle.machine_code.specs.declared.mark.Mark.{Mark}
use Rattle.quick_code.specs.QuickSteps.{or_none}
use Rattle.quick_code.specs.Words.{word_at}
use Rattle.quick_trees.specs.declared.noting.Noting.{Noting}
use Rattle.quick_trees.specs.declared.noting.Noting.TheVariants.{Exact}
use Rattle.quick_trees.specs.Notes.{IsTrueOf}
use Rattle.quick_trees.specs.Programs.{beginning}
use Rattle.quick_trees.specs.QuickMemory.{IsRoom}
use Rattle.quick_trees.specs.UnitValues.{IsMemory, IsValueAt, whole}
use Rattle.quick_trees.proofs.Lists.{some_is, replicate_long}
use Rattle.slot_code.specs.declared.parts.QuickParts.{QuickParts}
use Rattle.quick_trees.specs.Windows.{IsWindow}
use Rattle.slot_code.specs.Quick.{AreIn, start_memory, frame_of, kinds_of, unmarked, unmarked_slots, word_of}
use Rattle.slot_code.proofs.Memories.{again}
use Rattle.st_types.proofs.ListLemmas.{length_map}

-- an element of a list of equal ones
of_equals : {A : Type 0} (n k : ℕ) (v x : A) → slice_get (replicate n v) k ≡ Some x → v ≡ x
of_equals zero k v x at = absurd cc
of_equals (suc n) zero v x at = some_is at
of_equals (suc n) (suc k) v x at = of_equals n k v x at

no_note : (n k : ℕ) → or_none (slice_get (replicate n 0) k) ≡ 0
no_note zero k = refl
no_note (suc n) zero = refl
no_note (suc n) (suc k) = no_note n k

-- the word of a value is at its place, whatever comes after
word_here : (vs : List Datum) (rest : List ℤ) (k : ℕ) (v : Datum) → slice_get vs k ≡ Some v
    → word_at (map word_of vs ++ rest) k ≡ word_of v
word_here [] rest k v at = absurd cc
word_here (x ∷ vs) rest zero v at = ap word_of (some_is at)
word_here (x ∷ vs) rest (suc k) v at = word_here vs rest k v at

word_behind : (vs : List Datum) (rest : List ℤ) (j : ℕ) → word_at (map word_of vs ++ rest)
    (length vs + j) ≡ word_at rest j
word_behind [] rest j = (let at : 0 + j ≡ j = omega arith in ap (word_at rest) at)
word_behind (x ∷ vs) rest j =
    (let at : suc (length vs) + j ≡ suc (length vs + j) = omega arith in
    ap (word_at (map word_of (x ∷ vs) ++ rest)) at ∙ word_behind vs rest j)

held_of : (vs : List Datum) (k : ℕ) (v : Datum) → All IsHeld vs → slice_get vs k ≡ Some v → IsHeld v
held_of [] k v held at = absurd cc
held_of (x ∷ vs) zero v held at = subst IsHeld (some_is at) (All-head IsHeld x vs held)
held_of (x ∷ vs) (suc k) v held at = held_of vs k v (All-tail IsHeld x vs held) at

-- the value at a place that has a type
pub value_of : (vs : List Datum) (k : ℕ) (t : Kind) → slice_get (kinds_of vs) k ≡ Some t
    → (v : Datum) × ((slice_get vs k ≡ Some v) × (v.kind ≡ t))
value_of [] k t at = absurd cc
value_of (x ∷ vs) zero t at = (x, (refl, some_is at))
value_of (x ∷ vs) (suc k) t at = value_of vs k t at

-- the values of slots, those of a window among them, whose words the run has
module _ (p : QuickParts) (window : List ℕ) (slots vs : List Datum) (now : ℕ) (is_in : AreIn window slots vs)
    (is_window : IsWindow (length slots) window) (held : All IsHeld vs) (constants : All IsHeld p.constants.items)
    (room : length vs + length p.constants.items ≤ p.words) where
  abbrev cs : List Datum
  cs = p.constants.items

  abbrev rest : List ℤ
  rest = replicate (p.words - (length vs + length cs)) (pos 0)

  words_long : length (map word_of vs ++ (map word_of cs ++ rest)) ≡ p.words
  words_long =
      let a = length-append (map word_of vs) (map word_of cs ++ rest) in
      let b = length-append (map word_of cs) rest in
      let c = length_map word_of vs in
      let d = length_map word_of cs in
      let e = replicate_long (p.words - (length vs + length cs)) (pos 0) in
      omega (arith, a, b, c, d, e)

  room_is : IsRoom (frame_of p window (kinds_of slots) now) (start_memory p vs)
  room_is =
      let long = is_in.long in record {
        words = words_long;
        notes = replicate_long p.words 0;
        room = omega (arith, long);
        window = subst (λ n. IsWindow n window) (sym (length_map (λ (v : Datum). v.kind) slots)) is_window;
        constants = λ j v at.
            ap (λ n. datum_at v.kind (word_at (map word_of vs ++ (map word_of cs ++ rest)) (n + j))) (sym long)
            ∙ ap (datum_at v.kind) (word_behind vs (map word_of cs ++ rest) j ∙ word_here cs rest j v at) ∙ again v;
        held = λ j v at. held_of cs j v constants at;
      }

  value_is : (k w : ℕ) (t : Kind) → slice_get (kinds_of slots) k ≡ Some t → slice_get window w ≡ Some k
      → IsValueAt (start_memory p vs) slots t k w
  value_is k w t at has =
      let v = value_of slots k t at in
      let there : slice_get vs w ≡ Some v.0 = is_in.each w k has ∙ v.1.0 in
      let word = word_here vs (map word_of cs ++ rest) w v.0 there in
      let same : datum_at t (word_at (map word_of vs ++ (map word_of cs ++ rest)) w) ≡ v.0 =
      ap₂ datum_at (sym v.1.1) word ∙ again v.0 in record {
        is = v.1.0 ∙ ap Some (sym same);
        held = subst IsHeld (sym same) (held_of vs w v.0 held there);
      }

  noted : (n : Noting) (x : Mark) (w : ℕ) → Exact ≡ n → unmarked ≡ x
      → IsTrueOf n x (or_none (slice_get (replicate p.words 0) w))
  noted n x w exact mark =
      subst (λ (n : Noting). IsTrueOf n x (or_none (slice_get (replicate p.words 0) w))) exact
      (subst (λ (x : Mark). IsTrueOf Exact x (or_none (slice_get (replicate p.words 0) w))) mark (no_note p.words w))

  -- a run begins with the values of the slots, and nothing is marked
  pub begins : let f = frame_of p window (kinds_of slots) now in
      IsMemory f (whole 0) (beginning f) (start_memory p vs) (unmarked_slots slots)
  begins = record {
    room = room_is;
    long = sym (length_map (λ (v : Datum). v.kind) slots);
    values = λ k w t at has. value_is k w t at has;
    marks = record {
      each = λ w k n x has at mark. noted n x w (of_equals (length window) w Exact n at)
          (of_equals (length slots) k unmarked x mark);
    };
  }
