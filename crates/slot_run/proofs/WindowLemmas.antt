-- The picked slots of a window are all that are picked.
use Rattle.std.proofs.Common.{◌≡◌, ◌≢◌, ℕ, zero, suc, ◌+◌, ◌<◌, ◌≤◌, ◌==◌, ◌++◌, Bool, true, false, List, [], ◌∷◌}
use Rattle.std.proofs.Common.{length, map, take, Option, Some, None, if◌then◌else◌, refl, sym, ap, ap₂, subst, ◌∙◌}
use Rattle.std.proofs.Common.{add-one, arith}
use Rattle.std.specs.Prelude.{replicate, slice_get}
use Rattle.std.proofs.lemmas.Bool.Decides.{nat_tests}
use Rattle.st_types.specs.Values.{Datum}
use Rattle.st_meaning.specs.Slots.{Cell}
use Rattle.machine_code.specs.declared.mark.Mark.{Mark}
use Rattle.quick_trees.proofs.Lists.{some_is, there_within}
use Rattle.slot_memory.specs.Cells.{picked}
use Rattle.slot_run.specs.Windows.{picked_in}
use Rattle.slot_code.specs.Quick.{unmarked}

-- Of values and picks from a number on, those of a window's slots are these, and no other is picked.
pub record ArePicked (j : ℕ) (bs : List Bool) (vs : List Datum) (window : List ℕ) (cs : List Bool)
    (us : List Datum) : Type 0 where
  pub many : length bs ≡ length vs
  pub picks : length cs ≡ length window
  pub values : length us ≡ length window
  pub from : (w k : ℕ) → slice_get window w ≡ Some k → j ≤ k
  pub below : (w k : ℕ) → slice_get window w ≡ Some k → k < j + length vs
  pub increasing : (u w a b : ℕ) → slice_get window u ≡ Some a → slice_get window w ≡ Some b → u < w → a < b
  pub same : (w d k : ℕ) → slice_get window w ≡ Some k → k ≡ j + d → slice_get cs w ≡ slice_get bs d
  pub value : (w d k : ℕ) → slice_get window w ≡ Some k → k ≡ j + d → slice_get us w ≡ slice_get vs d
  pub off : (d : ℕ) → ((w k : ℕ) → slice_get window w ≡ Some k → k ≡ j + d → ⊥) → slice_get bs d ≡ Some true → ⊥

-- the next slot isn't one of the window's
past_other : (j : ℕ) (b : Bool) (bs : List Bool) (v : Datum) (vs : List Datum) (window : List ℕ) (cs : List Bool)
    (us : List Datum) → ArePicked j (b ∷ bs) (v ∷ vs) window cs us
    → ((w k : ℕ) → slice_get window w ≡ Some k → k ≡ j → ⊥) → ArePicked (suc j) bs vs window cs us
past_other j b bs v vs window cs us are out = record {
  many = (let many = are.many in omega arith);
  picks = are.picks;
  values = are.values;
  from = λ w k at. by_number w k at (k == j) refl;
  below = λ w k at. (let below = are.below w k at in omega arith);
  increasing = are.increasing;
  same = λ w d k at is. are.same w (suc d) k at (omega arith);
  value = λ w d k at is. are.value w (suc d) k at (omega arith);
  off = λ d others. are.off (suc d) (λ w k at is. others w k at (omega arith));
}
  where
    by_number : (w k : ℕ) → slice_get window w ≡ Some k → (t : Bool) → (k == j) ≡ t → suc j ≤ k
    by_number w k at true e = absurd (out w k at (grind (arith, nat_tests)))
    by_number w k at false e =
        let apart : k ≢ j = λ is. grind (arith, nat_tests) in
        let from = are.from w k at in
        omega (arith, apart, from)

-- the next slot is the window's first
past_own : (j k : ℕ) (b c : Bool) (bs cs : List Bool) (v u : Datum) (vs us : List Datum) (window : List ℕ)
    → ArePicked j (b ∷ bs) (v ∷ vs) (k ∷ window) (c ∷ cs) (u ∷ us) → k ≡ j → ArePicked (suc j) bs vs window cs us
past_own j k b c bs cs v u vs us window are here = record {
  many = (let many = are.many in omega arith);
  picks = (let picks = are.picks in omega arith);
  values = (let values = are.values in omega arith);
  from = λ w i at. (let more = are.increasing 0 (suc w) k i refl at (omega arith) in omega arith);
  below = λ w i at. (let below = are.below (suc w) i at in omega arith);
  increasing = λ u w a b at too lt. are.increasing (suc u) (suc w) a b at too (omega arith);
  same = λ w d i at is. are.same (suc w) (suc d) i at (omega arith);
  value = λ w d i at is. are.value (suc w) (suc d) i at (omega arith);
  off = λ d others. are.off (suc d) (λ w i at is. elsewhere d others w i at is);
}
  where
    elsewhere : (d : ℕ) → ((w i : ℕ) → slice_get window w ≡ Some i → i ≡ suc j + d → ⊥) → (w i : ℕ)
        → slice_get (k ∷ window) w ≡ Some i → i ≡ j + suc d → ⊥
    elsewhere d others zero i at is = (let same : k ≡ i = some_is at in absurd (omega arith))
    elsewhere d others (suc w) i at is = others w i at (omega arith)

not_picked : (b : Bool) (k : ℕ) (v : Datum) (cells : List Cell) → (b ≡ true → ⊥)
    → (if b then (k, v) ∷ cells else cells) ≡ cells
not_picked true k v cells none = absurd (none refl)
not_picked false k v cells none = refl

pub picked_so : (bs : List Bool) (vs : List Datum) (j : ℕ) (window : List ℕ) (cs : List Bool) (us : List Datum)
    → ArePicked j bs vs window cs us → picked bs j vs ≡ picked_in window cs us
picked_so [] [] j [] cs us are = refl
picked_so [] [] j (k ∷ window) cs us are =
    absurd (let from = are.from 0 k refl in let below = are.below 0 k refl in omega arith)
picked_so [] (v ∷ vs) j window cs us are = absurd (let many = are.many in omega arith)
picked_so (b ∷ bs) [] j window cs us are = absurd (let many = are.many in omega arith)
picked_so (b ∷ bs) (v ∷ vs) j [] cs us are =
    not_picked b j v (picked bs (suc j) vs)
    (λ is. are.off 0 (λ w k at same. no_slot w k at) (ap (λ b. Some b) is))
    ∙ picked_so bs vs (suc j) [] cs us (past_other j b bs v vs [] cs us are (λ w k at same. no_slot w k at))
  where
    no_slot : (w k : ℕ) → slice_get {X = ℕ} [] w ≡ Some k → ⊥
    no_slot w k at = cc
picked_so (b ∷ bs) (v ∷ vs) j (k ∷ window) [] us are = absurd (let picks = are.picks in omega arith)
picked_so (b ∷ bs) (v ∷ vs) j (k ∷ window) (c ∷ cs) [] are = absurd (let values = are.values in omega arith)
picked_so (b ∷ bs) (v ∷ vs) j (k ∷ window) (c ∷ cs) (u ∷ us) are =
    by_number (λ here. picked_so bs vs (suc j) window cs us (past_own j k b c bs cs v u vs us window are here))
    (λ apart. picked_so bs vs (suc j) (k ∷ window) (c ∷ cs) (u ∷ us)
    (past_other j b bs v vs (k ∷ window) (c ∷ cs) (u ∷ us) are (first_behind apart))) (k == j) refl
  where
    first_behind : (k ≡ j → ⊥) → (w i : ℕ) → slice_get (k ∷ window) w ≡ Some i → i ≡ j → ⊥
    first_behind apart zero i at is = apart (some_is at ∙ is)
    first_behind apart (suc w) i at is =
        let more = are.increasing 0 (suc w) k i refl at (omega arith) in
        let from = are.from 0 k refl in
        absurd (omega arith)

    by_number : (k ≡ j → picked bs (suc j) vs ≡ picked_in window cs us)
        → ((k ≡ j → ⊥) → picked bs (suc j) vs ≡ picked_in (k ∷ window) (c ∷ cs) (u ∷ us)) → (t : Bool)
        → (k == j) ≡ t → picked (b ∷ bs) j (v ∷ vs) ≡ picked_in (k ∷ window) (c ∷ cs) (u ∷ us)
    by_number own other true e =
        let here : k ≡ j = grind (arith, nat_tests) in
        let pick : c ≡ b = some_is (are.same 0 0 k refl (omega arith)) in
        let value : u ≡ v = some_is (are.value 0 0 k refl (omega arith)) in
        ap (λ cells. if b then (j, v) ∷ cells else cells) (own here)
        ∙ ap (λ b. if b then (j, v) ∷ picked_in window cs us else picked_in window cs us) (sym pick)
        ∙ ap (λ i. if c then (i, v) ∷ picked_in window cs us else picked_in window cs us) (sym here)
        ∙ ap (λ x. if c then (k, x) ∷ picked_in window cs us else picked_in window cs us) (sym value)
    by_number own other false e =
        let apart : k ≢ j = λ is. grind (arith, nat_tests) in
        not_picked b j v (picked bs (suc j) vs)
        (λ is. are.off 0 (λ w i at same. first_behind apart w i at (omega arith)) (ap (λ b. Some b) is))
        ∙ other apart

-- one slot of a window more
module _ (f : Mark → Bool) where
  more : (window : List ℕ) (marks : List Mark) (vs : List Datum) (k slot : ℕ) (mark : Mark) (v : Datum)
      → slice_get window k ≡ Some slot → slice_get marks k ≡ Some mark → slice_get vs k ≡ Some v
      → picked_in (take k window) (map f (take k marks)) (take k vs) ++ (if f mark then (slot, v) ∷ [] else [])
      ≡ picked_in (take (suc k) window) (map f (take (suc k) marks)) (take (suc k) vs)
  more [] marks vs k slot mark v at there value = absurd cc
  more (x ∷ window) [] vs k slot mark v at there value = absurd cc
  more (x ∷ window) (m ∷ marks) [] k slot mark v at there value = absurd cc
  more (x ∷ window) (m ∷ marks) (u ∷ vs) zero slot mark v at there value =
      ap (λ m. if f m then (slot, v) ∷ [] else []) (sym (some_is there))
      ∙ ap (λ i. if f m then (i, v) ∷ [] else []) (sym (some_is at))
      ∙ ap (λ y. if f m then (x, y) ∷ [] else []) (sym (some_is value))
  more (x ∷ window) (m ∷ marks) (u ∷ vs) (suc k) slot mark v at there value =
      behind (f m) (picked_in (take k window) (map f (take k marks)) (take k vs))
      (if f mark then (slot, v) ∷ [] else [])
      ∙ ap (λ cells. if f m then (x, u) ∷ cells else cells) (more window marks vs k slot mark v at there value)
    where
      behind : (b : Bool) (cells one : List Cell)
          → (if b then (x, u) ∷ cells else cells) ++ one ≡ (if b then (x, u) ∷ (cells ++ one) else cells ++ one)
      behind true cells one = refl
      behind false cells one = refl

  pub one_more : (window : List ℕ) (marks : List Mark) (vs : List Datum) (k slot : ℕ) (mark : Mark) (v : Datum)
      (old new : List Cell) → slice_get window k ≡ Some slot → slice_get marks k ≡ Some mark
      → slice_get vs k ≡ Some v → new ≡ old ++ (if f mark then (slot, v) ∷ [] else [])
      → old ≡ picked_in (take k window) (map f (take k marks)) (take k vs)
      → new ≡ picked_in (take (k + 1) window) (map f (take (k + 1) marks)) (take (k + 1) vs)
  one_more window marks vs k slot mark v old new at there value put before =
      put ∙ ap (λ cells. cells ++ (if f mark then (slot, v) ∷ [] else [])) before
      ∙ more window marks vs k slot mark v at there value
      ∙ ap (λ i. picked_in (take i window) (map f (take i marks)) (take i vs)) (sym (add-one k))

take_all : {A : Type 0} (xs : List A) (n : ℕ) → length xs ≡ n → take n xs ≡ xs
take_all [] zero long = refl
take_all [] (suc n) long = absurd (omega arith)
take_all (x ∷ xs) zero long = absurd (omega arith)
take_all (x ∷ xs) (suc n) long = ap (λ ys. x ∷ ys) (take_all xs n (omega arith))

pub all_taken : (f : Mark → Bool) (window : List ℕ) (marks : List Mark) (vs : List Datum) (k : ℕ) (cells : List Cell)
    → length window ≡ k → length marks ≡ k → length vs ≡ k
    → cells ≡ picked_in (take k window) (map f (take k marks)) (take k vs)
    → cells ≡ picked_in window (map f marks) vs
all_taken f window marks vs k cells a b c is =
    is ∙ ap (λ w. picked_in w (map f (take k marks)) (take k vs)) (take_all window k a)
    ∙ ap (λ m. picked_in window (map f m) (take k vs)) (take_all marks k b)
    ∙ ap (λ v. picked_in window (map f marks) v) (take_all vs k c)

-- marks one by one
abbrev by_some : {A B : Type 0} → (A → B) → Option A → Option B
by_some f (Some x) = Some (f x)
by_some f None = None

of_map : {A B : Type 0} (f : A → B) (xs : List A) (i : ℕ) → slice_get (map f xs) i ≡ by_some f (slice_get xs i)
of_map f [] i = refl
of_map f (x ∷ xs) zero = refl
of_map f (x ∷ xs) (suc i) = of_map f xs i

pub mapped : {A B : Type 0} (f : A → B) (xs ys : List A) (i j : ℕ) → slice_get xs i ≡ slice_get ys j
    → slice_get (map f xs) i ≡ slice_get (map f ys) j
mapped f xs ys i j e = of_map f xs i ∙ ap (by_some f) e ∙ sym (of_map f ys j)

pub none_picked : (f : Mark → Bool) → (f unmarked ≡ false) → (n d : ℕ)
    → slice_get (map f (replicate n unmarked)) d ≡ Some true → ⊥
none_picked f off zero d at = cc
none_picked f off (suc n) zero at = (let on : f unmarked ≡ true = some_is at in cc)
none_picked f off (suc n) (suc d) at = none_picked f off n d at
