-- A function's values as a call of it begins.
use Rattle.std.proofs.Common.{◌≡◌, ◌≢◌, ℕ, zero, suc, ◌+◌, ◌<◌, ◌≤◌, ℤ, true, false, List, [], ◌∷◌, length}
use Rattle.std.proofs.Common.{Some, Ok, Err, refl, sym, ap, ap₂, ◌∙◌, subst, arith, inl, inr}
use Rattle.std.specs.Prelude.{◌⊎◌, ◌&&◌, if◌then◌else◌, slice_get, slice_set}
use Rattle.st_types.specs.declared.kind.Kind.{Kind}
use Rattle.st_types.proofs.KindLemmas.{same_kind-refl}
use Rattle.st_types.specs.Values.{Datum, IsHeld}
use Rattle.st_types.specs.Words.{datum_at}
use Rattle.st_meaning.specs.Failures.{ill_typed}
use Rattle.st_meaning.specs.Stores.{may_replace}
use Rattle.st_meaning.specs.Ticks.{proceed}
use Rattle.machine_code.specs.declared.mark.Mark.{Mark}
use Rattle.quick_code.specs.declared.quick_instr.QuickInstr.TheVariants.{Move, Set}
use Rattle.quick_code.specs.QuickRuns.{Left}
use Rattle.quick_code.specs.QuickSteps.{Memory, look, with_word}
use Rattle.slot_trees.specs.SlotTrees.{SlotFunction}
use Rattle.slot_trees.specs.SlotExecution.{Slots, stored_at, stored_over}
use Rattle.slot_trees.specs.SlotRuns.{bound_input_slots}
use Rattle.quick_trees.specs.Calls.{AreBegun, AreInputs, IsBegun, IsInput, kinds_in}
use Rattle.quick_trees.specs.Points.{Point}
use Rattle.quick_trees.specs.QuickMemory.{EndsWellAt, Frame, first_temporary}
use Rattle.quick_trees.specs.UnitValues.{IsValueAt, FunctionWord}
use Rattle.quick_trees.proofs.Lists.{map_there, set_elsewhere, set_here, set_long, some_is, there_within, within_there}
use Rattle.quick_trees.proofs.Stepping.{stepped}
use Rattle.quick_trees.proofs.Memories.{IsNoted, Keeps, keeps_all, keeps_below, keeps_both, keeps_word}
use Rattle.quick_trees.proofs.Memories.{noted_word, word_here}
use Rattle.quick_trees.proofs.Settings.{AreGiven}
use Rattle.quick_trees.specs.Points.{next}

-- Each argument may be assigned to its slot, and no slot takes two.
record MayBegin (vs : Slots) (ks : List ℕ) (xs : List Datum) : Type 0 where
  long : length xs ≡ length ks
  fits : (i k : ℕ) (x : Datum) → slice_get ks i ≡ Some k → slice_get xs i ≡ Some x
      → (v : Datum) × ((slice_get vs k ≡ Some v) × (may_replace v x ≡ true))
  once : (i j k : ℕ) → slice_get ks i ≡ Some k → slice_get ks j ≡ Some k → i ≡ j

-- The slots as a call begins.
pub record HasSlots (vs : Slots) (ks : List ℕ) (xs : List Datum) : Type 0 where
  pub slots : Slots
  pub gives : bound_input_slots vs ks xs ≡ Ok slots
  pub long : length slots ≡ length vs
  pub input : (i k : ℕ) (x : Datum) → slice_get ks i ≡ Some k → slice_get xs i ≡ Some x → slice_get slots k ≡ Some x
  pub rest : (k : ℕ) → ((i : ℕ) → slice_get ks i ≡ Some k → ⊥) → slice_get slots k ≡ slice_get vs k

stores : (vs : Slots) (k : ℕ) (v x : Datum) → slice_get vs k ≡ Some v → may_replace v x ≡ true
    → stored_at vs k x ≡ Ok (slice_set vs k x)
stores vs k v x at may =
    ap (λ o. stored_over o vs k x) at ∙ ap (λ b. if b then Ok (slice_set vs k x) else Err ill_typed) may

has_slots : (vs : Slots) (ks : List ℕ) (xs : List Datum) → MayBegin vs ks xs → HasSlots vs ks xs
has_slots vs [] [] may = record {
  slots = vs;
  gives = refl;
  long = refl;
  input = λ i k x at value. absurd cc;
  rest = λ k none. refl;
}
has_slots vs [] (x ∷ xs) may = absurd (let long = may.long in omega arith)
has_slots vs (k ∷ ks) [] may = absurd (let long = may.long in omega arith)
has_slots vs (k ∷ ks) (x ∷ xs) may =
    let first = may.fits zero k x refl refl in
    let us = slice_set vs k x in
    let lt = there_within vs k first.0 first.1.0 in
    let apart : (i j : ℕ) → slice_get ks i ≡ Some j → j ≢ k = λ i j at is. (
    let same = may.once (suc i) zero k (at ∙ ap (λ j. Some j) is) refl in
    omega arith) in
    let tail = has_slots us ks xs (record {
      long = (let long = may.long in omega arith);
      fits = λ i j y at value. (let v = may.fits (suc i) j y at value in
          (v.0, (set_elsewhere vs j k x (apart i j at) ∙ v.1.0, v.1.1)));
      once = λ i j l at at'. (let same = may.once (suc i) (suc j) l at at' in omega arith);
    }) in
    record {
      slots = tail.slots;
      gives = ap (λ r. proceed r (λ us. bound_input_slots us ks xs)) (stores vs k first.0 x first.1.0 first.1.1) ∙ tail.gives;
      long = tail.long ∙ set_long vs k x;
      input = λ i. elim i as (λ i. (j : ℕ) (y : Datum) → slice_get (k ∷ ks) i ≡ Some j → slice_get (x ∷ xs) i ≡ Some y
          → slice_get tail.slots j ≡ Some y) [
            | zero ↦ λ j y at value. (let same : k ≡ j = some_is at in
                ap (slice_get tail.slots) (sym same)
                ∙ tail.rest k (λ i at. apart i k at refl)
                ∙ set_here vs k x lt
                ∙ value)
            | suc i ↦ λ j y at value. tail.input i j y at value
          ];
      rest = λ j none. tail.rest j (λ i at. none (suc i) at)
          ∙ set_elsewhere vs j k x (λ is. none zero (ap (λ i. Some i) (sym is)));
    }

module _ (f : Frame) (x : Left) (g : SlotFunction) (kinds : List Kind) (words : List ℕ) (d : ℕ) (values : List Datum)
    (m : Memory) (marks : List Mark) (inputs : AreInputs g kinds words) (given : AreGiven m d kinds words values)
    (deep : first_temporary f ≤ d) (room : d + length g.fresh ≤ f.size) where
  -- an argument's value, of the type of its input
  argument : (i k : ℕ) (v : Datum) → slice_get g.inputs i ≡ Some k → slice_get values i ≡ Some v
      → (old : Datum) × ((slice_get g.fresh k ≡ Some old) × (may_replace old v ≡ true))
  argument i k v at value =
      let old = inputs.there i k at in
      let type = inputs.typed i k old.0.kind at (map_there (λ (v : Datum). v.kind) g.fresh k old.0 old.1) in
      let many = given.words_long in
      let lt = there_within values i v value in
      let word = within_there words i (omega arith) in
      let is : datum_at old.0.kind (look m word.0) ≡ v =
      some_is (sym (given.each i word.0 old.0.kind word.1 type) ∙ value) in
      let held = given.held i word.0 old.0.kind word.1 type in (
        old.0,
        (
          old.1,
          subst (λ v. may_replace old.0 v ≡ true) is
              (ap₂ (λ a b. a && b) (same_kind-refl old.0.kind) held),
        ),
      )

  pub begun_slots : HasSlots g.fresh g.inputs values
  begun_slots =
      has_slots g.fresh g.inputs values (record {
        long = given.words_long ∙ inputs.words_long;
        fits = argument;
        once = inputs.once;
      })

  abbrev slots : Slots
  slots = begun_slots.slots

  -- A value of the function is at its seat.
  pub record IsSeated (i : ℕ) (s : FunctionWord) (n : Memory) : Type 0 where
    pub where_is : (s ≡ record { word = d + i; is_own = true }) ⊎ ((s.is_own ≡ false) × (s.word < d))
    pub value : (t : Kind) → slice_get (kinds_in g) i ≡ Some t → IsValueAt n slots t i s.word

  seat_low : (i : ℕ) (s : FunctionWord) → (s ≡ record { word = d + i; is_own = true }) ⊎ ((s.is_own ≡ false) × (s.word < d))
      → s.word < d + suc i
  seat_low i s (inl is) = (let at = ap (λ (s : FunctionWord). s.word) is in omega arith)
  seat_low i s (inr is) = (let lt = is.1 in omega arith)

  still_seated : (i : ℕ) (s : FunctionWord) (n n' : Memory) → Keeps (d + suc i) n n' → IsSeated i s n → IsSeated i s n'
  still_seated i s n n' keeps is = record {
    where_is = is.where_is;
    value = λ t at. (let v = is.value t at in
        let same = keeps_word (d + suc i) n n' s.word keeps (seat_low i s is.where_is) in record {
          is = v.is ∙ ap (λ w. Some (datum_at t w)) (sym same);
          held = subst (λ w. IsHeld (datum_at t w)) (sym same) v.held;
        });
  }

  -- the value of an input
  input_value : (i w : ℕ) (t : Kind) → IsInput g words i w → slice_get (kinds_in g) i ≡ Some t
      → (slice_get slots i ≡ Some (datum_at t (look m w))) × IsHeld (datum_at t (look m w))
  input_value i w t is at =
      let type = inputs.typed is.index i t is.input at in (
        begun_slots.input is.index i (datum_at t (look m w)) is.input (given.each is.index w t is.argument type),
        given.held is.index w t is.argument type,
      )

  -- One value was begun.
  record HasBegun (k : ℕ) (s : FunctionWord) (p q : Point) (n : Memory) (b : ℕ) : Type 0 where
    memory : Memory
    keeps : Keeps (d + k) n memory
    noted : IsNoted f q.noted marks memory
    ahead : p.ahead ≡ q.ahead
    seated : IsSeated k s memory
    ends : EndsWellAt f q.place memory b x

  -- a word of the function's own is assigned
  own_begun : (k : ℕ) (s : FunctionWord) (p q : Point) (n : Memory) (b : ℕ) (w : ℤ)
      → s ≡ record { word = d + k; is_own = true } → q ≡ next p
      → IsNoted f p.noted marks n → k < length g.fresh
      → ((t : Kind) → slice_get (kinds_in g) k ≡ Some t
      → (slice_get slots k ≡ Some (datum_at t w)) × IsHeld (datum_at t w))
      → EndsWellAt f (suc p.place) (with_word n s.word w) b x → HasBegun k s p q n b
  own_begun k s p q n b w own next noted few value runs =
      let at : s.word ≡ d + k = ap (λ (s : FunctionWord). s.word) own in
      let many = noted.room.words in
      let here : look (with_word n s.word w) s.word ≡ w = word_here n s.word w (omega arith) in
      subst (λ q. HasBegun k s p q n b) (sym next) (record {
        memory = with_word n s.word w;
        keeps = keeps_below (d + k) n s.word w (omega arith);
        noted = noted_word f p.noted marks n noted s.word w (inr (omega arith));
        ahead = refl;
        seated = record {
          where_is = inl own;
          value = λ t at. (let v = value t at in record {
            is = v.0 ∙ ap (λ w. Some (datum_at t w)) (sym here);
            held = subst (λ w. IsHeld (datum_at t w)) (sym here) v.1;
          });
        };
        ends = runs;
      })

  begun_one : (k : ℕ) (s : FunctionWord) (p q : Point) (n : Memory) (b : ℕ) → IsBegun f g words d k s p q → Keeps d m n
      → IsNoted f p.noted marks n → k < length g.fresh → EndsWellAt f p.place n b x → HasBegun k s p q n b
  begun_one k s p q n b (inl is) keeps noted few runs =
      let low = given.low is.1.0.index s.word is.1.0.argument in
      let same = keeps_word d m n s.word keeps low in
      subst (λ q. HasBegun k s p q n b) is.1.1 (record {
        memory = n;
        keeps = keeps_all (d + k) n;
        noted = noted;
        ahead = refl;
        seated = record {
          where_is = inr (is.0, low);
          value = λ t at. (let v = input_value k s.word t is.1.0 at in record {
            is = v.0 ∙ ap (λ w. Some (datum_at t w)) (sym same);
            held = subst (λ w. IsHeld (datum_at t w)) (sym same) v.1;
          });
        };
        ends = runs;
      })
  begun_one k s p q n b (inr (own, (next, inl (u, (is, at))))) keeps noted few runs =
      let same = keeps_word d m n u keeps (given.low is.index u is.argument) in
      own_begun k s p q n b (look n u) own next noted few
      (λ t at. (let v = input_value k u t is at in
      (v.0 ∙ ap (λ w. Some (datum_at t w)) (sym same), subst (λ w. IsHeld (datum_at t w)) (sym same) v.1)))
      (stepped f p.place x n b (Move u s.word) runs at)
  begun_one k s p q n b (inr (own, (next, inr (w, (v, (there, (number, (held, (none, at))))))))) keeps noted few runs =
      own_begun k s p q n b w own next noted few
      (λ t type. (
      let same : v.kind ≡ t = some_is (sym (map_there (λ (v : Datum). v.kind) g.fresh k v there) ∙ type) in
      let value : v ≡ datum_at t w = number ∙ ap (λ t. datum_at t w) same in
      (begun_slots.rest k none ∙ there ∙ ap (λ v. Some v) value, subst IsHeld value held)))
      (stepped f p.place x n b (Set w s.word) runs at)

  -- All values were begun.
  pub record HaveBegun (k : ℕ) (seats : List FunctionWord) (p q : Point) (n : Memory) (b : ℕ) : Type 0 where
    pub memory : Memory
    pub keeps : Keeps (d + k) n memory
    pub noted : IsNoted f q.noted marks memory
    pub ahead : p.ahead ≡ q.ahead
    pub seated : (j i : ℕ) (s : FunctionWord) → slice_get seats j ≡ Some s → i ≡ k + j → IsSeated i s memory
    pub ends : EndsWellAt f q.place memory b x

  pub have_begun : (k : ℕ) (seats : List FunctionWord) (p q : Point) (n : Memory) (b : ℕ) → AreBegun f g words d k seats p q
      → Keeps d m n → IsNoted f p.noted marks n → k + length seats ≤ length g.fresh → EndsWellAt f p.place n b x
      → HaveBegun k seats p q n b
  have_begun k [] p q n b are keeps noted few runs =
      subst (λ q. HaveBegun k [] p q n b) are (record {
        memory = n;
        keeps = keeps_all (d + k) n;
        noted = noted;
        ahead = refl;
        seated = λ j i s at is. absurd cc;
        ends = runs;
      })
  have_begun k (s ∷ seats) p q n b are keeps noted few runs =
      let one = begun_one k s p are.0 n b are.1.0 keeps noted (omega arith) runs in
      let rest = have_begun (suc k) seats are.0 q one.memory b are.1.1
      (keeps_both d (d + k) m n one.memory (omega arith) keeps one.keeps) one.noted (omega arith) one.ends in
      record {
        memory = rest.memory;
        keeps = keeps_both (d + k) (d + suc k) n one.memory rest.memory (omega arith) one.keeps rest.keeps;
        noted = rest.noted;
        ahead = one.ahead ∙ rest.ahead;
        seated = λ j. elim j as (λ j. (i : ℕ) (u : FunctionWord) → slice_get (s ∷ seats) j ≡ Some u → i ≡ k + j
            → IsSeated i u rest.memory) [
              | zero ↦ λ i u at is. (let here : k ≡ i = omega arith in
                  subst (λ i. IsSeated i u rest.memory) here (subst (λ u. IsSeated k u rest.memory) (some_is at)
                  (still_seated k s one.memory rest.memory rest.keeps one.seated)))
              | suc j ↦ λ i u at is. rest.seated j i u at (omega arith)
            ];
        ends = rest.ends;
      }
