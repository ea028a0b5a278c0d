-- Members of instances, one after another.
use Rattle.std.proofs.Common.{◌≡◌, ◌∙◌, ℕ, zero, suc, List, [], ◌∷◌, ◌++◌, length, get_or, drop, map, refl, ap, sym}
use Rattle.std.proofs.Common.{subst, arith, ◌+◌, ◌<◌, ◌≤◌}
use Rattle.std.specs.Prelude.{Option, Some, slice_get}
use Rattle.st_types.specs.declared.kind.Kind.{Kind}
use Rattle.st_meaning.specs.StandardBlocks.{BlockMember}
use Rattle.slot_trees.specs.declared.statement.SlotArgument as code_argument
use Rattle.slot_trees.specs.StatementViews.{slot_argument_view}
use Rattle.slot_trees.specs.SlotTrees.{Anchor, BlockCode, Place, SlotArgument, SlotExpr, SlotLibrary}
use Rattle.slot_trees.specs.SlotTrees.{copied, given, no_subscripts, place}
use Rattle.slot_trees.specs.SlotEvaluation.{slot_at}
use Rattle.quick_trees.specs.declared.noting.Noting.{Noting}
use Rattle.quick_trees.specs.Calls.{AreMembers, IsBlockCode, quick_units}
use Rattle.quick_trees.specs.Notes.{NotesChange, NoteChanges}
use Rattle.quick_trees.specs.Pieces.{AreElsewhere, Input}
use Rattle.quick_trees.specs.Points.{AreNoted, Point}
use Rattle.quick_trees.specs.QuickMemory.{Frame}
use Rattle.quick_trees.specs.UnitValues.{UnitValues, base_of}
use Rattle.quick_trees.specs.TreeCode.{InputsGiven, InputsRead, IsCopied, IsGiven, IsReadOrMoved}
use Rattle.quick_trees.specs.TreeCode.{OutputsCopied, QuickUnits}
use Rattle.quick_checks.specs.declared.members.Taken.{Taken}
use Rattle.quick_checks.specs.Checking.{input_taken, inputs_taken}
use Rattle.quick_checks.specs.Members.{IsMember}

one_further : (k j : ℕ) → suc k + j ≡ k + suc j
one_further k j = omega arith

at_first : (k : ℕ) → k + 0 ≡ k
at_first k = omega arith

-- the types of slots and their words make them the members of a block
pub members_stand : (f : Frame) (ms : List BlockMember) (k w : ℕ)
    → ((j : ℕ) (t : Kind) → slice_get (map (λ (x : BlockMember). x.1) ms) j ≡ Some t
    → IsMember f (k + j) (w + j) t) → AreMembers f ms k w
members_stand f [] k w h = tt
members_stand f (x ∷ ms) k w h =
    let one : IsMember f k w x.1 =
    subst (λ i. IsMember f i w x.1) (at_first k) (subst (λ v. IsMember f (k + 0) v x.1) (at_first w) (h 0 x.1 refl))
    in (
      one.of_type,
      (
        one.has,
        members_stand f ms (suc k) (suc w) (λ j t e.
            subst (λ i. IsMember f i (suc w + j) t) (sym (one_further k j))
            (subst (λ v. IsMember f (k + suc j) v t) (sym (one_further w j)) (h (suc j) t e))),
      ),
    )

pub change_begins : (change : Noting → Option Noting) (first count : ℕ) (start : List Noting) (k n : ℕ)
    (after : List Noting) → k ≡ first + 0 → n + 0 ≡ count → NotesChange change k n start after
    → NotesChange change first count start after
change_begins change first count start k n after a b h =
    let from : k ≡ first = omega arith in
    let many : n ≡ count = omega arith in
    subst (λ m. NotesChange change first m start after) many (subst (λ m. NotesChange change m n start after) from h)

pub change_more : (change : Noting → Option Noting) (first count index slot : ℕ) (start old new : List Noting)
    → slot ≡ first + index → NoteChanges change slot old new
    → ((k n : ℕ) (after : List Noting) → k ≡ first + index → n + index ≡ count → NotesChange change k n old after
    → NotesChange change first count start after)
    → (k n : ℕ) (after : List Noting) → k ≡ first + (index + 1) → n + (index + 1) ≡ count
    → NotesChange change k n new after → NotesChange change first count start after
change_more change first count index slot start old new is one before k n after from many h =
    let e : k ≡ suc slot = omega arith in
    before slot (suc n) after is (omega arith) (new, (one, subst (λ m. NotesChange change m n new after) e h))

pub changed_all : (change : Noting → Option Noting) (first count index : ℕ) (start old : List Noting)
    → index ≡ count
    → ((k n : ℕ) (after : List Noting) → k ≡ first + index → n + index ≡ count → NotesChange change k n old after
    → NotesChange change first count start after)
    → NotesChange change first count start old
changed_all change first count index start old e before = before (first + index) 0 old refl (omega arith) refl

elsewhere : (xs : List Taken) (k : ℕ) → ((m : ℕ) (i : Taken) → slice_get xs m ≡ Some i → i.word ≡ k → ⊥)
    → AreElsewhere k (inputs_taken xs)
elsewhere [] k h = tt
elsewhere (x ∷ xs) k h = (h 0 x refl, elsewhere xs k (λ m i e. h (suc m) i e))

taken_more : (ts : List Taken) (t : Taken) (js : List Input)
    → inputs_taken (ts ++ t ∷ []) ++ js ≡ inputs_taken ts ++ (input_taken t ∷ js)
taken_more [] t js = refl
taken_more (x ∷ ts) t js = ap (λ is. input_taken x ∷ is) (taken_more ts t js)

module _ (f : Frame) (s : UnitValues) (units : QuickUnits) where
  pub given_next : (at : ℕ) (xs : List Taken) (k j : ℕ) (x : Taken) (slot to : ℕ) (p r q : Point) → j ≡ k + 1
      → slice_get xs k ≡ Some x → slot ≡ at + x.member → IsGiven f s units slot x.kind x.word to p r
      → ((m : ℕ) → j ≤ m → (i : Taken) → slice_get xs m ≡ Some i → i.word ≡ to → ⊥)
      → InputsGiven f s units at (inputs_taken (drop j xs)) r q
      → InputsGiven f s units at (inputs_taken (drop k xs)) p q
  given_next at [] k j x slot to p r q n e is one other rest = absurd (cc)
  given_next at (y ∷ ys) zero j x slot to p r q n e is one other rest =
      let same : x ≡ y = cc in
      let first : j ≡ 1 = omega arith in
      let apart = elsewhere ys to (λ (m : ℕ) (i : Taken). other (suc m) (omega arith) i) in
      subst (λ (z : Taken). InputsGiven f s units at (input_taken z ∷ inputs_taken ys) p q) same (
        to,
        (
          apart,
          record {
            middle = r;
            first = subst (λ k. IsGiven f s units k x.kind x.word to p r) is one;
            second = rw first at rest;
          },
        ),
      )
  given_next at (y ∷ ys) (suc k) j x slot to p r q n e is one other rest =
      let more : j ≡ suc (k + 1) = omega arith in
      given_next at ys k (k + 1) x slot to p r q refl e is one (λ m le i. other (suc m) (omega arith) i)
      (rw more at rest)

  pub given_over : (at : ℕ) (xs : List Taken) (k : ℕ) (p : Point) → length xs ≤ k
      → InputsGiven f s units at (inputs_taken (drop k xs)) p p
  given_over at [] zero p le = refl
  given_over at [] (suc k) p le = refl
  given_over at (y ∷ ys) zero p le = absurd (omega arith)
  given_over at (y ∷ ys) (suc k) p le = given_over at ys k p (omega arith)

  pub copied_next : (at : ℕ) (x : SlotArgument) (o : ℕ) (a : Anchor) (from to : ℕ) (rest : List SlotArgument)
      (p m r q : Point) → x ≡ copied o (place a no_subscripts) → from ≡ at + o → to ≡ slot_at (base_of s) a
      → AreNoted f p m → IsCopied f s units from to m r → OutputsCopied f s units at rest r q
      → OutputsCopied f s units at (x ∷ rest) p q
  copied_next at x o a from to rest p m r q is from_is to_is notes one more =
      subst (λ (z : SlotArgument). OutputsCopied f s units at (z ∷ rest) p q) (sym is) (record {
        middle = m;
        first = notes;
        second = record {
          middle = r;
          first = subst (λ k. IsCopied f s units k (slot_at (base_of s) a) m r) from_is
              (subst (λ j. IsCopied f s units from j m r) to_is one);
          second = more;
        };
      })

  pub given_read : (x : SlotArgument) (o : ℕ) (e : SlotExpr) (d c : ℕ) (old new : List Taken) (t : Taken)
      (rest : List SlotArgument) (js : List Input) (p r q : Point) → x ≡ given o e → t.member ≡ o
      → new ≡ old ++ t ∷ [] → c ≡ suc d → IsReadOrMoved f s units e t.kind d t.word p r
      → InputsRead f s units rest c js r q
      → (is : List Input) × ((inputs_taken new ++ js ≡ inputs_taken old ++ is)
      × InputsRead f s units (x ∷ rest) d is p q)
  given_read x o e d c old new t rest js p r q is member n below reads more = (
    input_taken t ∷ js,
    (
      rw n (taken_more old t js),
      subst (λ (z : SlotArgument). InputsRead f s units (z ∷ rest) d (input_taken t ∷ js) p q) (sym is) (
        member,
        record {
          middle = r;
          first = reads;
          second = subst (λ k. InputsRead f s units rest k js r q) below more;
        },
      ),
    ),
  )

  pub copied_read : (x : SlotArgument) (o : ℕ) (y : Place) (d : ℕ) (old : List Taken) (rest : List SlotArgument)
      (js : List Input) (p q : Point) → x ≡ copied o y → InputsRead f s units rest d js p q
      → (is : List Input) × ((inputs_taken old ++ js ≡ inputs_taken old ++ is)
      × InputsRead f s units (x ∷ rest) d is p q)
  copied_read x o y d old rest js p q is more =
      (js, (refl, subst (λ (z : SlotArgument). InputsRead f s units (z ∷ rest) d js p q) (sym is) more))

-- facts known of a block one call deeper
pub block_stands : (f : Frame) (library : SlotLibrary) (n m : ℕ) (code : BlockCode) (at d : ℕ) (p q : Point)
    → suc m ≡ n → IsBlockCode f library (quick_units f library m) code at d p q
    → (quick_units f library n).blocks code at d p q
unfolding quick_units
block_stands f library n m code at d p q e h = subst (λ k. (quick_units f library k).blocks code at d p q) e h

pub all_inputs : (is : List Input) → is ++ [] ≡ is
all_inputs [] = refl
all_inputs (i ∷ is) = ap (λ js. i ∷ js) (all_inputs is)

-- arguments from an index on
pub argument_next : (xs : List code_argument.SlotArgument) (k j : ℕ) (x : code_argument.SlotArgument)
    → k < length xs → j ≡ k + 1 → x ≡ get_or xs k x
    → map slot_argument_view (drop k xs) ≡ slot_argument_view x ∷ map slot_argument_view (drop j xs)
argument_next [] k j x lt n is = absurd (omega arith)
argument_next (y ∷ ys) zero j x lt n is =
    let one : j ≡ 1 = omega arith in
    rw (one, is) refl
argument_next (y ∷ ys) (suc k) j x lt n is =
    let more : j ≡ suc (k + 1) = omega arith in
    argument_next ys k (k + 1) x (omega arith) refl is
    ∙ ap (λ i. slot_argument_view x ∷ map slot_argument_view (drop i (y ∷ ys))) (sym more)

pub arguments_over : (xs : List code_argument.SlotArgument) (k : ℕ) → length xs ≤ k
    → map slot_argument_view (drop k xs) ≡ []
arguments_over [] zero le = refl
arguments_over [] (suc k) le = refl
arguments_over (y ∷ ys) zero le = absurd (omega arith)
arguments_over (y ∷ ys) (suc k) le = arguments_over ys k (omega arith)
