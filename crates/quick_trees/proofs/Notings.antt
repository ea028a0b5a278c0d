-- A fact known of a slot's note stays true when a look or an assignment is noted, or done.
use Rattle.std.proofs.Common.{◌≡◌, ◌≢◌, ℕ, zero, suc, ◌<◌, ◌≤◌, ◌==◌, Bool, true, false, List, length}
use Rattle.std.proofs.Common.{Some, None, Option, refl, sym, ap, ◌∙◌, subst, arith}
use Rattle.std.specs.Prelude.{slice_get, slice_set}
use Rattle.std.proofs.lemmas.Bool.Decides.{nat_tests}
use Rattle.machine_code.specs.declared.mark.Mark.{Mark}
use Rattle.machine_code.specs.Tracking.{assigned, marked, seen, with_mark}
use Rattle.quick_code.specs.QuickSteps.{noted_read, noted_written, or_none}
use Rattle.quick_trees.specs.declared.noting.Noting.{Noting}
use Rattle.quick_trees.specs.declared.noting.Noting.TheVariants.{Exact, LookAhead, AssignmentAhead, BothAhead}
use Rattle.quick_trees.specs.declared.noting.Noting.TheVariants.{Looked, LookedAssignmentAhead, Assigned}
use Rattle.quick_trees.specs.Notes.{AreTrueOf, NoteChanges, IsTouched, IsTrueOf, Implies, at_assignment, at_look, note_of}
use Rattle.quick_trees.specs.Notes.{implies, with_assignment_ahead, with_look_ahead}
use Rattle.quick_trees.proofs.Lists.{beyond, set_elsewhere, set_here, set_long, set_same, some_is}
use Rattle.quick_trees.proofs.Lists.{there_within, within_there}
use Rattle.quick_trees.proofs.Slots.{one_word}
use Rattle.quick_trees.specs.Windows.{IsWindow}

abbrev mark_at : Bool → Bool → Mark
mark_at r a = record { is_read = r; is_assigned = a }

-- a slot that was touched is marked no further by a look
touched_seen : (r a : Bool) → IsTouched (mark_at r a) → mark_at r a ≡ seen (mark_at r a)
touched_seen true true h = refl
touched_seen true false h = refl
touched_seen false true h = refl
touched_seen false false h = absurd cc

same_seen : (x : Mark) → IsTouched x → x ≡ seen x
same_seen x h = touched_seen x.is_read x.is_assigned h

-- nor one that was assigned by an assignment
set_assigned : (r a : Bool) → a ≡ true → mark_at r a ≡ assigned (mark_at r a)
set_assigned r true h = refl
set_assigned r false h = absurd cc

same_assigned : (x : Mark) → x.is_assigned ≡ true → x ≡ assigned x
same_assigned x h = set_assigned x.is_read x.is_assigned h

is_touched : (r a : Bool) → a ≡ true → IsTouched (mark_at r a)
is_touched true a h = refl
is_touched false a h = h

assigned_touched : (x : Mark) → x.is_assigned ≡ true → IsTouched x
assigned_touched x h = is_touched x.is_read x.is_assigned h

seen_is_touched : (r a : Bool) → IsTouched (seen (mark_at r a))
seen_is_touched true a = refl
seen_is_touched false true = refl
seen_is_touched false false = refl

read_note : (r a : Bool) → noted_read (note_of (mark_at r a)) ≡ note_of (seen (mark_at r a))
read_note true true = refl
read_note true false = refl
read_note false true = refl
read_note false false = refl

written_note : (r a : Bool) → noted_written (note_of (mark_at r a)) ≡ note_of (assigned (mark_at r a))
written_note true true = refl
written_note true false = refl
written_note false true = refl
written_note false false = refl

-- the program looks a slot up, or assigns it
true_at_look : (n n' : Noting) (x : Mark) (i : ℕ) → at_look n ≡ Some n' → IsTrueOf n x i → IsTrueOf n' (seen x) i
true_at_look Exact n' x i e h = absurd cc
true_at_look LookAhead n' x i e h =
    subst (λ n. IsTrueOf n (seen x) i) (some_is e) (h, seen_is_touched x.is_read x.is_assigned)
true_at_look AssignmentAhead n' x i e h = absurd cc
true_at_look BothAhead n' x i e h =
    subst (λ n. IsTrueOf n (seen x) i) (some_is e) (h, seen_is_touched x.is_read x.is_assigned)
true_at_look Looked n' x i e h =
    subst (λ n. IsTrueOf n (seen x) i) (some_is e) (subst (λ y. IsTrueOf Looked y i) (same_seen x h.1) h)
true_at_look LookedAssignmentAhead n' x i e h =
    subst (λ n. IsTrueOf n (seen x) i) (some_is e) (subst (λ y. IsTrueOf LookedAssignmentAhead y i) (same_seen x h.1) h)
true_at_look Assigned n' x i e h =
    subst (λ n. IsTrueOf n (seen x) i) (some_is e)
    (subst (λ y. IsTrueOf Assigned y i) (same_seen x (assigned_touched x h.1)) h)

true_at_assignment : (n n' : Noting) (x : Mark) (i : ℕ) → at_assignment n ≡ Some n' → IsTrueOf n x i
    → IsTrueOf n' (assigned x) i
true_at_assignment Exact n' x i e h = absurd cc
true_at_assignment LookAhead n' x i e h = absurd cc
true_at_assignment AssignmentAhead n' x i e h = subst (λ n. IsTrueOf n (assigned x) i) (some_is e) (h, refl)
true_at_assignment BothAhead n' x i e h = absurd cc
true_at_assignment Looked n' x i e h = absurd cc
true_at_assignment LookedAssignmentAhead n' x i e h =
    subst (λ n. IsTrueOf n (assigned x) i) (some_is e) (h.0, refl)
true_at_assignment Assigned n' x i e h =
    subst (λ n. IsTrueOf n (assigned x) i) (some_is e) (subst (λ y. IsTrueOf Assigned y i) (same_assigned x h.1) h)

-- an instruction notes it
true_with_look : (n n' : Noting) (x : Mark) (i : ℕ) → with_look_ahead n ≡ Some n' → IsTrueOf n x i
    → IsTrueOf n' x (noted_read i)
true_with_look Exact n' x i e h =
    subst (λ n. IsTrueOf n x (noted_read i)) (some_is e) (ap noted_read h ∙ read_note x.is_read x.is_assigned)
true_with_look LookAhead n' x i e h = absurd cc
true_with_look AssignmentAhead n' x i e h = absurd cc
true_with_look BothAhead n' x i e h = absurd cc
true_with_look Looked n' x i e h = absurd cc
true_with_look LookedAssignmentAhead n' x i e h = absurd cc
true_with_look Assigned n' x i e h = absurd cc

note_written : (x : Mark) (i : ℕ) → i ≡ note_of x → noted_written i ≡ note_of (assigned x)
note_written x i h = ap noted_written h ∙ written_note x.is_read x.is_assigned

true_with_assignment : (n n' : Noting) (x : Mark) (i : ℕ) → with_assignment_ahead n ≡ Some n' → IsTrueOf n x i
    → IsTrueOf n' x (noted_written i)
true_with_assignment Exact n' x i e h =
    subst (λ n. IsTrueOf n x (noted_written i)) (some_is e) (note_written x i h)
true_with_assignment LookAhead n' x i e h =
    subst (λ n. IsTrueOf n x (noted_written i)) (some_is e) (note_written (seen x) i h)
true_with_assignment AssignmentAhead n' x i e h = absurd cc
true_with_assignment BothAhead n' x i e h = absurd cc
true_with_assignment Looked n' x i e h =
    subst (λ n. IsTrueOf n x (noted_written i)) (some_is e) (note_written x i h.0, h.1)
true_with_assignment LookedAssignmentAhead n' x i e h = absurd cc
true_with_assignment Assigned n' x i e h = absurd cc

-- a known fact implies the rest
told : (n n' : Noting) (x : Mark) (i : ℕ) → implies n n' ≡ true → IsTrueOf n x i → IsTrueOf n' x i
told Exact Exact x i e h = h
told LookAhead LookAhead x i e h = h
told AssignmentAhead AssignmentAhead x i e h = h
told BothAhead BothAhead x i e h = h
told Looked Exact x i e h = h.0
told Looked LookAhead x i e h = h.0 ∙ ap note_of (same_seen x h.1)
told Looked Looked x i e h = h
told LookedAssignmentAhead AssignmentAhead x i e h = h.0
told LookedAssignmentAhead BothAhead x i e h = h.0 ∙ ap (λ y. note_of (assigned y)) (same_seen x h.1)
told LookedAssignmentAhead LookedAssignmentAhead x i e h = h
told Assigned Exact x i e h = h.0
told Assigned LookAhead x i e h = h.0 ∙ ap note_of (same_seen x (assigned_touched x h.1))
told Assigned AssignmentAhead x i e h = h.0 ∙ ap note_of (same_assigned x h.1)
told Assigned BothAhead x i e h =
    h.0 ∙ ap note_of (same_assigned x h.1) ∙ ap (λ y. note_of (assigned y)) (same_seen x (assigned_touched x h.1))
told Assigned Looked x i e h = (h.0, assigned_touched x h.1)
told Assigned LookedAssignmentAhead x i e h = (h.0 ∙ ap note_of (same_assigned x h.1), assigned_touched x h.1)
told Assigned Assigned x i e h = h
told _ _ x i e h = absurd cc

module _ (g : Mark → Mark) (marks : List Mark) (k : ℕ) where
  -- A mark of the changed ones is one that was changed.
  record WasMarked (y : Mark) : Type 0 where
    mark : Mark
    there : slice_get marks k ≡ Some mark
    is : g mark ≡ y

  by_mark : (o : Option Mark) (y : Mark) → slice_get marks k ≡ o → slice_get (marked g marks k o) k ≡ Some y
      → WasMarked y
  by_mark (Some x) y at e = record {
    mark = x;
    there = at;
    is = some_is (sym (set_here marks k (g x) (there_within marks k x at)) ∙ e);
  }
  by_mark None y at e = absurd cc

  was_marked : (y : Mark) → slice_get (with_mark g marks k) k ≡ Some y → WasMarked y
  was_marked y e = by_mark (slice_get marks k) y refl e

  by_other : (o : Option Mark) (j : ℕ) → (j ≡ k → ⊥) → slice_get (marked g marks k o) j ≡ slice_get marks j
  by_other (Some x) j apart = set_elsewhere marks j k (g x) apart
  by_other None j apart = refl

  pub other_mark : (j : ℕ) → (j ≡ k → ⊥) → slice_get (with_mark g marks k) j ≡ slice_get marks j
  other_mark j apart = by_other (slice_get marks k) j apart

-- Known facts stay true after changes at one word alone, if they are true of its note and its slot's mark.
changed : (window : List ℕ) (w : ℕ) (ns ns' : List Noting) (marks marks' : List Mark) (notes notes' : List ℕ)
    → ((u : ℕ) → (u ≡ w → ⊥) → slice_get ns' u ≡ slice_get ns u)
    → ((u j : ℕ) → (u ≡ w → ⊥) → slice_get window u ≡ Some j → slice_get marks' j ≡ slice_get marks j)
    → ((u : ℕ) → (u ≡ w → ⊥) → slice_get notes' u ≡ slice_get notes u)
    → ((k : ℕ) (n : Noting) (x : Mark) → slice_get window w ≡ Some k → slice_get ns' w ≡ Some n
    → slice_get marks' k ≡ Some x → IsTrueOf n x (or_none (slice_get notes' w)))
    → AreTrueOf window ns marks notes → AreTrueOf window ns' marks' notes'
changed window w ns ns' marks marks' notes notes' same_ns same_marks same_notes here are =
    record { each = λ u k n x slot at mark. by_word u k n x slot at mark (u == w) refl }
  where
    by_word : (u k : ℕ) (n : Noting) (x : Mark) → slice_get window u ≡ Some k → slice_get ns' u ≡ Some n
        → slice_get marks' k ≡ Some x → (p : Bool) → (u == w) ≡ p → IsTrueOf n x (or_none (slice_get notes' u))
    by_word u k n x slot at mark true e =
        let is : u ≡ w = grind (arith, nat_tests) in
        subst (λ i. IsTrueOf n x (or_none (slice_get notes' i))) (sym is)
        (here k n x (ap (slice_get window) (sym is) ∙ slot) (ap (slice_get ns') (sym is) ∙ at) mark)
    by_word u k n x slot at mark false e =
        let apart : u ≢ w = λ is. grind (arith, nat_tests) in
        subst (λ o. IsTrueOf n x (or_none o)) (sym (same_notes u apart))
        (are.each u k n x slot (sym (same_ns u apart) ∙ at) (sym (same_marks u k apart slot) ∙ mark))

module _ (window : List ℕ) (ns : List Noting) (marks : List Mark) (notes : List ℕ)
    (are : AreTrueOf window ns marks notes) (w : ℕ) where
  -- the fact known of a word that changes so
  new_at : (change : Noting → Option Noting) (ns' : List Noting) (c : NoteChanges change w ns ns') (n : Noting)
      → slice_get ns' w ≡ Some n → change c.old ≡ Some n
  new_at change ns' c n at =
      c.is
      ∙ sym (set_here ns w c.new (there_within ns w c.old c.there))
      ∙ ap (λ l. slice_get l w) (sym c.rest)
      ∙ at

  others : (change : Noting → Option Noting) (ns' : List Noting) (c : NoteChanges change w ns ns') (u : ℕ) → (u ≡ w → ⊥)
      → slice_get ns' u ≡ slice_get ns u
  others change ns' c u apart = ap (λ l. slice_get l u) c.rest ∙ set_elsewhere ns u w c.new apart

  -- the program does something at the slot of the word
  module _ (count : ℕ) (is_window : IsWindow count window) (k : ℕ) (slot : slice_get window w ≡ Some k) where
    other_marks : (g : Mark → Mark) (u j : ℕ) → (u ≡ w → ⊥) → slice_get window u ≡ Some j
        → slice_get (with_mark g marks k) j ≡ slice_get marks j
    other_marks g u j apart at =
        other_mark g marks k j (λ is. apart (one_word count window is_window u w j at
        (slot ∙ ap (λ k. Some k) (sym is))))

    touched : (change : Noting → Option Noting) (g : Mark → Mark) (ns' : List Noting)
        → ((n n' : Noting) (x : Mark) (i : ℕ) → change n ≡ Some n' → IsTrueOf n x i → IsTrueOf n' (g x) i)
        → NoteChanges change w ns ns' → AreTrueOf window ns' (with_mark g marks k) notes
    touched change g ns' keeps c =
        changed window w ns ns' marks (with_mark g marks k) notes notes (others change ns' c) (other_marks g)
        (λ u apart. refl) here are
      where
        here : (j : ℕ) (n : Noting) (x : Mark) → slice_get window w ≡ Some j → slice_get ns' w ≡ Some n
            → slice_get (with_mark g marks k) j ≡ Some x → IsTrueOf n x (or_none (slice_get notes w))
        here j n x slot' at mark =
            let same : j ≡ k = some_is (sym slot' ∙ slot) in
            let was = was_marked g marks k x (ap (slice_get (with_mark g marks k)) (sym same) ∙ mark) in
            subst (λ y. IsTrueOf n y (or_none (slice_get notes w))) was.is
            (keeps c.old n was.mark (or_none (slice_get notes w)) (new_at change ns' c n at)
            (are.each w k c.old was.mark slot c.there was.there))

    pub looked_up : (ns' : List Noting) → NoteChanges at_look w ns ns'
        → AreTrueOf window ns' (with_mark seen marks k) notes
    looked_up ns' c = touched at_look seen ns' true_at_look c

    pub assigned_to : (ns' : List Noting) → NoteChanges at_assignment w ns ns'
        → AreTrueOf window ns' (with_mark assigned marks k) notes
    assigned_to ns' c = touched at_assignment assigned ns' true_at_assignment c

  -- the notes with one changed
  abbrev noted_by : (ℕ → ℕ) → List ℕ
  noted_by g = slice_set notes w (g (or_none (slice_get notes w)))

  now_noted : (g : ℕ → ℕ) → w < length notes → or_none (slice_get (noted_by g) w) ≡ g (or_none (slice_get notes w))
  now_noted g lt = ap or_none (set_here notes w (g (or_none (slice_get notes w))) lt)

  -- an instruction notes something of the word
  noted_ahead : (change : Noting → Option Noting) (g : ℕ → ℕ) (ns' : List Noting)
      → ((n n' : Noting) (x : Mark) (i : ℕ) → change n ≡ Some n' → IsTrueOf n x i → IsTrueOf n' x (g i))
      → w < length notes → NoteChanges change w ns ns' → AreTrueOf window ns' marks (noted_by g)
  noted_ahead change g ns' keeps lt c =
      changed window w ns ns' marks marks notes (noted_by g) (others change ns' c) (λ u j apart at. refl)
      (λ u apart. set_elsewhere notes u w (g (or_none (slice_get notes w))) apart) here are
    where
      here : (k : ℕ) (n : Noting) (x : Mark) → slice_get window w ≡ Some k → slice_get ns' w ≡ Some n
          → slice_get marks k ≡ Some x → IsTrueOf n x (or_none (slice_get (noted_by g) w))
      here k n x slot at mark =
          subst (IsTrueOf n x) (sym (now_noted g lt))
          (keeps c.old n x (or_none (slice_get notes w)) (new_at change ns' c n at)
          (are.each w k c.old x slot c.there mark))

  pub look_noted : (ns' : List Noting) → w < length notes → NoteChanges with_look_ahead w ns ns'
      → AreTrueOf window ns' marks (noted_by noted_read)
  look_noted ns' lt c = noted_ahead with_look_ahead noted_read ns' true_with_look lt c

  pub assignment_noted : (ns' : List Noting) → w < length notes → NoteChanges with_assignment_ahead w ns ns'
      → AreTrueOf window ns' marks (noted_by noted_written)
  assignment_noted ns' lt c = noted_ahead with_assignment_ahead noted_written ns' true_with_assignment lt c

  -- an instruction does something at the slot of the word, and notes it
  module _ (count : ℕ) (is_window : IsWindow count window) (k : ℕ) (slot : slice_get window w ≡ Some k) where
    noted_and_done : (g : ℕ → ℕ) (h : Mark → Mark) → ((x : Mark) → g (note_of x) ≡ note_of (h x)) → w < length notes
        → slice_get ns w ≡ Some Exact → AreTrueOf window ns (with_mark h marks k) (noted_by g)
    noted_and_done g h same lt exact =
        changed window w ns ns marks (with_mark h marks k) notes (noted_by g) (λ u apart. refl)
        (other_marks count is_window k slot h)
        (λ u apart. set_elsewhere notes u w (g (or_none (slice_get notes w))) apart) here are
      where
        here : (j : ℕ) (n : Noting) (x : Mark) → slice_get window w ≡ Some j → slice_get ns w ≡ Some n
            → slice_get (with_mark h marks k) j ≡ Some x → IsTrueOf n x (or_none (slice_get (noted_by g) w))
        here j n x slot' at mark =
            let is : j ≡ k = some_is (sym slot' ∙ slot) in
            let was = was_marked h marks k x (ap (slice_get (with_mark h marks k)) (sym is) ∙ mark) in
            subst (λ n. IsTrueOf n x (or_none (slice_get (noted_by g) w))) (some_is (sym exact ∙ at))
            (now_noted g lt ∙ ap g (are.each w k Exact was.mark slot exact was.there) ∙ same was.mark
            ∙ ap note_of was.is)

    pub looked_by : w < length notes → slice_get ns w ≡ Some Exact
        → AreTrueOf window ns (with_mark seen marks k) (noted_by noted_read)
    looked_by lt exact = noted_and_done noted_read seen (λ x. read_note x.is_read x.is_assigned) lt exact

    pub assigned_by : w < length notes → slice_get ns w ≡ Some Exact
        → AreTrueOf window ns (with_mark assigned marks k) (noted_by noted_written)
    assigned_by lt exact = noted_and_done noted_written assigned (λ x. written_note x.is_read x.is_assigned) lt exact

  -- nothing is known of words that aren't slots
  pub noted_beyond : (g : ℕ → ℕ) → length ns ≤ w → AreTrueOf window ns marks (noted_by g)
  noted_beyond g le =
      changed window w ns ns marks marks notes (noted_by g) (λ u apart. refl) (λ u j apart at. refl)
      (λ u apart. set_elsewhere notes u w (g (or_none (slice_get notes w))) apart)
      (λ k n x slot at mark. absurd (none (sym (beyond ns w le) ∙ at))) are
    where
      none : {n : Noting} → None ≡ Some n → ⊥
      none e = cc

pub told_all : (window : List ℕ) (ns ns' : List Noting) (marks : List Mark) (notes : List ℕ) → Implies ns ns'
    → AreTrueOf window ns marks notes → AreTrueOf window ns' marks notes
told_all window ns ns' marks notes tell are = record {
  each = λ w k n x slot at mark. (let m = tell.each w n at in
      told m.0 n x (or_none (slice_get notes w)) m.1.1 (are.each w k m.0 x slot m.1.0 mark));
}

-- no more is known of the notes than before
shorter : (n : ℕ) (ns ns' : List Noting) → length ns' ≡ n → Implies ns ns' → length ns' ≤ length ns
shorter zero ns ns' e tell = omega arith
shorter (suc n) ns ns' e tell =
    let last = within_there ns' n (omega arith) in
    let there = tell.each n last.0 last.1 in
    let lt = there_within ns n there.0 there.1.0 in
    omega arith

pub told_few : (ns ns' : List Noting) → Implies ns ns' → length ns' ≤ length ns
told_few ns ns' tell = shorter (length ns') ns ns' refl tell

pub changed_few : (change : Noting → Option Noting) (k : ℕ) (ns ns' : List Noting) → NoteChanges change k ns ns'
    → length ns' ≡ length ns
changed_few change k ns ns' c = ap length c.rest ∙ set_long ns k c.new

-- a variable that was assigned may be looked up and assigned, and no more is known
pub stays_assigned : (change : Noting → Option Noting) (k : ℕ) (ns : List Noting) → change Assigned ≡ Some Assigned
    → slice_get ns k ≡ Some Assigned → NoteChanges change k ns ns
stays_assigned change k ns e at =
    record { old = Assigned; there = at; new = Assigned; is = e; rest = set_same ns k Assigned at }

-- after an assignment it is known
result_assigned : (n n' : Noting) → at_assignment n ≡ Some n' → n' ≡ Assigned
result_assigned Exact n' e = absurd cc
result_assigned LookAhead n' e = absurd cc
result_assigned AssignmentAhead n' e = sym (some_is e)
result_assigned BothAhead n' e = absurd cc
result_assigned Looked n' e = absurd cc
result_assigned LookedAssignmentAhead n' e = sym (some_is e)
result_assigned Assigned n' e = sym (some_is e)

pub is_assigned_then : (k : ℕ) (ns ns' : List Noting) → NoteChanges at_assignment k ns ns' → slice_get ns' k ≡ Some Assigned
is_assigned_then k ns ns' c =
    ap (λ l. slice_get l k) c.rest
    ∙ set_here ns k c.new (there_within ns k c.old c.there)
    ∙ ap (λ n. Some n) (result_assigned c.old c.new c.is)

-- only `Assigned` implies `Assigned`
assigned_told : (n : Noting) → implies n Assigned ≡ true → n ≡ Assigned
assigned_told Exact e = absurd cc
assigned_told LookAhead e = absurd cc
assigned_told AssignmentAhead e = absurd cc
assigned_told BothAhead e = absurd cc
assigned_told Looked e = absurd cc
assigned_told LookedAssignmentAhead e = absurd cc
assigned_told Assigned e = refl
