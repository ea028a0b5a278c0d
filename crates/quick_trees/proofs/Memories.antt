-- Words, and the values that they are, after one is assigned, looked up or noted.
use Rattle.std.proofs.Common.{◌≡◌, ◌≢◌, ℕ, ◌+◌, ◌<◌, ◌≤◌, ◌==◌, Bool, true, false, List, length, ℤ}
use Rattle.std.proofs.Common.{Some, refl, sym, ap, ap₂, ◌∙◌, subst, arith, inl, inr, Option}
use Rattle.std.specs.Prelude.{◌⊎◌, slice_get, slice_set}
use Rattle.std.proofs.lemmas.Bool.Decides.{nat_tests}
use Rattle.st_types.specs.declared.kind.Kind.{Kind}
use Rattle.st_types.specs.Values.{Datum, IsHeld}
use Rattle.st_types.specs.Words.{datum_at}
use Rattle.machine_code.specs.declared.mark.Mark.{Mark}
use Rattle.machine_code.specs.Tracking.{Tracked, seen, with_mark, assigned_slot}
use Rattle.quick_code.specs.QuickSteps.{Memory, look, note, noted_read, noted_written, or_none, with_word}
use Rattle.quick_code.specs.Words.{or_zero, word_at}
use Rattle.quick_trees.specs.declared.noting.Noting.{Noting}
use Rattle.quick_trees.specs.declared.noting.Noting.TheVariants.{Exact}
use Rattle.quick_trees.specs.Notes.{AreTrueOf, NoteChanges, Implies, at_assignment, at_look, with_assignment_ahead}
use Rattle.quick_trees.specs.Notes.{with_look_ahead}
use Rattle.quick_trees.specs.QuickMemory.{Frame, IsRoom, first_temporary}
use Rattle.quick_trees.specs.UnitValues.{HasOwnWord, HasWord, IsExact, IsValueAt, UnitValues, Touches, called}
use Rattle.quick_trees.specs.UnitValues.{kinds_of, whole}
use Rattle.quick_trees.specs.TreeCode.{IsAssignedAt}
use Rattle.quick_trees.proofs.Lists.{set_elsewhere, set_here, set_long, some_is, there_within}
use Rattle.quick_trees.proofs.Notings.{assigned_by, assigned_to, assignment_noted, changed_few, is_assigned_then}
use Rattle.quick_trees.proofs.Notings.{look_noted, looked_by, looked_up, noted_beyond, stays_assigned, told_all}
use Rattle.quick_trees.proofs.Notings.{told_few}
use Rattle.quick_trees.proofs.Outside.{stays_looked, stays_written}
use Rattle.quick_trees.proofs.Slots.{one_word}
use Rattle.quick_trees.specs.Windows.{IsWindow, StaysOutside}
use Rattle.machine_code.specs.Tracking.{assigned}

-- Below a depth no word was changed.
pub record Keeps (d : ℕ) (m m' : Memory) : Type 0 where
  pub long : length m'.words ≡ length m.words
  pub same : (k : ℕ) → k < d → slice_get m'.words k ≡ slice_get m.words k

pub keeps_all : (d : ℕ) (m : Memory) → Keeps d m m
keeps_all d m = record { long = refl; same = λ k lt. refl }

pub keeps_both : (d c : ℕ) (m m' n : Memory) → d ≤ c → Keeps d m m' → Keeps c m' n → Keeps d m n
keeps_both d c m m' n le g h = record {
  long = h.long ∙ g.long;
  same = λ k lt. h.same k (omega arith) ∙ g.same k lt;
}

pub keeps_less : (d c : ℕ) (m m' : Memory) → d ≤ c → Keeps c m m' → Keeps d m m'
keeps_less d c m m' le h = record { long = h.long; same = λ k lt. h.same k (omega arith) }

pub keeps_word : (d : ℕ) (m m' : Memory) (k : ℕ) → Keeps d m m' → k < d → look m' k ≡ look m k
keeps_word d m m' k keeps lt = ap or_zero (keeps.same k lt)

-- a word from a depth on is assigned
pub keeps_below : (d : ℕ) (m : Memory) (k : ℕ) (w : ℤ) → d ≤ k → Keeps d m (with_word m k w)
keeps_below d m k w le = record {
  long = set_long m.words k w;
  same = λ j lt. set_elsewhere m.words j k w (λ e. omega arith);
}

pub word_here : (m : Memory) (k : ℕ) (w : ℤ) → k < length m.words → look (with_word m k w) k ≡ w
word_here m k w lt = ap or_zero (set_here m.words k w lt)

pub word_elsewhere : (m : Memory) (j k : ℕ) (w : ℤ) → (j ≡ k → ⊥) → look (with_word m k w) j ≡ look m j
word_elsewhere m j k w apart = ap or_zero (set_elsewhere m.words j k w apart)

-- The words and the notes are as many as they should be, the constants are there, and the facts known of notes are true of
-- marks.
pub record IsNoted (f : Frame) (ns : List Noting) (marks : List Mark) (m : Memory) : Type 0 where
  pub room : IsRoom f m
  pub few : length ns ≤ length f.window
  pub are : AreTrueOf f.window ns marks m.notes

module _ (f : Frame) (ns : List Noting) (marks : List Mark) (m : Memory) (is : IsNoted f ns marks m) where
  room_with : (notes : List ℕ) → length notes ≡ length m.notes → IsRoom f (record m { notes = notes })
  room_with notes e = record {
    words = is.room.words;
    notes = e ∙ is.room.notes;
    room = is.room.room;
    window = is.room.window;
    constants = is.room.constants;
    held = is.room.held;
  }

  -- no constant is assigned
  pub noted_word : (k : ℕ) (w : ℤ) → (k < length f.window) ⊎ (first_temporary f ≤ k) → IsNoted f ns marks
      (with_word m k w)
  noted_word k w where_is = record {
    room = record {
      words = set_long m.words k w ∙ is.room.words;
      notes = is.room.notes;
      room = is.room.room;
      window = is.room.window;
      constants = λ j v at. (let lt = there_within f.constants j v at in
          let apart = not_constant where_is j lt in
          ap (λ o. datum_at v.kind (or_zero o)) (set_elsewhere m.words (length f.window + j) k w apart)
          ∙ is.room.constants j v at);
      held = is.room.held;
    };
    few = is.few;
    are = is.are;
  }
    where
      not_constant : (k < length f.window) ⊎ (first_temporary f ≤ k) → (j : ℕ) → j < length f.constants
          → length f.window + j ≡ k → ⊥
      not_constant (inl h) j lt e = omega arith
      not_constant (inr h) j lt e = omega arith

  pub noted_told : (ns' : List Noting) → Implies ns ns' → IsNoted f ns' marks m
  noted_told ns' tell = record {
    room = is.room;
    few = (let fewer = told_few ns ns' tell in let few = is.few in omega arith);
    are = told_all f.window ns ns' marks m.notes tell is.are;
  }

  -- a place of which a fact is known has a note
  note_there : (change : Noting → Option Noting) (k : ℕ) (ns' : List Noting) → NoteChanges change k ns ns'
      → k < length m.notes
  note_there change k ns' c =
      let lt = there_within ns k c.old c.there in
      let few = is.few in
      let notes = is.room.notes in
      let room = is.room.room in
      omega arith

  pub noted_look : (k : ℕ) (ns' : List Noting) → NoteChanges with_look_ahead k ns ns'
      → IsNoted f ns' marks (note noted_read k m)
  noted_look k ns' c = record {
    room = room_with (slice_set m.notes k (noted_read (or_none (slice_get m.notes k))))
        (set_long m.notes k (noted_read (or_none (slice_get m.notes k))));
    few = (let same = changed_few with_look_ahead k ns ns' c in let few = is.few in omega arith);
    are = look_noted f.window ns marks m.notes is.are k ns' (note_there with_look_ahead k ns' c) c;
  }

  pub noted_assignment : (k : ℕ) (ns' : List Noting) → NoteChanges with_assignment_ahead k ns ns'
      → IsNoted f ns' marks (note noted_written k m)
  noted_assignment k ns' c = record {
    room = room_with (slice_set m.notes k (noted_written (or_none (slice_get m.notes k))))
        (set_long m.notes k (noted_written (or_none (slice_get m.notes k))));
    few = (let same = changed_few with_assignment_ahead k ns ns' c in let few = is.few in omega arith);
    are = assignment_noted f.window ns marks m.notes is.are k ns' (note_there with_assignment_ahead k ns' c) c;
  }

  -- an element is looked up or assigned, and noted
  exact_there : (k : ℕ) → slice_get ns k ≡ Some Exact → k < length m.notes
  exact_there k exact =
      let lt = there_within ns k Exact exact in
      let few = is.few in
      let notes = is.room.notes in
      let room = is.room.room in
      omega arith

  pub noted_loaded : (w k : ℕ) → slice_get f.window w ≡ Some k → slice_get ns w ≡ Some Exact
      → IsNoted f ns (with_mark seen marks k) (note noted_read w m)
  noted_loaded w k slot exact = record {
    room = room_with (slice_set m.notes w (noted_read (or_none (slice_get m.notes w))))
        (set_long m.notes w (noted_read (or_none (slice_get m.notes w))));
    few = is.few;
    are = looked_by f.window ns marks m.notes is.are w (length f.kinds) is.room.window k slot (exact_there w exact)
        exact;
  }

  pub noted_stored : (w k : ℕ) → slice_get f.window w ≡ Some k → slice_get ns w ≡ Some Exact
      → IsNoted f ns (with_mark assigned marks k) (note noted_written w m)
  noted_stored w k slot exact = record {
    room = room_with (slice_set m.notes w (noted_written (or_none (slice_get m.notes w))))
        (set_long m.notes w (noted_written (or_none (slice_get m.notes w))));
    few = is.few;
    are = assigned_by f.window ns marks m.notes is.are w (length f.kinds) is.room.window k slot (exact_there w exact)
        exact;
  }

  pub noted_past : (g : ℕ → ℕ) (k : ℕ) → length f.window ≤ k → IsNoted f ns marks (note g k m)
  noted_past g k le = record {
    room = room_with (slice_set m.notes k (g (or_none (slice_get m.notes k))))
        (set_long m.notes k (g (or_none (slice_get m.notes k))));
    few = is.few;
    are = noted_beyond f.window ns marks m.notes is.are k g (let few = is.few in omega arith);
  }

-- where a unit's own words are
abbrev pub IsOwnPlace : Frame → UnitValues → ℕ → Type 0
IsOwnPlace f (whole base) w = w < length f.window
IsOwnPlace f (called kinds seats) w = (first_temporary f ≤ w) × (w < f.size)

-- The values of a unit are below a depth, from which on temporaries are free. Its own words are not words of other values,
-- and not constants.
pub record IsSite (f : Frame) (s : UnitValues) (d : ℕ) : Type 0 where
  pub deep : first_temporary f ≤ d
  pub below : (k w : ℕ) (t : Kind) → slice_get (kinds_of f s) k ≡ Some t → HasWord f.window s k w → w < d
  pub has : (k w : ℕ) → HasOwnWord f.window s k w → HasWord f.window s k w
  pub one : (k w u : ℕ) → HasWord f.window s k w → HasWord f.window s k u → w ≡ u
  pub apart : (k j w : ℕ) → HasOwnWord f.window s k w → HasWord f.window s j w → j ≡ k
  pub own : (k w : ℕ) (t : Kind) → slice_get (kinds_of f s) k ≡ Some t → HasOwnWord f.window s k w → IsOwnPlace f s w

pub deeper : (f : Frame) (s : UnitValues) (d c : ℕ) → d ≤ c → IsSite f s d → IsSite f s c
deeper f s d c le is = record {
  deep = (let deep = is.deep in omega arith);
  below = λ k w t at has. (let lt = is.below k w t at has in omega arith);
  has = is.has;
  one = is.one;
  apart = is.apart;
  own = is.own;
}

pub whole_site : (f : Frame) (base : ℕ) → IsWindow (length f.kinds) f.window
    → IsSite f (whole base) (first_temporary f)
whole_site f base window = record {
  deep = omega arith;
  below = λ k w t at has. (let lt = there_within f.window w k has in omega arith);
  has = λ k w has. has;
  one = λ k w u has had. one_word (length f.kinds) f.window window w u k has had;
  apart = λ k j w own has. some_is (sym has ∙ own);
  own = λ k w t at has. there_within f.window w k has;
}

-- an own word isn't a constant
pub own_no_constant : (f : Frame) (s : UnitValues) (w : ℕ) → IsOwnPlace f s w → (w < length f.window) ⊎ (first_temporary f ≤ w)
own_no_constant f (whole base) w h = inl h
own_no_constant f (called kinds seats) w h = inr h.0

-- the marks that the notes describe: those of a program's slots, or of the slots of a function's caller
abbrev pub marks_of : UnitValues → Tracked → Tracked → List Mark
marks_of (whole base) around t = t.marks
marks_of (called kinds seats) around t = around.marks

-- slots of a program that have no word are as they were when the run began
abbrev pub Stays : Frame → UnitValues → Tracked → Tracked → Type 0
Stays f (whole base) around t = StaysOutside f.window around t
Stays f (called kinds seats) around t = Unit {0}

-- The words of a run are the values of a unit, and the facts known of the notes are true of the marks. Around a function are
-- the slots of its caller; around a program are all slots as they were when the run began.
pub record Holds (f : Frame) (s : UnitValues) (around : Tracked) (ns : List Noting) (m : Memory) (t : Tracked) : Type 0 where
  pub noted : IsNoted f ns (marks_of s around t) m
  pub stays : Stays f s around t
  pub long : length t.values ≡ length (kinds_of f s)
  pub values : (k w : ℕ) (kind : Kind) → slice_get (kinds_of f s) k ≡ Some kind → HasWord f.window s k w
      → IsValueAt m t.values kind k w

-- the slot is marked when the program looks it up
abbrev pub with_look : Tracked → ℕ → Tracked
with_look t k = record { values = t.values; marks = with_mark seen t.marks k }

looked_in : (f : Frame) (s : UnitValues) (around : Tracked) (ns ns' : List Noting) (m : Memory) (t : Tracked) (k w : ℕ)
    → IsNoted f ns (marks_of s around t) m → HasWord f.window s k w → Touches at_look s w ns ns'
    → IsNoted f ns' (marks_of s around (with_look t k)) m
looked_in f (whole base) around ns ns' m t k w is has c = record {
  room = is.room;
  few = (let same = changed_few at_look w ns ns' c in let few = is.few in omega arith);
  are = looked_up f.window ns t.marks m.notes is.are w (length f.kinds) is.room.window k has ns' c;
}
looked_in f (called kinds seats) around ns ns' m t k w is has c = subst (λ ns. IsNoted f ns around.marks m) c is

assigned_in : (f : Frame) (s : UnitValues) (around : Tracked) (ns ns' : List Noting) (m : Memory) (t : Tracked) (k w : ℕ)
    (v : Datum) → IsNoted f ns (marks_of s around t) m → HasOwnWord f.window s k w → Touches at_assignment s w ns ns'
    → IsNoted f ns' (marks_of s around (assigned_slot t k v)) m
assigned_in f (whole base) around ns ns' m t k w v is own c = record {
  room = is.room;
  few = (let same = changed_few at_assignment w ns ns' c in let few = is.few in omega arith);
  are = assigned_to f.window ns t.marks m.notes is.are w (length f.kinds) is.room.window k own ns' c;
}
assigned_in f (called kinds seats) around ns ns' m t k w v is own c = subst (λ ns. IsNoted f ns around.marks m) c is

loaded_in : (f : Frame) (s : UnitValues) (around : Tracked) (ns : List Noting) (m : Memory) (t : Tracked) (k w : ℕ)
    → IsNoted f ns (marks_of s around t) m → HasOwnWord f.window s k w → IsOwnPlace f s w → IsExact s ns w
    → IsNoted f ns (marks_of s around (with_look t k)) (note noted_read w m)
loaded_in f (whole base) around ns m t k w is own place exact = noted_loaded f ns t.marks m is w k own exact
loaded_in f (called kinds seats) around ns m t k w is own place exact =
    noted_past f ns around.marks m is noted_read w (let far = place.0 in omega arith)

stored_in : (f : Frame) (s : UnitValues) (around : Tracked) (ns : List Noting) (m : Memory) (t : Tracked) (k w : ℕ)
    (v : Datum) → IsNoted f ns (marks_of s around t) m → HasOwnWord f.window s k w → IsOwnPlace f s w → IsExact s ns w
    → IsNoted f ns (marks_of s around (assigned_slot t k v)) (note noted_written w m)
stored_in f (whole base) around ns m t k w v is own place exact = noted_stored f ns t.marks m is w k own exact
stored_in f (called kinds seats) around ns m t k w v is own place exact =
    noted_past f ns around.marks m is noted_written w (let far = place.0 in omega arith)

-- only slots that have words are looked up and assigned
looked_outside : (f : Frame) (s : UnitValues) (around t : Tracked) (k w : ℕ) → HasWord f.window s k w → Stays f s around t
    → Stays f s around (with_look t k)
looked_outside f (whole base) around t k w has stays = stays_looked f.window around t stays w k has
looked_outside f (called kinds seats) around t k w has stays = tt

written_outside : (f : Frame) (s : UnitValues) (around t : Tracked) (k w : ℕ) (v : Datum) → HasOwnWord f.window s k w
    → Stays f s around t → Stays f s around (assigned_slot t k v)
written_outside f (whole base) around t k w v own stays = stays_written f.window around t stays w k own v
written_outside f (called kinds seats) around t k w v own stays = tt

-- a variable that is known to have been assigned may be looked up and assigned
pub assigned_look : (s : UnitValues) (k : ℕ) (ns : List Noting) → IsAssignedAt s k ns → Touches at_look s k ns ns
assigned_look (whole base) k ns is = stays_assigned at_look k ns refl is
assigned_look (called kinds seats) k ns is = refl

pub assigned_again : (s : UnitValues) (k : ℕ) (ns : List Noting) → IsAssignedAt s k ns → Touches at_assignment s k ns ns
assigned_again (whole base) k ns is = stays_assigned at_assignment k ns refl is
assigned_again (called kinds seats) k ns is = refl

pub assigned_then : (s : UnitValues) (k : ℕ) (ns ns' : List Noting) → Touches at_assignment s k ns ns' → IsAssignedAt s k ns'
assigned_then (whole base) k ns ns' c = is_assigned_then k ns ns' c
assigned_then (called kinds seats) k ns ns' c = tt

module _ (f : Frame) (s : UnitValues) (around : Tracked) (ns : List Noting) (m : Memory) (t : Tracked)
    (is : Holds f s around ns m t) where
  -- less is known
  pub still_told : (ns' : List Noting) → Implies ns ns' → Holds f s around ns' m t
  still_told ns' tell = record {
    noted = noted_told f ns (marks_of s around t) m is.noted ns' tell;
    stays = is.stays;
    long = is.long;
    values = is.values;
  }

  -- a variable is looked up
  pub holds_looked : (k w : ℕ) (ns' : List Noting) → HasWord f.window s k w → Touches at_look s w ns ns'
      → Holds f s around ns' m (with_look t k)
  holds_looked k w ns' has c = record {
    noted = looked_in f s around ns ns' m t k w is.noted has c;
    stays = looked_outside f s around t k w has is.stays;
    long = is.long;
    values = is.values;
  }

  module _ (d : ℕ) (at_site : IsSite f s d) where
    -- other words and notes, if words below the depth are kept
    pub holds_kept : (ns' : List Noting) (m' : Memory) → Keeps d m m' → IsNoted f ns' (marks_of s around t) m'
        → Holds f s around ns' m' t
    holds_kept ns' m' keeps noted = record {
      noted = noted;
      stays = is.stays;
      long = is.long;
      values = λ k w kind at has. (let v = is.values k w kind at has in
          let same = keeps_word d m m' w keeps (at_site.below k w kind at has) in record {
            is = v.is ∙ ap (λ x. Some (datum_at kind x)) (sym same);
            held = subst (λ x. IsHeld (datum_at kind x)) (sym same) v.held;
          });
    }

    -- a temporary is assigned
    pub holds_temporary : (k : ℕ) (w : ℤ) → d ≤ k → Holds f s around ns (with_word m k w) t
    holds_temporary k w le =
        holds_kept ns (with_word m k w) (keeps_below d m k w le)
        (noted_word f ns (marks_of s around t) m is.noted k w (inr (let deep = at_site.deep in omega arith)))

    module _ (k w : ℕ) (kind : Kind) (target : slice_get (kinds_of f s) k ≡ Some kind) (own : HasOwnWord f.window s k
        w) where
      pub own_place : IsOwnPlace f s w
      own_place = at_site.own k w kind target own

      pub own_value : IsValueAt m t.values kind k w
      own_value = is.values k w kind target (at_site.has k w own)

      inside : (s : UnitValues) → IsOwnPlace f s w → w < length m.words
      inside (whole base) place =
          let words = is.noted.room.words in let room = is.noted.room.room in omega arith
      inside (called kinds seats) place = (let words = is.noted.room.words in let lt = place.1 in omega arith)

      pub own_inside : w < length m.words
      own_inside = inside s own_place

      -- its word is assigned
      module _ (v : ℤ) (m' : Memory) (words : m'.words ≡ slice_set m.words w v) (holds : IsHeld (datum_at kind v)) where
        abbrev after : List Datum
        after = slice_set t.values k (datum_at kind v)

        value_now : (j u : ℕ) (other : Kind) → slice_get (kinds_of f s) j ≡ Some other → HasWord f.window s j u → (p :
            Bool)
            → (u == w) ≡ p → IsValueAt m' after other j u
        value_now j u other at has true e =
            let here : u ≡ w = grind (arith, nat_tests) in
            let same : j ≡ k = at_site.apart k j w own (subst (HasWord f.window s j) here has) in
            let type : kind ≡ other = some_is (sym target ∙ ap (slice_get (kinds_of f s)) (sym same) ∙ at) in
            let word : look m' u ≡ v =
            ap (λ ws. word_at ws u) words ∙ ap (λ u. word_at (slice_set m.words w v) u) here
            ∙ word_here m w v own_inside in
            let slot = there_within (kinds_of f s) k kind target in
            let long = is.long in
            let found : slice_get after j ≡ Some (datum_at other (look m' u)) =
            ap (slice_get after) same
            ∙ set_here t.values k (datum_at kind v) (omega arith)
            ∙ ap₂ (λ t x. Some (datum_at t x)) type (sym word) in record {
              is = found;
              held = subst (λ x. IsHeld (datum_at other x)) (sym word)
                  (subst (λ t. IsHeld (datum_at t v)) type holds);
            }
        value_now j u other at has false e =
            let away : u ≢ w = λ is. grind (arith, nat_tests) in
            let apart : j ≢ k = λ is. away (at_site.one k u w (subst (λ i. HasWord f.window s i u) is has)
            (at_site.has k w own)) in
            let word : look m' u ≡ look m u = ap (λ ws. word_at ws u) words ∙ word_elsewhere m u w v away in
            let old = is.values j u other at has in record {
              is = set_elsewhere t.values j k (datum_at kind v) apart
                  ∙ old.is
                  ∙ ap (λ x. Some (datum_at other x)) (sym word);
              held = subst (λ x. IsHeld (datum_at other x)) (sym word) old.held;
            }

        pub holds_written : (ns' : List Noting) → IsNoted f ns' (marks_of s around (assigned_slot t k (datum_at kind v))) m'
            → Holds f s around ns' m' (assigned_slot t k (datum_at kind v))
        holds_written ns' noted = record {
          noted = noted;
          stays = written_outside f s around t k w (datum_at kind v) own is.stays;
          long = set_long t.values k (datum_at kind v) ∙ is.long;
          values = λ j u other at has. value_now j u other at has (u == w) refl;
        }

      -- a variable is assigned
      pub holds_assigned : (v : ℤ) → IsHeld (datum_at kind v) → (ns' : List Noting) → Touches at_assignment s w ns ns'
          → Holds f s around ns' (with_word m w v) (assigned_slot t k (datum_at kind v))
      holds_assigned v holds ns' c =
          holds_written v (with_word m w v) refl holds ns'
          (noted_word f ns' (marks_of s around (assigned_slot t k (datum_at kind v))) m
          (assigned_in f s around ns ns' m t k w (datum_at kind v) is.noted own c) w v (own_no_constant f s w
          own_place))

      -- an element is assigned, and noted
      pub holds_stored : (v : ℤ) → IsHeld (datum_at kind v) → IsExact s ns w
          → Holds f s around ns (with_word (note noted_written w m) w v) (assigned_slot t k (datum_at kind v))
      holds_stored v holds exact =
          holds_written v (with_word (note noted_written w m) w v) refl holds ns
          (noted_word f ns (marks_of s around (assigned_slot t k (datum_at kind v))) (note noted_written w m)
          (stored_in f s around ns m t k w (datum_at kind v) is.noted own own_place exact) w v
          (own_no_constant f s w own_place))

      -- an element is looked up, and noted
      pub holds_loaded : IsExact s ns w → Holds f s around ns (note noted_read w m) (with_look t k)
      holds_loaded exact = record {
        noted = loaded_in f s around ns m t k w is.noted own own_place exact;
        stays = looked_outside f s around t k w (at_site.has k w own) is.stays;
        long = is.long;
        values = λ j u kind at has. (let v = is.values j u kind at has in record { is = v.is; held = v.held });
      }

-- The words of constants and of a unit's callers, and temporaries below a depth, were not changed: none but own words.
pub record Spares (f : Frame) (s : UnitValues) (d : ℕ) (m m' : Memory) : Type 0 where
  pub long : length m'.words ≡ length m.words
  pub same : (w : ℕ) → w < d → ((k : ℕ) → k < length (kinds_of f s) → HasOwnWord f.window s k w → ⊥)
      → slice_get m'.words w ≡ slice_get m.words w

module _ (f : Frame) (s : UnitValues) (d : ℕ) where
  pub spares_all : (m : Memory) → Spares f s d m m
  spares_all m = record { long = refl; same = λ w lt not_own. refl }

  pub spares_both : (c : ℕ) (m m' n : Memory) → d ≤ c → Spares f s d m m' → Spares f s c m' n → Spares f s d m n
  spares_both c m m' n le g h = record {
    long = h.long ∙ g.long;
    same = λ w lt not_own. h.same w (omega arith) not_own ∙ g.same w lt not_own;
  }

  pub spares_less : (c : ℕ) (m m' : Memory) → d ≤ c → Spares f s c m m' → Spares f s d m m'
  spares_less c m m' le h = record { long = h.long; same = λ w lt not_own. h.same w (omega arith) not_own }

  pub spares_kept : (m m' : Memory) → Keeps d m m' → Spares f s d m m'
  spares_kept m m' keeps = record { long = keeps.long; same = λ w lt not_own. keeps.same w lt }

  -- an own word is assigned, whatever is noted
  pub spares_own : (m m' : Memory) (k u : ℕ) (t : Kind) (v : ℤ) → slice_get (kinds_of f s) k ≡ Some t
      → HasOwnWord f.window s k u → m'.words ≡ slice_set m.words u v → Spares f s d m m'
  spares_own m m' k u t v target own words = record {
    long = ap length words ∙ set_long m.words u v;
    same = λ w lt not_own. ap (λ ws. slice_get ws w) words
        ∙ set_elsewhere m.words w u v
        (λ e. not_own k (there_within (kinds_of f s) k t target) (subst (HasOwnWord f.window s k) (sym e) own));
  }

  pub spares_word : (m m' : Memory) (w : ℕ) → Spares f s d m m' → w < d
      → ((k : ℕ) → k < length (kinds_of f s) → HasOwnWord f.window s k w → ⊥) → look m' w ≡ look m w
  spares_word m m' w spares lt not_own = ap or_zero (spares.same w lt not_own)
