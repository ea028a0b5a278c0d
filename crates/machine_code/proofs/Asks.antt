-- A slot that a run reads is one that it asks for.
use Rattle.std.proofs.Common.{◌≡◌, ℕ, zero, suc, ◌==◌, ◌+◌, ◌<◌, ◌||◌, ◌&&◌, ◌≤◌, nat_le, nat_lt, Bool, true, false}
use Rattle.std.proofs.Common.{List, [], ◌∷◌, length, Option, Some, None, refl, sym, ap, ◌∙◌, subst, arith}
use Rattle.std.proofs.Common.{if◌then◌else◌}
use Rattle.std.specs.Prelude.{slice_get, slice_set, option_map}
use Rattle.std.proofs.lemmas.Option.{slice_get_past}
use Rattle.std.specs.List.{list_any}
use Rattle.std.proofs.lemmas.Bool.Decides.{nat_tests}
use Rattle.st_types.specs.Values.{Datum}
use Rattle.st_types.specs.declared.fault.Fault.{Fault}
use Rattle.st_meaning.specs.Failures.{Failure, valueless, ill_typed, StuckFaults, or_failure}
use Rattle.st_meaning.specs.Evaluation.{known}
use Rattle.st_meaning.specs.Stores.{may_replace}
use Rattle.st_meaning.specs.StandardBlocks.{BlockMember, members_of}
use Rattle.symbols.specs.Standard.{block_view}
use Rattle.machine_code.specs.declared.mark.Mark.{Mark}
use Rattle.machine_code.specs.declared.instr.Instr.{Instr}
use Rattle.machine_code.specs.declared.instr.Instr.TheVariants.{LoadRaw}
use Rattle.machine_code.specs.declared.instr.Instr.TheVariants.{Step}
use Rattle.machine_code.specs.declared.instr.Instr.TheVariants.{ForTest, ForStep}
use Rattle.machine_code.specs.Memories.{plain}
use Rattle.machine_code.specs.Memories as plainly
use Rattle.machine_code.specs.Machine.{Ending, on_result, runs, most, on_variable}
use Rattle.machine_code.specs.Simulation.{Likeness, AllFrom, LooksOnly}
use Rattle.machine_code.specs.Tracking.{Tracked, tracked, tracking, with_mark, seen, assigned, looked, assigned_slot}
use Rattle.machine_code.specs.Tracking.{replaced, overwritten, is_read_in, is_assigned_in, read_by, assigned_by}
use Rattle.machine_code.specs.Tracking.{memory_of, AreOfKind}
use Rattle.machine_code.specs.Asking.{takes_as_it_is, FailsWith}
use Rattle.machine_code.proofs.MarkLemmas.{set_here, set_elsewhere, set_long, there_within, within_there, mark_here}
use Rattle.machine_code.proofs.MarkLemmas.{mark_elsewhere, mark_long, seen_assigns, assigned_reads, assigned_assigns}
use Rattle.machine_code.proofs.Simulating.{exec_alike}
use Rattle.std.proofs.lemmas.Bool.{or_parts}
use Rattle.st_types.proofs.TestLemmas.{equal_numbers, other_numbers}

other_way : (j k : ℕ) → (j ≡ k → ⊥) → k ≡ j → ⊥
other_way j k apart e = apart (sym e)

-- values that are as apart as a value that is there and one that its type does not hold
record AreApart (o p : Option Datum) : Type 0 where
  there : Datum
  instead : Datum
  is : o ≡ Some there
  other : p ≡ Some instead
  kind : there.kind ≡ instead.kind
  unknown : known (Some instead) ≡ None

-- The run has not read the slot. The other values are the same but there, until the run assigns it.
record Without (k : ℕ) (m : Tracked) (us : List Datum) : Type 0 where
  long : length m.marks ≡ length m.values
  many : length m.values ≡ length us
  unread : is_read_in m k ≡ false
  others : (j : ℕ) → (j ≡ k → ⊥) → slice_get m.values j ≡ slice_get us j
  here : is_assigned_in m k ≡ true → slice_get m.values k ≡ slice_get us k
  apart : is_assigned_in m k ≡ false → AreApart (slice_get m.values k) (slice_get us k)

record Meets (k : ℕ) (f : Fault) (m : Tracked) (us : List Datum) (e : Ending Tracked)
    (d : Ending (List Datum)) : Type 0 where
  by : Without k m us → is_read_in (memory_of e) k ≡ true → FailsWith f d

-- Marks after a look and after a write.
abbrev after_look : Tracked → ℕ → Tracked
after_look m j = tracked m.values (with_mark seen m.marks j)

seen_of_assigned : (o : Option Mark) → read_by o ≡ false → assigned_by o ≡ true → read_by (option_map seen o) ≡ false
seen_of_assigned (Some y) r a = rw (r, a) refl
seen_of_assigned None r a = refl

module _ (k : ℕ) (m : Tracked) (j : ℕ) where
  -- the slot is not read if another one is looked up, or if it is assigned
  still_unread : is_read_in m k ≡ false → (j ≡ k → is_assigned_in m k ≡ true)
      → is_read_in (after_look m j) k ≡ false
  still_unread unread assigned = by_test (j == k) refl
    where
      by_test : (b : Bool) → (j == k) ≡ b → is_read_in (after_look m j) k ≡ false
      by_test true e =
          let is = equal_numbers j k e in
          subst (λ i. is_read_in (after_look m i) k ≡ false) (sym is)
          (ap read_by (mark_here seen m.marks k) ∙ seen_of_assigned (slice_get m.marks k) unread (assigned is))
      by_test false e =
          ap read_by (mark_elsewhere seen m.marks j k (other_way j k (other_numbers j k e))) ∙ unread

  look_assigns : is_assigned_in (after_look m j) k ≡ is_assigned_in m k
  look_assigns = by_test (j == k) refl
    where
      by_test : (b : Bool) → (j == k) ≡ b → is_assigned_in (after_look m j) k ≡ is_assigned_in m k
      by_test true e =
          let is = equal_numbers j k e in
          subst (λ i. is_assigned_in (after_look m i) k ≡ is_assigned_in m k) (sym is)
          (ap assigned_by (mark_here seen m.marks k) ∙ seen_assigns (slice_get m.marks k))
      by_test false e = ap assigned_by (mark_elsewhere seen m.marks j k (other_way j k (other_numbers j k e)))

  write_reads : (v : Datum) → is_read_in (assigned_slot m j v) k ≡ is_read_in m k
  write_reads v = by_test (j == k) refl
    where
      by_test : (b : Bool) → (j == k) ≡ b → is_read_in (assigned_slot m j v) k ≡ is_read_in m k
      by_test true e =
          let is = equal_numbers j k e in
          subst (λ i. is_read_in (assigned_slot m i v) k ≡ is_read_in m k) (sym is)
          (ap read_by (mark_here assigned m.marks k) ∙ assigned_reads (slice_get m.marks k))
      by_test false e = ap read_by (mark_elsewhere assigned m.marks j k (other_way j k (other_numbers j k e)))

  write_assigns : (v : Datum) → (j ≡ k → ⊥) → is_assigned_in (assigned_slot m j v) k ≡ is_assigned_in m k
  write_assigns v apart = ap assigned_by (mark_elsewhere assigned m.marks j k (other_way j k apart))

-- Values that are alike stay so.
same_set : (vs us : List Datum) (i j : ℕ) (v : Datum) → slice_get vs i ≡ slice_get us i
    → length vs ≡ length us → slice_get (slice_set vs j v) i ≡ slice_get (slice_set us j v) i
same_set vs us i j v same long = by_test (j == i) refl
  where
    at : (b : Bool) → nat_lt j (length vs) ≡ b → slice_get (slice_set vs j v) j ≡ slice_get (slice_set us j v) j
    at true e =
        let lt : j < length vs = grind (arith, nat_tests) in
        let lu : j < length us = omega arith in
        set_here vs j v lt ∙ sym (set_here us j v lu)
    at false e =
        let le : length vs ≤ j = grind (arith, nat_tests) in
        slice_get_past (slice_set vs j v) j (let l = set_long vs j v in omega arith)
        ∙ sym (slice_get_past (slice_set us j v) j (let l = set_long us j v in omega arith))

    by_test : (b : Bool) → (j == i) ≡ b → slice_get (slice_set vs j v) i ≡ slice_get (slice_set us j v) i
    by_test true e =
        subst (λ n. slice_get (slice_set vs j v) n ≡ slice_get (slice_set us j v) n) (equal_numbers j i e)
        (at (nat_lt j (length vs)) refl)
    by_test false e =
        let apart = other_way j i (other_numbers j i e) in
        set_elsewhere vs i j v apart ∙ same ∙ sym (set_elsewhere us i j v apart)

module _ (k : ℕ) (m : Tracked) (us : List Datum) (w : Without k m us) where
  -- the values at a slot are of one type, if there are any
  kinds_at : (j : ℕ) → AreOfKind (slice_get m.values j) (slice_get us j)
  kinds_at j = by_test (j == k) (is_assigned_in m k) refl refl
    where
      itself : (o p : Option Datum) → o ≡ p → AreOfKind o p
      itself (Some v) (Some u) e = cc
      itself None None e = tt
      itself (Some v) None e = absurd (cc)
      itself None (Some u) e = absurd (cc)

      apart_so : (o p : Option Datum) → AreApart o p → AreOfKind o p
      apart_so o p a = subst (λ x. AreOfKind x p) (sym a.is)
          (subst (λ x. AreOfKind (Some a.there) x) (sym a.other) a.kind)

      by_test : (b a : Bool) → (j == k) ≡ b → is_assigned_in m k ≡ a
          → AreOfKind (slice_get m.values j) (slice_get us j)
      by_test false a e is = itself _ _ (w.others j (other_numbers j k e))
      by_test true true e is =
          subst (λ i. AreOfKind (slice_get m.values i) (slice_get us i)) (sym (equal_numbers j k e))
          (itself _ _ (w.here is))
      by_test true false e is =
          subst (λ i. AreOfKind (slice_get m.values i) (slice_get us i)) (sym (equal_numbers j k e))
          (apart_so _ _ (w.apart is))

  -- after a look elsewhere, or at an assigned slot
  looked_without : (j : ℕ) → (j ≡ k → is_assigned_in m k ≡ true) → Without k (after_look m j) us
  looked_without j assigned = record {
    long = mark_long seen m.marks j ∙ w.long;
    many = w.many;
    unread = still_unread k m j w.unread assigned;
    others = w.others;
    here = λ is. w.here (sym (look_assigns k m j) ∙ is);
    apart = λ is. w.apart (sym (look_assigns k m j) ∙ is);
  }

  -- after a write
  written_without : (j : ℕ) (v old : Datum) → slice_get m.values j ≡ Some old
      → Without k (assigned_slot m j v) (slice_set us j v)
  written_without j v old at = record {
    long = mark_long assigned m.marks j ∙ w.long ∙ sym (set_long m.values j v);
    many = set_long m.values j v ∙ w.many ∙ sym (set_long us j v);
    unread = write_reads k m j v ∙ w.unread;
    others = λ i apart. same_set m.values us i j v (w.others i apart) w.many;
    here = λ is. here_by (j == k) refl is;
    apart = λ is. apart_by (j == k) refl is;
  }
    where
      in_values : j < length m.values
      in_values = there_within m.values j old at

      here_by : (b : Bool) → (j == k) ≡ b → is_assigned_in (assigned_slot m j v) k ≡ true
          → slice_get (slice_set m.values j v) k ≡ slice_get (slice_set us j v) k
      here_by true e is =
          subst (λ i. slice_get (slice_set m.values j v) i ≡ slice_get (slice_set us j v) i) (equal_numbers j k e)
          (set_here m.values j v in_values ∙ sym (set_here us j v (let l = w.many in let n = in_values in omega arith)))
      here_by false e is =
          same_set m.values us k j v (w.here (sym (write_assigns k m j v (other_numbers j k e)) ∙ is)) w.many

      assigned_here : is_assigned_in (assigned_slot m j v) j ≡ true
      assigned_here =
          let mark = within_there m.marks j (let l = w.long in let i = in_values in omega arith) in
          ap assigned_by (mark_here assigned m.marks j) ∙ assigned_assigns (slice_get m.marks j) mark.0 mark.1

      apart_by : (b : Bool) → (j == k) ≡ b → is_assigned_in (assigned_slot m j v) k ≡ false
          → AreApart (slice_get (slice_set m.values j v) k) (slice_get (slice_set us j v) k)
      apart_by true e is =
          absurd (let f : true ≡ false = sym (subst (λ i. is_assigned_in (assigned_slot m j v) i ≡ true) (equal_numbers j k e)
          assigned_here) ∙ is in cc)
      apart_by false e is =
          let a = w.apart (sym (write_assigns k m j v (other_numbers j k e)) ∙ is) in
          let elsewhere = other_way j k (other_numbers j k e) in
          record {
            there = a.there;
            instead = a.instead;
            is = set_elsewhere m.values k j v elsewhere ∙ a.is;
            other = set_elsewhere us k j v elsewhere ∙ a.other;
            kind = a.kind;
            unknown = a.unknown;
          }

module _ (t u : StuckFaults) (k : ℕ) where
  abbrev Good : Tracked → List Datum → Ending Tracked → Ending (List Datum) → Type 0
  Good = Meets k u.missing

  -- a run that has ended has not read the slot
  ended : (m : Tracked) (us : List Datum) (e : Ending Tracked) (d : Ending (List Datum)) → memory_of e ≡ m
      → Good m us e d
  ended m us e d is = record {
    by = λ w read. absurd (let f : true ≡ false = sym read ∙ ap (λ n. is_read_in n k) is ∙ w.unread in cc);
  }

  -- a look at a value goes on alike if it is the same in both
  looking : (m : Tracked) (us : List Datum) (j : ℕ) (f : Datum → Tracked → Ending Tracked)
      (g : Datum → List Datum → Ending (List Datum)) → ((v : Datum) (n : Tracked) (xs : List Datum)
      → Good n xs (f v n) (g v xs)) → (e : Failure) → Without k m us → (j ≡ k → is_assigned_in m k ≡ true)
      → (o : Option Datum)
      → is_read_in (memory_of (on_result t (or_failure e (looked m j o)) m (λ r. f r.0 r.1))) k ≡ true
      → FailsWith u.missing (on_result u (or_failure e (plainly.looked us o)) us (λ r. g r.0 r.1))
  looking m us j f g h e w assigned (Some v) read =
      (h v (after_look m j) us).by (looked_without k m us w j assigned) read
  looking m us j f g h e w assigned None read =
      absurd (let f : true ≡ false = sym read ∙ w.unread in cc)

  same_or_ended : (m : Tracked) (us : List Datum) (f : Datum → Tracked → Ending Tracked)
      (g : Datum → List Datum → Ending (List Datum)) → ((v : Datum) (n : Tracked) (xs : List Datum)
      → Good n xs (f v n) (g v xs)) → (o : Option Datum)
      → Good m us (on_result t (or_failure valueless o) m (λ x. f x m))
      (on_result u (or_failure valueless o) us (λ x. g x us))
  same_or_ended m us f g h (Some v) = h v m us
  same_or_ended m us f g h None = ended m us _ _ refl

  -- a variable whose value is not there ends the run
  missed : (us : List Datum) (g : Datum → List Datum → Ending (List Datum)) (x : Datum) (o : Option Datum)
      → o ≡ Some x → known (Some x) ≡ None
      → FailsWith u.missing (on_result u (or_failure valueless (plainly.looked us o)) us
      (λ r. on_result u (or_failure valueless (known (Some r.0))) r.1 (λ y. g y r.1)))
  missed us g x o is unknown =
      subst (λ o. FailsWith u.missing (on_result u (or_failure valueless (plainly.looked us o)) us
      (λ r. on_result u (or_failure valueless (known (Some r.0))) r.1 (λ y. g y r.1)))) (sym is)
      (subst (λ o. FailsWith u.missing (on_result u (or_failure valueless o) us (λ y. g y us))) (sym unknown) refl)

  variable_meets : (m : Tracked) (us : List Datum) (j : ℕ) (f : Datum → Tracked → Ending Tracked)
      (g : Datum → List Datum → Ending (List Datum)) → ((v : Datum) (n : Tracked) (xs : List Datum)
      → Good n xs (f v n) (g v xs)) → Good m us (on_variable tracking t m j f) (on_variable plain u us j g)
  variable_meets m us j f g h = record { by = λ w read. by_test w read (j == k) (is_assigned_in m k) refl refl }
    where
      alike : Without k m us → (j ≡ k → is_assigned_in m k ≡ true) → slice_get m.values j ≡ slice_get us j
          → is_read_in (memory_of (on_variable tracking t m j f)) k ≡ true
          → FailsWith u.missing (on_variable plain u us j g)
      alike w assigned same read =
          subst (λ o. FailsWith u.missing (on_result u (or_failure valueless (plainly.looked us o)) us
          (λ r. on_result u (or_failure valueless (known (Some r.0))) r.1 (λ y. g y r.1)))) same
          (looking m us j (λ v n. on_result t (or_failure valueless (known (Some v))) n (λ y. f y n))
          (λ v xs. on_result u (or_failure valueless (known (Some v))) xs (λ y. g y xs))
          (λ v n xs. same_or_ended n xs f g h (known (Some v))) valueless w assigned (slice_get m.values j) read)

      by_test : Without k m us → is_read_in (memory_of (on_variable tracking t m j f)) k ≡ true → (b a : Bool)
          → (j == k) ≡ b → is_assigned_in m k ≡ a → FailsWith u.missing (on_variable plain u us j g)
      by_test w read false a e is =
          alike w (λ same. absurd (other_numbers j k e same)) (w.others j (other_numbers j k e)) read
      by_test w read true true e is =
          alike w (λ same. is) (subst (λ i. slice_get m.values i ≡ slice_get us i) (sym (equal_numbers j k e)) (w.here is))
          read
      by_test w read true false e is =
          let a = w.apart is in
          missed us g a.instead (slice_get us j) (ap (slice_get us) (equal_numbers j k e) ∙ a.other) a.unknown

  look_meets : (m : Tracked) (us : List Datum) (j : ℕ) (f : Datum → Tracked → Ending Tracked)
      (g : Datum → List Datum → Ending (List Datum)) → (j ≡ k → ⊥) → ((v : Datum) (n : Tracked) (xs : List Datum)
      → Good n xs (f v n) (g v xs))
      → Good m us (on_result t (or_failure ill_typed (looked m j (slice_get m.values j))) m (λ r. f r.0 r.1))
      (on_result u (or_failure ill_typed (plainly.looked us (slice_get us j))) us (λ r. g r.0 r.1))
  look_meets m us j f g apart h = record {
    by = λ w read. subst (λ o. FailsWith u.missing (on_result u (or_failure ill_typed (plainly.looked us o)) us
        (λ r. g r.0 r.1))) (w.others j apart)
        (looking m us j f g h ill_typed w (λ same. absurd (apart same)) (slice_get m.values j) read);
  }

  writing : (m : Tracked) (us : List Datum) (j : ℕ) (v old : Datum) (f : Tracked → Ending Tracked)
      (g : List Datum → Ending (List Datum)) → ((n : Tracked) (xs : List Datum) → Good n xs (f n) (g xs))
      → Without k m us → slice_get m.values j ≡ Some old → (a b : Bool) → a ≡ b
      → is_read_in (memory_of
      (on_result t (or_failure ill_typed (if a then Some (assigned_slot m j v) else None)) m f)) k ≡ true
      → FailsWith u.missing (on_result u (or_failure ill_typed (if b then Some (slice_set us j v) else None)) us g)
  writing m us j v old f g h w at true true same read =
      (h (assigned_slot m j v) (slice_set us j v)).by (written_without k m us w j v old at) read
  writing m us j v old f g h w at false b same read =
      absurd (let f : true ≡ false = sym read ∙ w.unread in cc)
  writing m us j v old f g h w at true false same read = absurd (cc)

  putting : (m : Tracked) (us : List Datum) (j : ℕ) (v : Datum) (f : Tracked → Ending Tracked)
      (g : List Datum → Ending (List Datum)) → ((n : Tracked) (xs : List Datum) → Good n xs (f n) (g xs))
      → Without k m us → (o p : Option Datum) → slice_get m.values j ≡ o → AreOfKind o p
      → is_read_in (memory_of (on_result t (or_failure ill_typed (replaced m j v o)) m f)) k ≡ true
      → FailsWith u.missing (on_result u (or_failure ill_typed (plainly.replaced us j v p)) us g)
  putting m us j v f g h w (Some a) (Some b) at kinds read =
      writing m us j v a f g h w at (may_replace a v) (may_replace b v)
      (let same : a.kind ≡ b.kind = kinds in rw same refl) read
  putting m us j v f g h w None p at kinds read = absurd (let f : true ≡ false = sym read ∙ w.unread in cc)
  putting m us j v f g h w (Some a) None at kinds read = absurd kinds

  resetting : (m : Tracked) (us : List Datum) (j : ℕ) (v : Datum) (f : Tracked → Ending Tracked)
      (g : List Datum → Ending (List Datum)) → ((n : Tracked) (xs : List Datum) → Good n xs (f n) (g xs))
      → Without k m us → (o p : Option Datum) → slice_get m.values j ≡ o → AreOfKind o p
      → is_read_in (memory_of (on_result t (or_failure ill_typed (overwritten m j v o)) m f)) k ≡ true
      → FailsWith u.missing (on_result u (or_failure ill_typed (plainly.overwritten us j v p)) us g)
  resetting m us j v f g h w (Some a) (Some b) at kinds read =
      (h (assigned_slot m j v) (slice_set us j v)).by (written_without k m us w j v a at) read
  resetting m us j v f g h w None p at kinds read = absurd (let f : true ≡ false = sym read ∙ w.unread in cc)
  resetting m us j v f g h w (Some a) None at kinds read = absurd kinds

  abbrev Elsewhere : ℕ → Type 0
  Elsewhere j = j ≡ k → ⊥

  likeness : Likeness tracking plain t u Elsewhere Good
  likeness = record {
    at_fault = λ m us f. ended m us _ _ refl;
    at_failure = λ m us e. ended m us _ _ refl;
    at_end = λ m us b. ended m us _ _ refl;
    at_variable = variable_meets;
    at_look = λ m us j f g apart h. look_meets m us j f g apart h;
    at_put = λ m us j v f g h. record {
      by = λ w read. putting m us j v f g h w (slice_get m.values j) (slice_get us j) refl (kinds_at k m us w j) read;
    };
    at_reset = λ m us j v f g h. record {
      by = λ w read. resetting m us j v f g h w (slice_get m.values j) (slice_get us j) refl (kinds_at k m us w j) read;
    };
  }

-- Code that takes the slot's value nowhere as it is.
all_elsewhere : (k j : ℕ) (xs : List BlockMember) → (j ≤ k → k < j + length xs → ⊥)
    → AllFrom (λ i. i ≡ k → ⊥) j xs
all_elsewhere k j [] out = tt
all_elsewhere k j (x ∷ xs) out = (
  (λ is. out (omega arith) (omega arith)),
  all_elsewhere k (suc j) xs (λ le lt. out (omega arith) (omega arith)),
)

outside : (k j n : ℕ) → (nat_le j k && nat_lt k (j + n)) ≡ false → j ≤ k → k < j + n → ⊥
outside k j n e le lt = grind (arith, nat_tests)

only_looks : (k : ℕ) (i : Instr) → takes_as_it_is k i ≡ false → LooksOnly (λ j. j ≡ k → ⊥) (Some i)
only_looks k (LoadRaw j) e = other_numbers j k e
only_looks k (Step block j) e =
    all_elsewhere k j (members_of (block_view block)) (outside k j (length (members_of (block_view block))) e)
only_looks k (ForTest j to) e = other_numbers j k e
only_looks k (ForStep j to) e = other_numbers j k e
only_looks k _ e = tt

looks_only : (k : ℕ) (code : List Instr) → list_any (takes_as_it_is k) code ≡ false → (p : ℕ)
    → LooksOnly (λ j. j ≡ k → ⊥) (slice_get code p)
looks_only k [] e p = tt
looks_only k (i ∷ code) e zero = only_looks k i (or_parts (takes_as_it_is k i) (list_any (takes_as_it_is k) code) e).0
looks_only k (i ∷ code) e (suc p) =
    looks_only k code (or_parts (takes_as_it_is k i) (list_any (takes_as_it_is k) code) e).1 p

-- If the marked run reads the slot, the run over values without one there ends with the fault for a missing value.
pub reads_are_asked : (t u : StuckFaults) (now : ℕ) (code : List Instr) (p : ℕ) (m : Tracked) (b k : ℕ) (v w : Datum)
    → length m.marks ≡ length m.values → is_read_in m k ≡ false → is_assigned_in m k ≡ false
    → slice_get m.values k ≡ Some v → v.kind ≡ w.kind → known (Some w) ≡ None
    → list_any (takes_as_it_is k) code ≡ false
    → is_read_in (memory_of (runs tracking t now code p [] m b)) k ≡ true
    → FailsWith u.missing (runs plain u now code p [] (slice_set m.values k w) b)
unfolding runs
reads_are_asked t u now code p m b k v w long unread none at kind unknown only read =
    (exec_alike tracking plain t u (Elsewhere t u k) (Good t u k) (likeness t u k) now code (looks_only k code only)
    (suc (most code p b)) p [] m (slice_set m.values k w) b).by (record {
      long = long;
      many = sym (set_long m.values k w);
      unread = unread;
      others = λ j apart. sym (set_elsewhere m.values j k w apart);
      here = λ is. absurd (let f : true ≡ false = sym is ∙ none in cc);
      apart = λ is. record {
        there = v;
        instead = w;
        is = at;
        other = set_here m.values k w (there_within m.values k v at);
        kind = kind;
        unknown = unknown;
      };
    }) read
