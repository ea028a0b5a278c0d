-- Parts of a unit, and how code does what they mean.
use Rattle.std.proofs.Common.{◌≡◌, ℕ, suc, ◌+◌, ◌-◌, ◌*◌, ◌≤◌, Bool, true, false, List, [], ◌∷◌, Some, Ok, refl, sym}
use Rattle.std.proofs.Common.{ap, ap₂, subst, ◌∙◌, arith, inl, inr, ℤ, ◌+ℤ◌, None, length}
use Rattle.std.specs.Prelude.{◌&&◌, if◌then◌else◌, not, slice_get}
use Rattle.st_types.specs.declared.kind.Kind.{Kind}
use Rattle.st_types.proofs.KindLemmas.{same_kind-refl}
use Rattle.st_types.specs.Values.{IsHeld}
use Rattle.st_types.specs.Words.{datum_at}
use Rattle.st_meaning.specs.Failures.{StuckFaults, ill_typed, or_failure}
use Rattle.st_meaning.specs.Loops.{continue_with, exits, goes_on, returns}
use Rattle.st_meaning.specs.Ticks.{Run, ◌>>◌, attempt, follow, give, tick}
use Rattle.machine_code.specs.Tracking.{Tracked, replaced, assigned_slot}
use Rattle.quick_code.specs.QuickSteps.{Memory, look, note, noted_read, noted_written, with_word, nested_place}
use Rattle.quick_code.specs.declared.quick_instr.QuickInstr.TheVariants.{NoteRead, NoteWritten, StoreNested}
use Rattle.slot_trees.specs.SlotTrees.{Anchor, Place, SlotExpr, Subscripts, no_subscripts, place, subscript_then}
use Rattle.slot_trees.specs.SlotEvaluation.{slot_at}
use Rattle.slot_trees.specs.SlotRuns.{state_of}
use Rattle.machine_code.specs.MarkedEvaluation.{MarkedScope, marked_place, marked_truth, marked_value}
use Rattle.machine_code.specs.MarkedExecution.{MarkedEnd, marked_assigning, marked_put}
use Rattle.quick_trees.specs.Pieces.{InSequence, IsArm, IsTicked}
use Rattle.quick_trees.specs.Points.{AllNoted, AreNoted, IsNoted, Joins, Refines, Note, CodeRelation, Point, assignment_of}
use Rattle.quick_trees.specs.Points.{look_of}
use Rattle.quick_trees.specs.QuickMemory.{EndsWellAt}
use Rattle.quick_trees.specs.UnitValues.{HasOwnWord, base_of}
use Rattle.quick_trees.specs.UnitValues.{IsExact}
use Rattle.quick_trees.specs.TreeCode.{Exits, IsAssignment, IsStored, IsStoredWithin, IsTestedFor}
use Rattle.quick_trees.proofs.Stepping.{HasBranched, has_taken, stepped}
use Rattle.quick_trees.proofs.Memories.{IsSite, Spares, deeper, holds_assigned, holds_stored, keeps_both, keeps_word}
use Rattle.quick_trees.proofs.Memories.{marks_of, noted_assignment, noted_look, own_value, spares_all, spares_both}
use Rattle.quick_trees.proofs.Memories.{spares_kept, spares_own, still_told}
use Rattle.quick_trees.proofs.Elements.{has_stored, of_store, place_is}
use Rattle.quick_code.specs.Words.{element_place}
use Rattle.quick_trees.proofs.Settings.{Setting, scope_of}
use Rattle.quick_trees.proofs.Truths.{then_gives}
use Rattle.quick_trees.proofs.Reading.{AreHeld, From, leads_on, leads_there, led_by, led_first, reads}
use Rattle.quick_trees.proofs.Reading.{reads_apart}
use Rattle.quick_trees.proofs.Testing.{made, tested, truth_is}

-- the point that a run of statements reaches if it ends so
abbrev pub reached : Exits → Point → MarkedEnd → Point
reached e q (goes_on t) = q
reached e q (exits t) = e.out
reached e q (returns t) = e.back

-- a tick is taken
pub ticks_on : {A : Type 0} (t u : ℕ) (g : Unit {0} → Run A) → t ≡ suc u → follow (tick t) g ≡ g tt u
ticks_on t u g e = ap (λ n. follow (tick n) g) e

-- a slot takes a value of its type
pub puts : (s : StuckFaults) (tr : Tracked) (k : ℕ) (t : Kind) (v w : ℤ) (n : ℕ)
    → slice_get tr.values k ≡ Some (datum_at t v) → IsHeld (datum_at t w)
    → marked_put s tr k (datum_at t w) n ≡ Ok (assigned_slot tr k (datum_at t w), n)
puts s tr k t v w n at held =
    ap (λ o. attempt s (or_failure ill_typed (replaced tr k (datum_at t w) o)) n) at
    ∙ ap₂ (λ a b. attempt s (or_failure ill_typed
    (if a && b then Some (assigned_slot tr k (datum_at t w)) else None)) n) (same_kind-refl t) held

module _ (s : Setting) where
  abbrev z : MarkedScope
  z = scope_of s

  -- Statements ended so, with n ticks of the tree: those that the machine has left and those ahead.
  pub record HasEnded (d : ℕ) (e : Exits) (q : Point) (m : Memory) (end : MarkedEnd) (n : ℕ) : Type 0 where
    pub memory : Memory
    pub left : ℕ
    pub ticks : n ≡ left + (reached e q end).ahead
    pub spares : Spares s.frame s.site d m memory
    pub is : AreHeld s (reached e q end) memory (state_of end)
    pub ends : EndsWellAt s.frame (reached e q end).place memory left s.finish

  -- A part was run.
  pub record HasRun (run : Tracked → Run MarkedEnd) (d : ℕ) (e : Exits) (q : Point) (m : Memory) (tr : Tracked)
      (n : ℕ) :
      Type 0
    where
      pub end : MarkedEnd
      pub rest : ℕ
      pub gives : run tr n ≡ Ok (end, rest)
      pub fewer : rest ≤ n
      pub ended : HasEnded d e q m end rest

  -- how code does what a part means, with temporaries free from a depth on
  abbrev pub Does : (Tracked → Run MarkedEnd) → ℕ → Exits → CodeRelation → Type 0
  Does run d e part =
      (p q : Point) → part p q → From s d p (λ m tr b. HasRun run d e q m tr (b + p.ahead))

  -- it ended in a later memory
  later : (d c : ℕ) (e : Exits) (q : Point) (m n : Memory) (end : MarkedEnd) (rest : ℕ) → d ≤ c
      → Spares s.frame s.site d m n → HasEnded c e q n end rest → HasEnded d e q m end rest
  later d c e q m n end rest le spares h = record {
    memory = h.memory;
    left = h.left;
    ticks = h.ticks;
    spares = spares_both s.frame s.site d c m n h.memory le spares h.spares;
    is = h.is;
    ends = h.ends;
  }

  -- a part with the same result was run as well
  pub gives_same : (run go : Tracked → Run MarkedEnd) (d : ℕ) (e : Exits) (q : Point) (m n : Memory) (tr us : Tracked)
      (t u : ℕ) → run tr t ≡ go us u → u ≤ t → Spares s.frame s.site d m n → HasRun go d e q n us u
      → HasRun run d e q m tr t
  gives_same run go d e q m n tr us t u same le spares h = record {
    end = h.end;
    rest = h.rest;
    gives = same ∙ h.gives;
    fewer = (let few = h.fewer in omega arith);
    ended = later d d e q m n h.end h.rest (omega arith) spares h.ended;
  }

  pub nothing : (run : Tracked → Run MarkedEnd) (d : ℕ) (e : Exits) (q : Point) (m : Memory) (tr : Tracked) (b t n : ℕ)
      → AreHeld s q m tr → EndsWellAt s.frame q.place m b s.finish → run tr t ≡ Ok (goes_on tr, n) → n ≡ b + q.ahead → n ≤ t
      → HasRun run d e q m tr t
  nothing run d e q m tr b t n is runs gives ticks fewer = record {
    end = goes_on tr;
    rest = n;
    gives = gives;
    fewer = fewer;
    ended = record {
      memory = m;
      left = b;
      ticks = ticks;
      spares = spares_all s.frame s.site d m;
      is = is;
      ends = runs;
    };
  }

  -- a point that is another, with no more known of its notes
  pub held_met : (p q : Point) (m : Memory) (tr : Tracked) → Refines p q → AreHeld s p m tr → AreHeld s q m tr
  held_met p q m tr met is = still_told s.frame s.site s.around p.noted m tr is q.noted met.noted

  pub ends_met : (p q : Point) (m : Memory) (b : ℕ) → Refines p q → EndsWellAt s.frame p.place m b s.finish
      → EndsWellAt s.frame q.place m b s.finish
  ends_met p q m b met runs = subst (λ p. EndsWellAt s.frame p m b s.finish) met.place runs

  pub met : (d : ℕ) (e : Exits) (p q : Point) (m : Memory) (end : MarkedEnd) (n : ℕ) → Refines p q
      → HasEnded d e p m end n → HasEnded d e q m end n
  met d e p q m (goes_on t) n same h = record {
    memory = h.memory;
    left = h.left;
    ticks = h.ticks ∙ ap (λ a. h.left + a) same.ahead;
    spares = h.spares;
    is = held_met p q h.memory t same h.is;
    ends = ends_met p q h.memory h.left same h.ends;
  }
  met d e p q m (exits t) n same h =
      record { memory = h.memory; left = h.left; ticks = h.ticks; spares = h.spares; is = h.is; ends = h.ends }
  met d e p q m (returns t) n same h =
      record { memory = h.memory; left = h.left; ticks = h.ticks; spares = h.spares; is = h.is; ends = h.ends }

  -- A run came to a point by a jump, or was there.
  pub record HasJoined (q : Point) (m : Memory) (tr : Tracked) (n : ℕ) : Type 0 where
    pub left : ℕ
    pub ticks : n ≡ left + q.ahead
    pub is : AreHeld s q m tr
    pub ends : EndsWellAt s.frame q.place m left s.finish

  pub has_joined : (p q : Point) (m : Memory) (tr : Tracked) (b n : ℕ) → Joins s.frame p q → n ≡ b + p.ahead
      → AreHeld s p m tr → EndsWellAt s.frame p.place m b s.finish → HasJoined q m tr n
  has_joined p q m tr b n (inl same) ticks is runs = record {
    left = b;
    ticks = ticks ∙ ap (λ a. b + a) same.ahead;
    is = held_met p q m tr same is;
    ends = ends_met p q m b same runs;
  }
  has_joined p q m tr b n (inr j) ticks is runs =
      let took = has_taken s.frame p.place s.finish j.way m b (stepped s.frame p.place s.finish m b _ runs j.stands) in
      let enough = took.0 in
      let ahead = j.meets.ahead in record {
        left = b - j.way.ticks;
        ticks = omega arith;
        is = still_told s.frame s.site s.around p.noted m tr is q.noted j.meets.noted;
        ends = subst (λ q. EndsWellAt s.frame q m (b - j.way.ticks) s.finish) j.meets.place took.1;
      }

  pub joined : (d : ℕ) (e : Exits) (p q : Point) (m : Memory) (end : MarkedEnd) (n : ℕ) → Joins s.frame p q
      → HasEnded d e p m end n → HasEnded d e q m end n
  joined d e p q m (goes_on t) n joins h =
      let j = has_joined p q h.memory t h.left n joins h.ticks h.is h.ends in
      record { memory = h.memory; left = j.left; ticks = j.ticks; spares = h.spares; is = j.is; ends = j.ends }
  joined d e p q m (exits t) n joins h =
      record { memory = h.memory; left = h.left; ticks = h.ticks; spares = h.spares; is = h.is; ends = h.ends }
  joined d e p q m (returns t) n joins h =
      record { memory = h.memory; left = h.left; ticks = h.ticks; spares = h.spares; is = h.is; ends = h.ends }

  pub run_joined : (run : Tracked → Run MarkedEnd) (d : ℕ) (e : Exits) (p q : Point) (m : Memory) (tr : Tracked) (n : ℕ)
      → Joins s.frame p q → HasRun run d e p m tr n → HasRun run d e q m tr n
  run_joined run d e p q m tr n joins h = record {
    end = h.end;
    rest = h.rest;
    gives = h.gives;
    fewer = h.fewer;
    ended = joined d e p q m h.end h.rest joins h.ended;
  }

  -- Looks and assignments that come were noted.
  pub record HasNoted (p q : Point) (m : Memory) (tr : Tracked) (b : ℕ) : Type 0 where
    pub memory : Memory
    pub words : memory.words ≡ m.words
    pub ahead : p.ahead ≡ q.ahead
    pub is : AreHeld s q memory tr
    pub ends : EndsWellAt s.frame q.place memory b s.finish

  noted_once : (n : Note) (p q : Point) (m : Memory) (tr : Tracked) (b : ℕ) → IsNoted s.frame n p q → AreHeld s p m tr
      → EndsWellAt s.frame p.place m b s.finish → HasNoted p q m tr b
  noted_once (look_of k) p q m tr b is of runs = record {
    memory = note noted_read k m;
    words = refl;
    ahead = sym (ap (λ (q : Point). q.ahead) is.1.0);
    is = record {
      noted = noted_look s.frame p.noted (marks_of s.site s.around tr) m of.noted k q.noted is.1.1;
      stays = of.stays;
      long = of.long;
      values = λ j w t at has. (let v = of.values j w t at has in record { is = v.is; held = v.held });
    };
    ends = subst (λ i. EndsWellAt s.frame i (note noted_read k m) b s.finish) (sym (ap (λ (q : Point). q.place) is.1.0))
        (stepped s.frame p.place s.finish m b (NoteRead k) runs is.0);
  }
  noted_once (assignment_of k) p q m tr b is of runs = record {
    memory = note noted_written k m;
    words = refl;
    ahead = sym (ap (λ (q : Point). q.ahead) is.1.0);
    is = record {
      noted = noted_assignment s.frame p.noted (marks_of s.site s.around tr) m of.noted k q.noted is.1.1;
      stays = of.stays;
      long = of.long;
      values = λ j w t at has. (let v = of.values j w t at has in record { is = v.is; held = v.held });
    };
    ends = subst (λ i. EndsWellAt s.frame i (note noted_written k m) b s.finish) (sym (ap (λ (q : Point). q.place) is.1.0))
        (stepped s.frame p.place s.finish m b (NoteWritten k) runs is.0);
  }

  pub has_noted : (ns : List Note) (p q : Point) (m : Memory) (tr : Tracked) (b : ℕ) → AllNoted s.frame ns p q
      → AreHeld s p m tr → EndsWellAt s.frame p.place m b s.finish → HasNoted p q m tr b
  has_noted [] p q m tr b is of runs =
      subst (λ q. HasNoted p q m tr b) is (record { memory = m; words = refl; ahead = refl; is = of; ends = runs })
  has_noted (n ∷ ns) p q m tr b is of runs =
      let one = noted_once n p is.0 m tr b is.1.0 of runs in
      let rest = has_noted ns is.0 q one.memory tr b is.1.1 one.is one.ends in record {
        memory = rest.memory;
        words = rest.words ∙ one.words;
        ahead = one.ahead ∙ rest.ahead;
        is = rest.is;
        ends = rest.ends;
      }

  pub spares_words : (d : ℕ) (m n : Memory) → n.words ≡ m.words → Spares s.frame s.site d m n
  spares_words d m n same = record {
    long = ap length same;
    same = λ w lt not_own. ap (λ ws. slice_get ws w) same;
  }

  -- a part after notes
  pub noting : (run : Tracked → Run MarkedEnd) (d : ℕ) (e : Exits) (part : CodeRelation) → Does run d e part
      → Does run d e (InSequence (AreNoted s.frame) part)
  noting run d e part does p q r m tr b site is runs =
      let n = has_noted r.first.notes p r.middle m tr b r.first.all is runs in
      let same = n.ahead in
      let at : b + p.ahead ≡ b + r.middle.ahead = omega arith in
      gives_same run run d e q m n.memory tr tr (b + p.ahead) (b + r.middle.ahead) (ap (run tr) at) (omega arith)
      (spares_words d m n.memory n.words) (does r.middle q r.second n.memory tr b site n.is n.ends)

  pub ticked : (run : Tracked → Run MarkedEnd) (d : ℕ) (e : Exits) (rest : CodeRelation) → Does run d e rest
      → Does (λ tr. tick >> run tr) d e (IsTicked rest)
  ticked run d e rest does p q r m tr b site is runs =
      let ticks = r.ticks in
      let at : b + p.ahead ≡ suc (b + r.behind) = omega arith in
      gives_same (λ tr. tick >> run tr) run d e q m m tr tr (b + p.ahead) (b + r.behind)
      (ticks_on (b + p.ahead) (b + r.behind) (λ _. run tr) at) (omega arith) (spares_all s.frame s.site d m)
      (does (record p { ahead = r.behind }) q r.rest m tr b site is runs)

  pub does_nothing : (d : ℕ) (e : Exits) → Does (λ tr. give (goes_on tr)) d e Refines
  does_nothing d e p q same m tr b site is runs =
      nothing (λ tr. give (goes_on tr)) d e q m tr b (b + p.ahead) (b + p.ahead) (held_met p q m tr same is)
      (ends_met p q m b same runs) refl (ap (λ a. b + a) same.ahead) (omega arith)

  -- EXIT, and RETURN
  pub does_exit : (d : ℕ) (e : Exits) → Does (λ tr. give (exits tr)) d e (λ p q. Joins s.frame p e.out)
  does_exit d e p q joins m tr b site is runs =
      let j = has_joined p e.out m tr b (b + p.ahead) joins refl is runs in record {
        end = exits tr;
        rest = b + p.ahead;
        gives = refl;
        fewer = omega arith;
        ended = record {
          memory = m;
          left = j.left;
          ticks = j.ticks;
          spares = spares_all s.frame s.site d m;
          is = j.is;
          ends = j.ends;
        };
      }

  pub does_return : (d : ℕ) (e : Exits) → Does (λ tr. give (returns tr)) d e (λ p q. Joins s.frame p e.back)
  does_return d e p q joins m tr b site is runs =
      let j = has_joined p e.back m tr b (b + p.ahead) joins refl is runs in record {
        end = returns tr;
        rest = b + p.ahead;
        gives = refl;
        fewer = omega arith;
        ended = record {
          memory = m;
          left = j.left;
          ticks = j.ticks;
          spares = spares_all s.frame s.site d m;
          is = j.is;
          ends = j.ends;
        };
      }

  -- a value is assigned to a slot that a place leads to
  pub assigns : (l : Place) (y : SlotExpr) (tr tr' tr'' : Tracked) (a b c k : ℕ) (t : Kind) (w old : ℤ)
      → marked_value z tr y a ≡ Ok ((datum_at t w, tr'), b) → marked_place z tr' l b ≡ Ok ((k, tr''), c)
      → slice_get tr''.values k ≡ Some (datum_at t old) → IsHeld (datum_at t w)
      → marked_assigning z l y tr a ≡ Ok (goes_on (assigned_slot tr'' k (datum_at t w)), c)
  assigns l y tr tr' tr'' a b c k t w old value led at held =
      then_gives (marked_value z tr y a) (datum_at t w, tr') b
      (λ v. λ n. follow (marked_place z v.1 l n)
      (λ l. λ n. follow (marked_put s.stuck_faults l.1 l.0 v.0 n) (λ m. give (goes_on m)))) value
      ∙ then_gives (marked_place z tr' l b) (k, tr'') c
      (λ l. λ n. follow (marked_put s.stuck_faults l.1 l.0 (datum_at t w) n) (λ m. give (goes_on m))) led
      ∙ then_gives (marked_put s.stuck_faults tr'' k (datum_at t w) c) (assigned_slot tr'' k (datum_at t w)) c
      (λ m. give (goes_on m)) (puts s.stuck_faults tr'' k t old w c at held)

  pub does_assign : (a : Anchor) (y : SlotExpr) (d : ℕ) (e : Exits)
      → Does (marked_assigning z (place a no_subscripts) y) d e (IsAssignment s.frame s.site s.units a y d)
  does_assign a y d e p q r m tr b site is runs =
      let k = slot_at (base_of s.site) a in
      let t = r.kind in
      let done = made s y t d r.word p r.made r.makes m tr b site is runs in
      let old = own_value s.frame s.site s.around r.made.noted done.memory done.tracked done.is d site k r.word t
      r.target r.own in
      let after = assigned_slot done.tracked k (datum_at t done.word) in
      let m' = with_word done.memory r.word done.word in
      let rest = done.left + r.made.ahead in
      record {
        end = goes_on after;
        rest = rest;
        gives = assigns (place a no_subscripts) y tr done.tracked done.tracked (b + p.ahead) rest rest k t done.word
            (look done.memory r.word) done.gives refl old.is done.held;
        fewer = done.fewer;
        ended = subst (λ q. HasEnded d e q m (goes_on after) rest) (sym r.is) (record {
          memory = m';
          left = done.left;
          ticks = refl;
          spares = spares_both s.frame s.site d d m done.memory m' (omega arith)
              (spares_kept s.frame s.site d m done.memory done.keeps)
              (spares_own s.frame s.site d done.memory m' k r.word t done.word r.target r.own refl);
          is = holds_assigned s.frame s.site s.around r.made.noted done.memory done.tracked done.is d site k r.word t
              r.target r.own done.word done.held q.noted r.touches;
          ends = done.ends;
        });
      }

  pub does_store : (a : Anchor) (i : SlotExpr) (lower : ℤ) (count stride : ℕ) (y : SlotExpr) (d : ℕ) (e : Exits)
      → Does (marked_assigning z (place a (subscript_then i lower count stride no_subscripts)) y) d e
      (IsStored s.frame s.site s.units a i lower count stride y d)
  does_store a i lower count stride y d e p q r m tr b site is runs =
      let first = slot_at (base_of s.site) a in
      let t = r.kind in
      let one = reads s y t d r.from p r.middle r.value m tr b site is runs in
      let two = reads_apart s i (suc d) r.subscript.kind
      r.subscript.added r.at r.middle r.last r.subscript.reads one.memory one.tracked one.left
      (deeper s.frame s.site d (suc d) (omega arith) site) one.is one.ends in
      let kept = keeps_word (suc d) one.memory two.memory r.from two.keeps one.low in
      let w = look two.memory r.from in
      let held = subst (λ w. IsHeld (datum_at t w)) (sym kept) one.held in
      let value = one.gives ∙ ap (λ w. Ok ((datum_at t w, one.tracked), one.left + r.middle.ahead)) (sym kept) in
      let done = has_stored s.frame r.last.place s.finish two.memory two.left r.at r.shift r.from r.word count stride
      r.stores two.ends in
      let there = leads_there s i lower r.shift count (suc d) r.at r.middle r.last one.memory one.tracked one.left
      r.subscript two first r.word stride done.place done.is in
      let leads = there.is in
      let k = first + leads.before * stride in
      let own = subst (HasOwnWord s.frame.window s.site k) (sym leads.place) (r.elements.words leads.before
      leads.less) in
      let target = r.elements.each leads.before leads.less in
      let old = own_value s.frame s.site s.around r.last.noted two.memory two.tracked two.is d site k done.place t
      target
      own in
      let after = assigned_slot two.tracked k (datum_at t w) in
      let m' = with_word (note noted_written done.place two.memory) done.place w in
      let rest = two.left + r.last.ahead in
      let keeps = keeps_both d (suc d) m one.memory two.memory (omega arith) one.keeps two.keeps in
      let few_one = one.fewer in
      let few_two = two.fewer in
      record {
        end = goes_on after;
        rest = rest;
        gives = assigns (place a (subscript_then i lower count stride no_subscripts)) y tr one.tracked two.tracked
            (b + p.ahead) (one.left + r.middle.ahead) rest k t w (look two.memory done.place) value
            (led_by s i lower first count stride there.kind there.value k one.tracked two.tracked
            (one.left + r.middle.ahead) rest there.gives leads.leads)
            old.is held;
        fewer = omega arith;
        ended = subst (λ q. HasEnded d e q m (goes_on after) rest) (sym r.is) (record {
          memory = m';
          left = two.left;
          ticks = refl;
          spares = spares_both s.frame s.site d d m two.memory m' (omega arith)
              (spares_kept s.frame s.site d m two.memory keeps)
              (spares_own s.frame s.site d two.memory m' k done.place t w target own refl);
          is = holds_stored s.frame s.site s.around r.last.noted two.memory two.tracked two.is d site k done.place t
              target own w held
              (subst (IsExact s.site r.last.noted) (sym leads.place) (r.elements.exact leads.before leads.less));
          ends = done.ends;
        });
      }

  pub does_store_within : (a : Anchor) (i : SlotExpr) (lower : ℤ) (count stride : ℕ) (ss : Subscripts) (y : SlotExpr)
      (d : ℕ) (e : Exits)
      → Does (marked_assigning z (place a (subscript_then i lower count stride ss)) y) d e
      (IsStoredWithin s.frame s.site s.units a i lower count stride ss y d)
  does_store_within a i lower count stride ss y d e p q r m tr b site is runs =
      let first = slot_at (base_of s.site) a in
      let t = r.kind in
      let v = r.stores.word in
      let one = reads s y t d r.from p r.middle r.value m tr b site is runs in
      let two = led_first s i lower count stride ss (suc d) first
      (λ i n count stride. StoreNested (suc d) i n r.from v count stride) r.middle q
      (reads_apart s i (suc d))
      (leads_on s ss (suc d)) r.stores.led one.memory one.tracked one.left
      (deeper s.frame s.site d (suc d) (omega arith) site) one.is one.ends in
      let found = element_place v two.count two.stride (look two.memory two.index +ℤ two.shift) in
      let kept = keeps_word (suc d) one.memory two.memory r.from two.keeps one.low in
      let w = look two.memory r.from in
      let held = subst (λ w. IsHeld (datum_at t w)) (sym kept) one.held in
      let value = one.gives ∙ ap (λ w. Ok ((datum_at t w, one.tracked), one.left + r.middle.ahead)) (sym kept) in
      let done = of_store s.frame two.place s.finish two.memory two.left (nested_place two.memory (suc d) found) w
      (stepped s.frame two.place s.finish two.memory two.left _ two.ends two.stands) in
      let here = place_is two.memory (suc d) two.offset done.place found two.is_offset done.is in
      let comes = two.comes v here.before here.is in
      let o = comes.offset in
      let k = first + o in
      let word : done.place ≡ v + o = omega (arith, here.place_is, comes.place) in
      let slot : first + (0 + o) ≡ k = omega arith in
      let target = r.stores.reached.each o comes.reached in
      let own = subst (HasOwnWord s.frame.window s.site k) (sym word) (r.stores.reached.words o comes.reached) in
      let old = own_value s.frame s.site s.around q.noted two.memory two.tracked two.is d site k done.place t target own
      in
      let after = assigned_slot two.tracked k (datum_at t w) in
      let m' = with_word (note noted_written done.place two.memory) done.place w in
      let rest = two.left + q.ahead in
      let keeps = keeps_both d (suc d) m one.memory two.memory (omega arith) one.keeps two.keeps in
      let few_one = one.fewer in
      let few_two = two.fewer in
      record {
        end = goes_on after;
        rest = rest;
        gives = assigns (place a (subscript_then i lower count stride ss)) y tr one.tracked two.tracked (b + p.ahead)
            (one.left + r.middle.ahead) rest k t w (look two.memory done.place) value
            (comes.gives ∙ ap (λ k. Ok ((k, two.tracked), rest)) slot) old.is held;
        fewer = omega arith;
        ended = record {
          memory = m';
          left = two.left;
          ticks = refl;
          spares = spares_both s.frame s.site d d m two.memory m' (omega arith)
              (spares_kept s.frame s.site d m two.memory keeps)
              (spares_own s.frame s.site d two.memory m' k done.place t w target own refl);
          is = holds_stored s.frame s.site s.around q.noted two.memory two.tracked two.is d site k done.place t target
              own w held (subst (IsExact s.site q.noted) (sym word) (r.stores.reached.exact o comes.reached));
          ends = subst (λ i. EndsWellAt s.frame i m' two.left s.finish) (sym two.next) done.ends;
        };
      }

  -- one part after another, unless this left the unit or a loop
  module _ (run go : Tracked → Run MarkedEnd) (d : ℕ) (e : Exits) (p q : Point) (m : Memory) (tr : Tracked) (n : ℕ)
      (next : (us : Tracked) (rest : ℕ) → (h : HasEnded d e p m (goes_on us) rest) → rest ≤ n
      → HasRun go d e q h.memory us rest) where
    abbrev both : Tracked → Run MarkedEnd
    both us = λ b. follow (run us b) (λ e. continue_with e go)

    by_end : (end : MarkedEnd) (rest : ℕ) → run tr n ≡ Ok (end, rest) → rest ≤ n → HasEnded d e p m end rest
        → HasRun both d e q m tr n
    by_end (goes_on us) rest gives fewer h =
        gives_same both go d e q m h.memory tr us n rest (then_gives (run tr n) (goes_on us) rest
        (λ e. continue_with e go) gives)
        fewer h.spares (next us rest h fewer)
    by_end (exits us) rest gives fewer h = record {
      end = exits us;
      rest = rest;
      gives = then_gives (run tr n) (exits us) rest (λ e. continue_with e go) gives;
      fewer = fewer;
      ended = record {
        memory = h.memory;
        left = h.left;
        ticks = h.ticks;
        spares = h.spares;
        is = h.is;
        ends = h.ends;
      };
    }
    by_end (returns us) rest gives fewer h = record {
      end = returns us;
      rest = rest;
      gives = then_gives (run tr n) (returns us) rest (λ e. continue_with e go) gives;
      fewer = fewer;
      ended = record {
        memory = h.memory;
        left = h.left;
        ticks = h.ticks;
        spares = h.spares;
        is = h.is;
        ends = h.ends;
      };
    }

    then_run : HasRun run d e p m tr n → HasRun both d e q m tr n
    then_run h = by_end h.end h.rest h.gives h.fewer h.ended

  pub in_turn : (run go : Tracked → Run MarkedEnd) (d : ℕ) (e : Exits) (First Second : CodeRelation) → Does run d e First
      → Does go d e Second → Does (λ tr. λ b. follow (run tr b) (λ e. continue_with e go)) d e (InSequence First Second)
  in_turn run go d e First Second one two p q r m tr b site is runs =
      then_run run go d e r.middle q m tr (b + p.ahead)
      (λ us rest h fewer. subst (HasRun go d e q h.memory us) (sym h.ticks)
      (two r.middle q r.second h.memory us h.left site h.is h.ends))
      (one p r.middle r.first m tr b site is runs)

  module _ (x : SlotExpr) (d : ℕ) (e : Exits) (body rest : Tracked → Run MarkedEnd) (Body Rest : CodeRelation)
      (does_body : Does body d e Body) (does_rest : Does rest d e Rest) where
    chosen : (p q : Point) (r : IsArm s.frame (IsTestedFor s.frame s.site s.units x false d) Body Rest p q) (m : Memory)
        (tr : Tracked) (b : ℕ) → IsSite s.frame s.site d → AreHeld s r.test m tr → (go : Bool)
        → HasBranched s.frame r.test.place s.finish (not go) r.way r.past m b
        → HasRun (λ us. if go then body us else rest us) d e q m tr (b + r.test.ahead)
    chosen p q r m tr b site is true h =
        let enough = h.0 in
        let same : b - r.past + (r.test.ahead + r.past) ≡ b + r.test.ahead = omega arith in
        run_joined body d e r.end q m tr (b + r.test.ahead) r.joins
        (subst (HasRun body d e r.end m tr) same
        (does_body (record { place = suc r.test.place; ahead = r.test.ahead + r.past; noted = r.test.noted }) r.end
        r.body
        m tr (b - r.past) site is h.1))
    chosen p q r m tr b site is false h =
        let enough = h.0 in
        let same : b - r.way.ticks + (r.test.ahead + r.way.ticks) ≡ b + r.test.ahead = omega arith in
        subst (HasRun rest d e q m tr) same
        (does_rest
        (record { place = r.way.place; ahead = r.test.ahead + r.way.ticks; noted = r.test.noted }) q r.rest m tr
        (b - r.way.ticks) site is h.1)

    pub does_arm : Does (λ tr. λ b. follow (marked_truth z x tr b) (λ r. if r.0 then body r.1 else rest r.1)) d e
        (IsArm s.frame (IsTestedFor s.frame s.site s.units x false d) Body Rest)
    does_arm p q r m tr b site is runs =
        let t = tested s x false d p r.test r.way r.past r.tested m tr b site is runs in
        gives_same (λ tr. λ b. follow (marked_truth z x tr b) (λ r. if r.0 then body r.1 else rest r.1))
        (λ us. if t.go then body us else rest us) d e q m t.memory tr t.tracked (b + p.ahead) (t.left + r.test.ahead)
        (then_gives (marked_truth z x tr (b + p.ahead)) (t.go, t.tracked) (t.left + r.test.ahead)
        (λ r. if r.0 then body r.1 else rest r.1)
        (truth_is s x tr t.tracked t.go (b + p.ahead) (t.left + r.test.ahead) t.value))
        t.fewer (spares_kept s.frame s.site d m t.memory t.keeps)
        (chosen p q r t.memory t.tracked t.left site t.is t.go t.ends)
