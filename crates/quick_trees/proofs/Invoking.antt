-- Code that calls a block does what the call means.
use Rattle.std.proofs.Common.{◌≡◌, ℕ, ℤ, suc, ◌+◌, ◌≤◌, List, [], ◌∷◌, Some, Result, Ok, refl, sym, ap, ap₂, subst, ◌∙◌}
use Rattle.std.proofs.Common.{arith}
use Rattle.st_types.specs.declared.fault.Fault.{Fault}
use Rattle.st_types.specs.declared.kind.Kind.{Kind}
use Rattle.std.specs.Prelude.{slice_get}
use Rattle.st_types.specs.Values.{Datum, IsHeld}
use Rattle.st_types.specs.Words.{datum_at}
use Rattle.st_meaning.specs.Failures.{StuckFaults, ill_typed, or_failure}
use Rattle.st_meaning.specs.Loops.{goes_on}
use Rattle.st_meaning.specs.Ticks.{attempt, follow, give}
use Rattle.machine_code.specs.Tracking.{Tracked, looked, assigned_slot}
use Rattle.quick_code.specs.declared.quick_instr.QuickInstr.TheVariants.{Move}
use Rattle.quick_code.specs.QuickSteps.{Memory, look, with_word}
use Rattle.slot_trees.specs.SlotTrees.{Anchor, BlockCode, SlotArgument, copied, given, no_subscripts, place}
use Rattle.slot_trees.specs.SlotTrees.{subscript_then}
use Rattle.slot_trees.specs.SlotEvaluation.{slot_at}
use Rattle.machine_code.specs.MarkedEvaluation.{MarkedScope, marked_look, marked_place, marked_value}
use Rattle.machine_code.specs.MarkedExecution.{marked_inputs, marked_invoking, marked_outputs, marked_put, marked_stored}
use Rattle.quick_trees.specs.declared.noting.Noting.{Noting}
use Rattle.quick_trees.specs.Pieces.{AreElsewhere, Input}
use Rattle.quick_trees.specs.Points.{Point}
use Rattle.quick_trees.specs.QuickMemory.{EndsWellAt, Frame}
use Rattle.quick_trees.specs.UnitValues.{IsProgramOrBlock, UnitValues, base_of, called, whole}
use Rattle.quick_trees.specs.TreeCode.{Exits, InputsGiven, InputsRead, IsCopied, IsGiven, IsInvoked, OutputsCopied}
use Rattle.quick_trees.proofs.Stepping.{stepped}
use Rattle.quick_trees.proofs.Memories.{Holds, IsSite, Keeps, Spares, deeper, holds_assigned, holds_looked, keeps_all}
use Rattle.quick_trees.proofs.Memories.{keeps_both, keeps_word, own_value, spares_all, spares_both, spares_kept}
use Rattle.quick_trees.proofs.Memories.{spares_own, with_look, word_elsewhere}
use Rattle.quick_trees.proofs.Settings.{Setting, scope_of}
use Rattle.quick_trees.proofs.Truths.{then_gives}
use Rattle.quick_trees.proofs.Reading.{AreHeld, From}
use Rattle.quick_trees.proofs.Testing.{kept_in}
use Rattle.quick_trees.proofs.Running.{Does, has_noted, puts, spares_words}

-- all slots of the layout, with their marks, are the values of a program and of each block
pub whole_holds : (f : Frame) (s : UnitValues) (at : ℕ) (around : Tracked) (ns : List Noting) (m : Memory) (tr : Tracked)
    → IsProgramOrBlock s → Holds f s around ns m tr → Holds f (whole at) around ns m tr
whole_holds f (whole base) at around ns m tr is holds = record {
  noted = holds.noted;
  stays = holds.stays;
  long = holds.long;
  values = λ k w t at has. holds.values k w t at has;
}
whole_holds f (called kinds seats) at around ns m tr is holds = absurd is

holds_whole : (f : Frame) (s : UnitValues) (at : ℕ) (around : Tracked) (ns : List Noting) (m : Memory) (tr : Tracked)
    → IsProgramOrBlock s → Holds f (whole at) around ns m tr → Holds f s around ns m tr
holds_whole f (whole base) at around ns m tr is holds = record {
  noted = holds.noted;
  stays = holds.stays;
  long = holds.long;
  values = λ k w t at has. holds.values k w t at has;
}
holds_whole f (called kinds seats) at around ns m tr is holds = absurd is

spares_whole : (f : Frame) (s : UnitValues) (at d : ℕ) (m n : Memory) → IsProgramOrBlock s → Spares f (whole at) d m n
    → Spares f s d m n
spares_whole f (whole base) at d m n is spares =
    record { long = spares.long; same = λ w lt not_own. spares.same w lt not_own }
spares_whole f (called kinds seats) at d m n is spares = absurd is

-- the members with the values that their inputs' words have
abbrev given_in : Memory → List Input → List (ℕ × Datum)
given_in m [] = []
given_in m (i ∷ inputs) = (i.member, datum_at i.kind (look m i.word)) ∷ given_in m inputs

-- each of them is one that its type has
abbrev AreGivenIn : Memory → List Input → Type 0
AreGivenIn m [] = Unit {0}
AreGivenIn m (i ∷ inputs) = IsHeld (datum_at i.kind (look m i.word)) × AreGivenIn m inputs

-- another word is assigned
given_still : (m : Memory) (k : ℕ) (w : ℤ) (inputs : List Input) → AreElsewhere k inputs
    → given_in (with_word m k w) inputs ≡ given_in m inputs
given_still m k w [] away = refl
given_still m k w (i ∷ inputs) away =
    ap₂ (λ x xs. (i.member, datum_at i.kind x) ∷ xs) (word_elsewhere m i.word k w away.0)
    (given_still m k w inputs away.1)

held_still : (m : Memory) (k : ℕ) (w : ℤ) (inputs : List Input) → AreElsewhere k inputs → AreGivenIn m inputs
    → AreGivenIn (with_word m k w) inputs
held_still m k w [] away held = tt
held_still m k w (i ∷ inputs) away held = (
  subst (λ x. IsHeld (datum_at i.kind x)) (sym (word_elsewhere m i.word k w away.0)) held.0,
  held_still m k w inputs away.1 held.1,
)

module _ (s : Setting) where
  abbrev z : MarkedScope
  z = scope_of s

  -- The inputs were read.
  record HaveInputs (arguments : List SlotArgument) (d : ℕ) (inputs : List Input) (p q : Point) (m : Memory)
      (tr : Tracked) (b : ℕ) : Type 0 where
    memory : Memory
    tracked : Tracked
    left : ℕ
    gives : marked_inputs z tr arguments (b + p.ahead) ≡ Ok ((given_in memory inputs, tracked), left + q.ahead)
    fewer : left + q.ahead ≤ b + p.ahead
    keeps : Keeps d m memory
    is : AreHeld s q memory tracked
    held : AreGivenIn memory inputs
    ends : EndsWellAt s.frame q.place memory left s.finish

  inputs_read : (arguments : List SlotArgument) (d : ℕ) (inputs : List Input) (p q : Point)
      → InputsRead s.frame s.site s.units arguments d inputs p q → From s d p (HaveInputs arguments d inputs p q)
  inputs_read [] d [] p q is m tr b site of runs =
      subst (λ q. HaveInputs [] d [] p q m tr b) is (record {
        memory = m;
        tracked = tr;
        left = b;
        gives = refl;
        fewer = omega arith;
        keeps = keeps_all d m;
        is = of;
        held = tt;
        ends = runs;
      })
  inputs_read [] d (i ∷ inputs) p q is m tr b site of runs = absurd is
  inputs_read (given o e ∷ rest) d [] p q is m tr b site of runs = absurd is
  inputs_read (given o e ∷ rest) d (i ∷ inputs) p q is m tr b site of runs =
      let one = kept_in s e i.kind d i.word p is.1.middle is.1.first m tr b site of runs in
      let more = inputs_read rest (suc d) inputs is.1.middle q is.1.second one.memory one.tracked one.left
      (deeper s.frame s.site d (suc d) (omega arith) site) one.is one.ends in
      let same = keeps_word (suc d) one.memory more.memory i.word more.keeps one.low in
      let few_one = one.fewer in
      let few_more = more.fewer in
      let v = datum_at i.kind (look one.memory i.word) in
      record {
        memory = more.memory;
        tracked = more.tracked;
        left = more.left;
        gives = then_gives (marked_value z tr e (b + p.ahead)) (v, one.tracked) (one.left + is.1.middle.ahead)
            (λ r. λ n. follow (marked_inputs z r.1 rest n) (λ xs. give ((o, r.0) ∷ xs.0, xs.1))) one.gives
            ∙ then_gives (marked_inputs z one.tracked rest (one.left + is.1.middle.ahead))
            (given_in more.memory inputs, more.tracked) (more.left + q.ahead)
            (λ xs. give ((o, v) ∷ xs.0, xs.1)) more.gives
            ∙ ap (λ x. Ok (((o, datum_at i.kind x) ∷ given_in more.memory inputs, more.tracked), more.left + q.ahead))
            (sym same)
            ∙ ap (λ o. Ok (
              ((o, datum_at i.kind (look more.memory i.word)) ∷ given_in more.memory inputs, more.tracked),
              more.left + q.ahead,
            )) (sym is.0);
        fewer = omega arith;
        keeps = keeps_both d (suc d) m one.memory more.memory (omega arith) one.keeps more.keeps;
        is = more.is;
        held = (subst (λ x. IsHeld (datum_at i.kind x)) (sym same) one.held, more.held);
        ends = more.ends;
      }
  inputs_read (copied o x ∷ rest) d inputs p q is m tr b site of runs =
      let more = inputs_read rest d inputs p q is m tr b site of runs in record {
        memory = more.memory;
        tracked = more.tracked;
        left = more.left;
        gives = more.gives;
        fewer = more.fewer;
        keeps = more.keeps;
        is = more.is;
        held = more.held;
        ends = more.ends;
      }

  -- Slots were assigned, and no tick was taken.
  record HasDone (run : Tracked → ℕ → Result (Tracked × ℕ) Fault) (d : ℕ) (p q : Point) (m : Memory) (tr : Tracked)
      (b : ℕ) : Type 0 where
    memory : Memory
    tracked : Tracked
    gives : (n : ℕ) → run tr n ≡ Ok (tracked, n)
    ahead : p.ahead ≡ q.ahead
    spares : Spares s.frame s.site d m memory
    is : AreHeld s q memory tracked
    ends : EndsWellAt s.frame q.place memory b s.finish

  -- a word was moved to a variable
  record HasGiven (k : ℕ) (t : Kind) (from to d : ℕ) (p q : Point) (m : Memory) (tr : Tracked) (b : ℕ) : Type 0 where
    gives : (n : ℕ) → marked_put s.stuck_faults tr k (datum_at t (look m from)) n
        ≡ Ok (assigned_slot tr k (datum_at t (look m from)), n)
    ahead : p.ahead ≡ q.ahead
    spares : Spares s.frame s.site d m (with_word m to (look m from))
    is : AreHeld s q (with_word m to (look m from)) (assigned_slot tr k (datum_at t (look m from)))
    ends : EndsWellAt s.frame q.place (with_word m to (look m from)) b s.finish

  has_given : (k : ℕ) (t : Kind) (from to d : ℕ) (p q : Point) → IsGiven s.frame s.site s.units k t from to p q
      → (m : Memory) (tr : Tracked) (b : ℕ) → IsSite s.frame s.site d → AreHeld s p m tr
      → IsHeld (datum_at t (look m from)) → EndsWellAt s.frame p.place m b s.finish → HasGiven k t from to d p q m tr b
  has_given k t from to d p q r m tr b site of held runs =
      let w = look m from in
      let old = own_value s.frame s.site s.around p.noted m tr of d site k to t r.of_type r.own in
      subst (λ q. HasGiven k t from to d p q m tr b) (sym r.is) (record {
        gives = λ n. puts s.stuck_faults tr k t (look m to) w n old.is held;
        ahead = refl;
        spares = spares_own s.frame s.site d m (with_word m to w) k to t w r.of_type r.own refl;
        is = holds_assigned s.frame s.site s.around p.noted m tr of d site k to t r.of_type r.own w held q.noted
            r.touches;
        ends = stepped s.frame p.place s.finish m b (Move from to) runs r.stands;
      })

  inputs_given : (at : ℕ) (inputs : List Input) (d : ℕ) (p q : Point)
      → InputsGiven s.frame s.site s.units at inputs p q → (m : Memory) (tr : Tracked) (b : ℕ)
      → IsSite s.frame s.site d → AreHeld s p m tr → AreGivenIn m inputs → EndsWellAt s.frame p.place m b s.finish
      → HasDone (λ tr. marked_stored s.stuck_faults at (given_in m inputs) tr) d p q m tr b
  inputs_given at [] d p q is m tr b site of held runs =
      subst (λ q. HasDone (λ tr. marked_stored s.stuck_faults at [] tr) d p q m tr b) is (record {
        memory = m;
        tracked = tr;
        gives = λ n. refl;
        ahead = refl;
        spares = spares_all s.frame s.site d m;
        is = of;
        ends = runs;
      })
  inputs_given at (i ∷ inputs) d p q is m tr b site of held runs =
      let k = at + i.member in
      let w = look m i.word in
      let v = datum_at i.kind w in
      let to = is.0 in
      let both = is.1.1 in
      let one = has_given k i.kind i.word to d p both.middle both.first m tr b site of held.0 runs in
      let m' = with_word m to w in
      let more = inputs_given at inputs d both.middle q both.second m' (assigned_slot tr k v) b site one.is
      (held_still m to w inputs is.1.0 held.1) one.ends in
      record {
        memory = more.memory;
        tracked = more.tracked;
        gives = λ n. then_gives (marked_put s.stuck_faults tr k v n) (assigned_slot tr k v) n
            (λ us. marked_stored s.stuck_faults at (given_in m inputs) us) (one.gives n)
            ∙ ap (λ xs. marked_stored s.stuck_faults at xs (assigned_slot tr k v) n) (sym (given_still m to w inputs is.1.0))
            ∙ more.gives n;
        ahead = one.ahead ∙ more.ahead;
        spares = spares_both s.frame s.site d d m m' more.memory (omega arith) one.spares more.spares;
        is = more.is;
        ends = more.ends;
      }

  -- a slot is looked up
  looks : (t : StuckFaults) (tr : Tracked) (k : ℕ) (v : Datum) (n : ℕ) → slice_get tr.values k ≡ Some v
      → marked_look t ill_typed tr k n ≡ Ok ((v, with_look tr k), n)
  looks t tr k v n at = ap (λ o. attempt t (or_failure ill_typed (looked tr k o)) n) at

  -- A slot was looked up, and moved to a variable.
  record HasCopied (k j d : ℕ) (p q : Point) (m : Memory) (tr : Tracked) (b : ℕ) : Type 0 where
    value : Datum
    seen : (n : ℕ) → marked_look s.stuck_faults ill_typed tr k n ≡ Ok ((value, with_look tr k), n)
    puts : (n : ℕ) → marked_put s.stuck_faults (with_look tr k) j value n ≡ Ok (assigned_slot (with_look tr k) j value, n)
    memory : Memory
    ahead : p.ahead ≡ q.ahead
    spares : Spares s.frame s.site d m memory
    is : AreHeld s q memory (assigned_slot (with_look tr k) j value)
    ends : EndsWellAt s.frame q.place memory b s.finish

  has_copied : (k j d : ℕ) (p q : Point) → IsCopied s.frame s.site s.units k j p q → (m : Memory) (tr : Tracked) (b : ℕ)
      → IsSite s.frame s.site d → AreHeld s p m tr → EndsWellAt s.frame p.place m b s.finish → HasCopied k j d p q m tr b
  has_copied k j d p q r m tr b site of runs =
      let old = of.values k r.word r.kind r.looks.of_type r.looks.has in
      let us = with_look tr k in
      let held = holds_looked s.frame s.site s.around p.noted m tr of k r.word r.looked.noted r.looks.has
      r.looks.touches
      in
      let place = ap (λ (p : Point). p.place) r.looks.is in
      let one = has_given j r.kind r.word r.to d r.looked q r.gives m us b site held old.held
      (subst (λ i. EndsWellAt s.frame i m b s.finish) (sym place) runs) in
      record {
        value = datum_at r.kind (look m r.word);
        seen = λ n. looks s.stuck_faults tr k (datum_at r.kind (look m r.word)) n old.is;
        puts = one.gives;
        memory = with_word m r.to (look m r.word);
        ahead = sym (ap (λ (p : Point). p.ahead) r.looks.is) ∙ one.ahead;
        spares = one.spares;
        is = one.is;
        ends = one.ends;
      }

  outputs_copied : (at : ℕ) (arguments : List SlotArgument) (d : ℕ) (p q : Point)
      → OutputsCopied s.frame s.site s.units at arguments p q → (m : Memory) (tr : Tracked) (b : ℕ)
      → IsSite s.frame s.site d → AreHeld s p m tr → EndsWellAt s.frame p.place m b s.finish
      → HasDone (marked_outputs z at arguments) d p q m tr b
  outputs_copied at [] d p q is m tr b site of runs =
      subst (λ q. HasDone (marked_outputs z at []) d p q m tr b) is (record {
        memory = m;
        tracked = tr;
        gives = λ n. refl;
        ahead = refl;
        spares = spares_all s.frame s.site d m;
        is = of;
        ends = runs;
      })
  outputs_copied at (given o e ∷ rest) d p q is m tr b site of runs =
      let more = outputs_copied at rest d p q is m tr b site of runs in record {
        memory = more.memory;
        tracked = more.tracked;
        gives = more.gives;
        ahead = more.ahead;
        spares = more.spares;
        is = more.is;
        ends = more.ends;
      }
  outputs_copied at (copied o (place a no_subscripts) ∷ rest) d p q is m tr b site of runs =
      let n = has_noted s is.first.notes p is.middle m tr b is.first.all of runs in
      let k = at + o in
      let j = slot_at (base_of s.site) a in
      let one = has_copied k j d is.middle is.second.middle is.second.first n.memory tr b site n.is n.ends in
      let us = with_look tr k in
      let vs = assigned_slot us j one.value in
      let more = outputs_copied at rest d is.second.middle q is.second.second one.memory vs b site one.is one.ends in
      record {
        memory = more.memory;
        tracked = more.tracked;
        gives = λ u. then_gives (marked_look s.stuck_faults ill_typed tr k u) (one.value, us) u
            (λ r. λ n. follow (marked_place z r.1 (place a no_subscripts) n)
            (λ l. λ n. follow (marked_put s.stuck_faults l.1 l.0 r.0 n) (marked_outputs z at rest))) (one.seen u)
            ∙ then_gives (marked_put s.stuck_faults us j one.value u) vs u (marked_outputs z at rest) (one.puts u)
            ∙ more.gives u;
        ahead = n.ahead ∙ one.ahead ∙ more.ahead;
        spares = spares_both s.frame s.site d d m n.memory more.memory (omega arith)
            (spares_words s d m n.memory n.words)
            (spares_both s.frame s.site d d n.memory one.memory more.memory (omega arith) one.spares more.spares);
        is = more.is;
        ends = more.ends;
      }
  outputs_copied at (copied o (place a (subscript_then e lower count stride ss)) ∷ rest) d p q is m tr b site of runs =
      absurd is

  pub does_invoke : (a : Anchor) (c : BlockCode) (arguments : List SlotArgument) (d : ℕ) (e : Exits)
      → Does s (marked_invoking z (slot_at (base_of s.site) a) c arguments) d e
      (IsInvoked s.frame s.site s.units a c arguments d)
  does_invoke a c arguments d e p q r m tr b site is runs =
      let at = slot_at (base_of s.site) a in
      let f = s.frame in
      let one = inputs_read arguments d r.inputs p r.read r.reads m tr b site is runs in
      let two = inputs_given at r.inputs d r.read r.begun r.gives one.memory one.tracked one.left site one.is one.held
      one.ends in
      let three = s.does_blocks c at d r.begun r.done r.does s.around two.memory two.tracked one.left site.deep
      (whole_holds f s.site at s.around r.begun.noted two.memory two.tracked r.of_program two.is) two.ends in
      let four = outputs_copied at arguments d r.done q r.copies three.memory three.tracked three.left site
      (holds_whole f s.site at s.around r.done.noted three.memory three.tracked r.of_program three.is) three.ends in
      let few_one = one.fewer in
      let few_three = three.fewer in
      let ahead_two = two.ahead in
      let ahead_four = four.ahead in
      let given = one.left + r.read.ahead in
      let same : given ≡ one.left + r.begun.ahead = omega arith in
      let then_left = three.left + r.done.ahead in
      record {
        end = goes_on four.tracked;
        rest = then_left;
        gives = then_gives (marked_inputs z tr arguments (b + p.ahead)) (given_in one.memory r.inputs, one.tracked)
            given
            (λ r. λ n. follow (marked_stored s.stuck_faults at r.0 r.1 n)
            (λ us. λ n. follow (s.means.blocks c at us n)
            (λ vs. λ n. follow (marked_outputs z at arguments vs n) (λ us. give (goes_on us))))) one.gives
            ∙ then_gives (marked_stored s.stuck_faults at (given_in one.memory r.inputs) one.tracked given) two.tracked
            given
            (λ us. λ n. follow (s.means.blocks c at us n)
            (λ vs. λ n. follow (marked_outputs z at arguments vs n) (λ us. give (goes_on us)))) (two.gives given)
            ∙ ap (λ n. follow (s.means.blocks c at two.tracked n)
            (λ vs. λ n. follow (marked_outputs z at arguments vs n) (λ us. give (goes_on us)))) same
            ∙ then_gives (s.means.blocks c at two.tracked (one.left + r.begun.ahead)) three.tracked then_left
            (λ vs. λ n. follow (marked_outputs z at arguments vs n) (λ us. give (goes_on us))) three.gives
            ∙ then_gives (marked_outputs z at arguments three.tracked then_left) four.tracked then_left
            (λ us. give (goes_on us)) (four.gives then_left);
        fewer = omega arith;
        ended = record {
          memory = four.memory;
          left = three.left;
          ticks = ap (λ a. three.left + a) four.ahead;
          spares = spares_both f s.site d d m one.memory four.memory (omega arith)
              (spares_kept f s.site d m one.memory one.keeps)
              (spares_both f s.site d d one.memory two.memory four.memory (omega arith) two.spares
              (spares_both f s.site d d two.memory three.memory four.memory (omega arith)
              (spares_whole f s.site at d two.memory three.memory r.of_program three.spares) four.spares));
          is = four.is;
          ends = four.ends;
        };
      }
