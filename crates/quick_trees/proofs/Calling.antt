-- Code in the place of a call does what the function or the block does.
use Rattle.std.proofs.Common.{◌≡◌, ℕ, zero, suc, ◌+◌, ◌<◌, ◌≤◌, true, false, List, length, Some, Ok, refl, sym, ap, ◌∙◌}
use Rattle.std.proofs.Common.{subst, arith, inl, inr, []}
use Rattle.std.specs.Prelude.{◌⊎◌, slice_get}
use Rattle.st_types.specs.declared.kind.Kind.{Kind}
use Rattle.st_types.specs.Values.{Datum, IsHeld}
use Rattle.st_types.specs.Words.{datum_at}
use Rattle.st_meaning.specs.Failures.{StuckFaults, ill_typed, or_failure}
use Rattle.st_meaning.specs.Loops.{exits, goes_on, returns}
use Rattle.st_meaning.specs.Ticks.{attempt, follow, give}
use Rattle.machine_code.specs.declared.mark.Mark.{Mark}
use Rattle.quick_code.specs.declared.quick_instr.QuickInstr.TheVariants.{Move}
use Rattle.quick_code.specs.QuickRuns.{Left}
use Rattle.quick_code.specs.QuickSteps.{Memory, look}
use Rattle.slot_trees.specs.SlotTrees.{SlotFunction, SlotLibrary, SlotStmts, own_block, standard_block}
use Rattle.slot_trees.specs.SlotRuns.{state_of}
use Rattle.machine_code.specs.MarkedEvaluation.{MarkedUnits}
use Rattle.machine_code.specs.MarkedExecution.{MarkedEnd, marked_exec_all}
use Rattle.machine_code.specs.MarkedRuns.{marked_block, marked_function, marked_units_over, marked_units_within}
use Rattle.machine_code.specs.MarkedRuns.{unmarked_values}
use Rattle.quick_trees.specs.Calls.{IsBlock, IsFunction, kinds_in, quick_units, quick_units_over}
use Rattle.quick_trees.specs.Points.{Point}
use Rattle.quick_trees.specs.QuickMemory.{EndsWellAt, Frame, first_temporary}
use Rattle.quick_trees.specs.UnitValues.{HasOwnWord, FunctionWord, called, whole}
use Rattle.quick_trees.specs.TreeCode.{Exits, QuickUnits}
use Rattle.quick_trees.proofs.Lists.{some_is, there_within}
use Rattle.quick_trees.proofs.Stepping.{stepped}
use Rattle.quick_trees.proofs.Memories.{Holds, IsNoted, IsSite, Spares, deeper, keeps_all, whole_site}
use Rattle.quick_trees.proofs.Beginnings.{HaveBegun, IsSeated, begun_slots, have_begun}
use Rattle.quick_trees.proofs.Settings.{AreGiven, DoesBlocks, DoesCalls, HasCalled, HasInvoked, Setting, scope_of}
use Rattle.machine_code.specs.Tracking.{Tracked}
use Rattle.quick_trees.proofs.Truths.{then_gives}
use Rattle.quick_trees.proofs.Reading.{AreHeld}
use Rattle.quick_trees.proofs.Running.{HasEnded, joined}
use Rattle.quick_trees.proofs.Statements.{does_stmts}
use Rattle.quick_trees.proofs.StandardBlocks.{steps}
use Rattle.st_types.proofs.ListLemmas.{length_map}

-- EXIT and RETURN lead to the end of the body of a function
abbrev pub at_last : Point → Exits
at_last last = record { out = last; back = last }

-- A body came to its end.
pub record IsOver (s : Setting) (d : ℕ) (last : Point) (m : Memory) (end : MarkedEnd) (n : ℕ) : Type 0 where
  pub memory : Memory
  pub left : ℕ
  pub ticks : n ≡ left + last.ahead
  pub spares : Spares s.frame s.site d m memory
  pub is : AreHeld s last memory (state_of end)
  pub ends : EndsWellAt s.frame last.place memory left s.finish

pub is_over : (s : Setting) (d : ℕ) (last : Point) (m : Memory) (end : MarkedEnd) (n : ℕ)
    → HasEnded s d (at_last last) last m end n → IsOver s d last m end n
is_over s d last m (goes_on t) n h =
    record { memory = h.memory; left = h.left; ticks = h.ticks; spares = h.spares; is = h.is; ends = h.ends }
is_over s d last m (exits t) n h =
    record { memory = h.memory; left = h.left; ticks = h.ticks; spares = h.spares; is = h.is; ends = h.ends }
is_over s d last m (returns t) n h =
    record { memory = h.memory; left = h.left; ticks = h.ticks; spares = h.spares; is = h.is; ends = h.ends }

module _ (f : Frame) (x : Left) (units : QuickUnits) (means : MarkedUnits) (stuck_faults : StuckFaults)
    (does : DoesCalls f x units means) (does_blocks : DoesBlocks f x units means) (g : SlotFunction)
    (kinds : List Kind) (words : List ℕ) (d : ℕ) (t : Kind) (to : ℕ) (p q : Point)
    (r : IsFunction f units g kinds words d t to p q) (marks : List Mark) (m : Memory) (b : ℕ) (values : List Datum)
    (deep : first_temporary f ≤ d) (noted : IsNoted f p.noted marks m) (given : AreGiven m d kinds words values)
    (runs : EndsWellAt f p.place m b x) where
  abbrev inside : Setting
  inside = record {
    frame = f;
    site = called (kinds_in g) r.seats;
    units = units;
    means = means;
    stuck_faults = stuck_faults;
    around = record { values = []; marks = marks };
    finish = x;
    does = does;
    does_blocks = does_blocks;
  }

  begun : HaveBegun f x g kinds words d values m marks r.inputs given deep r.room zero r.seats p r.begun m b
  begun =
      have_begun f x g kinds words d values m marks r.inputs given deep r.room zero r.seats p r.begun m b r.begins
      (keeps_all d m) noted (let all = r.all in omega arith) runs

  seat_is : (k : ℕ) (s : FunctionWord) → slice_get r.seats k ≡ Some s
      → IsSeated f x g kinds words d values m marks r.inputs given deep r.room k s begun.memory
  seat_is k s at = begun.seated k k s at (omega arith)

  seat_below : (k : ℕ) (s : FunctionWord) → k < length g.fresh
      → (s ≡ record { word = d + k; is_own = true }) ⊎ ((s.is_own ≡ false) × (s.word < d)) → s.word < d + length g.fresh
  seat_below k s lt (inl is) = (let at = ap (λ (s : FunctionWord). s.word) is in omega arith)
  seat_below k s lt (inr is) = (let low = is.1 in omega arith)

  within : (k : ℕ) (s : FunctionWord) → slice_get r.seats k ≡ Some s → k < length g.fresh
  within k s at = (let lt = there_within r.seats k s at in let all = r.all in omega arith)

  own_at : (k : ℕ) (s : FunctionWord) → s.is_own ≡ true
      → (s ≡ record { word = d + k; is_own = true }) ⊎ ((s.is_own ≡ false) × (s.word < d)) → s.word ≡ d + k
  own_at k s own (inl is) = ap (λ (s : FunctionWord). s.word) is
  own_at k s own (inr is) = absurd (let no = is.0 in cc)

  own_word : (k w : ℕ) → HasOwnWord f.window (called (kinds_in g) r.seats) k w → w ≡ d + k
  own_word k w own = own_at k (record { word = w; is_own = true }) refl (seat_is k
      (record { word = w; is_own = true }) own).where_is

  only_own : (k j w : ℕ) (s : FunctionWord) → w ≡ d + k → w ≡ s.word
      → (s ≡ record { word = d + j; is_own = true }) ⊎ ((s.is_own ≡ false) × (s.word < d)) → j ≡ k
  only_own k j w s own has (inl is) = (let at = ap (λ (s : FunctionWord). s.word) is in omega arith)
  only_own k j w s own has (inr is) = absurd (let low = is.1 in omega arith)

  site : IsSite f (called (kinds_in g) r.seats) (d + length g.fresh)
  site = record {
    deep = omega arith;
    below = λ k w t at has. subst (λ w. w < d + length g.fresh) (sym has.1.1)
        (seat_below k has.0 (within k has.0 has.1.0) (seat_is k has.0 has.1.0).where_is);
    has = λ k w own. (record { word = w; is_own = true }, (own, refl));
    one = λ k w u has had.
        has.1.1 ∙ ap (λ (s : FunctionWord). s.word) (some_is (sym has.1.0 ∙ had.1.0)) ∙ sym had.1.1;
    apart = λ k j w own has.
        only_own k j w has.0 (own_word k w own) has.1.1 (seat_is j has.0 has.1.0).where_is;
    own = λ k w t at own. (let is = own_word k w own in
        let lt = within k (record { word = w; is_own = true }) own in
        let room = r.room in
        (omega arith, omega arith));
  }

  slots : List Datum
  slots = (begun_slots f x g kinds words d values m marks r.inputs given deep r.room).slots

  holds : AreHeld inside r.begun begun.memory (unmarked_values slots)
  unfolding slots
  holds = record {
    noted = begun.noted;
    stays = tt;
    long = (begun_slots f x g kinds words d values m marks r.inputs given deep r.room).long
        ∙ sym (length_map (λ (v : Datum). v.kind) g.fresh);
    values = λ k w kind at has. (let v = (seat_is k has.0 has.1.0).value kind at in record {
      is = v.is ∙ ap (λ w. Some (datum_at kind (look begun.memory w))) (sym has.1.1);
      held = subst (λ w. IsHeld (datum_at kind (look begun.memory w)))
          (sym has.1.1) v.held;
    });
  }

  called_one : HasCalled f x (marked_function stuck_faults means g values) t d to p q marks m b
  unfolding slots
  called_one =
      let start = begun_slots f x g kinds words d values m marks r.inputs given deep r.room in
      let ran = does_stmts inside g.body (d + length g.fresh) (at_last r.last) r.begun r.end r.body begun.memory
      (unmarked_values slots) b site holds begun.ends in
      let over = is_over inside (d + length g.fresh) r.last begun.memory ran.end ran.rest
      (joined inside (d + length g.fresh) (at_last r.last) r.end r.last begun.memory ran.end ran.rest r.joins ran.ended)
      in
      let value = over.is.values g.result r.result.word t r.of_type (r.result, (r.seat, refl)) in
      let few = ran.fewer in
      let ticks = over.ticks in
      let ahead = begun.ahead in
      let same : b + p.ahead ≡ b + r.begun.ahead = omega arith in
      let body = marked_exec_all (scope_of inside) g.body in
      subst (λ q. HasCalled f x (marked_function stuck_faults means g values) t d to p q marks m b) (sym r.is) (record {
        memory = over.memory;
        word = look over.memory r.result.word;
        left = over.left;
        gives = ap (λ o. follow (attempt stuck_faults o (b + p.ahead)) (λ vs. λ b. follow (body (unmarked_values vs) b)
            (λ e. attempt stuck_faults (or_failure ill_typed (slice_get (state_of e).values g.result))))) start.gives
            ∙ then_gives (body (unmarked_values slots) (b + p.ahead)) ran.end ran.rest
            (λ e. attempt stuck_faults (or_failure ill_typed (slice_get (state_of e).values g.result)))
            (ap (body (unmarked_values slots)) same ∙ ran.gives)
            ∙ ap (λ o. attempt stuck_faults (or_failure ill_typed o) ran.rest) value.is
            ∙ ap (λ n. Ok (datum_at t (look over.memory r.result.word), n)) ticks;
        fewer = omega arith;
        keeps = record {
          long = over.spares.long ∙ begun.keeps.long;
          same = λ w lt. over.spares.same w (omega arith) (λ k within own. (let at = own_word k w own in omega arith))
              ∙ begun.keeps.same w (omega arith);
        };
        noted = over.is.noted;
        held = value.held;
        ends = stepped f r.last.place x over.memory over.left (Move r.result.word to) over.ends r.moved;
      })

-- a block's body runs on the slots of its instance
module _ (f : Frame) (x : Left) (units : QuickUnits) (means : MarkedUnits) (stuck_faults : StuckFaults)
    (does : DoesCalls f x units means) (does_blocks : DoesBlocks f x units means) where
  instance : ℕ → Tracked → Setting
  instance at around = record {
    frame = f;
    site = whole at;
    units = units;
    means = means;
    stuck_faults = stuck_faults;
    around = around;
    finish = x;
    does = does;
    does_blocks = does_blocks;
  }

  invoked_one : (body : SlotStmts) (at d : ℕ) (p q : Point) → IsBlock f units body at d p q → (around : Tracked)
      (m : Memory) (tr : Tracked) (b : ℕ) → first_temporary f ≤ d → Holds f (whole at) around p.noted m tr
      → EndsWellAt f p.place m b x → HasInvoked f x (marked_block stuck_faults means body at) at d p q around m tr b
  unfolding instance
  invoked_one body at d p q r around m tr b deep holds runs =
      let s = instance at around in
      let ran = does_stmts s body d (at_last q) p r.end r.stands m tr b
      (deeper f (whole at) (first_temporary f) d deep (whole_site f at holds.noted.room.window)) holds runs in
      let over = is_over s d q m ran.end ran.rest
      (joined s d (at_last q) r.end q m ran.end ran.rest r.joins ran.ended) in
      let few = ran.fewer in
      let ticks = over.ticks in
      record {
        memory = over.memory;
        tracked = state_of ran.end;
        left = over.left;
        gives = then_gives (marked_exec_all (scope_of s) body tr (b + p.ahead)) ran.end ran.rest
            (λ e. give (state_of e)) ran.gives
            ∙ ap (λ n. Ok (state_of ran.end, n)) ticks;
        fewer = omega arith;
        spares = over.spares;
        is = over.is;
        ends = over.ends;
      }

module _ (f : Frame) (x : Left) (stuck_faults : StuckFaults) (library : SlotLibrary) where
  calls_over : (units : QuickUnits) (means : MarkedUnits) → DoesCalls f x units means → DoesBlocks f x units means
      → DoesCalls f x (quick_units_over f library units) (marked_units_over stuck_faults library f.now means)
  calls_over units means does does_blocks i kinds words d t to p q r marks m b values deep noted given runs =
      let done = called_one f x units means stuck_faults does does_blocks r.0 kinds words d t to p q r.1.1 marks m b values
      deep noted given runs in record {
        memory = done.memory;
        word = done.word;
        left = done.left;
        gives = ap (λ o. follow (attempt stuck_faults (or_failure ill_typed o) (b + p.ahead))
            (λ g. marked_function stuck_faults means g values)) r.1.0
            ∙ done.gives;
        fewer = done.fewer;
        keeps = done.keeps;
        noted = done.noted;
        held = done.held;
        ends = done.ends;
      }

  blocks_over : (units : QuickUnits) (means : MarkedUnits) → DoesCalls f x units means → DoesBlocks f x units means
      → DoesBlocks f x (quick_units_over f library units) (marked_units_over stuck_faults library f.now means)
  blocks_over units means does does_blocks (own_block i) at d p q r around m tr b deep held runs =
      let done = invoked_one f x units means stuck_faults does does_blocks r.0 at d p q r.1.1 around m tr b deep held
      runs in
      record {
        memory = done.memory;
        tracked = done.tracked;
        left = done.left;
        gives = ap (λ o. follow (attempt stuck_faults (or_failure ill_typed o) (b + p.ahead))
            (λ body. marked_block stuck_faults means body at tr)) r.1.0
            ∙ done.gives;
        fewer = done.fewer;
        spares = done.spares;
        is = done.is;
        ends = done.ends;
      }
  blocks_over units means does does_blocks (standard_block c) at d p q r around m tr b deep held runs =
      steps f x stuck_faults at d deep around c p q r m tr b held runs

  -- calls at most `calls` deep
  pub does_units : (calls depth : ℕ) → calls ≤ depth
      → DoesCalls f x (quick_units f library calls) (marked_units_within stuck_faults library f.now depth)
      × DoesBlocks f x (quick_units f library calls) (marked_units_within stuck_faults library f.now depth)
  unfolding quick_units marked_units_within
  does_units zero depth le = (λ i kinds words d t to p q r. absurd r, λ c at d p q r. absurd r)
  does_units (suc calls) zero le = absurd (omega arith)
  does_units (suc calls) (suc depth) le =
      let below = does_units calls depth (omega arith) in
      let units = quick_units f library calls in
      let means = marked_units_within stuck_faults library f.now depth in
      (calls_over units means below.0 below.1, blocks_over units means below.0 below.1)
