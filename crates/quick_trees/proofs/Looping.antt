-- Code of loops does what they mean.
use Rattle.std.proofs.Common.{◌≡◌, ℕ, zero, suc, ◌+◌, ◌-◌, ◌<◌, ◌≤◌, Bool, true, false, Ok, refl, sym, ap, subst, ◌∙◌}
use Rattle.std.proofs.Common.{arith}
use Rattle.std.specs.Prelude.{if◌then◌else◌, not}
use Rattle.st_meaning.specs.Loops.{IterationOf, again, exits, goes_on, over, returns, turned}
use Rattle.st_meaning.specs.Ticks.{Run, follow, give}
use Rattle.machine_code.specs.Tracking.{Tracked}
use Rattle.quick_code.specs.QuickSteps.{Memory}
use Rattle.slot_trees.specs.SlotTrees.{SlotExpr}
use Rattle.machine_code.specs.MarkedEvaluation.{marked_truth}
use Rattle.machine_code.specs.MarkedExecution.{MarkedEnd, marked_tested, marked_back, marked_guarded, marked_loop}
use Rattle.machine_code.specs.MarkedExecution.{marked_no_step, marked_turns, marked_until}
use Rattle.quick_trees.specs.Pieces.{IsLoop, IsUntil}
use Rattle.quick_trees.specs.Points.{CodeRelation, Point, along, past_branch}
use Rattle.quick_trees.specs.QuickMemory.{EndsWellAt}
use Rattle.quick_trees.specs.TreeCode.{Exits, IsTestedFor}
use Rattle.quick_trees.proofs.Stepping.{HasBranched}
use Rattle.quick_trees.proofs.Memories.{IsSite, spares_both, spares_kept, spares_less, still_told}
use Rattle.quick_trees.proofs.Settings.{Setting, scope_of}
use Rattle.quick_trees.proofs.Reading.{AreHeld, From}
use Rattle.quick_trees.proofs.Testing.{tested, truth_is}
use Rattle.quick_trees.proofs.Running.{Does, HasEnded, HasRun, ends_met, gives_same, has_noted, held_met, nothing}
use Rattle.quick_trees.proofs.Running.{spares_words}
use Rattle.quick_trees.proofs.Memories.{keeps_all}

-- a turn after its condition, the rest after a turn, and the way back
abbrev pub in_body : (Tracked → Run MarkedEnd) → Bool → Tracked → Run (IterationOf Tracked)
in_body body go us = if go then (λ b. follow (body us b) (λ e. give (turned e))) else give (over (goes_on us))

abbrev pub behind_test : (Tracked → Run MarkedEnd) → (Tracked → Run (IterationOf Tracked)) → (Tracked → Run MarkedEnd) → Bool
    → Tracked → Run MarkedEnd
behind_test body step next go us = λ b. follow (in_body body go us b) (marked_back step next)

abbrev pub going_back : (Tracked → Run (IterationOf Tracked)) → (Tracked → Run MarkedEnd) → Tracked → Run MarkedEnd
going_back step next us = marked_back step next (again us)

-- a turn whose condition holds or not
pub turn_is : (condition : Tracked → Run (Bool × Tracked)) (body : Tracked → Run MarkedEnd)
    (step : Tracked → Run (IterationOf Tracked)) (n : ℕ) (tr us : Tracked) (t u : ℕ) (go : Bool)
    → condition tr t ≡ Ok ((go, us), u)
    → marked_turns (suc n) (marked_guarded condition body) step tr t
    ≡ behind_test body step (marked_turns n (marked_guarded condition body) step) go us u
unfolding marked_turns marked_guarded
turn_is condition body step n tr us t u go so =
    ap (λ r. follow (follow r (λ r. in_body body r.0 r.1))
    (marked_back step (marked_turns n (marked_guarded condition body) step))) so

module _ (s : Setting) where
  -- the effect of a body in a loop: EXIT leaves the loop alone
  module _ (body : Tracked → Run MarkedEnd) (step : Tracked → Run (IterationOf Tracked)) (next : Tracked → Run MarkedEnd)
      (d c : ℕ) (le : d ≤ c) (e : Exits) (end q : Point) (m : Memory) (tr : Tracked) (n : ℕ)
      (back : (us : Tracked) (rest : ℕ) → (h : HasEnded s c (record e { out = q }) end m (goes_on us) rest) → rest ≤ n
      → HasRun s (going_back step next) d e q h.memory us rest) where
    abbrev turn_on : Tracked → Run MarkedEnd
    turn_on = behind_test body step next true

    by_end : (o : MarkedEnd) (rest : ℕ) → body tr n ≡ Ok (o, rest) → rest ≤ n
        → HasEnded s c (record e { out = q }) end m o rest → HasRun s turn_on d e q m tr n
    by_end (goes_on us) rest gives fewer h =
        gives_same s turn_on (going_back step next) d e q m h.memory tr us n rest
        (ap (λ o. follow (follow o (λ e. give (turned e))) (marked_back step next)) gives) fewer
        (spares_less s.frame s.site d c m h.memory le h.spares) (back us rest h fewer)
    by_end (exits us) rest gives fewer h = record {
      end = goes_on us;
      rest = rest;
      gives = ap (λ o. follow (follow o (λ e. give (turned e))) (marked_back step next)) gives;
      fewer = fewer;
      ended = record {
        memory = h.memory;
        left = h.left;
        ticks = h.ticks;
        spares = spares_less s.frame s.site d c m h.memory le h.spares;
        is = h.is;
        ends = h.ends;
      };
    }
    by_end (returns us) rest gives fewer h = record {
      end = returns us;
      rest = rest;
      gives = ap (λ o. follow (follow o (λ e. give (turned e))) (marked_back step next)) gives;
      fewer = fewer;
      ended = record {
        memory = h.memory;
        left = h.left;
        ticks = h.ticks;
        spares = spares_less s.frame s.site d c m h.memory le h.spares;
        is = h.is;
        ends = h.ends;
      };
    }

    pub behind_body : HasRun s body c (record e { out = q }) end m tr n → HasRun s turn_on d e q m tr n
    behind_body h = by_end h.end h.rest h.gives h.fewer h.ended

  module _ (x : SlotExpr) (d : ℕ) (e : Exits) (body : Tracked → Run MarkedEnd) (Body : CodeRelation) (p q : Point)
      (does_body : Does s body d (record e { out = q }) Body)
      (r : IsLoop s.frame (λ when. IsTestedFor s.frame s.site s.units x when d) Body p q) where
    abbrev condition : Tracked → Run (Bool × Tracked)
    condition = marked_truth (scope_of s) x

    abbrev rounds : ℕ → Tracked → Run MarkedEnd
    rounds n = marked_turns n (marked_guarded condition body) marked_no_step

    -- the loop from the first statement of the body on, within n further turns
    abbrev Around : ℕ → Type 0
    Around n =
        From s d r.head (λ m tr b. b + r.head.ahead ≤ n
        → HasRun s (behind_test body marked_no_step (rounds n) true) d e q m tr (b + r.head.ahead))

    -- after the test at the foot
    at_foot : (n : ℕ) → Around n → (go : Bool) (m : Memory) (tr : Tracked) (b : ℕ) → IsSite s.frame s.site d
        → AreHeld s r.foot m tr → HasBranched s.frame r.foot.place s.finish go r.back r.after m b
        → b + r.foot.ahead ≤ n
        → HasRun s (behind_test body marked_no_step (rounds n) go) d e q m tr (b + r.foot.ahead)
    at_foot n around true m tr b site is h le =
        let enough = h.0 in
        let ahead = r.again.ahead in
        let same : b - r.back.ticks + r.head.ahead ≡ b + r.foot.ahead = omega arith in
        subst (HasRun s (behind_test body marked_no_step (rounds n) true) d e q m tr) same
        (around m tr (b - r.back.ticks) site (held_met s (along r.foot r.back) r.head m tr r.again is)
        (ends_met s (along r.foot r.back) r.head m (b - r.back.ticks) r.again h.1) (omega arith))
    at_foot n around false m tr b site is h le =
        let enough = h.0 in
        let ahead = r.behind.ahead in
        let same : b + r.foot.ahead ≡ b - r.after + q.ahead = omega arith in
        nothing s (behind_test body marked_no_step (rounds n) false) d e q m tr (b - r.after) (b + r.foot.ahead)
        (b + r.foot.ahead) (held_met s (past_branch r.foot r.after) q m tr r.behind is)
        (ends_met s (past_branch r.foot r.after) q m (b - r.after) r.behind h.1) refl same (omega arith)

    -- after the body
    back_again : (n : ℕ) → Around n → (m : Memory) (us : Tracked) (t rest : ℕ) → IsSite s.frame s.site d → t ≤ suc n
        → (h : HasEnded s d (record e { out = q }) r.end m (goes_on us) rest) → rest ≤ t
        → HasRun s (going_back marked_no_step (rounds (suc n))) d e q h.memory us rest
    back_again n around m us t rest site le h fewer =
        let a = tested s x true d (record { place = r.end.place; ahead = r.turn; noted = r.end.noted }) r.foot r.back
        r.after r.asked h.memory us h.left site h.is h.ends in
        let ticks = h.ticks in
        let tick = r.tick in
        let few = a.fewer in
        let at : rest ≡ suc (h.left + r.turn) = omega arith in
        gives_same s (going_back marked_no_step (rounds (suc n))) (behind_test body marked_no_step (rounds n) a.go)
        d e q h.memory a.memory us a.tracked rest (a.left + r.foot.ahead)
        (ap (λ u. going_back marked_no_step (rounds (suc n)) us u) at
        ∙ turn_is condition body marked_no_step n us a.tracked (h.left + r.turn) (a.left + r.foot.ahead) a.go
        (truth_is s x us a.tracked a.go (h.left + r.turn) (a.left + r.foot.ahead) a.value))
        (omega arith) (spares_kept s.frame s.site d h.memory a.memory a.keeps)
        (at_foot n around a.go a.memory a.tracked a.left site a.is a.ends (omega arith))

    around : (n : ℕ) → Around n
    around zero m tr b site is runs le =
        behind_body body marked_no_step (rounds zero) d d (omega arith) e r.end q m tr (b + r.head.ahead)
        (λ us rest h fewer. absurd (let ticks = h.ticks in let tick = r.tick in omega arith))
        (does_body r.head r.end r.body m tr b site is runs)
    around (suc n) m tr b site is runs le =
        behind_body body marked_no_step (rounds (suc n)) d d (omega arith) e r.end q m tr (b + r.head.ahead)
        (λ us rest h fewer. back_again n (around n) m us (b + r.head.ahead) rest site le h fewer)
        (does_body r.head r.end r.body m tr b site is runs)

    -- the loop after its first test
    begins : (n : ℕ) (go : Bool) (m : Memory) (tr : Tracked) (b : ℕ) → IsSite s.frame s.site d → AreHeld s r.test m tr
        → HasBranched s.frame r.test.place s.finish (not go) r.way r.past m b → b + r.test.ahead ≤ n
        → HasRun s (behind_test body marked_no_step (rounds n) go) d e q m tr (b + r.test.ahead)
    begins n true m tr b site is h le =
        let enough = h.0 in
        let noted = has_noted s r.notes.notes (past_branch r.test r.past) r.noted m tr
        (b - r.past) r.notes.all is h.1 in
        let one = noted.ahead in
        let two = r.begins.ahead in
        let same : b - r.past + r.head.ahead ≡ b + r.test.ahead = omega arith in
        gives_same s (behind_test body marked_no_step (rounds n) true)
        (behind_test body marked_no_step (rounds n) true) d e q m noted.memory tr tr (b + r.test.ahead)
        (b - r.past + r.head.ahead)
        (ap (behind_test body marked_no_step (rounds n) true tr) (sym same)) (omega arith)
        (spares_words s d m noted.memory noted.words)
        (around n noted.memory tr (b - r.past) site (held_met s r.noted r.head noted.memory tr r.begins noted.is)
        (ends_met s r.noted r.head noted.memory (b - r.past) r.begins noted.ends) (omega arith))
    begins n false m tr b site is h le =
        let enough = h.0 in
        let ahead = r.over.ahead in
        let same : b + r.test.ahead ≡ b - r.way.ticks + q.ahead = omega arith in
        nothing s (behind_test body marked_no_step (rounds n) false) d e q m tr (b - r.way.ticks) (b + r.test.ahead)
        (b + r.test.ahead) (held_met s (along r.test r.way) q m tr r.over is)
        (ends_met s (along r.test r.way) q m (b - r.way.ticks) r.over h.1) refl same (omega arith)

    pub does_while : From s d p (λ m tr b. HasRun s (marked_loop (marked_guarded condition body) marked_no_step) d e q m
        tr (b + p.ahead))
    unfolding marked_loop
    does_while m tr b site is runs =
        let t = tested s x false d p r.test r.way r.past r.tested m tr b site is runs in
        gives_same s (marked_loop (marked_guarded condition body) marked_no_step)
        (behind_test body marked_no_step (rounds (b + p.ahead)) t.go) d e q m t.memory tr t.tracked (b + p.ahead)
        (t.left + r.test.ahead)
        (turn_is condition body marked_no_step (b + p.ahead) tr t.tracked (b + p.ahead) (t.left + r.test.ahead) t.go
        (truth_is s x tr t.tracked t.go (b + p.ahead) (t.left + r.test.ahead) t.value))
        t.fewer (spares_kept s.frame s.site d m t.memory t.keeps)
        (begins (b + p.ahead) t.go t.memory t.tracked t.left site t.is t.ends t.fewer)

  -- a turn of a REPEAT: the effect of its body, and then the condition
  module _ (x : SlotExpr) (d : ℕ) (e : Exits) (body : Tracked → Run MarkedEnd) (Body : CodeRelation) (p q : Point)
      (does_body : Does s body d (record e { out = q }) Body)
      (r : IsUntil s.frame (λ when. IsTestedFor s.frame s.site s.units x when d) Body p q) where
    abbrev stop : Tracked → Run (Bool × Tracked)
    stop = marked_truth (scope_of s) x

    abbrev turns_of : ℕ → Tracked → Run MarkedEnd
    turns_of n = marked_turns n (marked_until body stop) marked_no_step

    -- after the body
    abbrev asking : ℕ → MarkedEnd → Run MarkedEnd
    asking n o = λ b. follow (marked_tested stop o b) (marked_back marked_no_step (turns_of n))

    abbrev Repeats : ℕ → Type 0
    Repeats n = From s d r.head (λ m tr b. b + r.head.ahead < n → HasRun s (turns_of n) d e q m tr (b + r.head.ahead))

    body_is : (n : ℕ) (tr : Tracked) (t rest : ℕ) (o : MarkedEnd) → body tr t ≡ Ok (o, rest)
        → turns_of (suc n) tr t ≡ asking n o rest
    unfolding marked_turns marked_until
    body_is n tr t rest o gives =
        ap (λ o. follow (follow o (marked_tested stop)) (marked_back marked_no_step (turns_of n))) gives

    -- after the condition
    abbrev answered : ℕ → Bool → Tracked → Run MarkedEnd
    answered n go us =
        λ b. follow (give (if go then over (goes_on us) else again us) b) (marked_back marked_no_step (turns_of n))

    by_answer : (n : ℕ) → Repeats n → (go : Bool) (m : Memory) (tr : Tracked) (b : ℕ) → IsSite s.frame s.site d
        → AreHeld s r.foot m tr → HasBranched s.frame r.foot.place s.finish (not go) r.back r.after m b
        → b + r.foot.ahead < suc n → HasRun s (answered n go) d e q m tr (b + r.foot.ahead)
    by_answer n repeats true m tr b site is h less =
        let enough = h.0 in
        let ahead = r.behind.ahead in
        let same : b + r.foot.ahead ≡ b - r.after + q.ahead = omega arith in
        nothing s (answered n true) d e q m tr (b - r.after) (b + r.foot.ahead) (b + r.foot.ahead)
        (held_met s (past_branch r.foot r.after) q m tr r.behind is)
        (ends_met s (past_branch r.foot r.after) q m (b - r.after) r.behind h.1) refl same (omega arith)
    by_answer n repeats false m tr b site is h less =
        let enough = h.0 in
        let ahead = r.again.ahead in
        let rest = b - r.back.ticks in
        let at : b + r.foot.ahead ≡ suc (rest + r.head.ahead) = omega arith in
        gives_same s (answered n false) (turns_of n) d e q m m tr tr (b + r.foot.ahead) (rest + r.head.ahead)
        (ap (λ u. answered n false tr u) at) (omega arith)
        (spares_kept s.frame s.site d m m (keeps_all d m))
        (repeats m tr rest site (still_told s.frame s.site s.around r.foot.noted m tr is r.head.noted r.again.noted)
        (subst (λ i. EndsWellAt s.frame i m rest s.finish) r.again.place h.1) (omega arith))

    by_body : (n : ℕ) → Repeats n → (m : Memory) (tr : Tracked) (t : ℕ) → IsSite s.frame s.site d → t < suc n
        → (o : MarkedEnd) (rest : ℕ) → body tr t ≡ Ok (o, rest) → rest ≤ t
        → HasEnded s d (record e { out = q }) r.end m o rest → HasRun s (turns_of (suc n)) d e q m tr t
    by_body n repeats m tr t site less (goes_on us) rest gives fewer h =
        let a = tested s x false d r.end r.foot r.back r.after r.asked h.memory us h.left site h.is h.ends in
        let few = a.fewer in
        let ticks = h.ticks in
        gives_same s (turns_of (suc n)) (answered n a.go) d e q m a.memory tr a.tracked t (a.left + r.foot.ahead)
        (body_is n tr t rest (goes_on us) gives
        ∙ ap (λ u. asking n (goes_on us) u) ticks
        ∙ ap (λ o. follow (follow o (λ r. give (if r.0 then over (goes_on r.1) else again r.1)))
        (marked_back marked_no_step (turns_of n)))
        (truth_is s x us a.tracked a.go (h.left + r.end.ahead) (a.left + r.foot.ahead) a.value))
        (omega arith)
        (spares_both s.frame s.site d d m h.memory a.memory (omega arith) h.spares
        (spares_kept s.frame s.site d h.memory a.memory a.keeps))
        (by_answer n repeats a.go a.memory a.tracked a.left site a.is a.ends (omega arith))
    by_body n repeats m tr t site less (exits us) rest gives fewer h = record {
      end = goes_on us;
      rest = rest;
      gives = body_is n tr t rest (exits us) gives;
      fewer = fewer;
      ended = record {
        memory = h.memory;
        left = h.left;
        ticks = h.ticks;
        spares = h.spares;
        is = h.is;
        ends = h.ends;
      };
    }
    by_body n repeats m tr t site less (returns us) rest gives fewer h = record {
      end = returns us;
      rest = rest;
      gives = body_is n tr t rest (returns us) gives;
      fewer = fewer;
      ended = record {
        memory = h.memory;
        left = h.left;
        ticks = h.ticks;
        spares = h.spares;
        is = h.is;
        ends = h.ends;
      };
    }

    repeats : (n : ℕ) → Repeats n
    repeats zero m tr b site is runs less = absurd (omega arith)
    repeats (suc n) m tr b site is runs less =
        let h = does_body r.head r.end r.body m tr b site is runs in
        by_body n (repeats n) m tr (b + r.head.ahead) site less h.end h.rest h.gives h.fewer h.ended

    pub does_repeat : From s d p (λ m tr b. HasRun s (marked_loop (marked_until body stop) marked_no_step) d e q m tr
        (b + p.ahead))
    unfolding marked_loop
    does_repeat m tr b site is runs =
        let noted = has_noted s r.notes.notes p r.noted m tr b r.notes.all is runs in
        let one = noted.ahead in
        let two = r.begins.ahead in
        let same : b + r.head.ahead ≡ b + p.ahead = omega arith in
        gives_same s (marked_loop (marked_until body stop) marked_no_step) (turns_of (suc (b + p.ahead))) d e q m
        noted.memory tr tr (b + p.ahead) (b + r.head.ahead) (ap (turns_of (suc (b + p.ahead)) tr) (sym same))
        (omega arith) (spares_words s d m noted.memory noted.words)
        (repeats (suc (b + p.ahead)) noted.memory tr b site
        (held_met s r.noted r.head noted.memory tr r.begins noted.is)
        (ends_met s r.noted r.head noted.memory b r.begins noted.ends) (omega arith))
