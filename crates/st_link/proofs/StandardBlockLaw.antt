-- Calls of standard blocks on members that exist end alike, and keep the variables: each member after a step has a
-- value of its type.
use Rattle.std.proofs.Common.{◌≡◌, refl, sym, ap, subst, ◌∙◌, ℕ, ℤ, pos, ◌-ℤ◌, Bool, true, false, ◌&&◌, ◌||◌, not, int_le}
use Rattle.std.proofs.Common.{if◌then◌else◌, List, [], ◌∷◌, Option, Some}
use Rattle.std.specs.Prelude.{option_map, option_and_then}
use Rattle.std.specs.Int.{int_max}
use Rattle.st_types.specs.declared.kind.Kind.{Kind}
use Rattle.st_types.specs.declared.kind.Kind.TheVariants.{Int, Time}
use Rattle.st_types.specs.Kinds.{holds}
use Rattle.st_types.specs.Values.{Datum, is_true}
use Rattle.st_types.specs.Paths.{Path}
use Rattle.st_meaning.specs.Failures.{StuckFaults, ill_typed, or_failure}
use Rattle.st_meaning.specs.Stores.{Store, assigned}
use Rattle.st_meaning.specs.StandardBlocks.{StandardBlock, SR, RS, R_TRIG, F_TRIG, CTU, CTD, CTUD, TON, TOF, TP}
use Rattle.st_meaning.specs.StandardBlocks.{BlockMember, members_of, stepped, Timer, running, elapsed, timed_from}
use Rattle.st_meaning.specs.StandardBlocks.{timed_until, ended, on_delay, off_delay, pulse, timer_of, counted, up_count}
use Rattle.st_meaning.specs.StandardBlocks.{down_count, up_down_count, one_up, one_down, edge}
use Rattle.st_meaning.specs.Scopes.{member_at}
use Rattle.st_meaning.specs.Runs.{member_values, members_assigned}
use Rattle.st_link.specs.Soundness.{IsOf, Keeps}
use Rattle.st_link.specs.UnitSoundness.{AreStored}
use Rattle.st_link.proofs.Alikes.{Succeeds, succeeds_then}
use Rattle.st_link.proofs.OperatorLemmas.{truth_is}
use Rattle.st_link.proofs.Keeping.{keeps_itself, keeps_on}
use Rattle.st_link.proofs.AssignmentLaw.{assigned_succeeds}
use Rattle.st_link.proofs.RunsAlike.{both_then, both_attempt, proceeds}
use Rattle.st_link.proofs.RangeLemmas.{limited_held, up_held, down_held}
use Rattle.st_link.proofs.BodyRunLaw.{stored_kept}
use Rattle.st_link.proofs.UnitLaw.{StandardCallsAgree}

-- values of members, in order
data AreMembers : List BlockMember → List Datum → Type 0 where
  none : AreMembers [] []
  more : {m : BlockMember} {ms : List BlockMember} {v : Datum} {vs : List Datum} → IsOf m.1 v → AreMembers ms vs
      → AreMembers (m ∷ ms) (v ∷ vs)

-- counters
if_held : (k : Kind) (b : Bool) (x y : ℤ) → holds k x ≡ true → holds k y ≡ true → holds k (if b then x else y) ≡ true
if_held k true x y h l = h
if_held k false x y h l = l

counted_held : (up down : Bool) (z : ℤ) → holds Int z ≡ true → holds Int (counted up down z) ≡ true
counted_held up down z h =
    if_held Int (up && down) z _ h (if_held Int up (one_up z) _ (up_held z h)
    (if_held Int down (one_down z) z (down_held z h) h))

up_is : (reset up : Bool) (z : ℤ) → holds Int z ≡ true → holds Int (up_count reset up z) ≡ true
up_is reset up z h = if_held Int reset (pos 0) _ refl (counted_held up false z h)

down_is : (load down : Bool) (pv z : ℤ) → holds Int pv ≡ true → holds Int z ≡ true
    → holds Int (down_count load pv down z) ≡ true
down_is load down pv z g h = if_held Int load pv _ g (counted_held false down z h)

up_down_is : (reset load up down : Bool) (pv z : ℤ) → holds Int pv ≡ true → holds Int z ≡ true
    → holds Int (up_down_count reset load pv up down z) ≡ true
up_down_is reset load up down pv z g h =
    if_held Int reset (pos 0) _ refl (if_held Int load pv _ g (counted_held up down z h))

number_held : (k : Kind) (v : Datum) → IsOf k v → holds k v.number ≡ true
number_held k v of = subst (λ (l : Kind). holds l v.number ≡ true) of.kind of.held

int_is : (z : ℤ) → holds Int z ≡ true → IsOf Int (record { kind = Int; number = z })
int_is z h = record { kind = refl; held = h }

time_is : (z : ℤ) → holds Time z ≡ true → IsOf Time (record { kind = Time; number = z })
time_is z h = record { kind = refl; held = h }

-- timers
record TimerHolds (t : Timer) : Type 0 where
  pub et : holds Time t.et ≡ true
  pub start : holds Time t.start ≡ true

if_timer : (b : Bool) (t u : Timer) → TimerHolds t → TimerHolds u → TimerHolds (if b then t else u)
if_timer true t u h k = h
if_timer false t u h k = k

module _ (now : ℕ) (moment : holds Time (pos now) ≡ true) where
  running_holds : (t : Timer) → TimerHolds t → TimerHolds (running now t)
  running_holds t h = if_timer t.run t (record { q = t.q; et = t.et; run = true; start = pos now }) h
      (record { et = h.et; start = moment })

  from_holds : (p : ℤ) (t : Timer) → holds Time p ≡ true → TimerHolds t
      → TimerHolds (timed_from now (int_max (pos 0) p) t)
  from_holds p t k h = record { et = limited_held (pos now -ℤ t.start) p k; start = h.start }

  until_holds : (p : ℤ) (t : Timer) → holds Time p ≡ true → TimerHolds t
      → TimerHolds (timed_until now (int_max (pos 0) p) t)
  until_holds p t k h = record { et = limited_held (pos now -ℤ t.start) p k; start = h.start }

  on_holds : (b : Bool) (p : ℤ) (t : Timer) → holds Time p ≡ true → TimerHolds t
      → TimerHolds (on_delay now b (int_max (pos 0) p) t)
  on_holds true p t k h = from_holds p (running now t) k (running_holds t h)
  on_holds false p t k h = record { et = refl; start = h.start }

  off_holds : (b : Bool) (p : ℤ) (t : Timer) → holds Time p ≡ true → TimerHolds t
      → TimerHolds (off_delay now b (int_max (pos 0) p) t)
  off_holds true p t k h = record { et = refl; start = h.start }
  off_holds false p t k h = if_timer (t.q || t.run) _ t (until_holds p (running now t) k (running_holds t h)) h

  ended_holds : (b : Bool) (p : ℤ) (t : Timer) → TimerHolds t → TimerHolds (ended now b p t)
  ended_holds b p t h = if_timer (int_le p (elapsed now t) && not b) _ t (record { et = refl; start = h.start }) h

  pulse_holds : (b : Bool) (p : ℤ) (t : Timer) → holds Time p ≡ true → TimerHolds t
      → TimerHolds (pulse now b (int_max (pos 0) p) t)
  pulse_holds b p t k h = if_timer (b || t.run) _ t
      (ended_holds b (int_max (pos 0) p) (timed_until now (int_max (pos 0) p) (running now t))
      (until_holds p (running now t) k (running_holds t h))) h

  timer_holds : (q et run start : Datum) → IsOf Time et → IsOf Time start → TimerHolds (timer_of q et run start)
  timer_holds q et run start e s = record { et = number_held Time et e; start = number_held Time start s }

  -- the members after a call
  step_fits : (b : StandardBlock) (vs : List Datum) → AreMembers (members_of b) vs
      → AreMembers (members_of b) (stepped b now vs)
  step_fits SR _ (more s1 (more r (more q1 none))) = more s1 (more r (more (truth_is _) none))
  step_fits RS _ (more s (more r1 (more q1 none))) = more s (more r1 (more (truth_is _) none))
  step_fits R_TRIG _ (more clk (more q (more m none))) = more clk (more (truth_is _) (more (truth_is _) none))
  step_fits F_TRIG _ (more clk (more q (more m none))) = more clk (more (truth_is _) (more (truth_is _) none))
  step_fits CTU _ (more {v = a} cu (more {v = b} r (more pv (more q (more {v = c} cv (more {v = d} m none)))))) =
      let up = edge (is_true a) (is_true d) in
      let z = up_count (is_true b) up c.number in
      more cu (more r (more pv (more (truth_is _)
      (more (int_is z (up_is (is_true b) up c.number (number_held Int c cv))) (more (truth_is _) none)))))
  step_fits CTD _ (more {v = a} cd (more {v = b} ld (more {v = p} pv (more q (more {v = c} cv (more {v = d} m none))))))
      =
      let down = edge (is_true a) (is_true d) in
      let z = down_count (is_true b) p.number down c.number in
      more cd (more ld (more pv (more (truth_is _)
      (more (int_is z (down_is (is_true b) down p.number c.number (number_held Int p pv) (number_held Int c cv)))
      (more (truth_is _) none)))))
  step_fits CTUD _ (more {v = a} cu (more {v = b} cd (more {v = c} r (more {v = d} ld (more {v = p} pv (more qu (more qd
      (more {v = n} cv (more {v = e} mu (more {v = f} md none)))))))))) =
      let up = edge (is_true a) (is_true e) in
      let down = edge (is_true b) (is_true f) in
      let z = up_down_count (is_true c) (is_true d) p.number up down n.number in
      let held = up_down_is (is_true c) (is_true d) up down p.number n.number (number_held Int p pv)
      (number_held Int n cv) in
      more cu (more cd (more r (more ld (more pv (more (truth_is _) (more (truth_is _) (more (int_is z held)
      (more (truth_is _) (more (truth_is _) none)))))))))
  step_fits TON _ (more {v = x} input (more {v = p} pt (more {v = a} q (more {v = b} et (more {v = c} run
      (more {v = d} start none)))))) =
      let h = on_holds (is_true x) p.number (timer_of a b c d) (number_held Time p pt) (timer_holds a b c d et start) in
      more input (more pt (more (truth_is _) (more (time_is _ h.et) (more (truth_is _) (more (time_is _ h.start) none)))))
  step_fits TOF _ (more {v = x} input (more {v = p} pt (more {v = a} q (more {v = b} et (more {v = c} run
      (more {v = d} start none)))))) =
      let h = off_holds (is_true x) p.number (timer_of a b c d) (number_held Time p pt) (timer_holds a b c d et start) in
      more input (more pt (more (truth_is _) (more (time_is _ h.et) (more (truth_is _) (more (time_is _ h.start) none)))))
  step_fits TP _ (more {v = x} input (more {v = p} pt (more {v = a} q (more {v = b} et (more {v = c} run
      (more {v = d} start none)))))) =
      let h = pulse_holds (is_true x) p.number (timer_of a b c d) (number_held Time p pt) (timer_holds a b c d et start) in
      more input (more pt (more (truth_is _) (more (time_is _ h.et) (more (truth_is _) (more (time_is _ h.start) none)))))

-- the values of members
record HaveValues (s : Store) (at : Path) (ms : List BlockMember) : Type 0 where
  pub values : List Datum
  pub there : member_values s at ms ≡ Some values
  pub fit : AreMembers ms values

have_values : (s : Store) (at : Path) (ms : List BlockMember) → AreStored s at ms → HaveValues s at ms
have_values s at [] h = record { values = []; there = refl; fit = none }
have_values s at (m ∷ ms) h =
    let rest = have_values s at ms h.1 in
    record {
      values = h.0.datum ∷ rest.values;
      there = ap (option_and_then (λ v. option_map (λ vs. v ∷ vs) (member_values s at ms))) h.0.there
          ∙ ap (option_map (λ vs. h.0.datum ∷ vs)) rest.there;
      fit = more h.0.is_of rest.fit;
    }

members_succeed : (s : Store) (at : Path) (ms : List BlockMember) (vs : List Datum) → AreStored s at ms
    → AreMembers ms vs → Succeeds (Keeps s) (members_assigned s at ms vs)
members_succeed s at [] [] h none = keeps_itself s
members_succeed s at [] (v ∷ vs) h fit = elim fit [ ]
members_succeed s at (m ∷ ms) [] h fit = elim fit [ ]
members_succeed s at (m ∷ ms) (v ∷ vs) h (more of rest) =
    proceeds (Keeps s) (Keeps s) (assigned s (member_at at m.0) v) (λ t. members_assigned t at ms vs)
    (assigned_succeeds s (member_at at m.0) v m.1 h.0 of)
    (λ t keeps. succeeds_then (Keeps t) (Keeps s) (members_assigned t at ms vs) (λ z more. keeps_on keeps more)
    (members_succeed t at ms vs (stored_kept at ms keeps h.1) rest))

values_succeed : (ms : List BlockMember) (o : Option (List Datum)) (vs : List Datum) → o ≡ Some vs → AreMembers ms vs
    → Succeeds (AreMembers ms) (or_failure ill_typed o)
values_succeed ms o vs is fit =
    subst (λ (p : Option (List Datum)). Succeeds (AreMembers ms) (or_failure ill_typed p)) (sym is) fit

pub standard_calls_agree : (now : ℕ) → holds Time (pos now) ≡ true → (i j : StuckFaults) → StandardCallsAgree now i j
standard_calls_agree now moment i j k at s stored =
    let has = have_values s at (members_of k) stored in
    both_then (both_attempt (AreMembers (members_of k)) i j (or_failure ill_typed (member_values s at (members_of k)))
    (values_succeed (members_of k) (member_values s at (members_of k)) has.values has.there has.fit))
    (λ vs fit. both_attempt (Keeps s) i j (members_assigned s at (members_of k) (stepped k now vs))
    (members_succeed s at (members_of k) (stepped k now vs) stored (step_fits now moment k vs fit)))
