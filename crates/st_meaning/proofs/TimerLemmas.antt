-- Laws of the timers.
use Rattle.std.proofs.Common.{◌≡◌, ℕ, ℤ, pos, ◌<◌, ◌-ℤ◌, ◌≤ℤ◌, int_le, Bool, true, false, if◌then◌else◌, List, [], ◌∷◌}
use Rattle.std.proofs.Common.{◌++◌, refl, sym, ap, subst, ◌∙◌, append_assoc, append-nil, arith}
use Rattle.std.specs.Prelude.{fold}
use Rattle.std.specs.Int.{int_min, int_max}
use Rattle.std.proofs.lemmas.Int.{ints, int_min_is, int_max_is}
use Rattle.std.specs.Int.Signed.{le_z_yes}
use Rattle.std.proofs.lemmas.Float.{T_from_true}
use Rattle.std.proofs.lemmas.Grind.{fold-append}
use Rattle.st_meaning.specs.StandardBlocks.{Timer, running, elapsed, timed_from, timed_until, stopped, on_delay}
use Rattle.st_meaning.specs.StandardBlocks.{off_delay, pulse}
use Rattle.st_meaning.specs.TimerRuns.{TimerCall, TimerStep, fresh_timer, called_timer, timer_after, AllOn, WasOnFor}

min_below : (e p : ℤ) → int_min e p ≤ℤ p
min_below e p = omega (arith, ints, int_min_is e p)

-- a timer that does not run shows no time, and its time is within pt
pub record IsWithin (pt : ℕ) (t : Timer) : Type 0 where
  pub rests : t.run ≡ false → t.et ≡ pos 0
  pub within : t.et ≤ℤ pos pt

abbrev pub Rests : Timer → Type 0
Rests t = t.run ≡ false → t.et ≡ pos 0

none_within : (pt : ℕ) → pos 0 ≤ℤ pos pt
none_within pt = omega (arith, ints)

stopped_within : (pt : ℕ) (q : Bool) (t : Timer) → IsWithin pt (stopped q t)
stopped_within pt q t = record { rests = λ h. refl; within = none_within pt }

runs : (now : ℕ) (q : Bool) (et : ℤ) (run : Bool) (start : ℤ)
    → (running now (record { q = q; et = et; run = run; start = start })).run ≡ true
runs now q et true start = refl
runs now q et false start = refl

timed_within : (now pt : ℕ) (t : Timer) → t.run ≡ true
    → IsWithin pt (timed_from now (pos pt) t) × IsWithin pt (timed_until now (pos pt) t)
timed_within now pt t h = (
  record { rests = λ k. absurd (cc); within = min_below (elapsed now t) (pos pt) },
  record { rests = λ k. absurd (cc); within = min_below (elapsed now t) (pos pt) },
)

running_within : (now pt : ℕ) (t : Timer)
    → IsWithin pt (timed_from now (pos pt) (running now t)) × IsWithin pt (timed_until now (pos pt) (running now t))
running_within now pt t = timed_within now pt (running now t) (runs now t.q t.et t.run t.start)

still_within : (pt : ℕ) (t : Timer) → Rests t → t.run ≡ false → IsWithin pt t
still_within pt t h r = record { rests = h; within = rw (h r) (none_within pt) }

pub on_delay_within : (now : ℕ) (input : Bool) (pt : ℕ) (t : Timer) → Rests t
    → IsWithin pt (on_delay now input (pos pt) t)
on_delay_within now true pt t h = (running_within now pt t).0
on_delay_within now false pt t h = stopped_within pt false t

off_cases : (now pt : ℕ) (q : Bool) (et : ℤ) (run : Bool) (start : ℤ)
    → Rests (record { q = q; et = et; run = run; start = start })
    → IsWithin pt (off_delay now false (pos pt) (record { q = q; et = et; run = run; start = start }))
off_cases now pt true et run start h =
    (running_within now pt (record { q = true; et = et; run = run; start = start })).1
off_cases now pt false et true start h =
    (running_within now pt (record { q = false; et = et; run = true; start = start })).1
off_cases now pt false et false start h =
    still_within pt (record { q = false; et = et; run = false; start = start }) h refl

pub off_delay_within : (now : ℕ) (input : Bool) (pt : ℕ) (t : Timer) → Rests t
    → IsWithin pt (off_delay now input (pos pt) t)
off_delay_within now true pt t h = stopped_within pt true t
off_delay_within now false pt t h = off_cases now pt t.q t.et t.run t.start h

end_within : (pt : ℕ) (b : Bool) (t : Timer) → IsWithin pt t
    → IsWithin pt (if b then record { q = t.q; et = pos 0; run = false; start = t.start } else t)
end_within pt true t h = record { rests = λ k. refl; within = none_within pt }
end_within pt false t h = h

pulse_cases : (now pt : ℕ) (input q : Bool) (et : ℤ) (run : Bool) (start : ℤ)
    → Rests (record { q = q; et = et; run = run; start = start })
    → IsWithin pt (pulse now input (pos pt) (record { q = q; et = et; run = run; start = start }))
pulse_cases now pt true q et run start h =
    end_within pt _ _ (running_within now pt (record { q = q; et = et; run = run; start = start })).1
pulse_cases now pt false q et true start h =
    end_within pt _ _ (running_within now pt (record { q = q; et = et; run = true; start = start })).1
pulse_cases now pt false q et false start h =
    still_within pt (record { q = q; et = et; run = false; start = start }) h refl

pub pulse_within : (now : ℕ) (input : Bool) (pt : ℕ) (t : Timer) → Rests t → IsWithin pt (pulse now input (pos pt) t)
pulse_within now input pt t h = pulse_cases now pt input t.q t.et t.run t.start h

-- each call of a timer keeps it within its PT
abbrev pub KeepsWithin : TimerStep → Type 0
KeepsWithin step = (now : ℕ) (input : Bool) (pt : ℕ) (t : Timer) → Rests t → IsWithin pt (step now input (pos pt) t)

rests_along : (step : TimerStep) → KeepsWithin step → (calls : List TimerCall) (t : Timer) → Rests t
    → Rests (fold (called_timer step) t calls)
rests_along step k [] t h = h
rests_along step k (c ∷ calls) t h = rests_along step k calls (called_timer step t c) (k c.now c.input c.pt t h).rests

pub last_within : (step : TimerStep) → KeepsWithin step → (calls : List TimerCall) (c : TimerCall)
    → (timer_after step (calls ++ c ∷ [])).et ≤ℤ pos c.pt
last_within step k calls c =
    rw (fold-append (called_timer step) fresh_timer calls (c ∷ []))
    (k c.now c.input c.pt (timer_after step calls) (rests_along step k calls fresh_timer (λ h. refl))).within

-- a running on-delay timer started at a call since which IN was TRUE
pub record StartedAt (calls : List TimerCall) (start : ℤ) : Type 0 where
  pub before : List TimerCall
  pub first : TimerCall
  pub since : List TimerCall
  pub parts : calls ≡ before ++ first ∷ since
  pub on : AllOn (first ∷ since)
  pub moment : start ≡ pos first.now

abbrev Started : List TimerCall → Timer → Type 0
Started calls t = t.run ≡ true → StartedAt calls t.start

all_on_more : (calls : List TimerCall) (c : TimerCall) → AllOn calls → c.input ≡ true → AllOn (calls ++ c ∷ [])
all_on_more [] c h k = (k, tt)
all_on_more (d ∷ calls) c h k = (h.0, all_on_more calls c h.1 k)

started_more : (calls : List TimerCall) (c : TimerCall) (start : ℤ) → StartedAt calls start → c.input ≡ true
    → StartedAt (calls ++ c ∷ []) start
started_more calls c start h k = record {
  before = h.before;
  first = h.first;
  since = h.since ++ c ∷ [];
  parts = ap (λ xs. xs ++ c ∷ []) h.parts ∙ append_assoc h.before (h.first ∷ h.since) (c ∷ []);
  on = (h.on.0, all_on_more h.since c h.on.1 k);
  moment = h.moment;
}

on_cases : (calls : List TimerCall) (now : ℕ) (pt : ℕ) (input q : Bool) (et : ℤ) (run : Bool) (start : ℤ)
    → Started calls (record { q = q; et = et; run = run; start = start })
    → Started (calls ++ record { now = now; input = input; pt = pt } ∷ [])
    (on_delay now input (pos pt) (record { q = q; et = et; run = run; start = start }))
on_cases calls now pt true q et true start h k =
    started_more calls (record { now = now; input = true; pt = pt }) start (h refl) refl
on_cases calls now pt true q et false start h k = record {
  before = calls;
  first =
      record { now = now; input = true; pt = pt };
  since = [];
  parts = refl;
  on = (refl, tt);
  moment = refl;
}
on_cases calls now pt false q et run start h k = absurd (cc)

started_along : (done calls : List TimerCall) (t : Timer) → Started done t
    → Started (done ++ calls) (fold (called_timer on_delay) t calls)
started_along done [] t h = λ k. rw (append-nil done) (h k)
started_along done (c ∷ calls) t h =
    let e : done ++ (c ∷ calls) ≡ (done ++ c ∷ []) ++ calls = sym (append_assoc done (c ∷ []) calls) in
    rw e (started_along (done ++ c ∷ []) calls (called_timer on_delay t c)
    (on_cases done c.now c.pt c.input t.q t.et t.run t.start h))

-- a running timer that was started at least `pt` ago
long_since : (calls : List TimerCall) (pt now : ℕ) (t : Timer) → StartedAt calls t.start → 0 < pt
    → int_le (pos pt) (elapsed now t) ≡ true → WasOnFor calls pt now
long_since calls pt now t h positive q =
    let far : pos pt ≤ℤ int_max (pos 0) (pos now -ℤ t.start) = le_z_yes (T_from_true _ q) in
    let long : pos pt ≤ℤ (pos now -ℤ t.start) = omega (arith, ints, int_max_is (pos 0) (pos now -ℤ t.start)) in
    let P : ℤ → Type 0 = λ z. pos pt ≤ℤ (pos now -ℤ z) in
    record {
      before = h.before;
      first = h.first;
      since = h.since;
      parts = h.parts;
      on = h.on;
      long =
          subst P h.moment long;
    }

on_for : (calls : List TimerCall) (now pt : ℕ) (input : Bool) (t : Timer)
    → Started (calls ++ record { now = now; input = input; pt = pt } ∷ []) (on_delay now input (pos pt) t)
    → 0 < pt → (on_delay now input (pos pt) t).q ≡ true
    → WasOnFor (calls ++ record { now = now; input = input; pt = pt } ∷ []) pt now
on_for calls now pt true t h positive q = long_since (calls ++ record { now = now; input = true; pt = pt } ∷ []) pt now
    (running now t) (h (runs now t.q t.et t.run t.start)) positive q
on_for calls now pt false t h positive q = absurd (cc)

pub on_delay_was_on : (calls : List TimerCall) (c : TimerCall) → 0 < c.pt
    → (timer_after on_delay (calls ++ c ∷ [])).q ≡ true → WasOnFor (calls ++ c ∷ []) c.pt c.now
on_delay_was_on calls c positive q =
    let t = timer_after on_delay calls in
    let e = fold-append (called_timer on_delay) fresh_timer calls (c ∷ []) in
    on_for calls c.now c.pt c.input t (on_cases calls c.now c.pt c.input t.q t.et t.run t.start
    (started_along [] calls fresh_timer (λ h. absurd (cc)))) positive (sym (ap (λ u. u.q) e) ∙ q)
