-- The result of a part of a program, and how the machine's run goes on from there.
use Rattle.std.proofs.Common.{◌≡◌, ℕ, zero, suc, ◌≤◌, ◌<◌, Bool, true, false, if◌then◌else◌}
use Rattle.std.proofs.Common.{Result, Ok, Err, refl, ◌∙◌, arith}
use Rattle.st_types.specs.declared.fault.Fault.{Fault}
use Rattle.st_meaning.specs.Failures.{Failure, StuckFaults}
use Rattle.st_meaning.specs.Ticks.{Run, follow, ◌>>=◌, give, attempt, proceed, tick}
use Rattle.machine_code.specs.Machine.{Ending, failed, on_result, on_tick}

-- the machine, which ends so, goes on with the result from a memory that fits it, and no ticks came back; or both fault
-- alike
abbrev pub GivesBy : {A M : Type 0} → Result (A × ℕ) Fault → ℕ → (A → M → Type 0) → (A → M → ℕ → Ending M) → Ending M
    → Type 0
GivesBy {A} {M} (Ok r) b Good on e = (m : M) × (Good r.0 m × (r.1 ≤ b) × (e ≡ on r.0 m r.1))
GivesBy {A} {M} (Err f) b Good on e = (m : M) × (e ≡ failed m f)

-- With b ticks the part gives r, and the machine, which ends so, goes on with that; or both fault alike.
pub record Gives {A M : Type 0} (r : Result (A × ℕ) Fault) (b : ℕ) (Good : A → M → Type 0) (on : A → M → ℕ → Ending M)
    (e : Ending M) : Type 0 where
  pub by : GivesBy r b Good on e

module _ {A M : Type 0} where
  eq_by : (r : Result (A × ℕ) Fault) (b : ℕ) (Good : A → M → Type 0) (on : A → M → ℕ → Ending M) (e d : Ending M)
      → e ≡ d → GivesBy r b Good on d → GivesBy r b Good on e
  eq_by (Ok r) b Good on e d is h = (h.0, (h.1.0, h.1.1, is ∙ h.1.2))
  eq_by (Err f) b Good on e d is h = (h.0, is ∙ h.1)

  pub by_eq : {r : Result (A × ℕ) Fault} {b : ℕ} {Good : A → M → Type 0} {on : A → M → ℕ → Ending M} {e d : Ending M}
      → e ≡ d → Gives r b Good on d → Gives r b Good on e
  by_eq {r} {b} {Good} {on} {e} {d} is h = record { by = eq_by r b Good on e d is h.by }

  fewer_by : (r : Result (A × ℕ) Fault) (b c : ℕ) (Good : A → M → Type 0) (on : A → M → ℕ → Ending M) (e : Ending M)
      → b ≤ c → GivesBy r b Good on e → GivesBy r c Good on e
  fewer_by (Ok r) b c Good on e le h = (h.0, (h.1.0, (let l = h.1.1 in omega arith), h.1.2))
  fewer_by (Err f) b c Good on e le h = h

  going_by : (r : Result (A × ℕ) Fault) (b : ℕ) (Good : A → M → Type 0) (on off : A → M → ℕ → Ending M) (e : Ending M)
      → ((a : A) (m : M) (c : ℕ) → on a m c ≡ off a m c) → GivesBy r b Good on e → GivesBy r b Good off e
  going_by (Ok r) b Good on off e same h = (h.0, (h.1.0, h.1.1, h.1.2 ∙ same r.0 h.0 r.1))
  going_by (Err f) b Good on off e same h = h

  -- going on elsewhere, if that is the same
  pub going : {r : Result (A × ℕ) Fault} {b : ℕ} {Good : A → M → Type 0} {on off : A → M → ℕ → Ending M} {e : Ending M}
      → ((a : A) (m : M) (c : ℕ) → on a m c ≡ off a m c) → Gives r b Good on e → Gives r b Good off e
  going {r} {b} {Good} {on} {off} {e} same h = record { by = going_by r b Good on off e same h.by }

  pub given : {a : A} (m : M) {b : ℕ} {Good : A → M → Type 0} {on : A → M → ℕ → Ending M} → Good a m
      → Gives (give a b) b Good on (on a m b)
  given m good = record { by = (m, (good, omega arith, refl)) }

module _ {A B M : Type 0} where
  bind_by : (r : Result (A × ℕ) Fault) (f : A → Run B) (b : ℕ) (Good : A → M → Type 0) (Fair : B → M → Type 0)
      (on : A → M → ℕ → Ending M) (off : B → M → ℕ → Ending M) (e : Ending M) → GivesBy r b Good on e
      → ((a : A) (m : M) (c : ℕ) → Good a m → c ≤ b → Gives (f a c) c Fair off (on a m c))
      → GivesBy (follow r f) b Fair off e
  bind_by (Ok r) f b Good Fair on off e h g =
      fewer_by (f r.0 r.1) r.1 b Fair off e h.1.1
      (eq_by (f r.0 r.1) r.1 Fair off e (on r.0 h.0 r.1) h.1.2 (g r.0 h.0 r.1 h.1.0 h.1.1).by)
  bind_by (Err x) f b Good Fair on off e h g = h

  -- one part after another
  pub bind : {r : Result (A × ℕ) Fault} (f : A → Run B) {b : ℕ} {Good : A → M → Type 0} {Fair : B → M → Type 0}
      {on : A → M → ℕ → Ending M} {off : B → M → ℕ → Ending M} {e : Ending M} → Gives r b Good on e
      → ((a : A) (m : M) (c : ℕ) → Good a m → c ≤ b → Gives (f a c) c Fair off (on a m c))
      → Gives (follow r f) b Fair off e
  bind {r} f {b} {Good} {Fair} {on} {off} {e} h g = record { by = bind_by r f b Good Fair on off e h.by g }

  taking_by : (t : StuckFaults) (r : Result A Failure) (f : A → Run B) (b : ℕ) (m : M) (next : A → Ending M)
      (Fair : B → M → Type 0) (off : B → M → ℕ → Ending M) → ((a : A) → Gives (f a b) b Fair off (next a))
      → GivesBy (follow (attempt t r b) f) b Fair off (on_result t r m next)
  taking_by t (Ok a) f b m next Fair off h = (h a).by
  taking_by t (Err x) f b m next Fair off h = (m, refl)

  -- a part that takes no ticks
  pub taking : (t : StuckFaults) (r : Result A Failure) (f : A → Run B) (b : ℕ) (m : M) (next : A → Ending M)
      {Fair : B → M → Type 0} {off : B → M → ℕ → Ending M} → ((a : A) → Gives (f a b) b Fair off (next a))
      → Gives (follow (attempt t r b) f) b Fair off (on_result t r m next)
  taking t r f b m next {Fair} {off} h = record { by = taking_by t r f b m next Fair off h }

ticking_by : {A M : Type 0} (f : Unit {0} → Run A) (b : ℕ) (m : M) (next : ℕ → Ending M) (Fair : A → M → Type 0)
    (off : A → M → ℕ → Ending M) → ((c : ℕ) → c < b → Gives (f tt c) c Fair off (next c))
    → GivesBy (follow (tick b) f) b Fair off (on_tick b m next)
ticking_by f zero m next Fair off h = (m, refl)
ticking_by f (suc b) m next Fair off h =
    fewer_by (f tt b) b (suc b) Fair off (next b) (omega arith) (h b (omega arith)).by

-- a tick before all else
pub ticking : {A M : Type 0} (f : Unit {0} → Run A) (b : ℕ) (m : M) (next : ℕ → Ending M) {Fair : A → M → Type 0}
    {off : A → M → ℕ → Ending M} → ((c : ℕ) → c < b → Gives (f tt c) c Fair off (next c))
    → Gives (follow (tick b) f) b Fair off (on_tick b m next)
ticking f b m next {Fair} {off} h = record { by = ticking_by f b m next Fair off h }

-- a choice
pub either : {A M : Type 0} (go : Bool) (x y : Run A) (b : ℕ) {Good : A → M → Type 0} {on : A → M → ℕ → Ending M}
    {e d : Ending M} → Gives (x b) b Good on e → Gives (y b) b Good on d
    → Gives ((if go then x else y) b) b Good on (if go then e else d)
either true x y b h g = h
either false x y b h g = g

-- a part in two parts
pub apart : {A B C M : Type 0} (r : Result (A × ℕ) Fault) (f : A → Run B) (g : B → Run C) {b : ℕ}
    {Good : C → M → Type 0} {on : C → M → ℕ → Ending M} {e : Ending M}
    → Gives (follow r (λ a. f a >>= g)) b Good on e → Gives (follow (follow r f) g) b Good on e
apart (Ok r) f g h = h
apart (Err x) f g h = h

-- parts that take no ticks, one after another
pub attempt_then : {A B M : Type 0} (t : StuckFaults) (r : Result A Failure) (f : A → Result B Failure) {b : ℕ}
    {Good : B → M → Type 0} {on : B → M → ℕ → Ending M} {e : Ending M}
    → Gives (follow (attempt t r b) (λ a. attempt t (f a))) b Good on e → Gives (attempt t (proceed r f) b) b Good on e
attempt_then t (Ok a) f h = h
attempt_then t (Err x) f h = h
