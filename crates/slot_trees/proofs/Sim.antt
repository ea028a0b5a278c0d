-- Runs that end alike, put together.
use Rattle.std.proofs.Common.{◌≡◌, ℕ, zero, suc, Bool, true, false, if◌then◌else◌, Result, Ok, Err}
use Rattle.std.proofs.Common.{refl, sym, subst}
use Rattle.st_types.specs.declared.fault.Fault.{Fault}
use Rattle.st_meaning.specs.Failures.{Failure, StuckFaults, fault_for}
use Rattle.st_meaning.specs.Ticks.{Run, follow, ◌>>=◌, ◌>>◌, give, fault, attempt, proceed, tick}
use Rattle.slot_trees.specs.Alike.{EndEqually, RunEqually}

-- the same result
abbrev pub Same : (A : Type 0) → A → A → Type 0
Same A a b = a ≡ b

pub sim_give : {A B : Type 0} {R : A → B → Type 0} (a : A) (b : B) → R a b → RunEqually A B R (give a) (give b)
sim_give a b h = record { alike = λ n. (h, refl) }

pub sim_fault : {A B : Type 0} {R : A → B → Type 0} (e : Fault) → RunEqually A B R (fault e) (fault e)
sim_fault e = record { alike = λ n. refl }

follow_alike : {A B C D : Type 0} (R : A → B → Type 0) (S : C → D → Type 0) (f : A → Run C) (g : B → Run D)
    (x : Result (A × ℕ) Fault) (y : Result (B × ℕ) Fault) → EndEqually R x y
    → ((a : A) (b : B) → R a b → RunEqually C D S (f a) (g b)) → EndEqually S (follow x f) (follow y g)
follow_alike R S f g (Ok r) (Ok t) h k =
    subst (λ n. EndEqually S (f r.0 r.1) (g t.0 n)) h.1 ((k r.0 t.0 h.0).alike r.1)
follow_alike R S f g (Err e) (Err e') h k = h
follow_alike R S f g (Ok r) (Err e) h k = absurd h
follow_alike R S f g (Err e) (Ok t) h k = absurd h

pub sim_then : {A B C D : Type 0} {R : A → B → Type 0} {S : C → D → Type 0} {m : Run A} {n : Run B} {f : A → Run C}
    {g : B → Run D} → RunEqually A B R m n → ((a : A) (b : B) → R a b → RunEqually C D S (f a) (g b))
    → RunEqually C D S (m >>= f) (n >>= g)
sim_then {R = R} {S = S} {m = m} {n = n} {f = f} {g = g} h k =
    record { alike = λ b. follow_alike R S f g (m b) (n b) (h.alike b) k }

pub sim_same : {A C D : Type 0} {S : C → D → Type 0} {m n : Run A} {f : A → Run C} {g : A → Run D}
    → RunEqually A A (Same A) m n → ((a : A) → RunEqually C D S (f a) (g a)) → RunEqually C D S (m >>= f) (n >>= g)
sim_same {C = C} {D = D} {S = S} {f = f} {g = g} h k =
    sim_then h (λ a b e. subst (λ x. RunEqually C D S (f a) (g x)) e (k a))

tick_alike : {A B : Type 0} (R : A → B → Type 0) (m : Run A) (n : Run B) → RunEqually A B R m n → (b : ℕ)
    → EndEqually R (follow (tick b) (λ _. m)) (follow (tick b) (λ _. n))
tick_alike R m n h zero = refl
tick_alike R m n h (suc b) = h.alike b

pub sim_tick : {A B : Type 0} {R : A → B → Type 0} {m : Run A} {n : Run B} → RunEqually A B R m n
    → RunEqually A B R (tick >> m) (tick >> n)
sim_tick {R = R} {m = m} {n = n} h = record { alike = λ b. tick_alike R m n h b }

-- parts that take no ticks
abbrev pub ResultAlike : {A B : Type 0} → (A → B → Type 0) → Result A Failure → Result B Failure → Type 0
ResultAlike R (Ok a) (Ok b) = R a b
ResultAlike R (Err e) (Err f) = e ≡ f
ResultAlike R (Ok a) (Err f) = ⊥
ResultAlike R (Err e) (Ok b) = ⊥

pub sim_attempt : {A B : Type 0} {R : A → B → Type 0} (t : StuckFaults) (x : Result A Failure) (y : Result B Failure)
    → ResultAlike R x y → RunEqually A B R (attempt t x) (attempt t y)
sim_attempt t (Ok a) (Ok b) h = sim_give a b h
sim_attempt {A = A} {B = B} {R = R} t (Err e) (Err f) h =
    subst (λ x. RunEqually A B R (fault (fault_for t e)) (fault (fault_for t x))) h (sim_fault (fault_for t e))
sim_attempt t (Ok a) (Err f) h = absurd h
sim_attempt t (Err e) (Ok b) h = absurd h

pub sim_attempted : {A : Type 0} (t : StuckFaults) (x : Result A Failure)
    → RunEqually A A (Same A) (attempt t x) (attempt t x)
sim_attempted t (Ok a) = sim_give a a refl
sim_attempted t (Err e) = sim_fault (fault_for t e)

pub proceed_alike : {A B C D : Type 0} (R : A → B → Type 0) (S : C → D → Type 0) (f : A → Result C Failure)
    (g : B → Result D Failure) (x : Result A Failure) (y : Result B Failure) → ResultAlike R x y
    → ((a : A) (b : B) → R a b → ResultAlike S (f a) (g b)) → ResultAlike S (proceed x f) (proceed y g)
proceed_alike R S f g (Ok a) (Ok b) h k = k a b h
proceed_alike R S f g (Err e) (Err e') h k = h
proceed_alike R S f g (Ok a) (Err e) h k = absurd h
proceed_alike R S f g (Err e) (Ok b) h k = absurd h

pub sim_if : {A B : Type 0} {R : A → B → Type 0} {m m' : Run A} {n n' : Run B} (b : Bool) → RunEqually A B R m n
    → RunEqually A B R m' n' → RunEqually A B R (if b then m else m') (if b then n else n')
sim_if true h k = h
sim_if false h k = k

weaker : {A B : Type 0} (R S : A → B → Type 0) → ((a : A) (b : B) → R a b → S a b) → (x : Result (A × ℕ) Fault)
    (y : Result (B × ℕ) Fault) → EndEqually R x y → EndEqually S x y
weaker R S k (Ok r) (Ok t) g = (k r.0 t.0 g.0, g.1)
weaker R S k (Err e) (Err f) g = g
weaker R S k (Ok r) (Err f) g = absurd g
weaker R S k (Err e) (Ok t) g = absurd g

pub sim_weaker : {A B : Type 0} {R S : A → B → Type 0} {m : Run A} {n : Run B}
    → ((a : A) (b : B) → R a b → S a b) → RunEqually A B R m n → RunEqually A B S m n
sim_weaker {R = R} {S = S} {m = m} {n = n} k h = record { alike = λ b. weaker R S k (m b) (n b) (h.alike b) }

apart : {A B C : Type 0} (f : A → Run B) (g : B → Run C) (x : Result (A × ℕ) Fault)
    → follow (follow x f) g ≡ follow x (λ a. f a >>= g)
apart f g (Ok r) = refl
apart f g (Err e) = refl

-- two parts before a third
pub sim_apart : {A B C D : Type 0} {R : C → D → Type 0} (m : Run A) (f : A → Run B) (g : B → Run C) (n : Run D)
    → RunEqually C D R (m >>= (λ a. f a >>= g)) n → RunEqually C D R ((m >>= f) >>= g) n
sim_apart {R = R} m f g n h =
    record { alike = λ b. subst (λ x. EndEqually R x (n b)) (sym (apart f g (m b))) (h.alike b) }
