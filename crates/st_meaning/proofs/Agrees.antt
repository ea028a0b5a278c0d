-- Bounds of the recursion are never the limit of a run: with fewer ticks than calls may be deep, deeper calls change
-- nothing, faults included.
use Rattle.std.proofs.Common.{◌≡◌, ℕ, zero, suc, ◌<◌, ◌≤◌, List, Option, Some, None, Result, Ok, Err, refl, ap, ◌∙◌}
use Rattle.std.proofs.Common.{arith}
use Rattle.st_types.specs.declared.fault.Fault.{Fault}
use Rattle.st_types.specs.Values.{Datum}
use Rattle.st_types.specs.Paths.{Path}
use Rattle.st_meaning.specs.Failures.{StuckFaults, in_runs}
use Rattle.st_meaning.specs.Stores.{Store}
use Rattle.st_meaning.specs.Ticks.{Run, follow, ◌>>=◌, ◌>>◌, give, fault, tick}
use Rattle.st_meaning.specs.StandardBlocks.{block_of}
use Rattle.st_meaning.specs.Scopes.{Name, Library, Units}
use Rattle.st_meaning.specs.Loops.{End, goes_on, Iteration, again, over, resumed, go_back, turns, looped}
use Rattle.st_meaning.specs.Execution.{exec_all}
use Rattle.st_meaning.specs.Runs.{Program, units_within, scope_of, ran, ran_where}
use Rattle.st_meaning.proofs.Related.{IsClosed, stand_themselves, stop_themselves, exec_all_q, functions_q, instances_q}
use Rattle.st_meaning.proofs.Lasts.{Lasts, units_last}

-- the same below t ticks
pub record Agrees (t : ℕ) (A : Type 0) (m n : Run A) : Type 0 where
  pub same : (b : ℕ) → b < t → m b ≡ n b
  pub falls : (b : ℕ) (a : A) (c : ℕ) → m b ≡ Ok (a, c) → c ≤ b

same_follow : {A B : Type 0} (t b : ℕ) (f g : A → Run B) (x : Result (A × ℕ) Fault) → b < t
    → ((a : A) (c : ℕ) → x ≡ Ok (a, c) → c ≤ b) → ((a : A) → Agrees t B (f a) (g a)) → follow x f ≡ follow x g
same_follow t b f g (Ok r) lt h k = let le = h r.0 r.1 refl in (k r.0).same r.1 (omega arith)
same_follow t b f g (Err e) lt h k = refl

falls_follow : {A B : Type 0} (t b : ℕ) (f g : A → Run B) (x : Result (A × ℕ) Fault)
    → ((a : A) (c : ℕ) → x ≡ Ok (a, c) → c ≤ b) → ((a : A) → Agrees t B (f a) (g a)) → (z : B) (c : ℕ)
    → follow x f ≡ Ok (z, c) → c ≤ b
falls_follow t b f g (Ok r) h k z c e = omega (arith, h r.0 r.1 refl, (k r.0).falls r.1 z c e)
falls_follow t b f g (Err y) h k z c e = absurd (cc)

agrees_then : (t : ℕ) {A B : Type 0} {m n : Run A} {f g : A → Run B} → Agrees t A m n
    → ((a : A) → Agrees t B (f a) (g a)) → Agrees t B (m >>= f) (n >>= g)
agrees_then t {m = m} {n = n} {f = f} {g = g} h k = record {
  same = λ b lt. same_follow t b f g (m b) lt (h.falls b) k ∙ ap (λ x. follow x g) (h.same b lt);
  falls = λ b z c e. falls_follow t b f g (m b) (h.falls b) k z c e;
}

agrees_give : (t : ℕ) {A : Type 0} (a : A) → Agrees t A (give a) (give a)
agrees_give t {A = A} a = record {
  same = λ b lt. refl;
  falls = λ b x c e. let h : ◌≡◌ {A = A × ℕ} (a, b) (x, c) = cc in let k : b ≡ c = ap (λ p. p.1) h in omega arith;
}

agrees_fault : (t : ℕ) {A : Type 0} (e : Fault) → Agrees t A (fault e) (fault e)
agrees_fault t e = record { same = λ b lt. refl; falls = λ b x c h. absurd (cc) }

same_tick : {A : Type 0} (t : ℕ) (m n : Run A) → Agrees t A m n → (b : ℕ) → b < suc t
    → follow (tick b) (λ _. m) ≡ follow (tick b) (λ _. n)
same_tick t m n h zero lt = refl
same_tick t m n h (suc b) lt = h.same b (omega arith)

falls_tick : {A : Type 0} (t : ℕ) (m n : Run A) → Agrees t A m n → (b : ℕ) (a : A) (c : ℕ)
    → follow (tick b) (λ _. m) ≡ Ok (a, c) → c ≤ b
falls_tick t m n h zero a c e = absurd (cc)
falls_tick t m n h (suc b) a c e = omega (arith, h.falls b a c e)

agrees_tick : (t : ℕ) {A : Type 0} {m n : Run A} → Agrees t A m n → Agrees (suc t) A (tick >> m) (tick >> n)
agrees_tick t {m = m} {n = n} h = record { same = same_tick t m n h; falls = falls_tick t m n h }

agrees_within : (t : ℕ) {A : Type 0} {m n : Run A} → Agrees (suc t) A m n → Agrees t A m n
agrees_within t h = record { same = λ b lt. h.same b (omega arith); falls = h.falls }

module _ (t : ℕ) (turn turn' : Store → Run Iteration) (step step' : Store → Run (Option Store))
    (h : (s : Store) → Agrees t Iteration (turn s) (turn' s))
    (i : (s : Store) → Agrees t (Option Store) (step s) (step' s)) where
  stepped_agrees : (next next' : Store → Run End) → ((s : Store) → Agrees t End (next s) (next' s))
      → (s : Store) (o : Option Store) → Agrees t End (resumed next s o) (resumed next' s o)
  stepped_agrees next next' k s None = agrees_give t (goes_on s)
  stepped_agrees next next' k s (Some u) = k u

  back_agrees : (next next' : Store → Run End) → ((s : Store) → Agrees t End (next s) (next' s)) → (u : Iteration)
      → Agrees t End (go_back step next u) (go_back step' next' u)
  back_agrees next next' k (over e) = agrees_give t e
  back_agrees next next' k (again s) =
      agrees_within t (agrees_tick t (agrees_then t (i s) (stepped_agrees next next' k s)))

  turns_agree : (n : ℕ) (s : Store) → Agrees t End (turns n turn step s) (turns n turn' step' s)
  unfolding turns
  turns_agree zero s = agrees_fault t _
  turns_agree (suc n) s =
      agrees_then t (h s) (λ u. back_agrees (turns n turn step) (turns n turn' step') (turns_agree n) u)

  looped_agrees : (s : Store) → Agrees t End (looped turn step s) (looped turn' step' s)
  unfolding looped
  looped_agrees s = record {
    same = λ b lt. (turns_agree (suc b) s).same b lt;
    falls = λ b a c e. (turns_agree (suc b) s).falls b a c e;
  }

pub agrees_closed : (t : ℕ) → IsClosed (Agrees t) (Agrees (suc t))
agrees_closed t = record {
  gives = agrees_give t;
  faults = agrees_fault t;
  follows = agrees_then t;
  loops = looped_agrees t;
  stops = agrees_fault (suc t);
  begins = agrees_give (suc t);
  continues = agrees_then (suc t);
  ticks = agrees_tick t;
  within = agrees_within t;
}

pub record UnitsAgree (t : ℕ) (u v : Units) : Type 0 where
  pub functions : (f : Name) (vs : List Datum) → Agrees t Datum (u.functions f vs) (v.functions f vs)
  pub blocks : (b : Name) (at : Path) (s : Store) → Agrees t Store (u.blocks b at s) (v.blocks b at s)

none_below : {A : Type 0} (m n : Run A) → Lasts A m m → Agrees 0 A m n
none_below m n h = record { same = λ b lt. absurd (omega arith); falls = h.falls }

pub units_agree : (stuck_faults : StuckFaults) (library : Library) (image : Store) (now t n m : ℕ) → t ≤ n → t ≤ m
    → UnitsAgree t (units_within stuck_faults library image now n) (units_within stuck_faults library image now m)
unfolding units_within
units_agree stuck_faults library image now zero n m le le' =
    let u = units_last stuck_faults library image now n n (omega arith) in
    record {
      functions =
          λ f vs. none_below _ _ (u.functions f vs);
      blocks = λ b at s. none_below _ _ (u.blocks b at s);
    }
units_agree stuck_faults library image now (suc t) zero m le le' = absurd (omega arith)
units_agree stuck_faults library image now (suc t) (suc n) zero le le' = absurd (omega arith)
units_agree stuck_faults library image now (suc t) (suc n) (suc m) le le' =
    let u = units_agree stuck_faults library image now t n m (omega arith) (omega arith) in
    record {
      functions = functions_q (Agrees t) (Agrees (suc t)) (agrees_closed t) stuck_faults stuck_faults library image now
          (units_within stuck_faults library image now n) (units_within stuck_faults library image now m) u.functions u.blocks
          (stand_themselves (Agrees t) (Agrees (suc t)) (agrees_closed t) stuck_faults)
          (stop_themselves (Agrees t) (Agrees (suc t)) (agrees_closed t) stuck_faults);
      blocks = λ b. instances_q (Agrees t) (Agrees (suc t)) (agrees_closed t) stuck_faults stuck_faults library image now
          (units_within stuck_faults library image now n) (units_within stuck_faults library image now m) u.functions u.blocks
          (stand_themselves (Agrees t) (Agrees (suc t)) (agrees_closed t) stuck_faults)
          (stop_themselves (Agrees t) (Agrees (suc t)) (agrees_closed t) stuck_faults) b (block_of b);
    }

pub ran_agrees : (p : Program) (image : Store) (now b n : ℕ) (s : Store) → b ≤ n
    → ran p image now b s ≡ exec_all (scope_of p image now n) p.body.statements s b
unfolding ran ran_where
ran_agrees p image now b n s le =
    let u = units_agree in_runs p.library image now b b n (omega arith) le in
    (exec_all_q (Agrees b) (Agrees (suc b)) (agrees_closed b) (scope_of p image now b) (units_within in_runs p.library
    image now n) in_runs u.functions u.blocks (stand_themselves (Agrees b) (Agrees (suc b)) (agrees_closed b) in_runs)
    p.body.statements s).same b (omega arith)

-- a loop whose turns never give ticks back needs no more turns than it has ticks
module _ (turn : Store → Run Iteration) (step : Store → Run (Option Store))
    (falls : (s : Store) (b : ℕ) (t : Iteration) (c : ℕ) → turn s b ≡ Ok (t, c) → c ≤ b)
    (steps : (s : Store) (b : ℕ) (o : Option Store) (c : ℕ) → step s b ≡ Ok (o, c) → c ≤ b) where
  stepped_same : (next next' : Store → Run End) (b : ℕ) → ((t : Store) (c : ℕ) → c < b → next t c ≡ next' t c)
      → (s : Store) (c : ℕ) (o : Option Store) → c < b → resumed next s o c ≡ resumed next' s o c
  stepped_same next next' b h s c None lt = refl
  stepped_same next next' b h s c (Some t) lt = h t c lt

  stepped_on_same : (next next' : Store → Run End) (b : ℕ) → ((t : Store) (c : ℕ) → c < b → next t c ≡ next' t c)
      → (s : Store) (d : ℕ) (r : Result (Option Store × ℕ) Fault)
      → ((o : Option Store) (c : ℕ) → r ≡ Ok (o, c) → c ≤ d) → d < b
      → follow r (resumed next s) ≡ follow r (resumed next' s)
  stepped_on_same next next' b h s d (Ok r) k lt =
      let le = k r.0 r.1 refl in stepped_same next next' b h s r.1 r.0 (omega arith)
  stepped_on_same next next' b h s d (Err e) k lt = refl

  back_same : (next next' : Store → Run End) (b : ℕ) → ((t : Store) (c : ℕ) → c < b → next t c ≡ next' t c)
      → (u : Iteration) (c : ℕ) → c ≤ b → go_back step next u c ≡ go_back step next' u c
  back_same next next' b h (over e) c le = refl
  back_same next next' b h (again s) zero le = refl
  back_same next next' b h (again s) (suc c) le =
      stepped_on_same next next' b h s c (step s c) (steps s c) (omega arith)

  turned_same : (next next' : Store → Run End) (b : ℕ) → ((t : Store) (c : ℕ) → c < b → next t c ≡ next' t c)
      → (r : Result (Iteration × ℕ) Fault) → ((u : Iteration) (c : ℕ) → r ≡ Ok (u, c) → c ≤ b)
      → follow r (go_back step next) ≡ follow r (go_back step next')
  turned_same next next' b h (Ok r) k = back_same next next' b h r.0 r.1 (k r.0 r.1 refl)
  turned_same next next' b h (Err e) k = refl

  pub turns_enough : (n m : ℕ) (s : Store) (b : ℕ) → b < n → b < m → turns n turn step s b ≡ turns m turn step s b
  unfolding turns
  turns_enough zero m s b lt lt' = absurd (omega arith)
  turns_enough (suc n) zero s b lt lt' = absurd (omega arith)
  turns_enough (suc n) (suc m) s b lt lt' = turned_same (turns n turn step) (turns m turn step) b
      (λ t c le. turns_enough n m t c (omega arith) (omega arith)) (turn s b) (falls s b)

pub loop_enough : (turn : Store → Run Iteration) (step : Store → Run (Option Store))
    → ((s : Store) (b : ℕ) (t : Iteration) (c : ℕ) → turn s b ≡ Ok (t, c) → c ≤ b)
    → ((s : Store) (b : ℕ) (o : Option Store) (c : ℕ) → step s b ≡ Ok (o, c) → c ≤ b)
    → (n : ℕ) (s : Store) (b : ℕ) → b < n
    → turns n turn step s b ≡ looped turn step s b
unfolding looped
loop_enough turn step falls steps n s b lt = turns_enough turn step falls steps n (suc b) s b lt (omega arith)
