-- A run that ends has no more ticks left than it had, and ends the same with more; so does one that faults for another
-- cause.
use Rattle.std.proofs.Common.{◌≡◌, ℕ, zero, suc, ◌+◌, ◌≤◌, List, Option, Some, None, Result, Ok, Err, refl, sym, ap}
use Rattle.std.proofs.Common.{arith}
use Rattle.st_types.specs.declared.fault.Fault.{Fault}
use Rattle.st_types.specs.declared.fault.Fault.TheVariants.{Budget}
use Rattle.st_types.specs.Values.{Datum}
use Rattle.st_types.specs.Paths.{Path}
use Rattle.st_types.specs.Statements.{Stmts}
use Rattle.st_meaning.specs.Failures.{StuckFaults, in_runs}
use Rattle.st_meaning.specs.Stores.{Store}
use Rattle.st_meaning.specs.Ticks.{Run, follow, ◌>>=◌, ◌>>◌, give, fault, tick}
use Rattle.st_meaning.specs.StandardBlocks.{block_of}
use Rattle.st_meaning.specs.Scopes.{Name, Library, Units}
use Rattle.st_meaning.specs.Loops.{End, goes_on, Iteration, again, over, resumed, go_back, turns, looped}
use Rattle.st_meaning.specs.Execution.{exec_all}
use Rattle.st_meaning.specs.Runs.{Program, units_within, scope_of, ran, ran_where}
use Rattle.st_meaning.proofs.Related.{IsClosed, stand_themselves, exec_all_q, functions_q, instances_q}

pub record Lasts (A : Type 0) (m n : Run A) : Type 0 where
  pub falls : (b : ℕ) (a : A) (c : ℕ) → m b ≡ Ok (a, c) → c ≤ b
  pub more : (b k : ℕ) (a : A) (c : ℕ) → m b ≡ Ok (a, c) → n (b + k) ≡ Ok (a, c + k)
  pub same : (b k : ℕ) (e : Fault) → (e ≡ Budget → ⊥) → m b ≡ Err e → n (b + k) ≡ Err e

falls_follow : {A B : Type 0} (f g : A → Run B) (b : ℕ) (x : Result (A × ℕ) Fault)
    → ((a : A) (c : ℕ) → x ≡ Ok (a, c) → c ≤ b) → ((a : A) → Lasts B (f a) (g a)) → (z : B) (c : ℕ)
    → follow x f ≡ Ok (z, c) → c ≤ b
falls_follow f g b (Ok r) h k z c e = omega (arith, h r.0 r.1 refl, (k r.0).falls r.1 z c e)
falls_follow f g b (Err y) h k z c e = absurd (cc)

more_follow : {A B : Type 0} (f g : A → Run B) (k : ℕ) (x y : Result (A × ℕ) Fault)
    → ((a : A) (c : ℕ) → x ≡ Ok (a, c) → y ≡ Ok (a, c + k)) → ((a : A) → Lasts B (f a) (g a)) → (z : B) (c : ℕ)
    → follow x f ≡ Ok (z, c) → follow y g ≡ Ok (z, c + k)
more_follow f g k (Ok r) y h l z c e = rw (h r.0 r.1 refl) ((l r.0).more r.1 k z c e)
more_follow f g k (Err w) y h l z c e = absurd (cc)

same_follow : {A B : Type 0} (f g : A → Run B) (k : ℕ) (x y : Result (A × ℕ) Fault) (e : Fault) → (e ≡ Budget → ⊥)
    → ((a : A) (c : ℕ) → x ≡ Ok (a, c) → y ≡ Ok (a, c + k)) → (x ≡ Err e → y ≡ Err e)
    → ((a : A) → Lasts B (f a) (g a)) → follow x f ≡ Err e → follow y g ≡ Err e
same_follow f g k (Ok r) y e other h i l q = rw (h r.0 r.1 refl) ((l r.0).same r.1 k e other q)
same_follow f g k (Err w) y e other h i l q = let j : w ≡ e = cc in rw (i (ap Err j)) refl

lasts_then : {A B : Type 0} {m n : Run A} {f g : A → Run B} → Lasts A m n → ((a : A) → Lasts B (f a) (g a))
    → Lasts B (m >>= f) (n >>= g)
lasts_then {m = m} {n = n} {f = f} {g = g} h l = record {
  falls = λ b z c e. falls_follow f g b (m b) (h.falls b) l z c e;
  more = λ b k z c e. more_follow f g k (m b) (n (b + k)) (h.more b k) l z c e;
  same = λ b k e other q. same_follow f g k (m b) (n (b + k)) e other (h.more b k) (h.same b k e other) l q;
}

lasts_give : {A : Type 0} (a : A) → Lasts A (give a) (give a)
lasts_give {A = A} a = record {
  falls = λ b x c e. let h : ◌≡◌ {A = A × ℕ} (a, b) (x, c) = cc in let k : b ≡ c = ap (λ p. p.1) h in omega arith;
  more = λ b k x c e. let h : ◌≡◌ {A = A × ℕ} (a, b) (x, c) = cc in let i : b ≡ c = ap (λ p. p.1) h in
      let j : a ≡ x = ap (λ p. p.0) h in cc;
  same = λ b k e other h. absurd (cc);
}

lasts_fault : {A : Type 0} (e : Fault) → Lasts A (fault e) (fault e)
lasts_fault e = record { falls = λ b x c h. absurd (cc); more = λ b k x c h. absurd (cc); same = λ b k w other h. h }

-- a run without ticks promises nothing
lasts_none : {A : Type 0} (n : Run A) → Lasts A (fault Budget) n
lasts_none n = record {
  falls = λ b x c h. absurd (cc);
  more =
      λ b k x c h. absurd (cc);
  same = λ b k w other h. let e : Budget ≡ w = cc in absurd (other (sym e));
}

tick_falls : {A : Type 0} (m n : Run A) → Lasts A m n → (b : ℕ) (a : A) (c : ℕ) → follow (tick b) (λ _. m) ≡ Ok (a, c)
    → c ≤ b
tick_falls m n h zero a c e = absurd (cc)
tick_falls m n h (suc b) a c e = omega (arith, h.falls b a c e)

tick_more : {A : Type 0} (m n : Run A) → Lasts A m n → (b k : ℕ) (a : A) (c : ℕ) → follow (tick b) (λ _. m) ≡ Ok (a, c)
    → follow (tick (b + k)) (λ _. n) ≡ Ok (a, c + k)
tick_more m n h zero k a c e = absurd (cc)
tick_more m n h (suc b) k a c e = let s : suc b + k ≡ suc (b + k) = omega arith in rw s (h.more b k a c e)

tick_same : {A : Type 0} (m n : Run A) → Lasts A m n → (b k : ℕ) (e : Fault) → (e ≡ Budget → ⊥)
    → follow (tick b) (λ _. m) ≡ Err e → follow (tick (b + k)) (λ _. n) ≡ Err e
tick_same m n h zero k e other q = let w : Budget ≡ e = cc in absurd (other (sym w))
tick_same m n h (suc b) k e other q = let s : suc b + k ≡ suc (b + k) = omega arith in rw s (h.same b k e other q)

lasts_tick : {A : Type 0} {m n : Run A} → Lasts A m n → Lasts A (tick >> m) (tick >> n)
lasts_tick {m = m} {n = n} h = record { falls = tick_falls m n h; more = tick_more m n h; same = tick_same m n h }

module _ (turn turn' : Store → Run Iteration) (step step' : Store → Run (Option Store))
    (h : (s : Store) → Lasts Iteration (turn s) (turn' s)) (i : (s : Store) → Lasts (Option Store) (step s) (step' s))
  where
    stepped_lasts : (next next' : Store → Run End) → ((s : Store) → Lasts End (next s) (next' s))
        → (s : Store) (o : Option Store) → Lasts End (resumed next s o) (resumed next' s o)
    stepped_lasts next next' k s None = lasts_give (goes_on s)
    stepped_lasts next next' k s (Some t) = k t

    back_lasts : (next next' : Store → Run End) → ((s : Store) → Lasts End (next s) (next' s)) → (t : Iteration)
        → Lasts End (go_back step next t) (go_back step' next' t)
    back_lasts next next' k (over e) = lasts_give e
    back_lasts next next' k (again s) = lasts_tick (lasts_then (i s) (stepped_lasts next next' k s))

    turns_last : (n m : ℕ) → n ≤ m → (s : Store) → Lasts End (turns n turn step s) (turns m turn' step' s)
    unfolding turns
    turns_last zero m le s = lasts_none _
    turns_last (suc n) zero le s = absurd (omega arith)
    turns_last (suc n) (suc m) le s =
        lasts_then (h s) (λ t. back_lasts (turns n turn step) (turns m turn' step') (turns_last n m (omega arith)) t)

    looped_lasts : (s : Store) → Lasts End (looped turn step s) (looped turn' step' s)
    unfolding looped
    looped_lasts s = record {
      falls = λ b a c e. (turns_last (suc b) (suc b) (omega arith) s).falls b a c e;
      more = λ b k a c e. (turns_last (suc b) (suc (b + k)) (omega arith) s).more b k a c e;
      same = λ b k e other q. (turns_last (suc b) (suc (b + k)) (omega arith) s).same b k e other q;
    }

pub lasts_closed : IsClosed Lasts Lasts
lasts_closed = record {
  gives = lasts_give;
  faults = lasts_fault;
  follows = lasts_then;
  loops = looped_lasts;
  stops = lasts_fault;
  begins = lasts_give;
  continues = lasts_then;
  ticks = lasts_tick;
  within = λ h. h;
}

-- deeper calls change nothing of a run that ends
pub record UnitsLast (u v : Units) : Type 0 where
  pub functions : (f : Name) (vs : List Datum) → Lasts Datum (u.functions f vs) (v.functions f vs)
  pub blocks : (b : Name) (at : Path) (s : Store) → Lasts Store (u.blocks b at s) (v.blocks b at s)

pub units_last : (stuck_faults : StuckFaults) (library : Library) (image : Store) (now n m : ℕ) → n ≤ m
    → UnitsLast (units_within stuck_faults library image now n) (units_within stuck_faults library image now m)
unfolding units_within
units_last stuck_faults library image now zero m le =
    record { functions = λ f vs. lasts_none _; blocks = λ b at s. lasts_none _ }
units_last stuck_faults library image now (suc n) zero le = absurd (omega arith)
units_last stuck_faults library image now (suc n) (suc m) le =
    let u = units_last stuck_faults library image now n m (omega arith) in
    record {
      functions = functions_q Lasts Lasts lasts_closed stuck_faults stuck_faults library image now
          (units_within stuck_faults library image now n) (units_within stuck_faults library image now m) u.functions u.blocks
          (stand_themselves Lasts Lasts lasts_closed stuck_faults) (stand_themselves Lasts Lasts lasts_closed stuck_faults);
      blocks = λ b. instances_q Lasts Lasts lasts_closed stuck_faults stuck_faults library image now
          (units_within stuck_faults library image now n) (units_within stuck_faults library image now m) u.functions u.blocks
          (stand_themselves Lasts Lasts lasts_closed stuck_faults) (stand_themselves Lasts Lasts lasts_closed stuck_faults) b
          (block_of b);
    }

-- the statements of a program, with calls at most n deep and with deeper ones
pub program_lasts : (p : Program) (image : Store) (now n m : ℕ) → n ≤ m → (xs : Stmts) (s : Store)
    → Lasts End (exec_all (scope_of p image now n) xs s) (exec_all (scope_of p image now m) xs s)
program_lasts p image now n m le xs s =
    let u = units_last in_runs p.library image now n m le in
    exec_all_q Lasts Lasts lasts_closed (scope_of p image now n) (units_within in_runs p.library image now m) in_runs
    u.functions u.blocks (stand_themselves Lasts Lasts lasts_closed in_runs) xs s

pub ran_falls : (p : Program) (image : Store) (now b : ℕ) (s : Store) (e : End) (c : ℕ)
    → ran p image now b s ≡ Ok (e, c) → c ≤ b
unfolding ran ran_where
ran_falls p image now b s e c h = (program_lasts p image now b b (omega arith) p.body.statements s).falls b e c h

pub ran_more : (p : Program) (image : Store) (now b k : ℕ) (s : Store) (e : End) (c : ℕ)
    → ran p image now b s ≡ Ok (e, c) → ran p image now (b + k) s ≡ Ok (e, c + k)
unfolding ran ran_where
ran_more p image now b k s e c h =
    (program_lasts p image now b (b + k) (omega arith) p.body.statements s).more b k e c h

pub ran_same : (p : Program) (image : Store) (now b k : ℕ) (s : Store) (e : Fault) → (e ≡ Budget → ⊥)
    → ran p image now b s ≡ Err e → ran p image now (b + k) s ≡ Err e
unfolding ran ran_where
ran_same p image now b k s e other h =
    (program_lasts p image now b (b + k) (omega arith) p.body.statements s).same b k e other h
