-- Two choices of the faults for failures that no well-typed text meets: two runs end the same way, or each with its fault
-- for one such failure.
use Rattle.std.proofs.Common.{◌≡◌, ℕ, zero, suc, ◌⊎◌, inl, inr, IsSome, List, Option, Some, None, Result, Ok, Err, refl}
use Rattle.std.proofs.Common.{sym, ap, ◌∙◌}
use Rattle.st_types.specs.declared.fault.Fault.{Fault}
use Rattle.st_types.specs.Values.{Datum}
use Rattle.st_types.specs.Paths.{Path}
use Rattle.st_meaning.specs.Failures.{Failure, fails, valueless, ill_typed, StuckFaults, fault_for, with_missing, with_wrong}
use Rattle.st_meaning.specs.Stores.{Store}
use Rattle.st_meaning.specs.Ticks.{Run, follow, ◌>>=◌, ◌>>◌, give, fault, tick}
use Rattle.st_meaning.specs.StandardBlocks.{block_of}
use Rattle.st_meaning.specs.Scopes.{Name, Library, Units, seen}
use Rattle.st_meaning.specs.Loops.{End, goes_on, Iteration, again, over, resumed, go_back, turns, looped}
use Rattle.st_meaning.specs.Runs.{Program, units_within, scope_where, ran_where}
use Rattle.st_meaning.specs.Asked.{IsAsked, without_value}
use Rattle.st_meaning.proofs.Related.{IsClosed, StandRelated, exec_all_q, functions_q, instances_q}

module _ (t u : StuckFaults) where
  abbrev AlikeEnds : (A : Type 0) → Result (A × ℕ) Fault → Result (A × ℕ) Fault → Type 0
  AlikeEnds A x y = (x ≡ y) ⊎ ((e : Failure) × ((x ≡ Err (fault_for t e)) × (y ≡ Err (fault_for u e))))

  pub record Alike (A : Type 0) (m n : Run A) : Type 0 where
    pub ends : (b : ℕ) → AlikeEnds A (m b) (n b)

  alike_follow : {A B : Type 0} (k l : A → Run B) (x y : Result (A × ℕ) Fault) → AlikeEnds A x y
      → ((a : A) → Alike B (k a) (l a)) → AlikeEnds B (follow x k) (follow y l)
  alike_follow k l (Ok r) y (inl e) h = rw (sym e) ((h r.0).ends r.1)
  alike_follow k l (Err w) y (inl e) h = rw (sym e) (inl refl)
  alike_follow k l x y (inr e) h = inr (e.0, (ap (λ z. follow z k) e.1.0, ap (λ z. follow z l) e.1.1))

  alike_then : {A B : Type 0} {m n : Run A} {k l : A → Run B} → Alike A m n → ((a : A) → Alike B (k a) (l a))
      → Alike B (m >>= k) (n >>= l)
  alike_then {m = m} {n = n} {k = k} {l = l} h i = record { ends = λ b. alike_follow k l (m b) (n b) (h.ends b) i }

  alike_give : {A : Type 0} (a : A) → Alike A (give a) (give a)
  alike_give a = record { ends = λ b. inl refl }

  alike_fault : {A : Type 0} (e : Fault) → Alike A (fault e) (fault e)
  alike_fault e = record { ends = λ b. inl refl }

  alike_failure : {A : Type 0} (e : Failure) → Alike A (fault (fault_for t e)) (fault (fault_for u e))
  alike_failure e = record { ends = λ b. inr (e, (refl, refl)) }

  stand_alike : StandRelated Alike t u
  stand_alike = record { lacks = alike_failure valueless; errs = alike_failure ill_typed }

  ends_behind_tick : {A : Type 0} (m n : Run A) → Alike A m n → (b : ℕ)
      → AlikeEnds A (follow (tick b) (λ _. m)) (follow (tick b) (λ _. n))
  ends_behind_tick m n h zero = inl refl
  ends_behind_tick m n h (suc b) = h.ends b

  alike_tick : {A : Type 0} {m n : Run A} → Alike A m n → Alike A (tick >> m) (tick >> n)
  alike_tick {m = m} {n = n} h = record { ends = ends_behind_tick m n h }

  module _ (turn turn' : Store → Run Iteration) (step step' : Store → Run (Option Store))
      (h : (s : Store) → Alike Iteration (turn s) (turn' s))
      (i : (s : Store) → Alike (Option Store) (step s) (step' s)) where
    stepped_alike : (next next' : Store → Run End) → ((s : Store) → Alike End (next s) (next' s))
        → (s : Store) (o : Option Store) → Alike End (resumed next s o) (resumed next' s o)
    stepped_alike next next' k s None = alike_give (goes_on s)
    stepped_alike next next' k s (Some t) = k t

    back_alike : (next next' : Store → Run End) → ((s : Store) → Alike End (next s) (next' s)) → (t : Iteration)
        → Alike End (go_back step next t) (go_back step' next' t)
    back_alike next next' k (over e) = alike_give e
    back_alike next next' k (again s) = alike_tick (alike_then (i s) (stepped_alike next next' k s))

    turns_alike : (n : ℕ) (s : Store) → Alike End (turns n turn step s) (turns n turn' step' s)
    unfolding turns
    turns_alike zero s = alike_fault _
    turns_alike (suc n) s =
        alike_then (h s) (λ t. back_alike (turns n turn step) (turns n turn' step') (turns_alike n) t)

    looped_alike : (s : Store) → Alike End (looped turn step s) (looped turn' step' s)
    unfolding looped
    looped_alike s = record { ends = λ b. (turns_alike (suc b) s).ends b }

  alike_closed : IsClosed Alike Alike
  alike_closed = record {
    gives = alike_give;
    faults = alike_fault;
    follows = alike_then;
    loops = looped_alike;
    stops = alike_fault;
    begins = alike_give;
    continues = alike_then;
    ticks = alike_tick;
    within = λ h. h;
  }

  record UnitsAlike (units units' : Units) : Type 0 where
    pub functions : (x : Name) (vs : List Datum) → Alike Datum (units.functions x vs) (units'.functions x vs)
    pub blocks : (x : Name) (at : Path) (s : Store) → Alike Store (units.blocks x at s) (units'.blocks x at s)

  units_alike : (library : Library) (image : Store) (now n : ℕ)
      → UnitsAlike (units_within t library image now n) (units_within u library image now n)
  unfolding units_within
  units_alike library image now zero = record { functions = λ x vs. alike_fault _; blocks = λ x at s. alike_fault _ }
  units_alike library image now (suc n) =
      let units = units_alike library image now n in
      record {
        functions = functions_q Alike Alike alike_closed t u library image now (units_within t library image now n)
            (units_within u library image now n) units.functions units.blocks stand_alike stand_alike;
        blocks = λ x. instances_q Alike Alike alike_closed t u library image now (units_within t library image now n)
            (units_within u library image now n) units.functions units.blocks stand_alike stand_alike x (block_of x);
      }

  pub ran_alike : (p : Program) (image : Store) (now b : ℕ) (s : Store)
      → AlikeEnds End (ran_where t p image now b s) (ran_where u p image now b s)
  unfolding ran_where
  ran_alike p image now b s =
      let units = units_alike p.library image now b in
      (exec_all_q Alike Alike alike_closed (scope_where t p image now b) (units_within u p.library image now b) u
      units.functions units.blocks stand_alike p.body.statements s).ends b

pub missing_alike : (f g : Fault) (p : Program) (image : Store) (now b : ℕ) (s : Store)
    → (ran_where (with_missing f) p image now b s ≡ ran_where (with_missing g) p image now b s)
    ⊎ ((ran_where (with_missing f) p image now b s ≡ Err f) × (ran_where (with_missing g) p image now b s ≡ Err g))
missing_alike f g p image now b s = told _ _ (ran_alike (with_missing f) (with_missing g) p image now b s)
  where
    told : (x y : Result (End × ℕ) Fault) → AlikeEnds (with_missing f) (with_missing g) End x y
        → (x ≡ y) ⊎ ((x ≡ Err f) × (y ≡ Err g))
    told x y (inl same) = inl same
    told x y (inr (fails h, e)) = inl (e.0 ∙ sym e.1)
    told x y (inr (valueless, e)) = inr e
    told x y (inr (ill_typed, e)) = inl (e.0 ∙ sym e.1)

pub wrong_alike : (f g : Fault) (p : Program) (image : Store) (now b : ℕ) (s : Store)
    → (ran_where (with_wrong f) p image now b s ≡ ran_where (with_wrong g) p image now b s)
    ⊎ ((ran_where (with_wrong f) p image now b s ≡ Err f) × (ran_where (with_wrong g) p image now b s ≡ Err g))
wrong_alike f g p image now b s = told _ _ (ran_alike (with_wrong f) (with_wrong g) p image now b s)
  where
    told : (x y : Result (End × ℕ) Fault) → AlikeEnds (with_wrong f) (with_wrong g) End x y
        → (x ≡ y) ⊎ ((x ≡ Err f) × (y ≡ Err g))
    told x y (inl same) = inl same
    told x y (inr (fails h, e)) = inl (e.0 ∙ sym e.1)
    told x y (inr (valueless, e)) = inl (e.0 ∙ sym e.1)
    told x y (inr (ill_typed, e)) = inr e

-- the end of a run with a third fault
third : {A : Type 0} (f g h : Fault) (x y z : Result A Fault) → (f ≡ g → ⊥) → x ≡ Err f → y ≡ Err g
    → (x ≡ z) ⊎ ((x ≡ Err f) × (z ≡ Err h)) → (y ≡ z) ⊎ ((y ≡ Err g) × (z ≡ Err h)) → z ≡ Err h
third f g h x y z differ i j (inr k) l = k.1
third f g h x y z differ i j (inl k) (inr l) = l.1
third f g h x y z differ i j (inl k) (inl l) = let same : f ≡ g = cc in absurd (differ same)

pub asked_by_two : (f g : Fault) (program : Program) (budget : ℕ) (s image : Store) (now : ℕ) (p : Path) → (f ≡ g → ⊥)
    → p.owner ≡ None → IsSome (seen image s p)
    → ran_where (with_missing f) program (without_value image p) now budget (without_value s p) ≡ Err f
    → ran_where (with_missing g) program (without_value image p) now budget (without_value s p) ≡ Err g
    → IsAsked program budget s image now p
asked_by_two f g program budget s image now p differ of_nobody there i j = record {
  of_nobody = of_nobody;
  is_there = there;
  is_wanted =
      λ h. third f g h _ _ _ differ i j
      (missing_alike f h program (without_value image p) now budget (without_value s p))
      (missing_alike g h program (without_value image p) now budget (without_value s p));
}
