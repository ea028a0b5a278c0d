-- The first activation to run.
use Rattle.std.proofs.Common.{◌≡◌, ℕ, ◌+◌, ◌<◌, inl, inr, Bool, true, false, cond, MatchOption, List, length, Option}
use Rattle.std.proofs.Common.{Some, None, option_map, refl, sym, ap, subst, arith}
use Rattle.std.proofs.lemmas.Bool.{eq-eqb}
use Rattle.std.proofs.lemmas.Bool.Decides.{nat_tests, eqb_tells}
use Rattle.st_types.specs.declared.entry.Activation.{Activation}
use Rattle.st_meaning.specs.declared.plan.Schedule.{Schedule}
use Rattle.st_meaning.specs.Due.{History, schedule_at, Waits, NoneWaits, IsBest, sooner, comes_first}
use Rattle.st_meaning.proofs.DueLemmas.{Waits-there}
use Rattle.ready_list.specs.declared.program_state.ProgramState.{ProgramState}
use Rattle.ready_list.specs.Ready.{Ready, state_at, offered, offered_at, sooner_of, IsFirst, IsReadyOf}
use Rattle.ready_list.proofs.ReadyLemmas.{listed-waits, waits-listed}
use Rattle.st_types.proofs.OptionLemmas.{none_or_some}

-- the order of activations
comes_first-irreflexive : (p r g : ℕ) → comes_first p r g p r g ≡ false
comes_first-irreflexive p r g = grind (arith, nat_tests)

comes_first-trans : (p r g p' r' g' p'' r'' g'' : ℕ) → comes_first p' r' g' p'' r'' g'' ≡ true
    → comes_first p r g p'' r'' g'' ≡ false → comes_first p r g p' r' g' ≡ false
comes_first-trans p r g p' r' g' p'' r'' g'' e f = grind (arith, nat_tests)

some_one : {X : Type 0} (o : Option X) (x y : X) → o ≡ Some x → o ≡ Some y → x ≡ y
some_one o x y e f = cc

module _ (schedules : List Schedule) where
  offered-split : (s : ProgramState) (resource p : ℕ) (b : Activation)
      → offered (schedule_at schedules p) s resource p ≡ Some b
      → ((schedule_at schedules p).resource ≡ resource) × (b.program ≡ p) × (s.waiting ≡ Some b.row)
  offered-split s resource p b e = elim (eqb_tells (schedule_at schedules p).resource resource) [
    | inl t ↦ let x : option_map (λ k. record { program = p; row = k }) s.waiting ≡ Some b = rw t.0 at e in
        waits_at s.waiting t.1 x
    | inr f ↦ absurd (let x : ◌≡◌ {A = Option Activation} None (Some b) = rw f.0 at e in cc)
  ]
    where
      waits_at : (w : Option ℕ) → (schedule_at schedules p).resource ≡ resource
          → ◌≡◌ {A = Option Activation} (option_map (λ k. record { program = p; row = k }) w) (Some b)
          → ((schedule_at schedules p).resource ≡ resource) × (b.program ≡ p) × (w ≡ Some b.row)
      waits_at None r x = absurd (let y : ◌≡◌ {A = Option Activation} None (Some b) = x in cc)
      waits_at (Some k) r x = let y : record { program = p; row = k } ≡ b =
          some_one (Some b) record { program = p; row = k } b (sym x) refl in
          (r, sym (ap (λ (c : Activation). c.program) y), ap (λ (c : Activation). Some c.row) y)

  offered-joined : (s : ProgramState) (resource : ℕ) (b : Activation)
      → (schedule_at schedules b.program).resource ≡ resource → s.waiting ≡ Some b.row
      → offered (schedule_at schedules b.program) s resource b.program ≡ Some b
  offered-joined s resource b e w = rw (eq-eqb _ _ e, w) refl

  module _ (states : List ProgramState) (resource n : ℕ) where
    here_or_below : (P : ℕ → Type 0) → ((p : ℕ) → p < n → P p) → P n → (p : ℕ) → p < n + 1 → P p
    here_or_below P below here p h =
        elim (eqb_tells p n) [ inl t ↦ subst P (sym t.1) here | inr f ↦ below p (omega (arith, f.1)) ]

    program_is : (c : Activation) → offered_at schedules states resource n ≡ Some c → c.program ≡ n
    program_is c e = (offered-split (state_at states n) resource n c e).1

    not_sooner : (c b : Activation) → offered_at schedules states resource n ≡ Some c
        → offered_at schedules states resource n ≡ Some b → sooner schedules b c ≡ false
    not_sooner c b e f =
        subst (λ x. sooner schedules x c ≡ false) (some_one (offered_at schedules states resource n) c b e f)
        (comes_first-irreflexive (schedule_at schedules c.program).priority c.row c.program)

    either : (a c : Activation) (t : Bool) → sooner schedules c a ≡ t
        → offered_at schedules states resource n ≡ Some c → IsFirst schedules states resource n (Some a)
        → IsFirst schedules states resource (n + 1) (cond t (Some c) (Some a))
    either a c true s e h = (
      subst (λ p. offered_at schedules states resource p ≡ Some c) (sym (program_is c e)) e,
      (let q = program_is c e in omega arith),
      λ p b l x.
          here_or_below (λ p. (b : Activation) → offered_at schedules states resource p ≡ Some b
          → sooner schedules b c ≡ false)
          (λ p l b x. comes_first-trans (schedule_at schedules b.program).priority b.row b.program
          (schedule_at schedules c.program).priority c.row c.program (schedule_at schedules a.program).priority
          a.row a.program s (h.2 p b l x))
          (λ b x. not_sooner c b e x) p l b x,
    )
    either a c false s e h = (
      h.0,
      omega (arith, h.1),
      λ p b l x.
          here_or_below (λ p. (b : Activation) → offered_at schedules states resource p ≡ Some b
          → sooner schedules b a ≡ false) (λ p l b x. h.2 p b l x)
          (λ b x. subst (λ y. sooner schedules y a ≡ false)
          (some_one (offered_at schedules states resource n) c b e x) s) p l b x,
    )

    step : (first o : Option Activation) → offered_at schedules states resource n ≡ o
        → IsFirst schedules states resource n first
        → IsFirst schedules states resource (n + 1) (sooner_of schedules first o)
    step None None e h =
        λ p b l x. here_or_below (λ p. (b : Activation) → offered_at schedules states resource p ≡ Some b → ⊥)
        (λ p l b x. h p b l x) (λ b x. none_or_some _ b e x) p l b x
    step None (Some c) e h = (
      subst (λ p. offered_at schedules states resource p ≡ Some c) (sym (program_is c e)) e,
      (let q = program_is c e in omega arith),
      λ p b l x.
          here_or_below (λ p. (b : Activation) → offered_at schedules states resource p ≡ Some b
          → sooner schedules b c ≡ false) (λ p l b x. absurd (h p b l x)) (λ b x. not_sooner c b e x) p l b x,
    )
    step (Some a) None e h = (
      h.0,
      omega (arith, h.1),
      λ p b l x.
          here_or_below (λ p. (b : Activation) → offered_at schedules states resource p ≡ Some b
          → sooner schedules b a ≡ false) (λ p l b x. h.2 p b l x) (λ b x. absurd (none_or_some _ b e x)) p l b x,
    )
    step (Some a) (Some c) e h = either a c (sooner schedules c a) refl e h

    pub IsFirst-step : (first : Option Activation) → IsFirst schedules states resource n first → IsFirst schedules
        states resource (n + 1) (sooner_of schedules first (offered_at schedules states resource n))
    IsFirst-step first h = step first (offered_at schedules states resource n) refl h

pub IsFirst-same :
    (schedules schedules' : List Schedule) (states standings' : List ProgramState) (resource : ℕ) (o : Option Activation)
    → schedules ≡ schedules' → states ≡ standings' → IsFirst schedules states resource (length schedules) o
    → IsFirst schedules' standings' resource (length schedules') o
IsFirst-same schedules schedules' states standings' resource o e f first =
    subst (λ x. IsFirst schedules' x resource (length schedules') o) f
    (subst (λ x. IsFirst x states resource (length x) o) e first)

module _ {h : History} {r : Ready} (is : IsReadyOf h r) (resource : ℕ) where
  joined : (b : Activation) → Waits r.schedules h b → (schedule_at r.schedules b.program).resource ≡ resource
      → offered_at r.schedules r.states resource b.program ≡ Some b
  joined b w e = offered-joined r.schedules (state_at r.states b.program) resource b e (waits-listed is b w).1

  pub Best-first : (o : Option Activation) → IsFirst r.schedules r.states resource (length r.schedules) o
      → MatchOption o (NoneWaits r.schedules h resource) (IsBest r.schedules h resource)
  Best-first None first = λ b w e. first b.program b (Waits-there r.schedules h b w).0 (joined b w e)
  Best-first (Some a) first =
      let found = offered-split r.schedules (state_at r.states a.program) resource a.program a first.0 in
      record {
        waits = listed-waits is a first.1 found.2;
        here = found.0;
        best = λ b w e. first.2 b.program b (Waits-there r.schedules h b w).0 (joined b w e);
      }

pub best_first : (o : Option Activation) (schedules : List Schedule) (states : List ProgramState) (resource : ℕ)
    (r : Ready) → schedules ≡ r.schedules → states ≡ r.states
    → IsFirst schedules states resource (length schedules) o → (h : History) → IsReadyOf h r
    → MatchOption o (NoneWaits r.schedules h resource) (IsBest r.schedules h resource)
best_first o schedules states resource r e f first h is =
    Best-first is resource o (IsFirst-same schedules r.schedules states r.states resource o e f first)
