-- Rows are put in their places one program after another.
use Rattle.std.proofs.Common.{◌≡◌, ℕ, ◌+◌, ◌<◌, ◌≤◌, ◌==◌, inl, inr, Bool, true, false, if◌then◌else◌, List, []}
use Rattle.std.proofs.Common.{length, slice_set}
use Rattle.std.proofs.Common.{Option, Some, None, refl, sym, ap, subst, ◌∙◌, arith, length-set}
use Rattle.std.specs.Prelude.{MatchOption}
use Rattle.std.proofs.lemmas.List.{get_or-set_other}
use Rattle.std.proofs.lemmas.Grind.{get_or-set_at}
use Rattle.std.proofs.lemmas.Bool.Decides.{eqb_tells}
use Rattle.st_types.specs.Rows.{Latch}
use Rattle.st_meaning.specs.Due.{History, Waits}
use Rattle.st_meaning.specs.Logs.{row_at}
use Rattle.st_meaning.proofs.DueLemmas.{Waits-same}
use Rattle.ready_list.specs.Ready.{Ready, IsReadyOf}
use Rattle.core_values.specs.Held.{IsWide, HoldsNew, is_number}

-- as far as the programs below n
pub record HeldBelow (ready : Ready) (old new : List Latch) (number : ℕ) (row : Latch) (n : ℕ) : Type 0 where
  pub len : length new ≡ length old
  pub wide : IsWide (length row.image) new
  pub rest : (p : ℕ) → n ≤ p → row_at new p ≡ row_at old p
  pub holds : (h : History) → IsReadyOf h ready → HoldsNew ready.schedules h old new number row n

-- the place is set, or not
abbrev pub set_or_not : Bool → List Latch → ℕ → Latch → List Latch
set_or_not b held p row = if b then slice_set held p row else held

at_place : (b : Bool) (held : List Latch) (p : ℕ) (row : Latch) → p < length held
    → row_at (set_or_not b held p row) p ≡ (if b then row else row_at held p)
at_place true held p row l = get_or-set_at held p p row record { moment = 0; image = [] } refl l
at_place false held p row l = refl

elsewhere : (b : Bool) (held : List Latch) (p q : ℕ) (row : Latch) → (q ≡ p → ⊥)
    → row_at (set_or_not b held p row) q ≡ row_at held q
elsewhere true held p q row d = get_or-set_other held p q row record { moment = 0; image = [] } d
elsewhere false held p q row d = refl

same_length : (b : Bool) (held : List Latch) (p : ℕ) (row : Latch) → length (set_or_not b held p row) ≡ length held
same_length true held p row = length-set held p row
same_length false held p row = refl

pub wide_set : (b : Bool) (held : List Latch) (p : ℕ) (row : Latch) → p < length held → IsWide (length row.image) held
    → IsWide (length row.image) (set_or_not b held p row)
wide_set b held p row l wide q m = elim (eqb_tells q p) [
  | inl t ↦ ap (λ (x : Latch). length x.image) (ap (row_at (set_or_not b held p row)) t.1 ∙ at_place b held p row l)
      ∙ either b
  | inr f ↦ ap (λ (x : Latch). length x.image) (elsewhere b held p q row f.1)
      ∙ wide q (omega (arith, m, same_length b held p row))
]
  where
    either : (c : Bool) → length (if c then row else row_at held p).image ≡ length row.image
    either true = refl
    either false = wide p l

same_number : (ready : Ready) (h : History) (n k number : ℕ) (w : Option ℕ)
    → MatchOption w ((r : ℕ) → Waits ready.schedules h record { program = n; row = r } → ⊥)
    (λ r. Waits ready.schedules h record { program = n; row = r })
    → Waits ready.schedules h record { program = n; row = k } → is_number w number ≡ (k == number)
same_number ready h n k number None tells waits = absurd (tells k waits)
same_number ready h n k number (Some r) tells waits =
    ap (λ (x : ℕ). x == number) (Waits-same ready.schedules h n r k tells waits)

pub held_step : (ready : Ready) (old now new : List Latch) (number : ℕ) (row : Latch) (n : ℕ) (w : Option ℕ) (b : Bool)
    → HeldBelow ready old now number row n → n < length old
    → ((h : History) → IsReadyOf h ready → MatchOption w
    ((r : ℕ) → Waits ready.schedules h record { program = n; row = r } → ⊥)
    (λ r. Waits ready.schedules h record { program = n; row = r }))
    → b ≡ is_number w number → new ≡ set_or_not b now n row → HeldBelow ready old new number row (n + 1)
held_step ready old now new number row n w b below l tells bs is =
    subst (λ (x : List Latch). HeldBelow ready old x number row (n + 1)) (sym is) record {
      len = same_length b now n row ∙ below.len;
      wide = wide_set b now n row (omega (arith, l, below.len)) below.wide;
      rest = λ p m. elsewhere b now n p row (λ e. absurd (omega (arith, m, e))) ∙ below.rest p (omega (arith, m));
      holds = λ h ready_is p k m waits. elim (eqb_tells p n) [
        | inl t ↦
            let here = subst (λ (q : ℕ). Waits ready.schedules h record { program = q; row = k }) t.1 waits in
            let same = bs ∙ same_number ready h n k number w (tells h ready_is) here in
            ap (row_at (set_or_not b now n row)) t.1 ∙ at_place b now n row (omega (arith, l, below.len))
            ∙ ap (λ (c : Bool). if c then row else row_at now n) same
            ∙ ap (λ (x : Latch). if k == number then row else x) (below.rest n (omega arith))
            ∙ ap (λ (q : ℕ). if k == number then row else row_at old q) (sym t.1)
        | inr f ↦ elsewhere b now n p row f.1 ∙ below.holds h ready_is p k (omega (arith, m, f.1)) waits
      ];
    }
