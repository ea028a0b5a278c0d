-- The words of a trace that are in fields.
use Rattle.std.proofs.Common.{◌≡◌, ◌∙◌, ap, sym, refl, ℕ, ◌<◌, ◌^◌, true, false, Option, Some, None, arith}
use Rattle.std.specs.Prelude.{codes}
use Rattle.std.specs.Fmt.{decimal}
use Rattle.std.proofs.lemmas.Fmt.{decimal_injective}
use Rattle.st_types.specs.declared.limits.TheConstants.{MOMENT_LIMIT}
use Rattle.st_types.specs.declared.fault.Fault.TheVariants.{Range, DivisionByZero, Index, Conversion, Budget, ZeroStep}
use Rattle.st_meaning.specs.declared.outcome.Outcome.{Outcome}
use Rattle.st_meaning.specs.declared.outcome.Outcome.TheVariants.{Done, Faulted}
use Rattle.retain_records.specs.SplitLaws.{has_no}
use Rattle.trace.specs.Texts.{moment_text, outcome_text}
use Rattle.trace.proofs.ReadLemmas.{high_mark, low_mark, plain_decimal}
use Rattle.retain_records.specs.RecordLaws.{IsMoment}

-- no number is spelled `none`
no_number : (n : ℕ) → n < MOMENT_LIMIT → codes "none" ≡ decimal n → {X : Type 0} → X
no_number n small e =
    let small64 : n < 2 ^ 64 = omega arith in
    let plain : has_no 110 (codes "none") ≡ true =
    ap (has_no 110) e ∙ plain_decimal 110 n (high_mark 110 (omega arith)) small64 in
    let bad : false ≡ true = plain in absurd (cc)

pub none_is : (m : Option ℕ) → IsMoment m → codes "none" ≡ moment_text m
    → ◌≡◌ {A = Option (Option ℕ)} (Some None) (Some m)
none_is None early e = refl
none_is (Some t) early e = no_number t early e

pub moment_is : (n : ℕ) → n < MOMENT_LIMIT → (m : Option ℕ) → IsMoment m → decimal n ≡ moment_text m
    → ◌≡◌ {A = Option (Option ℕ)} (Some (Some n)) (Some m)
moment_is n small None early e = no_number n small (sym e)
moment_is n small (Some t) early e =
    let a : n < 2 ^ 64 = omega arith in
    let b : t < 2 ^ 64 = omega (arith, early) in ap (λ k. Some (Some k)) (decimal_injective n t a b e)

pub plain_moment : (m : Option ℕ) → IsMoment m → has_no 10 (moment_text m) ≡ true
plain_moment None early = refl
plain_moment (Some t) early =
    let b : t < 2 ^ 64 = omega (arith, early) in plain_decimal 10 t (low_mark 10 (omega arith)) b

pub plain_outcome : (o : Outcome) → has_no 10 (outcome_text (Some o)) ≡ true
plain_outcome Done = refl
plain_outcome (Faulted Range) = refl
plain_outcome (Faulted DivisionByZero) = refl
plain_outcome (Faulted Index) = refl
plain_outcome (Faulted Conversion) = refl
plain_outcome (Faulted Budget) = refl
plain_outcome (Faulted ZeroStep) = refl
