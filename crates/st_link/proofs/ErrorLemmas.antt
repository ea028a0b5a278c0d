-- The information in an error that is passed on.
use Rattle.std.proofs.Common.{◌≡◌, refl, sym, subst, Option, Some, None, Result, Ok, Err}
use Rattle.std.specs.Prelude.{IfErr, option_and_then}
use Rattle.st_link.specs.declared.link_error.LinkError.{LinkError}
use Rattle.st_link.specs.declared.link_error.LinkError.TheVariants.{NotThere}

-- if a part is missing, so is the whole
pub none_then : {T : Type 0} (r : Result T LinkError) (e : LinkError) (P Q : Type 0) → (e ≡ NotThere → P) → (P → Q)
    → r ≡ Err e → IfErr r (λ y. y ≡ NotThere → Q)
none_then r e P Q h f is = subst (λ s. IfErr s (λ y. y ≡ NotThere → Q)) (sym is) (λ n. f (h n))

pub and_none : {A B : Type 0} (o : Option A) → option_and_then {T = A} {U = B} (λ x. None) o ≡ None
and_none None = refl
and_none (Some x) = refl
