-- If a reading is refused no text begins with its tokens, and otherwise nothing else can be read: soundness and
-- completeness at each depth give the clauses of the public calls.
use Rattle.std.proofs.Common.{◌≡◌, ℕ, ◌+◌, ◌≤◌, ◌++◌, length, Result, Ok, Err, sym, ap, subst, ◌∙◌, arith}
use Rattle.std.specs.Prelude.{IfOk, IfErr}
use Rattle.st_types.specs.declared.limits.TheConstants.{MAX_DEPTH}
use Rattle.st_parse.specs.declared.fault.Refusal.{Refusal}
use Rattle.st_parse.specs.declared.fault.Refusal.TheVariants.{Unexpected, Deep}
use Rattle.st_parse.specs.declared.fault.ReadError.{ReadError}
use Rattle.st_parse.specs.declared.fault.ReadError.TheVariants as errors
use Rattle.st_parse.specs.Tokens.{Tokens}
use Rattle.st_parse.specs.Parsers.{Outcome, Gives}
use Rattle.st_parse.specs.Laws.{Grammar, IsRead, IsUnexpected, IsTooDeep, Applies, GivesTree}
use Rattle.st_parse.proofs.Sound.{Family, Kept, Lost, Sunk, Told}

abbrev answer : {A : Type 0} → A → Tokens → Outcome A
answer x us = Ok (x, us)

abbrev refusal : {A : Type 0} → Refusal → Outcome A
refusal d = Err d

same_pair : {A : Type 0} (x y : A) (us vs : Tokens) → answer x us ≡ answer y vs
    → (let p : A × Tokens = (x, us) in p ≡ (y, vs))
same_pair x y us vs e = cc

no_refusal : {A : Type 0} (d : Refusal) (x : A) (us : Tokens) → refusal d ≡ answer x us → ⊥
no_refusal d x us e = absurd cc

module _ {A : Type 0} (P : Family A) (R : Grammar A) (E : Tokens → Type 0) (D : A → Tokens → Type 0) (L : A → Type 0)
    (size : A → ℕ)
    (again : (e : ℕ) (ts : Tokens) (x : A) (us : Tokens) → R ts x us → E us → size x ≤ MAX_DEPTH + e
    → P e ts ≡ Ok (x, us))
    (fits : (x : A) → L x → size x ≤ MAX_DEPTH) where
  is_read : (ts : Tokens) (x : A) (us : Tokens) → Kept P R D ts x us → IsRead R E ts x us
  is_read ts x us k = record {
    front = k.front;
    parts = k.parts;
    whole = k.is;
    only = λ more y vs same ends r.
        let e = sym (again (size y) (k.front ++ more) y vs r ends (omega arith)) ∙ k.again (size y) more same in
        let p = same_pair y x vs more e in
        (ap (λ (q : A × Tokens). q.0) p, ap (λ (q : A × Tokens). q.1) p);
  }

  is_unexpected : (ts : Tokens) (n : ℕ) → Lost P R ts n → IsUnexpected R E ts n
  is_unexpected ts n l = record {
    front = l.front;
    rest = l.rest;
    parts = l.parts;
    count = l.count;
    begun = l.begun;
    none = λ more y vs same ends r. no_refusal (Unexpected (length more)) y vs
        (sym (l.again (size y) more same) ∙ again (size y) (l.front ++ more) y vs r ends (omega arith));
  }

  is_too_deep : (ts : Tokens) → Sunk P R ts → IsTooDeep R E L ts
  is_too_deep ts l = record {
    front = l.front;
    rest = l.rest;
    parts = l.parts;
    begun = l.begun;
    none = λ more y vs ends r low. let h = fits y low in
        no_refusal Deep y vs (sym (l.again more) ∙ again 0 (l.front ++ more) y vs r ends (omega arith));
  }

  module _ {X : Type 0} (view : X → A × Tokens) (ts : Tokens) where
    found_in : (r : Outcome A) (x : X) → Told P R D ts r → r ≡ Ok (view x)
        → IsRead R E ts (view x).0 (view x).1 × D (view x).0 (view x).1
    found_in (Ok p) x told eq =
        let same : p ≡ view x = in_ok p (view x) eq in
        subst (λ (q : A × Tokens). IsRead R E ts q.0 q.1 × D q.0 q.1) same (is_read ts p.0 p.1 told, told.low)
      where
        in_ok : {B : Type 0} (a b : B) → (let q : Result B Refusal = Ok a in q ≡ Ok b) → a ≡ b
        in_ok a b e = cc
    found_in (Err d) x told eq = absurd cc

    pub found_is : (result : Result X ReadError) → Told P R D ts (P 0 ts) → Gives view result (P 0 ts)
        → IfOk result (λ x. IsRead R E ts (view x).0 (view x).1 × D (view x).0 (view x).1)
    found_is (Ok x) told given = found_in (P 0 ts) x told given
    found_is (Err e) told given = tt

    refused_in : (r : Outcome A) (d : Refusal) → Told P R D ts r → r ≡ Err d → Applies R E L ts (errors.Refused d)
    refused_in (Ok p) d told eq = absurd cc
    refused_in (Err (Unexpected n)) d told eq = subst (λ (q : Refusal). Applies R E L ts (errors.Refused q))
        (in_err (Unexpected n) d eq) (is_unexpected ts n told)
      where
        in_err : (a b : Refusal) → (let q : Outcome A = Err a in q ≡ Err b) → a ≡ b
        in_err a b e = cc
    refused_in (Err Deep) d told eq =
        subst (λ (q : Refusal). Applies R E L ts (errors.Refused q)) (in_err Deep d eq) (is_too_deep ts told)
      where
        in_err : (a b : Refusal) → (let q : Outcome A = Err a in q ≡ Err b) → a ≡ b
        in_err a b e = cc

    pub refused_is : (result : Result X ReadError) → Told P R D ts (P 0 ts) → Gives view result (P 0 ts)
        → IfErr result (λ e. Applies R E L ts e)
    refused_is (Ok x) told given = tt
    refused_is (Err errors.Memory) told given = tt
    refused_is (Err (errors.Refused d)) told given = refused_in (P 0 ts) d told given

    pub only_is : (result : Result X ReadError) → Gives view result (P 0 ts) → (x : A) (us : Tokens) → R ts x us → E us
        → L x → GivesTree view result x us
    only_is (Ok found) given x us r ends low = let h = fits x low in
        in_ok (view found) (x, us) (sym given ∙ again 0 ts x us r ends (omega arith))
      where
        in_ok : {B : Type 0} (a b : B) → (let q : Result B Refusal = Ok a in q ≡ Ok b) → a ≡ b
        in_ok a b e = cc
    only_is (Err errors.Memory) given x us r ends low = tt
    only_is (Err (errors.Refused d)) given x us r ends low = let h = fits x low in
        no_refusal d x us (sym given ∙ again 0 ts x us r ends (omega arith))
