-- Splitting bytes at a mark gives the bytes before it, the mark, and the bytes after it.
use Rattle.std.proofs.Common.{◌≡◌, ℕ, Bool, true, false, cond, not, List, [], ◌∷◌, ◌++◌}
use Rattle.std.proofs.Common.{Option, Some, None, refl, ap, subst, inl, inr}
use Rattle.std.specs.Prelude.{◌==◌, ◌⊎◌}
use Rattle.std.specs.List.{list_all}
use Rattle.std.proofs.lemmas.Bool.{and_parts, eqb-true, eq-eqb, not-true}
use Rattle.retain_records.specs.Splits.{◌>>=◌, split_at}
use Rattle.std.proofs.lemmas.Option.{same_Some}

-- the value of a step that gave one
pub bind_some : {A B : Type 0} (o : Option A) (f : A → Option B) (y : B) → (o >>= f) ≡ Some y
    → (x : A) × (o ≡ Some x) × (f x ≡ Some y)
bind_some (Some x) f y e = (x, refl, e)
bind_some None f y e = absurd cc

pub when_kept : {A : Type 0} (b : Bool) (o : Option A) (y : A) → cond b o None ≡ Some y → (b ≡ true) × (o ≡ Some y)
when_kept true o y e = (refl, e)
when_kept false o y e = absurd cc

pub unless_some : {A : Type 0} (b : Bool) (x y : A) → cond b None (Some x) ≡ Some y → (b ≡ false) × (x ≡ y)
unless_some true x y e = absurd cc
unless_some false x y e = (refl, cc)

-- which way a test went
pub chosen : {A : Type 0} (b : Bool) (x y z : A) → cond b x y ≡ z → ((b ≡ true) × (x ≡ z)) ⊎ ((b ≡ false) × (y ≡ z))
chosen true x y z e = inl (refl, e)
chosen false x y z e = inr (refl, e)

-- ---- a mark and the bytes before it

abbrev pub has_no : ℕ → List ℕ → Bool
has_no mark bytes = list_all (λ b. not (b == mark)) bytes

pub split_takes : (mark : ℕ) (bytes : List ℕ) (p : List ℕ × List ℕ) → split_at mark bytes ≡ Some p → bytes ≡ p.0 ++ mark ∷ p.1
split_takes mark [] p e = absurd cc
split_takes mark (b ∷ bytes) p e =
    elim (chosen (b == mark) (Some ([], bytes)) (split_at mark bytes >>= λ q. Some (b ∷ q.0, q.1)) (Some p) e) [
      | inl here ↦ subst (λ (q : List ℕ × List ℕ). b ∷ bytes ≡ q.0 ++ mark ∷ q.1) (same_Some ([], bytes) p here.1)
          (ap (λ (x : ℕ). x ∷ bytes) (eqb-true b mark here.0))
      | inr later ↦
          let s = bind_some (split_at mark bytes) (λ q. Some (b ∷ q.0, q.1)) p later.1 in
          subst (λ (q : List ℕ × List ℕ). b ∷ bytes ≡ q.0 ++ mark ∷ q.1) (same_Some (b ∷ s.0.0, s.0.1) p s.2)
          (ap (λ (x : List ℕ). b ∷ x) (split_takes mark bytes s.0 s.1))
    ]

cut_here : (mark : ℕ) (rest : List ℕ) → split_at mark (mark ∷ rest) ≡ Some ([], rest)
cut_here mark rest = let same : (mark == mark) ≡ true = eq-eqb mark mark refl in rw same refl

pub split_again : (mark : ℕ) (front rest : List ℕ) → has_no mark front ≡ true
    → split_at mark (front ++ mark ∷ rest) ≡ Some (front, rest)
split_again mark [] rest h = cut_here mark rest
split_again mark (b ∷ front) rest h =
    let p = and_parts (not (b == mark)) (has_no mark front) h in
    let other : (b == mark) ≡ false = not-true (b == mark) p.0 in
    rw (other, split_again mark front rest p.1) refl
