-- Entries that are added.
use Rattle.std.proofs.Common.{◌≡◌, ◌∙◌, ap, arith, ℕ, List, [], ◌∷◌, Bool, true, false, ◌&&◌, Option, Some, None, refl}
use Rattle.std.proofs.Common.{bytes_eq, nat_eq}
use Rattle.std.proofs.lemmas.Bool.Decides.{nat_tests}
use Rattle.std.proofs.lemmas.Slice.Eq.{bytes_eq-Decides}
use Rattle.std.specs.Bool.{Decides}
use Rattle.std.specs.Prelude.{if◌then◌else◌}
use Rattle.symbols.specs.Found.{or_found}

or_none : {T : Type 0} (o : Option T) → o ≡ or_found o None
or_none None = refl
or_none (Some x) = refl

both : (a b c d : Bool) → a ≡ b → c ≡ d → (a && c) ≡ (b && d)
both a b c d p q = rw (p, q) refl

number_turned : (a b : ℕ) → nat_eq a b ≡ nat_eq b a
number_turned a b = grind (arith, nat_tests)

pub turned : (xs ys : List ℕ) → bytes_eq xs ys ≡ bytes_eq ys xs
turned [] [] = refl
turned [] (y ∷ ys) = refl
turned (x ∷ xs) [] = refl
turned (x ∷ xs) (y ∷ ys) =
    both (nat_eq x y) (nat_eq y x) (bytes_eq xs ys) (bytes_eq ys xs) (number_turned x y) (turned xs ys)

added : {T : Type 0} (b : Bool) (o p : Option T) (v : T) → p ≡ (if b then Some v else o) → (b ≡ true → o ≡ None)
    → p ≡ or_found o (if b then Some v else None)
added true o p v is h = rw (is, h refl) refl
added false o p v is h = rw is (or_none o)

pub same_bytes : (r : Bool) (xs ys : List ℕ) → Decides r (xs ≡ ys) → r ≡ true → xs ≡ ys
same_bytes r xs ys d h = grind (arith, d)

pub one_added : {T : Type 0} (q x k : List ℕ) (old : List ℕ → Option T) (new : Option T) (v : T) → k ≡ x → old x ≡ None
    → new ≡ (if bytes_eq k q then Some v else old q) → new ≡ or_found (old q) (if bytes_eq q x then Some v else None)
one_added q x k old new v same absent is =
    added (bytes_eq q x) (old q) new v
    (is ∙ ap (λ b. if b then Some v else old q) (ap (λ w. bytes_eq w q) same ∙ turned x q))
    (λ h. ap old (same_bytes (bytes_eq q x) q x (bytes_eq-Decides q x) h) ∙ absent)
