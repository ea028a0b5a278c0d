-- Tests of lists, and their members.
use Rattle.std.proofs.Common.{◌≡◌, Bool, true, false, ◌||◌, ◌⊎◌, inl, inr, List, [], ◌∷◌}
use Rattle.std.proofs.Common.{refl}
use Rattle.std.specs.List.{list_any, list_all}
use Rattle.st_link.proofs.Among.{Among, here, later}
use Rattle.st_link.specs.Homes.{IsAmong, here as first, further_on}
use Rattle.std.proofs.lemmas.Bool.{and_parts}

pub all_at : {A : Type 0} (p : A → Bool) {a : A} {xs : List A} → Among a xs → list_all p xs ≡ true → p a ≡ true
all_at p (here {a = a} {rest = rest}) h = (and_parts (p a) (list_all p rest) h).0
all_at p (later {b = x} {rest = rest} k) h = all_at p k (and_parts (p x) (list_all p rest) h).1

pub record AnyAt {A : Type 0} (p : A → Bool) (xs : List A) : Type 0 where
  pub one : A
  pub among : Among one xs
  pub passes : p one ≡ true

pub any_at : {A : Type 0} (p : A → Bool) (xs : List A) → list_any p xs ≡ true → AnyAt p xs
any_at p [] h = absurd (cc)
any_at p (x ∷ xs) h = by_test (p x) refl h (λ k. any_at p xs k)
  where
    by_test : (b : Bool) → p x ≡ b → (b || list_any p xs) ≡ true → (list_any p xs ≡ true → AnyAt p xs)
        → AnyAt p (x ∷ xs)
    by_test true e k f = record { one = x; among = here; passes = e }
    by_test false e k f = let rest = f k in record { one = rest.one; among = later rest.among; passes = rest.passes }

pub as_among : {A : Type 0} {a : A} {xs : List A} → Among a xs → IsAmong a xs
as_among here = first
as_among (later h) = further_on (as_among h)
