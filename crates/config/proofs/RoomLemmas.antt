-- Programs that have no room.
use Rattle.std.proofs.Common.{◌≡◌, sym, subst, arith, ℕ, ◌+◌, ◌-◌, ◌*◌, ◌^◌, ◌<◌, List, [], ◌∷◌, ◌++◌, map, take}
use Rattle.std.proofs.Common.{drop, length, ◌/◌, Bool, true}
use Rattle.std.specs.Prelude.{min}
use Rattle.machine_code.specs.declared.limits.TheConstants.{MAX_INSTRUCTIONS}
use Rattle.st_types.specs.Sources.{Source}
use Rattle.st_meaning.specs.NameTypes.{declared_in}
use Rattle.st_meaning.specs.ResolvedUnits.{resolved_source}
use Rattle.st_meaning.specs.Scopes.{Name}
use Rattle.st_rules.specs.Containment.{is_function}
use Rattle.st_link.specs.CalledFunctions.{IsCalled, values_called}
use Rattle.st_link.specs.Orderly.{configuration_in, instances_of}
use Rattle.config.specs.Rooms.{AreCalled}
use Rattle.std.proofs.lemmas.List.{take-append-drop}
use Rattle.st_link.specs.Homes.{IsAmong, here}
use Rattle.st_link.proofs.HomeLemmas.{among_left, among_map, among_right}

-- Single calls of all functions that the text's programs call begin with more values than allowed for each program.
pub record HasManyValues (source : Source) : Type 0 where
  pub called : Name → Bool
  pub are_called : AreCalled source called
  pub many : length (instances_of (configuration_in (resolved_source source))) * (MAX_INSTRUCTIONS / 2)
      < values_called called (resolved_source source)

-- the element at hand is one of the list
pub at_hand : {A B : Type 0} (f : A → B) (xs : List A) (i : ℕ) (x : A) → take (i + 1) xs ≡ take i xs ++ x ∷ []
    → IsAmong (f x) (map f xs)
at_hand f xs i x more =
    among_map f xs (subst (IsAmong x) (take-append-drop (i + 1) xs) (among_left (take (i + 1) xs) (drop (i + 1) xs)
    (subst (IsAmong x) (sym more) (among_right (take i xs) (x ∷ []) here))))

-- if the capped number is over the limit, so is the number itself
pub many_values : (limit held all : ℕ) → limit < held → held ≡ min all (2 ^ 64 - 1) → limit < all
many_values limit held all more is = omega (arith, more, is)

-- the functions that were found are those that programs call
pub are_called : (source tree : Source) (called : Name → Bool) → tree ≡ resolved_source source
    → ((x : Name) → called x ≡ true → IsCalled tree x)
    → ((x : Name) → is_function (declared_in tree) x ≡ true → IsCalled tree x → called x ≡ true)
    → AreCalled source called
are_called source tree called seen only each = record {
  only = λ x h. subst (λ s. IsCalled s x) seen (only x h);
  each = λ x f r. each x (subst (λ s. is_function (declared_in s) x ≡ true) (sym seen) f)
      (subst (λ s. IsCalled s x) (sym seen) r);
}

-- and begin with too many values
pub has_many_values : (source tree : Source) (called : Name → Bool) (programs values : ℕ)
    → tree ≡ resolved_source source
    → AreCalled source called → values ≡ min (values_called called tree) (2 ^ 64 - 1)
    → programs ≡ length (instances_of (configuration_in tree)) → programs * (MAX_INSTRUCTIONS / 2) < values
    → HasManyValues source
has_many_values source tree called programs values seen are counted so_many more = record {
  called = called;
  are_called = are;
  many = subst (λ s. length (instances_of (configuration_in s)) * (MAX_INSTRUCTIONS / 2) < values_called called s) seen
      (subst (λ n. n * (MAX_INSTRUCTIONS / 2) < values_called called tree) so_many
      (many_values (programs * (MAX_INSTRUCTIONS / 2)) values (values_called called tree) more counted));
}
