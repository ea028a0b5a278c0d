-- The store without a value, and when a value is not asked for.
use Rattle.std.proofs.Common.{◌≡◌, ℕ, pos, ◌+ℤ◌, Bool, true, false, if◌then◌else◌, [], ◌∷◌, Option, Some, None, Err}
use Rattle.std.proofs.Common.{refl, sym, ap, ◌∙◌, ◌+◌, ◌-◌, ◌&&◌, nat_le, arith}
use Rattle.std.proofs.lemmas.Bool.Decides.{nat_tests}
use Rattle.std.proofs.lemmas.Bool.{and_parts}
use Rattle.st_types.specs.declared.kind.Kind.{Kind}
use Rattle.st_types.specs.declared.kind.Kind.TheVariants.{Sint, Int, Dint, Lint, Usint, Uint, Udint, Ulint, Byte, Word}
use Rattle.st_types.specs.declared.kind.Kind.TheVariants.{Dword, Lword, Time, Bool as Boolean, Enumerated}
use Rattle.st_types.specs.Kinds.{holds, greatest}
use Rattle.st_types.specs.Values.{Datum}
use Rattle.st_types.specs.declared.fault.Fault.TheVariants.{Index, Range}
use Rattle.st_types.specs.Paths.{Path, same_path}
use Rattle.st_meaning.specs.Failures.{with_missing, with_wrong}
use Rattle.st_meaning.specs.Stores.{Store, get, shape_of, all_held}
use Rattle.st_meaning.specs.Scopes.{seen, or_datum}
use Rattle.st_meaning.specs.Evaluation.{known}
use Rattle.st_meaning.specs.Runs.{Program, ran_where}
use Rattle.st_meaning.specs.Asked.{IsAsked, IsTypedRun, not_held, without_value}
use Rattle.st_types.specs.Comparisons.{same_path_is}

-- a run that without the value ends the same way for two faults does not ask for it
pub not_asked : (program : Program) (budget : ℕ) (s image : Store) (now : ℕ) (p : Path)
    → ran_where (with_missing Index) program (without_value image p) now budget (without_value s p)
    ≡ ran_where (with_missing Range) program (without_value image p) now budget (without_value s p)
    → IsAsked program budget s image now p → ⊥
not_asked program budget s image now p same h = let a = h.is_wanted Index in let b = h.is_wanted Range in absurd (cc)

-- two different faults show that a run meets something ill typed
pub is_ill_typed : (program : Program) (budget : ℕ) (s image : Store) (now : ℕ)
    → ran_where (with_wrong Index) program image now budget s ≡ Err Index
    → ran_where (with_wrong Range) program image now budget s ≡ Err Range
    → IsTypedRun program budget s image now → ⊥
is_ill_typed program budget s image now a b h = let e = h.same Index Range in absurd (cc)

pub past_the_greatest : (k : Kind) → holds k (greatest k +ℤ pos 1) ≡ false
past_the_greatest Sint = refl
past_the_greatest Int = refl
past_the_greatest Dint = refl
past_the_greatest Lint = refl
past_the_greatest Usint = refl
past_the_greatest Uint = refl
past_the_greatest Udint = refl
past_the_greatest Ulint = refl
past_the_greatest Byte = refl
past_the_greatest Word = refl
past_the_greatest Dword = refl
past_the_greatest Lword = refl
past_the_greatest Time = refl
past_the_greatest Boolean = refl
past_the_greatest (Enumerated names number) = above (names - 1)
  where
    above : (n : ℕ) → nat_le 0 (n + 1) && nat_le (n + 1) n ≡ false
    above n = grind (arith, nat_tests)

-- an entry, whose path is the one or not
entry_shape : (e : Path × Datum) (b : Bool) → ◌≡◌ {A = Path × Kind}
    ((if b then (e.0, not_held e.1) else e).0, (if b then (e.0, not_held e.1) else e).1.kind) (e.0, e.1.kind)
entry_shape e true = refl
entry_shape e false = refl

pub without_value_shape : (s : Store) (p : Path) → shape_of (without_value s p) ≡ shape_of s
without_value_shape [] p = refl
without_value_shape (e ∷ s) p =
    rw (entry_shape e (same_path p e.0)) (ap (λ rest. (e.0, e.1.kind) ∷ rest) (without_value_shape s p))

gone_at : (e : Path × Datum) (s : Store) (p : Path) (b : Bool) → same_path p e.0 ≡ b → known (get s p) ≡ None
    → known (get ((if b then (e.0, not_held e.1) else e) ∷ s) p) ≡ None
gone_at e s p true h rest = rw h (rw (past_the_greatest e.1.kind) refl)
gone_at e s p false h rest = rw h rest

pub without_value_gone : (s : Store) (p : Path) → known (get (without_value s p) p) ≡ None
without_value_gone [] p = refl
without_value_gone (e ∷ s) p = gone_at e (without_value s p) p (same_path p e.0) refl (without_value_gone s p)

-- an entry of another path
other_at : (e : Path × Datum) (s t : Store) (p q : Path) (b c : Bool) → same_path p e.0 ≡ b → same_path q e.0 ≡ c
    → same_path p q ≡ false → get t q ≡ get s q → get ((if b then (e.0, not_held e.1) else e) ∷ t) q ≡ get (e ∷ s) q
other_at e s t p q true true h k other rest = let i = same_path_is p e.0 h in let j = same_path_is q e.0 k in
    let same : p ≡ q = i ∙ sym j in absurd (cc)
other_at e s t p q true false h k other rest = rw k rest
other_at e s t p q false true h k other rest = rw k refl
other_at e s t p q false false h k other rest = rw k rest

pub without_value_other : (s : Store) (p q : Path) → same_path p q ≡ false → get (without_value s p) q ≡ get s q
without_value_other [] p q other = refl
without_value_other (e ∷ s) p q other = other_at e s (without_value s p) p q (same_path p e.0) (same_path q e.0) refl
    refl other (without_value_other s p q other)

known_held : (v : Datum) → holds v.kind v.number ≡ true → known (Some v) ≡ Some v
known_held v h = rw h refl

known_here : (e : Path × Datum) (o : Option Datum) (b : Bool) → holds e.1.kind e.1.number ≡ true → known o ≡ o
    → known (if b then Some e.1 else o) ≡ (if b then Some e.1 else o)
known_here e o true h k = known_held e.1 h
known_here e o false h k = k

known_get : (s : Store) (p : Path) → all_held s ≡ true → known (get s p) ≡ get s p
known_get [] p h = refl
known_get (e ∷ s) p h =
    let x = and_parts (holds e.1.kind e.1.number) (all_held s) h in
    known_here e (get s p) (same_path p e.0) x.0 (known_get s p x.1)

known_or : (o u : Option Datum) → known o ≡ o → known u ≡ u → known (or_datum o u) ≡ or_datum o u
known_or (Some v) u h k = h
known_or None u h k = k

pub known_seen : (image s : Store) (p : Path) → all_held image ≡ true → all_held s ≡ true
    → known (seen image s p) ≡ seen image s p
known_seen image s p h k = known_or (get image p) (get s p) (known_get image p h) (known_get s p k)
