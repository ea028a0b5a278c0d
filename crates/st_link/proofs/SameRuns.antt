-- Runs that end alike are the same, and a run that keeps variables keeps the types of their values.
use Rattle.std.proofs.Common.{◌≡◌, ℕ, Bool, true, false, if◌then◌else◌, Option, Some, None, option_map, Result, Ok, Err}
use Rattle.std.proofs.Common.{refl, ap, ◌∙◌, subst}
use Rattle.st_types.specs.declared.fault.Fault.{Fault}
use Rattle.st_types.specs.declared.kind.Kind.{Kind}
use Rattle.st_types.specs.Kinds.{holds}
use Rattle.st_types.specs.Paths.{Path}
use Rattle.st_types.specs.Values.{Datum}
use Rattle.st_meaning.specs.Evaluation.{known}
use Rattle.st_meaning.specs.Loops.{End}
use Rattle.st_meaning.specs.Runs.{store_of}
use Rattle.st_meaning.specs.Stores.{Store, get}
use Rattle.st_link.specs.Soundness.{HasKind, EndsAlikeIn, Keeps}
use Rattle.st_link.specs.UnitSoundness.{LeavesKept}
use Rattle.st_types.proofs.OptionLemmas.{some_is}

pub alike_same : {A : Type 0} (P : A → Type 0) (x y : Result (A × ℕ) Fault) → EndsAlikeIn P x y → x ≡ y
alike_same P (Ok r) (Ok q) h = ap Ok h.0
alike_same P (Err e) (Err f) h = ap Err h
alike_same P (Ok r) (Err f) h = elim h [ ]
alike_same P (Err e) (Ok q) h = elim h [ ]

-- a value that is known has its type, and is in its range
has_kind : (o : Option Datum) (k : Kind) → option_map (λ v. v.kind) (known o) ≡ Some k → HasKind o k
has_kind None k h = absurd (cc)
has_kind (Some d) k h = by_held (holds d.kind d.number) refl h
  where
    by_held : (b : Bool) → holds d.kind d.number ≡ b
        → option_map (λ v. v.kind) (if b then Some d else None) ≡ Some k → HasKind (Some d) k
    by_held true e g = record { datum = d; there = refl; is_of = record { kind = some_is g; held = e } }
    by_held false e g = absurd (cc)

known_kind : (o : Option Datum) (k : Kind) → HasKind o k → option_map (λ v. v.kind) (known o) ≡ Some k
known_kind o k h =
    ap (λ p. option_map (λ v. v.kind) (known p)) h.there
    ∙ ap (λ b. option_map (λ v. v.kind) (if b then Some h.datum else None)) h.is_of.held ∙ ap Some h.is_of.kind

pub kept_kind : (s t : Store) → Keeps s t → (p : Path) (k : Kind) → option_map (λ v. v.kind) (known (get s p)) ≡ Some k
    → option_map (λ v. v.kind) (known (get t p)) ≡ Some k
kept_kind s t h p k e = known_kind (get t p) k (h.kinds p k (has_kind (get s p) k e))

-- the store that a run leaves
abbrev end_of : End → Result (End × ℕ) Fault → End
end_of other (Ok z) = z.0
end_of other (Err f) = other

pub left_kept : (s : Store) (x y : Result (End × ℕ) Fault) → EndsAlikeIn (LeavesKept s) x y → (e : End) (left : ℕ)
    → x ≡ Ok (e, left) → Keeps s (store_of e)
left_kept s (Ok r) (Ok q) h e left g = subst (λ z. Keeps s (store_of z)) (ap (end_of r.0) g) h.1
left_kept s (Err f) y h e left g = absurd (cc)
left_kept s (Ok r) (Err f) h e left g = elim h [ ]
