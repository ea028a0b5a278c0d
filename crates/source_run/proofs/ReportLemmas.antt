-- The lines of a report.
use Rattle.std.proofs.Common.{◌≡◌, ◌∙◌, ap, sym, subst, ℕ, zero, suc, List, [], ◌∷◌, ◌++◌, length, drop, min, arith}
use Rattle.std.proofs.Common.{Option, append-nil}
use Rattle.std.specs.Io.KnownBytes.{Appends}
use Rattle.st_types.specs.Values.{Datum}
use Rattle.st_meaning.specs.declared.plan.PlanVariable.{PlanVariable}
use Rattle.st_meaning.specs.Layouts.{Enumerations}
use Rattle.source_run.specs.Reports.{variables_text}

-- no line is left if the shorter list ends
none_left : (types : Enumerations) (vs : List PlanVariable) (ds : List Datum) (n : ℕ) → n ≡ min (length vs) (length ds)
    → variables_text types (drop n vs) (drop n ds) ≡ []
none_left types [] ds n end = ap (λ k. variables_text types (drop k []) (drop k ds)) (there ds n end)
  where
    there : (xs : List Datum) (k : ℕ) → k ≡ min 0 (length xs) → k ≡ 0
    there xs k e = omega arith
none_left types (v ∷ vs) [] n end = ap (λ k. variables_text types (drop k (v ∷ vs)) (drop k [])) (there n end)
  where
    there : (k : ℕ) → k ≡ min (length (v ∷ vs)) 0 → k ≡ 0
    there k e = omega arith
none_left types (v ∷ vs) (d ∷ ds) zero end = absurd (omega arith)
none_left types (v ∷ vs) (d ∷ ds) (suc n) end = none_left types vs ds n (omega arith)

-- so all is written
pub all_written : (types : Enumerations) (old new : Option (List ℕ)) (vs : List PlanVariable) (ds : List Datum)
    (text : List ℕ) (n : ℕ) → n ≡ min (length vs) (length ds) → Appends old new text
    → text ++ variables_text types (drop n vs) (drop n ds) ≡ variables_text types vs ds
    → Appends old new (variables_text types vs ds)
all_written types old new vs ds text n end wrote so_far =
    subst (λ t. Appends old new t)
    (sym (append-nil text) ∙ ap (λ r. text ++ r) (sym (none_left types vs ds n end)) ∙ so_far) wrote
