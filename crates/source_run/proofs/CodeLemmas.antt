-- Codes are distinguished by their texts.
use Rattle.std.proofs.Common.{◌≡◌, ◌∙◌, ℕ, List, [], ◌∷◌, Option, Some, refl, sym, ap, find, bytes_eq}
use Rattle.source_run.specs.declared.code.Code.{Code}
use Rattle.source_run.specs.declared.code.Code.TheVariants as told
use Rattle.source_run.specs.Codes.{code_text}

abbrev all : List Code
all =
    told.L1 ∷ told.L2 ∷ told.L3 ∷ told.L4 ∷ told.L5 ∷ told.L6 ∷ told.P1 ∷ told.P2 ∷ told.P3 ∷ told.C1 ∷
    told.C2 ∷ told.C3 ∷ told.C4 ∷ told.C5 ∷ told.C6 ∷ told.C7 ∷ told.C8 ∷ told.C9 ∷ told.C10 ∷ told.C11 ∷
    told.C12 ∷ told.C13 ∷ told.G2 ∷ told.G3 ∷ told.G4 ∷ told.G5 ∷ told.G6 ∷ told.G7 ∷ told.G8 ∷ told.G9 ∷
    told.M1 ∷ told.M2 ∷ told.M3 ∷ told.X1 ∷ told.I1 ∷ told.I2 ∷ told.I3 ∷ told.I4 ∷ told.I5 ∷ told.I6 ∷
    told.V1 ∷ told.V2 ∷ told.V3 ∷ told.V4 ∷ told.V5 ∷ told.V6 ∷ told.V7 ∷ told.S1 ∷ told.S2 ∷ told.S3 ∷ told.S4 ∷
    told.S5 ∷ told.S6 ∷ told.N2 ∷ told.K1 ∷ told.K2 ∷ told.K3 ∷ told.K4 ∷ told.K5 ∷ told.K6 ∷
    told.H1 ∷ told.H2 ∷ []

abbrev found : List ℕ → Option Code
found words = find (λ c. bytes_eq (code_text c) words) all

found_own : (c : Code) → found (code_text c) ≡ Some c
found_own told.L1 = refl
found_own told.L2 = refl
found_own told.L3 = refl
found_own told.L4 = refl
found_own told.L5 = refl
found_own told.L6 = refl
found_own told.P1 = refl
found_own told.P2 = refl
found_own told.P3 = refl
found_own told.C1 = refl
found_own told.C2 = refl
found_own told.C3 = refl
found_own told.C4 = refl
found_own told.C5 = refl
found_own told.C6 = refl
found_own told.C7 = refl
found_own told.C8 = refl
found_own told.C9 = refl
found_own told.C10 = refl
found_own told.C11 = refl
found_own told.C12 = refl
found_own told.C13 = refl
found_own told.G2 = refl
found_own told.G3 = refl
found_own told.G4 = refl
found_own told.G5 = refl
found_own told.G6 = refl
found_own told.G7 = refl
found_own told.G8 = refl
found_own told.G9 = refl
found_own told.M1 = refl
found_own told.M2 = refl
found_own told.M3 = refl
found_own told.X1 = refl
found_own told.I1 = refl
found_own told.I2 = refl
found_own told.I3 = refl
found_own told.I4 = refl
found_own told.I5 = refl
found_own told.I6 = refl
found_own told.V1 = refl
found_own told.V2 = refl
found_own told.V3 = refl
found_own told.V4 = refl
found_own told.V5 = refl
found_own told.V6 = refl
found_own told.V7 = refl
found_own told.S1 = refl
found_own told.S2 = refl
found_own told.S3 = refl
found_own told.S4 = refl
found_own told.S5 = refl
found_own told.S6 = refl
found_own told.N2 = refl
found_own told.K1 = refl
found_own told.K2 = refl
found_own told.K3 = refl
found_own told.K4 = refl
found_own told.K5 = refl
found_own told.K6 = refl
found_own told.H1 = refl
found_own told.H2 = refl

some_same : (a b : Code) → ◌≡◌ {A = Option Code} (Some a) (Some b) → a ≡ b
some_same a b e = cc

pub told_apart : (a b : Code) → code_text a ≡ code_text b → a ≡ b
told_apart a b e = some_same a b (sym (found_own a) ∙ ap found e ∙ found_own b)
