-- Code in which no instruction takes a slot's value as it is.
use Rattle.std.proofs.Common.{◌≡◌, refl, ap, ap₂, ℕ, zero, suc, ◌==◌, ◌||◌, Bool, true, false, [], ◌∷◌}
use Rattle.std.proofs.Common.{◌++◌, length, arith}
use Rattle.std.specs.Prelude.{slice_set}
use Rattle.std.specs.List.{list_any}
use Rattle.std.proofs.lemmas.Bool.Decides.{nat_tests}
use Rattle.machine_code.specs.declared.instr.Instr.{Instr}
use Rattle.machine_code.specs.declared.instr.Instr.TheVariants.{LoopBack}
use Rattle.machine_code.specs.Asking.{takes_as_it_is}
use Rattle.machine_code.specs.Growing.{Code, ◌◂◌, closed}
use Rattle.std.proofs.lemmas.Bool.{or_parts}

pub unequal : (j k : ℕ) → (j ≡ k → ⊥) → (j == k) ≡ false
unequal j k h = by_test (j == k) refl
  where
    same : (j == k) ≡ true → j ≡ k
    same e = grind (arith, nat_tests)

    by_test : (b : Bool) → (j == k) ≡ b → b ≡ false
    by_test true e = absurd (h (same e))
    by_test false e = refl

module _ (k : ℕ) where
  abbrev pub Clean : Code → Type 0
  Clean c = list_any (takes_as_it_is k) c ≡ false

  -- code that is put before clean code keeps it so
  pub record Keeps (c d : Code) : Type 0 where
    pub by : Clean c → Clean d

  pub same_code : (c : Code) → Keeps c c
  same_code c = record { by = λ h. h }

  pub keeps_on : {c d e : Code} → Keeps c d → Keeps d e → Keeps c e
  keeps_on f g = record { by = λ h. g.by (f.by h) }

  put_last : (c : Code) (i : Instr) → takes_as_it_is k i ≡ false → Clean c → Clean (c ++ i ∷ [])
  put_last [] i e h = ap (λ b. b || false) e
  put_last (j ∷ c) i e h =
      let n = or_parts (takes_as_it_is k j) (list_any (takes_as_it_is k) c) h in
      ap₂ (λ a b. a || b) n.0 (put_last c i e n.1)

  pub put : (c : Code) (i : Instr) → takes_as_it_is k i ≡ false → Keeps c (c ◂ i)
  put c i e = record { by = put_last c i e }

  pub put_on : {c d : Code} (i : Instr) → takes_as_it_is k i ≡ false → Keeps c d → Keeps c (d ◂ i)
  put_on {c} {d} i e f = record { by = λ h. put_last d i e (f.by h) }

  set_clean : (c : Code) (n : ℕ) (i : Instr) → takes_as_it_is k i ≡ false → Clean c → Clean (slice_set c n i)
  set_clean [] n i e h = h
  set_clean (j ∷ c) zero i e h =
      ap₂ (λ a b. a || b) e (or_parts (takes_as_it_is k j) (list_any (takes_as_it_is k) c) h).1
  set_clean (j ∷ c) (suc n) i e h =
      let m = or_parts (takes_as_it_is k j) (list_any (takes_as_it_is k) c) h in
      ap₂ (λ a b. a || b) m.0 (set_clean c n i e m.1)

  pub close_on : {c d : Code} (at : ℕ) → Keeps c d → Keeps c (closed at d)
  close_on {c} {d} at f = record { by = λ h. set_clean d at (LoopBack (length d)) refl (f.by h) }
