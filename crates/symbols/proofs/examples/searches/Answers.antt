use Rattle.std.proofs.Common.{◌≡◌, refl, arith, ℕ, suc, zero, ◌<◌, [], ◌∷◌, slice_index_or}
use Rattle.symbols.proofs.examples.searches.Goals as goal

pub returns-clause-first : goal.returns-clause-first
returns-clause-first c = (0, omega arith, refl)

pub returns-clause-second : goal.returns-clause-second
returns-clause-second c = (1, omega arith, refl)

-- neither of the two is 4
neither : (k : ℕ) → k < 2 → ◌≡◌ {A = ℕ} (slice_index_or (3 ∷ 5 ∷ []) k 4) 4 → ⊥
neither zero l e = absurd (cc)
neither (suc zero) l e = absurd (cc)
neither (suc (suc k)) l e = absurd (omega arith)

pub returns-clause-another : goal.returns-clause-another
returns-clause-another c h = neither h.0 h.1 h.2

pub returns-clause-none_told : goal.returns-clause-none_told
returns-clause-none_told c h = absurd (cc)

pub returns-clause-none_there : goal.returns-clause-none_there
returns-clause-none_there c = refl

pub returns-clause-one_of_none : goal.returns-clause-one_of_none
returns-clause-one_of_none c h = let lt = h.1 in absurd (omega arith)
