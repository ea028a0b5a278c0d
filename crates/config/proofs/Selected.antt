-- Parts of variables, and variables among the values of a unit.
use Rattle.std.proofs.Common.{◌≡◌, ℕ, zero, suc, ◌+◌, ◌*◌, ◌-◌, ◌<◌, ◌≤◌, List, [], ◌∷◌, Some}
use Rattle.std.proofs.Common.{inl, inr, refl, subst, arith}
use Rattle.std.specs.Prelude.{bytes_eq, option_map}
use Rattle.st_meaning.specs.Scopes.{Name}
use Rattle.layout.specs.Shapes.{Parts, no_parts, part_then, size, sizes}
use Rattle.slot_trees.specs.SlotEvaluation.{slot_at}
use Rattle.slot_trees.specs.SlotTrees.{Anchor, own, absolute}
use Rattle.slot_trees.specs.Tables.{Part, part_after, part_at, Symbol, symbol_of, moved}
use Rattle.machine_code.specs.UnitFrames.{UnitFrame}
use Rattle.config.specs.Sound.{IsBounded, AreBounded, SymbolsWithin}
use Rattle.config.proofs.Options.{either_some}
use Rattle.st_types.proofs.OptionLemmas.{map_some}

-- a part of a whole
pub record PartWithin (ps : Parts) (e : Part) : Type 0 where
  pub within : e.offset + size e.shape ≤ sizes ps
  pub bounded : IsBounded e.shape

pub part_within : (ps : Parts) (x : Name) (e : Part) → part_at ps x ≡ Some e → AreBounded ps → PartWithin ps e
part_within no_parts x e h bounded = absurd (cc)
part_within (part_then y sh ps) x e h bounded =
    let first : Part = record { offset = 0; shape = sh } in
    elim (either_some (bytes_eq x y) (Some first) (option_map (part_after (size sh)) (part_at ps x)) e h) [
      | inl q ↦
          let is : first ≡ e = cc in
          let here : PartWithin (part_then y sh ps) first = record { within = omega arith; bounded = bounded.0 } in
          subst (λ (z : Part). PartWithin (part_then y sh ps) z) is here
      | inr q ↦
          let m = map_some (part_after (size sh)) (part_at ps x) e q in
          let w = part_within ps x m.0 m.1 bounded.1 in
          let within = w.within in
          let there : PartWithin (part_then y sh ps) (part_after (size sh) m.0)
          = record { within = omega arith; bounded = w.bounded } in
          subst (λ (z : Part). PartWithin (part_then y sh ps) z) m.2 there
    ]

-- a variable among the values of a unit
pub record SymbolWithin (s : UnitFrame) (y : Symbol) : Type 0 where
  pub within : slot_at s.base y.anchor + size y.shape ≤ s.size
  pub bounded : IsBounded y.shape

pub symbol_within : (s : UnitFrame) (ys : List Symbol) (x : Name) (y : Symbol) → symbol_of ys x ≡ Some y
    → SymbolsWithin s ys → SymbolWithin s y
symbol_within s [] x y h all = absurd (cc)
symbol_within s (z ∷ zs) x y h all =
    elim (either_some (bytes_eq x z.name) (Some z) (symbol_of zs x) y h) [
      | inl q ↦
          let is : z ≡ y = cc in
          let here : SymbolWithin s z = record { within = all.0; bounded = all.1 } in
          subst (λ (u : Symbol). SymbolWithin s u) is here
      | inr q ↦ symbol_within s zs x y q all.2
    ]

-- elements before the last one, and the last one
pub all_elements : (n k : ℕ) → 0 < n → (n - 1) * k + k ≡ n * k
all_elements zero k lt = absurd (omega arith)
all_elements (suc n) k lt =
    let e : suc n - 1 ≡ n = omega arith in
    rw e (grind arith)
