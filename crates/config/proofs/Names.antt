-- Names of programs, functions and blocks among the values of their units.
use Rattle.std.proofs.Common.{◌≡◌, ℕ, ◌+◌, ◌≤◌, List, [], ◌∷◌, length, map, Option, Some, None, refl, subst}
use Rattle.std.proofs.Common.{◌∙◌, inl, inr, arith, length-append}
use Rattle.std.specs.Prelude.{option_map}
use Rattle.std.proofs.Math.ListN.{length-map}
use Rattle.st_types.specs.declared.path.Owner.{Owner}
use Rattle.st_meaning.specs.NameTypes.{Declared}
use Rattle.st_meaning.specs.Runs.{Program}
use Rattle.st_meaning.specs.Scopes.{Name, contains_name}
use Rattle.layout.specs.LayoutVariables.{Owned, owned_variable}
use Rattle.layout.specs.Shapes.{Parts, size, sizes}
use Rattle.layout.specs.VariableSlots.{is_variable, later, variable_at}
use Rattle.layout.specs.TextLayouts.{variable_shape, leaves_of_variable, slot_of_leaf, slots_of_variable, slots_of}
use Rattle.layout.specs.Types.{NamedSite}
use Rattle.layout.proofs.LeafLemmas.{length_leaves}
use Rattle.slot_trees.specs.BlockTables.{part_symbol, block_symbol, if_there, block_symbols}
use Rattle.slot_trees.specs.FunctionTables.{call_symbol, function_symbols}
use Rattle.slot_trees.specs.ProgramTables.{owner_of_name, symbol_at, symbol_then, program_symbols}
use Rattle.slot_trees.specs.Tables.{Symbol, part_at}
use Rattle.slot_trees.specs.SlotEvaluation.{slot_at}
use Rattle.machine_code.specs.UnitFrames.{UnitFrame}
use Rattle.config.specs.Sound.{IsBounded, AreBounded, SymbolsWithin, AreBoundedVariables}
use Rattle.config.proofs.Options.{either_some}
use Rattle.config.proofs.Selected.{part_within}
use Rattle.st_types.proofs.OptionLemmas.{map_some}

length_variable : (text : Declared) (v : Owned) → length (slots_of_variable text v) ≡ size (variable_shape text v)
length_variable text v =
    length-map (leaves_of_variable text v) (slot_of_leaf v) ∙ length_leaves (variable_shape text v)

-- a variable among `n` slots
record VariableWithin (text : Declared) (n : ℕ) (e : ℕ × Owned) : Type 0 where
  within : e.0 + size (variable_shape text e.1) ≤ n
  bounded : IsBounded (variable_shape text e.1)

variable_within : (text : Declared) (vs : List Owned) (o : Option Owner) (x : Name) (e : ℕ × Owned)
    → variable_at text vs o x ≡ Some e → AreBoundedVariables text vs
    → VariableWithin text (length (slots_of text vs)) e
variable_within text [] o x e h bounded = absurd (cc)
variable_within text (v ∷ vs) o x e h bounded =
    let all = length-append (slots_of_variable text v) (slots_of text vs) in
    let own = length_variable text v in
    let first : ℕ × Owned = (0, v) in
    elim (either_some (is_variable o x v) (Some first) (option_map (later text v) (variable_at text vs o x)) e h) [
      | inl q ↦
          let is : first ≡ e = cc in
          let here : VariableWithin text (length (slots_of text (v ∷ vs))) first
          = record { within = omega arith; bounded = bounded.0 } in
          subst (λ (z : ℕ × Owned). VariableWithin text (length (slots_of text (v ∷ vs))) z) is here
      | inr q ↦
          let m = map_some (later text v) (variable_at text vs o x) e q in
          let w = variable_within text vs o x m.0 m.1 bounded.1 in
          let within = w.within in
          let there : VariableWithin text (length (slots_of text (v ∷ vs))) (later text v m.0)
          = record { within = omega arith; bounded = w.bounded } in
          subst (λ (z : ℕ × Owned). VariableWithin text (length (slots_of text (v ∷ vs))) z) m.2 there
    ]

module _ (text : Declared) (vs : List Owned) (site : UnitFrame) (room : length (slots_of text vs) ≤ site.size)
    (bounded : AreBoundedVariables text vs) where
  program_symbol : (p : Program) (x : Name) (o : Option (ℕ × Owned)) (rest : List Symbol)
      → variable_at text vs (owner_of_name p x) x ≡ o → SymbolsWithin site rest
      → SymbolsWithin site (symbol_then text x o rest)
  program_symbol p x None rest is h = h
  program_symbol p x (Some e) rest is h =
      let w = variable_within text vs (owner_of_name p x) x e is bounded in
      let within = w.within in
      (omega arith, w.bounded, h)

  pub program_within : (p : Program) (xs : List Name) → SymbolsWithin site (program_symbols text vs p xs)
  program_within p [] = tt
  program_within p (x ∷ xs) =
      program_symbol p x (variable_at text vs (owner_of_name p x) x) (program_symbols text vs p xs) refl
      (program_within p xs)

module _ (text : Declared) (ds : List NamedSite) (site : UnitFrame) (base : site.base ≡ 0)
    (room : length (slots_of text (map (owned_variable None) ds)) ≤ site.size)
    (bounded : AreBoundedVariables text (map (owned_variable None) ds)) where
  function_symbol : (x : Name) (o : Option (ℕ × Owned)) (rest : List Symbol)
      → variable_at text (map (owned_variable None) ds) None x ≡ o → SymbolsWithin site rest
      → SymbolsWithin site (if_there (option_map (call_symbol text x) o) rest)
  function_symbol x None rest is h = h
  function_symbol x (Some e) rest is h =
      let w = variable_within text (map (owned_variable None) ds) None x e is bounded in
      let within = w.within in
      (omega arith, w.bounded, h)

  pub function_within : (xs : List Name) → SymbolsWithin site (function_symbols text ds xs)
  function_within [] = tt
  function_within (x ∷ xs) =
      function_symbol x (variable_at text (map (owned_variable None) ds) None x) (function_symbols text ds xs) refl
      (function_within xs)

-- a symbol among the values of a unit
abbrev IsWithin : UnitFrame → Symbol → Type 0
IsWithin site y = (slot_at site.base y.anchor + size y.shape ≤ site.size) × IsBounded y.shape

module _ (text : Declared) (vs : List Owned) (ps : Parts) (externals : List Name) (site : UnitFrame)
    (room : length (slots_of text vs) ≤ site.size) (bounded : AreBoundedVariables text vs)
    (instance : site.base + sizes ps ≤ site.size) (members : AreBounded ps) where
  block_name : (x : Name) (y : Symbol) → block_symbol text vs ps externals x ≡ Some y → IsWithin site y
  block_name x y h =
      elim (either_some (contains_name externals x) (option_map (symbol_at text x) (variable_at text vs None x))
      (option_map (part_symbol x) (part_at ps x)) y h) [
        | inl q ↦
            let m = map_some (symbol_at text x) (variable_at text vs None x) y q in
            let w = variable_within text vs None x m.0 m.1 bounded in
            let within = w.within in
            let there : IsWithin site (symbol_at text x m.0) = (omega arith, w.bounded) in
            subst (λ (z : Symbol). IsWithin site z) m.2 there
        | inr q ↦
            let m = map_some (part_symbol x) (part_at ps x) y q in
            let w = part_within ps x m.0 m.1 members in
            let within = w.within in
            let there : IsWithin site (part_symbol x m.0) = (omega arith, w.bounded) in
            subst (λ (z : Symbol). IsWithin site z) m.2 there
      ]

  block_first : (x : Name) (o : Option Symbol) (rest : List Symbol) → block_symbol text vs ps externals x ≡ o
      → SymbolsWithin site rest → SymbolsWithin site (if_there o rest)
  block_first x None rest is h = h
  block_first x (Some y) rest is h = let w = block_name x y is in (w.0, w.1, h)

  pub block_within : (xs : List Name) → SymbolsWithin site (block_symbols text vs ps externals xs)
  block_within [] = tt
  block_within (x ∷ xs) =
      block_first x (block_symbol text vs ps externals x) (block_symbols text vs ps externals xs) refl (block_within xs)
