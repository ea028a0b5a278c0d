-- The names of a block's body are at the places that declarations give.
use Rattle.std.proofs.Common.{◌≡◌, Bool, true, false, if◌then◌else◌, List, [], ◌∷◌, Option, Some, None, option_map}
use Rattle.std.proofs.Common.{refl, sym, ap, ◌∙◌, subst}
use Rattle.std.specs.Prelude.{bytes_eq}
use Rattle.st_meaning.specs.NameTypes.{Declared}
use Rattle.st_meaning.specs.Scopes.{Name, contains_name}
use Rattle.layout.specs.LayoutVariables.{Owned}
use Rattle.layout.specs.Shapes.{Parts}
use Rattle.layout.specs.VariableSlots.{are_declared_once, variable_at}
use Rattle.layout.specs.TextLayouts.{slots_of}
use Rattle.layout.proofs.ListLemmas.{same_name}
use Rattle.layout.proofs.VariableLemmas.{variable_stands}
use Rattle.slot_trees.specs.Tables.{Symbol, symbol_of, part_at}
use Rattle.slot_trees.specs.ProgramTables.{symbol_at}
use Rattle.slot_trees.specs.BlockTables.{part_symbol, block_symbol, if_there, block_symbols}
use Rattle.slot_trees.specs.LinkedTexts.{IsExternal, IsPart}
use Rattle.st_types.proofs.OptionLemmas.{some_is, map_some}

of_two : {A : Type 0} (b c : Bool) (o p q : Option A) → b ≡ c → (if b then o else p) ≡ q → (if c then o else p) ≡ q
of_two b c o p q e h = subst (λ d. (if d then o else p) ≡ q) e h

module _ (text : Declared) (vs : List Owned) (ps : Parts) (externals : List Name) where
  -- the symbol of a name has this name
  name_cases : (z : Name) (u : Symbol) (b : Bool)
      → (if b then option_map (symbol_at text z) (variable_at text vs None z)
      else option_map (part_symbol z) (part_at ps z)) ≡ Some u → z ≡ u.name
  name_cases z u true h =
      let i = map_some (symbol_at text z) (variable_at text vs None z) u h in ap (λ y. y.name) i.2
  name_cases z u false h = let i = map_some (part_symbol z) (part_at ps z) u h in ap (λ y. y.name) i.2

  module _ (x : Name) (y : Symbol) where
    here_or : (z : Name) (u : Symbol) (rest : List Symbol) → block_symbol text vs ps externals z ≡ Some u
        → (symbol_of rest x ≡ Some y → block_symbol text vs ps externals x ≡ Some y) → (b : Bool)
        → bytes_eq x u.name ≡ b → (if b then Some u else symbol_of rest x) ≡ Some y
        → block_symbol text vs ps externals x ≡ Some y
    here_or z u rest at ih true q h =
        let same : z ≡ x = name_cases z u (contains_name externals z) at ∙ sym (same_name x u.name q) in
        subst (λ n. block_symbol text vs ps externals n ≡ Some u) same at ∙ ap Some (some_is h)
    here_or z u rest at ih false q h = ih h

    found_cases : (z : Name) (rest : List Symbol)
        → (symbol_of rest x ≡ Some y → block_symbol text vs ps externals x ≡ Some y) → (o : Option Symbol)
        → block_symbol text vs ps externals z ≡ o → symbol_of (if_there o rest) x ≡ Some y
        → block_symbol text vs ps externals x ≡ Some y
    found_cases z rest ih None at h = ih h
    found_cases z rest ih (Some u) at h = here_or z u rest at ih (bytes_eq x u.name) refl h

    found : (xs : List Name) → symbol_of (block_symbols text vs ps externals xs) x ≡ Some y
        → block_symbol text vs ps externals x ≡ Some y
    found [] h = absurd (cc)
    found (z ∷ xs) h =
        found_cases z (block_symbols text vs ps externals xs) (found xs) (block_symbol text vs ps externals z) refl h

  pub externals_stand : are_declared_once text vs ≡ true → (xs : List Name) (x : Name) (y : Symbol)
      → symbol_of (block_symbols text vs ps externals xs) x ≡ Some y → contains_name externals x ≡ true
      → IsExternal (slots_of text vs) x y
  externals_stand once xs x y h e =
      let i = map_some (symbol_at text x) (variable_at text vs None x) y
      (of_two (contains_name externals x) true (option_map (symbol_at text x) (variable_at text vs None x))
      (option_map (part_symbol x) (part_at ps x)) (Some y) e (found x y xs h)) in
      subst (λ u. IsExternal (slots_of text vs) x u) i.2
      (record {
        first = i.0.0;
        anchor = refl;
        stands = variable_stands text vs once None x i.0.0 i.0.1 i.1;
      })

  pub members_stand : (xs : List Name) (x : Name) (y : Symbol)
      → symbol_of (block_symbols text vs ps externals xs) x ≡ Some y → contains_name externals x ≡ false
      → IsPart ps x y
  members_stand xs x y h e =
      let i = map_some (part_symbol x) (part_at ps x) y
      (of_two (contains_name externals x) false (option_map (symbol_at text x) (variable_at text vs None x))
      (option_map (part_symbol x) (part_at ps x)) (Some y) e (found x y xs h)) in
      subst (λ u. IsPart ps x u) i.2
      (record { offset = i.0.offset; anchor = refl; is_variable = refl; part = i.1 })
