-- The entry for a name in a table made of declarations.
use Rattle.std.proofs.Common.{◌≡◌, ℕ, suc, ◌+◌, Bool, true, false, ◌||◌, if◌then◌else◌, List, [], ◌∷◌, map, Option}
use Rattle.std.proofs.Common.{Some, None, option_map, refl, sym, ap, ◌∙◌, arith}
use Rattle.std.specs.Prelude.{bytes_eq}
use Rattle.std.specs.List.{position_from}
use Rattle.st_meaning.specs.NameTypes.{Declared}
use Rattle.st_meaning.specs.Runs.{Program}
use Rattle.st_meaning.specs.Scopes.{Name, contains_name}
use Rattle.st_meaning.specs.StandardBlocks.{StandardBlock, block_of}
use Rattle.layout.specs.LayoutVariables.{Owned, owned_variable}
use Rattle.layout.specs.Shapes.{Parts}
use Rattle.layout.specs.VariableSlots.{variable_at}
use Rattle.layout.specs.Types.{NamedSite}
use Rattle.layout.proofs.ListLemmas.{same_name, name_itself}
use Rattle.slot_trees.specs.SlotTrees.{own_block, standard_block}
use Rattle.slot_trees.specs.Tables.{Symbol, symbol_of, part_at, named_in}
use Rattle.slot_trees.specs.ProgramTables.{owner_of_name, symbol_at, symbol_then, program_symbols}
use Rattle.slot_trees.specs.BlockTables.{part_symbol, block_symbol, if_there, block_symbols}
use Rattle.slot_trees.specs.FunctionTables.{call_symbol, function_symbols}
use Rattle.slot_trees.specs.TextNumbers.{numbered_from, block_names, standard_codes, own_codes, numbers_of, code_named}
use Rattle.slot_trees.proofs.NamedLemmas.{named_first, named_behind, named_mapped, standard_code}
use Rattle.st_types.proofs.OptionLemmas.{map_some}

-- the symbols of names, each of which makes its own
symbols_by : (Name → Option Symbol) → List Name → List Symbol
symbols_by make [] = []
symbols_by make (x ∷ xs) = if_there (make x) (symbols_by make xs)

-- the entry of a list of names for one of them
abbrev Found : (Name → Option Symbol) → List Name → Name → Option Symbol → Type 0
Found make xs x o = o ≡ (if contains_name xs x then make x else None)

pub either_none : {A : Type 0} (b : Bool) (o : Option A) → o ≡ None → ◌≡◌ {A = Option A} (if b then o else None) None
either_none true o h = h
either_none false o h = refl

module _ (make : Name → Option Symbol) (own : (z : Name) (u : Symbol) → make z ≡ Some u → u.name ≡ z) (x : Name) where
  first_symbol : (z : Name) (zs : List Name) (rest : List Symbol) → Found make zs x (symbol_of rest x) → z ≡ x
      → (o : Option Symbol) → make z ≡ o → symbol_of (if_there o rest) x ≡ make x
  first_symbol z zs rest ih same None is =
      let none : make x ≡ None = ap make (sym same) ∙ is in
      ih ∙ either_none (contains_name zs x) (make x) none ∙ sym none
  first_symbol z zs rest ih same (Some u) is =
      let name : bytes_eq x u.name ≡ true = ap (bytes_eq x) (own z u is ∙ same) ∙ name_itself x in
      ap (λ b. if b then Some u else symbol_of rest x) name ∙ sym is ∙ ap make same

  later_symbol : (z : Name) (rest : List Symbol) → bytes_eq x z ≡ false → (o : Option Symbol) → make z ≡ o
      → symbol_of (if_there o rest) x ≡ symbol_of rest x
  later_symbol z rest e None is = refl
  later_symbol z rest e (Some u) is =
      ap (λ b. if b then Some u else symbol_of rest x) (ap (bytes_eq x) (own z u is) ∙ e)

  looked_up : (xs : List Name) → Found make xs x (symbol_of (symbols_by make xs) x)
  unfolding symbols_by
  looked_up [] = refl
  looked_up (z ∷ zs) = by_test (bytes_eq x z) refl (looked_up zs)
    where
      by_test : (b : Bool) → bytes_eq x z ≡ b → Found make zs x (symbol_of (symbols_by make zs) x)
          → symbol_of (if_there (make z) (symbols_by make zs)) x
          ≡ (if b || contains_name zs x then make x else None)
      by_test true e ih = first_symbol z zs (symbols_by make zs) ih (sym (same_name x z e)) (make z) refl
      by_test false e ih = later_symbol z (symbols_by make zs) e (make z) refl ∙ ih

-- a program's
module _ (text : Declared) (vs : List Owned) (p : Program) where
  program_symbol : Name → Option Symbol
  program_symbol x = option_map (symbol_at text x) (variable_at text vs (owner_of_name p x) x)

  program_symbols_are : (xs : List Name) → program_symbols text vs p xs ≡ symbols_by program_symbol xs
  unfolding symbols_by program_symbol
  program_symbols_are [] = refl
  program_symbols_are (x ∷ xs) =
      by_variable (variable_at text vs (owner_of_name p x) x) (program_symbols_are xs)
    where
      by_variable : (o : Option (ℕ × Owned)) → program_symbols text vs p xs ≡ symbols_by program_symbol xs
          → symbol_then text x o (program_symbols text vs p xs)
          ≡ if_there (option_map (symbol_at text x) o) (symbols_by program_symbol xs)
      by_variable None ih = ih
      by_variable (Some e) ih = ap (λ ys. symbol_at text x e ∷ ys) ih

  program_symbol_name : (z : Name) (u : Symbol) → program_symbol z ≡ Some u → u.name ≡ z
  unfolding program_symbol
  program_symbol_name z u h =
      let i = map_some (symbol_at text z) (variable_at text vs (owner_of_name p z) z) u h in
      ap (λ y. y.name) (sym i.2)

  pub program_looked_up : (xs : List Name) (x : Name) → symbol_of (program_symbols text vs p xs) x
      ≡ (if contains_name xs x then option_map (symbol_at text x) (variable_at text vs (owner_of_name p x) x)
      else None)
  unfolding program_symbol
  program_looked_up xs x =
      ap (λ ys. symbol_of ys x) (program_symbols_are xs) ∙ looked_up program_symbol program_symbol_name x xs

-- a block's
module _ (text : Declared) (vs : List Owned) (ps : Parts) (externals : List Name) where
  block_symbols_are : (xs : List Name)
      → block_symbols text vs ps externals xs ≡ symbols_by (block_symbol text vs ps externals) xs
  unfolding symbols_by
  block_symbols_are [] = refl
  block_symbols_are (x ∷ xs) = ap (if_there (block_symbol text vs ps externals x)) (block_symbols_are xs)

  block_symbol_name : (z : Name) (u : Symbol) → block_symbol text vs ps externals z ≡ Some u → u.name ≡ z
  block_symbol_name z u h = by_test (contains_name externals z) h
    where
      by_test : (b : Bool) → (if b then option_map (symbol_at text z) (variable_at text vs None z)
          else option_map (part_symbol z) (part_at ps z)) ≡ Some u → u.name ≡ z
      by_test true g =
          let i = map_some (symbol_at text z) (variable_at text vs None z) u g in ap (λ y. y.name) (sym i.2)
      by_test false g =
          let i = map_some (part_symbol z) (part_at ps z) u g in ap (λ y. y.name) (sym i.2)

  pub block_looked_up : (xs : List Name) (x : Name) → symbol_of (block_symbols text vs ps externals xs) x
      ≡ (if contains_name xs x then block_symbol text vs ps externals x else None)
  block_looked_up xs x =
      ap (λ ys. symbol_of ys x) (block_symbols_are xs)
      ∙ looked_up (block_symbol text vs ps externals) block_symbol_name x xs

-- a function's
module _ (text : Declared) (ds : List NamedSite) where
  call_symbol_of : Name → Option Symbol
  call_symbol_of x = option_map (call_symbol text x) (variable_at text (map (owned_variable None) ds) None x)

  call_symbols_are : (xs : List Name) → function_symbols text ds xs ≡ symbols_by call_symbol_of xs
  unfolding symbols_by call_symbol_of
  call_symbols_are [] = refl
  call_symbols_are (x ∷ xs) =
      ap (if_there (option_map (call_symbol text x) (variable_at text (map (owned_variable None) ds) None x)))
      (call_symbols_are xs)

  call_symbol_name : (z : Name) (u : Symbol) → call_symbol_of z ≡ Some u → u.name ≡ z
  unfolding call_symbol_of
  call_symbol_name z u h =
      let i = map_some (call_symbol text z) (variable_at text (map (owned_variable None) ds) None z) u h in
      ap (λ y. y.name) (sym i.2)

  pub call_looked_up : (xs : List Name) (x : Name) → symbol_of (function_symbols text ds xs) x
      ≡ (if contains_name xs x
      then option_map (call_symbol text x) (variable_at text (map (owned_variable None) ds) None x) else None)
  unfolding call_symbol_of
  call_looked_up xs x =
      ap (λ ys. symbol_of ys x) (call_symbols_are xs) ∙ looked_up call_symbol_of call_symbol_name x xs

-- numbers
pub number_looked_up : (n : ℕ) (xs : List Name) (x : Name)
    → named_in (numbered_from n xs) x ≡ position_from (λ y. bytes_eq x y) n xs
number_looked_up n [] x = refl
number_looked_up n (y ∷ ys) x =
    let next : suc n ≡ n + 1 = omega arith in
    ap (λ o. if bytes_eq x y then Some n else o)
    (number_looked_up (suc n) ys x ∙ ap (λ m. position_from (λ z. bytes_eq x z) m ys) next)

pub code_looked_up : (text : Declared) (x : Name)
    → named_in (numbers_of text).blocks x ≡ code_named text x (block_of x)
code_looked_up text x = by_block (block_of x) refl
  where
    by_block : (o : Option StandardBlock) → block_of x ≡ o
        → named_in (numbers_of text).blocks x ≡ code_named text x o
    by_block (Some k) e =
        named_first standard_codes (own_codes 0 (block_names text.units)) x (standard_block k)
        (standard_code x ∙ ap (option_map standard_block) e)
    by_block None e =
        named_behind standard_codes (own_codes 0 (block_names text.units)) x
        (standard_code x ∙ ap (option_map standard_block) e)
        ∙ named_mapped own_block (numbered_from 0 (block_names text.units)) x
