-- The names of a program are at the places that its declarations give.
use Rattle.std.proofs.Common.{◌≡◌, ℕ, Bool, true, false, if◌then◌else◌, List, [], ◌∷◌, Option, Some, None, refl, sym}
use Rattle.std.proofs.Common.{subst}
use Rattle.std.specs.Prelude.{bytes_eq}
use Rattle.st_types.specs.declared.path.Owner.{Owner}
use Rattle.st_meaning.specs.NameTypes.{Declared}
use Rattle.st_meaning.specs.Runs.{Program}
use Rattle.st_meaning.specs.Scopes.{Name, of_program, own_path, path_in, unowned, contains_name}
use Rattle.layout.specs.LayoutVariables.{Owned}
use Rattle.layout.specs.VariableSlots.{LiesAt, path_to, are_declared_once, variable_at}
use Rattle.layout.specs.TextLayouts.{slots_of}
use Rattle.layout.proofs.ListLemmas.{same_name}
use Rattle.layout.proofs.VariableLemmas.{variable_stands}
use Rattle.slot_trees.specs.SlotEvaluation.{slot_at}
use Rattle.slot_trees.specs.Tables.{Symbol, symbol_of}
use Rattle.slot_trees.specs.ProgramTables.{owner_of_name, symbol_at, symbol_then, program_symbols}
use Rattle.st_types.proofs.OptionLemmas.{some_is}

-- the name has a declaration, which the symbol gives
pub record IsNamed (text : Declared) (vs : List Owned) (p : Program) (x : Name) (y : Symbol) : Type 0 where
  pub entry : ℕ × Owned
  pub there : variable_at text vs (owner_of_name p x) x ≡ Some entry
  pub is : symbol_at text x entry ≡ y

module _ (text : Declared) (vs : List Owned) (p : Program) (x : Name) (y : Symbol) where
  here_or : (z : Name) (e : ℕ × Owned) (rest : List Symbol) → (symbol_of rest x ≡ Some y → IsNamed text vs p x y)
      → variable_at text vs (owner_of_name p z) z ≡ Some e → (b : Bool) → bytes_eq x z ≡ b
      → (if b then Some (symbol_at text z e) else symbol_of rest x) ≡ Some y → IsNamed text vs p x y
  here_or z e rest ih at true q h =
      let same : x ≡ z = same_name x z q in
      record {
        entry = e;
        there = subst (λ n. variable_at text vs (owner_of_name p n) n ≡ Some e) (sym same) at;
        is = subst (λ n. symbol_at text n e ≡ y) (sym same) (some_is h);
      }
  here_or z e rest ih at false q h = ih h

  named_cases : (z : Name) (rest : List Symbol) → (symbol_of rest x ≡ Some y → IsNamed text vs p x y)
      → (o : Option (ℕ × Owned)) → variable_at text vs (owner_of_name p z) z ≡ o
      → symbol_of (symbol_then text z o rest) x ≡ Some y → IsNamed text vs p x y
  named_cases z rest ih None at h = ih h
  named_cases z rest ih (Some e) at h = here_or z e rest ih at (bytes_eq x z) refl h

  pub named : (xs : List Name) → symbol_of (program_symbols text vs p xs) x ≡ Some y → IsNamed text vs p x y
  named [] h = absurd (cc)
  named (z ∷ xs) h =
      named_cases z (program_symbols text vs p xs) (named xs) (variable_at text vs (owner_of_name p z) z) refl h

path_cases : (o : Owner) (x : Name) (b : Bool) → path_to (if b then None else Some o) x
    ≡ (if b then unowned x else own_path (of_program o) x)
path_cases o x true = refl
path_cases o x false = refl

pub program_names : (text : Declared) (vs : List Owned) → are_declared_once text vs ≡ true → (p : Program)
    (xs : List Name) (base : ℕ) (x : Name) (y : Symbol) → symbol_of (program_symbols text vs p xs) x ≡ Some y
    → LiesAt (slots_of text vs) y.is_input (path_in (of_program p.owner) p.body x) y.shape (slot_at base y.anchor)
program_names text vs once p xs base x y h =
    let d = named text vs p x y xs h in
    subst
    (λ u. LiesAt (slots_of text vs) u.is_input (path_in (of_program p.owner) p.body x) u.shape (slot_at base u.anchor))
    d.is
    (subst
    (λ q. LiesAt (slots_of text vs) d.entry.1.is_input q (symbol_at text x d.entry).shape d.entry.0)
    (path_cases p.owner x (contains_name p.body.externals x))
    (variable_stands text vs once (owner_of_name p x) x d.entry.0 d.entry.1 d.there))
