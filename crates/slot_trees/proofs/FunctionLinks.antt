-- A function that is linked by the table of its declarations is linked.
use Rattle.std.proofs.Common.{◌≡◌, ℕ, ◌+◌, Bool, true, false, if◌then◌else◌, List, [], ◌∷◌, map, Option, Some, None}
use Rattle.std.proofs.Common.{option_map, option_and_then, refl, sym, subst, arith}
use Rattle.std.specs.Prelude.{bytes_eq}
use Rattle.st_types.specs.declared.data_type.SimpleType.{SimpleType}
use Rattle.st_types.specs.Statements.{Stmts, stmts_of}
use Rattle.st_types.specs.Units.{OrganisationUnit}
use Rattle.st_meaning.specs.NameTypes.{Declared}
use Rattle.st_meaning.specs.Scopes.{Name, of_call, own_path, unowned, contains_name}
use Rattle.st_meaning.specs.Slots.{Slot, IsLayout}
use Rattle.layout.specs.LayoutVariables.{Owned, owned_variable}
use Rattle.layout.specs.Libraries.{fresh_values, body_of_unit, input_names, function_of_unit}
use Rattle.layout.specs.Shapes.{Shape, plain, array, parts}
use Rattle.layout.specs.VariableSlots.{LiesAt, are_declared_once, variable_at}
use Rattle.layout.specs.TextLayouts.{variable_shape}
use Rattle.layout.specs.Types.{NamedSite}
use Rattle.layout.proofs.ListLemmas.{same_name}
use Rattle.layout.proofs.VariableLemmas.{variable_stands, variables_layout}
use Rattle.slot_trees.specs.SlotTrees.{Anchor, SlotStmts, SlotFunction}
use Rattle.slot_trees.specs.SlotEvaluation.{slot_at}
use Rattle.slot_trees.specs.Tables.{Symbol, symbol_of}
use Rattle.slot_trees.specs.LinkedStatements.{linked_stmts, plain_anchor, control_of}
use Rattle.slot_trees.specs.Seeing.{IsSlotOf}
use Rattle.slot_trees.specs.LinkedTexts.{table_of, layout_of_fresh, InputsLieAt, IsFunctionLink}
use Rattle.slot_trees.specs.BlockTables.{if_there}
use Rattle.slot_trees.specs.FunctionTables.{call_symbol, function_symbols}
use Rattle.slot_trees.specs.TextNumbers.{numbers_of}
use Rattle.slot_trees.specs.TextLinks.{names_in, sites_of_call, symbols_of_function, call_slot, call_slots}
use Rattle.slot_trees.specs.TextLinks.{linked_function_body, function_with, linked_function}
use Rattle.slot_trees.proofs.OptionLemmas.{not_some}
use Rattle.slot_trees.proofs.SlotLemmas.{plain_at}
use Rattle.slot_trees.proofs.FunctionLayouts.{fresh_layout}
use Rattle.st_types.proofs.OptionLemmas.{some_is, map_some, then_some}

-- the name has a variable of the call, which the symbol gives
record IsVariable (text : Declared) (ds : List NamedSite) (x : Name) (y : Symbol) : Type 0 where
  pub entry : ℕ × Owned
  pub there : variable_at text (map (owned_variable None) ds) None x ≡ Some entry
  pub is : call_symbol text x entry ≡ y

module _ (text : Declared) (ds : List NamedSite) (x : Name) (y : Symbol) where
  abbrev at : Name → Option (ℕ × Owned)
  at z = variable_at text (map (owned_variable None) ds) None z

  here_or : (z : Name) (e : ℕ × Owned) (rest : List Symbol) → (symbol_of rest x ≡ Some y → IsVariable text ds x y)
      → at z ≡ Some e → (b : Bool) → bytes_eq x z ≡ b
      → (if b then Some (call_symbol text z e) else symbol_of rest x) ≡ Some y → IsVariable text ds x y
  here_or z e rest ih found true q h =
      let same : x ≡ z = same_name x z q in
      record {
        entry = e;
        there = subst (λ n. at n ≡ Some e) (sym same) found;
        is = subst (λ n. call_symbol text n e ≡ y) (sym same) (some_is h);
      }
  here_or z e rest ih found false q h = ih h

  variable_cases : (z : Name) (rest : List Symbol) → (symbol_of rest x ≡ Some y → IsVariable text ds x y)
      → (o : Option (ℕ × Owned)) → at z ≡ o
      → symbol_of (if_there (option_map (call_symbol text z) o) rest) x ≡ Some y → IsVariable text ds x y
  variable_cases z rest ih None found h = ih h
  variable_cases z rest ih (Some e) found h = here_or z e rest ih found (bytes_eq x z) refl h

  is_variable : (xs : List Name) → symbol_of (function_symbols text ds xs) x ≡ Some y → IsVariable text ds x y
  is_variable [] h = absurd (cc)
  is_variable (z ∷ xs) h = variable_cases z (function_symbols text ds xs) (is_variable xs) (at z) refl h

no_base : (k : ℕ) → k ≡ 0 + k
no_base k = omega arith

-- each name of a call is among its own slots
call_stands : (text : Declared) (ds : List NamedSite) → are_declared_once text (map (owned_variable None) ds) ≡ true
    → (xs : List Name) (x : Name) (y : Symbol) → symbol_of (function_symbols text ds xs) x ≡ Some y
    → LiesAt (layout_of_fresh (fresh_values text ds)) y.is_input (unowned x) y.shape (slot_at 0 y.anchor)
call_stands text ds once xs x y h =
    let d = is_variable text ds x y xs h in
    subst
    (λ u. LiesAt (layout_of_fresh (fresh_values text ds)) u.is_input (unowned x) u.shape (slot_at 0 u.anchor)) d.is
    (subst
    (λ k. LiesAt (layout_of_fresh (fresh_values text ds)) d.entry.1.is_input (unowned x)
    (variable_shape text d.entry.1) k) (no_base d.entry.0)
    (subst
    (λ l. LiesAt l d.entry.1.is_input (unowned x) (variable_shape text d.entry.1) d.entry.0)
    (sym (fresh_layout text ds))
    (variable_stands text (map (owned_variable None) ds) once None x d.entry.0 d.entry.1 d.there)))

-- the slot of an input or of the result
module _ (layout : List Slot) (symbols : List Symbol)
    (stand : (x : Name) (y : Symbol) → symbol_of symbols x ≡ Some y
    → LiesAt layout y.is_input (unowned x) y.shape (slot_at 0 y.anchor)) where
  plain_slot : (x : Name) (input : Bool) (a b : Anchor) (sh : Shape) → plain_anchor a sh ≡ Some b → input ≡ false
      → LiesAt layout input (unowned x) sh (slot_at 0 a) → IsSlotOf layout false (unowned x) (slot_at 0 b)
  plain_slot x input a b (plain k) h is st =
      subst (λ i. IsSlotOf layout i (unowned x) (slot_at 0 b)) is
      (subst (λ c. IsSlotOf layout input (unowned x) (slot_at 0 c)) (some_is h)
      (plain_at layout input (unowned x) k (slot_at 0 a) st))
  plain_slot x input a b (array lower count sh) h is st = absurd (cc)
  plain_slot x input a b (parts w ps) h is st = absurd (cc)

  call_slot_is : (x : Name) (k : ℕ) → call_slot symbols x ≡ Some k → IsSlotOf layout false (unowned x) k
  call_slot_is x k h =
      let m = map_some (slot_at 0) (option_and_then control_of (symbol_of symbols x)) k h in
      let t = then_some control_of (symbol_of symbols x) m.0 m.1 in
      let n = not_some t.0.is_input (plain_anchor t.0.anchor t.0.shape) m.0 t.2 in
      subst (λ j. IsSlotOf layout false (unowned x) j) m.2
      (plain_slot x t.0.is_input t.0.anchor m.0 t.0.shape n.1 n.0 (stand x t.0 t.1))

  inputs_stand : (xs : List Name) (ks : List ℕ) → call_slots symbols xs ≡ Some ks → InputsLieAt layout xs ks
  inputs_stand [] [] h = tt
  inputs_stand [] (k ∷ ks) h = absurd (let e : [] ≡ k ∷ ks = some_is h in cc)
  inputs_stand (x ∷ xs) ks h =
      let t = then_some (λ k. option_map (λ js. k ∷ js) (call_slots symbols xs)) (call_slot symbols x) ks h in
      let m = map_some (λ js. t.0 ∷ js) (call_slots symbols xs) ks t.2 in
      subst (λ js. InputsLieAt layout (x ∷ xs) js) m.2 (call_slot_is x t.0 t.1, inputs_stand xs m.0 m.1)

path_cases : (x : Name) (b : Bool) → unowned x ≡ (if b then unowned x else own_path of_call x)
path_cases x true = refl
path_cases x false = refl

-- a function with instances is not linked
body_linked : (text : Declared) (symbols : List Symbol) (instances : List (Name × Name)) (statements : Stmts)
    (body : SlotStmts) → linked_function_body text symbols instances statements ≡ Some body
    → (instances ≡ []) × (linked_stmts (table_of (numbers_of text) symbols []) statements ≡ Some body)
body_linked text symbols [] statements body h = (refl, h)
body_linked text symbols (i ∷ is) statements body h = absurd (cc)

pub function_link : (text : Declared) (t : SimpleType) (u : OrganisationUnit) (g : SlotFunction)
    → are_declared_once text (map (owned_variable None) (sites_of_call t u)) ≡ true
    → linked_function text t u ≡ Some g → IsFunctionLink (numbers_of text) (function_of_unit text t u) g
function_link text t u g once h =
    let symbols = symbols_of_function text t u in
    let ds = sites_of_call t u in
    let a = then_some
    (λ inputs. option_and_then (λ result. option_map (function_with text t u inputs result)
    (linked_function_body text symbols (body_of_unit text u).instances (stmts_of u.body)))
    (call_slot symbols u.name.name)) (call_slots symbols (input_names u.blocks)) g h in
    let b = then_some
    (λ result. option_map (function_with text t u a.0 result)
    (linked_function_body text symbols (body_of_unit text u).instances (stmts_of u.body)))
    (call_slot symbols u.name.name) g a.2 in
    let c = map_some (function_with text t u a.0 b.0)
    (linked_function_body text symbols (body_of_unit text u).instances (stmts_of u.body)) g b.2 in
    let d = body_linked text symbols (body_of_unit text u).instances (stmts_of u.body) c.0 c.1 in
    let layout = layout_of_fresh (fresh_values text ds) in
    let stand : (x : Name) (y : Symbol) → symbol_of symbols x ≡ Some y
    → LiesAt layout y.is_input (unowned x) y.shape (slot_at 0 y.anchor) =
    call_stands text ds once (u.name.name ∷ names_in u.blocks) in
    subst (λ f. IsFunctionLink (numbers_of text) (function_of_unit text t u) f) c.2
    (record {
      symbols = symbols;
      fresh = refl;
      distinct = subst IsLayout (sym (fresh_layout text ds))
          (variables_layout text (map (owned_variable None) ds) once);
      inputs = inputs_stand layout symbols stand (input_names u.blocks) a.0 a.1;
      result = call_slot_is layout symbols stand u.name.name b.0 b.1;
      names = λ x y k.
          subst (λ p. LiesAt layout y.is_input p y.shape (slot_at 0 y.anchor))
          (path_cases x (contains_name (body_of_unit text u).externals x)) (stand x y k);
      instances = d.0;
      body = d.1;
    })
