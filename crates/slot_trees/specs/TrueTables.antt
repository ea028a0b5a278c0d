-- When a table tells the truth about a body: the places of its names, and the effects of its calls.
use Rattle.std.specs.Prelude.{◌≡◌, ℕ, List, Some}
use Rattle.st_types.specs.Values.{Datum}
use Rattle.st_meaning.specs.Stores.{Store}
use Rattle.st_meaning.specs.Slots.{Slot}
use Rattle.st_meaning.specs.Scopes.{Name, Scope, path_in, block_named}
use Rattle.layout.specs.VariableSlots.{LiesAt}
use Rattle.slot_trees.specs.SlotTrees.{BlockCode}
use Rattle.slot_trees.specs.SlotEvaluation.{SlotScope, slot_at}
use Rattle.slot_trees.specs.Tables.{Symbol, Table, symbol_of, named_in}
use Rattle.slot_trees.specs.Seeing.{Sees}
use Rattle.slot_trees.specs.Alike.{RunEqually}

pub record IsTableOf (layout : List Slot) (w : Scope) (z : SlotScope) (t : Table) : Type 0 where
  pub names : (x : Name) (y : Symbol) → symbol_of t.symbols x ≡ Some y
      → LiesAt layout y.is_input (path_in w.frame w.body x) y.shape (slot_at z.base y.anchor)
  pub instances : t.instances ≡ w.body.instances
  pub functions : (f : Name) (i : ℕ) → named_in t.functions f ≡ Some i → (xs : List Datum)
      → RunEqually Datum Datum (λ a b. a ≡ b) (w.units.functions f xs) (z.units.functions i xs)
  pub blocks : (x b : Name) (c : BlockCode) (y : Symbol) → block_named t.instances x ≡ Some b
      → named_in t.blocks b ≡ Some c → symbol_of t.symbols x ≡ Some y → (s : Store) (vs : List Datum)
      → Sees layout w.image s vs → RunEqually Store (List Datum) (Sees layout w.image)
      (w.units.blocks b (path_in w.frame w.body x) s) (z.units.blocks c (slot_at z.base y.anchor) vs)
  pub stuck_faults : z.stuck_faults ≡ w.stuck_faults
