-- The inputs and the result of a function are among its values.
use Rattle.std.proofs.Common.{◌≡◌, refl, sym, ap, ◌∙◌, ℕ, suc, ◌<◌, arith, Bool, true, false, if◌then◌else◌}
use Rattle.std.proofs.Common.{List, [], ◌∷◌, ◌++◌, length, map, None, length-append}
use Rattle.std.proofs.Math.ListN.{length-map}
use Rattle.std.proofs.lemmas.Option.{slice_get_within}
use Rattle.st_types.specs.declared.identifier.Identifier.{Identifier}
use Rattle.st_types.specs.Declarations.{Declaration, VariableBlock}
use Rattle.st_meaning.specs.Bodies.{declared_names, names_of}
use Rattle.st_meaning.specs.NameTypes.{Declared, is_input, kinds_of_declaration, kinds_of_declarations, input_kinds}
use Rattle.st_meaning.specs.Scopes.{Name, unowned}
use Rattle.st_meaning.specs.Slots.{Slot}
use Rattle.layout.specs.LayoutVariables.{Owned, owned_variable}
use Rattle.layout.specs.Libraries.{fresh_values, input_names}
use Rattle.layout.specs.Shapes.{size}
use Rattle.layout.specs.VariableSlots.{slot}
use Rattle.layout.specs.TextLayouts.{leaves_of_variable, slot_of_leaf, slots_of, slots_of_variable, variable_shape}
use Rattle.layout.specs.Types.{NamedSite}
use Rattle.layout.proofs.LeafLemmas.{length_leaves}
use Rattle.layout.specs.Layouts.{layout_size}
use Rattle.slot_trees.specs.Seeing.{IsSlotOf}
use Rattle.slot_trees.specs.LinkedTexts.{InputsLieAt, values_of_fresh}
use Rattle.slot_trees.proofs.FunctionLayouts.{fresh_layout}
use Rattle.machine_code.specs.Fitting.{AllBelow}

-- as many types as names
one_kinds : (text : Declared) (d : Declaration) (xs : List Identifier)
    → length (kinds_of_declaration text d xs) ≡ length (names_of xs)
one_kinds text d [] = refl
one_kinds text d (x ∷ xs) = ap suc (one_kinds text d xs)

both_long : {A B : Type 0} (xs ys : List A) (zs ws : List B) → length xs ≡ length zs → length ys ≡ length ws
    → length (xs ++ ys) ≡ length (zs ++ ws)
both_long xs ys zs ws h g =
    let a = length-append xs ys in
    let b = length-append zs ws in
    omega (arith, a, b, h, g)

all_kinds : (text : Declared) (ds : List Declaration)
    → length (kinds_of_declarations text ds) ≡ length (declared_names ds)
all_kinds text [] = refl
all_kinds text (d ∷ ds) =
    both_long (kinds_of_declaration text d d.names) (kinds_of_declarations text ds) (names_of d.names)
    (declared_names ds) (one_kinds text d d.names) (all_kinds text ds)

pub inputs_counted : (text : Declared) (bs : List VariableBlock)
    → length (input_kinds text bs) ≡ length (input_names bs)
inputs_counted text [] = refl
inputs_counted text (b ∷ bs) = by_section (is_input b.section) (inputs_counted text bs)
  where
    by_section : (is : Bool) → length (input_kinds text bs) ≡ length (input_names bs)
        → length (if is then kinds_of_declarations text b.declarations ++ input_kinds text bs else input_kinds text bs)
        ≡ length (if is then declared_names b.declarations ++ input_names bs else input_names bs)
    by_section true ih =
        both_long (kinds_of_declarations text b.declarations) (input_kinds text bs) (declared_names b.declarations)
        (input_names bs) (all_kinds text b.declarations) ih
    by_section false ih = ih

-- slots of a layout are below its length
pub slot_below : (layout : List Slot) (x : Name) (k : ℕ) → IsSlotOf layout false (unowned x) k → k < length layout
slot_below layout x k s = slice_get_within layout k (slot (unowned x) s.kind false) s.there

pub inputs_below : (layout : List Slot) (xs : List Name) (ks : List ℕ) → InputsLieAt layout xs ks
    → (length xs ≡ length ks) × AllBelow (length layout) ks
inputs_below layout [] [] h = (refl, tt)
inputs_below layout [] (k ∷ ks) h = absurd h
inputs_below layout (x ∷ xs) [] h = absurd h
inputs_below layout (x ∷ xs) (k ∷ ks) h =
    let rest = inputs_below layout xs ks h.1 in (ap suc rest.0, (slot_below layout x k h.0, rest.1))

-- a call has a value for each slot of its variables
pub fresh_long : (text : Declared) (ds : List NamedSite)
    → length (values_of_fresh (fresh_values text ds)) ≡ length (slots_of text (map (owned_variable None) ds))
fresh_long text ds =
    length-map (fresh_values text ds) _ ∙ sym (length-map (fresh_values text ds) _)
    ∙ ap length (fresh_layout text ds)

-- the slots of a layout
pub layout_long : (text : Declared) (vs : List Owned) → length (slots_of text vs) ≡ layout_size text vs
layout_long text [] = refl
layout_long text (v ∷ vs) =
    let all = length-append (slots_of_variable text v) (slots_of text vs) in
    let own : length (slots_of_variable text v) ≡ size (variable_shape text v) =
    length-map (leaves_of_variable text v) (slot_of_leaf v) ∙ length_leaves (variable_shape text v) in
    let rest = layout_long text vs in
    omega (arith, all, own, rest)
