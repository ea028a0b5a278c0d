-- The store of the initial values: its entries, and that each value is one that its type holds.
use Rattle.std.proofs.Common.{◌≡◌, ℕ, suc, pos, Bool, true, false, not, ◌||◌, if◌then◌else◌, List, [], ◌∷◌}
use Rattle.std.proofs.Common.{◌++◌, map, slice_get, Option, Some, None, option_map, option_and_then, Result, Ok, Err}
use Rattle.std.proofs.Common.{refl}
use Rattle.std.proofs.Common.{sym, ap, ap₂, ◌∙◌, arith}
use Rattle.std.specs.Prelude.{filter}
use Rattle.std.proofs.lemmas.Int.{ints}
use Rattle.std.specs.List.{list_any}
use Rattle.st_types.specs.declared.kind.Kind.{Kind}
use Rattle.st_types.specs.declared.kind.Kind.TheVariants.{Sint, Int, Dint, Lint, Usint, Uint, Udint, Ulint, Byte, Word}
use Rattle.st_types.specs.declared.kind.Kind.TheVariants.{Dword, Lword, Time, Bool as Boolean, Enumerated}
use Rattle.st_types.specs.declared.literal.Literal.{Literal}
use Rattle.st_types.specs.Kinds.{holds, same_kind}
use Rattle.st_types.specs.Values.{Datum}
use Rattle.st_types.specs.Paths.{Path, same_path}
use Rattle.st_types.proofs.KindLemmas.{same_kind_is, same_kind-refl}
use Rattle.st_types.specs.Initials.{Initial, constant, list, structure}
use Rattle.st_meaning.specs.Failures.{Failure}
use Rattle.st_meaning.specs.NameTypes.{Declared}
use Rattle.st_meaning.specs.Operators.{value_of_literal}
use Rattle.st_meaning.specs.Slots.{Slot, slot_of, IsLayout}
use Rattle.st_meaning.specs.Stores.{may_replace, shape_of, is_distinct, all_held, IsStore}
use Rattle.st_types.specs.Comparisons.{same_path_is, same_path_itself}
use Rattle.st_meaning.specs.declared.plan.PlanVariable.{PlanVariable}
use Rattle.st_meaning.specs.declared.plan.PlanInput.{PlanInput}
use Rattle.st_meaning.specs.Layouts.{variable_slot, input_slot}
use Rattle.st_meaning.specs.Plans.{initial_value}
use Rattle.layout.specs.Shapes.{Leaf}
use Rattle.layout.specs.Types.{Site}
use Rattle.layout.specs.Sites.{site_at, default_of, fitting, constant_of, initial_at}
use Rattle.layout.specs.LayoutVariables.{Owned}
use Rattle.layout.specs.TextLayouts.{leaves_of_variable, slot_of_leaf, slots_of_variable, slots_of}
use Rattle.layout.specs.TextLayouts.{variable_of_leaf}
use Rattle.layout.specs.TextLayouts.{plan_variables_of, input_of_leaf, plan_inputs_of, variable_slots, input_slots}
use Rattle.layout.specs.TextLayouts.{types_of_slots, initial_values, initial_image}
use Rattle.layout.proofs.OwnPaths.{filter_append}
use Rattle.std.proofs.lemmas.Bool.{not_from_false, or_parts, and_parts, and_from}
use Rattle.st_types.proofs.OptionLemmas.{some_is}
use Rattle.std.proofs.lemmas.List.{map-append}
use Rattle.st_types.proofs.TestLemmas.{false_from_not}
use Rattle.std.proofs.lemmas.List.Folds.{list_any-append}

-- 0 is a value of each type
default_held : (k : Kind) → holds k (pos 0) ≡ true
default_held Sint = refl
default_held Int = refl
default_held Dint = refl
default_held Lint = refl
default_held Usint = refl
default_held Uint = refl
default_held Udint = refl
default_held Ulint = refl
default_held Byte = refl
default_held Word = refl
default_held Dword = refl
default_held Lword = refl
default_held Time = refl
default_held Boolean = refl
default_held (Enumerated names number) = grind (arith, ints)

-- a value of a type that this type holds
record IsOf (k : Kind) (v : Datum) : Type 0 where
  kind : v.kind ≡ k
  held : holds v.kind v.number ≡ true

abbrev IsOfIfThere : Kind → Option Datum → Type 0
IsOfIfThere k None = Unit {0}
IsOfIfThere k (Some v) = IsOf k v

fitting_is : (k : Kind) (r : Result Datum Failure) → IsOfIfThere k (fitting k r)
fitting_is k (Err e) = tt
fitting_is k (Ok v) = by_test (may_replace (default_of k) v) refl
  where
    by_test : (b : Bool) → may_replace (default_of k) v ≡ b → IsOfIfThere k (if b then Some v else None)
    by_test true h =
        let t = and_parts (same_kind k v.kind) (holds v.kind v.number) h in
        record { kind = sym (same_kind_is k v.kind t.0); held = t.1 }
    by_test false h = tt

constant_is : (k : Kind) (i : Option Initial) → IsOfIfThere k (constant_of k i)
constant_is k (Some (constant l)) = fitting_is k (value_of_literal l)
constant_is k (Some (list at xs)) = tt
constant_is k (Some (structure at xs)) = tt
constant_is k None = tt

site_constant_is : (k : Kind) (o : Option Site) → IsOfIfThere k (option_and_then (λ u. constant_of k u.initial) o)
site_constant_is k None = tt
site_constant_is k (Some u) = constant_is k u.initial

value_is : (k : Kind) (o : Option Datum) → IsOfIfThere k o → IsOf k (initial_value k o)
value_is k None h = record { kind = refl; held = default_held k }
value_is k (Some v) h = h

initial_is : (text : Declared) (l : Leaf) (s : Site) → IsOf l.kind (initial_at text s l.steps l.kind)
initial_is text l s = value_is l.kind (option_and_then (λ u. constant_of l.kind u.initial) (site_at text s l.steps))
    (site_constant_is l.kind (site_at text s l.steps))

-- a written constant of the type is the value
fits_itself : (v : Datum) → holds v.kind v.number ≡ true → fitting v.kind (Ok v) ≡ Some v
fits_itself v h =
    let k = same_kind-refl v.kind in
    let t : may_replace (default_of v.kind) v ≡ true = and_from (same_kind v.kind v.kind) (holds v.kind v.number) k h in
    ap (λ b. if b then Some v else None) t

pub written_value : (text : Declared) (s : Site) (l : Literal) (v : Datum) → s.initial ≡ Some (constant l)
    → value_of_literal l ≡ Ok v → holds v.kind v.number ≡ true → initial_at text s [] v.kind ≡ v
written_value text s l v e f h =
    ap (initial_value v.kind) (ap (constant_of v.kind) e ∙ ap (fitting v.kind) f ∙ fits_itself v h)

pub unwritten_value : (text : Declared) (s : Site) (k : Kind) → s.initial ≡ None
    → initial_at text s [] k ≡ default_of k
unwritten_value text s k e = ap (initial_value k) (ap (constant_of k) e)

abbrev slot : Path → Kind → Bool → Slot
slot p k input = record { path = p; kind = k; is_input = input }

variable_leaves : (text : Declared) (v : Owned) → v.is_input ≡ false → (ls : List Leaf)
    → map variable_slot (map (variable_of_leaf text v) ls) ≡ variable_slots (map (slot_of_leaf v) ls)
variable_leaves text v e [] = refl
variable_leaves text v e (l ∷ ls) =
    let h = variable_leaves text v e ls in
    let k = (initial_is text l v.site).kind in
    rw (e, k, h) refl

no_variables : (v : Owned) → v.is_input ≡ true → (ls : List Leaf) → variable_slots (map (slot_of_leaf v) ls) ≡ []
no_variables v e [] = refl
no_variables v e (l ∷ ls) = let h = no_variables v e ls in rw (e, h) refl

input_leaves : (v : Owned) → v.is_input ≡ true → (ls : List Leaf)
    → map input_slot (map (input_of_leaf v) ls) ≡ input_slots (map (slot_of_leaf v) ls)
input_leaves v e [] = refl
input_leaves v e (l ∷ ls) = let h = input_leaves v e ls in rw (e, h) refl

no_inputs : (v : Owned) → v.is_input ≡ false → (ls : List Leaf) → input_slots (map (slot_of_leaf v) ls) ≡ []
no_inputs v e [] = refl
no_inputs v e (l ∷ ls) = let h = no_inputs v e ls in rw (e, h) refl

module _ (text : Declared) where
  pub variables_by_slots : (vs : List Owned)
      → map variable_slot (plan_variables_of text vs) ≡ variable_slots (slots_of text vs)
  variables_by_slots [] = refl
  variables_by_slots (v ∷ vs) =
      by_test v.is_input refl (variables_by_slots vs)
      ∙ sym (filter_append (λ l. not l.is_input) (slots_of_variable text v) (slots_of text vs))
    where
      by_test : (b : Bool) → v.is_input ≡ b
          → map variable_slot (plan_variables_of text vs) ≡ variable_slots (slots_of text vs)
          → map variable_slot (if b then plan_variables_of text vs
          else map (variable_of_leaf text v) (leaves_of_variable text v) ++ plan_variables_of text vs)
          ≡ variable_slots (slots_of_variable text v) ++ variable_slots (slots_of text vs)
      by_test true e h =
          h
          ∙ ap (λ xs. xs ++ variable_slots (slots_of text vs)) (sym (no_variables v e (leaves_of_variable text v)))
      by_test false e h =
          map-append variable_slot (map (variable_of_leaf text v) (leaves_of_variable text v))
          (plan_variables_of text vs)
          ∙ ap₂ (λ xs ys. xs ++ ys) (variable_leaves text v e (leaves_of_variable text v)) h

  pub inputs_by_slots : (vs : List Owned) → map input_slot (plan_inputs_of text vs) ≡ input_slots (slots_of text vs)
  inputs_by_slots [] = refl
  inputs_by_slots (v ∷ vs) =
      by_test v.is_input refl (inputs_by_slots vs)
      ∙ sym (filter_append (λ l. l.is_input) (slots_of_variable text v) (slots_of text vs))
    where
      by_test : (b : Bool) → v.is_input ≡ b → map input_slot (plan_inputs_of text vs) ≡ input_slots (slots_of text vs)
          → map input_slot (if b then map (input_of_leaf v) (leaves_of_variable text v) ++ plan_inputs_of text vs
          else plan_inputs_of text vs)
          ≡ input_slots (slots_of_variable text v) ++ input_slots (slots_of text vs)
      by_test true e h =
          map-append input_slot (map (input_of_leaf v) (leaves_of_variable text v)) (plan_inputs_of text vs)
          ∙ ap₂ (λ xs ys. xs ++ ys) (input_leaves v e (leaves_of_variable text v)) h
      by_test false e h =
          h
          ∙ ap (λ xs. xs ++ input_slots (slots_of text vs)) (sym (no_inputs v e (leaves_of_variable text v)))

-- the entries of the stores
variable_types : (vs : List PlanVariable) → shape_of (initial_values vs) ≡ types_of_slots (map variable_slot vs)
variable_types [] = refl
variable_types (v ∷ vs) = ap (λ xs. (v.path, v.initial.kind) ∷ xs) (variable_types vs)

input_types : (is : List PlanInput) → shape_of (initial_image is) ≡ types_of_slots (map input_slot is)
input_types [] = refl
input_types (i ∷ is) = ap (λ xs. (i.path, i.kind) ∷ xs) (input_types is)

pub types_of_plan_variables : (text : Declared) (vs : List Owned)
    → shape_of (initial_values (plan_variables_of text vs)) ≡ types_of_slots (variable_slots (slots_of text vs))
types_of_plan_variables text vs = variable_types (plan_variables_of text vs)
    ∙ ap types_of_slots (variables_by_slots text vs)

pub types_of_inputs : (text : Declared) (vs : List Owned)
    → shape_of (initial_image (plan_inputs_of text vs)) ≡ types_of_slots (input_slots (slots_of text vs))
types_of_inputs text vs = input_types (plan_inputs_of text vs) ∙ ap types_of_slots (inputs_by_slots text vs)

-- each value is held
held_leaves : (text : Declared) (v : Owned) (ls : List Leaf) (rest : List PlanVariable)
    → all_held (initial_values rest) ≡ true
    → all_held (initial_values (map (variable_of_leaf text v) ls ++ rest)) ≡ true
held_leaves text v [] rest h = h
held_leaves text v (l ∷ ls) rest h =
    and_from (holds (initial_at text v.site l.steps l.kind).kind (initial_at text v.site l.steps l.kind).number)
    (all_held (initial_values (map (variable_of_leaf text v) ls ++ rest))) (initial_is text l v.site).held
    (held_leaves text v ls rest h)

pub initial_values_held : (text : Declared) (vs : List Owned)
    → all_held (initial_values (plan_variables_of text vs)) ≡ true
initial_values_held text [] = refl
initial_values_held text (v ∷ vs) = by_test v.is_input (initial_values_held text vs)
  where
    by_test : (b : Bool) → all_held (initial_values (plan_variables_of text vs)) ≡ true
        → all_held (initial_values (if b then plan_variables_of text vs
        else map (variable_of_leaf text v) (leaves_of_variable text v) ++ plan_variables_of text vs)) ≡ true
    by_test true h = h
    by_test false h = held_leaves text v (leaves_of_variable text v) (plan_variables_of text vs) h

pub initial_image_held : (is : List PlanInput) → all_held (initial_image is) ≡ true
initial_image_held [] = refl
initial_image_held (i ∷ is) =
    and_from (holds i.kind (pos 0)) (all_held (initial_image is)) (default_held i.kind) (initial_image_held is)

-- if each path has one slot, it occurs once in the image and the variables
abbrev stands_in : Path → List (Path × Kind) → Bool
stands_in p es = list_any (λ d. same_path p d.0) es

path_turned : (p q : Path) → same_path p q ≡ false → same_path q p ≡ false
path_turned p q h = by_test (same_path q p) refl
  where
    by_test : (b : Bool) → same_path q p ≡ b → b ≡ false
    by_test false e = refl
    by_test true e =
        let s = same_path_is q p e in let i = same_path_itself p in
        let j : same_path p q ≡ true = rw s i in absurd (cc)

record HasSlot (ls : List Slot) (p : Path) : Type 0 where
  number : ℕ
  slot : Slot
  there : slice_get ls number ≡ Some slot
  path : p ≡ slot.path

has_slot : (ls : List Slot) (p : Path) → stands_in p (types_of_slots ls) ≡ true → HasSlot ls p
has_slot [] p h = absurd (cc)
has_slot (l ∷ ls) p h = by_test (same_path p l.path) refl h (has_slot ls p)
  where
    by_test : (b : Bool) → same_path p l.path ≡ b → (b || stands_in p (types_of_slots ls)) ≡ true
        → (stands_in p (types_of_slots ls) ≡ true → HasSlot ls p) → HasSlot (l ∷ ls) p
    by_test true e g ih = record { number = 0; slot = l; there = refl; path = same_path_is p l.path e }
    by_test false e g ih = let i = ih g in
        record { number = suc i.number; slot = i.slot; there = i.there; path = i.path }

-- the first slot has a path of its own, and the others are a layout again
first_apart : (l : Slot) (ls : List Slot) → IsLayout (l ∷ ls) → stands_in l.path (types_of_slots ls) ≡ false
first_apart l ls h = by_test (stands_in l.path (types_of_slots ls)) refl
  where
    by_test : (b : Bool) → stands_in l.path (types_of_slots ls) ≡ b → b ≡ false
    by_test false e = refl
    by_test true e =
        let i = has_slot ls l.path e in
        let a : slot_of (l ∷ ls) i.slot.path ≡ Some (suc i.number) = h (suc i.number) i.slot i.there in
        let b : slot_of (l ∷ ls) l.path ≡ Some 0 = h 0 l refl in
        let c : slot_of (l ∷ ls) l.path ≡ slot_of (l ∷ ls) i.slot.path = ap (slot_of (l ∷ ls)) i.path in
        let d : ◌≡◌ {A = Option ℕ} (Some 0) (Some (suc i.number)) = sym b ∙ c ∙ a in
        absurd (cc)

pub others_layout : (l : Slot) (ls : List Slot) → IsLayout (l ∷ ls) → IsLayout ls
others_layout l ls h k m g = by_test (same_path m.path l.path) refl (h (suc k) m g)
  where
    by_test : (b : Bool) → same_path m.path l.path ≡ b
        → (if b then Some 0 else option_map suc (slot_of ls m.path)) ≡ Some (suc k) → slot_of ls m.path ≡ Some k
    by_test true e i = absurd (cc)
    by_test false e i = unsuc (slot_of ls m.path) i
      where
        unsuc : (o : Option ℕ) → option_map suc o ≡ Some (suc k) → o ≡ Some k
        unsuc None j = absurd (cc)
        unsuc (Some n) j = let q : suc n ≡ suc k = some_is j in let r : n ≡ k = omega arith in ap Some r

layout_distinct : (ls : List Slot) → IsLayout ls → is_distinct (types_of_slots ls) ≡ true
layout_distinct [] h = refl
layout_distinct (l ∷ ls) h =
    and_from (not (stands_in l.path (types_of_slots ls))) (is_distinct (types_of_slots ls))
    (not_from_false (stands_in l.path (types_of_slots ls)) (first_apart l ls h))
    (layout_distinct ls (others_layout l ls h))

-- split into inputs and variables
none_of : (p : Path) (f : Slot → Bool) (ls : List Slot) → stands_in p (types_of_slots ls) ≡ false
    → stands_in p (types_of_slots (filter f ls)) ≡ false
none_of p f [] h = refl
none_of p f (l ∷ ls) h =
    let n = or_parts (same_path p l.path) (stands_in p (types_of_slots ls)) h in
    by_test (f l) n.0 (none_of p f ls n.1)
  where
    by_test : (b : Bool) → same_path p l.path ≡ false → stands_in p (types_of_slots (filter f ls)) ≡ false
        → stands_in p (types_of_slots (if b then l ∷ filter f ls else filter f ls)) ≡ false
    by_test true n m = ap₂ (λ a b. a || b) n m
    by_test false n m = m

-- an entry between others that don't have its path
between : (es fs : List (Path × Kind)) (e : Path × Kind) → stands_in e.0 es ≡ false → stands_in e.0 fs ≡ false
    → is_distinct (es ++ fs) ≡ true → is_distinct (es ++ e ∷ fs) ≡ true
between [] fs e h g d = and_from (not (stands_in e.0 fs)) (is_distinct fs) (not_from_false (stands_in e.0 fs) g) d
between (c ∷ es) fs e h g d =
    let n = or_parts (same_path e.0 c.0) (stands_in e.0 es) h in
    let b = and_parts (not (stands_in c.0 (es ++ fs))) (is_distinct (es ++ fs)) d in
    let a : (stands_in c.0 es || stands_in c.0 fs) ≡ false =
    sym (list_any-append (λ q. same_path c.0 q.0) es fs) ∙ false_from_not (stands_in c.0 (es ++ fs)) b.0 in
    let m = or_parts (stands_in c.0 es) (stands_in c.0 fs) a in
    and_from (not (stands_in c.0 (es ++ e ∷ fs))) (is_distinct (es ++ e ∷ fs))
    (not_from_false (stands_in c.0 (es ++ e ∷ fs))
    (list_any-append (λ q. same_path c.0 q.0) es (e ∷ fs)
    ∙ ap₂ (λ x y. x || y) m.0 (ap₂ (λ x y. x || y) (path_turned e.0 c.0 n.0) m.1)))
    (between es fs e n.1 g b.1)

parted_distinct : (ls : List Slot) → is_distinct (types_of_slots ls) ≡ true
    → is_distinct (types_of_slots (input_slots ls) ++ types_of_slots (variable_slots ls)) ≡ true
parted_distinct [] h = refl
parted_distinct (l ∷ ls) h =
    let b = and_parts (not (stands_in l.path (types_of_slots ls))) (is_distinct (types_of_slots ls)) h in
    let n = false_from_not (stands_in l.path (types_of_slots ls)) b.0 in
    let i = none_of l.path (λ m. m.is_input) ls n in
    let v = none_of l.path (λ m. not m.is_input) ls n in
    by_test l.is_input i v (parted_distinct ls b.1)
  where
    by_test : (b : Bool) → stands_in l.path (types_of_slots (input_slots ls)) ≡ false
        → stands_in l.path (types_of_slots (variable_slots ls)) ≡ false
        → is_distinct (types_of_slots (input_slots ls) ++ types_of_slots (variable_slots ls)) ≡ true
        → is_distinct (types_of_slots (if b then l ∷ input_slots ls else input_slots ls)
        ++ types_of_slots (if not b then l ∷ variable_slots ls else variable_slots ls)) ≡ true
    by_test true i v d = and_from
        (not (stands_in l.path (types_of_slots (input_slots ls) ++ types_of_slots (variable_slots ls))))
        (is_distinct (types_of_slots (input_slots ls) ++ types_of_slots (variable_slots ls)))
        (not_from_false (stands_in l.path (types_of_slots (input_slots ls) ++ types_of_slots (variable_slots ls)))
        (list_any-append (λ q. same_path l.path q.0) (types_of_slots (input_slots ls)) (types_of_slots (variable_slots ls))
        ∙ ap₂ (λ x y. x || y) i v)) d
    by_test false i v d =
        between (types_of_slots (input_slots ls)) (types_of_slots (variable_slots ls)) (l.path, l.kind) i v d

-- the initial values are a store, with the inputs as at the start of a life
pub initial_store_is : (text : Declared) (vs : List Owned) → IsLayout (slots_of text vs)
    → IsStore (initial_image (plan_inputs_of text vs)) (initial_values (plan_variables_of text vs))
initial_store_is text vs h = record {
  once = ap is_distinct (ap₂ (λ xs ys. xs ++ ys) (types_of_inputs text vs) (types_of_plan_variables text vs))
      ∙ parted_distinct (slots_of text vs) (layout_distinct (slots_of text vs) h);
  held = initial_values_held text vs;
}
