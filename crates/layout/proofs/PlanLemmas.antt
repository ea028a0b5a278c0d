-- The slots of a layout are those of the definitions.
use Rattle.std.proofs.Common.{◌≡◌, refl, sym, ap, ap₂, ◌∙◌, arith, List, [], ◌∷◌, ◌++◌, map, length, Bool, true}
use Rattle.std.proofs.Common.{false, not, ◌&&◌, if◌then◌else◌, Option, Some, None, Result, Ok, Err, filter}
use Rattle.std.specs.Prelude.{option_and_then}
use Rattle.std.specs.List.{list_all}
use Rattle.std.proofs.lemmas.Bool.{and_parts}
use Rattle.st_types.specs.declared.kind.Kind.{Kind}
use Rattle.st_types.specs.Kinds.{holds, same_kind}
use Rattle.st_types.specs.Values.{Datum}
use Rattle.st_types.proofs.KindLemmas.{same_kind_is}
use Rattle.st_types.specs.Initials.{Initial, constant, list, structure}
use Rattle.st_meaning.specs.Failures.{Failure}
use Rattle.st_meaning.specs.NameTypes.{Declared}
use Rattle.st_meaning.specs.Operators.{value_of_literal}
use Rattle.st_meaning.specs.Stores.{may_replace}
use Rattle.st_meaning.specs.Plans.{initial_value}
use Rattle.st_rules.specs.declared.limits.TheConstants.{MAX_TYPE_DEPTH}
use Rattle.layout.specs.Shapes.{Shape, Leaf, leaves_of, size, is_sound}
use Rattle.layout.specs.Types.{Site}
use Rattle.layout.specs.Sites.{constant_of, default_of, fitting, initial_at, retained_at, site_at}
use Rattle.layout.specs.LayoutVariables.{Owned}
use Rattle.layout.specs.TextLayouts.{variable_path, variable_shape, slot_of_leaf, slots_of}
use Rattle.layout.specs.TextLayouts.{variable_of_leaf, plan_variables_of, input_of_leaf, plan_inputs_of}
use Rattle.layout.specs.TextLayouts.{leaves_of_variable, initial_image}
use Rattle.layout.specs.VariableSlots.{are_declared_once, has_variable}
use Rattle.layout.specs.Layouts.{are_expandable, layout_size, layout_slots}
use Rattle.layout.specs.Slots.{slot_at, slots_within}
use Rattle.layout.specs.KeptLayouts.{slot_view, variable_of, input_of, variables_among, inputs_among, image_among}
use Rattle.layout.specs.KeptLayouts.{retains_no_input}
use Rattle.layout.specs.declared.slots.LayoutSlot.{LayoutSlot}
use Rattle.layout.proofs.LayoutLemmas.{length_layout}
use Rattle.std.proofs.lemmas.List.{map-append}
use Rattle.st_types.proofs.ListLemmas.{length_map}
use Rattle.layout.proofs.OwnPaths.{filter_append}

-- An initial value is one of its type.
abbrev IsOfType : Kind → Option Datum → Type 0
IsOfType k None = Unit {0}
IsOfType k (Some v) = v.kind ≡ k

fitting_type : (k : Kind) (r : Result Datum Failure) → IsOfType k (fitting k r)
fitting_type k (Err e) = tt
fitting_type k (Ok v) = by_test (may_replace (default_of k) v) refl
  where
    by_test : (b : Bool) → may_replace (default_of k) v ≡ b → IsOfType k (if b then Some v else None)
    by_test true h = sym (same_kind_is k v.kind (and_parts (same_kind k v.kind) (holds v.kind v.number) h).0)
    by_test false h = tt

constant_type : (k : Kind) (i : Option Initial) → IsOfType k (constant_of k i)
constant_type k (Some (constant l)) = fitting_type k (value_of_literal l)
constant_type k (Some (list at xs)) = tt
constant_type k (Some (structure at xs)) = tt
constant_type k None = tt

site_type : (k : Kind) (o : Option Site) → IsOfType k (option_and_then (λ u. constant_of k u.initial) o)
site_type k None = tt
site_type k (Some u) = constant_type k u.initial

value_type : (k : Kind) (o : Option Datum) → IsOfType k o → (initial_value k o).kind ≡ k
value_type k None h = refl
value_type k (Some v) h = h

initial_type : (text : Declared) (s : Site) (l : Leaf) → (initial_at text s l.steps l.kind).kind ≡ l.kind
initial_type text s l =
    value_type l.kind (option_and_then (λ u. constant_of l.kind u.initial) (site_at text s l.steps))
    (site_type l.kind (site_at text s l.steps))

-- slots of one variable
started_type : (text : Declared) (v : Owned) (l : Leaf)
    → (slot_at text v.site v.is_input (variable_path v) l).initial.kind ≡ l.kind
started_type text v l = by_test v.is_input
  where
    by_test : (b : Bool) → (if b then default_of l.kind else initial_at text v.site l.steps l.kind).kind ≡ l.kind
    by_test true = refl
    by_test false = initial_type text v.site l

slots_seen : (text : Declared) (v : Owned) (ls : List Leaf)
    → map slot_view (map (slot_at text v.site v.is_input (variable_path v)) ls) ≡ map (slot_of_leaf v) ls
slots_seen text v [] = refl
slots_seen text v (l ∷ ls) =
    ap₂ (λ k zs. record (slot_of_leaf v l) { kind = k } ∷ zs) (started_type text v l) (slots_seen text v ls)

variables_seen : (text : Declared) (v : Owned) → v.is_input ≡ false → (ls : List Leaf)
    → variables_among (map (slot_at text v.site v.is_input (variable_path v)) ls) ≡ map (variable_of_leaf text v) ls
variables_seen text v e [] = refl
variables_seen text v e (l ∷ ls) = let h = variables_seen text v e ls in rw (e, h) refl

no_variables_seen : (text : Declared) (v : Owned) → v.is_input ≡ true → (ls : List Leaf)
    → variables_among (map (slot_at text v.site v.is_input (variable_path v)) ls) ≡ []
no_variables_seen text v e [] = refl
no_variables_seen text v e (l ∷ ls) = let h = no_variables_seen text v e ls in rw (e, h) refl

inputs_seen : (text : Declared) (v : Owned) → v.is_input ≡ true → (ls : List Leaf)
    → inputs_among (map (slot_at text v.site v.is_input (variable_path v)) ls) ≡ map (input_of_leaf v) ls
inputs_seen text v e [] = refl
inputs_seen text v e (l ∷ ls) =
    let h = inputs_seen text v e ls in rw (e, h) refl

no_inputs_seen : (text : Declared) (v : Owned) → v.is_input ≡ false → (ls : List Leaf)
    → inputs_among (map (slot_at text v.site v.is_input (variable_path v)) ls) ≡ []
no_inputs_seen text v e [] = refl
no_inputs_seen text v e (l ∷ ls) = let h = no_inputs_seen text v e ls in rw (e, h) refl

-- those of several
pub slots_are : (text : Declared) (vs : List Owned) → map slot_view (layout_slots text vs) ≡ slots_of text vs
slots_are text [] = refl
slots_are text (v ∷ vs) =
    map-append slot_view (slots_within MAX_TYPE_DEPTH text v.site v.is_input (variable_path v)) (layout_slots text vs)
    ∙ ap₂ (λ xs ys. xs ++ ys) (slots_seen text v (leaves_of_variable text v)) (slots_are text vs)

variables_apart : (xs ys : List LayoutSlot) → variables_among (xs ++ ys) ≡ variables_among xs ++ variables_among ys
variables_apart xs ys = ap (map variable_of) (filter_append (λ s. not s.is_input) xs ys)
    ∙ map-append variable_of (filter (λ s. not s.is_input) xs) (filter (λ s. not s.is_input) ys)

inputs_apart : (xs ys : List LayoutSlot) → inputs_among (xs ++ ys) ≡ inputs_among xs ++ inputs_among ys
inputs_apart xs ys = ap (map input_of) (filter_append (λ s. s.is_input) xs ys)
    ∙ map-append input_of (filter (λ s. s.is_input) xs) (filter (λ s. s.is_input) ys)

pub variables_are : (text : Declared) (vs : List Owned)
    → variables_among (layout_slots text vs) ≡ plan_variables_of text vs
variables_are text [] = refl
variables_are text (v ∷ vs) =
    let own = slots_within MAX_TYPE_DEPTH text v.site v.is_input (variable_path v) in
    variables_apart own (layout_slots text vs)
    ∙ ap (λ ys. variables_among own ++ ys) (variables_are text vs) ∙ by_test v.is_input refl
  where
    by_test : (b : Bool) → v.is_input ≡ b
        → variables_among (slots_within MAX_TYPE_DEPTH text v.site v.is_input (variable_path v))
        ++ plan_variables_of text vs ≡ (if b then plan_variables_of text vs
        else map (variable_of_leaf text v) (leaves_of_variable text v) ++ plan_variables_of text vs)
    by_test true e = ap (λ xs. xs ++ plan_variables_of text vs) (no_variables_seen text v e (leaves_of_variable text v))
    by_test false e = ap (λ xs. xs ++ plan_variables_of text vs) (variables_seen text v e (leaves_of_variable text v))

pub inputs_are : (text : Declared) (vs : List Owned) → inputs_among (layout_slots text vs) ≡ plan_inputs_of text vs
inputs_are text [] = refl
inputs_are text (v ∷ vs) =
    let own = slots_within MAX_TYPE_DEPTH text v.site v.is_input (variable_path v) in
    inputs_apart own (layout_slots text vs)
    ∙ ap (λ ys. inputs_among own ++ ys) (inputs_are text vs) ∙ by_test v.is_input refl
  where
    by_test : (b : Bool) → v.is_input ≡ b
        → inputs_among (slots_within MAX_TYPE_DEPTH text v.site v.is_input (variable_path v))
        ++ plan_inputs_of text vs
        ≡ (if b then map (input_of_leaf v) (leaves_of_variable text v) ++ plan_inputs_of text vs
        else plan_inputs_of text vs)
    by_test true e = ap (λ xs. xs ++ plan_inputs_of text vs) (inputs_seen text v e (leaves_of_variable text v))
    by_test false e = ap (λ xs. xs ++ plan_inputs_of text vs) (no_inputs_seen text v e (leaves_of_variable text v))

pub length_slots_of : (count : (sh : Shape) → length (leaves_of sh) ≡ size sh) (text : Declared) (vs : List Owned)
    → length (slots_of text vs) ≡ layout_size text vs
length_slots_of count text vs =
    ap length (sym (slots_are text vs)) ∙ length_map slot_view (layout_slots text vs) ∙ length_layout count text vs

-- Variables that are declared once have parts that are declared once.
pub once_expandable : (text : Declared) (vs : List Owned) → are_declared_once text vs ≡ true
    → are_expandable text vs ≡ true
once_expandable text [] h = refl
once_expandable text (v ∷ vs) h =
    let a = and_parts (not (has_variable vs v.owner v.name))
    (is_sound (variable_shape text v) && are_declared_once text vs) h in
    let b = and_parts (is_sound (variable_shape text v)) (are_declared_once text vs) a.1 in
    ap (λ c. c && are_expandable text vs) b.0 ∙ once_expandable text vs b.1

-- inputs as they start
image_seen : (text : Declared) (v : Owned) → v.is_input ≡ true → (ls : List Leaf)
    → image_among (map (slot_at text v.site v.is_input (variable_path v)) ls) ≡ initial_image (map (input_of_leaf v) ls)
image_seen text v e [] = refl
image_seen text v e (l ∷ ls) = let h = image_seen text v e ls in rw (e, h) refl

no_image_seen : (text : Declared) (v : Owned) → v.is_input ≡ false → (ls : List Leaf)
    → image_among (map (slot_at text v.site v.is_input (variable_path v)) ls) ≡ []
no_image_seen text v e [] = refl
no_image_seen text v e (l ∷ ls) = let h = no_image_seen text v e ls in rw (e, h) refl

image_apart : (xs ys : List LayoutSlot) → image_among (xs ++ ys) ≡ image_among xs ++ image_among ys
image_apart xs ys = ap (map (λ s. (s.path, s.initial))) (filter_append (λ s. s.is_input) xs ys)
    ∙ map-append (λ s. (s.path, s.initial)) (filter (λ s. s.is_input) xs) (filter (λ s. s.is_input) ys)

pub image_is : (text : Declared) (vs : List Owned)
    → image_among (layout_slots text vs) ≡ initial_image (plan_inputs_of text vs)
image_is text [] = refl
image_is text (v ∷ vs) =
    let own = slots_within MAX_TYPE_DEPTH text v.site v.is_input (variable_path v) in
    image_apart own (layout_slots text vs) ∙ ap (λ ys. image_among own ++ ys) (image_is text vs)
    ∙ by_test v.is_input refl
  where
    by_test : (b : Bool) → v.is_input ≡ b
        → image_among (slots_within MAX_TYPE_DEPTH text v.site v.is_input (variable_path v))
        ++ initial_image (plan_inputs_of text vs)
        ≡ initial_image (if b then map (input_of_leaf v) (leaves_of_variable text v) ++ plan_inputs_of text vs
        else plan_inputs_of text vs)
    by_test true e =
        ap (λ xs. xs ++ initial_image (plan_inputs_of text vs)) (image_seen text v e (leaves_of_variable text v))
        ∙ sym (map-append (λ i. (i.path, default_of i.kind)) (map (input_of_leaf v) (leaves_of_variable text v))
        (plan_inputs_of text vs))
    by_test false e =
        ap (λ xs. xs ++ initial_image (plan_inputs_of text vs)) (no_image_seen text v e (leaves_of_variable text v))

unretained_one : (text : Declared) (v : Owned) (ls : List Leaf)
    → retains_no_input (map (slot_at text v.site v.is_input (variable_path v)) ls) ≡ true
unretained_one text v [] = refl
unretained_one text v (l ∷ ls) = by_test v.is_input (unretained_one text v ls)
  where
    by_test : (b : Bool) → retains_no_input (map (slot_at text v.site v.is_input (variable_path v)) ls) ≡ true
        → (not (b && (if b then false else retained_at text v.site l.steps))
        && retains_no_input (map (slot_at text v.site v.is_input (variable_path v)) ls)) ≡ true
    by_test true h = h
    by_test false h = h

all_append : (f : LayoutSlot → Bool) (xs ys : List LayoutSlot) → list_all f xs ≡ true → list_all f ys ≡ true
    → list_all f (xs ++ ys) ≡ true
all_append f [] ys a b = b
all_append f (x ∷ xs) ys a b =
    let c = and_parts (f x) (list_all f xs) a in
    ap (λ y. y && list_all f (xs ++ ys)) c.0 ∙ all_append f xs ys c.1 b

pub unretained_all : (text : Declared) (vs : List Owned) → retains_no_input (layout_slots text vs) ≡ true
unretained_all text [] = refl
unretained_all text (v ∷ vs) =
    all_append (λ s. not (s.is_input && s.retained))
    (slots_within MAX_TYPE_DEPTH text v.site v.is_input (variable_path v)) (layout_slots text vs)
    (unretained_one text v (leaves_of_variable text v)) (unretained_all text vs)
