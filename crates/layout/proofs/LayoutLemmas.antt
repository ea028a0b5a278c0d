-- The growth of a layout by variables, one after another.
use Rattle.std.proofs.Common.{◌≡◌, refl, sym, ap, ap₂, subst, ◌∙◌, arith, ℕ, ◌+◌, List, [], ◌∷◌, ◌++◌, length}
use Rattle.std.proofs.Common.{true}
use Rattle.std.proofs.Common.{length-append, map, Some}
use Rattle.std.specs.Prelude.{◌&&◌}
use Rattle.std.proofs.lemmas.List.{append_assoc, append-nil}
use Rattle.std.proofs.lemmas.Bool.{and_parts}
use Rattle.st_types.specs.declared.configuration.Instance.{Instance}
use Rattle.st_types.specs.Configurations.{Resource}
use Rattle.st_meaning.specs.NameTypes.{Declared, unit_named}
use Rattle.st_meaning.specs.Scopes.{Name}
use Rattle.st_rules.specs.declared.limits.TheConstants.{MAX_TYPE_DEPTH}
use Rattle.layout.specs.Shapes.{Shape, leaves_of, size, is_sound}
use Rattle.layout.specs.LayoutVariables.{Owned, owned_variable, owner_in, program_sites}
use Rattle.layout.specs.LayoutVariables.{variables_of_instances, variables_of_resources}
use Rattle.layout.specs.TextLayouts.{instances_of, variable_path, variable_shape}
use Rattle.layout.specs.Growth.{Exceeds, Grows}
use Rattle.layout.specs.Instances.{OwnedProgram, instance_on, instances_in, variables_of_programs}
use Rattle.layout.specs.Layouts.{GrowsBy, are_expandable, layout_size, layout_slots}
use Rattle.layout.specs.Slots.{path_at, slots_within}
use Rattle.layout.specs.declared.growing.Growing.{Growing}
use Rattle.layout.specs.declared.layout_error.LayoutError.{LayoutError}
use Rattle.layout.specs.declared.slots.Root.{Root}
use Rattle.layout.proofs.GrowthLemmas.{exceeds_more, length_slots}

-- one variable
pub grows_by_one : (text : Declared) (v : Owned) (r : Root) (old new : Growing) → old.trail.items ≡ []
    → path_at r [] ≡ variable_path v → r.is_input ≡ v.is_input → Grows MAX_TYPE_DEPTH text v.site r old new
    → GrowsBy text (v ∷ []) old new
grows_by_one text v r old new trail path input g =
    let i = g.instances in
    record {
      slots = g.slots
          ∙ ap (λ xs. old.slots.items ++ slots_within MAX_TYPE_DEPTH text v.site r.is_input (path_at r xs)) trail
          ∙ ap₂ (λ p b. old.slots.items ++ slots_within MAX_TYPE_DEPTH text v.site b p) path input
          ∙ ap (λ xs. old.slots.items ++ xs)
          (sym (append-nil (slots_within MAX_TYPE_DEPTH text v.site v.is_input (variable_path v))));
      instances = omega (arith, i);
    }

pub exceeds_one : (e : LayoutError) (k m n i : ℕ) → Exceeds (k + m) (n + i) e
    → Exceeds (k + (m + 0)) (n + (i + 0)) e
exceeds_one e k m n i h = exceeds_more e (k + m) (k + (m + 0)) (n + i) (n + (i + 0)) (omega arith) (omega arith) h

-- several
slots_append : (text : Declared) (xs ys : List Owned)
    → layout_slots text (xs ++ ys) ≡ layout_slots text xs ++ layout_slots text ys
slots_append text [] ys = refl
slots_append text (x ∷ xs) ys =
    ap (λ zs. slots_within MAX_TYPE_DEPTH text x.site x.is_input (variable_path x) ++ zs) (slots_append text xs ys)
    ∙ sym (append_assoc (slots_within MAX_TYPE_DEPTH text x.site x.is_input (variable_path x)) (layout_slots text xs)
    (layout_slots text ys))

instances_append : (text : Declared) (xs ys : List Owned)
    → instances_of text (xs ++ ys) ≡ instances_of text xs + instances_of text ys
instances_append text [] ys = omega arith
instances_append text (x ∷ xs) ys = let h = instances_append text xs ys in omega (arith, h)

pub expandable_apart : (text : Declared) (xs ys : List Owned) → are_expandable text (xs ++ ys) ≡ true
    → (are_expandable text xs ≡ true) × (are_expandable text ys ≡ true)
expandable_apart text [] ys h = (refl, h)
expandable_apart text (x ∷ xs) ys h =
    let a = and_parts (is_sound (variable_shape text x)) (are_expandable text (xs ++ ys)) h in
    let b = expandable_apart text xs ys a.1 in
    (ap (λ c. c && are_expandable text xs) a.0 ∙ b.0, b.1)

pub length_layout : (count : (sh : Shape) → length (leaves_of sh) ≡ size sh) (text : Declared) (vs : List Owned)
    → length (layout_slots text vs) ≡ layout_size text vs
length_layout count text [] = refl
length_layout count text (v ∷ vs) =
    let a = length-append (slots_within MAX_TYPE_DEPTH text v.site v.is_input (variable_path v))
    (layout_slots text vs) in
    let b = length_slots count MAX_TYPE_DEPTH text v.site v.is_input (variable_path v) in
    let c = length_layout count text vs in omega (arith, a, b, c)

-- These variables are left: with them the layout grows by all, from its old state.
pub record Left (text : Declared) (all : List Owned) (old now : Growing) (left : List Owned) : Type 0 where
  pub sound : are_expandable text left ≡ true
  pub slots : now.slots.items ++ layout_slots text left ≡ old.slots.items ++ layout_slots text all
  pub instances : now.instances + instances_of text left ≡ old.instances + instances_of text all

pub left_all : (text : Declared) (all : List Owned) (old : Growing) → are_expandable text all ≡ true
    → Left text all old old all
left_all text all old h = record { sound = h; slots = refl; instances = refl }

pub left_none : (text : Declared) (all : List Owned) (old now : Growing) → Left text all old now []
    → GrowsBy text all old now
left_none text all old now m =
    let i = m.instances in
    record { slots = sym (append-nil now.slots.items) ∙ m.slots; instances = omega (arith, i) }

-- the first ones of those that are left are expandable, too
pub first_sound : (text : Declared) (all : List Owned) (old now : Growing) (xs ys : List Owned)
    → Left text all old now (xs ++ ys) → are_expandable text xs ≡ true
first_sound text all old now xs ys m = (expandable_apart text xs ys m.sound).0

pub left_after : (text : Declared) (all : List Owned) (old now next : Growing) (xs ys : List Owned)
    → Left text all old now (xs ++ ys) → GrowsBy text xs now next → Left text all old next ys
left_after text all old now next xs ys m g =
    let a = m.instances in let b = g.instances in let c = instances_append text xs ys in
    record {
      sound = (expandable_apart text xs ys m.sound).1;
      slots = ap (λ zs. zs ++ layout_slots text ys) g.slots
          ∙ append_assoc now.slots.items (layout_slots text xs) (layout_slots text ys)
          ∙ ap (λ zs. now.slots.items ++ zs) (sym (slots_append text xs ys)) ∙ m.slots;
      instances = omega (arith, a, b, c);
    }

pub no_room_left : (count : (sh : Shape) → length (leaves_of sh) ≡ size sh) (text : Declared) (all : List Owned)
    (old now : Growing) (xs ys : List Owned) (e : LayoutError) → Left text all old now (xs ++ ys)
    → Exceeds (length now.slots.items + layout_size text xs) (now.instances + instances_of text xs) e
    → Exceeds (length old.slots.items + layout_size text all) (old.instances + instances_of text all) e
no_room_left count text all old now xs ys e m h =
    let a = ap length m.slots in
    let b = length-append now.slots.items (layout_slots text (xs ++ ys)) in
    let c = length-append old.slots.items (layout_slots text all) in
    let d = ap length (slots_append text xs ys) in
    let f = length-append (layout_slots text xs) (layout_slots text ys) in
    let g = length_layout count text xs in
    let i = length_layout count text all in
    let j = m.instances in let k = instances_append text xs ys in
    exceeds_more e (length now.slots.items + layout_size text xs) (length old.slots.items + layout_size text all)
    (now.instances + instances_of text xs) (old.instances + instances_of text all) (omega (arith, a, b, c, d, f, g, i))
    (omega (arith, j, k)) h

-- these and then those
pub grows_by_both : (text : Declared) (xs ys : List Owned) (old mid new : Growing) → GrowsBy text xs old mid
    → GrowsBy text ys mid new → GrowsBy text (xs ++ ys) old new
grows_by_both text xs ys old mid new g h =
    let a = g.instances in let b = h.instances in let c = instances_append text xs ys in
    record {
      slots = h.slots ∙ ap (λ zs. zs ++ layout_slots text ys) g.slots
          ∙ append_assoc old.slots.items (layout_slots text xs) (layout_slots text ys)
          ∙ ap (λ zs. old.slots.items ++ zs) (sym (slots_append text xs ys));
      instances = omega (arith, a, b, c);
    }

pub no_room_first : (count : (sh : Shape) → length (leaves_of sh) ≡ size sh) (text : Declared) (xs ys : List Owned)
    (old : Growing) (e : LayoutError) → are_expandable text (xs ++ ys) ≡ true
    → Exceeds (length old.slots.items + layout_size text xs) (old.instances + instances_of text xs) e
    → Exceeds (length old.slots.items + layout_size text (xs ++ ys)) (old.instances + instances_of text (xs ++ ys)) e
no_room_first count text xs ys old e h =
    no_room_left count text (xs ++ ys) old old xs ys e (left_all text (xs ++ ys) old h)

pub no_room_last : (count : (sh : Shape) → length (leaves_of sh) ≡ size sh) (text : Declared) (xs ys : List Owned)
    (old mid : Growing) (e : LayoutError) → are_expandable text (xs ++ ys) ≡ true → GrowsBy text xs old mid
    → Exceeds (length mid.slots.items + layout_size text ys) (mid.instances + instances_of text ys) e
    → Exceeds (length old.slots.items + layout_size text (xs ++ ys)) (old.instances + instances_of text (xs ++ ys)) e
no_room_last count text xs ys old mid e h g =
    no_room_left count text (xs ++ ys) old mid ys [] e
    (subst (Left text (xs ++ ys) old mid) (sym (append-nil ys))
    (left_after text (xs ++ ys) old old mid xs ys (left_all text (xs ++ ys) old h) g))

-- variables of instances, resource by resource
pub programs_append : (text : Declared) (xs ys : List OwnedProgram)
    → variables_of_programs text (xs ++ ys) ≡ variables_of_programs text xs ++ variables_of_programs text ys
programs_append text [] ys = refl
programs_append text (x ∷ xs) ys =
    let own = map (owned_variable (Some x.0)) (program_sites (unit_named text.units x.1)) in
    ap (λ zs. own ++ zs) (programs_append text xs ys)
    ∙ sym (append_assoc own (variables_of_programs text xs) (variables_of_programs text ys))

programs_on : (text : Declared) (x : Name) (is : List Instance)
    → variables_of_programs text (map (instance_on x) is) ≡ variables_of_instances text x is
programs_on text x [] = refl
programs_on text x (i ∷ is) =
    ap (λ zs. map (owned_variable (Some (owner_in x i))) (program_sites (unit_named text.units i.program.name)) ++ zs)
    (programs_on text x is)

pub programs_of_resources : (text : Declared) (rs : List Resource)
    → variables_of_programs text (instances_in rs) ≡ variables_of_resources text rs
programs_of_resources text [] = refl
programs_of_resources text (r ∷ rs) =
    programs_append text (map (instance_on r.name.name) r.instances) (instances_in rs)
    ∙ ap₂ (λ xs ys. xs ++ ys) (programs_on text r.name.name r.instances) (programs_of_resources text rs)
