-- A store and an image with the paths and types of slots are values of them.
use Rattle.std.proofs.Common.{◌≡◌, Bool, true, false, not, if◌then◌else◌, List, [], ◌∷◌, refl, sym, ap, ap₂}
use Rattle.std.proofs.Common.{◌∙◌}
use Rattle.std.specs.List.{list_all}
use Rattle.st_types.specs.declared.kind.Kind.{Kind}
use Rattle.st_types.specs.Kinds.{holds}
use Rattle.st_types.specs.Paths.{Path}
use Rattle.st_types.specs.Values.{Datum}
use Rattle.st_meaning.specs.Slots.{Slot, variables_with, inputs_in}
use Rattle.st_meaning.specs.Stores.{Store, shape_of, all_held}
use Rattle.layout.specs.TextLayouts.{variable_slots, input_slots, types_of_slots}
use Rattle.st_link.specs.Homes.{AreValuesOf}
use Rattle.st_link.specs.WellTypedRuns.{AreOver}
use Rattle.std.proofs.lemmas.Bool.{and_parts, and_from}

-- the first of a store's paths and types, and those after it
abbrev head_of : Path × Kind → List (Path × Kind) → Path × Kind
head_of e [] = e
head_of e (x ∷ xs) = x

first_path : (p q : Path) (k m : Kind) (xs ys : List (Path × Kind)) → ◌≡◌ {A = List (Path × Kind)} ((p, k) ∷ xs) ((q, m) ∷ ys)
    → p ≡ q
first_path p q k m xs ys h = ap (λ zs. (head_of (p, k) zs).0) h

first_kind : (p q : Path) (k m : Kind) (xs ys : List (Path × Kind)) → ◌≡◌ {A = List (Path × Kind)} ((p, k) ∷ xs) ((q, m) ∷ ys)
    → k ≡ m
first_kind p q k m xs ys h = ap (λ zs. (head_of (p, k) zs).1) h

others : (p q : Path) (k m : Kind) (xs ys : List (Path × Kind)) → ◌≡◌ {A = List (Path × Kind)} ((p, k) ∷ xs) ((q, m) ∷ ys)
    → xs ≡ ys
others p q k m xs ys h = cc

-- one more value
with_value : (l : Slot) (ls : List Slot) (d : Datum) (vs : List Datum) → d.kind ≡ l.kind → holds d.kind d.number ≡ true
    → AreValuesOf ls vs → AreValuesOf (l ∷ ls) (d ∷ vs)
with_value l ls d vs k h values = record {
  types = ap₂ (λ k ks. k ∷ ks) k values.types;
  held = and_from (holds d.kind d.number) (list_all (λ v. holds v.kind v.number) vs) h values.held;
}

pub over_slots : (layout : List Slot) (image s : Store) → shape_of s ≡ types_of_slots (variable_slots layout)
    → shape_of image ≡ types_of_slots (input_slots layout) → all_held s ≡ true → all_held image ≡ true
    → AreOver layout image s
over_slots [] [] [] e f h g =
    record { values = []; are = record { types = refl; held = refl }; variables = refl; inputs = refl }
over_slots [] (x ∷ image) s e f h g = absurd (cc)
over_slots [] [] (x ∷ s) e f h g = absurd (cc)
over_slots (l ∷ ls) image s e f h g =
    by_input l.is_input refl image s e f h g (λ image s e f h g. over_slots ls image s e f h g)
  where
    by_input : (b : Bool) → l.is_input ≡ b → (image s : Store)
        → shape_of s ≡ types_of_slots (if not b then l ∷ variable_slots ls else variable_slots ls)
        → shape_of image ≡ types_of_slots (if b then l ∷ input_slots ls else input_slots ls)
        → all_held s ≡ true → all_held image ≡ true
        → ((image s : Store) → shape_of s ≡ types_of_slots (variable_slots ls)
        → shape_of image ≡ types_of_slots (input_slots ls) → all_held s ≡ true → all_held image ≡ true
        → AreOver ls image s) → AreOver (l ∷ ls) image s
    by_input true is [] s e f h g ih = absurd (cc)
    by_input true is ((p, d) ∷ image) s e f h g ih =
        let test = and_parts (holds d.kind d.number) (all_held image) g in
        let path = first_path p l.path d.kind l.kind (shape_of image) (types_of_slots (input_slots ls)) f in
        let kind = first_kind p l.path d.kind l.kind (shape_of image) (types_of_slots (input_slots ls)) f in
        let rest = ih image s e
        (others p l.path d.kind l.kind (shape_of image) (types_of_slots (input_slots ls)) f) h test.1 in
        record {
          values = d ∷ rest.values;
          are = with_value l ls d rest.values kind test.0 rest.are;
          variables =
              ap (λ b. if b then variables_with ls rest.values else (l.path, d) ∷ variables_with ls rest.values) is
              ∙ rest.variables;
          inputs =
              ap (λ b. if b then (l.path, d) ∷ inputs_in ls rest.values else inputs_in ls rest.values) is
              ∙ ap₂ (λ q xs. (q, d) ∷ xs) (sym path) rest.inputs;
        }
    by_input false is image [] e f h g ih = absurd (cc)
    by_input false is image ((p, d) ∷ s) e f h g ih =
        let test = and_parts (holds d.kind d.number) (all_held s) h in
        let path = first_path p l.path d.kind l.kind (shape_of s) (types_of_slots (variable_slots ls)) e in
        let kind = first_kind p l.path d.kind l.kind (shape_of s) (types_of_slots (variable_slots ls)) e in
        let rest = ih image s
        (others p l.path d.kind l.kind (shape_of s) (types_of_slots (variable_slots ls)) e) f test.1 g in
        record {
          values = d ∷ rest.values;
          are = with_value l ls d rest.values kind test.0 rest.are;
          variables =
              ap (λ b. if b then variables_with ls rest.values else (l.path, d) ∷ variables_with ls rest.values) is
              ∙ ap₂ (λ q xs. (q, d) ∷ xs) (sym path) rest.variables;
          inputs =
              ap (λ b. if b then (l.path, d) ∷ inputs_in ls rest.values else inputs_in ls rest.values) is
              ∙ rest.inputs;
        }
