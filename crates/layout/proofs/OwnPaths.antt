-- The slots of a variable are exactly those whose paths begin with its name.
use Rattle.std.proofs.Common.{◌≡◌, ℕ, Bool, true, false, not, ◌&&◌, if◌then◌else◌, List, [], ◌∷◌, ◌++◌, map}
use Rattle.std.proofs.Common.{Option, Some}
use Rattle.std.proofs.Common.{option_map, refl, ap, ap₂, ◌∙◌}
use Rattle.std.specs.Prelude.{filter}
use Rattle.st_types.specs.declared.path.Owner.{Owner}
use Rattle.st_types.specs.Paths.{is_within}
use Rattle.st_meaning.specs.NameTypes.{Declared}
use Rattle.st_meaning.specs.Scopes.{Name}
use Rattle.st_meaning.specs.Slots.{Slot}
use Rattle.layout.specs.Shapes.{Leaf, is_sound}
use Rattle.layout.specs.LayoutVariables.{Owned}
use Rattle.layout.specs.TextLayouts.{variable_shape, leaves_of_variable, slot_of_leaf, slots_of_variable, slots_of}
use Rattle.layout.specs.VariableSlots.{path_to, is_variable, has_variable, are_declared_once, variable_at, later}
use Rattle.layout.proofs.VariableLemmas.{variable_is}
use Rattle.std.proofs.lemmas.Bool.{or_parts, and_parts}
use Rattle.st_types.proofs.OptionLemmas.{map_some}
use Rattle.st_types.proofs.TestLemmas.{false_from_not}
use Rattle.std.proofs.lemmas.List.{append-nil}

abbrev pub own_among : Option Owner → Name → List Slot → List Slot
own_among o x ls = filter (λ l. is_within (path_to o x) l.path) ls

pub filter_append : {A : Type 0} (p : A → Bool) (xs ys : List A) → filter p (xs ++ ys) ≡ filter p xs ++ filter p ys
filter_append p [] ys = refl
filter_append p (x ∷ xs) ys = by_test (p x) (filter_append p xs ys)
  where
    by_test : (b : Bool) → filter p (xs ++ ys) ≡ filter p xs ++ filter p ys
        → (if b then x ∷ filter p (xs ++ ys) else filter p (xs ++ ys))
        ≡ (if b then x ∷ filter p xs else filter p xs) ++ filter p ys
    by_test true h = ap (λ zs. x ∷ zs) h
    by_test false h = h

own_leaves : (o : Option Owner) (x : Name) (v : Owned) (b : Bool) → is_variable o x v ≡ b → (ls : List Leaf)
    → own_among o x (map (slot_of_leaf v) ls) ≡ (if b then map (slot_of_leaf v) ls else [])
own_leaves o x v true e [] = refl
own_leaves o x v false e [] = refl
own_leaves o x v true e (l ∷ ls) = let h = own_leaves o x v true e ls in rw (e, h) refl
own_leaves o x v false e (l ∷ ls) = let h = own_leaves o x v false e ls in rw (e, h) refl

module _ (text : Declared) where
  none_own : (vs : List Owned) (o : Option Owner) (x : Name) → has_variable vs o x ≡ false
      → own_among o x (slots_of text vs) ≡ []
  none_own [] o x h = refl
  none_own (v ∷ vs) o x h =
      let n = or_parts (is_variable o x v) (has_variable vs o x) h in
      filter_append (λ l. is_within (path_to o x) l.path) (slots_of_variable text v) (slots_of text vs)
      ∙ ap₂ (λ a b. a ++ b) (own_leaves o x v false n.0 (leaves_of_variable text v)) (none_own vs o x n.1)

  own_cases : (v : Owned) (vs : List Owned) (o : Option Owner) (x : Name) (e : ℕ × Owned)
      → has_variable vs v.owner v.name ≡ false
      → ((f : ℕ × Owned) → variable_at text vs o x ≡ Some f → own_among o x (slots_of text vs)
      ≡ slots_of_variable text f.1)
      → (b : Bool) → is_variable o x v ≡ b
      → (if b then Some (0, v) else option_map (later text v) (variable_at text vs o x))
      ≡ Some e
      → own_among o x (slots_of_variable text v ++ slots_of text vs) ≡ slots_of_variable text e.1
  own_cases v vs o x e new ih true r h =
      let q : ◌≡◌ {A = ℕ × Owned} (0, v) e = cc in
      let n : own_among o x (slots_of text vs) ≡ [] =
      none_own vs o x (ap (λ p. has_variable vs p.owner p.name) (variable_is o x v r) ∙ new) in
      filter_append (λ l. is_within (path_to o x) l.path) (slots_of_variable text v) (slots_of text vs)
      ∙ ap₂ (λ a b. a ++ b) (own_leaves o x v true r (leaves_of_variable text v)) n
      ∙ append-nil (slots_of_variable text v) ∙ ap (λ d. slots_of_variable text d.1) q
  own_cases v vs o x e new ih false r h =
      let i = map_some (later text v) (variable_at text vs o x) e h in
      filter_append (λ l. is_within (path_to o x) l.path) (slots_of_variable text v) (slots_of text vs)
      ∙ ap₂ (λ a b. a ++ b) (own_leaves o x v false r (leaves_of_variable text v)) (ih i.0 i.1)
      ∙ ap (λ d. slots_of_variable text d.1) i.2

  pub own_slots : (vs : List Owned) → are_declared_once text vs ≡ true → (o : Option Owner) (x : Name) (e : ℕ × Owned)
      → variable_at text vs o x ≡ Some e → own_among o x (slots_of text vs) ≡ slots_of_variable text e.1
  own_slots [] once o x e h = absurd (cc)
  own_slots (v ∷ vs) once o x e h =
      let a = and_parts (not (has_variable vs v.owner v.name))
      (is_sound (variable_shape text v) && are_declared_once text vs) once in
      let b = and_parts (is_sound (variable_shape text v)) (are_declared_once text vs) a.1 in
      own_cases v vs o x e (false_from_not (has_variable vs v.owner v.name) a.0) (λ f g. own_slots vs b.1 o x f g)
      (is_variable o x v) refl h
