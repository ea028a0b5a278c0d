-- In the layout of variables that are declared once each path has one slot, and each variable is at the place that
-- its declaration gives it.
use Rattle.std.proofs.Common.{◌≡◌, inl, inr, ℕ, zero, suc, ◌+◌, Bool, true, false, not, ◌&&◌, ◌||◌, if◌then◌else◌, List}
use Rattle.std.proofs.Common.{[]}
use Rattle.std.proofs.Common.{◌∷◌, ◌++◌, length, map, slice_get, Option, Some, option_map, refl, sym, ap, ap₂, ◌∙◌}
use Rattle.std.proofs.Common.{subst}
use Rattle.std.proofs.Common.{arith}
use Rattle.std.specs.Prelude.{bytes_eq}
use Rattle.std.specs.List.{list_any}
use Rattle.st_types.specs.declared.path.Owner.{Owner}
use Rattle.st_types.specs.declared.path.Step.{Step}
use Rattle.st_types.specs.Paths.{Path, same_owner, same_path, is_within}
use Rattle.st_meaning.specs.NameTypes.{Declared}
use Rattle.st_meaning.specs.Scopes.{Name}
use Rattle.st_meaning.specs.Slots.{Slot, slot_of, IsLayout}
use Rattle.st_types.specs.Comparisons.{same_path_is, same_path_itself, same_owner_itself, same_owner_is}
use Rattle.layout.specs.Shapes.{size, Leaf, Position, position_of, leads_on, is_sound}
use Rattle.layout.specs.LayoutVariables.{Owned}
use Rattle.layout.specs.TextLayouts.{further, variable_path, variable_shape, leaves_of_variable, slot_of_leaf}
use Rattle.layout.specs.TextLayouts.{slots_of_variable}
use Rattle.layout.specs.TextLayouts.{slots_of}
use Rattle.layout.specs.VariableSlots.{path_to, is_variable, has_variable, are_declared_once, variable_at, later}
use Rattle.layout.specs.VariableSlots.{position_among}
use Rattle.layout.specs.VariableSlots.{has_slot_within}
use Rattle.layout.specs.VariableSlots.{slot, LiesAt}
use Rattle.layout.proofs.ListLemmas.{get_right, get_split}
use Rattle.layout.proofs.ListLemmas.{same_name, name_itself}
use Rattle.layout.proofs.LeafLemmas.{leaf, position, begin, length_leaves, at_shape, of_shape, begin_shape}
use Rattle.std.proofs.lemmas.Bool.{or_parts, and_parts, and_from, or_left, or_right}
use Rattle.std.proofs.lemmas.Option.{slice_get-map}
use Rattle.st_types.proofs.ListLemmas.{get_first, length_map}
use Rattle.st_types.proofs.OptionLemmas.{map_some}
use Rattle.st_types.proofs.TestLemmas.{false_from_not, or_false}
use Rattle.std.proofs.lemmas.List.Folds.{list_any-append}

pub variable_is : (o : Option Owner) (x : Name) (v : Owned) → is_variable o x v ≡ true → path_to o x ≡ variable_path v
variable_is o x v h =
    let b = and_parts (same_owner o v.owner) (bytes_eq x v.name) h in
    ap₂ path_to (same_owner_is o v.owner b.0) (same_name x v.name b.1)

pub variable_itself : (v : Owned) → is_variable v.owner v.name v ≡ true
variable_itself v =
    and_from (same_owner v.owner v.owner) (bytes_eq v.name v.name) (same_owner_itself v.owner) (name_itself v.name)

or_is : (a b c d : Bool) → a ≡ c → b ≡ d → (a || b) ≡ (c || d)
or_is a b c d h g = ap₂ (λ x y. x || y) h g

-- which slots of a variable are within a path
within_one : (o : Option Owner) (x : Name) (v : Owned) (xs : List Step) (b : Bool) → is_variable o x v ≡ b
    → (ls : List Leaf)
    → list_any (λ l. is_within (further (path_to o x) xs) l.path) (map (slot_of_leaf v) ls) ≡ (b && begin ls xs)
within_one o x v xs true e [] = refl
within_one o x v xs false e [] = refl
within_one o x v xs true e (l ∷ ls) = let h = within_one o x v xs true e ls in rw (e, h) refl
within_one o x v xs false e (l ∷ ls) = let h = within_one o x v xs false e ls in rw (e, h) refl

module _ (text : Declared) where
  length_slots : (v : Owned) → length (slots_of_variable text v) ≡ size (variable_shape text v)
  length_slots v = length_map (slot_of_leaf v) (leaves_of_variable text v) ∙ length_leaves (variable_shape text v)

  none_within : (vs : List Owned) (o : Option Owner) (x : Name) (xs : List Step) → has_variable vs o x ≡ false
      → has_slot_within (slots_of text vs) (further (path_to o x) xs) ≡ false
  none_within [] o x xs h = refl
  none_within (v ∷ vs) o x xs h =
      let n = or_parts (is_variable o x v) (has_variable vs o x) h in
      list_any-append (λ l. is_within (further (path_to o x) xs) l.path) (slots_of_variable text v) (slots_of text vs)
      ∙ or_is (list_any (λ l. is_within (further (path_to o x) xs) l.path) (slots_of_variable text v))
      (has_slot_within (slots_of text vs) (further (path_to o x) xs)) false false
      (within_one o x v xs false n.0 (leaves_of_variable text v)) (none_within vs o x xs n.1)

  only_cases : (v : Owned) (vs : List Owned) (o : Option Owner) (x : Name) (xs : List Step) (e : ℕ × Owned)
      → has_variable vs v.owner v.name ≡ false → is_sound (variable_shape text v) ≡ true
      → ((f : ℕ × Owned) → variable_at text vs o x ≡ Some f
      → has_slot_within (slots_of text vs) (further (path_to o x) xs) ≡ leads_on (variable_shape text f.1) xs)
      → (b : Bool) → is_variable o x v ≡ b
      → (if b then Some (0, v) else option_map (later text v) (variable_at text vs o x))
      ≡ Some e
      → has_slot_within (slots_of_variable text v ++ slots_of text vs) (further (path_to o x) xs)
      ≡ leads_on (variable_shape text e.1) xs
  only_cases v vs o x xs e new sound ih true r h =
      let q : ◌≡◌ {A = ℕ × Owned} (0, v) e = cc in
      let s = variable_is o x v r in
      let n : has_slot_within (slots_of text vs) (further (path_to o x) xs) ≡ false =
      ap (λ p. has_slot_within (slots_of text vs) (further p xs)) s
      ∙ none_within vs v.owner v.name xs new in
      list_any-append (λ l. is_within (further (path_to o x) xs) l.path) (slots_of_variable text v) (slots_of text vs)
      ∙ or_is (list_any (λ l. is_within (further (path_to o x) xs) l.path) (slots_of_variable text v))
      (has_slot_within (slots_of text vs) (further (path_to o x) xs)) (begin (leaves_of_variable text v) xs) false
      (within_one o x v xs true r (leaves_of_variable text v)) n
      ∙ or_false (begin (leaves_of_variable text v) xs) ∙ begin_shape (variable_shape text v) sound xs
      ∙ ap (λ d. leads_on (variable_shape text d.1) xs) q
  only_cases v vs o x xs e new sound ih false r h =
      let i = map_some (later text v) (variable_at text vs o x) e h in
      list_any-append (λ l. is_within (further (path_to o x) xs) l.path) (slots_of_variable text v) (slots_of text vs)
      ∙ or_is (list_any (λ l. is_within (further (path_to o x) xs) l.path) (slots_of_variable text v))
      (has_slot_within (slots_of text vs) (further (path_to o x) xs)) false (leads_on (variable_shape text i.0.1) xs)
      (within_one o x v xs false r (leaves_of_variable text v)) (ih i.0 i.1)
      ∙ ap (λ d. leads_on (variable_shape text d.1) xs) i.2

  only_declared : (vs : List Owned) → are_declared_once text vs ≡ true → (o : Option Owner) (x : Name) (e : ℕ × Owned)
      (xs : List Step) → variable_at text vs o x ≡ Some e
      → has_slot_within (slots_of text vs) (further (path_to o x) xs) ≡ leads_on (variable_shape text e.1) xs
  only_declared [] once o x e xs h = absurd (cc)
  only_declared (v ∷ vs) once o x e xs h =
      let a = and_parts (not (has_variable vs v.owner v.name))
      (is_sound (variable_shape text v) && are_declared_once text vs) once in
      let b = and_parts (is_sound (variable_shape text v)) (are_declared_once text vs) a.1 in
      only_cases v vs o x xs e (false_from_not (has_variable vs v.owner v.name) a.0) b.0
      (λ f g. only_declared vs b.1 o x f xs g) (is_variable o x v) refl h

  -- the places of the parts of a variable
  at_cases : (v : Owned) (vs : List Owned) (o : Option Owner) (x : Name) (xs : List Step) (n : Position) (e : ℕ × Owned)
      → ((f : ℕ × Owned) → variable_at text vs o x ≡ Some f → position_of (variable_shape text f.1) xs ≡ Some n
      → slice_get (slots_of text vs) (f.0 + n.number)
      ≡ Some (slot (further (path_to o x) xs) n.kind f.1.is_input))
      → (b : Bool) → is_variable o x v ≡ b
      → (if b then Some (0, v) else option_map (later text v) (variable_at text vs o x))
      ≡ Some e
      → position_of (variable_shape text e.1) xs ≡ Some n
      → slice_get (slots_of_variable text v ++ slots_of text vs) (e.0 + n.number)
      ≡ Some (slot (further (path_to o x) xs) n.kind e.1.is_input)
  at_cases v vs o x xs n e ih true r h g =
      let q : ◌≡◌ {A = ℕ × Owned} (0, v) e = cc in
      let s = variable_is o x v r in
      let g' : position_of (variable_shape text v) xs ≡ Some n = ap (λ d. position_of (variable_shape text d.1) xs) q
      ∙ g in
      let z : 0 ≡ e.0 = ap (λ d. d.0) q in
      let k : e.0 + n.number ≡ n.number = omega arith in
      let m : slice_get (slots_of_variable text v) n.number ≡ Some (slot_of_leaf v (leaf xs n.kind)) =
      slice_get-map (slot_of_leaf v) (leaves_of_variable text v) n.number
      ∙ ap (option_map (slot_of_leaf v)) (at_shape (variable_shape text v) xs n g') in
      ap (slice_get (slots_of_variable text v ++ slots_of text vs)) k
      ∙ get_first (slots_of_variable text v) (slots_of text vs) n.number (slot_of_leaf v (leaf xs n.kind)) m
      ∙ ap₂ (λ p i. Some (slot (further p xs) n.kind i)) (sym s) (ap (λ d. d.1.is_input) q)
  at_cases v vs o x xs n e ih false r h g =
      let i = map_some (later text v) (variable_at text vs o x) e h in
      let q = i.2 in
      let a : size (variable_shape text v) + i.0.0 ≡ e.0 = ap (λ d. d.0) q in
      let d : i.0.1 ≡ e.1 = ap (λ d. d.1) q in
      let g' : position_of (variable_shape text i.0.1) xs
      ≡ Some n = ap (λ d. position_of (variable_shape text d) xs) d ∙ g in
      let l = length_slots v in
      get_right (slots_of_variable text v) (slots_of text vs) (i.0.0 + n.number) (e.0 + n.number) (omega arith)
      ∙ ih i.0 i.1 g' ∙ ap (λ d. Some (slot (further (path_to o x) xs) n.kind d.is_input)) d

  at_declared : (vs : List Owned) (o : Option Owner) (x : Name) (e : ℕ × Owned) (xs : List Step) (n : Position)
      → variable_at text vs o x ≡ Some e → position_of (variable_shape text e.1) xs ≡ Some n
      → slice_get (slots_of text vs) (e.0 + n.number) ≡ Some (slot (further (path_to o x) xs) n.kind e.1.is_input)
  at_declared [] o x e xs n h g = absurd (cc)
  at_declared (v ∷ vs) o x e xs n h g =
      at_cases v vs o x xs n e (λ f i j. at_declared vs o x f xs n i j) (is_variable o x v) refl h g

  pub variable_stands : (vs : List Owned) → are_declared_once text vs ≡ true → (o : Option Owner) (x : Name) (k : ℕ)
      (v : Owned) → variable_at text vs o x ≡ Some (k, v)
      → LiesAt (slots_of text vs) v.is_input (path_to o x) (variable_shape text v) k
  variable_stands vs once o x k v h = record {
    at = λ xs n g. at_declared vs o x (k, v) xs n h g;
    only = λ xs. only_declared vs once o x (k, v) xs h;
  }

  -- the slot of a path
  record IsLocated (vs : List Owned) (k : ℕ) (l : Slot) : Type 0 where
    number : position_among text vs l.path ≡ Some (position k l.kind)
    named : has_variable vs l.path.owner l.path.name ≡ true

  other_variable : (v : Owned) (vs : List Owned) (p : Path) (t : Bool) → is_variable p.owner p.name v ≡ t
      → has_variable vs v.owner v.name ≡ false → has_variable vs p.owner p.name ≡ true → t ≡ false
  other_variable v vs p true e new old =
      let s = variable_is p.owner p.name v e in
      let f : has_variable vs p.owner p.name
      ≡ has_variable vs v.owner v.name = ap (λ p. has_variable vs p.owner p.name) s in
      absurd (cc)
  other_variable v vs p false e new old = refl

  located : (vs : List Owned) → are_declared_once text vs ≡ true → (k : ℕ) (l : Slot)
      → slice_get (slots_of text vs) k ≡ Some l → IsLocated vs k l
  located [] once k l h = absurd (cc)
  located (v ∷ vs) once k l h =
      let a = and_parts (not (has_variable vs v.owner v.name))
      (is_sound (variable_shape text v) && are_declared_once text vs) once in
      let b = and_parts (is_sound (variable_shape text v)) (are_declared_once text vs) a.1 in
      elim (get_split (slots_of_variable text v) (slots_of text vs) k l h) [
        | inl g ↦
            let i = map_some (slot_of_leaf v) (slice_get (leaves_of_variable text v) k) l
            (sym (slice_get-map (slot_of_leaf v) (leaves_of_variable text v) k) ∙ g) in
            let o = of_shape (variable_shape text v) b.0 k i.0 i.1 in
            let r = variable_itself v in
            subst (λ m. IsLocated (v ∷ vs) k m) i.2 (record {
              number = rw r o;
              named = or_left (is_variable v.owner v.name v) (has_variable vs v.owner v.name) r;
            })
        | inr g ↦
            let i = located vs b.1 g.0 l g.2 in
            let n = i.number in
            let t = other_variable v vs l.path (is_variable l.path.owner l.path.name v) refl
            (false_from_not (has_variable vs v.owner v.name) a.0) i.named in
            let s = length_slots v in let e = g.1 in
            let f : size (variable_shape text v) + g.0 ≡ k = omega arith in
            record {
              number = rw (t, n, f) refl;
              named = or_right (is_variable l.path.owner l.path.name v)
                  (has_variable vs l.path.owner l.path.name) i.named;
            }
      ]

  -- a path of the layout has the slot and the type that its declaration and its steps give
  pub slot_numbered : (vs : List Owned) → are_declared_once text vs ≡ true → (k : ℕ) (l : Slot)
      → slice_get (slots_of text vs) k ≡ Some l → position_among text vs l.path ≡ Some (position k l.kind)
  slot_numbered vs once k l h = (located vs once k l h).number

record IsFound (ls : List Slot) (p : Path) : Type 0 where
  number : ℕ
  slot : Slot
  is : slot_of ls p ≡ Some number
  there : slice_get ls number ≡ Some slot
  path : slot.path ≡ p

found_cases : (m : Slot) (ls : List Slot) (p : Path) (k : ℕ) (l : Slot) → slice_get (m ∷ ls) k ≡ Some l → l.path ≡ p
    → ((j : ℕ) → slice_get ls j ≡ Some l → IsFound ls p) → (t : Bool) → same_path p m.path ≡ t → IsFound (m ∷ ls) p
found_cases m ls p k l h e ih true s =
    record { number = 0; slot = m; is = rw s refl; there = refl; path = sym (same_path_is p m.path s) }
found_cases m ls p zero l h e ih false s =
    let q : m ≡ l = cc in let r : m.path ≡ p = ap (λ x. x.path) q ∙ e in
    let i = same_path_itself p in let j : same_path p m.path ≡ true = rw r i in absurd (cc)
found_cases m ls p (suc k) l h e ih false s =
    let i = ih k h in let j = i.is in
    record { number = suc i.number; slot = i.slot; is = rw (s, j) refl; there = i.there; path = i.path }

found : (ls : List Slot) (p : Path) (k : ℕ) (l : Slot) → slice_get ls k ≡ Some l → l.path ≡ p → IsFound ls p
found [] p k l h e = absurd (cc)
found (m ∷ ls) p k l h e = found_cases m ls p k l h e (λ j g. found ls p j l g e) (same_path p m.path) refl

pub variables_layout : (text : Declared) (vs : List Owned) → are_declared_once text vs ≡ true
    → IsLayout (slots_of text vs)
variables_layout text vs once k l h =
    let f = found (slots_of text vs) l.path k l h refl in
    let a = slot_numbered text vs once f.number f.slot f.there in
    let b = slot_numbered text vs once k l h in
    let c : position_among text vs f.slot.path ≡ position_among text vs l.path = ap (position_among text vs) f.path in
    let d : Some (position f.number f.slot.kind) ≡ Some (position k l.kind) = sym a ∙ c ∙ b in
    f.is ∙ ap (option_map (λ q. q.number)) d
