-- A plan's values at the path of a part: the initial value and the retention that are declared.
use Rattle.std.proofs.Common.{◌≡◌, ℕ, zero, suc, Bool, true, false, not, ◌&&◌, ◌||◌, if◌then◌else◌, List, [], ◌∷◌}
use Rattle.std.proofs.Common.{◌++◌}
use Rattle.std.proofs.Common.{map, slice_get, Option, Some, option_map, refl, sym, ap, ap₂, ◌∙◌}
use Rattle.std.specs.List.{list_any}
use Rattle.st_types.specs.declared.kind.Kind.{Kind}
use Rattle.st_types.specs.declared.path.Owner.{Owner}
use Rattle.st_types.specs.declared.path.Step.{Step}
use Rattle.st_types.specs.Paths.{Path, same_steps, same_path}
use Rattle.st_meaning.specs.NameTypes.{Declared}
use Rattle.st_meaning.specs.Scopes.{Name}
use Rattle.st_meaning.specs.Stores.{get}
use Rattle.st_types.specs.Comparisons.{same_path_is, same_path_itself}
use Rattle.st_meaning.specs.declared.plan.PlanVariable.{PlanVariable}
use Rattle.layout.specs.Shapes.{Leaf, Position, position_of, is_sound}
use Rattle.layout.specs.Sites.{initial_at, retained_at}
use Rattle.layout.specs.LayoutVariables.{Owned}
use Rattle.layout.specs.TextLayouts.{further, variable_path, variable_shape, leaves_of_variable, variable_of_leaf}
use Rattle.layout.specs.TextLayouts.{plan_variables_of}
use Rattle.layout.specs.TextLayouts.{initial_values}
use Rattle.layout.specs.VariableSlots.{path_to, is_variable, has_variable, are_declared_once, variable_at, later}
use Rattle.layout.proofs.LeafLemmas.{leaf, position, at_shape, of_shape}
use Rattle.layout.proofs.VariableLemmas.{variable_is}
use Rattle.std.proofs.lemmas.Bool.{or_parts, and_parts}
use Rattle.st_types.proofs.OptionLemmas.{some_is, map_some}
use Rattle.st_types.proofs.TestLemmas.{false_from_not, or_false}
use Rattle.std.proofs.lemmas.List.Folds.{list_any-append}

-- whether the variable of the path is retained
abbrev pub retained_among : List PlanVariable → Path → Bool
retained_among vs p = list_any (λ v. same_path p v.path && v.retained) vs

-- leaves with these steps are of this type
abbrev IsKindOf : List Leaf → List Step → Kind → Type 0
IsKindOf ls xs k = (m : ℕ) (l : Leaf) → slice_get ls m ≡ Some l → l.steps ≡ xs → l.kind ≡ k

module _ (text : Declared) (v : Owned) (xs : List Step) (k : Kind) where
  abbrev its_path : Path
  its_path = further (variable_path v) xs

  -- a leaf of these steps
  same_leaf : (l : Leaf) → l.kind ≡ k → same_path its_path (further (variable_path v) l.steps) ≡ true → l ≡ leaf xs k
  same_leaf l h e =
      let p : its_path ≡ further (variable_path v) l.steps = same_path_is its_path
      (further (variable_path v) l.steps) e in
      ap₂ leaf (sym (ap (λ q. q.steps) p)) h

  same_leaf_steps : (l : Leaf) → same_path its_path (further (variable_path v) l.steps) ≡ true → l.steps ≡ xs
  same_leaf_steps l e =
      let p : its_path ≡ further (variable_path v) l.steps = same_path_is its_path
      (further (variable_path v) l.steps) e in
      sym (ap (λ q. q.steps) p)

  not_the_first : (l : Leaf) → ◌≡◌ {A = Option Leaf} (Some l) (Some (leaf xs k))
      → same_path its_path (further (variable_path v) l.steps) ≡ false → ⊥
  not_the_first l h e =
      let q : l ≡ leaf xs k = some_is h in
      let i = same_path_itself its_path in
      let j : same_path its_path (further (variable_path v) l.steps) ≡ true =
      ap (λ m. same_path its_path (further (variable_path v) m.steps)) q ∙ i in
      absurd (cc)

  value_among : (ls : List Leaf) (n : ℕ) (rest : List PlanVariable) → slice_get ls n ≡ Some (leaf xs k)
      → IsKindOf ls xs k
      → get (initial_values (map (variable_of_leaf text v) ls ++ rest)) its_path
      ≡ Some (initial_at text v.site xs k)
  value_among [] n rest h all = absurd (cc)
  value_among (l ∷ ls) n rest h all =
      by_test (same_path its_path (further (variable_path v) l.steps)) refl n h
      (λ m g. value_among ls m rest g (λ i j. all (suc i) j))
    where
      by_test : (b : Bool) → same_path its_path (further (variable_path v) l.steps) ≡ b → (n : ℕ)
          → slice_get (l ∷ ls) n ≡ Some (leaf xs k)
          → ((m : ℕ) → slice_get ls m ≡ Some (leaf xs k)
          → get (initial_values (map (variable_of_leaf text v) ls ++ rest)) its_path
          ≡ Some (initial_at text v.site xs k))
          → (if b then Some (initial_at text v.site l.steps l.kind)
          else get (initial_values (map (variable_of_leaf text v) ls ++ rest)) its_path)
          ≡ Some (initial_at text v.site xs k)
      by_test true e n g ih =
          let q = same_leaf l (all 0 l refl (same_leaf_steps l e)) e in
          ap (λ m. Some (initial_at text v.site m.steps m.kind)) q
      by_test false e zero g ih = absurd (not_the_first l g e)
      by_test false e (suc n) g ih = ih n g

  -- the retention of the leaves
  retained_leaves : (ls : List Leaf) (n : ℕ) → slice_get ls n ≡ Some (leaf xs k)
      → retained_among (map (variable_of_leaf text v) ls) its_path ≡ retained_at text v.site xs
  retained_leaves [] n h = absurd (cc)
  retained_leaves (l ∷ ls) n h =
      by_test (same_path its_path (further (variable_path v) l.steps)) refl n h (λ m g. retained_leaves ls m g)
    where
      others : (ls : List Leaf) → (retained_at text v.site xs
          || retained_among (map (variable_of_leaf text v) ls) its_path) ≡ retained_at text v.site xs
      others [] = or_false (retained_at text v.site xs)
      others (m ∷ ms) = by_test (same_path its_path (further (variable_path v) m.steps)) refl (others ms)
        where
          absorbed : (a b : Bool) → (a || (a || b)) ≡ (a || b)
          absorbed true b = refl
          absorbed false b = refl

          by_test : (b : Bool) → same_path its_path (further (variable_path v) m.steps) ≡ b
              → (retained_at text v.site xs || retained_among (map (variable_of_leaf text v) ms) its_path)
              ≡ retained_at text v.site xs
              → (retained_at text v.site xs || ((b && retained_at text v.site m.steps)
              || retained_among (map (variable_of_leaf text v) ms) its_path)) ≡ retained_at text v.site xs
          by_test true e ih =
              ap (λ ys. retained_at text v.site xs || (retained_at text v.site ys
              || retained_among (map (variable_of_leaf text v) ms) its_path)) (same_leaf_steps m e)
              ∙ absorbed (retained_at text v.site xs) (retained_among (map (variable_of_leaf text v) ms) its_path)
              ∙ ih
          by_test false e ih = ih

      by_test : (b : Bool) → same_path its_path (further (variable_path v) l.steps) ≡ b → (n : ℕ)
          → slice_get (l ∷ ls) n ≡ Some (leaf xs k)
          → ((m : ℕ) → slice_get ls m ≡ Some (leaf xs k)
          → retained_among (map (variable_of_leaf text v) ls) its_path ≡ retained_at text v.site xs)
          → ((b && retained_at text v.site l.steps) || retained_among (map (variable_of_leaf text v) ls) its_path)
          ≡ retained_at text v.site xs
      by_test true e n g ih =
          ap (λ ys. retained_at text v.site ys || retained_among (map (variable_of_leaf text v) ls) its_path)
          (same_leaf_steps l e)
          ∙ others ls
      by_test false e zero g ih = absurd (not_the_first l g e)
      by_test false e (suc n) g ih = ih n g

-- a variable with another name has none of these paths
other_path : (o : Option Owner) (x : Name) (v : Owned) (xs ys : List Step) → is_variable o x v ≡ false
    → same_path (further (path_to o x) xs) (further (variable_path v) ys) ≡ false
other_path o x v xs ys h = ap (λ b. b && same_steps xs ys) h

module _ (text : Declared) (o : Option Owner) (x : Name) (xs : List Step) where
  abbrev path : Path
  path = further (path_to o x) xs

  value_behind : (v : Owned) → is_variable o x v ≡ false → (ls : List Leaf) (rest : List PlanVariable)
      → get (initial_values (map (variable_of_leaf text v) ls ++ rest)) path ≡ get (initial_values rest) path
  value_behind v e [] rest = refl
  value_behind v e (l ∷ ls) rest =
      let d = other_path o x v xs l.steps e in let h = value_behind v e ls rest in rw (d, h) refl

  not_retained : (v : Owned) → is_variable o x v ≡ false → (ls : List Leaf)
      → retained_among (map (variable_of_leaf text v) ls) path ≡ false
  not_retained v e [] = refl
  not_retained v e (l ∷ ls) =
      let d = other_path o x v xs l.steps e in let h = not_retained v e ls in rw (d, h) refl

  none_retained : (vs : List Owned) → has_variable vs o x ≡ false → retained_among (plan_variables_of text vs) path
      ≡ false
  none_retained [] h = refl
  none_retained (v ∷ vs) h =
      let n = or_parts (is_variable o x v) (has_variable vs o x) h in
      by_test v.is_input n.0 (none_retained vs n.1)
    where
      by_test : (b : Bool) → is_variable o x v ≡ false → retained_among (plan_variables_of text vs) path ≡ false
          → retained_among (if b then plan_variables_of text vs
          else map (variable_of_leaf text v) (leaves_of_variable text v) ++ plan_variables_of text vs) path ≡ false
      by_test true e ih = ih
      by_test false e ih =
          list_any-append (λ w. same_path path w.path && w.retained)
          (map (variable_of_leaf text v) (leaves_of_variable text v))
          (plan_variables_of text vs)
          ∙ ap₂ (λ a b. a || b) (not_retained v e (leaves_of_variable text v)) ih

  -- the leaves of a sound shape
  kind_of_steps : (v : Owned) → is_sound (variable_shape text v) ≡ true → (p : Position)
      → position_of (variable_shape text v) xs ≡ Some p → IsKindOf (leaves_of_variable text v) xs p.kind
  kind_of_steps v sound p h m l g e =
      let a = of_shape (variable_shape text v) sound m l g in
      let b : ◌≡◌ {A = Option Position} (Some (position m l.kind)) (Some p) =
      sym a ∙ ap (position_of (variable_shape text v)) e ∙ h in
      ap (λ q. q.kind) (some_is b)

  -- each part has the initial value that is declared
  pub value_told : (vs : List Owned) → are_declared_once text vs ≡ true → (e : ℕ × Owned) → variable_at text vs o x
      ≡ Some e
      → e.1.is_input ≡ false → (p : Position) → position_of (variable_shape text e.1) xs ≡ Some p
      → get (initial_values (plan_variables_of text vs)) path ≡ Some (initial_at text e.1.site xs p.kind)
  value_told [] once e h i p g = absurd (cc)
  value_told (v ∷ vs) once e h i p g =
      let a = and_parts (not (has_variable vs v.owner v.name))
      (is_sound (variable_shape text v) && are_declared_once text vs) once in
      let b = and_parts (is_sound (variable_shape text v)) (are_declared_once text vs) a.1 in
      by_variable (is_variable o x v) refl v.is_input refl h b.0
      (λ f j n q. value_told vs b.1 f j n p q)
    where
      by_variable : (t : Bool) → is_variable o x v ≡ t → (n : Bool) → v.is_input ≡ n
          → (if t then Some (0, v) else option_map (later text v) (variable_at text vs o x))
          ≡ Some e
          → is_sound (variable_shape text v) ≡ true
          → ((f : ℕ × Owned) → variable_at text vs o x ≡ Some f → f.1.is_input ≡ false
          → position_of (variable_shape text f.1) xs ≡ Some p
          → get (initial_values (plan_variables_of text vs)) path ≡ Some (initial_at text f.1.site xs p.kind))
          → get (initial_values (if n then plan_variables_of text vs
          else map (variable_of_leaf text v) (leaves_of_variable text v) ++ plan_variables_of text vs)) path
          ≡ Some (initial_at text e.1.site xs p.kind)
      by_variable true r true n j sound ih =
          let q : ◌≡◌ {A = ℕ × Owned} (0, v) e = some_is j in
          let m : v.is_input ≡ false = ap (λ d. d.1.is_input) q ∙ i in absurd (cc)
      by_variable true r false n j sound ih =
          let q : ◌≡◌ {A = ℕ × Owned} (0, v) e = some_is j in
          let g' : position_of (variable_shape text v) xs
          ≡ Some p = ap (λ d. position_of (variable_shape text d.1) xs) q ∙ g in
          let s = variable_is o x v r in
          ap (λ w. get (initial_values (map (variable_of_leaf text v)
          (leaves_of_variable text v) ++ plan_variables_of text vs))
          (further w xs)) s
          ∙ value_among text v xs p.kind (leaves_of_variable text v) p.number (plan_variables_of text vs)
          (at_shape (variable_shape text v) xs p g') (kind_of_steps v sound p g')
          ∙ ap (λ d. Some (initial_at text d.1.site xs p.kind)) q
      by_variable false r n m j sound ih =
          let k = map_some (later text v) (variable_at text vs o x) e j in
          let d : k.0.1 ≡ e.1 = ap (λ d. d.1) k.2 in
          passed n ∙ ih k.0 k.1 (ap (λ w. w.is_input) d ∙ i) (ap (λ w. position_of (variable_shape text w) xs) d ∙ g)
          ∙ ap (λ w. Some (initial_at text w.site xs p.kind)) d
        where
          passed : (n : Bool) → get (initial_values (if n then plan_variables_of text vs
              else map (variable_of_leaf text v) (leaves_of_variable text v) ++ plan_variables_of text vs)) path
              ≡ get (initial_values (plan_variables_of text vs)) path
          passed true = refl
          passed false = value_behind v r (leaves_of_variable text v) (plan_variables_of text vs)

  -- and its retention is the declared one
  pub retention_told : (vs : List Owned) → are_declared_once text vs ≡ true → (e : ℕ × Owned)
      → variable_at text vs o x ≡ Some e → e.1.is_input ≡ false → (p : Position)
      → position_of (variable_shape text e.1) xs ≡ Some p
      → retained_among (plan_variables_of text vs) path ≡ retained_at text e.1.site xs
  retention_told [] once e h i p g = absurd (cc)
  retention_told (v ∷ vs) once e h i p g =
      let a = and_parts (not (has_variable vs v.owner v.name))
      (is_sound (variable_shape text v) && are_declared_once text vs) once in
      let b = and_parts (is_sound (variable_shape text v)) (are_declared_once text vs) a.1 in
      by_variable (is_variable o x v) refl v.is_input refl h (false_from_not (has_variable vs v.owner v.name) a.0)
      (λ f j n q. retention_told vs b.1 f j n p q)
    where
      by_variable : (t : Bool) → is_variable o x v ≡ t → (n : Bool) → v.is_input ≡ n
          → (if t then Some (0, v) else option_map (later text v) (variable_at text vs o x))
          ≡ Some e
          → has_variable vs v.owner v.name ≡ false
          → ((f : ℕ × Owned) → variable_at text vs o x ≡ Some f → f.1.is_input ≡ false
          → position_of (variable_shape text f.1) xs ≡ Some p
          → retained_among (plan_variables_of text vs) path ≡ retained_at text f.1.site xs)
          → retained_among (if n then plan_variables_of text vs
          else map (variable_of_leaf text v) (leaves_of_variable text v) ++ plan_variables_of text vs) path
          ≡ retained_at text e.1.site xs
      by_variable true r true n j new ih =
          let q : ◌≡◌ {A = ℕ × Owned} (0, v) e = some_is j in
          let m : v.is_input ≡ false = ap (λ d. d.1.is_input) q ∙ i in absurd (cc)
      by_variable true r false n j new ih =
          let q : ◌≡◌ {A = ℕ × Owned} (0, v) e = some_is j in
          let g' : position_of (variable_shape text v) xs
          ≡ Some p = ap (λ d. position_of (variable_shape text d.1) xs) q ∙ g in
          let s = variable_is o x v r in
          list_any-append (λ w. same_path path w.path && w.retained)
          (map (variable_of_leaf text v) (leaves_of_variable text v))
          (plan_variables_of text vs)
          ∙ ap₂ (λ a b. a || b)
          (ap (λ w. retained_among (map (variable_of_leaf text v) (leaves_of_variable text v)) (further w xs)) s
          ∙ retained_leaves text v xs p.kind (leaves_of_variable text v) p.number
          (at_shape (variable_shape text v) xs p g'))
          (none_retained vs (ap (λ w. has_variable vs w.owner w.name) s ∙ new))
          ∙ or_false (retained_at text v.site xs) ∙ ap (λ d. retained_at text d.1.site xs) q
      by_variable false r n m j new ih =
          let k = map_some (later text v) (variable_at text vs o x) e j in
          let d : k.0.1 ≡ e.1 = ap (λ d. d.1) k.2 in
          passed n ∙ ih k.0 k.1 (ap (λ w. w.is_input) d ∙ i) (ap (λ w. position_of (variable_shape text w) xs) d ∙ g)
          ∙ ap (λ w. retained_at text w.site xs) d
        where
          passed : (n : Bool) → retained_among (if n then plan_variables_of text vs
              else map (variable_of_leaf text v) (leaves_of_variable text v) ++ plan_variables_of text vs) path
              ≡ retained_among (plan_variables_of text vs) path
          passed true = refl
          passed false =
              list_any-append (λ w. same_path path w.path && w.retained)
              (map (variable_of_leaf text v) (leaves_of_variable text v)) (plan_variables_of text vs)
              ∙ ap (λ b. b || retained_among (plan_variables_of text vs) path)
              (not_retained v r (leaves_of_variable text v))
