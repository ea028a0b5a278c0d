-- The places of types and units that contain themselves.
use Rattle.std.proofs.Common.{◌≡◌, refl, sym, ap, subst, ◌∙◌, ℕ, zero, suc, ◌+◌, ◌*◌, List, [], ◌∷◌, ◌++◌, map, length}
use Rattle.std.proofs.lemmas.List.{append_assoc}
use Rattle.std.proofs.Common.{Some, None, Bool, true, if◌then◌else◌, arith, rules}
use Rattle.std.specs.Prelude.{slice_get}
use Rattle.std.specs.List.{flat_map, Contains}
use Rattle.std.proofs.lemmas.List.Elements.{Contains-append_left, Contains-append_right}
use Rattle.st_types.specs.declared.unit.UnitSort.{UnitSort}
use Rattle.st_types.specs.declared.unit.UnitSort.TheVariants.{Function, FunctionBlock, Program}
use Rattle.st_meaning.specs.Scopes.{Name}
use Rattle.st_meaning.specs.NameTypes.{Declared}
use Rattle.st_rules.specs.Faults.{breaks, breaking, in_case}
use Rattle.st_rules.specs.declared.reason.Reason.TheVariants.{ContainsItself, TooDeep}
use Rattle.st_rules.specs.declared.rule.Broken.{Broken}
use Rattle.st_rules.specs.declared.limits.TheConstants.{MAX_TYPE_DEPTH}
use Rattle.st_rules.specs.Containment as rules_of
use Rattle.st_rules.specs.Containment.{is_too_deep, contains_itself, is_wrong_unit, too_deep_types, too_deep_units}
use Rattle.st_rules.specs.Containment.{has_chain, reason_of_depth}
use Rattle.st_rules.proofs.DepthLaws.{cycles_have_chains}
use Rattle.st_decl.specs.Numbered.{node_places}
use Rattle.st_decl.proofs.GraphWays.{leads_holds, Cycles}

name_is : {a b : Name} → Some a ≡ Some b → a ≡ b
name_is h = search rules

place_is : {a b : ℕ} → Some a ≡ Some b → a ≡ b
place_is h = search rules

only : (b : Broken) → Contains (b ∷ []) b
only b = (0, omega arith, refl)

-- one that contains itself, at its place
abbrev itself : ℕ → Broken
itself p = breaks ContainsItself p

one_at : (bs : List Broken) (p q : ℕ) → bs ≡ itself q ∷ [] → q ≡ p → Contains bs (itself p)
one_at bs p q h e = subst (λ ys. Contains ys (itself p)) (sym h)
    (subst (λ r. Contains (itself r ∷ []) (itself p)) (sym e) (only (itself p)))

-- an element with a name is reported at its place
told_in : {A : Type 0} (f : A → List Broken) (name : A → Name) (place : A → ℕ) (xs : List A) (i : ℕ) (x : Name) (p : ℕ)
    → slice_get (map name xs) i ≡ Some x → slice_get (map place xs) i ≡ Some p
    → ((a : A) → name a ≡ x → f a ≡ itself (place a) ∷ []) → Contains (flat_map f xs) (itself p)
told_in f name place [] i x p h k tells = absurd (cc)
told_in f name place (a ∷ rest) zero x p h k tells =
    Contains-append_left (f a) (flat_map f rest) (itself p)
    (one_at (f a) p (place a) (tells a (name_is h)) (place_is k))
told_in f name place (a ∷ rest) (suc i) x p h k tells =
    Contains-append_right (f a) (flat_map f rest) (itself p) (told_in f name place rest i x p h k tells)

told_in_both : {A B : Type 0} (f : A → List Broken) (g : B → List Broken) (name : A → Name) (other : B → Name)
    (place : A → ℕ) (stands : B → ℕ) (xs : List A) (ys : List B) (i : ℕ) (x : Name) (p : ℕ)
    → slice_get (map name xs ++ map other ys) i ≡ Some x → slice_get (map place xs ++ map stands ys) i ≡ Some p
    → ((a : A) → name a ≡ x → f a ≡ itself (place a) ∷ []) → ((b : B) → other b ≡ x → g b ≡ itself (stands b) ∷ [])
    → Contains (flat_map f xs ++ flat_map g ys) (itself p)
told_in_both f g name other place stands [] ys i x p h k tells too = told_in g other stands ys i x p h k too
told_in_both f g name other place stands (a ∷ rest) ys zero x p h k tells too =
    Contains-append_left (f a ++ flat_map f rest) (flat_map g ys) (itself p)
    (Contains-append_left (f a) (flat_map f rest) (itself p)
    (one_at (f a) p (place a) (tells a (name_is h)) (place_is k)))
told_in_both f g name other place stands (a ∷ rest) ys (suc i) x p h k tells too =
    subst (λ zs. Contains zs (itself p)) (sym (append_assoc (f a) (flat_map f rest) (flat_map g ys)))
    (Contains-append_right (f a) (flat_map f rest ++ flat_map g ys) (itself p)
    (told_in_both f g name other place stands rest ys i x p h k tells too))

deep_name : (text : Declared) (x : Name) → contains_itself text x ≡ true → is_too_deep text (rules_of.named x) ≡ true
deep_name text x h = cycles_have_chains text (rules_of.named x) (MAX_TYPE_DEPTH + 1)
    (leads_holds text (2 * (length text.types + length text.units)) x (rules_of.named x) h)

told_case : (text : Declared) (x : Name) (wrong : Bool) (p : ℕ) → contains_itself text x ≡ true → wrong ≡ true
    → breaking (reason_of_depth text x) (in_case wrong p) ≡ itself p ∷ []
told_case text x wrong p cycle h = ap (λ c. breaking (reason_of_depth text x) (in_case c p)) h
    ∙ ap (λ c. breaking (if c then ContainsItself else TooDeep) (p ∷ [])) cycle

wrong_unit : (text : Declared) (sort : UnitSort) (x : Name) → contains_itself text x ≡ true
    → is_wrong_unit text sort x ≡ true
wrong_unit text (Function t) x h = deep_name text x h
wrong_unit text FunctionBlock x h = deep_name text x h
wrong_unit text Program x h = h

-- a type or unit that contains itself is reported at its place
pub cycle_place : (text : Declared) (i p : ℕ) → Cycles text i → slice_get (node_places text) i ≡ Some p
    → Contains (too_deep_types text ++ too_deep_units text) (breaks ContainsItself p)
cycle_place text i p cycle at = told_in_both
    (λ t. breaking (reason_of_depth text t.name.name)
    (in_case (is_too_deep text (rules_of.named t.name.name)) t.name.place))
    (λ u. breaking (reason_of_depth text u.name.name) (in_case (is_wrong_unit text u.sort u.name.name) u.name.place))
    (λ t. t.name.name) (λ u. u.name.name) (λ t. t.name.place) (λ u. u.name.place) text.types text.units i cycle.name p
    cycle.at at
    (λ t e. let contains = ap (contains_itself text) e ∙ cycle.contains in
    told_case text t.name.name (is_too_deep text (rules_of.named t.name.name)) t.name.place contains
    (deep_name text t.name.name contains))
    (λ u e. let contains = ap (contains_itself text) e ∙ cycle.contains in
    told_case text u.name.name (is_wrong_unit text u.sort u.name.name) u.name.place contains
    (wrong_unit text u.sort u.name.name contains))

lost : {A : Type 0} (x : A) → None ≡ Some x → ⊥
lost x h = cc

none_of : {A : Type 0} (name : A → Name) (place : A → ℕ) (xs : List A) (i : ℕ)
    → slice_get (map place xs) i ≡ None → slice_get (map name xs) i ≡ None
none_of name place [] i h = refl
none_of name place (a ∷ rest) zero h = absurd (cc)
none_of name place (a ∷ rest) (suc i) h = none_of name place rest i h

none_of_both : {A B : Type 0} (name : A → Name) (other : B → Name) (place : A → ℕ) (stands : B → ℕ) (xs : List A)
    (ys : List B) (i : ℕ) → slice_get (map place xs ++ map stands ys) i ≡ None
    → slice_get (map name xs ++ map other ys) i ≡ None
none_of_both name other place stands [] ys i h = none_of other stands ys i h
none_of_both name other place stands (a ∷ rest) ys zero h = absurd (cc)
none_of_both name other place stands (a ∷ rest) ys (suc i) h = none_of_both name other place stands rest ys i h

-- and it has one
pub cycle_has_place : (text : Declared) (i : ℕ) → Cycles text i → slice_get (node_places text) i ≡ None → ⊥
cycle_has_place text i cycle none = lost cycle.name (sym (none_of_both (λ t. t.name.name) (λ u. u.name.name)
    (λ t. t.name.place) (λ u. u.name.place) text.types text.units i none) ∙ cycle.at)
