-- The type or unit of a name's number.
use Rattle.std.proofs.Common.{◌≡◌, refl, sym, ap, subst, ◌∙◌, ℕ, suc, ◌+◌, List, [], ◌∷◌, ◌++◌, map}
use Rattle.std.proofs.Common.{Option, Some, None, Bool, true, false, arith, rules}
use Rattle.std.specs.Prelude.{slice_get, bytes_eq, if◌then◌else◌}
use Rattle.std.specs.Bool.{Decides}
use Rattle.std.proofs.lemmas.Slice.Eq.{bytes_eq-Decides}
use Rattle.st_types.specs.Declarations.{TypeDefinition, TypeDeclaration}
use Rattle.st_types.specs.Units.{OrganisationUnit}
use Rattle.st_meaning.specs.Scopes.{Name}
use Rattle.st_meaning.specs.NameTypes.{Declared, type_named, unit_named}
use Rattle.st_rules.specs.Containment.{Part, parts_of_definition, parts_of_unit, parts_of_standard, parts_named}
use Rattle.st_decl.specs.Parts.{node_names, node_parts, number_in, number_of_name}
use Rattle.symbols.proofs.Entries.{same_bytes}
use Rattle.st_types.specs.Comparisons.{same_bytes as bytes_same}

same_self : (r : Bool) (xs : List ℕ) → Decides r (xs ≡ xs) → r ≡ true
same_self r xs d = d.1 refl

-- a name is in a list, with these parts
pub record Stands (names : List Name) (parts : List (List Part)) (n : ℕ) (x : Name) (ps : List Part) : Type 0 where
  pub place : ℕ
  pub number : number_in names n x ≡ Some (n + place)
  pub name : slice_get names place ≡ Some x
  pub holds : slice_get parts place ≡ Some ps

stands_first : (names : List Name) (parts : List (List Part)) (n : ℕ) (x y : Name) (ps : List Part)
    → bytes_eq x y ≡ true → Stands (y ∷ names) (ps ∷ parts) n x ps
stands_first names parts n x y ps h = record {
  place = 0;
  number = ap (λ b. if b then Some n else number_in names (suc n) x) h ∙ ap Some (plus_none n);
  name = ap Some (sym (bytes_same x y h));
  holds = refl;
}
  where
    plus_none : (k : ℕ) → k ≡ k + 0
    plus_none k = omega arith

stands_later : (names : List Name) (parts : List (List Part)) (n : ℕ) (x y : Name) (ps qs : List Part)
    → bytes_eq x y ≡ false → Stands names parts (suc n) x ps → Stands (y ∷ names) (qs ∷ parts) n x ps
stands_later names parts n x y ps qs h s = record {
  place = suc s.place;
  number = ap (λ b. if b then Some n else number_in names (suc n) x) h ∙ s.number ∙ ap Some (plus_suc n s.place);
  name = s.name;
  holds = s.holds;
}
  where
    plus_suc : (a b : ℕ) → suc a + b ≡ a + suc b
    plus_suc a b = omega arith

-- the types are first
type_stands : (ts : List TypeDeclaration) (names : List Name) (parts : List (List Part)) (n : ℕ) (x : Name)
    (d : TypeDefinition) → type_named ts x ≡ Some d
    → Stands (map (λ t. t.name.name) ts ++ names) (map (λ t. parts_of_definition t.definition) ts ++ parts) n x
    (parts_of_definition d)
type_stands [] names parts n x d h = absurd (cc)
type_stands (t ∷ ts) names parts n x d h =
    by_test (bytes_eq x t.name.name) refl (λ e. type_stands ts names parts (suc n) x d e)
  where
    some_is : {a b : TypeDefinition} → Some a ≡ Some b → a ≡ b
    some_is e = search rules

    by_test : (b : Bool) → bytes_eq x t.name.name ≡ b
        → (type_named ts x ≡ Some d → Stands (map (λ t. t.name.name) ts ++ names)
        (map (λ t. parts_of_definition t.definition) ts ++ parts) (suc n) x (parts_of_definition d))
        → Stands (map (λ t. t.name.name) (t ∷ ts) ++ names)
        (map (λ t. parts_of_definition t.definition) (t ∷ ts) ++ parts) n x (parts_of_definition d)
    by_test true e rest = subst
        (Stands (map (λ t. t.name.name) (t ∷ ts) ++ names)
        (map (λ t. parts_of_definition t.definition) (t ∷ ts) ++ parts) n x)
        (ap parts_of_definition
        (some_is (sym (ap (λ b. if b then Some t.definition else type_named ts x) e) ∙ h)))
        (stands_first (map (λ t. t.name.name) ts ++ names) (map (λ t. parts_of_definition t.definition) ts ++ parts) n
        x t.name.name (parts_of_definition t.definition) e)
    by_test false e rest = stands_later (map (λ t. t.name.name) ts ++ names)
        (map (λ t. parts_of_definition t.definition) ts ++ parts) n x t.name.name (parts_of_definition d)
        (parts_of_definition t.definition) e
        (rest
        (sym (ap (λ b. if b then Some t.definition else type_named ts x) e) ∙ h))

unit_stands : (text : Declared) (us : List OrganisationUnit) (n : ℕ) (x : Name) (u : OrganisationUnit)
    → unit_named us x ≡ Some u
    → Stands (map (λ u. u.name.name) us) (map (parts_of_unit text) us) n x (parts_of_unit text u)
unit_stands text [] n x u h = absurd (cc)
unit_stands text (v ∷ us) n x u h =
    by_test (bytes_eq x v.name.name) refl (λ e. unit_stands text us (suc n) x u e)
  where
    some_is : {a b : OrganisationUnit} → Some a ≡ Some b → a ≡ b
    some_is e = search rules

    by_test : (b : Bool) → bytes_eq x v.name.name ≡ b
        → (unit_named us x ≡ Some u
        → Stands (map (λ u. u.name.name) us) (map (parts_of_unit text) us) (suc n) x (parts_of_unit text u))
        → Stands (map (λ u. u.name.name) (v ∷ us)) (map (parts_of_unit text) (v ∷ us)) n x (parts_of_unit text u)
    by_test true e rest = subst
        (Stands (map (λ u. u.name.name) (v ∷ us)) (map (parts_of_unit text) (v ∷ us)) n x)
        (ap (parts_of_unit text) (some_is (sym (ap (λ b. if b then Some v else unit_named us x) e) ∙ h)))
        (stands_first (map (λ u. u.name.name) us) (map (parts_of_unit text) us) n x v.name.name
        (parts_of_unit text v) e)
    by_test false e rest = stands_later (map (λ u. u.name.name) us) (map (parts_of_unit text) us) n x v.name.name
        (parts_of_unit text u) (parts_of_unit text v) e
        (rest (sym (ap (λ b. if b then Some v else unit_named us x) e) ∙ h))

-- the units come after them
behind_types : (ts : List TypeDeclaration) (names : List Name) (parts : List (List Part)) (n : ℕ) (x : Name)
    (ps : List Part) → type_named ts x ≡ None → ((k : ℕ) → Stands names parts k x ps)
    → Stands (map (λ t. t.name.name) ts ++ names) (map (λ t. parts_of_definition t.definition) ts ++ parts) n x ps
behind_types [] names parts n x ps h s = s n
behind_types (t ∷ ts) names parts n x ps h s =
    by_test (bytes_eq x t.name.name) refl (λ e. behind_types ts names parts (suc n) x ps e s)
  where
    by_test : (b : Bool) → bytes_eq x t.name.name ≡ b
        → (type_named ts x ≡ None → Stands (map (λ t. t.name.name) ts ++ names)
        (map (λ t. parts_of_definition t.definition) ts ++ parts) (suc n) x ps)
        → Stands (map (λ t. t.name.name) (t ∷ ts) ++ names)
        (map (λ t. parts_of_definition t.definition) (t ∷ ts) ++ parts) n x ps
    by_test true e rest = absurd (nothing (sym (ap (λ b. if b then Some t.definition else type_named ts x) e) ∙ h))
      where
        nothing : Some t.definition ≡ None → ⊥
        nothing z = cc
    by_test false e rest = stands_later (map (λ t. t.name.name) ts ++ names)
        (map (λ t. parts_of_definition t.definition) ts ++ parts) n x t.name.name ps
        (parts_of_definition t.definition) e
        (rest (sym (ap (λ b. if b then Some t.definition else type_named ts x) e) ∙ h))

no_type : (ts : List TypeDeclaration) (names : List Name) (n : ℕ) (x : Name) → type_named ts x ≡ None
    → ((k : ℕ) → number_in names k x ≡ None) → number_in (map (λ t. t.name.name) ts ++ names) n x ≡ None
no_type [] names n x h s = s n
no_type (t ∷ ts) names n x h s =
    by_test (bytes_eq x t.name.name) refl (λ e. no_type ts names (suc n) x e s)
  where
    by_test : (b : Bool) → bytes_eq x t.name.name ≡ b
        → (type_named ts x ≡ None → number_in (map (λ t. t.name.name) ts ++ names) (suc n) x ≡ None)
        → number_in (map (λ t. t.name.name) (t ∷ ts) ++ names) n x ≡ None
    by_test true e rest = absurd (nothing (sym (ap (λ b. if b then Some t.definition else type_named ts x) e) ∙ h))
      where
        nothing : Some t.definition ≡ None → ⊥
        nothing z = cc
    by_test false e rest = ap (λ b. if b then Some n else number_in (map (λ t. t.name.name) ts ++ names) (suc n) x) e
        ∙ rest (sym (ap (λ b. if b then Some t.definition else type_named ts x) e) ∙ h)

no_unit : (us : List OrganisationUnit) (n : ℕ) (x : Name) → unit_named us x ≡ None
    → number_in (map (λ u. u.name.name) us) n x ≡ None
no_unit [] n x h = refl
no_unit (v ∷ us) n x h = by_test (bytes_eq x v.name.name) refl (λ e. no_unit us (suc n) x e)
  where
    by_test : (b : Bool) → bytes_eq x v.name.name ≡ b
        → (unit_named us x ≡ None → number_in (map (λ u. u.name.name) us) (suc n) x ≡ None)
        → number_in (map (λ u. u.name.name) (v ∷ us)) n x ≡ None
    by_test true e rest = absurd (nothing (sym (ap (λ b. if b then Some v else unit_named us x) e) ∙ h))
      where
        nothing : Some v ≡ None → ⊥
        nothing z = cc
    by_test false e rest = ap (λ b. if b then Some n else number_in (map (λ u. u.name.name) us) (suc n) x) e
        ∙ rest (sym (ap (λ b. if b then Some v else unit_named us x) e) ∙ h)

-- the target of a name: a type or unit by its number, or nothing of the text
pub data Named (text : Declared) (x : Name) : Type 0 where
  standing : Stands (node_names text) (node_parts text) 0 x (parts_named text x) → Named text x
  absent : number_of_name text x ≡ None → parts_named text x ≡ parts_of_standard x → Named text x

pub named : (text : Declared) (x : Name) → Named text x
named text x = by_type (type_named text.types x) refl
  where
    parts_at : Option TypeDefinition → Option OrganisationUnit → List Part
    parts_at t u = elim t [
      | Some d ↦ parts_of_definition d
      | None ↦ elim u [ Some v ↦ parts_of_unit text v | None ↦ parts_of_standard x ]
    ]

    by_unit : type_named text.types x ≡ None → (o : Option OrganisationUnit) → unit_named text.units x ≡ o
        → Named text x
    by_unit none (Some u) at = standing (subst (Stands (node_names text) (node_parts text) 0 x)
        (sym (ap (λ t. parts_at t (unit_named text.units x)) none ∙ ap (parts_at None) at))
        (behind_types text.types (map (λ u. u.name.name) text.units) (map (parts_of_unit text) text.units) 0 x
        (parts_of_unit text u) none (λ k. unit_stands text text.units k x u at)))
    by_unit none None at = absent
        (no_type text.types (map (λ u. u.name.name) text.units) 0 x none (λ k. no_unit text.units k x at))
        (ap (λ t. parts_at t (unit_named text.units x)) none ∙ ap (parts_at None) at)

    by_type : (o : Option TypeDefinition) → type_named text.types x ≡ o → Named text x
    by_type (Some d) at = standing (subst (Stands (node_names text) (node_parts text) 0 x)
        (sym (ap (λ t. parts_at t (unit_named text.units x)) at))
        (type_stands text.types (map (λ u. u.name.name) text.units) (map (parts_of_unit text) text.units) 0 x d at))
    by_type None at = by_unit at (unit_named text.units x) refl
