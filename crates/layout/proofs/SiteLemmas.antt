-- Each elementary part of a shape has a declaration of its type.
use Rattle.std.proofs.Common.{◌≡◌, ℕ, zero, suc, ◌*◌, Bool, true, false, if◌then◌else◌, List, [], ◌∷◌, Option, Some}
use Rattle.std.proofs.Common.{None}
use Rattle.std.proofs.Common.{option_map, option_and_then, refl, ap, ◌∙◌}
use Rattle.std.specs.Prelude.{bytes_eq}
use Rattle.st_types.specs.declared.kind.Kind.{Kind}
use Rattle.st_types.specs.declared.path.Step.{Step}
use Rattle.st_types.specs.declared.path.Step.TheVariants.{Member, Element}
use Rattle.st_types.specs.declared.data_type.ArrayType.{ArrayType}
use Rattle.st_types.specs.declared.data_type.VariableType.{VariableType}
use Rattle.st_types.specs.Declarations as declarations
use Rattle.st_types.specs.Declarations.{TypeDefinition}
use Rattle.st_meaning.specs.NameTypes.{Declared, definition_of, kind_among}
use Rattle.st_meaning.specs.Scopes.{Name}
use Rattle.st_rules.specs.TypeRules.{elements_of_array}
use Rattle.layout.specs.Shapes.{PartsOwner, Shape, plain, array, parts, size, in_bounds, distance, Position, position_after}
use Rattle.layout.specs.Shapes.{position_of, position_in}
use Rattle.layout.specs.Types.{Site, NamedSite, site_named, BlockType, instance_of, Composition, of_kind}
use Rattle.layout.specs.Types.{of_elements}
use Rattle.layout.specs.Types.{of_parts, instance_parts, defined_composition, composition_of, lower_of}
use Rattle.layout.specs.Types.{element_of, parts_of, composed_shape, shape_within}
use Rattle.layout.specs.Sites.{element_site, member_site, site_below, site_at}
use Rattle.layout.specs.VariableSlots.{IsDeclared}
use Rattle.st_types.proofs.OptionLemmas.{some_is, map_some, if_some}

-- only an elementary or an enumerated type has itself as its composition
no_kind : (b : Option BlockType) (k : Kind) → instance_parts b ≡ of_kind k → ⊥
no_kind None k h = absurd (cc)
no_kind (Some b) k h = absurd (cc)

no_defined_kind : (text : Declared) (t : VariableType) (d : Option TypeDefinition) (k : Kind)
    → defined_composition text t d ≡ of_kind k → ⊥
no_defined_kind text t (Some (declarations.array a)) k h = absurd (cc)
no_defined_kind text t (Some (declarations.structure fields)) k h = absurd (cc)
no_defined_kind text t (Some (declarations.enumeration names)) k h = absurd (cc)
no_defined_kind text t None k h = no_kind (instance_of text t) k h

kind_made : (text : Declared) (t : VariableType) (m : Option Kind) (k : Kind)
    → elim m [ Some l ↦ of_kind l | None ↦ defined_composition text t (definition_of text t) ] ≡ of_kind k
    → m ≡ Some k
kind_made text t (Some l) k h = cc
kind_made text t None k h = absurd (no_defined_kind text t (definition_of text t) k h)

kind_of_composition : (text : Declared) (t : VariableType) (k : Kind) → composition_of text t ≡ of_kind k
    → kind_among text.types t ≡ Some k
kind_of_composition text t k h = kind_made text t (kind_among text.types t) k h

-- the declaration of a part in which the steps lead on
record LeadsTo (inner : VariableType → Shape) (ds : List NamedSite) (x : Name) (xs : List Step) (k : Kind)
    : Type 0 where
  own : Site
  is : site_named ds x ≡ Some own
  position : Position
  on : position_of (inner own.declared) xs ≡ Some position
  kind : position.kind ≡ k

named_cases : (inner : VariableType → Shape) (d : NamedSite) (ds : List NamedSite) (x : Name) (xs : List Step)
    (o : Position) → ((p : Position) → position_in (parts_of inner ds) x xs ≡ Some p → LeadsTo inner ds x xs p.kind)
    → (b : Bool) → bytes_eq x d.name ≡ b
    → (if b then position_of (inner d.site.declared) xs
    else option_map (position_after (size (inner d.site.declared))) (position_in (parts_of inner ds) x xs)) ≡ Some o
    → LeadsTo inner (d ∷ ds) x xs o.kind
named_cases inner d ds x xs o ih true e h =
    record { own = d.site; is = rw e refl; position = o; on = h; kind = refl }
named_cases inner d ds x xs o ih false e h =
    let i = map_some (position_after (size (inner d.site.declared))) (position_in (parts_of inner ds) x xs) o h in
    let l = ih i.0 i.1 in let t = l.is in
    record {
      own = l.own;
      is = rw e t;
      position = l.position;
      on = l.on;
      kind = l.kind ∙ ap (λ q. q.kind) i.2;
    }

leads_to : (inner : VariableType → Shape) (ds : List NamedSite) (x : Name) (xs : List Step) (o : Position)
    → position_in (parts_of inner ds) x xs ≡ Some o → LeadsTo inner ds x xs o.kind
leads_to inner [] x xs o h = absurd (cc)
leads_to inner (d ∷ ds) x xs o h =
    named_cases inner d ds x xs o (λ p g. leads_to inner ds x xs p g) (bytes_eq x d.name) refl h

step_on : (text : Declared) (s u : Site) (x : Step) (xs : List Step) (k : Kind)
    → site_below s (composition_of text s.declared) x ≡ Some u → IsDeclared text u xs k
    → IsDeclared text s (x ∷ xs) k
step_on text s u x xs k h i =
    record { site = i.site; is = ap (option_and_then (λ v. site_at text v xs)) h ∙ i.is; kind = i.kind }

-- the same with another name for the type
typed_as : (text : Declared) (s : Site) (xs : List Step) (k l : Kind) → k ≡ l → IsDeclared text s xs k
    → IsDeclared text s xs l
typed_as text s xs k l e i = record { site = i.site; is = i.is; kind = i.kind ∙ ap Some e }

module _ (text : Declared) (n : ℕ)
    (ih : (u : Site) (xs : List Step) (o : Position) → position_of (shape_within n text u.declared) xs ≡ Some o
    → IsDeclared text u xs o.kind) where
  by_kind : (s : Site) (k : Kind) (xs : List Step) (o : Position) → composition_of text s.declared ≡ of_kind k
      → position_of (plain k) xs ≡ Some o → IsDeclared text s xs o.kind
  by_kind s k [] o e h =
      let p : ◌≡◌ {A = Position} (record { number = 0; kind = k }) o = some_is h in
      record { site = s; is = refl; kind = kind_of_composition text s.declared k e ∙ ap (λ q. Some q.kind) p }
  by_kind s k (x ∷ xs) o e h = absurd (cc)

  by_elements : (s : Site) (a : ArrayType) (xs : List Step) (o : Position)
      → composition_of text s.declared ≡ of_elements a
      → position_of (array (lower_of a) (elements_of_array a) (shape_within n text (element_of a))) xs ≡ Some o
      → IsDeclared text s xs o.kind
  by_elements s a [] o e h = absurd (cc)
  by_elements s a (Member x ∷ xs) o e h = absurd (cc)
  by_elements s a (Element z ∷ xs) o e h =
      let b = if_some (in_bounds (lower_of a) (elements_of_array a) z)
      (option_map (position_after (distance (lower_of a) z * size (shape_within n text (element_of a))))
      (position_of (shape_within n text (element_of a)) xs)) o h in
      let i = map_some (position_after (distance (lower_of a) z * size (shape_within n text (element_of a))))
      (position_of (shape_within n text (element_of a)) xs) o b.1 in
      let t = b.0 in
      step_on text s (element_site s a (distance (lower_of a) z)) (Element z) xs o.kind
      (ap (λ c. site_below s c (Element z)) e ∙ rw t refl)
      (typed_as text (element_site s a (distance (lower_of a) z)) xs i.0.kind o.kind (ap (λ q. q.kind) i.2)
      (ih (element_site s a (distance (lower_of a) z)) xs i.0 i.1))

  by_parts : (s : Site) (w : PartsOwner) (ds : List NamedSite) (xs : List Step) (o : Position)
      → composition_of text s.declared ≡ of_parts w ds
      → position_of (parts w (parts_of (shape_within n text) ds)) xs ≡ Some o → IsDeclared text s xs o.kind
  by_parts s w ds [] o e h = absurd (cc)
  by_parts s w ds (Element z ∷ xs) o e h = absurd (cc)
  by_parts s w ds (Member x ∷ xs) o e h =
      let l = leads_to (shape_within n text) ds x xs o h in
      step_on text s (member_site s x l.own) (Member x) xs o.kind
      (ap (λ c. site_below s c (Member x)) e ∙ ap (option_map (member_site s x)) l.is)
      (typed_as text (member_site s x l.own) xs l.position.kind o.kind l.kind
      (ih (member_site s x l.own) xs l.position l.on))

  by_composition : (s : Site) (c : Composition) (xs : List Step) (o : Position)
      → composition_of text s.declared ≡ c → position_of (composed_shape (shape_within n text) c) xs ≡ Some o
      → IsDeclared text s xs o.kind
  by_composition s (of_kind k) xs o e h = by_kind s k xs o e h
  by_composition s (of_elements a) xs o e h = by_elements s a xs o e h
  by_composition s (of_parts w ds) xs o e h = by_parts s w ds xs o e h

-- each elementary part of the shape of a declared type is declared
pub part_declared : (text : Declared) (n : ℕ) (s : Site) (xs : List Step) (o : Position)
    → position_of (shape_within n text s.declared) xs ≡ Some o → IsDeclared text s xs o.kind
unfolding shape_within
part_declared text zero s [] o h = absurd (cc)
part_declared text zero s (Member x ∷ xs) o h = absurd (cc)
part_declared text zero s (Element z ∷ xs) o h = absurd (cc)
part_declared text (suc n) s xs o h =
    by_composition text n (λ u ys p g. part_declared text n u ys p g) s (composition_of text s.declared) xs o refl h
