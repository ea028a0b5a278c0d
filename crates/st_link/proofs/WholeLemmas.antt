-- The entry of a type, by its composition.
use Rattle.std.proofs.Common.{◌≡◌, refl, sym, ap, ap₂, subst, ◌∙◌, arith, ℕ, zero, suc, ◌*◌, List, [], ◌∷◌, ◌++◌, map}
use Rattle.std.proofs.Common.{Bool, true, false, ◌&&◌, if◌then◌else◌, Option, Some, None}
use Rattle.std.specs.Prelude.{bytes_eq}
use denote.Bor.{Bor}
use Rattle.std.specs.List.{list_all}
use Rattle.st_types.specs.declared.kind.Kind.{Kind}
use Rattle.st_types.specs.declared.data_type.ArrayType.{ArrayType}
use Rattle.st_types.specs.declared.data_type.VariableType.{VariableType}
use Rattle.st_rules.specs.declared.limits.TheConstants.{MAX_TYPE_DEPTH}
use Rattle.st_meaning.specs.NameTypes.{Declared}
use Rattle.st_meaning.specs.Scopes.{Name}
use Rattle.symbols.specs.Agreeing.{Agree}
use Rattle.layout.specs.Shapes.{Shape, Parts, array, part_then, size, sizes}
use Rattle.layout.specs.Types.{NamedSite, Composition, of_kind, of_elements, of_parts, composition_of, element_of}
use Rattle.layout.specs.Types.{lower_of, composed_shape}
use Rattle.layout.specs.Types.{is_within_depth, parts_of, parts_within, shape_of_type}
use Rattle.layout.specs.Compositions.{composition_view}
use Rattle.layout.specs.Sizes.{capped_size}
use Rattle.layout.specs.declared.compositions.Composition as code
use Rattle.layout.specs.declared.compositions.Composition.TheVariants.{Kind as Elementary, Elements, Fields, Block}
use Rattle.layout.specs.declared.compositions.Composition.TheVariants.{Standard, Nothing}
use Rattle.slot_trees.specs.Tables.{part_at}
use Rattle.st_link.specs.Members.{member_found}
use Rattle.st_link.specs.NamedMembers.{NamedType, members_in, name_and_type}
use Rattle.st_link.specs.Shapes.{AreExpanded, HasParts, IsExpanded, IsMemberPlace, IsAggregate, member_of, typed_parts}
use Rattle.st_link.specs.Shapes.{has_parts, is_array, is_plain}
use Rattle.st_link.specs.declared.aggregates.Aggregate.{Aggregate}
use Rattle.symbols.specs.Found.{found, or_found}
use Rattle.symbols.specs.declared.index.Index.{Index}
use Rattle.std.proofs.lemmas.Slice.Eq.{bytes_eq-Decides}
use Rattle.st_rules.specs.TypeRules.{elements_of_array}
use Rattle.layout.specs.Compositions.{named_type}
use Rattle.st_link.specs.Shapes.{KnowsAggregates}
use Rattle.st_link.proofs.DepthLemmas.{composed_whole, parts_expanded}
use Rattle.std.proofs.lemmas.Bool.{and_parts}

-- the shapes of members by their sites
typed_sites : (text : Declared) (ds : List NamedSite)
    → parts_of (shape_of_type text) ds ≡ typed_parts text (map name_and_type ds)
typed_sites text [] = refl
typed_sites text (d ∷ ds) = ap (part_then d.name (shape_of_type text d.site.declared)) (typed_sites text ds)

expanded_sites : (text : Declared) (ds : List NamedSite)
    → list_all (λ d. is_within_depth MAX_TYPE_DEPTH text d.site.declared) ds ≡ true
    → AreExpanded text (map name_and_type ds)
expanded_sites text ds h = sym (same ds) ∙ h
  where
    same : (es : List NamedSite) → list_all (λ d. is_within_depth MAX_TYPE_DEPTH text d.site.declared) es
        ≡ list_all (λ e. is_within_depth MAX_TYPE_DEPTH text e.1) (map name_and_type es)
    same [] = refl
    same (d ∷ es) = ap (λ b. is_within_depth MAX_TYPE_DEPTH text d.site.declared && b) (same es)

pub expanded_members : (text : Declared) (t : VariableType) (c : Composition) → composition_of text t ≡ c
    → IsExpanded text t → AreExpanded text (members_in c)
expanded_members text t c is h = by_parts c (parts_expanded MAX_TYPE_DEPTH text t c is h)
  where
    by_parts : (d : Composition) → parts_within (is_within_depth MAX_TYPE_DEPTH text) d ≡ true
        → AreExpanded text (members_in d)
    by_parts (of_kind k) g = refl
    by_parts (of_elements a) g = refl
    by_parts (of_parts w ds) g = expanded_sites text ds g

pub expanded_element : (text : Declared) (t : VariableType) (a : ArrayType) → composition_of text t ≡ of_elements a
    → IsExpanded text t → IsExpanded text (element_of a)
expanded_element text t a is h = parts_expanded MAX_TYPE_DEPTH text t (of_elements a) is h

-- a composition that is neither elementary nor an array
abbrev pub HasMembers : Composition → Type 0
HasMembers (of_kind k) = ⊥
HasMembers (of_elements a) = ⊥
HasMembers (of_parts w ds) = Unit {0}

pub has_members : (c : code.Composition) → ((k : Kind) → c ≡ Elementary k → ⊥)
    → ((a : Bor ArrayType) → c ≡ Elements a → ⊥) → HasMembers (composition_view c)
has_members (Elementary k) g h = absurd (g k refl)
has_members (Elements a) g h = absurd (h a refl)
has_members (Fields fs) g h = tt
has_members (Block bs) g h = tt
has_members (Standard b) g h = tt
has_members Nothing g h = tt

-- by its shape
whole_by : (text : Declared) (t : VariableType) (sh : Shape) (w : Aggregate) → shape_of_type text t ≡ sh
    → w.size ≡ capped_size (size sh)
    → ((x : Name) → Agree (IsMemberPlace text 0) (member_found w.members x) (member_of sh x)) → IsAggregate text t w
whole_by text t sh w is slots members = record {
  slots = slots ∙ ap (λ s. capped_size (size s)) (sym is);
  members = λ x.
      subst (λ s. Agree (IsMemberPlace text 0) (member_found w.members x) (member_of s x)) (sym is) (members x);
}

pub whole_kind : (text : Declared) (t : VariableType) (k : Kind) (w : Aggregate) → composition_of text t ≡ of_kind k
    → IsExpanded text t → w.size ≡ 1 → ((x : Name) → member_found w.members x ≡ None) → IsAggregate text t w
whole_kind text t k w is h one none =
    whole_by text t _ w (composed_whole MAX_TYPE_DEPTH text t (of_kind k) is h) (one ∙ grind (arith))
    (λ x. subst (λ o. Agree (IsMemberPlace text 0) o None) (sym (none x)) tt)

pub whole_elements : (text : Declared) (t : VariableType) (a : ArrayType) (n : ℕ) (w : Aggregate)
    → composition_of text t ≡ of_elements a → IsExpanded text t → n ≡ capped_size (size (shape_of_type text (element_of a)))
    → w.size ≡ capped_size (elements_of_array a * n) → ((x : Name) → member_found w.members x ≡ None) → IsAggregate text t w
whole_elements text t a n w is h one all none =
    whole_by text t _ w (composed_whole MAX_TYPE_DEPTH text t (of_elements a) is h)
    (all ∙ ap (λ m. capped_size (elements_of_array a * m)) one ∙ product (elements_of_array a) (size (shape_of_type text (element_of a))))
    (λ x. subst (λ o. Agree (IsMemberPlace text 0) o None) (sym (none x)) tt)
  where
    product : (c m : ℕ) → capped_size (c * capped_size m) ≡ capped_size (c * m)
    product c m = grind (arith)

-- how many slots an array takes
pub array_size : (text : Declared) (t : VariableType) (a : ArrayType) (n : ℕ) → composition_of text t ≡ of_elements a
    → IsExpanded text t → n ≡ capped_size (size (shape_of_type text (element_of a)))
    → capped_size (elements_of_array a * n) ≡ capped_size (size (shape_of_type text t))
array_size text t a n is h one =
    ap (λ m. capped_size (elements_of_array a * m)) one ∙ product (elements_of_array a) (size (shape_of_type text (element_of a)))
    ∙ sym (ap (λ sh. capped_size (size sh)) (composed_whole MAX_TYPE_DEPTH text t (of_elements a) is h))
  where
    product : (c m : ℕ) → capped_size (c * capped_size m) ≡ capped_size (c * m)
    product c m = grind (arith)

pub whole_parts : (text : Declared) (t : VariableType) (c : Composition) (w : Aggregate) → composition_of text t ≡ c
    → HasMembers c → IsExpanded text t → HasParts text (members_in c) w → IsAggregate text t w
whole_parts text t (of_kind k) w is some h g = absurd some
whole_parts text t (of_elements a) w is some h g = absurd some
whole_parts text t (of_parts o ds) w is some h g =
    whole_by text t _ w (composed_whole MAX_TYPE_DEPTH text t (of_parts o ds) is h)
    (g.slots ∙ ap (λ ps. capped_size (sizes ps)) (sym (typed_sites text ds)))
    (λ x. subst (λ ps. Agree (IsMemberPlace text 0) (member_found w.members x) (part_at ps x))
    (sym (typed_sites text ds)) (g.members x))

-- the form of a shape, by the type's composition
abbrev pub plain_made : Composition → Bool
plain_made (of_kind k) = true
plain_made (of_elements a) = false
plain_made (of_parts w ds) = false

abbrev pub parts_made : Composition → Bool
parts_made (of_kind k) = false
parts_made (of_elements a) = false
parts_made (of_parts w ds) = true

abbrev pub array_made : Composition → Bool
array_made (of_kind k) = false
array_made (of_elements a) = true
array_made (of_parts w ds) = false

pub plain_shape : (text : Declared) (t : VariableType) (c : Composition) (b : Bool) → c ≡ composition_of text t
    → b ≡ plain_made c → IsExpanded text t → b ≡ is_plain (shape_of_type text t)
plain_shape text t (of_kind k) b is by h =
    by ∙ sym (ap is_plain (composed_whole MAX_TYPE_DEPTH text t (of_kind k) (sym is) h))
plain_shape text t (of_elements a) b is by h =
    by ∙ sym (ap is_plain (composed_whole MAX_TYPE_DEPTH text t (of_elements a) (sym is) h))
plain_shape text t (of_parts w ds) b is by h =
    by ∙ sym (ap is_plain (composed_whole MAX_TYPE_DEPTH text t (of_parts w ds) (sym is) h))

pub parts_shape : (text : Declared) (t : VariableType) (c : Composition) (b : Bool) → c ≡ composition_of text t
    → b ≡ parts_made c → IsExpanded text t → b ≡ has_parts (shape_of_type text t)
parts_shape text t (of_kind k) b is by h =
    by ∙ sym (ap has_parts (composed_whole MAX_TYPE_DEPTH text t (of_kind k) (sym is) h))
parts_shape text t (of_elements a) b is by h =
    by ∙ sym (ap has_parts (composed_whole MAX_TYPE_DEPTH text t (of_elements a) (sym is) h))
parts_shape text t (of_parts w ds) b is by h =
    by ∙ sym (ap has_parts (composed_whole MAX_TYPE_DEPTH text t (of_parts w ds) (sym is) h))

pub array_shape : (text : Declared) (t : VariableType) (c : Composition) → c ≡ composition_of text t
    → array_made c ≡ false → IsExpanded text t → is_array (shape_of_type text t) ≡ false
array_shape text t (of_kind k) is by h = ap is_array (composed_whole MAX_TYPE_DEPTH text t (of_kind k) (sym is) h)
array_shape text t (of_elements a) is by h = absurd (cc)
array_shape text t (of_parts w ds) is by h =
    ap is_array (composed_whole MAX_TYPE_DEPTH text t (of_parts w ds) (sym is) h)

pub not_plain : (c : code.Composition) → ((k : Kind) → c ≡ Elementary k → ⊥) → false ≡ plain_made (composition_view c)
not_plain (Elementary k) g = absurd (g k refl)
not_plain (Elements a) g = refl
not_plain (Fields fs) g = refl
not_plain (Block bs) g = refl
not_plain (Standard b) g = refl
not_plain Nothing g = refl

pub not_array : (c : code.Composition) → ((a : Bor ArrayType) → c ≡ Elements a → ⊥)
    → array_made (composition_view c) ≡ false
not_array (Elementary k) h = refl
not_array (Elements a) h = absurd (h a refl)
not_array (Fields fs) h = refl
not_array (Block bs) h = refl
not_array (Standard b) h = refl
not_array Nothing h = refl

pub with_parts : (c : code.Composition) → ((k : Kind) → c ≡ Elementary k → ⊥)
    → ((a : Bor ArrayType) → c ≡ Elements a → ⊥) → true ≡ parts_made (composition_view c)
with_parts (Elementary k) g h = absurd (g k refl)
with_parts (Elements a) g h = absurd (h a refl)
with_parts (Fields fs) g h = refl
with_parts (Block bs) g h = refl
with_parts (Standard b) g h = refl
with_parts Nothing g h = refl

-- an array with its elements
pub elements_shape : (text : Declared) (t : VariableType) (a : ArrayType) → of_elements a ≡ composition_of text t
    → IsExpanded text t → shape_of_type text t ≡ array (lower_of a) (elements_of_array a) (shape_of_type text (element_of a))
elements_shape text t a is h = composed_whole MAX_TYPE_DEPTH text t (of_elements a) (sym is) h

-- an elementary variable takes one slot
pub kind_size : (text : Declared) (t : VariableType) (k : Kind) → composition_of text t ≡ of_kind k
    → IsExpanded text t → 1 ≡ capped_size (size (shape_of_type text t))
kind_size text t k is h = sym (ap (λ sh. capped_size (size sh)) (composed_whole MAX_TYPE_DEPTH text t (of_kind k) is h))

-- a type that is neither a structure nor an instance has no members
pub no_members : (text : Declared) (t : VariableType) (c : Composition) (x : Name) → composition_of text t ≡ c
    → parts_made c ≡ false → IsExpanded text t
    → Agree (IsMemberPlace text 0) None (member_of (shape_of_type text t) x)
no_members text t (of_kind k) x is none h =
    subst (λ sh. Agree (IsMemberPlace text 0) None (member_of sh x))
    (sym (composed_whole MAX_TYPE_DEPTH text t (of_kind k) is h)) tt
no_members text t (of_elements a) x is none h =
    subst (λ sh. Agree (IsMemberPlace text 0) None (member_of sh x))
    (sym (composed_whole MAX_TYPE_DEPTH text t (of_elements a) is h)) tt
no_members text t (of_parts w ds) x is none h = absurd (cc)

pub first_expanded : (text : Declared) (e : NamedType) (es : List NamedType) → AreExpanded text (e ∷ es)
    → IsExpanded text e.1
first_expanded text e es h =
    (and_parts (is_within_depth MAX_TYPE_DEPTH text e.1) (list_all (λ f. is_within_depth MAX_TYPE_DEPTH text f.1) es) h).0

-- one more whole with an entry
pub knows_more : (text : Declared) (old new : Index Aggregate) (x : Name) (w : Aggregate) → KnowsAggregates text old
    → ((q : Name) → found new q ≡ or_found (found old q) (if bytes_eq q x then Some w else None))
    → ((at : ℕ) → IsExpanded text (named_type x at) → IsAggregate text (named_type x at) w) → KnowsAggregates text new
knows_more text old new x w knows added one q v is at h = by_found (found old q) refl (sym (added q) ∙ is)
  where
    by_name : (b : Bool) → bytes_eq q x ≡ b → (if b then Some w else None) ≡ Some v → IsAggregate text (named_type q at) v
    by_name true e g =
        let same = (bytes_eq-Decides q x).0 e in
        let kept : w ≡ v = cc in
        subst (IsAggregate text (named_type q at)) kept
        (subst (λ y. IsAggregate text (named_type y at) w) (sym same)
        (one at (subst (λ y. IsExpanded text (named_type y at)) same h)))
    by_name false e g = absurd (cc)

    by_found : (o : Option Aggregate) → found old q ≡ o → or_found o (if bytes_eq q x then Some w else None) ≡ Some v
        → IsAggregate text (named_type q at) v
    by_found (Some u) e g =
        let kept : u ≡ v = cc in knows q v (e ∙ ap Some kept) at h
    by_found None e g = by_name (bytes_eq q x) refl g
