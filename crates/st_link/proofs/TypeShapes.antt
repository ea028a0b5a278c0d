-- The shape of a type has the type's parts: members, elements, or nothing but an elementary part.
use Rattle.std.proofs.Common.{◌≡◌, ℕ, zero, suc, ◌+◌, ◌*◌, ◌<◌, Bool, true, false, if◌then◌else◌, List, [], ◌∷◌}
use Rattle.std.proofs.Common.{Some, None, refl, sym, ap, ◌∙◌, arith}
use Rattle.std.specs.Prelude.{bytes_eq, nat_lt}
use Rattle.std.specs.List.{list_all}
use Rattle.std.proofs.Math.Nat.{mul-pos}
use Rattle.std.proofs.lemmas.Bool.Decides.{nat_tests}
use Rattle.st_types.specs.declared.kind.Kind.{Kind}
use Rattle.st_types.specs.declared.data_type.ArrayType.{ArrayType}
use Rattle.st_types.specs.declared.data_type.VariableType.{VariableType}
use Rattle.st_meaning.specs.NameTypes.{Declared, kind_among, definition_of}
use Rattle.st_meaning.specs.Scopes.{Name}
use Rattle.st_rules.specs.TypeRules.{elements_of_array}
use Rattle.layout.specs.Shapes.{PartsOwner, Shape, Parts, no_parts, plain, array, parts, size, sizes}
use Rattle.layout.specs.Types.{Site, NamedSite, site_named, of_kind, of_parts, defined_composition}
use Rattle.layout.specs.Types.{composition_of, lower_of, parts_of, composed_shape, shape_within}
use Rattle.layout.specs.Types.{parts_within, is_within_depth}
use Rattle.st_link.proofs.SoundMembers.{IsPart, IsArray}
use Rattle.slot_trees.specs.Tables.{Part, part_at, part_after}
use Rattle.st_types.proofs.TestLemmas.{above_zero}
use Rattle.st_types.proofs.OptionLemmas.{some_is}
use Rattle.std.proofs.lemmas.Bool.{and_parts}

-- room for a part
room_left : (a b : ℕ) → nat_lt 0 a ≡ true → nat_lt 0 (a + b) ≡ true
room_left a b h = grind (arith, nat_tests)

room_right : (a b : ℕ) → nat_lt 0 b ≡ true → nat_lt 0 (a + b) ≡ true
room_right a b h = grind (arith, nat_tests)

has_room : (a : ℕ) → 0 < a → nat_lt 0 a ≡ true
has_room a h = grind (arith, nat_tests)

pub room_of_both : (a b : ℕ) → nat_lt 0 a ≡ true → nat_lt 0 b ≡ true → nat_lt 0 (a * b) ≡ true
room_of_both a b h g = has_room (a * b) (mul-pos (above_zero a h) (above_zero b g))

-- the part of a name among declared ones
pub record NamedPart (shape : VariableType → Shape) (ds : List NamedSite) (x : Name) (s : Site) : Type 0 where
  pub part : Part
  pub there : part_at (parts_of shape ds) x ≡ Some part
  pub is : part.shape ≡ shape s.declared
  pub room : nat_lt 0 (size part.shape) ≡ true → nat_lt 0 (sizes (parts_of shape ds)) ≡ true

part_later : (shape : VariableType → Shape) (d : NamedSite) (ds : List NamedSite) (x : Name) (s : Site)
    → bytes_eq x d.name ≡ false → NamedPart shape ds x s → NamedPart shape (d ∷ ds) x s
part_later shape d ds x s e i =
    let there = i.there in
    record {
      part = part_after (size (shape d.site.declared)) i.part;
      there = rw (e, there) refl;
      is = i.is;
      room = λ r. room_right (size (shape d.site.declared)) (sizes (parts_of shape ds)) (i.room r);
    }

part_first : (shape : VariableType → Shape) (d : NamedSite) (ds : List NamedSite) (x : Name) (s : Site)
    → bytes_eq x d.name ≡ true → d.site ≡ s → NamedPart shape (d ∷ ds) x s
part_first shape d ds x s e same = record {
  part = record { offset = 0; shape = shape d.site.declared };
  there = rw e refl;
  is = ap (λ t. shape t.declared) same;
  room = λ r. room_left (size (shape d.site.declared)) (sizes (parts_of shape ds)) r;
}

pub named_part : (shape : VariableType → Shape) (ds : List NamedSite) (x : Name) (s : Site) → site_named ds x ≡ Some s
    → NamedPart shape ds x s
named_part shape [] x s h = absurd (cc)
named_part shape (d ∷ ds) x s h = by_test (bytes_eq x d.name) refl h (named_part shape ds x s)
  where
    by_test : (b : Bool) → bytes_eq x d.name ≡ b → (if b then Some d.site else site_named ds x) ≡ Some s
        → (site_named ds x ≡ Some s → NamedPart shape ds x s) → NamedPart shape (d ∷ ds) x s
    by_test true e g ih = part_first shape d ds x s e (some_is g)
    by_test false e g ih = part_later shape d ds x s e (ih g)

named_passes : (p : VariableType → Bool) (ds : List NamedSite) → list_all (λ d. p d.site.declared) ds ≡ true
    → (x : Name) (s : Site) → site_named ds x ≡ Some s → p s.declared ≡ true
named_passes p [] all x s h = absurd (cc)
named_passes p (d ∷ ds) all x s h =
    let b = and_parts (p d.site.declared) (list_all (λ d. p d.site.declared) ds) all in
    by_test (bytes_eq x d.name) h b.0 (named_passes p ds b.1 x s)
  where
    by_test : (b : Bool) → (if b then Some d.site else site_named ds x) ≡ Some s → p d.site.declared ≡ true
        → (site_named ds x ≡ Some s → p s.declared ≡ true) → p s.declared ≡ true
    by_test true g here ih = ap (λ t. p t.declared) (sym (some_is g)) ∙ here
    by_test false g here ih = ih g

-- a part of a type is one of its shape
pub record HasPart (text : Declared) (n : ℕ) (t : VariableType) (x : Name) (u : VariableType) : Type 0 where
  pub whole : PartsOwner
  pub members : Parts
  pub is : shape_within n text t ≡ parts whole members
  pub part : Part
  pub there : part_at members x ≡ Some part
  pub depth : ℕ
  pub within : is_within_depth depth text u ≡ true
  pub shape : part.shape ≡ shape_within depth text u
  pub room : nat_lt 0 (size part.shape) ≡ true → nat_lt 0 (sizes members) ≡ true

pub has_part : (text : Declared) (n : ℕ) (t : VariableType) (x : Name) (u : VariableType)
    → is_within_depth n text t ≡ true → IsPart text t x u → HasPart text n t x u
unfolding shape_within is_within_depth
has_part text zero t x u within i = absurd (cc)
has_part text (suc n) t x u within i =
    let p = named_part (shape_within n text) i.sites x i.own i.named in
    let all : list_all (λ d. is_within_depth n text d.site.declared) i.sites ≡ true =
    ap (parts_within (is_within_depth n text)) (sym i.composition) ∙ within in
    record {
      whole = i.whole;
      members = parts_of (shape_within n text) i.sites;
      is = ap (composed_shape (shape_within n text)) i.composition;
      part = p.part;
      there = p.there;
      depth = n;
      within = ap (is_within_depth n text) (sym i.declared)
          ∙ named_passes (is_within_depth n text) i.sites all x i.own i.named;
      shape = p.is ∙ ap (shape_within n text) i.declared;
      room = p.room;
    }

-- the elements of an array
pub record HasElements (text : Declared) (n : ℕ) (t u : VariableType) (a : ArrayType) : Type 0 where
  pub depth : ℕ
  pub is : shape_within n text t ≡ array (lower_of a) (elements_of_array a) (shape_within depth text u)
  pub within : is_within_depth depth text u ≡ true

pub has_elements : (text : Declared) (n : ℕ) (t u : VariableType) → is_within_depth n text t ≡ true
    → (i : IsArray text t u) → HasElements text n t u i.array
unfolding shape_within is_within_depth
has_elements text zero t u within i = absurd (cc)
has_elements text (suc n) t u within i = record {
  depth = n;
  is = ap (composed_shape (shape_within n text)) i.composition
      ∙ ap (λ s. array (lower_of i.array) (elements_of_array i.array) (shape_within n text s)) i.element;
  within = ap (is_within_depth n text) (sym i.element)
      ∙ ap (parts_within (is_within_depth n text)) (sym i.composition) ∙ within;
}

-- an elementary or enumerated type
pub plain_shape : (text : Declared) (n : ℕ) (t : VariableType) (k : Kind) → is_within_depth n text t ≡ true
    → kind_among text.types t ≡ Some k → shape_within n text t ≡ plain k
unfolding shape_within is_within_depth
plain_shape text zero t k within h = absurd (cc)
plain_shape text (suc n) t k within h =
    ap (λ m. composed_shape (shape_within n text)
    (elim m [ Some l ↦ of_kind l | None ↦ defined_composition text t (definition_of text t) ])) h

-- a type that is made of parts
pub record HasMembers (text : Declared) (n : ℕ) (t : VariableType) : Type 0 where
  pub whole : PartsOwner
  pub members : Parts
  pub is : shape_within n text t ≡ parts whole members

pub has_members : (text : Declared) (n : ℕ) (t : VariableType) (w : PartsOwner) (ds : List NamedSite)
    → is_within_depth n text t ≡ true → composition_of text t ≡ of_parts w ds → HasMembers text n t
unfolding shape_within is_within_depth
has_members text zero t w ds within h = absurd (cc)
has_members text (suc n) t w ds within h = record {
  whole = w;
  members = parts_of (shape_within n text) ds;
  is = ap (composed_shape (shape_within n text)) h;
}

-- the members of a shape
abbrev pub members_in : Shape → Parts
members_in (plain k) = no_parts
members_in (array lower count sh) = no_parts
members_in (parts w ps) = ps
