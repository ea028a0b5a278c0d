-- The values of a layout's slots agree with a unit's declarations.
use Rattle.std.proofs.Common.{◌≡◌, ℕ, zero, suc, ◌+◌, Bool, true, false, ◌&&◌, ◌||◌, if◌then◌else◌, List, [], ◌∷◌, ◌++◌}
use Rattle.std.proofs.Common.{length, slice_get, Option, Some, None, option_and_then, sym, ap, ◌∙◌}
use Rattle.std.proofs.Common.{ℤ}
use Rattle.std.specs.Prelude.{bytes_eq}
use Rattle.std.specs.List.{list_all}
use Rattle.st_types.specs.declared.kind.Kind.{Kind}
use Rattle.st_types.specs.declared.path.Step.{Step}
use Rattle.st_types.specs.declared.path.Step.TheVariants.{Member, Element}
use Rattle.st_types.specs.Kinds.{holds}
use Rattle.st_types.specs.Values.{Datum}
use Rattle.st_types.specs.Paths.{Path}
use Rattle.st_types.specs.declared.data_type.VariableType.{VariableType}
use Rattle.st_meaning.specs.Evaluation.{known, element_at}
use Rattle.st_meaning.specs.NameTypes.{Declared, definition_of, kind_among}
use Rattle.st_meaning.specs.Scopes.{Name, Scope, member_at, seen}
use Rattle.st_meaning.specs.Slots.{Slot, IsLayout, variables_with, inputs_in}
use Rattle.st_meaning.specs.Stores.{Store, get, has_part}
use Rattle.st_meaning.proofs.SlotLemmas.{seen_slot}
use Rattle.st_rules.specs.Environments.{Environment, section_of}
use Rattle.st_rules.specs.TargetRules.{is_fixed}
use Rattle.st_rules.specs.TypeRules.{elements_of_array}
use Rattle.st_link.specs.Soundness.{HasKind, IsPlace, root, part, element, Agrees}
use Rattle.layout.specs.Shapes.{Shape, plain, array, parts, in_bounds, leads_on, part_named}
use Rattle.layout.specs.Types.{NamedSite, Site, site_named, of_kind}
use Rattle.layout.specs.Types.{defined_composition, composition_of, lower_of, element_of, parts_of}
use Rattle.layout.specs.Types.{composed_shape, shape_within, parts_within, is_within_depth}
use Rattle.layout.specs.LayoutVariables.{Owned}
use Rattle.layout.specs.TextLayouts.{further, variable_shape, slots_of}
use Rattle.layout.specs.VariableSlots.{path_to, are_declared_once, has_slot_within, slot, LiesAt}
use Rattle.layout.proofs.VariableLemmas.{variables_layout, variable_stands}
use Rattle.st_link.specs.Homes.{shape_at_steps, IsLayoutPart, HaveSlots, are_names_different, AreValuesOf}
use Rattle.st_link.proofs.ShapeLemmas.{leaf_has, leads_behind, behind_step}
use Rattle.st_link.proofs.SeenLemmas.{value_at, same_length, variable_there, parts_by_slots}
use Rattle.st_link.proofs.SoundMembers.{IsPart, IsArray, member_part, element_part}
use Rattle.st_types.proofs.OptionLemmas.{some_is}
use Rattle.std.proofs.lemmas.Bool.{and_parts}

-- one of a list that passes
listed : (within : VariableType → Bool) (ds : List NamedSite) (x : Name) (s : Site)
    → list_all (λ d. within d.site.declared) ds ≡ true → site_named ds x ≡ Some s → within s.declared ≡ true
listed within [] x s all h = absurd (cc)
listed within (d ∷ ds) x s all h =
    let b = and_parts (within d.site.declared) (list_all (λ d. within d.site.declared) ds) all in
    by_test (bytes_eq x d.name) h b.0 (listed within ds x s b.1)
  where
    by_test : (b : Bool) → (if b then Some d.site else site_named ds x) ≡ Some s → within d.site.declared ≡ true
        → (site_named ds x ≡ Some s → within s.declared ≡ true) → within s.declared ≡ true
    by_test true e here ih = let q : d.site ≡ s = some_is e in ap (λ u. within u.declared) (sym q) ∙ here
    by_test false e here ih = ih e

shape_named : (inner : VariableType → Shape) (ds : List NamedSite) (x : Name) (s : Site) → site_named ds x ≡ Some s
    → part_named (parts_of inner ds) x ≡ Some (inner s.declared)
shape_named inner [] x s h = absurd (cc)
shape_named inner (d ∷ ds) x s h = by_test (bytes_eq x d.name) h (shape_named inner ds x s)
  where
    by_test : (b : Bool) → (if b then Some d.site else site_named ds x) ≡ Some s
        → (site_named ds x ≡ Some s → part_named (parts_of inner ds) x ≡ Some (inner s.declared))
        → (if b then Some (inner d.site.declared) else part_named (parts_of inner ds) x) ≡ Some (inner s.declared)
    by_test true e ih = let q : d.site ≡ s = some_is e in ap (λ u. Some (inner u.declared)) q
    by_test false e ih = ih e

-- the part after a step, of a type that is at most `n` deep
pub record IsBehind (text : Declared) (sub : Shape) (x : Step) (u : VariableType) : Type 0 where
  pub depth : ℕ
  pub within : is_within_depth depth text u ≡ true
  pub shape : shape_at_steps sub (x ∷ []) ≡ Some (shape_within depth text u)

pub behind_member : (text : Declared) (t : VariableType) (y : Name) (u : VariableType) → IsPart text t y u → (n : ℕ)
    → is_within_depth n text t ≡ true → IsBehind text (shape_within n text t) (Member y) u
unfolding shape_within is_within_depth
behind_member text t y u i zero h = absurd (cc)
behind_member text t y u i (suc n) h =
    let a : list_all (λ d. is_within_depth n text d.site.declared) i.sites ≡ true =
    ap (parts_within (is_within_depth n text)) (sym i.composition) ∙ h in
    let s : composed_shape (shape_within n text) (composition_of text t)
    ≡ parts i.whole (parts_of (shape_within n text) i.sites) =
    ap (composed_shape (shape_within n text)) i.composition in
    let d = i.declared in
    record {
      depth = n;
      within = ap (is_within_depth n text) (sym d) ∙ listed (is_within_depth n text) i.sites y i.own a i.named;
      shape = ap (λ sh. shape_at_steps sh (Member y ∷ [])) s
          ∙ ap (option_and_then (λ sh. shape_at_steps sh [])) (shape_named (shape_within n text) i.sites y i.own i.named)
          ∙ ap (λ v. Some (shape_within n text v)) d;
    }

behind_element : (text : Declared) (t : VariableType) (z : ℤ) (u : VariableType) → IsArray text t u → (n : ℕ)
    → is_within_depth n text t ≡ true → leads_on (shape_within n text t) (Element z ∷ []) ≡ true
    → IsBehind text (shape_within n text t) (Element z) u
unfolding shape_within is_within_depth
behind_element text t z u i zero h g = absurd (cc)
behind_element text t z u i (suc n) h g =
    let a : is_within_depth n text (element_of i.array) ≡ true =
    ap (parts_within (is_within_depth n text)) (sym i.composition) ∙ h in
    let s : composed_shape (shape_within n text) (composition_of text t)
    ≡ array (lower_of i.array) (elements_of_array i.array) (shape_within n text (element_of i.array)) =
    ap (composed_shape (shape_within n text)) i.composition in
    let l : (in_bounds (lower_of i.array) (elements_of_array i.array) z
    && leads_on (shape_within n text (element_of i.array)) []) ≡ true =
    ap (λ sh. leads_on sh (Element z ∷ [])) (sym s) ∙ g in
    let b = (and_parts (in_bounds (lower_of i.array) (elements_of_array i.array) z)
    (leads_on (shape_within n text (element_of i.array)) []) l).0 in
    let d = i.element in
    record {
      depth = n;
      within = ap (is_within_depth n text) (sym d) ∙ a;
      shape = ap (λ sh. shape_at_steps sh (Element z ∷ [])) s
          ∙ ap (λ c. if c then Some (shape_within n text (element_of i.array)) else None) b
          ∙ ap (λ v. Some (shape_within n text v)) d;
    }

behind_kind : (text : Declared) (t : VariableType) (k : Kind) → kind_among text.types t ≡ Some k → (n : ℕ)
    → is_within_depth n text t ≡ true → shape_within n text t ≡ plain k
unfolding shape_within is_within_depth
behind_kind text t k e zero h = absurd (cc)
behind_kind text t k e (suc n) h =
    ap (λ m. composed_shape (shape_within n text)
    (elim m [ Some l ↦ of_kind l | None ↦ defined_composition text t (definition_of text t) ])) e

module _ (env : Environment) (variables : List Owned) (w : Scope) (vs : List Datum)
    (names : are_names_different env.text ≡ true) (once : are_declared_once env.text variables ≡ true)
    (values : AreValuesOf (slots_of env.text variables) vs)
    (image : w.image ≡ inputs_in (slots_of env.text variables) vs) (homes : HaveSlots env variables w) where
  abbrev layout : List Slot
  layout = slots_of env.text variables

  abbrev store : Store
  store = variables_with (slots_of env.text variables) vs

  distinct : IsLayout layout
  distinct = variables_layout env.text variables once

  len : length layout ≡ length vs
  len = same_length layout vs values

  stands : {f : Bool} {p : Path} {t : VariableType} (h : IsLayoutPart env.text variables f p t)
      → LiesAt layout h.variable.is_input (path_to h.owner h.name) (variable_shape env.text h.variable) h.first
  stands h = variable_stands env.text variables once h.owner h.name h.first h.variable h.there

  -- one step further in
  next : {f : Bool} {p : Path} {t : VariableType} (h : IsLayoutPart env.text variables f p t) (x : Step) (q : Path)
      (u : VariableType) → q ≡ further (path_to h.owner h.name) (h.steps ++ x ∷ [])
      → IsBehind env.text (shape_within h.depth env.text t) x u → IsLayoutPart env.text variables f q u
  next {f} {p} {t} h x q u e b = record {
    owner = h.owner;
    name = h.name;
    steps = h.steps ++ x ∷ [];
    first = h.first;
    variable = h.variable;
    depth = b.depth;
    path = e;
    there = h.there;
    free = h.free;
    within = b.within;
    shape = behind_step (variable_shape env.text h.variable) (shape_within h.depth env.text t)
        (shape_within b.depth env.text u) h.steps x h.shape b.shape;
  }

  leads_there : {f : Bool} {p : Path} {t : VariableType} (h : IsLayoutPart env.text variables f p t) (z : ℤ)
      → (has_part w.image (element_at p z) || has_part store (element_at p z)) ≡ true
      → leads_on (shape_within h.depth env.text t) (Element z ∷ []) ≡ true
  leads_there {f} {p} {t} h z g =
      let e : element_at p z ≡ further (path_to h.owner h.name) (h.steps ++ Element z ∷ []) =
      ap (λ q. element_at q z) h.path in
      let a : has_slot_within layout (element_at p z) ≡ true =
      sym (parts_by_slots layout vs len (element_at p z))
      ∙ ap (λ i. has_part i (element_at p z) || has_part store (element_at p z)) (sym image) ∙ g in
      sym (leads_behind (variable_shape env.text h.variable) (shape_within h.depth env.text t) h.steps (Element z ∷ [])
      h.shape)
      ∙ sym ((stands h).only (h.steps ++ Element z ∷ [])) ∙ ap (has_slot_within layout) (sym e) ∙ a

  home_of : {x : Name} {p : Path} {t : VariableType} → IsPlace env w store x p t
      → IsLayoutPart env.text variables (is_fixed (section_of env x)) p t
  home_of (root {t} x e) = homes x t e
  home_of (part {x} {p} {t} {u} y place e) =
      let h = home_of place in
      next h (Member y) (member_at p y) u (ap (λ q. member_at q y) h.path)
      (behind_member env.text t y u (member_part env.text names t y u e) h.depth h.within)
  home_of (element {x} {p} {t} {u} z place e g) =
      let h = home_of place in
      next h (Element z) (element_at p z) u (ap (λ q. element_at q z) h.path)
      (behind_element env.text t z u (element_part env.text names t u e) h.depth h.within (leads_there h z g))

  -- the slot of a home of an elementary or enumerated type
  record HasSlotOf (p : Path) (fixed : Bool) (k : Kind) : Type 0 where
    number : ℕ
    slot : Slot
    at : slice_get layout number ≡ Some slot
    path : slot.path ≡ p
    kind : slot.kind ≡ k
    free : fixed ≡ false → slot.is_input ≡ false

  slot_of_home : {f : Bool} {p : Path} {t : VariableType} (h : IsLayoutPart env.text variables f p t) (k : Kind)
      → kind_among env.text.types t ≡ Some k → HasSlotOf p f k
  slot_of_home {f} {p} {t} h k e =
      let i = leaf_has (variable_shape env.text h.variable) h.steps k
      (h.shape ∙ ap Some (behind_kind env.text t k e h.depth h.within)) in
      record {
        number = h.first + i.position.number;
        slot = slot (further (path_to h.owner h.name) h.steps) i.position.kind h.variable.is_input;
        at = (stands h).at h.steps i.position i.is;
        path = sym h.path;
        kind = i.kind;
        free = h.free;
      }

  known_value : (o : Option Datum) (v : Datum) → o ≡ Some v → holds v.kind v.number ≡ true → known o ≡ Some v
  known_value o v e h = ap known e ∙ ap (λ b. if b then Some v else None) h

  seen_home : {f : Bool} {p : Path} {t : VariableType} (h : IsLayoutPart env.text variables f p t) (k : Kind)
      → kind_among env.text.types t ≡ Some k → HasKind (known (seen w.image store p)) k
  seen_home {f} {p} {t} h k e =
      let l = slot_of_home h k e in
      let v = value_at layout vs values l.number l.slot l.at in
      let a : seen w.image store p ≡ Some v.datum =
      ap (λ i. seen i store p) image ∙ ap (seen (inputs_in layout vs) store) (sym l.path)
      ∙ seen_slot layout vs distinct len l.number l.slot l.at ∙ v.is in
      let o = v.is_of in
      record {
        datum = v.datum;
        there = known_value (seen w.image store p) v.datum a o.held;
        is_of = record { kind = o.kind ∙ l.kind; held = o.held };
      }

  pub stored_home : {f : Bool} {p : Path} {t : VariableType} (h : IsLayoutPart env.text variables f p t) (k : Kind) → f ≡ false
      → kind_among env.text.types t ≡ Some k → HasKind (get store p) k
  stored_home {f} {p} {t} h k free e =
      let l = slot_of_home h k e in
      let v = value_at layout vs values l.number l.slot l.at in
      let o = v.is_of in
      record {
        datum = v.datum;
        there = ap (get store) (sym l.path) ∙ variable_there layout vs distinct len l.number l.slot l.at (l.free free)
            ∙ v.is;
        is_of = record { kind = o.kind ∙ l.kind; held = o.held };
      }

  pub slots_agree : Agrees env w store
  slots_agree = record {
    values = λ k place e. seen_home (home_of place) k e;
    stored = λ k place free e. stored_home (home_of place) k free e;
  }
