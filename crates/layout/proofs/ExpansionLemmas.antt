-- The slots, the size and the instances of a whole are its own and those of its parts.
use Rattle.std.proofs.Common.{◌≡◌, refl, sym, ap, ap₂, ◌∙◌, ℕ, zero, suc, ◌+◌, ◌*◌, ℤ, pos, ◌+ℤ◌, arith, List, [], ◌∷◌}
use Rattle.std.proofs.Common.{◌++◌, map, Bool, true, false, not, ◌&&◌, Option, Some, None, option_map}
use Rattle.std.specs.Prelude.{bytes_eq, if◌then◌else◌, option_and_then}
use Rattle.std.proofs.lemmas.Int.{ints}
use Rattle.std.proofs.lemmas.Slice.Eq.{bytes_eq-Decides}
use Rattle.std.proofs.lemmas.Bool.{and_parts, or_parts}
use Rattle.st_types.specs.declared.path.Step.{Step}
use Rattle.st_types.specs.declared.path.Step.TheVariants.{Member, Element}
use Rattle.st_types.specs.declared.kind.Kind.{Kind}
use Rattle.st_types.specs.Paths.{Path}
use Rattle.st_types.specs.declared.data_type.ArrayType.{ArrayType}
use Rattle.st_types.specs.declared.data_type.VariableType.{VariableType}
use Rattle.st_meaning.specs.NameTypes.{Declared}
use Rattle.st_meaning.specs.Scopes.{Name}
use Rattle.st_meaning.specs.Plans.{initial_value, is_retained_by}
use Rattle.st_rules.specs.TypeRules.{elements_of_array}
use Rattle.layout.specs.Shapes.{Shape, Leaf, below, leaves_of, leaves_of_parts, leaves_of_elements, in_bounds}
use Rattle.layout.specs.Shapes.{distance, has_name, is_sound, are_sound, size, sizes, instance_count}
use Rattle.layout.specs.Shapes.{instance_counts}
use Rattle.layout.specs.Shapes.{PartsOwner}
use Rattle.layout.specs.Types.{Site, NamedSite, site_named, Composition, of_kind, of_elements, of_parts}
use Rattle.layout.specs.Types.{composition_of}
use Rattle.layout.specs.Types.{shape_within, composed_shape, parts_of, lower_of, element_of}
use Rattle.layout.specs.Sites.{site_at, site_below, element_site, member_site, constant_of, default_of}
use Rattle.layout.specs.TextLayouts.{further}
use Rattle.layout.specs.KeptSites.{kept, element_parts, member_part, parts_below}
use Rattle.layout.specs.Slots.{slot_at, slots_within, slots_of_parts, size_of_parts, instances_of_parts}
use Rattle.layout.specs.Slots.{own_slots, own_size, own_instances}
use Rattle.layout.specs.declared.slots.LayoutSlot.{LayoutSlot}
use Rattle.std.proofs.lemmas.List.{map-append, append-nil}
use Rattle.st_types.proofs.TestLemmas.{false_from_not}
use Rattle.layout.proofs.ListLemmas.{name_turned}

append_one : {A : Type 0} (xs : List A) (y : A) (zs : List A) → (xs ++ y ∷ []) ++ zs ≡ xs ++ y ∷ zs
append_one [] y zs = refl
append_one (x ∷ xs) y zs = ap (λ ws. x ∷ ws) (append_one xs y zs)

-- names and tests
name_itself : (x : Name) → bytes_eq x x ≡ true
name_itself x = (bytes_eq-Decides x x).1 refl

-- The parts of a sound whole are sound.
abbrev pub ArePartsSound : ℕ → Declared → List (Step × Site) → Type 0
ArePartsSound n text [] = Unit {0}
ArePartsSound n text (e ∷ es) = (is_sound (shape_within n text e.1.declared) ≡ true) × ArePartsSound n text es

sound_elements : (n : ℕ) (text : Declared) (s : Site) (a : ArrayType) (i c : ℕ)
    → is_sound (shape_within n text (element_of a)) ≡ true → ArePartsSound n text (element_parts s a i c)
sound_elements n text s a i zero h = tt
sound_elements n text s a i (suc c) h = (h, sound_elements n text s a (i + 1) c h)

sound_members : (n : ℕ) (text : Declared) (s : Site) (ds : List NamedSite)
    → are_sound (parts_of (shape_within n text) ds) ≡ true → ArePartsSound n text (map (member_part s) ds)
sound_members n text s [] h = tt
sound_members n text s (d ∷ ds) h =
    let a = and_parts (not (has_name (parts_of (shape_within n text) ds) d.name))
    (is_sound (shape_within n text d.site.declared) && are_sound (parts_of (shape_within n text) ds)) h in
    let b = and_parts (is_sound (shape_within n text d.site.declared)) (are_sound (parts_of (shape_within n text) ds)) a.1 in
    (b.0, sound_members n text s ds b.1)

sound_composed : (n : ℕ) (text : Declared) (s : Site) (c : Composition)
    → is_sound (composed_shape (shape_within n text) c) ≡ true → ArePartsSound n text (parts_below s c)
sound_composed n text s (of_kind k) h = tt
sound_composed n text s (of_elements a) h = sound_elements n text s a 0 (elements_of_array a) h
sound_composed n text s (of_parts w ds) h = sound_members n text s ds h

pub sound_parts : (n : ℕ) (text : Declared) (s : Site) → is_sound (shape_within (suc n) text s.declared) ≡ true
    → ArePartsSound n text (parts_below s (composition_of text s.declared))
unfolding shape_within
sound_parts n text s h = sound_composed n text s (composition_of text s.declared) h

-- Each part of a sound whole is the first of its name.
abbrev AreFound : List NamedSite → List NamedSite → Type 0
AreFound ds [] = Unit {0}
AreFound ds (e ∷ es) = (site_named ds e.name ≡ Some e.site) × AreFound ds es

found_behind : (inner : VariableType → Shape) (d : NamedSite) (ds es : List NamedSite)
    → has_name (parts_of inner es) d.name ≡ false → AreFound ds es → AreFound (d ∷ ds) es
found_behind inner d ds [] none found = tt
found_behind inner d ds (e ∷ es) none found =
    let a = or_parts (bytes_eq d.name e.name) (has_name (parts_of inner es) d.name) none in
    let b = name_turned d.name e.name false a.0 in
    (ap (λ t. if t then Some d.site else site_named ds e.name) b ∙ found.0, found_behind inner d ds es a.1 found.1)

found_all : (inner : VariableType → Shape) (ds : List NamedSite) → are_sound (parts_of inner ds) ≡ true
    → AreFound ds ds
found_all inner [] h = tt
found_all inner (d ∷ ds) h =
    let a = and_parts (not (has_name (parts_of inner ds) d.name))
    (is_sound (inner d.site.declared) && are_sound (parts_of inner ds)) h in
    let b = and_parts (is_sound (inner d.site.declared)) (are_sound (parts_of inner ds)) a.1 in (
      ap (λ t. if t then Some d.site else site_named ds d.name) (name_itself d.name),
      found_behind inner d ds ds (false_from_not (has_name (parts_of inner ds) d.name) a.0) (found_all inner ds b.1),
    )

-- A slot is that of a part, seen from one step further in.
abbrev slot_from : Option Site → Bool → Path → Kind → LayoutSlot
slot_from u input p k = record {
  path = p;
  initial = if input then default_of k else initial_value k (option_and_then (λ v. constant_of k v.initial) u);
  retained = if input then false else elim u [ Some v ↦ is_retained_by v.retentions | None ↦ false ];
  is_input = input;
}

further_behind : (p : Path) (x : Step) (xs : List Step) → further p (x ∷ xs) ≡ further (further p (x ∷ [])) xs
further_behind p x xs =
    ap (λ ys. record { owner = p.owner; name = p.name; steps = ys }) (sym (append_one p.steps x xs))

slot_after : (text : Declared) (s u : Site) (input : Bool) (p : Path) (x : Step) (l : Leaf)
    → site_below s (composition_of text s.declared) x ≡ Some u
    → slot_at text s input p (below x l) ≡ slot_at text u input (further p (x ∷ [])) l
slot_after text s u input p x l is =
    ap (λ v. slot_from (option_and_then (λ w. site_at text w l.steps) v) input (further p (x ∷ l.steps)) l.kind) is
    ∙ ap (λ q. slot_from (site_at text u l.steps) input q l.kind) (further_behind p x l.steps)

slots_behind : (text : Declared) (s u : Site) (input : Bool) (p : Path) (x : Step) (ls : List Leaf)
    → site_below s (composition_of text s.declared) x ≡ Some u
    → map (slot_at text s input p) (map (below x) ls) ≡ map (slot_at text u input (further p (x ∷ []))) ls
slots_behind text s u input p x [] is = refl
slots_behind text s u input p x (l ∷ ls) is =
    ap₂ (λ m ms. m ∷ ms) (slot_after text s u input p x l is) (slots_behind text s u input p x ls is)

-- slots
in_array : (lower : ℤ) (i c count : ℕ) → i + suc c ≡ count → in_bounds lower count (lower +ℤ pos i) ≡ true
in_array lower i c count h = grind (arith, ints, h)

at_distance : (lower : ℤ) (i : ℕ) → distance lower (lower +ℤ pos i) ≡ i
at_distance lower i = grind (arith, ints)

next_subscript : (lower : ℤ) (i : ℕ) → (lower +ℤ pos i) +ℤ pos 1 ≡ lower +ℤ pos (i + 1)
next_subscript lower i = grind (arith, ints)

element_behind : (s : Site) (a : ArrayType) (i c : ℕ) → i + suc c ≡ elements_of_array a
    → site_below s (of_elements a) (Element (lower_of a +ℤ pos i)) ≡ Some (element_site s a i)
element_behind s a i c fits =
    ap (λ t. if t then Some (element_site s a (distance (lower_of a) (lower_of a +ℤ pos i))) else None)
    (in_array (lower_of a) i c (elements_of_array a) fits)
    ∙ ap (λ d. Some (element_site s a d)) (at_distance (lower_of a) i)

slots_of_elements : (n : ℕ) (text : Declared) (s : Site) (input : Bool) (p : Path) (a : ArrayType) (z : ℤ) (i c : ℕ)
    → composition_of text s.declared ≡ of_elements a → z ≡ lower_of a +ℤ pos i → i + c ≡ elements_of_array a
    → map (slot_at text s input p) (leaves_of_elements z c (leaves_of (shape_within n text (element_of a))))
    ≡ slots_of_parts n text input p (element_parts s a i c)
slots_of_elements n text s input p a z i zero made is fits = refl
slots_of_elements n text s input p a z i (suc c) made is fits =
    let inner = leaves_of (shape_within n text (element_of a)) in
    let y = lower_of a +ℤ pos i in
    let there : site_below s (composition_of text s.declared) (Element y) ≡ Some (element_site s a i) =
    ap (λ m. site_below s m (Element y)) made ∙ element_behind s a i c fits in
    ap (λ x. map (slot_at text s input p) (map (below (Element x)) inner ++ leaves_of_elements (z +ℤ pos 1) c inner)) is
    ∙ map-append (slot_at text s input p) (map (below (Element y)) inner) (leaves_of_elements (z +ℤ pos 1) c inner)
    ∙ ap₂ (λ xs ys. xs ++ ys) (slots_behind text s (element_site s a i) input p (Element y) inner there)
    (slots_of_elements n text s input p a (z +ℤ pos 1) (i + 1) c made
    (ap (λ x. x +ℤ pos 1) is ∙ next_subscript (lower_of a) i) (omega (arith, fits)))

slots_of_members : (n : ℕ) (text : Declared) (s : Site) (input : Bool) (p : Path) (w : PartsOwner) (all ds : List NamedSite)
    → composition_of text s.declared ≡ of_parts w all → AreFound all ds
    → map (slot_at text s input p) (leaves_of_parts (parts_of (shape_within n text) ds))
    ≡ slots_of_parts n text input p (map (member_part s) ds)
slots_of_members n text s input p w all [] made found = refl
slots_of_members n text s input p w all (d ∷ ds) made found =
    let inner = leaves_of (shape_within n text d.site.declared) in
    let there : site_below s (composition_of text s.declared) (Member d.name) ≡ Some (member_site s d.name d.site) =
    ap (λ m. site_below s m (Member d.name)) made ∙ ap (option_map (member_site s d.name)) found.0 in
    map-append (slot_at text s input p) (map (below (Member d.name)) inner)
    (leaves_of_parts (parts_of (shape_within n text) ds))
    ∙ ap₂ (λ xs ys. xs ++ ys)
    (slots_behind text s (member_site s d.name d.site) input p (Member d.name) inner there)
    (slots_of_members n text s input p w all ds made found.1)

slots_composed : (n : ℕ) (text : Declared) (s : Site) (input : Bool) (p : Path) (c : Composition)
    → composition_of text s.declared ≡ c → is_sound (composed_shape (shape_within n text) c) ≡ true
    → map (slot_at text s input p) (leaves_of (composed_shape (shape_within n text) c))
    ≡ own_slots c (kept s) input p ++ slots_of_parts n text input p (parts_below s c)
slots_composed n text s input p (of_kind k) made h =
    ap (λ xs. slot_from (Some s) input (record { owner = p.owner; name = p.name; steps = xs }) k ∷ [])
    (append-nil p.steps)
slots_composed n text s input p (of_elements a) made h =
    slots_of_elements n text s input p a (lower_of a) 0 (elements_of_array a) made (grind (arith, ints)) (omega arith)
slots_composed n text s input p (of_parts w ds) made h =
    slots_of_members n text s input p w ds ds made (found_all (shape_within n text) ds h)

pub slots_expanded : (n : ℕ) (text : Declared) (s : Site) (input : Bool) (p : Path)
    → is_sound (shape_within (suc n) text s.declared) ≡ true
    → slots_within (suc n) text s input p ≡ own_slots (composition_of text s.declared) (kept s) input p
    ++ slots_of_parts n text input p (parts_below s (composition_of text s.declared))
unfolding shape_within
slots_expanded n text s input p h = slots_composed n text s input p (composition_of text s.declared) refl h

-- sizes
size_of_elements : (n : ℕ) (text : Declared) (s : Site) (a : ArrayType) (i c : ℕ)
    → c * size (shape_within n text (element_of a)) ≡ size_of_parts n text (element_parts s a i c)
size_of_elements n text s a i zero = omega arith
size_of_elements n text s a i (suc c) = let h = size_of_elements n text s a (i + 1) c in omega arith

size_of_members : (n : ℕ) (text : Declared) (s : Site) (ds : List NamedSite)
    → sizes (parts_of (shape_within n text) ds) ≡ size_of_parts n text (map (member_part s) ds)
size_of_members n text s [] = refl
size_of_members n text s (d ∷ ds) =
    ap (λ m. size (shape_within n text d.site.declared) + m) (size_of_members n text s ds)

size_composed : (n : ℕ) (text : Declared) (s : Site) (c : Composition)
    → size (composed_shape (shape_within n text) c) ≡ own_size c + size_of_parts n text (parts_below s c)
size_composed n text s (of_kind k) = omega arith
size_composed n text s (of_elements a) =
    let h = size_of_elements n text s a 0 (elements_of_array a) in omega arith
size_composed n text s (of_parts w ds) = let h = size_of_members n text s ds in omega arith

pub size_expanded : (n : ℕ) (text : Declared) (s : Site) → size (shape_within (suc n) text s.declared)
    ≡ own_size (composition_of text s.declared)
    + size_of_parts n text (parts_below s (composition_of text s.declared))
unfolding shape_within
size_expanded n text s = size_composed n text s (composition_of text s.declared)

-- instances
instances_of_elements : (n : ℕ) (text : Declared) (s : Site) (a : ArrayType) (i c : ℕ)
    → c * instance_count (shape_within n text (element_of a)) ≡ instances_of_parts n text (element_parts s a i c)
instances_of_elements n text s a i zero = omega arith
instances_of_elements n text s a i (suc c) =
    let h = instances_of_elements n text s a (i + 1) c in omega arith

instances_of_members : (n : ℕ) (text : Declared) (s : Site) (ds : List NamedSite)
    → instance_counts (parts_of (shape_within n text) ds) ≡ instances_of_parts n text (map (member_part s) ds)
instances_of_members n text s [] = refl
instances_of_members n text s (d ∷ ds) =
    ap (λ m. instance_count (shape_within n text d.site.declared) + m) (instances_of_members n text s ds)

instances_composed : (n : ℕ) (text : Declared) (s : Site) (c : Composition)
    → instance_count (composed_shape (shape_within n text) c)
    ≡ own_instances c + instances_of_parts n text (parts_below s c)
instances_composed n text s (of_kind k) = omega arith
instances_composed n text s (of_elements a) =
    let h = instances_of_elements n text s a 0 (elements_of_array a) in omega arith
instances_composed n text s (of_parts w ds) =
    ap (λ m. own_instances (of_parts w ds) + m) (instances_of_members n text s ds)

pub instances_expanded : (n : ℕ) (text : Declared) (s : Site) → instance_count (shape_within (suc n) text s.declared)
    ≡ own_instances (composition_of text s.declared)
    + instances_of_parts n text (parts_below s (composition_of text s.declared))
unfolding shape_within
instances_expanded n text s = instances_composed n text s (composition_of text s.declared)
