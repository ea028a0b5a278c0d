-- One selector further, and the target of the last one.
use Rattle.std.proofs.Common.{◌≡◌, refl, sym, ap, subst, ◌∙◌, arith, ℕ, ◌+◌, ◌<◌, ◌≤◌, List, [], ◌∷◌, ◌++◌, map}
use Rattle.std.proofs.Common.{Bool, true, false, if◌then◌else◌, Option, Some, None}
use Rattle.std.specs.Prelude.{nat_lt, option_map, option_and_then, ℤ, bytes_eq}
use Rattle.std.proofs.Common.{zero, suc, ◌*◌}
use Rattle.std.proofs.lemmas.Bool.Decides.{nat_tests}
use Rattle.std.proofs.Math.Nat.{mul-pos}
use Rattle.layout.specs.Shapes.{Parts, no_parts, part_then, sizes}
use Rattle.slot_trees.specs.Tables.{part_after}
use Rattle.st_types.specs.declared.identifier.Identifier.{Identifier}
use Rattle.st_types.specs.declared.limits.TheConstants.{MAX_PATHS}
use Rattle.st_types.specs.Expressions.{Expr, Selectors, no_selectors, selector_then, member, subscript}
use Rattle.st_meaning.specs.NameTypes.{Declared}
use Rattle.st_meaning.specs.Scopes.{Name}
use Rattle.symbols.specs.Agreeing.{Agree}
use Rattle.symbols.specs.PlaceTypes.{place_type_view}
use Rattle.layout.specs.Shapes.{Shape, plain, array, parts, size}
use Rattle.layout.specs.Types.{shape_of_type}
use Rattle.layout.specs.Sizes.{capped_size}
use Rattle.slot_trees.specs.SlotTrees.{Anchor, SlotExpr, Subscripts, Place, no_subscripts, subscript_then}
use Rattle.slot_trees.specs.SlotTrees as trees
use Rattle.slot_trees.specs.Linking.{Selected, with_offset, with_subscript, linked, linked_selectors}
use Rattle.slot_trees.specs.Linking.{place_if_plain, place_of_shape}
use Rattle.slot_trees.specs.Tables.{Part, Table, moved, part_at}
use Rattle.slot_trees.specs.Chains.{Subscript, subscripts_of}
use Rattle.slot_trees.specs.ExpressionViews.{subscript_view}
use Rattle.st_link.specs.Shapes.{IsExpanded, IsMemberPlace, is_plain, is_array, member_of}
use Rattle.st_link.specs.declared.elements.Elements.{Elements}
use Rattle.st_link.specs.declared.members.MemberPlace.{MemberPlace}
use Rattle.st_link.specs.Places.{HasElements, LeadsOn, joined, subscripts_before}
use Rattle.st_link.specs.declared.places.Reached.{Reached}
use Rattle.st_types.proofs.OptionLemmas.{some_is, map_some}
use Rattle.st_types.proofs.TestLemmas.{product_of_more}

-- a member, by its part of the shape
selected_member : (t : Table) (sh : Shape) (x : Identifier) (rest : Selectors)
    → linked_selectors t sh (selector_then (member x) rest)
    ≡ option_and_then (λ e. option_map (with_offset e.offset) (linked_selectors t e.shape rest))
    (member_of sh x.name)
selected_member t (plain k) x rest = refl
selected_member t (array lower count sh) x rest = refl
selected_member t (parts w ps) x rest = refl

cut_behind : (n o more : ℕ) → capped_size (capped_size (n + capped_size (0 + o)) + more) ≡ capped_size (n + (o + more))
cut_behind n o more = grind (arith)

joined_member : (n o after : ℕ) (ss : List Subscript) (s : Option Selected) → after ≡ capped_size (n + capped_size (0 + o))
    → option_map (joined n ss) (option_map (with_offset o) s) ≡ option_map (joined after ss) s
joined_member n o after ss None is = refl
joined_member n o after ss (Some s) is =
    ap (λ k. Some (record { offset = k; subscripts = subscripts_before ss s.subscripts; shape = s.shape }))
    (sym (ap (λ k. capped_size (k + s.offset)) is ∙ cut_behind n o s.offset))

-- room for a member
pub part_room : (ps : Parts) (x : Name) (e : Part) → part_at ps x ≡ Some e → e.offset + size e.shape ≤ sizes ps
part_room no_parts x e h = absurd (cc)
part_room (part_then y sh ps) x e h = by_test (bytes_eq x y) h (λ f g. part_room ps x f g)
  where
    beyond : (f : Part) → part_after (size sh) f ≡ e → f.offset + size f.shape ≤ sizes ps
        → e.offset + size e.shape ≤ size sh + sizes ps
    beyond f is le = subst (λ g. g.offset + size g.shape ≤ size sh + sizes ps) is (omega (arith, le))

    by_test : (b : Bool)
        → (if b then Some (record { offset = 0; shape = sh }) else option_map (part_after (size sh)) (part_at ps x))
        ≡ Some e → ((f : Part) → part_at ps x ≡ Some f → f.offset + size f.shape ≤ sizes ps)
        → e.offset + size e.shape ≤ size sh + sizes ps
    by_test true g ih =
        subst (λ f. f.offset + size f.shape ≤ size sh + sizes ps) (some_is g) (omega (arith))
    by_test false g ih =
        let i = map_some (part_after (size sh)) (part_at ps x) e g in beyond i.0 i.2 (ih i.0 i.1)

shape_room : (sh : Shape) (x : Name) (e : Part) → member_of sh x ≡ Some e → e.offset + size e.shape ≤ size sh
shape_room (plain k) x e h = absurd (cc)
shape_room (array lower count sh) x e h = absurd (cc)
shape_room (parts w ps) x e h = part_room ps x e h

member_room : (text : Declared) (r next : Reached) (x : Identifier) (m : MemberPlace) (e : Part)
    → member_of (shape_of_type text (place_type_view r.declared)) x.name ≡ Some e → IsMemberPlace text 0 m e
    → next.offset ≡ capped_size (r.offset + m.offset) → next.declared ≡ m.declared
    → r.offset + size (shape_of_type text (place_type_view r.declared)) ≤ MAX_PATHS
    → next.offset + size (shape_of_type text (place_type_view next.declared)) ≤ MAX_PATHS
member_room text r next x m e is a moved_on declared room =
    let one = shape_room (shape_of_type text (place_type_view r.declared)) x.name e is in
    let here = a.offset in
    let shape = ap size (a.shape ∙ ap (λ d. shape_of_type text (place_type_view d)) (sym declared)) in
    enough next.offset r.offset m.offset e.offset (size e.shape)
    (size (shape_of_type text (place_type_view next.declared)))
    (size (shape_of_type text (place_type_view r.declared))) moved_on here one shape room
  where
    enough : (n o m p s t w : ℕ) → n ≡ capped_size (o + m) → m ≡ capped_size (0 + p) → p + s ≤ w → s ≡ t → o + w ≤ MAX_PATHS
        → n + t ≤ MAX_PATHS
    enough n o m p s t w a b c d e = grind (arith)

pub reached_room : (text : Declared) (t : Table) (whole : Option Selected) (r : Reached) (rest : Selectors)
    → LeadsOn text t whole r rest → size (shape_of_type text (place_type_view r.declared)) ≤ MAX_PATHS
reached_room text t whole r rest h = let e = h.room in omega (arith, e)

pub leads_to_member : (text : Declared) (t : Table) (whole : Option Selected) (r next : Reached) (x : Identifier)
    (rest : Selectors) (m : MemberPlace)
    → Agree (IsMemberPlace text 0) (Some m) (member_of (shape_of_type text (place_type_view r.declared)) x.name)
    → next.offset ≡ capped_size (r.offset + m.offset) → next.subscripts ≡ r.subscripts → next.declared ≡ m.declared
    → LeadsOn text t whole r (selector_then (member x) rest) → LeadsOn text t whole next rest
leads_to_member text t whole r next x rest m there moved_on same declared h =
    by_part (member_of (shape_of_type text (place_type_view r.declared)) x.name) refl there
  where
    by_part : (e : Option Part) → member_of (shape_of_type text (place_type_view r.declared)) x.name ≡ e
        → Agree (IsMemberPlace text 0) (Some m) e → LeadsOn text t whole next rest
    by_part None is a = absurd a
    by_part (Some e) is a = record {
      is = h.is
          ∙ ap (option_map (joined r.offset (map subscript_view r.subscripts.items)))
          (selected_member t (shape_of_type text (place_type_view r.declared)) x rest
          ∙ ap (option_and_then (λ y. option_map (with_offset y.offset) (linked_selectors t y.shape rest))) is)
          ∙ joined_member r.offset e.offset next.offset (map subscript_view r.subscripts.items)
          (linked_selectors t e.shape rest) (moved_on ∙ ap (λ k. capped_size (r.offset + k)) a.offset)
          ∙ ap (λ vs. option_map (joined next.offset (map subscript_view vs.items)) (linked_selectors t e.shape rest))
          (sym same)
          ∙ ap (λ sh. option_map (joined next.offset (map subscript_view next.subscripts.items))
          (linked_selectors t sh rest))
          (a.shape ∙ ap (λ d. shape_of_type text (place_type_view d)) (sym declared));
      expanded = subst (λ d. IsExpanded text (place_type_view d)) (sym declared) a.expanded;
      room = member_room text r next x m e is a moved_on declared h.room;
    }

-- nothing joined to nothing is nothing
none_joined : (n : ℕ) (ss : List Subscript) (o : Option Selected) → option_map (joined n ss) o ≡ None → o ≡ None
none_joined n ss None h = refl
none_joined n ss (Some s) h = absurd (cc)

pub leads_nowhere : (text : Declared) (t : Table) (whole : Option Selected) (r : Reached) (rest : Selectors)
    → linked_selectors t (shape_of_type text (place_type_view r.declared)) rest ≡ None
    → LeadsOn text t whole r rest → whole ≡ None
leads_nowhere text t whole r rest none h =
    none_joined 0 [] whole (h.is ∙ ap (option_map (joined r.offset (map subscript_view r.subscripts.items))) none)

pub no_member : (text : Declared) (t : Table) (whole : Option Selected) (r : Reached) (x : Identifier)
    (rest : Selectors)
    → Agree (IsMemberPlace text 0) None (member_of (shape_of_type text (place_type_view r.declared)) x.name)
    → LeadsOn text t whole r (selector_then (member x) rest) → whole ≡ None
no_member text t whole r x rest there h =
    by_part (member_of (shape_of_type text (place_type_view r.declared)) x.name) refl there
  where
    by_part : (e : Option Part) → member_of (shape_of_type text (place_type_view r.declared)) x.name ≡ e
        → Agree (IsMemberPlace text 0) None e → whole ≡ None
    by_part (Some e) is a = absurd a
    by_part None is a =
        leads_nowhere text t whole r (selector_then (member x) rest)
        (selected_member t (shape_of_type text (place_type_view r.declared)) x rest
        ∙ ap (option_and_then (λ y. option_map (with_offset y.offset) (linked_selectors t y.shape rest))) is) h

-- an element of an array whose elements take room
selected_element : (t : Table) (sh element : Shape) (lower : ℤ) (count stride : ℕ) (e : Expr) (i : SlotExpr)
    (rest : Selectors) → sh ≡ array lower count element → stride ≡ size element → 0 < stride → 0 < count
    → linked t e ≡ Some i → linked_selectors t sh (selector_then (subscript e) rest)
    ≡ option_map (with_subscript i lower count stride) (linked_selectors t element rest)
selected_element t sh element lower count stride e i rest is takes room some there =
    ap (λ s. linked_selectors t s (selector_then (subscript e) rest)) is
    ∙ ap (λ b. if b then option_and_then (λ i. option_map (with_subscript i lower count (size element))
    (linked_selectors t element rest)) (linked t e) else None) (has_room count (size element) some
    (subst (λ n. 0 < n) takes room))
    ∙ ap (option_and_then (λ i. option_map (with_subscript i lower count (size element))
    (linked_selectors t element rest))) there
    ∙ ap (λ n. option_map (with_subscript i lower count n) (linked_selectors t element rest)) (sym takes)
  where
    above : (n : ℕ) → 0 < n → nat_lt 0 n ≡ true
    above n h = grind (arith, h)

    has_room : (c n : ℕ) → 0 < c → 0 < n → nat_lt 0 (c * n) ≡ true
    has_room c n h g = above (c * n) (mul-pos h g)

before_one : (ss : List Subscript) (s : Subscript) (rest : Subscripts)
    → subscripts_before (ss ++ s ∷ []) rest ≡ subscripts_before ss (subscript_then s.index s.lower s.count s.stride
    rest)
before_one [] s rest = refl
before_one (x ∷ ss) s rest = ap (subscript_then x.index x.lower x.count x.stride) (before_one ss s rest)

joined_element : (n : ℕ) (ss : List Subscript) (s : Subscript) (o : Option Selected)
    → option_map (joined n ss) (option_map (with_subscript s.index s.lower s.count s.stride) o)
    ≡ option_map (joined n (ss ++ s ∷ [])) o
joined_element n ss s None = refl
joined_element n ss s (Some x) =
    ap (λ y. Some (record { offset = capped_size (n + x.offset); subscripts = y; shape = x.shape }))
    (sym (before_one ss s x.subscripts))

-- room for an element
pub one_of : (count n : ℕ) → 0 < count → n ≤ count * n
one_of zero n h = absurd (omega (arith, h))
one_of (suc count) n h = grind (arith)

element_room : (text : Declared) (r next : Reached) (el : Elements)
    → HasElements text (shape_of_type text (place_type_view r.declared)) el → next.offset ≡ r.offset
    → next.declared ≡ el.declared
    → r.offset + size (shape_of_type text (place_type_view r.declared)) ≤ MAX_PATHS
    → next.offset + size (shape_of_type text (place_type_view next.declared)) ≤ MAX_PATHS
element_room text r next el has at declared room =
    let whole = ap size has.shape in
    let one = one_of el.count (size (shape_of_type text (place_type_view el.declared))) has.some in
    let shape = ap (λ d. size (shape_of_type text (place_type_view d))) declared in
    omega (arith, whole, one, shape, at, room)

pub leads_to_element : (text : Declared) (t : Table) (whole : Option Selected) (r next : Reached) (el : Elements)
    (e : Expr) (i : SlotExpr) (s : Subscript) (rest : Selectors)
    → HasElements text (shape_of_type text (place_type_view r.declared)) el → linked t e ≡ Some i
    → s ≡ record { index = i; lower = el.lower; count = el.count; stride = el.stride }
    → next.offset ≡ r.offset
    → map subscript_view next.subscripts.items ≡ map subscript_view r.subscripts.items ++ s ∷ []
    → next.declared ≡ el.declared
    → LeadsOn text t whole r (selector_then (subscript e) rest) → LeadsOn text t whole next rest
leads_to_element text t whole r next el e i s rest has there is at more declared h = record {
  is = h.is
      ∙ ap (option_map (joined r.offset (map subscript_view r.subscripts.items)))
      (selected_element t (shape_of_type text (place_type_view r.declared))
      (shape_of_type text (place_type_view el.declared)) el.lower el.count el.stride e i rest has.shape has.stride
      has.room has.some there)
      ∙ ap (λ x. option_map (joined r.offset (map subscript_view r.subscripts.items))
      (option_map (with_subscript x.index x.lower x.count x.stride)
      (linked_selectors t (shape_of_type text (place_type_view el.declared)) rest))) (sym is)
      ∙ joined_element r.offset (map subscript_view r.subscripts.items) s
      (linked_selectors t (shape_of_type text (place_type_view el.declared)) rest)
      ∙ ap (λ ss. option_map (joined r.offset ss)
      (linked_selectors t (shape_of_type text (place_type_view el.declared)) rest)) (sym more)
      ∙ ap (λ n. option_map (joined n (map subscript_view next.subscripts.items))
      (linked_selectors t (shape_of_type text (place_type_view el.declared)) rest)) (sym at)
      ∙ ap (λ d. option_map (joined next.offset (map subscript_view next.subscripts.items))
      (linked_selectors t (shape_of_type text (place_type_view d)) rest)) (sym declared);
  expanded = subst (λ d. IsExpanded text (place_type_view d)) (sym declared) has.expanded;
  room = element_room text r next el has at declared h.room;
}

-- a variable that isn't an array has no elements
pub no_elements : (t : Table) (sh : Shape) (e : Expr) (rest : Selectors) → is_array sh ≡ false
    → linked_selectors t sh (selector_then (subscript e) rest) ≡ None
no_elements t (plain k) e rest h = refl
no_elements t (parts w ps) e rest h = refl
no_elements t (array lower count sh) e rest h = absurd (cc)

-- nor has one whose elements take no room
pub no_room : (t : Table) (sh element : Shape) (lower : ℤ) (count : ℕ) (e : Expr) (rest : Selectors)
    → sh ≡ array lower count element → 0 ≡ capped_size (size element)
    → linked_selectors t sh (selector_then (subscript e) rest) ≡ None
no_room t sh element lower count e rest is none =
    ap (λ s. linked_selectors t s (selector_then (subscript e) rest)) is
    ∙ ap (λ b. if b then option_and_then (λ i. option_map (with_subscript i lower count (size element))
    (linked_selectors t element rest)) (linked t e) else None) (takes_none count (size element) none)
  where
    nothing : (n : ℕ) → 0 ≡ capped_size n → n ≡ 0
    nothing n h = grind (arith, h)

    none_times : (c : ℕ) → nat_lt 0 (c * 0) ≡ false
    none_times c = grind (arith, nat_tests)

    takes_none : (c n : ℕ) → 0 ≡ capped_size n → nat_lt 0 (c * n) ≡ false
    takes_none c n h = ap (λ m. nat_lt 0 (c * m)) (nothing n h) ∙ none_times c

-- nor has one without elements
pub no_element : (t : Table) (sh element : Shape) (lower : ℤ) (count : ℕ) (e : Expr) (rest : Selectors)
    → sh ≡ array lower count element → count ≡ 0
    → linked_selectors t sh (selector_then (subscript e) rest) ≡ None
no_element t sh element lower count e rest is none =
    ap (λ s. linked_selectors t s (selector_then (subscript e) rest)) (is ∙ ap (λ c. array lower c element) none)
    ∙ ap (λ b. if b then option_and_then (λ i. option_map (with_subscript i lower 0 (size element))
    (linked_selectors t element rest)) (linked t e) else None) (none_times (size element))
  where
    none_times : (n : ℕ) → nat_lt 0 (0 * n) ≡ false
    none_times n = grind (arith, nat_tests)

pub stride_small : (sh element : Shape) (lower : ℤ) (count s : ℕ) → sh ≡ array lower count element → 0 < count
    → s ≡ capped_size (size element) → size sh ≤ MAX_PATHS → MAX_PATHS < s → ⊥
stride_small sh element lower count s is some at room large =
    let whole = ap size is in
    let one = one_of count (size element) some in
    over (size element) s at (omega (arith, whole, one, room)) large
  where
    over : (n s : ℕ) → s ≡ capped_size n → n ≤ MAX_PATHS → MAX_PATHS < s → ⊥
    over n s a b c = grind (arith)

pub count_small : (sh element : Shape) (lower : ℤ) (count s : ℕ) → sh ≡ array lower count element → 0 < s
    → s ≡ capped_size (size element) → size sh ≤ MAX_PATHS → MAX_PATHS < count → ⊥
count_small sh element lower count s is some at room large =
    let whole = ap size is in
    let many = product_of_more count (size element) (above s (size element) at some) in
    omega (arith, whole, many, room, large)
  where
    above : (s n : ℕ) → s ≡ capped_size n → 0 < s → 0 < n
    above s n a b = grind (arith)

-- nor an element whose subscript has no slots
pub no_index : (t : Table) (sh : Shape) (e : Expr) (rest : Selectors) → linked t e ≡ None
    → linked_selectors t sh (selector_then (subscript e) rest) ≡ None
no_index t (plain k) e rest h = refl
no_index t (parts w ps) e rest h = refl
no_index t (array lower count sh) e rest h = by_room (nat_lt 0 (count * size sh))
  where
    by_room : (b : Bool) → (if b then option_and_then (λ i. option_map (with_subscript i lower count (size sh))
        (linked_selectors t sh rest)) (linked t e) else None) ≡ None
    by_room true =
        ap (option_and_then (λ i. option_map (with_subscript i lower count (size sh)) (linked_selectors t sh
        rest))) h
    by_room false = refl

-- if no selector is left
no_more : (text : Declared) (t : Table) (whole : Option Selected) (r : Reached) → LeadsOn text t whole r no_selectors
    → option_map (joined 0 []) whole
    ≡ Some (joined r.offset (map subscript_view r.subscripts.items)
    (record { offset = 0; subscripts = no_subscripts; shape = shape_of_type text (place_type_view r.declared) }))
no_more text t whole r h = h.is

before_none : (ss : List Subscript) → subscripts_before ss no_subscripts ≡ subscripts_of ss
before_none [] = refl
before_none (s ∷ ss) = ap (subscript_then s.index s.lower s.count s.stride) (before_none ss)

-- an elementary variable has its place
plain_place : (a : Anchor) (sh : Shape) (s : Selected) → is_plain sh ≡ true → s.shape ≡ sh
    → place_if_plain a s ≡ Some (trees.place (moved a s.offset) s.subscripts)
plain_place a (plain k) s h is = ap (place_of_shape a s.offset s.subscripts) is
plain_place a (array lower count sh) s h is = absurd (cc)
plain_place a (parts w ps) s h is = absurd (cc)

no_place : (a : Anchor) (sh : Shape) (s : Selected) → is_plain sh ≡ false → s.shape ≡ sh → place_if_plain a s ≡ None
no_place a (plain k) s h is = absurd (cc)
no_place a (array lower count sh) s h is = ap (place_of_shape a s.offset s.subscripts) is
no_place a (parts w ps) s h is = ap (place_of_shape a s.offset s.subscripts) is

pub placed_at : (text : Declared) (t : Table) (whole : Option Selected) (r : Reached) (a b : Anchor) (p : Place)
    → is_plain (shape_of_type text (place_type_view r.declared)) ≡ true → r.offset ≤ MAX_PATHS
    → b ≡ moved a r.offset → p ≡ trees.place b (subscripts_of (map subscript_view r.subscripts.items))
    → LeadsOn text t whole r no_selectors → option_and_then (place_if_plain a) whole ≡ Some p
placed_at text t None r a b p elementary small at is h = absurd (cc)
placed_at text t (Some s) r a b p elementary small at is h =
    let seen : joined 0 [] s ≡ joined r.offset (map subscript_view r.subscripts.items) (record {
      offset = 0;
      subscripts = no_subscripts;
      shape = shape_of_type text (place_type_view r.declared);
    }) = cc in
    let offset : s.offset ≡ r.offset = uncut s.offset r.offset small (ap (λ x. x.offset) seen) in
    let chain : s.subscripts ≡ subscripts_of (map subscript_view r.subscripts.items) =
    ap (λ x. x.subscripts) seen ∙ before_none (map subscript_view r.subscripts.items) in
    plain_place a (shape_of_type text (place_type_view r.declared)) s elementary (ap (λ x. x.shape) seen)
    ∙ ap Some (ap (λ n. trees.place (moved a n) s.subscripts) offset ∙ ap (trees.place (moved a r.offset)) chain
    ∙ ap (λ c. trees.place c (subscripts_of (map subscript_view r.subscripts.items))) (sym at) ∙ sym is)
  where
    uncut : (n o : ℕ) → o ≤ MAX_PATHS → capped_size (0 + n) ≡ capped_size (o + 0) → n ≡ o
    uncut n o small e = grind (arith, small, e)

pub not_placed : (text : Declared) (t : Table) (whole : Option Selected) (r : Reached) (a : Anchor)
    → is_plain (shape_of_type text (place_type_view r.declared)) ≡ false
    → LeadsOn text t whole r no_selectors → option_and_then (place_if_plain a) whole ≡ None
not_placed text t None r a composite h = refl
not_placed text t (Some s) r a composite h =
    let seen : joined 0 [] s ≡ joined r.offset (map subscript_view r.subscripts.items) (record {
      offset = 0;
      subscripts = no_subscripts;
      shape = shape_of_type text (place_type_view r.declared);
    }) = cc in
    no_place a (shape_of_type text (place_type_view r.declared)) s composite (ap (λ x. x.shape) seen)

-- a variable begins with nothing selected
pub leads_first : (text : Declared) (t : Table) (whole : Option Selected) (r : Reached) (rest : Selectors)
    → r.offset ≡ 0 → r.subscripts.items ≡ [] → IsExpanded text (place_type_view r.declared)
    → size (shape_of_type text (place_type_view r.declared)) ≤ MAX_PATHS
    → whole ≡ linked_selectors t (shape_of_type text (place_type_view r.declared)) rest → LeadsOn text t whole r rest
leads_first text t whole r rest none_before none expanded room is = record {
  is = ap (option_map (joined 0 [])) is
      ∙ ap (λ n. option_map (joined n []) (linked_selectors t (shape_of_type text (place_type_view r.declared)) rest))
      (sym none_before)
      ∙ ap (λ ss. option_map (joined r.offset (map subscript_view ss))
      (linked_selectors t (shape_of_type text (place_type_view r.declared)) rest)) (sym none);
  expanded = expanded;
  room = omega (arith, none_before, room);
}
