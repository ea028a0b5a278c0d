-- One more variable among the symbols of a table.
use Rattle.std.proofs.Common.{◌≡◌, refl, sym, ap, subst, ◌∙◌, arith, ℕ, ◌+◌, ◌≤◌, ◌<◌, List, [], ◌∷◌, ◌++◌, map}
use Rattle.std.proofs.Common.{take, drop, length, slice_index_or, Bool, true, false, if◌then◌else◌, Option, Some, None}
use Rattle.std.specs.Prelude.{option_map, bytes_eq, is_some}
use Rattle.std.proofs.lemmas.List.{map-append, take-append-drop, take_more}
use Rattle.st_types.specs.declared.limits.TheConstants.{MAX_PATHS}
use Rattle.st_rules.specs.declared.limits.TheConstants.{MAX_TYPE_DEPTH}
use Rattle.st_meaning.specs.NameTypes.{Declared}
use Rattle.st_meaning.specs.Scopes.{Name}
use Rattle.symbols.specs.Agreeing.{Agree}
use Rattle.symbols.specs.Found.{found, or_found}
use Rattle.symbols.specs.PlaceTypes.{place_type_view}
use Rattle.symbols.specs.declared.index.Index.{Index}
use Rattle.layout.specs.Shapes.{is_sound, size}
use Rattle.layout.specs.Types.{is_within_depth, shape_of_type}
use Rattle.layout.specs.Sizes.{capped_size}
use Rattle.slot_trees.specs.SlotTrees.{Anchor, absolute, own}
use Rattle.slot_trees.specs.Tables.{Symbol, moved}
use Rattle.slot_trees.specs.ExpressionViews.{anchor_view}
use Rattle.st_link.specs.Shapes.{IsExpanded}
use Rattle.st_link.specs.BodyTables.{IsSymbol}
use Rattle.st_link.specs.Rooms.{first_slot}
use Rattle.st_link.specs.declared.body_table.LinkSymbol.{LinkSymbol}
use Rattle.st_link.specs.FirstSlots.{found_at, slots_taken, symbol_among, symbol_from, unless_found}
use Rattle.st_link.specs.LinkVariables.{LinkVariable, are_whole, is_whole, variable_view}
use Rattle.st_link.specs.declared.variables.Variable.{Variable}
use Rattle.st_link.proofs.FirstSlotLemmas.{all_front, found_append, taken_append}
use Rattle.std.proofs.lemmas.Bool.{and_parts}
use Rattle.st_link.proofs.MemberLemmas.{or_found_twice}
use Rattle.st_link.proofs.SourceLinks.{uncut}
use Rattle.symbols.proofs.TextLemmas.{or_mapped}

-- tables that agree in front and after
pub agree_or : {T U : Type 0} (fits : T → U → Type 0) (f g : Option T) (p q : Option U) → Agree fits f p
    → Agree fits g q → Agree fits (or_found f g) (or_found p q)
agree_or fits None g None q a b = b
agree_or fits (Some t) g (Some u) q a b = a
agree_or fits None g (Some u) q a b = absurd a
agree_or fits (Some t) g None q a b = absurd a

unless_or : {A : Type 0} (c : Bool) (a b : Option A) → (if c then None else or_found a b)
    ≡ or_found (if c then None else a) (if c then None else b)
unless_or true a b = refl
unless_or false a b = refl

-- a number of slots further
moved_first : (base : Anchor) (n m : ℕ) → first_slot base + (n + m) ≤ MAX_PATHS
    → first_slot (moved base n) + m ≤ MAX_PATHS
moved_first (own k) n m h = omega (arith, h)
moved_first (absolute k) n m h = omega (arith, h)

-- one variable
module _ (text : Declared) (hidden : Index Bool) (base : Anchor) (x : Name) where
  one_symbol : (n : ℕ) (v : Variable) (s : LinkSymbol) → anchor_view s.anchor ≡ moved base n
      → s.is_input ≡ v.is_input → s.declared ≡ v.declared → IsExpanded text (place_type_view v.declared)
      → first_slot base + (n + size (shape_of_type text (place_type_view v.declared))) ≤ MAX_PATHS
      → Agree (IsSymbol text) (unless_found hidden x (if bytes_eq x v.name.now then Some s else None))
      (unless_found hidden x (option_map (symbol_from text base x) (found_at text n (variable_view v ∷ []) x)))
  one_symbol n v s anchor input declared expanded room = by_hidden (is_some (found hidden x)) (bytes_eq x v.name.now)
    where
      is : IsSymbol text s (symbol_from text base x (n, variable_view v))
      is = record {
        anchor = anchor;
        input = input;
        shape = ap (λ d. shape_of_type text (place_type_view d)) (sym declared);
        expanded = subst (λ d. IsExpanded text (place_type_view d)) (sym declared) expanded;
        room = moved_first base n (size (shape_of_type text (place_type_view v.declared))) room;
      }

      by_hidden : (h b : Bool) → Agree (IsSymbol text) (if h then None else (if b then Some s else None))
          (if h then None else option_map (symbol_from text base x) (if b then Some (n, variable_view v) else None))
      by_hidden true b = tt
      by_hidden false true = is
      by_hidden false false = tt

  pub one_more : (o : Option Symbol) (done : List LinkVariable) (v : Variable) (s : LinkSymbol)
      (before after : Option LinkSymbol)
      → after ≡ or_found before (unless_found hidden x (if bytes_eq x v.name.now then Some s else None))
      → anchor_view s.anchor ≡ moved base (slots_taken text done) → s.is_input ≡ v.is_input
      → s.declared ≡ v.declared → IsExpanded text (place_type_view v.declared)
      → first_slot base + (slots_taken text done + size (shape_of_type text (place_type_view v.declared))) ≤ MAX_PATHS
      → Agree (IsSymbol text) before (or_found o (unless_found hidden x (symbol_among text base done x)))
      → Agree (IsSymbol text) after
      (or_found o (unless_found hidden x (symbol_among text base (done ++ variable_view v ∷ []) x)))
  one_more o done v s before after added anchor input declared expanded room a =
      let here = symbol_among text base done x in
      let last = option_map (symbol_from text base x)
      (found_at text (slots_taken text done) (variable_view v ∷ []) x) in
      let split : symbol_among text base (done ++ variable_view v ∷ []) x ≡ or_found here last =
      ap (option_map (symbol_from text base x)) (found_append text 0 done (variable_view v ∷ []) x)
      ∙ or_mapped (symbol_from text base x) (found_at text 0 done x)
      (found_at text (0 + slots_taken text done) (variable_view v ∷ []) x)
      ∙ ap (λ m. or_found here (option_map (symbol_from text base x) (found_at text m (variable_view v ∷ []) x)))
      (none (slots_taken text done)) in
      let whole : or_found o (unless_found hidden x (symbol_among text base (done ++ variable_view v ∷ []) x))
      ≡ or_found (or_found o (unless_found hidden x here)) (unless_found hidden x last) =
      ap (λ y. or_found o (unless_found hidden x y)) split
      ∙ ap (or_found o) (unless_or (is_some (found hidden x)) here last)
      ∙ or_found_twice o (unless_found hidden x here) (unless_found hidden x last) in
      subst (Agree (IsSymbol text) after) (sym whole)
      (subst (λ f. Agree (IsSymbol text) f
      (or_found (or_found o (unless_found hidden x here)) (unless_found hidden x last))) (sym added)
      (agree_or (IsSymbol text) before
      (unless_found hidden x (if bytes_eq x v.name.now then Some s else None))
      (or_found o (unless_found hidden x here)) (unless_found hidden x last) a
      (one_symbol (slots_taken text done) v s anchor input declared expanded room)))
    where
      none : (m : ℕ) → 0 + m ≡ m
      none m = omega arith

-- a variable of those that are whole
pub whole_one : (text : Declared) (xs : List Variable) (i : ℕ) (v : Variable) → i < length xs
    → take (i + 1) xs ≡ take i xs ++ v ∷ [] → are_whole text (map variable_view xs) ≡ true
    → IsExpanded text (place_type_view v.declared)
whole_one text xs i v below more h =
    let front : are_whole text (map variable_view (take (i + 1) xs)) ≡ true =
    all_front (is_whole text) (map variable_view (take (i + 1) xs)) (map variable_view (drop_after xs))
    (ap (are_whole text) (sym (map-append variable_view (take (i + 1) xs) (drop_after xs))
    ∙ ap (map variable_view) (take-append-drop (i + 1) xs)) ∙ h) in
    last_whole (take i xs) (ap (λ ys. are_whole text (map variable_view ys)) (sym more) ∙ front)
  where
    drop_after : List Variable → List Variable
    drop_after ys = drop (i + 1) ys

    last_whole : (ys : List Variable) → are_whole text (map variable_view (ys ++ v ∷ [])) ≡ true
        → IsExpanded text (place_type_view v.declared)
    last_whole [] g =
        (and_parts (is_within_depth MAX_TYPE_DEPTH text (place_type_view v.declared))
        (is_sound (shape_of_type text (place_type_view v.declared)))
        (and_parts (is_whole text (variable_view v)) true g).0).0
    last_whole (y ∷ ys) g =
        last_whole ys
        (and_parts (is_whole text (variable_view y)) (are_whole text (map variable_view (ys ++ v ∷ []))) g).1

-- before the first variable
pub begin_symbols : (text : Declared) (hidden : Index Bool) (x : Name) (f : Option LinkSymbol) (o : Option Symbol)
    → Agree (IsSymbol text) f o → Agree (IsSymbol text) f (or_found o (unless_found hidden x None))
begin_symbols text hidden x f o a = by_hidden (is_some (found hidden x))
  where
    same : (p : Option Symbol) → p ≡ or_found p None
    same None = refl
    same (Some y) = refl

    by_hidden : (b : Bool) → Agree (IsSymbol text) f (or_found o (if b then None else None))
    by_hidden true = subst (Agree (IsSymbol text) f) (same o) a
    by_hidden false = subst (Agree (IsSymbol text) f) (same o) a

-- one turn
pub more_taken : {A : Type 0} (xs : List A) (i : ℕ) (x : A) → i < length xs → x ≡ slice_index_or xs i x
    → take (i + 1) xs ≡ take i xs ++ x ∷ []
more_taken xs i x below is = take_more xs i x below ∙ ap (λ y. take i xs ++ y ∷ []) (sym is)

more_cut : (a b s n r : ℕ) → a ≡ capped_size b → n ≡ capped_size s → r ≡ capped_size (a + n) → r ≡ capped_size (b + (s + 0))
more_cut a b s n r is one all = grind (arith)

pub slots_more : (text : Declared) (xs : List Variable) (i : ℕ) (v : Variable) (a n r : ℕ)
    → take (i + 1) xs ≡ take i xs ++ v ∷ []
    → a ≡ capped_size (slots_taken text (map variable_view (take i xs)))
    → n ≡ capped_size (size (shape_of_type text (place_type_view v.declared))) → r ≡ capped_size (a + n)
    → r ≡ capped_size (slots_taken text (map variable_view (take (i + 1) xs)))
slots_more text xs i v a n r more so_far one all =
    more_cut a (slots_taken text (map variable_view (take i xs)))
    (size (shape_of_type text (place_type_view v.declared))) n r so_far one all
    ∙ ap capped_size (sym (taken_append text (map variable_view (take i xs)) (variable_view v ∷ []))
    ∙ ap (slots_taken text) (sym (map-append variable_view (take i xs) (v ∷ [])) ∙ ap (map variable_view) (sym more)))

front_taken : (text : Declared) (base : Anchor) (xs : List Variable) (i : ℕ)
    → first_slot base + slots_taken text (map variable_view xs) ≤ MAX_PATHS
    → first_slot base + slots_taken text (map variable_view (take i xs)) ≤ MAX_PATHS
front_taken text base xs i h =
    let a : slots_taken text (map variable_view xs)
    ≡ slots_taken text (map variable_view (take i xs)) + slots_taken text (map variable_view (drop i xs)) =
    ap (λ ys. slots_taken text (map variable_view ys)) (sym (take-append-drop i xs))
    ∙ ap (slots_taken text) (map-append variable_view (take i xs) (drop i xs))
    ∙ taken_append text (map variable_view (take i xs)) (map variable_view (drop i xs)) in
    omega (arith, a, h)

behind : (b n : ℕ) → b + n ≤ MAX_PATHS → n ≤ MAX_PATHS
behind b n h = omega (arith, h)

pub offset_is : (text : Declared) (base : Anchor) (xs : List Variable) (i a : ℕ)
    → a ≡ capped_size (slots_taken text (map variable_view (take i xs)))
    → first_slot base + slots_taken text (map variable_view xs) ≤ MAX_PATHS
    → a ≡ slots_taken text (map variable_view (take i xs))
offset_is text base xs i a is room =
    uncut a (slots_taken text (map variable_view (take i xs))) is
    (behind (first_slot base) (slots_taken text (map variable_view (take i xs))) (front_taken text base xs i room))

-- room for one more
room_for : (text : Declared) (base : Anchor) (xs : List Variable) (i : ℕ) (v : Variable)
    → take (i + 1) xs ≡ take i xs ++ v ∷ []
    → first_slot base + slots_taken text (map variable_view xs) ≤ MAX_PATHS
    → first_slot base + (slots_taken text (map variable_view (take i xs))
    + size (shape_of_type text (place_type_view v.declared))) ≤ MAX_PATHS
room_for text base xs i v more room =
    let a : slots_taken text (map variable_view (take (i + 1) xs))
    ≡ slots_taken text (map variable_view (take i xs)) + (size (shape_of_type text (place_type_view v.declared)) + 0) =
    ap (slots_taken text) (ap (map variable_view) more ∙ map-append variable_view (take i xs) (v ∷ []))
    ∙ taken_append text (map variable_view (take i xs)) (variable_view v ∷ []) in
    let b = front_taken text base xs (i + 1) room in
    omega (arith, a, b)

-- the symbols so far and one variable more, over lists of the code
pub symbols_more : (text : Declared) (hidden : Index Bool) (base : Anchor) (x : Name) (o : Option Symbol)
    (xs : List Variable) (i a : ℕ) (v : Variable) (s : LinkSymbol) (before after : Option LinkSymbol)
    → take (i + 1) xs ≡ take i xs ++ v ∷ []
    → after ≡ or_found before (unless_found hidden x (if bytes_eq x v.name.now then Some s else None))
    → anchor_view s.anchor ≡ moved base a → a ≡ slots_taken text (map variable_view (take i xs))
    → s.is_input ≡ v.is_input → s.declared ≡ v.declared → IsExpanded text (place_type_view v.declared)
    → first_slot base + slots_taken text (map variable_view xs) ≤ MAX_PATHS
    → Agree (IsSymbol text) before
    (or_found o (unless_found hidden x (symbol_among text base (map variable_view (take i xs)) x)))
    → Agree (IsSymbol text) after
    (or_found o (unless_found hidden x (symbol_among text base (map variable_view (take (i + 1) xs)) x)))
symbols_more text hidden base x o xs i a v s before after more added anchor offset input declared expanded room agrees =
    subst (λ vs. Agree (IsSymbol text) after (or_found o (unless_found hidden x (symbol_among text base vs x))))
    (sym (ap (map variable_view) more ∙ map-append variable_view (take i xs) (v ∷ [])))
    (one_more text hidden base x o (map variable_view (take i xs)) v s before after added
    (anchor ∙ ap (moved base) offset) input declared expanded (room_for text base xs i v more room) agrees)

-- from the first slot on
pub from_first : (n : ℕ) → n ≤ MAX_PATHS → 0 + n ≤ MAX_PATHS
from_first n h = omega (arith, h)

-- if nothing is kept elsewhere
pub all_shown : (text : Declared) (hidden : Index Bool) (x : Name) (f : Option LinkSymbol) (o : Option Symbol)
    → found hidden x ≡ None → Agree (IsSymbol text) f (or_found None (unless_found hidden x o))
    → Agree (IsSymbol text) f o
all_shown text hidden x f o none a =
    subst (λ b. Agree (IsSymbol text) f (if b then None else o)) (ap is_some none) a

-- externals in front of the unit's own variables
pub externals_agree : (text : Declared) (c : Bool) (old now global : Option LinkSymbol) (g : Option Symbol) → old ≡ None
    → now ≡ or_found old (if c then global else None) → Agree (IsSymbol text) global g
    → Agree (IsSymbol text) now (if c then g else None)
externals_agree text c old now global g none is a =
    subst (λ f. Agree (IsSymbol text) f (if c then g else None))
    (sym (is ∙ ap (λ o. or_found o (if c then global else None)) none)) (by_test c)
  where
    by_test : (b : Bool) → Agree (IsSymbol text) (if b then global else None) (if b then g else None)
    by_test true = a
    by_test false = tt

pub unit_shown : (text : Declared) (hidden : Index Bool) (x : Name) (c : Bool) (g o : Option Symbol)
    (f : Option LinkSymbol) → is_some (found hidden x) ≡ c
    → Agree (IsSymbol text) f (or_found (if c then g else None) (unless_found hidden x o))
    → Agree (IsSymbol text) f (if c then g else o)
unit_shown text hidden x c g o f is a =
    by_test c (subst (λ b. Agree (IsSymbol text) f (or_found (if c then g else None) (if b then None else o))) is a)
  where
    alone : (p : Option Symbol) → or_found p None ≡ p
    alone None = refl
    alone (Some y) = refl

    by_test : (b : Bool) → Agree (IsSymbol text) f (or_found (if b then g else None) (if b then None else o))
        → Agree (IsSymbol text) f (if b then g else o)
    by_test true h = subst (Agree (IsSymbol text) f) (alone g) h
    by_test false h = h
