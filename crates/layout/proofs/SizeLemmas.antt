-- Sizes of types and of their parts.
use Rattle.std.proofs.Common.{◌≡◌, refl, sym, ap, ap₂, subst, ◌∙◌, arith, ℕ, zero, suc, ◌+◌, ◌*◌, ◌≤◌, List, [], ◌∷◌}
use Rattle.std.proofs.Common.{◌++◌}
use Rattle.std.proofs.Common.{map, Bool, true, false, ◌&&◌, if◌then◌else◌, Option, Some, None}
use Rattle.std.specs.Prelude.{bytes_eq, IfNone, IfSome}
use denote.Bor.{Bor}
use Rattle.std.specs.List.{list_all}
use Rattle.std.proofs.lemmas.List.{append_assoc, append-nil}
use Rattle.std.proofs.lemmas.Slice.Eq.{bytes_eq-Decides}
use Rattle.std.proofs.lemmas.Bool.{and_parts}
use Rattle.st_types.specs.declared.limits.TheConstants.{MAX_PATHS}
use Rattle.st_types.specs.declared.path.Step.{Step}
use Rattle.st_types.specs.declared.data_type.ArrayType.{ArrayType}
use Rattle.st_types.specs.declared.identifier.Identifier.{Identifier}
use Rattle.st_types.specs.declared.data_type.SimpleType.TheVariants.{Elementary, Named}
use Rattle.st_types.specs.declared.data_type.VariableType.{VariableType}
use Rattle.st_types.specs.declared.data_type.VariableType.TheVariants.{Simple, Array}
use Rattle.st_meaning.specs.NameTypes.{Declared}
use Rattle.st_meaning.specs.Scopes.{Name}
use Rattle.st_rules.specs.TypeRules.{elements_of_array}
use Rattle.symbols.specs.Found.{found, or_found}
use Rattle.symbols.specs.declared.index.Index.{Index}
use Rattle.layout.specs.Shapes.{size, sizes}
use Rattle.layout.specs.Types.{Site, NamedSite, Composition, of_kind, of_elements, of_parts, composition_of}
use Rattle.layout.specs.Types.{composed_shape, parts_of, parts_within, element_of, shape_within}
use Rattle.layout.specs.Types.{is_within_depth}
use Rattle.layout.proofs.DepthLemmas.{expanded_whole}
use Rattle.layout.specs.Compositions.{composition_view, named_type}
use Rattle.layout.specs.declared.compositions.Composition as code
use Rattle.layout.specs.declared.compositions.Composition.TheVariants.{Kind, Elements, Fields, Block, Standard, Nothing}
use Rattle.symbols.specs.PlaceTypes.{place_type_view}
use Rattle.layout.specs.KeptSites.{kept_part, member_part, part_view, parts_below}
use Rattle.layout.specs.Sizes.{IsSized, KnowsSizes, capped_size, name_in}
use Rattle.layout.specs.Slots.{own_size}
use Rattle.layout.specs.declared.sites.Part.{Part}

-- numbers that are capped
pub cut_sum : (a b : ℕ) → capped_size (capped_size a + capped_size b) ≡ capped_size (a + b)
cut_sum a b = grind (arith)

cut_product : (n a : ℕ) → capped_size (n * capped_size a) ≡ capped_size (n * a)
cut_product n a = grind (arith)

-- A type is known by its name, wherever that occurs.
same_within : (text : Declared) (x : Name) (a b m : ℕ)
    → is_within_depth m text (named_type x a) ≡ is_within_depth m text (named_type x b)
unfolding is_within_depth
same_within text x a b zero = refl
same_within text x a b (suc m) = refl

same_shape : (text : Declared) (x : Name) (a b m : ℕ)
    → shape_within m text (named_type x a) ≡ shape_within m text (named_type x b)
unfolding shape_within
same_shape text x a b zero = refl
same_shape text x a b (suc m) = refl

sized_elsewhere : (text : Declared) (x : Name) (a b n : ℕ) → IsSized text (named_type x a) n
    → IsSized text (named_type x b) n
sized_elsewhere text x a b n h = record {
  depth = h.depth;
  within = λ m le. same_within text x b a m ∙ h.within m le;
  is = λ m le. h.is m le ∙ ap (λ sh. capped_size (size sh)) (same_shape text x a b m);
}

-- one more size besides those that were known
pub knows_more : (text : Declared) (old new : Index ℕ) (x : Name) (at n : ℕ) → KnowsSizes text old
    → ((q : Name) → found new q ≡ or_found (found old q) (if bytes_eq q x then Some n else None))
    → IsSized text (named_type x at) n → KnowsSizes text new
knows_more text old new x at n knows added sized q k is b =
    by_found (found old q) refl (sym (added q) ∙ is)
  where
    by_name : (t : Bool) → bytes_eq q x ≡ t → (if t then Some n else None) ≡ Some k → IsSized text (named_type q b) k
    by_name true e h =
        let same = (bytes_eq-Decides q x).0 e in
        let kept : n ≡ k = cc in
        subst (λ y. IsSized text (named_type y b) k) (sym same)
        (subst (λ j. IsSized text (named_type x b) j) kept (sized_elsewhere text x at b n sized))
    by_name false e h = absurd (cc)

    by_found : (o : Option ℕ) → found old q ≡ o → or_found o (if bytes_eq q x then Some n else None) ≡ Some k
        → IsSized text (named_type q b) k
    by_found (Some j) e h =
        let kept : j ≡ k = cc in knows q k (e ∙ ap Some kept) b
    by_found None e h = by_name (bytes_eq q x) refl h

-- the sum of the sizes of types that are expanded to this depth
pub sum_within : ℕ → Declared → List VariableType → ℕ
sum_within m text [] = 0
sum_within m text (t ∷ ts) = size (shape_within m text t) + sum_within m text ts

-- From some depth on these types are expanded whole, and their sizes, added to those before, give this.
pub record AreSized (text : Declared) (ts : List VariableType) (before found : ℕ) : Type 0 where
  pub depth : ℕ
  pub within : (m : ℕ) → depth ≤ m → list_all (is_within_depth m text) ts ≡ true
  pub is : (m : ℕ) → depth ≤ m → found ≡ capped_size (before + sum_within m text ts)

sum_append : (m : ℕ) (text : Declared) (ts us : List VariableType)
    → sum_within m text (ts ++ us) ≡ sum_within m text ts + sum_within m text us
unfolding sum_within
sum_append m text [] us = omega arith
sum_append m text (t ∷ ts) us = let h = sum_append m text ts us in omega (arith, h)

all_append : (f : VariableType → Bool) (ts us : List VariableType) → list_all f ts ≡ true → list_all f us ≡ true
    → list_all f (ts ++ us) ≡ true
all_append f [] us a b = b
all_append f (t ∷ ts) us a b =
    let c = and_parts (f t) (list_all f ts) a in
    ap (λ x. x && list_all f (ts ++ us)) c.0 ∙ all_append f ts us c.1 b

pub sized_none : (text : Declared) (n : ℕ) → n ≤ MAX_PATHS → AreSized text [] n n
unfolding sum_within
sized_none text n small = record {
  depth = 0;
  within = λ m le. refl;
  is = λ m le. grind (arith, small);
}

pub sized_more : (text : Declared) (ts : List VariableType) (t : VariableType) (before a b : ℕ)
    → AreSized text ts before a → IsSized text t b → AreSized text (ts ++ t ∷ []) before (capped_size (a + b))
unfolding sum_within
sized_more text ts t before a b some one = record {
  depth = some.depth + one.depth;
  within = λ m le. all_append (is_within_depth m text) ts (t ∷ []) (some.within m (omega (arith, le)))
      (ap (λ x. x && true) (one.within m (omega (arith, le))));
  is = λ m le.
      let c = some.is m (omega (arith, le)) in let d = one.is m (omega (arith, le)) in
      let e = sum_append m text ts (t ∷ []) in
      ap (λ x. capped_size (x + b)) c ∙ ap (λ x. capped_size (capped_size (before + sum_within m text ts) + x)) d
      ∙ cut_sum (before + sum_within m text ts) (size (shape_within m text t))
      ∙ ap capped_size (regrouped before (sum_within m text ts) (size (shape_within m text t))
      (sum_within m text (ts ++ t ∷ [])) e);
}
  where
    regrouped : (k l n o : ℕ) → o ≡ l + (n + 0) → k + l + n ≡ k + o
    regrouped k l n o h = omega (arith, h)

-- the types of parts
abbrev pub types_of : List (Step × Site) → List VariableType
types_of es = map (λ e. e.1.declared) es

members_sum : (m : ℕ) (text : Declared) (s : Site) (ds : List NamedSite)
    → sizes (parts_of (shape_within m text) ds) ≡ sum_within m text (types_of (map (member_part s) ds))
unfolding sum_within
members_sum m text s [] = refl
members_sum m text s (d ∷ ds) =
    ap (λ n. size (shape_within m text d.site.declared) + n) (members_sum m text s ds)

members_all : (f : VariableType → Bool) (s : Site) (ds : List NamedSite)
    → list_all (λ d. f d.site.declared) ds ≡ list_all f (types_of (map (member_part s) ds))
members_all f s [] = refl
members_all f s (d ∷ ds) = ap (λ b. f d.site.declared && b) (members_all f s ds)

-- a composition without elements, by its parts
abbrev pub HasNoElements : Composition → Type 0
HasNoElements (of_kind k) = Unit {0}
HasNoElements (of_elements a) = ⊥
HasNoElements (of_parts w ds) = Unit {0}

parts_size : (m : ℕ) (text : Declared) (s : Site) (c : Composition) → HasNoElements c
    → size (composed_shape (shape_within m text) c) ≡ own_size c + sum_within m text (types_of (parts_below s c))
unfolding sum_within
parts_size m text s (of_kind k) h = omega arith
parts_size m text s (of_elements a) h = absurd h
parts_size m text s (of_parts w ds) h = let g = members_sum m text s ds in omega (arith, g)

parts_all : (f : VariableType → Bool) (s : Site) (c : Composition) → HasNoElements c
    → parts_within f c ≡ list_all f (types_of (parts_below s c))
parts_all f s (of_kind k) h = refl
parts_all f s (of_elements a) h = absurd h
parts_all f s (of_parts w ds) h = members_all f s ds

pub sized_whole : (text : Declared) (s : Site) (t : VariableType) (c : Composition) (n : ℕ)
    → composition_of text t ≡ c → HasNoElements c → AreSized text (types_of (parts_below s c)) (own_size c) n
    → IsSized text t n
unfolding shape_within is_within_depth
sized_whole text s t c n made none h = record {
  depth = suc h.depth;
  within = λ m le. within_at m le;
  is = λ m le. is_at m le;
}
  where
    within_at : (m : ℕ) → suc h.depth ≤ m → is_within_depth m text t ≡ true
    within_at zero le = absurd (omega (arith, le))
    within_at (suc m) le =
        ap (parts_within (is_within_depth m text)) made ∙ parts_all (is_within_depth m text) s c none
        ∙ h.within m (omega (arith, le))

    is_at : (m : ℕ) → suc h.depth ≤ m → n ≡ capped_size (size (shape_within m text t))
    is_at zero le = absurd (omega (arith, le))
    is_at (suc m) le =
        h.is m (omega (arith, le)) ∙ ap capped_size (sym (parts_size m text s c none))
        ∙ ap (λ x. capped_size (size (composed_shape (shape_within m text) x))) (sym made)

pub sized_array : (text : Declared) (t : VariableType) (a : ArrayType) (n : ℕ) → composition_of text t ≡ of_elements a
    → IsSized text (element_of a) n → IsSized text t (capped_size (elements_of_array a * n))
unfolding shape_within is_within_depth
sized_array text t a n made h = record {
  depth = suc h.depth;
  within = λ m le. within_at m le;
  is = λ m le. is_at m le;
}
  where
    within_at : (m : ℕ) → suc h.depth ≤ m → is_within_depth m text t ≡ true
    within_at zero le = absurd (omega (arith, le))
    within_at (suc m) le = ap (parts_within (is_within_depth m text)) made ∙ h.within m (omega (arith, le))

    is_at : (m : ℕ) → suc h.depth ≤ m → capped_size (elements_of_array a * n) ≡ capped_size (size (shape_within m text t))
    is_at zero le = absurd (omega (arith, le))
    is_at (suc m) le =
        ap (λ x. capped_size (elements_of_array a * x)) (h.is m (omega (arith, le)))
        ∙ cut_product (elements_of_array a) (size (shape_within m text (element_of a)))
        ∙ ap (λ x. capped_size (size (composed_shape (shape_within m text) x))) (sym made)

-- a whole is too deep if a part is
not_all : (f : VariableType → Bool) (ts : List VariableType) (t : VariableType) (rest : List VariableType)
    → f t ≡ false → list_all f (ts ++ t ∷ rest) ≡ false
not_all f [] t rest h = ap (λ b. b && list_all f rest) h
not_all f (u ∷ ts) t rest h = by_test (f u) (not_all f ts t rest h)
  where
    by_test : (b : Bool) → list_all f (ts ++ t ∷ rest) ≡ false → (b && list_all f (ts ++ t ∷ rest)) ≡ false
    by_test true g = g
    by_test false g = refl

pub too_deep : (n : ℕ) (text : Declared) (s : Site) (t : VariableType) (c : Composition) (ts : List VariableType)
    (u : VariableType) (rest : List VariableType) → composition_of text t ≡ c → HasNoElements c
    → types_of (parts_below s c) ≡ ts ++ u ∷ rest → is_within_depth n text u ≡ false
    → is_within_depth (suc n) text t ≡ false
unfolding is_within_depth
too_deep n text s t c ts u rest made none are h =
    ap (parts_within (is_within_depth n text)) made ∙ parts_all (is_within_depth n text) s c none
    ∙ ap (list_all (is_within_depth n text)) are ∙ not_all (is_within_depth n text) ts u rest h

pub too_deep_array : (n : ℕ) (text : Declared) (t : VariableType) (a : ArrayType)
    → composition_of text t ≡ of_elements a → is_within_depth n text (element_of a) ≡ false
    → is_within_depth (suc n) text t ≡ false
unfolding is_within_depth
too_deep_array n text t a made h = ap (parts_within (is_within_depth n text)) made ∙ h

-- the size of a type that is at most this deep
pub size_whole : (n : ℕ) (text : Declared) (t : VariableType) (found : ℕ) → is_within_depth n text t ≡ true
    → IsSized text t found → found ≡ capped_size (size (shape_within n text t))
size_whole n text t found within h =
    h.is (h.depth + n) (omega arith)
    ∙ ap (λ sh. capped_size (size sh)) (expanded_whole text n (h.depth + n) t within (omega arith))

pub own_small : (c : Composition) → own_size c ≤ MAX_PATHS
own_small (of_kind k) = omega arith
own_small (of_elements a) = omega arith
own_small (of_parts w ds) = omega arith

-- the type of a part
abbrev pub part_type : Part → VariableType
part_type p = place_type_view p.site.declared

pub part_types : (es : List (Step × Site)) (ps : List Part) → map part_view ps ≡ map kept_part es
    → map part_type ps ≡ types_of es
part_types [] [] h = refl
part_types [] (p ∷ ps) h = absurd (cc)
part_types (e ∷ es) [] h = absurd (cc)
part_types (e ∷ es) (p ∷ ps) h =
    let a : part_view p ≡ kept_part e = cc in
    let b : map part_view ps ≡ map kept_part es = cc in
    ap₂ (λ t ts. t ∷ ts) (ap (λ q. q.1.declared) a) (part_types es ps b)

-- The sizes of the parts so far give this sum.
pub record SizedSoFar (text : Declared) (before total : ℕ) (ps left : List Part) : Type 0 where
  pub ts : List VariableType
  pub are : ts ++ map part_type left ≡ map part_type ps
  pub sized : AreSized text ts before total

pub sized_first : (text : Declared) (n : ℕ) (ps : List Part) → n ≤ MAX_PATHS → SizedSoFar text n n ps ps
sized_first text n ps small = record { ts = []; are = refl; sized = sized_none text n small }

pub sized_next : (text : Declared) (before total : ℕ) (ps : List Part) (p : Part) (left : List Part) (n : ℕ)
    → SizedSoFar text before total ps (p ∷ left) → IsSized text (part_type p) n
    → SizedSoFar text before (capped_size (total + n)) ps left
sized_next text before total ps p left n m h = record {
  ts = m.ts ++ part_type p ∷ [];
  are = append_assoc m.ts (part_type p ∷ []) (map part_type left) ∙ m.are;
  sized = sized_more text m.ts (part_type p) before total n m.sized h;
}

-- a type that is a name
pub is_named : (t : VariableType) (x : Identifier) → name_in t ≡ Some x → named_type x.name x.place ≡ t
is_named (Simple (Named y)) x h = let e : y ≡ x = cc in ap (λ z. Simple (Named z)) (sym e)
is_named (Simple (Elementary k at)) x h = absurd (cc)
is_named (Array a) x h = absurd (cc)

-- an answer
pub if_none : {A : Type 0} {P : Type 0} (o : Option A) → o ≡ None → IfNone o P → P
if_none None e h = h
if_none (Some x) e h = absurd (cc)

pub if_some : {A : Type 0} (Q : A → Type 0) (o : Option A) (x : A) → o ≡ Some x → IfSome o Q → Q x
if_some Q (Some y) x e h = let s : y ≡ x = cc in subst Q s h
if_some Q None x e h = absurd (cc)

pub nothing_within : (n : ℕ) (text : Declared) (t : VariableType) → n ≡ 0 → is_within_depth n text t ≡ false
unfolding is_within_depth
nothing_within n text t is = rw is (none text t)
  where
    none : (text : Declared) (t : VariableType) → is_within_depth 0 text t ≡ false
    none text t = refl

pub no_elements : (c : code.Composition) → ((a : Bor ArrayType) → c ≡ Elements a → ⊥)
    → HasNoElements (composition_view c)
no_elements (Kind k) h = tt
no_elements (Elements a) h = absurd (h a refl)
no_elements (Fields fs) h = tt
no_elements (Block bs) h = tt
no_elements (Standard b) h = tt
no_elements Nothing h = tt

-- if no part is left, the size is that of the whole
pub sized_all : (text : Declared) (s : Site) (t : VariableType) (c : Composition) (before total : ℕ)
    (ps left : List Part) → composition_of text t ≡ c → HasNoElements c → before ≡ own_size c
    → map part_view ps ≡ map kept_part (parts_below s c)
    → left ≡ [] → SizedSoFar text before total ps left → IsSized text t total
sized_all text s t c before total ps left made none own parts ended m =
    let all : m.ts ≡ types_of (parts_below s c) =
    sym (append-nil m.ts) ∙ ap (λ xs. m.ts ++ map part_type xs) (sym ended) ∙ m.are
    ∙ part_types (parts_below s c) ps parts in
    sized_whole text s t c total made none
    (subst (λ n. AreSized text (types_of (parts_below s c)) n total) own
    (subst (λ ts. AreSized text ts before total) all m.sized))

-- if the part at hand is too deep, the whole is
pub part_too_deep : (n : ℕ) (text : Declared) (s : Site) (t : VariableType) (c : Composition) (before total : ℕ)
    (ps : List Part) (p : Part) (left : List Part) → composition_of text t ≡ c → HasNoElements c
    → map part_view ps ≡ map kept_part (parts_below s c) → SizedSoFar text before total ps (p ∷ left)
    → is_within_depth n text (part_type p) ≡ false → is_within_depth (suc n) text t ≡ false
part_too_deep n text s t c before total ps p left made none parts m h =
    too_deep n text s t c m.ts (part_type p) (map part_type left) made none
    (sym (part_types (parts_below s c) ps parts) ∙ sym m.are) h

-- the answer for a type that is at most this deep
pub answered : (n : ℕ) (text : Declared) (t : VariableType) (o : Option ℕ) → ((m : ℕ) → o ≡ Some m → IsSized text t m)
    → (o ≡ None → is_within_depth n text t ≡ false) → is_within_depth n text t ≡ true
    → o ≡ Some (capped_size (size (shape_within n text t)))
answered n text t (Some m) some none within = ap Some (size_whole n text t m within (some m refl))
answered n text t None some none within = let h = none refl in absurd (cc)
