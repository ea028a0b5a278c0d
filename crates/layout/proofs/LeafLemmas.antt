-- The elementary parts of a shape, and the position of each among them.
use Rattle.std.proofs.Common.{◌≡◌, inl, inr, ℕ, zero, suc, ◌+◌, ◌*◌, ℤ, pos, ◌+ℤ◌, Bool, true, false, not, ◌&&◌, ◌||◌}
use Rattle.std.proofs.Common.{if◌then◌else◌, List, [], ◌∷◌, ◌++◌, length, map, slice_get, Option, Some, option_map}
use Rattle.std.proofs.Common.{refl, sym, ap, ap₂, ◌∙◌, length-append, arith}
use Rattle.std.specs.Prelude.{bytes_eq, nat_lt}
use Rattle.std.specs.Ordering.{int_eq}
use Rattle.std.specs.List.{list_any}
use Rattle.std.proofs.lemmas.Int.{ints}
use Rattle.st_types.specs.declared.kind.Kind.{Kind}
use Rattle.st_types.specs.declared.path.Step.{Step}
use Rattle.st_types.specs.declared.path.Step.TheVariants.{Member, Element}
use Rattle.st_types.specs.Paths.{begins_with, same_step}
use Rattle.st_meaning.specs.Scopes.{Name}
use Rattle.layout.specs.Shapes.{Shape, plain, array, parts, Parts, no_parts, part_then, size, sizes, Leaf}
use Rattle.layout.specs.Shapes.{below, leaves_of_elements, leaves_of, leaves_of_parts, in_bounds, distance}
use Rattle.layout.specs.Shapes.{Position}
use Rattle.layout.specs.Shapes.{position_after, position_of, position_in, leads_on, leads_in, has_name, is_sound, are_sound}
use Rattle.layout.proofs.ListLemmas.{get_right, get_split, same_int, same_name}
use Rattle.layout.proofs.ListLemmas.{name_itself, name_turned}
use Rattle.std.proofs.lemmas.Bool.{and_parts, or_right}
use Rattle.std.proofs.lemmas.Option.{slice_get-map}
use Rattle.st_types.proofs.ListLemmas.{get_first, length_map}
use Rattle.st_types.proofs.OptionLemmas.{map_some, if_some}
use Rattle.st_types.proofs.TestLemmas.{false_from_not, or_false}
use Rattle.std.proofs.lemmas.List.Folds.{list_any-append}

-- numbers
bounds_here : (z : ℤ) (c : ℕ) → in_bounds z (suc c) z ≡ true
bounds_here z c = grind (arith, ints)

bounds_none : (z n : ℤ) → in_bounds z 0 n ≡ false
bounds_none z n = grind (arith, ints)

bounds_next : (z n : ℤ) (c : ℕ) → int_eq z n ≡ false → in_bounds z (suc c) n ≡ in_bounds (z +ℤ pos 1) c n
bounds_next z n c h = grind (arith, ints)

bounds_later : (z n : ℤ) (c : ℕ) → in_bounds (z +ℤ pos 1) c n ≡ true → int_eq z n ≡ false
bounds_later z n c h = grind (arith, ints)

distance_here : (z : ℤ) → distance z z ≡ 0
distance_here z = grind (arith, ints)

distance_next : (z n : ℤ) (c : ℕ) → int_eq z n ≡ false → in_bounds z (suc c) n ≡ true
    → distance z n ≡ suc (distance (z +ℤ pos 1) n)
distance_next z n c h g = grind (arith, ints)

abbrev pub leaf : List Step → Kind → Leaf
leaf xs k = record { steps = xs; kind = k }

-- how many
length_elements : (z : ℤ) (c : ℕ) (inner : List Leaf) → length (leaves_of_elements z c inner) ≡ c * length inner
length_elements z zero inner = omega arith
length_elements z (suc c) inner =
    let a = length-append (map (below (Element z)) inner) (leaves_of_elements (z +ℤ pos 1) c inner) in
    let b = length_map (below (Element z)) inner in
    let h = length_elements (z +ℤ pos 1) c inner in omega arith

mutual
  pub length_leaves : (sh : Shape) → length (leaves_of sh) ≡ size sh
  length_leaves (plain k) = refl
  length_leaves (array lower count sh) =
      length_elements lower count (leaves_of sh) ∙ ap (λ n. count * n) (length_leaves sh)
  length_leaves (parts w ps) = length_parts ps

  length_parts : (ps : Parts) → length (leaves_of_parts ps) ≡ sizes ps
  length_parts no_parts = refl
  length_parts (part_then x sh ps) =
      let a = length-append (map (below (Member x)) (leaves_of sh)) (leaves_of_parts ps) in
      let b = length_map (below (Member x)) (leaves_of sh) in
      let h = length_leaves sh in let g = length_parts ps in omega arith

-- a part is at its position
elements_at : (z : ℤ) (c : ℕ) (inner : List Leaf) (n : ℤ) (o : ℕ) (l : Leaf) → in_bounds z c n ≡ true
    → slice_get inner o ≡ Some l
    → slice_get (leaves_of_elements z c inner) (distance z n * length inner + o) ≡ Some (below (Element n) l)
elements_at z zero inner n o l b g = let f = bounds_none z n in absurd (cc)
elements_at z (suc c) inner n o l b g =
    by_test (int_eq z n) refl (λ later. elements_at (z +ℤ pos 1) c inner n o l later g)
  where
    by_test : (t : Bool) → int_eq z n ≡ t
        → (in_bounds (z +ℤ pos 1) c n ≡ true → slice_get (leaves_of_elements (z +ℤ pos 1) c inner)
        (distance (z +ℤ pos 1) n * length inner + o) ≡ Some (below (Element n) l))
        → slice_get (leaves_of_elements z (suc c) inner) (distance z n * length inner + o)
        ≡ Some (below (Element n) l)
    by_test true e ih =
        let s = same_int z n e in
        let d : distance z n * length inner + o ≡ o =
        ap (λ k. k * length inner + o) (ap (λ m. distance z m) (sym s) ∙ distance_here z) ∙ omega arith in
        let m : slice_get (map (below (Element z)) inner) o ≡ Some (below (Element z) l) =
        slice_get-map (below (Element z)) inner o ∙ ap (option_map (below (Element z))) g in
        ap (slice_get (leaves_of_elements z (suc c) inner)) d
        ∙ get_first (map (below (Element z)) inner) (leaves_of_elements (z +ℤ pos 1) c inner) o
        (below (Element z) l) m
        ∙ ap (λ m. Some (below (Element m) l)) s
    by_test false e ih =
        let d = distance_next z n c e b in
        let l = length_map (below (Element z)) inner in
        let k : distance z n * length inner + o
        ≡ length (map (below (Element z)) inner) + (distance (z +ℤ pos 1) n * length inner + o) =
        rw d (omega arith) in
        get_right (map (below (Element z)) inner) (leaves_of_elements (z +ℤ pos 1) c inner)
        (distance (z +ℤ pos 1) n * length inner + o) (distance z n * length inner + o) k
        ∙ ih (sym (bounds_next z n c e) ∙ b)

part_at_cases : (t : Bool) (x y : Name) (sh : Shape) (rest : List Leaf) (inner : Option Position) (xs : List Step)
    (o : Position) → (t ≡ true → x ≡ y)
    → ((p : Position) → position_of sh xs ≡ Some p → slice_get (leaves_of sh) p.number ≡ Some (leaf xs p.kind))
    → ((p : Position) → inner ≡ Some p → slice_get rest p.number ≡ Some (leaf (Member x ∷ xs) p.kind))
    → (if t then position_of sh xs else option_map (position_after (size sh)) inner) ≡ Some o
    → slice_get (map (below (Member y)) (leaves_of sh) ++ rest) o.number ≡ Some (leaf (Member x ∷ xs) o.kind)
part_at_cases true x y sh rest inner xs o same here later h =
    let m : slice_get (map (below (Member y)) (leaves_of sh)) o.number ≡ Some (leaf (Member y ∷ xs) o.kind) =
    slice_get-map (below (Member y)) (leaves_of sh) o.number ∙ ap (option_map (below (Member y))) (here o h) in
    get_first (map (below (Member y)) (leaves_of sh)) rest o.number (leaf (Member y ∷ xs) o.kind) m
    ∙ ap (λ n. Some (leaf (Member n ∷ xs) o.kind)) (sym (same refl))
part_at_cases false x y sh rest inner xs o same here later h =
    let i = map_some (position_after (size sh)) inner o h in
    let a = length_map (below (Member y)) (leaves_of sh) in let b = length_leaves sh in
    let c : size sh + i.0.number ≡ o.number = ap (λ q. q.number) i.2 in
    get_right (map (below (Member y)) (leaves_of sh)) rest i.0.number o.number (omega arith) ∙ later i.0 i.1
    ∙ ap (λ q. Some (leaf (Member x ∷ xs) q.kind)) i.2

mutual
  pub at_shape : (sh : Shape) (xs : List Step) (o : Position) → position_of sh xs ≡ Some o
      → slice_get (leaves_of sh) o.number ≡ Some (leaf xs o.kind)
  at_shape (plain k) [] o h =
      let e : ◌≡◌ {A = Position} (record { number = 0; kind = k }) o = cc in rw (← e) refl
  at_shape (plain k) (x ∷ xs) o h = absurd (cc)
  at_shape (array lower count sh) [] o h = absurd (cc)
  at_shape (array lower count sh) (Member x ∷ xs) o h = absurd (cc)
  at_shape (array lower count sh) (Element n ∷ xs) o h =
      let b = if_some (in_bounds lower count n)
      (option_map (position_after (distance lower n * size sh)) (position_of sh xs)) o h in
      let i = map_some (position_after (distance lower n * size sh)) (position_of sh xs) o b.1 in
      ap (slice_get (leaves_of_elements lower count (leaves_of sh)))
      (sym (ap (λ q. q.number) i.2) ∙ ap (λ l. distance lower n * l + i.0.number) (sym (length_leaves sh)))
      ∙ elements_at lower count (leaves_of sh) n i.0.number (leaf xs i.0.kind) b.0 (at_shape sh xs i.0 i.1)
      ∙ ap (λ q. Some (leaf (Element n ∷ xs) q.kind)) i.2
  at_shape (parts w ps) [] o h = absurd (cc)
  at_shape (parts w ps) (Member x ∷ xs) o h = at_parts ps x xs o h
  at_shape (parts w ps) (Element n ∷ xs) o h = absurd (cc)

  at_parts : (ps : Parts) (x : Name) (xs : List Step) (o : Position) → position_in ps x xs ≡ Some o
      → slice_get (leaves_of_parts ps) o.number ≡ Some (leaf (Member x ∷ xs) o.kind)
  at_parts no_parts x xs o h = absurd (cc)
  at_parts (part_then y sh ps) x xs o h =
      part_at_cases (bytes_eq x y) x y sh (leaves_of_parts ps) (position_in ps x xs) xs o (same_name x y)
      (λ p i. at_shape sh xs p i) (λ p i. at_parts ps x xs p i) h

-- and only there
abbrev pub position : ℕ → Kind → Position
position n k = record { number = n; kind = k }

record InElements (z : ℤ) (c : ℕ) (inner : List Leaf) (o : ℕ) (l : Leaf) : Type 0 where
  number : ℤ
  offset : ℕ
  rest : Leaf
  is : l ≡ below (Element number) rest
  within : in_bounds z c number ≡ true
  there : slice_get inner offset ≡ Some rest
  sum : o ≡ distance z number * length inner + offset

elements_of : (z : ℤ) (c : ℕ) (inner : List Leaf) (o : ℕ) (l : Leaf)
    → slice_get (leaves_of_elements z c inner) o ≡ Some l → InElements z c inner o l
elements_of z zero inner o l h = absurd (cc)
elements_of z (suc c) inner o l h =
    elim (get_split (map (below (Element z)) inner) (leaves_of_elements (z +ℤ pos 1) c inner) o l h) [
      | inl g ↦
          let i = map_some (below (Element z)) (slice_get inner o) l
          (sym (slice_get-map (below (Element z)) inner o) ∙ g) in
          let d = distance_here z in
          record {
            number = z;
            offset = o;
            rest = i.0;
            is = sym i.2;
            within = bounds_here z c;
            there = i.1;
            sum = rw d (omega arith);
          }
      | inr g ↦
          let i = elements_of (z +ℤ pos 1) c inner g.0 l g.2 in
          let e = bounds_later z i.number c i.within in
          let w = bounds_next z i.number c e ∙ i.within in
          let d = distance_next z i.number c e w in
          let m = length_map (below (Element z)) inner in
          let s = i.sum in let k = g.1 in
          record {
            number = i.number;
            offset = i.offset;
            rest = i.rest;
            is = i.is;
            within = w;
            there = i.there;
            sum = rw d (omega arith);
          }
    ]

record InParts (ps : Parts) (o : ℕ) (l : Leaf) : Type 0 where
  name : Name
  rest : Leaf
  is : l ≡ below (Member name) rest
  named : has_name ps name ≡ true
  there : position_in ps name rest.steps ≡ Some (position o rest.kind)

other_name : (ps : Parts) (x y : Name) → has_name ps x ≡ true → has_name ps y ≡ false → (t : Bool)
    → bytes_eq x y ≡ t → t ≡ false
other_name ps x y h g true e =
    let s = same_name x y e in let i : has_name ps y ≡ true = ap (has_name ps) (sym s) ∙ h in absurd (cc)
other_name ps x y h g false e = refl

mutual
  pub of_shape : (sh : Shape) → is_sound sh ≡ true → (o : ℕ) (l : Leaf) → slice_get (leaves_of sh) o ≡ Some l
      → position_of sh l.steps ≡ Some (position o l.kind)
  of_shape (plain k) s zero l h = let e : leaf [] k ≡ l = cc in rw (← e) refl
  of_shape (plain k) s (suc o) l h = absurd (cc)
  of_shape (array lower count sh) s o l h =
      let i = elements_of lower count (leaves_of sh) o l h in
      let r = of_shape sh s i.offset i.rest i.there in
      let w = i.within in let is = i.is in let m = length_leaves sh in
      let e : distance lower i.number * size sh + i.offset ≡ o =
      ap (λ n. distance lower i.number * n + i.offset) (sym m) ∙ sym i.sum in
      rw (is, w, r, e) refl
  of_shape (parts x ps) s o l h = let i = of_parts ps s o l h in let is = i.is in rw is i.there

  of_parts : (ps : Parts) → are_sound ps ≡ true → (o : ℕ) (l : Leaf) → slice_get (leaves_of_parts ps) o ≡ Some l
      → InParts ps o l
  of_parts no_parts s o l h = absurd (cc)
  of_parts (part_then y sh ps) s o l h =
      let b = and_parts (not (has_name ps y)) (is_sound sh && are_sound ps) s in
      let c = and_parts (is_sound sh) (are_sound ps) b.1 in
      elim (get_split (map (below (Member y)) (leaves_of sh)) (leaves_of_parts ps) o l h) [
        | inl g ↦
            let i = map_some (below (Member y)) (slice_get (leaves_of sh) o) l
            (sym (slice_get-map (below (Member y)) (leaves_of sh) o) ∙ g) in
            let t = name_itself y in
            record {
              name = y;
              rest = i.0;
              is = sym i.2;
              named = rw t refl;
              there = rw t (of_shape sh c.0 o i.0 i.1);
            }
        | inr g ↦
            let i = of_parts ps c.1 g.0 l g.2 in
            let t = other_name ps i.name y i.named (false_from_not (has_name ps y) b.0) (bytes_eq i.name y) refl in
            let m = length_map (below (Member y)) (leaves_of sh) in let n = length_leaves sh in
            let k = g.1 in let r = i.there in
            let e : size sh + g.0 ≡ o = omega arith in
            record {
              name = i.name;
              rest = i.rest;
              is = i.is;
              named = or_right (bytes_eq i.name y) (has_name ps i.name) i.named;
              there = rw (t, r, e) refl;
            }
      ]

-- the steps to some of these parts begin with these
abbrev pub begin : List Leaf → List Step → Bool
begin ls xs = list_any (λ l. begins_with l.steps xs) ls

begin_all : (ls : List Leaf) → begin ls [] ≡ nat_lt 0 (length ls)
begin_all [] = refl
begin_all (l ∷ ls) = grind arith

begin_step : (x y : Step) (xs : List Step) (b : Bool) → same_step y x ≡ b → (ls : List Leaf)
    → begin (map (below y) ls) (x ∷ xs) ≡ (b && begin ls xs)
begin_step x y xs true e [] = refl
begin_step x y xs false e [] = refl
begin_step x y xs true e (l ∷ ls) = let h = begin_step x y xs true e ls in rw (e, h) refl
begin_step x y xs false e (l ∷ ls) = let h = begin_step x y xs false e ls in rw (e, h) refl

or_absorbed : (a b : Bool) → (a || (b && a)) ≡ a
or_absorbed true b = refl
or_absorbed false true = refl
or_absorbed false false = refl

begin_elements : (z : ℤ) (c : ℕ) (inner : List Leaf) (n : ℤ) (xs : List Step)
    → begin (leaves_of_elements z c inner) (Element n ∷ xs) ≡ (in_bounds z c n && begin inner xs)
begin_elements z zero inner n xs = let b = bounds_none z n in rw b refl
begin_elements z (suc c) inner n xs = by_test (begin_elements (z +ℤ pos 1) c inner n xs) (int_eq z n) refl
  where
    by_test : begin (leaves_of_elements (z +ℤ pos 1) c inner) (Element n ∷ xs)
        ≡ (in_bounds (z +ℤ pos 1) c n && begin inner xs) → (t : Bool) → int_eq z n ≡ t
        → begin (map (below (Element z)) inner ++ leaves_of_elements (z +ℤ pos 1) c inner) (Element n ∷ xs)
        ≡ (in_bounds z (suc c) n && begin inner xs)
    by_test h true e =
        let s = same_int z n e in
        let w : in_bounds z (suc c) n ≡ true = ap (in_bounds z (suc c)) (sym s) ∙ bounds_here z c in
        list_any-append (λ l. begins_with l.steps (Element n ∷ xs)) (map (below (Element z)) inner)
        (leaves_of_elements (z +ℤ pos 1) c inner)
        ∙ ap₂ (λ a b. a || b) (begin_step (Element n) (Element z) xs true e inner) h
        ∙ or_absorbed (begin inner xs) (in_bounds (z +ℤ pos 1) c n) ∙ ap (λ b. b && begin inner xs) (sym w)
    by_test h false e =
        list_any-append (λ l. begins_with l.steps (Element n ∷ xs)) (map (below (Element z)) inner)
        (leaves_of_elements (z +ℤ pos 1) c inner)
        ∙ ap₂ (λ a b. a || b) (begin_step (Element n) (Element z) xs false e inner) h
        ∙ ap (λ b. b && begin inner xs) (sym (bounds_next z n c e))

begin_no_member : (z : ℤ) (c : ℕ) (inner : List Leaf) (x : Name) (xs : List Step)
    → begin (leaves_of_elements z c inner) (Member x ∷ xs) ≡ false
begin_no_member z zero inner x xs = refl
begin_no_member z (suc c) inner x xs =
    list_any-append (λ l. begins_with l.steps (Member x ∷ xs)) (map (below (Element z)) inner)
    (leaves_of_elements (z +ℤ pos 1) c inner)
    ∙ ap₂ (λ a b. a || b) (begin_step (Member x) (Element z) xs false refl inner)
    (begin_no_member (z +ℤ pos 1) c inner x xs)

leads_unnamed : (ps : Parts) (x : Name) (xs : List Step) → has_name ps x ≡ false → leads_in ps x xs ≡ false
leads_unnamed no_parts x xs h = refl
leads_unnamed (part_then y sh ps) x xs h = by_test (bytes_eq x y) h (leads_unnamed ps x xs)
  where
    by_test : (t : Bool) → (t || has_name ps x) ≡ false → (has_name ps x ≡ false → leads_in ps x xs ≡ false)
        → (if t then leads_on sh xs else leads_in ps x xs) ≡ false
    by_test true g ih = absurd (cc)
    by_test false g ih = ih g

part_begin_cases : (x y : Name) (sh : Shape) (ps : Parts) (xs : List Step) → has_name ps y ≡ false
    → begin (leaves_of sh) xs ≡ leads_on sh xs → begin (leaves_of_parts ps) (Member x ∷ xs) ≡ leads_in ps x xs
    → (t : Bool) → bytes_eq x y ≡ t
    → (begin (map (below (Member y)) (leaves_of sh)) (Member x ∷ xs) || begin (leaves_of_parts ps) (Member x ∷ xs))
    ≡ (if t then leads_on sh xs else leads_in ps x xs)
part_begin_cases x y sh ps xs new here later true e =
    let s = same_name x y e in
    let n : leads_in ps x xs ≡ false = leads_unnamed ps x xs (ap (has_name ps) s ∙ new) in
    ap₂ (λ a b. a || b)
    (begin_step (Member x) (Member y) xs true (name_turned x y true e) (leaves_of sh) ∙ here) (later ∙ n)
    ∙ or_false (leads_on sh xs)
part_begin_cases x y sh ps xs new here later false e =
    ap₂ (λ a b. a || b) (begin_step (Member x) (Member y) xs false (name_turned x y false e) (leaves_of sh)) later

mutual
  pub begin_shape : (sh : Shape) → is_sound sh ≡ true → (xs : List Step) → begin (leaves_of sh) xs ≡ leads_on sh xs
  begin_shape (plain k) s [] = refl
  begin_shape (plain k) s (x ∷ xs) = refl
  begin_shape (array lower count sh) s [] =
      begin_all (leaves_of_elements lower count (leaves_of sh))
      ∙ ap (nat_lt 0) (length_leaves (array lower count sh))
  begin_shape (array lower count sh) s (Member x ∷ xs) = begin_no_member lower count (leaves_of sh) x xs
  begin_shape (array lower count sh) s (Element n ∷ xs) =
      begin_elements lower count (leaves_of sh) n xs ∙ ap (λ b. in_bounds lower count n && b) (begin_shape sh s xs)
  begin_shape (parts w ps) s [] = begin_all (leaves_of_parts ps) ∙ ap (nat_lt 0) (length_parts ps)
  begin_shape (parts w ps) s (Member x ∷ xs) = begin_parts ps s x xs
  begin_shape (parts w ps) s (Element n ∷ xs) = begin_no_element ps n xs

  begin_no_element : (ps : Parts) (n : ℤ) (xs : List Step) → begin (leaves_of_parts ps) (Element n ∷ xs) ≡ false
  begin_no_element no_parts n xs = refl
  begin_no_element (part_then y sh ps) n xs =
      list_any-append (λ l. begins_with l.steps (Element n ∷ xs)) (map (below (Member y)) (leaves_of sh))
      (leaves_of_parts ps)
      ∙ ap₂ (λ a b. a || b) (begin_step (Element n) (Member y) xs false refl (leaves_of sh))
      (begin_no_element ps n xs)

  begin_parts : (ps : Parts) → are_sound ps ≡ true → (x : Name) (xs : List Step)
      → begin (leaves_of_parts ps) (Member x ∷ xs) ≡ leads_in ps x xs
  begin_parts no_parts s x xs = refl
  begin_parts (part_then y sh ps) s x xs =
      let b = and_parts (not (has_name ps y)) (is_sound sh && are_sound ps) s in
      let c = and_parts (is_sound sh) (are_sound ps) b.1 in
      list_any-append (λ l. begins_with l.steps (Member x ∷ xs)) (map (below (Member y)) (leaves_of sh))
      (leaves_of_parts ps)
      ∙ part_begin_cases x y sh ps xs (false_from_not (has_name ps y) b.0) (begin_shape sh c.0 xs)
      (begin_parts ps c.1 x xs) (bytes_eq x y) refl
