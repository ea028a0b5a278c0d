-- A part of a variable is at its position.
use Rattle.std.proofs.Common.{◌≡◌, ℕ, ◌+◌, ◌*◌, ℤ, Bool, true, false, if◌then◌else◌, List, [], ◌∷◌}
use Rattle.std.proofs.Common.{Option, Some, None, option_map, refl, sym, ap, ◌∙◌, subst, append_assoc, append-nil}
use Rattle.std.proofs.Common.{add_assoc, add-zero, arith}
use Rattle.std.specs.Prelude.{bytes_eq}
use Rattle.st_types.specs.declared.kind.Kind.{Kind}
use Rattle.st_types.specs.declared.path.Step.{Step}
use Rattle.st_types.specs.declared.path.Step.TheVariants.{Member, Element}
use Rattle.st_types.specs.Paths.{Path}
use Rattle.st_meaning.specs.Scopes.{Name, member_at}
use Rattle.st_meaning.specs.Evaluation.{element_at}
use Rattle.st_meaning.specs.Slots.{Slot}
use Rattle.layout.specs.Shapes.{PartsOwner, Shape, plain, array, parts, Parts, no_parts, part_then, size, in_bounds}
use Rattle.layout.specs.Shapes.{distance, Position, position_after, position_of, position_in, leads_on, leads_in}
use Rattle.layout.specs.VariableSlots.{LiesAt, has_slot_within}
use Rattle.layout.specs.TextLayouts.{further}
use Rattle.slot_trees.specs.Tables.{Part, part_after, part_at}
use Rattle.slot_trees.specs.Seeing.{IsSlotOf}
use Rattle.st_types.proofs.OptionLemmas.{some_is}

further_member : (p : Path) (x : Name) (xs : List Step) → further (member_at p x) xs ≡ further p (Member x ∷ xs)
further_member p x xs = let e = append_assoc p.steps (Member x ∷ []) xs in rw e refl

further_element : (p : Path) (z : ℤ) (xs : List Step) → further (element_at p z) xs ≡ further p (Element z ∷ xs)
further_element p z xs = let e = append_assoc p.steps (Element z ∷ []) xs in rw e refl

further_none : (p : Path) → further p [] ≡ p
further_none p = let e = append-nil p.steps in rw e refl

abbrev position : ℕ → Kind → Position
position n k = record { number = n; kind = k }

abbrev part : ℕ → Shape → Part
part n sh = record { offset = n; shape = sh }

beyond_twice : (n m : ℕ) (o : Position) → position_after n (position_after m o) ≡ position_after (n + m) o
beyond_twice n m o = ap (λ i. position i o.kind) (sym (add_assoc n m o.number))

beyond_none : (o : Position) → o ≡ position_after 0 o
beyond_none o = let e : o.number ≡ 0 + o.number = omega arith in ap (λ n. position n o.kind) e

-- the position of a part's own part, among those of the whole
position_cases : (b : Bool) (sh : Shape) (o : Position) (e : Part) (xs : List Step) (rest : Option Part)
    (inner : Option Position)
    → ((f : Part) → rest ≡ Some f → position_of f.shape xs ≡ Some o → inner ≡ Some (position_after f.offset o))
    → (if b then Some (part 0 sh) else option_map (part_after (size sh)) rest) ≡ Some e
    → position_of e.shape xs ≡ Some o
    → (if b then position_of sh xs else option_map (position_after (size sh)) inner) ≡ Some (position_after e.offset o)
position_cases true sh o e xs rest inner ih h g =
    subst (λ f. position_of f.shape xs ≡ Some o → position_of sh xs ≡ Some (position_after f.offset o)) (some_is h)
    (λ i. i ∙ ap Some (beyond_none o)) g
position_cases false sh o e xs None inner ih h g = absurd (cc)
position_cases false sh o e xs (Some f) inner ih h g =
    subst
    (λ d. position_of d.shape xs ≡ Some o → option_map (position_after (size sh)) inner ≡ Some (position_after d.offset o)) (some_is h)
    (λ i. ap (option_map (position_after (size sh))) (ih f refl i) ∙ ap Some (beyond_twice (size sh) f.offset o)) g

position_part : (ps : Parts) (x : Name) (e : Part) (xs : List Step) (o : Position) → part_at ps x ≡ Some e
    → position_of e.shape xs ≡ Some o → position_in ps x xs ≡ Some (position_after e.offset o)
position_part no_parts x e xs o h g = absurd (cc)
position_part (part_then y sh ps) x e xs o h g =
    position_cases (bytes_eq x y) sh o e xs (part_at ps x) (position_in ps x xs)
    (λ f i j. position_part ps x f xs o i j) h g

leads_cases : (b : Bool) (sh : Shape) (e : Part) (xs : List Step) (rest : Option Part) (inner : Bool)
    → ((f : Part) → rest ≡ Some f → inner ≡ leads_on f.shape xs)
    → (if b then Some (part 0 sh) else option_map (part_after (size sh)) rest) ≡ Some e
    → (if b then leads_on sh xs else inner) ≡ leads_on e.shape xs
leads_cases true sh e xs rest inner ih h = ap (λ f. leads_on f.shape xs) (some_is h)
leads_cases false sh e xs None inner ih h = absurd (cc)
leads_cases false sh e xs (Some f) inner ih h = ih f refl ∙ ap (λ d. leads_on d.shape xs) (some_is h)

leads_part : (ps : Parts) (x : Name) (e : Part) (xs : List Step) → part_at ps x ≡ Some e
    → leads_in ps x xs ≡ leads_on e.shape xs
leads_part no_parts x e xs h = absurd (cc)
leads_part (part_then y sh ps) x e xs h =
    leads_cases (bytes_eq x y) sh e xs (part_at ps x) (leads_in ps x xs) (λ f i. leads_part ps x f xs i) h

pub stands_member : (layout : List Slot) (input : Bool) (p : Path) (w : PartsOwner) (ps : Parts) (k : ℕ) (x : Name)
    (e : Part) → part_at ps x ≡ Some e → LiesAt layout input p (parts w ps) k
    → LiesAt layout input (member_at p x) e.shape (k + e.offset)
stands_member layout input p w ps k x e h st = record {
  at = λ xs o g.
      let i = st.at (Member x ∷ xs) (position_after e.offset o) (position_part ps x e xs o h g) in
      let m = further_member p x xs in
      let n = add_assoc k e.offset o.number in
      rw (m, n) i;
  only = λ xs.
      ap (has_slot_within layout) (further_member p x xs) ∙ st.only (Member x ∷ xs) ∙ leads_part ps x e xs h;
}

pub stands_element : (layout : List Slot) (input : Bool) (p : Path) (lower : ℤ) (count : ℕ) (sh : Shape) (k : ℕ)
    (z : ℤ) → in_bounds lower count z ≡ true → LiesAt layout input p (array lower count sh) k
    → LiesAt layout input (element_at p z) sh (k + distance lower z * size sh)
stands_element layout input p lower count sh k z h st = record {
  at = λ xs o g.
      let i = st.at (Element z ∷ xs) (position_after (distance lower z * size sh) o) (rw (h, g) refl) in
      let m = further_element p z xs in
      let n = add_assoc k (distance lower z * size sh) o.number in
      rw (m, n) i;
  only = λ xs. ap (has_slot_within layout) (further_element p z xs) ∙ st.only (Element z ∷ xs) ∙ rw h refl;
}

-- an elementary variable has one slot
pub plain_at : (layout : List Slot) (input : Bool) (q : Path) (k : Kind) (j : ℕ) → LiesAt layout input q (plain k) j
    → IsSlotOf layout input q j
plain_at layout input q k j st = record {
  kind = k;
  there = let a = st.at [] (position 0 k) refl in let b = add-zero j in let c = further_none q in rw (b, c) at a;
}
