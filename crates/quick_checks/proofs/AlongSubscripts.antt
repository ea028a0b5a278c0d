-- Subscripts that lead on from one array to another.
use Rattle.std.proofs.Common.{◌≡◌, ◌∙◌, ℕ, ℤ, suc, List, [], ◌∷◌, length, map, refl, sym}
use Rattle.std.proofs.Common.{ap, subst, arith, rules, ◌<◌, ◌≤◌, ◌+◌}
use Rattle.std.specs.Prelude.{Some, slice_get}
use Rattle.st_types.specs.declared.kind.Kind.{Kind}
use Rattle.quick_code.specs.declared.quick_instr.QuickInstr.{QuickInstr}
use Rattle.quick_code.specs.declared.quick_instr.QuickInstr.TheVariants.{Locate, LocateNested}
use Rattle.slot_trees.specs.declared.expression.Place as code_place
use Rattle.slot_trees.specs.declared.expression.Subscript as code_subscript
use Rattle.slot_trees.specs.Chains.{Subscript, subscripts_of}
use Rattle.slot_trees.specs.ExpressionViews.{anchor_view, place_view, slot_expr_view, subscript_view}
use Rattle.slot_trees.specs.SlotTrees.{Anchor, Place, SlotExpr, assign, load, no_subscripts, place}
use Rattle.slot_trees.specs.SlotTrees.{subscript_then}
use Rattle.st_compile.proofs.Elements.{subscript_seen}
use Rattle.st_compile.proofs.Sizes.{expr_size, subscripts_size}
use Rattle.quick_trees.specs.Pieces.{InSequence, IsIndexed, IsLed, IsSubscript, IsTemporary, IsWithin}
use Rattle.quick_trees.specs.Points.{Point, next}
use Rattle.quick_trees.specs.QuickMemory.{Frame}
use Rattle.quick_trees.specs.UnitValues.{UnitValues, base_of}
use Rattle.slot_trees.specs.SlotEvaluation.{slot_at}
use Rattle.quick_trees.specs.TreeCode.{Exits, IsLedOn, IsAssignedTo, IsRead, IsReadApart, QuickUnits}
use Rattle.quick_trees.specs.TreeCode.{IsStmtCode}
use Rattle.quick_checks.specs.declared.reached.Access.TheVariants.{Load, Store}
use Rattle.quick_checks.specs.Within.{AreLed, PlaceStored, access_instr}
use Rattle.quick_checks.proofs.TreeCodeLemmas.{ticked}

-- a place by its fields
pub place_seen : (x : code_place.Place) → place_view x ≡ (let p = code_place.out-Place x in
    place (anchor_view p.anchor) (subscripts_of (map subscript_view p.subscripts.items)))
place_seen x = search (rules, code_place.the_lemmas)

-- subscripts are as large as the first one and the others
pub subscripts_larger : (xs : List code_subscript.Subscript) (x : code_subscript.Subscript)
    (rest : List code_subscript.Subscript) → xs ≡ x ∷ rest → subscripts_size (subscripts_of (map subscript_view xs))
    ≡ suc (expr_size (slot_expr_view x.index) + subscripts_size (subscripts_of (map subscript_view rest)))
subscripts_larger xs x rest is =
    ap (λ ys. subscripts_size (subscripts_of (map subscript_view ys))) is
    ∙ ap (λ (y : Subscript). suc (expr_size y.index + subscripts_size (subscripts_of (map subscript_view rest))))
    (subscript_seen x)

module _ (f : Frame) (s : UnitValues) (units : QuickUnits) where
  -- the code of a subscript, and of the instruction that takes it
  indexed : (x : code_subscript.Subscript) (d index : ℕ) (shift : ℤ) (Instr : ℕ → ℤ → QuickInstr) (p m q : Point)
      → IsSubscript (λ u n. IsReadApart f s units (slot_expr_view x.index) u n d) x.lower shift x.count index p m
      → slice_get f.code m.place ≡ Some (Instr index shift) → q ≡ next m
      → IsIndexed f (λ u n. IsReadApart f s units (slot_expr_view x.index) u n d) x.lower x.count Instr p q
  indexed x d index shift Instr p m q h at e = record {
    index = index;
    shift = shift;
    last = m;
    subscript = h;
    stands = at;
    next = e;
  }

  pub led_first : (xs : List code_subscript.Subscript) (x : code_subscript.Subscript)
      (rest : List code_subscript.Subscript) (d index : ℕ) (shift : ℤ) (Instr : ℕ → ℤ → ℕ → ℕ → QuickInstr)
      (p m l q : Point) → xs ≡ x ∷ rest → d < f.size
      → IsSubscript (λ u n. IsReadApart f s units (slot_expr_view x.index) u n d) x.lower shift x.count index p m
      → slice_get f.code m.place ≡ Some (Locate index shift d x.count x.stride) → l ≡ next m
      → IsLedOn f s units (subscripts_of (map subscript_view rest)) d Instr l q
      → AreLed f s units (subscripts_of (map subscript_view xs)) d Instr p q
  led_first xs x rest d index shift Instr p m l q is there h at e on =
      let Led : Subscript → Type 0 = λ y. IsLed f (λ u n. IsReadApart f s units y.index u n d) y.lower y.count y.stride
      d (IsLedOn f s units (subscripts_of (map subscript_view rest)) d Instr) p q in
      subst (λ ys. AreLed f s units (subscripts_of (map subscript_view ys)) d Instr p q) (sym is)
      (subst Led (sym (subscript_seen x)) (record {
        there = there;
        located = l;
        first = indexed x d index shift (λ i n. Locate i n d x.count x.stride) p m l h at e;
        further = on;
      }))

  pub led_last : (xs : List code_subscript.Subscript) (x : code_subscript.Subscript)
      (rest : List code_subscript.Subscript) (d c index : ℕ) (shift : ℤ) (Instr : ℕ → ℤ → ℕ → ℕ → QuickInstr)
      (p m q : Point) → xs ≡ x ∷ rest → length rest ≡ 0 → c ≡ suc d
      → IsSubscript (λ u n. IsReadApart f s units (slot_expr_view x.index) u n c) x.lower shift x.count index p m
      → slice_get f.code m.place ≡ Some (Instr index shift x.count x.stride) → q ≡ next m
      → IsLedOn f s units (subscripts_of (map subscript_view xs)) d Instr p q
  led_last xs x [] d c index shift Instr p m q is none deep h at e =
      let Led : Subscript → Type 0 = λ y. IsIndexed f (λ u n. IsReadApart f s units y.index u n (suc d)) y.lower y.count
      (λ i n. Instr i n y.count y.stride) p q in
      subst (λ ys. IsLedOn f s units (subscripts_of (map subscript_view ys)) d Instr p q) (sym is)
      (subst Led (sym (subscript_seen x))
      (indexed x (suc d) index shift (λ i n. Instr i n x.count x.stride) p m q (rw deep at h) at e))
  led_last xs x (y ∷ ys) d c index shift Instr p m q is none deep h at e = absurd (omega arith)

  pub led_more : (xs : List code_subscript.Subscript) (x : code_subscript.Subscript)
      (rest : List code_subscript.Subscript) (d c index : ℕ) (shift : ℤ) (Instr : ℕ → ℤ → ℕ → ℕ → QuickInstr)
      (p m l q : Point) → xs ≡ x ∷ rest → (length rest ≡ 0 → ⊥) → c ≡ suc d
      → IsSubscript (λ u n. IsReadApart f s units (slot_expr_view x.index) u n c) x.lower shift x.count index p m
      → slice_get f.code m.place ≡ Some (LocateNested d index shift d x.count x.stride) → l ≡ next m
      → IsLedOn f s units (subscripts_of (map subscript_view rest)) d Instr l q
      → IsLedOn f s units (subscripts_of (map subscript_view xs)) d Instr p q
  led_more xs x [] d c index shift Instr p m l q is some deep h at e on = absurd (some refl)
  led_more xs x (y ∷ ys) d c index shift Instr p m l q is some deep h at e on =
      let Led : Subscript → Type 0 = λ z. InSequence (IsIndexed f (λ u n. IsReadApart f s units z.index u n (suc d))
      z.lower z.count (λ i n. LocateNested d i n d z.count z.stride))
      (IsLedOn f s units (subscripts_of (map subscript_view (y ∷ ys))) d Instr) p q in
      subst (λ zs. IsLedOn f s units (subscripts_of (map subscript_view zs)) d Instr p q) (sym is)
      (subst Led (sym (subscript_seen x)) (record {
        middle = l;
        first = indexed x (suc d) index shift (λ i n. LocateNested d i n d x.count x.stride) p m l (rw deep at h) at e;
        second = on;
      }))

  pub within_read : (a : Anchor) (xs : List code_subscript.Subscript) (t : Kind) (d : ℕ) (p q : Point)
      → 2 ≤ length xs → IsTemporary f d d
      → IsWithin f s (slot_at (base_of s) a) (subscripts_of (map subscript_view xs)) t
      (λ word. AreLed f s units (subscripts_of (map subscript_view xs)) d (access_instr (Load d) d word)) p q
      → IsRead f s units (load (place a (subscripts_of (map subscript_view xs)))) t d d p q
  within_read a [] t d p q le there h = absurd (omega arith)
  within_read a (x ∷ []) t d p q le there h = absurd (omega arith)
  within_read a (x ∷ y ∷ xs) t d p q le there h = (there, h)

  pub within_made : (a : Anchor) (xs : List code_subscript.Subscript) (t : Kind) (d to : ℕ) (p q : Point)
      → 2 ≤ length xs
      → IsWithin f s (slot_at (base_of s) a) (subscripts_of (map subscript_view xs)) t
      (λ word. AreLed f s units (subscripts_of (map subscript_view xs)) d (access_instr (Load to) d word)) p q
      → IsAssignedTo f s units (load (place a (subscripts_of (map subscript_view xs)))) t d to p q
  within_made a [] t d to p q le h = absurd (omega arith)
  within_made a (x ∷ []) t d to p q le h = absurd (omega arith)
  within_made a (x ∷ y ∷ xs) t d to p q le h = h

  pub within_stored : (a : Anchor) (xs : List code_subscript.Subscript) (e : SlotExpr) (t : Kind) (d c from : ℕ)
      (p m q : Point) → 2 ≤ length xs → c ≡ suc d → IsRead f s units e t d from p m
      → IsWithin f s (slot_at (base_of s) a) (subscripts_of (map subscript_view xs)) t
      (λ word. AreLed f s units (subscripts_of (map subscript_view xs)) c (access_instr (Store from) c word)) m q
      → PlaceStored f s units (place a (subscripts_of (map subscript_view xs))) e d p q
  within_stored a [] e t d c from p m q le deep r h = absurd (omega arith)
  within_stored a (x ∷ []) e t d c from p m q le deep r h = absurd (omega arith)
  within_stored a (x ∷ y ∷ xs) e t d c from p m q le deep r h = record {
    kind = t;
    from = from;
    middle = m;
    value = r;
    stores = rw deep at h;
  }

  pub within_stands : (x : Place) (y : SlotExpr) (d : ℕ) (e : Exits) (p m q : Point) → p.ahead ≡ suc m.ahead
      → m ≡ record p { ahead = m.ahead } → PlaceStored f s units x y d m q → IsStmtCode f s units (assign x y) d e p q
  within_stands (place a no_subscripts) y d e p m q t n h = absurd h
  within_stands (place a (subscript_then i lower count stride no_subscripts)) y d e p m q t n h = absurd h
  within_stands (place a (subscript_then i lower count stride (subscript_then j low more wide ss))) y d e p m q t n h =
      ticked _ p m q t n h
