-- Code is made of linked bodies.
use Rattle.std.proofs.Common.{◌≡◌, ℕ, zero, suc, ◌+◌, ◌*◌, ◌<◌, ◌≤◌, Option, Some, None}
use Rattle.std.proofs.Common.{false, true, refl, sym, subst, ap, arith}
use Rattle.std.specs.Prelude.{nat_lt, option_map, option_and_then}
use Rattle.std.proofs.lemmas.Bool.Decides.{nat_tests}
use Rattle.st_types.specs.Expressions as named
use Rattle.st_types.specs.Expressions.{Expr, literal, read, parenthesis, Exprs, Variable, variable, member, subscript}
use Rattle.st_types.specs.Expressions.{Selectors, no_selectors, selector_then}
use Rattle.st_meaning.specs.Scopes.{Name}
use Rattle.st_meaning.specs.StandardFunctions.{Standard, standard_of}
use Rattle.layout.specs.Shapes.{Shape, plain, array, parts, size}
use Rattle.slot_trees.specs.Linking.{Selected, with_offset, with_subscript, place_of_shape, place_if_plain}
use Rattle.slot_trees.specs.Linking.{linked_call, linked, linked_all, linked_variable, linked_selectors, target_of}
use Rattle.slot_trees.specs.Linking.{linked_target}
use Rattle.slot_trees.specs.SlotEvaluation.{slot_at}
use Rattle.slot_trees.specs.SlotTrees.{Anchor, SlotExpr, constant, load, compute, call, unary, binary, SlotExprs}
use Rattle.slot_trees.specs.SlotTrees.{no_exprs, expr_then, Place, place, Subscripts, no_subscripts}
use Rattle.slot_trees.specs.Tables.{Table, Symbol, symbol_of, named_in, moved, Part, part_at}
use Rattle.machine_code.specs.Codes.{count_of}
use Rattle.machine_code.specs.Fitting.{UnitCall, of_function, reach}
use Rattle.machine_code.specs.UnitFrames.{UnitFrame, end_of}
use Rattle.st_compile.specs.Linked.{ExprLinked, ExprsLinked, PlaceLinked, SubscriptsLinked}
use Rattle.config.specs.Sound.{IsBounded, SymbolsWithin, number_of_exprs, CallSound, ExprSound, ExprsSound}
use Rattle.config.specs.Sound.{VariableSound, SelectorsSound}
use Rattle.config.proofs.Options.{unless_some}
use Rattle.config.proofs.Selected.{part_within, symbol_within, all_elements}
use Rattle.st_types.proofs.TestLemmas.{above_zero, product_of_more}
use Rattle.slot_trees.proofs.ExpressionSim.{element_room, moved_slot}
use Rattle.st_types.proofs.OptionLemmas.{map_some, if_some, then_some}
use Rattle.st_link.proofs.PlaceLemmas.{one_of}

-- the part to which selectors lead lies in the variable, and code is made of their subscripts
pub record SelectedLinked (C : UnitCall → Type 0) (s : UnitFrame) (sh : Shape) (z : Selected) : Type 0 where
  pub within : z.offset + reach z.subscripts + size z.shape ≤ size sh
  pub subscripts : SubscriptsLinked C s z.subscripts

module _ (C : UnitCall → Type 0) (s : UnitFrame) (t : Table) (small : s.size < 65536)
    (stands : SymbolsWithin s t.symbols) where
  call_linked : (o : Option Standard) (f : Name) (count : ℕ) (xs : SlotExprs) (x : SlotExpr) → ExprsLinked C s xs
      → count_of xs ≡ count → linked_call t f o xs ≡ Some x → CallSound C s t o f count → ExprLinked C s x
  call_linked (Some standard) f count xs x l n h g =
      let is : compute standard xs ≡ x = cc in
      subst (λ y. ExprLinked C s y) is (subst (λ k. k < 65536) (sym n) g, l)
  call_linked None f count xs x l n h g =
      let m = map_some (λ i. call i xs) (named_in t.functions f) x h in
      subst (λ y. ExprLinked C s y) m.2 (l, subst (λ k. C (of_function m.0 (end_of s) k)) (sym n) (g m.0 m.1))

  place_linked : (a : Anchor) (n : ℕ) (ss : Subscripts) (sh : Shape) (p : Place) (total : ℕ)
      → place_of_shape a n ss sh ≡ Some p → slot_at s.base a + total ≤ s.size → n + reach ss + size sh ≤ total
      → SubscriptsLinked C s ss → PlaceLinked C s p
  place_linked a n ss (plain k) p total h le within l =
      let is : place (moved a n) ss ≡ p = cc in
      let e = moved_slot s.base a n in
      subst (λ q. PlaceLinked C s q) is (omega arith, l)
  place_linked a n ss (array lower count sh) p total h le within l = absurd (cc)
  place_linked a n ss (parts w ps) p total h le within l = absurd (cc)

  mutual
    pub expr_linked : (e : Expr) (x : SlotExpr) → linked t e ≡ Some x → ExprSound C s t e → ExprLinked C s x
    expr_linked (literal l) x h g =
        let is : constant l ≡ x = cc in
        subst (λ y. ExprLinked C s y) is g
    expr_linked (read v) x h g =
        let m = map_some load (linked_variable t v) x h in
        subst (λ y. ExprLinked C s y) m.2 (variable_linked v m.0 m.1 g)
    expr_linked (named.call f es) x h g =
        let m = then_some (λ xs. linked_call t f.name (standard_of f.name) xs) (linked_all t es) x h in
        let l = exprs_linked es m.0 m.1 g.0 in
        call_linked (standard_of f.name) f.name (number_of_exprs es) m.0 x l.0 l.1 m.2 g.1
    expr_linked (parenthesis at e) x h g = expr_linked e x h g
    expr_linked (named.unary op at e) x h g =
        let m = map_some (unary op) (linked t e) x h in
        subst (λ y. ExprLinked C s y) m.2 (expr_linked e m.0 m.1 g)
    expr_linked (named.binary op l r) x h g =
        let m = then_some (λ y. option_map (binary op y) (linked t r)) (linked t l) x h in
        let k = map_some (binary op m.0) (linked t r) x m.2 in
        subst (λ y. ExprLinked C s y) k.2 (expr_linked l m.0 m.1 g.0, expr_linked r k.0 k.1 g.1)

    pub exprs_linked : (es : Exprs) (xs : SlotExprs) → linked_all t es ≡ Some xs → ExprsSound C s t es
        → ExprsLinked C s xs × (count_of xs ≡ number_of_exprs es)
    exprs_linked named.no_exprs xs h g =
        let is : no_exprs ≡ xs = cc in
        subst (λ ys. ExprsLinked C s ys × (count_of ys ≡ 0)) is (tt, refl)
    exprs_linked (named.expr_then e es) xs h g =
        let m = then_some (λ y. option_map (expr_then y) (linked_all t es)) (linked t e) xs h in
        let k = map_some (expr_then m.0) (linked_all t es) xs m.2 in
        let l = exprs_linked es k.0 k.1 g.1 in
        subst (λ ys. ExprsLinked C s ys × (count_of ys ≡ suc (number_of_exprs es))) k.2
        ((expr_linked e m.0 m.1 g.0, l.0), ap suc l.1)

    pub variable_linked : (v : Variable) (p : Place) → linked_variable t v ≡ Some p → VariableSound C s t v
        → PlaceLinked C s p
    variable_linked (variable x xs) p h g =
        let m = then_some (λ (y : Symbol). option_and_then (place_if_plain y.anchor) (linked_selectors t y.shape xs))
        (symbol_of t.symbols x.name) p h in
        let k = then_some (place_if_plain m.0.anchor) (linked_selectors t m.0.shape xs) p m.2 in
        let w = symbol_within s t.symbols x.name m.0 m.1 stands in
        let within = w.within in
        let r = selectors_linked m.0.shape xs k.0 k.1 g w.bounded (omega arith) in
        place_linked m.0.anchor k.0.offset k.0.subscripts k.0.shape p (size m.0.shape) k.2 within r.within r.subscripts

    pub selectors_linked : (sh : Shape) (xs : Selectors) (z : Selected) → linked_selectors t sh xs ≡ Some z
        → SelectorsSound C s t xs → IsBounded sh → size sh < 65536 → SelectedLinked C s sh z
    selectors_linked sh no_selectors z h g bounded lt =
        let all : Selected = record { offset = 0; subscripts = no_subscripts; shape = sh } in
        let is : all ≡ z = cc in
        let l : SelectedLinked C s sh all = record { within = omega arith; subscripts = tt } in
        subst (λ y. SelectedLinked C s sh y) is l
    selectors_linked (parts w ps) (selector_then (member x) xs) z h g bounded lt =
        let m = then_some (λ (e : Part). option_map (with_offset e.offset) (linked_selectors t e.shape xs))
        (part_at ps x.name) z h in
        let k = map_some (with_offset m.0.offset) (linked_selectors t m.0.shape xs) z m.2 in
        let p = part_within ps x.name m.0 m.1 bounded in
        let part = p.within in
        let r = selectors_linked m.0.shape xs k.0 k.1 g p.bounded (omega arith) in
        let rest = r.within in
        let l : SelectedLinked C s (parts w ps) (with_offset m.0.offset k.0)
        = record { within = omega arith; subscripts = r.subscripts } in
        subst (λ y. SelectedLinked C s (parts w ps) y) k.2 l
    selectors_linked (array lower count sh) (selector_then (subscript e) xs) z h g bounded lt =
        let q = if_some (nat_lt 0 (count * size sh))
        (option_and_then (λ i. option_map (with_subscript i lower count (size sh)) (linked_selectors t sh xs))
        (linked t e)) z h in
        let m = then_some (λ i. option_map (with_subscript i lower count (size sh)) (linked_selectors t sh xs))
        (linked t e) z q.1 in
        let k = map_some (with_subscript m.0 lower count (size sh)) (linked_selectors t sh xs) z m.2 in
        let room : 0 < size sh = above_zero (size sh) (element_room count (size sh) q.0) in
        let all = all_elements count (size sh) bounded.0 in
        let one = one_of count (size sh) bounded.0 in
        let many = product_of_more count (size sh) room in
        let r = selectors_linked sh xs k.0 k.1 g.1 bounded.2 (omega arith) in
        let rest = r.within in
        let l : SelectedLinked C s (array lower count sh) (with_subscript m.0 lower count (size sh) k.0)
        = record {
          within = omega arith;
          subscripts = ((bounded.1, omega arith, omega arith), expr_linked e m.0 m.1 g.0, r.subscripts);
        } in
        subst (λ y. SelectedLinked C s (array lower count sh) y) k.2 l
    selectors_linked (plain k) (selector_then x xs) z h g bounded lt = absurd (cc)
    selectors_linked (parts w ps) (selector_then (subscript e) xs) z h g bounded lt = absurd (cc)
    selectors_linked (array lower count sh) (selector_then (member x) xs) z h g bounded lt = absurd (cc)

  pub target_linked : (v : Variable) (p : Place) → linked_target t v ≡ Some p → VariableSound C s t v
      → PlaceLinked C s p
  target_linked (variable x xs) p h g =
      let m = then_some (λ (y : Symbol). target_of t y xs) (symbol_of t.symbols x.name) p h in
      let free = unless_some m.0.is_input (option_and_then (place_if_plain m.0.anchor)
      (linked_selectors t m.0.shape xs)) p m.2 in
      let k = then_some (place_if_plain m.0.anchor) (linked_selectors t m.0.shape xs) p free in
      let w = symbol_within s t.symbols x.name m.0 m.1 stands in
      let within = w.within in
      let r = selectors_linked m.0.shape xs k.0 k.1 g w.bounded (omega arith) in
      place_linked m.0.anchor k.0.offset k.0.subscripts k.0.shape p (size m.0.shape) k.2 within r.within r.subscripts
