-- Chains of parts show how deep a type or unit is.
use Rattle.std.proofs.Common.{◌≡◌, refl, ◌∙◌, arith, ℕ, zero, suc, ◌+◌, Bool, true, false, ◌||◌}
use Rattle.std.proofs.Common.{List, [], ◌∷◌}
use Rattle.std.specs.Prelude.{max, nat_le}
use Rattle.std.specs.List.{list_any}
use Rattle.std.proofs.lemmas.Bool.Decides.{nat_tests}
use Rattle.st_meaning.specs.NameTypes.{Declared}
use Rattle.st_rules.specs.Containment.{Part, parts_of, has_chain}
use Rattle.st_rules.specs.Depths.{Among, first, later, Holds, holds_part, holds_further, HasDepth, depth, Deepest}
use Rattle.st_rules.specs.Depths.{nothing, deepest, CyclesHaveChains, ChainsAreDepths}
use Rattle.std.proofs.lemmas.Bool.{or_right}

any_among : (f : Part → Bool) (p : Part) (ps : List Part) → Among p ps → f p ≡ true → list_any f ps ≡ true
any_among f p [] a h = elim a [ ]
any_among f p (q ∷ ps) first h = rw h refl
any_among f p (q ∷ ps) (later a) h = or_right (f q) (list_any f ps) (any_among f p ps a h)

chain_none : (text : Declared) (p : Part) → has_chain text zero p ≡ true
unfolding has_chain
chain_none text p = refl

chain_one : (text : Declared) (p : Part) → has_chain text (suc zero) p ≡ true
unfolding has_chain
chain_one text p = refl

chain_more : (text : Declared) (n : ℕ) (p : Part)
    → has_chain text (suc (suc n)) p ≡ list_any (has_chain text (suc n)) (parts_of text p)
unfolding has_chain
chain_more text n p = refl

chain_longer : (text : Declared) (n : ℕ) (p q : Part) → Among q (parts_of text p) → has_chain text n q ≡ true
    → has_chain text (suc n) p ≡ true
chain_longer text zero p q a h = chain_one text p
chain_longer text (suc n) p q a h =
    chain_more text n p ∙ any_among (has_chain text (suc n)) q (parts_of text p) a h

-- a part that leads to a cycle goes round it as often as needed
chain_to_cycle : (text : Declared) (n : ℕ) (p c : Part) → Holds text p c → Holds text c c → has_chain text n p ≡ true
chain_to_cycle text zero p c h cycle = chain_none text p
chain_to_cycle text (suc n) p c (holds_part a) cycle =
    chain_longer text n p c a (chain_to_cycle text n c c cycle cycle)
chain_to_cycle text (suc n) p c (holds_further {q = q} a h) cycle =
    chain_longer text n p q a (chain_to_cycle text n q c h cycle)

pub cycles_have_chains : CyclesHaveChains
cycles_have_chains text p n h = chain_to_cycle text n p p h h

le_or : (n d m : ℕ) → (nat_le n d || nat_le n m) ≡ nat_le n (max d m)
le_or n d m = grind (arith, nat_tests)

le_next : (n d : ℕ) → nat_le n d ≡ nat_le (suc n) (d + 1)
le_next n d = grind (arith, nat_tests)

le_one : (d : ℕ) → true ≡ nat_le 1 (d + 1)
le_one d = grind (arith, nat_tests)

none_le : (n : ℕ) → false ≡ nat_le (suc n) 0
none_le n = grind (arith, nat_tests)

le_none : (d : ℕ) → true ≡ nat_le 0 d
le_none d = grind (arith, nat_tests)

mutual
  depth_told : (text : Declared) (n : ℕ) (p : Part) (d : ℕ) → HasDepth text p d → has_chain text n p ≡ nat_le n d
  depth_told text zero p d h = chain_none text p ∙ le_none d
  depth_told text (suc zero) p d (depth {d = m} h) = chain_one text p ∙ le_one m
  depth_told text (suc (suc n)) p d (depth {d = m} h) =
      chain_more text n p ∙ deepest_told text n (parts_of text p) m h ∙ le_next (suc n) m

  deepest_told : (text : Declared) (n : ℕ) (ps : List Part) (d : ℕ) → Deepest text ps d
      → list_any (has_chain text (suc n)) ps ≡ nat_le (suc n) d
  deepest_told text n ps d nothing = none_le n
  deepest_told text n ps d (deepest {p = p} {ps = qs} {d = c} {m = m} h rest) =
      rw (depth_told text (suc n) p c h, deepest_told text n qs m rest) (le_or (suc n) c m)

pub chains_are_depths : ChainsAreDepths
chains_are_depths text p d n h = depth_told text n p d h
