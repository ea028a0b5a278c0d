-- The depths of types and units, in the terms of the profile: the reference for chains of parts.
use Rattle.std.specs.Prelude.{◌≡◌, ℕ, ◌+◌, max, nat_le, List, [], ◌∷◌, true}
use Rattle.st_meaning.specs.NameTypes.{Declared}
use Rattle.st_rules.specs.Containment.{Part, parts_of, has_chain}

-- one of a list
pub data Among : Part → List Part → Type 0 where
  first : {p : Part} {ps : List Part} → Among p (p ∷ ps)
  later : {p q : Part} {ps : List Part} → Among p ps → Among p (q ∷ ps)

-- a part contains another one, through any number of parts
pub data Holds (text : Declared) : Part → Part → Type 0 where
  holds_part : {p q : Part} → Among q (parts_of text p) → Holds text p q
  holds_further : {p q r : Part} → Among q (parts_of text p) → Holds text q r → Holds text p r

-- One more than the depth of the deepest part, or 1 without parts.
mutual
  pub data HasDepth (text : Declared) : Part → ℕ → Type 0 where
    depth : {p : Part} {d : ℕ} → Deepest text (parts_of text p) d → HasDepth text p (d + 1)

  pub data Deepest (text : Declared) : List Part → ℕ → Type 0 where
    nothing : Deepest text [] 0
    deepest : {p : Part} {ps : List Part} {d m : ℕ} → HasDepth text p d → Deepest text ps m
        → Deepest text (p ∷ ps) (max d m)

-- a part that contains itself begins chains of any length
abbrev pub CyclesHaveChains : Type 0
CyclesHaveChains = (text : Declared) (p : Part) (n : ℕ) → Holds text p p → has_chain text n p ≡ true

-- a part with a depth begins chains of exactly that number of parts
abbrev pub ChainsAreDepths : Type 0
ChainsAreDepths = (text : Declared) (p : Part) (d n : ℕ) → HasDepth text p d → has_chain text n p ≡ nat_le n d
