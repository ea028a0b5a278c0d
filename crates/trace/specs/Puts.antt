-- The contents of a writer after a text was handed to it in parts.
use Rattle.std.specs.Prelude.{◌≡◌, ℕ, Bool, true, false, List, ◌++◌, Option}
use Rattle.std.specs.Io.KnownBytes.{Appends}

-- Since it held the first bytes, the writer has got this whole text; or, if it doesn't work any more, a beginning of it. It
-- has got nothing else.
abbrev pub IsPut : Option (List ℕ) → Option (List ℕ) → Bool → List ℕ → Type 0
IsPut first now true text = Appends first now text
IsPut first now false text = (front rest : List ℕ) × (text ≡ front ++ rest) × Appends first now front

-- these bytes are written after those before
abbrev pub Puts : Option (List ℕ) → Bool → Option (List ℕ) → Bool → List ℕ → Type 0
Puts old works new working bytes = (first : Option (List ℕ)) (text : List ℕ) → IsPut first old works text
    → IsPut first new working (text ++ bytes)
