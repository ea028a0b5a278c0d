-- The content of a writer after two writes.
use Rattle.std.proofs.Common.{◌≡◌, ◌∙◌, ap, ℕ, ◌+◌, ◌<◌, List, [], ◌∷◌, ◌++◌, length, drop, get_or, Option, Some, None}
use Rattle.std.proofs.Common.{sym}
use Rattle.std.proofs.lemmas.List.{append_assoc, append-nil, drop_more}
use Rattle.std.specs.Io.KnownBytes.{Appends}

-- no write appends nothing
pub appends_none : (known : Option (List ℕ)) → Appends known known []
appends_none None = tt
appends_none (Some xs) = sym (append-nil xs)

-- one write after another
pub appends_both : (first second third : Option (List ℕ)) (x y : List ℕ) → Appends first second x
    → Appends second third y → Appends first third (x ++ y)
appends_both None second third x y wrote more = tt
appends_both (Some a) None third x y wrote more = absurd wrote
appends_both (Some a) (Some b) None x y wrote more = absurd more
appends_both (Some a) (Some b) (Some c) x y wrote more = more ∙ ap (λ z. z ++ y) wrote ∙ append_assoc a x y

-- a text that is written element by element grows by the next element's
pub text_more : {X : Type 0} (whole : List X → List ℕ) (item : X → List ℕ)
    → ((x : X) (xs : List X) → whole (x ∷ xs) ≡ item x ++ whole xs)
    → (xs : List X) (i : ℕ) (x : X) (before : List ℕ) → i < length xs → get_or xs i x ≡ x
    → before ++ whole (drop i xs) ≡ whole xs → (before ++ item x) ++ whole (drop (i + 1) xs) ≡ whole xs
text_more whole item step xs i x before small is so_far =
    append_assoc before (item x) (whole (drop (i + 1) xs))
    ∙ ap (λ z. before ++ z) (sym (step x (drop (i + 1) xs)) ∙ ap (λ y. whole (y ∷ drop (i + 1) xs)) (sym is)
    ∙ sym (ap whole (drop_more xs i x small)))
    ∙ so_far
