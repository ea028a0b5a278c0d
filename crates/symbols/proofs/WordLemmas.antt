-- Words by their parts.
use Rattle.std.specs.Prelude.{bytes_eq}
use Rattle.std.proofs.Common.{◌≡◌, ℕ, ◌-◌, ◌==◌, ◌<◌, List, [], ◌∷◌, ◌++◌, length, take, drop, Bool, true, false, ◌&&◌}
use Rattle.std.proofs.Common.{refl, sym, ap, ◌∙◌, arith}
use Rattle.std.proofs.lemmas.List.{take_rest}
use Rattle.st_types.proofs.TestLemmas.{and_assoc}

pub word_by_parts : (w front back : List ℕ)
    → bytes_eq w (front ++ back) ≡ (bytes_eq (take (length front) w) front && bytes_eq (drop (length front) w) back)
word_by_parts w [] back = refl
word_by_parts [] (y ∷ front) back = refl
word_by_parts (x ∷ w) (y ∷ front) back = ap (λ t. (x == y) && t) (word_by_parts w front back)
    ∙ and_assoc (x == y) (bytes_eq (take (length front) w) front) (bytes_eq (drop (length front) w) back)

pub short_word : (w front back : List ℕ) → length w < length front → bytes_eq w (front ++ back) ≡ false
short_word w [] back h = absurd (omega arith)
short_word [] (y ∷ front) back h = refl
short_word (x ∷ w) (y ∷ front) back h = ap (λ t. (x == y) && t) (short_word w front back (omega arith)) ∙ never (x == y)
  where
    never : (b : Bool) → (b && false) ≡ false
    never true = refl
    never false = refl

pub word_behind : (w front back : List ℕ) → bytes_eq (take (length front) w) front ≡ true
    → bytes_eq w (front ++ back) ≡ bytes_eq (take (length w - length front) (drop (length front) w)) back
word_behind w front back h =
    word_by_parts w front back ∙ ap (λ t. t && bytes_eq (drop (length front) w) back) h
    ∙ ap (λ r. bytes_eq r back) (sym (take_rest w (length front)))
