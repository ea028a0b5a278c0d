-- Writing in parts.
use Rattle.std.proofs.Common.{◌≡◌, ◌∙◌, ap, ℕ, Bool, true, false, List, [], ◌∷◌, ◌++◌, length, take, drop, Option, Some, None}
use Rattle.std.proofs.Common.{sym, refl, subst, append_assoc, append-nil, ◌+◌, ◌<◌, get_or}
use Rattle.std.proofs.lemmas.List.{drop_more}
use Rattle.std.proofs.Math.ListN.{take-append-drop}
use Rattle.std.specs.Io.KnownBytes.{Appends, Keeps}
use Rattle.st_print.proofs.AppendLemmas.{appends_none, appends_both}
use Rattle.trace.specs.Puts.{IsPut, Puts}

-- a writer that no longer works stays so
pub put_nothing : (old : Option (List ℕ)) (bytes : List ℕ) → Puts old false old false bytes
put_nothing old bytes first text was =
    (was.0, was.1 ++ bytes, ap (λ x. x ++ bytes) was.2 ∙ append_assoc was.0 was.1 bytes, was.3)

-- all of it was written
pub put_whole : (old new : Option (List ℕ)) (bytes : List ℕ) → Appends old new bytes → Puts old true new true bytes
put_whole old new bytes wrote first text was = appends_both first old new text bytes was wrote

-- a beginning of it was written
pub put_part : (old new : Option (List ℕ)) (bytes front rest : List ℕ) → bytes ≡ front ++ rest → Appends old new front
    → Puts old true new false bytes
put_part old new bytes front rest parts wrote first text was = (
  text ++ front,
  rest,
  ap (λ x. text ++ x) parts ∙ sym (append_assoc text front rest),
  appends_both first old new text front was wrote,
)

-- one after another
pub puts_both : (old mid new : Option (List ℕ)) (b c d : Bool) (x y : List ℕ) → Puts old b mid c x → Puts mid c new d y
    → Puts old b new d (x ++ y)
puts_both old mid new b c d x y p q first text was =
    subst (IsPut first new d) (append_assoc text x y) (q first (text ++ x) (p first text was))

-- known bytes that stay have got nothing
pub keeps_none : (old new : Option (List ℕ)) → Keeps old new → Appends old new []
keeps_none None new k = tt
keeps_none (Some xs) None k = absurd k
keeps_none (Some xs) (Some ys) k = k ∙ sym (append-nil xs)

pub put_idle : (old : Option (List ℕ)) (works : Bool) (bytes : List ℕ) → works ≡ false → Puts old works old false bytes
put_idle old works bytes is first text was = put_nothing old bytes first text (subst (λ b. IsPut first old b text) is was)

pub put_until : (old new : Option (List ℕ)) (works : Bool) (bytes front rest : List ℕ) → works ≡ true
    → bytes ≡ front ++ rest → Appends old new front → Puts old works new false bytes
put_until old new works bytes front rest is parts wrote first text was =
    put_part old new bytes front rest parts wrote first text (subst (λ b. IsPut first old b text) is was)

-- the bytes taken of the rest are written after the front
taken_parts : (bytes front rest : List ℕ) (n : ℕ) → bytes ≡ front ++ rest → bytes ≡ (front ++ take n rest) ++ drop n rest
taken_parts bytes front rest n parts =
    parts ∙ ap (λ x. front ++ x) (sym (take-append-drop n rest)) ∙ sym (append_assoc front (take n rest) (drop n rest))

pub put_more : (old now new : Option (List ℕ)) (works : Bool) (bytes front rest : List ℕ) (n : ℕ) → works ≡ true
    → bytes ≡ front ++ rest → Appends old now front → Appends now new (take n rest) → Puts old works new false bytes
put_more old now new works bytes front rest n is parts wrote more =
    put_until old new works bytes (front ++ take n rest) (drop n rest) is (taken_parts bytes front rest n parts)
    (appends_both old now new front (take n rest) wrote more)

pub put_kept : (old now new : Option (List ℕ)) (works : Bool) (bytes front rest : List ℕ) → works ≡ true
    → bytes ≡ front ++ rest → Appends old now front → Keeps now new → Puts old works new false bytes
put_kept old now new works bytes front rest is parts wrote same =
    put_until old new works bytes front rest is parts
    (subst (Appends old new) (append-nil front) (appends_both old now new front [] wrote (keeps_none now new same)))

-- how far a text was written
abbrev pub IsFar : Option (List ℕ) → Option (List ℕ) → List ℕ → List ℕ → Type 0
IsFar old now bytes rest = (front : List ℕ) × (bytes ≡ front ++ rest) × Appends old now front

pub far_more : (old now new : Option (List ℕ)) (bytes rest : List ℕ) (n : ℕ) → IsFar old now bytes rest
    → Appends now new (take n rest) → IsFar old new bytes (drop n rest)
far_more old now new bytes rest n far more = (
  far.0 ++ take n rest,
  taken_parts bytes far.0 rest n far.1,
  appends_both old now new far.0 (take n rest) far.2 more,
)

pub far_same : (old now new : Option (List ℕ)) (bytes rest : List ℕ) → IsFar old now bytes rest → Keeps now new
    → IsFar old new bytes rest
far_same old now new bytes rest far same = (
  far.0,
  far.1,
  subst (Appends old new) (append-nil far.0)
      (appends_both old now new far.0 [] far.2 (keeps_none now new same)),
)

-- nothing was written
pub put_stopped : (old : Option (List ℕ)) (works : Bool) (bytes : List ℕ) → Puts old works old false bytes
put_stopped old true bytes first text was = (text, bytes, refl, was)
put_stopped old false bytes first text was = put_nothing old bytes first text was

-- a text that is made of two lists grows by the lines of the next two
pub both_more : {X Y : Type 0} (whole : List X → List Y → List ℕ) (item : X → Y → List ℕ)
    → ((x : X) (y : Y) (xs : List X) (ys : List Y) → whole (x ∷ xs) (y ∷ ys) ≡ item x y ++ whole xs ys)
    → (xs : List X) (ys : List Y) (i : ℕ) (x : X) (y : Y) (before all : List ℕ) → i < length xs → i < length ys
    → get_or xs i x ≡ x → get_or ys i y ≡ y → before ++ whole (drop i xs) (drop i ys) ≡ all
    → (before ++ item x y) ++ whole (drop (i + 1) xs) (drop (i + 1) ys) ≡ all
both_more whole item step xs ys i x y before all small few is at so_far =
    append_assoc before (item x y) (whole (drop (i + 1) xs) (drop (i + 1) ys))
    ∙ ap (λ z. before ++ z) (sym (step x y (drop (i + 1) xs) (drop (i + 1) ys))
    ∙ ap (λ a. whole (a ∷ drop (i + 1) xs) (y ∷ drop (i + 1) ys)) (sym is)
    ∙ ap (λ b. whole (get_or xs i x ∷ drop (i + 1) xs) (b ∷ drop (i + 1) ys)) (sym at)
    ∙ ap (λ l. whole l (get_or ys i y ∷ drop (i + 1) ys)) (sym (drop_more xs i x small))
    ∙ ap (λ l. whole (drop i xs) l) (sym (drop_more ys i y few)))
    ∙ so_far

-- the bytes that were put since nothing was, all of the text or a beginning
pub put_all_of : (old new : Option (List ℕ)) (works : Bool) (bytes : List ℕ) → Puts old true new works bytes
    → IsPut old new works bytes
put_all_of old new works bytes puts = puts old [] (appends_none old)

-- a list that held nothing holds the bytes that were put
pub put_vec : (items bytes before : List ℕ) (works : Bool) → before ≡ [] → works ≡ true
    → Puts (Some before) true (Some items) works bytes → items ≡ bytes
put_vec items bytes before works empty is puts =
    subst (λ (b : Bool). IsPut (Some before) (Some items) b bytes) is
    (put_all_of (Some before) (Some items) works bytes puts)
    ∙ ap (λ xs. xs ++ bytes) empty
