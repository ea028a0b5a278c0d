-- Two paths of words that are written alike are the same path.
use Rattle.std.proofs.Common.{◌≡◌, refl, sym, ap, ap₂, ◌∙◌, ℕ, suc, ◌+◌, ◌%◌, ◌^◌, ◌<◌, ◌≤◌, ℤ, pos, negsuc}
use Rattle.std.proofs.Common.{unsigned_abs, Bool, true, false, not, ◌&&◌, ◌||◌, ◌==◌, List, [], ◌∷◌, ◌++◌, length}
use Rattle.std.proofs.Common.{Option, Some, None, arith, append_assoc}
use Rattle.std.specs.Prelude.{nat_le}
use Rattle.std.specs.List.{list_all}
use Rattle.std.specs.Fmt.{decimal, signed_decimal}
use Rattle.std.proofs.lemmas.Bool.{ltb-true, and_parts, and_from, or_left}
use Rattle.std.proofs.lemmas.Bool.Decides.{nat_tests}
use Rattle.std.proofs.lemmas.List.Folds.{list_all-append}
use Rattle.std.proofs.lemmas.Fmt.{decimal_by_steps, decimal_injective}
use Rattle.st_types.specs.declared.limits.TheConstants.{MAX_NAME_LENGTH}
use Rattle.st_types.specs.declared.path.Owner.{Owner}
use Rattle.st_types.specs.declared.path.Step.{Step}
use Rattle.st_types.specs.declared.path.Step.TheVariants.{Member, Element}
use Rattle.st_types.specs.Paths.{Path}
use Rattle.st_types.specs.UpperNames.{is_letter, is_letter_or_digit, is_spaced, is_upper_name}
use Rattle.st_meaning.specs.Layouts.{owner_text, steps_text, path_text}
use Rattle.config.specs.WordPaths.{is_word_owner, is_word_step, is_word_path}
use Rattle.config.specs.PlainDeclarations.{is_short}

-- nothing, or a byte in front that does not pass
abbrev stops : (ℕ → Bool) → List ℕ → Bool
stops f [] = true
stops f (b ∷ bs) = not (f b)

passes_or_stops : (b : Bool) → b ≡ true → not b ≡ true → ⊥
passes_or_stops true h g = absurd (cc)
passes_or_stops false h g = absurd (cc)

-- equal texts have equal parts in front that pass, and equal rests
front_is : (f : ℕ → Bool) (xs ys r s : List ℕ) → list_all f xs ≡ true → list_all f ys ≡ true → stops f r ≡ true
    → stops f s ≡ true → xs ++ r ≡ ys ++ s → (xs ≡ ys) × (r ≡ s)
front_is f [] [] r s a b c d e = (refl, e)
front_is f [] (y ∷ ys) r s a b c d e =
    absurd (passes_or_stops (f y) (and_parts (f y) (list_all f ys) b).0 (ap (stops f) (sym e) ∙ c))
front_is f (x ∷ xs) [] r s a b c d e =
    absurd (passes_or_stops (f x) (and_parts (f x) (list_all f xs) a).0 (ap (stops f) e ∙ d))
front_is f (x ∷ xs) (y ∷ ys) r s a b c d e =
    let t : xs ++ r ≡ ys ++ s = cc in
    let i = front_is f xs ys r s (and_parts (f x) (list_all f xs) a).1 (and_parts (f y) (list_all f ys) b).1 c d t in
    let h : x ≡ y = cc in
    let l = i.0 in
    (cc, i.1)

-- words
pub word_bytes : (x : List ℕ) → is_upper_name x ≡ true → list_all is_letter_or_digit x ≡ true
word_bytes [] h = refl
word_bytes (b ∷ bs) h =
    let p = and_parts ((is_letter b && list_all is_letter_or_digit bs) && is_spaced (b ∷ bs))
    (nat_le (length (b ∷ bs)) MAX_NAME_LENGTH) h in
    let q = and_parts (is_letter b && list_all is_letter_or_digit bs) (is_spaced (b ∷ bs)) p.0 in
    let r = and_parts (is_letter b) (list_all is_letter_or_digit bs) q.0 in
    and_from (is_letter_or_digit b) (list_all is_letter_or_digit bs)
    (or_left (is_letter b) (nat_le 48 b && nat_le b 57) r.0) r.1

word_is : (x y r s : List ℕ) → is_upper_name x ≡ true → is_upper_name y ≡ true → stops is_letter_or_digit r ≡ true
    → stops is_letter_or_digit s ≡ true → x ++ r ≡ y ++ s → (x ≡ y) × (r ≡ s)
word_is x y r s a b = front_is is_letter_or_digit x y r s (word_bytes x a) (word_bytes y b)

-- numbers
abbrev pub is_sign_or_digit : ℕ → Bool
is_sign_or_digit b = (b == 45) || (nat_le 48 b && nat_le b 57)

digit_passes : (d : ℕ) → 48 ≤ d → d ≤ 57 → is_sign_or_digit d ≡ true
digit_passes d low high = grind (arith, nat_tests)

decimal_bytes : (n : ℕ) → n < 2 ^ 64 → list_all is_sign_or_digit (decimal n) ≡ true
decimal_bytes n small = decimal_by_steps (λ m ds. list_all is_sign_or_digit ds ≡ true)
    (λ m low. and_from (is_sign_or_digit (48 + m)) true (digit_passes (48 + m) (omega arith) (omega arith)) refl)
    (λ m ds low h. list_all-append is_sign_or_digit ds ((48 + m % 10) ∷ [])
    ∙ and_from (list_all is_sign_or_digit ds) (is_sign_or_digit (48 + m % 10) && true) h
    (and_from (is_sign_or_digit (48 + m % 10)) true (digit_passes (48 + m % 10) (omega arith) (omega arith)) refl))
    n small

pub number_bytes : (z : ℤ) → unsigned_abs z < 2 ^ 64 → list_all is_sign_or_digit (signed_decimal z) ≡ true
number_bytes (pos n) small = decimal_bytes n small
number_bytes (negsuc n) small = decimal_bytes (suc n) small

no_sign : (n : ℕ) → n < 2 ^ 64 → (bs : List ℕ) → decimal n ≡ 45 ∷ bs → ⊥
no_sign n small = decimal_by_steps (λ m ds. (bs : List ℕ) → ds ≡ 45 ∷ bs → ⊥)
    (λ m low bs e. let h : 48 + m ≡ 45 = cc in omega arith)
    (λ m ds low h bs e. by_front m ds bs h e) n small
  where
    by_front : (m : ℕ) (ds bs : List ℕ) → ((bs : List ℕ) → ds ≡ 45 ∷ bs → ⊥) → ds ++ (48 + m % 10) ∷ [] ≡ 45 ∷ bs → ⊥
    by_front m [] bs h e = let g : 48 + m % 10 ≡ 45 = cc in omega arith
    by_front m (d ∷ ds) bs h e = h ds (let g : d ≡ 45 = cc in cc)

-- the text of a number determines it
number_is : (y z : ℤ) → unsigned_abs y < 2 ^ 64 → unsigned_abs z < 2 ^ 64 → signed_decimal y ≡ signed_decimal z → y ≡ z
number_is (pos m) (pos n) a b e = ap pos (decimal_injective m n a b e)
number_is (pos m) (negsuc n) a b e = absurd (no_sign m a (decimal (suc n)) e)
number_is (negsuc m) (pos n) a b e = absurd (no_sign n b (decimal (suc m)) (sym e))
number_is (negsuc m) (negsuc n) a b e =
    let digits : decimal (suc m) ≡ decimal (suc n) = cc in
    let same = decimal_injective (suc m) (suc n) a b digits in
    let less : m ≡ n = omega arith in
    ap negsuc less

pub short_is : (z : ℤ) → is_short (unsigned_abs z) ≡ true → unsigned_abs z < 2 ^ 64
short_is z h = ltb-true (unsigned_abs z) (2 ^ 64) h

-- steps
steps_stop : (xs : List Step) → stops is_letter_or_digit (steps_text xs) ≡ true
steps_stop [] = refl
steps_stop (Member x ∷ xs) = refl
steps_stop (Element z ∷ xs) = refl

element_text : (z : ℤ) (xs : List Step) → steps_text (Element z ∷ xs) ≡ 91 ∷ (signed_decimal z ++ (93 ∷ steps_text xs))
element_text z xs = ap (λ bs. 91 ∷ bs) (append_assoc (signed_decimal z) (93 ∷ []) (steps_text xs))

element_is : (y z : ℤ) (r s : List ℕ) → is_short (unsigned_abs y) ≡ true → is_short (unsigned_abs z) ≡ true
    → signed_decimal y ++ (93 ∷ r) ≡ signed_decimal z ++ (93 ∷ s) → (y ≡ z) × (r ≡ s)
element_is y z r s a b e =
    let i = front_is is_sign_or_digit (signed_decimal y) (signed_decimal z) (93 ∷ r) (93 ∷ s)
    (number_bytes y (short_is y a)) (number_bytes z (short_is z b)) refl refl e in
    let t = i.1 in
    (number_is y z (short_is y a) (short_is z b) i.0, cc)

-- the text after the first byte
abbrev behind : List ℕ → List ℕ
behind [] = []
behind (b ∷ bs) = bs

-- how the text of steps begins: at its end, or with a member
abbrev begins_so : Bool → (ℕ → Bool) → List ℕ → Bool
begins_so none f [] = none
begins_so none f (b ∷ bs) = f b

told_apart : (none : Bool) (f : ℕ → Bool) (xs ys : List ℕ) → begins_so none f xs ≡ true → begins_so none f ys ≡ false
    → xs ≡ ys → ⊥
told_apart none f xs ys a b e = let h : true ≡ false = sym a ∙ ap (begins_so none f) e ∙ b in absurd (cc)

member_is : (x y : List ℕ) (xs ys : List Step) → is_word_step (Member x) && list_all is_word_step xs ≡ true
    → is_word_step (Member y) && list_all is_word_step ys ≡ true
    → (list_all is_word_step xs ≡ true → list_all is_word_step ys ≡ true → steps_text xs ≡ steps_text ys → xs ≡ ys)
    → steps_text (Member x ∷ xs) ≡ steps_text (Member y ∷ ys) → Member x ∷ xs ≡ Member y ∷ ys
member_is x y xs ys a b ih e =
    let c = and_parts (is_upper_name x) (list_all is_word_step xs) a in
    let d = and_parts (is_upper_name y) (list_all is_word_step ys) b in
    let i = word_is x y (steps_text xs) (steps_text ys) c.0 d.0 (steps_stop xs) (steps_stop ys) (ap behind e) in
    ap₂ (λ n ns. Member n ∷ ns) i.0 (ih c.1 d.1 i.1)

element_step_is : (y z : ℤ) (xs ys : List Step) → is_word_step (Element y) && list_all is_word_step xs ≡ true
    → is_word_step (Element z) && list_all is_word_step ys ≡ true
    → (list_all is_word_step xs ≡ true → list_all is_word_step ys ≡ true → steps_text xs ≡ steps_text ys → xs ≡ ys)
    → steps_text (Element y ∷ xs) ≡ steps_text (Element z ∷ ys) → Element y ∷ xs ≡ Element z ∷ ys
element_step_is y z xs ys a b ih e =
    let c = and_parts (is_short (unsigned_abs y)) (list_all is_word_step xs) a in
    let d = and_parts (is_short (unsigned_abs z)) (list_all is_word_step ys) b in
    let w = sym (element_text y xs) ∙ e ∙ element_text z ys in
    let i = element_is y z (steps_text xs) (steps_text ys) c.0 d.0 (ap behind w) in
    ap₂ (λ n ns. Element n ∷ ns) i.0 (ih c.1 d.1 i.1)

nothing_is_no_step : (x : Step) (xs : List Step) → [] ≡ steps_text (x ∷ xs) → ⊥
nothing_is_no_step (Member x) xs = told_apart true (λ b. false) [] (steps_text (Member x ∷ xs)) refl refl
nothing_is_no_step (Element z) xs = told_apart true (λ b. false) [] (steps_text (Element z ∷ xs)) refl refl

member_is_no_element : (x : List ℕ) (z : ℤ) (xs ys : List Step)
    → steps_text (Member x ∷ xs) ≡ steps_text (Element z ∷ ys) → ⊥
member_is_no_element x z xs ys =
    told_apart false (λ b. b == 46) (steps_text (Member x ∷ xs)) (steps_text (Element z ∷ ys)) refl refl

steps_are : (xs ys : List Step) → list_all is_word_step xs ≡ true → list_all is_word_step ys ≡ true
    → steps_text xs ≡ steps_text ys → xs ≡ ys
steps_are [] [] a b e = refl
steps_are [] (y ∷ ys) a b e = absurd (nothing_is_no_step y ys e)
steps_are (x ∷ xs) [] a b e = absurd (nothing_is_no_step x xs (sym e))
steps_are (Member x ∷ xs) (Element z ∷ ys) a b e = absurd (member_is_no_element x z xs ys e)
steps_are (Element z ∷ xs) (Member y ∷ ys) a b e = absurd (member_is_no_element y z ys xs (sym e))
steps_are (Member x ∷ xs) (Member y ∷ ys) a b e = member_is x y xs ys a b (steps_are xs ys) e
steps_are (Element y ∷ xs) (Element z ∷ ys) a b e = element_step_is y z xs ys a b (steps_are xs ys) e

-- a variable and the steps after it
abbrev local_text : List ℕ → List Step → List ℕ
local_text x xs = x ++ steps_text xs

record SameLocal (x y : List ℕ) (xs ys : List Step) : Type 0 where
  name : x ≡ y
  steps : xs ≡ ys

local_is : (x y : List ℕ) (xs ys : List Step) → is_upper_name x ≡ true → is_upper_name y ≡ true
    → list_all is_word_step xs ≡ true → list_all is_word_step ys ≡ true → local_text x xs ≡ local_text y ys
    → SameLocal x y xs ys
local_is x y xs ys a b c d e =
    let i = word_is x y (steps_text xs) (steps_text ys) a b (steps_stop xs) (steps_stop ys) e in
    record { name = i.0; steps = steps_are xs ys c d i.1 }

-- an owner before it
owned_text : (o : Owner) (x : List ℕ) (xs : List Step)
    → (owner_text (Some o) ++ x) ++ steps_text xs
    ≡ o.resource ++ (47 ∷ (o.instance ++ (46 ∷ local_text x xs)))
owned_text o x xs = simp append_assoc

no_slash : (xs : List Step) (bs : List ℕ) → steps_text xs ≡ 47 ∷ bs → ⊥
no_slash [] bs = told_apart true (λ b. false) [] (47 ∷ bs) refl refl
no_slash (Member x ∷ xs) bs = told_apart true (λ b. not (b == 47)) (steps_text (Member x ∷ xs)) (47 ∷ bs) refl refl
no_slash (Element z ∷ xs) bs = told_apart true (λ b. not (b == 47)) (steps_text (Element z ∷ xs)) (47 ∷ bs) refl refl

-- a variable without an owner is not one of an instance
apart : (x y : List ℕ) (xs : List Step) (bs : List ℕ) → is_upper_name x ≡ true → is_upper_name y ≡ true
    → local_text x xs ≡ y ++ (47 ∷ bs) → ⊥
apart x y xs bs a b e = no_slash xs bs (word_is x y (steps_text xs) (47 ∷ bs) a b (steps_stop xs) refl e).1

abbrev owner_of : List ℕ → List ℕ → Owner
owner_of r i = record { resource = r; instance = i }

abbrev path_of : Option Owner → List ℕ → List Step → Path
path_of o x steps = record { owner = o; name = x; steps = steps }

module _ (x y : List ℕ) (xs ys : List Step) (a : is_upper_name x ≡ true) (b : is_upper_name y ≡ true)
    (c : list_all is_word_step xs ≡ true) (d : list_all is_word_step ys ≡ true) where
  owned_is : (o p : Owner) → is_word_owner (Some o) ≡ true → is_word_owner (Some p) ≡ true
      → path_text (path_of (Some o) x xs) ≡ path_text (path_of (Some p) y ys)
      → path_of (Some o) x xs ≡ path_of (Some p) y ys
  owned_is o p f g e =
      let h = and_parts (is_upper_name o.resource) (is_upper_name o.instance) f in
      let k = and_parts (is_upper_name p.resource) (is_upper_name p.instance) g in
      let w = sym (owned_text o x xs) ∙ e ∙ owned_text p y ys in
      let i = word_is o.resource p.resource (47 ∷ (o.instance ++ (46 ∷ local_text x xs)))
      (47 ∷ (p.instance ++ (46 ∷ local_text y ys))) h.0 k.0 refl refl w in
      let t = i.1 in
      let u : o.instance ++ (46 ∷ local_text x xs) ≡ p.instance ++ (46 ∷ local_text y ys) = cc in
      let j = word_is o.instance p.instance (46 ∷ local_text x xs) (46 ∷ local_text y ys) h.1 k.1 refl refl u in
      let v = j.1 in
      let l = local_is x y xs ys a b c d (cc) in
      ap (λ r. path_of (Some (owner_of r o.instance)) x xs) i.0
      ∙ ap (λ r. path_of (Some (owner_of p.resource r)) x xs) j.0
      ∙ ap (λ n. path_of (Some p) n xs) l.name ∙ ap (λ steps. path_of (Some p) y steps) l.steps

  path_is : (o p : Option Owner) → is_word_owner o ≡ true → is_word_owner p ≡ true
      → path_text (path_of o x xs) ≡ path_text (path_of p y ys) → path_of o x xs ≡ path_of p y ys
  path_is None None f g e =
      let l = local_is x y xs ys a b c d e in
      ap (λ n. path_of None n xs) l.name ∙ ap (λ steps. path_of None y steps) l.steps
  path_is None (Some p) f g e =
      let k = and_parts (is_upper_name p.resource) (is_upper_name p.instance) g in
      absurd (apart x p.resource xs (p.instance ++ (46 ∷ local_text y ys)) a k.0 (e ∙ owned_text p y ys))
  path_is (Some o) None f g e =
      let h = and_parts (is_upper_name o.resource) (is_upper_name o.instance) f in
      absurd (apart y o.resource ys (o.instance ++ (46 ∷ local_text x xs)) b h.0 (sym e ∙ owned_text o x xs))
  path_is (Some o) (Some p) f g e = owned_is o p f g e

pub one_path : (p q : Path) → is_word_path p ≡ true → is_word_path q ≡ true → path_text p ≡ path_text q → p ≡ q
one_path p q h g e =
    let a = and_parts (is_word_owner p.owner && is_upper_name p.name) (list_all is_word_step p.steps) h in
    let b = and_parts (is_word_owner p.owner) (is_upper_name p.name) a.0 in
    let c = and_parts (is_word_owner q.owner && is_upper_name q.name) (list_all is_word_step q.steps) g in
    let d = and_parts (is_word_owner q.owner) (is_upper_name q.name) c.0 in
    path_is p.name q.name p.steps q.steps b.1 d.1 a.1 c.1 p.owner q.owner b.0 d.0 e
