-- Variables whose paths are of words, and whose types are elementary or of a text, may have a line in a record.
use Rattle.std.proofs.Common.{◌≡◌, refl, sym, ap, ◌∙◌, ℕ, suc, ℤ, unsigned_abs, Bool, true, false, not, ◌&&◌, ◌==◌}
use Rattle.std.proofs.Common.{if◌then◌else◌, List, [], ◌∷◌, ◌++◌, length, map, Option, Some, None, arith}
use Rattle.std.specs.Prelude.{nat_le, codes, filter}
use Rattle.std.specs.List.{list_all}
use Rattle.std.specs.Fmt.{signed_decimal}
use Rattle.std.proofs.lemmas.Bool.Decides.{nat_tests}
use Rattle.std.proofs.lemmas.List.Folds.{list_all-append, list_all-map}
use Rattle.st_types.specs.declared.kind.Kind.{Kind}
use Rattle.st_types.specs.declared.kind.Kind.TheVariants.{Enumerated}
use Rattle.st_types.specs.declared.path.Owner.{Owner}
use Rattle.st_types.specs.declared.path.Step.{Step}
use Rattle.st_types.specs.declared.path.Step.TheVariants.{Member, Element}
use Rattle.st_types.specs.Paths.{Path}
use Rattle.st_types.specs.UpperNames.{is_letter_or_digit, is_upper_name}
use Rattle.st_meaning.specs.Slots.{Slot}
use Rattle.st_meaning.specs.declared.plan.PlanVariable.{PlanVariable}
use Rattle.st_meaning.specs.Layouts.{Enumerations, variable_slot, owner_text, step_text, steps_text, path_text}
use Rattle.plan.specs.Sound.{is_spelled, has_spelling, has_line}
use Rattle.config.specs.PlainDeclarations.{is_short, is_elementary}
use Rattle.config.specs.WordPaths.{is_word_owner, is_word_step, is_word_path}
use Rattle.config.proofs.OnePath.{word_bytes, is_sign_or_digit, number_bytes, short_is}
use Rattle.config.proofs.PlainPaths.{is_plain_slot}
use Rattle.std.proofs.lemmas.Bool.{and_parts, and_from}

abbrev is_visible : ℕ → Bool
is_visible b = nat_le 33 b && nat_le b 126

more_visible : (f : ℕ → Bool) → ((b : ℕ) → f b ≡ true → is_visible b ≡ true) → (xs : List ℕ) → list_all f xs ≡ true
    → list_all is_visible xs ≡ true
more_visible f h [] g = refl
more_visible f h (b ∷ bs) g =
    let c = and_parts (f b) (list_all f bs) g in
    and_from (is_visible b) (list_all is_visible bs) (h b c.0) (more_visible f h bs c.1)

letter_visible : (b : ℕ) → is_letter_or_digit b ≡ true → is_visible b ≡ true
letter_visible b h = grind (arith, nat_tests)

digit_visible : (b : ℕ) → is_sign_or_digit b ≡ true → is_visible b ≡ true
digit_visible b h = grind (arith, nat_tests)

word_visible : (x : List ℕ) → is_upper_name x ≡ true → list_all is_visible x ≡ true
word_visible x h = more_visible is_letter_or_digit letter_visible x (word_bytes x h)

number_visible : (z : ℤ) → is_short (unsigned_abs z) ≡ true → list_all is_visible (signed_decimal z) ≡ true
number_visible z h = more_visible is_sign_or_digit digit_visible (signed_decimal z) (number_bytes z (short_is z h))

joined_visible : (xs ys : List ℕ) → list_all is_visible xs ≡ true → list_all is_visible ys ≡ true
    → list_all is_visible (xs ++ ys) ≡ true
joined_visible xs ys h g =
    list_all-append is_visible xs ys ∙ and_from (list_all is_visible xs) (list_all is_visible ys) h g

owner_visible : (o : Option Owner) → is_word_owner o ≡ true → list_all is_visible (owner_text o) ≡ true
owner_visible None h = refl
owner_visible (Some o) h =
    let b = and_parts (is_upper_name o.resource) (is_upper_name o.instance) h in
    joined_visible ((o.resource ++ codes "/") ++ o.instance) (codes ".")
    (joined_visible (o.resource ++ codes "/") o.instance
    (joined_visible o.resource (codes "/") (word_visible o.resource b.0) refl) (word_visible o.instance b.1)) refl

step_visible : (x : Step) → is_word_step x ≡ true → list_all is_visible (step_text x) ≡ true
step_visible (Member x) h = joined_visible (codes ".") x refl (word_visible x h)
step_visible (Element z) h =
    joined_visible (codes "[" ++ signed_decimal z) (codes "]")
    (joined_visible (codes "[") (signed_decimal z) refl (number_visible z h)) refl

steps_visible : (xs : List Step) → list_all is_word_step xs ≡ true → list_all is_visible (steps_text xs) ≡ true
steps_visible [] h = refl
steps_visible (x ∷ xs) h =
    let b = and_parts (is_word_step x) (list_all is_word_step xs) h in
    joined_visible (step_text x) (steps_text xs) (step_visible x b.0) (steps_visible xs b.1)

-- a path has a name
abbrev has_bytes : List ℕ → Bool
has_bytes xs = not (length xs == 0)

more_than_none : (n : ℕ) → not (suc n == 0) ≡ true
more_than_none n = grind (arith, nat_tests)

word_has_bytes : (x : List ℕ) → is_upper_name x ≡ true → has_bytes x ≡ true
word_has_bytes [] h = absurd (cc)
word_has_bytes (b ∷ bs) h = more_than_none (length bs)

some_before : (xs ys : List ℕ) → has_bytes xs ≡ true → has_bytes (xs ++ ys) ≡ true
some_before [] ys h = absurd (cc)
some_before (b ∷ bs) ys h = more_than_none (length (bs ++ ys))

some_behind : (xs ys : List ℕ) → has_bytes ys ≡ true → has_bytes (xs ++ ys) ≡ true
some_behind [] ys h = h
some_behind (b ∷ bs) ys h = more_than_none (length (bs ++ ys))

path_spelled : (p : Path) → is_word_path p ≡ true → is_spelled (path_text p) ≡ true
path_spelled p h =
    let a = and_parts (is_word_owner p.owner && is_upper_name p.name) (list_all is_word_step p.steps) h in
    let b = and_parts (is_word_owner p.owner) (is_upper_name p.name) a.0 in
    let front = owner_text p.owner ++ p.name in
    and_from (has_bytes (path_text p)) (list_all is_visible (path_text p))
    (some_before front (steps_text p.steps) (some_behind (owner_text p.owner) p.name (word_has_bytes p.name b.1)))
    (joined_visible front (steps_text p.steps)
    (joined_visible (owner_text p.owner) p.name (owner_visible p.owner b.0) (word_visible p.name b.1))
    (steps_visible p.steps a.1))

pub elementary_spelled : (types : Enumerations) (k : Kind) → is_elementary k ≡ true → has_spelling types k ≡ true
elementary_spelled types (Enumerated names number) h = absurd (cc)
elementary_spelled types k h = refl

abbrev has_slot_line : Enumerations → Slot → Bool
has_slot_line types l = is_spelled (path_text l.path) && has_spelling types l.kind

slot_lines : (types : Enumerations) (p : Slot → Bool) (ls : List Slot)
    → list_all (is_plain_slot (has_spelling types)) ls ≡ true → list_all (has_slot_line types) (filter p ls) ≡ true
slot_lines types p [] h = refl
slot_lines types p (l ∷ ls) h =
    let b = and_parts (is_plain_slot (has_spelling types) l) (list_all (is_plain_slot (has_spelling types)) ls) h in
    let c = and_parts (is_word_path l.path) (has_spelling types l.kind) b.0 in
    by_test (p l) (and_from (is_spelled (path_text l.path)) (has_spelling types l.kind) (path_spelled l.path c.0) c.1)
    (slot_lines types p ls b.1)
  where
    by_test : (b : Bool) → has_slot_line types l ≡ true → list_all (has_slot_line types) (filter p ls) ≡ true
        → list_all (has_slot_line types) (if b then l ∷ filter p ls else filter p ls) ≡ true
    by_test true here rest = and_from (has_slot_line types l) (list_all (has_slot_line types) (filter p ls)) here rest
    by_test false here rest = rest

-- so each variable of such slots may have a line
pub variable_lines : (types : Enumerations) (p : Slot → Bool) (vs : List PlanVariable) (ls : List Slot)
    → map variable_slot vs ≡ filter p ls → list_all (is_plain_slot (has_spelling types)) ls ≡ true
    → list_all (has_line types) vs ≡ true
variable_lines types p vs ls e h =
    sym (list_all-map (has_slot_line types) variable_slot vs) ∙ ap (list_all (has_slot_line types)) e
    ∙ slot_lines types p ls h
