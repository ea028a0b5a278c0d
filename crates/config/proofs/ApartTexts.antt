-- Paths of words that occur once in a layout are written differently.
use Rattle.std.proofs.Common.{◌≡◌, refl, sym, ap, ap₂, ◌∙◌, ℕ, suc, Bool, true, false, not, ◌||◌, if◌then◌else◌, List}
use Rattle.std.proofs.Common.{[], ◌∷◌, map, slice_get, Some, option_map}
use Rattle.std.specs.Prelude.{bytes_eq, filter}
use Rattle.std.specs.List.{list_all}
use Rattle.st_types.specs.Paths.{same_path}
use Rattle.st_meaning.specs.Scopes.{Name, contains_name}
use Rattle.st_meaning.specs.Slots.{Slot, slot_of, IsLayout}
use Rattle.st_types.specs.Comparisons.{same_path_itself}
use Rattle.st_meaning.specs.Layouts.{path_text}
use Rattle.layout.proofs.ListLemmas.{same_name}
use Rattle.config.specs.WordPaths.{is_word_path}
use Rattle.config.proofs.OnePath.{one_path}
use Rattle.std.proofs.lemmas.Bool.{not_from_false, or_parts, and_parts, and_from}
use Rattle.layout.proofs.StoreLemmas.{others_layout}
use Rattle.st_types.proofs.OptionLemmas.{map_some}
use Rattle.st_types.proofs.TestLemmas.{false_from_not}
use Rattle.layout.specs.Names.{are_different}

abbrev pub text_of : Slot → Name
text_of l = path_text l.path

abbrev has_word_path : Slot → Bool
has_word_path l = is_word_path l.path

-- after the first slot of a layout
another : (l m : Slot) (ls : List Slot) (k : ℕ) → slot_of (l ∷ ls) m.path ≡ Some (suc k)
    → (same_path m.path l.path ≡ false) × (slot_of ls m.path ≡ Some k)
another l m ls k = by_test (same_path m.path l.path)
  where
    by_test : (b : Bool) → (if b then Some 0 else option_map suc (slot_of ls m.path)) ≡ Some (suc k)
        → (b ≡ false) × (slot_of ls m.path ≡ Some k)
    by_test true e = absurd (cc)
    by_test false e =
        let i = map_some suc (slot_of ls m.path) (suc k) e in
        let n : i.0 ≡ k = let s = i.2 in cc in
        (refl, i.1 ∙ ap Some n)

-- no text of others is the first one's
not_again : (l : Slot) (ls : List Slot) → has_word_path l ≡ true → list_all has_word_path ls ≡ true
    → ((k : ℕ) (m : Slot) → slice_get ls k ≡ Some m → same_path m.path l.path ≡ false)
    → contains_name (map text_of ls) (text_of l) ≡ false
not_again l [] h g apart = refl
not_again l (m ∷ ms) h g apart =
    let b = and_parts (has_word_path m) (list_all has_word_path ms) g in
    ap₂ (λ x y. x || y) (by_test (bytes_eq (text_of l) (text_of m)) refl b.0 (apart 0 m refl))
    (not_again l ms h b.1 (λ k o e. apart (suc k) o e))
  where
    by_test : (t : Bool) → bytes_eq (text_of l) (text_of m) ≡ t → has_word_path m ≡ true
        → same_path m.path l.path ≡ false → t ≡ false
    by_test true e w d =
        let p = one_path l.path m.path h w (same_name (text_of l) (text_of m) e) in
        let s : true ≡ false = sym (same_path_itself l.path) ∙ ap (λ q. same_path q l.path) p ∙ d in
        absurd (cc)
    by_test false e w d = refl

texts_differ : (ls : List Slot) → list_all has_word_path ls ≡ true → IsLayout ls
    → are_different (map text_of ls) ≡ true
texts_differ [] h layout = refl
texts_differ (l ∷ ls) h layout =
    let b = and_parts (has_word_path l) (list_all has_word_path ls) h in
    and_from (not (contains_name (map text_of ls) (text_of l))) (are_different (map text_of ls))
    (not_from_false (contains_name (map text_of ls) (text_of l))
    (not_again l ls b.0 b.1 (λ k m e. (another l m ls k (layout (suc k) m e)).0)))
    (texts_differ ls b.1 (others_layout l ls layout))

-- fewer texts differ too
fewer : (p : Slot → Bool) (ls : List Slot) (x : Name) → contains_name (map text_of ls) x ≡ false
    → contains_name (map text_of (filter p ls)) x ≡ false
fewer p [] x h = refl
fewer p (l ∷ ls) x h =
    let n = or_parts (bytes_eq x (text_of l)) (contains_name (map text_of ls) x) h in
    by_test (p l) n.0 (fewer p ls x n.1)
  where
    by_test : (b : Bool) → bytes_eq x (text_of l) ≡ false → contains_name (map text_of (filter p ls)) x ≡ false
        → contains_name (map text_of (if b then l ∷ filter p ls else filter p ls)) x ≡ false
    by_test true here rest = ap₂ (λ a b. a || b) here rest
    by_test false here rest = rest

fewer_differ : (p : Slot → Bool) (ls : List Slot) → are_different (map text_of ls) ≡ true
    → are_different (map text_of (filter p ls)) ≡ true
fewer_differ p [] h = refl
fewer_differ p (l ∷ ls) h =
    let b = and_parts (not (contains_name (map text_of ls) (text_of l))) (are_different (map text_of ls)) h in
    by_test (p l) (fewer p ls (text_of l) (false_from_not (contains_name (map text_of ls) (text_of l)) b.0))
    (fewer_differ p ls b.1)
  where
    by_test : (b : Bool) → contains_name (map text_of (filter p ls)) (text_of l) ≡ false
        → are_different (map text_of (filter p ls)) ≡ true
        → are_different (map text_of (if b then l ∷ filter p ls else filter p ls)) ≡ true
    by_test true here rest = and_from (not (contains_name (map text_of (filter p ls)) (text_of l)))
        (are_different (map text_of (filter p ls)))
        (not_from_false (contains_name (map text_of (filter p ls)) (text_of l)) here) rest
    by_test false here rest = rest

pub layout_apart : (ls : List Slot) → list_all (λ l. is_word_path l.path) ls ≡ true → IsLayout ls
    → are_different (map (λ l. path_text l.path) ls) ≡ true
layout_apart ls h layout = texts_differ ls h layout

pub filtered_apart : (p : Slot → Bool) (ls : List Slot) → are_different (map (λ l. path_text l.path) ls) ≡ true
    → are_different (map (λ l. path_text l.path) (filter p ls)) ≡ true
filtered_apart p ls h = fewer_differ p ls h
