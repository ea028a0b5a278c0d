-- Codes of linked bodies, one after another.
use Rattle.std.proofs.Common.{◌≡◌, ℕ, zero, suc, ◌+◌, Bool, List, [], ◌∷◌, ◌++◌, length, map, take, Option, Some}
use Rattle.std.proofs.Common.{slice_get}
use Rattle.std.proofs.Common.{refl, ap, subst, ◌∙◌}
use Rattle.std.specs.Prelude.{Result, Ok, Err, IfOk}
use Rattle.std.proofs.lemmas.List.{length-map}
use Rattle.st_types.specs.declared.kind.Kind.{Kind}
use Rattle.st_types.specs.Sources.{Source}
use Rattle.st_meaning.specs.Runs.{Program}
use Rattle.st_meaning.specs.Scopes.{Name}
use Rattle.st_meaning.specs.Slots.{Slot}
use Rattle.layout.specs.Libraries.{programs_of_text}
use Rattle.layout.specs.TextLayouts.{slots_of_text}
use Rattle.layout.specs.KeptLayouts.{slot_view}
use Rattle.layout.specs.Indexed.{facts_of}
use Rattle.layout.specs.declared.slots.LayoutSlot.{LayoutSlot}
use Rattle.slot_trees.specs.SlotTrees.{SlotLibrary, SlotStmts}
use Rattle.slot_trees.specs.TextLinks.{LinkedText, linked_source}
use Rattle.machine_code.specs.Programs.{program_code, ProgramFits}
use Rattle.config.specs.CodedSources.{HasCodeRuns}
use Rattle.st_link.specs.Accepted.{IsLinked}
use Rattle.st_link.specs.KeptTexts.{KeptText}
use Rattle.slot_trees.specs.LibraryViews.{KeptLibrary}
use Rattle.st_compile.specs.Linked.{ProgramLinked}
use Rattle.config.specs.Compiled.{AreCompiled}
use Rattle.slot_code.specs.Codes.{CodeView}
use Rattle.slot_code.specs.Meanings.{Means}
use Rattle.slot_code.specs.Reads.{ReadsAsAsked}
use Rattle.config.specs.ProgramCodes.{IsCodeOf}
use Rattle.config.specs.Codes.{AreCodesOf, AreCodesOver, IsCodeOver}

-- one more
pub one_more : (library : SlotLibrary) (kinds : List Kind) (bodies : List SlotStmts) (codes : List CodeView)
    (body : SlotStmts) (code : CodeView) → AreCodesOver library kinds bodies codes
    → IsCodeOver library kinds body code
    → AreCodesOver library kinds (bodies ++ body ∷ []) (codes ++ code ∷ [])
one_more library kinds [] [] body code so_far is = (is, tt)
one_more library kinds [] (c ∷ codes) body code so_far is = absurd so_far
one_more library kinds (b ∷ bodies) [] body code so_far is = absurd so_far
one_more library kinds (b ∷ bodies) (c ∷ codes) body code so_far is =
    (so_far.0, one_more library kinds bodies codes body code so_far.1 is)

-- The body of a number has the code of this number.
pub record HasCode (library : SlotLibrary) (kinds : List Kind) (body : SlotStmts) (codes : List CodeView)
    (n : ℕ) : Type 0 where
  pub code : CodeView
  pub is : slice_get codes n ≡ Some code
  pub over : IsCodeOver library kinds body code

pub code_at : (library : SlotLibrary) (kinds : List Kind) (bodies : List SlotStmts) (codes : List CodeView)
    (n : ℕ) (body : SlotStmts) → AreCodesOver library kinds bodies codes → slice_get bodies n ≡ Some body
    → HasCode library kinds body codes n
code_at library kinds [] codes n body are is = absurd (cc)
code_at library kinds (b ∷ bodies) [] n body are is = absurd are
code_at library kinds (b ∷ bodies) (c ∷ codes) zero body are is = record {
  code = c;
  is = refl;
  over = subst (λ x. IsCodeOver library kinds x c) (some_same b body is) are.0;
}
  where
    some_same : (x y : SlotStmts) → Some x ≡ Some y → x ≡ y
    some_same x y h = cc
code_at library kinds (b ∷ bodies) (c ∷ codes) (suc n) body are is =
    let rest = code_at library kinds bodies codes n body are.1 is in
    record { code = rest.code; is = rest.is; over = rest.over }

-- the code of the linked body over the layout of its text
code_of_text : (text : Source) (linked : LinkedText) (body : SlotStmts) (kinds : List Kind) (code : CodeView)
    → kinds ≡ map (λ l. l.kind) (slots_of_text text) → IsCodeOver linked.library kinds body code
    → IsCodeOf text linked body 64 code
code_of_text text linked body kinds code are over =
    let long : length kinds ≡ length (slots_of_text text) = ap length are ∙ length-map _ _ in
    record {
      instrs = over.instrs ∙ ap (λ n. program_code linked.library 0 n body 64) long;
      kinds = over.kinds ∙ are;
      fits = subst (λ n. ProgramFits (n + code.extra) linked.library 0 n body 64) long over.fits;
    }

pub linked_same : (a b : LinkedText) (o : Option LinkedText) → o ≡ Some a → o ≡ Some b → a ≡ b
linked_same a b o x y = cc

-- Codes over the linked form of a text mean its programs, and read what they ask for.
pub codes_mean : (text : Source) (called : Name → Bool) (kept : KeptText) (kinds : List Kind) (codes : List CodeView)
    (linked : IsLinked text called kept) → kinds ≡ map (λ l. l.kind) (slots_of_text text)
    → AreCodesOver linked.whole.library kinds kept.programs codes
    → ((n : ℕ) (p : Program) (body : SlotStmts) (code : CodeView)
    → slice_get (programs_of_text text) n ≡ Some p → slice_get linked.whole.programs n ≡ Some body
    → IsCodeOf text linked.whole body 64 code → ReadsAsAsked (slots_of_text text) code p)
    → ((n : ℕ) (p : Program) → slice_get (programs_of_text text) n ≡ Some p → HasCodeRuns text n p)
    → ((n : ℕ) (p : Program) (whole : LinkedText) (body : SlotStmts) (depth : ℕ) (code : CodeView)
    → HasCodeRuns text n p → linked_source text ≡ Some whole → slice_get whole.programs n ≡ Some body
    → IsCodeOf text whole body depth code → Means (slots_of_text text) code p)
    → AreCodesOf text codes
codes_mean text called kept kinds codes linked are over read runs mean = λ n p there.
    let has = runs n p there in
    let same = linked_same has.linked linked.whole (linked_source text) has.is linked.linked in
    let in_whole : slice_get linked.whole.programs n ≡ Some has.body =
    subst (λ (l : LinkedText). slice_get l.programs n ≡ Some has.body) same has.there in
    let found = code_at linked.whole.library kinds kept.programs codes n has.body over
    (ap (λ ps. slice_get ps n) linked.part.programs ∙ in_whole) in
    let made = code_of_text text linked.whole has.body kinds found.code are found.over in
    record {
      code = found.code;
      is = found.is;
      means = mean n p linked.whole has.body 64 found.code has linked.linked in_whole made;
      reads = read n p has.body found.code there in_whole made;
    }

-- the types of slots of a layout
pub kinds_are : (ss : List LayoutSlot) (slots : List Slot) → map slot_view ss ≡ slots
    → map (λ s. s.initial.kind) ss ≡ map (λ l. l.kind) slots
kinds_are ss slots is = seen ss ∙ ap (map (λ l. l.kind)) is
  where
    seen : (xs : List LayoutSlot) → map (λ s. s.initial.kind) xs ≡ map (λ l. l.kind) (map slot_view xs)
    seen [] = refl
    seen (x ∷ xs) = ap (λ ks. x.initial.kind ∷ ks) (seen xs)

pub kinds_shown : (ss : List LayoutSlot)
    → map (λ f. f.initial.kind) (map facts_of ss) ≡ map (λ s. s.initial.kind) ss
kinds_shown [] = refl
kinds_shown (s ∷ ss) = ap (λ ks. s.initial.kind ∷ ks) (kinds_shown ss)

-- if programs are compiled, those in front are, and the last one is
compiled_front : {A : Type 0} (f : A → SlotStmts) (library : KeptLibrary) (size n : ℕ) (xs : List A)
    → AreCompiled library size (map f xs) → AreCompiled library size (map f (take n xs))
compiled_front f library size zero xs h = tt
compiled_front f library size (suc n) [] h = tt
compiled_front f library size (suc n) (x ∷ xs) h = (h.0, compiled_front f library size n xs h.1)

compiled_last : {A : Type 0} (f : A → SlotStmts) (library : KeptLibrary) (size : ℕ) (xs : List A) (x : A)
    → AreCompiled library size (map f (xs ++ x ∷ [])) → ProgramLinked library 0 size (f x) 64
compiled_last f library size [] x h = h.0
compiled_last f library size (y ∷ ys) x h = compiled_last f library size ys x h.1

pub compiled_at : {A : Type 0} (f : A → SlotStmts) (library : KeptLibrary) (size i : ℕ) (xs : List A) (x : A)
    → take (i + 1) xs ≡ take i xs ++ x ∷ [] → AreCompiled library size (map f xs)
    → ProgramLinked library 0 size (f x) 64
compiled_at f library size i xs x more h =
    compiled_last f library size (take i xs) x
    (subst (λ ys. AreCompiled library size (map f ys)) more (compiled_front f library size (i + 1) xs h))
