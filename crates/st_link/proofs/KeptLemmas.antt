-- The linked text that is kept is the text's linked form, except for the units that are left out.
use Rattle.std.proofs.Common.{◌≡◌, refl, ap, subst, ◌∙◌, ℕ, zero, suc, List, [], ◌∷◌, Bool, true, false, Option}
use Rattle.std.proofs.Common.{Some, None}
use Rattle.std.specs.Prelude.{option_map, option_and_then, slice_get}
use Rattle.st_types.specs.declared.unit.UnitSort.{UnitSort}
use Rattle.st_types.specs.declared.unit.UnitSort.TheVariants as units
use Rattle.st_types.specs.Configurations.{Configuration}
use Rattle.st_types.specs.Units.{OrganisationUnit}
use Rattle.st_meaning.specs.NameTypes.{Declared}
use Rattle.st_meaning.specs.Scopes.{Name}
use Rattle.layout.specs.LayoutVariables.{Owned}
use Rattle.slot_trees.specs.SlotTrees.{SlotFunction, SlotStmts}
use Rattle.slot_trees.specs.TextLinks.{LinkedText, library_with, linked_block, linked_block_then, linked_blocks}
use Rattle.slot_trees.specs.TextLinks.{linked_function, linked_function_then, linked_functions, linked_library}
use Rattle.slot_trees.specs.TextLinks.{linked_programs, linked_text, linked_then, text_with}
use Rattle.slot_trees.specs.LibraryViews.{IsKeptOf}
use Rattle.st_link.specs.KeptTexts.{IsKeptLink, KeptText, block_fits, is_linked, kept_block_then, kept_blocks}
use Rattle.st_link.specs.KeptTexts.{kept_function_then, kept_functions, kept_if, kept_library, kept_library_with}
use Rattle.st_link.specs.KeptTexts.{kept_text, kept_text_with}
use Rattle.st_types.proofs.OptionLemmas.{map_some, then_some}
use Rattle.std.proofs.lemmas.Option.{same_Some}

-- the kept elements of a list keep their places
pub record HasKept (A : Type 0) (whole : List A) (r : Option (List (Option A))) : Type 0 where
  pub kept : List (Option A)
  pub is : r ≡ Some kept
  pub at : (i : ℕ) (a : A) → slice_get kept i ≡ Some (Some a) → slice_get whole i ≡ Some a

one_kept : {A : Type 0} (x : A) (o : Option A) (xs : List A) (ys : List (Option A))
    → ((a : A) → o ≡ Some a → x ≡ a)
    → ((i : ℕ) (a : A) → slice_get ys i ≡ Some (Some a) → slice_get xs i ≡ Some a)
    → (i : ℕ) (a : A) → slice_get (o ∷ ys) i ≡ Some (Some a) → slice_get (x ∷ xs) i ≡ Some a
one_kept x o xs ys here later zero a h = ap Some (here a (same_Some o (Some a) h))
one_kept x o xs ys here later (suc i) a h = later i a h

then_kept : {A : Type 0} (b : Bool) (o : Option A) (rest : Option (List A)) (kept_rest : Option (List (Option A)))
    (whole : List A) → linked_then o rest ≡ Some whole
    → ((xs : List A) → rest ≡ Some xs → HasKept A xs kept_rest)
    → HasKept A whole (linked_then (kept_if b o) kept_rest)
then_kept {A} b o rest kept_rest whole h ih =
    let first = then_some (λ y. option_map (λ ys. y ∷ ys) rest) o whole h in
    let others = map_some (λ ys. first.0 ∷ ys) rest whole first.2 in
    let k = ih others.0 others.1 in
    by_test b first.0 first.1 others.0 others.2 k
  where
    by_test : (c : Bool) (x : A) → o ≡ Some x → (xs : List A) → x ∷ xs ≡ whole → HasKept A xs kept_rest
        → HasKept A whole (linked_then (kept_if c o) kept_rest)
    by_test true x is xs all k = record {
      kept = Some x ∷ k.kept;
      is = ap (λ p. linked_then (kept_if true p) kept_rest) is ∙ ap (option_map (λ ys. Some x ∷ ys)) k.is;
      at = λ i a g. subst (λ ws. slice_get ws i ≡ Some a) all
          (one_kept x (Some x) xs k.kept (λ c e. same_Some x c e) k.at i a g);
    }
    by_test false x is xs all k = record {
      kept = None ∷ k.kept;
      is = ap (option_map (λ ys. None ∷ ys)) k.is;
      at = λ i a g. subst (λ ws. slice_get ws i ≡ Some a) all
          (one_kept x None xs k.kept (λ c e. absurd (cc)) k.at i a g);
    }

pub functions_kept : (called : Name → Bool) (text : Declared) (us : List OrganisationUnit) (fs : List SlotFunction)
    → linked_functions text us ≡ Some fs → HasKept SlotFunction fs (kept_functions called text us)
functions_kept called text [] fs h = record {
  kept = [];
  is = refl;
  at = λ i a g. absurd (cc);
}
functions_kept called text (u ∷ us) fs h = by_sort u.sort fs h (λ gs. functions_kept called text us gs)
  where
    by_sort : (s : UnitSort) (fs : List SlotFunction)
        → linked_function_then text s u (linked_functions text us) ≡ Some fs
        → ((gs : List SlotFunction) → linked_functions text us ≡ Some gs
        → HasKept SlotFunction gs (kept_functions called text us))
        → HasKept SlotFunction fs (kept_function_then called text s u (kept_functions called text us))
    by_sort (units.Function t) fs h ih =
        then_kept (is_linked called text t u) (linked_function text t u) (linked_functions text us)
        (kept_functions called text us) fs h ih
    by_sort units.FunctionBlock fs h ih = ih fs h
    by_sort units.Program fs h ih = ih fs h

pub blocks_kept : (text : Declared) (vs : List Owned) (us : List OrganisationUnit) (bs : List SlotStmts)
    → linked_blocks text vs us ≡ Some bs → HasKept SlotStmts bs (kept_blocks text vs us)
blocks_kept text vs [] bs h = record {
  kept = [];
  is = refl;
  at = λ i a g. absurd (cc);
}
blocks_kept text vs (u ∷ us) bs h = by_sort u.sort bs h (λ gs. blocks_kept text vs us gs)
  where
    by_sort : (s : UnitSort) (bs : List SlotStmts)
        → linked_block_then text vs s u (linked_blocks text vs us) ≡ Some bs
        → ((gs : List SlotStmts) → linked_blocks text vs us ≡ Some gs
        → HasKept SlotStmts gs (kept_blocks text vs us))
        → HasKept SlotStmts bs (kept_block_then text vs s u (kept_blocks text vs us))
    by_sort units.FunctionBlock bs h ih =
        then_kept (block_fits text u) (linked_block text vs u) (linked_blocks text vs us) (kept_blocks text vs us) bs
        h ih
    by_sort (units.Function t) bs h ih = ih bs h
    by_sort units.Program bs h ih = ih bs h

-- of a whole text
pub record HasKeptText (whole : LinkedText) (r : Option KeptText) : Type 0 where
  pub kept : KeptText
  pub is : r ≡ Some kept
  pub link : IsKeptLink kept whole

pub text_kept : (called : Name → Bool) (text : Declared) (vs : List Owned) (c : Option Configuration)
    (whole : LinkedText) → linked_text text vs c ≡ Some whole → HasKeptText whole (kept_text called text vs c)
text_kept called text vs c whole h =
    let l = then_some (λ library. option_map (text_with library) (linked_programs text vs c))
    (linked_library text vs) whole h in
    let p = map_some (text_with l.0) (linked_programs text vs c) whole l.2 in
    let f = then_some (λ functions. option_map (library_with functions) (linked_blocks text vs text.units))
    (linked_functions text text.units) l.0 l.1 in
    let b = map_some (library_with f.0) (linked_blocks text vs text.units) l.0 f.2 in
    let fk = functions_kept called text text.units f.0 f.1 in
    let bk = blocks_kept text vs text.units b.0 b.1 in
    let library : kept_library called text vs ≡ Some (kept_library_with fk.kept bk.kept) =
    ap (option_and_then (λ functions. option_map (kept_library_with functions) (kept_blocks text vs text.units))) fk.is
    ∙ ap (option_map (kept_library_with fk.kept)) bk.is in
    let part : IsKeptOf (kept_library_with fk.kept bk.kept) (library_with f.0 b.0) =
    record { functions = fk.at; blocks = bk.at } in
    record {
      kept = kept_text_with (kept_library_with fk.kept bk.kept) p.0;
      is = ap (option_and_then (λ lib. option_map (kept_text_with lib) (linked_programs text vs c))) library
          ∙ ap (option_map (kept_text_with (kept_library_with fk.kept bk.kept))) p.1;
      link = record {
        library = subst (λ w. IsKeptOf (kept_library_with fk.kept bk.kept) w.library) p.2
            (subst (IsKeptOf (kept_library_with fk.kept bk.kept)) b.2 part);
        programs = ap (λ w. w.programs) p.2;
      };
    }
