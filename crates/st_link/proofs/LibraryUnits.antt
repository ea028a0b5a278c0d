-- The addition of a unit of a sort to a library.
use Rattle.std.proofs.Common.{◌≡◌, sym, ap, ◌∙◌, ℕ, ◌<◌, List, [], ◌∷◌, map, length, Bool, true}
use Rattle.std.proofs.Common.{slice_index_or, Option, Some, None}
use Rattle.std.specs.List.{list_all}
use denote.Bor.{Bor}
use Rattle.st_types.specs.declared.data_type.SimpleType.{SimpleType}
use Rattle.st_types.specs.declared.unit.Unit as code_unit
use Rattle.st_types.specs.declared.unit.UnitSort.TheVariants as sorts
use Rattle.st_types.specs.UnitViews.{unit_view}
use Rattle.st_types.specs.Units.{OrganisationUnit}
use Rattle.st_meaning.specs.NameTypes.{Declared}
use Rattle.st_meaning.specs.Scopes.{Name}
use Rattle.layout.specs.LayoutVariables.{Owned}
use Rattle.slot_trees.specs.SlotTrees.{SlotFunction, SlotStmts}
use Rattle.st_link.specs.KeptTexts.{kept_block, kept_function}
use Rattle.st_link.specs.Linked.{alone, blocks_by, blocks_of, functions_by, functions_of}
use Rattle.st_link.specs.LinkVariables.{are_whole, is_whole_unit, result_of, variables_by_sort, variables_of_blocks}
use Rattle.std.proofs.Common.{drop, ◌+◌}
use Rattle.std.proofs.lemmas.List.{take-append-drop, map-append}
use Rattle.std.proofs.Common.{take}
use Rattle.st_link.proofs.FirstSlotLemmas.{all_back}
use Rattle.std.proofs.lemmas.Bool.{and_parts}
use Rattle.st_types.proofs.ListLemmas.{drop_next}

pub function_whole : (text : Declared) (u : OrganisationUnit) (t : SimpleType) → u.sort ≡ sorts.Function t
    → is_whole_unit text u ≡ true
    → are_whole text (result_of u.name.name t ∷ variables_of_blocks u.blocks) ≡ true
function_whole text u t sort h = ap (λ s. are_whole text (variables_by_sort s u)) (sym sort) ∙ h

pub block_whole : (text : Declared) (u : OrganisationUnit) → u.sort ≡ sorts.FunctionBlock
    → is_whole_unit text u ≡ true → are_whole text (variables_of_blocks u.blocks) ≡ true
block_whole text u sort h = ap (λ s. are_whole text (variables_by_sort s u)) (sym sort) ∙ h

pub function_given : (called : Name → Bool) (text : Declared) (u : OrganisationUnit) (t : SimpleType)
    (f : Option SlotFunction) → u.sort ≡ sorts.Function t → kept_function called text t u ≡ Some f
    → functions_of called text u ≡ Some (f ∷ [])
function_given called text u t f sort h = ap (λ s. functions_by called text s u) sort ∙ ap alone h

pub function_missing : (called : Name → Bool) (text : Declared) (u : OrganisationUnit) (t : SimpleType)
    → u.sort ≡ sorts.Function t → kept_function called text t u ≡ None → functions_of called text u ≡ None
function_missing called text u t sort h = ap (λ s. functions_by called text s u) sort ∙ ap alone h

pub block_given : (text : Declared) (vs : List Owned) (u : OrganisationUnit) (b : Option SlotStmts)
    → u.sort ≡ sorts.FunctionBlock → kept_block text vs u ≡ Some b → blocks_of text vs u ≡ Some (b ∷ [])
block_given text vs u b sort h = ap (λ s. blocks_by text vs s u) sort ∙ ap alone h

pub block_missing : (text : Declared) (vs : List Owned) (u : OrganisationUnit) → u.sort ≡ sorts.FunctionBlock
    → kept_block text vs u ≡ None → blocks_of text vs u ≡ None
block_missing text vs u sort h = ap (λ s. blocks_by text vs s u) sort ∙ ap alone h

-- one of the units that pass
pub unit_passes : (p : OrganisationUnit → Bool) (us : List (Bor code_unit.Unit)) (i : ℕ) (u : Bor code_unit.Unit)
    → i < length us → u ≡ slice_index_or us i u → list_all p (map (λ v. unit_view v.now) us) ≡ true
    → p (unit_view u.now) ≡ true
unit_passes p us i u below at h =
    let rest = map (λ (v : Bor code_unit.Unit). unit_view v.now) (drop (i + 1) us) in
    (and_parts (p (unit_view u.now)) (list_all p rest)
    (ap (λ vs. list_all p (map (λ v. unit_view v.now) vs)) (sym (drop_next us i u below at))
    ∙ all_back p (map (λ v. unit_view v.now) (take i us)) (map (λ v. unit_view v.now) (drop i us))
    (ap (list_all p) (sym (map-append (λ v. unit_view v.now) (take i us) (drop i us))
    ∙ ap (map (λ v. unit_view v.now)) (take-append-drop i us)) ∙ h))).0
