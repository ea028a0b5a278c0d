use Rattle.std.proofs.Common.{rules, ◌≡◌, ◌≤◌, ap, sym, subst, ◌∙◌, map, true}
use Rattle.std.specs.Prelude.{option_map, option_and_then}
use Rattle.st_types.specs.declared.limits.TheConstants.{MAX_PATHS}
use Rattle.st_types.specs.SourceViews.{source_view}
use Rattle.st_types.specs.UnitViews.{unit_view}
use Rattle.st_meaning.specs.NameTypes.{declared_in}
use Rattle.layout.specs.Instances.{instance_view}
use Rattle.layout.specs.Sizes.{capped_size}
use Rattle.slot_trees.specs.TextLinks.{linked_programs}
use Rattle.slot_trees.specs.LibraryViews.{slot_library_view}
use Rattle.st_link.proofs.ErrorLemmas.{and_none, none_then}
use Rattle.st_link.specs.CalledFunctions.{is_called}
use Rattle.st_link.specs.FirstSlots.{slots_taken}
use Rattle.st_link.specs.Gathered.{gathered}
use Rattle.st_link.specs.KeptTexts.{kept_library, kept_text_with}
use Rattle.st_link.specs.Linked.{IsLayoutBy, programs_of}
use Rattle.st_link.specs.LinkVariables.{are_whole, variable_view}
use Rattle.st_link.specs.Orderly.{configuration_in, globals_in, instances_of, layout_of}
use Rattle.st_link.specs.Tables.{ServesLinks}
use Rattle.st_link.proofs.SourceLinks.{globals_are, globals_room, layout_by, owned_globals, owned_seen, uncut}
use Rattle.st_link.proofs.UnitLinks.{programs_gathered}
use Rattle.st_link.proofs.whole_texts.link_source.Goals as goal

pub returns-in_err-library-clause-none : goal.returns-in_err-library-clause-none
returns-in_err-library-clause-none c =
    let s = source_view c.args.source.now in
    let text = declared_in s in
    let o = configuration_in s in
    let layout = layout_of s in
    let globals : map variable_view c.deref.result.now ≡ globals_in o =
    ap (map variable_view) c.deref.ensures.value ∙ c.in_ok-globals.ensures
    ∙ ap globals_in c.only_configuration-configuration.ensures in
    none_then _ c.in_err-library.field-0.0 _ _ c.in_err-library.ensures.none
    (λ h orderly.
    let whole : are_whole text (map variable_view c.deref.result.now) ≡ true =
    ap (are_whole text) globals ∙ orderly.globals in
    let serves = subst (ServesLinks c.in_ok-tables.tables text) globals (c.in_ok-tables.ensures.serves whole
    (subst (λ vs. slots_taken text vs ≤ MAX_PATHS) (sym globals) (globals_room s orderly))) in
    let units : map (λ u. unit_view u.now) c.deref-2.result.now ≡ text.units =
    ap (map (λ u. unit_view u.now)) c.deref-2.ensures.value ∙ c.in_ok-units.ensures in
    ap (option_and_then (λ library. option_map (kept_text_with library) (linked_programs text layout o)))
    (h text (globals_in o) layout serves (globals_are s orderly) units orderly.units)) (search rules)

pub returns-in_err-programs-clause-none : goal.returns-in_err-programs-clause-none
returns-in_err-programs-clause-none c =
    let s = source_view c.args.source.now in
    let text = declared_in s in
    let o = configuration_in s in
    let layout = layout_of s in
    let globals : map variable_view c.deref.result.now ≡ globals_in o =
    ap (map variable_view) c.deref.ensures.value ∙ c.in_ok-globals.ensures
    ∙ ap globals_in c.only_configuration-configuration.ensures in
    none_then _ c.in_err-programs.field-0.0 _ _ c.in_err-programs.ensures.none
    (λ h orderly.
    let whole : are_whole text (map variable_view c.deref.result.now) ≡ true =
    ap (are_whole text) globals ∙ orderly.globals in
    let serves = subst (ServesLinks c.in_ok-tables.tables text) globals (c.in_ok-tables.ensures.serves whole
    (subst (λ vs. slots_taken text vs ≤ MAX_PATHS) (sym globals) (globals_room s orderly))) in
    let instances : map instance_view c.deref-3.result.now ≡ instances_of o =
    ap (map instance_view) c.deref-3.ensures.value ∙ c.in_ok-instances.ensures
    ∙ ap instances_of c.only_configuration-configuration.ensures in
    let slots = uncut c.in_ok-tables.tables.global_slots (slots_taken text (globals_in o))
    (c.in_ok-tables.ensures.slots whole ∙ ap (λ vs. capped_size (slots_taken text vs)) globals)
    (globals_room s orderly) in
    let owned = owned_globals o in
    let served = subst (ServesLinks c.in_ok-tables.tables text) (sym (owned_seen o)) serves in
    let counted = slots ∙ ap (slots_taken text) (sym (owned_seen o)) in
    let layouts = subst (λ ps. IsLayoutBy text owned ps layout) (sym instances) (layout_by s orderly) in
    let all : linked_programs text layout o
    ≡ gathered (programs_of text layout) (map instance_view c.deref-3.result.now) =
    programs_gathered text layout o ∙ ap (gathered (programs_of text layout)) (sym instances) in
    ap (λ ps. option_and_then (λ library. option_map (kept_text_with library) ps) (kept_library (is_called c.args.called.now) text layout))
    (all ∙ h text owned layout served counted orderly.units layouts)
    ∙ and_none (kept_library (is_called c.args.called.now) text layout)) (search rules)

pub returns-clause-linked : goal.returns-clause-linked
returns-clause-linked c orderly =
    let s = source_view c.args.source.now in
    let text = declared_in s in
    let o = configuration_in s in
    let layout = layout_of s in
    let globals : map variable_view c.deref.result.now ≡ globals_in o =
    ap (map variable_view) c.deref.ensures.value ∙ c.in_ok-globals.ensures
    ∙ ap globals_in c.only_configuration-configuration.ensures in
    let whole : are_whole text (map variable_view c.deref.result.now) ≡ true =
    ap (are_whole text) globals ∙ orderly.globals in
    let serves = subst (ServesLinks c.in_ok-tables.tables text) globals (c.in_ok-tables.ensures.serves whole
    (subst (λ vs. slots_taken text vs ≤ MAX_PATHS) (sym globals) (globals_room s orderly))) in
    let units : map (λ u. unit_view u.now) c.deref-2.result.now ≡ text.units =
    ap (map (λ u. unit_view u.now)) c.deref-2.ensures.value ∙ c.in_ok-units.ensures in
    let instances : map instance_view c.deref-3.result.now ≡ instances_of o =
    ap (map instance_view) c.deref-3.ensures.value ∙ c.in_ok-instances.ensures
    ∙ ap instances_of c.only_configuration-configuration.ensures in
    let slots = uncut c.in_ok-tables.tables.global_slots (slots_taken text (globals_in o))
    (c.in_ok-tables.ensures.slots whole ∙ ap (λ vs. capped_size (slots_taken text vs)) globals)
    (globals_room s orderly) in
    let owned = owned_globals o in
    let served = subst (ServesLinks c.in_ok-tables.tables text) (sym (owned_seen o)) serves in
    let counted = slots ∙ ap (slots_taken text) (sym (owned_seen o)) in
    let layouts = subst (λ ps. IsLayoutBy text owned ps layout) (sym instances) (layout_by s orderly) in
    let all : linked_programs text layout o
    ≡ gathered (programs_of text layout) (map instance_view c.deref-3.result.now) =
    programs_gathered text layout o ∙ ap (gathered (programs_of text layout)) (sym instances) in
    ap (option_and_then (λ library. option_map (kept_text_with library) (linked_programs text layout o)))
    (c.in_ok-library.ensures.linked text (globals_in o) layout serves (globals_are s orderly) units orderly.units)
    ∙ ap (option_map (kept_text_with (slot_library_view c.in_ok-library.library)))
    (all ∙ c.in_ok-programs.ensures.linked text owned layout served counted orderly.units layouts)
