use Rattle.std.proofs.Common.{rules, ◌≡◌, length, map, ap, sym, subst, ◌∙◌, Err, false}
use Rattle.std.proofs.lemmas.List.{length-map}
use Rattle.std.proofs.lemmas.Result.{IfErr-weaker}
use Rattle.std.specs.Prelude.{IfErr}
use Rattle.st_types.specs.Sources.{Source}
use Rattle.st_types.specs.SourceViews.{source_view}
use Rattle.st_meaning.specs.ResolvedUnits.{resolved_source}
use Rattle.layout.specs.TextLayouts.{slots_of_text}
use Rattle.layout.specs.Indexed.{facts_of}
use Rattle.layout.specs.KeptLayouts.{IsLayoutOf}
use Rattle.st_compile.specs.declared.compile_error.CompileError.TheVariants.{NotLinked, TooManyInstructions}
use Rattle.st_compile.specs.declared.compile_error.CompileError.TheVariants.{TooManyPlaces}
use Rattle.st_link.specs.Accepted.{IsAccepted}
use Rattle.st_link.specs.CalledFunctions.{is_called, program_count, value_count}
use Rattle.config.specs.Compiled.{AreCompiled}
use Rattle.config.specs.Spelled.{IsSpelled}
use Rattle.slot_trees.specs.StatementViews.{slot_stmts_view}
use Rattle.st_link.specs.Linked.{linked_text_view}
use Rattle.st_link.specs.Orderly.{IsOrderlySource}
use Rattle.slot_code.specs.Codes.{code_view}
use Rattle.config.specs.Codes.{AreCodesOver}
use Rattle.config.specs.Rooms.{HasOne, IsCrowded, HasTooManyInstructions, LacksRoom}
use Rattle.config.proofs.ManyValues.{many_values_are_long}
use Rattle.config.proofs.RoomLemmas.{are_called, has_many_values}
use Rattle.config.proofs.CodeLemmas.{codes_mean, kinds_are, kinds_shown}
use Rattle.config.proofs.CountLemmas.{codes_counted, linked_counted}
use Rattle.config.proofs.codes.codes_of_text.Goals as goal
use Rattle.st_types.proofs.OptionLemmas.{ok_weaker}

pub returns-clause-codes : goal.returns-clause-codes
returns-clause-codes c =
    let linked = linked_text_view c.in_ok-linked.linked in
    let kinds = c.in_ok-kinds.kinds.value.items in
    let slots = c.args.layout.now.slots in
    let shown : kinds ≡ map (λ f. f.initial.kind) (map facts_of slots) = search rules in
    let told = shown ∙ kinds_shown slots in
    ok_weaker c.codes_of_programs.result _ _
    (λ codes over text is accepted layout.
    let link = c.in_ok-linked.ensures.linked text is accepted layout.room in
    codes_mean text (is_called c.in_ok-called.called) linked kinds (map code_view codes.items) link
    (told ∙ kinds_are slots _ layout.slots)
    (subst (λ ps. AreCodesOver link.whole.library kinds (map (λ b. slot_stmts_view b.items) ps)
    (map code_view codes.items))
    c.deref.ensures.value (over link.whole.library link.part.library))
    (λ n p body code there in_whole made. record {
      looked_up = λ k l at nobody. c.codes_of_accepted_texts_look_globals_up.ensures text link.whole n p body 64 code k l
          accepted link.linked there in_whole made at nobody;
      fails = c.code_of_texts_fails_as_their_programs.ensures text n p link.whole body 64 code
          (c.programs_of_accepted_texts_run_by_slots.ensures text accepted.configuration n p accepted.well_typed
          accepted.functions accepted.only accepted.known there) link.linked in_whole made;
    })
    (λ n p there. c.code_of_accepted_texts_does_what_their_programs_do.ensures text accepted.configuration n p
    accepted.well_typed accepted.functions accepted.only accepted.known there)
    (c.code_of_texts_means_their_programs.ensures text))
    c.codes_of_programs.ensures.codes

pub returns-in_err-linked-clause-linked : goal.returns-in_err-linked-clause-linked
returns-in_err-linked-clause-linked c =
    let same : c.from_residual-in_err-linked.result ≡ Err c.in_err-linked.field-0.0 = search rules in
    subst (λ r. IfErr r (λ e. (text : Source) → source_view c.args.source.now ≡ resolved_source text
    → IsAccepted text → IsSpelled text → IsLayoutOf text c.args.layout.now.slots → e ≡ NotLinked → ⊥)) (sym same)
    (λ text seen accepted spelled layout. c.in_err-linked.ensures.there text seen accepted layout.room)

pub returns-clause-linked : goal.returns-clause-linked
returns-clause-linked c =
    let linked = linked_text_view c.in_ok-linked.linked in
    let kinds = c.in_ok-kinds.kinds.value.items in
    let slots = c.args.layout.now.slots in
    let shown : kinds ≡ map (λ f. f.initial.kind) (map facts_of slots) = search rules in
    let told = shown ∙ kinds_shown slots in
    IfErr-weaker c.codes_of_programs.result _ (λ e. (text : Source)
    → source_view c.args.source.now ≡ resolved_source text
    → IsAccepted text → IsSpelled text → IsLayoutOf text c.args.layout.now.slots → e ≡ NotLinked → ⊥)
    (λ e wrong text seen accepted spelled layout not_linked.
    let link = c.in_ok-linked.ensures.linked text seen accepted layout.room in
    let long : length kinds ≡ length (slots_of_text text) =
    ap length (told ∙ kinds_are slots _ layout.slots) ∙ length-map _ _ in
    wrong not_linked
    (subst (λ ps. AreCompiled linked.library (length kinds) (map (λ b. slot_stmts_view b.items) ps))
    (sym c.deref.ensures.value)
    (subst (λ n. AreCompiled linked.library n linked.programs) (sym long)
    (c.accepted_texts_are_compiled.ensures text (is_called c.in_ok-called.called) linked accepted spelled layout.room link))))
    c.codes_of_programs.ensures.there

pub returns-clause-count : goal.returns-clause-count
returns-clause-count c =
    let kinds = c.in_ok-kinds.kinds.value.items in
    ok_weaker c.codes_of_programs.result _ _
    (λ codes over text seen accepted layout.
    let link = c.in_ok-linked.ensures.linked text seen accepted layout.room in
    let programs = map (λ b. slot_stmts_view b.items) c.deref.result.now in
    let kept : programs ≡ link.whole.programs =
    ap (map (λ b. slot_stmts_view b.items)) c.deref.ensures.value ∙ link.part.programs in
    sym (length-map codes.items code_view)
    ∙ codes_counted link.whole.library kinds programs (map code_view codes.items)
    (over link.whole.library link.part.library)
    ∙ ap length kept ∙ linked_counted text link.whole link.linked)
    c.codes_of_programs.ensures.codes

pub returns-clause-instructions : goal.returns-clause-instructions
returns-clause-instructions c =
    let linked = linked_text_view c.in_ok-linked.linked in
    let kinds = c.in_ok-kinds.kinds.value.items in
    let slots = c.args.layout.now.slots in
    let shown : kinds ≡ map (λ f. f.initial.kind) (map facts_of slots) = search rules in
    let told = shown ∙ kinds_shown slots in
    IfErr-weaker c.codes_of_programs.result _ (λ e. (text : Source)
    → source_view c.args.source.now ≡ resolved_source text → IsAccepted text
    → IsLayoutOf text c.args.layout.now.slots → e ≡ TooManyInstructions → LacksRoom text e)
    (λ e no_room text seen accepted layout is.
    let link = c.in_ok-linked.ensures.linked text seen accepted layout.room in
    let long : length kinds ≡ length (slots_of_text text) =
    ap length (told ∙ kinds_are slots _ layout.slots) ∙ length-map _ _ in
    let kept = ap (map (λ b. slot_stmts_view b.items)) c.deref.ensures.value ∙ link.part.programs in
    subst (LacksRoom text) (sym is) (record {
      linked = link.whole;
      is = link.linked;
      long = subst (λ n. HasOne (HasTooManyInstructions link.whole.library n) link.whole.programs) long
          (subst (HasOne (HasTooManyInstructions link.whole.library (length kinds))) kept
          (no_room is link.whole.library link.part.library));
    }))
    c.codes_of_programs.ensures.long

pub returns-clause-places : goal.returns-clause-places
returns-clause-places c =
    let linked = linked_text_view c.in_ok-linked.linked in
    let kinds = c.in_ok-kinds.kinds.value.items in
    let slots = c.args.layout.now.slots in
    let shown : kinds ≡ map (λ f. f.initial.kind) (map facts_of slots) = search rules in
    let told = shown ∙ kinds_shown slots in
    IfErr-weaker c.codes_of_programs.result _ (λ e. (text : Source)
    → source_view c.args.source.now ≡ resolved_source text → IsAccepted text
    → IsLayoutOf text c.args.layout.now.slots → e ≡ TooManyPlaces → LacksRoom text e)
    (λ e no_room text seen accepted layout is.
    let link = c.in_ok-linked.ensures.linked text seen accepted layout.room in
    let long : length kinds ≡ length (slots_of_text text) =
    ap length (told ∙ kinds_are slots _ layout.slots) ∙ length-map _ _ in
    subst (LacksRoom text) (sym is) (record {
      called = is_called c.in_ok-called.called;
      are_called = are_called text (source_view c.args.source.now) (is_called c.in_ok-called.called) seen
          c.in_ok-called.ensures.only c.in_ok-called.ensures.each;
      kept = linked;
      linked = link;
      crowded = subst (λ n. HasOne (IsCrowded linked.library n) linked.programs) long
          (subst (λ ps. HasOne (IsCrowded linked.library (length kinds)) (map (λ b. slot_stmts_view b.items) ps))
          c.deref.ensures.value (no_room is));
    }))
    c.codes_of_programs.ensures.crowded

pub returns-in_err-linked-clause-instructions : goal.returns-in_err-linked-clause-instructions
returns-in_err-linked-clause-instructions c =
    let same : c.from_residual-in_err-linked.result ≡ Err c.in_err-linked.field-0.0 = search rules in
    subst (λ r. IfErr r (λ e. (text : Source) → source_view c.args.source.now ≡ resolved_source text
    → IsAccepted text → IsLayoutOf text c.args.layout.now.slots → e ≡ TooManyInstructions → LacksRoom text e))
    (sym same)
    (λ text seen accepted layout is. absurd (c.in_err-linked.ensures.instructions is))

pub returns-in_err-linked-clause-places : goal.returns-in_err-linked-clause-places
returns-in_err-linked-clause-places c =
    let same : c.from_residual-in_err-linked.result ≡ Err c.in_err-linked.field-0.0 = search rules in
    subst (λ r. IfErr r (λ e. (text : Source) → source_view c.args.source.now ≡ resolved_source text
    → IsAccepted text → IsLayoutOf text c.args.layout.now.slots → e ≡ TooManyPlaces → LacksRoom text e))
    (sym same)
    (λ text seen accepted layout is. absurd (c.in_err-linked.ensures.places is))

pub returns-then-not-may_have_room-clause-instructions : goal.returns-then-not-may_have_room-clause-instructions
returns-then-not-may_have_room-clause-instructions c text seen accepted layout is =
    let called = c.in_ok-called.called in
    let tree = source_view c.args.source.now in
    let none : c.may_have_room.result ≡ false = search rules in
    let orderly : IsOrderlySource tree =
    subst IsOrderlySource (sym seen) (c.accepted_texts_are_orderly.ensures text accepted layout.room) in
    many_values_are_long text accepted
    (has_many_values text tree (is_called called) (program_count called) (value_count called) seen
    (are_called text tree (is_called called) seen c.in_ok-called.ensures.only c.in_ok-called.ensures.each)
    (c.in_ok-called.ensures.values orderly) c.in_ok-called.ensures.programs (c.may_have_room.ensures none))
