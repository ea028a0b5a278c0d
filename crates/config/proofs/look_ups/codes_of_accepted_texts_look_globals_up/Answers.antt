use Rattle.std.proofs.Common.{◌≡◌, subst, sym, Option, Some, slice_get}
use Rattle.layout.specs.TextLayouts.{slots_of_text}
use Rattle.slot_trees.specs.LinkedPrograms.{IsLinkOf}
use Rattle.slot_trees.specs.LinkedTexts.{IsProgramLink}
use Rattle.slot_trees.specs.SlotTrees.{SlotStmts}
use Rattle.slot_trees.specs.TextLinks.{LinkedText, linked_source}
use Rattle.machine_code.specs.Asking.{IsOnlyLookedUp}
use Rattle.config.proofs.OwnNames.{texts_keep_own}
use Rattle.config.proofs.UnitCodes.{looked_up}
use Rattle.config.proofs.look_ups.codes_of_accepted_texts_look_globals_up.Goals as goal
use Rattle.config.proofs.CodeLemmas.{linked_same}

same_body : (a b : SlotStmts) (o : Option SlotStmts) → o ≡ Some a → o ≡ Some b → a ≡ b
same_body a b o x y = cc

pub returns : goal.returns
returns c = λ source linked n p body depth code k l accepted is there here made at nobody.
    let has = c.texts_that_break_no_rule_are_linked.ensures source accepted.configuration accepted.well_typed
    accepted.functions accepted.only accepted.known in
    let link : IsLinkOf source linked =
    subst (λ x. IsLinkOf source x) (linked_same has.linked linked (linked_source source) has.link.is is) has.link in
    let program = c.linked_texts_have_their_programs.ensures source linked link n p there in
    let same = same_body program.body body (slice_get linked.programs n) program.there here in
    let keep = texts_keep_own source accepted.configuration accepted.well_typed accepted.only n p there in
    subst (λ instrs. IsOnlyLookedUp instrs k) (sym made.instrs)
    (looked_up (slots_of_text source) p linked.library body depth k l
    (subst (λ b. IsProgramLink (slots_of_text source) p 0 linked.library b) same program.link) keep.body keep.blocks at
    nobody)
