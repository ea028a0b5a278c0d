use Rattle.std.proofs.Common.{rules, ◌≡◌, [], ◌∷◌, ◌++◌, length, map, take, ap, sym, subst, ◌∙◌, Err}
use Rattle.std.specs.Prelude.{IfErr}
use Rattle.std.proofs.lemmas.List.{map-append}
use Rattle.slot_trees.specs.SlotTrees.{SlotLibrary}
use Rattle.slot_trees.specs.LibraryViews.{IsKeptOf, slot_library_view}
use Rattle.slot_trees.specs.StatementViews.{slot_stmts_view}
use Rattle.st_compile.specs.declared.compile_error.CompileError.TheVariants.{NotLinked, TooManyInstructions}
use Rattle.st_compile.specs.declared.compile_error.CompileError.TheVariants.{TooManyPlaces}
use Rattle.st_compile.specs.Linked.{ProgramLinked}
use Rattle.config.specs.Compiled.{AreCompiled}
use Rattle.st_link.proofs.SymbolLemmas.{more_taken}
use Rattle.slot_code.specs.Codes.{code_view}
use Rattle.config.specs.Codes.{AreCodesOver, IsCodeOver}
use Rattle.config.specs.Rooms.{HasOne, IsCrowded, HasTooManyInstructions}
use Rattle.config.proofs.CodeLemmas.{compiled_at, one_more}
use Rattle.config.proofs.RoomLemmas.{at_hand}
use Rattle.config.proofs.codes.codes_of_programs.Goals as goal

pub loop-body-preserved : goal.loop-body-preserved
loop-body-preserved c =
    let kinds = c.args.kinds.now.value.items in
    let xs = c.args.programs.now in
    let i = c.loop-body.body-index in
    let x = c.body-item.result in
    let codes = c.loop-body.codes.items in
    let code = c.in_ok-code.code in
    λ whole kept.
    subst (λ bs. AreCodesOver whole kinds bs (map code_view c.push.new.self.items))
    (sym (ap (map (λ b. slot_stmts_view b.items)) (more_taken xs i x c.loop-body-test.true c.body-item.is)
    ∙ map-append (λ b. slot_stmts_view b.items) (take i xs) (x ∷ [])))
    (subst (λ cs. AreCodesOver whole kinds
    (map (λ b. slot_stmts_view b.items) (take i xs) ++ slot_stmts_view x.items ∷ [])
    cs) (sym (ap (map code_view) c.in_ok-push.ensures.items ∙ map-append code_view codes (code ∷ [])))
    (one_more whole kinds (map (λ b. slot_stmts_view b.items) (take i xs)) (map code_view codes)
    (slot_stmts_view x.items) (code_view code) (c.loop-body.invariant whole kept)
    (subst (λ b. IsCodeOver whole kinds (slot_stmts_view b) (code_view code)) c.deref.ensures.value
    (c.in_ok-code.ensures.code whole kept))))

pub returns-in_err-code-clause-there : goal.returns-in_err-code-clause-there
returns-in_err-code-clause-there c =
    let xs = c.args.programs.now in
    let i = c.loop-body.body-index in
    let x = c.body-item.result in
    let library = slot_library_view c.args.library.now in
    let size = length c.args.kinds.now.value.items in
    let same : c.from_residual.result ≡ Err c.in_err-code.field-0.0 = search rules in
    subst (λ r. IfErr r (λ e. e ≡ NotLinked
    → ¬ (AreCompiled library size (map (λ b. slot_stmts_view b.items) c.args.programs.now)))) (sym same)
    (λ wrong compiled. c.in_err-code.ensures.there wrong
    (subst (λ b. ProgramLinked library 0 size (slot_stmts_view b) 64) (sym c.deref.ensures.value)
    (compiled_at (λ b. slot_stmts_view b.items) library size i xs x
    (more_taken xs i x c.loop-body-test.true c.body-item.is) compiled)))

pub returns-in_err-code-clause-long : goal.returns-in_err-code-clause-long
returns-in_err-code-clause-long c =
    let x = c.body-item.result in
    let library = slot_library_view c.args.library.now in
    let size = length c.args.kinds.now.value.items in
    let same : c.from_residual.result ≡ Err c.in_err-code.field-0.0 = search rules in
    subst (λ r. IfErr r (λ e. e ≡ TooManyInstructions → (whole : SlotLibrary) → IsKeptOf library whole
    → HasOne (HasTooManyInstructions whole size) (map (λ b. slot_stmts_view b.items) c.args.programs.now))) (sym same)
    (λ long whole kept. record {
      body = slot_stmts_view x.items;
      among = at_hand (λ b. slot_stmts_view b.items) c.args.programs.now c.loop-body.body-index x
          (more_taken c.args.programs.now c.loop-body.body-index x c.loop-body-test.true c.body-item.is);
      holds = subst (λ b. HasTooManyInstructions whole size (slot_stmts_view b)) c.deref.ensures.value
          (c.in_err-code.ensures.long long whole kept);
    })

pub returns-in_err-code-clause-crowded : goal.returns-in_err-code-clause-crowded
returns-in_err-code-clause-crowded c =
    let x = c.body-item.result in
    let library = slot_library_view c.args.library.now in
    let size = length c.args.kinds.now.value.items in
    let same : c.from_residual.result ≡ Err c.in_err-code.field-0.0 = search rules in
    subst (λ r. IfErr r (λ e. e ≡ TooManyPlaces
    → HasOne (IsCrowded library size) (map (λ b. slot_stmts_view b.items) c.args.programs.now))) (sym same)
    (λ crowded. record {
      body = slot_stmts_view x.items;
      among = at_hand (λ b. slot_stmts_view b.items) c.args.programs.now c.loop-body.body-index x
          (more_taken c.args.programs.now c.loop-body.body-index x c.loop-body-test.true c.body-item.is);
      holds = subst (λ b. IsCrowded library size (slot_stmts_view b)) c.deref.ensures.value
          (c.in_err-code.ensures.crowded crowded);
    })
