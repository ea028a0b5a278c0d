use Rattle.std.proofs.Common.{◌≡◌, ◌<◌, rules, ◌∙◌, ap, length, arith, sym, subst, Err}
use Rattle.std.specs.Prelude.{IfErr}
use Rattle.machine_code.specs.declared.limits.TheConstants.{MAX_INSTRUCTIONS}
use Rattle.slot_trees.specs.LibraryViews.{IsKeptOf, slot_library_view}
use Rattle.slot_trees.specs.SlotTrees.{SlotLibrary}
use Rattle.slot_trees.specs.StatementViews.{slot_stmts_view}
use Rattle.machine_code.specs.Programs.{program_code, ProgramFits}
use Rattle.st_compile.specs.Emitting.{filled}
use Rattle.st_compile.specs.declared.compile_error.CompileError.TheVariants.{TooManyInstructions}
use Rattle.st_compile.proofs.Kept.{kept_code, kept_fits}
use Rattle.st_compile.proofs.Lengths.{program_long}
use Rattle.st_compile.proofs.compiler.compile_within.Goals as goal

pub returns-clause-code : goal.returns-clause-code
unfolding program_code
returns-clause-code c =
    let kept = slot_library_view c.args.library.now in
    let body = slot_stmts_view c.args.body.now in
    let code : c.into_instructions.result.items ≡ program_code (filled kept) c.args.base c.args.size body 64
    = search rules in
    let own : ProgramFits c.args.memory (filled kept) c.args.base c.args.size body 64 = search rules in
    λ whole is. code ∙ kept_code c.args.memory kept whole is c.args.base c.args.size body 64 own

pub returns-clause-fits : goal.returns-clause-fits
returns-clause-fits c =
    let kept = slot_library_view c.args.library.now in
    let body = slot_stmts_view c.args.body.now in
    let own : ProgramFits c.args.memory (filled kept) c.args.base c.args.size body 64 = search rules in
    λ whole is. kept_fits c.args.memory kept whole is c.args.base c.args.size body 64 own

pub returns-in_err-put_statements-clause-long : goal.returns-in_err-put_statements-clause-long
returns-in_err-put_statements-clause-long c =
    let kept = slot_library_view c.args.library.now in
    let body = slot_stmts_view c.args.body.now in
    let same : c.from_residual.result ≡ Err c.in_err-put_statements.field-0.0 = search rules in
    subst (λ r. IfErr r (λ e. e ≡ TooManyInstructions → (whole : SlotLibrary) → IsKeptOf kept whole
    → MAX_INSTRUCTIONS < length (program_code whole c.args.base c.args.size body 64))) (sym same)
    (λ told whole is.
    let full = c.in_err-put_statements.ensures.full told in
    let least = program_long kept whole is c.args.base c.args.size body 64 in
    let empty = ap length c.new-code.ensures in
    omega (arith, full, least, empty))
