use Rattle.std.proofs.Common.{rules, ◌≡◌, ◌+◌, ◌-◌, length, sym, ap, subst, ◌∙◌, arith}
use Rattle.slot_trees.specs.StatementViews.{slot_stmts_view}
use Rattle.machine_code.specs.Programs.{program_code, ProgramFits}
use Rattle.config.proofs.codes.code_of.Goals as goal

pub returns-clause-code : goal.returns-clause-code
returns-clause-code c =
    let kinds = c.args.kinds.now.value.items in
    let body = slot_stmts_view c.args.body.now in
    let size : c.len-size.result ≡ length kinds = search rules in
    let code_is = c.in_ok-new.ensures.code in
    let same : c.in_ok-clone.field-0.value.items ≡ kinds = search rules in
    let memory = c.in_ok-compiled.compiled.memory in
    let whole_memory : memory ≡ length kinds + (memory - c.len-size.result) =
    omega (arith, size, c.in_ok-compiled.ensures.sizes.room) in
    λ whole kept. record {
      instrs = ap (λ v. v.instrs) code_is ∙ c.in_ok-compiled.ensures.code whole kept
          ∙ ap (λ n. program_code whole 0 n body 64) size;
      kinds = ap (λ v. v.kinds) code_is ∙ same;
      fits = subst (λ n. ProgramFits (length kinds + n) whole 0 (length kinds) body 64) (sym (ap (λ v. v.extra) code_is))
          (subst (λ n. ProgramFits n whole 0 (length kinds) body 64) whole_memory
          (subst (λ n. ProgramFits memory whole 0 n body 64) size (c.in_ok-compiled.ensures.fits whole kept)));
    }

pub quick_of-requires-clause-fits : goal.quick_of-requires-clause-fits
quick_of-requires-clause-fits c =
    let size : c.len-size.result ≡ length c.deref-3.result.now = search rules in
    λ whole kept. subst (λ n. ProgramFits c.in_ok-compiled.compiled.memory whole 0 n (slot_stmts_view c.args.body.now)
    64) size (c.in_ok-compiled.ensures.fits whole kept)
