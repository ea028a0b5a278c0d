use Rattle.std.proofs.Common.{rules, ◌≡◌}
use Rattle.std.specs.Prelude.{Some, slice_get}
use Rattle.quick_code.specs.declared.quick_instr.QuickInstr.TheVariants.{Jump}
use Rattle.quick_checks.specs.Checking.{landing_of}
use Rattle.quick_checks.proofs.TreeCodeLemmas.{landing_is}
use Rattle.quick_checks.proofs.programs.check_program.Goals as goal

pub returns : goal.returns
returns c =
    let begins : slice_get c.args.draft.now.code.instrs.items 0 ≡ Some (Jump c.in-Jump.way) =
    cc (c.in_ok-first.ensures, c.in-Jump.is) in
    λ now whole kept. record {
      way = c.in-Jump.way;
      begins = begins;
      end = _;
      last = landing_of c.in_ok-last.last;
      last_is = landing_is c.in_ok-last.last _ c.in_ok-last.ensures.ahead c.in_ok-last.ensures.exact;
      stands = rw (c.in_ok-at.ensures now, c.in_ok-depth.ensures now, c.in_ok-exits.ensures) at
          (c.in_ok-check_stmts.ensures now whole kept);
      joins = c.if-not-joins.ensures (search rules) now;
      ends = c.in_ok-last.ensures.ends;
    }
