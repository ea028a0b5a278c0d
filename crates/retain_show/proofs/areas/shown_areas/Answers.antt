use Rattle.std.proofs.Common.{◌≡◌, ◌∙◌, rules, arith, length}
use Rattle.retain_store.specs.declared.shape.TheConstants.{FILE_BYTES}
use Rattle.retain_store.proofs.Formats.{long_too_long}
use Rattle.retain_show.proofs.AreaLemmas.{both_areas}
use Rattle.retain_show.specs.Shown.{both_shown}
use Rattle.retain_show.proofs.areas.shown_areas.Goals as goal

pub returns-then-file-gt-FILE_BYTES-clause-refused : goal.returns-then-file-gt-FILE_BYTES-clause-refused
returns-then-file-gt-FILE_BYTES-clause-refused c = long_too_long c.args.file.now c.if-file-gt-FILE_BYTES.true

pub returns-in-Ok-write_both-clause-told : goal.returns-in-Ok-write_both-clause-told
returns-in-Ok-write_both-clause-told c =
    let size : length c.args.file.now ≡ FILE_BYTES =
    omega (arith, c.if-file-gt-FILE_BYTES.false, c.if-file-lt-FILE_BYTES.false) in
    let written : c.write_both.new.out.items ≡ both_shown c.in_ok-first.first.items c.in_ok-second.second.items = search rules in
    written ∙ both_areas c.args.file.now size _ _ (search rules) (search rules)
