use Rattle.std.proofs.Common.{◌∙◌, ap, sym, append-nil, [], ◌≡◌, true, false}
use Rattle.trace.specs.Texts.{end_line}
use Rattle.trace.proofs.ReadLemmas.{none_some}
use Rattle.trace.proofs.entries.is_end.Goals as goal

pub returns-in-None-clause-end : goal.returns-in-None-clause-end
returns-in-None-clause-end c = (
  λ bad. let no : false ≡ true = bad in absurd (cc),
  λ e. none_some [] (c.in-None.ensures.1 [] (e ∙ ap end_line (sym c.len.ensures.len)
      ∙ sym (append-nil (end_line c.len.result)))),
)
