use Rattle.trace.proofs.ReadLemmas.{follows}
use Rattle.trace.proofs.parts.after_words.Goals as goal

pub returns : goal.returns
returns c = follows c.args.text.now c.args.words.now c.strip_prefix.result c.strip_prefix.ensures.cases
