use Rattle.trace_segments.proofs.RunLemmas.{next_follows, whole_segment}
use Rattle.trace_segments.proofs.laws.what_is_run_again_is_a_segment.Goals as goal

pub returns-clause-whole : goal.returns-clause-whole
returns-clause-whole c = whole_segment

pub returns-clause-follows : goal.returns-clause-follows
returns-clause-follows c = next_follows
