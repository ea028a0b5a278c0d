use Rattle.std.proofs.Common.{◌≡◌, ◌++◌, drop, flat_map}
use Rattle.trace_segments.specs.Segments.{sample_text}
use Rattle.trace_segments.proofs.head.push_samples.Given as goal

abbrev pub invariant-loop-sample : goal.invariant-loop-sample
invariant-loop-sample l = l.text.items ++ flat_map sample_text (drop l.sample-index l.samples)
    ≡ l.initial.text.items ++ flat_map sample_text l.samples
