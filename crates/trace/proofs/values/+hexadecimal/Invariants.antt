use Rattle.trace.proofs.values.+hexadecimal.Given as goal

abbrev pub decreases-hexadecimal : goal.decreases-hexadecimal
decreases-hexadecimal l = l.count
