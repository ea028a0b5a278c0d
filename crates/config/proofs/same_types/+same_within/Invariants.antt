use Rattle.config.proofs.same_types.+same_within.Given as goal

abbrev pub decreases-same_within : goal.decreases-same_within
decreases-same_within l = l.depth
