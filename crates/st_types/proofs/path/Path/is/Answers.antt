use Rattle.std.proofs.Common.{rules}
use Rattle.st_types.specs.Comparisons.{paths_are_compared}
use Rattle.st_types.proofs.path.Path.is.Goals as goal

pub returns : goal.returns
returns c = let d = paths_are_compared c.args.self.now c.args.other.now in search rules
