use Rattle.std.proofs.Common.{◌≡◌, ◌≤◌, ℕ, rules, sym, subst}
use Rattle.plots.specs.Places.{place_on}
use Rattle.plots.proofs.ScaleLemmas.{place_rises}
use Rattle.plots.proofs.scale.Scale.place.Goals as goal

pub returns-clause-rises : goal.returns-clause-rises
returns-clause-rises c = λ other le.
    let is : c.share.result ≡ place_on c.args.self.now c.args.number c.args.length = search rules in
    subst (λ (n : ℕ). place_on c.args.self.now other c.args.length ≤ n) (sym is)
    (place_rises c.args.self.now other c.args.number c.args.length le)
