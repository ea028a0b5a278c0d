use Rattle.machine_code.proofs.Tracks.{marked_runs_alike, marked_reads_suffice}
use Rattle.machine_code.proofs.machine_laws.reads_suffice.Goals as goal

pub returns-clause-same : goal.returns-clause-same
returns-clause-same c = λ t now code p m budget. marked_runs_alike t now code p m budget

pub returns-clause-others : goal.returns-clause-others
returns-clause-others c =
    λ t now code p m us budget long none kinds agree.
    marked_reads_suffice t now code p m us budget long none kinds agree
