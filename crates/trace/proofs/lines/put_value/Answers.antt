use Rattle.trace.proofs.PutLemmas.{put_stopped}
use Rattle.trace.proofs.lines.put_value.Goals as goal

pub returns-in-Err : goal.returns-in-Err
returns-in-Err g c = put_stopped (g.W.Write.contents c.args.out.now) c.args.works _
