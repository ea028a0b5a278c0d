use Rattle.layout.specs.TextLayouts.{slots_of_text}
use Rattle.slot_trees.proofs.ProgramLinks.{source_link}
use Rattle.slot_trees.proofs.ProgramSim.{ends_alike, outcome_alike, store_alike}
use Rattle.st_link.proofs.TextTotals.{known_source_linked}
use Rattle.st_link.proofs.links.programs_of_accepted_texts_run_by_slots.Goals as goal

pub returns : goal.returns
returns c = λ source c n p h none only known g.
    let l = known_source_linked source c h none only known in
    let d = source_link source l.linked l.link n p g in
    record {
      linked = l.linked;
      is = l.link.is;
      body = d.body;
      there = d.there;
      ends = ends_alike (slots_of_text source) p 0 l.linked.library d.body d.link;
      outcome = outcome_alike (slots_of_text source) p 0 l.linked.library d.body d.link;
      store = store_alike (slots_of_text source) p 0 l.linked.library d.body d.link;
    }
