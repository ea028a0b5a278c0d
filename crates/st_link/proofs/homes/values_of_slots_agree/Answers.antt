use Rattle.st_link.proofs.AgreementLemmas.{slots_agree}
use Rattle.st_link.proofs.homes.values_of_slots_agree.Goals as goal

pub returns : goal.returns
returns c = slots_agree
