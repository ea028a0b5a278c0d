-- The laws of a text that breaks no rule: its types are known, its units agree, and runs of its programs end alike.
use Rattle.st_meaning.specs.NameTypes.{declared_in}
use Rattle.st_meaning.specs.Runs.{units_within, ran_where}
use Rattle.st_link.specs.UnitSoundness.{run_of_program, TypesAreKnown, UnitsAreSound, ProgramsAreSound}
use Rattle.st_link.proofs.UnitLaw.{units_alike}
use Rattle.st_link.proofs.BodyRunLaw.{body_alike}
use Rattle.st_link.proofs.StandardBlockLaw.{standard_calls_agree}
use Rattle.st_link.proofs.WellTypedTexts.{text_right}

pub types_are_known : TypesAreKnown
types_are_known source x u h is = (text_right source h).known x u is

pub units_are_sound : UnitsAreSound
units_are_sound source library image now depth i j h of_text moment =
    units_alike (declared_in source) library image now i j (text_right source h) of_text
    (standard_calls_agree now moment i j) depth

pub programs_are_sound : ProgramsAreSound
unfolding ran_where
programs_are_sound source x u p image now budget s i j h of_text moment is body stands =
    let units = units_are_sound source p.library image now budget i j h of_text moment in
    let run = body_alike (declared_in source) p.library image now i j (text_right source h) of_text
    (units_within i p.library image now budget) (units_within j p.library image now budget) units (run_of_program u p) x
    is body s stands in
    run.ends budget
