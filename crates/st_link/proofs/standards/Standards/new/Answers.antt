use Rattle.symbols.specs.declared.standard_blocks.StandardBlock.TheVariants.{Sr, Rs, RTrig, FTrig, Ctu, Ctd, Ctud}
use Rattle.symbols.specs.declared.standard_blocks.StandardBlock.TheVariants.{Ton, Tof, Tp}
use Rattle.st_link.proofs.standards.Standards.new.Goals as goal

pub returns : goal.returns
returns c Sr text = c.in_ok-standard_aggregate.ensures text
returns c Rs text = c.in_ok-standard_aggregate-2.ensures text
returns c RTrig text = c.in_ok-standard_aggregate-3.ensures text
returns c FTrig text = c.in_ok-standard_aggregate-4.ensures text
returns c Ctu text = c.in_ok-standard_aggregate-5.ensures text
returns c Ctd text = c.in_ok-standard_aggregate-6.ensures text
returns c Ctud text = c.in_ok-standard_aggregate-7.ensures text
returns c Ton text = c.in_ok-standard_aggregate-8.ensures text
returns c Tof text = c.in_ok-standard_aggregate-9.ensures text
returns c Tp text = c.in_ok-standard_aggregate-10.ensures text
