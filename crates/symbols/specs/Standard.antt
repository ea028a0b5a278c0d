-- Standard functions and blocks, as the definitions see them.
use Rattle.st_meaning.specs.StandardBlocks as blocks
use Rattle.st_meaning.specs.StandardBlocks.{StandardBlock}
use Rattle.st_meaning.specs.StandardFunctions.{Standard, ABS, MIN, MAX, LIMIT, SEL, SHL, SHR, ROL, ROR, CONVERT}
use Rattle.symbols.specs.declared.standard_blocks.StandardBlock as code_block
use Rattle.symbols.specs.declared.standard_blocks.StandardBlock.TheVariants.{Sr, Rs, RTrig, FTrig, Ctu, Ctd, Ctud}
use Rattle.symbols.specs.declared.standard_blocks.StandardBlock.TheVariants.{Ton, Tof, Tp}
use Rattle.symbols.specs.declared.standard_functions.Standard as code_function
use Rattle.symbols.specs.declared.standard_functions.Standard.TheVariants.{Abs, Min, Max, Limit, Sel, Shl, Shr, Rol}
use Rattle.symbols.specs.declared.standard_functions.Standard.TheVariants.{Ror, Convert}

abbrev pub block_view : code_block.StandardBlock → StandardBlock
block_view Sr = blocks.SR
block_view Rs = blocks.RS
block_view RTrig = blocks.R_TRIG
block_view FTrig = blocks.F_TRIG
block_view Ctu = blocks.CTU
block_view Ctd = blocks.CTD
block_view Ctud = blocks.CTUD
block_view Ton = blocks.TON
block_view Tof = blocks.TOF
block_view Tp = blocks.TP

abbrev pub standard_view : code_function.Standard → Standard
standard_view Abs = ABS
standard_view Min = MIN
standard_view Max = MAX
standard_view Limit = LIMIT
standard_view Sel = SEL
standard_view Shl = SHL
standard_view Shr = SHR
standard_view Rol = ROL
standard_view Ror = ROR
standard_view (Convert k l) = CONVERT k l
