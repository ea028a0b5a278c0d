-- The numbers of a text's functions and blocks: their positions among those that the text declares.
use Rattle.std.specs.Prelude.{ℕ, suc, List, [], ◌∷◌, ◌++◌, map, codes, Option, Some, None, option_map}
use Rattle.st_types.specs.declared.unit.UnitSort.{UnitSort}
use Rattle.st_types.specs.declared.unit.UnitSort.TheVariants as units
use Rattle.st_types.specs.Units.{OrganisationUnit}
use Rattle.st_meaning.specs.NameTypes.{Declared}
use Rattle.st_meaning.specs.Scopes.{Name}
use Rattle.st_meaning.specs.StandardBlocks.{StandardBlock, members_of, SR, RS, R_TRIG, F_TRIG, CTU, CTD, CTUD, TON, TOF}
use Rattle.st_meaning.specs.StandardBlocks.{TP}
use Rattle.layout.specs.Shapes.{Parts}
use Rattle.layout.specs.Types.{shape_of_type, parts_of, sites_of_blocks}
use Rattle.slot_trees.specs.SlotTrees.{BlockCode, own_block, standard_block}
use Rattle.slot_trees.specs.Tables.{named_in}
use Rattle.slot_trees.specs.LinkedTexts.{Numbers, parts_of_members}

-- names with their positions, if the first one has this number
abbrev pub numbered_from : ℕ → List Name → List (Name × ℕ)
numbered_from n [] = []
numbered_from n (x ∷ xs) = (x, n) ∷ numbered_from (suc n) xs

-- the functions of a text, in its order
abbrev pub function_name_then : UnitSort → Name → List Name → List Name
function_name_then (units.Function t) x rest = x ∷ rest
function_name_then units.FunctionBlock x rest = rest
function_name_then units.Program x rest = rest

abbrev pub function_names : List OrganisationUnit → List Name
function_names [] = []
function_names (u ∷ us) = function_name_then u.sort u.name.name (function_names us)

-- its blocks
abbrev pub block_name_then : UnitSort → Name → List Name → List Name
block_name_then units.FunctionBlock x rest = x ∷ rest
block_name_then (units.Function t) x rest = rest
block_name_then units.Program x rest = rest

abbrev pub block_names : List OrganisationUnit → List Name
block_names [] = []
block_names (u ∷ us) = block_name_then u.sort u.name.name (block_names us)

-- the standard blocks by their names
abbrev pub standard_blocks : List (Name × StandardBlock)
standard_blocks =
    (codes "SR", SR) ∷ (codes "RS", RS) ∷ (codes "R_TRIG", R_TRIG) ∷ (codes "F_TRIG", F_TRIG) ∷ (codes "CTU", CTU)
    ∷ (codes "CTD", CTD) ∷ (codes "CTUD", CTUD) ∷ (codes "TON", TON) ∷ (codes "TOF", TOF) ∷ (codes "TP", TP) ∷ []

abbrev pub standard_codes : List (Name × BlockCode)
standard_codes = map (λ e. (e.0, standard_block e.1)) standard_blocks

abbrev pub own_codes : ℕ → List Name → List (Name × BlockCode)
own_codes n xs = map (λ e. (e.0, own_block e.1)) (numbered_from n xs)

-- the members of a block's instance: its variables as they are declared, each with the shape of its type
abbrev pub members_of_block : Declared → OrganisationUnit → Parts
members_of_block text u = parts_of (shape_of_type text) (sites_of_blocks u.blocks)

abbrev pub members_then : Declared → UnitSort → OrganisationUnit → List (Name × Parts) → List (Name × Parts)
members_then text units.FunctionBlock u rest = (u.name.name, members_of_block text u) ∷ rest
members_then text (units.Function t) u rest = rest
members_then text units.Program u rest = rest

abbrev pub own_members : Declared → List OrganisationUnit → List (Name × Parts)
own_members text [] = []
own_members text (u ∷ us) = members_then text u.sort u (own_members text us)

abbrev pub standard_members : List (Name × Parts)
standard_members = map (λ e. (e.0, parts_of_members (members_of e.1))) standard_blocks

-- a name of a standard block stands for this one, whatever the text declares
abbrev pub numbers_of : Declared → Numbers
numbers_of text = record {
  functions = numbered_from 0 (function_names text.units);
  blocks = standard_codes ++ own_codes 0 (block_names text.units);
  members = standard_members ++ own_members text text.units;
}

-- the block of a name: this standard one, or else one of the text
abbrev pub code_named : Declared → Name → Option StandardBlock → Option BlockCode
code_named text x (Some k) = Some (standard_block k)
code_named text x None = option_map own_block (named_in (numbered_from 0 (block_names text.units)) x)
