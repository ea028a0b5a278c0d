-- Paths whose names are words, and whose subscripts have at most 64 bits.
use Rattle.std.specs.Prelude.{◌&&◌, unsigned_abs, Bool, true, Option, Some, None}
use Rattle.std.specs.List.{list_all}
use Rattle.st_types.specs.declared.path.Owner.{Owner}
use Rattle.st_types.specs.declared.path.Step.{Step}
use Rattle.st_types.specs.declared.path.Step.TheVariants.{Member, Element}
use Rattle.st_types.specs.Paths.{Path}
use Rattle.st_types.specs.UpperNames.{is_upper_name}
use Rattle.config.specs.PlainDeclarations.{is_short}

abbrev pub is_word_owner : Option Owner → Bool
is_word_owner None = true
is_word_owner (Some o) = is_upper_name o.resource && is_upper_name o.instance

abbrev pub is_word_step : Step → Bool
is_word_step (Member x) = is_upper_name x
is_word_step (Element z) = is_short (unsigned_abs z)

abbrev pub is_word_path : Path → Bool
is_word_path p = is_word_owner p.owner && is_upper_name p.name && list_all is_word_step p.steps
