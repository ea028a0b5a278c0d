-- A program that calls nothing: its externals stand for globals, and its statements are its body.
use Rattle.std.specs.Prelude.{List, [], ◌∷◌, ◌++◌, Bool, true, false, if◌then◌else◌, map}
use Rattle.st_types.specs.declared.identifier.Identifier.{Identifier}
use Rattle.st_types.specs.declared.path.Owner.{Owner}
use Rattle.st_types.specs.declared.declaration.Section.{Section}
use Rattle.st_types.specs.declared.declaration.Section.TheVariants.{External, ConstantExternal}
use Rattle.st_types.specs.Declarations.{Declaration, VariableBlock}
use Rattle.st_types.specs.Statements.{stmts_of}
use Rattle.st_types.specs.Units.{OrganisationUnit}
use Rattle.st_meaning.specs.Scopes.{Name}
use Rattle.st_meaning.specs.Runs.{Program}

abbrev pub is_external : Section → Bool
is_external External = true
is_external ConstantExternal = true
is_external _ = false

abbrev pub names_of : List Identifier → List Name
names_of xs = map (λ x. x.name) xs

abbrev pub declared_names : List Declaration → List Name
declared_names [] = []
declared_names (d ∷ ds) = names_of d.names ++ declared_names ds

-- the names of a unit's externals, in order
abbrev pub externals_in : List VariableBlock → List Name
externals_in [] = []
externals_in (b ∷ bs) =
    if is_external b.section then declared_names b.declarations ++ externals_in bs else externals_in bs

-- a program of an instance, without functions and blocks
abbrev pub plain_program : Owner → OrganisationUnit → Program
plain_program owner u = record {
  library = record { functions = []; blocks = [] };
  owner = owner;
  body = record { externals = externals_in u.blocks; instances = []; statements = stmts_of u.body };
}
