-- The globals of a configuration are variables of its layout.
use Rattle.std.proofs.Common.{◌≡◌, Bool, false, List, [], ◌∷◌}
use Rattle.std.proofs.Common.{Option, None, refl}
use Rattle.st_types.specs.declared.identifier.Identifier.{Identifier}
use Rattle.st_types.specs.declared.configuration.Direction.{Direction}
use Rattle.st_types.specs.declared.configuration.Direction.TheVariants as directions
use Rattle.st_types.specs.declared.declaration.Retention.{Retention}
use Rattle.st_types.specs.Configurations.{GlobalNames, located, listed, GlobalDeclaration, GlobalBlock}
use Rattle.st_meaning.specs.Scopes.{Name}
use Rattle.st_rules.specs.ConfigurationRules.{comes_from_plant, is_plant_input}
use Rattle.st_rules.specs.NameScopes.{listed_names}
use Rattle.st_link.proofs.Among.{Among, here, later}
use Rattle.layout.specs.LayoutVariables.{Owned, is_input_address, global_variable, variables_of_names, site_of_global}
use Rattle.layout.specs.LayoutVariables.{variables_of_declarations, retention_of_globals, variables_of_globals}
use Rattle.layout.specs.Types.{Site}
use Rattle.st_link.specs.Homes.{IsAmong, here as first}
use Rattle.st_link.proofs.HomeLemmas.{among_left, among_right, among_map}
use Rattle.st_link.proofs.ListTests.{as_among}

-- a global as a variable of the layout
pub record GlobalVariable (vs : List Owned) (s : Site) (x : Name) (input : Bool) : Type 0 where
  pub variable : Owned
  pub among : IsAmong variable vs
  pub nobody : variable.owner ≡ None
  pub named : variable.name ≡ x
  pub site : variable.site ≡ s
  pub is_input : variable.is_input ≡ input

same_direction : (d : Direction) → is_input_address d ≡ comes_from_plant d
same_direction directions.Input = refl
same_direction directions.Output = refl

pub listed_variable : (s : Site) (ns : GlobalNames) (z : Identifier) → Among z (listed_names ns)
    → GlobalVariable (variables_of_names s ns) s z.name (is_plant_input ns)
listed_variable s (located x a) z here = record {
  variable = global_variable s (is_input_address a.direction) x;
  among = first;
  nobody = refl;
  named = refl;
  site = refl;
  is_input = same_direction a.direction;
}
listed_variable s (located x a) z (later h) = elim h [ ]
listed_variable s (listed xs) z h = record {
  variable = global_variable s false z;
  among = among_map (global_variable s false) xs (as_among h);
  nobody = refl;
  named = refl;
  site = refl;
  is_input = refl;
}

pub in_declarations : (keep : Option Retention) (ds : List GlobalDeclaration) {d : GlobalDeclaration} {v : Owned}
    → Among d ds → IsAmong v (variables_of_names (site_of_global keep d) d.names)
    → IsAmong v (variables_of_declarations keep ds)
in_declarations keep [] h v = elim h [ ]
in_declarations keep (d ∷ ds) here v =
    among_left (variables_of_names (site_of_global keep d) d.names) (variables_of_declarations keep ds) v
in_declarations keep (d ∷ ds) (later h) v =
    among_right (variables_of_names (site_of_global keep d) d.names) (variables_of_declarations keep ds)
    (in_declarations keep ds h v)

pub in_globals : (bs : List GlobalBlock) {b : GlobalBlock} {v : Owned} → Among b bs
    → IsAmong v (variables_of_declarations (retention_of_globals b.qualifier) b.declarations)
    → IsAmong v (variables_of_globals bs)
in_globals [] h v = elim h [ ]
in_globals (b ∷ bs) here v = among_left
    (variables_of_declarations (retention_of_globals b.qualifier) b.declarations) (variables_of_globals bs) v
in_globals (b ∷ bs) (later h) v = among_right
    (variables_of_declarations (retention_of_globals b.qualifier) b.declarations) (variables_of_globals bs)
    (in_globals bs h v)
