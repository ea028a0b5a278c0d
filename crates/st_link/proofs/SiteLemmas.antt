-- Variables as linking sees them are those of the definitions of layouts.
use Rattle.std.proofs.Common.{◌≡◌, refl, ap, ap₂, ◌∙◌, List, [], ◌∷◌, ◌++◌, map, Bool, true, false, if◌then◌else◌}
use Rattle.std.proofs.Common.{Option}
use Rattle.std.proofs.lemmas.List.{map-append}
use Rattle.st_types.specs.declared.identifier.Identifier.{Identifier}
use Rattle.st_types.specs.declared.declaration.Retention.{Retention}
use Rattle.st_types.specs.Configurations.{GlobalNames, located, listed, GlobalDeclaration, GlobalBlock}
use Rattle.st_types.specs.Declarations.{Declaration, VariableBlock}
use Rattle.st_meaning.specs.Bodies.{is_external}
use Rattle.layout.specs.LayoutVariables as layouts
use Rattle.layout.specs.Types.{Site, with_site, site_of_declaration, sites_of_declarations, retention_of}
use Rattle.layout.specs.Types.{sites_of_blocks}
use Rattle.st_link.specs.LinkVariables.{of_owned, of_site, named_so, link_variables, variables_of_blocks}
use Rattle.st_link.specs.LinkVariables.{variables_of_names, variables_declared, variables_of_globals}

named_seen : (s : Site) (xs : List Identifier) → map of_site (map (with_site s) xs) ≡ map (named_so s.declared) xs
named_seen s [] = refl
named_seen s (x ∷ xs) = ap (λ zs. named_so s.declared x ∷ zs) (named_seen s xs)

declarations_seen : (keep : Option Retention) (ds : List Declaration)
    → map of_site (sites_of_declarations keep ds) ≡ link_variables ds
declarations_seen keep [] = refl
declarations_seen keep (d ∷ ds) =
    map-append of_site (map (with_site (site_of_declaration keep d)) d.names) (sites_of_declarations keep ds)
    ∙ ap₂ (λ xs ys. xs ++ ys) (named_seen (site_of_declaration keep d) d.names) (declarations_seen keep ds)

pub sites_seen : (bs : List VariableBlock) → map of_site (sites_of_blocks bs) ≡ variables_of_blocks bs
sites_seen [] = refl
sites_seen (b ∷ bs) = by_test (is_external b.section) (sites_seen bs)
  where
    by_test : (e : Bool) → map of_site (sites_of_blocks bs) ≡ variables_of_blocks bs
        → map of_site (if e then sites_of_blocks bs
        else sites_of_declarations (retention_of b.section) b.declarations ++ sites_of_blocks bs)
        ≡ (if e then variables_of_blocks bs else link_variables b.declarations ++ variables_of_blocks bs)
    by_test true ih = ih
    by_test false ih =
        map-append of_site (sites_of_declarations (retention_of b.section) b.declarations) (sites_of_blocks bs)
        ∙ ap₂ (λ xs ys. xs ++ ys) (declarations_seen (retention_of b.section) b.declarations) ih

-- globals
listed_seen : (s : Site) (xs : List Identifier)
    → map of_owned (map (layouts.global_variable s false) xs) ≡ map (named_so s.declared) xs
listed_seen s [] = refl
listed_seen s (x ∷ xs) = ap (λ zs. named_so s.declared x ∷ zs) (listed_seen s xs)

names_seen : (s : Site) (names : GlobalNames)
    → map of_owned (layouts.variables_of_names s names) ≡ variables_of_names s.declared names
names_seen s (located x a) = refl
names_seen s (listed xs) = listed_seen s xs

globals_declared : (keep : Option Retention) (ds : List GlobalDeclaration)
    → map of_owned (layouts.variables_of_declarations keep ds) ≡ variables_declared ds
globals_declared keep [] = refl
globals_declared keep (d ∷ ds) =
    map-append of_owned (layouts.variables_of_names (layouts.site_of_global keep d) d.names)
    (layouts.variables_of_declarations keep ds)
    ∙ ap₂ (λ xs ys. xs ++ ys) (names_seen (layouts.site_of_global keep d) d.names) (globals_declared keep ds)

pub globals_seen : (bs : List GlobalBlock) → map of_owned (layouts.variables_of_globals bs) ≡ variables_of_globals bs
globals_seen [] = refl
globals_seen (b ∷ bs) =
    map-append of_owned (layouts.variables_of_declarations (layouts.retention_of_globals b.qualifier) b.declarations)
    (layouts.variables_of_globals bs)
    ∙ ap₂ (λ xs ys. xs ++ ys) (globals_declared (layouts.retention_of_globals b.qualifier) b.declarations)
    (globals_seen bs)
