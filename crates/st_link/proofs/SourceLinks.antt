-- A whole text's layout, as its tables see it.
use Rattle.std.proofs.Common.{◌≡◌, refl, sym, ap, subst, arith, ℕ, ◌≤◌, List, [], ◌∷◌, ◌++◌, map}
use Rattle.std.proofs.Common.{true, false, Option, Some, None}
use Rattle.std.specs.Prelude.{is_none}
use Rattle.std.specs.List.{list_all}
use Rattle.st_types.specs.declared.identifier.Identifier.{Identifier}
use Rattle.st_types.specs.declared.limits.TheConstants.{MAX_PATHS}
use Rattle.st_types.specs.declared.declaration.Retention.{Retention}
use Rattle.st_types.specs.Configurations.{Configuration, GlobalBlock, GlobalDeclaration, GlobalNames, listed, located}
use Rattle.st_types.specs.Sources.{Source}
use Rattle.st_meaning.specs.NameTypes.{Declared, declared_in}
use Rattle.layout.specs.LayoutVariables as layouts
use Rattle.layout.specs.LayoutVariables.{Owned, variables_of_configuration}
use Rattle.layout.specs.Types.{Site}
use Rattle.layout.specs.Instances.{variables_of_programs}
use Rattle.layout.specs.Sizes.{capped_size}
use Rattle.layout.proofs.LayoutLemmas.{programs_of_resources}
use Rattle.st_link.specs.FirstSlots.{slots_taken}
use Rattle.st_link.specs.Linked.{IsLayoutBy}
use Rattle.st_link.specs.LinkVariables.{of_owned}
use Rattle.st_link.specs.Orderly.{IsOrderlySource, configuration_in, globals_in, instances_of, layout_of}
use Rattle.st_link.specs.Tables.{AreGlobals}
use Rattle.st_link.proofs.ProgramPlaces.{globals_stand, layout_taken}
use Rattle.st_link.proofs.SiteLemmas.{globals_seen}
use Rattle.std.proofs.lemmas.Bool.{and_parts, and_from}

-- the globals of a configuration, in the terms of layouts
abbrev pub owned_globals : Option Configuration → List Owned
owned_globals None = []
owned_globals (Some c) = layouts.variables_of_globals c.globals

pub owned_seen : (o : Option Configuration) → map of_owned (owned_globals o) ≡ globals_in o
owned_seen None = refl
owned_seen (Some c) = globals_seen c.globals

layout_split : (text : Declared) (o : Option Configuration)
    → variables_of_configuration text o ≡ owned_globals o ++ variables_of_programs text (instances_of o)
layout_split text None = refl
layout_split text (Some c) =
    ap (λ vs. layouts.variables_of_globals c.globals ++ vs) (sym (programs_of_resources text c.resources))

-- globals have no owner
abbrev AreUnowned : List Owned → Type 0
AreUnowned vs = list_all (λ v. is_none v.owner) vs ≡ true

unowned_append : (vs ws : List Owned) → AreUnowned vs → AreUnowned ws → AreUnowned (vs ++ ws)
unowned_append [] ws a b = b
unowned_append (v ∷ vs) ws a b =
    let c = and_parts (is_none v.owner) (list_all (λ w. is_none w.owner) vs) a in
    and_from (is_none v.owner) (list_all (λ w. is_none w.owner) (vs ++ ws)) c.0 (unowned_append vs ws c.1 b)

unowned_listed : (s : Site) (xs : List Identifier) → AreUnowned (map (layouts.global_variable s false) xs)
unowned_listed s [] = refl
unowned_listed s (x ∷ xs) = unowned_listed s xs

unowned_names : (s : Site) (names : GlobalNames) → AreUnowned (layouts.variables_of_names s names)
unowned_names s (located x a) = refl
unowned_names s (listed xs) = unowned_listed s xs

unowned_declared : (keep : Option Retention) (ds : List GlobalDeclaration)
    → AreUnowned (layouts.variables_of_declarations keep ds)
unowned_declared keep [] = refl
unowned_declared keep (d ∷ ds) =
    unowned_append (layouts.variables_of_names (layouts.site_of_global keep d) d.names)
    (layouts.variables_of_declarations keep ds) (unowned_names (layouts.site_of_global keep d) d.names)
    (unowned_declared keep ds)

unowned_globals : (bs : List GlobalBlock) → AreUnowned (layouts.variables_of_globals bs)
unowned_globals [] = refl
unowned_globals (b ∷ bs) =
    unowned_append (layouts.variables_of_declarations (layouts.retention_of_globals b.qualifier) b.declarations)
    (layouts.variables_of_globals bs)
    (unowned_declared (layouts.retention_of_globals b.qualifier) b.declarations) (unowned_globals bs)

unowned_in : (o : Option Configuration) → AreUnowned (owned_globals o)
unowned_in None = refl
unowned_in (Some c) = unowned_globals c.globals

pub layout_by : (source : Source) → IsOrderlySource source
    → IsLayoutBy (declared_in source) (owned_globals (configuration_in source)) (instances_of (configuration_in source))
    (layout_of source)
layout_by source h = record {
  is = layout_split (declared_in source) (configuration_in source);
  unowned = unowned_in (configuration_in source);
  owners = h.owners;
  room = h.room;
}

pub globals_room : (source : Source) → IsOrderlySource source
    → slots_taken (declared_in source) (globals_in (configuration_in source)) ≤ MAX_PATHS
globals_room source h =
    let text = declared_in source in
    let o = configuration_in source in
    let a = layout_taken text (owned_globals o) (layout_of source) (instances_of o) (layout_by source h) in
    let b = ap (slots_taken text) (owned_seen o) in
    omega (arith, a, b)

pub globals_are : (source : Source) → IsOrderlySource source
    → AreGlobals (declared_in source) (layout_of source) (globals_in (configuration_in source))
globals_are source h =
    let o = configuration_in source in
    subst (AreGlobals (declared_in source) (layout_of source)) (owned_seen o)
    (globals_stand (declared_in source) (owned_globals o) (layout_of source) (instances_of o) (layout_by source h))

pub uncut : (a n : ℕ) → a ≡ capped_size n → n ≤ MAX_PATHS → a ≡ n
uncut a n is small = grind (arith)
