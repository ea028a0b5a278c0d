-- The types of variables by their names, and the units that a unit calls.
use Rattle.std.proofs.Common.{◌≡◌, refl, sym, ap, ◌∙◌, ℕ, ◌+◌, ◌<◌, Bool, true, false, List, [], ◌∷◌, ◌++◌, map, take}
use Rattle.std.proofs.Common.{length, Option, Some, None, if◌then◌else◌, slice_index_or}
use Rattle.std.specs.Prelude.{bytes_eq, option_map}
use Rattle.std.specs.List.{flat_map}
use Rattle.std.proofs.lemmas.List.{map-append}
use Rattle.st_types.specs.declared.data_type.VariableType.{VariableType}
use Rattle.st_types.specs.Statements.{Stmt, stmts_of}
use Rattle.st_types.specs.Units.{OrganisationUnit}
use Rattle.st_meaning.specs.NameTypes.{or_type}
use Rattle.st_meaning.specs.Scopes.{Name}
use Rattle.st_rules.specs.Containment.{calls_of}
use Rattle.symbols.specs.Found.{or_found}
use Rattle.symbols.specs.PlaceTypes.{place_type_view}
use Rattle.symbols.specs.declared.place_types.PlaceType.{PlaceType}
use Rattle.st_decl.specs.Flattened.{all_in}
use Rattle.st_link.specs.CalledFunctions.{block_called, callees_of, type_among}
use Rattle.st_link.specs.LinkVariables.{LinkVariable, variable_view, variables_of_blocks}
use Rattle.st_link.specs.declared.variables.Variable.{Variable}
use Rattle.st_link.proofs.SymbolLemmas.{more_taken}

or_first : (b : Bool) (t : VariableType) (o p : Option VariableType)
    → (if b then Some t else or_type o p) ≡ or_type (if b then Some t else o) p
or_first true t o p = refl
or_first false t o p = refl

type_appended : (vs ws : List LinkVariable) (x : Name)
    → type_among (vs ++ ws) x ≡ or_type (type_among vs x) (type_among ws x)
type_appended [] ws x = refl
type_appended (v ∷ vs) ws x =
    ap (λ o. if bytes_eq x v.name then Some v.declared else o) (type_appended vs ws x)
    ∙ or_first (bytes_eq x v.name) v.declared (type_among vs x) (type_among ws x)

found_type : (o : Option PlaceType) (b : Bool) (t : PlaceType)
    → option_map place_type_view (or_found o (if b then Some t else None))
    ≡ or_type (option_map place_type_view o) (if b then Some (place_type_view t) else None)
found_type (Some s) b t = refl
found_type None true t = refl
found_type None false t = refl

-- one turn over variables of the code
pub types_more : (xs : List Variable) (i : ℕ) (v : Variable) (x : Name) (before after : Option PlaceType)
    → i < length xs → v ≡ slice_index_or xs i v
    → option_map place_type_view before ≡ type_among (map variable_view (take i xs)) x
    → after ≡ or_found before (if bytes_eq x v.name.now then Some v.declared else None)
    → option_map place_type_view after ≡ type_among (map variable_view (take (i + 1) xs)) x
types_more xs i v x before after below is so_far added =
    ap (option_map place_type_view) added ∙ found_type before (bytes_eq x v.name.now) v.declared
    ∙ ap (λ o. or_type o (if bytes_eq x v.name.now then Some (place_type_view v.declared) else None)) so_far
    ∙ sym (type_appended (map variable_view (take i xs)) (variable_view v ∷ []) x)
    ∙ ap (λ vs. type_among vs x) (sym (map-append variable_view (take i xs) (v ∷ [])))
    ∙ ap (λ ys. type_among (map variable_view ys) x) (sym (more_taken xs i v below is))

-- the names of functions and of blocks together
pub calls_together : (u : OrganisationUnit) (vs : List LinkVariable) (statements : List Stmt) (names all : List Name)
    → vs ≡ variables_of_blocks u.blocks → statements ≡ all_in (stmts_of u.body) → names ≡ calls_of u
    → all ≡ names ++ flat_map (block_called vs) statements → all ≡ callees_of u
calls_together u vs statements names all v s n a =
    a ∙ ap (λ ns. ns ++ flat_map (block_called vs) statements) n
    ∙ ap (λ ws. calls_of u ++ flat_map (block_called ws) statements) v
    ∙ ap (λ ss. calls_of u ++ flat_map (block_called (variables_of_blocks u.blocks)) ss) s
