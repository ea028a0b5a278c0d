-- The types that a call expects and gives, by the function that its name calls.
use Rattle.std.specs.Prelude.{List, [], Option, Some, None}
use Rattle.st_types.specs.declared.kind.Kind.{Kind}
use Rattle.st_meaning.specs.Resolution.{standard_kind, expected_kinds}
use Rattle.st_rules.specs.Environments.{Callee, standard, own}

-- the type that it gives, by those that its arguments have by themselves
abbrev pub kind_of_call : Option Callee → List (Option Kind) → Option Kind
kind_of_call None ks = None
kind_of_call (Some (standard std)) ks = standard_kind std ks
kind_of_call (Some (own inputs result)) ks = result

-- the types that it expects
abbrev pub expected_of_call : Option Callee → List (Option Kind) → List (Option Kind)
expected_of_call None ks = []
expected_of_call (Some (standard std)) ks = expected_kinds std ks
expected_of_call (Some (own inputs result)) ks = inputs
