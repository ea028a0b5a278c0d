use Rattle.std.proofs.Common.{◌≡◌, ◌++◌, drop}
use Rattle.st_types.specs.Declarations.{Declaration}
use Rattle.st_meaning.specs.NameTypes.{Declared, kind_among, kinds_of_declaration}
use Rattle.symbols.proofs.interfaces.push_kinds.Given as goal

abbrev pub invariant-loop-name : goal.invariant-loop-name
invariant-loop-name l = (text : Declared) (d : Declaration) → l.kind ≡ kind_among text.types d.declared
    → l.kinds.items ++ kinds_of_declaration text d (drop l._name-index l.names)
    ≡ l.initial.kinds.items ++ kinds_of_declaration text d l.names
