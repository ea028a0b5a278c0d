use Rattle.std.proofs.Common.{◌≡◌, refl, sym, ap, [], Option, Bor}
use Rattle.st_types.specs.declared.configuration.GlobalDeclaration.{GlobalDeclaration}
use Rattle.st_types.specs.declared.configuration.GlobalQualifier.{GlobalQualifier}
use Rattle.st_rules.specs.declared.reason.Reason.TheVariants.{RetainedAddress}
use Rattle.st_rules.specs.Collecting.{Collects}
use Rattle.st_rules.specs.Faults.{breaking}
use Rattle.st_rules.proofs.CollectLemmas.{collects_is, collects_nothing, search_starts, loop_goes_on, loop_ends}
use Rattle.st_decl.specs.declared.entries.Entry as code_entry
use Rattle.st_decl.specs.declared.entries.Entry.TheVariants.{«Type» as TypeEntry, Field, Unit, Variable, Global}
use Rattle.st_decl.specs.declared.entries.Entry.TheVariants.{Resource}
use Rattle.st_decl.specs.Entries.{entry_view, retained_address_of}
use Rattle.st_decl.proofs.retained.retained_addresses.Goals as goal
use Rattle.st_decl.proofs.retained.retained_addresses.Goals.{in-Global, in_default}

pub loop-entry-init : goal.loop-entry-init
loop-entry-init c = search_starts _ _ _ refl

no_address : (e : code_entry.Entry) → ((q : Option GlobalQualifier) (d : Bor GlobalDeclaration) → e ≡ Global q d → ⊥)
    → [] ≡ breaking RetainedAddress (retained_address_of (entry_view e))
no_address (TypeEntry t) h = refl
no_address (Field f) h = refl
no_address (Unit u) h = refl
no_address (Variable sort section d) h = refl
no_address (Global q d) h = absurd (h q d refl)
no_address (Resource r) h = refl

one : (c : goal.Joined-entry)
    → Collects (breaking RetainedAddress (retained_address_of (entry_view c.entry-item.result))) c.loop-entry.broken
    c.match-entry.broken
one c = elim c.match-entry.branch [
  | in-Global w ↦ rw w.broken-is (collects_is _ _ _ _
      (ap (λ e. breaking RetainedAddress (retained_address_of (entry_view e))) (sym w.in-Global.is))
      w.retained_address.ensures)
  | in_default w ↦ rw w.broken-is (collects_is _ _ _ _
      (no_address c.entry-item.result w.in_default.not-Global) (collects_nothing c.loop-entry.broken))
]

pub loop-entry-preserved : goal.loop-entry-preserved
loop-entry-preserved c =
    let here = one c in
    loop_goes_on _ _ _ _ _ _ _ _ _ c.loop-entry-test.true c.entry-item.is c.loop-entry.invariant here.adds here.covers

pub returns : goal.returns
returns c = loop_ends _ _ _ _ _ _ _ c.loop-entry-test.false c.loop-entry.invariant
