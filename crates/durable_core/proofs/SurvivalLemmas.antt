-- Files that survive.
use Rattle.std.proofs.Common.{ℕ, ◌≤◌, List, [], ◌∷◌, ◌++◌, length, Option, inl, inr, refl, sym, ap, subst, ◌∙◌, arith}
use Rattle.std.proofs.Common.{append-nil, append_assoc}
use Rattle.st_types.specs.declared.entry.Entry.{Entry}
use Rattle.st_meaning.specs.Stores.{Store}
use Rattle.retain_store.specs.Areas.{IsEither}
use Rattle.retain_store.specs.Recovered.{Recovered, Found}
use Rattle.plan.specs.declared.plan.Plan.{Plan}
use Rattle.serial_core.specs.Steps.{State}
use Rattle.durable_core.specs.Restart.{Survives, record_now}

-- the record of a core as it is now survives: it is of the whole log
pub survives_now : (state : State) (acked generation : ℕ) → acked ≤ length state.log
    → Survives state.plan state.start state.before state.log acked (Found generation (record_now state))
survives_now state acked generation few = record {
  front = state.log;
  rest = [];
  parts = sym (append-nil state.log);
  acknowledged = few;
  holds = refl;
}

-- a longer log has the same prefixes
pub survives_longer :
    (plan : Plan) (start : Store) (before : Option ℕ) (log : List Entry) (acked : ℕ) (file : Recovered) (entry : Entry)
    → Survives plan start before log acked file → Survives plan start before (log ++ entry ∷ []) acked file
survives_longer plan start before log acked file entry s = record {
  front = s.front;
  rest = s.rest ++ entry ∷ [];
  parts = ap (λ (l : List Entry). l ++ entry ∷ []) s.parts ∙ append_assoc s.front s.rest (entry ∷ []);
  acknowledged = s.acknowledged;
  holds = s.holds;
}

-- a file that survives with more acknowledged also survives with less
pub survives_less : (plan : Plan) (start : Store) (before : Option ℕ) (log : List Entry) (few many : ℕ)
    (file : Recovered) → few ≤ many → Survives plan start before log many file → Survives plan start before log few file
survives_less plan start before log few many file less s = record {
  front = s.front;
  rest = s.rest;
  parts = s.parts;
  acknowledged = omega (arith, less, s.acknowledged);
  holds = s.holds;
}

pub survives_either : (plan : Plan) (start : Store) (before : Option ℕ) (log : List Entry) (acked : ℕ)
    (last new file : Recovered) → Survives plan start before log acked last → Survives plan start before log acked new
    → IsEither last new file → Survives plan start before log acked file
survives_either plan start before log acked last new file a b (inl e) =
    subst (λ (r : Recovered). Survives plan start before log acked r) (sym e) a
survives_either plan start before log acked last new file a b (inr e) =
    subst (λ (r : Recovered). Survives plan start before log acked r) (sym e) b
