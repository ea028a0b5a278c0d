-- A table that agrees with a definition, and gets one entry more.
use Rattle.std.proofs.Common.{◌≡◌, Bool, true, false, if◌then◌else◌, Option, Some, None}
use Rattle.symbols.specs.Found.{or_found}
use Rattle.symbols.specs.Agreeing.{Agree}

pub agree_more : {T U : Type 0} (fits : T → U → Type 0) (o p : Option T) (u v : Option U) (one : T) (other : U)
    (b : Bool) → p ≡ or_found o (if b then Some one else None) → v ≡ or_found u (if b then Some other else None)
    → fits one other → Agree fits o u → Agree fits p v
agree_more fits (Some x) p (Some y) v one other b is us fit h = rw (is, us) h
agree_more fits (Some x) p None v one other b is us fit h = absurd h
agree_more fits None p (Some y) v one other b is us fit h = absurd h
agree_more fits None p None v one other true is us fit h = rw (is, us) fit
agree_more fits None p None v one other false is us fit h = rw (is, us) h
