-- What holds where a call succeeds.
use Rattle.std.proofs.Common.{Result, Ok, Err, OnOk}

pub OnOk-map : {T E P Q : Type 0} (r : Result T E) → (P → Q) → OnOk r P → OnOk r Q
OnOk-map (Ok x) onto holds = onto holds
OnOk-map (Err e) onto holds = tt
