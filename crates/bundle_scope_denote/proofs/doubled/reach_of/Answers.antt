-- A `var` bars what it passes, and any other declaration what it holds.
use Rattle.std.proofs.Common.{◌≡◌, ℕ, Vec, Global, List, map, ap, sym, ◌∙◌, subst}
use Rattle.bundle_scope_denote.specs.declared.table.Scope.{Scope}
use Rattle.bundle_scope_denote.specs.declared.doubled.Reach.{Reach}
use Rattle.bundle_scope_denote.specs.Kinds.{takes_by}
use Rattle.bundle_scope_denote.specs.Numbers.{numbered_scope}
use Rattle.bundle_scope_denote.specs.Chains.{passes, nearest_at}
use Rattle.bundle_scope_denote.specs.Steps.{scopes_of}
use Rattle.bundle_scope_denote.specs.Barred.{HoldsNumbered, passed_at}
use Rattle.bundle_scope_denote.proofs.BarredLemmas.{reaches-passed, reaches-held}
use Rattle.bundle_scope_denote.proofs.doubled.reach_of.Goals as goal
use Rattle.bundle_scope_denote.proofs.doubled.reach_of.Goals.{then-is_var+in_ok-barred, else-is_var+in_ok-barred-2}

pub returns : goal.returns
returns c =
    let reach : Reach = record { taker = c.unwrap_or.result; barred = c.if-is_var.barred } in
    let found : c.taker_of-taker.result ≡ nearest_at (scopes_of c.args.walk.now) (passes (takes_by c.args.declaration.way) (scopes_of c.args.walk.now)) c.args.declaration.scope = c.taker_of-taker.ensures ∙ ap (λ (l : List Scope). nearest_at (map numbered_scope l) (passes (takes_by c.args.declaration.way) (map numbered_scope l)) c.args.declaration.scope) c.deref.ensures.value in
    elim c.if-is_var.branch [
      | then-is_var+in_ok-barred w ↦ reaches-passed c.args.walk.now c.args.declaration reach c.taker_of-taker.result found c.unwrap_or.ensures (sym c.is_var.ensures ∙ w.if-is_var.true) (ap (λ (v : Vec ℕ Global). v.items) w.barred-is ∙ w.in_ok-barred.ensures ∙ ap (λ (l : List Scope). passed_at (map numbered_scope l) c.args.declaration.way c.args.declaration.scope) w.deref-then-is_var.ensures.value)
      | else-is_var+in_ok-barred-2 w ↦ reaches-held c.args.walk.now c.args.declaration reach c.taker_of-taker.result found c.unwrap_or.ensures (sym c.is_var.ensures ∙ w.if-is_var.false) (subst (λ (v : Vec ℕ Global). HoldsNumbered (scopes_of c.args.walk.now) c.args.walk.now.top c.args.declaration.way c.taker_of-taker.result v.items) (sym w.barred-is) (subst (λ (l : List Scope). HoldsNumbered (map numbered_scope l) c.args.walk.now.top c.args.declaration.way c.taker_of-taker.result w.in_ok-barred-2.barred.items) w.deref-else-is_var.ensures.value w.in_ok-barred-2.ensures))
    ]
