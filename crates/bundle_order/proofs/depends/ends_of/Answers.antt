use Rattle.std.proofs.Common.{ℕ, ◌↔◌, List, Contains, map, sym, subst}
use Rattle.bundle_order.proofs.ProvideLemmas.{IsEnd-same}
use Rattle.bundle_order.proofs.depends.ends_of.Goals as goal

pub returns-clause-each : goal.returns-clause-each
returns-clause-each c = λ t.
    let lists = map (λ v. v.items) c.args.providers.now in
    let same : (b : ℕ) → Contains c.deref.result.now b ↔ Contains c.args.bindings.now b = λ b.
    subst (λ (l : List ℕ). Contains l b ↔ Contains c.args.bindings.now b) (sym c.deref.ensures.value) (subst (λ (l : List ℕ). Contains c.once-wanted.result.items b ↔ Contains l b) c.in_ok-from_slice.ensures.items (c.once-wanted.ensures.same b)) in
    let whole = IsEnd-same lists c.args.bindings.now c.deref.result.now c.args.number t same in
    let by = c.in_ok-ends.ensures t in
    let once = c.once.ensures.same t in
    ((λ h. whole.0 (by.0 (once.0 h))), λ e. once.1 (by.1 (whole.1 e)))
