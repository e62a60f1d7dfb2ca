use Rattle.std.proofs.Common.{◌≡◌, ℕ, ◌+◌, ◌-◌, ◌<◌, Bool, true, false, List, [], ◌∷◌, ◌++◌, length, get_or, set, refl, sym, ap, ◌∙◌, subst, inl, inr, arith}
use Rattle.std.proofs.lemmas.List.{get_or_read, length-set}
use Rattle.bundle_order_sort.specs.Numbers.{IsOut}
use Rattle.bundle_order_sort.specs.Topmost.{IsTopmost}
use Rattle.bundle_order_sort.proofs.SiftLemmas.{Sifted, Sifted-passes, Sifted-keeps, IsTopmost-from_sifted}
use Rattle.bundle_order_sort.proofs.stack.topmost.Goals as goal
use Rattle.bundle_order_sort.proofs.stack.topmost.Goals.{then-not-index+then-not-progress-item+in_ok-push, else-not-index, else-not-index-via-then-not-index+else-not-progress-item, else-not-index-via-else-not-index}

-- the invariant, for lists that are the same
same-lists : (W : ℕ → Type 0) (stack : List ℕ) (done : ℕ) (met met' : List Bool) (kept kept' : List ℕ) → met' ≡ met → kept' ≡ kept → Sifted W stack done met kept → Sifted W stack done met' kept'
same-lists W stack done met met' kept kept' e f w = subst (λ (m : List Bool). Sifted W stack done m kept') (sym e) (subst (λ (k : List ℕ). Sifted W stack done met k) (sym f) w)

pub loop-done-preserved : goal.loop-done-preserved
loop-done-preserved c =
    let ps = c.args.progress.now in
    let stack = c.args.stack.now in
    let done = c.loop-done.done in
    let met = c.loop-done.met.items in
    let kept = c.loop-done.kept.items in
    let x = get_or stack (length stack - 1 - done) 0 in
    let h : done < length stack = c.loop-done-test.true in
    let inside : x < length met = omega (arith, c.requires (length stack - 1 - done) (omega (arith, h)), c.loop-done.invariant.len) in
    let read : c.index.result.now ≡ get_or met x false = get_or_read met x c.index.result.now inside c.index.ensures false in
    let w0 = c.loop-done.invariant.sifted in
    elim c.if-not-index.branch [
      | then-not-index+then-not-progress-item+in_ok-push w ↦ record {
        len = ap (λ v. length v.items) w.met-is ∙ (length-set met x true ∙ c.loop-done.invariant.len);
        sifted = same-lists (λ t. IsOut ps t → ⊥) stack (done + 1) (set met x true) c.if-not-index.met.items (kept ++ x ∷ []) c.if-not-index.kept.items (ap (λ v. v.items) w.met-is) (ap (λ v. v.items) w.kept-is ∙ w.in_ok-push.ensures.items) (Sifted-keeps (λ t. IsOut ps t → ⊥) stack done met kept w0 h x refl (length stack - 1 - done) refl inside);
      }
      | else-not-index w ↦ elim w.else-not-index.branch [
        | else-not-index-via-then-not-index+else-not-progress-item w' ↦ record {
          len = ap (λ v. length v.items) w.met-is ∙ c.loop-done.invariant.len;
          sifted = same-lists (λ t. IsOut ps t → ⊥) stack (done + 1) met c.if-not-index.met.items kept c.if-not-index.kept.items (ap (λ v. v.items) w.met-is) (ap (λ v. v.items) w.kept-is) (Sifted-passes (λ t. IsOut ps t → ⊥) stack done met kept w0 h x refl (inr (λ void. void w'.if-not-progress-item.false)));
        }
        | else-not-index-via-else-not-index w' ↦ record {
          len = ap (λ v. length v.items) w.met-is ∙ c.loop-done.invariant.len;
          sifted = same-lists (λ t. IsOut ps t → ⊥) stack (done + 1) met c.if-not-index.met.items kept c.if-not-index.kept.items (ap (λ v. v.items) w.met-is) (ap (λ v. v.items) w.kept-is) (Sifted-passes (λ t. IsOut ps t → ⊥) stack done met kept w0 h x refl (inl (sym read ∙ w'.if-not-index.false)));
        }
      ]
    ]

pub returns : goal.returns
returns c =
    let W : ℕ → Type 0 = λ t. IsOut c.args.progress.now t → ⊥ in
    subst (λ (l : List ℕ). IsTopmost W c.args.stack.now l) (sym c.reverse.ensures.items) (IsTopmost-from_sifted W c.args.stack.now c.loop-done.done c.loop-done.met.items c.loop-done.kept.items c.loop-done.invariant.sifted c.loop-done-test.false)
