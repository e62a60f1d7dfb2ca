use Rattle.std.proofs.Common.{◌≡◌, true, false, [], ◌∷◌, ◌++◌, append-nil, ap, map, sym, ◌∙◌, take, if◌then◌else◌}
use Rattle.std.proofs.lemmas.List.{map-append, take_all}
use Rattle.std.specs.Prelude.{filter}
use Rattle.bundle_rules.specs.Nodes.{has_text}
use Rattle.bundle_link_targets.specs.Taken.{specifier_of}
use Rattle.bundle_link_targets.proofs.CalledLemmas.{filter-step}
use Rattle.bundle_link_targets.proofs.TakenLemmas.{text-of}
use Rattle.bundle_link_targets.proofs.taken.starred_among.Goals as goal
use Rattle.bundle_link_targets.proofs.taken.starred_among.Goals.{then-contains+in_ok-push, else-contains}

pub loop-external-init : goal.loop-external-init
loop-external-init c = λ texts known. ap (map text-of) c.new-ordered.ensures.items

pub loop-external-preserved : goal.loop-external-preserved
loop-external-preserved c = λ texts known.
    let old = c.loop-external.ordered.items in
    let its = c.external-item.result in
    let s = specifier_of its in
    let before = c.loop-external.invariant texts known in
    let more = filter-step (λ x. has_text x texts) specifier_of c.args.externals.now c.loop-external.external-index its c.external-item.is c.loop-external-test.true in
    elim c.if-contains.branch [
      | then-contains+in_ok-push w ↦
          let there : has_text s texts ≡ true = sym (known s) ∙ sym c.contains.ensures ∙ w.if-contains.true in
          ap (λ v. map text-of v.items) w.ordered-is ∙ ap (map text-of) w.in_ok-push.ensures.items ∙ map-append text-of old (its.specifier ∷ []) ∙ ap (λ l. l ++ s ∷ []) before
          ∙ ap (λ b. filter (λ x. has_text x texts) (map specifier_of (take c.loop-external.external-index c.args.externals.now)) ++ (if b then s ∷ [] else [])) (sym there) ∙ sym more
      | else-contains w ↦
          let there : has_text s texts ≡ false = sym (known s) ∙ sym c.contains.ensures ∙ w.if-contains.false in
          ap (λ v. map text-of v.items) w.ordered-is ∙ before ∙ sym (append-nil (filter (λ x. has_text x texts) (map specifier_of (take c.loop-external.external-index c.args.externals.now))))
          ∙ ap (λ b. filter (λ x. has_text x texts) (map specifier_of (take c.loop-external.external-index c.args.externals.now)) ++ (if b then s ∷ [] else [])) (sym there) ∙ sym more
    ]

pub returns : goal.returns
returns c = λ texts known.
    c.loop-external.invariant texts known ∙ ap (λ l. filter (λ x. has_text x texts) (map specifier_of l)) (take_all c.loop-external.external-index c.args.externals.now c.loop-external-test.false)
