use Rattle.std.proofs.Common.{◌≡◌, ℕ, ap, refl, sym, ◌∙◌}
use Rattle.bundle_rules.specs.Linking.{Namespace}
use Rattle.bundle_link_index.specs.Says.{target_of}
use Rattle.bundle_link_targets.specs.Meant.{LinksTo}
use Rattle.bundle_link_targets.specs.Found.{IsNameOf, targets_in}
use Rattle.bundle_link_targets.proofs.TakenLemmas.{Adds-same}
use Rattle.bundle_link_targets.specs.Handed.{AreLinkedIn}
use Rattle.bundle_link_targets.proofs.CallPlaceLemmas.{fills-none, fills-same}
use Rattle.bundle_link_targets.proofs.UseLemmas.{one-namespace}
use Rattle.bundle_link_targets.proofs.HandedLemmas.{name-links, links-name}
use Rattle.bundle_link_targets.proofs.meant.Meant.link_target.Goals as goal

pub returns-in_ok-link-in-Namespace-clause-right : goal.returns-in_ok-link-in-Namespace-clause-right
returns-in_ok-link-in-Namespace-clause-right c = λ p is are.
    let t = target_of c.args.target in
    let m = c.in-Namespace.which in
    let same : t ≡ Namespace m = ap target_of c.in-Namespace.is in
    Adds-same (targets_in c.args.self.now.targets) (targets_in c.link.new.self.targets) (LinksTo p m) (IsNameOf p t) (links-name p t m same) (name-links p t m same) (c.in_ok-link-in-Namespace.ensures.right p is are)

pub returns-in_ok-link-in-Namespace-clause-linked : goal.returns-in_ok-link-in-Namespace-clause-linked
returns-in_ok-link-in-Namespace-clause-linked c = λ p is are long.
    let t = target_of c.args.target in
    let m = c.in-Namespace.which in
    let same : t ≡ Namespace m = ap target_of c.in-Namespace.is in
    fills-same (AreLinkedIn p) (λ d. d ≡ m) (λ d. t ≡ Namespace d) c.args.self.now.linked.items c.link.new.self.linked.items (one-namespace t m same) (c.in_ok-link-in-Namespace.ensures.linked p is are long)

pub returns-in-Declared-clause-linked : goal.returns-in-Declared-clause-linked
returns-in-Declared-clause-linked c = λ p is are long.
    fills-none (AreLinkedIn p) (λ d. target_of c.args.target ≡ Namespace d) c.args.self.now.linked.items c.args.self.now.linked.items refl (λ (d : ℕ) same. let both = sym (ap target_of c.in-Declared.is) ∙ same in cc)

pub returns-in-External-clause-linked : goal.returns-in-External-clause-linked
returns-in-External-clause-linked c = λ p is are long.
    fills-none (AreLinkedIn p) (λ d. target_of c.args.target ≡ Namespace d) c.args.self.now.linked.items c.args.self.now.linked.items refl (λ (d : ℕ) same. let both = sym (ap target_of c.in-External.is) ∙ same in cc)

pub returns-in-CommonJs-clause-linked : goal.returns-in-CommonJs-clause-linked
returns-in-CommonJs-clause-linked c = λ p is are long.
    fills-none (AreLinkedIn p) (λ d. target_of c.args.target ≡ Namespace d) c.args.self.now.linked.items c.args.self.now.linked.items refl (λ (d : ℕ) same. let both = sym (ap target_of c.in-CommonJs.is) ∙ same in cc)
