use Rattle.std.proofs.Common.{[], ◌++◌, append-nil, ap, sym, ◌∙◌}
use Rattle.std.specs.List.{cons_option}
use Rattle.bundle_rules.specs.Nodes.{numbers_once}
use Rattle.bundle_link_targets.proofs.CalledLemmas.{numbers_put}
use Rattle.bundle_link_targets.proofs.taken.add_number.Goals as goal

pub returns-in_ok-insert-in-Some : goal.returns-in_ok-insert-in-Some
returns-in_ok-insert-in-Some c = λ before known.
    numbers_put before c.args.numbers.now.keys c.insert.new.self.keys c.in-Some.number c.in_ok-insert-in-Some.ensures.keys known
    ∙ ap (λ o. numbers_once (before ++ cons_option o [])) (sym c.in-Some.is)

pub returns-in-None : goal.returns-in-None
returns-in-None c = λ before known. known ∙ ap numbers_once (sym (append-nil before)) ∙ ap (λ o. numbers_once (before ++ cons_option o [])) (sym c.in-None.is)
