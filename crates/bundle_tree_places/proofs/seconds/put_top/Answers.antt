-- A place is on top.
use Rattle.std.proofs.Common.{ℕ, suc, zero, None, Some, List, Option, reverse, get_or, ap, ◌∙◌}
use Rattle.bundle_tree_places.proofs.SecondLemmas.{reverse_push}
use Rattle.bundle_tree_places.proofs.seconds.put_top.Goals as goal

pub returns-clause-top : goal.returns-clause-top
returns-clause-top c = ap (λ (l : List (Option ℕ)). get_or (reverse l) zero None) c.in_ok-push.ensures.items ∙ ap (λ (l : List (Option ℕ)). get_or l zero None) (reverse_push c.drop_top.new.stack.items (Some c.args.place))

pub returns-clause-more : goal.returns-clause-more
returns-clause-more c = λ depth. ap (λ (l : List (Option ℕ)). get_or (reverse l) (suc depth) None) c.in_ok-push.ensures.items ∙ (ap (λ (l : List (Option ℕ)). get_or l (suc depth) None) (reverse_push c.drop_top.new.stack.items (Some c.args.place)) ∙ c.drop_top.ensures depth)
