use Rattle.std.proofs.Common.{sym, ◌∙◌}
use Rattle.bundle_link_index.proofs.ReachLemmas.{alone_by_star, alone_by_holder, none_by_holder}
use Rattle.bundle_link_index.proofs.line.next_by_stars.Goals as goal

pub returns-then-contains_key-clause-right : goal.returns-then-contains_key-clause-right
returns-then-contains_key-clause-right c = alone_by_star c.args.index.now c.args.at.0 c.args.at.1 c.in-Some.star c.requires.none (λ e. c.if-name-default.false (e ∙ sym c.default.ensures)) c.in-Some.ensures

pub returns-in-Missing-clause-right : goal.returns-in-Missing-clause-right
returns-in-Missing-clause-right c = none_by_holder c.args.index.now c.args.at.0 c.args.at.1 c.note_reach.new.reach.modules.keys c.in_ok-note_reach.ensures.right c.in-Missing.ensures

pub returns-in-One-clause-right : goal.returns-in-One-clause-right
returns-in-One-clause-right c = alone_by_holder c.args.index.now c.args.at.0 c.args.at.1 c.note_reach.new.reach.modules.keys c.requires.none (λ e. c.if-name-default.false (e ∙ sym c.default.ensures)) c.in_ok-note_reach.ensures.right c.in-One.holder c.in-One.ensures
