use Rattle.std.proofs.Common.{◌≡◌, true, false, not, is_some, sym, ap, ◌∙◌}
use Rattle.bundle_link_index.specs.Graph.{graph_of, own_of}
use Rattle.bundle_link_index.proofs.SearchLemmas.{PutsOwn-there, PutsOwn-new}
use Rattle.bundle_link_index.proofs.links.Links.add_own.Goals as goal

pub returns-in_ok-insert-clause-own : goal.returns-in_ok-insert-clause-own
returns-in_ok-insert-clause-own c =
    let old = graph_of c.args.self.now in
    let new = graph_of (record c.args.self.now { own = c.insert.new.self }) in
    let none : is_some (own_of old c.args.at) ≡ false = ap is_some (sym c.own.ensures) ∙ (c.is_none.ensures ∙ ap not c.if-is_none.true) in
    PutsOwn-new old new c.args.at c.args.own none c.in_ok-insert.ensures.updates.0

pub returns-else-is_none-clause-own : goal.returns-else-is_none-clause-own
returns-else-is_none-clause-own c =
    let old = graph_of c.args.self.now in
    let there : is_some (own_of old c.args.at) ≡ true = ap is_some (sym c.own.ensures) ∙ (c.is_none.ensures ∙ ap not c.if-is_none.false) in
    PutsOwn-there old c.args.at c.args.own there
