-- Of a node for which nothing is to be noted, what comes behind it says nothing either.
use Rattle.std.proofs.Common.{◌≡◌, false, drop, map, ap, sym, subst, ◌∙◌}
use Rattle.std.proofs.lemmas.List.{drop-map}
use Rattle.bundle_syntax.specs.Item.{head_of, item_of}
use Rattle.bundle_scope_denote.specs.Walked.{begins_nameless}
use Rattle.bundle_scope_denote.specs.Steps.{BeginsNode}
use Rattle.bundle_scope_denote.proofs.QuietLemmas.{quiet-nameless}
use Rattle.bundle_scope_denote.proofs.StepLemmas.{on_ok}
use Rattle.bundle_scope_denote.proofs.walk.ScopeWalk.begin.Goals as goal

pub returns-then-is_quiet : goal.returns-then-is_quiet
returns-then-is_quiet c =
    let pieces = c.args.pieces.now in
    let place = c.args.place in
    let head = head_of c.args.node.now in
    let nameless : begins_nameless (map item_of (drop place pieces)) ≡ false =
    ap begins_nameless (sym (drop-map item_of place pieces)) ∙ quiet-nameless (map item_of pieces) place c.args.field head c.requires.at (sym c.is_quiet.ensures ∙ c.if-is_quiet.true) in
    on_ok c.begin_quiet.result (λ its. subst (BeginsNode c.args.self.now c.begin_quiet.new.self place c.args.field head) (sym nameless) (its place)) c.begin_quiet.ensures
