-- Nothing is noted of the node but how it declares the names in it.
use Rattle.std.proofs.Common.{◌≡◌, cond, None, ap, sym, ◌∙◌}
use Rattle.bundle_syntax.specs.Item.{head_of}
use Rattle.bundle_rules.specs.Declarations.{is_pattern}
use Rattle.bundle_scope_denote.proofs.QuietLemmas.{quiet-opens}
use Rattle.bundle_scope_denote.proofs.StepLemmas.{on_ok}
use Rattle.bundle_scope_denote.proofs.walk.ScopeWalk.begin_quiet.Goals.{then-is_pattern, else-is_pattern}
use Rattle.bundle_scope_denote.proofs.walk.ScopeWalk.begin_quiet.Goals as goal

pub returns : goal.returns
returns c =
    let old = c.args.self.now in
    let head = head_of c.args.node.now in
    let way : c.if-is_pattern.way' ≡ cond (is_pattern head) old.inner.way None =
    elim c.if-is_pattern.branch [
      | then-is_pattern w ↦
          let same : c.if-is_pattern.way' ≡ old.inner.way = cc in
          same ∙ ap (λ b. cond b old.inner.way None) (sym (sym c.is_pattern.ensures ∙ w.if-is_pattern.true))
      | else-is_pattern w ↦
          let same : c.if-is_pattern.way' ≡ None = cc in
          same ∙ ap (λ b. cond b old.inner.way None) (sym (sym c.is_pattern.ensures ∙ w.if-is_pattern.false))
    ] in
    on_ok c.open.result (λ its place. quiet-opens old c.open.new.self place c.args.field head c.quiet.result c.requires c.quiet.ensures.bare (c.quiet.ensures.way ∙ way) (c.quiet.ensures.around ∙ c.scope_in-around.ensures) its) c.open.ensures
