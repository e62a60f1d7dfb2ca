-- A module that is told to be CommonJS is read as one.
use Rattle.std.proofs.Common.{Bool, ap, sym, ◌∙◌}
use Rattle.std.specs.Prelude.{if◌then◌else◌}
use Rattle.bundle_rules.specs.Scopes.{Es, Cjs}
use Rattle.bundle_merge.proofs.KindLemmas.{kind-is}
use Rattle.bundle_merge.proofs.read.kind_of.Goals as goal

pub returns-then-is_cjs : goal.returns-then-is_cjs
returns-then-is_cjs c = λ p kind w has.
    sym (kind-is p c.args.id c.is_cjs.result kind (c.is_cjs.ensures.told p w) has
    ∙ ap (λ (b : Bool). if b then Cjs else Es) c.if-is_cjs.true)

pub returns-else-is_cjs : goal.returns-else-is_cjs
returns-else-is_cjs c = λ p kind w has.
    sym (kind-is p c.args.id c.is_cjs.result kind (c.is_cjs.ensures.told p w) has
    ∙ ap (λ (b : Bool). if b then Cjs else Es) c.if-is_cjs.false)
