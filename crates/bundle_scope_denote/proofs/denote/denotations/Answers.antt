-- The table is that of the whole list.
use Rattle.std.proofs.Common.{map, ap, subst}
use Rattle.bundle_syntax.specs.Item.{item_of}
use Rattle.bundle_rules.specs.Scopes.{ModuleKind}
use Rattle.bundle_rules.specs.Declarations.{Reading}
use Rattle.bundle_scope_denote.specs.Kinds.{reading_as, kind_as}
use Rattle.bundle_scope_denote.specs.Searched.{MakesTable}
use Rattle.bundle_scope_denote.proofs.denote.denotations.Goals as goal

pub returns : goal.returns
returns c =
    let made = subst (λ (k : ModuleKind). MakesTable (reading_as c.new-walk.result.reading) k (map item_of c.args.pieces.now) c.found_along.new.walk c.in_ok-found.found) (ap kind_as c.new-walk.ensures.kind) c.in_ok-found.ensures in
    subst (λ (r : Reading). MakesTable r (kind_as c.args.kind) (map item_of c.args.pieces.now) c.found_along.new.walk c.in_ok-found.found) (ap reading_as c.new-walk.ensures.reading) made c.table_of.result c.table_of.ensures.scopes c.table_of.ensures.bindings c.table_of.ensures.occurrences
