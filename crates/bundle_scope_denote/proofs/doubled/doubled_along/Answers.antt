-- The walk is that of the whole list.
use Rattle.std.proofs.Common.{map, ap, subst}
use Rattle.bundle_syntax.specs.Item.{item_of}
use Rattle.bundle_rules.specs.Declarations.{Reading}
use Rattle.bundle_scope_denote.specs.Kinds.{kind_as, reading_as}
use Rattle.bundle_scope_denote.specs.Steps.{IsWholeWalk}
use Rattle.bundle_scope_denote.proofs.StartLemmas.{whole-named}
use Rattle.bundle_scope_denote.proofs.TableLemmas.{if_ok}
use Rattle.bundle_scope_denote.proofs.doubled.doubled_along.Goals as goal

pub first_met-requires : goal.first_met-requires
first_met-requires c = whole-named (reading_as c.args.walk.now.reading) (kind_as c.args.walk.now.kind) (map item_of c.args.pieces.now) c.go_over.new.self c.in_ok-go_over.ensures.whole

pub returns : goal.returns
returns c =
    let whole = subst (λ (r : Reading). IsWholeWalk c.go_over.new.self r (kind_as c.args.walk.now.kind) (map item_of c.args.pieces.now)) (ap reading_as c.requires.reading) c.in_ok-go_over.ensures.whole in
    if_ok c.first_met.result (λ found tells. tells (kind_as c.args.walk.now.kind) (map item_of c.args.pieces.now) whole) c.first_met.ensures
