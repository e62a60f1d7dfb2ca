-- A name more leaves the walk whole.
use Rattle.std.proofs.Common.{map, refl}
use Rattle.bundle_syntax.specs.Item.{item_of}
use Rattle.bundle_scope_denote.specs.Kinds.{reading_as, kind_as}
use Rattle.bundle_scope_denote.proofs.StartLemmas.{whole-keeps}
use Rattle.bundle_scope_denote.proofs.denote.go_over_with_arguments.Goals as goal

pub returns-clause-whole : goal.returns-clause-whole
returns-clause-whole c = whole-keeps (reading_as c.args.walk.now.reading) (kind_as c.args.walk.now.kind) (map item_of c.args.pieces.now) c.go_over.new.self _ c.in_ok-go_over.ensures.whole c.in_ok-number_of.ensures.keeps c.in_ok-number_of.ensures.once refl refl refl refl

pub returns-clause-arguments : goal.returns-clause-arguments
returns-clause-arguments c = (c.in_ok-number_of.field-0, c.in_ok-number_of.ensures.number)
