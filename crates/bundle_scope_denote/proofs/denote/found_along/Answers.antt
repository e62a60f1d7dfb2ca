-- The walk that was searched is that of the whole list.
use Rattle.std.proofs.Common.{map, ap}
use Rattle.bundle_syntax.specs.Item.{item_of}
use Rattle.bundle_scope_denote.specs.Kinds.{reading_as, kind_as}
use Rattle.bundle_scope_denote.proofs.StartLemmas.{whole-named, whole-seen}
use Rattle.bundle_scope_denote.proofs.TableLemmas.{if_ok, whole-made}
use Rattle.bundle_scope_denote.proofs.denote.found_along.Goals as goal

pub searched-requires-clause-named : goal.searched-requires-clause-named
searched-requires-clause-named c = whole-named (reading_as c.args.walk.now.reading) (kind_as c.args.walk.now.kind) (map item_of c.args.pieces.now) c.go_over_with_arguments.new.walk c.in_ok-go_over_with_arguments.ensures.whole

pub searched-requires-clause-seen : goal.searched-requires-clause-seen
searched-requires-clause-seen c = whole-seen (reading_as c.args.walk.now.reading) (kind_as c.args.walk.now.kind) (map item_of c.args.pieces.now) c.go_over_with_arguments.new.walk c.in_ok-go_over_with_arguments.ensures.whole

pub returns : goal.returns
returns c = if_ok c.searched.result (λ found made. whole-made (reading_as c.args.walk.now.reading) (kind_as c.args.walk.now.kind) (map item_of c.args.pieces.now) c.go_over_with_arguments.new.walk found (ap reading_as c.in_ok-go_over_with_arguments.ensures.stays.reading) c.in_ok-go_over_with_arguments.ensures.whole c.in_ok-go_over_with_arguments.ensures.arguments made) c.searched.ensures
