-- The first three items say whether the export has a name.
use Rattle.std.proofs.Common.{map}
use Rattle.bundle_syntax.specs.Item.{item_of}
use Rattle.bundle_scope_denote.proofs.NamelessLemmas.{begins_nameless-first}
use Rattle.bundle_scope_denote.proofs.walk.is_nameless_default.Goals as goal

pub returns : goal.returns
returns c = let e = begins_nameless-first (map item_of c.args.rest.now) in cc
