-- The expression is made of the identifier that has the name.
use Rattle.std.proofs.Common.{refl}
use Rattle.bundle_tree.proofs.id.ExprFromId.from.Goals as goal

pub returns : goal.returns
returns c = record { ident = c.into_ident.result; is = refl; named = c.into_ident.ensures }
