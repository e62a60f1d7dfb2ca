-- The set of names knows where a name stands.
use Rattle.std.proofs.Common.{None, refl}
use Rattle.bundle_scope_denote.specs.declared.walk.NameKey.{NameKey}
use Rattle.bundle_scope_denote.proofs.NameLemmas.{finds-alone}
use Rattle.bundle_scope_denote.proofs.homes.without_context.Goals as goal

pub returns : goal.returns
returns c =
    let name : NameKey = record { sym = c.args.sym; ctxt = None } in
    finds-alone c.args.names.now.keys name c.get_index_of.result refl c.get_index_of.ensures.index c.get_index_of.ensures.found
