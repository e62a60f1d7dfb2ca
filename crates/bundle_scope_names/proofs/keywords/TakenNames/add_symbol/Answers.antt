-- The name is there; one that begins otherwise is none of those that are asked for.
use Rattle.std.proofs.Common.{◌||◌, ◌&&◌, ap, ◌∙◌, bytes_eq}
use Rattle.bundle_scope_names.specs.Fresh.{has_symbol_at}
use Rattle.bundle_scope_names.proofs.HomesLemmas.{eq_comm, name-put}
use Rattle.bundle_scope_names.proofs.keywords.TakenNames.add_symbol.Goals as goal

pub returns-in_ok-insert-clause-names : goal.returns-in_ok-insert-clause-names
returns-in_ok-insert-clause-names c = λ other text mangled. name-put c.args.ctxt c.args.sym.now c.args.self.now.names.keys c.insert.new.self.keys c.in_ok-insert.ensures.updates.0 other text ∙ ap (λ b. has_symbol_at other text c.args.self.now.names.keys || (b && bytes_eq text c.args.sym.now)) (eq_comm c.args.ctxt other)
