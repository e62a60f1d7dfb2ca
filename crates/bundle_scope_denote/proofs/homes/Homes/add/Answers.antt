-- The home of a declaration is added.
use Rattle.std.proofs.Common.{◌≡◌, Some, refl}
use Rattle.std.specs.Prelude.{slice_get}
use Rattle.bundle_scope_denote.specs.declared.table.Binding.{Binding}
use Rattle.bundle_scope_denote.proofs.LoopLemmas.{adds-home}
use Rattle.bundle_scope_denote.proofs.homes.Homes.add.Goals as goal

pub returns : goal.returns
returns c =
    let binding : Binding = record { scope = c.home_of-scope.result; sym = c.index-name.result.now.sym; ctxt = c.index-name.result.now.ctxt } in
    let named : slice_get c.args.walk.now.names.keys c.args.declaration.name ≡ Some c.index-name.result.now = c.index-name.ensures in
    adds-home c.args.walk.now c.args.parameters.now.keys c.args.declaration c.index-name.result.now c.alone_of-alone.result c.home_of-scope.result binding c.args.self.now _ c.in_ok-number.number named (c.alone_of-alone.ensures named) c.home_of-scope.ensures refl refl c.in_ok-number.ensures.keys c.in_ok-number.ensures.number c.in_ok-number.ensures.items c.in_ok-push.ensures.items
