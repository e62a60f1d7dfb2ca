-- The binding of the name in the scope that was found has a number.
use Rattle.std.proofs.Common.{refl}
use Rattle.bundle_scope_denote.specs.declared.table.Binding.{Binding}
use Rattle.bundle_scope_denote.specs.Numbers.{name_as}
use Rattle.bundle_scope_denote.proofs.SearchLemmas.{puts-none, puts-some}
use Rattle.bundle_scope_denote.proofs.denote.BindingSearch.put.Goals as goal

pub returns-in_default : goal.returns-in_default
returns-in_default c = puts-none c.args.self.now c.args.found (name_as c.args.name) c.args.number c.in_default.is

pub returns : goal.returns
returns c =
    let binding : Binding = record { scope = c.in-Some.scope; sym = c.args.name.sym; ctxt = c.args.name.ctxt } in
    puts-some c.args.self.now _ c.args.found c.in-Some.scope (name_as c.args.name) c.args.number c.in_ok-number.number binding c.in-Some.is c.in_ok-number.ensures.keys c.in_ok-number.ensures.number c.in_ok-number.ensures.items refl refl refl
