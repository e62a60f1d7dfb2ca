-- The nearest scope that binds the name says what it denotes.
use Rattle.std.proofs.Common.{refl, sym, ◌∙◌}
use Rattle.bundle_rules.specs.Homes.{is_arguments}
use Rattle.bundle_scope_denote.specs.Bound.{binds_at}
use Rattle.bundle_scope_denote.specs.Chains.{nearest_at}
use Rattle.bundle_scope_denote.specs.Numbers.{name_as}
use Rattle.bundle_scope_denote.specs.Searched.{keys_of}
use Rattle.bundle_scope_denote.specs.Steps.{scopes_of}
use Rattle.bundle_scope_denote.proofs.NearestLemmas.{nearest-walk, puts-there}
use Rattle.bundle_scope_denote.proofs.SearchLemmas.{found-walk, symbol-found}
use Rattle.bundle_scope_denote.proofs.denote.BindingSearch.by_symbol.Goals as goal

pub returns-then-not-is_arguments : goal.returns-then-not-is_arguments
returns-then-not-is_arguments c =
    let walk = c.args.walk.now in
    let old = c.args.self.now in
    let near = nearest_at (scopes_of walk) (binds_at (scopes_of walk) (keys_of old) (is_arguments c.args.name.sym.now) c.args.number) c.args.from in
    symbol-found walk old old c.args.name c.args.number c.args.from near c.nearest_key.result c.requires refl (puts-there old near (name_as c.args.name) c.args.number c.nearest_key.result (nearest-walk walk c.deref.result.now (keys_of old) (is_arguments c.args.name.sym.now) c.args.number c.args.from c.nearest_key.result c.deref.ensures.value (sym c.is_arguments.ensures ∙ c.if-not-is_arguments.true) c.nearest_key.ensures))

pub returns : goal.returns
returns c = symbol-found c.args.walk.now c.args.self.now _ c.args.name c.args.number c.args.from c.nearest-found.result c.in_ok-binding.binding c.requires (found-walk c.args.walk.now c.deref-2.result.now c.args.self.now.bindings.keys.keys _ _ c.args.number c.args.from c.nearest-found.result c.deref-2.ensures.value (sym (sym c.is_arguments.ensures ∙ c.if-not-is_arguments.false)) c.nearest-found.ensures) c.in_ok-binding.ensures
