-- A global is marked.
use Rattle.std.proofs.Common.{refl, sym, map}
use Rattle.bundle_scope_denote.specs.Numbers.{numbered_scope}
use Rattle.bundle_scope_names.proofs.SymbolLemmas.{adds-one}
use Rattle.bundle_scope_names.proofs.hygiene.Hygiene.add_global.Goals as goal

pub returns : goal.returns
returns c = adds-one (map numbered_scope c.args.scopes.now) c.args.occurrence.scope _ c.in-Some.sym.now c.args.self.now _ (sym c.in-Some.ensures) refl (c.in_ok-mark.ensures c.args.self.now.symbols.keys c.in-Some.sym.now (sym c.in-Some-get_index_of.ensures.index)) refl refl refl
