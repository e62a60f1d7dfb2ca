use Rattle.std.proofs.Common.{[]}
use Rattle.std.specs.List.{flat_map}
use Rattle.bundle_link_targets.specs.Symbols.{imports_called}
use Rattle.bundle_link_targets.proofs.SymbolLemmas.{calls-nothing}
use Rattle.bundle_link_targets.proofs.symbols.symbols_of.Goals as goal

pub returns : goal.returns
returns c = c.in_ok-add_all_exports.ensures (flat_map (imports_called c.args.kinds.now) c.args.kinds.now.list.now) (c.in_ok-add_all_imports.ensures [] (calls-nothing c.new-symbols.result c.new-symbols.ensures.empty))
