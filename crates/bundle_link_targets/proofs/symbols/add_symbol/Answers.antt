use Rattle.std.proofs.Common.{[], ◌++◌, Option, append-nil, ap, option_map, sym, ◌∙◌, subst}
use Rattle.std.specs.Prelude.{OnOk}
use Rattle.std.specs.List.{cons_option}
use Rattle.bundle_link_index.specs.declared.target.TargetRef.{TargetRef}
use Rattle.bundle_link_index.specs.Says.{target_of}
use Rattle.bundle_link_targets.specs.Symbols.{Calls, called_first}
use Rattle.bundle_link_targets.proofs.SymbolLemmas.{one-called}
use Rattle.bundle_link_targets.proofs.symbols.add_symbol.Goals as goal

pub returns-in-Some : goal.returns-in-Some
returns-in-Some c = λ before known.
    subst (λ (o : Option TargetRef). OnOk c.note_symbol.result (Calls c.note_symbol.new.symbols (before ++ cons_option (option_map (one-called c.args.symbol.now) o) []))) (sym c.in-Some.is) (c.note_symbol.ensures before known)

pub returns-in-None : goal.returns-in-None
returns-in-None c = λ before known t.
    known t ∙ ap (called_first (target_of t)) (sym (append-nil before) ∙ ap (λ (o : Option TargetRef). before ++ cons_option (option_map (one-called c.args.symbol.now) o) []) (sym c.in-None.is))
