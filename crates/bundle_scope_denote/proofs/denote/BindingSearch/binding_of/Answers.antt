-- A declaration denotes its own binding, and a reference what its name denotes.
use Rattle.std.proofs.Common.{sym, subst}
use Rattle.bundle_rules.specs.Declarations as d
use Rattle.bundle_scope_denote.specs.declared.table.Reading.{Reading}
use Rattle.bundle_scope_denote.specs.Kinds.{reading_as}
use Rattle.bundle_scope_denote.specs.Numbers.{name_as}
use Rattle.bundle_scope_denote.specs.Searched.{DenotesSeen}
use Rattle.bundle_scope_denote.proofs.SearchLemmas.{named-walk, own-seen, name-seen}
use Rattle.bundle_scope_denote.proofs.denote.BindingSearch.binding_of.Goals as goal

pub returns-in-Some : goal.returns-in-Some
returns-in-Some c = subst (DenotesSeen (reading_as c.args.reading) c.args.walk.now c.args.of.now c.args.self.now c.args.self.now c.args.occurrence) (sym c.number_at.ensures) (own-seen (reading_as c.args.reading) c.args.walk.now c.args.of.now c.args.self.now c.args.occurrence c.in-Some.declaration c.in-Some.is)

pub returns-in_ok-binding-in-BySymbol : goal.returns-in_ok-binding-in-BySymbol
returns-in_ok-binding-in-BySymbol c = subst (λ (reading : Reading). DenotesSeen (reading_as reading) c.args.walk.now c.args.of.now c.args.self.now c.by_symbol.new.self c.args.occurrence c.in_ok-binding-in-BySymbol.binding) (sym c.in-BySymbol.is) (name-seen d.BySymbol c.args.walk.now c.args.of.now c.args.self.now _ c.args.occurrence (name_as c.index-name.result.now) _ c.in_default.is (named-walk c.args.walk.now c.args.occurrence.name c.index-name.result.now c.index-name.ensures) c.in_ok-binding-in-BySymbol.ensures)

pub returns-in_ok-binding-in-ByContext : goal.returns-in_ok-binding-in-ByContext
returns-in_ok-binding-in-ByContext c = subst (λ (reading : Reading). DenotesSeen (reading_as reading) c.args.walk.now c.args.of.now c.args.self.now c.by_context.new.self c.args.occurrence c.in_ok-binding-in-ByContext.binding) (sym c.in-ByContext.is) (name-seen d.ByContext c.args.walk.now c.args.of.now c.args.self.now _ c.args.occurrence (name_as c.index-name.result.now) _ c.in_default.is (named-walk c.args.walk.now c.args.occurrence.name c.index-name.result.now c.index-name.ensures) c.in_ok-binding-in-ByContext.ensures)
