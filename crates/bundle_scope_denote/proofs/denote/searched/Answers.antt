-- The tables tell what each occurrence denotes.
use Rattle.std.proofs.Common.{refl, sym, subst}
use Rattle.bundle_scope_denote.specs.declared.denote.BindingSearch.{BindingSearch}
use Rattle.bundle_scope_denote.specs.Kinds.{reading_as}
use Rattle.bundle_scope_denote.specs.Searched.{Searches}
use Rattle.bundle_scope_denote.proofs.TableLemmas.{table-made}
use Rattle.bundle_scope_denote.proofs.denote.searched.Goals as goal

pub homes_of-requires : goal.homes_of-requires
homes_of-requires c = c.requires.named

pub entries-requires : goal.entries-requires
entries-requires c = c.requires.seen

pub returns : goal.returns
returns c =
    let first : BindingSearch = record { bindings = c.in_ok-homes.homes.bindings; implied = c.in_ok-implied.implied } in
    λ kind items whole arguments table scopes bindings occurrences. table-made (reading_as c.args.walk.now.reading) kind items c.args.walk.now c.in_ok-homes.homes c.deref.result.now first c.entries.new.self table whole arguments c.in_ok-homes.ensures c.in_ok-implied.ensures refl refl c.deref.ensures.value (subst (λ l. Searches (reading_as c.args.walk.now.reading) c.args.walk.now c.deref.result.now first c.entries.new.self l c.args.walk.now.occurrences.items) (sym occurrences) c.in_ok-occurrences.ensures) scopes bindings
