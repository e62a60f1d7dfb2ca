-- What is read of the list is that of the module.
use Rattle.std.proofs.Common.{ap, refl, sym, ◌∙◌, subst, map}
use Rattle.std.specs.Option.{option_map}
use Rattle.bundle_scope_denote.specs.Listed.{IsDenotationTable, place_and_symbol}
use Rattle.bundle_syntax.specs.Item.{item_of}
use Rattle.bundle_rules.specs.Declarations.{BySymbol}
use Rattle.bundle_rules.specs.Scopes.{Cjs, Es}
use Rattle.bundle_rules.specs.Doubled.{first_doubled}
use Rattle.bundle_rules.specs.Entries.{has_import_meta}
use Rattle.bundle_rules.specs.Faults.{IsFaultless}
use Rattle.bundle_link.specs.Read.{AreTablesOf}
use Rattle.bundler_entry.proofs.SourceLemmas.{read_as}
use Rattle.bundler_entry.proofs.source.source_of.Goals as goal

pub tables_in-requires : goal.tables_in-requires
tables_in-requires c = record {
  table = subst (λ xs. IsDenotationTable BySymbol Es (map item_of xs) c.in_ok-named.named.names) (c.as_slice.ensures.value ∙ sym c.as_slice-2.ensures.value) c.in_ok-named.ensures.names;
  faultless = (c.requires.faultless.0, subst (IsFaultless c.requires.faultless.0) (sym (ap (map item_of) c.as_slice-2.ensures.value ∙ c.in_ok-pieces.ensures)) c.requires.faultless.1);
  external = c.requires.external;
}

pub returns : goal.returns
returns c = λ p m links there.
    let first = ap (map item_of) c.as_slice.ensures.value ∙ c.in_ok-pieces.ensures in
    let list = ap (map item_of) c.as_slice-2.ensures.value ∙ c.in_ok-pieces.ensures in
    let last = ap (map item_of) c.as_slice-3.ensures.value ∙ c.in_ok-pieces.ensures in
    read_as p m c.args.config.now c.requires.faultless.0 c.args.loaded.now _ links there refl refl
    (subst (λ xs. IsDenotationTable BySymbol Es xs c.in_ok-named.named.names) first c.in_ok-named.ensures.names)
    (c.in_ok-named.ensures.doubled ∙ ap (λ xs. option_map place_and_symbol (first_doubled Es xs)) first)
    (λ asked. c.in_ok-common_js.ensures (c.may_be_common_js-is_asked.ensures ∙ asked)
    ∙ ap (λ xs. option_map place_and_symbol (first_doubled Cjs xs)) last)
    (subst (λ tree. AreTablesOf c.args.config.now c.requires.faultless.0 tree c.in_ok-tables.tables) list (c.in_ok-tables.ensures.given c.requires.faultless.0))
    (c.in_ok-tables.ensures.meta ∙ ap has_import_meta list)
