-- The tables are those of the list, which has no fault.
use Rattle.std.proofs.Common.{subst, sym}
use Rattle.bundle_link_tables.specs.Sources.{HasTexts}
use Rattle.bundler_entry.proofs.source.tables_in.Goals as goal

pub returns-clause-given : goal.returns-clause-given
returns-clause-given c = λ file.
    let judged = rw c.in-Ok.is at (c.in_ok-tables.ensures.judged file c.requires.table) in
    let requests = rw c.in-Ok.is at c.in_ok-tables.ensures.requests in
    let calls = rw c.in-Ok.is at c.in_ok-tables.ensures.calls in
    let arguments = rw c.in-Ok.is at c.in_ok-tables.ensures.arguments in
    let common_js = rw c.in-Ok.is at c.in_ok-tables.ensures.common_js in
    let uses = rw c.in-Ok.is at c.in_ok-tables.ensures.uses in
    let sources = rw c.in-Ok.is at c.in_ok-tables.ensures.sources in
    record {
      faultless = judged;
      requests = λ settings links. requests settings links.0 (subst (HasTexts c.args.external.now) (sym links.1) c.requires.external) c.requires.table;
      imports = rw c.in-Ok.is at c.in_ok-tables.ensures.imports;
      exports = rw c.in-Ok.is at c.in_ok-tables.ensures.exports;
      stars = rw c.in-Ok.is at c.in_ok-tables.ensures.stars;
      sources = λ settings links. sources settings.external (subst (HasTexts c.args.external.now) (sym links.1) c.requires.external);
      calls = λ settings links. calls settings links.0 (subst (HasTexts c.args.external.now) (sym links.1) c.requires.external) c.requires.table;
      script = rw c.in-Ok.is at c.in_ok-tables.ensures.script;
      common_js = common_js c.requires.table;
      awaits = rw c.in-Ok.is at c.in_ok-tables.ensures.awaits;
      arguments = arguments c.requires.table;
      names = rw c.in-Ok.is at c.in_ok-tables.ensures.asked;
      uses = uses c.requires.table;
    }

pub returns-clause-meta : goal.returns-clause-meta
returns-clause-meta c = rw c.in-Ok.is at c.in_ok-tables.ensures.meta

pub unreachable-requires : goal.unreachable-requires
unreachable-requires c =
    let first = rw c.in-Err.is at (c.in_ok-tables.ensures.judged c.requires.faultless.0 c.requires.table) in
    c.requires.faultless.1 first.stage first.place _ first.there
