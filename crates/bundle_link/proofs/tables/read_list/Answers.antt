-- The tables are those of the list, and the fault is its first.
use Rattle.std.proofs.Common.{sym, subst, map}
use Rattle.std.specs.Prelude.{IfSome}
use Rattle.bundle_tree_names.specs.FileName.{name_of}
use Rattle.bundle_syntax.specs.Item.{item_of}
use Rattle.bundle_link_tables.specs.Sources.{HasTexts}
use Rattle.bundle_rules.specs.Faults.{IsFirstTreeFault}
use Rattle.bundle_link.proofs.tables.read_list.Goals as goal

pub returns-in-Ok-clause-given : goal.returns-in-Ok-clause-given
returns-in-Ok-clause-given c =
    let file = name_of c.args.file.now in
    let judged = rw c.in-Ok.is at (c.in_ok-answer.ensures.judged file c.in_ok-names.ensures) in
    let requests = rw c.in-Ok.is at c.in_ok-answer.ensures.requests in
    let calls = rw c.in-Ok.is at c.in_ok-answer.ensures.calls in
    let arguments = rw c.in-Ok.is at c.in_ok-answer.ensures.arguments in
    let common_js = rw c.in-Ok.is at c.in_ok-answer.ensures.common_js in
    let uses = rw c.in-Ok.is at c.in_ok-answer.ensures.uses in
    let sources = rw c.in-Ok.is at c.in_ok-answer.ensures.sources in
    record {
      faultless = judged;
      requests = λ settings links. requests settings links.0 (subst (HasTexts c.args.external.now) (sym links.1) c.requires) c.in_ok-names.ensures;
      imports = rw c.in-Ok.is at c.in_ok-answer.ensures.imports;
      exports = rw c.in-Ok.is at c.in_ok-answer.ensures.exports;
      stars = rw c.in-Ok.is at c.in_ok-answer.ensures.stars;
      sources = λ settings links. sources settings.external (subst (HasTexts c.args.external.now) (sym links.1) c.requires);
      calls = λ settings links. calls settings links.0 (subst (HasTexts c.args.external.now) (sym links.1) c.requires) c.in_ok-names.ensures;
      script = rw c.in-Ok.is at c.in_ok-answer.ensures.script;
      common_js = common_js c.in_ok-names.ensures;
      awaits = rw c.in-Ok.is at c.in_ok-answer.ensures.awaits;
      arguments = arguments c.in_ok-names.ensures;
      names = rw c.in-Ok.is at c.in_ok-answer.ensures.asked;
      uses = uses c.in_ok-names.ensures;
    }

pub returns-clause-refused : goal.returns-clause-refused
returns-clause-refused c =
    let file = name_of c.args.file.now in
    let first = rw c.in-Err.is at (c.in_ok-answer.ensures.judged file c.in_ok-names.ensures) in
    subst (λ told. IfSome told (IsFirstTreeFault file (map item_of c.args.pieces.now))) (sym c.in_ok-tree_refusal-in-Err.ensures) first

pub returns-in-Ok-clause-meta : goal.returns-in-Ok-clause-meta
returns-in-Ok-clause-meta c = rw c.in-Ok.is at c.in_ok-answer.ensures.meta
