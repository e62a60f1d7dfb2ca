-- The texts are those that the list asks for, and the fault is its first.
use Rattle.std.proofs.Common.{sym, subst, map}
use Rattle.std.specs.Prelude.{IfSome}
use Rattle.bundle_tree_names.specs.FileName.{name_of}
use Rattle.bundle_syntax.specs.Item.{item_of}
use Rattle.bundle_link_tables.specs.Sources.{HasTexts}
use Rattle.bundle_rules.specs.Faults.{IsFirstTreeFault}
use Rattle.bundle_link.proofs.tables.requested.Goals as goal

pub returns-in-Ok-clause-faultless : goal.returns-in-Ok-clause-faultless
returns-in-Ok-clause-faultless c = rw c.in-Ok.is at (c.in_ok-answer.ensures.judged (name_of c.args.file.now))

pub returns-in-Ok-clause-given : goal.returns-in-Ok-clause-given
returns-in-Ok-clause-given c = λ settings links.
    let requests = rw c.in-Ok.is at c.in_ok-answer.ensures.requests in
    requests settings links.0 (subst (HasTexts c.args.external.now) (sym links.1) c.requires)

pub returns-in_ok-tree_refusal-in-Err-clause-refused : goal.returns-in_ok-tree_refusal-in-Err-clause-refused
returns-in_ok-tree_refusal-in-Err-clause-refused c =
    let first = rw c.in-Err.is at (c.in_ok-answer.ensures.judged (name_of c.args.file.now)) in
    subst (λ told. IfSome told (IsFirstTreeFault (name_of c.args.file.now) (map item_of c.args.pieces.now))) (sym c.in_ok-tree_refusal-in-Err.ensures) first
