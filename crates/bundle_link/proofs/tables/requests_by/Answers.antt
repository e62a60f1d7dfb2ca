-- The list is that of the module, and the texts are those that it asks for.
use Rattle.std.proofs.Common.{ap, ◌∙◌, subst, map}
use Rattle.bundle_tree_names.specs.FileName.{name_of}
use Rattle.bundle_syntax.specs.Item.{item_of}
use Rattle.bundle_rules.specs.Bound.{is_free}
use Rattle.bundle_rules.specs.Entries.{requests_of}
use Rattle.bundle_rules.specs.Faults.{IsFaultless}
use Rattle.bundle_link.proofs.tables.requests_by.Goals as goal

pub returns-clause-given : goal.returns-clause-given
returns-clause-given c = λ settings links.
    let file = name_of c.args.file.now in
    let listed = ap (map item_of) c.deref.ensures.value ∙ c.in_ok-pieces.ensures in (
      subst (IsFaultless file) listed c.in_ok-requests.ensures.faultless,
      c.in_ok-owned_texts.ensures ∙ ap (map (λ text. text.now)) c.deref-2.ensures.value ∙ c.in_ok-requests.ensures.given settings links ∙ ap (λ tree. requests_of settings (is_free tree) tree) listed,
    )
