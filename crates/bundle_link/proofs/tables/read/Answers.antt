-- The list is that of the module.
use Rattle.std.proofs.Common.{ap, ◌∙◌, subst, map}
use Rattle.std.proofs.lemmas.Result.{IfErr-weaker, IfOk-weaker}
use Rattle.bundle_syntax.specs.Item.{item_of}
use Rattle.bundle_tree_names.specs.FileName.{name_of}
use Rattle.bundle_link.specs.Read.{AreTablesOf}
use Rattle.bundle_link.specs.Refusals.{IsTreeRefusal}
use Rattle.bundle_link.proofs.tables.read.Goals as goal

pub returns-clause-refused : goal.returns-clause-refused
returns-clause-refused c =
    let file = name_of c.args.file.now in
    IfErr-weaker c.read_list.result _ _ (λ error known. subst (λ tree. IsTreeRefusal file tree error) (ap (map item_of) c.deref.ensures.value ∙ c.in_ok-pieces.ensures) known) c.read_list.ensures.refused

pub returns-clause-given : goal.returns-clause-given
returns-clause-given c =
    let file = name_of c.args.file.now in
    IfOk-weaker c.read_list.result _ _ (λ tables known. subst (λ tree. AreTablesOf c.args.config.now file tree tables) (ap (map item_of) c.deref.ensures.value ∙ c.in_ok-pieces.ensures) known) c.read_list.ensures.given
