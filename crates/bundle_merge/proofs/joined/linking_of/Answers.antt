-- The modules are linked as they were read.
use Rattle.std.proofs.Common.{List, sym, subst}
use Rattle.std.specs.List.{AllZip}
use Rattle.bundle_link_index.specs.declared.target.LinkModule.{LinkModule}
use Rattle.bundle_merge.specs.Handed.{IsLinkRead}
use Rattle.bundle_merge.proofs.HandedLemmas.{linked-read}
use Rattle.bundle_merge.proofs.joined.linking_of.Goals as goal

pub returns : goal.returns
returns c =
    linked-read c.args.linker.now c.args.reads.now c.deref.result.now c.linking_of.result
    (subst (λ (l : List LinkModule). AllZip IsLinkRead c.args.reads.now l)
    (sym c.deref.ensures.value) c.in_ok-modules.ensures)
    c.linking_of.ensures.linked c.linking_of.ensures.handed
