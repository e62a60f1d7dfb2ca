-- What is merged is of the modules that were read, as they are linked.
use Rattle.std.proofs.Common.{List, subst}
use Rattle.std.proofs.lemmas.Result.{IfOk-weaker, IfErr-weaker}
use Rattle.bundle_order_sort.specs.declared.plan.Block.{Block}
use Rattle.bundle_merge.specs.Handed.{IsMadeOfRead, MayRefuseRead}
use Rattle.bundle_merge.specs.Ready.{hooks_by}
use Rattle.bundle_merge.proofs.HandedLemmas.{planned-same}
use Rattle.bundle_merge.proofs.Joining.{lacks-read, made-read, standing-read, taken-read}
use Rattle.bundle_merge.proofs.joined.merged_of.Goals as goal

pub returns-clause-merged : goal.returns-clause-merged
returns-clause-merged c =
    let linker = c.args.linker.now in
    let reads = c.args.reads.now in
    let plan = c.in_ok-plan.plan in
    let linking = c.in_ok-linking.linking in
    let planned =
    planned-same c.graph.result.now linker.linked.graph c.entry.result linker.entry
    c.list.result.now linker.linked.list.items plan c.graph.ensures c.entry.ensures c.list.ensures
    c.in_ok-plan.ensures in
    IfOk-weaker c.merged_by.result _ _
    (λ merged made p given local read.
    made-read p (hooks_by given) local linker c.args.next reads read linking
    c.in_ok-linking.ensures plan planned merged
    (subst (λ (l : List Block). IsMadeOfRead reads linking l c.args.next merged)
    c.deref.ensures.value made))
    c.merged_by.ensures.made

pub returns-clause-below : goal.returns-clause-below
returns-clause-below c =
    let linker = c.args.linker.now in
    let reads = c.args.reads.now in
    let plan = c.in_ok-plan.plan in
    let linking = c.in_ok-linking.linking in
    let planned =
    planned-same c.graph.result.now linker.linked.graph c.entry.result linker.entry
    c.list.result.now linker.linked.list.items plan c.graph.ensures c.entry.ensures c.list.ensures
    c.in_ok-plan.ensures in
    IfOk-weaker c.merged_by.result _ _
    (λ merged made p given local read.
    standing-read p (hooks_by given) local linker c.args.next reads read linking
    c.in_ok-linking.ensures plan planned merged
    (subst (λ (l : List Block). IsMadeOfRead reads linking l c.args.next merged)
    c.deref.ensures.value made))
    c.merged_by.ensures.made

pub returns-clause-taken : goal.returns-clause-taken
returns-clause-taken c =
    let linker = c.args.linker.now in
    let reads = c.args.reads.now in
    let plan = c.in_ok-plan.plan in
    let linking = c.in_ok-linking.linking in
    let planned =
    planned-same c.graph.result.now linker.linked.graph c.entry.result linker.entry
    c.list.result.now linker.linked.list.items plan c.graph.ensures c.entry.ensures c.list.ensures
    c.in_ok-plan.ensures in
    IfOk-weaker c.merged_by.result _ _
    (λ merged made p given local read full.
    taken-read p (hooks_by given) local linker c.args.next reads read linking
    c.in_ok-linking.ensures plan planned merged
    (subst (λ (l : List Block). IsMadeOfRead reads linking l c.args.next merged)
    c.deref.ensures.value made) full)
    c.merged_by.ensures.made

pub returns-clause-refused : goal.returns-clause-refused
returns-clause-refused c =
    let linker = c.args.linker.now in
    let reads = c.args.reads.now in
    let plan = c.in_ok-plan.plan in
    let linking = c.in_ok-linking.linking in
    let planned =
    planned-same c.graph.result.now linker.linked.graph c.entry.result linker.entry
    c.list.result.now linker.linked.list.items plan c.graph.ensures c.entry.ensures c.list.ensures
    c.in_ok-plan.ensures in
    IfErr-weaker c.merged_by.result _ _
    (λ refusal refused p given local read.
    lacks-read p (hooks_by given) local linker c.args.next reads read linking
    c.in_ok-linking.ensures plan planned refusal
    (subst (λ (l : List Block). MayRefuseRead reads linking l c.args.next refusal)
    c.deref.ensures.value refused))
    c.merged_by.ensures.refused
