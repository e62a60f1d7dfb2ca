use Rattle.std.proofs.Common.{ap, map, ◌∙◌}
use Rattle.std.proofs.lemmas.List.{take_all}
use Rattle.bundle_link_targets.specs.Found.{targets_in}
use Rattle.bundle_link_targets.specs.Taken.{IsExternal, specifier_of}
use Rattle.bundle_link_targets.proofs.TakenLemmas.{all-none, all-push, seen-push, text-of}
use Rattle.bundle_link_targets.proofs.taken.externals_of.Goals as goal

pub loop-specifier-init : goal.loop-specifier-init
loop-specifier-init c = record {
  specifiers = ap (map specifier_of) c.new-externals.ensures.items;
  taken = all-none (IsExternal (targets_in c.args.meant.now)) c.new-externals.result.items c.new-externals.ensures.items;
}

pub loop-specifier-preserved : goal.loop-specifier-preserved
loop-specifier-preserved c =
    let inv = c.loop-specifier.invariant in
    let old = c.loop-specifier.externals.items in
    let new = c.push.new.self.items in
    let put = c.in_ok-push.ensures.items in
    record {
      specifiers = seen-push specifier_of text-of old new c.in_ok-external_of.field-0 c.as_slice-all.result.now c.loop-specifier.specifier-index _ put inv.specifiers c.in_ok-external_of.ensures.specifier c.loop-specifier-test.true;
      taken = all-push (IsExternal (targets_in c.args.meant.now)) old new c.in_ok-external_of.field-0 put inv.taken (c.in_ok-external_of.ensures.taken c.in_ok-names.ensures);
    }

pub returns-clause-specifiers : goal.returns-clause-specifiers
returns-clause-specifiers c =
    c.loop-specifier.invariant.specifiers
    ∙ ap (map text-of) (take_all c.loop-specifier.specifier-index c.as_slice-all.result.now c.loop-specifier-test.false ∙ c.as_slice-all.ensures.keys)
    ∙ c.in_ok-specifiers.ensures
