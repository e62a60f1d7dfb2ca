-- What is found is so in the program.
use Rattle.std.proofs.Common.{ap, map, ◌∙◌, subst}
use Rattle.bundle_rules.specs.Linking.{HasExternalStar}
use Rattle.bundle_link_targets.specs.Found.{targets_in}
use Rattle.bundle_link_targets.specs.Lists.{list_in}
use Rattle.bundle_link_targets.specs.Taken.{PicksThose, specifier_of}
use Rattle.bundle_link_targets.proofs.CalledLemmas.{are-symbols}
use Rattle.bundle_link_targets.proofs.HandedLemmas.{are-externals, are-loads}
use Rattle.bundle_link_targets.proofs.TakenLemmas.{text-of}
use Rattle.bundle_link_targets.proofs.linking.Outside.new.Goals as goal

pub returns : goal.returns
returns c = λ p is are holds.
    let list = c.args.kinds.now.list.now in
    let targets = targets_in c.args.meant.now.targets in
    let found = c.in_ok-externals.externals.items in
    let outside = are-externals p c.args.kinds.now are list targets found c.in_ok-externals.ensures.specifiers c.in_ok-externals.ensures.taken holds in
    record {
      externals = outside;
      symbols = are-symbols p c.args.kinds.now are c.in_ok-symbols_of.field-0 c.in_ok-symbols_of.ensures;
      loads = λ m reached. are-loads p c.args.kinds.now are targets holds m (list_in c.in_ok-loads_of.field-0.items m) (c.in_ok-loads_of.ensures m ((are.reached m).1 reached));
      stars = subst (λ l. PicksThose (HasExternalStar p p.entry) l (map text-of c.in_ok-external_stars.external_stars.items)) (ap (map specifier_of) c.as_slice.ensures.value ∙ outside.specifiers) (c.in_ok-external_stars.ensures p is are);
    }
