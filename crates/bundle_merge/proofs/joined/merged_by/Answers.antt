-- What is merged is made of the modules that were read.
use Rattle.std.proofs.Common.{List, ap, refl, sym, subst}
use Rattle.std.specs.List.{AllZip}
use Rattle.std.specs.Prelude.{unwrap_or}
use Rattle.bundle_merge_names.specs.declared.part.BundleModule.{BundleModule}
use Rattle.bundle_merge.specs.Handed.{IsPartRead}
use Rattle.bundle_merge.proofs.HandedLemmas.{made-of-read, refused-of-read}
use Rattle.bundle_merge.proofs.joined.merged_by.Goals as goal

pub returns-clause-made : goal.returns-clause-made
returns-clause-made c =
    made-of-read c.args.reads.now c.args.linking.now c.args.blocks.now c.args.next _
    c.merge_modules.result c.merge_modules.ensures.merged c.merge_modules.ensures.few
    (record {
      parts =
          subst (λ (l : List BundleModule). AllZip IsPartRead c.args.reads.now l)
          (sym c.deref.ensures.value) c.in_ok-parts.ensures;
      answers = refl;
      linked = refl;
      its_blocks = refl;
      contexts = ap (λ o. unwrap_or o 4294967296) c.from_next.ensures;
    })

pub returns-clause-refused : goal.returns-clause-refused
returns-clause-refused c =
    refused-of-read c.args.reads.now c.args.linking.now c.args.blocks.now c.args.next _
    c.merge_modules.result c.merge_modules.ensures.refused
    (record {
      parts =
          subst (λ (l : List BundleModule). AllZip IsPartRead c.args.reads.now l)
          (sym c.deref.ensures.value) c.in_ok-parts.ensures;
      answers = refl;
      linked = refl;
      its_blocks = refl;
      contexts = ap (λ o. unwrap_or o 4294967296) c.from_next.ensures;
    })
