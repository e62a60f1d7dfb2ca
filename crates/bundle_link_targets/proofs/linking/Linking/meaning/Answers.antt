use Rattle.std.proofs.Common.{Option, None, ap, sym, ◌∙◌, subst}
use Rattle.std.specs.Prelude.{slice_get, unwrap_or}
use Rattle.bundle_rules.specs.Program.{tree_of}
use Rattle.bundle_link_tables.specs.Used.{UseEntry, uses_of}
use Rattle.bundle_link_targets.specs.declared.target.Meaning.{Meaning}
use Rattle.bundle_link_targets.specs.Found.{IsMeaning}
use Rattle.bundle_link_targets.specs.Lists.{list_in}
use Rattle.bundle_link_targets.proofs.CallPlaceLemmas.{zip-at}
use Rattle.bundle_link_targets.proofs.linking.Linking.meaning.Goals as goal

pub returns : goal.returns
returns c = λ p w reached its there.
    let m = c.args.which in
    let k = c.args.number in
    let found = list_in c.args.self.now.meant.meanings.items m in
    let at = zip-at (λ (u : UseEntry) (o : Option Meaning). IsMeaning p m u.local u.words o) (uses_of (tree_of p m)) found (w.meanings m reached) k its there in
    subst (IsMeaning p m its.local its.words) (sym (c.meaning_at.ensures ∙ ap (λ l. unwrap_or (slice_get l k) None) c.list_at.ensures ∙ ap (λ o. unwrap_or o None) at.1)) at.2
