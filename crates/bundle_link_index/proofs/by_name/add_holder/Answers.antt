use Rattle.std.proofs.Common.{[], ◌∷◌, ◌++◌, nat_eq, ap, sym, ◌∙◌}
use Rattle.std.specs.Prelude.{map}
use Rattle.std.specs.Option.{option_copied_mut}
use Rattle.indexmap.specs.IndexMap.{IndexMap, insert_entry}
use Rattle.bundle_link_index.specs.Reached.{held_entry}
use Rattle.bundle_link_index.proofs.ReachLemmas.{put_written, put_inserted}
use Rattle.bundle_link_index.proofs.by_name.add_holder.Goals as goal

pub returns-in-Some : goal.returns-in-Some
returns-in-Some c =
    let there = sym c.get_mut.ensures.value ∙ ap option_copied_mut c.in-Some.is in
    ap (map held_entry) (c.get_mut.follows.holds c.push.new.self).0 ∙ put_written c.args.holders.now.entries c.args.name c.args.number c.in-Some.modules.now c.push.new.self there c.in_ok-push.ensures.items

pub returns : goal.returns
returns c =
    let items = c.in_ok-push-2.ensures.items ∙ ap (λ l. l ++ c.args.number ∷ []) c.new-modules.ensures.items in
    ap (map held_entry) c.in_ok-insert.ensures.entries
    ∙ ap (λ (m : IndexMap _ _ _). map held_entry (insert_entry nat_eq m.entries c.args.name c.push-2.new.self)) c.get_mut.follows.holds-at-none
    ∙ put_inserted c.args.holders.now.entries c.args.name c.args.number c.push-2.new.self (sym c.in_default.ensures.value) items
