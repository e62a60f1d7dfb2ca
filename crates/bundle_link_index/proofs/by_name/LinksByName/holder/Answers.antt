use Rattle.std.proofs.Common.{◌≡◌, ap, sym, ◌∙◌, subst}
use Rattle.std.specs.Option.{option_copied}
use Rattle.bundle_link_index.specs.declared.answer.Candidates.TheVariants.{Missing}
use Rattle.bundle_link_index.specs.Graph.{Graph}
use Rattle.bundle_link_index.specs.Reached.{AreAllHeld, TellsAmong, names_held, holders_of}
use Rattle.bundle_link_index.proofs.ReachLemmas.{Among-none, Holder-tells, held_some, held_none}
use Rattle.bundle_link_index.proofs.by_name.LinksByName.holder.Goals as goal

pub returns-in-Some : goal.returns-in-Some
returns-in-Some c =
    let held = names_held c.self.inside.holders in
    let keys = c.args.reach.now.keys in
    let there = sym c.get.ensures.value ∙ ap option_copied c.in-Some.is in
    let same : c.as_slice.result.now ≡ holders_of held c.args.name = c.as_slice.ensures.value ∙ sym (held_some c.self.inside.holders.entries c.args.name c.in-Some.holders.now there) in
    Holder-tells c.args.self.now held keys c.args.name c.reached_among.result (subst (λ (g : Graph). AreAllHeld g held) c.self.view_is c.self.invariant) (subst (λ l. TellsAmong l keys c.reached_among.result) same c.reached_among.ensures)

pub returns-in-None : goal.returns-in-None
returns-in-None c =
    let held = names_held c.self.inside.holders in
    let keys = c.args.reach.now.keys in
    Holder-tells c.args.self.now held keys c.args.name Missing (subst (λ (g : Graph). AreAllHeld g held) c.self.view_is c.self.invariant) (subst (λ l. TellsAmong l keys Missing) (sym (held_none c.self.inside.holders.entries c.args.name (sym c.in-None.ensures.value))) (Among-none keys))
