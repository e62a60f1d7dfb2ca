use Rattle.std.proofs.Common.{Some, ap, sym, ◌∙◌}
use Rattle.std.specs.Option.{option_copied}
use Rattle.bundle_merge_modules.proofs.AnswerLemmas.{counted, uncounted}
use Rattle.bundle_merge_modules.proofs.part.ModuleItems.count_of.Goals as goal

pub returns-in-Some : goal.returns-in-Some
returns-in-Some g c =
    let there = sym c.get.ensures.value ∙ ap option_copied c.in-Some.is in
    ap Some (c.len.ensures ∙ c.in-Some.items.now.ok.0) ∙ sym (counted c.args.self.now.modules.entries c.args.id c.in-Some.items.now there)

pub returns-in-None : goal.returns-in-None
returns-in-None g c = sym (uncounted c.args.self.now.modules.entries c.args.id (sym c.in-None.ensures.value))
