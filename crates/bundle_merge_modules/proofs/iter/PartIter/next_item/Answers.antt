use Rattle.std.proofs.Common.{◌++◌, List, ap, sym, ◌∙◌}
use Rattle.std.specs.Prelude.{map}
use Rattle.std.proofs.lemmas.List.{nil_from_length}
use Rattle.bundle_merge_modules.specs.Calls.{group_items}
use Rattle.bundle_merge_modules.specs.Groups.{owned}
use Rattle.bundle_merge_modules.proofs.PourLemmas.{rest-none}
use Rattle.bundle_merge_modules.proofs.iter.PartIter.next_item.Goals as goal

pub returns-in-Some : goal.returns-in-Some
returns-in-Some g c =
    sym c.settle.ensures.same ∙ ap (λ (l : List _). map (λ item. (c.settle.new.self.id, item)) l ++ owned (map group_items c.settle.new.self.groups)) c.in-Some.ensures.cases.0

pub returns-in-None : goal.returns-in-None
returns-in-None g c =
    let none = nil_from_length c.settle.new.self.items.now c.in-None.ensures.cases in
    let done = rest-none c.settle.new.self none (c.settle.ensures.settled none) in
    (sym c.settle.ensures.same ∙ done, done)
