-- The fault by places is one by numbers.
use Rattle.bundle_link.specs.Alike.{IsModuleAt}
use Rattle.bundle_link.proofs.AlikeLemmas.{flip}
use Rattle.bundle_link.proofs.MeantLemmas.{namespace_meant}
use Rattle.bundle_link.proofs.PlaceLemmas.{modules_on}
use Rattle.bundle_link.proofs.PlacedLemmas.{told_calls, told_links}
use Rattle.bundle_link.proofs.linked.LinkedModules.fault.Goals as goal

pub returns-in-Some : goal.returns-in-Some
returns-in-Some c = λ p w are.
    let ids = c.args.self.now.ids.keys in
    told_calls p w.places ids w.alike (namespace_meant p w.places (IsModuleAt ids) w.alike) (namespace_meant w.places p (λ a b. IsModuleAt ids b a) (flip w.alike)) c.args.self.now.list.items w.listed
    c.call_fault.result c.in-Some.fault c.in-Some.is (c.call_fault.ensures w.places _ w.judged)

pub returns-in-None : goal.returns-in-None
returns-in-None c = λ p w are.
    let ids = c.args.self.now.ids.keys in
    told_links p w.places ids w.alike (namespace_meant p w.places (IsModuleAt ids) w.alike) (namespace_meant w.places p (λ a b. IsModuleAt ids b a) (flip w.alike)) c.args.self.now.list.items w.listed
    c.call_fault.result c.link_fault.result c.in-None.is (c.call_fault.ensures w.places _ w.judged) (c.link_fault.ensures w.places _ w.judged (modules_on p w.places ids w.alike are w.bare))
