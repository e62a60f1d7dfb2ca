use Rattle.std.proofs.Common.{None, length, subst}
use Rattle.bundle_link_index.specs.Leads.{flagged}
use Rattle.bundle_link.specs.Judged.{TellsDoubled, numbers_below}
use Rattle.bundle_link.proofs.ToldLemmas.{are_modules, by_calls, by_doubled, by_links, by_none}
use Rattle.bundle_link.proofs.judging.first_fault.Goals as goal

pub returns-in-Some : goal.returns-in-Some
returns-in-Some c = λ q readable are w judged.
    let n = length c.args.notes.now in
    by_calls q n c.call_fault.result None (c.call_fault.ensures q (numbers_below n) judged) c.in-Some.fault c.in-Some.is

pub returns-in-Some-doubled_in : goal.returns-in-Some-doubled_in
returns-in-Some-doubled_in c = λ q readable are w judged.
    let n = length c.args.notes.now in
    by_doubled q n c.call_fault.result None (c.call_fault.ensures q (numbers_below n) judged) c.in_default.is c.in-Some-doubled_in.told (subst (TellsDoubled q n) c.in-Some-doubled_in.is (c.doubled_in.ensures q are w))

pub returns-in-Some-link_fault : goal.returns-in-Some-link_fault
returns-in-Some-link_fault c = λ q readable are w judged.
    let n = length c.args.notes.now in
    let once = subst (TellsDoubled q n) c.in_default-doubled_in.is (c.doubled_in.ensures q are w) in
    let modules = are_modules q n (λ m. flagged c.args.linking.now.common_js.items m) w.common_js readable once in
    by_links q n c.call_fault.result c.link_fault.result (c.call_fault.ensures q (numbers_below n) judged) c.in_default.is c.in-Some-link_fault.fault c.in-Some-link_fault.is once (c.link_fault.ensures q (numbers_below n) judged modules)

pub returns-in-None : goal.returns-in-None
returns-in-None c = λ q readable are w judged.
    let n = length c.args.notes.now in
    let once = subst (TellsDoubled q n) c.in_default-doubled_in.is (c.doubled_in.ensures q are w) in
    let modules = are_modules q n (λ m. flagged c.args.linking.now.common_js.items m) w.common_js readable once in
    by_none q n c.call_fault.result c.link_fault.result (c.call_fault.ensures q (numbers_below n) judged) c.in_default.is c.in-None.is once (c.link_fault.ensures q (numbers_below n) judged modules)
