use Rattle.std.proofs.Common.{◌≡◌, ℕ, List, Option, Result, length, sym, ◌∙◌, subst}
use Rattle.bundle_link_index.specs.Programs.{IsLinkProgram}
use Rattle.bundle_link_index.specs.Leads.{flagged}
use Rattle.bundle_link_targets.specs.Linked.{HandsOver, IsJudgedBy}
use Rattle.bundle_link_targets.specs.declared.linking.Linking.{Linking}
use Rattle.bundle_link.specs.Judged.{IsJudgedAs, AreTreesReadable, TellsFirstFault, numbers_below}
use Rattle.bundle_link.specs.declared.judging.ModuleFault.{ModuleFault}
use Rattle.bundle_link.proofs.ToldLemmas.{are_modules, none_doubled}
use Rattle.bundle_link.proofs.judging.judged.Goals as goal
use Rattle.bundle_link.proofs.judging.judged.Goals.{in-Some, in-None}

pub returns : goal.returns
returns c = λ q w.
    let modules = c.args.modules.now in
    let n = length modules in
    let require = c.args.setting.require in
    let linking = c.in_ok-linking.linking in
    let list_is : c.deref.result.now ≡ numbers_below n = c.deref.ensures.value ∙ c.in_ok-list.ensures in
    let at_entry = subst (λ (entry : ℕ). IsLinkProgram q modules (numbers_below n) entry require) (sym c.saturating_sub-entry.ensures) w.program in
    let handed = subst (λ (list : List ℕ). IsLinkProgram q modules list c.saturating_sub-entry.result require) (sym list_is) at_entry in
    let linked = c.in_ok-linking.ensures.linked q handed in
    let by_list = subst (λ (list : List ℕ). IsJudgedBy q list linking) list_is (c.in_ok-linking.ensures.judged q handed w.iife) in
    let by_notes = subst (λ (k : ℕ). IsJudgedBy q (numbers_below k) linking) (sym w.long) by_list in
    let first = c.first_fault-fault.ensures q (subst (AreTreesReadable q) (sym w.long) w.readable) w.noted linked by_notes in
    let told : TellsFirstFault q n c.first_fault-fault.result = subst (λ (k : ℕ). TellsFirstFault q k c.first_fault-fault.result) w.long first in
    let over = subst (λ (list : List ℕ). HandsOver q list linking) list_is (c.in_ok-linking.ensures.handed q handed) in
    elim c.match-fault.branch [
      | in-Some b ↦ subst (λ (r : Result Linking ModuleFault). IsJudgedAs q n r) (sym b.result-is) (subst (λ (o : Option ModuleFault). TellsFirstFault q n o) b.in-Some.is told)
      | in-None b ↦ (
          let none = subst (λ (o : Option ModuleFault). TellsFirstFault q n o) b.in-None.is told in
          let are = are_modules q n (λ m. flagged linking.common_js.items m) linked.common_js w.readable (none_doubled q n none) in
          subst (λ (r : Result Linking ModuleFault). IsJudgedAs q n r) (sym b.result-is)
          (record { faultless = none; modules = are; linked = linked; handed = over }))
    ]
