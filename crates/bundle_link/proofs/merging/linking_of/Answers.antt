use Rattle.std.proofs.Common.{◌≡◌, ℕ, Bool, List, length, ap, sym, ◌∙◌, subst, arith}
use Rattle.std.proofs.lemmas.Result.{IfOk-weaker}
use Rattle.bundle_rules.specs.Program.{Program}
use Rattle.bundle_link_index.specs.Programs.{IsLinkProgram}
use Rattle.bundle_link_index.specs.declared.target.LinkModule.{LinkModule}
use Rattle.bundle_link_targets.specs.Linked.{HandsOver, IsJudgedBy}
use Rattle.bundle_link.specs.Judged.{numbers_below}
use Rattle.bundle_link.proofs.merging.linking_of.Goals as goal

-- what is handed on is what was handed in
handed : (q : Program) (modules : List LinkModule) (listed list : List ℕ) (entry at : ℕ) (require asked : Bool) → list ≡ listed → at ≡ entry → asked ≡ require → IsLinkProgram q modules listed entry require → IsLinkProgram q modules list at asked
handed q modules listed list entry at require asked same_list same_entry same w =
    subst (λ (l : List ℕ). IsLinkProgram q modules l at asked) (sym same_list)
    (subst (λ (m : ℕ). IsLinkProgram q modules listed m asked) (sym same_entry) (subst (λ (b : Bool). IsLinkProgram q modules listed entry b) (sym same) w))

pub returns-clause-linked : goal.returns-clause-linked
returns-clause-linked c =
    let modules = c.args.modules.now in
    let n = length modules in
    let at : c.loop-place.place ≡ n = omega arith in
    let list = c.deref.ensures.value ∙ (c.loop-place.invariant ∙ ap numbers_below at) in
    IfOk-weaker c.new.result _ _
    (λ linking is q w. is q (handed q modules _ _ _ _ _ _ list c.saturating_sub-entry.ensures c.setting_of.ensures.require w))
    c.new.ensures.linked

pub returns-clause-judged : goal.returns-clause-judged
returns-clause-judged c =
    let modules = c.args.modules.now in
    let n = length modules in
    let at : c.loop-place.place ≡ n = omega arith in
    let list = c.deref.ensures.value ∙ (c.loop-place.invariant ∙ ap numbers_below at) in
    IfOk-weaker c.new.result _ _
    (λ linking is q w iife. subst (λ (l : List ℕ). IsJudgedBy q l linking) list (is q (handed q modules _ _ _ _ _ _ list c.saturating_sub-entry.ensures c.setting_of.ensures.require w) (iife ∙ sym c.setting_of.ensures.iife)))
    c.new.ensures.judged

pub returns-clause-handed : goal.returns-clause-handed
returns-clause-handed c =
    let modules = c.args.modules.now in
    let n = length modules in
    let at : c.loop-place.place ≡ n = omega arith in
    let list = c.deref.ensures.value ∙ (c.loop-place.invariant ∙ ap numbers_below at) in
    IfOk-weaker c.new.result _ _
    (λ linking is q w. subst (λ (l : List ℕ). HandsOver q l linking) list (is q (handed q modules _ _ _ _ _ _ list c.saturating_sub-entry.ensures c.setting_of.ensures.require w)))
    c.new.ensures.handed
