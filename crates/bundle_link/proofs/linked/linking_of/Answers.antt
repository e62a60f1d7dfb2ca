use Rattle.std.proofs.Common.{◌≡◌, ℕ, Bool, List, ap, sym, ◌∙◌, subst}
use Rattle.std.specs.Prelude.{unwrap_or}
use Rattle.std.proofs.lemmas.Result.{IfOk-weaker}
use Rattle.bundle_rules.specs.Program.{Program}
use Rattle.bundle_link_index.specs.Programs.{IsLinkProgram}
use Rattle.bundle_link_index.specs.declared.target.LinkModule.{LinkModule}
use Rattle.bundle_link_targets.specs.Linked.{HandsOver, IsJudgedBy}
use Rattle.bundle_link.specs.Leads.{module_place}
use Rattle.bundle_link.proofs.linked.linking_of.Goals as goal

-- what is handed on is what was handed in
handed : (p : Program) (modules : List LinkModule) (listed list : List ℕ) (entry at : ℕ) (require : Bool) → list ≡ listed → at ≡ entry → IsLinkProgram p modules listed entry require → IsLinkProgram p modules list at require
handed p modules listed list entry at require same_list same w =
    subst (λ (l : List ℕ). IsLinkProgram p modules l at require) (sym same_list) (subst (λ (n : ℕ). IsLinkProgram p modules listed n require) (sym same) w)

pub returns-clause-linked : goal.returns-clause-linked
returns-clause-linked c =
    let ids = c.args.ids.now.keys in
    let places = c.deref.ensures.value ∙ c.in_ok-places.ensures in
    let place = c.unwrap_or-place.ensures ∙ ap (λ o. unwrap_or o c.len.result) c.get_index_of.ensures.index ∙ ap (unwrap_or (module_place ids c.args.entry)) c.len.ensures.len in
    IfOk-weaker c.new.result _ _
    (λ linking is p w. is p (handed p c.args.modules.now _ _ _ _ c.args.setting.require places place w))
    c.new.ensures.linked

pub returns-clause-judged : goal.returns-clause-judged
returns-clause-judged c =
    let ids = c.args.ids.now.keys in
    let places = c.deref.ensures.value ∙ c.in_ok-places.ensures in
    let place = c.unwrap_or-place.ensures ∙ ap (λ o. unwrap_or o c.len.result) c.get_index_of.ensures.index ∙ ap (unwrap_or (module_place ids c.args.entry)) c.len.ensures.len in
    IfOk-weaker c.new.result _ _
    (λ linking is p w iife. subst (λ (l : List ℕ). IsJudgedBy p l linking) places (is p (handed p c.args.modules.now _ _ _ _ c.args.setting.require places place w) iife))
    c.new.ensures.judged

pub returns-clause-handed : goal.returns-clause-handed
returns-clause-handed c =
    let ids = c.args.ids.now.keys in
    let places = c.deref.ensures.value ∙ c.in_ok-places.ensures in
    let place = c.unwrap_or-place.ensures ∙ ap (λ o. unwrap_or o c.len.result) c.get_index_of.ensures.index ∙ ap (unwrap_or (module_place ids c.args.entry)) c.len.ensures.len in
    IfOk-weaker c.new.result _ _
    (λ linking is p w. subst (λ (l : List ℕ). HandsOver p l linking) places (is p (handed p c.args.modules.now _ _ _ _ c.args.setting.require places place w)))
    c.new.ensures.handed
