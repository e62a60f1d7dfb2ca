use Rattle.std.proofs.Common.{Bool, not, ◌==◌, ◌&&◌, ◌||◌, ◌++◌, ◌∷◌, [], ap, ◌∙◌, take}
use Rattle.std.proofs.lemmas.List.{take_all}
use Rattle.bundle_link_index.specs.Handed.{is_kind, modules_numbered}
use Rattle.bundle_link_index.proofs.ProgramLemmas.{numbered_more}
use Rattle.bundle_link_index.proofs.kinds.kinds_of.Goals as goal

pub loop-number-preserved : goal.loop-number-preserved
loop-number-preserved c = λ those known.
    let n = c.loop-number.number-counter in
    let its = c.index-modules-number.result in
    let test = λ (required : Bool). c.args.require && (not (n == c.args.entry) && (its.tables.now.is_script && (its.tables.now.names_common_js || required))) in
    c.in_ok-push.ensures.items
    ∙ ap (λ l. l ++ c.is_common_js.result ∷ []) (c.loop-number.invariant those known)
    ∙ ap (λ b. modules_numbered (is_kind c.args.require c.args.entry those) 0 (take n c.args.modules.now) ++ b ∷ []) (c.is_common_js.ensures ∙ ap test (c.contains-is_required.ensures ∙ known n))
    ∙ numbered_more (is_kind c.args.require c.args.entry those) c.args.modules.now n its c.index-modules-number.is c.loop-number-test.true

pub returns : goal.returns
returns c = λ those known.
    c.loop-number.invariant those known ∙ ap (modules_numbered (is_kind c.args.require c.args.entry those) 0) (take_all c.loop-number.number-counter c.args.modules.now c.loop-number-test.false)
