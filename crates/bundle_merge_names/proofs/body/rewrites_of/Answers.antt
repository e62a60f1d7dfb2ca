-- Each name that is gone over gets its step.
use Rattle.std.proofs.Common.{◌≡◌, ◌<◌, ◌+◌, ℕ, List, Option, Some, length, map, get_or, sym, ap, ◌∙◌, arith}
use Rattle.std.specs.Prelude.{slice_get}
use Rattle.std.proofs.lemmas.Option.{slice_get-get_or}
use Rattle.bundle_syntax.specs.Item.{Item, item_of}
use Rattle.bundle_scope_denote.specs.declared.table.Denoted.{Denoted}
use Rattle.bundle_scope_denote.specs.declared.table.Denotations.{Denotations}
use Rattle.bundle_link_tables.specs.declared.table.RequireCall.{RequireCall}
use Rattle.bundle_link_tables.specs.declared.table.Use.{Use}
use Rattle.bundle_tree_rebuild.specs.declared.rewrite.Rewrite.{Rewrite}
use Rattle.bundle_merge_names.specs.Body.{is_call_at, is_use_at, past_by}
use Rattle.bundle_merge_names.specs.Bundle.{list_of_part}
use Rattle.bundle_merge_names.specs.Own.{IsOwnName, rewrite_told, own_told}
use Rattle.bundle_merge_names.proofs.ScopeLemmas.{walked-first, walked-next, walked-all}
use Rattle.bundle_merge_names.proofs.body.rewrites_of.Goals as goal

-- the entry that is gone over stands in the table
at-index : (entries lent : List Denoted) (i : ℕ) (other : Denoted) → lent ≡ entries → i < length lent → slice_get entries i ≡ Some (get_or lent i other)
at-index entries lent i other same within = ap (λ l. slice_get l i) (sym same) ∙ slice_get-get_or lent i other within

uses-behind : (uses found : List Use) (place number result : ℕ) → found ≡ uses → result ≡ past_by (is_use_at place (slice_get found number)) number → result ≡ past_by (is_use_at place (slice_get uses number)) number
uses-behind uses found place number result same is = is ∙ ap (λ l. past_by (is_use_at place (slice_get l number)) number) same

calls-behind : (calls found : List RequireCall) (place number result : ℕ) → found ≡ calls → result ≡ past_by (is_call_at place (slice_get found number)) number → result ≡ past_by (is_call_at place (slice_get calls number)) number
calls-behind calls found place number result same is = is ∙ ap (λ l. past_by (is_call_at place (slice_get l number)) number) same

own-with : (items list : List Item) (table : Denotations) (scopes its : List (Option ℕ)) (entry : Denoted) (own : Rewrite) → items ≡ list → scopes ≡ its → IsOwnName items table scopes entry own → rewrite_told own ≡ own_told list table its entry
own-with items list table scopes its entry own listed same is =
    is.its ∙ ap (λ l. own_told items table l entry) same ∙ ap (λ l. own_told l table its entry) listed

pub loop-occurrence-init : goal.loop-occurrence-init
loop-occurrence-init c = walked-first c.args.part.now c.args.which c.args.linking.now c.args.names.now c.new-rewrites.result.items c.new-rewrites.ensures.items

pub loop-occurrence-preserved : goal.loop-occurrence-preserved
loop-occurrence-preserved c =
    walked-next c.args.part.now c.args.which c.args.linking.now c.args.names.now c.loop-occurrence.rewrites.items c.push.new.self.items
    c.loop-occurrence.uses c.loop-occurrence.calls c.uses_past-uses.result c.calls_past-calls.result c.loop-occurrence.occurrence-index (c.loop-occurrence.occurrence-index + 1)
    (get_or c.deref-occurrence-items.result.now c.loop-occurrence.occurrence-index _) c.own_of-own.result c.rewrite_of.result
    (at-index c.args.part.now.denotations.now.occurrences.items c.deref-occurrence-items.result.now c.loop-occurrence.occurrence-index _ c.deref-occurrence-items.ensures.value c.loop-occurrence-test.true)
    (own-with (map item_of c.args.pieces.now) (list_of_part c.args.part.now) c.args.part.now.denotations.now c.scopes-scopes.result.now _ _ c.own_of-own.result c.requires
    c.scopes-scopes.ensures c.own_of-own.ensures)
    c.rewrite_of.ensures
    c.in_ok-push.ensures.items
    (uses-behind c.args.part.now.tables.now.uses.items c.deref.result.now _ c.loop-occurrence.uses c.uses_past-uses.result c.deref.ensures.value c.uses_past-uses.ensures)
    (calls-behind c.args.part.now.tables.now.calls.items c.deref-in-loop-occurrence.result.now _ c.loop-occurrence.calls c.calls_past-calls.result c.deref-in-loop-occurrence.ensures.value c.calls_past-calls.ensures)
    (omega arith)
    c.loop-occurrence.invariant

pub returns : goal.returns
returns c = walked-all c.args.part.now c.args.which c.args.linking.now c.args.names.now c.loop-occurrence.rewrites.items c.loop-occurrence.uses c.loop-occurrence.calls c.loop-occurrence.occurrence-index (let same = ap length c.deref-occurrence-items.ensures.value in omega (arith, same, c.loop-occurrence-test.false)) c.loop-occurrence.invariant
