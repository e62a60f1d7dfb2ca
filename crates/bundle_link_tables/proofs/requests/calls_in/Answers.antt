-- Where none is linked, none is what is linked.
use Rattle.std.proofs.Common.{◌&&◌, Result, Ok, Err, IfOk, ap, sym, ◌∙◌, map}
use Rattle.std.specs.List.{list_any}
use Rattle.bundle_syntax.specs.Item.{item_of}
use Rattle.bundle_rules.specs.Entries.{is_require_name}
use Rattle.bundle_link_tables.specs.TablesOf.{call_entry_of}
use Rattle.bundle_link_tables.proofs.CallLemmas.{linked_none}
use Rattle.bundle_link_tables.proofs.requests.calls_in.Goals as goal

both-ok : {T F E : Type 0} (P Q : T → Type 0) → ((x : T) → P x → Q x) → (r : Result (Result T F) E) → IfOk r (λ answer. IfOk answer P) → IfOk r (λ answer. IfOk answer Q)
both-ok P Q f (Ok (Ok x)) p = f x p
both-ok P Q f (Ok (Err e)) p = p
both-ok P Q f (Err e) p = p

pub returns-then-not-may_call-clause-calls : goal.returns-then-not-may_call-clause-calls
returns-then-not-may_call-clause-calls c =
    let items = map item_of c.args.pieces.now in
    both-ok _ _ (λ calls none settings same holds.
    ap (map call_entry_of) none
    ∙ linked_none settings items (ap (λ b. b && list_any is_require_name items) same ∙ sym c.if-not-may_call.ensures)) c.no_calls.result c.no_calls.ensures.calls
