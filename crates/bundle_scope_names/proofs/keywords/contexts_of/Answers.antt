-- One more binding has its context.
use Rattle.std.proofs.Common.{ℕ, Bool, Option, List, Result, Ok, Err, IfOk, map, string_bytes, ap₂, sym, subst, arith}
use Rattle.std.specs.Option.{option_map}
use Rattle.std.proofs.lemmas.List.{length-map}
use Rattle.std.specs.Prelude.{Vec}
use Rattle.std.specs.declared.alloc.Global.{Global}
use Rattle.bundle_syntax.specs.Item.{Item, item_of}
use Rattle.bundle_rules.specs.Nodes.{Text}
use Rattle.bundle_scope_names.specs.Called.{at}
use Rattle.bundle_scope_names.specs.Fresh.{AnswersCollision, collides, ctxt_of}
use Rattle.bundle_scope_names.proofs.HomesLemmas.{contexts-more, contexts-last, contexts-none, mangled_at}
use Rattle.bundle_scope_names.proofs.keywords.contexts_of.Goals as goal

both-ok : {T E : Type 0} (P Q R : T → Type 0) → ((x : T) → P x → Q x → R x) → (r : Result T E) → IfOk r P → IfOk r Q → IfOk r R
both-ok P Q R f (Ok x) p q = f x p q
both-ok P Q R f (Err e) p q = p

pub returns-then-not-has_text : goal.returns-then-not-has_text
returns-then-not-has_text c = both-ok _ _ _ (λ (contexts : Vec (Option ℕ) Global) len none. contexts-none string_bytes (map item_of c.args.pieces.now) c.args.bindings.now c.args.texts.now contexts.items (sym c.if-not-has_text.ensures) len none) c.none_of.result c.none_of.ensures.len c.none_of.ensures.none

pub context_for-requires : goal.context_for-requires
context_for-requires c = mangled_at (map (option_map string_bytes) c.args.texts.now) c.text_at.result c.loop-number.number c.requires c.text_at.ensures

pub loop-number-preserved : goal.loop-number-preserved
loop-number-preserved c =
    let items : List Item = map item_of c.args.pieces.now in
    let texts : List (Option Text) = map (option_map string_bytes) c.args.texts.now in
    let answers : AnswersCollision (collides items (at texts c.loop-number.number) (ctxt_of c.args.bindings.now c.loop-number.number)) c.loop-number.taken c.context_for.new.self c.in_ok-context.context =
    subst (λ (b : Bool). AnswersCollision b c.loop-number.taken c.context_for.new.self c.in_ok-context.context) (ap₂ (collides items) c.text_at.ensures c.ctxt_at.ensures) (c.in_ok-context.ensures items c.loop-number.invariant.knows) in
    contexts-more items c.args.bindings.now texts c.loop-number.number c.loop-number.contexts.items c.push.new.self.items c.in_ok-context.context c.loop-number.taken c.context_for.new.self c.in_ok-push.ensures.items answers c.loop-number.invariant

pub returns : goal.returns
returns c = contexts-last (map item_of c.args.pieces.now) c.args.bindings.now (map (option_map string_bytes) c.args.texts.now) c.loop-number.number c.loop-number.contexts.items c.loop-number.taken (let same = length-map c.args.texts.now (option_map string_bytes) in omega arith) c.loop-number.invariant
