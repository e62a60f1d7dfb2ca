-- What is put in is the form.
use Rattle.std.proofs.Common.{◌+◌, ◌∷◌, ◌++◌, string_bytes, sym, ap, ◌∙◌, arith}
use Rattle.bundle_syntax.specs.Item.{head_of, item_of}
use Rattle.bundle_json_form.specs.Texts.{from}
use Rattle.bundle_json_form.proofs.Growth.{on_ok}
use Rattle.bundle_json_form.proofs.Pieces.{list_is, node_first, one_member, passed, piece_at, put_one}
use Rattle.bundle_json_form.proofs.Places.{next_member}
use Rattle.bundle_json_form.proofs.text.+push.Goals as goal
use Rattle.bundle_json_form.proofs.text.+push.Goals.{push_list-then-field-number+in_ok-push_comma+in_ok-push_first, push_list-else-field-number}

pub push_first-returns-in-Open : goal.push_first-returns-in-Open
push_first-returns-in-Open t c =
    let begins = piece_at c.args.pieces.now c.args.at c.index-pieces-at.result (omega arith) c.index-pieces-at.is in
    let inside = from (c.args.at + 1) c.args.pieces.now in
    on_ok c.push_object.result (node_first _ inside c.in-Open.field (head_of c.in-Open.node) _ _ (begins ∙ ap (λ it. item_of it ∷ inside) c.in-Open.is)) c.push_object.ensures

pub push_list-children-preserved : goal.push_list-children-preserved
push_list-children-preserved t c = record {
  lists = elim c.if-field-number.branch [
    | push_list-then-field-number+in_ok-push_comma+in_ok-push_first w ↦
        rw (w.out-is, w.is_later-is) (put_one _ c.in-Some.field _ _ _ _ _ _ _ c.children.is_later w.if-field-number.true c.in-Some.ensures.field w.in_ok-push_comma.ensures w.in_ok-push_first.ensures c.after_first-child.ensures.rest c.children.invariant.lists)
    | push_list-else-field-number w ↦
        rw (w.out-is, w.is_later-is) (passed _ c.in-Some.field _ _ _ _ _ c.children.is_later w.if-field-number.false c.in-Some.ensures.field c.after_first-child.ensures.rest c.children.invariant.lists)
  ];
  later = omega arith;
}

pub push_list-returns : goal.push_list-returns
push_list-returns t c =
    let opened = c.in_ok-push.ensures.bytes ∙ ap (λ l. string_bytes c.args.out.now ++ l) (c.in_ok-push.ensures.ascii (omega arith)) in
    let closed = c.in_ok-push-2.ensures.bytes ∙ ap (λ l. string_bytes c.children.out ++ l) (c.in_ok-push-2.ensures.ascii (omega arith)) in
    list_is _ _ _ _ _ _ _ c.children.is_later opened c.children.invariant.lists (sym c.in_default.is ∙ c.field_at.ensures.field) closed

pub push_object-loop-member-preserved : goal.push_object-loop-member-preserved
push_object-loop-member-preserved t c =
    let next = next_member c.deref-member-items.result.now c.loop-member.member-index _ (omega arith) in
    one_member _ _ _ _ _ _ _ _ c.loop-member.is_later _ c.loop-member.invariant next c.in_ok-push_key.ensures c.in_ok-push_content.ensures
