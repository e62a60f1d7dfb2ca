-- What an object adds is free.
use Rattle.std.proofs.Common.{◌≡◌, length, sym, ap, ◌∙◌, arith}
use Rattle.bundle_rules.specs.Bundle.{HoldsNamespace}
use Rattle.bundle_merge_theory.specs.planned.Decided.{one_if}
use Rattle.bundle_merge_items.proofs.Behind.{put-object, no-object, object-decided, object-made}
use Rattle.bundle_merge_items.proofs.merge.put_object.Goals as goal

pub returns-then-not-is_object_meant : goal.returns-then-not-is_object_meant
returns-then-not-is_object_meant c =
    let bundle = c.args.bundle.now in
    let names = c.args.names.now in
    let m = c.args.which in
    no-object bundle names m c.args.its.now c.args.owners.now.items
    (λ q list answers context meta count named told.
    ap (λ b. one_if b (HoldsNamespace m))
    (sym (object-decided bundle names m c.is_object_meant.result c.is_object_meant.ensures q list
    answers context meta count named told) ∙ c.if-not-is_object_meant.true))

pub returns : goal.returns
returns c =
    let bundle = c.args.bundle.now in
    let names = c.args.names.now in
    let m = c.args.which in
    let its = c.in_ok-add_object.ensures in
    let long : c.len.result ≡ length c.add_object.new.its.body.items =
    omega (arith, c.len.ensures, c.add_object.new.its.body.ok.0) in
    put-object bundle names m its.0 c.args.its.now c.add_object.new.its c.args.owners.now.items
    c.note_owner.new.owners.items
    (λ q list answers context meta count named told.
    object-made bundle names m its.0 its.1 q list answers context meta count named told
    (sym (object-decided bundle names m c.is_object_meant.result c.is_object_meant.ensures q list
    answers context meta count named told) ∙ c.if-not-is_object_meant.false))
    c.len.result its.2 c.in_ok-note_owner.ensures long
