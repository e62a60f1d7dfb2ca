-- What a module adds is of it.
use Rattle.std.proofs.Common.{◌≡◌, length, refl, arith}
use Rattle.std.proofs.lemmas.Option.{slice_get_read}
use Rattle.bundle_merge_items.proofs.Behind.{put-module}
use Rattle.bundle_merge_items.proofs.merge.put_module.Goals as goal

pub returns : goal.returns
returns c = λ within.
    let parts = c.args.bundle.now.parts.now in
    let long : c.len.result ≡ length c.add_module.new.items.body.items =
    omega (arith, c.len.ensures, c.add_module.new.items.body.ok.0) in
    put-module c.args.bundle.now c.args.names.now c.args.which c.args.its.now c.add_module.new.items
    c.args.owners.now.items c.note_owner.new.owners.items c.len.result
    (c.in_ok-add_module.ensures
    (slice_get_read parts (length parts) c.args.which c.in-Some.part.now refl within
    c.in-Some.ensures.lookup.1))
    c.in_ok-note_owner.ensures long
