use Rattle.std.proofs.Common.{refl, map, string_bytes}
use Rattle.gutsirava_run.specs.Delivery.{stored_file}
use Rattle.gutsirava_run.proofs.MapLemmas.{pushed_inline, pushed_linked}
use Rattle.gutsirava_run.proofs.delivery.push_mapped.Goals as goal

pub returns-in_ok-push-in-Inline : goal.returns-in_ok-push-in-Inline
returns-in_ok-push-in-Inline c =
    pushed_inline c.args.source_map (string_bytes c.args.path) (string_bytes c.args.text) (string_bytes c.args.map_text) c.as_str.result.now
    c.args.files.now.items c.push-in-Inline.new.self.items (record { path = c.args.path; text = c.in_ok-text-in-Inline.text })
    c.in-Inline.is c.in_ok-push-in-Inline.ensures.items refl c.in_ok-text-in-Inline.ensures c.as_str.ensures.value

pub returns-in_ok-push_beside-in-Linked : goal.returns-in_ok-push_beside-in-Linked
returns-in_ok-push_beside-in-Linked c =
    pushed_linked c.args.source_map (string_bytes c.args.path) (string_bytes c.args.text) (string_bytes c.args.map_text) c.as_str-in-Linked.result.now
    (string_bytes c.in_ok-text-in-Linked.text) (map stored_file c.args.files.now.items) (map stored_file c.push_beside.new.files.items)
    c.in-Linked.is c.in_ok-push_beside-in-Linked.ensures c.in_ok-text-in-Linked.ensures c.as_str-in-Linked.ensures.value
