use Rattle.std.proofs.Common.{refl}
use Rattle.bundle_json_form.proofs.Unique.{one_more_child}
use Rattle.bundle_json_form.proofs.write.add.Goals as goal

pub returns-in_ok-push : goal.returns-in_ok-push
returns-in_ok-push c = one_more_child _ _ _ _ _ _ _ c.in-Some.ensures.items c.in_ok-push.ensures.items refl refl c.in_ok-push_back.ensures.items
