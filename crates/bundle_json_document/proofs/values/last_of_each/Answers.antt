use Rattle.std.proofs.Common.{◌≡◌, take, refl, ap, ◌∙◌, arith}
use Rattle.std.proofs.lemmas.List.{take_all}
use Rattle.json.specs.Value.{members_view}
use Rattle.serde_json.specs.Data.{no_members}
use Rattle.bundle_json_form.specs.Plain.{plain_members}
use Rattle.bundle_json_document.specs.Seen.{last_members}
use Rattle.bundle_json_document.proofs.Maps.{last_turn}
use Rattle.bundle_json_document.proofs.values.last_of_each.Goals as goal

pub loop-member-init : goal.loop-member-init
loop-member-init c = ap last_members c.new-members.ensures.empty

pub loop-member-preserved : goal.loop-member-preserved
loop-member-preserved c =
    let l = c.loop-member in
    last_turn c.args.all.now l.member-index c.member-item.result l.members.entries c.insert.new.self.entries _ (omega arith) c.member-item.is l.invariant refl c.in_ok-insert.ensures.entries

pub returns-clause-ok : goal.returns-clause-ok
returns-clause-ok c =
    let l = c.loop-member in
    let all : take l.member-index c.args.all.now ≡ c.args.all.now = take_all l.member-index c.args.all.now (omega arith) in
    l.invariant ∙ ap (λ them. plain_members (members_view them) no_members) all
