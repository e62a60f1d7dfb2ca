-- The line, and the place, if there is one.
use Rattle.std.proofs.Common.{refl}
use Rattle.gutsirava_report.proofs.ResultLemmas.{OnOk-map}
use Rattle.gutsirava_report.proofs.message.push_headed.Goals as goal

pub returns-in-Some : goal.returns-in-Some
returns-in-Some c = rw c.in-Some.is (OnOk-map c.push_place.result
    (λ added. record { headed = c.push_head.new.sheet; head = c.in_ok-push_head.ensures; place_is = added })
    c.push_place.ensures)

pub returns-in-None : goal.returns-in-None
returns-in-None c = rw c.in-None.is
    (record { headed = c.push_head.new.sheet; head = c.in_ok-push_head.ensures; place_is = refl })
