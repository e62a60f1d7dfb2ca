-- One stage more is done, and those behind it are as they were.
use Rattle.std.proofs.Common.{◌<◌, ◌≤◌, All, map, length, refl, subst, sym, arith}
use Rattle.std.proofs.lemmas.List.{length-map, take_all}
use Rattle.gutsirava_files.specs.Outputs.{IsWrittenTo}
use Rattle.gutsirava_files.specs.Stages.{wanted_by, IsSent}
use Rattle.gutsirava_files.proofs.Putting.{done_more, has_there, rest_more}
use Rattle.gutsirava_files.proofs.outputs.Writer.put_all.Goals as goal

pub loop-at-preserved : goal.loop-at-preserved
loop-at-preserved g c =
    let written = IsWrittenTo g.D.Disk.leads g.D.Disk.has_device g.D.Disk.is_written in
    let sent = IsSent {disk = g.D.Disk} g.D.Disk.is_written in
    let wanted = wanted_by {disk = g.D.Disk} in
    let stages = c.loop-at.stage-items in
    let first = c.deref_mut-stage-items.result.now in
    let at = c.loop-at.at in
    let stage = c.stage-item.result in
    let within : at < length stages = omega arith in
    let same = c.loop-at.invariant.rest in
    let all = subst (λ it. All sent it) (sym c.deref_mut-stage-items.ensures.value) c.requires in
    let there = c.in_default.ensures (has_there sent stages first at stage within same all) in
    let here = subst (λ it. written (wanted it)) (sym c.stage-item.is) there in
    record {
      done = done_more written wanted stages first at stage within c.stage-item.is same here c.loop-at.invariant.done;
      rest = rest_more stages first _ at stage c.put.new.self within refl same;
    }

pub returns : goal.returns
returns g c =
    let written = IsWrittenTo g.D.Disk.leads g.D.Disk.has_device g.D.Disk.is_written in
    let wanted = wanted_by {disk = g.D.Disk} in
    let first = c.deref_mut-stage-items.result.now in
    let end : length (map wanted first) ≤ c.loop-at.at = simp length-map c.loop-at-test.false in
    subst (λ it. All written (map wanted it)) c.deref_mut-stage-items.ensures.value
    (subst (λ it. All written it) (take_all c.loop-at.at (map wanted first) end) c.loop-at.invariant.done)
