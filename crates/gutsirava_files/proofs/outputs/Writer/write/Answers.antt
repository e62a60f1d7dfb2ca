-- What the stages want is what outputs want.
use Rattle.std.proofs.Common.{List, ℕ, All, OnOk, subst}
use Rattle.gutsirava_files.specs.Outputs.{IsWrittenTo}
use Rattle.gutsirava_files.proofs.outputs.Writer.write.Goals as goal

pub returns : goal.returns
returns g c =
    let written = IsWrittenTo g.D.Disk.leads g.D.Disk.has_device g.D.Disk.is_written in
    subst (λ (it : List (List ℕ × List ℕ)). OnOk c.put_all.result (All written it)) c.in_ok-stage_all.ensures c.put_all.ensures
