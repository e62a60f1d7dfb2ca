-- Outputs on their way.
use Rattle.std.specs.Prelude.{◌≡◌, ℕ, Bool, true, List}
use Rattle.gutsirava_files.specs.declared.disk.Disk.{Ghosts}
use Rattle.gutsirava_files.specs.declared.outputs.FileOutput.{FileOutput}
use Rattle.gutsirava_files.specs.declared.stage.OutputStage.{OutputStage}
use Rattle.gutsirava_files.specs.declared.stage.OutputStage.TheVariants.{File, Device}

-- a path, and the bytes that are to stand there
abbrev pub wanted_of : FileOutput → List ℕ × List ℕ
wanted_of output = (output.path.now, output.bytes.now)

-- those of an output on its way
abbrev pub wanted_by : {D : Type 0} {disk : Ghosts D} → OutputStage D disk → List ℕ × List ℕ
wanted_by (File staged) = wanted_of staged.output
wanted_by (Device device) = wanted_of device.output

-- a device has its bytes
abbrev pub IsSent : {D : Type 0} {disk : Ghosts D} → (List ℕ → List ℕ → Bool)
    → OutputStage D disk → Type 0
IsSent is_written (File staged) = Unit {0}
IsSent is_written (Device device) =
    is_written device.output.path.now device.output.bytes.now ≡ true
