-- Amounts as people read them.
use Rattle.std.specs.Prelude.{ℕ, ◌/◌, ◌%◌, ◌==◌, ◌++◌, List, codes, if◌then◌else◌}
use Rattle.std.specs.Fmt.{decimal}
use Rattle.gutsirava_report.specs.declared.units.Size.{Size}
use Rattle.gutsirava_report.specs.declared.units.Unit.{Unit}
use Rattle.gutsirava_report.specs.declared.units.Unit.TheVariants.{Byte, Kilobyte, Megabyte, Gigabyte}

-- a number in tenths, and what it counts
abbrev pub tenths_text : ℕ → ℕ → List ℕ → List ℕ
tenths_text whole tenths unit = decimal whole ++ (codes "." ++ (decimal tenths ++ unit))

-- an amount of a unit
abbrev pub unit_text : Unit → ℕ → ℕ → List ℕ
unit_text Byte whole tenths = decimal whole ++ codes " B"
unit_text Kilobyte whole tenths = tenths_text whole tenths (codes " kB")
unit_text Megabyte whole tenths = tenths_text whole tenths (codes " MB")
unit_text Gigabyte whole tenths = tenths_text whole tenths (codes " GB")

-- a number of bytes
abbrev pub size_text : Size → List ℕ
size_text size = unit_text size.unit size.whole size.tenths

-- so many milliseconds: in seconds with tenths, from one second on
abbrev pub time_text : ℕ → List ℕ
time_text milliseconds =
    if milliseconds / 1000 == 0 then decimal milliseconds ++ codes " ms"
    else tenths_text (milliseconds / 1000) (milliseconds % 1000 / 100) (codes " s")
