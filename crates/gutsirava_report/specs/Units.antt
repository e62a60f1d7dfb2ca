-- Units of bytes.
use Rattle.std.specs.Prelude.{ℕ}
use Rattle.gutsirava_report.specs.declared.units.Unit.{Unit}
use Rattle.gutsirava_report.specs.declared.units.Unit.TheVariants.{Byte, Kilobyte, Megabyte, Gigabyte}

-- how many bytes a tenth of the unit has, of a unit that has tenths
abbrev pub tenth_of : Unit → ℕ
tenth_of Byte = 1
tenth_of Kilobyte = 100
tenth_of Megabyte = 100000
tenth_of Gigabyte = 100000000
