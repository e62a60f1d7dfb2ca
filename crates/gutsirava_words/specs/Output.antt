-- Where bundles go, and what may be told of them.
use Rattle.std.specs.Prelude.{Bool, true, false, is_none, ◌&&◌}
use Rattle.gutsirava_words.specs.declared.options.Destination.{Destination}
use Rattle.gutsirava_words.specs.declared.options.Destination.TheVariants.{Stdout, File, Folder}
use Rattle.gutsirava_words.specs.declared.options.ViewChoices.{ViewChoices}
use Rattle.gutsirava_words.specs.declared.choice.Order.{Order}
use Rattle.gutsirava_words.specs.declared.choice.Order.TheVariants.{Standard, Needs}
use Rattle.gutsirava_words.specs.declared.choice.SourceMap.{SourceMap}
use Rattle.gutsirava_words.specs.declared.choice.SourceMap.TheVariants as maps
use Rattle.gutsirava_words.specs.declared.choice.Switch.{Switch}
use Rattle.gutsirava_words.specs.declared.choice.Switch.TheVariants.{Off, On}

-- whether it is a folder
abbrev pub is_folder : Destination → Bool
is_folder Stdout = false
is_folder (File path) = false
is_folder (Folder path) = true

-- whether a switch is off
abbrev pub is_off : Switch → Bool
is_off Off = true
is_off On = false

-- whether nothing tells what the parts of bundles are made for: no map, metafile or table
abbrev pub tells_no_parts : SourceMap → ViewChoices → Bool
tells_no_parts maps.None views = is_none views.metafile && is_off views.analyze
tells_no_parts maps.Linked views = false
tells_no_parts maps.Inline views = false
tells_no_parts maps.External views = false

-- whether what is told of the parts of bundles is known: in the order of needs it is not
abbrev pub knows_parts : Order → SourceMap → ViewChoices → Bool
knows_parts Standard map views = true
knows_parts Needs map views = tells_no_parts map views
