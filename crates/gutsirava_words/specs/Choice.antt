-- The words of options that are one of a few.
use Rattle.std.specs.Prelude.{ℕ, List, codes}
use Rattle.gutsirava_words.specs.declared.choice.FormatKind.{FormatKind}
use Rattle.gutsirava_words.specs.declared.choice.FormatKind.TheVariants.{Esm, Iife}
use Rattle.gutsirava_words.specs.declared.choice.Platform.{Platform}
use Rattle.gutsirava_words.specs.declared.choice.Platform.TheVariants.{Node, Browser}
use Rattle.gutsirava_words.specs.declared.choice.Order.{Order}
use Rattle.gutsirava_words.specs.declared.choice.Order.TheVariants.{Standard, Needs}
use Rattle.gutsirava_words.specs.declared.choice.CharsetSetting.{CharsetSetting}
use Rattle.gutsirava_words.specs.declared.choice.CharsetSetting.TheVariants.{Ascii, Utf8}
use Rattle.gutsirava_words.specs.declared.choice.LegalComments.{LegalComments}
use Rattle.gutsirava_words.specs.declared.choice.LegalComments.TheVariants as comments
use Rattle.gutsirava_words.specs.declared.choice.SourceMap.{SourceMap}
use Rattle.gutsirava_words.specs.declared.choice.SourceMap.TheVariants as maps
use Rattle.gutsirava_words.specs.declared.choice.SourcesContent.{SourcesContent}
use Rattle.gutsirava_words.specs.declared.choice.SourcesContent.TheVariants.{Kept, Dropped}
use Rattle.gutsirava_words.specs.declared.choice.Switch.{Switch}
use Rattle.gutsirava_words.specs.declared.choice.Switch.TheVariants.{Off, On}
use Rattle.gutsirava_words.specs.declared.choice.LogLevel.{LogLevel}
use Rattle.gutsirava_words.specs.declared.choice.LogLevel.TheVariants.{Info, Warning, Error, Silent}
use Rattle.gutsirava_words.specs.declared.choice.Color.{Color}
use Rattle.gutsirava_words.specs.declared.choice.Color.TheVariants.{Auto, Always, Never}

-- the word of a format
abbrev pub format_text : FormatKind → List ℕ
format_text Esm = codes "esm"
format_text Iife = codes "iife"

-- the word of a platform
abbrev pub platform_text : Platform → List ℕ
platform_text Node = codes "node"
platform_text Browser = codes "browser"

-- the word of an order
abbrev pub order_text : Order → List ℕ
order_text Standard = codes "standard"
order_text Needs = codes "needs"

-- the word of a set of characters
abbrev pub charset_text : CharsetSetting → List ℕ
charset_text Ascii = codes "ascii"
charset_text Utf8 = codes "utf8"

-- the word of what becomes of legal comments
abbrev pub legal_comments_text : LegalComments → List ℕ
legal_comments_text comments.Inline = codes "inline"
legal_comments_text comments.None = codes "none"

-- the word of a switch
abbrev pub switch_text : Switch → List ℕ
switch_text Off = codes "false"
switch_text On = codes "true"

-- the word of a level
abbrev pub log_level_text : LogLevel → List ℕ
log_level_text Info = codes "info"
log_level_text Warning = codes "warning"
log_level_text Error = codes "error"
log_level_text Silent = codes "silent"

-- the word of a choice of colours
abbrev pub color_text : Color → List ℕ
color_text Auto = codes "auto"
color_text Always = codes "always"
color_text Never = codes "never"

-- the word of what source map is written
abbrev pub source_map_text : SourceMap → List ℕ
source_map_text maps.None = codes "none"
source_map_text maps.Linked = codes "linked"
source_map_text maps.Inline = codes "inline"
source_map_text maps.External = codes "external"

-- the word of whether a source map holds texts
abbrev pub sources_content_text : SourcesContent → List ℕ
sources_content_text Kept = codes "true"
sources_content_text Dropped = codes "false"
